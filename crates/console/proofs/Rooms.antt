-- Why a buffer has room for one byte more than the limit: one that is full has an input over it, which is refused by its length.
-- Assumes nothing.
use mathlib.Core.Path.{◌≡◌}
use Prim.Native.Nat.{ℕ}
use mathlib.Core.List.{List}
use lib.ListN.{length}
use Rattle.memory.specs.Image.{load_of}
use Rattle.memory.specs.declared.Refusal.TheVariants.{LogTooLong, ImageSize}
use Rattle.device.specs.Calls.{start_of, Accepted}
use Rattle.event_log.specs.Log.{read_of}
use Rattle.event_log.specs.Report.{refusal_line, reported_of, monitor_by, monitor_of}
use Rattle.console.specs.Respond.{image_room, log_room}

pub full_image : (image log : List ℕ) → length image ≡ image_room → monitor_of image log ≡ refusal_line ImageSize 0
unfolding monitor_of monitor_by start_of load_of
full_image image log h = rw h

pub full_log : (image log : List ℕ) → Accepted image → length log ≡ log_room → monitor_of image log ≡ refusal_line LogTooLong 0
unfolding monitor_of monitor_by reported_of read_of
full_log image log a h = rw (a, h)
