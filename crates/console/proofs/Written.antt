-- What `monitor_text` leaves at the front of its buffer is the whole text: it has room for any.
use Rattle.std.proofs.Common.{◌≡◌, ℕ, ◌≤◌, Bool, true, false, cond, List, ◌++◌, Result, Ok, Err, leb, length, take, drop, replicate, refl, ap, ◌∙◌, arith, leb-true}
use Rattle.std.proofs.lemmas.List.{length-replicate}
use lib.Seq.{sets, take-append_seam}
use Rattle.memory.specs.Refusals.{number_of}
use Rattle.memory.specs.declared.Refusal.TheVariants.{NoRoom}
use Rattle.memory.specs.declared.Refused.{Refused}
use Rattle.device.specs.Calls.{start_of}
use Rattle.device.specs.Run.{answers_of}
use Rattle.device.specs.declared.Device.{Device}
use Rattle.event_log.specs.Log.{Read, Events, Stopped, read_of}
use Rattle.event_log.specs.Run.{text_of}
use Rattle.event_log.specs.Report.{refusal_line, reported_of, monitor_by, monitor_of}
use Rattle.event_log.proofs.Texts.{answer_most, front_of}

report_most : (d : Device) (o : Read) → length (reported_of d o) ≤ 65536
unfolding reported_of
report_most d (Events es) = go (leb (length (text_of (answers_of d es))) 65536) refl
  where
    go : (b : Bool) → leb (length (text_of (answers_of d es))) 65536 ≡ b → length (cond b (text_of (answers_of d es)) (refusal_line NoRoom 0)) ≤ 65536
    go true e = leb-true _ _ e
    go false e = omega (arith, answer_most 0 88 (number_of NoRoom))
report_most d (Stopped why n) = omega (arith, answer_most n 88 (number_of why))

by_most : (r : Result Device Refused) (log : List ℕ) → length (monitor_by r log) ≤ 65536
unfolding monitor_by
by_most (Ok d) log = report_most d (read_of log)
by_most (Err e) log = omega (arith, answer_most e.line 88 (number_of e.why))

pub monitor_most : (image log : List ℕ) → length (monitor_of image log) ≤ 65536
unfolding monitor_of
monitor_most image log = by_most (start_of image) log

pub written : (image log text : List ℕ) (size : ℕ) → size ≡ length (monitor_of image log)
    → text ≡ sets (replicate 65536 0) 0 (monitor_of image log) → take size text ≡ monitor_of image log
written image log text size s t =
    let zeros : List ℕ = replicate 65536 0 in
    let all = monitor_of image log in
    let most = monitor_most image log in
    let room : length zeros ≡ 65536 = length-replicate {A = ℕ} 65536 0 in
    let front : sets zeros 0 all ≡ all ++ drop (length all) zeros = front_of all zeros (omega arith) in
    ap (λ n. take n text) s ∙ ap (take (length all)) (t ∙ front) ∙ take-append_seam all (drop (length all) zeros)
