-- `put_page`: after i turns the line is that of the first i bytes.
use Rattle.std.proofs.Common.{◌≡◌}
use Rattle.memory.specs.Page.{put_of}
use Rattle.memory.proofs.page.put_page.Given as goal

abbrev pub invariant-loop-i : goal.invariant-loop-i
invariant-loop-i l = l.bytes ≡ put_of l.mask l.q l.fn.page l.i l.fn.bytes
