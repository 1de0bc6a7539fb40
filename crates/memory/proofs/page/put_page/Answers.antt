-- `put_page`: after i turns the line is that of the first i bytes.
use Rattle.std.proofs.Common.{sym, refl, ◌∙◌, ◌≡◌, ◌%◌, add-one, arith}
use Rattle.memory.specs.Page.{put_of}
use Rattle.memory.proofs.page.put_page.Goals as goal
use Rattle.memory.proofs.page.put_page.Goals.{then-bit_of, else-bit_of}

pub loop-i-init : goal.loop-i-init
unfolding put_of
loop-i-init c = refl

pub loop-i-preserved : goal.loop-i-preserved
unfolding put_of
loop-i-preserved c =
    let i = c.loop-i.i in
    let e : i % 8 ≡ i = omega arith in
    let bit = rw e at c.bit_of.ensures in
    let before = c.loop-i.invariant in
    elim c.if-bit_of.branch [
      | then-bit_of w ↦ rw (add-one, ← before, sym bit ∙ w.if-bit_of.true) w.bytes-is
      | else-bit_of w ↦ rw (add-one, ← before, sym bit ∙ w.if-bit_of.false) w.bytes-is
    ]
