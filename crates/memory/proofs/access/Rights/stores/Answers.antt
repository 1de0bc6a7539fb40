-- `stores`: after i turns the mask is that of the first i bytes.
use Rattle.std.proofs.Common.{refl, ◌∙◌, ◌≡◌, ◌%◌, add-one, arith}
use Rattle.memory.specs.Bytes.{mask_of}
use Rattle.memory.proofs.access.Rights.stores.Goals as goal
use Rattle.memory.proofs.access.Rights.stores.Goals.{then-bit_of-writes, else-bit_of-writes}

pub loop-i-init : goal.loop-i-init
unfolding mask_of
loop-i-init c = refl

pub loop-i-preserved : goal.loop-i-preserved
unfolding mask_of
loop-i-preserved c =
    let i = c.loop-i.i in
    let e : i % 8 ≡ i = omega arith in
    let bit = rw e at c.bit_of.ensures in
    let before = c.loop-i.invariant in
    elim c.if-bit_of-writes.branch [
      | then-bit_of-writes w ↦
          let h = rw e at w.with_bit-stores.ensures in
          rw (add-one, ← before, ← bit, ← c.writes.ensures, w.if-bit_of-writes.true) (w.stores-is ∙ h)
      | else-bit_of-writes w ↦ rw (add-one, ← before, ← bit, ← c.writes.ensures, w.if-bit_of-writes.false) w.stores-is
    ]
