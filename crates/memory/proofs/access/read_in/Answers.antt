-- `read_in`: each result stands for its definition; in the lower half it is that of no level.
use Rattle.std.proofs.Common.{false}
use Rattle.memory.specs.Access.{read_at}
use Rattle.memory.proofs.Places.{lower_place, read_line}
use Rattle.memory.proofs.Public.{read_lower}
use Rattle.memory.proofs.access.read_in.Goals as goal

pub returns-then-address-lt128 : goal.returns-then-address-lt128
unfolding read_at
returns-then-address-lt128 c =
    let a = c.args in
    let h = c.if-address-lt128.true in
    rw (lower_place _ a.address h, read_lower a.address h _ false, ← c.class_of.ensures) c.read_class.ensures

pub returns : goal.returns
unfolding read_at
returns c =
    let a = c.args in
    let place = rw c.of-rights.ensures.1.1 at c.place.ensures in
    rw (
      ← read_line _ _ a.address c.on_line-at.result a.bytes.now (rw place at c.on_line-at.ensures.1),
      ← c.of-rights.ensures.0,
      ← c.of-rights.ensures.1.1,
      ← c.reaches.ensures,
      ← c.class_of-2.ensures,
    )
    c.read_class-2.ensures
