-- `store_page`: each result stands for its definition, and an empty mask puts nothing.
use Rattle.std.proofs.Common.{arith}
use Rattle.memory.specs.Access.{select_of, control_of, level_of}
use Rattle.memory.specs.Page.{put_of}
use Rattle.memory.proofs.Stored.{page_fits}
use Rattle.memory.proofs.page.store_page.Goals as goal

pub put_page-requires : goal.put_page-requires
put_page-requires c =
    let a = c.args in
    let b = a.bytes.now in
    let stores = rw (c.of-rights.ensures.0, c.of-rights.ensures.1.0, c.of-rights.ensures.1.1) at c.stores-stores.ensures in
    let on = page_fits (level_of b a.password2) (control_of b) (select_of b) a.pointer a.mask (λ z. c.if-stores-ne0.true (rw stores z)) in
    let q = rw c.of-rights.ensures.1.1 at c.place.ensures in
    omega arith

pub returns-else-stores-ne0 : goal.returns-else-stores-ne0
unfolding put_of
returns-else-stores-ne0 c = rw (← c.of-rights.ensures.0, ← c.of-rights.ensures.1.0, ← c.of-rights.ensures.1.1, ← c.stores-stores.ensures, c.if-stores-ne0.false)
