-- `entry_after`: the test is that of the rule by how far T lies above -40 °C.
use mathlib.Core.Path.{◌≡◌, sym, ◌∙◌}
use native.Mathlib.Omega.{arith}
use mir.Syntax.{w16}
use mir.Val.{to_z}
use Rattle.settings.proofs.Offset.{above_of, above_word, after_above}
use Rattle.settings.proofs.entry_after.Goals as goal

pub returns-then-current-wanted : goal.returns-then-current-wanted
returns-then-current-wanted c =
    let s = c.args in
    let height : above_of (to_z w16 s.reading) ≡ c.above-height.result = above_word s.reading (omega arith) ∙ sym c.above-height.ensures in
    rw (after_above s.current (to_z w16 s.reading), height, ← c.at_most_71-wanted.ensures, c.if-current-wanted.true)

pub returns-else-current-wanted : goal.returns-else-current-wanted
returns-else-current-wanted c =
    let s = c.args in
    let height : above_of (to_z w16 s.reading) ≡ c.above-height.result = above_word s.reading (omega arith) ∙ sym c.above-height.ensures in
    rw (after_above s.current (to_z w16 s.reading), height, ← c.at_most_71-wanted.ensures, c.if-current-wanted.false)
