-- `outputs_at`: the bytes are those of the two tables, by place.
use mathlib.Core.Path.{◌≡◌}
use Prim.Native.Nat.{ℕ, ◌+◌, ◌*◌, ◌<◌}
use native.Mathlib.Omega.{arith}
use Rattle.memory.proofs.Places.{upper_place}
use Rattle.memory.specs.Access.{place_of}
use Rattle.settings.specs.Settings.{output_of}
use Rattle.settings.proofs.outputs_at.Goals as goal

pub returns : goal.returns
unfolding output_of
returns c =
    let i = c.at_most_71-i in
    let at : (s a : ℕ) → a < 0x80 → place_of s (0x80 + a) ≡ 0x80 * s + a = λ s a h. let e = upper_place s (0x80 + a) (omega arith) in omega arith in
    rw (
      c.output_at.ensures,
      c.output_at-2.ensures,
      ← i.ensures,
      at 4 0x49 (omega arith),
      at 4 0x48 (omega arith),
      at 4 i.result (omega arith),
      at 5 0x49 (omega arith),
      at 5 0x48 (omega arith),
      at 5 i.result (omega arith),
    )
