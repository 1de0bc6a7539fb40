-- A held page outside 70h to 77h leaves the number of raised flags.
use mathlib.Core.Path.{◌≡◌, refl}
use mathlib.Core.List.{List}
use Prim.Native.Nat.{ℕ, ◌/◌, ◌<◌}
use native.Mathlib.Omega.{arith}
use Rattle.memory.specs.Access.{select_of, control_of}
use Rattle.memory.specs.Page.{page_of}
use Rattle.memory.proofs.Stored.{outside_block}
use Rattle.readings.specs.Raised.{raised_in, gone_on, raised_after}
use Rattle.readings.proofs.Raised.{raised_same, after_same}

pub outside_flags : (l p mask n : ℕ) (page b : List ℕ) → p < 256 → n < 256 → (p / 8 ≡ 14 → ⊥)
    → raised_after n b (page_of l (control_of b) (select_of b) p mask page b) ≡ n
outside_flags l p mask n page b g h out =
    let stored = page_of l (control_of b) (select_of b) p mask page b in
    after_same n b stored h
    (raised_same stored b (λ q lo hi. outside_block l (control_of b) (select_of b) p mask page b q (omega arith) (λ k m e. out (omega arith))))

-- the number of raised flags by the 1 bits of 70h to 77h before and after
pub counted : (n : ℕ) (x y : List ℕ) → gone_on n (raised_in y) (raised_in x) ≡ raised_after n x y
unfolding raised_after
counted n x y = refl
