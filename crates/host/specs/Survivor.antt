-- Document 02, 2.9, at C's numbers: who survives, by the bytes of the messages. The statement.
use Rattle.std.specs.Prelude.{ℕ, ◌≡◌, ◌↔◌, List}
use Rattle.memory.specs.Bytes.{AllBytes}
use Rattle.memory.specs.Refusals.{Refuses}
use Rattle.arbitration.specs.Arbitration.{ArbitrateRefused}
use Rattle.arbitration.specs.Survivor.{SmallerFirst}
use Rattle.host.specs.State.{Lent}
use Rattle.host.specs.Calls.{arbitrate_call}

-- messages of bytes that are not refused: 1 exactly if the first byte in which they differ is smaller in the first, 2 exactly if it is smaller in
-- the second, 3 exactly if they are equal
pub record SurvivorNumber (m n : List ℕ) (number : ℕ) : Type 0 where
  pub first : (number ≡ 1) ↔ ((Refuses (ArbitrateRefused m n) → ⊥) × SmallerFirst m n)
  pub second : (number ≡ 2) ↔ ((Refuses (ArbitrateRefused m n) → ⊥) × SmallerFirst n m)
  pub both : (number ≡ 3) ↔ ((Refuses (ArbitrateRefused m n) → ⊥) × (m ≡ n))

abbrev pub HostSurvivor : Type 0
HostSurvivor = (l : Lent) (m n : List ℕ) → AllBytes m → AllBytes n → SurvivorNumber m n (arbitrate_call l m n).number
