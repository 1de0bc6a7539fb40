-- Worked cases by hand.
-- Assumes nothing.
use Rattle.std.proofs.Common.{Result, Ok, Err}
use mathlib.Core.Path.{◌≡◌, refl}
use mathlib.Core.Bool.{true, false}
use mathlib.Core.List.{List, [], ◌∷◌, ◌++◌}
use Prim.Native.Nat.{ℕ}
use lib.ListN.{replicate}
use Rattle.memory.specs.Refusals.{number_of}
use Rattle.memory.specs.declared.Refused.{Refused}
use Rattle.arbitration.specs.Line.{bits_from, bits_of, Sending, Out, hosts, hosts_after, carried_in, together, winner_of}
use Rattle.arbitration.specs.Arbitration.{begins, outcome_of}
use Rattle.arbitration.specs.declared.Winner.{Winner}
use Rattle.arbitration.specs.declared.Winner.TheVariants.{First, Second, Both}

-- what comes back, as a number: the refusal's, or 1, 2, 3 for the first, the second and both
abbrev code_of : Result Winner Refused → ℕ
code_of (Ok First) = 1
code_of (Ok Second) = 2
code_of (Ok Both) = 3
code_of (Err e) = number_of e.why

abbrev case : List ℕ → List ℕ → ℕ
case m n = code_of (outcome_of m n)

pub record WorkedCases : Type 0 where
  -- A2h is 1010 0010, A4h 1010 0100: the same up to bit 3; bit 2 is 0 and 1, so the second drops out, and bits 1 and 0 are the first's alone
  pub line_a2_a4 : carried_in 8 (together (0xA2 ∷ []) (0xA4 ∷ [])) ≡ true ∷ false ∷ true ∷ false ∷ false ∷ false ∷ true ∷ false ∷ []
  pub before_bit_2 : hosts_after 5 (together (0xA2 ∷ []) (0xA4 ∷ [])) ≡ hosts (Sending (false ∷ true ∷ false ∷ [])) (Sending (true ∷ false ∷ false ∷ []))
  pub after_bit_2 : hosts_after 6 (together (0xA2 ∷ []) (0xA4 ∷ [])) ≡ hosts (Sending (true ∷ false ∷ [])) Out
  pub first : case (0xA2 ∷ []) (0xA4 ∷ []) ≡ 1
  -- 80h is 1000 0000, 7Eh 0111 1110: the top bit decides
  pub top_bit : case (0x80 ∷ []) (0x7E ∷ []) ≡ 2
  -- the first differing byte decides, not a later one, and not the length
  pub later_byte : case (0xA2 ∷ 0x7F ∷ 0x02 ∷ 0x00 ∷ []) (0xA2 ∷ 0x7F ∷ 0x01 ∷ 0xFF ∷ []) ≡ 2
  pub longer : case (0xA2 ∷ 0x10 ∷ []) (0xA2 ∷ 0x0F ∷ 0xFF ∷ 0xFF ∷ []) ≡ 2
  pub shorter : case (0xA2 ∷ 0x0F ∷ []) (0xA2 ∷ 0x10 ∷ 0x00 ∷ 0x00 ∷ []) ≡ 1
  pub equal : case (0xA2 ∷ 0x7F ∷ []) (0xA2 ∷ 0x7F ∷ []) ≡ 3
  pub sixteen : case (replicate 16 0xFE) (replicate 15 0xFE ++ (0xFF ∷ [])) ≡ 1
  -- 20: empty, or over 16 bytes, in either place, and before 21 and 22
  pub first_empty : case [] (0xA2 ∷ []) ≡ 20
  pub second_empty : case (0xA3 ∷ []) [] ≡ 20
  pub seventeen : case (replicate 17 0xA2) (replicate 16 0xA2) ≡ 20
  pub second_seventeen : case (replicate 16 0xA3) (replicate 17 0xA3) ≡ 20
  pub equal_empty : case [] [] ≡ 20
  -- 21: a first byte is odd, in either place, and before 22
  pub first_odd : case (0xA3 ∷ []) (0xA2 ∷ []) ≡ 21
  pub second_odd : case (0xA2 ∷ []) (0x01 ∷ []) ≡ 21
  pub odd_beginning : case (0xA3 ∷ []) (0xA3 ∷ 0x00 ∷ []) ≡ 21
  -- 22: one is the beginning of the other and shorter
  pub first_begins : case (0xA2 ∷ 0x7F ∷ []) (0xA2 ∷ 0x7F ∷ 0x00 ∷ []) ≡ 22
  pub second_begins : case (0x00 ∷ 0x00 ∷ []) (0x00 ∷ []) ≡ 22

pub worked_cases : WorkedCases
unfolding outcome_of begins winner_of hosts_after carried_in bits_of bits_from
worked_cases =
    record {
      line_a2_a4 = refl;
      before_bit_2 = refl;
      after_bit_2 = refl;
      first = refl;
      top_bit = refl;
      later_byte = refl;
      longer = refl;
      shorter = refl;
      equal = refl;
      sixteen = refl;
      first_empty = refl;
      second_empty = refl;
      seventeen = refl;
      second_seventeen = refl;
      equal_empty = refl;
      first_odd = refl;
      second_odd = refl;
      odd_beginning = refl;
      first_begins = refl;
      second_begins = refl;
    }
