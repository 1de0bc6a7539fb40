-- What private functions of this crate promise each other, and their laws go by. No public contract and no statement cites it.
use Rattle.std.specs.Prelude.{ℕ, Bool, cond, ◌||◌, List, Result, Ok, Err, nat_eq}
use Rattle.std.specs.Ordering.{nat_cmp}
use Rattle.std.specs.declared.cmp.Ordering.{Ordering}
use Rattle.std.specs.declared.cmp.Ordering.TheVariants.{Less, Equal, Greater}
use Rattle.std.specs.Cmp.Lexicographic.{slice_cmp}
use Rattle.std.specs.List.{starts_with}
use Rattle.memory.specs.Refusals.{refused}
use Rattle.memory.specs.declared.Refused.{Refused}
use Rattle.memory.specs.declared.Refusal.TheVariants.{MessagePrefix}
use Rattle.arbitration.specs.Line.{winner_of}
use Rattle.arbitration.specs.Arbitration.{begins}
use Rattle.arbitration.specs.declared.Winner.{Winner}
use Rattle.arbitration.specs.declared.Winner.TheVariants.{First, Second, Both}

-- what two messages that pass 20 and 21 come to
abbrev pub contest_of : (m n : List ℕ) → Result Winner Refused
contest_of m n = cond (begins m n || begins n m) (Err (refused MessagePrefix 0)) (Ok (winner_of m n))

-- the same as the code tests it: by the library's order of lists, and by whether one is the beginning of the other, shorter or not
-- (`compared` of proofs/ByBytes)
abbrev pub compared_by : Ordering → Bool → Result Winner Refused
compared_by Less prefix = cond prefix (Err (refused MessagePrefix 0)) (Ok First)
compared_by Equal prefix = Ok Both
compared_by Greater prefix = cond prefix (Err (refused MessagePrefix 0)) (Ok Second)

abbrev pub compared_of : (m n : List ℕ) → Result Winner Refused
compared_of m n = compared_by (slice_cmp nat_cmp m n) (starts_with nat_eq m n || starts_with nat_eq n m)
