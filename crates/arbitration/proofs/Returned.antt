-- Demand 1 for the call: each refusal exactly in its circumstance, and what is not refused is the contest of the two messages.
-- Assumes nothing.
use Rattle.std.proofs.Common.{Ok, Err, IsOk}
use Prim.Native.Nat.{ℕ, ◌%◌, ◌≤◌}
use mathlib.Core.Path.{◌≡◌, refl, sym, ap, subst, ◌∙◌}
use mathlib.Core.Logic.{◌⊎◌, inl, inr, ⊎_elim, ⊎_map, ◌↔◌}
use mathlib.Core.Bool.{Bool, true, false, cond, ◌&&◌, ◌||◌, and-false, or-true}
use mathlib.Core.List.{List}
use native.Mathlib.Nat.{mod-lt}
use native.Mathlib.Omega.{arith}
use lib.Dec.{leb, lit<}
use lib.ListN.{length, get_or}
use borrow.Author.Tests.{eq-eqb, eqb-true, eqb-false, leb-false}
use Rattle.memory.specs.Refusals.{number_of, refused, Refuses}
use Rattle.memory.specs.declared.Refusal.{Refusal}
use Rattle.memory.specs.declared.Refusal.TheVariants.{MessageLength, FirstByteOdd, MessagePrefix}
use Rattle.memory.proofs.Bools.{and_true, or_elim, true_false, in_range_lem, above_range, range_true}
use Rattle.memory.proofs.Returns.{error_of, ok_none, returns_by}
use Rattle.device.specs.Run.{after_of}
use Rattle.device.specs.declared.Device.{Device}
use Rattle.arbitration.specs.Line.{winner_of}
use Rattle.arbitration.specs.Arbitration.{length_passes, first_passes, begins, outcome_of, events_of, arbitrate_of, SizeRefused, SizeAllowed, FirstOdd, FirstEven, Beginning, ArbitrateRefused, message_length, first_byte_odd, message_prefix, ArbitrateReturns}
use Rattle.arbitration.specs.Inner.{contest_of}
use Rattle.arbitration.proofs.ByBytes.{begins_beginning, beginning_begins}

-- ---- the three tests, over both messages

both_sized : (m n : List ℕ) → ((length_passes m && length_passes n) ≡ true) ↔ (SizeAllowed m × SizeAllowed n)
both_sized m n = (
  λ e. let h = and_true (length_passes m) (length_passes n) e in (range_true 1 16 (length m) h.0, range_true 1 16 (length n) h.1),
  λ h. rw (in_range_lem 1 16 (length m) h.0.0 h.0.1, in_range_lem 1 16 (length n) h.1.0 h.1.1),
)

both_even : (m n : List ℕ) → ((first_passes m && first_passes n) ≡ true) ↔ (FirstEven m × FirstEven n)
both_even m n = (
  λ e. let h = and_true (first_passes m) (first_passes n) e in (eqb-true (get_or m 0 0 % 2) 0 h.0, eqb-true (get_or n 0 0 % 2) 0 h.1),
  λ h. rw (eq-eqb (get_or m 0 0 % 2) 0 h.0, eq-eqb (get_or n 0 0 % 2) 0 h.1),
)

either_begins : (m n : List ℕ) → ((begins m n || begins n m) ≡ true) ↔ (Beginning m n ⊎ Beginning n m)
either_begins m n = (
  λ e. or_elim (begins m n) (begins n m) e (λ h. inl (begins_beginning m n h)) (λ h. inr (begins_beginning n m h)),
  ⊎_elim (λ b. rw (beginning_begins m n b)) (λ b. rw (beginning_begins n m b) (or-true (begins m n))),
)

-- ---- and where they fail

size_fails : (m : List ℕ) → SizeRefused m → length_passes m ≡ false
size_fails m (inl e) = rw e
size_fails m (inr h) = above_range 1 16 (length m) h

size_refused : (m : List ℕ) → length_passes m ≡ false → SizeRefused m
size_refused m = go (leb 1 (length m)) (leb (length m) 16) refl refl
  where
    go : (a b : Bool) → leb 1 (length m) ≡ a → leb (length m) 16 ≡ b → (a && b) ≡ false → SizeRefused m
    go true true e f h = true_false h
    go true false e f h = inr (leb-false (length m) 16 f)
    go false b e f h = let g = leb-false 1 (length m) e in inl (omega arith)

first_fails : (m : List ℕ) → FirstOdd m → first_passes m ≡ false
first_fails m e = rw e

first_odd : (m : List ℕ) → first_passes m ≡ false → FirstOdd m
first_odd m e = omega (arith, eqb-false (get_or m 0 0 % 2) 0 e, mod-lt (get_or m 0 0) {m = 2} (lit< tt))

-- of both
either_fails : (p q : Bool) → (p ≡ false) ⊎ (q ≡ false) → (p && q) ≡ false
either_fails p q (inl e) = rw e
either_fails p q (inr e) = rw e (and-false p)

which_fails : (p q : Bool) → (p && q) ≡ false → (p ≡ false) ⊎ (q ≡ false)
which_fails true q e = inr e
which_fails false q e = inl refl

-- ---- the rows

-- messages that pass 20 and 21
pub both_pass : (m n : List ℕ) → SizeAllowed m × SizeAllowed n → FirstEven m × FirstEven n → outcome_of m n ≡ contest_of m n
unfolding outcome_of
both_pass m n s e = rw ((both_sized m n).1 s, (both_even m n).1 e)

refused_row : (m n : List ℕ) (why : Refusal) (line : ℕ) → ArbitrateRefused m n why line → outcome_of m n ≡ Err (refused why line)
unfolding outcome_of
refused_row m n why line (message_length h) = rw (either_fails (length_passes m) (length_passes n) (⊎_map (size_fails m) (size_fails n) h))
refused_row m n why line (first_byte_odd s h) =
    rw ((both_sized m n).1 s, either_fails (first_passes m) (first_passes n) (⊎_map (first_fails m) (first_fails n) h))
refused_row m n why line (message_prefix s e b) = both_pass m n s e ∙ rw ((either_begins m n).1 b)

outcome_either : (m n : List ℕ) → IsOk (outcome_of m n) ⊎ Refuses (ArbitrateRefused m n)
unfolding outcome_of
outcome_either m n = go (length_passes m && length_passes n) (first_passes m && first_passes n) (begins m n || begins n m) refl refl refl
  where
    go : (sized even prefix : Bool)
        → (length_passes m && length_passes n) ≡ sized → (first_passes m && first_passes n) ≡ even → (begins m n || begins n m) ≡ prefix
        → IsOk (cond sized (cond even (cond prefix (Err (refused MessagePrefix 0)) (Ok (winner_of m n))) (Err (refused FirstByteOdd 0))) (Err (refused MessageLength 0)))
        ⊎ Refuses (ArbitrateRefused m n)
    go true true false e f g = inl refl
    go true true true e f g =
        inr (record { why = MessagePrefix; line = 0; circumstance = message_prefix ((both_sized m n).0 e) ((both_even m n).0 f) ((either_begins m n).0 g) })
    go true false prefix e f g =
        inr (record { why = FirstByteOdd; line = 0; circumstance = first_byte_odd ((both_sized m n).0 e) (⊎_map (first_odd m) (first_odd n) (which_fails _ _ f)) })
    go false even prefix e f g =
        inr (record { why = MessageLength; line = 0; circumstance = message_length (⊎_map (size_refused m) (size_refused n) (which_fails _ _ e)) })

-- ---- demand 1

refused_left : (d : Device) (m n : List ℕ) (why : Refusal) (line : ℕ) → ArbitrateRefused m n why line → (arbitrate_of d m n).device ≡ d
unfolding arbitrate_of events_of after_of
refused_left d m n why line h = rw (refused_row m n why line h)

pub arbitrate_returns : ArbitrateReturns
unfolding arbitrate_of
arbitrate_returns d m n =
    returns_by error_of (ok_none (outcome_of m n)) (λ why line s. ap error_of s) (outcome_either m n) (refused_row m n)
    (λ r. refused_left d m n r.why r.line r.circumstance)

-- the numbers 20 to 22
pub refused_number : (m n : List ℕ) (why : Refusal) (line : ℕ) → ArbitrateRefused m n why line → (20 ≤ number_of why) × (number_of why ≤ 22)
refused_number m n why line (message_length h) = (omega arith, omega arith)
refused_number m n why line (first_byte_odd s h) = (omega arith, omega arith)
refused_number m n why line (message_prefix s e b) = (omega arith, omega arith)

-- ---- what is not refused

-- one that is won is the contest of the two
pub won_contest : (m n : List ℕ) → IsOk (outcome_of m n) → outcome_of m n ≡ contest_of m n
unfolding outcome_of
won_contest m n h = go (length_passes m && length_passes n) (first_passes m && first_passes n) h
  where
    go : (sized even : Bool) → IsOk (cond sized (cond even (contest_of m n) (Err (refused FirstByteOdd 0))) (Err (refused MessageLength 0)))
        → cond sized (cond even (contest_of m n) (Err (refused FirstByteOdd 0))) (Err (refused MessageLength 0)) ≡ contest_of m n
    go true true h = refl
    go true false h = true_false (sym h)
    go false even h = true_false (sym h)

-- and is exactly what no row refuses
pub won_allowed : (m n : List ℕ) → IsOk (outcome_of m n) ↔ (Refuses (ArbitrateRefused m n) → ⊥)
won_allowed m n = (
  λ h r. true_false (sym (subst IsOk (refused_row m n r.why r.line r.circumstance) h)),
  λ h. ⊎_elim (λ w. w) (λ r. absurd (h r)) (outcome_either m n),
)
