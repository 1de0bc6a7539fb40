-- Document 02, 2.9: who survives, what the line carries, the order of the hosts, and who can be forced off.
-- Assumes nothing.
use Rattle.memory.specs.Refusals.{refused}
use Rattle.memory.specs.declared.Refused.{Refused}
use Rattle.std.proofs.Common.{Result, Ok, Err, IsOk}
use Prim.Native.Nat.{ℕ, zero, suc, ◌<◌}
use mathlib.Core.Path.{◌≡◌, refl, sym, ap, subst, ◌∙◌}
use mathlib.Core.Logic.Iff
use mathlib.Core.Logic.{◌≢◌, ◌↔◌}
use mathlib.Core.Bool.{Bool, true, false, cond, ◌&&◌, and_comm}
use mathlib.Core.List.{List, [], ◌∷◌}
use native.Mathlib.Omega.{arith}
use lib.Dec.{eqb}
use lib.ListN.{length, get_or, replicate, length-replicate}
use borrow.Author.Tests.{eqb-true, eqb-false}
use Rattle.memory.specs.Bytes.{AllBytes}
use Rattle.memory.specs.declared.Refusal.TheVariants.{MessageLength, FirstByteOdd}
use Rattle.memory.proofs.AllBytes.{replicate_bytes}
use Rattle.memory.proofs.Bools.{true_false}
use Rattle.device.specs.Run.{after_of}
use Rattle.arbitration.specs.Line.{bits_of}
use Rattle.arbitration.specs.Arbitration.{length_passes, first_passes, outcome_of, message_of, events_by, events_of, arbitrate_of, SizeAllowed, FirstEven}
use Rattle.arbitration.specs.Inner.{contest_of}
use Rattle.arbitration.specs.Survivor.{SmallerFirst, Survives, SmallerSurvives, EqualCountAsOne, bytes_in, bytes_on_line, sends_no_more, SurvivorCarried, exchanged, OrderFree, SomeMessage, HasNonzero, ForcedOff}
use Rattle.arbitration.specs.declared.Winner.{Winner}
use Rattle.arbitration.specs.declared.Winner.TheVariants.{First, Second, Both}
use Rattle.arbitration.proofs.Bits.{bits_length, bytes_back}
use Rattle.arbitration.proofs.Line.{alike, last_of, winner_is}
use Rattle.arbitration.proofs.ByBytes.{flip, byte, inside, begins_self, prefix_refused, survivor_sent, wins, Comparison, decided, undecided, before_smaller, at_once, comparison, contest_exchanged}
use Rattle.arbitration.proofs.Returned.{both_pass, won_contest, won_allowed}

-- ---- who survives

-- the contest is won by one of the three, as the bytes have it
won_by : (m n : List ℕ) (w : Winner) → AllBytes m → AllBytes n → contest_of m n ≡ Ok w → Survives w m n
won_by m n w hm hn q = go (comparison m n)
  where
    go : Comparison m n → Survives w m n
    go (decided v s) = let e : Ok v ≡ Ok w = sym (wins v m n hm hn s) ∙ q in let same : v ≡ w = cc in subst (λ (x : Winner). Survives x m n) same s
    go (undecided b) = true_false (sym (subst IsOk (sym q ∙ prefix_refused m n b) refl))

won_outcome : (m n : List ℕ) (w : Winner) → outcome_of m n ≡ Ok w → contest_of m n ≡ Ok w
won_outcome m n w q = sym (won_contest m n (subst IsOk (sym q) refl)) ∙ q

pub smaller_survives : SmallerSurvives
smaller_survives m n w hm hn = (
  λ q. ((won_allowed m n).0 (subst IsOk (sym q) refl), won_by m n w hm hn (won_outcome m n w q)),
  λ h. won_contest m n ((won_allowed m n).1 h.0) ∙ wins w m n hm hn h.1,
)

pub equal_count_as_one : EqualCountAsOne
unfolding arbitrate_of events_of
equal_count_as_one d m s e =
    let q : outcome_of m m ≡ Ok Both = both_pass m m (s, s) (e, e) ∙ rw (begins_self m, winner_is Both m m (alike (bits_of m))) in
    (q, rw q)

-- ---- what the line carries

last_ended : (w : Winner) → sends_no_more (last_of w).first × sends_no_more (last_of w).second
last_ended First = (tt, tt)
last_ended Second = (tt, tt)
last_ended Both = (tt, tt)

survivor_bytes : (w : Winner) (m n : List ℕ) → AllBytes m → AllBytes n → AllBytes (message_of w m n)
survivor_bytes First m n hm hn = hm
survivor_bytes Second m n hm hn = hn
survivor_bytes Both m n hm hn = hm

pub survivor_carried : SurvivorCarried
unfolding arbitrate_of events_of
survivor_carried d m n w hm hn q =
    let x = message_of w m n in
    let t = survivor_sent w m n hm hn (won_by m n w hm hn (won_outcome m n w q)) in
    let size = bits_length x in
    let carried : bytes_on_line m n (length x) ≡ x = rw (← size) (ap (bytes_in (length x)) t.carried ∙ bytes_back x (survivor_bytes w m n hm hn)) in
    record {
      bytes = carried;
      first_ended = rw (← size, t.after) (last_ended w).0;
      second_ended = rw (← size, t.after) (last_ended w).1;
      received = rw (q, carried);
    }

-- ---- the order of the two hosts

outcome_exchanged : (m n : List ℕ) → AllBytes m → AllBytes n → outcome_of n m ≡ exchanged (outcome_of m n)
unfolding outcome_of
outcome_exchanged m n hm hn =
    rw (and_comm (length_passes n) (length_passes m), and_comm (first_passes n) (first_passes m))
    (go (length_passes m && length_passes n) (first_passes m && first_passes n) (contest_exchanged m n hm hn))
  where
    go : (sized even : Bool) → contest_of n m ≡ exchanged (contest_of m n)
        → cond sized (cond even (contest_of n m) (Err (refused FirstByteOdd 0))) (Err (refused MessageLength 0))
        ≡ exchanged (cond sized (cond even (contest_of m n) (Err (refused FirstByteOdd 0))) (Err (refused MessageLength 0)))
    go true true e = e
    go true false e = refl
    go false even e = refl

-- the events are the same
events_exchanged : (m n : List ℕ) (x : Result Winner Refused) → (x ≡ Ok Both → m ≡ n) → events_by (exchanged x) n m ≡ events_by x m n
events_exchanged m n (Ok First) h = refl
events_exchanged m n (Ok Second) h = refl
events_exchanged m n (Ok Both) h = rw (h refl)
events_exchanged m n (Err e) h = refl

pub order_free : OrderFree
unfolding arbitrate_of events_of
order_free d m n hm hn =
    let e = outcome_exchanged m n hm hn in
    (e, rw e (ap (after_of d) (events_exchanged m n (outcome_of m n) (λ q. ((smaller_survives m n Both hm hn).0 q).1))))

-- ---- who can be forced off

-- a host that is forced off has a byte other than 00h: where the two part, its byte is the larger one
larger_other : (m n : List ℕ) → SmallerFirst n m → HasNonzero m
larger_other m n p =
    let d = flip p.place in
    record { place = length d.common; inside = inside d; other = λ e. omega (arith, byte d, p.smaller) }

-- 00h up to the first other byte of m, and one more, forces m off
record Forcing (m : List ℕ) : Type 0 where
  zeros : ℕ
  shorter : zeros < length m
  smaller : SmallerFirst (replicate (suc zeros) 0) m

forcing : (m : List ℕ) (i : ℕ) → i < length m → get_or m i 0 ≢ 0 → Forcing m
forcing [] i h g = absurd (omega arith)
forcing (x ∷ m) zero h g = record { zeros = 0; shorter = h; smaller = at_once 0 x [] m (omega (arith, g)) }
forcing (x ∷ m) (suc i) h g = go (eqb x 0) refl (forcing m i (omega arith) g)
  where
    go : (b : Bool) → eqb x 0 ≡ b → Forcing m → Forcing (x ∷ m)
    go true e f =
        record { zeros = suc f.zeros; shorter = omega (arith, f.shorter); smaller = rw (eqb-true x 0 e) (before_smaller 0 _ m f.smaller) }
    go false e f = record { zeros = 0; shorter = omega arith; smaller = at_once 0 x [] m (omega (arith, eqb-false x 0 e)) }

-- where it is the first host, and where it is the second
forced_first : (m : List ℕ) → AllBytes m → SizeAllowed m → FirstEven m → SomeMessage (λ n. outcome_of m n ≡ Ok Second) ↔ HasNonzero m
forced_first m hm s e = (
  λ x. larger_other m x.message ((smaller_survives m x.message Second hm x.bytes).0 x.holds).1,
  λ b.
      let f = forcing m b.place b.inside b.other in
      let n = replicate {A = ℕ} (suc f.zeros) 0 in
      let hn = replicate_bytes (suc f.zeros) 0 (omega arith) in
      let size = length-replicate {A = ℕ} (suc f.zeros) 0 in
      record {
        message = n;
        bytes = hn;
        holds = both_pass m n (s, (omega (arith, size), omega (arith, size, f.shorter, s.1))) (e, refl) ∙ wins Second m n hm hn f.smaller;
      },
)

either_side : (m : List ℕ) → AllBytes m → SomeMessage (λ n. outcome_of n m ≡ Ok First) ↔ SomeMessage (λ n. outcome_of m n ≡ Ok Second)
either_side m hm = (
  λ x. record { message = x.message; bytes = x.bytes; holds = outcome_exchanged x.message m x.bytes hm ∙ ap exchanged x.holds },
  λ x. record { message = x.message; bytes = x.bytes; holds = outcome_exchanged m x.message hm x.bytes ∙ ap exchanged x.holds },
)

pub forced_off : ForcedOff
forced_off m hm s e =
    let f = forced_first m hm s e in
    (f, Iff.trans (either_side m hm) f)
