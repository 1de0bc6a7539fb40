-- Two messages by their bytes: one is the beginning of the other, they are equal, or their first differing byte decides.
-- Assumes nothing.
use Rattle.std.proofs.Common.{Ok, Err, nat_eq, Fits, w8}
use Rattle.std.specs.Ordering.{nat_cmp}
use Rattle.std.specs.declared.cmp.Ordering.TheVariants.{Less, Equal, Greater}
use Rattle.std.specs.Cmp.{nat_cmp_is}
use Rattle.std.specs.Cmp.Lexicographic.{slice_cmp}
use Rattle.std.specs.List.{starts_with}
use Prim.Native.Nat.{ℕ, ◌<◌}
use mathlib.Core.Path.{◌≡◌, refl, sym, ap, ap₂, ◌∙◌}
use mathlib.Core.Logic.{◌⊎◌, inl, inr, ⊎_elim, ◌≢◌}
use mathlib.Core.Bool.{Bool, true, false, or-true}
use mathlib.Core.List.{List, [], ◌∷◌, ◌++◌, append-nil}
use native.Mathlib.Omega.{arith}
use lib.Dec.{eqb, ltb}
use lib.ListN.{length, get_or, length-append}
use lib.Seq.{get_or-append_seam}
use borrow.Author.Tests.{eq-eqb, ne_eqb, eqb-true, ltb-true, ltb-false}
use Rattle.memory.specs.Refusals.{refused}
use Rattle.memory.specs.Bytes.{AllBytes}
use Rattle.memory.specs.declared.Refusal.TheVariants.{MessagePrefix}
use Rattle.memory.proofs.Bools.{and_true, true_false}
use Rattle.arbitration.specs.Line.{bits_of, together}
use Rattle.arbitration.specs.Arbitration.{begins, message_of, Beginning}
use Rattle.arbitration.specs.Inner.{compared_of, contest_of}
use Rattle.arbitration.specs.Survivor.{SameUpTo, SmallerFirst, Survives, exchanged}
use Rattle.arbitration.specs.declared.Winner.{Winner}
use Rattle.arbitration.specs.declared.Winner.TheVariants.{First, Second, Both}
use Rattle.arbitration.proofs.Bits.{parted_here, before, Parts, messages_part}
use Rattle.arbitration.proofs.Line.{Sent, swap_sent, alike, parts_sent, last_of, winner_is}

-- ---- the same bytes at the beginning of both

begins_append : (c m n : List ℕ) → begins (c ++ m) (c ++ n) ≡ begins m n
unfolding begins
begins_append [] m n = refl
begins_append (x ∷ c) m n = rw (eq-eqb x x refl) (begins_append c m n)

cmp_append : (c m n : List ℕ) → slice_cmp nat_cmp (c ++ m) (c ++ n) ≡ slice_cmp nat_cmp m n
cmp_append [] m n = refl
cmp_append (x ∷ c) m n = rw (← nat_cmp_is x x Equal refl) (cmp_append c m n)

starts_append : (c m n : List ℕ) → starts_with nat_eq (c ++ m) (c ++ n) ≡ starts_with nat_eq m n
starts_append [] m n = refl
starts_append (x ∷ c) m n = rw (eq-eqb x x refl) (starts_append c m n)

-- ---- 22: the beginning

pub begins_beginning : (m n : List ℕ) → begins m n ≡ true → Beginning m n
unfolding begins
begins_beginning [] [] e = true_false (sym e)
begins_beginning [] (y ∷ n) e = record { rest = y ∷ n; some = omega arith; text = refl }
begins_beginning (x ∷ m) [] e = true_false (sym e)
begins_beginning (x ∷ m) (y ∷ n) e =
    let h = and_true (eqb x y) (begins m n) e in
    let b = begins_beginning m n h.1 in
    record { rest = b.rest; some = b.some; text = ap₂ {C = List ℕ} (λ z l. z ∷ l) (sym (eqb-true x y h.0)) b.text }

pub beginning_begins : (m n : List ℕ) → Beginning m n → begins m n ≡ true
unfolding begins
beginning_begins m n b = go b.rest b.some b.text
  where
    go : (rest : List ℕ) → 0 < length rest → n ≡ m ++ rest → begins m n ≡ true
    go [] h e = absurd (omega arith)
    go (y ∷ r) h e = rw e (ap (λ (l : List ℕ). begins l (m ++ (y ∷ r))) (sym (append-nil m)) ∙ begins_append m [] (y ∷ r))

pub prefix_refused : (m n : List ℕ) → Beginning m n ⊎ Beginning n m → contest_of m n ≡ Err (refused MessagePrefix 0)
prefix_refused m n (inl b) = rw (beginning_begins m n b)
prefix_refused m n (inr b) = rw (beginning_begins n m b, or-true (begins m n))

-- ---- where the two part

-- seen from the other one
abbrev pub flip : {m n : List ℕ} {x y : ℕ} → SameUpTo m n x y → SameUpTo n m y x
flip p = record { common = p.common; after_x = p.after_y; after_y = p.after_x; left = p.right; right = p.left }

module _ {m n : List ℕ} {x y : ℕ} (p : SameUpTo m n x y) where
  -- the byte of m there
  pub byte : get_or m (length p.common) 0 ≡ x
  byte = ap (λ (l : List ℕ). get_or l (length p.common) 0) p.left ∙ get_or-append_seam p.common x p.after_x 0

  pub inside : length p.common < length m
  inside = omega (arith, ap length p.left ∙ length-append p.common (x ∷ p.after_x))

  module _ (e : x ≢ y) where
    -- m is not the beginning of n
    no_beginning : begins m n ≡ false
    unfolding begins
    no_beginning = ap₂ begins p.left p.right ∙ begins_append p.common (x ∷ p.after_x) (y ∷ p.after_y) ∙ rw (ne_eqb x y e)

    -- as the library tests it too
    no_start : starts_with nat_eq m n ≡ false
    no_start =
        ap₂ (starts_with nat_eq) p.left p.right ∙ starts_append p.common (x ∷ p.after_x) (y ∷ p.after_y)
        ∙ rw (ne_eqb y x (λ q. e (sym q)))

-- ---- who survives

module _ {m n : List ℕ} (p : SmallerFirst m n) where
  apart : p.x ≢ p.y
  apart e = omega (arith, p.smaller)

  neither_begins : (begins m n ≡ false) × (begins n m ≡ false)
  neither_begins = (no_beginning p.place apart, no_beginning (flip p.place) (λ e. apart (sym e)))

  -- by the bits
  smaller_parts : AllBytes m → AllBytes n → Parts (bits_of m) (bits_of n)
  smaller_parts hm hn =
      let d = p.place in
      let k = length d.common in
      rw (d.left, d.right)
      (messages_part d.common p.x p.y d.after_x d.after_y (rw (byte d) at (hm k)) (rw (byte (flip d)) at (hn k)) p.smaller)

pub begins_self : (m : List ℕ) → begins m m ≡ false
unfolding begins
begins_self m = ap₂ begins (sym (append-nil m)) (sym (append-nil m)) ∙ begins_append m [] []

-- the survivor's message is sent
pub survivor_sent : (w : Winner) (m n : List ℕ) → AllBytes m → AllBytes n → Survives w m n → Sent (together m n) (bits_of (message_of w m n)) (last_of w)
survivor_sent First m n hm hn p = parts_sent (bits_of m) (bits_of n) (smaller_parts p hm hn)
survivor_sent Second m n hm hn p = swap_sent (bits_of n) (together n m) (last_of First) (parts_sent (bits_of n) (bits_of m) (smaller_parts p hn hm))
survivor_sent Both m n hm hn e = rw e (alike (bits_of n))

no_prefix : (w : Winner) (m n : List ℕ) → Survives w m n → (begins m n ≡ false) × (begins n m ≡ false)
no_prefix First m n p = neither_begins p
no_prefix Second m n p = let h = neither_begins p in (h.1, h.0)
no_prefix Both m n e = rw e (begins_self n, begins_self n)

pub wins : (w : Winner) (m n : List ℕ) → AllBytes m → AllBytes n → Survives w m n → contest_of m n ≡ Ok w
wins w m n hm hn s = let h = no_prefix w m n s in rw (h.0, h.1, winner_is w m n (survivor_sent w m n hm hn s))

-- how two messages stand to each other
pub data Comparison (m n : List ℕ) : Type 0 where
  decided : (w : Winner) → Survives w m n → Comparison m n
  undecided : Beginning m n ⊎ Beginning n m → Comparison m n

-- one byte more, which both have
pub before_smaller : (x : ℕ) (m n : List ℕ) → SmallerFirst m n → SmallerFirst (x ∷ m) (x ∷ n)
before_smaller x m n p = record { x = p.x; y = p.y; place = before (x ∷ []) p.place; smaller = p.smaller }

before_beginning : (x : ℕ) (m n : List ℕ) → Beginning m n → Beginning (x ∷ m) (x ∷ n)
before_beginning x m n b = record { rest = b.rest; some = b.some; text = ap (λ (l : List ℕ). x ∷ l) b.text }

before_both : (x : ℕ) (m n : List ℕ) → Comparison m n → Comparison (x ∷ m) (x ∷ n)
before_both x m n (decided First p) = decided First (before_smaller x m n p)
before_both x m n (decided Second p) = decided Second (before_smaller x n m p)
before_both x m n (decided Both e) = decided Both (ap (λ (l : List ℕ). x ∷ l) e)
before_both x m n (undecided (inl b)) = undecided (inl (before_beginning x m n b))
before_both x m n (undecided (inr b)) = undecided (inr (before_beginning x n m b))

pub at_once : (x y : ℕ) (m n : List ℕ) → x < y → SmallerFirst (x ∷ m) (y ∷ n)
at_once x y m n h = record { x = x; y = y; place = parted_here m n; smaller = h }

pub comparison : (m n : List ℕ) → Comparison m n
comparison [] [] = decided Both refl
comparison [] (y ∷ n) = undecided (inl (record { rest = y ∷ n; some = omega arith; text = refl }))
comparison (x ∷ m) [] = undecided (inr (record { rest = x ∷ m; some = omega arith; text = refl }))
comparison (x ∷ m) (y ∷ n) = go (ltb x y) (ltb y x) refl refl (comparison m n)
  where
    go : (a b : Bool) → ltb x y ≡ a → ltb y x ≡ b → Comparison m n → Comparison (x ∷ m) (y ∷ n)
    go true b e f s = decided First (at_once x y m n (ltb-true x y e))
    go false true e f s = decided Second (at_once y x n m (ltb-true y x f))
    go false false e f s =
        let same : x ≡ y = omega (arith, ltb-false x y e, ltb-false y x f) in
        rw same (before_both y m n s)

-- ---- the two exchanged

pub contest_exchanged : (m n : List ℕ) → AllBytes m → AllBytes n → contest_of n m ≡ exchanged (contest_of m n)
contest_exchanged m n hm hn = go (comparison m n)
  where
    go : Comparison m n → contest_of n m ≡ exchanged (contest_of m n)
    go (decided First p) = wins Second n m hn hm p ∙ sym (ap exchanged (wins First m n hm hn p))
    go (decided Second p) = wins First n m hn hm p ∙ sym (ap exchanged (wins Second m n hm hn p))
    go (decided Both e) = wins Both n m hn hm (sym e) ∙ sym (ap exchanged (wins Both m n hm hn e))
    go (undecided b) = prefix_refused n m (⊎_elim inr inl b) ∙ sym (ap exchanged (prefix_refused m n b))

-- ---- as the code compares them

cmp_self : (m : List ℕ) → slice_cmp nat_cmp m m ≡ Equal
cmp_self m = ap₂ (slice_cmp nat_cmp) (sym (append-nil m)) (sym (append-nil m)) ∙ cmp_append m [] []

-- where they differ the byte there decides
cmp_less : {m n : List ℕ} (p : SmallerFirst m n) → slice_cmp nat_cmp m n ≡ Less
cmp_less p =
    ap₂ (slice_cmp nat_cmp) p.place.left p.place.right ∙ cmp_append p.place.common (p.x ∷ p.place.after_x) (p.y ∷ p.place.after_y)
    ∙ rw (← nat_cmp_is p.x p.y Less p.smaller)

cmp_greater : {m n : List ℕ} (p : SmallerFirst n m) → slice_cmp nat_cmp m n ≡ Greater
cmp_greater p =
    ap₂ (slice_cmp nat_cmp) p.place.right p.place.left ∙ cmp_append p.place.common (p.y ∷ p.place.after_y) (p.x ∷ p.place.after_x)
    ∙ rw (← nat_cmp_is p.y p.x Greater p.smaller)

compared_wins : (w : Winner) (m n : List ℕ) → Survives w m n → compared_of m n ≡ Ok w
compared_wins First m n p = rw (cmp_less p, no_start p.place (apart p), no_start (flip p.place) (λ e. apart p (sym e)))
compared_wins Second m n p = rw (cmp_greater p, no_start (flip p.place) (λ e. apart p (sym e)), no_start p.place (apart p))
compared_wins Both m n e = rw (e, cmp_self n)

-- where one is the beginning of the other, the shorter one comes first
starts_front : (m r : List ℕ) → starts_with nat_eq (m ++ r) m ≡ true
starts_front m r = ap (starts_with nat_eq (m ++ r)) (sym (append-nil m)) ∙ starts_append m r []

cmp_front : (m : List ℕ) (y : ℕ) (r : List ℕ) → slice_cmp nat_cmp m (m ++ (y ∷ r)) ≡ Less
cmp_front m y r = ap (λ (l : List ℕ). slice_cmp nat_cmp l (m ++ (y ∷ r))) (sym (append-nil m)) ∙ cmp_append m [] (y ∷ r)

cmp_back : (m : List ℕ) (y : ℕ) (r : List ℕ) → slice_cmp nat_cmp (m ++ (y ∷ r)) m ≡ Greater
cmp_back m y r = ap (slice_cmp nat_cmp (m ++ (y ∷ r))) (sym (append-nil m)) ∙ cmp_append m (y ∷ r) []

compared_prefix : (m n : List ℕ) → Beginning m n ⊎ Beginning n m → compared_of m n ≡ Err (refused MessagePrefix 0)
compared_prefix m n (inl b) = rw b.text (go b.rest b.some)
  where
    go : (r : List ℕ) → 0 < length r → compared_of m (m ++ r) ≡ Err (refused MessagePrefix 0)
    go [] h = absurd (omega arith)
    go (y ∷ r) h = rw (cmp_front m y r, starts_front m (y ∷ r), or-true (starts_with nat_eq m (m ++ (y ∷ r))))
compared_prefix m n (inr b) = rw b.text (go b.rest b.some)
  where
    go : (r : List ℕ) → 0 < length r → compared_of (n ++ r) n ≡ Err (refused MessagePrefix 0)
    go [] h = absurd (omega arith)
    go (y ∷ r) h = rw (cmp_back n y r, starts_front n (y ∷ r))

pub compared : (m n : List ℕ) → AllBytes m → AllBytes n → compared_of m n ≡ contest_of m n
compared m n hm hn = go (comparison m n)
  where
    go : Comparison m n → compared_of m n ≡ contest_of m n
    go (decided w s) = compared_wins w m n s ∙ sym (wins w m n hm hn s)
    go (undecided b) = compared_prefix m n b ∙ sym (prefix_refused m n b)

-- of a function's two slices
pub slices_compared : (m n : List ℕ) → ((i : ℕ) → Fits w8 (get_or m i 0)) → ((i : ℕ) → Fits w8 (get_or n i 0)) → compared_of m n ≡ contest_of m n
slices_compared m n hm hn = compared m n (λ i. omega (arith, hm i)) (λ i. omega (arith, hn i))
