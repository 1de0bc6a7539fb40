-- A bit that is set, and masks bit by bit.
-- Assumes nothing.
use mathlib.Core.Path.{◌≡◌, refl, ◌∙◌}
use mathlib.Core.Logic.{⊎_elim}
use mathlib.Core.Bool.{Bool, true, false, cond, ◌||◌, or-true, or-false}
use Prim.Native.Nat.{ℕ, zero, suc, ◌-◌, ◌+◌, ◌*◌, ◌/◌, ◌%◌, ◌^◌, ◌≤◌, ◌<◌, max}
use native.Mathlib.Nat.{eq-zero-or-pos, mod-lt}
use native.Mathlib.Omega.{arith}
use lib.Bits.{bit_or, or_shr, or_step, or_lt}
use lib.Dec.{T, eqb, eqb→eq, lit<}
use lib.Pow.{pow-lt}
use borrow.Author.Tests.{eq-eqb, ne_eqb}
use Rattle.memory.specs.Bytes.{bit_of, one_if, with_bit, mask_of}
use Rattle.memory.proofs.Bools.{same, same→eq}
use Rattle.memory.proofs.Range.{every, at}

-- ---- one bit

-- the bits of 2 ^ i, computed for every place of a byte
abbrev one_bit : ℕ → ℕ → Bool
one_bit i j = eqb (2 ^ i / 2 ^ j % 2) (one_if (eqb i j))

power_bit : (i j : ℕ) → i < 8 → j < 8 → 2 ^ i / 2 ^ j % 2 ≡ one_if (eqb i j)
power_bit i j h g =
    let row : T (every (one_bit i) 0 8) = at (λ (k : ℕ). every (one_bit k) 0 8) 0 8 tt i (omega arith) (omega arith) in
    eqb→eq (2 ^ i / 2 ^ j % 2) (one_if (eqb i j)) (at (one_bit i) 0 8 row j (omega arith) (omega arith))

-- the last bit of a number whose other bits are n
last_bit : (n p : ℕ) (b : Bool) → p < 2 → eqb ((n * 2 + max p (one_if b)) % 2) 1 ≡ (eqb p 1 || b)
last_bit n zero true h = let e : (n * 2 + 1) % 2 ≡ 1 = omega arith in rw e
last_bit n zero false h = let e : (n * 2 + 0) % 2 ≡ 0 = omega arith in rw e
last_bit n (suc zero) true h = let e : (n * 2 + 1) % 2 ≡ 1 = omega arith in rw e
last_bit n (suc zero) false h = let e : (n * 2 + 1) % 2 ≡ 1 = omega arith in rw e
last_bit n (suc (suc p)) b h = absurd (omega arith)

pub with_bit_lem : (i j x : ℕ) → i < 8 → j < 8 → bit_of j (with_bit i x) ≡ (bit_of j x || eqb i j)
unfolding with_bit
with_bit_lem i j x h g =
    rw (or_shr x (2 ^ i) j, or_step (x / 2 ^ j) (2 ^ i / 2 ^ j), power_bit i j h g)
    (last_bit (bit_or (x / 2 ^ j / 2) (2 ^ i / 2 ^ j / 2)) (x / 2 ^ j % 2) (eqb i j) (mod-lt (x / 2 ^ j) (lit< tt)))

pub with_fits : (i x : ℕ) → i < 8 → x < 256 → with_bit i x < 256
unfolding with_bit
with_fits i x h g = or_lt 8 x (2 ^ i) g (pow-lt {j = 8} h)

-- ---- a mask

none : (j : ℕ) → j < 8 → bit_of j 0 ≡ false
none j h = same→eq (bit_of j 0) false (at (λ (k : ℕ). same (bit_of k 0) false) 0 8 tt j (omega arith) (omega arith))

module _ (t : ℕ → Bool) where
  -- it has no bit from n on
  above : (n k : ℕ) → n ≤ k → k < 8 → bit_of k (mask_of t n) ≡ false
  unfolding mask_of
  above zero k h g = none k g
  above (suc n) k h g = go (t n) (above n k (omega arith) g)
    where
      go : (c : Bool) → bit_of k (mask_of t n) ≡ false → bit_of k (cond c (with_bit n (mask_of t n)) (mask_of t n)) ≡ false
      go true e = with_bit_lem n k (mask_of t n) (omega arith) g ∙ rw (e, ne_eqb n k (λ z. omega arith))
      go false e = e

  -- and below n those that pass the test
  pub mask_bit : (n k : ℕ) → k < n → n ≤ 8 → bit_of k (mask_of t n) ≡ t k
  unfolding mask_of
  mask_bit zero k h g = absurd (omega arith)
  mask_bit (suc n) k h g =
      ⊎_elim
      (λ z. let e : k ≡ n = omega arith in rw e (own (t n)))
      (λ p. let q : k < n = omega arith in earlier (t n) q (mask_bit n k q (omega arith)))
      (eq-zero-or-pos (n - k))
    where
      own : (c : Bool) → bit_of n (cond c (with_bit n (mask_of t n)) (mask_of t n)) ≡ c
      own true = with_bit_lem n n (mask_of t n) (omega arith) (omega arith) ∙ rw (eq-eqb n n refl) (or-true (bit_of n (mask_of t n)))
      own false = above n n (omega arith) (omega arith)

      earlier : (c : Bool) → k < n → bit_of k (mask_of t n) ≡ t k → bit_of k (cond c (with_bit n (mask_of t n)) (mask_of t n)) ≡ t k
      earlier true q e = with_bit_lem n k (mask_of t n) (omega arith) (omega arith) ∙ rw (e, ne_eqb n k (λ z. omega arith)) (or-false (t k))
      earlier false q e = e

  -- a mask that is not empty has a number that passes
  pub mask_some : {A : Type 0} (n : ℕ) → (mask_of t n ≡ 0 → ⊥) → ((k : ℕ) → k < n → t k ≡ true → A) → A
  unfolding mask_of
  mask_some zero h f = absurd (h refl)
  mask_some {A} (suc n) h f = go (t n) refl (λ g. mask_some n g (λ k x. f k (omega arith))) h
    where
      go : (c : Bool) → t n ≡ c → ((mask_of t n ≡ 0 → ⊥) → A) → (cond c (with_bit n (mask_of t n)) (mask_of t n) ≡ 0 → ⊥) → A
      go true e before h = f n (omega arith) e
      go false e before h = before h
