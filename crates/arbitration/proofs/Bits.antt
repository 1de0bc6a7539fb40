-- The bits of a byte and of a message: their number, the value that they have, and where those of two bytes part.
-- Assumes nothing.
use Prim.Native.Nat.{ℕ, zero, suc, ◌+◌, ◌*◌, ◌/◌, ◌%◌, ◌^◌, ◌<◌}
use mathlib.Core.Path.{◌≡◌, refl, sym, ap, ap₂, ◌∙◌}
use mathlib.Core.Bool.{Bool, true, false}
use mathlib.Core.List.{List, [], ◌∷◌, ◌++◌, append_assoc}
use native.Mathlib.Nat.{mod-lt, mod-one, mod-eq_of_lt, pow-succ'}
use native.Mathlib.Omega.{arith}
use lib.Arith.{mod-mul}
use lib.Dec.{eqb, lit<}
use lib.ListN.{length, length-append}
use lib.Pow.{pow_pos}
use lib.Seq.{take_at, drop_at}
use borrow.Author.Tests.{eqb-true, eqb-false}
use Rattle.memory.specs.Bytes.{bit_of, one_if, AllBytes}
use Rattle.arbitration.specs.Line.{bits_from, bits_of}
use Rattle.arbitration.specs.Survivor.{SameUpTo, value_of, bytes_in}

-- ---- lengths

from_length : (n x : ℕ) → length (bits_from n x) ≡ n
unfolding bits_from
from_length zero x = refl
from_length (suc n) x = ap suc (from_length n x)

pub bits_length : (m : List ℕ) → length (bits_of m) ≡ 8 * length m
unfolding bits_of
bits_length [] = refl
bits_length (x ∷ m) = rw (length-append, from_length 8 x, bits_length m) (omega arith)

bits_append : (m n : List ℕ) → bits_of (m ++ n) ≡ bits_of m ++ bits_of n
unfolding bits_of
bits_append [] n = refl
bits_append (x ∷ m) n = rw (bits_append m n, append_assoc)

-- ---- values

-- the top bit, and what is left of the number without it
bit_value : (n x : ℕ) → x / 2 ^ n % 2 ≡ one_if (bit_of n x)
bit_value n x = go (eqb (x / 2 ^ n % 2) 1) refl
  where
    go : (b : Bool) → eqb (x / 2 ^ n % 2) 1 ≡ b → x / 2 ^ n % 2 ≡ one_if b
    go true e = eqb-true _ _ e
    go false e = omega (arith, eqb-false (x / 2 ^ n % 2) 1 e, mod-lt (x / 2 ^ n) {m = 2} (lit< tt))

top_bit : (n x : ℕ) → x % 2 ^ suc n ≡ one_if (bit_of n x) * 2 ^ n + x % 2 ^ n
top_bit n x =
    ap (λ (p : ℕ). x % p) (pow-succ' 2 n) ∙ mod-mul x {m = 2} {c = 2 ^ n} (lit< tt) (pow_pos n) ∙ ap (λ (b : ℕ). b * 2 ^ n + x % 2 ^ n) (bit_value n x)

value_bits : (n x : ℕ) → value_of (bits_from n x) ≡ x % 2 ^ n
unfolding value_of bits_from
value_bits zero x = sym (mod-one x)
value_bits (suc n) x = rw (from_length n x, value_bits n x) (sym (top_bit n x))

-- a message's bits, eight by eight, give its bytes back
pub bytes_back : (m : List ℕ) → AllBytes m → bytes_in (length m) (bits_of m) ≡ m
unfolding bytes_in bits_of
bytes_back [] h = refl
bytes_back (x ∷ m) h =
    let front = take_at (bits_from 8 x) (bits_of m) 8 (from_length 8 x) in
    let back = drop_at (bits_from 8 x) (bits_of m) 8 (from_length 8 x) in
    ap₂ {C = List ℕ} (λ y ys. y ∷ ys) (ap value_of front ∙ value_bits 8 x ∙ mod-eq_of_lt (h 0)) (ap (bytes_in (length m)) back ∙ bytes_back m (λ i. h (suc i)))

-- ---- where two lists part

module _ {A : Type 0} {x y : A} where
  pub parted_here : (r s : List A) → SameUpTo (x ∷ r) (y ∷ s) x y
  parted_here r s = record { common = []; after_x = r; after_y = s; left = refl; right = refl }

  -- with the same before them, and anything behind them
  pub before : (c : List A) {m n : List A} → SameUpTo m n x y → SameUpTo (c ++ m) (c ++ n) x y
  before c p =
      record {
        common = c ++ p.common;
        after_x = p.after_x;
        after_y = p.after_y;
        left = rw (p.left, append_assoc);
        right = rw (p.right, append_assoc);
      }

  behind : (r s : List A) {m n : List A} → SameUpTo m n x y → SameUpTo (m ++ r) (n ++ s) x y
  behind r s p =
      record {
        common = p.common;
        after_x = p.after_x ++ r;
        after_y = p.after_y ++ s;
        left = rw (p.left, append_assoc);
        right = rw (p.right, append_assoc);
      }

-- ---- where the bits part: the smaller number is the one that has 0 there

abbrev pub Parts : (xs ys : List Bool) → Type 0
Parts xs ys = SameUpTo xs ys false true

from_parts : (n x y : ℕ) → x % 2 ^ n < y % 2 ^ n → Parts (bits_from n x) (bits_from n y)
unfolding bits_from
from_parts zero x y h = absurd (omega (arith, mod-one x, mod-one y))
from_parts (suc n) x y h = go (bit_of n x) (bit_of n y) (rw (top_bit n x, top_bit n y) at h) (from_parts n x y)
  where
    go : (b c : Bool) → one_if b * 2 ^ n + x % 2 ^ n < one_if c * 2 ^ n + y % 2 ^ n
        → (x % 2 ^ n < y % 2 ^ n → Parts (bits_from n x) (bits_from n y)) → Parts (b ∷ bits_from n x) (c ∷ bits_from n y)
    go true true g below = before (true ∷ []) (below (omega arith))
    go true false g below = absurd (omega (arith, mod-lt y {m = 2 ^ n} (pow_pos n)))
    go false true g below = parted_here (bits_from n x) (bits_from n y)
    go false false g below = before (false ∷ []) (below (omega arith))

-- the same of two messages that part at bytes x and y
pub messages_part : (c : List ℕ) (x y : ℕ) (r s : List ℕ) → x < 256 → y < 256 → x < y → Parts (bits_of (c ++ (x ∷ r))) (bits_of (c ++ (y ∷ s)))
unfolding bits_of
messages_part c x y r s hx hy h =
    let p = from_parts 8 x y (rw (mod-eq_of_lt hx, mod-eq_of_lt hy) h) in
    rw (bits_append c (x ∷ r), bits_append c (y ∷ s)) (before (bits_of c) (behind (bits_of r) (bits_of s) p))
