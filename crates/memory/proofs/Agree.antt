-- Two lines of bytes that agree, in a sense that every store keeps and that gives the bytes by which an event goes: a power cycle and a page
-- leave them so. Lines with the same open bytes agree so (proofs/View), and so do lines that differ in bits that act on nothing (crate
-- device).
-- Assumes nothing.
use Prim.Native.Nat.{ℕ, suc, ◌+◌, ◌*◌, ◌/◌, ◌<◌}
use mathlib.Core.Path.{◌≡◌, refl, subst, fun_ext}
use mathlib.Core.Bool.{Bool, true, false, cond, ◌&&◌, ◌||◌}
use mathlib.Core.List.{List, [], ◌∷◌}
use native.Mathlib.Omega.{arith}
use lib.Dec.{eqb}
use lib.ListN.{get_or, set, replicate}
use lib.Seq.{sets}
use Rattle.memory.specs.Bytes.{bit_of, mask_of}
use Rattle.memory.specs.Access.{place_of, select_of, control_of, class_of, reach_of, write_class, writable_at}
use Rattle.memory.specs.Page.{put_of, page_of}
use Rattle.memory.specs.Power.{cycled_bytes}
use Rattle.memory.specs.declared.Class.{Class}
use Rattle.memory.specs.declared.Class.TheVariants.{Eeprom, Status, Hidden, Free, Flags, FastFlags, Entry, Upper}
use Rattle.memory.proofs.Bools.{in_range_lem}
use Rattle.memory.proofs.Shown.{guiding}
use Rattle.memory.proofs.Stored.{page_keeps}

pub lower_guiding : (p : ℕ) → p < 0x80 → guiding p ≡ true
lower_guiding p h = rw (in_range_lem 0x000 0x07F p (omega arith) (omega arith))

-- the bits of E8h that act
abbrev pub controlling : ℕ → Bool
controlling n = eqb n 5 || eqb n 2 || eqb n 1

pub record Agreement (R : List ℕ → List ℕ → Type 0) : Type 0 where
  pub store : (x y : List ℕ) (i v : ℕ) → R x y → R (set x i v) (set y i v)
  pub byte : (x y : List ℕ) → R x y → (p : ℕ) → guiding p ≡ true → get_or x p 0 ≡ get_or y p 0
  pub bit : (x y : List ℕ) → R x y → (n : ℕ) → controlling n ≡ true → bit_of n (control_of x) ≡ bit_of n (control_of y)

-- E8h acts on what may be written by bits 5 and 1
class_same : (k : Class) (l c d : ℕ) (reached : Bool) → bit_of 5 c ≡ bit_of 5 d → bit_of 1 c ≡ bit_of 1 d → write_class k l c reached ≡ write_class k l d reached
class_same Eeprom l c d reached e f = refl
class_same Status l c d reached e f = refl
class_same Hidden l c d reached e f = refl
class_same Free l c d reached e f = refl
class_same Flags l c d reached e f = rw e
class_same FastFlags l c d reached e f = rw f
class_same Entry l c d reached e f = refl
class_same Upper l c d reached e f = refl

module _ (R : List ℕ → List ℕ → Type 0) (A : Agreement R) where
  -- a byte that is made from what stood in its place
  pub put_agree : (x y : List ℕ) (f : ℕ → ℕ) (i : ℕ) → guiding i ≡ true → R x y → R (set x i (f (get_or x i 0))) (set y i (f (get_or y i 0)))
  put_agree x y f i g h = rw (← A.byte x y h i g) (A.store x y i (f (get_or x i 0)) h)

  pub chosen_agree : (c : Bool) (x y u v : List ℕ) → R x y → R u v → R (cond c x u) (cond c y v)
  chosen_agree true x y u v h g = h
  chosen_agree false x y u v h g = g

  sets_agree : (vs x y : List ℕ) (i : ℕ) → R x y → R (sets x i vs) (sets y i vs)
  sets_agree [] x y i h = h
  sets_agree (v ∷ vs) x y i h = sets_agree vs (set x i v) (set y i v) (suc i) (A.store x y i v h)

  pub cycled_agree : (x y : List ℕ) → R x y → R (cycled_bytes x) (cycled_bytes y)
  unfolding cycled_bytes
  cycled_agree x y h =
      A.store _ _ 0x1E8 0x04
      (A.store _ _ 0x70 0x10
      (sets_agree (0xFF ∷ 0xFF ∷ 0xFF ∷ 0xFF ∷ 0x00 ∷ []) _ _ 0x7B (sets_agree (replicate 9 0x00) _ _ 0x6F (sets_agree (replicate 14 0x00) x y 0x60 h))))

  module _ (x y : List ℕ) (h : R x y) where
    writes_agree : (l s : ℕ) → writable_at l (control_of x) s ≡ writable_at l (control_of y) s
    unfolding writable_at
    writes_agree l s = fun_ext (λ a. class_same (class_of a) l (control_of x) (control_of y) (reach_of l s a) (A.bit x y h 5 refl) (A.bit x y h 1 refl))

    pub page_agree : (l p mask : ℕ) (page : List ℕ)
        → R (page_of l (control_of x) (select_of x) p mask page x) (page_of l (control_of y) (select_of y) p mask page y)
    page_agree l p mask page =
        let s = select_of x in
        let base = p / 8 * 8 in
        rw (← A.byte x y h 0x7F refl)
        (subst
        (λ (w : ℕ → Bool). R (page_of l (control_of x) s p mask page x) (put_of (mask_of (λ (i : ℕ). bit_of i mask && w (base + i)) 8) (place_of s base) page 8 y))
        (writes_agree l s)
        (page_keeps l (control_of x) s p mask page R (λ k x y g w. A.store x y (place_of s (base + k)) (get_or page k 0)) x y h))
