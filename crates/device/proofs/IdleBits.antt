-- Bits that are stored and act on nothing: two devices that differ in such bits alone stay so, and answer alike.
-- Assumes nothing.
use Rattle.std.specs.Prelude.{Ok}
use Prim.Native.Nat.{ℕ, zero, suc, ◌≤◌, ◌<◌}
use mathlib.Core.Path.{◌≡◌, refl, sym, ap, ap₂, ◌∙◌}
use mathlib.Core.Bool.{Bool, true, false, ◌&&◌, ◌||◌}
use mathlib.Core.List.{List, [], ◌∷◌}
use native.Mathlib.Omega.{arith}
use lib.Dec.{leb, eqb}
use lib.ListN.{length, get_or, set, length-set}
use lib.Seq.{get_or-set_same, get_or-set_other}
use borrow.Author.Tests.{eqb-true, eqb-false, ne_eqb, leb-false}
use Rattle.memory.specs.Bytes.{bit_of}
use Rattle.memory.specs.Access.{with_bytes, place_of, select_of, level_of, level_in, class_of, reach_of, read_class, read_at}
use Rattle.memory.specs.declared.Memory.{Memory}
use Rattle.memory.proofs.Agree.{Agreement}
use Rattle.memory.proofs.Bools.{true_right, or_elim, clash}
use Rattle.memory.proofs.Classes.{class_upper}
use Rattle.memory.proofs.Places.{lower_place, upper_place, halves, unreached}
use Rattle.memory.proofs.Shown.{guiding}
use Rattle.settings.proofs.Open.{SameTables}
use Rattle.letters.specs.Letters.{Decoded, Known, OutOfRange, UnknownLetter, decode_of}
use Rattle.letters.specs.declared.Event.TheVariants.{Read}
use Rattle.letters.specs.declared.Raw.{Raw}
use Rattle.device.specs.State.{with_memory}
use Rattle.device.specs.Step.{step_of}
use Rattle.device.specs.Calls.{Reply, applied_to, apply_of}
use Rattle.device.specs.Run.{after_of, replies_of}
use Rattle.device.specs.declared.Internal.{Internal}
use Rattle.device.specs.declared.Device.{Device}
use Rattle.device.specs.declared.Applied.{Applied}
use Rattle.device.proofs.Outside.{own_stepped}
use Rattle.device.proofs.Settings.{outputs_alone}
use Rattle.device.proofs.Steps.{SameStep, SameRead, step_agrees}
use Rattle.device.specs.IdleBits.{has_idle, acts_at, SameActing, SameButIdle, reads_idle, NoIdleRead, IdleAfter, IdleBits}

-- ---- the bytes

-- what is stored at one place of lines of one length
at_set : (x y : List ℕ) (i v : ℕ) → length x ≡ length y → get_or (set x i v) i 0 ≡ get_or (set y i v) i 0
at_set [] [] i v e = refl
at_set [] (b ∷ y) i v e = absurd (omega arith)
at_set (a ∷ x) [] i v e = absurd (omega arith)
at_set (a ∷ x) (b ∷ y) zero v e = refl
at_set (a ∷ x) (b ∷ y) (suc i) v e = at_set x y i v (omega arith)

-- what a byte has in common with another, it has after a store
set_common : {A : Type 0} (f : ℕ → A) (x y : List ℕ) (i v p : ℕ) → length x ≡ length y
    → f (get_or x p 0) ≡ f (get_or y p 0) → f (get_or (set x i v) p 0) ≡ f (get_or (set y i v) p 0)
set_common f x y i v p e h = go (eqb p i) refl
  where
    go : (c : Bool) → eqb p i ≡ c → f (get_or (set x i v) p 0) ≡ f (get_or (set y i v) p 0)
    go true c = rw (eqb-true p i c) (ap f (at_set x y i v e))
    go false c = rw (get_or-set_other x i p v 0 (eqb-false p i c), get_or-set_other y i p v 0 (eqb-false p i c)) h

set_same : (x y : List ℕ) (i v : ℕ) → SameActing x y → SameActing (set x i v) (set y i v)
set_same x y i v h =
    record {
      size = length-set x i v ∙ h.size ∙ sym (length-set y i v);
      bytes = λ p e. set_common (λ (b : ℕ). b) x y i v p h.size (h.bytes p e);
      bits = λ p n e. set_common (bit_of n) x y i v p h.size (h.bits p n e);
    }

-- what an event goes by has no such bits
guiding_plain : (p : ℕ) → guiding p ≡ true → has_idle p ≡ false
guiding_plain p e = rw (ne_eqb p 0x1E8 (apart 0x1E8 refl), ne_eqb p 0x249 (apart 0x249 refl), ne_eqb p 0x2C9 (apart 0x2C9 refl))
  where
    apart : (i : ℕ) → guiding i ≡ false → p ≡ i → ⊥
    apart i f q = clash (guiding p) e (ap guiding q ∙ f)

-- of E8h the bits that act are bits 5, 2 and 1
acting : Agreement SameActing
acting =
    record {
      store = set_same;
      byte = λ x y h p e. h.bytes p (guiding_plain p e);
      bit = λ x y h n e. h.bits 0x1E8 n (rw e);
    }

level_same : (x y p : List ℕ) → SameActing x y → level_of x p ≡ level_of y p
unfolding level_of
level_same x y p h = simp h.bytes

-- the entries, the manual value and the manual bit of tables 04h and 05h
tables_same : (x y : List ℕ) → SameActing x y → SameTables x y
unfolding place_of
tables_same x y h = record { bytes = λ s a lo hi f g. h.bytes (place_of s a) (plain s a lo hi f g); manual = manual }
  where
    plain : (s a : ℕ) → 4 ≤ s → s ≤ 5 → 0x80 ≤ a → a ≤ 0xC8 → has_idle (place_of s a) ≡ false
    plain s a lo hi f g =
        let q = upper_place s a f in
        rw (
          ne_eqb (place_of s a) 0x1E8 (λ e. omega arith),
          ne_eqb (place_of s a) 0x249 (λ e. omega arith),
          ne_eqb (place_of s a) 0x2C9 (λ e. omega arith),
        )

    manual : (s : ℕ) → 4 ≤ s → s ≤ 5 → bit_of 0 (get_or x (place_of s 0xC9) 0) ≡ bit_of 0 (get_or y (place_of s 0xC9) 0)
    manual s lo hi = go (eqb s 4) refl
      where
        go : (four : Bool) → eqb s 4 ≡ four → bit_of 0 (get_or x (place_of s 0xC9) 0) ≡ bit_of 0 (get_or y (place_of s 0xC9) 0)
        go true e = rw (eqb-true s 4 e) (h.bits 0x249 0 refl)
        go false e = let n = eqb-false s 4 e in let five : s ≡ 5 = omega (arith, n) in rw five (h.bits 0x2C9 0 refl)

-- below level 2 nothing behind table 01h is reached
idle_from : (p : ℕ) → has_idle p ≡ true → 0x1E8 ≤ p
idle_from p e =
    or_elim (eqb p 0x1E8) (eqb p 0x249 || eqb p 0x2C9) e
    (λ f. let q = eqb-true p 0x1E8 f in omega arith)
    (λ f. or_elim (eqb p 0x249) (eqb p 0x2C9) f (λ g. let q = eqb-true p 0x249 g in omega arith) (λ g. let q = eqb-true p 0x2C9 g in omega arith))

read_same : (x y : List ℕ) (l a : ℕ) → SameActing x y → (leb 2 l && has_idle (place_of (select_of x) a)) ≡ false → read_at l x a ≡ read_at l y a
unfolding read_at
read_same x y l a h n = rw (← h.bytes 0x7F refl) (go (has_idle (place_of s a)) refl)
  where
    s : ℕ
    s = select_of x

    go : (idle : Bool) → has_idle (place_of s a) ≡ idle → read_class (class_of a) (reach_of l s a) (get_or x (place_of s a) 0) ≡ read_class (class_of a) (reach_of l s a) (get_or y (place_of s a) 0)
    go false e = rw (h.bytes (place_of s a) e)
    go true e =
        let from = idle_from (place_of s a) e in
        let low = leb-false 2 l (sym (true_right (leb 2 l)) ∙ ap (λ (b : Bool). leb 2 l && b) (sym e) ∙ n) in
        halves a
        (λ g. let q = lower_place s a g in absurd (omega arith))
        (λ g.
        let q = upper_place s a g in
        rw (class_upper a g, unreached l s a (λ t. let one = t.first (omega arith) in omega arith)))

-- ---- events

-- what both devices have after an event, and if C the same reply
record SameReply (C : Type 0) (s t : Applied) : Type 0 where
  device : SameButIdle s.device t.device
  reply : C → s.reply ≡ t.reply

applied_idle : (a b : Device) (r : Decoded) → SameButIdle a b
    → SameReply ((last : Bool) → r ≡ Known (Read last) → reads_idle a ≡ false) (applied_to a r) (applied_to b r)
applied_idle a b (Known e) h =
    let x = a.memory.bytes in
    let y = b.memory.bytes in
    let l = level_in a.memory in
    let level : level_in b.memory ≡ l = sym (rw h.password2 (level_same x y b.memory.password2 h.bytes)) in
    let own : (d : Device) → (step_of d e).device.memory.password2 ≡ d.memory.password2 = λ d. ap (λ (m : Memory). m.password2) (own_stepped d e) in
    let s : SameStep SameActing ((last : Bool) → e ≡ Read last → SameRead l a b a.internal.phase) (step_of a e) (step_of b e) =
    rw level (step_agrees SameActing acting l a b e (record { bytes = h.bytes; asel = h.asel; internal = h.internal })) in
    record {
      device = record { bytes = s.device.bytes; password2 = own a ∙ h.password2 ∙ sym (own b); asel = s.device.asel; internal = s.device.internal };
      reply = λ c. ap Ok (s.answer (λ last q r. read_same x y l a.internal.pointer h.bytes (rw r at (c last (ap Known q)))));
    }
applied_idle a b OutOfRange h = record { device = h; reply = λ c. refl }
applied_idle a b UnknownLetter h = record { device = h; reply = λ c. refl }

after_idle : (rs : List Raw) (a b : Device) → SameButIdle a b → IdleAfter a b rs
unfolding apply_of after_of replies_of NoIdleRead
after_idle [] a b h =
    record { same = h; outputs = outputs_alone a b (tables_same a.memory.bytes b.memory.bytes h.bytes) (ap (λ (i : Internal). i.current) h.internal); replies = λ n. refl }
after_idle (r ∷ rs) a b h =
    let first = applied_idle a b (decode_of r) h in
    let rest = after_idle rs (applied_to a (decode_of r)).device (applied_to b (decode_of r)).device first.device in
    record {
      same = rest.same;
      outputs = rest.outputs;
      replies = λ n. ap₂ {C = List Reply} (λ y ys. y ∷ ys) (first.reply n.0) (rest.replies n.1);
    }

pub idle_bits : IdleBits
idle_bits a b rs h = after_idle rs a b h

-- such devices there are: one of those bytes may be any that has the same acting bits
pub idle_any : (d : Device) (p v : ℕ) → p < length d.memory.bytes → has_idle p ≡ true
    → ((n : ℕ) → acts_at p n ≡ true → bit_of n (get_or d.memory.bytes p 0) ≡ bit_of n v)
    → SameButIdle d (with_memory d (with_bytes d.memory (set d.memory.bytes p v)))
idle_any d p v g idle same = record { bytes = record { size = sym (length-set x p v); bytes = other; bits = λ q n e. go q n e (eqb q p) refl }; password2 = refl; asel = refl; internal = refl }
  where
    x : List ℕ
    x = d.memory.bytes

    other : (q : ℕ) → has_idle q ≡ false → get_or x q 0 ≡ get_or (set x p v) q 0
    other q e = sym (get_or-set_other x p q v 0 (λ z. clash (has_idle q) (ap has_idle z ∙ idle) e))

    go : (q n : ℕ) → acts_at q n ≡ true → (c : Bool) → eqb q p ≡ c → bit_of n (get_or x q 0) ≡ bit_of n (get_or (set x p v) q 0)
    go q n e true c = let z = eqb-true q p c in rw (z, get_or-set_same x p v 0 g) (same n (ap (λ (k : ℕ). acts_at k n) (sym z) ∙ e))
    go q n e false c = rw (get_or-set_other x p q v 0 (eqb-false q p c))
