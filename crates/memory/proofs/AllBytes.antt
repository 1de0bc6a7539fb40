-- Lists of bytes stay lists of bytes: whatever is put together from bytes, and a memory whose bytes are replaced by bytes.
-- Assumes nothing.
use Prim.Native.Nat.{ℕ, zero, suc, ◌<◌}
use mathlib.Core.Path.{◌≡◌}
use mathlib.Core.Bool.{Bool, true, false, cond}
use mathlib.Core.List.{List, [], ◌∷◌, ◌++◌}
use native.Mathlib.Omega.{arith}
use lib.ListN.{get_or, take, drop, set, replicate}
use lib.Seq.{sets}
use Rattle.memory.specs.Bytes.{AllBytes}
use Rattle.memory.specs.Access.{select_of, place_of, class_of, reach_of, read_class, read_at}
use Rattle.memory.specs.Page.{page_of}
use Rattle.memory.specs.Power.{cycled_lower, cycled_bytes}
use Rattle.memory.specs.Image.{image_bytes, image_memory, load_of}
use Rattle.memory.specs.declared.Class.{Class}
use Rattle.memory.specs.declared.Class.TheVariants.{Eeprom, Status, Hidden, Free, Flags, FastFlags, Entry, Upper}
use Rattle.memory.specs.declared.Memory.{Memory}
use Rattle.std.specs.Prelude.{Ok}
use Rattle.memory.proofs.Stored.{page_keeps}
use Rattle.memory.proofs.Whole.{loaded_as}

-- ---- lists

none_bytes : AllBytes []
none_bytes i = omega arith

more_bytes : (x : ℕ) (l : List ℕ) → x < 256 → AllBytes l → AllBytes (x ∷ l)
more_bytes x l h g zero = h
more_bytes x l h g (suc i) = g i

pub append_bytes : (l m : List ℕ) → AllBytes l → AllBytes m → AllBytes (l ++ m)
append_bytes [] m h g = g
append_bytes (x ∷ l) m h g = more_bytes x (l ++ m) (h 0) (append_bytes l m (λ i. h (suc i)) g)

take_bytes : (n : ℕ) (l : List ℕ) → AllBytes l → AllBytes (take n l)
take_bytes zero l h = none_bytes
take_bytes (suc n) [] h = none_bytes
take_bytes (suc n) (x ∷ l) h = more_bytes x (take n l) (h 0) (take_bytes n l (λ i. h (suc i)))

pub drop_bytes : (n : ℕ) (l : List ℕ) → AllBytes l → AllBytes (drop n l)
drop_bytes zero l h = h
drop_bytes (suc n) [] h = none_bytes
drop_bytes (suc n) (x ∷ l) h = drop_bytes n l (λ i. h (suc i))

pub replicate_bytes : (n x : ℕ) → x < 256 → AllBytes (replicate n x)
replicate_bytes zero x h = none_bytes
replicate_bytes (suc n) x h = more_bytes x (replicate n x) h (replicate_bytes n x h)

pub set_bytes : (l : List ℕ) (i x : ℕ) → AllBytes l → x < 256 → AllBytes (set l i x)
set_bytes [] i x h g = h
set_bytes (y ∷ l) zero x h g = more_bytes x l g (λ j. h (suc j))
set_bytes (y ∷ l) (suc i) x h g = more_bytes y (set l i x) (h 0) (set_bytes l i x (λ j. h (suc j)) g)

sets_bytes : (vs l : List ℕ) (i : ℕ) → AllBytes l → AllBytes vs → AllBytes (sets l i vs)
sets_bytes [] l i h g = h
sets_bytes (x ∷ vs) l i h g = sets_bytes vs (set l i x) (suc i) (set_bytes l i x h (g 0)) (λ j. g (suc j))

pub cond_bytes : (b : Bool) (l m : List ℕ) → AllBytes l → AllBytes m → AllBytes (cond b l m)
cond_bytes true l m h g = h
cond_bytes false l m h g = g

-- ---- the memory

pub page_bytes : (l control s p mask : ℕ) (page b : List ℕ) → AllBytes page → AllBytes b → AllBytes (page_of l control s p mask page b)
page_bytes l control s p mask page b g h =
    page_keeps l control s p mask page (λ x y. AllBytes x) (λ k x y n w r. set_bytes x _ (get_or page k 0) r (g k)) b b h

pub cycled_bytes_lem : (b : List ℕ) → AllBytes b → AllBytes (cycled_bytes b)
unfolding cycled_bytes
cycled_bytes_lem b h =
    let entry : List ℕ = 0xFF ∷ 0xFF ∷ 0xFF ∷ 0xFF ∷ 0x00 ∷ [] in
    let x = sets b 0x60 (replicate 14 0x00) in
    let y = sets x 0x6F (replicate 9 0x00) in
    let p = sets_bytes (replicate 14 0x00) b 0x60 h (replicate_bytes 14 0x00 (omega arith)) in
    let q = sets_bytes (replicate 9 0x00) x 0x6F p (replicate_bytes 9 0x00 (omega arith)) in
    let e = append_bytes (replicate 4 0xFF) (0x00 ∷ []) (replicate_bytes 4 0xFF (omega arith)) (replicate_bytes 1 0x00 (omega arith)) in
    set_bytes (set (cycled_lower b) 0x70 0x10) 0x1E8 0x04
    (set_bytes (cycled_lower b) 0x70 0x10 (sets_bytes entry y 0x7B q e) (omega arith))
    (omega arith)

pub loaded_bytes : (image : List ℕ) (m : Memory) → load_of image ≡ Ok m → AllBytes image → AllBytes m.bytes
unfolding image_memory image_bytes
loaded_bytes image m e h =
    let lower = take 96 image ++ replicate 32 0 in
    let first = take 384 (drop 96 image) in
    let last = take 256 (drop 485 image) in
    let x = append_bytes (take 96 image) (replicate 32 0) (take_bytes 96 image h) (replicate_bytes 32 0 (omega arith)) in
    let y = append_bytes lower first x (take_bytes 384 (drop 96 image) (drop_bytes 96 image h)) in
    rw (← (loaded_as image m e).1) (cycled_bytes_lem (image_bytes image) (append_bytes (lower ++ first) last y (take_bytes 256 (drop 485 image) (drop_bytes 485 image h))))

-- what is read is a byte
class_byte : (c : Class) (reached : Bool) (x : ℕ) → x < 256 → read_class c reached x < 256
class_byte Eeprom reached x h = h
class_byte Status reached x h = h
class_byte Hidden reached x h = omega arith
class_byte Free reached x h = h
class_byte Flags reached x h = h
class_byte FastFlags reached x h = h
class_byte Entry reached x h = omega arith
class_byte Upper true x h = h
class_byte Upper false x h = omega arith

pub read_byte : (l : ℕ) (b : List ℕ) (a : ℕ) → AllBytes b → read_at l b a < 256
unfolding read_at
read_byte l b a h = let s = select_of b in class_byte (class_of a) (reach_of l s a) (get_or b (place_of s a) 0) (h (place_of s a))
