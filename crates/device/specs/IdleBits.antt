-- Document 01, E8h of table 03h: "other bits are stored and act on nothing"; document 02, 2.4, says the same of C9h of tables 04h and 05h.
-- What it means, of two devices that differ in such bits alone.
use Rattle.std.specs.Prelude.{ℕ, ◌≡◌, Bool, true, false, ◌&&◌, ◌||◌, List, [], ◌∷◌, leb, eqb, length, get_or}
use Prim.{Unit}
use Rattle.memory.specs.Bytes.{bit_of}
use Rattle.memory.specs.Access.{place_of, select_of, level_in}
use Rattle.letters.specs.Letters.{Known, decode_of}
use Rattle.letters.specs.declared.Event.TheVariants.{Read}
use Rattle.letters.specs.declared.Raw.{Raw}
use Rattle.device.specs.Bus.{is_reading}
use Rattle.device.specs.Calls.{apply_of}
use Rattle.device.specs.Run.{after_of, replies_of}
use Rattle.device.specs.Told.{outputs}
use Rattle.device.specs.declared.Device.{Device}

-- the places of the bytes that have such bits: E8h of table 03h, C9h of tables 04h and 05h
abbrev pub has_idle : ℕ → Bool
has_idle p = eqb p 0x1E8 || (eqb p 0x249 || eqb p 0x2C9)

-- whether bit n of the byte at such a place acts: of E8h bits 5, 2 and 1; of C9h bit 0
abbrev pub acts_at : ℕ → ℕ → Bool
acts_at p n = eqb p 0x1E8 && (eqb n 5 || eqb n 2 || eqb n 1) || (eqb p 0x249 || eqb p 0x2C9) && eqb n 0

-- two memories that have the same bytes, but for bits that act on nothing
pub record SameActing (x y : List ℕ) : Type 0 where
  pub size : length x ≡ length y
  pub bytes : (p : ℕ) → has_idle p ≡ false → get_or x p 0 ≡ get_or y p 0
  pub bits : (p n : ℕ) → acts_at p n ≡ true → bit_of n (get_or x p 0) ≡ bit_of n (get_or y p 0)

-- two devices that are the same but for such bits
pub record SameButIdle (a b : Device) : Type 0 where
  pub bytes : SameActing a.memory.bytes b.memory.bytes
  pub password2 : a.memory.password2 ≡ b.memory.password2
  pub asel : a.memory.asel ≡ b.memory.asel
  pub internal : a.internal ≡ b.internal

-- whether an R gives one of those bytes: in reading, at level 2, with the pointer at E8h under select 03h, or at C9h under 04h or 05h
abbrev pub reads_idle : Device → Bool
reads_idle d =
    is_reading d.internal.phase && (leb 2 (level_in d.memory) && has_idle (place_of (select_of d.memory.bytes) d.internal.pointer))

-- no event of the list is such an R
unfoldable pub NoIdleRead : Device → List Raw → Type 0
NoIdleRead d [] = Unit
NoIdleRead d (r ∷ rs) = ((last : Bool) → decode_of r ≡ Known (Read last) → reads_idle d ≡ false) × NoIdleRead (apply_of d r).device rs

-- what is found of devices a and b after events rs
pub record IdleAfter (a b : Device) (rs : List Raw) : Type 0 where
  pub same : SameButIdle (after_of a rs) (after_of b rs)
  pub outputs : outputs (after_of a rs) ≡ outputs (after_of b rs)
  pub replies : NoIdleRead a rs → replies_of a rs ≡ replies_of b rs

-- the statement, about any list: two devices that differ in bits that act on nothing differ in no more after it, give the same outputs, and
-- answer alike, unless an R gives such a byte itself
abbrev pub IdleBits : Type 0
IdleBits = (a b : Device) (rs : List Raw) → SameButIdle a b → IdleAfter a b rs
