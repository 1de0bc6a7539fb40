-- Lines that agree (proofs/Agree of crate memory) agree after a sample, which answers the same; and as many flags are raised.
-- Assumes nothing.
use Prim.Native.Nat.{ℕ, ◌+◌, ◌-◌, ◌*◌, ◌/◌, ◌%◌, ◌≤◌}
use mathlib.Core.Path.{◌≡◌, refl}
use mathlib.Core.Bool.{true, or-true}
use mathlib.Core.List.{List}
use native.Mathlib.Omega.{arith}
use lib.Dec.{ltb}
use lib.ListN.{get_or}
use Rattle.memory.specs.Bytes.{within, bit_of, one_if, with_bit, field_of}
use Rattle.memory.specs.Access.{control_of}
use Rattle.memory.proofs.Agree.{lower_guiding, Agreement, put_agree, chosen_agree}
use Rattle.memory.proofs.Bools.{in_range_lem}
use Rattle.memory.proofs.Shown.{guiding}
use Rattle.readings.specs.Readings.{channel_number, reading_of, limits_of, put_flags, flagged_of, stored_reading, sampled_of, taken_of, band_of, trip_at, put_fast, fast_of}
use Rattle.readings.specs.Raised.{raised_after}
use Rattle.readings.specs.declared.Channel.{Channel}
use Rattle.readings.specs.declared.Channel.TheVariants.{Temperature, Supply, Bias, Transmitted, Received}
use Rattle.readings.specs.declared.FastChannel.{FastChannel}
use Rattle.readings.specs.declared.FastChannel.TheVariants.{FastBias, FastTransmitted, FastReceived}
use Rattle.readings.proofs.Places.{channel_le}
use Rattle.readings.proofs.Raised.{raised_same}

-- the trips, D8h to E7h
trip_range : (c : FastChannel) (b : ℕ) → (0x1D8 ≤ trip_at c (band_of b)) × (trip_at c (band_of b) ≤ 0x1E7)
trip_range FastBias b = (omega arith, omega arith)
trip_range FastTransmitted b = (omega arith, omega arith)
trip_range FastReceived b = (omega arith, omega arith)

trip_guiding : (c : FastChannel) (b : ℕ) → guiding (trip_at c (band_of b)) ≡ true
trip_guiding c b =
    let p = trip_at c (band_of b) in
    let r = trip_range c b in
    rw (in_range_lem 0x1D8 0x1E7 p r.0 r.1, or-true (within 0x1C8 0x1D0 p), or-true (within 0x180 0x1A9 p)) (or-true (within 0x000 0x07F p))

module _ (R : List ℕ → List ℕ → Type 0) (A : Agreement R) where
  module _ (x y : List ℕ) (h : R x y) where
    reading_agrees : (c : Channel) (raw : ℕ) → reading_of x c raw ≡ reading_of y c raw
    reading_agrees Temperature raw = refl
    reading_agrees Supply raw = simp (A.byte x y h)
    reading_agrees Bias raw = simp (A.byte x y h)
    reading_agrees Transmitted raw = simp (A.byte x y h)
    reading_agrees Received raw = simp (A.byte x y h)

    pub taken_agrees : (c : Channel) (raw : ℕ) → taken_of x c raw ≡ taken_of y c raw
    taken_agrees Temperature raw = rw (A.bit x y h 2 refl)
    taken_agrees Supply raw = rw (A.bit x y h 2 refl) (simp (A.byte x y h))
    taken_agrees Bias raw = rw (A.bit x y h 2 refl) (simp (A.byte x y h))
    taken_agrees Transmitted raw = rw (A.bit x y h 2 refl) (simp (A.byte x y h))
    taken_agrees Received raw = rw (A.bit x y h 2 refl) (simp (A.byte x y h))

    limits_agree : limits_of x ≡ limits_of y
    limits_agree = simp (A.byte x y h)

    stored_agree : (k v : ℕ) → R (stored_reading x k v) (stored_reading y k v)
    stored_agree k v =
        put_agree R A _ _ (with_bit (7 - k)) 0x6F refl
        (A.store _ _ (0x61 + 2 * k) (v % 256) (A.store x y (0x60 + 2 * k) (v / 256) h))

  flags_agree : (x y : List ℕ) (k f : ℕ) (a : ℕ) → a ≤ 0x74 → k ≤ 4 → R x y → R (put_flags x a k f) (put_flags y a k f)
  flags_agree x y k f a g le = put_agree R A x y (λ (b : ℕ). field_of (6 - 2 * (k % 4)) 2 b f) (a + k / 4) (lower_guiding (a + k / 4) (omega arith))

  flagged_agree : (x y : List ℕ) (limits : List (List ℕ)) (k v : ℕ) → k ≤ 4 → R x y → R (flagged_of x limits k v) (flagged_of y limits k v)
  unfolding flagged_of
  flagged_agree x y limits k v le h = flags_agree _ _ k _ 0x74 (omega arith) le (flags_agree x y k _ 0x70 (omega arith) le h)

  pub sampled_agree : (x y : List ℕ) (c : Channel) (raw : ℕ) → R x y → R (sampled_of x c raw) (sampled_of y c raw)
  unfolding sampled_of
  sampled_agree x y c raw h =
      let k = channel_number c in
      let v = reading_of x c raw in
      let stored = stored_agree x y h k v in
      rw (← reading_agrees x y h c raw, ← A.bit x y h 2 refl, ← A.bit x y h 5 refl, ← limits_agree _ _ stored)
      (chosen_agree R A (bit_of 2 (control_of x)) _ _ x y
      (chosen_agree R A (bit_of 5 (control_of x)) _ _ _ _ stored (flagged_agree _ _ (limits_of (stored_reading x k v)) k v (channel_le c) stored)) h)

  fast_put : (x y : List ℕ) (c : FastChannel) (f : ℕ) → R x y → R (put_fast x c f) (put_fast y c f)
  fast_put x y FastBias f = put_agree R A x y (λ (b : ℕ). field_of 3 1 b f) 0x72 refl
  fast_put x y FastTransmitted f = put_agree R A x y (λ (b : ℕ). field_of 1 1 b f) 0x72 refl
  fast_put x y FastReceived f = put_agree R A x y (λ (b : ℕ). field_of 7 1 b f) 0x73 refl

  pub fast_agree : (x y : List ℕ) (c : FastChannel) (v : ℕ) → R x y → R (fast_of x c v) (fast_of y c v)
  unfolding fast_of
  fast_agree x y c v h =
      let trip = trip_at c (band_of (get_or x 0x60 0)) in
      rw (← A.byte x y h 0x60 refl, ← A.byte x y h trip (trip_guiding c (get_or x 0x60 0)), ← A.bit x y h 1 refl)
      (chosen_agree R A (bit_of 1 (control_of x)) x y _ _ h (fast_put x y c (one_if (ltb (get_or x trip 0) v)) h))

  -- the number of raised flags after a change
  pub after_agrees : (n : ℕ) (x y u v : List ℕ) → R x y → R u v → raised_after n x u ≡ raised_after n y v
  unfolding raised_after
  after_agrees n x y u v h g =
      rw (
        raised_same x y (λ p lo hi. A.byte x y h p (lower_guiding p (omega arith))),
        raised_same u v (λ p lo hi. A.byte u v g p (lower_guiding p (omega arith))),
      )
