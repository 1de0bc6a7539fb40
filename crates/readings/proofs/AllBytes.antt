-- A sample and a fast sample leave bytes.
-- Assumes nothing.
use Prim.Native.Nat.{ℕ, ◌+◌, ◌-◌, ◌*◌, ◌/◌, ◌%◌, ◌^◌, ◌<◌, ◌≤◌}
use mathlib.Core.Bool.{Bool, true, false, cond}
use mathlib.Core.List.{List, []}
use native.Mathlib.Nat.{div-le_self}
use native.Mathlib.Omega.{arith}
use lib.Dec.{ltb}
use lib.ListN.{get_or, set}
use Rattle.memory.specs.Bytes.{bit_of, with_bit, one_if, field_of, put_field, AllBytes}
use Rattle.memory.specs.Access.{control_of}
use Rattle.memory.proofs.AllBytes.{set_bytes, cond_bytes}
use Rattle.memory.proofs.Masks.{with_fits}
use Rattle.readings.specs.Readings.{channel_number, cleared_of, shift_of, reading_of, limits_of, order_of, flags_of, put_flags, flagged_of, stored_reading, sampled_of, taken_of, cut_of, band_of, trip_at, put_fast, fast_of}
use Rattle.readings.specs.declared.Channel.{Channel}
use Rattle.readings.specs.declared.Channel.TheVariants.{Temperature, Supply, Bias, Transmitted, Received}
use Rattle.readings.specs.declared.FastChannel.{FastChannel}
use Rattle.readings.specs.declared.FastChannel.TheVariants.{FastBias, FastTransmitted, FastReceived}

one_most : (b : Bool) → one_if b < 2
one_most true = omega arith
one_most false = omega arith

-- the two flags of a channel fit its two bits
pub flags_most : (k x high low : ℕ) → flags_of k x high low < 4
flags_most k x high low =
    let a = one_most (ltb (order_of k high) (order_of k x)) in
    let b = one_most (ltb (order_of k x) (order_of k low)) in
    omega arith

-- a reading has 16 bits
cleared_most : (b : List ℕ) (c : Channel) (raw : ℕ) → raw ≤ 65535 → cleared_of b (channel_number c) raw ≤ 65535
cleared_most b Temperature raw h = omega arith
cleared_most b Supply raw h = omega arith
cleared_most b Bias raw h = omega arith
cleared_most b Transmitted raw h = omega arith
cleared_most b Received raw h = omega arith

reading_most : (b : List ℕ) (c : Channel) (raw : ℕ) → raw ≤ 65535 → reading_of b c raw ≤ 65535
reading_most b c raw h =
    let x = cleared_of b (channel_number c) raw in
    omega (arith, cleared_most b c raw h, div-le_self x (2 ^ shift_of b c))

stored_bytes : (b : List ℕ) (k x : ℕ) → x ≤ 65535 → AllBytes b → AllBytes (stored_reading b k x)
stored_bytes b k x h g =
    let high = set b (0x60 + 2 * k) (x / 256) in
    let both = set high (0x61 + 2 * k) (x % 256) in
    let t = set_bytes high (0x61 + 2 * k) (x % 256) (set_bytes b (0x60 + 2 * k) (x / 256) g (omega arith)) (omega arith) in
    set_bytes both 0x6F (with_bit (7 - k) (get_or both 0x6F 0)) t (with_fits (7 - k) (get_or both 0x6F 0) (omega arith) (t 0x6F))

-- a field of two bits in byte i
two_bits : (l : List ℕ) (i n f : ℕ) → field_of n 2 (get_or l i 0) f < 256 → AllBytes l → AllBytes (put_field l i n 2 f)
two_bits l i n f h g = set_bytes l i (field_of n 2 (get_or l i 0) f) g h

put_flags_bytes : (l : List ℕ) (a : ℕ) (c : Channel) (f : ℕ) → f < 4 → AllBytes l → AllBytes (put_flags l a (channel_number c) f)
put_flags_bytes l a Temperature f h g = let x = g (a + 0 / 4) in two_bits l (a + 0 / 4) 6 f (omega arith) g
put_flags_bytes l a Supply f h g = let x = g (a + 1 / 4) in two_bits l (a + 1 / 4) 4 f (omega arith) g
put_flags_bytes l a Bias f h g = let x = g (a + 2 / 4) in two_bits l (a + 2 / 4) 2 f (omega arith) g
put_flags_bytes l a Transmitted f h g = let x = g (a + 3 / 4) in two_bits l (a + 3 / 4) 0 f (omega arith) g
put_flags_bytes l a Received f h g = let x = g (a + 4 / 4) in two_bits l (a + 4 / 4) 6 f (omega arith) g

flagged_bytes : (b : List ℕ) (limits : List (List ℕ)) (c : Channel) (x : ℕ) → AllBytes b → AllBytes (flagged_of b limits (channel_number c) x)
unfolding flagged_of
flagged_bytes b limits c x h =
    let k = channel_number c in
    let four = get_or limits k [] in
    let alarms = flags_of k x (get_or four 0 0) (get_or four 1 0) in
    let warnings = flags_of k x (get_or four 2 0) (get_or four 3 0) in
    put_flags_bytes (put_flags b 0x70 k alarms) 0x74 c warnings (flags_most k x (get_or four 2 0) (get_or four 3 0))
    (put_flags_bytes b 0x70 c alarms (flags_most k x (get_or four 0 0) (get_or four 1 0)) h)

pub sampled_bytes : (b : List ℕ) (c : Channel) (raw : ℕ) → raw ≤ 65535 → AllBytes b → AllBytes (sampled_of b c raw)
unfolding sampled_of
sampled_bytes b c raw h g =
    let k = channel_number c in
    let x = reading_of b c raw in
    let stored = stored_reading b k x in
    let t = stored_bytes b k x (reading_most b c raw h) g in
    let flagged = flagged_of stored (limits_of stored) k x in
    cond_bytes (bit_of 2 (control_of b)) (cond (bit_of 5 (control_of b)) stored flagged) b
    (cond_bytes (bit_of 5 (control_of b)) stored flagged t (flagged_bytes stored (limits_of stored) c x t)) g

pub taken_most : (b : List ℕ) (c : Channel) (raw : ℕ) → taken_of b c raw ≤ 2
taken_most b c raw = go (bit_of 2 (control_of b)) (cut_of b c raw)
  where
    go : (enabled cut : Bool) → cond enabled (cond cut 2 1) 0 ≤ 2
    go true true = omega arith
    go true false = omega arith
    go false cut = omega arith

put_fast_bytes : (b : List ℕ) (c : FastChannel) (f : ℕ) → f < 2 → AllBytes b → AllBytes (put_fast b c f)
put_fast_bytes b FastBias f h g = let x = g 0x72 in set_bytes b 0x72 (field_of 3 1 (get_or b 0x72 0) f) g (omega arith)
put_fast_bytes b FastTransmitted f h g = let x = g 0x72 in set_bytes b 0x72 (field_of 1 1 (get_or b 0x72 0) f) g (omega arith)
put_fast_bytes b FastReceived f h g = let x = g 0x73 in set_bytes b 0x73 (field_of 7 1 (get_or b 0x73 0) f) g (omega arith)

pub fast_bytes : (b : List ℕ) (c : FastChannel) (v : ℕ) → AllBytes b → AllBytes (fast_of b c v)
unfolding fast_of
fast_bytes b c v h =
    let f = one_if (ltb (get_or b (trip_at c (band_of (get_or b 0x60 0))) 0) v) in
    cond_bytes (bit_of 1 (control_of b)) b (put_fast b c f) h (put_fast_bytes b c f (one_most (ltb (get_or b (trip_at c (band_of (get_or b 0x60 0))) 0) v)) h)
