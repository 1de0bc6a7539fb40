-- Document 01, "Readings and flags", worked by hand: every flag, raised and not, and 6Fh. What the definitions give, beside what the paper
-- says.
use Prim.Native.Nat.{ℕ, ◌+◌, ◌-◌}
use mathlib.Core.Path.{◌≡◌, refl}
use mathlib.Core.List.{List, [], ◌∷◌, ◌++◌, map}
use lib.ListN.{get_or, set, replicate}
use lib.Seq.{sets}
use Rattle.memory.specs.Bytes.{with_bit, word_at}
use Rattle.memory.specs.Access.{places}
use Rattle.readings.specs.Readings.{flagged_of, sampled_of, fast_of}
use Rattle.readings.specs.declared.Channel.{Channel}
use Rattle.readings.specs.declared.Channel.TheVariants.{Temperature, Supply, Bias, Transmitted, Received}
use Rattle.readings.specs.declared.FastChannel.{FastChannel}
use Rattle.readings.specs.declared.FastChannel.TheVariants.{FastBias, FastTransmitted, FastReceived}

-- a row of a worked table: what the definitions give, and what the papers say
pub record Row : Type 0 where
  pub found : List ℕ
  pub said : List ℕ

abbrev pub row : List ℕ → List ℕ → Row
row found said = record { found = found; said = said }

-- 80h to A7h of table 03h: the limits of T, V, B, P, R, each in the order high alarm, low alarm, high warning, low warning. No two are
-- equal. T's low ones are negative, -31 and -15 °C
abbrev limits : List ℕ
limits =
    (0x50 ∷ 0x50 ∷ 0xE0 ∷ 0xE0 ∷ 0x40 ∷ 0x40 ∷ 0xF0 ∷ 0xF0 ∷ [])
    ++ (0x91 ∷ 0x90 ∷ 0x21 ∷ 0x20 ∷ 0x81 ∷ 0x80 ∷ 0x31 ∷ 0x30 ∷ [])
    ++ (0x92 ∷ 0x90 ∷ 0x22 ∷ 0x20 ∷ 0x82 ∷ 0x80 ∷ 0x32 ∷ 0x30 ∷ [])
    ++ (0x93 ∷ 0x90 ∷ 0x23 ∷ 0x20 ∷ 0x83 ∷ 0x80 ∷ 0x33 ∷ 0x30 ∷ [])
    ++ (0x94 ∷ 0x90 ∷ 0x24 ∷ 0x20 ∷ 0x84 ∷ 0x80 ∷ 0x34 ∷ 0x30 ∷ [])

-- C8h to CFh: every scale is 4800h, by which a raw multiple of 16 reads as it is
abbrev scales : List ℕ
scales = 0x48 ∷ 0x00 ∷ 0x48 ∷ 0x00 ∷ 0x48 ∷ 0x00 ∷ 0x48 ∷ 0x00 ∷ []

-- D8h to E7h: B's trips of the bands 0 to 7, then P's and R's of the bands 0 and 1, 2 and 3, 4 and 5, 6 and 7
abbrev trips : List ℕ
trips =
    (0x10 ∷ 0x11 ∷ 0x12 ∷ 0x13 ∷ 0x14 ∷ 0x15 ∷ 0x16 ∷ 0x17 ∷ []) ++ (0x20 ∷ 0x21 ∷ 0x22 ∷ 0x23 ∷ []) ++ (0x30 ∷ 0x31 ∷ 0x32 ∷ 0x33 ∷ [])

-- a memory with these, E8h, and 70h to 77h each the byte x; all else is 0
abbrev line : ℕ → ℕ → List ℕ
line control x =
    set (sets (sets (sets (sets (replicate places 0) 0x70 (replicate 8 x)) 0x180 limits) 0x1C8 scales) 0x1D8 trips) 0x1E8 control

-- ---- limits

-- the readings beside a channel's limits, from the top: above the high alarm and equal to it, above the high warning and equal to it,
-- equal to the low warning and below it, equal to the low alarm and below it
abbrev beside : (highAlarm lowAlarm highWarning lowWarning : ℕ) → List ℕ
beside ha la hw lw = (ha + 16) ∷ ha ∷ (hw + 16) ∷ hw ∷ lw ∷ (lw - 16) ∷ la ∷ (la - 16) ∷ []

-- the words 70h, 71h and then 74h, 75h after a sample of each of them, where each of these bytes was x
abbrev flags : ℕ → Channel → List ℕ → List ℕ
flags x c raws =
    let after = map (sampled_of (line 0x04 x) c) raws in
    map (λ (b : List ℕ). word_at b 0x70) after ++ map (λ (b : List ℕ). word_at b 0x74) after

-- what the paper says of those readings, by three words: the channel's two flags 0; the upper 1, for above; the lower 1, for below. An
-- alarm at the first reading and at the last, a warning at the first three and at the last three; equal raises nothing
abbrev raised : (none above below : ℕ) → List ℕ
raised n a b = (a ∷ n ∷ n ∷ n ∷ n ∷ n ∷ n ∷ b ∷ []) ++ (a ∷ a ∷ a ∷ n ∷ n ∷ b ∷ b ∷ b ∷ [])

-- bits 15 - 2k and 14 - 2k: T 8000h and 4000h, V 2000h and 1000h, B 0800h and 0400h, P 0200h and 0100h, R 0080h and 0040h. Then, where
-- all flags were 1, the first, the fourth and the last of the readings: the other flags stay 1
abbrev limited : List Row
limited =
    row (flags 0x00 Temperature (beside 0x5050 0xE0E0 0x4040 0xF0F0)) (raised 0x0000 0x8000 0x4000)
    ∷ row (flags 0x00 Supply (beside 0x9190 0x2120 0x8180 0x3130)) (raised 0x0000 0x2000 0x1000)
    ∷ row (flags 0x00 Bias (beside 0x9290 0x2220 0x8280 0x3230)) (raised 0x0000 0x0800 0x0400)
    ∷ row (flags 0x00 Transmitted (beside 0x9390 0x2320 0x8380 0x3330)) (raised 0x0000 0x0200 0x0100)
    ∷ row (flags 0x00 Received (beside 0x9490 0x2420 0x8480 0x3430)) (raised 0x0000 0x0080 0x0040)
    ∷ row (flags 0xFF Temperature (0x5060 ∷ 0x4040 ∷ 0xE0D0 ∷ [])) (0xBFFF ∷ 0x3FFF ∷ 0x7FFF ∷ 0xBFFF ∷ 0x3FFF ∷ 0x7FFF ∷ [])
    ∷ row (flags 0xFF Supply (0x91A0 ∷ 0x8180 ∷ 0x2110 ∷ [])) (0xEFFF ∷ 0xCFFF ∷ 0xDFFF ∷ 0xEFFF ∷ 0xCFFF ∷ 0xDFFF ∷ [])
    ∷ row (flags 0xFF Bias (0x92A0 ∷ 0x8280 ∷ 0x2210 ∷ [])) (0xFBFF ∷ 0xF3FF ∷ 0xF7FF ∷ 0xFBFF ∷ 0xF3FF ∷ 0xF7FF ∷ [])
    ∷ row (flags 0xFF Transmitted (0x93A0 ∷ 0x8380 ∷ 0x2310 ∷ [])) (0xFEFF ∷ 0xFCFF ∷ 0xFDFF ∷ 0xFEFF ∷ 0xFCFF ∷ 0xFDFF ∷ [])
    ∷ row (flags 0xFF Received (0x94A0 ∷ 0x8480 ∷ 0x2410 ∷ [])) (0xFFBF ∷ 0xFF3F ∷ 0xFF7F ∷ 0xFFBF ∷ 0xFF3F ∷ 0xFF7F ∷ [])
    ∷ []

-- ---- trips

-- the word 72h, 73h after a fast sample v, with the byte t at 60h, where each of the two was the byte x
abbrev fast_word : FastChannel → ℕ → ℕ → ℕ → ℕ
fast_word c t x v = word_at (fast_of (set (line 0x04 x) 0x60 t) c v) 0x72

-- equal to the trip and above it, where every flag was 0 and where every one was 1
abbrev fast : FastChannel → ℕ → ℕ → List ℕ
fast c t trip = fast_word c t 0x00 trip ∷ fast_word c t 0x00 (trip + 1) ∷ fast_word c t 0xFF trip ∷ fast_word c t 0xFF (trip + 1) ∷ []

-- B 72h bit 3, P 72h bit 1, R 73h bit 7
abbrev bias : List ℕ
bias = 0x0000 ∷ 0x0800 ∷ 0xF7FF ∷ 0xFFFF ∷ []

abbrev transmitted : List ℕ
transmitted = 0x0000 ∷ 0x0200 ∷ 0xFDFF ∷ 0xFFFF ∷ []

abbrev received : List ℕ
received = 0x0000 ∷ 0x0080 ∷ 0xFF7F ∷ 0xFFFF ∷ []

-- t = -9, -8, 24, 63 and 88 have t + 24 = 15, 16, 48, 87 and 112, so bands 0, 1, 3, 5 and 7; half of that is 0, 0, 1, 2 and 3
abbrev tripped : List Row
tripped =
    row (fast FastBias 0xF7 0x10) bias
    ∷ row (fast FastBias 0xF8 0x11) bias
    ∷ row (fast FastBias 0x18 0x13) bias
    ∷ row (fast FastBias 0x3F 0x15) bias
    ∷ row (fast FastBias 0x58 0x17) bias
    ∷ row (fast FastTransmitted 0xF7 0x20) transmitted
    ∷ row (fast FastTransmitted 0xF8 0x20) transmitted
    ∷ row (fast FastTransmitted 0x18 0x21) transmitted
    ∷ row (fast FastTransmitted 0x3F 0x22) transmitted
    ∷ row (fast FastTransmitted 0x58 0x23) transmitted
    ∷ row (fast FastReceived 0xF7 0x30) received
    ∷ row (fast FastReceived 0xF8 0x30) received
    ∷ row (fast FastReceived 0x18 0x31) received
    ∷ row (fast FastReceived 0x3F 0x32) received
    ∷ row (fast FastReceived 0x58 0x33) received
    ∷ []

-- ---- 6Fh and E8h

-- 6Fh after a sample, where it was the byte x
abbrev mark : ℕ → Channel → ℕ
mark x c = get_or (sampled_of (set (line 0x04 0x00) 0x6F x) c 0) 0x6F 0

-- 6Fh and the words 70h, 71h and 72h, 73h by E8h, after a sample of T above its high alarm and a fast sample of B above every trip
abbrev ruled : ℕ → List ℕ
ruled control =
    let after = fast_of (sampled_of (line control 0x00) Temperature 0x5060) FastBias 0xFF in
    get_or after 0x6F 0 ∷ word_at after 0x70 ∷ word_at after 0x72 ∷ []

-- 6Fh, bit 7 - k: the five samples one after the other, and each alone. E8h: bit 2 clear, no sample is taken; bit 5 set, its flags stay;
-- bit 1 set, the fast flags stay; the other bits, D9h, act on nothing
abbrev marked : List Row
marked =
    row (mark 0x00 Temperature ∷ mark 0x80 Supply ∷ mark 0xC0 Bias ∷ mark 0xE0 Transmitted ∷ mark 0xF0 Received ∷ []) (0x80 ∷ 0xC0 ∷ 0xE0 ∷ 0xF0 ∷ 0xF8 ∷ [])
    ∷ row (map (mark 0x00) (Temperature ∷ Supply ∷ Bias ∷ Transmitted ∷ Received ∷ [])) (0x80 ∷ 0x40 ∷ 0x20 ∷ 0x10 ∷ 0x08 ∷ [])
    ∷ row (ruled 0x04 ++ ruled 0xDD) (0x80 ∷ 0x8000 ∷ 0x0800 ∷ 0x80 ∷ 0x8000 ∷ 0x0800 ∷ [])
    ∷ row (ruled 0x00 ++ ruled 0xD9) (0x00 ∷ 0x0000 ∷ 0x0800 ∷ 0x00 ∷ 0x0000 ∷ 0x0800 ∷ [])
    ∷ row (ruled 0x24 ++ ruled 0x06) (0x80 ∷ 0x0000 ∷ 0x0800 ∷ 0x80 ∷ 0x8000 ∷ 0x0000 ∷ [])
    ∷ []

abbrev table : List Row
table = limited ++ tripped ++ marked

pub flags_table : map (λ (r : Row). r.found) table ≡ map (λ (r : Row). r.said) table
unfolding with_bit flagged_of sampled_of fast_of
flags_table = refl
