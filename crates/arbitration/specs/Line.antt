-- Document 02, 2.9, "Two hosts on one line": the line, bit by bit, and who survives. The acknowledge bit behind each byte is the device's: no
-- host sends there, and none drops out.
use Rattle.std.specs.Prelude.{ℕ, zero, suc, max, ◌*◌, Bool, true, false, cond, not, ◌&&◌, List, [], ◌∷◌, ◌++◌, length}
use Rattle.memory.specs.Bytes.{bit_of}
use Rattle.arbitration.specs.declared.Winner.{Winner}
use Rattle.arbitration.specs.declared.Winner.TheVariants.{First, Second, Both}

-- the low n bits of x, top bit first
unfoldable pub bits_from : (n x : ℕ) → List Bool
bits_from zero x = []
bits_from (suc n) x = bit_of n x ∷ bits_from n x

-- a message of bytes: the bits of each byte, top bit first
unfoldable pub bits_of : List ℕ → List Bool
bits_of [] = []
bits_of (x ∷ m) = bits_from 8 x ++ bits_of m

-- a host: the bits that it has still to send; or it has dropped out
pub data Host : Type 0 where
  Sending : List Bool → Host
  Out : Host

-- the bit that a host sends. One that has sent all, or has dropped out, sends no more: it leaves the line at 1
abbrev pub sent_by : Host → Bool
sent_by (Sending []) = true
sent_by (Sending (b ∷ bs)) = b
sent_by Out = true

-- the two hosts
pub record Hosts : Type 0 where
  pub first : Host
  pub second : Host

abbrev pub hosts : Host → Host → Hosts
hosts g h = record { first = g; second = h }

-- "the line is 0 if either sends 0"
abbrev pub line_bit : Hosts → Bool
line_bit h = sent_by h.first && sent_by h.second

-- "a host that sent 1 and sees 0 drops out"; any other goes on to its next bit
abbrev pub sees : (line : Bool) → Host → Host
sees line (Sending []) = Sending []
sees line (Sending (b ∷ bs)) = cond (b && not line) Out (Sending bs)
sees line Out = Out

-- one bit time
abbrev pub bit_time : Hosts → Hosts
bit_time h = hosts (sees (line_bit h) h.first) (sees (line_bit h) h.second)

-- n bit times: the hosts after them, and what the line carried
unfoldable pub hosts_after : ℕ → Hosts → Hosts
hosts_after zero h = h
hosts_after (suc n) h = hosts_after n (bit_time h)

unfoldable pub carried_in : ℕ → Hosts → List Bool
carried_in zero h = []
carried_in (suc n) h = line_bit h ∷ carried_in n (bit_time h)

-- two hosts that start together, with messages m and n
abbrev pub together : (m n : List ℕ) → Hosts
together m n = hosts (Sending (bits_of m)) (Sending (bits_of n))

-- who survives: the host that has not dropped out, or both
abbrev pub is_out : Host → Bool
is_out (Sending bs) = false
is_out Out = true

abbrev pub survivor_in : Hosts → Winner
survivor_in h = cond (is_out h.first) Second (cond (is_out h.second) First Both)

-- after as many bit times as the longer message has bits
unfoldable pub winner_of : (m n : List ℕ) → Winner
winner_of m n = survivor_in (hosts_after (8 * max (length m) (length n)) (together m n))
