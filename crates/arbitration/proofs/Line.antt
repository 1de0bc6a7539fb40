-- The line: what it carries and whom it leaves, where two hosts send the same bits and where their bits part.
-- Assumes nothing.
use Prim.Native.Nat.{ℕ, zero, suc, max, ◌+◌, ◌-◌, ◌*◌, ◌≤◌}
use mathlib.Core.Path.{◌≡◌, refl, ap, ap₂, ◌∙◌}
use mathlib.Core.Bool.{Bool, true, false, and_comm}
use mathlib.Core.List.{List, [], ◌∷◌, ◌++◌}
use native.Mathlib.Nat.{zero-add, suc-add}
use native.Mathlib.Omega.{arith}
use lib.ListN.{length}
use Rattle.arbitration.specs.Line.{bits_of, Sending, Out, sent_by, Hosts, hosts, line_bit, sees, bit_time, hosts_after, carried_in, together, survivor_in, winner_of}
use Rattle.arbitration.specs.Arbitration.{message_of}
use Rattle.arbitration.specs.declared.Winner.{Winner}
use Rattle.arbitration.specs.declared.Winner.TheVariants.{First, Second, Both}
use Rattle.arbitration.proofs.Bits.{bits_length, Parts}

-- ---- bit times

after_add : (n k : ℕ) (h : Hosts) → hosts_after (n + k) h ≡ hosts_after k (hosts_after n h)
unfolding hosts_after
after_add zero k h = rw (zero-add k)
after_add (suc n) k h = rw (suc-add n k) (after_add n k (bit_time h))

-- hosts that send no more stay as they are
rests : (n : ℕ) (h : Hosts) → bit_time h ≡ h → hosts_after n h ≡ h
unfolding hosts_after
rests zero h e = refl
rests (suc n) h e = ap (hosts_after n) e ∙ rests n h e

-- ---- what is sent

-- in as many bit times as bs has bits the line carries bs, and then the hosts are `last`
pub record Sent (h : Hosts) (bs : List Bool) (last : Hosts) : Type 0 where
  pub carried : carried_in (length bs) h ≡ bs
  pub after : hosts_after (length bs) h ≡ last

-- one bit time, in which the line is b and the hosts become g
first_bit : (b : Bool) (bs : List Bool) (h g last : Hosts) → line_bit h ≡ b → bit_time h ≡ g → Sent g bs last → Sent h (b ∷ bs) last
unfolding hosts_after carried_in
first_bit b bs h g last e f s =
    record {
      carried = ap₂ {C = List Bool} (λ x xs. x ∷ xs) e (ap (carried_in (length bs)) f ∙ s.carried);
      after = ap (hosts_after (length bs)) f ∙ s.after;
    }

-- the two exchanged
abbrev swapped : Hosts → Hosts
swapped h = hosts h.second h.first

swap_time : (h : Hosts) → bit_time (swapped h) ≡ swapped (bit_time h)
swap_time h = ap (λ (line : Bool). hosts (sees line h.second) (sees line h.first)) (and_comm (sent_by h.second) (sent_by h.first))

swap_after : (n : ℕ) (h : Hosts) → hosts_after n (swapped h) ≡ swapped (hosts_after n h)
unfolding hosts_after
swap_after zero h = refl
swap_after (suc n) h = ap (hosts_after n) (swap_time h) ∙ swap_after n (bit_time h)

swap_carried : (n : ℕ) (h : Hosts) → carried_in n (swapped h) ≡ carried_in n h
unfolding carried_in
swap_carried zero h = refl
swap_carried (suc n) h =
    ap₂ {C = List Bool} (λ b bs. b ∷ bs) (and_comm (sent_by h.second) (sent_by h.first))
    (ap (carried_in n) (swap_time h) ∙ swap_carried n (bit_time h))

pub swap_sent : (bs : List Bool) (h last : Hosts) → Sent h bs last → Sent (swapped h) bs (swapped last)
swap_sent bs h last s =
    record { carried = swap_carried (length bs) h ∙ s.carried; after = swap_after (length bs) h ∙ ap swapped s.after }

-- a host that is alone on the line
alone : (bs : List Bool) → Sent (hosts (Sending bs) Out) bs (hosts (Sending []) Out)
unfolding hosts_after carried_in
alone [] = record { carried = refl; after = refl }
alone (true ∷ bs) = first_bit true bs _ _ _ refl refl (alone bs)
alone (false ∷ bs) = first_bit false bs _ _ _ refl refl (alone bs)

-- two that send the same
pub alike : (bs : List Bool) → Sent (hosts (Sending bs) (Sending bs)) bs (hosts (Sending []) (Sending []))
unfolding hosts_after carried_in
alike [] = record { carried = refl; after = refl }
alike (true ∷ bs) = first_bit true bs _ _ _ refl refl (alike bs)
alike (false ∷ bs) = first_bit false bs _ _ _ refl refl (alike bs)

-- two whose bits part: the one that sends 1 drops out
parted : (c xs ys : List Bool) → Sent (hosts (Sending (c ++ (false ∷ xs))) (Sending (c ++ (true ∷ ys)))) (c ++ (false ∷ xs)) (hosts (Sending []) Out)
parted [] xs ys = first_bit false xs _ _ _ refl refl (alone xs)
parted (true ∷ c) xs ys = first_bit true (c ++ (false ∷ xs)) _ _ _ refl refl (parted c xs ys)
parted (false ∷ c) xs ys = first_bit false (c ++ (false ∷ xs)) _ _ _ refl refl (parted c xs ys)

pub parts_sent : (xs ys : List Bool) → Parts xs ys → Sent (hosts (Sending xs) (Sending ys)) xs (hosts (Sending []) Out)
parts_sent xs ys p = rw (p.left, p.right) (parted p.common p.after_x p.after_y)

-- ---- who survives

-- the hosts when all is sent
abbrev pub last_of : Winner → Hosts
last_of First = hosts (Sending []) Out
last_of Second = hosts Out (Sending [])
last_of Both = hosts (Sending []) (Sending [])

last_rests : (w : Winner) → bit_time (last_of w) ≡ last_of w
last_rests First = refl
last_rests Second = refl
last_rests Both = refl

last_survivor : (w : Winner) → survivor_in (last_of w) ≡ w
last_survivor First = refl
last_survivor Second = refl
last_survivor Both = refl

survivor_length : (w : Winner) (m n : List ℕ) → length (message_of w m n) ≤ max (length m) (length n)
survivor_length First m n = omega arith
survivor_length Second m n = omega arith
survivor_length Both m n = omega arith

-- when the survivor's message has been sent nothing changes until the longer one would have been
pub winner_is : (w : Winner) (m n : List ℕ) → Sent (together m n) (bits_of (message_of w m n)) (last_of w) → winner_of m n ≡ w
unfolding winner_of
winner_is w m n s =
    let x = message_of w m n in
    let k = 8 * max (length m) (length n) - 8 * length x in
    let split : 8 * max (length m) (length n) ≡ length (bits_of x) + k = omega (arith, bits_length x, survivor_length w m n) in
    rw (split, after_add (length (bits_of x)) k (together m n), s.after, rests k (last_of w) (last_rests w)) (last_survivor w)
