-- `read_whole`: a read's bytes stand behind those that came before, as the reader gave them.
use Rattle.std.proofs.Common.{◌≡◌, ℕ, ◌≤◌, List, ◌++◌, sym, ◌+◌, ◌-◌, rules, length, take, ap, ◌∙◌, subst, le_refl, drop_at, length-take-le}
use Rattle.std.proofs.lemmas.Slice.{take-put_mid_below}
use Rattle.std.specs.Io.KnownBytes.{Consumes}
use Rattle.std.proofs.KnownBytes.{Consumes-trans}
use borrow.Rule.Slice.PartMut.{put_mid, post_of}
use lib.Seq.{take-add, take-append-le}
use Rattle.console.proofs.read_whole.Goals as goal

take_more-put_mid : (a k n : ℕ) (xs ys : List ℕ) → a ≤ length xs → n ≤ length ys → take (a + n) (put_mid a k xs ys) ≡ take a xs ++ take n ys
take_more-put_mid a k n xs ys within fits =
    let new = put_mid a k xs ys in
    let front = take-put_mid_below a k xs ys a (le_refl a) within in
    let back = drop_at (take a xs) (ys ++ post_of a k xs) a (length-take-le a xs within) in
    take-add a n new ∙ rw (front, ap (take n) back) (ap (λ l. take a xs ++ l) (take-append-le n ys (post_of a k xs) fits))

pub loop-at-preserved : goal.loop-at-preserved
loop-at-preserved g c =
    let a = c.loop-at in
    let more = take_more-put_mid a.at (length a.buf - a.at) c.in-Ok.n a.buf c.read.new.buf a.invariant.0 c.in-Ok.ensures.bound.0 in
    (search rules, subst (Consumes _ _) (sym more) (Consumes-trans _ _ _ _ _ a.invariant.1 c.in-Ok.ensures.bytes.0))
