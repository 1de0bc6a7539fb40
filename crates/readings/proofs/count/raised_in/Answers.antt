-- `raised_in`: each byte adds at most eight.
use mathlib.Core.Path.{refl}
use Prim.Native.Nat.{◌<◌}
use native.Mathlib.Numerals.{add-one}
use native.Mathlib.Omega.{arith}
use lib.ListN.{drop}
use Rattle.std.proofs.Common.{rules}
use Rattle.std.proofs.lemmas.List.{get_or-drop, get_or-take}
use Rattle.readings.specs.Raised.{raised_from}
use Rattle.readings.proofs.count.raised_in.Goals as goal

pub loop-x-init : goal.loop-x-init
unfolding raised_from
loop-x-init c = (omega arith, refl)

pub loop-x-preserved : goal.loop-x-preserved
unfolding raised_from
loop-x-preserved c =
    let l = c.loop-x in
    let b = c.args.bytes.now in
    let i : l.x-index < 8 = search rules in
    (omega (arith, c.ones-count.ensures.1), rw (add-one, ← l.invariant.1, c.ones-count.ensures.0, get_or-take 8 (drop 112 b) l.x-index 0 i, get_or-drop 112 b l.x-index 0))
