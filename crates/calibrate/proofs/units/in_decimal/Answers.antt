-- `in_decimal`: the two tests select the case; what lies between the limits can be cut to a whole number.
use Rattle.std.proofs.Common.{T, sym, subst, w64}
use lib.Ieee.{of_bits, neg}
use mir.ValLaws.{to_z-of_z}
use borrow.Author.Rules.{sfits_of}
use Rattle.calibrate.specs.Units.{power_of}
use Rattle.calibrate.proofs.units.in_decimal.Goals as goal

pub truncating_f64_to_i64-requires-clause-lower_bound : goal.truncating_f64_to_i64-requires-clause-lower_bound
unfolding of_bits neg
truncating_f64_to_i64-requires-clause-lower_bound c = subst T (sym c.if-x.true) tt

pub truncating_f64_to_i64-requires-clause-upper_bound : goal.truncating_f64_to_i64-requires-clause-upper_bound
unfolding of_bits neg
truncating_f64_to_i64-requires-clause-upper_bound c = subst T (sym c.if-x-2.true) tt

pub returns-then-x-2 : goal.returns-then-x-2
unfolding power_of of_bits neg
returns-then-x-2 c =
    let t = c.truncating_f64_to_i64 in
    rw (c.if-x.true, c.if-x-2.true, to_z-of_z w64 t.result (sfits_of t.type_inv), t.ensures)

pub returns-then-x : goal.returns-then-x
unfolding power_of of_bits neg
returns-then-x c = rw (c.if-x.true, c.if-x-2.false)

pub returns : goal.returns
unfolding power_of of_bits neg
returns c = rw c.if-x.false
