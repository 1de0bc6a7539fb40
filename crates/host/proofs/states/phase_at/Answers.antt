-- `phase_at`: the arm is the case of its number.
use native.Mathlib.Omega.{arith}
use borrow.Author.Tests.{ne_eqb}
use Rattle.host.specs.State.{phase_at}
use Rattle.host.proofs.states.phase_at.Goals as goal

pub returns-in-1 : goal.returns-in-1
unfolding phase_at
returns-in-1 c = rw c.in-1.is

pub returns-in-2 : goal.returns-in-2
unfolding phase_at
returns-in-2 c = rw c.in-2.is

pub returns-in-3 : goal.returns-in-3
unfolding phase_at
returns-in-3 c = rw c.in-3.is

pub returns-in-4 : goal.returns-in-4
unfolding phase_at
returns-in-4 c = rw c.in-4.is

pub returns-in-5 : goal.returns-in-5
unfolding phase_at
returns-in-5 c = rw c.in-5.is

pub returns-in_default : goal.returns-in_default
unfolding phase_at
returns-in_default c =
    let n = c.args.number in
    rw (
      ne_eqb n 1 (λ e. omega arith),
      ne_eqb n 2 (λ e. omega arith),
      ne_eqb n 3 (λ e. omega arith),
      ne_eqb n 4 (λ e. omega arith),
      ne_eqb n 5 (λ e. omega arith),
    )
