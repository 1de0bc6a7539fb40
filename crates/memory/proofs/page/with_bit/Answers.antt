-- `with_bit`: 1 shifted by less than eight places stays whole.
use Rattle.std.proofs.Common.{arith, ◌%◌}
use native.Mathlib.Nat.{one-mul}
use lib.Pow.{shl_exact}
use lib.Dec.{lit<}
use Rattle.memory.specs.Bytes.{with_bit}
use Rattle.memory.proofs.page.with_bit.Goals as goal

pub returns : goal.returns
unfolding with_bit
returns c = rw (shl_exact {a = 1} 1 (c.args.i % 8) 8 (lit< tt) (omega arith), one-mul)
