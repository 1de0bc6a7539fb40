-- `stores`: after i turns the mask is that of the first i bytes.
use Rattle.std.proofs.Common.{◌≡◌}
use Rattle.memory.specs.Bytes.{mask_of}
use Rattle.memory.specs.Page.{stores_at}
use Rattle.memory.proofs.access.Rights.stores.Given as goal

abbrev pub invariant-loop-i : goal.invariant-loop-i
invariant-loop-i l = l.stores ≡ mask_of (stores_at l.self.level l.self.control l.self.select l.base l.mask) l.i
