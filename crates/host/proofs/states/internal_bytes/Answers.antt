-- `internal_bytes`: the callees' results stand for their definitions, and the page is listed.
use Rattle.std.proofs.Common.{rules}
use mathlib.Core.Path.{◌≡◌}
use lib.ListN.{length}
use Rattle.host.proofs.Back.{listed_is}
use Rattle.host.proofs.states.internal_bytes.Goals as goal

pub returns : goal.returns
returns c =
    let page = c.args.i.page in
    let n : length page ≡ 8 = search rules in
    rw (c.phase_holds.ensures, c.phase_number.ensures, ← listed_is page 0 8 n)
