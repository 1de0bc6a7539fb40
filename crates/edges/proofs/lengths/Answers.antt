-- `lengths`: 32,768 bytes lie inside the array.
use Rattle.std.proofs.Common.{◌≡◌, length, length-take-le, sym, arith, rules}
use Rattle.edges.proofs.lengths.Goals as goal

pub slice_bounds-most-end : goal.slice_bounds-most-end
slice_bounds-most-end g c =
    let l : length c.long_log-events.result ≡ 32769 = search rules in
    sym (length-take-le 32768 c.long_log-events.result (omega arith))
