-- `ds1852_core_arbitrate`: the outcome selects the case of `arbitrate_call`.
use Rattle.std.proofs.Common.{rules}
use Rattle.device.specs.State.{device_at}
use Rattle.host.specs.State.{lend}
use Rattle.host.proofs.After.{arbitrated_is}
use Rattle.host.proofs.exports.ds1852_core_arbitrate.Goals as goal

pub returns-in-Ok : goal.returns-in-Ok
returns-in-Ok c =
    let x = c.args in
    let settled = rw c.device_over-device.ensures.device at c.arbitrate_in.ensures.outcome in
    rw (c.winner_number.ensures, c.internal_bytes.ensures)
    (arbitrated_is (lend x.bytes.now x.own.now x.internal.now) _ _ (device_at c.arbitrate_in.new.device) _ _ _ c.in-Ok.is settled (search rules))

pub returns-in-Err : goal.returns-in-Err
returns-in-Err c =
    let x = c.args in
    let settled = rw c.device_over-device.ensures.device at c.arbitrate_in.ensures.outcome in
    rw c.refusal_number.ensures
    (arbitrated_is (lend x.bytes.now x.own.now x.internal.now) _ _ (device_at c.arbitrate_in.new.device) _ _ _ c.in-Err.is settled (search rules))
