-- `ds1852_lent_run`: the outcome selects the case of `run_call`.
use Rattle.std.proofs.Common.{rules}
use Rattle.device.specs.State.{device_at}
use Rattle.host.specs.State.{lend}
use Rattle.host.proofs.After.{ran_is}
use Rattle.host.proofs.exports.ds1852_lent_run.Goals as goal

pub returns-in-Ok : goal.returns-in-Ok
returns-in-Ok c =
    let x = c.args in
    let ran = rw c.device_over-device.ensures.device at c.run_in-ran.ensures.run in
    rw (c.outcome_number.ensures, c.internal_bytes.ensures)
    (ran_is (lend x.bytes.now x.own.now x.internal.now) x.log.now x.answers.now x.cycles.now (device_at c.run_in-ran.new.device) c.run_in-ran.result
    _ _ _ c.in-Ok.is ran (search rules) (rw c.device_over-device.ensures.device at c.run_in-ran.ensures.written))

pub returns-in-Err : goal.returns-in-Err
returns-in-Err c =
    let x = c.args in
    let ran = rw c.device_over-device.ensures.device at c.run_in-ran.ensures.run in
    rw c.outcome_number-in-Err.ensures
    (ran_is (lend x.bytes.now x.own.now x.internal.now) x.log.now x.answers.now x.cycles.now (device_at c.run_in-ran.new.device) c.run_in-ran.result
    _ _ _ c.in-Err.is ran (search rules) (rw c.device_over-device.ensures.device at c.run_in-ran.ensures.written))
