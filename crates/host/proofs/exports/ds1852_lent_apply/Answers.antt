-- `ds1852_lent_apply`: the range selects the case of `apply_call`.
use Rattle.std.proofs.Common.{rules, refl, sym, ap, ◌∙◌}
use Rattle.device.specs.State.{device_at}
use Rattle.device.specs.Step.{step_of}
use Rattle.device.specs.declared.Device.{Device}
use Rattle.host.specs.State.{lend, device_of}
use Rattle.host.specs.Calls.{raw_with}
use Rattle.host.proofs.After.{answered_is, refused_is}
use Rattle.host.proofs.exports.ds1852_lent_apply.Goals as goal

pub returns-then-in_range : goal.returns-then-in_range
returns-then-in_range c =
    let x = c.args in
    let l = lend x.bytes.now x.own.now x.internal.now in
    let step =
    c.step-answer.ensures.device
    ∙ ap (λ (d : Device). step_of d c.event_of.result) c.device_over-device.ensures.device
    ∙ ap (step_of (device_of l)) c.event_of.ensures in
    rw (c.answer_number.ensures, c.internal_bytes.ensures)
    (answered_is l (raw_with x.letter x.channel x.value) (device_at c.step-answer.new.self) c.step-answer.result _
    (sym c.in_range.ensures ∙ c.if-in_range.true) step (search rules))

pub returns : goal.returns
returns c =
    let x = c.args in
    let r = refused_is (lend x.bytes.now x.own.now x.internal.now) (raw_with x.letter x.channel x.value) (sym c.in_range.ensures ∙ c.if-in_range.false) in
    rw r (c.refusal_number.ensures, (refl, refl))
