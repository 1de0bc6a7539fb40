-- `transfer`: a turn is one event more; at the end they were S, the bytes and E.
use Rattle.std.proofs.Common.{refl, sym, ap, ◌∙◌, rules, Some, arith, map-id}
use Rattle.std.proofs.lemmas.Iterator.{YieldsList-from_slice, YieldsList-from_map}
use Rattle.std.proofs.lemmas.Iterator.Adapters.{YieldsList-from_once}
use Rattle.std.proofs.lemmas.Iterator.Consumers.{YieldsList-from_chain, YieldsList-at, YieldsList-end}
use Rattle.letters.specs.declared.Event.TheVariants.{Start, Stop, Byte}
use Rattle.device.specs.Run.{ran_of}
use Rattle.arbitration.proofs.Delivery.{one_event, delivered}
use Rattle.arbitration.proofs.transfer.transfer.Goals as goal

pub loop-event-init : goal.loop-event-init
unfolding ran_of
loop-event-init c = ((refl, (refl, refl)), refl)

pub loop-event-preserved : goal.loop-event-preserved
loop-event-preserved c =
    (search rules, one_event _ _ _ c.loop-event.yielded c.in-Some.event c.loop-event.invariant.1 c.step.ensures.device)

pub returns-clause-device : goal.returns-clause-device
returns-clause-device c =
    let m = c.args.message.now in
    let es =
    YieldsList-end
    (YieldsList-at c.into_iter-event-iterator.ensures.into_iter_gives
    (YieldsList-from_chain
    (YieldsList-at c.chain-event-items.ensures.first
    (YieldsList-from_chain (YieldsList-from_once (Some Start) cc)
    (YieldsList-at c.chain.ensures.second
    (YieldsList-from_map _ Byte (YieldsList-at c.map-sent.ensures.source (YieldsList-from_slice m cc)) c.map-sent.ensures.closure (λ x r q k. search rules)))
    (cc) (cc)))
    (YieldsList-from_once (Some Stop) cc) (cc) (cc)))
    c.loop-event.yielded _ c.loop-event.yielded_by _ _ c.in-None.is c.next.ensures.steps in
    delivered _ _ m (λ i. omega (arith, c.type_inv.message i)) (c.loop-event.invariant.1 ∙ ap (ran_of _) (sym (map-id c.loop-event.yielded) ∙ es.0))
