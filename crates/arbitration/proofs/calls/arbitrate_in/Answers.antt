-- `arbitrate_in`: the survivor's message was delivered.
use Rattle.arbitration.proofs.Delivery.{won_is}
use Rattle.arbitration.proofs.calls.arbitrate_in.Goals as goal

pub returns-clause-outcome : goal.returns-clause-outcome
returns-clause-outcome c = won_is _ _ _ _ _ _ c.outcome.ensures c.in_ok-winner.was c.deliver.ensures.device
