-- What a log over a kept device returns.
use Rattle.event_log.specs.declared.Ran.{Ran}
use Rattle.event_log.specs.declared.RunSummary.{RunSummary}

-- the run without its device
abbrev pub summary_of : Ran → RunSummary
summary_of a = record { outcome = a.outcome; cycles = a.cycles }
