-- How the search has ended that is asked for.
use Rattle.verify_loop.specs.declared.least_time.Tightest.{Tightest}
use Rattle.verify_loop.specs.declared.least_time.Tightest.TheVariants as tightest
use Rattle.verify_loop.specs.declared.outcome.Outcome.{Outcome}
use Rattle.verify_loop.specs.declared.outcome.Outcome.TheVariants as outcome

-- how a search for a plan has ended, and how one for the least time of a within; at most one of them is asked for
pub record Ended : Type 0 where
  pub plan : Outcome
  pub time : Tightest

-- a search for a plan has
abbrev pub plan_ended : Outcome → Ended
plan_ended found = record { plan = found; time = tightest.Memory }

-- a search for the least time has
abbrev pub time_ended : Tightest → Ended
time_ended found = record { plan = outcome.Memory; time = found }

-- none has
abbrev pub none_ended : Ended
none_ended = plan_ended outcome.Memory
