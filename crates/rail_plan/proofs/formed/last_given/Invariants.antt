use Rattle.std.proofs.Common.{◌≡◌, drop}
use Rattle.std.specs.Option.{option_or}
use Rattle.rail_spec.specs.Plans.{path}
use Rattle.rail_plan.specs.WellFormed.{last_of_list}
use Rattle.rail_plan.proofs.formed.last_given.Given as goal

-- the last of the rest, or else the last so far
abbrev pub invariant-loop-step : goal.invariant-loop-step
invariant-loop-step l = option_or (last_of_list (path (drop l.step-index l.steps) l.train)) l.last ≡ last_of_list (path l.steps l.train)
