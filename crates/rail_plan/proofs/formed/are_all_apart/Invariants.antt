use Rattle.std.proofs.Common.{◌≡◌, drop}
use Rattle.std.specs.List.{list_all}
use Rattle.rail_plan.specs.WellFormed.{is_apart}
use Rattle.rail_plan.proofs.formed.are_all_apart.Given as goal

-- those so far are
abbrev pub invariant-loop-step : goal.invariant-loop-step
invariant-loop-step l = list_all (λ step. list_all (is_apart l.routes l.train l.route) step) (drop l.step-index l.steps) ≡ list_all (λ step. list_all (is_apart l.routes l.train l.route) step) l.steps
