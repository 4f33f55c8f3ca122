use Rattle.std.proofs.Common.{◌≡◌, List, drop}
use Rattle.rail_base.specs.declared.station.Station.{Station}
use Rattle.rail_base.specs.declared.route.Route.{Route}
use Rattle.bound_spec.specs.Validity.{are_few_choices}
use Rattle.bound_design.proofs.choices.are_few_choices.Given as goal

-- there are not too many on those so far
abbrev pub invariant-loop-index : goal.invariant-loop-index
invariant-loop-index l = (d : Station) (routes : List Route) → are_few_choices d routes (drop l.index l.legs) ≡ are_few_choices d routes l.legs
