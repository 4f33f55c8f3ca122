-- What the laws say of plans that name only what is there.
use Rattle.std.specs.Prelude.{◌≡◌, ◌↔◌, ℕ, true, List, []}
use Rattle.rail_base.specs.declared.station.Station.{Station}
use Rattle.rail_base.specs.declared.route.Route.{Route}
use Rattle.rail_base.specs.declared.plan.Command.{Command}
use Rattle.rail_spec.specs.Feasible.{names_only}
use Rattle.rail_spec.specs.Plans.{is_well_formed}
use Rattle.rail_plan.specs.WellFormed.{misplaced}

-- it is so of every plan that names only trains and routes that are there
abbrev pub EachNamed : (Station → List Route → List (List Command) → Type 0) → Type 0
EachNamed Is = (d : Station) (routes : List Route) (plan : List (List Command)) → names_only d routes plan ≡ true
    → Is d routes plan

-- a plan is well formed for so many steps exactly where nothing is misplaced
abbrev pub IsFormedWhereNothingIsMisplaced : Station → List Route → List (List Command) → Type 0
IsFormedWhereNothingIsMisplaced d routes plan = (n : ℕ)
    → (is_well_formed d routes n plan ≡ true) ↔ (misplaced d routes n plan ≡ [])
