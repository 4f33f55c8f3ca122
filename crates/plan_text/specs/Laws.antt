-- What the law says of the text of plans.
use Rattle.std.specs.Prelude.{◌≡◌, ◌<◌, ◌^◌, true, List, length, map, Ok}
use Rattle.rail_base.specs.declared.station.Station.{Station}
use Rattle.rail_base.specs.declared.route.Route.{Route}
use Rattle.rail_base.specs.declared.plan.Command.{Command}
use Rattle.rail_base.specs.Admission.{is_admitted}
use Rattle.rail_spec.specs.Feasible.{IsRunnable}
use Rattle.rail_plan.specs.Reading.{plan_of}
use Rattle.plan_text.specs.Text.{in_file_order, plan_text}

-- every runnable plan of at most 256 steps is read back from its text, each step in file order
abbrev pub PlansReadBack : Station → List Route → Type 0
PlansReadBack d routes = is_admitted d ≡ true → length routes < 2 ^ 32
    → (plan : List (List Command)) → IsRunnable d routes 256 plan
    → plan_of d routes (plan_text d plan) ≡ Ok (map (in_file_order d) plan)
