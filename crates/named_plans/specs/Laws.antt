-- What the laws say of plans that are printed and read.
use Rattle.std.specs.Prelude.{◌≡◌, ◌<◌, ◌^◌, ◌++◌, true, List, length, map, codes, Ok}
use Rattle.rail_base.specs.declared.station.Station.{Station}
use Rattle.rail_base.specs.declared.plan.Command.{Command}
use Rattle.rail_base.specs.Admission.{is_admitted}
use Rattle.rail_plan.specs.Reading.{plan_of}
use Rattle.rail_spec.specs.Feasible.{IsRunnable}
use Rattle.rail_spec.specs.Track.{routes_of}
use Rattle.plan_text.specs.Text.{in_file_order, plan_text}
use Rattle.named_plans.specs.Text.{named_lines, named_text}
use Rattle.named_plans.specs.Numbered.{named_plan_of}

-- a plan that is refused by nothing is read from its text with names, each step in file order
abbrev pub NamedTextsReadBack : Station → Type 0
NamedTextsReadBack d = is_admitted d ≡ true → length (routes_of d) < 2 ^ 32
    → (plan : List (List Command)) → IsRunnable d (routes_of d) 256 plan
    → named_plan_of d (named_text d plan) ≡ Ok (map (in_file_order d) plan)

-- and from the line that has its text with numbers
abbrev pub NumberedLinesReadBack : Station → Type 0
NumberedLinesReadBack d = is_admitted d ≡ true → length (routes_of d) < 2 ^ 32
    → (plan : List (List Command)) → IsRunnable d (routes_of d) 256 plan
    → plan_of d (routes_of d) (plan_text d plan ++ codes "\n") ≡ Ok (map (in_file_order d) plan)

-- a plan with its steps in file order has the same texts
abbrev pub OrderIsNotPrinted : Station → Type 0
OrderIsNotPrinted d = (plan : List (List Command))
    → (named_lines d (map (in_file_order d) plan) ≡ named_lines d plan)
    × (plan_text d (map (in_file_order d) plan) ≡ plan_text d plan)
