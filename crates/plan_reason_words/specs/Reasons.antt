-- Why a train's command in a step is not right after the steps before it, in words.
use Rattle.std.specs.Prelude.{ℕ, List, [], ◌∷◌, ◌++◌, codes, Option, None, Some}
use Rattle.rail_base.specs.declared.route.Route.{Route}
use Rattle.rail_base.specs.declared.route.RouteNo.{RouteNo}
use Rattle.rail_base.specs.declared.station.Station.{Station}
use Rattle.rail_base.specs.declared.station.TrainNo.{TrainNo}
use Rattle.rail_base.specs.Names.{train_name}
use Rattle.cone_words.specs.Names.{makes_text, nodes_text}
use Rattle.cone_words.specs.Routes.{route_text}
use Rattle.plan_faults.specs.declared.reasons.Reason.{Reason}
use Rattle.plan_faults.specs.declared.reasons.Reason.TheVariants as reason
use Rattle.plan_reason_words.specs.Ends.{finishes_text, starts_text}

-- where the first visit of a train is
abbrev pub first_visit_text : Station → TrainNo → List ℕ
first_visit_text d t = makes_text d t 1 ++ nodes_text d t 1 ++ codes "\n"

-- `: its route before, w1 to s1 (1), ends at signal s1`
abbrev pub before_text : Station → List Route → RouteNo → List ℕ
before_text d routes r =
    codes ": its route before, " ++ route_text d routes r ++ codes ", " ++ (finishes_text d routes r ++ codes "\n")

-- `, as its route w1 to s1 (1) of an earlier step does`
abbrev pub again_text : Station → List Route → RouteNo → List ℕ
again_text d routes r = codes ", as its route " ++ route_text d routes r ++ codes " of an earlier step does\n"

module _ (d : Station) (routes : List Route) (t : TrainNo) where
  -- `A is given route w1 to s1 (1)`
  abbrev pub given_text : RouteNo → List ℕ
  given_text r = train_name d t ++ (codes " is given route " ++ route_text d routes r)

  -- `A is given route s1 to e1 (5), which starts at signal s1`
  abbrev pub started_text : RouteNo → List ℕ
  started_text r = given_text r ++ codes ", which " ++ starts_text d routes r

  -- the same of where it ends
  abbrev pub ended_text : RouteNo → List ℕ
  ended_text r = given_text r ++ codes ", which " ++ finishes_text d routes r

  abbrev pub reason_line : Reason → List ℕ
  reason_line (reason.Second r q) =
      given_text r ++ codes " and, in the same step, route " ++ route_text d routes q ++ codes "\n"
  reason_line (reason.Begins r) =
      codes "first " ++ started_text r ++ codes ": it is to start where " ++ first_visit_text d t
  reason_line (reason.GoesOn r q) = started_text r ++ before_text d routes q
  reason_line (reason.StartsAgain r q) = started_text r ++ again_text d routes q
  reason_line (reason.EndsAgain r q) = ended_text r ++ again_text d routes q

  abbrev pub reason_lines : Option Reason → List (List ℕ)
  reason_lines None = []
  reason_lines (Some x) = reason_line x ∷ []
