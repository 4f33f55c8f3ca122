-- How long a train takes from one visit to another where nothing is in its way.
use Rattle.std.specs.Prelude.{◌≡◌, ℕ, ◌-◌, ◌≤◌, min, List, [], ◌∷◌, map, Option, None, Some}
use Rattle.rail_base.specs.declared.station.Station.{Station}
use Rattle.rail_base.specs.declared.station.TrainNo.{TrainNo}
use Rattle.rail_base.specs.declared.route.Route.{Route}
use Rattle.rail_base.specs.declared.route.RouteNo.{RouteNo}
use Rattle.rail_base.specs.declared.plan.Command.{Command}
use Rattle.rail_base.specs.Stations.{horizon}
use Rattle.rail_spec.specs.Requirements.{visited_at}
use Rattle.plan_ways.specs.Paths.{AreMany, IsPlanWay}

-- how many ticks there are from the one to the other, where both are there
abbrev pub ticks_between : Option ℕ → Option ℕ → Option ℕ
ticks_between (Some a) (Some b) = Some (b - a)
ticks_between _ _ = None

-- the less of two numbers, as far as they are there
abbrev pub lesser : Option ℕ → Option ℕ → Option ℕ
lesser (Some a) (Some b) = Some (min a b)
lesser (Some a) None = Some a
lesser None other = other

-- the least of numbers, if one is there
abbrev pub least_of : List (Option ℕ) → Option ℕ
least_of [] = None
least_of (o ∷ os) = lesser o (least_of os)

-- the step that gives a train a route
abbrev pub step_alone : TrainNo → RouteNo → List Command
step_alone t r = record { train = t; route = r } ∷ []

-- the plan that gives a train these routes, one in each step, and gives no train anything else
abbrev pub plan_alone : TrainNo → List RouteNo → List (List Command)
plan_alone t rs = map (step_alone t) rs

module _ (d : Station) (routes : List Route) (t : TrainNo) where
  -- the tick, up to the horizon, of a visit in the run of that plan
  abbrev pub tick_alone : List RouteNo → ℕ → Option ℕ
  tick_alone rs j = visited_at d routes (plan_alone t rs) (horizon d) t j

  -- the ticks from the one visit to the other in it
  abbrev pub ticks_alone : List RouteNo → ℕ → ℕ → Option ℕ
  ticks_alone rs from to = ticks_between (tick_alone rs from) (tick_alone rs to)

  -- on some way that a plan can give it the train takes so many ticks, and on none fewer
  pub record IsLeastAlone (from to ticks : ℕ) : Type 0 where
    pub way : List RouteNo
    pub is_way : IsPlanWay d routes t way
    pub takes : ticks_alone way from to ≡ Some ticks
    pub none_fewer : (rs : List RouteNo) (k : ℕ) → IsPlanWay d routes t rs → ticks_alone rs from to ≡ Some k → ticks ≤ k

  -- on no way does it make both visits up to the horizon
  abbrev pub MakesNever : ℕ → ℕ → Type 0
  MakesNever from to = (rs : List RouteNo) → IsPlanWay d routes t rs → ticks_alone rs from to ≡ None

  -- the ticks that it takes on its quickest way; it is not said where its ways are many, or none makes both visits
  pub data LeastAlone (from to : ℕ) : Option ℕ → Type 0 where
    Takes : (ticks : ℕ) → IsLeastAlone from to ticks → LeastAlone from to (Some ticks)
    Never : MakesNever from to → LeastAlone from to None
    Many : AreMany d routes t → LeastAlone from to None
