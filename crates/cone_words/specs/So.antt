-- When what the sentences about a cone say is so of a plan.
use Rattle.std.specs.Prelude.{◌≡◌, ℕ, true, List, map, take}
use Rattle.rail_base.specs.declared.station.Station.{Station}
use Rattle.rail_base.specs.declared.station.TrainNo.{TrainNo}
use Rattle.rail_base.specs.declared.route.Route.{Route}
use Rattle.rail_base.specs.declared.route.RouteNo.{RouteNo}
use Rattle.rail_base.specs.declared.plan.Command.{Command}
use Rattle.rail_base.specs.Members.{In}
use Rattle.rail_spec.specs.Plans.{route_at, contend, has_command}
use Rattle.rail_spec.specs.Track.{routes_of}
use Rattle.cone_spec.specs.declared.Cone.{Cone}
use Rattle.cone_spec.specs.declared.ConeTrain.{ConeTrain}
use Rattle.cone_spec.specs.Clauses.{Before, goes_further, holds_of}
use Rattle.cone_spec.specs.Validity.{is_valid_cone}
use Rattle.rail_laws.specs.Plans.{EachFeasible}
use Rattle.cone_words.specs.Cones.{goes_no_further}

-- the plan gives the command
abbrev pub IsGiven : List (List Command) → Command → Type 0
IsGiven plan c = has_command plan c ≡ true

-- it gives both, the first in an earlier step
abbrev pub GoesBefore : List (List Command) → Command → Command → Type 0
GoesBefore plan e c = holds_of plan (Before e c) ≡ true

-- the command that gives a train a route
abbrev pub of_train : TrainNo → RouteNo → Command
of_train t r = record { train = t; route = r }

-- what the sentences about a cone say: each train is given its path; it goes no further, where that is said; the one command of a pair
-- goes before the other; and but for the pairs no command goes before one that is granted and shares a section with it
pub record ConeIsSo (routes : List Route) (k : Cone) (plan : List (List Command)) : Type 0 where
  pub paths : (c : ConeTrain) → In c k.trains → (r : RouteNo) → In r c.path → IsGiven plan (of_train c.train r)
  pub ends : (c : ConeTrain) → In c k.trains → goes_no_further k c ≡ true → (q : RouteNo)
      → goes_further (map (route_at routes) c.path) (route_at routes q) ≡ true → IsGiven plan (of_train c.train q) → ⊥
  pub turns : (e c : Command) → In (e, c) k.pairs → GoesBefore plan e c
  pub others : (c : ConeTrain) → In c k.trains → (r : RouteNo) → In r (take c.free c.path) → (e : Command)
      → contend routes e (of_train c.train r) ≡ true → (In (e, of_train c.train r) k.pairs → ⊥)
      → GoesBefore plan e (of_train c.train r) → ⊥

-- of no valid cone it is so of the plan
abbrev pub NoConeIsSo : Station → ℕ → List (List Command) → Type 0
NoConeIsSo d n plan = (k : Cone) → is_valid_cone d (routes_of d) k ≡ true → ConeIsSo (routes_of d) k plan → ⊥

-- a plan of which all that the sentences about a valid cone say is so is not feasible
abbrev pub SentencesOfConesDeny : Type 0
SentencesOfConesDeny = EachFeasible NoConeIsSo
