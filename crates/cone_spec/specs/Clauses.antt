-- What a cone says of all plans: a clause over what is used, and what is used earlier.
use Rattle.std.specs.Prelude.{Bool, true, false, not, ◌&&◌, ◌||◌, if◌then◌else◌, List, [], ◌∷◌, ◌++◌, map, flat_map}
use Rattle.std.specs.Prelude.{nat_lt}
use Rattle.std.specs.List.{list_all}
use Rattle.rail_base.specs.declared.station.Station.{Station}
use Rattle.rail_base.specs.declared.station.TrainNo.{TrainNo}
use Rattle.rail_base.specs.declared.route.Route.{Route}
use Rattle.rail_base.specs.declared.plan.Command.{Command}
use Rattle.rail_base.specs.declared.plan.Violation.{Violation}
use Rattle.rail_base.specs.declared.plan.Violation.TheVariants as violation
use Rattle.cone_spec.specs.declared.Cone.{Cone}
use Rattle.rail_spec.specs.Plans.{route_at, is_start, goes_on, contend, step_of, has_command, all_commands}
use Rattle.cone_spec.specs.Cones.{named, all_free, is_named, is_free, has_pair}

-- a fact about a plan: a command is given, or one is given in an earlier step than another
pub data Fact : Type 0 where
  Used : Command → Fact
  Before : Command → Command → Fact

-- a fact or its negation
pub record Literal : Type 0 where
  pub fact : Fact
  pub negated : Bool

-- the facts of a plan
abbrev pub holds_of : List (List Command) → Fact → Bool
holds_of plan (Used c) = has_command plan c
holds_of plan (Before d c) = has_command plan d && has_command plan c && nat_lt (step_of plan d) (step_of plan c)

-- the literal is true of the plan
abbrev pub is_true_of : List (List Command) → Literal → Bool
is_true_of plan l = if l.negated then not (holds_of plan l.fact) else holds_of plan l.fact

-- the route starts at the signal where the last of these ends, which is not a start of one of them
abbrev pub goes_further : List Route → Route → Bool
goes_further [] q = false
goes_further (r ∷ []) q = goes_on r.finish q.start && not (is_start r.start q.start)
goes_further (r ∷ r' ∷ rs) q = not (is_start r.start q.start) && goes_further (r' ∷ rs) q

module _ (d : Station) (routes : List Route) (k : Cone) where
  -- the path misses a visit
  abbrev pub is_path_violation : Violation → Bool
  is_path_violation (violation.Path t j) = true
  is_path_violation (violation.Within w) = false
  is_path_violation (violation.Order o) = false
  is_path_violation (violation.Grant t j) = false
  is_path_violation (violation.Visit t j) = false

  -- the cone says that the train goes no further than its path: where all commands of it are free, and in a path cone
  abbrev pub is_closed : TrainNo → Bool
  is_closed t = all_free (named k t) || is_path_violation k.violation

  -- what the clause says of one command
  abbrev pub used_literals : Command → List Literal
  used_literals c =
      let way = map (route_at routes) (named k c.train).path in
      if is_named k c then record { fact = Used c; negated = true } ∷ []
      else if is_closed c.train && goes_further way (route_at routes c.route)
      then record { fact = Used c; negated = false } ∷ []
      else []

  -- what the clause says of the order of two commands
  abbrev pub before_literals : Command → Command → List Literal
  before_literals e c =
      if has_pair k e c then record { fact = Before e c; negated = true } ∷ []
      else if is_free k c && contend routes e c then record { fact = Before e c; negated = false } ∷ []
      else []

  -- the literals in the order of their variables; no plan that makes all of them false meets the design
  abbrev pub clause_of_cone : List Literal
  clause_of_cone = flat_map used_literals (all_commands d routes)
      ++ flat_map (λ e. flat_map (before_literals e) (all_commands d routes)) (all_commands d routes)

-- each literal is false of the plan
abbrev pub is_false_of : List (List Command) → List Literal → Bool
is_false_of plan ls = list_all (λ l. not (is_true_of plan l)) ls
