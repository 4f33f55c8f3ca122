-- The clauses of an encoder as they are emitted, family by family.
use Rattle.std.specs.Prelude.{ℕ, ◌≡◌, ◌<◌, ◌+◌, ◌-◌, ◌*◌, List, [], ◌∷◌, ◌++◌, map, filter, flat_map, length, get_or}
use Rattle.rail_base.specs.declared.station.TrainNo.{TrainNo}
use Rattle.rail_base.specs.declared.station.NodeNo.{NodeNo}
use Rattle.rail_base.specs.declared.route.RouteNo.{RouteNo}
use Rattle.rail_base.specs.declared.plan.Command.{Command}
use Rattle.rail_base.specs.Numbering.{one_to}
use Rattle.rail_base.specs.Stations.{trains}
use Rattle.rail_spec.specs.Plans.{contend}
use Rattle.clause_spec.specs.Variables.{Given, Before, By, yes, no, if_given}
use Rattle.clause_spec.specs.Clauses.{Clause, in_order, may_visit, not_at_once, stays_given}
use Rattle.live_clause_spec.specs.Listed.{live_all_given, live_excluded, live_first_pairs, live_in_turn}
use Rattle.live_clause_spec.specs.Listed.{live_makes_visits, live_routes, live_starts_rightly, live_waits}
use Rattle.live_clause_spec.specs.Variables.{live_number}
use Rattle.command_set.specs.Commands.{is_among}
use Rattle.plan_encoding.specs.declared.encoder.Encoder.{Encoder}
use Rattle.plan_encoding.specs.Encoders.{among, commands, over, pairs_of, station, table}

-- ---- clauses of commands

-- where a command is given by a step, one of these routes is given to its train by the step before
abbrev pub led_clause : Command → List RouteNo → ℕ → Clause
led_clause c leading i =
    no (Given c i) ∷ flat_map (λ q. if_given (record { train = c.train; route = q }) (i - 1)) leading

-- of two commands not both are new in a step
abbrev pub apart : Command → Command → ℕ → Clause
apart e c i = no (Given e i) ∷ if_given e (i - 1) ++ no (Given c i) ∷ if_given c (i - 1)

-- the train is given one of the routes by a step
abbrev pub one_given : TrainNo → List RouteNo → ℕ → Clause
one_given t rs i = map (λ w. yes (Given (record { train = t; route = w }) i)) rs

-- or not one of them
abbrev pub one_not_given : TrainNo → List RouteNo → ℕ → Clause
one_not_given t rs i = map (λ w. no (Given (record { train = t; route = w }) i)) rs

-- where a command is given by a step, one of these routes is given to the train by it
abbrev pub begun_clause : TrainNo → List RouteNo → Command → ℕ → Clause
begun_clause t rs c i = no (Given c i) ∷ one_given t rs i

-- where the first one's train is given the chain and no route further on, the second is not new in the next step
abbrev pub waiting : Command → Command → List RouteNo → List RouteNo → ℕ → Clause
waiting e c chain further i =
    one_not_given e.train chain i ++ no (Given c (i + 1)) ∷ yes (Given c i) ∷ one_given e.train further i

-- what a command asks with each of these
abbrev pub each_with : (Command × Command → List Clause) → Command → List Command → List Clause
each_with family e cs = flat_map family (map (λ c. (e, c)) cs)

module _ (f : Encoder) where
  -- ---- commands

  -- the commands that contend with this one
  abbrev pub rivals_of : Command → List Command
  rivals_of e = filter (contend (table f) e) (commands f)

  -- the routes of a train's commands
  abbrev pub routes_of : TrainNo → List RouteNo
  routes_of t = live_routes (is_among (commands f)) (table f) t

  -- ---- clauses of the encoder

  -- the command is given by no step
  abbrev pub never_given : Command → List Clause
  never_given c = map (λ i. no (Given c i) ∷ []) (one_to f.steps.count)

  -- one of the routes is given by the step before, by whichever step the command is given
  abbrev pub led_always : Command → List RouteNo → List Clause
  led_always c leading = map (led_clause c leading) (one_to f.steps.count)

  -- one of the routes is given on which the visit may be made
  abbrev pub visited_on : TrainNo → ℕ → List NodeNo → Clause
  visited_on t k set = one_given t (filter (over f may_visit k set) (routes_of t)) f.steps.count

  -- by step k the command is given, if it is given at all
  abbrev pub given_by : ℕ → Command → Clause
  given_by k c = no (By k) ∷ no (Given c f.steps.count) ∷ yes (Given c k) ∷ []

  -- one of these routes is given to the train by whichever step the command is given
  abbrev pub begun_throughout : TrainNo → List RouteNo → Command → List Clause
  begun_throughout t rs c = map (begun_clause t rs c) (one_to f.steps.count)

  -- ---- numbers of variables

  -- the number of the last variable of a pair
  abbrev pub last_pair : ℕ
  last_pair = length (commands f) * f.steps.count + length (pairs_of f)

  -- the pairs of a command with others have the numbers that follow on one
  abbrev pub Follow : Command → List Command → ℕ → Type 0
  Follow e cs last =
      (i : ℕ) (c : Command) → i < length cs → among f live_number (Before e (get_or cs i c)) ≡ last + i + 1

  -- ---- families

  -- what is given stays given
  abbrev pub all_stay : List Clause
  all_stay = flat_map (over f stays_given) (commands f)

  -- all routes start rightly
  abbrev pub all_start_rightly : List Clause
  all_start_rightly = flat_map (among f live_starts_rightly) (commands f)

  -- no train is given two routes that exclude each other
  abbrev pub none_excluded : List Clause
  none_excluded = flat_map (among f live_excluded) (trains (station f))

  -- no contending commands are given in one step
  abbrev pub all_apart : List Clause
  all_apart = flat_map (over f not_at_once) (among f live_first_pairs)

  -- contending commands wait for each other
  abbrev pub all_wait : List Clause
  all_wait = flat_map (among f live_waits) (pairs_of f)

  -- all trains make their visits
  abbrev pub all_visits : List Clause
  all_visits = flat_map (among f live_makes_visits) (trains (station f))

  -- what the variables of pairs say
  abbrev pub all_in_order : List Clause
  all_in_order = flat_map (over f in_order) (pairs_of f)

  -- what the variables of steps say
  abbrev pub all_by_steps : List Clause
  all_by_steps = flat_map (among f live_all_given) (one_to (f.steps.count - 1))

  -- the trains of each pair come in turn
  abbrev pub all_in_turn : List (TrainNo × TrainNo) → List Clause
  all_in_turn pairs = flat_map (among f live_in_turn) pairs

  -- what commands and trains ask by themselves
  abbrev pub alone : List Clause
  alone = all_stay ++ all_start_rightly ++ none_excluded

  -- what contending commands ask of each other
  abbrev pub together : List Clause
  together = all_apart ++ all_wait

  -- that all visits are made, and what the variables of pairs and of steps say
  abbrev pub defining : List Clause
  defining = all_visits ++ all_in_order ++ all_by_steps
