-- What the laws of live commands and of their base say.
use Rattle.std.specs.Prelude.{◌≡◌, ◌≢◌, ◌↔◌, ℕ, ◌-◌, ◌≤◌, Bool, true, List, filter, length, slice_get, Some}
use Rattle.std.specs.List.{list_all}
use Rattle.rail_base.specs.declared.station.Station.{Station}
use Rattle.rail_base.specs.declared.station.TrainNo.{TrainNo}
use Rattle.rail_base.specs.declared.route.Route.{Route}
use Rattle.rail_base.specs.declared.route.RouteNo.{RouteNo}
use Rattle.rail_base.specs.declared.plan.Command.{Command}
use Rattle.rail_base.specs.Members.{In}
use Rattle.rail_base.specs.Stations.{train_of}
use Rattle.rail_spec.specs.Feasible.{IsFeasible}
use Rattle.rail_spec.specs.Plans.{commands, route_numbers}
use Rattle.rail_spec.specs.Track.{routes_of}
use Rattle.sat_clause.specs.declared.lit.Lit.{Lit}
use Rattle.sat_clause.specs.Clauses.{clause_holds}
use Rattle.clause_spec.specs.declared.question.Turns.{Turns}
use Rattle.clause_spec.specs.Models.{decoded, is_so, model_of}
use Rattle.clause_spec.specs.Variables.{Variable, By}
use Rattle.alike_clause_spec.specs.Sorted.{sorted_base}
use Rattle.way_spec.specs.Ways.{AreLive, IsLive}
use Rattle.live_clause_spec.specs.Live.{is_live, is_live_route}
use Rattle.live_clause_spec.specs.Variables.{live_count, live_number, live_variables}
use Rattle.live_clause_spec.specs.Clauses.{base_left, clauses_left, live_base}
use Rattle.live_clause_spec.specs.Listed.{live_clauses}
use Rattle.live_clause_spec.specs.Models.{live_decoded, live_model_of, spread}

-- ---- which commands are live

-- those whose route stands in a way of their train
abbrev pub TellsLive : Station → List Route → Type 0
TellsLive d routes = (c : Command) → (is_live d routes c ≡ true) ↔ IsLive d routes c.train c.route

-- so the live routes of a train, in order, are those of all that pass the test
abbrev pub ListsLive : Station → List Route → Type 0
ListsLive d routes = (t : TrainNo) (rs : List RouteNo) → AreLive d routes t rs
    → rs ≡ filter (is_live_route routes (train_of d t).visits) (route_numbers routes)

-- all commands of the plan are live
abbrev pub HasLiveAlone : (Command → Bool) → List (List Command) → Type 0
HasLiveAlone live plan = (c : Command) → In c (commands plan) → live c ≡ true

-- it is so of every feasible plan
abbrev pub FeasibleAreLive : Station → ℕ → Type 0
FeasibleAreLive d n = (plan : List (List Command)) → IsFeasible d n plan → HasLiveAlone (is_live d (routes_of d)) plan

-- ---- numbers

-- each live variable stands among them at its number
abbrev pub AreNumbered : (Command → Bool) → Station → List Route → ℕ → Type 0
AreNumbered live d routes n = (v : Variable) → In v (live_variables live d routes n)
    → (1 ≤ live_number live d routes n v)
    × (slice_get (live_variables live d routes n) (live_number live d routes n v - 1) ≡ Some v)

-- so many there are
abbrev pub AreCounted : (Command → Bool) → Station → List Route → ℕ → Type 0
AreCounted live d routes n = length (live_variables live d routes n) ≡ live_count live d routes n

-- each literal of the base that is left has a variable from 1 to their count, and none the one which says that all is
-- given by step n
abbrev pub AreLiveInRange : Turns → (Command → Bool) → Station → List Route → ℕ → Type 0
AreLiveInRange turns live d routes n = (c : List Lit) → In c (base_left turns live d routes n) → (l : Lit) → In l c
    → (1 ≤ l.var) × (l.var ≤ live_count live d routes n) × (l.var ≢ live_number live d routes n (By n))

-- ---- the list

-- what is left of the clauses are these, family by family
abbrev pub AreListed : Turns → (Command → Bool) → Station → List Route → ℕ → Type 0
AreListed turns live d routes n = clauses_left turns live d routes n ≡ live_clauses turns live d routes n

-- ---- values

-- values of the live variables make the base that is left true exactly where they make the sorted base true, with dead
-- variables false
abbrev pub AreSpread : Turns → (Command → Bool) → Station → List Route → ℕ → Type 0
AreSpread turns live d routes n = (values : ℕ → Bool) → list_all (clause_holds values) (base_left turns live d routes n)
    ≡ list_all (clause_holds (spread live d routes n values)) (sorted_base turns d routes n)

-- the model of a plan that has live commands alone is that of the plan over the live variables, with dead ones false
abbrev pub ModelsAreSpread : (Command → Bool) → Station → List Route → ℕ → Type 0
ModelsAreSpread live d routes n = (plan : List (List Command)) → HasLiveAlone live plan → (v : ℕ)
    → spread live d routes n (live_model_of live d routes n plan) v ≡ model_of d routes n plan v

-- each live variable says in it what is so
abbrev pub ModelsSay : (Command → Bool) → Station → List Route → ℕ → Type 0
ModelsSay live d routes n = (plan : List (List Command)) (v : Variable) → In v (live_variables live d routes n)
    → live_model_of live d routes n plan (live_number live d routes n v) ≡ is_so plan v

-- it makes the base that is left true exactly where the model makes the sorted base true
abbrev pub ModelsAreAlike : Turns → (Command → Bool) → Station → List Route → ℕ → Type 0
ModelsAreAlike turns live d routes n = (plan : List (List Command)) → HasLiveAlone live plan
    → list_all (clause_holds (live_model_of live d routes n plan)) (base_left turns live d routes n)
    ≡ list_all (clause_holds (model_of d routes n plan)) (sorted_base turns d routes n)

-- a plan that is feasible for n steps, has live commands alone, all given by step k, and makes the live base true
pub record HasLiveModelBy (turns : Turns) (d : Station) (n k : ℕ) : Type 0 where
  pub plan : List (List Command)
  pub feasible : IsFeasible d n plan
  pub live_alone : HasLiveAlone (is_live d (routes_of d)) plan
  pub holds : list_all (clause_holds (live_model_of (is_live d (routes_of d)) d (routes_of d) n plan))
      (live_base turns d (routes_of d) n) ≡ true
  pub by : live_model_of (is_live d (routes_of d)) d (routes_of d) n plan
      (live_number (is_live d (routes_of d)) d (routes_of d) n (By k)) ≡ true

-- where a plan of k steps is feasible, there is such a one
abbrev pub FeasibleHaveLiveModels : Turns → Station → ℕ → ℕ → Type 0
FeasibleHaveLiveModels turns d n k = (plan : List (List Command)) → IsFeasible d k plan → HasLiveModelBy turns d n k

-- values that make the base that is left true make the sorted base true, with dead variables false, and give a plan of
-- live commands alone
abbrev pub LiveModelsGivePlans : Turns → (Command → Bool) → Station → List Route → ℕ → Type 0
LiveModelsGivePlans turns live d routes n = (values : ℕ → Bool)
    → list_all (clause_holds values) (base_left turns live d routes n) ≡ true
    → (list_all (clause_holds (spread live d routes n values)) (sorted_base turns d routes n) ≡ true)
    × HasLiveAlone live (decoded d routes n (spread live d routes n values))

-- the plan is the one that the values of the live variables give
abbrev pub AreDecodedAlike : (Command → Bool) → Station → List Route → ℕ → Type 0
AreDecodedAlike live d routes n = (values : ℕ → Bool)
    → decoded d routes n (spread live d routes n values) ≡ live_decoded live d routes n values

-- ---- of which designs it is so

-- it is so of every design
abbrev pub OfEachDesign : (Station → List Route → Type 0) → Type 0
OfEachDesign Is = (d : Station) → Is d (routes_of d)

-- whichever commands are taken for live, for every number of steps from 1 on
abbrev pub OfAnyLive : ((Command → Bool) → Station → List Route → ℕ → Type 0) → Type 0
OfAnyLive Is = (live : Command → Bool) (d : Station) (routes : List Route) (n : ℕ) → 1 ≤ n → Is live d routes n
