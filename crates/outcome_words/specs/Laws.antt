-- What the lines say of a plan is so of its run.
use Rattle.std.specs.Prelude.{◌≡◌, ℕ, ◌+◌, ◌-◌, true, false, List, take, length, sum_by, Option, None, Some, is_some, slice_get}
use Rattle.std.specs.List.{enumerate_from}
use Rattle.rail_base.specs.declared.station.Station.{Station}
use Rattle.rail_base.specs.declared.station.Order.{Order}
use Rattle.rail_base.specs.declared.station.SectionNo.{SectionNo}
use Rattle.rail_base.specs.declared.station.TrainNo.{TrainNo}
use Rattle.rail_base.specs.declared.station.Within.{Within}
use Rattle.rail_base.specs.declared.route.Route.{Route}
use Rattle.rail_base.specs.declared.route.RouteNo.{RouteNo}
use Rattle.rail_base.specs.declared.plan.Command.{Command}
use Rattle.rail_base.specs.declared.plan.Violation.TheVariants as violation
use Rattle.rail_base.specs.declared.history.TrainHistory.{TrainHistory}
use Rattle.rail_base.specs.declared.history.Verdict.{Verdict}
use Rattle.rail_base.specs.declared.history.Verdict.TheVariants.{Met, Failed, Undecided}
use Rattle.rail_base.specs.declared.state.PathNode.{PathNode}
use Rattle.rail_base.specs.Admitted.{IsAdmitted}
use Rattle.rail_base.specs.Members.{In}
use Rattle.rail_base.specs.Numbering.{entry}
use Rattle.rail_base.specs.Routes.{route_at, shared}
use Rattle.rail_base.specs.Stations.{IsTrain, horizon}
use Rattle.rail_spec.specs.Dispatches.{of_plan}
use Rattle.rail_spec.specs.Feasible.{names_only}
use Rattle.rail_spec.specs.Histories.{dwell_tick, grant_tick, release_tick, verdict_of}
use Rattle.rail_spec.specs.Plans.{path, precedes}
use Rattle.rail_spec.specs.Requirements.{keeps_order, keeps_within}
use Rattle.rail_spec.specs.Track.{routes_of}
use Rattle.rail_spec.specs.Visits.{pass_tick, path_nodes_of_train, visit_tick}
use Rattle.rail_require.specs.Ticks.{history_of, is_before}
use Rattle.rail_require.specs.Ticks as ticks
use Rattle.run_drawing.specs.declared.ending.Ending.TheVariants as ending
use Rattle.run_drawing.specs.Requirements.{ending_of_order, ending_of_within}
use Rattle.outcome_words.specs.declared.waits.Wait.{Wait}
use Rattle.outcome_words.specs.Outcome.{outcome_lines, run_lines}
use Rattle.outcome_words.specs.Waits.{last_waiting, wait_of}

-- the node of a path that none is
abbrev pub no_path_node : PathNode
no_path_node = record { node = record { 0 = 0 }; event = record { granted = 0; place = 0 } }

-- what a verdict shows to have happened in a run, and up to which tick
abbrev pub shown_by : Verdict → Option (List TrainHistory × ℕ)
shown_by (Met history last) = Some (history, last)
shown_by (Failed history last (violation.Path t j)) = None
shown_by (Failed history last (violation.Within w)) = Some (history, last)
shown_by (Failed history last (violation.Order o)) = Some (history, last)
shown_by (Failed history last (violation.Grant t j)) = Some (history, last)
shown_by (Failed history last (violation.Visit t j)) = Some (history, last)
shown_by Undecided = None

module _ (d : Station) (routes : List Route) (plan : List (List Command)) where
  -- so many ticks of the plan's run show this up to the last tick
  abbrev pub IsShown : ℕ → List TrainHistory → ℕ → Type 0
  IsShown n history last = shown_by (verdict_of d routes plan n) ≡ Some (history, last)

  -- the lines are those of the run; the ticks of visits and of the ends of stands are the run's; and what is said to
  -- be met is kept by the horizon, and what is said to be broken is not
  pub record OutcomeIsSo (n : ℕ) (history : List TrainHistory) (last : ℕ) : Type 0 where
    pub lines : outcome_lines d routes plan (verdict_of d routes plan n) ≡ run_lines d routes plan history last
    pub visit : (t : TrainNo) → IsTrain d t → (j : ℕ)
        → ticks.visit_tick history t j ≡ visit_tick d routes (of_plan routes plan) last t j
    pub dwell : (t : TrainNo) → IsTrain d t → (j : ℕ)
        → entry None (history_of history t).dwells j ≡ dwell_tick d routes plan last t j
    pub order_met : (o : Order) → In o d.orders → ending_of_order history o ≡ ending.Met
        → keeps_order d routes plan (horizon d) o ≡ true
    pub order_broken : (o : Order) → In o d.orders → ending_of_order history o ≡ ending.Broken
        → keeps_order d routes plan (horizon d) o ≡ false
    pub within_met : (w : Within) → In w d.withins → ending_of_within d history last w ≡ ending.Met
        → keeps_within d routes plan (horizon d) w ≡ true
    pub within_broken : (w : Within) → In w d.withins → ending_of_within d history last w ≡ ending.Broken
        → keeps_within d routes plan (horizon d) w ≡ false

  -- the edges of the routes before the command of this number
  abbrev pub edges_before : TrainNo → ℕ → ℕ
  edges_before t j = sum_by (λ r. length (route_at routes r).edges) (take (j - 1) (path plan t))

  -- the nodes of a train's path, the first of which is where it begins
  abbrev pub nodes_of : TrainNo → List PathNode
  nodes_of t = path_nodes_of_train d routes (of_plan routes plan) t

  -- a wait of a train for the command of a number, with this route: it begins with the run, or when the train passes the last node before the
  -- route; it lasts up to the tick before the grant, or the last; and the release is that of a section which the command shares with one
  -- that precedes it, and has not come before the last tick of the wait: it comes in it where the command is granted. Over the routes of the
  -- design there is one
  pub record WaitIsSo (last : ℕ) (t : TrainNo) (j : ℕ) (r : RouteNo) (w : Wait) : Type 0 where
    pub route : slice_get (path plan t) (j - 1) ≡ Some r
    pub start : w.start ≡ (route_at routes r).start
    pub first : j ≡ 1 → w.from ≡ 0
    pub later : (j ≡ 1 → ⊥)
        → pass_tick d routes (of_plan routes plan) last t (entry no_path_node (nodes_of t) (edges_before t j + 1)) ≡ Some w.from
    pub until : w.until ≡ last_waiting last (grant_tick d routes plan last t j)
    pub granted : w.granted ≡ is_some (grant_tick d routes plan last t j)
    pub precedes : (e : Command) (z : SectionNo) → w.release ≡ Some (e, z)
        → precedes routes plan e (record { train = t; route = r }) ≡ true
    pub shares : (e : Command) (z : SectionNo) → w.release ≡ Some (e, z)
        → In z (shared (route_at routes e.route) (route_at routes r))
    pub late : (e : Command) (z : SectionNo) → w.release ≡ Some (e, z)
        → is_before w.until (release_tick d routes plan last e z) ≡ false
    pub in_time : (e : Command) (z : SectionNo) → w.release ≡ Some (e, z) → w.granted ≡ true
        → release_tick d routes plan last e z ≡ Some w.until
    pub some : routes ≡ routes_of d → is_some w.release ≡ true

-- of any plan over an admitted design, whatever is shown of its run
abbrev pub OutcomesAreSo : Type 0
OutcomesAreSo = (d : Station) (routes : List Route) (plan : List (List Command)) → IsAdmitted d
    → (n : ℕ) (history : List TrainHistory) (last : ℕ) → IsShown d routes plan n history last
    → OutcomeIsSo d routes plan n history last

-- and of each command of each train for which it waits
abbrev pub WaitsAreSo : Type 0
WaitsAreSo = (d : Station) (routes : List Route) (plan : List (List Command)) → IsAdmitted d → names_only d routes plan ≡ true
    → (n : ℕ) (history : List TrainHistory) (last : ℕ) → IsShown d routes plan n history last
    → (t : TrainNo) → IsTrain d t
    → (c : ℕ × (RouteNo × Option ℕ)) → In c (enumerate_from 1 (history_of history t).grants)
    → (w : Wait) → wait_of routes plan history last t (history_of history t) c ≡ Some w
    → WaitIsSo d routes plan last t c.0 c.1.0 w
