-- No two trains in one section, and each within its authority and its limits.
use Rattle.std.specs.Prelude.{◌≡◌, ℕ, suc, ◌+◌, ◌-◌, ◌≤◌, Bool, true, not, ◌&&◌, ◌||◌, ◌==◌, List, flat_map, nat_lt}
use Rattle.std.specs.Prelude.{IsTrue}
use Rattle.std.specs.List.{list_any}
use Rattle.rail_base.specs.declared.station.Station.{Station}
use Rattle.rail_base.specs.declared.station.EdgeNo.{EdgeNo}
use Rattle.rail_base.specs.declared.station.SectionNo.{SectionNo}
use Rattle.rail_base.specs.declared.station.TrainNo.{TrainNo}
use Rattle.rail_base.specs.declared.route.Route.{Route}
use Rattle.rail_base.specs.declared.plan.Command.{Command}
use Rattle.rail_spec.specs.Track.{edge_ends}
use Rattle.rail_base.specs.Stations.{section_of, length_of, train_length}
use Rattle.rail_spec.specs.Plans.{route_at, has_section, commands, is_train, path_routes}
use Rattle.rail_base.specs.declared.state.TrainState.{TrainState}
use Rattle.rail_spec.specs.Dispatches.{state_of, rates, binding_length, stretches, granted_routes, authority, of_plan, is_granted}
use Rattle.rail_spec.specs.Dispatches.{has_released, now, pasts_at, state_at}
use Rattle.rail_spec.specs.Motion.{KeepsLimits, may_stop}

module _ (d : Station) (routes : List Route) (plan : List (List Command)) where
  -- the command is the train's, has the section, and is granted, and hasn't released it
  abbrev pub is_held_by : List (List TrainState) → TrainNo → SectionNo → Command → Bool
  is_held_by ps t z c = is_train c.train t && has_section (route_at routes c.route) z
      && is_granted d routes (of_plan routes plan) (now ps) c && not (has_released d routes (of_plan routes plan) ps c z)

  -- some command of the train that has the section is granted and hasn't released it
  abbrev pub holds : ℕ → TrainNo → SectionNo → Bool
  holds k t z = list_any (is_held_by (pasts_at d routes (of_plan routes plan) k) t z) (commands plan)

  -- an edge of the section on the train's path begins before the head and ends past the tail
  abbrev pub covers : TrainState → TrainNo → SectionNo → EdgeNo × ℕ → Bool
  covers s t z e = ((section_of d e.0).0 == z.0)
      && nat_lt e.1 (s.x + length_of d e.0) && nat_lt s.x (e.1 + train_length d t)

  -- the train stands on the section
  abbrev pub stands_on : ℕ → TrainNo → SectionNo → Bool
  stands_on k t z =
      let edges = edge_ends d 0 (flat_map (λ r. r.edges) (path_routes routes plan t)) in
      list_any (covers (state_of (state_at d routes (of_plan routes plan) k) t) t z) edges

  -- two trains hold one section, or one holds it where another stands, or two stand on one
  pub record Clash (k : ℕ) : Type 0 where
    pub one : TrainNo
    pub other : TrainNo
    pub section : SectionNo
    pub differ : IsTrue (not (is_train one other))
    pub at_once :
        IsTrue ((holds k one section || stands_on k one section) && (holds k other section || stands_on k other section))

  -- at each tick each train with a granted command has its head where it may stop, by the end of authority of what it is
  -- granted; and from each tick to the next each point that the head covers, and each under a tail that limits bind, has a
  -- limit of at least the new speed
  pub record KeepsToTrack : Type 0 where
    pub in_authority : (k : ℕ) (t : TrainNo) → let s = state_of (state_at d routes (of_plan routes plan) k) t in
        1 ≤ s.granted → may_stop (authority d routes (of_plan routes plan) t s) s.x ≡ true
    pub in_limits : (k : ℕ) (t : TrainNo) →
        let old = state_of (state_at d routes (of_plan routes plan) k) t in
        let new = state_of (state_at d routes (of_plan routes plan) (suc k)) t in
        let from = old.x - binding_length d t in
        let given = granted_routes d routes (of_plan routes plan) t new in
        1 ≤ new.granted → KeepsLimits (rates d t).top (stretches d given) from new.x new.v
