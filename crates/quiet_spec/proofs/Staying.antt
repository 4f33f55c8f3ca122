-- In quiet ticks nothing is added to the history.
use Rattle.std.proofs.Common.{◌≡◌, ℕ, zero, suc, ◌+◌, ◌≤◌, inl, inr, Bool, true, false, ◌==◌, if◌then◌else◌, nat_le, List, [], ◌∷◌, map, Option, None, Some, option_map, refl, sym, ap, ap₂, ◌∙◌, arith}
use Rattle.std.specs.List.{enumerate_from}
use Rattle.rail_base.specs.declared.station.Station.{Station}
use Rattle.rail_base.specs.declared.station.NodeNo.{NodeNo}
use Rattle.rail_base.specs.declared.station.SectionNo.{SectionNo}
use Rattle.rail_base.specs.declared.station.TrainNo.{TrainNo}
use Rattle.rail_base.specs.declared.route.Route.{Route}
use Rattle.rail_base.specs.declared.route.RouteNo.{RouteNo}
use Rattle.rail_base.specs.declared.state.TrainState.{TrainState}
use Rattle.rail_base.specs.declared.state.PathNode.{PathNode}
use Rattle.rail_base.specs.declared.history.TrainHistory.{TrainHistory}
use Rattle.rail_base.specs.Members.{In}
use Rattle.rail_base.specs.Numbering.{entry, least, or_this, from_first, first_of_list, after_first}
use Rattle.rail_base.specs.Stations.{IsTrain, trains, train_of, dwell_ticks}
use Rattle.rail_spec.specs.Plans.{has_node}
use Rattle.rail_base.specs.Routes.{route_at, held_sections, own_sections}
use Rattle.rail_base.specs.declared.plan.Command.{Command}
use Rattle.rail_base.proofs.Members.{map-map}
use Rattle.rail_spec.specs.Dispatches.{Dispatch, state_of, has_come, has_released, pasts_at, state_at}
use Rattle.rail_spec.specs.Visits.{pass_tick, passed, path_nodes_of_train, visits_of_train}
use Rattle.rail_spec.specs.Places.{visits_at, visits_on}
use Rattle.rail_spec.specs.Requirements.{visit_numbers}
use Rattle.rail_spec.specs.Histories.{dwell_up_to}
use Rattle.quiet_spec.specs.Histories.{grant_tick, granted, held_on, release_tick, released, released_of, visit_made, has_stood, dwell_tick, train_history, history_at}
use Rattle.rail_require.proofs.Agreeing.{is_a_train}
use Rattle.rail_course.specs.declared.journey.Hold.{Hold}
use Rattle.rail_course.specs.declared.journey.Release.{Release}
use Rattle.rail_course.specs.Holds.{hold_for, holds_of_route, holds_of_train}
use Rattle.rail_course.specs.Releases.{release_for, releases_of_route, releases_of_train}
use Rattle.rail_base.proofs.Sharing.{own_goes_over}
use Rattle.rail_course.proofs.Showing.{ended_at, released_shown}
use Rattle.quiet_spec.specs.Quiet.{IsQuiet, drift}
use Rattle.quiet_spec.proofs.Drifting.{map-same, hold_same, apart_same, event_same, drift_granted, drift_within, drift_stood_within, go_on}
use Rattle.rail_base.proofs.Lists.{map-flat_map, flat_map-each}
use Rattle.rail_base.specs.Events.{has_happened}

-- ---- the least number that passes

-- from 1 on it stays where the test answers as before
pub least_same : (test : ℕ → Bool) (k j : ℕ) → 1 ≤ k → ((i : ℕ) → i ≤ j → test (k + i) ≡ test k) → least test (k + j) ≡ least test k
least_same test k zero low h = let e : k + 0 ≡ k = omega arith in ap (least test) e
least_same test k (suc j) low h =
    let e : k + suc j ≡ suc (k + j) = omega arith in
    ap (least test) e
    ∙ ap₂ (λ o b. or_this o b (suc (k + j))) (least_same test k j low (λ i l. h i (omega arith))) (ap test (sym e) ∙ h (suc j) (omega arith))
    ∙ go k low (suc (k + j))
  where
    twice : (o : Option ℕ) (b : Bool) (k n : ℕ) → or_this (or_this o b k) b n ≡ or_this o b k
    twice (Some a) b k n = refl
    twice None true k n = refl
    twice None false k n = refl

    go : (k : ℕ) → 1 ≤ k → (n : ℕ) → or_this (least test k) (test k) n ≡ least test k
    go zero low n = absurd (omega arith)
    go (suc k) low n = twice (least test k) (test (suc k)) (suc k) n

-- ---- the stops of visits are stops of the path

in_from : (test : PathNode → Bool) (ps : List PathNode) (p : PathNode) → In p (from_first test ps) → In p ps
in_from test [] p m = m
in_from test (q ∷ ps) p m = go (test q) (in_from test ps p) m
  where
    go : (b : Bool) → (In p (from_first test ps) → In p ps) → In p (if b then q ∷ ps else from_first test ps) → In p (q ∷ ps)
    go true rest h = h
    go false rest h = inr (rest h)

in_after : (ps : List PathNode) (p : PathNode) → In p (after_first ps) → In p ps
in_after [] p m = m
in_after (q ∷ ps) p m = inr m

first_in : (ps : List PathNode) (p : PathNode) → first_of_list ps ≡ Some p → In p ps
first_in [] p e = cc
first_in (q ∷ ps) p e = inl cc

in_visits_at : (sets : List (List NodeNo)) (ps : List PathNode) (p : PathNode) → In (Some p) (visits_at sets ps) → In p ps
in_visits_at [] ps p m = absurd m
in_visits_at (set ∷ sets) ps p (inl e) = in_from (λ p. has_node set p.node) ps p (first_in (from_first (λ p. has_node set p.node) ps) p e)
in_visits_at (set ∷ sets) ps p (inr m) =
    in_from (λ p. has_node set p.node) ps p (in_after (from_first (λ p. has_node set p.node) ps) p (in_visits_at sets (after_first (from_first (λ p. has_node set p.node) ps)) p m))

in_visits_on : (sets : List (List NodeNo)) (ps : List PathNode) (p : PathNode) → In (Some p) (visits_on sets ps) → In p ps
in_visits_on [] ps p m = absurd m
in_visits_on (set ∷ sets) ps p (inl e) = first_in ps p e
in_visits_on (set ∷ sets) ps p (inr m) = in_after ps p (in_visits_at sets (after_first ps) p m)

-- ---- releases, as a history lists them

least_each : (f g : ℕ → Bool) (k : ℕ) → ((i : ℕ) → f i ≡ g i) → least f k ≡ least g k
least_each f g zero h = refl
least_each f g (suc k) h = ap₂ (λ o b. or_this o b (suc k)) (least_each f g k h) (h (suc k))

module _ (d : Station) (routes : List Route) (dispatch : Dispatch) (t : TrainNo) where
  abbrev pub release : ℕ → Release → RouteNo × SectionNo × Option ℕ
  release k r = (r.route, r.section, least (λ i. has_happened (state_of (state_at d routes dispatch i) t) r.event) k)

  released_of_route : (k : ℕ) (r : RouteNo) → map (release k) (releases_of_route d routes dispatch t r) ≡ released_of d routes dispatch k t r (own_sections (route_at routes r))
  released_of_route k r =
      map-map (release k) (release_for d routes dispatch c) (own_sections (route_at routes r))
      ∙ map-same (λ z. release k (release_for d routes dispatch c z)) (λ z. (r, z, release_tick d routes dispatch k c z)) (own_sections (route_at routes r))
      (λ z m. ap (λ o. (r, z, o)) (least_each (λ i. has_happened (state_of (state_at d routes dispatch i) t) (release_for d routes dispatch c z).event) (λ i. has_released d routes dispatch (pasts_at d routes dispatch i) c z) k
      (λ i. released_shown d routes dispatch i c z (own_goes_over (route_at routes r) z m))))
    where
      c : Command
      c = record { train = t; route = r }

  pub released_is : (k : ℕ) → map (release k) (releases_of_train d routes dispatch t) ≡ released d routes dispatch k t
  released_is k =
      map-flat_map (release k) (releases_of_route d routes dispatch t) (dispatch.path t)
      ∙ flat_map-each (λ r. map (release k) (releases_of_route d routes dispatch t r)) (λ r. released_of d routes dispatch k t r (own_sections (route_at routes r))) (dispatch.path t) (released_of_route k)

  -- and the ends of holds
  pub held_is : (k : ℕ) → map (ended_at d routes dispatch k) (holds_of_train d routes dispatch t) ≡ held_on d routes dispatch k t
  held_is k =
      map-flat_map (ended_at d routes dispatch k) (holds_of_route d routes dispatch t) (dispatch.path t)
      ∙ flat_map-each (λ r. map (ended_at d routes dispatch k) (holds_of_route d routes dispatch t r)) (λ r. released_of d routes dispatch k t r (held_sections (route_at routes r))) (dispatch.path t)
      (λ r. map-map (ended_at d routes dispatch k) (hold_for d routes dispatch (record { train = t; route = r })) (held_sections (route_at routes r)))

-- ---- the history

told_same : (g h : List (RouteNo × Option ℕ)) (p q : List (NodeNo × Option ℕ)) (r s l m : List (RouteNo × SectionNo × Option ℕ)) (v w : List (Option (NodeNo × ℕ))) (x y : List (Option ℕ)) → g ≡ h → p ≡ q → r ≡ s → l ≡ m → v ≡ w → x ≡ y
    → ◌≡◌ {A = TrainHistory} (record { grants = g; passes = p; releases = r; holds = l; visits = v; dwells = x }) (record { grants = h; passes = q; releases = s; holds = m; visits = w; dwells = y })
told_same g h p q r s l m v w x y a b c n e f = cc

-- the history of a train stays where its tests answer as before
module _ (d : Station) (routes : List Route) (dispatch : Dispatch) (t : TrainNo) (k j : ℕ) (low : 1 ≤ k) where
  abbrev at : ℕ → TrainState
  at i = state_of (state_at d routes dispatch i) t

  module _ (same : (i : ℕ) → i ≤ j → (at (k + i)).granted ≡ (at k).granted)
      (passes : (p : PathNode) → In p (path_nodes_of_train d routes dispatch t) → (i : ℕ) → i ≤ j → has_happened (at (k + i)) p.event ≡ has_happened (at k) p.event)
      (outs : (r : Release) → In r (releases_of_train d routes dispatch t) → (i : ℕ) → i ≤ j → has_happened (at (k + i)) r.event ≡ has_happened (at k) r.event)
      (held : (h : Hold) → In h (holds_of_train d routes dispatch t) → (i : ℕ) → i ≤ j → has_come (pasts_at d routes dispatch (k + i)) h.event ≡ has_come (pasts_at d routes dispatch k) h.event)
      (standing : (m i : ℕ) → i ≤ j → has_stood d routes dispatch t m (k + i) ≡ has_stood d routes dispatch t m k) where
    grants_stay : granted d routes dispatch (k + j) t ≡ granted d routes dispatch k t
    grants_stay = map-same (λ p. (p.1, grant_tick d routes dispatch (k + j) t p.0)) (λ p. (p.1, grant_tick d routes dispatch k t p.0)) (enumerate_from 1 (dispatch.path t))
        (λ p m. ap (λ o. (p.1, o)) (least_same (λ i. nat_le p.0 (at i).granted) k j low (λ i l. ap (nat_le p.0) (same i l))))

    pass_stays : (p : PathNode) → In p (path_nodes_of_train d routes dispatch t) → pass_tick d routes dispatch (k + j) t p ≡ pass_tick d routes dispatch k t p
    pass_stays p m = least_same (λ i. has_happened (at i) p.event) k j low (λ i l. passes p m i l)

    passes_stay : passed d routes dispatch (k + j) t ≡ passed d routes dispatch k t
    passes_stay = map-same (λ p. (p.node, pass_tick d routes dispatch (k + j) t p)) (λ p. (p.node, pass_tick d routes dispatch k t p)) (path_nodes_of_train d routes dispatch t) (λ p m. ap (λ o. (p.node, o)) (pass_stays p m))

    releases_stay : released d routes dispatch (k + j) t ≡ released d routes dispatch k t
    releases_stay =
        sym (released_is d routes dispatch t (k + j))
        ∙ map-same (λ r. (r.route, r.section, least (λ i. has_happened (at i) r.event) (k + j))) (λ r. (r.route, r.section, least (λ i. has_happened (at i) r.event) k)) (releases_of_train d routes dispatch t)
        (λ r m. ap (λ o. (r.route, r.section, o)) (least_same (λ i. has_happened (at i) r.event) k j low (λ i l. outs r m i l)))
        ∙ released_is d routes dispatch t k

    holds_stay : held_on d routes dispatch (k + j) t ≡ held_on d routes dispatch k t
    holds_stay =
        sym (held_is d routes dispatch t (k + j))
        ∙ map-same (ended_at d routes dispatch (k + j)) (ended_at d routes dispatch k) (holds_of_train d routes dispatch t)
        (λ h m. ap (λ o. (h.route, h.section, o)) (least_same (λ i. has_come (pasts_at d routes dispatch i) h.event) k j low (λ i l. held h m i l)))
        ∙ held_is d routes dispatch t k

    visits_stay : map (visit_made d routes dispatch (k + j) t) (visits_of_train d routes dispatch t) ≡ map (visit_made d routes dispatch k t) (visits_of_train d routes dispatch t)
    visits_stay = map-same (visit_made d routes dispatch (k + j) t) (visit_made d routes dispatch k t) (visits_of_train d routes dispatch t) one
      where
        one : (place : Option PathNode) → In place (visits_of_train d routes dispatch t) → visit_made d routes dispatch (k + j) t place ≡ visit_made d routes dispatch k t place
        one None m = refl
        one (Some p) m = ap (option_map (λ i. (p.node, i))) (pass_stays p (in_visits_on (train_of d t).visits (path_nodes_of_train d routes dispatch t) p m))

    dwell_stays : (m : ℕ) → dwell_tick d routes dispatch (k + j) t m ≡ dwell_tick d routes dispatch k t m
    dwell_stays m = ap (λ o. if entry 0 (dwell_ticks d t) m == 0 then None else o) (least_same (has_stood d routes dispatch t m) k j low (λ i l. standing m i l))

    dwells_stay : map (dwell_tick d routes dispatch (k + j) t) (visit_numbers d t) ≡ map (dwell_tick d routes dispatch k t) (visit_numbers d t)
    dwells_stay = map-same (dwell_tick d routes dispatch (k + j) t) (dwell_tick d routes dispatch k t) (visit_numbers d t) (λ m i. dwell_stays m)

    pub train_as_tested : train_history d routes dispatch (k + j) t ≡ train_history d routes dispatch k t
    train_as_tested = told_same _ _ _ _ _ _ _ _ _ _ _ _ grants_stay passes_stay releases_stay holds_stay visits_stay dwells_stay

module _ (d : Station) (routes : List Route) (dispatch : Dispatch) (k n : ℕ) (low : 1 ≤ k) (quiet : IsQuiet d routes dispatch k n) (t : TrainNo) (train : IsTrain d t) where
  abbrev now : ℕ → TrainState
  now i = state_of (state_at d routes dispatch i) t

  abbrev end : ℕ
  end = (drift d routes dispatch t k n (now k)).x

  granted_same : (i : ℕ) → i ≤ n → (now (k + i)).granted ≡ (now k).granted
  granted_same i within = ap (λ s. s.granted) (go_on d routes dispatch k n quiet i within t train) ∙ drift_granted d routes dispatch t (now k).granted k i (now k) refl

  pass_same : (p : PathNode) → In p (path_nodes_of_train d routes dispatch t) → (i : ℕ) → i ≤ n → has_happened (now (k + i)) p.event ≡ has_happened (now k) p.event
  pass_same p m i within =
      ap (λ s. has_happened s p.event) (go_on d routes dispatch k n quiet i within t train)
      ∙ event_same (now k) (drift d routes dispatch t k i (now k)) end p.event (drift_granted d routes dispatch t (now k).granted k i (now k) refl)
      (drift_within d routes dispatch t (now k).granted k 0 i (now k) (omega arith)) (drift_within d routes dispatch t (now k).granted k i n (now k) within) ((quiet.each t train).places.nodes p m)

  release_same : (r : Release) → In r (releases_of_train d routes dispatch t) → (i : ℕ) → i ≤ n → has_happened (now (k + i)) r.event ≡ has_happened (now k) r.event
  release_same r m i within =
      ap (λ s. has_happened s r.event) (go_on d routes dispatch k n quiet i within t train)
      ∙ event_same (now k) (drift d routes dispatch t k i (now k)) end r.event (drift_granted d routes dispatch t (now k).granted k i (now k) refl)
      (drift_within d routes dispatch t (now k).granted k 0 i (now k) (omega arith)) (drift_within d routes dispatch t (now k).granted k i n (now k) within) ((quiet.each t train).places.releases r m)

  held_same : (h : Hold) → In h (holds_of_train d routes dispatch t) → (i : ℕ) → i ≤ n → has_come (pasts_at d routes dispatch (k + i)) h.event ≡ has_come (pasts_at d routes dispatch k) h.event
  held_same h m i within =
      hold_same d routes dispatch t h m k (k + i) (k + n) (omega arith) (omega arith) (quiet.each t train).holds
      (ap (λ s. has_happened s h.event.event) (go_on d routes dispatch k n quiet i within t train)
      ∙ event_same (now k) (drift d routes dispatch t k i (now k)) end h.event.event (drift_granted d routes dispatch t (now k).granted k i (now k) refl)
      (drift_within d routes dispatch t (now k).granted k 0 i (now k) (omega arith)) (drift_within d routes dispatch t (now k).granted k i n (now k) within) ((quiet.each t train).places.holds h m))

  stood_same : (m i : ℕ) → i ≤ n → has_stood d routes dispatch t m (k + i) ≡ has_stood d routes dispatch t m k
  stood_same m i within =
      ap (λ s. nat_le (dwell_up_to d t m) s.stood) (go_on d routes dispatch k n quiet i within t train)
      ∙ apart_same (now k).stood (drift d routes dispatch t k i (now k)).stood (drift d routes dispatch t k n (now k)).stood (dwell_up_to d t m)
      (drift_stood_within d routes dispatch t (now k).granted k 0 i (now k) (omega arith)) (drift_stood_within d routes dispatch t (now k).granted k i n (now k) within) ((quiet.each t train).places.stands m)

  pub train_same : (j : ℕ) → j ≤ n → train_history d routes dispatch (k + j) t ≡ train_history d routes dispatch k t
  train_same j within =
      train_as_tested d routes dispatch t k j low (λ i l. granted_same i (omega arith)) (λ p m i l. pass_same p m i (omega arith)) (λ r m i l. release_same r m i (omega arith)) (λ h m i l. held_same h m i (omega arith)) (λ m i l. stood_same m i (omega arith))

pub history_same : (d : Station) (routes : List Route) (dispatch : Dispatch) (k n : ℕ) → 1 ≤ k → IsQuiet d routes dispatch k n → (j : ℕ) → j ≤ n → history_at d routes dispatch (k + j) ≡ history_at d routes dispatch k
history_same d routes dispatch k n low quiet j within =
    map-same (train_history d routes dispatch (k + j)) (train_history d routes dispatch k) (trains d) (λ t m. train_same d routes dispatch k n low quiet t (is_a_train d t m) j within)
