-- One more tick of the history of a run.
use Rattle.std.proofs.Common.{◌≡◌, inl, inr, All, ℕ, zero, suc, ◌+◌, ◌-◌, ◌≤◌, Bool, true, false, ◌==◌, if◌then◌else◌, nat_le, nat_lt, List, [], ◌∷◌, map, length, take, Option, None, Some, option_map, refl, sym, ap, ap₂, subst, ◌∙◌, arith}
use Rattle.std.specs.List.{enumerate_from, sum}
use Rattle.std.proofs.Math.Path.{fun_ext}
use Rattle.rail_base.specs.declared.station.Station.{Station}
use Rattle.rail_base.specs.declared.station.NodeNo.{NodeNo}
use Rattle.rail_base.specs.declared.station.SectionNo.{SectionNo}
use Rattle.rail_base.specs.declared.station.TrainNo.{TrainNo}
use Rattle.rail_base.specs.declared.route.Route.{Route}
use Rattle.rail_base.specs.declared.route.RouteNo.{RouteNo}
use Rattle.rail_base.specs.declared.plan.Command.{Command}
use Rattle.rail_base.specs.declared.state.PathNode.{PathNode}
use Rattle.rail_base.specs.declared.state.TrainState.{TrainState}
use Rattle.rail_base.specs.Numbering.{or_this, least, entry, count_from, one_to}
use Rattle.rail_base.specs.Stations.{train_of, dwell_ticks, whole_ticks}
use Rattle.rail_base.specs.Members.{In}
use Rattle.rail_base.specs.Routes.{IsRoute, goes_over, held_sections, own_sections, route_at}
use Rattle.rail_base.proofs.Members.{map-map}
use Rattle.rail_base.proofs.Sharing.{own_goes_over}
use Rattle.rail_spec.specs.Visits.{pass_tick, path_nodes_of_train, visits_of_train, passed}
use Rattle.rail_spec.specs.Plans.{path}
use Rattle.rail_spec.specs.Dispatches.{state_of, of_plan, has_come, pasts_at, state_at}
use Rattle.rail_base.specs.declared.history.TrainHistory.{TrainHistory}
use Rattle.rail_spec.specs.Requirements.{visit_numbers}
use Rattle.rail_spec.specs.Histories.{grant_tick, granted, released, released_of, held_on, visit_made, has_stood, dwell_tick, train_history}
use Rattle.rail_course.specs.Dwells.{dwells_from}
use Rattle.rail_course.proofs.Following.{Follow, follow_all}
use Rattle.rail_course.specs.declared.journey.Hold.{Hold}
use Rattle.rail_course.specs.declared.journey.Release.{Release}
use Rattle.rail_course.specs.Clocks.{comes_by, own_ticks}
use Rattle.rail_course.specs.Holds.{hold_for, holds_of_route, holds_of_train}
use Rattle.rail_course.specs.Tracks.{AreLaid}
use Rattle.rail_course.proofs.Arriving.{hold_ends}
use Rattle.rail_course.proofs.Lasting.{clock_runs}
use Rattle.rail_course.proofs.Showing.{released_shown}
use Rattle.rail_course.specs.Releases.{release_for, releases_of_route, releases_of_train}
use Rattle.rail_course.specs.Marks.{mark_grants, mark_passes, mark_releases, mark_holds, mark_visits, mark_dwells, made_now, made_or, pass_mark, stood_or}
use Rattle.rail_base.proofs.Lists.{map-flat_map, flat_map-each, length-map}
use Rattle.rail_base.specs.Events.{has_happened}

module _ (d : Station) (routes : List Route) (plan : List (List Command)) (t : TrainNo) where
  abbrev now : ℕ → TrainState
  now k = state_of (state_at d routes (of_plan routes plan) k) t

  -- ---- grants

  abbrev grant : ℕ → ℕ × RouteNo → RouteNo × Option ℕ
  grant k p = (p.1, grant_tick d routes plan k t p.0)

  grants_from : (k i : ℕ) (rs : List RouteNo) → map (λ p. (p.1.0, or_this p.1.1 (nat_lt p.0 (now (suc k)).granted) (suc k))) (enumerate_from i (map (grant k) (enumerate_from (i + 1) rs))) ≡ map (grant (suc k)) (enumerate_from (i + 1) rs)
  grants_from k i [] = refl
  grants_from k i (r ∷ rs) =
      let one : suc i ≡ i + 1 = omega arith in
      ap₂ (λ x xs. x ∷ xs) (ap (λ n. (r, or_this (grant_tick d routes plan k t (i + 1)) (nat_le n (now (suc k)).granted) (suc k))) one) (grants_from k (i + 1) rs)

  pub grants_marked : (k : ℕ) → mark_grants (now (suc k)).granted (suc k) (granted d routes plan k t) ≡ granted d routes plan (suc k) t
  grants_marked k = grants_from k 0 (path plan t)

  grants_none : (i : ℕ) (rs : List RouteNo) → map (λ r. (r, None)) rs ≡ map (grant 0) (enumerate_from i rs)
  grants_none i [] = refl
  grants_none i (r ∷ rs) = ap (λ xs. (r, None) ∷ xs) (grants_none (i + 1) rs)

  pub no_grants : map (λ r. (r, None)) (path plan t) ≡ granted d routes plan 0 t
  no_grants = grants_none 1 (path plan t)

  -- ---- passes

  passes_of : (k : ℕ) (path_nodes : List PathNode) → mark_passes (now (suc k)) (suc k) path_nodes (map (λ path_node. (path_node.node, pass_tick d routes (of_plan routes plan) k t path_node)) path_nodes) ≡ map (λ path_node. (path_node.node, pass_tick d routes (of_plan routes plan) (suc k) t path_node)) path_nodes
  passes_of k [] = refl
  passes_of k (path_node ∷ path_nodes) = ap (λ xs. (path_node.node, pass_tick d routes (of_plan routes plan) (suc k) t path_node) ∷ xs) (passes_of k path_nodes)

  pub passes_marked : (k : ℕ) → mark_passes (now (suc k)) (suc k) (path_nodes_of_train d routes (of_plan routes plan) t) (passed d routes (of_plan routes plan) k t) ≡ passed d routes (of_plan routes plan) (suc k) t
  passes_marked k = passes_of k (path_nodes_of_train d routes (of_plan routes plan) t)

  -- ---- releases

  abbrev released_at : ℕ → Release → RouteNo × SectionNo × Option ℕ
  released_at k r = (r.route, r.section, least (λ i. has_happened (now i) r.event) k)

  released_each : (k : ℕ) (r : RouteNo) (zs : List SectionNo) → ((z : SectionNo) → In z zs → goes_over (route_at routes r) z ≡ true)
      → map (λ z. released_at k (release_for d routes (of_plan routes plan) (record { train = t; route = r }) z)) zs ≡ released_of d routes plan k t r zs
  released_each k r [] own = refl
  released_each k r (z ∷ zs) own =
      let c : Command = record { train = t; route = r } in
      ap₂ (λ test xs. (r, z, least test k) ∷ xs) (fun_ext (λ i. released_shown d routes (of_plan routes plan) i c z (own z (inl refl)))) (released_each k r zs (λ y m. own y (inr m)))

  pub released_is : (k : ℕ) → map (released_at k) (releases_of_train d routes (of_plan routes plan) t) ≡ released d routes plan k t
  released_is k =
      map-flat_map (released_at k) (releases_of_route d routes (of_plan routes plan) t) (path plan t)
      ∙ flat_map-each (λ r. map (released_at k) (releases_of_route d routes (of_plan routes plan) t r)) _ (path plan t)
      (λ r. map-map (released_at k) (release_for d routes (of_plan routes plan) (record { train = t; route = r })) (own_sections (route_at routes r)) ∙ released_each k r (own_sections (route_at routes r)) (own_goes_over (route_at routes r)))

  releases_of : (k : ℕ) (rs : List Release) → mark_releases (now (suc k)) (suc k) rs (map (released_at k) rs) ≡ map (released_at (suc k)) rs
  releases_of k [] = refl
  releases_of k (r ∷ rs) = ap (λ xs. released_at (suc k) r ∷ xs) (releases_of k rs)

  pub releases_marked : (k : ℕ) → mark_releases (now (suc k)) (suc k) (releases_of_train d routes (of_plan routes plan) t) (released d routes plan k t) ≡ released d routes plan (suc k) t
  releases_marked k = ap (mark_releases (now (suc k)) (suc k) (releases_of_train d routes (of_plan routes plan) t)) (sym (released_is k)) ∙ releases_of k (releases_of_train d routes (of_plan routes plan) t) ∙ released_is (suc k)

  -- ---- holds

  abbrev ended_at : ℕ → Hold → RouteNo × SectionNo × Option ℕ
  ended_at k h = (h.route, h.section, least (λ i. has_come (pasts_at d routes (of_plan routes plan) i) h.event) k)

  pub held_is : (k : ℕ) → map (ended_at k) (holds_of_train d routes (of_plan routes plan) t) ≡ held_on d routes plan k t
  held_is k =
      map-flat_map (ended_at k) (holds_of_route d routes (of_plan routes plan) t) (path plan t)
      ∙ flat_map-each (λ r. map (ended_at k) (holds_of_route d routes (of_plan routes plan) t r)) _ (path plan t) (λ r. map-map (ended_at k) (hold_for d routes (of_plan routes plan) (record { train = t; route = r })) (held_sections (route_at routes r)))

  holds_of : (k : ℕ) (passes : List (NodeNo × Option ℕ)) (hs : List Hold) → ((h : Hold) → In h hs → comes_by (pass_mark passes h.node) h.event.ticks (suc k) ≡ has_come (pasts_at d routes (of_plan routes plan) (suc k)) h.event)
      → mark_holds passes (suc k) (suc k) hs (map (ended_at k) hs) ≡ map (ended_at (suc k)) hs
  holds_of k passes [] each = refl
  holds_of k passes (h ∷ hs) each =
      ap₂ (λ comes xs. (h.route, h.section, or_this (least (λ i. has_come (pasts_at d routes (of_plan routes plan) i) h.event) k) comes (suc k)) ∷ xs) (each h (inl refl)) (holds_of k passes hs (λ g m. each g (inr m)))

  -- every tick concerns the train, so its clock shows the tick
  clock_is : (k : ℕ) → own_ticks (of_plan routes plan) k t ≡ k
  clock_is k = clock_runs (of_plan routes plan) t k (λ i low high. refl)

  module _ (laid : AreLaid d routes) (named : All (IsRoute routes) (path plan t)) where
    pub holds_marked : (k : ℕ) → mark_holds (passed d routes (of_plan routes plan) (suc k) t) (suc k) (suc k) (holds_of_train d routes (of_plan routes plan) t) (held_on d routes plan k t) ≡ held_on d routes plan (suc k) t
    holds_marked k =
        let p = of_plan routes plan in
        let passes = passed d routes p (suc k) t in
        let hs = holds_of_train d routes p t in
        ap (mark_holds passes (suc k) (suc k) hs) (sym (held_is k))
        ∙ holds_of k passes hs (λ h m. ap (comes_by (pass_mark passes h.node) h.event.ticks) (sym (clock_is (suc k))) ∙ hold_ends d routes laid p t named (λ i low own. refl) (suc k) h m)
        ∙ held_is (suc k)

  -- ---- visits

  abbrev made_with : PathNode → ℕ → Option ℕ → Bool → Option (NodeNo × ℕ)
  made_with path_node n (Some i) b = Some (path_node.node, i)
  made_with path_node n None b = made_now path_node b n

  visit_marked : (k : ℕ) (place : Option PathNode) → made_or (visit_made d routes plan k t place) place (now (suc k)) (suc k) ≡ visit_made d routes plan (suc k) t place
  visit_marked k None = refl
  visit_marked k (Some path_node) = start (pass_tick d routes (of_plan routes plan) k t path_node) ∙ go (pass_tick d routes (of_plan routes plan) k t path_node) (has_happened (now (suc k)) path_node.event)
    where
      start : (o : Option ℕ) → made_or (option_map (λ i. (path_node.node, i)) o) (Some path_node) (now (suc k)) (suc k) ≡ made_with path_node (suc k) o (has_happened (now (suc k)) path_node.event)
      start None = refl
      start (Some i) = refl

      go : (o : Option ℕ) (b : Bool) → made_with path_node (suc k) o b ≡ option_map (λ i. (path_node.node, i)) (or_this o b (suc k))
      go (Some i) b = refl
      go None true = refl
      go None false = refl

  visits_of : (k : ℕ) (places : List (Option PathNode)) → mark_visits (now (suc k)) (suc k) places (map (visit_made d routes plan k t) places) ≡ map (visit_made d routes plan (suc k) t) places
  visits_of k [] = refl
  visits_of k (place ∷ places) = ap₂ (λ x xs. x ∷ xs) (visit_marked k place) (visits_of k places)

  pub visits_marked : (k : ℕ) → mark_visits (now (suc k)) (suc k) (visits_of_train d routes (of_plan routes plan) t) (map (visit_made d routes plan k t) (visits_of_train d routes (of_plan routes plan) t)) ≡ map (visit_made d routes plan (suc k) t) (visits_of_train d routes (of_plan routes plan) t)
  visits_marked k = visits_of k (visits_of_train d routes (of_plan routes plan) t)

  visit_none : (place : Option PathNode) → None ≡ visit_made d routes plan 0 t place
  visit_none None = refl
  visit_none (Some path_node) = refl

  visits_none : (places : List (Option PathNode)) → map (λ place. None) places ≡ map (visit_made d routes plan 0 t) places
  visits_none [] = refl
  visits_none (place ∷ places) = ap₂ (λ x xs. x ∷ xs) (visit_none place) (visits_none places)

  pub no_visits : map (λ place. None) (visits_of_train d routes (of_plan routes plan) t) ≡ map (visit_made d routes plan 0 t) (visits_of_train d routes (of_plan routes plan) t)
  no_visits = visits_none (visits_of_train d routes (of_plan routes plan) t)

  -- ---- dwells

  dwell_marked : (k a u w : ℕ) → entry 0 (dwell_ticks d t) a ≡ w → sum (take a (dwell_ticks d t)) ≡ u + w
      → stood_or (dwell_tick d routes plan k t a) (record { ticks = w; until = u + w }) (now (suc k)).stood (suc k) ≡ dwell_tick d routes plan (suc k) t a
  dwell_marked k a u w e f =
      ap (λ n. if n == 0 then None else or_this (dwell_tick d routes plan k t a) (nat_le (u + w) (now (suc k)).stood) (suc k)) (sym e)
      ∙ ap (λ n. if own == 0 then None else or_this (dwell_tick d routes plan k t a) (nat_le n (now (suc k)).stood) (suc k)) (sym f)
      ∙ go (own == 0)
    where
      own : ℕ
      own = entry 0 (dwell_ticks d t) a

      before : Option ℕ
      before = least (has_stood d routes plan t a) k

      comes : Bool
      comes = has_stood d routes plan t a (suc k)

      go : (b : Bool) → (if b then None else or_this (if b then None else before) comes (suc k)) ≡ (if b then None else or_this before comes (suc k))
      go true = refl
      go false = refl

  dwells_of : (k a u : ℕ) (ws : List ℕ) → Follow (dwell_ticks d t) a u ws
      → mark_dwells (now (suc k)).stood (suc k) (dwells_from u ws) (map (dwell_tick d routes plan k t) (count_from a (length ws))) ≡ map (dwell_tick d routes plan (suc k) t) (count_from a (length ws))
  dwells_of k a u [] h = refl
  dwells_of k a u (w ∷ ws) h = ap₂ (λ x xs. x ∷ xs) (dwell_marked k a u w h.0 h.1) (dwells_of k (a + 1) (u + w) ws h.2)

  abbrev nothing : Option ℕ
  nothing = None

  dwell_none : (a : ℕ) → None ≡ dwell_tick d routes plan 0 t a
  dwell_none a = go (entry 0 (dwell_ticks d t) a == 0)
    where
      go : (b : Bool) → nothing ≡ (if b then nothing else nothing)
      go true = refl
      go false = refl

  dwells_none : (a u : ℕ) (ws : List ℕ) → map (λ w. None) (dwells_from u ws) ≡ map (dwell_tick d routes plan 0 t) (count_from a (length ws))
  dwells_none a u [] = refl
  dwells_none a u (w ∷ ws) = ap₂ (λ x xs. x ∷ xs) (dwell_none a) (dwells_none (a + 1) (u + w) ws)

  module _ (as_many : length (train_of d t).dwell_ms ≡ length (train_of d t).visits) where
    numbers : one_to (length (dwell_ticks d t)) ≡ visit_numbers d t
    numbers = ap one_to (length-map (whole_ticks d) (train_of d t).dwell_ms ∙ as_many)

    pub dwells_marked : (k : ℕ) → mark_dwells (now (suc k)).stood (suc k) (dwells_from 0 (dwell_ticks d t)) (map (dwell_tick d routes plan k t) (visit_numbers d t)) ≡ map (dwell_tick d routes plan (suc k) t) (visit_numbers d t)
    dwells_marked k =
        subst (λ ns. mark_dwells (now (suc k)).stood (suc k) (dwells_from 0 (dwell_ticks d t)) (map (dwell_tick d routes plan k t) ns) ≡ map (dwell_tick d routes plan (suc k) t) ns) numbers
        (dwells_of k 1 0 (dwell_ticks d t) (follow_all (dwell_ticks d t)))

    pub no_dwells : map (λ w. None) (dwells_from 0 (dwell_ticks d t)) ≡ map (dwell_tick d routes plan 0 t) (visit_numbers d t)
    no_dwells = dwells_none 1 0 (dwell_ticks d t) ∙ ap (map (dwell_tick d routes plan 0 t)) numbers

-- ---- the whole history of a train

abbrev told : List (RouteNo × Option ℕ) → List (NodeNo × Option ℕ) → List (RouteNo × SectionNo × Option ℕ) → List (RouteNo × SectionNo × Option ℕ) → List (Option (NodeNo × ℕ)) → List (Option ℕ) → TrainHistory
told g p r h v w = record { grants = g; passes = p; releases = r; holds = h; visits = v; dwells = w }

told_same : (g0 g : List (RouteNo × Option ℕ)) (p0 p : List (NodeNo × Option ℕ)) (r0 r : List (RouteNo × SectionNo × Option ℕ)) (h0 h : List (RouteNo × SectionNo × Option ℕ)) (v0 v : List (Option (NodeNo × ℕ))) (w0 w : List (Option ℕ)) → g0 ≡ g → p0 ≡ p → r0 ≡ r → h0 ≡ h → v0 ≡ v → w0 ≡ w → told g0 p0 r0 h0 v0 w0 ≡ told g p r h v w
told_same g0 g p0 p r0 r h0 h v0 v w0 w a b c e f i = cc

module _ (d : Station) (routes : List Route) (plan : List (List Command)) (t : TrainNo) (as_many : length (train_of d t).dwell_ms ≡ length (train_of d t).visits) where
  -- what a run begins with
  pub history_begins : (g : List (RouteNo × Option ℕ)) (p : List (NodeNo × Option ℕ)) (r h : List (RouteNo × SectionNo × Option ℕ)) (v : List (Option (NodeNo × ℕ))) (w : List (Option ℕ))
      → g ≡ map (λ x. (x, None)) (path plan t) → p ≡ map (λ (path_node : PathNode). (path_node.node, None)) (path_nodes_of_train d routes (of_plan routes plan) t)
      → r ≡ map (λ (x : Release). (x.route, x.section, None)) (releases_of_train d routes (of_plan routes plan) t) → h ≡ map (λ (x : Hold). (x.route, x.section, None)) (holds_of_train d routes (of_plan routes plan) t)
      → v ≡ map (λ x. None) (visits_of_train d routes (of_plan routes plan) t)
      → w ≡ map (λ x. None) (dwells_from 0 (dwell_ticks d t)) → told g p r h v w ≡ train_history d routes plan 0 t
  history_begins g p r h v w a b c e f i = told_same g _ p _ r _ h _ v _ w _ (a ∙ no_grants d routes plan t) b (c ∙ released_is d routes plan t 0) (e ∙ held_is d routes plan t 0) (f ∙ no_visits d routes plan t) (i ∙ no_dwells d routes plan t as_many)

  -- what it has one tick further
  module _ (laid : AreLaid d routes) (named : All (IsRoute routes) (path plan t)) where
    pub history_goes_on : (tick : ℕ) → 1 ≤ tick → (s : TrainState) → s ≡ state_of (state_at d routes (of_plan routes plan) tick) t → (old : TrainHistory) → old ≡ train_history d routes plan (tick - 1) t
        → (g : List (RouteNo × Option ℕ)) (p : List (NodeNo × Option ℕ)) (r h : List (RouteNo × SectionNo × Option ℕ)) (v : List (Option (NodeNo × ℕ))) (w : List (Option ℕ))
        → g ≡ mark_grants s.granted tick old.grants → p ≡ mark_passes s tick (path_nodes_of_train d routes (of_plan routes plan) t) old.passes
        → r ≡ mark_releases s tick (releases_of_train d routes (of_plan routes plan) t) old.releases → h ≡ mark_holds p tick tick (holds_of_train d routes (of_plan routes plan) t) old.holds
        → v ≡ mark_visits s tick (visits_of_train d routes (of_plan routes plan) t) old.visits
        → w ≡ mark_dwells s.stood tick (dwells_from 0 (dwell_ticks d t)) old.dwells → told g p r h v w ≡ train_history d routes plan tick t
    history_goes_on zero first s here old before g p r h v w a b c e f i = absurd (omega arith)
    history_goes_on (suc k) first s here old before g p r h v w a b c e f i =
        let less : suc k - 1 ≡ k = omega arith in
        let was : old ≡ train_history d routes plan k t = before ∙ ap (λ n. train_history d routes plan n t) less in
        let passes = b ∙ ap₂ (λ (x : TrainState) (o : TrainHistory). mark_passes x (suc k) (path_nodes_of_train d routes (of_plan routes plan) t) o.passes) here was ∙ passes_marked d routes plan t k in
        told_same g _ p _ r _ h _ v _ w _
        (a ∙ ap₂ (λ (x : TrainState) (o : TrainHistory). mark_grants x.granted (suc k) o.grants) here was ∙ grants_marked d routes plan t k)
        passes
        (c ∙ ap₂ (λ (x : TrainState) (o : TrainHistory). mark_releases x (suc k) (releases_of_train d routes (of_plan routes plan) t) o.releases) here was ∙ releases_marked d routes plan t k)
        (e ∙ ap₂ (λ (ps : List (NodeNo × Option ℕ)) (o : TrainHistory). mark_holds ps (suc k) (suc k) (holds_of_train d routes (of_plan routes plan) t) o.holds) passes was ∙ holds_marked d routes plan t laid named k)
        (f ∙ ap₂ (λ (x : TrainState) (o : TrainHistory). mark_visits x (suc k) (visits_of_train d routes (of_plan routes plan) t) o.visits) here was ∙ visits_marked d routes plan t k)
        (i ∙ ap₂ (λ (x : TrainState) (o : TrainHistory). mark_dwells x.stood (suc k) (dwells_from 0 (dwell_ticks d t)) o.dwells) here was ∙ dwells_marked d routes plan t as_many k)
