-- Trains that are granted nothing and come nowhere: they stand at their places all the time, or are short of them.
use Rattle.std.proofs.Common.{◌≡◌, ℕ, zero, suc, ◌+◌, ◌-◌, ◌≤◌, ◌<◌, ◌⊎◌, inl, inr, Bool, true, false, if◌then◌else◌, List, ◌++◌, map, take, drop, sum_by, Option, None, Some, option_map, refl, sym, ap, ap₂, subst, ◌∙◌, arith, le_refl, leb-true, eq-eqb, ne_eqb, true≢false, take-append-drop}
use Rattle.std.specs.List.{sum}
use Rattle.std.specs.Option.{option_or}
use Rattle.rail_base.specs.declared.station.Station.{Station}
use Rattle.rail_base.specs.declared.station.TrainNo.{TrainNo}
use Rattle.rail_base.specs.declared.route.Route.{Route}
use Rattle.rail_base.specs.declared.state.PathNode.{PathNode}
use Rattle.rail_base.specs.declared.state.TrainState.{TrainState}
use Rattle.rail_base.specs.Members.{In}
use Rattle.rail_base.specs.Routes.{route_at, length_mm}
use Rattle.rail_base.specs.Stations.{train_of, dwell_ticks}
use Rattle.rail_base.proofs.Lists.{in_append_left}
use Rattle.rail_base.proofs.Members.{below_or_not}
use Rattle.rail_spec.specs.Places.{path_nodes, visits_on, next_stop}
use Rattle.rail_spec.specs.Motion.{permitted}
use Rattle.rail_spec.specs.Dispatches.{Dispatch, rates, stretches, is_at, with_granted, stop, stop_place, authority, stands, speed_in, moved, track_end}
use Rattle.rail_spec.specs.Visits.{path_nodes_of_train}
use Rattle.rail_spec.specs.Histories.{dwell_up_to}
use Rattle.rail_laws.proofs.Authority.{stands_still}
use Rattle.rail_laws.proofs.MotionLaws.{permitted_stop}
use Rattle.rail_laws.proofs.Visiting.{in_visits_on, longer_path}
use Rattle.rail_laws.proofs.Stops.{stop_in}
use Rattle.motion_leap.specs.Steps.{Going, going, after}
use Rattle.rail_course.specs.declared.journey.Hold.{Hold}
use Rattle.rail_course.specs.declared.journey.Release.{Release}
use Rattle.rail_course.specs.Holds.{holds_of_train}
use Rattle.rail_course.specs.Releases.{releases_of_train}
use Rattle.rail_course.specs.Dwells.{dwells_from}
use Rattle.rail_course.specs.Tracks.{routes_at}
use Rattle.rail_course.proofs.Following.{NoneBefore, same_stop, sums_apart, end_is_sum}
use Rattle.quiet_spec.specs.Quiet.{IsNotReached, ComesNowhere}
use Rattle.dispatch_run.specs.Drifts.{going_with, rested}
use Rattle.dispatch_run.specs.FollowedTrains.{CanMove}
use Rattle.dispatch_run.proofs.Going.{apart_by}

-- ---- a state that rests

pub rested_granted : (i : ℕ) (s : TrainState) → (rested i s).granted ≡ s.granted
rested_granted zero s = refl
rested_granted (suc i) s = refl

pub rested_x : (i : ℕ) (s : TrainState) → (rested i s).x ≡ s.x
rested_x zero s = refl
rested_x (suc i) s = refl

pub rested_stood : (i : ℕ) (s : TrainState) → (rested i s).stood ≡ s.stood + i
rested_stood zero s = omega arith
rested_stood (suc i) s = refl

abbrev state : ℕ → ℕ → ℕ → ℕ → TrainState
state g x v n = record { granted = g; x = x; v = v; stood = n }

pub same_state : (g h x y v w m n : ℕ) → g ≡ h → x ≡ y → v ≡ w → m ≡ n → state g x v m ≡ state h y w n
same_state g h x y v w m n a b c e = cc

module _ (d : Station) (routes : List Route) (dispatch : Dispatch) (t : TrainNo) where
  -- ---- going forward

  stood_more : (b : Bool) (n : ℕ) → n ≤ (if b then n + 1 else n)
  stood_more true n = omega arith
  stood_more false n = omega arith

  moved_on : (s : TrainState) (g : ℕ) → (s.x ≤ (moved d routes dispatch t s g).x) × (s.stood ≤ (moved d routes dispatch t s g).stood)
  moved_on s zero = (omega arith, omega arith)
  moved_on s (suc g) = (omega arith, stood_more (stands d routes dispatch t (with_granted (suc g) s)) s.stood)

  abbrev goes : ℕ → ℕ → TrainState → TrainState
  goes g j s = going_with d routes dispatch t g j s

  goes_on : (g i j : ℕ) (s : TrainState) → ((goes g i s).x ≤ (goes g (i + j) s).x) × ((goes g i s).stood ≤ (goes g (i + j) s).stood)
  goes_on g i zero s =
      let e : i ≡ i + 0 = omega arith in
      subst (λ n. ((goes g i s).x ≤ (goes g n s).x) × ((goes g i s).stood ≤ (goes g n s).stood)) e (omega arith, omega arith)
  goes_on g i (suc j) s =
      let e : suc (i + j) ≡ i + suc j = omega arith in
      let before = goes_on g i j s in
      let next = moved_on (goes g (i + j) s) g in
      let a = before.0 in let b = before.1 in let c = next.0 in let f = next.1 in
      subst (λ n. ((goes g i s).x ≤ (goes g n s).x) × ((goes g i s).stood ≤ (goes g n s).stood)) e (omega arith, omega arith)

  pub goes_within : (g i n : ℕ) (s : TrainState) → i ≤ n → ((goes g i s).x ≤ (goes g n s).x) × ((goes g i s).stood ≤ (goes g n s).stood)
  goes_within g i n s l =
      let e : i + (n - i) ≡ n = omega arith in
      subst (λ m. ((goes g i s).x ≤ (goes g m s).x) × ((goes g i s).stood ≤ (goes g m s).stood)) e (goes_on g i (n - i) s)

  -- ---- the place is a node of the path

  pub stop_on_path : (s : TrainState) (x : ℕ) → stop_place d routes dispatch t s ≡ Some x → (q : PathNode) × In q (path_nodes_of_train d routes dispatch t) × (q.event.place ≡ x)
  stop_on_path s x h = go (stop d routes dispatch t s) refl h
    where
      rs : List Route
      rs = map (route_at routes) (dispatch.path t)

      own : List PathNode
      own = path_nodes (take s.granted rs)

      longer : (q : PathNode) → In q own → ((more : List PathNode) × (path_nodes (take s.granted rs ++ drop s.granted rs) ≡ own ++ more) × ((p : PathNode) → In p more → sum_by length_mm (take s.granted rs) ≤ p.event.place)) → In q (path_nodes rs)
      longer q m (more, e, past) = subst (λ zs. In q (path_nodes zs)) (take-append-drop s.granted rs) (subst (In q) (sym e) (in_append_left q own more m))

      go : (o : Option PathNode) → stop d routes dispatch t s ≡ o → option_map (λ (p : PathNode). p.event.place) (stop d routes dispatch t s) ≡ Some x → (q : PathNode) × In q (path_nodes_of_train d routes dispatch t) × (q.event.place ≡ x)
      go None e k = absurd (true≢false (cc))
      go (Some q) e k = (
        q,
        longer q (in_visits_on (train_of d t).visits own q (stop_in (dwell_ticks d t) (visits_on (train_of d t).visits own) s.stood q e)) (longer_path (take s.granted rs) (drop s.granted rs)),
        (let same : Some q.event.place ≡ Some x = sym (ap (option_map (λ (p : PathNode). p.event.place)) e) ∙ k in cc),
      )

  -- ---- who stands stands on

  module _ (g : ℕ) (s : TrainState) (same : s.granted ≡ suc g) (at : stands d routes dispatch t s ≡ true) (end : ℕ) (apart : NoneBefore (dwells_from 0 (dwell_ticks d t)) s.stood end) where
    abbrev sets : List (Option PathNode)
    sets = visits_on (train_of d t).visits (path_nodes (take (suc g) (map (route_at routes) (dispatch.path t))))

    stop_same : (i : ℕ) → s.stood + i < end → stop_place d routes dispatch t (with_granted (suc g) (rested i s)) ≡ stop_place d routes dispatch t s
    stop_same i l =
        ap (λ m. option_map (λ (q : PathNode). q.event.place) (next_stop (dwell_ticks d t) sets m)) (rested_stood i s)
        ∙ ap (option_map (λ (q : PathNode). q.event.place)) (same_stop (dwell_ticks d t) sets 0 s.stood (s.stood + i) end (let z : s.stood ≡ 0 + s.stood = omega arith in subst (λ n. NoneBefore (dwells_from 0 (dwell_ticks d t)) n end) z apart) (omega arith) (omega arith))
        ∙ ap (λ n. option_map (λ (q : PathNode). q.event.place) (next_stop (dwell_ticks d t) (visits_on (train_of d t).visits (path_nodes (take n (map (route_at routes) (dispatch.path t))))) s.stood)) (sym same)

    rests : (i : ℕ) → s.stood + i < end → moved d routes dispatch t (rested i s) (suc g) ≡ rested (suc i) s
    rests i l =
        let seen : TrainState = with_granted (suc g) (rested i s) in
        let stand : stands d routes dispatch t seen ≡ true = ap₂ is_at (stop_same i l) (rested_x i s) ∙ at in
        let still : speed_in d routes dispatch t seen ≡ 0 = stands_still d routes dispatch t seen stand in
        let x = rested_x i s in
        let n = rested_stood i s in
        same_state (suc g) s.granted _ s.x _ 0 _ (s.stood + suc i) (sym same) (omega arith) still
        (ap (λ b. if b then (rested i s).stood + 1 else (rested i s).stood) stand ∙ (let more : (rested i s).stood + 1 ≡ s.stood + suc i = omega arith in more))

    pub rests_on : (n : ℕ) → ((i : ℕ) → i < n → goes (suc g) i s ≡ rested i s → s.stood + i < end) → goes (suc g) n s ≡ rested n s
    rests_on zero h = refl
    rests_on (suc n) h =
        let before = rests_on n (λ i l e. h i (omega arith) e) in
        ap (λ u. moved d routes dispatch t u (suc g)) before ∙ rests n (h n (omega arith) before)

  -- ---- who is short of its place moves

  -- the motion of a train over the track that it has with so many commands granted
  abbrev pub way : ℕ → TrainState → ℕ → Going
  way g s j = after (rates d t) (stretches d (take g (routes_at routes (dispatch.path t)))) (authority d routes dispatch t (with_granted g s)) j (going s.x s.v)

  abbrev pub moving : ℕ → TrainState → ℕ → TrainState
  moving g s j = state g (way g s j).x (way g s j).v s.stood

  module _ (g : ℕ) (s : TrainState) (same : s.granted ≡ suc g) where
    begins : s ≡ moving (suc g) s 0
    begins = same_state s.granted (suc g) s.x s.x s.v s.v s.stood s.stood same refl refl refl

    moves_on : (n : ℕ) → ((i : ℕ) → i < n → goes (suc g) i s ≡ moving (suc g) s i → is_at (stop_place d routes dispatch t (with_granted (suc g) s)) (way (suc g) s i).x ≡ false) → goes (suc g) n s ≡ moving (suc g) s n
    moves_on zero h = begins
    moves_on (suc n) h =
        let before = moves_on n (λ i l e. h i (omega arith) e) in
        ap (λ u. moved d routes dispatch t u (suc g)) before
        ∙ same_state (suc g) (suc g) _ _ _ _ _ s.stood refl refl refl (ap (λ b. if b then s.stood + 1 else s.stood) (h n (omega arith) before))

    -- the place is ahead of a head that isn't at it and may brake
    ahead : CanMove d routes dispatch t (suc g) s → (x : ℕ) → stop_place d routes dispatch t (with_granted (suc g) s) ≡ Some x → stands d routes dispatch t (with_granted (suc g) s) ≡ false → s.x < x
    ahead can x at away = go (below_or_not s.x x)
      where
        u : ℕ
        u = s.v - (rates d t).brake

        within : s.x + u ≤ x
        within = leb-true (s.x + u) x (permitted_stop (rates d t) (stretches d (take (suc g) (routes_at routes (dispatch.path t)))) (Some x) s.x s.v u (s.x + u) (le_refl (s.x + u))
            (subst (λ o. permitted (rates d t) (stretches d (take (suc g) (routes_at routes (dispatch.path t)))) (option_or o (track_end (take (suc g) (routes_at routes (dispatch.path t))))) s.x s.v u ≡ true) at (can.braking (omega arith))))

        go : (s.x < x) ⊎ (x ≤ s.x) → s.x < x
        go (inl l) = l
        go (inr l) =
            let w = within in
            let e : s.x ≡ x = omega arith in
            absurd (true≢false (sym (eq-eqb s.x x e) ∙ sym (ap (λ o. is_at o s.x) at) ∙ away))

    -- a head that is short of its place isn't at it
    short : (o : Option ℕ) (y : ℕ) → ((x : ℕ) → o ≡ Some x → y < x) → is_at o y ≡ false
    short None y h = refl
    short (Some x) y h = let l = h x refl in ne_eqb y x (omega arith)

    -- nothing that it comes to before the end is its place
    short_of_place : CanMove d routes dispatch t (suc g) s → stands d routes dispatch t (with_granted (suc g) s) ≡ false → (y : ℕ) → ((q : PathNode) → In q (path_nodes_of_train d routes dispatch t) → IsNotReached s.x y q.event.place)
        → (z : ℕ) → z ≤ y → is_at (stop_place d routes dispatch t (with_granted (suc g) s)) z ≡ false
    short_of_place can away y apart z l = short (stop_place d routes dispatch t (with_granted (suc g) s)) z (λ x at. go x at (stop_on_path (with_granted (suc g) s) x at))
      where
        either : (x : ℕ) → s.x < x → IsNotReached s.x y x → z < x
        either x a (inl behind) = absurd (omega arith)
        either x a (inr later) = omega arith

        go : (x : ℕ) → stop_place d routes dispatch t (with_granted (suc g) s) ≡ Some x → ((q : PathNode) × In q (path_nodes_of_train d routes dispatch t) × (q.event.place ≡ x)) → z < x
        go x at (q, m, e) = either x (ahead can x at away) (subst (IsNotReached s.x y) e (apart q m))

  -- ---- coming nowhere

  -- who goes nowhere comes nowhere
  pub stays_nowhere : (s : TrainState) → ComesNowhere d routes dispatch t s s
  stays_nowhere s = record { nodes = λ q m. either s.x q.event.place; releases = λ r m. either s.x r.event.place; holds = λ h m. either s.x h.event.event.place; stands = λ j. either s.stood (dwell_up_to d t j) }
    where
      either : (x place : ℕ) → IsNotReached x x place
      either x place = grind arith

  -- in ticks in which it comes nowhere no end of a stand comes
  no_end : (s u : TrainState) → ComesNowhere d routes dispatch t s u → NoneBefore (dwells_from 0 (dwell_ticks d t)) s.stood (suc u.stood)
  no_end s u h w m = go (end_is_sum (dwell_ticks d t) 0 w m)
    where
      go : ((j : ℕ) × (w.until ≡ 0 + sum (take j (dwell_ticks d t)))) → (w.until ≤ s.stood) ⊎ (suc u.stood ≤ w.until)
      go (j, e) = let z : sum (take j (dwell_ticks d t)) ≡ w.until = omega arith in subst (λ n. (n ≤ s.stood) ⊎ (suc u.stood ≤ n)) z (h.stands j)

  -- ---- so it is with who goes on and comes nowhere

  pub stands_all : (g n : ℕ) (s : TrainState) → s.granted ≡ g → 1 ≤ g → ComesNowhere d routes dispatch t s (goes g n s) → stands d routes dispatch t s ≡ true → goes g n s ≡ rested n s
  stands_all zero n s same some nowhere at = absurd (omega arith)
  stands_all (suc g) n s same some nowhere at =
      rests_on g s same at (suc (goes (suc g) n s).stood) (no_end s (goes (suc g) n s) nowhere) n
      (λ i l e. let k = (goes_within (suc g) i n s (let m : i ≤ n = omega arith in m)).1 in let r = rested_stood i s in let c : (goes (suc g) i s).stood ≡ (rested i s).stood = ap (λ (u : TrainState). u.stood) e in omega arith)

  pub moves_all : (g n : ℕ) (s : TrainState) → s.granted ≡ g → 1 ≤ g → CanMove d routes dispatch t g s → ComesNowhere d routes dispatch t s (goes g n s) → stands d routes dispatch t (with_granted g s) ≡ false → goes g n s ≡ moving g s n
  moves_all zero n s same some can nowhere away = absurd (omega arith)
  moves_all (suc g) n s same some can nowhere away =
      moves_on g s same n
      (λ i l e. short_of_place g s same can away (goes (suc g) n s).x nowhere.nodes (way (suc g) s i).x
      (let k = (goes_within (suc g) i n s (let m : i ≤ n = omega arith in m)).0 in let c : (goes (suc g) i s).x ≡ (way (suc g) s i).x = ap (λ (u : TrainState). u.x) e in omega arith))

  -- ---- for how long it comes nowhere

  -- and for a shorter time too
  pub nowhere_sooner : (g i n : ℕ) (s : TrainState) → i ≤ n → ComesNowhere d routes dispatch t s (goes g n s) → ComesNowhere d routes dispatch t s (goes g i s)
  nowhere_sooner g i n s less far =
      let w = goes_within g i n s less in
      record {
        nodes = λ q m. nearer (goes g i s).x (goes g n s).x s.x q.event.place w.0 (far.nodes q m);
        releases = λ r m. nearer (goes g i s).x (goes g n s).x s.x r.event.place w.0 (far.releases r m);
        holds = λ h m. nearer (goes g i s).x (goes g n s).x s.x h.event.event.place w.0 (far.holds h m);
        stands = λ j. nearer (goes g i s).stood (goes g n s).stood s.stood (dwell_up_to d t j) w.1 (far.stands j);
      }
    where
      nearer : (y z x place : ℕ) → y ≤ z → IsNotReached x z place → IsNotReached x y place
      nearer y z x place less (inl behind) = inl behind
      nearer y z x place less (inr ahead) = inr (omega arith)

  -- who stands: as long as no end of a stand comes
  pub clear_standing : (g n end : ℕ) (s : TrainState) → s.granted ≡ g → 1 ≤ g → stands d routes dispatch t s ≡ true → NoneBefore (dwells_from 0 (dwell_ticks d t)) s.stood end → s.stood + n < end → ComesNowhere d routes dispatch t s (goes g n s)
  clear_standing zero n end s same some at apart less = absurd (omega arith)
  clear_standing (suc g) n end s same some at apart less =
      subst (ComesNowhere d routes dispatch t s) (sym (rests_on g s same at end apart n (λ i l e. let m : s.stood + i < end = omega arith in m)))
      (record {
        nodes = λ q m. either q.event.place;
        releases = λ r m. either r.event.place;
        holds = λ h m. either h.event.event.place;
        stands = λ j. (let z : 0 + sum (take j (dwell_ticks d t)) ≡ sum (take j (dwell_ticks d t)) = omega arith in subst (IsNotReached s.stood (rested n s).stood) z (sums_apart (dwell_ticks d t) 0 s.stood (rested n s).stood end apart (omega arith) (let r = rested_stood n s in omega arith) j));
      })
    where
      either : (place : ℕ) → IsNotReached s.x (rested n s).x place
      either place = let e = rested_x n s in grind arith

  -- who moves: as long as it is short of the next node, the next release and the next hold
  pub clear_moving : (g n y : ℕ) (s : TrainState) → s.granted ≡ g → 1 ≤ g → CanMove d routes dispatch t g s → stands d routes dispatch t (with_granted g s) ≡ false
      → ((q : PathNode) → In q (path_nodes_of_train d routes dispatch t) → (q.event.place ≤ s.x) ⊎ (y ≤ q.event.place))
      → ((r : Release) → In r (releases_of_train d routes dispatch t) → (r.event.place ≤ s.x) ⊎ (y ≤ r.event.place))
      → ((h : Hold) → In h (holds_of_train d routes dispatch t) → (h.event.event.place ≤ s.x) ⊎ (y ≤ h.event.event.place))
      → ((i : ℕ) → i ≤ n → (way g s i).x < y) → ComesNowhere d routes dispatch t s (goes g n s)
  clear_moving zero n y s same some can away nodes releases holds short = absurd (omega arith)
  clear_moving (suc g) n y s same some can away nodes releases holds short =
      subst (ComesNowhere d routes dispatch t s)
      (sym (moves_on g s same n (λ i l e. let m : i ≤ n = omega arith in short_of_place g s same can away (way (suc g) s i).x (λ q k. apart_by s.x (way (suc g) s i).x y q.event.place (short i m) (nodes q k)) (way (suc g) s i).x (le_refl _))))
      (record {
        nodes = λ q k. apart_by s.x (way (suc g) s n).x y q.event.place (short n (le_refl n)) (nodes q k);
        releases = λ r k. apart_by s.x (way (suc g) s n).x y r.event.place (short n (le_refl n)) (releases r k);
        holds = λ h k. apart_by s.x (way (suc g) s n).x y h.event.event.place (short n (le_refl n)) (holds h k);
        stands = λ j. either (dwell_up_to d t j);
      })
    where
      either : (place : ℕ) → IsNotReached s.stood s.stood place
      either place = grind arith
