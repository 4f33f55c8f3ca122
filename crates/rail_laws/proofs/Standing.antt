-- A train holds each section on which it stands.
use Rattle.std.proofs.Common.{◌≡◌, ℕ, zero, suc, ◌+◌, ◌≤◌, ◌<◌, ◌⊎◌, inl, inr, Bool, true, false, cond, if◌then◌else◌, not, ◌&&◌, ◌||◌, IsTrue, ◌==◌, nat_le, nat_lt, List, [], ◌∷◌, map, filter, flat_map, take, length, slice_get, sum_by, Some, refl, sym, ap, subst, ◌∙◌, arith, leb-true, le-leb, eqb-true, eq-eqb, length-take}
use Rattle.std.specs.List.{list_any}
use Rattle.std.proofs.lemmas.List.Sums.{sum_by-cons}
use Rattle.rail_base.specs.declared.station.Station.{Station}
use Rattle.rail_base.specs.declared.station.EdgeNo.{EdgeNo}
use Rattle.rail_base.specs.declared.station.SectionNo.{SectionNo}
use Rattle.rail_base.specs.declared.station.TrainNo.{TrainNo}
use Rattle.rail_base.specs.declared.plan.Command.{Command}
use Rattle.rail_base.specs.declared.route.Route.{Route}
use Rattle.rail_base.specs.declared.route.RouteNo.{RouteNo}
use Rattle.rail_base.specs.Numbering.{before_first}
use Rattle.rail_spec.specs.Track.{edge_ends}
use Rattle.rail_base.specs.Stations.{length_of, section_of, train_length, IsTrain}
use Rattle.rail_spec.specs.Plans.{route_at, has_section, goes_over, release_offset, length_mm, commands, path, routes_given, is_train, is_route, exits, is_executable}
use Rattle.rail_spec.specs.Dispatches.{idle, state_of, of_plan, is_granted, release_of_own, release_of_overlap, has_come, has_released, pasts_at, state_at}
use Rattle.rail_base.specs.Routes.{overlaps}
use Rattle.rail_base.specs.Events.{has_happened}
use Rattle.rail_spec.specs.Safety.{covers, stands_on, holds, Clash}
use Rattle.rail_base.specs.declared.state.TrainState.{TrainState}
use Rattle.rail_laws.proofs.Exclusion.{holds_apart}
use Rattle.rail_laws.proofs.Running.{past_is_idle, state_is_last}
use Rattle.rail_base.proofs.Lists.{in_append, in_append_left, in_append_right, length-map}
use Rattle.rail_base.proofs.Members.{In, and_left, and_right, and_both, list_any_gives, list_any_from, below_or_not, is_false}
use Rattle.rail_laws.proofs.UnderWay.{edge_ends-append, IsSound, within_track, travels, given, authority_some}
use Rattle.rail_spec.specs.Motion.{may_stop}

-- the length of routes in a row
abbrev pub path_length : List Route → List RouteNo → ℕ
path_length routes ps = sum_by length_mm (map (route_at routes) ps)

-- ---- an edge of a path is one of a route of it

-- an edge that ends there ends as much farther where its row begins farther
shifted : (d : Station) (o : ℕ) (es : List EdgeNo) (e : EdgeNo × ℕ) → In e (edge_ends d o es) → (n : ℕ) × In (e.0, n) (edge_ends d 0 es) × (e.1 ≡ o + n)
shifted d o es e m = go 0 es (subst (λ k. In e (edge_ends d k es)) (omega arith) m)
  where
    go : (b : ℕ) (fs : List EdgeNo) → In e (edge_ends d (o + b) fs) → (n : ℕ) × In (e.0, n) (edge_ends d b fs) × (e.1 ≡ o + n)
    go b [] k = absurd k
    go b (f ∷ fs) (inl s) = (b + length_of d f, inl (ap (λ (p : EdgeNo × ℕ). (p.0, b + length_of d f)) s), sym (ap (λ (p : EdgeNo × ℕ). p.1) s) ∙ omega arith)
    go b (f ∷ fs) (inr k) = later (go (b + length_of d f) fs (subst (λ j. In e (edge_ends d j fs)) (omega arith) k))
      where
        later : ((n : ℕ) × In (e.0, n) (edge_ends d (b + length_of d f) fs) × (e.1 ≡ o + n)) → (n : ℕ) × In (e.0, n) (edge_ends d b (f ∷ fs)) × (e.1 ≡ o + n)
        later (n, i, s) = (n, inr i, s)

-- the route of a path on which an edge lies, with where it ends in the route
pub record OnRoute (d : Station) (routes : List Route) (o : ℕ) (ps : List RouteNo) (e : EdgeNo × ℕ) : Type 0 where
  pub place : ℕ
  pub route : RouteNo
  pub offset : ℕ
  pub stands_there : slice_get ps place ≡ Some route
  pub member : In (e.0, offset) (edge_ends d 0 (route_at routes route).edges)
  pub ends : e.1 ≡ o + path_length routes (take place ps) + offset

on_route : (d : Station) (routes : List Route) → ((r : RouteNo) → sum_by (length_of d) (route_at routes r).edges ≡ length_mm (route_at routes r)) → (o : ℕ) (ps : List RouteNo) (e : EdgeNo × ℕ)
    → In e (edge_ends d o (flat_map (λ r. r.edges) (map (route_at routes) ps))) → OnRoute d routes o ps e
on_route d routes whole o [] e m = absurd m
on_route d routes whole o (p ∷ ps) e m =
    go (in_append e (edge_ends d o (route_at routes p).edges) (edge_ends d (o + sum_by (length_of d) (route_at routes p).edges) (flat_map (λ r. r.edges) (map (route_at routes) ps)))
    (subst (In e) (edge_ends-append d o (route_at routes p).edges (flat_map (λ r. r.edges) (map (route_at routes) ps))) m))
    (on_route d routes whole (o + sum_by (length_of d) (route_at routes p).edges) ps e)
  where
    go : In e (edge_ends d o (route_at routes p).edges) ⊎ In e (edge_ends d (o + sum_by (length_of d) (route_at routes p).edges) (flat_map (λ r. r.edges) (map (route_at routes) ps)))
        → (In e (edge_ends d (o + sum_by (length_of d) (route_at routes p).edges) (flat_map (λ r. r.edges) (map (route_at routes) ps))) → OnRoute d routes (o + sum_by (length_of d) (route_at routes p).edges) ps e) → OnRoute d routes o (p ∷ ps) e
    go (inl k) later = let f = shifted d o (route_at routes p).edges e k in record { place = 0; route = p; offset = f.0; stands_there = refl; member = f.1; ends = let s = f.2 in omega arith }
    go (inr k) later =
        let f = later k in
        let s = sum_by-cons length_mm (route_at routes p) (map (route_at routes) (take f.place ps)) in
        let w = whole p in
        let n = f.ends in
        record { place = suc f.place; route = f.route; offset = f.offset; stands_there = f.stands_there; member = f.member; ends = omega arith }

-- a route of a train's path is given by a command
pub in_routes_given : (t : TrainNo) (step : List Command) (r : RouteNo) → In r (routes_given t step) → In (record { train = t; route = r }) step
in_routes_given t [] r m = absurd m
in_routes_given t (c ∷ cs) r m = go (is_train c.train t) refl m (in_routes_given t cs r)
  where
    go : (b : Bool) → is_train c.train t ≡ b → In r (map (λ e. e.route) (cond b (c ∷ filter (λ e. is_train e.train t) cs) (filter (λ e. is_train e.train t) cs)))
        → (In r (routes_given t cs) → In (record { train = t; route = r }) cs) → In (record { train = t; route = r }) (c ∷ cs)
    go false e k later = inr (later k)
    go true e (inr k) later = inr (later k)
    go true e (inl k) later =
        let same : c.train ≡ t = ap (λ n. record { 0 = n }) (eqb-true c.train.0 t.0 e) in
        inl (ap (λ u. record { train = u; route = c.route }) same ∙ ap (λ q. record { train = t; route = q }) k)

pub in_path : (t : TrainNo) (plan : List (List Command)) (r : RouteNo) → In r (path plan t) → In (record { train = t; route = r }) (commands plan)
in_path t [] r m = absurd m
in_path t (step ∷ steps) r m = go (in_append r (routes_given t step) (path steps t) m) (in_path t steps r)
  where
    go : In r (routes_given t step) ⊎ In r (path steps t) → (In r (path steps t) → In (record { train = t; route = r }) (commands steps)) → In (record { train = t; route = r }) (commands (step ∷ steps))
    go (inl k) later = in_append_left _ step (commands steps) (in_routes_given t step r k)
    go (inr k) later = in_append_right _ step (commands steps) (later k)

pub at_in : {X : Type 0} (xs : List X) (i : ℕ) (x : X) → slice_get xs i ≡ Some x → In x xs × (i < length xs)
at_in [] i x e = cc
at_in (y ∷ ys) zero x e = let same : y ≡ x = cc in (inl same, omega arith)
at_in (y ∷ ys) (suc i) x e = let k = at_in ys i x e in (inr k.0, let l = k.1 in omega arith)

-- an edge ends at least its length from the start
ends_after : (d : Station) (o : ℕ) (es : List EdgeNo) (e : EdgeNo × ℕ) → In e (edge_ends d o es) → o + length_of d e.0 ≤ e.1
ends_after d o [] e m = absurd m
ends_after d o (f ∷ fs) e (inl s) = subst (λ (p : EdgeNo × ℕ). o + length_of d p.0 ≤ p.1) s (omega arith)
ends_after d o (f ∷ fs) e (inr m) = let k = ends_after d (o + length_of d f) fs e m in omega arith

pub path_length_take : (routes : List Route) (g p : ℕ) (ps : List RouteNo) → g ≤ p → sum_by length_mm (take g (map (route_at routes) ps)) ≤ path_length routes (take p ps)
path_length_take routes zero p ps h = omega arith
path_length_take routes (suc g) zero ps h = absurd (omega arith)
path_length_take routes (suc g) (suc p) [] h = omega arith
path_length_take routes (suc g) (suc p) (r ∷ ps) h =
    let a = sum_by-cons length_mm (route_at routes r) (take g (map (route_at routes) ps)) in
    let b = sum_by-cons length_mm (route_at routes r) (map (route_at routes) (take p ps)) in
    let k = path_length_take routes g p ps (omega arith) in
    omega arith

and_not : (a b : Bool) → b ≡ false → (a && b) ≡ false
and_not true b e = e
and_not false b e = refl

pub not_le : (a b : ℕ) → b < a → nat_le a b ≡ false
not_le a b h = go (nat_le a b) refl
  where
    go : (t : Bool) → nat_le a b ≡ t → nat_le a b ≡ false
    go false e = e
    go true e = let k = leb-true a b e in absurd (omega arith)

pub true_of : (b : Bool) → IsTrue b → b ≡ true
true_of b h = h

module _ (d : Station) (routes : List Route) (plan : List (List Command)) where
  -- what is taken for granted: routes as long as their edges, whose sections are those of their edges, and no route twice in a path
  pub record HasSections : Type 0 where
    pub whole : (r : RouteNo) → sum_by (length_of d) (route_at routes r).edges ≡ length_mm (route_at routes r)
    pub section : (r : RouteNo) (e : EdgeNo × ℕ) → In e (edge_ends d 0 (route_at routes r).edges) → goes_over (route_at routes r) (section_of d e.0) ≡ true
    pub released_after : (r : RouteNo) (e : EdgeNo × ℕ) → In e (edge_ends d 0 (route_at routes r).edges) → e.1 ≤ release_offset (route_at routes r) (section_of d e.0)
    pub once : (t : TrainNo) (i : ℕ) (r : RouteNo) → IsTrain d t → slice_get (path plan t) i ≡ Some r → before_first (λ q. is_route q r) (path plan t) ≡ take i (path plan t)

  -- a head past the routes before one has been granted it
  far_granted : IsSound d routes plan → (k : ℕ) (t : TrainNo) (i : ℕ) → IsTrain d t → i < length (path plan t) → path_length routes (take i (path plan t)) < (state_of (state_at d routes (of_plan routes plan) k) t).x → i < (state_of (state_at d routes (of_plan routes plan) k) t).granted
  far_granted sound k t i named there far = go (below_or_not i (state_of (state_at d routes (of_plan routes plan) k) t).granted)
    where
      in_authority : (b : Bool) → list_any exits (given d routes plan t (state_of (state_at d routes (of_plan routes plan) k) t).granted) ≡ b → (state_of (state_at d routes (of_plan routes plan) k) t).granted ≤ i → 1 ≤ (state_of (state_at d routes (of_plan routes plan) k) t).granted → ⊥
      in_authority true e short some =
          let all = sound.exit_last t (state_of (state_at d routes (of_plan routes plan) k) t).granted named e in
          let long = length-map (route_at routes) (path plan t) in omega arith
      in_authority false e short some =
          let stop = subst (λ end. may_stop end (state_of (state_at d routes (of_plan routes plan) k) t).x ≡ true) (authority_some (given d routes plan t (state_of (state_at d routes (of_plan routes plan) k) t).granted) e) (within_track d routes plan sound k t some) in
          let near = leb-true _ _ stop in
          let w = path_length_take routes (state_of (state_at d routes (of_plan routes plan) k) t).granted i (path plan t) short in omega arith

      waiting : (state_of (state_at d routes (of_plan routes plan) k) t).granted ≤ i → ((state_of (state_at d routes (of_plan routes plan) k) t).granted ≡ 0) ⊎ (1 ≤ (state_of (state_at d routes (of_plan routes plan) k) t).granted) → ⊥
      waiting short (inl none) = let w = (travels d routes plan sound k t).waits none in let x0 = w.0 in omega arith
      waiting short (inr some) = in_authority (list_any exits (given d routes plan t (state_of (state_at d routes (of_plan routes plan) k) t).granted)) refl short some

      zero_or : (n : ℕ) → (n ≡ 0) ⊎ (1 ≤ n)
      zero_or zero = inl refl
      zero_or (suc n) = inr (omega arith)

      go : (i < (state_of (state_at d routes (of_plan routes plan) k) t).granted) ⊎ ((state_of (state_at d routes (of_plan routes plan) k) t).granted ≤ i) → i < (state_of (state_at d routes (of_plan routes plan) k) t).granted
      go (inl h) = h
      go (inr h) = absurd (waiting h (zero_or (state_of (state_at d routes (of_plan routes plan) k) t).granted))

  pub stands_holds : IsSound d routes plan → HasSections → (k : ℕ) (t : TrainNo) (z : SectionNo) → IsTrain d t → stands_on d routes plan k t z ≡ true → holds d routes plan k t z ≡ true
  stands_holds sound has k t z named h = go (list_any_gives _ _ h)
    where
      go : ((e : EdgeNo × ℕ) × In e (edge_ends d 0 (flat_map (λ r. r.edges) (map (route_at routes) (path plan t)))) × (covers d routes plan (state_of (state_at d routes (of_plan routes plan) k) t) t z e ≡ true)) → holds d routes plan k t z ≡ true
      go (e, m, c) = at_route (on_route d routes has.whole 0 (path plan t) e m)
        where
          at_route : OnRoute d routes 0 (path plan t) e → holds d routes plan k t z ≡ true
          at_route f =
              let s = state_of (state_at d routes (of_plan routes plan) k) t in
              let command : Command = record { train = t; route = f.route } in
              let found = at_in (path plan t) f.place f.route f.stands_there in
              let here : (section_of d e.0).0 ≡ z.0 = eqb-true _ _ (and_left ((section_of d e.0).0 == z.0) (nat_lt e.1 (s.x + length_of d e.0)) (and_left ((section_of d e.0).0 == z.0 && nat_lt e.1 (s.x + length_of d e.0)) (nat_lt s.x (e.1 + train_length d t)) c)) in
              let same : section_of d e.0 ≡ z = ap (λ n. record { 0 = n }) here in
              let begins : e.1 < s.x + length_of d e.0 = leb-true _ _ (and_right ((section_of d e.0).0 == z.0) (nat_lt e.1 (s.x + length_of d e.0)) (and_left ((section_of d e.0).0 == z.0 && nat_lt e.1 (s.x + length_of d e.0)) (nat_lt s.x (e.1 + train_length d t)) c)) in
              let tail : s.x < e.1 + train_length d t = leb-true _ _ (and_right ((section_of d e.0).0 == z.0 && nat_lt e.1 (s.x + length_of d e.0)) (nat_lt s.x (e.1 + train_length d t)) c) in
              let over : goes_over (route_at routes f.route) z ≡ true = subst (λ y. goes_over (route_at routes f.route) y ≡ true) same (has.section f.route (e.0, f.offset) f.member) in
              let on_section : has_section (route_at routes f.route) z ≡ true = ap (λ b. b || overlaps (route_at routes f.route) z) over in
              let own = ends_after d 0 (route_at routes f.route).edges (e.0, f.offset) f.member in
              let before = has.once t f.place f.route named f.stands_there in
              let released_after : f.offset ≤ release_offset (route_at routes f.route) z = subst (λ y. f.offset ≤ release_offset (route_at routes f.route) y) same (has.released_after f.route (e.0, f.offset) f.member) in
              let is_far : f.place < s.granted = far_granted sound k t f.place named found.1 (let n = f.ends in omega arith) in
              let granted : is_granted d routes (of_plan routes plan) (state_at d routes (of_plan routes plan) k) command ≡ true = le-leb _ _ (let l = length-map (route_at routes) (before_first (λ q. is_route q f.route) (path plan t)) in let n = ap length before in let m = length-take f.place (path plan t) in omega arith) in
              let unreleased : has_released d routes (of_plan routes plan) (pasts_at d routes (of_plan routes plan) k) command z ≡ false =
              ap (λ b. has_come (pasts_at d routes (of_plan routes plan) k) (if b then release_of_own d routes (of_plan routes plan) command z else release_of_overlap d routes (of_plan routes plan) command z)) over
              ∙ ap (λ o. has_happened o (release_of_own d routes (of_plan routes plan) command z).event) (sym (state_is_last d routes (of_plan routes plan) (pasts_at d routes (of_plan routes plan) k) t))
              ∙ and_not _ _ (not_le _ s.x (let w = ap (path_length routes) before in let r = released_after in let n = f.ends in omega arith)) in
              list_any_from _ (commands plan) command (in_path t plan f.route found.0)
              (and_both _ _ (and_both _ _ (and_both _ _ (eq-eqb t.0 t.0 refl) on_section) granted) (ap not unreleased))

  -- who is no train of the design stands nowhere
  idle_or_named : (k : ℕ) (t : TrainNo) → (state_of (state_at d routes (of_plan routes plan) k) t ≡ idle) ⊎ IsTrain d t
  idle_or_named k t = go t.0
    where
      go : (n : ℕ) → (state_of (state_at d routes (of_plan routes plan) k) (record { 0 = n }) ≡ idle) ⊎ IsTrain d (record { 0 = n })
      go zero = inl refl
      go (suc i) = which (below_or_not i (length d.trains))
        where
          which : (i < length d.trains) ⊎ (length d.trains ≤ i) → (state_of (state_at d routes (of_plan routes plan) k) (record { 0 = suc i }) ≡ idle) ⊎ IsTrain d (record { 0 = suc i })
          which (inl h) = inr (omega arith, h)
          which (inr h) = inl (past_is_idle d routes (of_plan routes plan) k i h)

  pub stands_named : (k : ℕ) (t : TrainNo) (z : SectionNo) → stands_on d routes plan k t z ≡ true → IsTrain d t
  stands_named k t z h = go (idle_or_named k t) (list_any_gives _ _ h)
    where
      go : (state_of (state_at d routes (of_plan routes plan) k) t ≡ idle) ⊎ IsTrain d t → ((e : EdgeNo × ℕ) × In e (edge_ends d 0 (flat_map (λ r. r.edges) (map (route_at routes) (path plan t)))) × (covers d routes plan (state_of (state_at d routes (of_plan routes plan) k) t) t z e ≡ true)) → IsTrain d t
      go (inr named) f = named
      go (inl rest) (e, m, c) =
          let s = state_of (state_at d routes (of_plan routes plan) k) t in
          let begins : e.1 < s.x + length_of d e.0 = leb-true _ _ (and_right ((section_of d e.0).0 == z.0) (nat_lt e.1 (s.x + length_of d e.0)) (and_left ((section_of d e.0).0 == z.0 && nat_lt e.1 (s.x + length_of d e.0)) (nat_lt s.x (e.1 + train_length d t)) c)) in
          let own = ends_after d 0 (flat_map (λ r. r.edges) (map (route_at routes) (path plan t))) e m in
          let x : s.x ≡ 0 = ap (λ (w : TrainState). w.x) rest in absurd (omega arith)

  -- who holds a section or stands on it holds it
  pub there_holds : IsSound d routes plan → HasSections → (k : ℕ) (t : TrainNo) (z : SectionNo) → (holds d routes plan k t z || stands_on d routes plan k t z) ≡ true → holds d routes plan k t z ≡ true
  there_holds sound has k t z h = go (holds d routes plan k t z) refl h
    where
      go : (b : Bool) → holds d routes plan k t z ≡ b → (b || stands_on d routes plan k t z) ≡ true → b ≡ true
      go true e h = refl
      go false e h = sym e ∙ stands_holds sound has k t z (stands_named k t z h) h

  -- in a run of an executable plan there is no clash at any tick
  pub no_clash : IsSound d routes plan → HasSections → is_executable d routes plan ≡ true → (k : ℕ) → Clash d routes plan k → ⊥
  no_clash sound has can k c =
      holds_apart d routes plan can k c.one c.other c.section (is_false _ (true_of _ c.differ))
      (there_holds sound has k c.one c.section (and_left _ (holds d routes plan k c.other c.section || stands_on d routes plan k c.other c.section) both))
      (there_holds sound has k c.other c.section (and_right (holds d routes plan k c.one c.section || stands_on d routes plan k c.one c.section) _ both))
    where
      both : ((holds d routes plan k c.one c.section || stands_on d routes plan k c.one c.section) && (holds d routes plan k c.other c.section || stands_on d routes plan k c.other c.section)) ≡ true
      both = true_of _ c.at_once
