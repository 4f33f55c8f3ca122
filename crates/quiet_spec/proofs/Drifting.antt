-- In quiet ticks each train goes on under its authority.
use Rattle.std.proofs.Common.{◌≡◌, ℕ, zero, suc, ◌+◌, ◌-◌, ◌≤◌, ◌<◌, ◌⊎◌, inl, inr, Bool, true, false, ◌&&◌, if◌then◌else◌, nat_le, List, [], ◌∷◌, map, length, slice_get, Option, None, Some, option_map, refl, sym, ap, ap₂, subst, ◌∙◌, arith, le-leb, le_refl}
use Rattle.rail_base.specs.declared.station.Station.{Station}
use Rattle.rail_base.specs.declared.station.SectionNo.{SectionNo}
use Rattle.rail_base.specs.declared.station.TrainNo.{TrainNo}
use Rattle.rail_base.specs.declared.route.Route.{Route}
use Rattle.rail_base.specs.declared.route.RouteNo.{RouteNo}
use Rattle.rail_base.specs.declared.plan.Command.{Command}
use Rattle.rail_base.specs.declared.state.Event.{Event}
use Rattle.rail_base.specs.declared.state.TrainEvent.{TrainEvent}
use Rattle.rail_base.specs.declared.state.TrainState.{TrainState}
use Rattle.rail_base.specs.Events.{has_happened}
use Rattle.rail_base.specs.Members.{In}
use Rattle.rail_base.specs.Numbering.{before_first, least}
use Rattle.rail_base.specs.Stations.{IsTrain, trains}
use Rattle.rail_base.specs.Routes.{own_sections, held_sections, sections, shared, has_section}
use Rattle.rail_base.proofs.Lists.{in_append, in_map, in_filter_back, in_flat_map, length-map}
use Rattle.rail_base.proofs.Members.{below_or_not, false_unless, map-map}
use Rattle.rail_spec.specs.Plans.{route_at, is_route}
use Rattle.rail_spec.specs.Dispatches.{Dispatch, idle, state_of, ago, past_of, has_come, release, has_released, has_cleared, is_ready, with_granted, stands, granted_with, granted_after, moved, pasts_at, state_at}
use Rattle.rail_spec.specs.Visits.{happened_by}
use Rattle.rail_laws.proofs.Deciding.{least_gives, least_stays}
use Rattle.rail_laws.proofs.Given.{same_route}
use Rattle.rail_laws.proofs.Standing.{not_le}
use Rattle.rail_laws.proofs.Running.{Moves, Idles, after_tick, idle_at_first, granted_on_path, next_past, state_is_last}
use Rattle.rail_require.proofs.Agreeing.{is_a_train}
use Rattle.rail_course.specs.declared.journey.Hold.{Hold}
use Rattle.rail_course.specs.declared.journey.Release.{Release}
use Rattle.rail_course.specs.Clocks.{comes_by, own_ticks}
use Rattle.rail_course.specs.Holds.{hold_for, holds_of_route, holds_of_train}
use Rattle.rail_course.specs.Releases.{release_for, releases_of_route, releases_of_train}
use Rattle.rail_base.proofs.Sharing.{own_goes_over}
use Rattle.rail_course.proofs.Holding.{grants_of_hold, grants_of_release, number_of_release, train_of_hold, train_of_release}
use Rattle.rail_course.proofs.Lasting.{clock_on, happened_ago, none_passes, not_at_first, stays_so}
use Rattle.rail_course.proofs.Showing.{come_granted, nothing_comes, released_shown}
use Rattle.rail_course.proofs.Waiting.{list_all-same}
use Rattle.quiet_spec.specs.Quiet.{EndsNoHold, IsNotReached, IsQuiet, followed, drift_with, drift}

pub map-same : {X Y : Type 0} (f g : X → Y) (xs : List X) → ((x : X) → In x xs → f x ≡ g x) → map f xs ≡ map g xs
map-same f g [] h = refl
map-same f g (x ∷ xs) h = ap₂ (λ y ys. y ∷ ys) (h x (inl refl)) (map-same f g xs (λ y m. h y (inr m)))

-- what is not come to is as far behind or ahead as before
pub apart_same : (x y z place : ℕ) → x ≤ y → y ≤ z → IsNotReached x z place → nat_le place y ≡ nat_le place x
apart_same x y z place forward short (inl behind) = le-leb place y (omega arith) ∙ sym (le-leb place x behind)
apart_same x y z place forward short (inr ahead) = not_le place y (omega arith) ∙ sym (not_le place x (omega arith))

-- one tick more or none
stood_more : (b : Bool) (n : ℕ) → n ≤ (if b then n + 1 else n)
stood_more true n = omega arith
stood_more false n = omega arith

-- what a state says of an event
pub event_same : (s u : TrainState) (z : ℕ) (e : Event) → u.granted ≡ s.granted → s.x ≤ u.x → u.x ≤ z → IsNotReached s.x z e.place → has_happened u e ≡ has_happened s e
event_same s u z e same forward short apart = ap₂ (λ g b. nat_le e.granted g && b) same (apart_same s.x u.x z e.place forward short apart)

-- a route is on a path, or all routes of the path are before it
pub on_path_or_not : (routes : List RouteNo) (r : RouteNo) → In r routes ⊎ (before_first (λ q. is_route q r) routes ≡ routes)
on_path_or_not [] r = inr refl
on_path_or_not (q ∷ qs) r = go (is_route q r) refl (on_path_or_not qs r)
  where
    go : (b : Bool) → is_route q r ≡ b → In r qs ⊎ (before_first (λ q. is_route q r) qs ≡ qs) → In r (q ∷ qs) ⊎ ((if b then [] else q ∷ before_first (λ q. is_route q r) qs) ≡ q ∷ qs)
    go true e h = inl (inl (same_route q r e))
    go false e (inl m) = inl (inr m)
    go false e (inr all) = inr (ap (λ ys. q ∷ ys) all)

module _ (d : Station) (routes : List Route) (dispatch : Dispatch) where
  -- ---- drifting

  moved_granted : (t : TrainNo) (s : TrainState) (g : ℕ) → s.granted ≡ g → (moved d routes dispatch t s g).granted ≡ g
  moved_granted t s zero e = e
  moved_granted t s (suc g) e = refl

  moved_forward : (t : TrainNo) (s : TrainState) (g : ℕ) → s.x ≤ (moved d routes dispatch t s g).x
  moved_forward t s zero = le_refl _
  moved_forward t s (suc g) = omega arith

  moved_stood : (t : TrainNo) (s : TrainState) (g : ℕ) → s.stood ≤ (moved d routes dispatch t s g).stood
  moved_stood t s zero = le_refl _
  moved_stood t s (suc g) = stood_more (stands d routes dispatch t (with_granted (suc g) s)) s.stood

  pub followed_granted : (t : TrainNo) (g k : ℕ) (s : TrainState) → s.granted ≡ g → (followed d routes dispatch t g k s).granted ≡ g
  followed_granted t g k s e = go (dispatch.concerns k t)
    where
      go : (b : Bool) → (if b then moved d routes dispatch t s g else s).granted ≡ g
      go true = moved_granted t s g e
      go false = e

  followed_forward : (t : TrainNo) (g k : ℕ) (s : TrainState) → s.x ≤ (followed d routes dispatch t g k s).x
  followed_forward t g k s = go (dispatch.concerns k t)
    where
      go : (b : Bool) → s.x ≤ (if b then moved d routes dispatch t s g else s).x
      go true = moved_forward t s g
      go false = le_refl _

  followed_stood : (t : TrainNo) (g k : ℕ) (s : TrainState) → s.stood ≤ (followed d routes dispatch t g k s).stood
  followed_stood t g k s = go (dispatch.concerns k t)
    where
      go : (b : Bool) → s.stood ≤ (if b then moved d routes dispatch t s g else s).stood
      go true = moved_stood t s g
      go false = le_refl _

  pub drift_granted : (t : TrainNo) (g k j : ℕ) (s : TrainState) → s.granted ≡ g → (drift_with d routes dispatch t g k j s).granted ≡ g
  drift_granted t g k zero s e = e
  drift_granted t g k (suc j) s e = followed_granted t g (suc (k + j)) (drift_with d routes dispatch t g k j s) (drift_granted t g k j s e)

  pub drift_forward : (t : TrainNo) (g k i j : ℕ) (s : TrainState) → (drift_with d routes dispatch t g k i s).x ≤ (drift_with d routes dispatch t g k (i + j) s).x
  drift_forward t g k i zero s = let e : i + 0 ≡ i = omega arith in subst (λ n. (drift_with d routes dispatch t g k i s).x ≤ (drift_with d routes dispatch t g k n s).x) (sym e) (le_refl _)
  drift_forward t g k i (suc j) s =
      let e : i + suc j ≡ suc (i + j) = omega arith in
      let before = drift_forward t g k i j s in
      let next = followed_forward t g (suc (k + (i + j))) (drift_with d routes dispatch t g k (i + j) s) in
      subst (λ n. (drift_with d routes dispatch t g k i s).x ≤ (drift_with d routes dispatch t g k n s).x) (sym e) (omega arith)

  pub drift_within : (t : TrainNo) (g k j n : ℕ) (s : TrainState) → j ≤ n → (drift_with d routes dispatch t g k j s).x ≤ (drift_with d routes dispatch t g k n s).x
  drift_within t g k j n s h = let e : j + (n - j) ≡ n = omega arith in subst (λ m. (drift_with d routes dispatch t g k j s).x ≤ (drift_with d routes dispatch t g k m s).x) e (drift_forward t g k j (n - j) s)

  pub drift_stood : (t : TrainNo) (g k i j : ℕ) (s : TrainState) → (drift_with d routes dispatch t g k i s).stood ≤ (drift_with d routes dispatch t g k (i + j) s).stood
  drift_stood t g k i zero s = let e : i + 0 ≡ i = omega arith in subst (λ n. (drift_with d routes dispatch t g k i s).stood ≤ (drift_with d routes dispatch t g k n s).stood) (sym e) (le_refl _)
  drift_stood t g k i (suc j) s =
      let e : i + suc j ≡ suc (i + j) = omega arith in
      let before = drift_stood t g k i j s in
      let next = followed_stood t g (suc (k + (i + j))) (drift_with d routes dispatch t g k (i + j) s) in
      subst (λ n. (drift_with d routes dispatch t g k i s).stood ≤ (drift_with d routes dispatch t g k n s).stood) (sym e) (omega arith)

  pub drift_stood_within : (t : TrainNo) (g k j n : ℕ) (s : TrainState) → j ≤ n → (drift_with d routes dispatch t g k j s).stood ≤ (drift_with d routes dispatch t g k n s).stood
  drift_stood_within t g k j n s h = let e : j + (n - j) ≡ n = omega arith in subst (λ m. (drift_with d routes dispatch t g k j s).stood ≤ (drift_with d routes dispatch t g k m s).stood) e (drift_stood t g k j (n - j) s)

  -- ---- what grants depend on

  -- each release of each command is at tick m as at tick k
  abbrev pub SameReleases : ℕ → ℕ → Type 0
  SameReleases k m = (c : Command) (z : SectionNo) → In z (sections (route_at routes c.route)) → has_released d routes dispatch (pasts_at d routes dispatch m) c z ≡ has_released d routes dispatch (pasts_at d routes dispatch k) c z

  -- what never comes to a train: more is granted than its path has
  pub never : (k : ℕ) (e : TrainEvent) → length (dispatch.path e.train) < e.event.granted → has_come (pasts_at d routes dispatch k) e ≡ false
  never k e more = false_unless (has_come (pasts_at d routes dispatch k) e) (λ h. let l = come_granted d routes dispatch k e h in let most = granted_on_path d routes dispatch k e.train in absurd (omega arith))

  -- so it is of a route that is not on its train's path
  pub far : (c : Command) (z : SectionNo) → before_first (λ q. is_route q c.route) (dispatch.path c.train) ≡ dispatch.path c.train → length (dispatch.path (release d routes dispatch c z).train) < (release d routes dispatch c z).event.granted
  far c z all =
      let many : length (map (route_at routes) (before_first (λ q. is_route q c.route) (dispatch.path c.train))) ≡ length (dispatch.path c.train) = length-map (route_at routes) (before_first (λ q. is_route q c.route) (dispatch.path c.train)) ∙ ap length all in
      let number = number_of_release d routes dispatch c z in
      let train = ap (λ t. length (dispatch.path t)) (train_of_release d routes dispatch c z) in
      omega arith

  -- it is enough to know it of the releases on paths
  pub released_by_path : (k m : ℕ) (c : Command) (z : SectionNo) → In z (sections (route_at routes c.route))
      → ((r : Release) → In r (releases_of_train d routes dispatch c.train) → has_happened (state_of (state_at d routes dispatch m) c.train) r.event ≡ has_happened (state_of (state_at d routes dispatch k) c.train) r.event)
      → ((h : Hold) → In h (holds_of_train d routes dispatch c.train) → has_come (pasts_at d routes dispatch m) h.event ≡ has_come (pasts_at d routes dispatch k) h.event)
      → has_released d routes dispatch (pasts_at d routes dispatch m) c z ≡ has_released d routes dispatch (pasts_at d routes dispatch k) c z
  released_by_path k m c z has own held = go (on_path_or_not (dispatch.path c.train) c.route)
    where
      here : In c.route (dispatch.path c.train) → In z (own_sections (route_at routes c.route)) ⊎ In z (held_sections (route_at routes c.route)) → has_released d routes dispatch (pasts_at d routes dispatch m) c z ≡ has_released d routes dispatch (pasts_at d routes dispatch k) c z
      here on (inl o) =
          let over = own_goes_over (route_at routes c.route) z o in
          sym (released_shown d routes dispatch m c z over)
          ∙ own (release_for d routes dispatch c z) (in_flat_map (releases_of_route d routes dispatch c.train) (dispatch.path c.train) c.route (release_for d routes dispatch c z) on (in_map (release_for d routes dispatch c) (own_sections (route_at routes c.route)) z o))
          ∙ released_shown d routes dispatch k c z over
      here on (inr o) = held (hold_for d routes dispatch c z) (in_flat_map (holds_of_route d routes dispatch c.train) (dispatch.path c.train) c.route (hold_for d routes dispatch c z) on (in_map (hold_for d routes dispatch c) (held_sections (route_at routes c.route)) z o))

      go : In c.route (dispatch.path c.train) ⊎ (before_first (λ q. is_route q c.route) (dispatch.path c.train) ≡ dispatch.path c.train) → has_released d routes dispatch (pasts_at d routes dispatch m) c z ≡ has_released d routes dispatch (pasts_at d routes dispatch k) c z
      go (inl on) = here on (in_append z (own_sections (route_at routes c.route)) (held_sections (route_at routes c.route)) has)
      go (inr all) = never m (release d routes dispatch c z) (far c z all) ∙ sym (never k (release d routes dispatch c z) (far c z all))

  ready_same : (k m : ℕ) (c : Command) → SameReleases k m → is_ready d routes dispatch (pasts_at d routes dispatch m) c ≡ is_ready d routes dispatch (pasts_at d routes dispatch k) c
  ready_same k m c same = list_all-same (has_cleared d routes dispatch (pasts_at d routes dispatch m) c) (has_cleared d routes dispatch (pasts_at d routes dispatch k) c) (dispatch.before c) cleared
    where
      cleared : (e : Command) → In e (dispatch.before c) → has_cleared d routes dispatch (pasts_at d routes dispatch m) c e ≡ has_cleared d routes dispatch (pasts_at d routes dispatch k) c e
      cleared e i =
          list_all-same (has_released d routes dispatch (pasts_at d routes dispatch m) e) (has_released d routes dispatch (pasts_at d routes dispatch k) e) (shared (route_at routes e.route) (route_at routes c.route))
          (λ z n. same e z (in_filter_back (has_section (route_at routes c.route)) (sections (route_at routes e.route)) z n).0)

  granted_with_same : (k m : ℕ) (t : TrainNo) (o : Option RouteNo) → (state_of (state_at d routes dispatch m) t).granted ≡ (state_of (state_at d routes dispatch k) t).granted → SameReleases k m → granted_with d routes dispatch (pasts_at d routes dispatch m) t o ≡ granted_with d routes dispatch (pasts_at d routes dispatch k) t o
  granted_with_same k m t None same out = same
  granted_with_same k m t (Some q) same out =
      ap₂ (λ b g. if b then g + 1 else g) (ready_same k m (record { train = t; route = q }) out) same

  pub granted_after_same : (k m : ℕ) (t : TrainNo) → (state_of (state_at d routes dispatch m) t).granted ≡ (state_of (state_at d routes dispatch k) t).granted → SameReleases k m → granted_after d routes dispatch (pasts_at d routes dispatch m) t ≡ granted_after d routes dispatch (pasts_at d routes dispatch k) t
  granted_after_same k m t same out =
      ap (λ g. granted_with d routes dispatch (pasts_at d routes dispatch m) t (slice_get (dispatch.path t) g)) same ∙ granted_with_same k m t (slice_get (dispatch.path t) (state_of (state_at d routes dispatch k) t).granted) same out

  -- ---- what has come of a hold

  -- nothing ends while nothing comes to the place from which on it is held, and the clock doesn't come to its end
  pub hold_same : (t : TrainNo) (h : Hold) → In h (holds_of_train d routes dispatch t) → (k m l : ℕ) → k ≤ m → m ≤ l → EndsNoHold d routes dispatch k l t
      → happened_by d routes dispatch t h.event.event m ≡ happened_by d routes dispatch t h.event.event k → has_come (pasts_at d routes dispatch m) h.event ≡ has_come (pasts_at d routes dispatch k) h.event
  hold_same t h i k m l from within none same =
      ap (λ u. has_happened (ago h.event.ticks (past_of (pasts_at d routes dispatch m) u)) e) train
      ∙ happened_ago d routes dispatch t e some m h.event.ticks
      ∙ go (least happened k) refl
      ∙ sym (happened_ago d routes dispatch t e some k h.event.ticks)
      ∙ sym (ap (λ u. has_happened (ago h.event.ticks (past_of (pasts_at d routes dispatch k) u)) e) train)
    where
      e : Event
      e = h.event.event

      happened : ℕ → Bool
      happened j = happened_by d routes dispatch t e j

      train : h.event.train ≡ t
      train = train_of_hold d routes dispatch t h i

      some : 1 ≤ e.granted
      some = grants_of_hold d routes dispatch t h i

      clock : ℕ → ℕ
      clock j = own_ticks dispatch j t

      runs_on : (a b : ℕ) → a ≤ b → clock a ≤ clock b
      runs_on a b less = let z : a + (b - a) ≡ b = omega arith in subst (λ j. clock a ≤ clock j) z (clock_on dispatch t a (b - a))

      nothing : happened k ≡ true → least happened k ≡ None → ⊥
      nothing done found = at (below_or_not 0 k)
        where
          at : (0 < k) ⊎ (k ≤ 0) → ⊥
          at (inl low) = none_passes happened k found k low (omega arith) done
          at (inr none_before) = let z : k ≡ 0 = omega arith in not_at_first d routes dispatch t e some (subst (λ j. happened j ≡ true) z done)

      not_yet : least happened k ≡ None → (o : Option ℕ) → least happened m ≡ o → comes_by (option_map clock o) h.event.ticks (clock m) ≡ false
      not_yet found None f = refl
      not_yet found (Some a) f = let l = least_gives happened m a f in absurd (nothing (sym same ∙ stays_so d routes dispatch t e some a m l.last l.passes) found)

      ends : (a : ℕ) → IsNotReached (clock k) (clock l) (clock a + h.event.ticks) → nat_le (clock a + h.event.ticks) (clock m) ≡ nat_le (clock a + h.event.ticks) (clock k)
      ends a apart = apart_same (clock k) (clock m) (clock l) (clock a + h.event.ticks) (runs_on k m from) (runs_on m l within) apart

      go : (o : Option ℕ) → least happened k ≡ o → comes_by (option_map clock (least happened m)) h.event.ticks (clock m) ≡ comes_by (option_map clock (least happened k)) h.event.ticks (clock k)
      go None f = not_yet f (least happened m) refl ∙ sym (ap (λ o. comes_by (option_map clock o) h.event.ticks (clock k)) f)
      go (Some a) f =
          let z : k + (m - k) ≡ m = omega arith in
          let there : least happened m ≡ Some a = subst (λ j. least happened j ≡ Some a) z (least_stays happened k (m - k) a f) in
          ap (λ o. comes_by (option_map clock o) h.event.ticks (clock m)) there ∙ ends a (none h i a f) ∙ sym (ap (λ o. comes_by (option_map clock o) h.event.ticks (clock k)) f)

  -- ---- a tick, by the rule

  pub by_rule : (k : ℕ) (t : TrainNo) → IsTrain d t → state_of (state_at d routes dispatch (suc k)) t ≡ followed d routes dispatch t (granted_after d routes dispatch (pasts_at d routes dispatch k) t) (suc k) (state_of (state_at d routes dispatch k) t)
  by_rule k t (low, high) = go (after_tick d routes dispatch k t)
    where
      go : Moves d routes dispatch k t ⊎ Idles d routes dispatch k t → state_of (state_at d routes dispatch (suc k)) t ≡ followed d routes dispatch t (granted_after d routes dispatch (pasts_at d routes dispatch k) t) (suc k) (state_of (state_at d routes dispatch k) t)
      go (inl m) = m.by_rule
      go (inr i) = let o = i.out low in absurd (omega arith)

  -- nothing is granted, or the tick doesn't concern the train
  pub without : (t : TrainNo) (k h g : ℕ) (s : TrainState) → (h ≡ g) ⊎ (dispatch.concerns k t ≡ false) → followed d routes dispatch t h k s ≡ followed d routes dispatch t g k s
  without t k h g s (inl e) = ap (λ n. followed d routes dispatch t n k s) e
  without t k h g s (inr none) = stay h ∙ sym (stay g)
    where
      stay : (n : ℕ) → followed d routes dispatch t n k s ≡ s
      stay n = ap (λ b. if b then moved d routes dispatch t s n else s) none

  -- ---- quiet ticks

  module _ (k n : ℕ) (quiet : IsQuiet d routes dispatch k n) where
    abbrev first : TrainNo → TrainState
    first t = state_of (state_at d routes dispatch k) t

    -- each train has drifted so far
    abbrev Drifted : ℕ → Type 0
    Drifted j = (t : TrainNo) → IsTrain d t → state_of (state_at d routes dispatch (k + j)) t ≡ drift d routes dispatch t k j (first t)

    -- an event of a train to whose place it doesn't come
    happens_same : (j : ℕ) → j ≤ n → Drifted j → (t : TrainNo) → IsTrain d t → (e : Event) → IsNotReached (first t).x (drift d routes dispatch t k n (first t)).x e.place → has_happened (state_of (state_at d routes dispatch (k + j)) t) e ≡ has_happened (first t) e
    happens_same j within so t is e apart =
        ap (λ u. has_happened u e) (so t is)
        ∙ event_same (first t) (drift d routes dispatch t k j (first t)) (drift d routes dispatch t k n (first t)).x e (drift_granted t (first t).granted k j (first t) refl)
        (drift_within t (first t).granted k 0 j (first t) (omega arith)) (drift_within t (first t).granted k j n (first t) within) apart

    drifted_same : (j : ℕ) → j ≤ n → Drifted j → SameReleases k (k + j)
    drifted_same j within so c z own = either (below_or_not 0 c.train.0) (below_or_not (length d.trains) c.train.0)
      where
        nobody : (IsTrain d c.train → ⊥) → has_released d routes dispatch (pasts_at d routes dispatch (k + j)) c z ≡ has_released d routes dispatch (pasts_at d routes dispatch k) c z
        nobody out =
            let some = grants_of_release d routes dispatch c z in
            let none : IsTrain d (release d routes dispatch c z).train → ⊥ = λ is. out (subst (IsTrain d) (train_of_release d routes dispatch c z) is) in
            nothing_comes d routes dispatch (k + j) (release d routes dispatch c z) some none ∙ sym (nothing_comes d routes dispatch k (release d routes dispatch c z) some none)

        somebody : IsTrain d c.train → has_released d routes dispatch (pasts_at d routes dispatch (k + j)) c z ≡ has_released d routes dispatch (pasts_at d routes dispatch k) c z
        somebody is =
            released_by_path k (k + j) c z own (λ r m. happens_same j within so c.train is r.event ((quiet.each c.train is).places.releases r m))
            (λ h m. hold_same c.train h m k (k + j) (k + n) (omega arith) (omega arith) (quiet.each c.train is).holds (happens_same j within so c.train is h.event.event ((quiet.each c.train is).places.holds h m)))

        either : (0 < c.train.0) ⊎ (c.train.0 ≤ 0) → (length d.trains < c.train.0) ⊎ (c.train.0 ≤ length d.trains) → has_released d routes dispatch (pasts_at d routes dispatch (k + j)) c z ≡ has_released d routes dispatch (pasts_at d routes dispatch k) c z
        either (inr none) l = nobody (λ is. let low = is.0 in absurd (omega arith))
        either (inl low) (inl past) = nobody (λ is. let high = is.1 in absurd (omega arith))
        either (inl low) (inr high) = somebody (omega arith, high)

    pub go_on : (j : ℕ) → j ≤ n → Drifted j
    go_on zero within t is = let same : k + 0 ≡ k = omega arith in ap (λ m. state_of (state_at d routes dispatch m) t) same
    go_on (suc j) within t is =
        let before = go_on j (omega arith) in
        let same : k + suc j ≡ suc (k + j) = omega arith in
        let granted : (state_of (state_at d routes dispatch (k + j)) t).granted ≡ (first t).granted = ap (λ u. u.granted) (before t is) ∙ drift_granted t (first t).granted k j (first t) refl in
        let grants = granted_after_same k (k + j) t granted (drifted_same j (omega arith) before) in
        ap (λ m. state_of (state_at d routes dispatch m) t) same
        ∙ by_rule (k + j) t is
        ∙ without t (suc (k + j)) (granted_after d routes dispatch (pasts_at d routes dispatch (k + j)) t) (first t).granted (state_of (state_at d routes dispatch (k + j)) t) (either grants ((quiet.each t is).grants))
        ∙ ap (followed d routes dispatch t (first t).granted (suc (k + j))) (before t is)
      where
        either : granted_after d routes dispatch (pasts_at d routes dispatch (k + j)) t ≡ granted_after d routes dispatch (pasts_at d routes dispatch k) t
            → (granted_after d routes dispatch (pasts_at d routes dispatch k) t ≡ (first t).granted) ⊎ ((i : ℕ) → k < i → i ≤ k + n → dispatch.concerns i t ≡ false)
            → (granted_after d routes dispatch (pasts_at d routes dispatch (k + j)) t ≡ (first t).granted) ⊎ (dispatch.concerns (suc (k + j)) t ≡ false)
        either e (inl none) = inl (e ∙ none)
        either e (inr out) = inr (out (suc (k + j)) (omega arith) (omega arith))

  -- ---- the list of all states

  pub each_state : (k : ℕ) → state_at d routes dispatch k ≡ map (λ t. state_of (state_at d routes dispatch k) t) (trains d)
  each_state zero = map-map (ago 0) (λ t. idle ∷ []) (trains d) ∙ map-same (λ t. idle) (λ t. state_of (state_at d routes dispatch 0) t) (trains d) (λ t m. sym (idle_at_first d routes dispatch t))
  each_state (suc k) =
      map-map (ago 0) (next_past d routes dispatch (suc k) (pasts_at d routes dispatch k)) (trains d)
      ∙ map-same (λ t. ago 0 (next_past d routes dispatch (suc k) (pasts_at d routes dispatch k) t)) (λ t. state_of (state_at d routes dispatch (suc k)) t) (trains d) (λ t m. last t (is_a_train d t m))
    where
      last : (t : TrainNo) → IsTrain d t → ago 0 (next_past d routes dispatch (suc k) (pasts_at d routes dispatch k) t) ≡ state_of (state_at d routes dispatch (suc k)) t
      last t is = go (after_tick d routes dispatch k t)
        where
          go : Moves d routes dispatch k t ⊎ Idles d routes dispatch k t → ago 0 (next_past d routes dispatch (suc k) (pasts_at d routes dispatch k) t) ≡ state_of (state_at d routes dispatch (suc k)) t
          go (inl m) = sym (ap (ago 0) m.past_by_rule) ∙ sym (state_is_last d routes dispatch (pasts_at d routes dispatch (suc k)) t)
          go (inr i) = let low = is.0 in let high = is.1 in let out = i.out low in absurd (omega arith)

  pub states_go_on : (k n : ℕ) → IsQuiet d routes dispatch k n → (j : ℕ) → j ≤ n → state_at d routes dispatch (k + j) ≡ map (λ t. drift d routes dispatch t k j (state_of (state_at d routes dispatch k) t)) (trains d)
  states_go_on k n quiet j within = each_state (k + j) ∙ map-same _ _ (trains d) (λ t m. go_on k n quiet j within t (is_a_train d t m))
