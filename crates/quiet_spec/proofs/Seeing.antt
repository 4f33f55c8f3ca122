-- Trains that were looked at at an earlier tick.
use Rattle.std.proofs.Common.{◌≡◌, ℕ, zero, suc, ◌+◌, ◌-◌, ◌≤◌, ◌<◌, ◌⊎◌, inl, inr, Bool, true, false, ◌&&◌, nat_le, List, [], ◌∷◌, length, get_or, slice_get, Option, None, Some, refl, sym, ap, ap₂, subst, ◌∙◌, arith, le_refl}
use Rattle.rail_base.specs.declared.history.TrainHistory.{TrainHistory}
use Rattle.rail_base.specs.declared.station.Station.{Station}
use Rattle.rail_base.specs.declared.station.SectionNo.{SectionNo}
use Rattle.rail_base.specs.declared.station.TrainNo.{TrainNo}
use Rattle.rail_base.specs.declared.route.Route.{Route}
use Rattle.rail_base.specs.declared.plan.Command.{Command}
use Rattle.rail_base.specs.declared.state.Event.{Event}
use Rattle.rail_base.specs.declared.state.TrainState.{TrainState}
use Rattle.rail_base.specs.declared.state.PathNode.{PathNode}
use Rattle.rail_base.specs.Events.{has_happened}
use Rattle.rail_base.specs.Members.{In}
use Rattle.rail_base.specs.Numbering.{before_first, entry, least, one_to}
use Rattle.rail_base.specs.Routes.{route_at, goes_over, own_sections}
use Rattle.rail_base.specs.Stations.{IsTrain, trains}
use Rattle.rail_base.proofs.Lists.{in_flat_map, in_map, length-map}
use Rattle.rail_base.proofs.Members.{below_or_not, get_or-counted, map-map}
use Rattle.rail_spec.specs.Dispatches.{Dispatch, idle, state_of, granted_after, has_come, has_released, pasts_at, release, state_at}
use Rattle.rail_spec.specs.Plans.{is_route}
use Rattle.rail_spec.specs.Visits.{happened_by, path_nodes_of_train}
use Rattle.rail_spec.specs.Histories.{dwell_up_to}
use Rattle.rail_laws.proofs.Deciding.{least_gives, least_stays}
use Rattle.rail_laws.proofs.Running.{granted_on_path}
use Rattle.rail_laws.proofs.Standing.{not_le}
use Rattle.rail_require.specs.Ticks.{history_of}
use Rattle.rail_require.proofs.Telling.{length-trains}
use Rattle.rail_course.specs.declared.journey.Hold.{Hold}
use Rattle.rail_course.specs.declared.journey.Release.{Release}
use Rattle.rail_course.specs.Clocks.{own_ticks}
use Rattle.rail_course.specs.Granting.{has_ended}
use Rattle.rail_course.specs.Holds.{holds_of_train, is_hold_over}
use Rattle.rail_course.specs.Ready.{ShowTick}
use Rattle.rail_course.specs.Releases.{release_for, releases_of_route, releases_of_train}
use Rattle.rail_base.proofs.Sharing.{in_own}
use Rattle.rail_course.proofs.Holding.{grants_of_hold, grants_of_release, train_of_release}
use Rattle.rail_course.proofs.Lasting.{clock_on, none_passes, stays_so}
use Rattle.rail_course.proofs.Showing.{ends_shown, nothing_comes, released_shown}
use Rattle.quiet_spec.specs.Histories.{has_stood, history_at, train_history}
use Rattle.quiet_spec.specs.Quiet.{IsNotReached, ComesNowhere, EndsNoHold, IsGrantedNothing, IsQuietFor, IsQuiet, followed, drift_with, drift}
use Rattle.quiet_spec.specs.Forecasts.{IsSeen, AreSeen}
use Rattle.quiet_spec.proofs.Drifting.{SameReleases, apart_same, event_same, far, hold_same, never, on_path_or_not, released_by_path, drift_granted, drift_within, drift_stood_within, go_on, granted_after_same, by_rule, without}
use Rattle.quiet_spec.proofs.Staying.{held_is, train_same, train_as_tested}

apart_less : (x a y z place : ℕ) → x ≤ a → y ≤ z → IsNotReached x z place → IsNotReached a y place
apart_less x a y z place later less (inl behind) = inl (omega arith)
apart_less x a y z place later less (inr ahead) = inr (omega arith)

-- who has no number in a list of states is idle
no_look : (states : List TrainState) (n : ℕ) → ((n ≡ 0) ⊎ (length states < n)) → entry idle states n ≡ idle
no_look states zero h = refl
no_look states (suc i) (inl e) = absurd (omega arith)
no_look [] (suc i) (inr l) = refl
no_look (s ∷ states) (suc zero) (inr l) = absurd (omega arith)
no_look (s ∷ states) (suc (suc i)) (inr l) = no_look states (suc i) (inr (omega arith))

module _ (d : Station) (routes : List Route) (dispatch : Dispatch) where
  nowhere_within : (t : TrainNo) (x a y z : TrainState) → x.x ≤ a.x → y.x ≤ z.x → x.stood ≤ a.stood → y.stood ≤ z.stood → ComesNowhere d routes dispatch t x z → ComesNowhere d routes dispatch t a y
  nowhere_within t x a y z later less longer shorter h = record {
    nodes = λ p m. apart_less x.x a.x y.x z.x p.event.place later less (h.nodes p m);
    releases = λ r m. apart_less x.x a.x y.x z.x r.event.place later less (h.releases r m);
    holds = λ g m. apart_less x.x a.x y.x z.x g.event.event.place later less (h.holds g m);
    stands = λ j. apart_less x.stood a.stood y.stood z.stood (dwell_up_to d t j) longer shorter (h.stands j);
  }

  -- ---- drifting in two parts

  drift_with_on : (t : TrainNo) (g k l i j : ℕ) (s : TrainState) → l ≡ k + i → drift_with d routes dispatch t g l j (drift_with d routes dispatch t g k i s) ≡ drift_with d routes dispatch t g k (i + j) s
  drift_with_on t g k l i zero s e = let z : i ≡ i + 0 = omega arith in ap (λ n. drift_with d routes dispatch t g k n s) z
  drift_with_on t g k l i (suc j) s e =
      let z : suc (i + j) ≡ i + suc j = omega arith in
      let same : suc (l + j) ≡ suc (k + (i + j)) = omega arith in
      ap₂ (followed d routes dispatch t g) same (drift_with_on t g k l i j s e) ∙ ap (λ n. drift_with d routes dispatch t g k n s) z

  pub drift_on : (t : TrainNo) (k l i j n : ℕ) (s : TrainState) → l ≡ k + i → n ≡ i + j → drift d routes dispatch t l j (drift d routes dispatch t k i s) ≡ drift d routes dispatch t k n s
  drift_on t k l i j n s same e =
      ap (λ g. drift_with d routes dispatch t g l j (drift d routes dispatch t k i s)) (drift_granted d routes dispatch t s.granted k i s refl)
      ∙ drift_with_on t s.granted k l i j s same ∙ ap (λ m. drift d routes dispatch t k m s) (sym e)

  -- ---- states that show what is granted and released

  -- so a train's state does
  pub record ShowsTrain (k : ℕ) (t : TrainNo) (s : TrainState) : Type 0 where
    pub granted : s.granted ≡ (state_of (state_at d routes dispatch k) t).granted
    pub released : (r : Release) → In r (releases_of_train d routes dispatch t) → has_happened s r.event ≡ has_happened (state_of (state_at d routes dispatch k) t) r.event

  abbrev none : TrainHistory
  none = record { grants = []; passes = []; releases = []; holds = []; visits = []; dwells = [] }

  -- who is no train has no history
  no_history : (hs : List TrainHistory) (n : ℕ) → ((n ≡ 0) ⊎ (length hs < n)) → (entry none hs n).holds ≡ []
  no_history hs zero h = refl
  no_history hs (suc i) (inl e) = absurd (omega arith)
  no_history [] (suc i) (inr l) = refl
  no_history (s ∷ hs) (suc zero) (inr l) = absurd (omega arith)
  no_history (s ∷ hs) (suc (suc i)) (inr l) = no_history hs (suc i) (inr (omega arith))

  no_holds : (k : ℕ) (t : TrainNo) → (IsTrain d t → ⊥) → (history_of (history_at d routes dispatch k) t).holds ≡ []
  no_holds k t out = no_history (history_at d routes dispatch k) t.0 (go (below_or_not 0 t.0) (below_or_not (length d.trains) t.0))
    where
      many : length (history_at d routes dispatch k) ≡ length d.trains
      many = length-map (train_history d routes dispatch k) (trains d) ∙ length-trains d

      go : (0 < t.0) ⊎ (t.0 ≤ 0) → (length d.trains < t.0) ⊎ (t.0 ≤ length d.trains) → (t.0 ≡ 0) ⊎ (length (history_at d routes dispatch k) < t.0)
      go (inr none_before) l = inl (omega arith)
      go (inl low) (inl past) = let m = many in inr (omega arith)
      go (inl low) (inr high) = absurd (out (omega arith, high))

  pub train_told : (k : ℕ) (t : TrainNo) → IsTrain d t → history_of (history_at d routes dispatch k) t ≡ train_history d routes dispatch k t
  train_told k t is = go t.0 is.0 is.1
    where
      go : (n : ℕ) → 1 ≤ n → n ≤ length d.trains → history_of (history_at d routes dispatch k) (record { 0 = n }) ≡ train_history d routes dispatch k (record { 0 = n })
      go zero low high = absurd (omega arith)
      go (suc i) low high =
          ap (λ xs. get_or xs i none) (map-map (train_history d routes dispatch k) (λ n. record { 0 = n }) (one_to (length d.trains)))
          ∙ get_or-counted (λ n. train_history d routes dispatch k (record { 0 = n })) 1 (length d.trains) i none (omega arith)
          ∙ ap (λ n. train_history d routes dispatch k (record { 0 = n })) (let e : 1 + i ≡ suc i = omega arith in e)

  -- where the state of each train does, all do, with the histories of the tick
  pub shows_tick : (k : ℕ) (states : List TrainState) (histories : List TrainHistory) → histories ≡ history_at d routes dispatch k → length states ≡ length d.trains → ((t : TrainNo) → IsTrain d t → ShowsTrain k t (state_of states t)) → ShowTick d routes dispatch k states histories
  shows_tick k states histories told many each = record {
    granted = λ t is. (each t is).granted;
    released = λ c z own. either c z own (below_or_not 0 c.train.0) (below_or_not (length d.trains) c.train.0);
    ended = subst (λ hs. (t : TrainNo) (n : ℕ) → has_ended hs t n ≡ is_hold_over (pasts_at d routes dispatch k) (slice_get (holds_of_train d routes dispatch t) n)) (sym told)
        (ends_shown d routes dispatch k (history_at d routes dispatch k) (λ t is. ap (λ (x : TrainHistory). x.holds) (train_told k t is) ∙ sym (held_is d routes dispatch t k)) (no_holds k));
  }
    where
      nobody : (c : Command) (z : SectionNo) → ((c.train.0 ≡ 0) ⊎ (length d.trains < c.train.0)) → has_happened (state_of states c.train) (release d routes dispatch c z).event ≡ has_released d routes dispatch (pasts_at d routes dispatch k) c z
      nobody c z out =
          ap (λ s. has_happened s (release d routes dispatch c z).event) (no_look states c.train.0 (go out)) ∙ idle_none
          ∙ sym (nothing_comes d routes dispatch k (release d routes dispatch c z) (grants_of_release d routes dispatch c z) (λ is. no_train out (subst (IsTrain d) (train_of_release d routes dispatch c z) is)))
        where
          idle_none : has_happened idle (release d routes dispatch c z).event ≡ false
          idle_none =
              let some = grants_of_release d routes dispatch c z in
              ap (λ b. b && nat_le (release d routes dispatch c z).event.place 0) (not_le (release d routes dispatch c z).event.granted 0 (omega arith))

          go : ((c.train.0 ≡ 0) ⊎ (length d.trains < c.train.0)) → ((c.train.0 ≡ 0) ⊎ (length states < c.train.0))
          go (inl e) = inl e
          go (inr l) = inr (omega arith)

          no_train : ((c.train.0 ≡ 0) ⊎ (length d.trains < c.train.0)) → IsTrain d c.train → ⊥
          no_train (inl e) (low, high) = absurd (omega arith)
          no_train (inr l) (low, high) = absurd (omega arith)

      there : (c : Command) (z : SectionNo) → goes_over (route_at routes c.route) z ≡ true → IsTrain d c.train → In c.route (dispatch.path c.train) ⊎ (before_first (λ q. is_route q c.route) (dispatch.path c.train) ≡ dispatch.path c.train)
          → has_happened (state_of states c.train) (release d routes dispatch c z).event ≡ has_released d routes dispatch (pasts_at d routes dispatch k) c z
      there c z own is (inl on) =
          let z_own = in_own (route_at routes c.route) z own in
          (each c.train is).released (release_for d routes dispatch c z) (in_flat_map (releases_of_route d routes dispatch c.train) (dispatch.path c.train) c.route (release_for d routes dispatch c z) on (in_map (release_for d routes dispatch c) (own_sections (route_at routes c.route)) z z_own))
          ∙ released_shown d routes dispatch k c z own
      there c z own is (inr all) =
          let more = far d routes dispatch c z all in
          let train = ap (λ t. length (dispatch.path t)) (train_of_release d routes dispatch c z) in
          let most = granted_on_path d routes dispatch k c.train in
          let same = (each c.train is).granted in
          ap (λ b. b && nat_le (release d routes dispatch c z).event.place (state_of states c.train).x) (not_le (release d routes dispatch c z).event.granted (state_of states c.train).granted (omega arith))
          ∙ sym (never d routes dispatch k (release d routes dispatch c z) more)

      either : (c : Command) (z : SectionNo) → goes_over (route_at routes c.route) z ≡ true → (0 < c.train.0) ⊎ (c.train.0 ≤ 0) → (length d.trains < c.train.0) ⊎ (c.train.0 ≤ length d.trains) → has_happened (state_of states c.train) (release d routes dispatch c z).event ≡ has_released d routes dispatch (pasts_at d routes dispatch k) c z
      either c z own (inr none_before) h = nobody c z (inl (omega arith))
      either c z own (inl some) (inl past) = nobody c z (inr past)
      either c z own (inl some) (inr last) = there c z own (omega arith, last) (on_path_or_not (dispatch.path c.train) c.route)

  -- the state in which a train was seen
  pub seen_shows : (k : ℕ) (t : TrainNo) (s : TrainState) (since until : ℕ) → IsSeen d routes dispatch k t s since until → ShowsTrain k t s
  seen_shows k t s since until e =
      let p = e.past in
      let a = e.ahead in
      record {
        granted = sym (ap (λ u. u.granted) e.now ∙ drift_granted d routes dispatch t s.granted since (k - since) s refl);
        released = λ r i. sym
            (ap (λ u. has_happened u r.event) e.now
            ∙ event_same s (drift d routes dispatch t since (k - since) s) (drift d routes dispatch t since (until - 1 - since) s).x r.event (drift_granted d routes dispatch t s.granted since (k - since) s refl)
            (drift_within d routes dispatch t s.granted since 0 (k - since) s (omega arith)) (drift_within d routes dispatch t s.granted since (k - since) (until - 1 - since) s (omega arith)) (e.places.releases r i));
      }

  -- ---- the ticks before the next look

  -- n is the next tick at which some train is looked at
  module _ (k n : ℕ) (states : List TrainState) (since until : TrainNo → ℕ) (seen : AreSeen d routes dispatch k states since until) (next : k < n) (first : (t : TrainNo) → IsTrain d t → n ≤ until t) where
    abbrev look : TrainNo → TrainState
    look t = state_of states t

    pub granted_at : (t : TrainNo) → IsTrain d t → (state_of (state_at d routes dispatch k) t).granted ≡ (look t).granted
    granted_at t is = ap (λ s. s.granted) ((seen.each t is).now) ∙ drift_granted d routes dispatch t (look t).granted (since t) (k - since t) (look t) refl

    -- the trains have drifted since, up to tick m
    abbrev Drifted : ℕ → Type 0
    Drifted m = (t : TrainNo) → IsTrain d t → state_of (state_at d routes dispatch m) t ≡ drift d routes dispatch t (since t) (m - since t) (look t)

    -- no event has come since to whose place no train comes
    same_since : (m : ℕ) → m < n → k ≤ m → Drifted m → (t : TrainNo) → IsTrain d t → (e : Event) → IsNotReached (look t).x (drift d routes dispatch t (since t) (until t - 1 - since t) (look t)).x e.place
        → has_happened (state_of (state_at d routes dispatch m) t) e ≡ has_happened (look t) e
    same_since m less more so t is e apart =
        let seen_at = seen.each t is in
        let p = seen_at.past in
        let f = first t is in
        ap (λ s. has_happened s e) (so t is)
        ∙ event_same (look t) (drift d routes dispatch t (since t) (m - since t) (look t)) (drift d routes dispatch t (since t) (until t - 1 - since t) (look t)).x e (drift_granted d routes dispatch t (look t).granted (since t) (m - since t) (look t) refl)
        (drift_within d routes dispatch t (look t).granted (since t) 0 (m - since t) (look t) (omega arith)) (drift_within d routes dispatch t (look t).granted (since t) (m - since t) (until t - 1 - since t) (look t) (omega arith)) apart

    -- no hold has ended since
    held_since : (m : ℕ) → m < n → k ≤ m → Drifted m → (t : TrainNo) → IsTrain d t → (h : Hold) → In h (holds_of_train d routes dispatch t) → has_come (pasts_at d routes dispatch m) h.event ≡ has_come (pasts_at d routes dispatch (since t)) h.event
    held_since m less more so t is h i =
        let e = seen.each t is in
        let p = e.past in
        let f = first t is in
        hold_same d routes dispatch t h i (since t) m (until t - 1) (omega arith) (omega arith) e.holds
        (same_since m less more so t is h.event.event (e.places.holds h i) ∙ ap (λ s. has_happened s h.event.event) e.then)

    -- so what is released is as at tick k
    released_since : (m : ℕ) → m < n → k ≤ m → Drifted k → Drifted m → SameReleases d routes dispatch k m
    released_since m less more now so c z own = either (below_or_not 0 c.train.0) (below_or_not (length d.trains) c.train.0)
      where
        nobody : (IsTrain d c.train → ⊥) → has_released d routes dispatch (pasts_at d routes dispatch m) c z ≡ has_released d routes dispatch (pasts_at d routes dispatch k) c z
        nobody out =
            let some = grants_of_release d routes dispatch c z in
            let out_too : IsTrain d (release d routes dispatch c z).train → ⊥ = λ is. out (subst (IsTrain d) (train_of_release d routes dispatch c z) is) in
            nothing_comes d routes dispatch m (release d routes dispatch c z) some out_too ∙ sym (nothing_comes d routes dispatch k (release d routes dispatch c z) some out_too)

        somebody : IsTrain d c.train → has_released d routes dispatch (pasts_at d routes dispatch m) c z ≡ has_released d routes dispatch (pasts_at d routes dispatch k) c z
        somebody is =
            released_by_path d routes dispatch k m c z own
            (λ r i. same_since m less more so c.train is r.event ((seen.each c.train is).places.releases r i) ∙ sym (same_since k next (le_refl k) now c.train is r.event ((seen.each c.train is).places.releases r i)))
            (λ h i. held_since m less more so c.train is h i ∙ sym (held_since k next (le_refl k) now c.train is h i))

        either : (0 < c.train.0) ⊎ (c.train.0 ≤ 0) → (length d.trains < c.train.0) ⊎ (c.train.0 ≤ length d.trains) → has_released d routes dispatch (pasts_at d routes dispatch m) c z ≡ has_released d routes dispatch (pasts_at d routes dispatch k) c z
        either (inr none_before) l = nobody (λ is. let low = is.0 in absurd (omega arith))
        either (inl low) (inl past) = nobody (λ is. let high = is.1 in absurd (omega arith))
        either (inl low) (inr high) = somebody (omega arith, high)

    here : (t : TrainNo) → IsTrain d t → state_of (state_at d routes dispatch k) t ≡ drift d routes dispatch t (since t) (k - since t) (look t)
    here t is = (seen.each t is).now

    -- and what could be granted is as at tick k
    pub grants_since : (m : ℕ) → m < n → k ≤ m → Drifted m → (t : TrainNo) → IsTrain d t → granted_after d routes dispatch (pasts_at d routes dispatch m) t ≡ granted_after d routes dispatch (pasts_at d routes dispatch k) t
    grants_since m less more so t is =
        granted_after_same d routes dispatch k m t
        (ap (λ s. s.granted) (so t is) ∙ drift_granted d routes dispatch t (look t).granted (since t) (m - since t) (look t) refl ∙ sym (granted_at t is)) (released_since m less more here so)

    -- between the looks the ticks are quiet
    pub quiet_between : 1 ≤ n - 1 - k → IsQuiet d routes dispatch k (n - 1 - k)
    quiet_between some = record { each = one }
      where
        none_granted : (t : TrainNo) → IsTrain d t → IsGrantedNothing d routes dispatch k (until t - 1) t → IsGrantedNothing d routes dispatch k (k + (n - 1 - k)) t
        none_granted t is (inl e) = inl e
        none_granted t is (inr out) = let f = first t is in inr (λ i low high. out i low (omega arith))

        -- the holds that have begun by tick k had begun when the train was looked at
        no_end : (t : TrainNo) → IsTrain d t → EndsNoHold d routes dispatch k (k + (n - 1 - k)) t
        no_end t is h i a found = go (least (happened_by d routes dispatch t h.event.event) (since t)) refl
          where
            e : IsSeen d routes dispatch k t (look t) (since t) (until t)
            e = seen.each t is

            happened : ℕ → Bool
            happened j = happened_by d routes dispatch t h.event.event j

            then_as_now : happened k ≡ happened (since t)
            then_as_now = same_since k next (le_refl k) here t is h.event.event (e.places.holds h i) ∙ ap (λ s. has_happened s h.event.event) e.then

            runs_on : (b c : ℕ) → b ≤ c → own_ticks dispatch b t ≤ own_ticks dispatch c t
            runs_on b c less = let z : b + (c - b) ≡ c = omega arith in subst (λ j. own_ticks dispatch b t ≤ own_ticks dispatch j t) z (clock_on dispatch t b (c - b))

            apart : (b : ℕ) → b ≡ a → IsNotReached (own_ticks dispatch (since t) t) (own_ticks dispatch (until t - 1) t) (own_ticks dispatch b t + h.event.ticks) → IsNotReached (own_ticks dispatch k t) (own_ticks dispatch (k + (n - 1 - k)) t) (own_ticks dispatch a t + h.event.ticks)
            apart b same away =
                let p = e.past in
                let f = first t is in
                subst (λ j. IsNotReached (own_ticks dispatch k t) (own_ticks dispatch (k + (n - 1 - k)) t) (own_ticks dispatch j t + h.event.ticks)) same
                (apart_less (own_ticks dispatch (since t) t) (own_ticks dispatch k t) (own_ticks dispatch (k + (n - 1 - k)) t) (own_ticks dispatch (until t - 1) t) (own_ticks dispatch b t + h.event.ticks) (runs_on (since t) k p) (runs_on (k + (n - 1 - k)) (until t - 1) (omega arith)) away)

            once : (b : ℕ) → least happened (since t) ≡ Some b → b ≡ a
            once b f =
                let p = e.past in
                let z : since t + (k - since t) ≡ k = omega arith in
                let there : least happened k ≡ Some b = subst (λ j. least happened j ≡ Some b) z (least_stays happened (since t) (k - since t) b f) in
                cc

            not_then : least happened (since t) ≡ None → (0 < since t) ⊎ (since t ≤ 0) → IsNotReached (own_ticks dispatch k t) (own_ticks dispatch (k + (n - 1 - k)) t) (own_ticks dispatch a t + h.event.ticks)
            not_then f (inl low) =
                let l = least_gives happened k a found in
                let yes : happened k ≡ true = stays_so d routes dispatch t h.event.event (grants_of_hold d routes dispatch t h i) a k l.last l.passes in
                absurd (none_passes happened (since t) f (since t) low (omega arith) (sym then_as_now ∙ yes))
            not_then f (inr none_before) =
                let u = e.begun (let z : since t ≡ 0 = omega arith in z) in
                let f = first t is in
                absurd (omega arith)

            go : (o : Option ℕ) → least happened (since t) ≡ o → IsNotReached (own_ticks dispatch k t) (own_ticks dispatch (k + (n - 1 - k)) t) (own_ticks dispatch a t + h.event.ticks)
            go (Some b) f = apart b (once b f) (e.holds h i b f)
            go None f = not_then f (below_or_not 0 (since t))

        one : (t : TrainNo) → IsTrain d t → IsQuietFor d routes dispatch k (n - 1 - k) t
        one t is =
            let e = seen.each t is in
            let p = e.past in
            let f = first t is in
            let whole : drift d routes dispatch t k (n - 1 - k) (state_of (state_at d routes dispatch k) t) ≡ drift d routes dispatch t (since t) (n - 1 - since t) (look t) =
            ap (drift d routes dispatch t k (n - 1 - k)) (here t is) ∙ drift_on t (since t) k (k - since t) (n - 1 - k) (n - 1 - since t) (look t) (omega arith) (omega arith) in
            record {
              grants = none_granted t is (seen.grants t is);
              places =
                  subst (λ a. ComesNowhere d routes dispatch t a (drift d routes dispatch t k (n - 1 - k) (state_of (state_at d routes dispatch k) t))) (sym (here t is))
                  (subst (λ y. ComesNowhere d routes dispatch t (drift d routes dispatch t (since t) (k - since t) (look t)) y) (sym whole)
                  (nowhere_within t (look t) (drift d routes dispatch t (since t) (k - since t) (look t)) (drift d routes dispatch t (since t) (n - 1 - since t) (look t)) (drift d routes dispatch t (since t) (until t - 1 - since t) (look t))
                  (drift_within d routes dispatch t (look t).granted (since t) 0 (k - since t) (look t) (omega arith)) (drift_within d routes dispatch t (look t).granted (since t) (n - 1 - since t) (until t - 1 - since t) (look t) (omega arith))
                  (drift_stood_within d routes dispatch t (look t).granted (since t) 0 (k - since t) (look t) (omega arith)) (drift_stood_within d routes dispatch t (look t).granted (since t) (n - 1 - since t) (until t - 1 - since t) (look t) (omega arith)) e.places));
              holds = no_end t is;
            }

    -- the states up to the next look
    pub before_look : (m : ℕ) → k ≤ m → m < n → (t : TrainNo) → IsTrain d t → state_of (state_at d routes dispatch m) t ≡ drift d routes dispatch t (since t) (m - since t) (look t)
    before_look m more less t is = go (m - k) refl
      where
        p : since t ≤ k
        p = (seen.each t is).past

        go : (j : ℕ) → m - k ≡ j → state_of (state_at d routes dispatch m) t ≡ drift d routes dispatch t (since t) (m - since t) (look t)
        go zero e = let same : k ≡ m = omega arith in subst (λ i. state_of (state_at d routes dispatch i) t ≡ drift d routes dispatch t (since t) (i - since t) (look t)) same (here t is)
        go (suc j) e =
            let q = p in
            let some : 1 ≤ n - 1 - k = omega arith in
            let there : k + (m - k) ≡ m = omega arith in
            ap (λ i. state_of (state_at d routes dispatch i) t) (sym there)
            ∙ go_on d routes dispatch k (n - 1 - k) (quiet_between some) (m - k) (omega arith) t is
            ∙ ap (drift d routes dispatch t k (m - k)) (here t is) ∙ drift_on t (since t) k (k - since t) (m - k) (m - since t) (look t) (omega arith) (omega arith)

    -- who is looked at then
    pub looked_at : (t : TrainNo) → IsTrain d t → state_of (state_at d routes dispatch n) t ≡ followed d routes dispatch t (granted_after d routes dispatch (pasts_at d routes dispatch k) t) n (drift d routes dispatch t (since t) (n - 1 - since t) (look t))
    looked_at t is =
        let same : suc (n - 1) ≡ n = omega arith in
        ap (λ m. state_of (state_at d routes dispatch m) t) (sym same)
        ∙ by_rule d routes dispatch (n - 1) t is
        ∙ ap (λ m. followed d routes dispatch t (granted_after d routes dispatch (pasts_at d routes dispatch (n - 1)) t) m (state_of (state_at d routes dispatch (n - 1)) t)) same
        ∙ ap₂ (λ g s. followed d routes dispatch t g n s) (grants_since (n - 1) (omega arith) (omega arith) (before_look (n - 1) (omega arith) (omega arith)) t is) (before_look (n - 1) (omega arith) (omega arith) t is)

    -- who is not looked at then goes on
    pub unlooked : (t : TrainNo) → IsTrain d t → n < until t → state_of (state_at d routes dispatch n) t ≡ drift d routes dispatch t (since t) (n - since t) (look t)
    unlooked t is later =
        let p = (seen.each t is).past in
        let same : suc (n - 1 - since t) ≡ n - since t = omega arith in
        let tick : n ≡ suc (since t + (n - 1 - since t)) = omega arith in
        looked_at t is
        ∙ without d routes dispatch t n (granted_after d routes dispatch (pasts_at d routes dispatch k) t) (look t).granted (drift d routes dispatch t (since t) (n - 1 - since t) (look t)) (nothing (seen.grants t is))
        ∙ ap (λ m. followed d routes dispatch t (look t).granted m (drift d routes dispatch t (since t) (n - 1 - since t) (look t))) tick
        ∙ ap (λ j. drift d routes dispatch t (since t) j (look t)) same
      where
        nothing : IsGrantedNothing d routes dispatch k (until t - 1) t → (granted_after d routes dispatch (pasts_at d routes dispatch k) t ≡ (look t).granted) ⊎ (dispatch.concerns n t ≡ false)
        nothing (inl e) = inl (e ∙ granted_at t is)
        nothing (inr out) = inr (out n next (omega arith))

    unlooked_by : (t : TrainNo) → IsTrain d t → n < until t → (m : ℕ) → k ≤ m → m ≤ n → state_of (state_at d routes dispatch m) t ≡ drift d routes dispatch t (since t) (m - since t) (look t)
    unlooked_by t is later m more within = go (below_or_not m n)
      where
        go : (m < n) ⊎ (n ≤ m) → state_of (state_at d routes dispatch m) t ≡ drift d routes dispatch t (since t) (m - since t) (look t)
        go (inl less) = before_look m more less t is
        go (inr all) = let same : n ≡ m = omega arith in subst (λ i. state_of (state_at d routes dispatch i) t ≡ drift d routes dispatch t (since t) (i - since t) (look t)) same (unlooked t is later)

    begun : (t : TrainNo) → IsTrain d t → n < until t → 1 ≤ k
    begun t is later = let e = seen.each t is in go e.past e.begun
      where
        go : since t ≤ k → (since t ≡ 0 → until t ≡ 1) → 1 ≤ k
        go p b = cases (below_or_not 0 (since t))
          where
            cases : (0 < since t) ⊎ (since t ≤ 0) → 1 ≤ k
            cases (inl some) = omega arith
            cases (inr none) = let u = b (omega arith) in absurd (omega arith)

    -- nothing is added to its history
    pub unlooked_history : (t : TrainNo) → IsTrain d t → n < until t → train_history d routes dispatch n t ≡ train_history d routes dispatch k t
    unlooked_history t is later =
        let there : k + (n - k) ≡ n = omega arith in
        ap (λ m. train_history d routes dispatch m t) (sym there)
        ∙ train_as_tested d routes dispatch t k (n - k) (begun t is later)
        (λ i l. ap (λ s. s.granted) (at i l) ∙ drift_granted d routes dispatch t (look t).granted (since t) (k + i - since t) (look t) refl ∙ sym (granted_at t is))
        (λ p m i l. passed i l p m ∙ sym (passed_now p m))
        (λ r m i l. outs i l r m ∙ sym (outs_now r m))
        (λ h m i l. ends i l h m)
        (λ j i l. stood i l j ∙ sym (stood_now j))
      where
        s : TrainState
        s = look t

        z : ℕ
        z = (drift d routes dispatch t (since t) (until t - 1 - since t) s).x

        seen_at : IsSeen d routes dispatch k t s (since t) (until t)
        seen_at = seen.each t is

        at : (i : ℕ) → i ≤ n - k → state_of (state_at d routes dispatch (k + i)) t ≡ drift d routes dispatch t (since t) (k + i - since t) s
        at i l = unlooked_by t is later (k + i) (omega arith) (omega arith)

        short : (i : ℕ) → i ≤ n - k → k + i - since t ≤ until t - 1 - since t
        short i l = omega arith

        passed : (i : ℕ) → i ≤ n - k → (p : PathNode) → In p (path_nodes_of_train d routes dispatch t) → has_happened (state_of (state_at d routes dispatch (k + i)) t) p.event ≡ has_happened s p.event
        passed i l p m =
            ap (λ u. has_happened u p.event) (at i l)
            ∙ event_same s (drift d routes dispatch t (since t) (k + i - since t) s) z p.event (drift_granted d routes dispatch t s.granted (since t) (k + i - since t) s refl)
            (drift_within d routes dispatch t s.granted (since t) 0 (k + i - since t) s (omega arith)) (drift_within d routes dispatch t s.granted (since t) (k + i - since t) (until t - 1 - since t) s (short i l)) (seen_at.places.nodes p m)

        outs : (i : ℕ) → i ≤ n - k → (r : Release) → In r (releases_of_train d routes dispatch t) → has_happened (state_of (state_at d routes dispatch (k + i)) t) r.event ≡ has_happened s r.event
        outs i l r m =
            ap (λ u. has_happened u r.event) (at i l)
            ∙ event_same s (drift d routes dispatch t (since t) (k + i - since t) s) z r.event (drift_granted d routes dispatch t s.granted (since t) (k + i - since t) s refl)
            (drift_within d routes dispatch t s.granted (since t) 0 (k + i - since t) s (omega arith)) (drift_within d routes dispatch t s.granted (since t) (k + i - since t) (until t - 1 - since t) s (short i l)) (seen_at.places.releases r m)

        ends : (i : ℕ) → i ≤ n - k → (h : Hold) → In h (holds_of_train d routes dispatch t) → has_come (pasts_at d routes dispatch (k + i)) h.event ≡ has_come (pasts_at d routes dispatch k) h.event
        ends i l h m =
            hold_at (k + i) (omega arith) (omega arith) (at i l) h m
            ∙ sym (hold_at k (omega arith) (omega arith) (here t is) h m)
          where
            hold_at : (j : ℕ) → k ≤ j → j ≤ n → state_of (state_at d routes dispatch j) t ≡ drift d routes dispatch t (since t) (j - since t) s → (h : Hold) → In h (holds_of_train d routes dispatch t) → has_come (pasts_at d routes dispatch j) h.event ≡ has_come (pasts_at d routes dispatch (since t)) h.event
            hold_at j more within so h m =
                let p = seen_at.past in
                hold_same d routes dispatch t h m (since t) j (until t - 1) (omega arith) (omega arith) seen_at.holds
                (ap (λ u. has_happened u h.event.event) so
                ∙ event_same s (drift d routes dispatch t (since t) (j - since t) s) z h.event.event (drift_granted d routes dispatch t s.granted (since t) (j - since t) s refl)
                (drift_within d routes dispatch t s.granted (since t) 0 (j - since t) s (omega arith)) (drift_within d routes dispatch t s.granted (since t) (j - since t) (until t - 1 - since t) s (omega arith)) (seen_at.places.holds h m)
                ∙ ap (λ u. has_happened u h.event.event) seen_at.then)

        stood : (i : ℕ) → i ≤ n - k → (j : ℕ) → has_stood d routes dispatch t j (k + i) ≡ nat_le (dwell_up_to d t j) s.stood
        stood i l j =
            ap (λ u. nat_le (dwell_up_to d t j) u.stood) (at i l)
            ∙ apart_same s.stood (drift d routes dispatch t (since t) (k + i - since t) s).stood (drift d routes dispatch t (since t) (until t - 1 - since t) s).stood (dwell_up_to d t j)
            (drift_stood_within d routes dispatch t s.granted (since t) 0 (k + i - since t) s (omega arith)) (drift_stood_within d routes dispatch t s.granted (since t) (k + i - since t) (until t - 1 - since t) s (short i l)) (seen_at.places.stands j)

        zero_more : k + 0 ≡ k
        zero_more = omega arith

        passed_now : (p : PathNode) → In p (path_nodes_of_train d routes dispatch t) → has_happened (state_of (state_at d routes dispatch k) t) p.event ≡ has_happened s p.event
        passed_now p m = ap (λ i. has_happened (state_of (state_at d routes dispatch i) t) p.event) (sym zero_more) ∙ passed 0 (omega arith) p m

        outs_now : (r : Release) → In r (releases_of_train d routes dispatch t) → has_happened (state_of (state_at d routes dispatch k) t) r.event ≡ has_happened s r.event
        outs_now r m = ap (λ i. has_happened (state_of (state_at d routes dispatch i) t) r.event) (sym zero_more) ∙ outs 0 (omega arith) r m

        stood_now : (j : ℕ) → has_stood d routes dispatch t j k ≡ nat_le (dwell_up_to d t j) s.stood
        stood_now j = ap (has_stood d routes dispatch t j) (sym zero_more) ∙ stood 0 (omega arith) j

    -- the history before the look
    pub history_before : (t : TrainNo) → IsTrain d t → train_history d routes dispatch (n - 1) t ≡ train_history d routes dispatch k t
    history_before t is = go (n - 1 - k) refl (below_or_not 0 k)
      where
        go : (j : ℕ) → n - 1 - k ≡ j → (0 < k) ⊎ (k ≤ 0) → train_history d routes dispatch (n - 1) t ≡ train_history d routes dispatch k t
        go zero e h = let same : n - 1 ≡ k = omega arith in ap (λ m. train_history d routes dispatch m t) same
        go (suc j) e (inl low) =
            let some : 1 ≤ n - 1 - k = omega arith in
            let there : k + (n - 1 - k) ≡ n - 1 = omega arith in
            ap (λ m. train_history d routes dispatch m t) (sym there) ∙ train_same d routes dispatch k (n - 1 - k) low (quiet_between some) t is (n - 1 - k) (le_refl (n - 1 - k))
        go (suc j) e (inr none) = let u = first_look (seen.each t is) in let f = first t is in absurd (omega arith)
          where
            first_look : IsSeen d routes dispatch k t (look t) (since t) (until t) → until t ≡ 1
            first_look s = s.begun (let p = s.past in omega arith)

    -- what is known then of who is not looked at
    pub still_seen : (t : TrainNo) → IsTrain d t → n < until t → IsSeen d routes dispatch n t (look t) (since t) (until t)
    still_seen t is later =
        let e = seen.each t is in
        record { past = (let p = e.past in omega arith); then = e.then; ahead = later; begun = e.begun; now = unlooked t is later; places = e.places; holds = e.holds }

  -- what is known of a train that is looked at
  pub newly_seen : (n : ℕ) (t : TrainNo) (s : TrainState) (until : ℕ) → 1 ≤ n → n < until → s ≡ state_of (state_at d routes dispatch n) t → ComesNowhere d routes dispatch t s (drift d routes dispatch t n (until - 1 - n) s) → EndsNoHold d routes dispatch n (until - 1) t → IsSeen d routes dispatch n t s n until
  newly_seen n t s until some ahead is places holds =
      let none : 0 ≡ n - n = omega arith in
      record { past = le_refl n; then = is; ahead = ahead; begun = λ e. absurd (omega arith); now = sym is ∙ ap (λ j. drift d routes dispatch t n j s) none; places = places; holds = holds }

  -- a look may come earlier
  pub seen_earlier : (n : ℕ) (t : TrainNo) (s : TrainState) (since until sooner : ℕ) → 1 ≤ since → n < sooner → sooner ≤ until → IsSeen d routes dispatch n t s since until → IsSeen d routes dispatch n t s since sooner
  seen_earlier n t s since until sooner some ahead earlier e =
      record {
        past = e.past;
        then = e.then;
        ahead = ahead;
        begun = λ z. absurd (omega arith);
        now = e.now;
        places =
            nowhere_within t s s (drift d routes dispatch t since (sooner - 1 - since) s) (drift d routes dispatch t since (until - 1 - since) s) (le_refl s.x) (drift_within d routes dispatch t s.granted since (sooner - 1 - since) (until - 1 - since) s (omega arith))
            (le_refl s.stood) (drift_stood_within d routes dispatch t s.granted since (sooner - 1 - since) (until - 1 - since) s (omega arith)) e.places;
        holds = λ h i a found. apart_less (own_ticks dispatch since t) (own_ticks dispatch since t) (own_ticks dispatch (sooner - 1) t) (own_ticks dispatch (until - 1) t) (own_ticks dispatch a t + h.event.ticks) (le_refl (own_ticks dispatch since t))
            (let z : sooner - 1 + (until - 1 - (sooner - 1)) ≡ until - 1 = omega arith in subst (λ j. own_ticks dispatch (sooner - 1) t ≤ own_ticks dispatch j t) z (clock_on dispatch t (sooner - 1) (until - 1 - (sooner - 1)))) (e.holds h i a found);
      }
