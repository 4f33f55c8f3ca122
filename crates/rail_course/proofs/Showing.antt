-- What states and histories show of a tick says what is granted after it.
use Rattle.std.proofs.Common.{◌≡◌, ◌⊎◌, inl, inr, ℕ, zero, suc, ◌+◌, ◌≤◌, ◌<◌, true, false, if◌then◌else◌, nat_le, List, [], ◌∷◌, map, length, slice_get, Option, None, Some, is_some, option_map, option_and_then, refl, sym, ap, subst, ◌∙◌, arith, leb-true}
use Rattle.std.proofs.lemmas.Option.{slice_get-map}
use Rattle.rail_base.specs.declared.history.TrainHistory.{TrainHistory}
use Rattle.rail_base.specs.declared.station.Station.{Station}
use Rattle.rail_base.specs.declared.station.SectionNo.{SectionNo}
use Rattle.rail_base.specs.declared.station.TrainNo.{TrainNo}
use Rattle.rail_base.specs.declared.route.Route.{Route}
use Rattle.rail_base.specs.declared.route.RouteNo.{RouteNo}
use Rattle.rail_base.specs.declared.plan.Command.{Command}
use Rattle.rail_base.specs.declared.state.TrainEvent.{TrainEvent}
use Rattle.rail_base.specs.declared.state.TrainState.{TrainState}
use Rattle.rail_base.specs.Events.{has_happened}
use Rattle.rail_base.specs.Numbering.{entry, least}
use Rattle.rail_base.specs.Routes.{route_at, goes_over, held_sections}
use Rattle.rail_base.specs.Stations.{IsTrain, trains}
use Rattle.rail_base.proofs.Lists.{map-flat_map, flat_map-each, length-map}
use Rattle.rail_base.proofs.Members.{and_left, below_or_not, false_unless, map-map}
use Rattle.rail_spec.specs.Plans.{path}
use Rattle.rail_spec.specs.Dispatches.{Dispatch, idle, ago, past_of, of_plan, state_of, release, release_of_own, has_come, has_released, granted_with, granted_after, pasts_at, state_at}
use Rattle.rail_spec.specs.Histories.{history_at, train_history, released_of}
use Rattle.rail_laws.proofs.Running.{Moves, Idles, after_tick, come_up_to, granted_on_path, happens_on, idle_at_first, state_is_last}
use Rattle.rail_laws.proofs.Standing.{at_in}
use Rattle.rail_require.specs.Ticks.{history_of}
use Rattle.rail_require.proofs.Telling.{some-least, train_told, length-trains}
use Rattle.rail_course.specs.declared.journey.Hold.{Hold}
use Rattle.rail_course.specs.declared.waits.Wait.{Wait}
use Rattle.rail_course.specs.Granting.{granted_on, has_ended, is_seen_over, is_shown}
use Rattle.rail_course.specs.Holds.{hold_for, holds_of_route, holds_of_train, is_hold_over}
use Rattle.rail_course.specs.Ready.{GiveWhatIsReady, ShowTick}
use Rattle.rail_course.specs.Waits.{IsForOwn, IsForHold, IsForNone, IsWait, is_over}
use Rattle.rail_course.proofs.Lasting.{falls_all}
use Rattle.rail_course.proofs.Holding.{train_of_release, train_of_hold, grants_of_hold, release_is_own}
use Rattle.rail_course.proofs.Waiting.{list_all-same}

-- of two lists of one length both have a member at a place, or none has
both_there : {X Y : Type 0} (xs : List X) (ys : List Y) (g : ℕ) → length ys ≡ length xs → (P : Option X → Option Y → Type 0) → P None None → ((x : X) (y : Y) → slice_get xs g ≡ Some x → slice_get ys g ≡ Some y → P (Some x) (Some y)) → P (slice_get xs g) (slice_get ys g)
both_there [] [] zero e P none some = none
both_there [] [] (suc g) e P none some = none
both_there [] (y ∷ ys) g e P none some = absurd (omega arith)
both_there (x ∷ xs) [] g e P none some = absurd (omega arith)
both_there (x ∷ xs) (y ∷ ys) zero e P none some = some x y refl refl
both_there (x ∷ xs) (y ∷ ys) (suc g) e P none some = both_there xs ys g (omega arith) P none some

module _ (d : Station) (routes : List Route) (p : Dispatch) where
  -- what has come to a train is of a command that it has been granted
  pub come_granted : (k : ℕ) (e : TrainEvent) → has_come (pasts_at d routes p k) e ≡ true → e.event.granted ≤ (state_of (state_at d routes p k) e.train).granted
  come_granted k e h =
      let s = ago e.ticks (past_of (pasts_at d routes p k) e.train) in
      let less = (falls_all d routes p e.train k e.ticks).granted in
      let same = ap (λ (u : TrainState). u.granted) (state_is_last d routes p (pasts_at d routes p k) e.train) in
      let l = leb-true e.event.granted s.granted (and_left (nat_le e.event.granted s.granted) (nat_le e.event.place s.x) h) in
      omega arith

  -- ---- what is shown of waits

  module _ (k : ℕ) (s : List TrainState) (histories : List TrainHistory) (shows : ShowTick d routes p k s histories) where
    own_shown : (w : Wait) → IsForOwn d routes p w → is_seen_over s histories w ≡ is_over (pasts_at d routes p k) w
    own_shown w own =
        let e = release d routes p own.command own.section in
        ap (is_shown s histories w.event) own.no_hold
        ∙ subst (λ v. has_happened (state_of s v.train) v.event ≡ has_come (pasts_at d routes p k) v) (sym own.event)
        (ap (λ t. has_happened (state_of s t) e.event) (train_of_release d routes p own.command own.section) ∙ shows.released own.command own.section own.own)

    hold_shown : (w : Wait) → IsForHold d routes p w → is_seen_over s histories w ≡ is_over (pasts_at d routes p k) w
    hold_shown w held =
        ap (is_shown s histories w.event) held.which
        ∙ shows.ended w.event.train held.number ∙ ap (is_hold_over (pasts_at d routes p k)) held.there
        ∙ ap (has_come (pasts_at d routes p k)) (sym held.event)

    none_shown : (w : Wait) → IsForNone d routes p w → is_seen_over s histories w ≡ is_over (pasts_at d routes p k) w
    none_shown w none =
        ap (is_shown s histories w.event) none.which
        ∙ shows.ended w.event.train none.number ∙ ap (is_hold_over (pasts_at d routes p k)) none.none
        ∙ sym (false_unless (is_over (pasts_at d routes p k) w) (λ h. let less = come_granted k w.event h in let most = granted_on_path d routes p k w.event.train in let more = none.never in absurd (omega arith)))

    pub over_shown : (w : Wait) → IsWait d routes p w → is_seen_over s histories w ≡ is_over (pasts_at d routes p k) w
    over_shown w (inl own) = own_shown w own
    over_shown w (inr (inl held)) = hold_shown w held
    over_shown w (inr (inr none)) = none_shown w none

    -- what the waits say is granted
    pub granted_shown : (t : TrainNo) → IsTrain d t → (waits : List (List Wait)) → GiveWhatIsReady d routes p t waits → granted_on s histories (state_of s t).granted (slice_get waits (state_of s t).granted) ≡ granted_after d routes p (pasts_at d routes p k) t
    granted_shown t is waits tell =
        ap (λ n. granted_on s histories n (slice_get waits n)) (shows.granted t is)
        ∙ both_there (p.path t) waits g tell.waits_a_route (λ o u. granted_on s histories g u ≡ granted_with d routes p (pasts_at d routes p k) t o) refl some
      where
        g : ℕ
        g = (state_of (state_at d routes p k) t).granted

        some : (r : RouteNo) (own : List Wait) → slice_get (p.path t) g ≡ Some r → slice_get waits g ≡ Some own → granted_on s histories g (Some own) ≡ granted_with d routes p (pasts_at d routes p k) t (Some r)
        some r own here there =
            let member = (at_in waits g own there).0 in
            ap (λ b. if b then g + 1 else g) (
            list_all-same (is_seen_over s histories) (is_over (pasts_at d routes p k)) own (λ w m. tell.shown own w member m k s histories shows)
            ∙ tell.next k r own here there)

  -- ---- the holds that have ended

  -- who is no train of the design has been through nothing
  pub nobody : (k : ℕ) (t : TrainNo) → (IsTrain d t → ⊥) → past_of (pasts_at d routes p k) t ≡ []
  nobody k t out = go (after_tick d routes p k t)
    where
      go : Moves d routes p k t ⊎ Idles d routes p k t → past_of (pasts_at d routes p k) t ≡ []
      go (inl m) = absurd (out (m.first, m.last))
      go (inr i) = i.old_past

  not_idle : (e : TrainEvent) → 1 ≤ e.event.granted → has_happened idle e.event ≡ true → ⊥
  not_idle e some h = let l = leb-true e.event.granted 0 (and_left (nat_le e.event.granted 0) (nat_le e.event.place 0) h) in absurd (omega arith)

  pub nothing_comes : (k : ℕ) (e : TrainEvent) → 1 ≤ e.event.granted → (IsTrain d e.train → ⊥) → has_come (pasts_at d routes p k) e ≡ false
  nothing_comes k e some out = false_unless (has_come (pasts_at d routes p k) e) (λ h. not_idle e some (subst (λ past. has_happened (ago e.ticks past) e.event ≡ true) (nobody k e.train out) h))

  nothing_yet : (e : TrainEvent) → 1 ≤ e.event.granted → has_come (pasts_at d routes p 0) e ≡ true → ⊥
  nothing_yet e some h =
      let first : ago 0 (past_of (pasts_at d routes p 0) e.train) ≡ idle = sym (state_is_last d routes p (pasts_at d routes p 0) e.train) ∙ idle_at_first d routes p e.train in
      not_idle e some (subst (λ s. has_happened s e.event ≡ true) first (happens_on d routes p (ago e.ticks (past_of (pasts_at d routes p 0) e.train)) (ago 0 (past_of (pasts_at d routes p 0) e.train)) e.event (falls_all d routes p e.train 0 e.ticks) h))

  -- what has come has its tick
  pub come_has_tick : (k : ℕ) (e : TrainEvent) → 1 ≤ e.event.granted → is_some (least (λ i. has_come (pasts_at d routes p i) e) k) ≡ has_come (pasts_at d routes p k) e
  come_has_tick zero e some = sym (false_unless (has_come (pasts_at d routes p 0) e) (nothing_yet e some))
  come_has_tick (suc k) e some = some-least (λ i. has_come (pasts_at d routes p i) e) (suc k) (omega arith) (λ a less h. come_up_to d routes p a (suc k) e less h)

  -- a hold with the tick, up to k, at which it ends
  abbrev pub ended_at : ℕ → Hold → RouteNo × SectionNo × Option ℕ
  ended_at k h = (h.route, h.section, least (λ i. has_come (pasts_at d routes p i) h.event) k)

  pub ends_shown : (k : ℕ) (histories : List TrainHistory) → ((t : TrainNo) → IsTrain d t → (history_of histories t).holds ≡ map (ended_at k) (holds_of_train d routes p t)) → ((t : TrainNo) → (IsTrain d t → ⊥) → (history_of histories t).holds ≡ [])
      → (t : TrainNo) (n : ℕ) → has_ended histories t n ≡ is_hold_over (pasts_at d routes p k) (slice_get (holds_of_train d routes p t) n)
  ends_shown k histories told none t n = go (below_or_not 0 t.0) (below_or_not (length d.trains) t.0)
    where
      tick : RouteNo × SectionNo × Option ℕ → Option ℕ
      tick hold = hold.2

      at : (o : Option Hold) → slice_get (holds_of_train d routes p t) n ≡ o → is_some (option_and_then tick (option_map (ended_at k) o)) ≡ is_hold_over (pasts_at d routes p k) o
      at None there = refl
      at (Some h) there = come_has_tick k h.event (grants_of_hold d routes p t h (at_in (holds_of_train d routes p t) n h there).0)

      here : IsTrain d t → has_ended histories t n ≡ is_hold_over (pasts_at d routes p k) (slice_get (holds_of_train d routes p t) n)
      here is =
          ap (λ holds. is_some (option_and_then tick (slice_get holds n))) (told t is)
          ∙ ap (λ o. is_some (option_and_then tick o)) (slice_get-map (ended_at k) (holds_of_train d routes p t) n)
          ∙ at (slice_get (holds_of_train d routes p t) n) refl

      out_none : (m : ℕ) → is_some (option_and_then tick (slice_get [] m)) ≡ false
      out_none m = refl

      never : (IsTrain d t → ⊥) → (o : Option Hold) → slice_get (holds_of_train d routes p t) n ≡ o → is_hold_over (pasts_at d routes p k) o ≡ false
      never out None there = refl
      never out (Some h) there =
          let member = (at_in (holds_of_train d routes p t) n h there).0 in
          let train = train_of_hold d routes p t h member in
          nothing_comes k h.event (grants_of_hold d routes p t h member) (λ is. out (subst (IsTrain d) train is))

      nowhere : (IsTrain d t → ⊥) → has_ended histories t n ≡ is_hold_over (pasts_at d routes p k) (slice_get (holds_of_train d routes p t) n)
      nowhere out =
          ap (λ holds. is_some (option_and_then tick (slice_get holds n))) (none t out) ∙ out_none n
          ∙ sym (never out (slice_get (holds_of_train d routes p t) n) refl)

      go : (0 < t.0) ⊎ (t.0 ≤ 0) → (length d.trains < t.0) ⊎ (t.0 ≤ length d.trains) → has_ended histories t n ≡ is_hold_over (pasts_at d routes p k) (slice_get (holds_of_train d routes p t) n)
      go (inr none_before) l = nowhere (λ is. let low = is.0 in absurd (omega arith))
      go (inl low) (inl past) = nowhere (λ is. let high = is.1 in absurd (omega arith))
      go (inl low) (inr high) = here (omega arith, high)

  -- the states of the tick show what own sections are released
  pub released_shown : (k : ℕ) (c : Command) (z : SectionNo) → goes_over (route_at routes c.route) z ≡ true → has_happened (state_of (state_at d routes p k) c.train) (release d routes p c z).event ≡ has_released d routes p (pasts_at d routes p k) c z
  released_shown k c z own =
      subst (λ e. has_happened (state_of (state_at d routes p k) c.train) e.event ≡ has_come (pasts_at d routes p k) e) (sym (release_is_own d routes p c z own))
      (ap (λ s. has_happened s (release_of_own d routes p c z).event) (state_is_last d routes p (pasts_at d routes p k) c.train))

-- ---- the run of a plan

module _ (d : Station) (routes : List Route) (plan : List (List Command)) where
  abbrev run : Dispatch
  run = of_plan routes plan

  holds_told : (k : ℕ) (t : TrainNo) → (train_history d routes plan k t).holds ≡ map (ended_at d routes run k) (holds_of_train d routes run t)
  holds_told k t =
      flat_map-each (λ r. released_of d routes plan k t r (held_sections (route_at routes r))) (λ r. map (ended_at d routes run k) (holds_of_route d routes run t r)) (path plan t)
      (λ r. sym (map-map (ended_at d routes run k) (hold_for d routes run (record { train = t; route = r })) (held_sections (route_at routes r))))
      ∙ sym (map-flat_map (ended_at d routes run k) (holds_of_route d routes run t) (path plan t))

  abbrev none : TrainHistory
  none = record { grants = []; passes = []; releases = []; holds = []; visits = []; dwells = [] }

  no_look : (hs : List TrainHistory) (n : ℕ) → ((n ≡ 0) ⊎ (length hs < n)) → (entry none hs n).holds ≡ []
  no_look hs zero h = refl
  no_look hs (suc i) (inl e) = absurd (omega arith)
  no_look [] (suc i) (inr l) = refl
  no_look (s ∷ hs) (suc zero) (inr l) = absurd (omega arith)
  no_look (s ∷ hs) (suc (suc i)) (inr l) = no_look hs (suc i) (inr (omega arith))

  no_holds : (k : ℕ) (t : TrainNo) → (IsTrain d t → ⊥) → (history_of (history_at d routes plan k) t).holds ≡ []
  no_holds k t out = no_look (history_at d routes plan k) t.0 (go (below_or_not 0 t.0) (below_or_not (length d.trains) t.0))
    where
      many : length (history_at d routes plan k) ≡ length d.trains
      many = length-map (train_history d routes plan k) (trains d) ∙ length-trains d

      go : (0 < t.0) ⊎ (t.0 ≤ 0) → (length d.trains < t.0) ⊎ (t.0 ≤ length d.trains) → (t.0 ≡ 0) ⊎ (length (history_at d routes plan k) < t.0)
      go (inr none_before) l = inl (omega arith)
      go (inl low) (inl past) = let m = many in inr (omega arith)
      go (inl low) (inr high) = absurd (out (omega arith, high))

  pub run_shows : (k : ℕ) (s : List TrainState) (histories : List TrainHistory) → s ≡ state_at d routes run k → histories ≡ history_at d routes plan k → ShowTick d routes run k s histories
  run_shows k s histories is told = subst (λ s. ShowTick d routes run k s histories) (sym is) (subst (ShowTick d routes run k (state_at d routes run k)) (sym told) (record {
    granted = λ t h. refl;
    released = released_shown d routes run k;
    ended = ends_shown d routes run k (history_at d routes plan k) (λ t h. ap (λ (x : TrainHistory). x.holds) (train_told d routes plan k t h) ∙ holds_told k t) (no_holds k);
  }))
