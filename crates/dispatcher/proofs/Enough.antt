-- A command is ready exactly where it is free after the steps before its own: each other train has released each of its sections
-- by what stands last on it.
use Rattle.std.proofs.Common.{◌≡◌, ℕ, zero, suc, ◌+◌, ◌≤◌, ◌<◌, ◌⊎◌, inl, inr, Bool, true, false, not, ◌||◌, nat_lt, List, [], ◌∷◌, ◌++◌, length, slice_get, Some, sym, refl, ap, subst, ◌∙◌, arith, leb-true, le-leb, true≢false}
use Rattle.std.specs.List.{list_all}
use Rattle.rail_base.specs.declared.station.Station.{Station}
use Rattle.rail_base.specs.declared.station.SectionNo.{SectionNo}
use Rattle.rail_base.specs.declared.station.TrainNo.{TrainNo}
use Rattle.rail_base.specs.declared.route.Route.{Route}
use Rattle.rail_base.specs.declared.route.RouteNo.{RouteNo}
use Rattle.rail_base.specs.declared.plan.Command.{Command}
use Rattle.rail_base.specs.declared.state.TrainState.{TrainState}
use Rattle.rail_base.specs.Members.{In, Differ}
use Rattle.rail_base.specs.Numbering.{before_first}
use Rattle.rail_base.specs.Routes.{route_at, sections, has_section, shared, share}
use Rattle.rail_base.proofs.Members.{and_left, and_right, and_both, list_all_at, list_any_from, in_filter, is_false, same_bool, or_left, or_right}
use Rattle.rail_base.proofs.Lists.{in_filter_back, length-map, list_all_from}
use Rattle.rail_base.proofs.Sharing.{has_when_in, in_sections}
use Rattle.rail_spec.specs.Plans.{is_train, is_route, commands, path, step_of, contend, precedes, preceding, one_each}
use Rattle.rail_spec.specs.Dispatches.{Dispatch, of_plan, state_of, pasts_at, state_at, release, routes_before, is_granted, has_released, has_cleared, is_ready}
use Rattle.rail_laws.proofs.Given.{same_train, command_in_path}
use Rattle.rail_laws.proofs.Running.{granted_cleared}
use Rattle.rail_course.proofs.Holding.{number_of_release, train_of_release}
use Rattle.rail_course.proofs.Showing.{come_granted}
use Rattle.dispatcher.specs.Queues.{last_on}
use Rattle.dispatcher.specs.Waits.{is_free}
use Rattle.dispatcher.proofs.Steps.{Stand, stand, stand_at, stands_later, step_is}
use Rattle.dispatcher.proofs.Last.{StandLast, Followed, stand_last}

or_second : (a b : Bool) → a ≡ false → (a || b) ≡ true → b ≡ true
or_second true b e h = absurd (true≢false e)
or_second false b e h = h

-- what is taken for granted: no step gives a train two routes, and no train is given one twice
pub record IsOrderly (plan : List (List Command)) : Type 0 where
  pub one : list_all one_each plan ≡ true
  pub once : (t : TrainNo) → Differ (path plan t)

module _ (d : Station) (routes : List Route) (plan : List (List Command)) (orderly : IsOrderly plan) where
  abbrev run : Dispatch
  run = of_plan routes plan

  own_stand : (c : Command) → In c (commands plan) → Stand (path plan c.train) c.route
  own_stand c m = stand (path plan c.train) (orderly.once c.train) c.route (command_in_path plan c m)

  module _ (before : List (List Command)) (step : List Command) (later : List (List Command)) (split : plan ≡ before ++ step ∷ later) (c : Command) (given : In c step)
      (k : ℕ) (next : slice_get (path plan c.train) (state_of (state_at d routes (of_plan routes plan) k) c.train).granted ≡ Some c.route) where
    abbrev now : List TrainState
    now = state_at d routes run k

    abbrev ps : List (List TrainState)
    ps = pasts_at d routes run k

    own_step : step_of plan c ≡ length before + 1
    own_step = ap (λ p. step_of p c) split ∙ step_is before step later c (subst (λ p. Differ (path p c.train)) split (orderly.once c.train)) given

    last : (z : SectionNo) → StandLast routes plan orderly.once z (length before) (last_on routes z [] before)
    last z = stand_last routes plan orderly.once z before (step ∷ later) split

    abbrev own_place : Stand (path plan c.train) c.route
    own_place = stand_at (path plan c.train) (orderly.once c.train) (state_of now c.train).granted c.route next

    in_shared : (r q : Route) (z : SectionNo) → has_section r z ≡ true → has_section q z ≡ true → In z (shared r q)
    in_shared r q z h i = in_filter (has_section q) (sections r) z (in_sections r z h) i

    earlier : (e f : Command) (z : SectionNo) → is_train e.train f.train ≡ false → has_section (route_at routes e.route) z ≡ true → has_section (route_at routes f.route) z ≡ true → step_of plan e < step_of plan f → precedes routes plan e f ≡ true
    earlier e f z apart own other less =
        and_both (contend routes e f) (nat_lt (step_of plan e) (step_of plan f))
        (and_both (not (is_train e.train f.train)) (share (route_at routes e.route) (route_at routes f.route)) (ap not apart) (list_any_from (has_section (route_at routes f.route)) (sections (route_at routes e.route)) z (in_sections (route_at routes e.route) z own) other))
        (le-leb (suc (step_of plan e)) (step_of plan f) less)

    -- what a granted command waited for has released the section
    cleared_by : (e f : Command) (z : SectionNo) → In e (commands plan) → is_train e.train f.train ≡ false → has_section (route_at routes e.route) z ≡ true → has_section (route_at routes f.route) z ≡ true → step_of plan e < step_of plan f
        → is_granted d routes run now f ≡ true → has_released d routes run ps e z ≡ true
    cleared_by e f z m apart own other less granted =
        (granted_cleared d routes run k f granted).each e z (in_filter (λ x. precedes routes plan x f) (commands plan) e m (earlier e f z apart own other less)) (in_shared (route_at routes e.route) (route_at routes f.route) z own other)

    abbrev passes : SectionNo → Command → Bool
    passes z e = is_train e.train c.train || has_released d routes run ps e z

    -- ---- who is ready is free

    free_at : is_ready d routes run ps c ≡ true → (z : SectionNo) → In z (sections (route_at routes c.route)) → (f : Command) → In f (last_on routes z [] before) → passes z f ≡ true
    free_at ready z m f i = go (is_train f.train c.train) refl
      where
        own : has_section (route_at routes c.route) z ≡ true
        own = has_when_in (route_at routes c.route) z m

        go : (b : Bool) → is_train f.train c.train ≡ b → passes z f ≡ true
        go true e = or_left (is_train f.train c.train) (has_released d routes run ps f z) e
        go false e =
            let l = (last z).known f i in
            let up = l.2 in
            let mine = own_step in
            let before_it = in_filter (λ x. precedes routes plan x c) (commands plan) f l.0 (earlier f c z e l.1 own (omega (arith, up, mine))) in
            let clear = list_all_at (has_cleared d routes run ps c) (preceding routes plan c) f ready before_it in
            or_right (is_train f.train c.train) (has_released d routes run ps f z)
            (list_all_at (has_released d routes run ps f) (shared (route_at routes f.route) (route_at routes c.route)) z clear (in_shared (route_at routes f.route) (route_at routes c.route) z l.1 own))

    free_when_ready : is_ready d routes run ps c ≡ true → is_free d routes run before ps c ≡ true
    free_when_ready ready =
        list_all_from (λ z. list_all (passes z) (last_on routes z [] before)) (sections (route_at routes c.route))
        (λ z m. list_all_from (passes z) (last_on routes z [] before) (λ f i. free_at ready z m f i))

    -- ---- who is free is ready

    -- an earlier command of the same train is granted
    granted_on_own : (r : RouteNo) → In (record { train = c.train; route = r }) (commands plan) → step_of plan (record { train = c.train; route = r }) < step_of plan c → is_granted d routes run now (record { train = c.train; route = r }) ≡ true
    granted_on_own r m less =
        let f : Command = record { train = c.train; route = r } in
        let a : Stand (path plan c.train) r = own_stand f m in
        let later_place = stands_later plan c.train orderly.one (orderly.once c.train) r c.route a own_place less in
        let many = length-map (route_at routes) (before_first (λ x. is_route x r) (path plan c.train)) in
        let count = a.count in
        le-leb (suc (length (routes_before d routes run f))) (state_of now c.train).granted (omega (arith, later_place, many, count))

    own_granted : (f : Command) → In f (commands plan) → is_train f.train c.train ≡ true → step_of plan f < step_of plan c → is_granted d routes run now f ≡ true
    own_granted f m same less =
        let eq : f ≡ record { train = c.train; route = f.route } = ap (λ u. record { train = u; route = f.route }) (same_train f.train c.train same) in
        subst (λ x. is_granted d routes run now x ≡ true) (sym eq) (granted_on_own f.route (subst (λ x. In x (commands plan)) eq m) (subst (λ x. step_of plan x < step_of plan c) eq less))

    -- a command that has released a section is granted
    releaser_granted : (f : Command) (z : SectionNo) → has_released d routes run ps f z ≡ true → is_granted d routes run now f ≡ true
    releaser_granted f z h =
        let come = come_granted d routes run k (release d routes run f z) h in
        let number = number_of_release d routes run f z in
        let train = ap (λ t. (state_of now t).granted) (train_of_release d routes run f z) in
        le-leb (suc (length (routes_before d routes run f))) (state_of now f.train).granted (omega arith)

    -- each earlier command of another train has released the section: it stands last there, or what follows it is granted
    released_by : is_free d routes run before ps c ≡ true → (z : SectionNo) → has_section (route_at routes c.route) z ≡ true → (n : ℕ) (e : Command) → In e (commands plan) → is_train e.train c.train ≡ false → has_section (route_at routes e.route) z ≡ true
        → step_of plan e ≤ length before → length before < step_of plan e + n → has_released d routes run ps e z ≡ true
    released_by free z mine zero e m apart own up left = absurd (omega arith)
    released_by free z mine (suc n) e m apart own up left = go ((last z).late e own up) (λ f i differ on within far. released_by free z mine n f i differ on within far)
      where
        all_pass : list_all (passes z) (last_on routes z [] before) ≡ true
        all_pass = list_all_at (λ y. list_all (passes y) (last_on routes y [] before)) (sections (route_at routes c.route)) z free (in_sections (route_at routes c.route) z mine)

        granted : (f : Followed routes plan orderly.once z (length before) e) → ((f : Command) → In f (commands plan) → is_train f.train c.train ≡ false → has_section (route_at routes f.route) z ≡ true → step_of plan f ≤ length before → length before < step_of plan f + n → has_released d routes run ps f z ≡ true) → (b : Bool) → is_train f.by.train c.train ≡ b → is_granted d routes run now f.by ≡ true
        granted f further true same = own_granted f.by f.member same (let up = f.within in let step_of_c = own_step in omega (arith, up, step_of_c))
        granted f further false differ = releaser_granted f.by z (further f.by f.member differ f.on f.within (let l = f.later in omega arith))

        go : In e (last_on routes z [] before) ⊎ Followed routes plan orderly.once z (length before) e → ((f : Command) → In f (commands plan) → is_train f.train c.train ≡ false → has_section (route_at routes f.route) z ≡ true → step_of plan f ≤ length before → length before < step_of plan f + n → has_released d routes run ps f z ≡ true) → has_released d routes run ps e z ≡ true
        go (inl i) further = or_second (is_train e.train c.train) (has_released d routes run ps e z) apart (list_all_at (passes z) (last_on routes z [] before) e all_pass i)
        go (inr f) further = cleared_by e f.by z m f.apart own f.on f.later (granted f further (is_train f.by.train c.train) refl)

    ready_at : is_free d routes run before ps c ≡ true → (e : Command) → In e (preceding routes plan c) → (z : SectionNo) → In z (shared (route_at routes e.route) (route_at routes c.route)) → has_released d routes run ps e z ≡ true
    ready_at free e m z n =
        let there = in_filter_back (λ x. precedes routes plan x c) (commands plan) e m in
        let contends = and_left (contend routes e c) (nat_lt (step_of plan e) (step_of plan c)) there.1 in
        let first = leb-true (suc (step_of plan e)) (step_of plan c) (and_right (contend routes e c) (nat_lt (step_of plan e) (step_of plan c)) there.1) in
        let apart = is_false (is_train e.train c.train) (and_left (not (is_train e.train c.train)) (share (route_at routes e.route) (route_at routes c.route)) contends) in
        let both = in_filter_back (has_section (route_at routes c.route)) (sections (route_at routes e.route)) z n in
        let mine = own_step in
        released_by free z both.1 (suc (length before)) e there.0 apart (has_when_in (route_at routes e.route) z both.0) (omega (arith, first, mine)) (omega arith)

    pub ready_when_free : is_ready d routes run ps c ≡ is_free d routes run before ps c
    ready_when_free = same_bool (is_ready d routes run ps c) (is_free d routes run before ps c) free_when_ready
        (λ free. list_all_from (has_cleared d routes run ps c) (preceding routes plan c)
        (λ e m. list_all_from (has_released d routes run ps e) (shared (route_at routes e.route) (route_at routes c.route)) (λ z n. ready_at free e m z n)))
