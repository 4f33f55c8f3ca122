-- A train that waits waits for a release that has not come.
use Rattle.std.proofs.Common.{◌≡◌, ℕ, suc, ◌+◌, ◌-◌, ◌≤◌, ◌<◌, Bool, true, false, nat_le, if◌then◌else◌, List, find, slice_get, Option, None, Some, is_some, refl, sym, ap, subst, ◌∙◌, arith, leb-true, leb-false, true≢false}
use Rattle.rail_base.specs.declared.station.Station.{Station}
use Rattle.rail_base.specs.declared.station.SectionNo.{SectionNo}
use Rattle.rail_base.specs.declared.station.TrainNo.{TrainNo}
use Rattle.rail_base.specs.declared.route.Route.{Route}
use Rattle.rail_base.specs.declared.route.RouteNo.{RouteNo}
use Rattle.rail_base.specs.declared.plan.Command.{Command}
use Rattle.rail_base.specs.declared.state.PathNode.{PathNode}
use Rattle.rail_base.specs.declared.state.TrainState.{TrainState}
use Rattle.rail_base.specs.Members.{In}
use Rattle.rail_base.specs.Numbering.{least}
use Rattle.rail_base.specs.Routes.{route_at, shared}
use Rattle.rail_base.specs.Stations.{IsTrain}
use Rattle.rail_base.proofs.Lists.{in_flat_map, in_map}
use Rattle.rail_base.proofs.Members.{and_left}
use Rattle.rail_spec.specs.Dispatches.{granted_after, granted_with, has_cleared, has_released, is_ready, of_plan, pasts_at, state_at, state_of}
use Rattle.rail_spec.specs.Histories.{grant_tick}
use Rattle.rail_spec.specs.Histories as histories
use Rattle.rail_spec.specs.Plans.{preceding}
use Rattle.rail_spec.specs.Requirements.{granted_by}
use Rattle.rail_spec.specs.Visits.{pass_tick, happened_by}
use Rattle.rail_laws.proofs.Deciding.{least_gives, least_stays}
use Rattle.rail_laws.proofs.Running.{granted_at_least, released_up_to, run_up_to}
use Rattle.rail_laws.proofs.Sums.{list_all_fails}
use Rattle.rail_laws.proofs.Verdicts.{none_found}
use Rattle.rail_require.specs.Ticks.{is_before}
use Rattle.rail_spec.specs.Plans.{path}
use Rattle.slice_spec.proofs.Holders.{least_found}
use Rattle.slice_spec.proofs.Raising.{least_below}
use Rattle.outcome_words.specs.Waits.{last_waiting, releases_by, releases_for}

module _ (d : Station) (routes : List Route) (plan : List (List Command)) (last : ℕ) (t : TrainNo) where
  abbrev run_at : ℕ → List TrainState
  run_at k = state_at d routes (of_plan routes plan) k

  abbrev pasts : ℕ → List (List TrainState)
  pasts k = pasts_at d routes (of_plan routes plan) k

  abbrev many : ℕ → ℕ
  many k = (state_of (run_at k) t).granted

  -- so many commands are granted once a node of the command is passed
  pub reached : (node : PathNode) (a k : ℕ) → pass_tick d routes (of_plan routes plan) last t node ≡ Some a → a ≤ k → node.event.granted ≤ many k
  reached node a k e h =
      let l = least_gives (happened_by d routes (of_plan routes plan) t node.event) last a e in
      let at = leb-true node.event.granted (many a) (and_left (nat_le node.event.granted (many a)) _ l.passes) in
      let later = (run_up_to d routes (of_plan routes plan) a k t h).granted in
      omega arith

  -- a command is not granted while it is waited for
  pub not_granted : (j until : ℕ) (o : Option ℕ) → grant_tick d routes plan last t j ≡ o → until ≡ last_waiting last o → 1 ≤ until → until ≤ last → many until < j
  not_granted j until o e is low high = at (granted_by d routes plan until t j) refl
    where
      test : ℕ → Bool
      test k = granted_by d routes plan k t j

      up : until + (last - until) ≡ last
      up = omega arith

      never : (o : Option ℕ) → grant_tick d routes plan last t j ≡ o → until ≡ last_waiting last o → test until ≡ true → ⊥
      never None e is h =
          let f = least_found test until low h in
          let stays = subst (λ n. least test n ≡ Some f.0) up (least_stays test until (last - until) f.0 f.1) in
          let bad : None ≡ Some f.0 = sym e ∙ stays in
          cc
      never (Some g) e is h =
          let l = least_gives test last g e in
          let first = l.first in
          let soon = least_below test last g until e low h in
          let before : until ≡ g - 1 = is in
          absurd (omega arith)

      at : (b : Bool) → test until ≡ b → many until < j
      at true h = absurd (never o e is h)
      at false h = leb-false j (many until) h

  -- so it was not ready the tick before
  pub not_ready : IsTrain d t → (k i : ℕ) (r : RouteNo) → slice_get (path plan t) i ≡ Some r → i ≤ many k → many (suc k) ≤ i → is_ready d routes (of_plan routes plan) (pasts k) (record { train = t; route = r }) ≡ false
  not_ready is k i r there low high = at (is_ready d routes (of_plan routes plan) (pasts k) (record { train = t; route = r })) refl
    where
      later : many k ≤ many (suc k)
      later = (run_up_to d routes (of_plan routes plan) k (suc k) t (omega arith)).granted

      at : (b : Bool) → is_ready d routes (of_plan routes plan) (pasts k) (record { train = t; route = r }) ≡ b → is_ready d routes (of_plan routes plan) (pasts k) (record { train = t; route = r }) ≡ false
      at false h = h
      at true h =
          let up = later in
          let place : many k ≡ i = omega arith in
          let next : granted_after d routes (of_plan routes plan) (pasts k) t ≡ many k + 1 =
          ap (granted_with d routes (of_plan routes plan) (pasts k) t) (ap (slice_get (path plan t)) place ∙ there)
          ∙ ap (λ b. if b then many k + 1 else many k) h in
          let least = granted_at_least d routes (of_plan routes plan) k t is.0 is.1 refl in
          absurd (omega arith)

-- and some release had not come
module _ (d : Station) (routes : List Route) (plan : List (List Command)) (last k : ℕ) (c : Command) where
  abbrev now : List (List TrainState)
  now = pasts_at d routes (of_plan routes plan) k

  -- a release that has not come by a tick does not come before the next
  late_at : (e : Command) (z : SectionNo) → has_released d routes (of_plan routes plan) now e z ≡ false → is_before (suc k) (histories.release_tick d routes plan last e z) ≡ false
  late_at e z h = go (histories.release_tick d routes plan last e z) refl
    where
      test : ℕ → Bool
      test i = has_released d routes (of_plan routes plan) (pasts_at d routes (of_plan routes plan) i) e z

      go : (o : Option ℕ) → histories.release_tick d routes plan last e z ≡ o → is_before (suc k) o ≡ false
      go None f = refl
      go (Some b) f = at (nat_le (suc b) (suc k)) refl
        where
          at : (x : Bool) → nat_le (suc b) (suc k) ≡ x → is_before (suc k) (Some b) ≡ false
          at false g = g
          at true g =
              let l = least_gives test last b f in
              let soon = leb-true (suc b) (suc k) g in
              absurd (true≢false (sym (released_up_to d routes (of_plan routes plan) b k e z (omega arith) l.passes) ∙ h))

  pub one_is_late : is_ready d routes (of_plan routes plan) now c ≡ false
      → (e : Command) × (z : SectionNo) × In (e, z) (releases_for routes plan c) × (is_before (suc k) (histories.release_tick d routes plan last e z) ≡ false)
  one_is_late h =
      let e = list_all_fails (has_cleared d routes (of_plan routes plan) now c) (preceding routes plan c) h in
      let z = list_all_fails (has_released d routes (of_plan routes plan) now e.0) (shared (route_at routes e.0.route) (route_at routes c.route)) e.2 in
      (e.0, z.0, in_flat_map (releases_by routes c) (preceding routes plan c) e.0 (e.0, z.0) e.1 (in_map (λ z. (e.0, z)) (shared (route_at routes e.0.route) (route_at routes c.route)) z.0 z.1), late_at e.0 z.0 z.2)

-- what has a member that passes finds one
pub finds_some : {X : Type 0} (test : X → Bool) (xs : List X) (x : X) → In x xs → test x ≡ true → is_some (find test xs) ≡ true
finds_some {X} test xs x m h = go (find test xs) refl
  where
    go : (o : Option X) → find test xs ≡ o → is_some o ≡ true
    go None e = absurd (true≢false (sym h ∙ none_found test xs e x m))
    go (Some y) e = refl
