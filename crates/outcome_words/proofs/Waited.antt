-- What the lines say of waits is so.
use Rattle.std.proofs.Common.{◌≡◌, ℕ, zero, suc, ◌+◌, ◌-◌, ◌≤◌, ◌<◌, inl, inr, ◌==◌, Bool, true, false, not, ◌&&◌, nat_le, nat_lt, if◌then◌else◌, List, [], ◌∷◌, ◌++◌, find, get_or, length, map, slice_get, sum_by, take, Option, None, Some, is_some, option_and_then, refl, sym, ap, subst, ◌∙◌, arith, leb-true, leb-false, eqb-true, eq-eqb}
use Rattle.std.specs.List.{enumerate_from}
use Rattle.std.proofs.lemmas.List.Sums.{sum_by-append}
use Rattle.rail_base.specs.declared.station.Station.{Station}
use Rattle.rail_base.specs.declared.station.NodeNo.{NodeNo}
use Rattle.rail_base.specs.declared.station.SectionNo.{SectionNo}
use Rattle.rail_base.specs.declared.station.TrainNo.{TrainNo}
use Rattle.rail_base.specs.declared.route.Route.{Route}
use Rattle.rail_base.specs.declared.route.RouteNo.{RouteNo}
use Rattle.rail_base.specs.declared.plan.Command.{Command}
use Rattle.rail_base.specs.declared.history.TrainHistory.{TrainHistory}
use Rattle.rail_base.specs.declared.state.PathNode.{PathNode}
use Rattle.rail_base.specs.declared.state.TrainState.{TrainState}
use Rattle.rail_base.specs.Admitted.{IsAdmitted}
use Rattle.rail_base.specs.Members.{In}
use Rattle.rail_base.specs.Numbering.{entry, least}
use Rattle.rail_base.specs.Routes.{has_section, held_sections, no_route, own_sections, route_at, sections, shared}
use Rattle.rail_base.specs.Stations.{IsTrain}
use Rattle.rail_base.proofs.Lists.{in_append, in_append_left, in_append_right, in_entry, in_filter_back, in_flat_map_back, in_map_back, length-map}
use Rattle.rail_base.proofs.Members.{and_left, and_right, in_filter, list_all_at}
use Rattle.rail_spec.specs.Dispatches.{granted_after, granted_with, has_released, is_ready, of_plan, pasts_at, state_at, state_of}
use Rattle.rail_spec.specs.Feasible.{is_of, names_only}
use Rattle.rail_spec.specs.Histories.{granted, held_on, history_at, released, train_history}
use Rattle.rail_spec.specs.Histories as histories
use Rattle.rail_spec.specs.Plans.{commands, path, precedes, preceding}
use Rattle.rail_spec.specs.Requirements.{granted_by}
use Rattle.rail_spec.specs.Track.{routes_of}
use Rattle.rail_spec.specs.Visits.{pass_tick}
use Rattle.rail_laws.proofs.Deciding.{IsLeast, least_gives}
use Rattle.rail_laws.proofs.Given.{command_in_path}
use Rattle.rail_laws.proofs.Running.{granted_at_most, idle_at_first, ready_cleared, released_up_to}
use Rattle.rail_laws.proofs.Standing.{in_path}
use Rattle.rail_laws.proofs.Verdicts.{found_in, found_passes}
use Rattle.rail_require.specs.Ticks.{history_of, is_before}
use Rattle.rail_require.proofs.Telling.{train_told}
use Rattle.slice_spec.proofs.Holders.{least_found}
use Rattle.slice_spec.proofs.Raising.{least_below}
use Rattle.timing_refuter.specs.Clearings.{is_entry}
use Rattle.timing_refuter.proofs.Releasing.{entry_tells, entry_there, tick_found}
use Rattle.outcome_words.specs.declared.waits.Wait.{Wait}
use Rattle.outcome_words.specs.Laws.{WaitsAreSo, edges_before, no_path_node, nodes_of}
use Rattle.outcome_words.specs.Waits.{arrival, comes_late, edges_given, last_waiting, release_tick, releases_by, releases_for, wait_after, wait_from}
use Rattle.outcome_words.proofs.Held.{finds_some, not_granted, not_ready, one_is_late, reached}
use Rattle.outcome_words.proofs.Nodes.{Sized, edges, edges_named, path_at, sized_told}
use Rattle.outcome_words.proofs.Shown.{Known, known, some_is}

-- ---- lists

-- a member of a numbered list of values by number, with what stands there
record Numbered {X Y : Type 0} (value : ℕ → Y) (a : ℕ) (xs : List X) (n : ℕ × (X × Y)) : Type 0 where
  pub low : a ≤ n.0
  pub here : slice_get xs (n.0 - a) ≡ Some n.1.0
  pub is : n.1.1 ≡ value n.0

numbered_of : {X Y : Type 0} (value : ℕ → Y) (a : ℕ) (xs : List X) (n : ℕ × (X × Y)) → In n (enumerate_from a (map (λ p. (p.1, value p.0)) (enumerate_from a xs))) → Numbered value a xs n
numbered_of value a [] n m = absurd m
numbered_of {X} {Y} value a (x ∷ xs) n (inl e) =
    let number : a ≡ n.0 = ap (λ (p : ℕ × (X × Y)). p.0) e in
    let none : n.0 - a ≡ 0 = omega arith in
    record {
      low = omega arith;
      here = ap (slice_get (x ∷ xs)) none ∙ ap (λ (p : ℕ × (X × Y)). Some p.1.0) e;
      is = sym (ap (λ (p : ℕ × (X × Y)). p.1.1) e) ∙ ap value number;
    }
numbered_of value a (x ∷ xs) n (inr m) =
    let r = numbered_of value (a + 1) xs n m in
    let low = r.low in
    let one : n.0 - a ≡ suc (n.0 - (a + 1)) = omega arith in
    record { low = omega arith; here = ap (slice_get (x ∷ xs)) one ∙ r.here; is = r.is }

-- the sizes of the first n of the named
first_sizes : {X Y : Type 0} (size : X → ℕ) (value : ℕ → Y) (a n : ℕ) (xs : List X) → sum_by (λ (g : X × Y). size g.0) (take n (map (λ p. (p.1, value p.0)) (enumerate_from a xs))) ≡ sum_by size (take n xs)
first_sizes size value a zero xs = refl
first_sizes size value a (suc n) [] = refl
first_sizes {X} {Y} size value a (suc n) (x ∷ xs) =
    sum_by-append (λ (g : X × Y). size g.0) ((x, value a) ∷ []) (take n (map (λ p. (p.1, value p.0)) (enumerate_from (a + 1) xs)))
    ∙ ap (λ m. (0 + size x) + m) (first_sizes size value (a + 1) n xs) ∙ sym (sum_by-append size (x ∷ []) (take n xs))

-- what is told of the entry of a number, where it has a tick
tick_of_entry : {X : Type 0} (name : X → NodeNo) (tick : X → Option ℕ) (none : NodeNo) (other : X) (xs : List X) (k a : ℕ) → (entry {X = NodeNo × Option ℕ} (none, None) (map (λ x. (name x, tick x)) xs) k).1 ≡ Some a → tick (entry other xs k) ≡ Some a
tick_of_entry name tick none other xs zero a h = absurd (cc)
tick_of_entry name tick none other [] (suc k) a h = absurd (cc)
tick_of_entry name tick none other (x ∷ xs) (suc zero) a h = h
tick_of_entry name tick none other (x ∷ xs) (suc (suc k)) a h = tick_of_entry name tick none other xs (suc k) a h

not_false : (b : Bool) → not b ≡ true → b ≡ false
not_false true h = absurd (cc)
not_false false h = refl

got_within : {X : Type 0} (xs : List X) (i : ℕ) (x : X) → slice_get xs i ≡ Some x → i < length xs
got_within [] i x e = absurd (cc)
got_within (y ∷ ys) zero x e = omega arith
got_within (y ∷ ys) (suc i) x e = let l = got_within ys i x e in omega arith

-- ---- waits

-- a wait is the one from the arrival
record Arrived (routes : List Route) (plan : List (List Command)) (history : List TrainHistory) (last : ℕ) (t : TrainNo) (g : RouteNo × Option ℕ) (o : Option ℕ) (w : Wait) : Type 0 where
  pub from : ℕ
  pub at : o ≡ Some from
  pub before : from < last_waiting last g.1
  pub is : w ≡ wait_from routes plan history last t g from

arrived : (routes : List Route) (plan : List (List Command)) (history : List TrainHistory) (last : ℕ) (t : TrainNo) (g : RouteNo × Option ℕ) (o : Option ℕ) (w : Wait) → wait_after routes plan history last t g o ≡ Some w → Arrived routes plan history last t g o w
arrived routes plan history last t g None w e = absurd (cc)
arrived routes plan history last t g (Some from) w e = go (nat_lt from (last_waiting last g.1)) refl e
  where
    go : (b : Bool) → nat_lt from (last_waiting last g.1) ≡ b → (if b then Some (wait_from routes plan history last t g from) else None) ≡ Some w → Arrived routes plan history last t g (Some from) w
    go false l e = absurd (cc)
    go true l e = record { from = from; at = refl; before = leb-true (suc from) _ l; is = sym (some_is _ w e) }

-- ---- releases

-- a release that a command waits for
record IsRelease (routes : List Route) (plan : List (List Command)) (c e : Command) (z : SectionNo) : Type 0 where
  pub given : In e (commands plan)
  pub earlier : precedes routes plan e c ≡ true
  pub shared_by : In z (shared (route_at routes e.route) (route_at routes c.route))

release_is : (routes : List Route) (plan : List (List Command)) (c e : Command) (z : SectionNo) → In (e, z) (releases_for routes plan c) → IsRelease routes plan c e z
release_is routes plan c e z m =
    let f = in_flat_map_back (releases_by routes c) (preceding routes plan c) (e, z) m in
    let p = in_map_back (λ z. (f.0, z)) (shared (route_at routes f.0.route) (route_at routes c.route)) (e, z) f.2 in
    let same : f.0 ≡ e = ap (λ (p : Command × SectionNo). p.0) p.2 in
    let section : p.0 ≡ z = ap (λ (p : Command × SectionNo). p.1) p.2 in
    let k = in_filter_back (λ e. precedes routes plan e c) (commands plan) f.0 f.1 in
    record {
      given = subst (λ e. In e (commands plan)) same k.0;
      earlier = ap (λ e. precedes routes plan e c) (sym same) ∙ k.1;
      shared_by = subst (λ e. In z (shared (route_at routes e.route) (route_at routes c.route))) same (subst (λ z. In z (shared (route_at routes f.0.route) (route_at routes c.route))) section p.1);
    }

module _ (d : Station) (routes : List Route) (plan : List (List Command)) (last : ℕ) where
  -- a command of the plan is one of a train of the design
  train_of_command : names_only d routes plan ≡ true → (e : Command) → In e (commands plan) → IsTrain d e.train
  train_of_command named e m =
      let n = list_all_at (is_of d routes) (commands plan) e named m in
      let trains = and_left (nat_le 1 e.train.0 && nat_le e.train.0 (length d.trains) && nat_le 1 e.route.0) _ n in
      let both = and_left (nat_le 1 e.train.0 && nat_le e.train.0 (length d.trains)) _ trains in
      (leb-true 1 e.train.0 (and_left (nat_le 1 e.train.0) _ both), leb-true e.train.0 (length d.trains) (and_right (nat_le 1 e.train.0) _ both))

  -- and a route of it
  route_of_command : names_only d routes plan ≡ true → (e : Command) → In e (commands plan) → In (route_at routes e.route) routes
  route_of_command named e m =
      let n = list_all_at (is_of d routes) (commands plan) e named m in
      let high = and_right (nat_le 1 e.train.0 && nat_le e.train.0 (length d.trains) && nat_le 1 e.route.0) _ n in
      let low = and_right (nat_le 1 e.train.0 && nat_le e.train.0 (length d.trains)) _ (and_left (nat_le 1 e.train.0 && nat_le e.train.0 (length d.trains) && nat_le 1 e.route.0) _ n) in
      in_entry no_route routes e.route.0 (leb-true 1 e.route.0 low) (leb-true e.route.0 (length routes) high)

  -- the history of the run has the tick of its release
  release_told : names_only d routes plan ≡ true → (c e : Command) (z : SectionNo) → IsRelease routes plan c e z → release_tick (history_at d routes plan last) e z ≡ histories.release_tick d routes plan last e z
  release_told named c e z r =
      let is = train_of_command named e r.given in
      let on_path = command_in_path plan e r.given in
      let one = in_filter_back (has_section (route_at routes c.route)) (sections (route_at routes e.route)) z r.shared_by in
      ap (λ (h : TrainHistory). option_and_then (λ p. p.2) (find (is_entry e.route z) (h.releases ++ h.holds))) (train_told d routes plan last e.train is)
      ∙ tick_found e.route z (histories.release_tick d routes plan last e z) (released d routes plan last e.train ++ held_on d routes plan last e.train)
      (elim (in_append z (own_sections (route_at routes e.route)) (held_sections (route_at routes e.route)) one.0) [
        | inl own ↦ in_append_left _ (released d routes plan last e.train) (held_on d routes plan last e.train) (entry_there d routes plan last own_sections e z on_path own)
        | inr held ↦ in_append_right _ (released d routes plan last e.train) (held_on d routes plan last e.train) (entry_there d routes plan last held_sections e z on_path held)
      ])
      (λ p m er ez. elim (in_append p (released d routes plan last e.train) (held_on d routes plan last e.train) m) [
        | inl i ↦ entry_tells d routes plan last own_sections e z p i er ez
        | inr i ↦ entry_tells d routes plan last held_sections e z p i er ez
      ])

  -- ---- grants

  module _ (t : TrainNo) where
    abbrev run_at : ℕ → List TrainState
    run_at k = state_at d routes (of_plan routes plan) k

    abbrev pasts : ℕ → List (List TrainState)
    pasts k = pasts_at d routes (of_plan routes plan) k

    abbrev many : ℕ → ℕ
    many k = (state_of (run_at k) t).granted

    -- the command that a tick grants was ready
    ready_before : (k i : ℕ) (r : RouteNo) → slice_get (path plan t) i ≡ Some r → many k ≤ i → suc i ≤ many (suc k) → is_ready d routes (of_plan routes plan) (pasts k) (record { train = t; route = r }) ≡ true
    ready_before k i r there low high = go (slice_get (path plan t) (many k)) refl (granted_at_most d routes (of_plan routes plan) k t)
      where
        go : (o : Option RouteNo) → slice_get (path plan t) (many k) ≡ o → many (suc k) ≤ granted_after d routes (of_plan routes plan) (pasts k) t → is_ready d routes (of_plan routes plan) (pasts k) (record { train = t; route = r }) ≡ true
        go None e most = let same : granted_after d routes (of_plan routes plan) (pasts k) t ≡ many k = ap (granted_with d routes (of_plan routes plan) (pasts k) t) e in absurd (omega arith)
        go (Some q) e most = at (is_ready d routes (of_plan routes plan) (pasts k) (record { train = t; route = q })) refl
          where
            same : granted_after d routes (of_plan routes plan) (pasts k) t ≡ (if is_ready d routes (of_plan routes plan) (pasts k) (record { train = t; route = q }) then many k + 1 else many k)
            same = ap (granted_with d routes (of_plan routes plan) (pasts k) t) e

            at : (b : Bool) → is_ready d routes (of_plan routes plan) (pasts k) (record { train = t; route = q }) ≡ b → is_ready d routes (of_plan routes plan) (pasts k) (record { train = t; route = r }) ≡ true
            at false f = let none : granted_after d routes (of_plan routes plan) (pasts k) t ≡ many k = same ∙ ap (λ b. if b then many k + 1 else many k) f in absurd (omega arith)
            at true f =
                let one : granted_after d routes (of_plan routes plan) (pasts k) t ≡ many k + 1 = same ∙ ap (λ b. if b then many k + 1 else many k) f in
                let place : many k ≡ i = omega arith in
                let is : q ≡ r = some_is q r (sym e ∙ ap (slice_get (path plan t)) place ∙ there) in
                subst (λ q. is_ready d routes (of_plan routes plan) (pasts k) (record { train = t; route = q }) ≡ true) is f

    -- so where a command is granted at a tick, what it waits for has been released by the tick before
    ready_at : (g i : ℕ) (r : RouteNo) → slice_get (path plan t) i ≡ Some r → histories.grant_tick d routes plan last t (suc i) ≡ Some g → is_ready d routes (of_plan routes plan) (pasts (g - 1)) (record { train = t; route = r }) ≡ true
    ready_at g i r there e = go g refl
      where
        l : IsLeast (λ k. granted_by d routes plan k t (suc i)) last g
        l = least_gives (λ k. granted_by d routes plan k t (suc i)) last g e

        before : (k : ℕ) → suc k ≡ g → many k ≤ i
        before zero s = let none : many zero ≡ 0 = ap (λ (s : TrainState). s.granted) (idle_at_first d routes (of_plan routes plan) t) in omega arith
        before (suc k) s = at (granted_by d routes plan (suc k) t (suc i)) refl
          where
            at : (b : Bool) → granted_by d routes plan (suc k) t (suc i) ≡ b → many (suc k) ≤ i
            at true f = let m = least_below (λ k. granted_by d routes plan k t (suc i)) last g (suc k) e (omega arith) f in absurd (omega arith)
            at false f = let m = leb-false (suc i) (many (suc k)) f in omega arith

        go : (n : ℕ) → n ≡ g → is_ready d routes (of_plan routes plan) (pasts (g - 1)) (record { train = t; route = r }) ≡ true
        go zero s = let first = l.first in absurd (omega arith)
        go (suc k) s =
            let passes : granted_by d routes plan (suc k) t (suc i) ≡ true = subst (λ n. granted_by d routes plan n t (suc i) ≡ true) (sym s) l.passes in
            let less : k ≡ g - 1 = omega arith in
            subst (λ n. is_ready d routes (of_plan routes plan) (pasts n) (record { train = t; route = r }) ≡ true) less (ready_before k i r there (before k s) (leb-true (suc i) (many (suc k)) passes))

  -- a release that has come by a tick, and not before it, comes in it
  comes_in : (k : ℕ) (e : Command) (z : SectionNo) → 1 ≤ k → k ≤ last → has_released d routes (of_plan routes plan) (pasts_at d routes (of_plan routes plan) k) e z ≡ true
      → is_before k (histories.release_tick d routes plan last e z) ≡ false → histories.release_tick d routes plan last e z ≡ Some k
  comes_in k e z low high has late = go (least_found test last (omega arith) (released_up_to d routes (of_plan routes plan) k last e z high has))
    where
      test : ℕ → Bool
      test i = has_released d routes (of_plan routes plan) (pasts_at d routes (of_plan routes plan) i) e z

      go : (a : ℕ) × (least test last ≡ Some a) → least test last ≡ Some k
      go (a, f) =
          let soon = least_below test last a k f low has in
          let not_before = leb-false (suc a) k (ap (is_before k) (sym f) ∙ late) in
          let same : a ≡ k = omega arith in
          f ∙ ap (λ n. Some n) same

-- the ticks of a command's number are those of the run
module _ (d : Station) (routes : List Route) (plan : List (List Command)) (last : ℕ) (t : TrainNo) where
  -- the tick of an arrival is that at which the last node before is passed
  passed_told : (j a : ℕ) → (j ≡ 1 → ⊥) → arrival routes (train_history d routes plan last t) j ≡ Some a
      → pass_tick d routes (of_plan routes plan) last t (entry no_path_node (nodes_of d routes plan t) (edges_before d routes plan t j + 1)) ≡ Some a
  passed_told j a more e = go (j == 1) refl e
    where
      nodes : ℕ → Option ℕ
      nodes n = (entry {X = NodeNo × Option ℕ} (record { 0 = 0 }, None) (train_history d routes plan last t).passes (n + 1)).1

      given : edges_given routes (take (j - 1) (train_history d routes plan last t).grants) ≡ edges_before d routes plan t j
      given = first_sizes (λ r. length (route_at routes r).edges) (histories.grant_tick d routes plan last t) 1 (j - 1) (path plan t)

      go : (b : Bool) → (j == 1) ≡ b → (if b then Some 0 else nodes (edges_given routes (take (j - 1) (train_history d routes plan last t).grants))) ≡ Some a
          → pass_tick d routes (of_plan routes plan) last t (entry no_path_node (nodes_of d routes plan t) (edges_before d routes plan t j + 1)) ≡ Some a
      go true h e = absurd (more (eqb-true j 1 h))
      go false h e = tick_of_entry (λ (p : PathNode). p.node) (pass_tick d routes (of_plan routes plan) last t) (record { 0 = 0 }) no_path_node (nodes_of d routes plan t) (edges_before d routes plan t j + 1) a (ap nodes (sym given) ∙ e)

  -- the last node before the route of a place of the path is reached by the command before
  node_before : IsAdmitted d → names_only d routes plan ≡ true → routes ≡ routes_of d → (n : ℕ) → n < length (path plan t)
      → (entry no_path_node (nodes_of d routes plan t) (edges_before d routes plan t (suc (suc n)) + 1)).event.granted ≡ n + 1
  node_before good named own n h =
      let rs = map (route_at routes) (path plan t) in
      let many : length rs ≡ length (path plan t) = length-map (route_at routes) (path plan t) in
      let one : edges_before d routes plan t (suc (suc n)) + 1 ≡ suc (edges_before d routes plan t (suc (suc n))) = omega arith in
      let less : suc (suc n) - 1 ≡ suc n = omega arith in
      let same : edges_before d routes plan t (suc (suc n)) ≡ sum_by edges (take (suc n) rs) =
      ap (λ k. sum_by (λ r. edges (route_at routes r)) (take k (path plan t))) less ∙ edges_named routes (path plan t) (suc n) in
      ap (λ k. (entry no_path_node (nodes_of d routes plan t) k).event.granted) one
      ∙ ap (λ k. (get_or (nodes_of d routes plan t) k no_path_node).event.granted) same
      ∙ path_at rs n no_path_node sized (omega arith)
    where
      sized : (q : Route) → In q (map (route_at routes) (path plan t)) → Sized q
      sized q m =
          let f = in_map_back (route_at routes) (path plan t) q m in
          let there = route_of_command d routes plan last named (record { train = t; route = f.0 }) (in_path t plan f.0 f.1) in
          subst Sized f.2 (sized_told d good (route_at routes f.0) (subst (In (route_at routes f.0)) own there))

first_arrival : (routes : List Route) (h : TrainHistory) (j a : ℕ) → j ≡ 1 → arrival routes h j ≡ Some a → a ≡ 0
first_arrival routes h j a e at = sym (some_is 0 a (sym (ap (λ b. if b then Some 0 else (entry {X = NodeNo × Option ℕ} (record { 0 = 0 }, None) h.passes (edges_given routes (take (j - 1) h.grants) + 1)).1) (eq-eqb j 1 e)) ∙ at))

pub waits_so : WaitsAreSo
waits_so d routes plan good named n history last s t is c m w waits =
    record {
      route = number.here;
      start = ap (λ (w : Wait). w.start) a.is;
      first = λ one. from ∙ first_arrival routes (history_of history t) c.0 a.from one a.at;
      later = λ more. passed_told d routes plan last t c.0 w.from more (ap (λ h. arrival routes h c.0) (sym told) ∙ a.at ∙ ap (λ n. Some n) (sym from));
      until = until;
      granted = ap (λ (w : Wait). w.granted) a.is ∙ ap is_some number.is;
      precedes = λ e z h. (release e z h).earlier;
      shares = λ e z h. (release e z h).shared_by;
      late = λ e z h. late e z h;
      some = some_release;
      in_time = λ e z h g. in_time e z h (histories.grant_tick d routes plan last t c.0) refl (sym (ap (λ (w : Wait). w.granted) a.is ∙ ap is_some number.is) ∙ g);
    }
  where
    k : Known d routes plan good history last
    k = known d routes plan good n history last s

    told : history_of history t ≡ train_history d routes plan last t
    told = ap (λ h. history_of h t) k.happened ∙ train_told d routes plan last t is

    number : Numbered (histories.grant_tick d routes plan last t) 1 (path plan t) c
    number = numbered_of (histories.grant_tick d routes plan last t) 1 (path plan t) c (subst (λ (h : TrainHistory). In c (enumerate_from 1 h.grants)) told m)

    a : Arrived routes plan history last t c.1 (arrival routes (history_of history t) c.0) w
    a = arrived routes plan history last t c.1 (arrival routes (history_of history t) c.0) w waits

    command : Command
    command = record { train = t; route = c.1.0 }

    from : w.from ≡ a.from
    from = ap (λ (w : Wait). w.from) a.is

    until : w.until ≡ last_waiting last (histories.grant_tick d routes plan last t c.0)
    until = ap (λ (w : Wait). w.until) a.is ∙ ap (last_waiting last) number.is

    found : (e : Command) (z : SectionNo) → w.release ≡ Some (e, z) → find (comes_late history w.until) (releases_for routes plan command) ≡ Some (e, z)
    found e z h = ap (λ n. find (comes_late history n) (releases_for routes plan command)) (ap (λ (w : Wait). w.until) a.is) ∙ sym (ap (λ (w : Wait). w.release) a.is) ∙ h

    release : (e : Command) (z : SectionNo) → w.release ≡ Some (e, z) → IsRelease routes plan command e z
    release e z h = release_is routes plan command e z (found_in (comes_late history w.until) (releases_for routes plan command) (e, z) (found e z h))

    tick_told : (e : Command) (z : SectionNo) → w.release ≡ Some (e, z) → release_tick history e z ≡ histories.release_tick d routes plan last e z
    tick_told e z h = ap (λ hs. release_tick hs e z) k.happened ∙ release_told d routes plan last named command e z (release e z h)

    late : (e : Command) (z : SectionNo) → w.release ≡ Some (e, z) → is_before w.until (histories.release_tick d routes plan last e z) ≡ false
    late e z h = ap (is_before w.until) (sym (tick_told e z h)) ∙ not_false _ (found_passes (comes_late history w.until) (releases_for routes plan command) (e, z) (found e z h))

    in_time : (e : Command) (z : SectionNo) → w.release ≡ Some (e, z) → (o : Option ℕ) → histories.grant_tick d routes plan last t c.0 ≡ o → is_some o ≡ true → histories.release_tick d routes plan last e z ≡ Some w.until
    in_time e z h None is_none g = absurd (cc)
    in_time e z h (Some granted) is_granted g =
        let r = release e z h in
        let least = least_gives (λ k. granted_by d routes plan k t c.0) last granted is_granted in
        let in_run = least.last in
        let tick : w.until ≡ granted - 1 = until ∙ ap (last_waiting last) is_granted in
        let same_until = ap (λ (w : Wait). w.until) a.is in
        let before = a.before in
        let low : c.0 ≡ suc (c.0 - 1) = let l = number.low in omega arith in
        let ready = ready_at d routes plan last t granted (c.0 - 1) c.1.0 number.here (ap (histories.grant_tick d routes plan last t) (sym low) ∙ is_granted) in
        let cleared = ready_cleared d routes (of_plan routes plan) (granted - 1) command ready in
        let has = cleared.each e z (in_filter (λ e. precedes routes plan e command) (commands plan) e r.given r.earlier) r.shared_by in
        comes_in d routes plan last w.until e z (omega arith) (omega arith) (subst (λ n. has_released d routes (of_plan routes plan) (pasts_at d routes (of_plan routes plan) n) e z ≡ true) (sym tick) has) (late e z h)

    -- up to the last tick
    within : (o : Option ℕ) → histories.grant_tick d routes plan last t c.0 ≡ o → last_waiting last o ≤ last
    within None e = omega arith
    within (Some g) e = let l = (least_gives (λ k. granted_by d routes plan k t c.0) last g e).last in omega arith

    -- the commands before are granted when the train is there
    so_many : routes ≡ routes_of d → (i : ℕ) → c.0 ≡ suc i → (n : ℕ) → w.from ≤ n → i ≤ (state_of (state_at d routes (of_plan routes plan) n) t).granted
    so_many own zero e n h = omega arith
    so_many own (suc i) e n h =
        let place : i < length (path plan t) = let l = got_within (path plan t) (c.0 - 1) c.1.0 number.here in omega arith in
        let pass = passed_told d routes plan last t c.0 w.from (λ one. let no : suc (suc i) ≡ 1 = sym e ∙ one in absurd (omega arith)) (ap (λ h. arrival routes h c.0) (sym told) ∙ a.at ∙ ap (λ n. Some n) (sym from)) in
        let there = reached d routes plan last t (entry no_path_node (nodes_of d routes plan t) (edges_before d routes plan t c.0 + 1)) w.from n pass h in
        let command = ap (λ j. (entry no_path_node (nodes_of d routes plan t) (edges_before d routes plan t j + 1)).event.granted) e ∙ node_before d routes plan last t good named own i place in
        omega arith

    some_release : routes ≡ routes_of d → is_some w.release ≡ true
    some_release own =
        let number_low = number.low in
        let i : c.0 ≡ suc (c.0 - 1) = omega arith in
        let before = a.before in
        let same_until : w.until ≡ last_waiting last c.1.1 = ap (λ (w : Wait). w.until) a.is in
        let same_from = from in
        let after : w.until ≡ suc (w.until - 1) = omega arith in
        let far : w.until ≤ last = let l = within (histories.grant_tick d routes plan last t c.0) refl in let u = until in omega arith in
        let low = so_many own (c.0 - 1) i (w.until - 1) (omega arith) in
        let high = not_granted d routes plan last t c.0 w.until (histories.grant_tick d routes plan last t c.0) refl until (omega arith) far in
        let high_after : (state_of (state_at d routes (of_plan routes plan) (suc (w.until - 1))) t).granted ≤ c.0 - 1 = subst (λ n. (state_of (state_at d routes (of_plan routes plan) n) t).granted ≤ c.0 - 1) after (omega arith) in
        let waiting = not_ready d routes plan last t is (w.until - 1) (c.0 - 1) c.1.0 number.here low high_after in
        let one = one_is_late d routes plan last (w.until - 1) command waiting in
        let r = release_is routes plan command one.0 one.1 one.2 in
        let tick : release_tick history one.0 one.1 ≡ histories.release_tick d routes plan last one.0 one.1 =
        ap (λ hs. release_tick hs one.0 one.1) k.happened ∙ release_told d routes plan last named command one.0 one.1 r in
        let late_then : is_before w.until (release_tick history one.0 one.1) ≡ false = ap (is_before w.until) tick ∙ ap (λ n. is_before n (histories.release_tick d routes plan last one.0 one.1)) after ∙ one.3 in
        ap (λ (w : Wait). is_some w.release) a.is
        ∙ ap (λ n. is_some (find (comes_late history n) (releases_for routes plan command))) (sym same_until)
        ∙ finds_some (comes_late history w.until) (releases_for routes plan command) (one.0, one.1) one.2 (ap not late_then)
