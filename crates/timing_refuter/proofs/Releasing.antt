-- What a history says of releases, and which command clears another last.
use Rattle.std.proofs.Common.{◌≡◌, ℕ, ◌+◌, ◌-◌, ◌≤◌, inl, inr, Bool, true, false, ◌||◌, ◌==◌, if◌then◌else◌, List, [], ◌∷◌, map, flat_map, fold, find, length, get_or, ℤ, Option, None, Some, option_map, option_and_then, refl, sym, ap, ap₂, subst, ◌∙◌, arith, true≢false, eqb-true, eq-eqb}
use Rattle.std.specs.List.{list_any}
use Rattle.rail_base.specs.declared.station.Station.{Station}
use Rattle.rail_base.specs.declared.station.SectionNo.{SectionNo}
use Rattle.rail_base.specs.declared.station.TrainNo.{TrainNo}
use Rattle.rail_base.specs.declared.route.Route.{Route}
use Rattle.rail_base.specs.declared.route.RouteNo.{RouteNo}
use Rattle.rail_base.specs.declared.plan.Command.{Command}
use Rattle.rail_base.specs.declared.history.TrainHistory.{TrainHistory}
use Rattle.rail_base.specs.Numbering.{one_to}
use Rattle.rail_base.specs.Stations.{IsTrain}
use Rattle.rail_base.proofs.Members.{In, and_left, and_right, and_both, list_any_gives, map-map, get_or-counted}
use Rattle.rail_base.proofs.Lists.{in_map, in_map_back, in_flat_map, in_flat_map_back}
use Rattle.rail_base.specs.Routes.{held_sections, own_sections}
use Rattle.rail_spec.specs.Plans.{route_at, shared, path}
use Rattle.rail_spec.specs.Dispatches.{pasts_at, state_at, has_released}
use Rattle.rail_spec.specs.Dispatches.{of_plan}
use Rattle.rail_spec.specs.Histories.{released, released_of, held_on, release_tick, history_at, train_history}
use Rattle.rail_laws.proofs.Verdicts.{none_found, found_in, found_passes}
use Rattle.rail_laws.proofs.Running.{released_up_to}
use Rattle.slice_spec.specs.Holders.{clear_tick, later_of}
use Rattle.timing_refuter.specs.declared.clearing.Clearing.{Clearing}
use Rattle.timing_refuter.specs.Clearings.{is_entry, later_tick, later_clearing, is_after, clearing}
use Rattle.timing_refuter.proofs.Least.{least_all}

-- where there is an entry of a route and a section with this tick, and each such entry has it, it is found
pub tick_found : (r : RouteNo) (z : SectionNo) (tick : Option ℕ) (all : List (RouteNo × SectionNo × Option ℕ)) → In (r, z, tick) all
    → ((p : RouteNo × SectionNo × Option ℕ) → In p all → p.0 ≡ r → p.1 ≡ z → p.2 ≡ tick) → option_and_then (λ p. p.2) (find (is_entry r z) all) ≡ tick
tick_found r z tick all there each = go (find (is_entry r z) all) refl
  where
    go : (o : Option (RouteNo × SectionNo × Option ℕ)) → find (is_entry r z) all ≡ o → option_and_then (λ p. p.2) o ≡ tick
    go None e = absurd (true≢false (sym (and_both _ _ (eq-eqb r.0 r.0 refl) (eq-eqb z.0 z.0 refl)) ∙ none_found (is_entry r z) all e (r, z, tick) there))
    go (Some p) e =
        let passes = found_passes (is_entry r z) all p e in
        let same_route : p.0 ≡ r = ap (λ n. record { 0 = n }) (eqb-true p.0.0 r.0 (and_left (p.0.0 == r.0) _ passes)) in
        let same_section : p.1 ≡ z = ap (λ n. record { 0 = n }) (eqb-true p.1.0 z.0 (and_right (p.0.0 == r.0) _ passes)) in
        each p (found_in (is_entry r z) all p e) same_route same_section

module _ (d : Station) (routes : List Route) (plan : List (List Command)) (k : ℕ) where
  -- the history of a train stands under its number
  pub history_is : (t : TrainNo) (other : TrainHistory) → IsTrain d t → get_or (history_at d routes plan k) (t.0 - 1) other ≡ train_history d routes plan k t
  history_is t other (low, high) =
      let number : ℕ → TrainNo = λ n. record { 0 = n } in
      let same : 1 + (t.0 - 1) ≡ t.0 = omega arith in
      ap (λ hs. get_or hs (t.0 - 1) other) (map-map (train_history d routes plan k) number (one_to (length d.trains)))
      ∙ get_or-counted (λ n. train_history d routes plan k (number n)) 1 (length d.trains) (t.0 - 1) other (omega arith) ∙ ap (λ n. train_history d routes plan k (number n)) same

  -- of a list of sections of each route of the path, with the ticks of their releases, an entry has that of its command
  module _ (of_route : Route → List SectionNo) where
    abbrev entries : TrainNo → RouteNo → List (RouteNo × SectionNo × Option ℕ)
    entries t r = released_of d routes plan k t r (of_route (route_at routes r))

    pub entry_there : (c : Command) (z : SectionNo) → In c.route (path plan c.train) → In z (of_route (route_at routes c.route)) → In (c.route, z, release_tick d routes plan k c z) (flat_map (entries c.train) (path plan c.train))
    entry_there c z m h =
        in_flat_map (entries c.train) (path plan c.train) c.route _ m
        (in_map (λ z. (c.route, z, release_tick d routes plan k (record { train = c.train; route = c.route }) z)) (of_route (route_at routes c.route)) z h)

    pub entry_tells : (c : Command) (z : SectionNo) (p : RouteNo × SectionNo × Option ℕ) → In p (flat_map (entries c.train) (path plan c.train)) → p.0 ≡ c.route → p.1 ≡ z → p.2 ≡ release_tick d routes plan k c z
    entry_tells c z p m er ez =
        let x = in_flat_map_back (entries c.train) (path plan c.train) p m in
        let f = in_map_back (λ z. (x.0, z, release_tick d routes plan k (record { train = c.train; route = x.0 }) z)) (of_route (route_at routes x.0)) p x.2 in
        let of_r : x.0 ≡ c.route = ap (λ (p : RouteNo × SectionNo × Option ℕ). p.0) f.2 ∙ er in
        let of_z : f.0 ≡ z = ap (λ (p : RouteNo × SectionNo × Option ℕ). p.1) f.2 ∙ ez in
        ap (λ (p : RouteNo × SectionNo × Option ℕ). p.2) (sym f.2) ∙ ap₂ (λ r z. release_tick d routes plan k (record { train = c.train; route = r }) z) of_r of_z

    pub entry_found : (c : Command) (z : SectionNo) → In c.route (path plan c.train) → In z (of_route (route_at routes c.route))
        → option_and_then (λ p. p.2) (find (is_entry c.route z) (flat_map (entries c.train) (path plan c.train))) ≡ release_tick d routes plan k c z
    entry_found c z m h = tick_found c.route z (release_tick d routes plan k c z) (flat_map (entries c.train) (path plan c.train)) (entry_there c z m h) (entry_tells c z)

  pub release_found : (c : Command) (z : SectionNo) → In c.route (path plan c.train) → In z (own_sections (route_at routes c.route))
      → option_and_then (λ p. p.2) (find (is_entry c.route z) (released d routes plan k c.train)) ≡ release_tick d routes plan k c z
  release_found c z m h = entry_found own_sections c z m h

  pub hold_found : (c : Command) (z : SectionNo) → In c.route (path plan c.train) → In z (held_sections (route_at routes c.route))
      → option_and_then (λ p. p.2) (find (is_entry c.route z) (held_on d routes plan k c.train)) ≡ release_tick d routes plan k c z
  hold_found c z m h = entry_found held_sections c z m h

  -- a command clears another at the latest of the ticks at which it releases what they share
  pub clear_is : 1 ≤ k → (c e : Command) → fold (λ o z. later_tick o (release_tick d routes plan k e z)) (Some 1) (shared (route_at routes e.route) (route_at routes c.route)) ≡ clear_tick d routes plan k c e
  clear_is low c e = least_all (λ i z. has_released d routes (of_plan routes plan) (pasts_at d routes (of_plan routes plan) i) e z)
      (λ z i j l h. released_up_to d routes (of_plan routes plan) i j e z l h) k low (shared (route_at routes e.route) (route_at routes c.route))

  module _ (c : Command) where
    later_same : (o : Option Command) (e : Command) → later_clearing (option_map (clearing d routes plan k c) o) (clearing d routes plan k c e) ≡ option_map (clearing d routes plan k c) (later_of d routes plan k c o e)
    later_same None e = refl
    later_same (Some f) e = go (is_after (clearing d routes plan k c e) (clearing d routes plan k c f))
      where
        go : (b : Bool) → (if b then Some (clearing d routes plan k c e) else Some (clearing d routes plan k c f)) ≡ option_map (clearing d routes plan k c) (if b then Some e else Some f)
        go true = refl
        go false = refl

    -- so the latest is found with its tick
    pub fold_same : (o : Option Command) (es : List Command) → fold later_clearing (option_map (clearing d routes plan k c) o) (map (clearing d routes plan k c) es) ≡ option_map (clearing d routes plan k c) (fold (later_of d routes plan k c) o es)
    fold_same o [] = refl
    fold_same o (e ∷ es) = ap (λ u. fold later_clearing u (map (clearing d routes plan k c) es)) (later_same o e) ∙ fold_same (later_of d routes plan k c o e) es

    pub command_of : (o : Option Command) → option_map (λ (x : Clearing). x.command) (option_map (clearing d routes plan k c) o) ≡ o
    command_of None = refl
    command_of (Some e) = refl
