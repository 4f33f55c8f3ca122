-- No head is past the end of the routes that are granted, and a tick grants a train at most one command.
use Rattle.std.proofs.Common.{◌≡◌, ℕ, zero, suc, ◌+◌, ◌-◌, ◌≤◌, ◌<◌, ◌⊎◌, inl, inr, Bool, true, false, List, [], ◌∷◌, ◌++◌, map, take, length, sum_by, flat_map, refl, ap, subst, ◌∙◌, arith, leb-true}
use Rattle.std.proofs.lemmas.List.{map-append}
use Rattle.std.proofs.lemmas.List.Sums.{sum_by-cons}
use Rattle.std.proofs.lemmas.Grind.{flat_map-append}
use Rattle.std.specs.List.{list_any}
use Rattle.rail_base.specs.declared.station.Station.{Station}
use Rattle.rail_base.specs.declared.station.TrainNo.{TrainNo}
use Rattle.rail_base.specs.declared.route.Route.{Route}
use Rattle.rail_base.specs.declared.plan.Command.{Command}
use Rattle.rail_base.specs.declared.state.TrainState.{TrainState}
use Rattle.rail_base.specs.Admitted.{IsAdmitted}
use Rattle.rail_base.specs.Stations.{length_of, IsTrain}
use Rattle.rail_spec.specs.Track.{edge_ends, routes_of}
use Rattle.rail_spec.specs.Plans.{path_routes, length_mm, exits, is_well_formed}
use Rattle.rail_spec.specs.Motion.{may_stop}
use Rattle.rail_spec.specs.Dispatches.{state_of, stretch, stretches, of_plan, granted_after, pasts_at, state_at}
use Rattle.rail_laws.proofs.UnderWay.{IsSound, edge_ends-append, authority_some, next_grants, travels, within_track, further}
use Rattle.rail_laws.proofs.Admits.{sound}
use Rattle.rail_laws.proofs.Running.{run_up_to, granted_at_most}

-- ---- stretches

pub stretches_append : (d : Station) (rs more : List Route) → stretches d (rs ++ more) ≡ stretches d rs ++ further d rs more
stretches_append d rs more =
    ap (λ es. map (stretch d) (edge_ends d 0 es)) (flat_map-append (λ r. r.edges) rs more)
    ∙ ap (map (stretch d)) (edge_ends-append d 0 (flat_map (λ r. r.edges) rs) (flat_map (λ r. r.edges) more))
    ∙ map-append (stretch d) (edge_ends d 0 (flat_map (λ r. r.edges) rs)) (edge_ends d (0 + sum_by (length_of d) (flat_map (λ r. r.edges) rs)) (flat_map (λ r. r.edges) more))

pub sum_prefix : {X : Type 0} (f : X → ℕ) (m n : ℕ) (xs : List X) → m ≤ n → sum_by f (take m xs) ≤ sum_by f (take n xs)
sum_prefix f zero n xs h = omega arith
sum_prefix f (suc m) zero xs h = absurd (omega arith)
sum_prefix f (suc m) (suc n) [] h = omega arith
sum_prefix f (suc m) (suc n) (x ∷ xs) h =
    let a = sum_by-cons f x (take m xs) in
    let b = sum_by-cons f x (take n xs) in
    let k = sum_prefix f m n xs (omega arith) in
    omega arith

module _ (d : Station) (adm : IsAdmitted d) (n : ℕ) (plan : List (List Command)) (formed : is_well_formed d (routes_of d) n plan ≡ true) where
  abbrev routes_of_train : TrainNo → List Route
  routes_of_train t = path_routes (routes_of d) plan t

  abbrev given : TrainNo → ℕ → List Route
  given t g = take g (path_routes (routes_of d) plan t)

  abbrev at : ℕ → TrainNo → TrainState
  at k t = state_of (state_at d (routes_of d) (of_plan (routes_of d) plan) k) t

  is_sound : IsSound d (routes_of d) plan
  is_sound = sound d adm n plan formed

  pub no_way_back : (k l : ℕ) (t : TrainNo) → k ≤ l → ((at k t).granted ≤ (at l t).granted) × ((at k t).x ≤ (at l t).x)
  no_way_back k l t h = let r = run_up_to d (routes_of d) (of_plan (routes_of d) plan) k l t h in (r.granted, r.x)

  -- ---- authority

  -- before its command of this number is granted a train is not past the end of the routes before
  pub not_past : (t : TrainNo) (j k : ℕ) → IsTrain d t → j ≤ length (routes_of_train t) → (at k t).granted < j → (at k t).x ≤ sum_by length_mm (take (j - 1) (routes_of_train t))
  not_past t j k named there short = go (zero_or (at k t).granted)
    where
      zero_or : (n : ℕ) → (n ≡ 0) ⊎ (1 ≤ n)
      zero_or zero = inl refl
      zero_or (suc n) = inr (omega arith)

      on : (b : Bool) → list_any exits (given t (at k t).granted) ≡ b → 1 ≤ (at k t).granted → (at k t).x ≤ sum_by length_mm (take (j - 1) (routes_of_train t))
      on true e some = let all = is_sound.exit_last t (at k t).granted named e in absurd (omega arith)
      on false e some =
          let near = leb-true _ _ (subst (λ end. may_stop end (at k t).x ≡ true) (authority_some (given t (at k t).granted) e) (within_track d (routes_of d) plan is_sound k t some)) in
          let more = sum_prefix length_mm (at k t).granted (j - 1) (routes_of_train t) (omega arith) in
          omega arith

      go : ((at k t).granted ≡ 0) ⊎ (1 ≤ (at k t).granted) → (at k t).x ≤ sum_by length_mm (take (j - 1) (routes_of_train t))
      go (inl none) = let w = (travels d (routes_of d) plan is_sound k t).waits none in let x0 = w.0 in omega arith
      go (inr some) = on (list_any exits (given t (at k t).granted)) refl some

  -- a tick grants a train at most one command
  pub grants_in : (t : TrainNo) (k c : ℕ) → (at (k + c) t).granted ≤ (at k t).granted + c
  grants_in t k zero = let f : k + 0 ≡ k = omega arith in let g = ap (λ i. (at i t).granted) f in omega arith
  grants_in t k (suc c) =
      let f : k + suc c ≡ suc (k + c) = omega arith in
      let g = ap (λ i. (at i t).granted) f in
      let a = grants_in t k c in
      let b = granted_at_most d (routes_of d) (of_plan (routes_of d) plan) (k + c) t in
      let e = at_most_next (k + c) in
      omega arith
    where
      at_most_next : (i : ℕ) → granted_after d (routes_of d) (of_plan (routes_of d) plan) (pasts_at d (routes_of d) (of_plan (routes_of d) plan) i) t ≤ (at i t).granted + 1
      at_most_next i = one (next_grants d (routes_of d) plan (pasts_at d (routes_of d) (of_plan (routes_of d) plan) i) t)
        where
          one : (granted_after d (routes_of d) (of_plan (routes_of d) plan) (pasts_at d (routes_of d) (of_plan (routes_of d) plan) i) t ≡ (at i t).granted) ⊎ (granted_after d (routes_of d) (of_plan (routes_of d) plan) (pasts_at d (routes_of d) (of_plan (routes_of d) plan) i) t ≡ (at i t).granted + 1) → granted_after d (routes_of d) (of_plan (routes_of d) plan) (pasts_at d (routes_of d) (of_plan (routes_of d) plan) i) t ≤ (at i t).granted + 1
          one (inl e) = omega arith
          one (inr e) = omega arith
