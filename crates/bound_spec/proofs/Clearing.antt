-- A command is granted one tick at the earliest after all that it waits for is released.
use Rattle.std.proofs.Common.{◌≡◌, ℕ, suc, ◌+◌, ◌≤◌, ◌<◌, ◌⊎◌, inl, inr, Bool, true, false, if◌then◌else◌, List, length, slice_get, Option, None, Some, refl, ap, subst, ◌∙◌, arith, leb-true, le-leb}
use Rattle.rail_base.specs.declared.station.Station.{Station}
use Rattle.rail_base.specs.declared.route.Route.{Route}
use Rattle.rail_base.specs.declared.route.RouteNo.{RouteNo}
use Rattle.rail_base.specs.declared.plan.Command.{Command}
use Rattle.rail_base.specs.Numbering.{before_first}
use Rattle.rail_spec.specs.Plans.{route_at, is_route}
use Rattle.rail_spec.specs.Dispatches.{Dispatch, state_of, pasts_at, state_at, routes_before, is_granted, is_ready, granted_with}
use Rattle.rail_base.proofs.Members.{below_or_not}
use Rattle.rail_base.proofs.Lists.{length-map}
use Rattle.rail_laws.proofs.Given.{same_route}
use Rattle.rail_laws.proofs.Running.{Cleared, ready_cleared, granted_cleared, granted_at_most, first_is}

module _ (d : Station) (routes : List Route) (p : Dispatch) where
  newly : (k : ℕ) (c : Command) (o : Option RouteNo) → slice_get (p.path c.train) (state_of (state_at d routes p k) c.train).granted ≡ o
      → length (routes_before d routes p c) < granted_with d routes p (pasts_at d routes p k) c.train o
      → (is_granted d routes p (state_at d routes p k) c ≡ true) ⊎ Cleared d routes p k c
  newly k c None e h = inl (le-leb _ _ h)
  newly k c (Some r) e h = ready (is_ready d routes p (pasts_at d routes p k) (record { train = c.train; route = r })) refl h
    where
      ready : (b : Bool) → is_ready d routes p (pasts_at d routes p k) (record { train = c.train; route = r }) ≡ b → length (routes_before d routes p c) < (if b then (state_of (state_at d routes p k) c.train).granted + 1 else (state_of (state_at d routes p k) c.train).granted)
          → (is_granted d routes p (state_at d routes p k) c ≡ true) ⊎ Cleared d routes p k c
      ready false n l = inl (le-leb _ _ l)
      ready true n l = at (below_or_not (length (routes_before d routes p c)) (state_of (state_at d routes p k) c.train).granted)
        where
          at : (length (routes_before d routes p c) < (state_of (state_at d routes p k) c.train).granted) ⊎ ((state_of (state_at d routes p k) c.train).granted ≤ length (routes_before d routes p c)) → (is_granted d routes p (state_at d routes p k) c ≡ true) ⊎ Cleared d routes p k c
          at (inl m) = inl (le-leb _ _ m)
          at (inr m) =
              let place : length (before_first (λ x. is_route x c.route) (p.path c.train)) ≡ (state_of (state_at d routes p k) c.train).granted = omega (arith, length-map (route_at routes) (before_first (λ x. is_route x c.route) (p.path c.train))) in
              let same : r ≡ c.route = same_route r c.route (first_is d routes p c.route (p.path c.train) r (ap (slice_get (p.path c.train)) place ∙ e)) in
              inr (ready_cleared d routes p k c (subst (λ q. is_ready d routes p (pasts_at d routes p k) (record { train = c.train; route = q }) ≡ true) same n))

  pub cleared_before : (k : ℕ) (c : Command) → is_granted d routes p (state_at d routes p (suc k)) c ≡ true → Cleared d routes p k c
  cleared_before k c h = go (newly k c _ refl (let most = granted_at_most d routes p k c.train in let more = leb-true _ _ h in omega arith))
    where
      go : (is_granted d routes p (state_at d routes p k) c ≡ true) ⊎ Cleared d routes p k c → Cleared d routes p k c
      go (inl was) = granted_cleared d routes p k c was
      go (inr now) = now
