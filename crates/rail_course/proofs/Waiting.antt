-- A command may be granted exactly where all its waits are over.
use Rattle.std.proofs.Common.{◌≡◌, ◌⊎◌, inl, inr, ℕ, ◌+◌, Bool, true, false, cond, not, ◌&&◌, ◌||◌, List, [], ◌∷◌, ◌++◌, map, flat_map, filter, refl, sym, ap, ◌∙◌, eq-eqb}
use Rattle.std.specs.List.{list_all, enumerate_from}
use Rattle.std.proofs.lemmas.List.Folds.{list_all-append}
use Rattle.rail_base.specs.declared.station.Station.{Station}
use Rattle.rail_base.specs.declared.station.SectionNo.{SectionNo}
use Rattle.rail_base.specs.declared.station.TrainNo.{TrainNo}
use Rattle.rail_base.specs.declared.route.Route.{Route}
use Rattle.rail_base.specs.declared.plan.Command.{Command}
use Rattle.rail_base.specs.declared.state.TrainState.{TrainState}
use Rattle.rail_base.specs.Members.{In}
use Rattle.rail_base.specs.Routes.{route_at, has_section, own_sections, held_sections}
use Rattle.rail_base.proofs.Members.{filter-append, in_filter}
use Rattle.rail_base.proofs.Lists.{in_append, in_append_left, in_append_right, in_map}
use Rattle.rail_spec.specs.Plans.{commands, is_train, path, routes_given}
use Rattle.rail_spec.specs.Dispatches.{Dispatch, has_released, has_cleared, is_ready}
use Rattle.rail_course.specs.declared.waits.Wait.{Wait}
use Rattle.rail_course.specs.Waits.{is_over, own_waits, hold_waits, wait_for_own, wait_for_held, waits_for, waits_of}

pub list_all-same : {X : Type 0} (p q : X → Bool) (xs : List X) → ((x : X) → In x xs → p x ≡ q x) → list_all p xs ≡ list_all q xs
list_all-same p q [] h = refl
list_all-same p q (x ∷ xs) h = ap (λ b. b && list_all p xs) (h x (inl refl)) ∙ ap (λ b. q x && b) (list_all-same p q xs (λ y m. h y (inr m)))

pub list_all-parts : {X Y : Type 0} (test : Y → Bool) (f : X → List Y) (xs : List X) → list_all test (flat_map f xs) ≡ list_all (λ x. list_all test (f x)) xs
list_all-parts test f [] = refl
list_all-parts test f (x ∷ xs) = list_all-append test (f x) (flat_map f xs) ∙ ap (λ b. list_all test (f x) && b) (list_all-parts test f xs)

-- those that a list keeps pass exactly where each passes that is kept
pub kept_all : {X : Type 0} (test keep : X → Bool) (xs : List X) → list_all (λ x. not (keep x) || test x) xs ≡ list_all test (filter keep xs)
kept_all test keep [] = refl
kept_all {X} test keep (x ∷ xs) = go (keep x) (kept_all test keep xs)
  where
    go : (b : Bool) → list_all (λ y. not (keep y) || test y) xs ≡ list_all test (filter keep xs) → ((not b || test x) && list_all (λ y. not (keep y) || test y) xs) ≡ list_all test (cond b (x ∷ filter keep xs) (filter keep xs))
    go true e = ap (λ b. test x && b) e
    go false e = e

-- so with what is made of them
kept_pass : {X Y : Type 0} (test : Y → Bool) (keep : X → Bool) (of : X → Y) (xs : List X) → list_all test (map of (filter keep xs)) ≡ list_all (λ x. not (keep x) || test (of x)) xs
kept_pass test keep of [] = refl
kept_pass test keep of (x ∷ xs) = go (keep x) (kept_pass test keep of xs)
  where
    go : (b : Bool) → list_all test (map of (filter keep xs)) ≡ list_all (λ y. not (keep y) || test (of y)) xs → list_all test (map of (cond b (x ∷ filter keep xs) (filter keep xs))) ≡ ((not b || test (of x)) && list_all (λ y. not (keep y) || test (of y)) xs)
    go true e = ap (λ b. test (of x) && b) e
    go false e = e

module _ (d : Station) (routes : List Route) (p : Dispatch) (ps : List (List TrainState)) where
  -- those waits that are for sections which a route has
  abbrev pub kept : Route → List (SectionNo × Wait) → Bool
  kept q ws = list_all (λ w. not (has_section q w.0) || is_over ps w.1) ws

  own_over : (e : Command) (q : Route) (zs : List SectionNo) → kept q (map (wait_for_own d routes p e) zs) ≡ list_all (has_released d routes p ps e) (filter (has_section q) zs)
  own_over e q [] = refl
  own_over e q (z ∷ zs) = go (has_section q z) (own_over e q zs)
    where
      go : (b : Bool) → kept q (map (wait_for_own d routes p e) zs) ≡ list_all (has_released d routes p ps e) (filter (has_section q) zs)
          → ((not b || has_released d routes p ps e z) && kept q (map (wait_for_own d routes p e) zs)) ≡ list_all (has_released d routes p ps e) (cond b (z ∷ filter (has_section q) zs) (filter (has_section q) zs))
      go true h = ap (λ b. has_released d routes p ps e z && b) h
      go false h = h

  held_over : (e : Command) (q : Route) (n : ℕ) (zs : List SectionNo) → kept q (map (wait_for_held d routes p e) (enumerate_from n zs)) ≡ list_all (has_released d routes p ps e) (filter (has_section q) zs)
  held_over e q n [] = refl
  held_over e q n (z ∷ zs) = go (has_section q z) (held_over e q (n + 1) zs)
    where
      go : (b : Bool) → kept q (map (wait_for_held d routes p e) (enumerate_from (n + 1) zs)) ≡ list_all (has_released d routes p ps e) (filter (has_section q) zs)
          → ((not b || has_released d routes p ps e z) && kept q (map (wait_for_held d routes p e) (enumerate_from (n + 1) zs))) ≡ list_all (has_released d routes p ps e) (cond b (z ∷ filter (has_section q) zs) (filter (has_section q) zs))
      go true h = ap (λ b. has_released d routes p ps e z && b) h
      go false h = h

  pub both_over : (c e : Command) → (kept (route_at routes c.route) (own_waits d routes p e) && kept (route_at routes c.route) (hold_waits d routes p e)) ≡ has_cleared d routes p ps c e
  both_over c e =
      let q = route_at routes c.route in
      let r = route_at routes e.route in
      ap (λ b. b && kept q (hold_waits d routes p e)) (own_over e q (own_sections r))
      ∙ ap (λ b. list_all (has_released d routes p ps e) (filter (has_section q) (own_sections r)) && b) (held_over e q _ (held_sections r))
      ∙ sym (list_all-append (has_released d routes p ps e) (filter (has_section q) (own_sections r)) (filter (has_section q) (held_sections r)))
      ∙ ap (list_all (has_released d routes p ps e)) (sym (filter-append (has_section q) (own_sections r) (held_sections r)))

  waits_over : (c e : Command) → list_all (is_over ps) (waits_for d routes p c e) ≡ has_cleared d routes p ps c e
  waits_over c e =
      let q = route_at routes c.route in
      kept_pass (is_over ps) (λ w. has_section q w.0) (λ w. w.1) (own_waits d routes p e ++ hold_waits d routes p e)
      ∙ list_all-append (λ w. not (has_section q w.0) || is_over ps w.1) (own_waits d routes p e) (hold_waits d routes p e)
      ∙ both_over c e

  pub ready_when_over : (c : Command) → list_all (is_over ps) (waits_of d routes p c) ≡ is_ready d routes p ps c
  ready_when_over c = list_all-parts (is_over ps) (waits_for d routes p c) (p.before c) ∙ list_all-same (λ e. list_all (is_over ps) (waits_for d routes p c e)) (has_cleared d routes p ps c) (p.before c) (λ e m. waits_over c e)
