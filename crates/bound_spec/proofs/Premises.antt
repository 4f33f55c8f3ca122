-- What it says of a plan that the clause of a certificate is false of it.
use Rattle.std.proofs.Common.{◌≡◌, Bool, true, false, not, ◌&&◌, if◌then◌else◌, List, [], ◌∷◌, ◌++◌, map, flat_map, refl, sym, ap, ◌∙◌}
use Rattle.std.specs.List.{list_all}
use Rattle.rail_base.specs.declared.station.Station.{Station}
use Rattle.rail_base.specs.declared.route.Route.{Route}
use Rattle.rail_base.specs.declared.plan.Command.{Command}
use Rattle.rail_spec.specs.Plans.{route_at, contend, has_command, all_commands}
use Rattle.rail_base.proofs.Members.{In, and_left, and_right, and_both, is_false, or_right, list_all_at}
use Rattle.rail_base.proofs.Lists.{list_all_from, in_flat_map_back}
use Rattle.cone_spec.specs.declared.Cone.{Cone}
use Rattle.cone_spec.specs.Cones as cone
use Rattle.cone_spec.specs.Cones.{is_free, has_pair, named}
use Rattle.cone_spec.specs.Clauses.{is_closed, goes_further, Used, Before, Literal, holds_of, is_true_of, is_false_of, clause_of_cone}
use Rattle.cone_spec.specs.Clauses as cone_clause
use Rattle.cone_spec.proofs.Saying.{all_left, all_right, all_of_each, not_not}
use Rattle.bound_spec.specs.declared.Bound.{Bound}
use Rattle.bound_spec.specs.Certificates.{cone_of}
use Rattle.bound_spec.specs.Clauses.{is_named, is_kept_out, is_before, is_kept_behind, used_literals, before_literals, clause_of_bound}

module _ (d : Station) (routes : List Route) (b : Bound) (plan : List (List Command)) where
  abbrev fails : Literal → Bool
  fails l = not (is_true_of plan l)

  pub record Premises : Type 0 where
    pub used : (c : Command) → In c (all_commands d routes) → is_named d routes b c ≡ true → has_command plan c ≡ true
    pub unused : (c : Command) → In c (all_commands d routes) → is_kept_out d routes b c ≡ true → has_command plan c ≡ false
    pub earlier : (e c : Command) → In e (all_commands d routes) → In c (all_commands d routes) → is_before d routes b e c ≡ true → holds_of plan (Before e c) ≡ true
    pub not_earlier : (e c : Command) → In e (all_commands d routes) → In c (all_commands d routes) → is_kept_behind d routes b e c ≡ true → holds_of plan (Before e c) ≡ false

  -- one literal, if it is there, is false of the plan
  one_fails : (x : Bool) (l : Literal) → x ≡ true → list_all fails (if x then l ∷ [] else []) ≡ true → fails l ≡ true
  one_fails x l is h = and_left (fails l) true (sym (ap (λ x. list_all fails (if x then l ∷ [] else [])) is) ∙ h)

  pub premises : is_false_of plan (clause_of_bound d routes b) ≡ true → Premises
  premises h =
      let one = all_left fails (flat_map (used_literals d routes b) (all_commands d routes)) _ h in
      let two = all_right fails (flat_map (used_literals d routes b) (all_commands d routes)) _ h in
      record {
        used = λ c m is. not_not (has_command plan c) (one_fails (is_named d routes b c) _ is (all_left fails _ _ (all_of_each fails (used_literals d routes b) (all_commands d routes) c one m)));
        unused = λ c m is. is_false (has_command plan c) (one_fails (is_kept_out d routes b c) _ is (all_right fails (if is_named d routes b c then record { fact = Used c; negated = true } ∷ [] else []) _ (all_of_each fails (used_literals d routes b) (all_commands d routes) c one m)));
        earlier = λ e c m k is. not_not (holds_of plan (Before e c)) (one_fails (is_before d routes b e c) _ is (all_left fails _ _ (pair e c two m k)));
        not_earlier = λ e c m k is. is_false (holds_of plan (Before e c)) (one_fails (is_kept_behind d routes b e c) _ is (all_right fails (if is_before d routes b e c then record { fact = Before e c; negated = true } ∷ [] else []) _ (pair e c two m k)));
      }
    where
      pair : (e c : Command) → list_all fails (flat_map (λ e. flat_map (before_literals d routes b e) (all_commands d routes)) (all_commands d routes)) ≡ true → In e (all_commands d routes) → In c (all_commands d routes) → list_all fails (before_literals d routes b e c) ≡ true
      pair e c two m k = all_of_each fails (before_literals d routes b e) (all_commands d routes) c (all_of_each fails (λ e. flat_map (before_literals d routes b e) (all_commands d routes)) (all_commands d routes) e two m) k

  -- so the clause of the certificate's cone is false of it too
  module _ (p : Premises) where
    abbrev k : Cone
    k = cone_of b

    all_each : {X Y : Type 0} (test : Y → Bool) (f : X → List Y) (xs : List X) → ((x : X) → In x xs → list_all test (f x) ≡ true) → list_all test (flat_map f xs) ≡ true
    all_each test f xs h = list_all_from test (flat_map f xs) (λ y m. let w = in_flat_map_back f xs y m in list_all_at test (f w.0) y (h w.0 w.1) w.2)

    used_fail : (c : Command) → In c (all_commands d routes) → list_all fails (cone_clause.used_literals d routes k c) ≡ true
    used_fail c m = go (cone.is_named k c) refl (is_closed d routes k c.train && goes_further (map (route_at routes) (named k c.train).path) (route_at routes c.route)) refl
      where
        go : (x : Bool) → cone.is_named k c ≡ x → (y : Bool) → (is_closed d routes k c.train && goes_further (map (route_at routes) (named k c.train).path) (route_at routes c.route)) ≡ y
            → list_all fails (if x then record { fact = Used c; negated = true } ∷ [] else if y then record { fact = Used c; negated = false } ∷ [] else []) ≡ true
        go true ex y ey = and_both _ _ (ap (λ z. not (not z)) (p.used c m (or_right _ (cone.is_named k c) ex))) refl
        go false ex true ey = and_both _ _ (ap not (p.unused c m (or_right _ _ (and_both _ _ (and_both _ _ (ap not ex) (and_left (is_closed d routes k c.train) _ ey)) (and_right (is_closed d routes k c.train) _ ey))))) refl
        go false ex false ey = refl

    before_fail : (e c : Command) → In e (all_commands d routes) → In c (all_commands d routes) → list_all fails (cone_clause.before_literals d routes k e c) ≡ true
    before_fail e c m n = go (has_pair k e c) refl (is_free k c && contend routes e c) refl
      where
        go : (x : Bool) → has_pair k e c ≡ x → (y : Bool) → (is_free k c && contend routes e c) ≡ y
            → list_all fails (if x then record { fact = Before e c; negated = true } ∷ [] else if y then record { fact = Before e c; negated = false } ∷ [] else []) ≡ true
        go true ex y ey = and_both _ _ (ap (λ z. not (not z)) (p.earlier e c m n (or_right _ (has_pair k e c) ex))) refl
        go false ex true ey = and_both _ _ (ap not (p.not_earlier e c m n (or_right _ _ (and_both _ _ (and_both _ _ (ap not ex) (and_left (is_free k c) _ ey)) (and_right (is_free k c) _ ey))))) refl
        go false ex false ey = refl

    all_both : {Y : Type 0} (test : Y → Bool) (xs ys : List Y) → list_all test xs ≡ true → list_all test ys ≡ true → list_all test (xs ++ ys) ≡ true
    all_both test [] ys h k = k
    all_both test (x ∷ xs) ys h k = and_both (test x) _ (and_left (test x) _ h) (all_both test xs ys (and_right (test x) _ h) k)

    pub cone_denied : is_false_of plan (clause_of_cone d routes k) ≡ true
    cone_denied = all_both fails (flat_map (cone_clause.used_literals d routes k) (all_commands d routes)) _ (all_each fails (cone_clause.used_literals d routes k) (all_commands d routes) used_fail)
        (all_each fails (λ e. flat_map (cone_clause.before_literals d routes k e) (all_commands d routes)) (all_commands d routes) (λ e m. all_each fails (cone_clause.before_literals d routes k e) (all_commands d routes) (λ c n. before_fail e c m n)))
