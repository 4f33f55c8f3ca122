-- The slice of a plan whose path misses a visit.
use Rattle.std.proofs.Common.{◌≡◌, ℕ, ◌≤◌, ◌⊎◌, inl, inr, Bool, true, false, not, ◌&&◌, ◌||◌, if◌then◌else◌, nat_le, List, [], ◌∷◌, map, flat_map, length, take, None, is_none, refl, sym, ap, subst, ◌∙◌, arith, leb-true, le-leb, eqb-true, eq-eqb, true≢false}
use Rattle.std.specs.List.{list_all}
use Rattle.rail_base.specs.declared.station.Station.{Station}
use Rattle.rail_base.specs.declared.station.TrainNo.{TrainNo}
use Rattle.rail_base.specs.declared.station.NodeNo.{NodeNo}
use Rattle.rail_base.specs.declared.route.Route.{Route}
use Rattle.rail_base.specs.declared.route.RouteNo.{RouteNo}
use Rattle.rail_base.specs.declared.route.Start.{Start}
use Rattle.rail_base.specs.declared.route.Start.TheVariants as start
use Rattle.rail_base.specs.declared.plan.Command.{Command}
use Rattle.rail_base.specs.declared.plan.Violation.TheVariants as violation
use Rattle.cone_spec.specs.declared.ConeTrain.{ConeTrain}
use Rattle.cone_spec.specs.declared.Cone.{Cone}
use Rattle.rail_base.specs.Numbering.{entry}
use Rattle.rail_spec.specs.Plans.{route_at, is_train, is_start, goes_on, starts_in, begins_in, is_path, commands, path, path_routes, is_well_formed, one_each, has_command, all_commands, contend}
use Rattle.rail_base.specs.Members.{all_pairs, all_neighbors}
use Rattle.rail_base.specs.Stations.{first_visit, trains, train_of, horizon}
use Rattle.rail_spec.specs.Feasible.{is_of, names_only, IsWellFormed}
use Rattle.rail_spec.specs.Visits.{visits_of_train}
use Rattle.rail_spec.specs.Dispatches.{of_plan}
use Rattle.rail_spec.specs.Places.{path_nodes, visits_on}
use Rattle.rail_base.proofs.Members.{In, and_left, and_right, and_both, list_all_at}
use Rattle.rail_base.specs.Admission.{is_visit}
use Rattle.cone_spec.specs.Cones.{unnamed, named, has_route, is_named, is_free, all_free}
use Rattle.cone_spec.specs.Validity.{from_boundary, is_walk, train_in_design, in_design, violation_in_design, granted_at, just_granted, holder_fits, shows_violation, is_valid_cone}
use Rattle.cone_spec.specs.Clauses.{goes_further, Used, Before, Literal, is_true_of, used_literals, before_literals, clause_of_cone, is_false_of}
use Rattle.rail_base.specs.Admission.{is_from}
use Rattle.slice_spec.specs.Slices.{path_cone}
use Rattle.cone_spec.proofs.Saying.{has_in, in_has, in_trains}
use Rattle.cone_spec.proofs.Naming.{has_route_in, in_has_route}
use Rattle.slice_spec.proofs.SliceDenied.{all_append, all_flat}
use Rattle.rail_base.proofs.Lists.{list_all_from, length-map}
use Rattle.rail_laws.proofs.Standing.{in_path}
use Rattle.rail_laws.proofs.Given.{command_in_path}
use Rattle.slice_spec.proofs.Valid.{valid_of}
use Rattle.cone_spec.specs.Laws.{Refutes}

module _ (d : Station) (routes : List Route) (n : ℕ) (plan : List (List Command)) (t : TrainNo) (j : ℕ) where
  -- a plan that is well formed, and in which the train has a path that doesn't make the visit
  pub record Misses : Type 0 where
    pub names : names_only d routes plan ≡ true
    pub formed : is_well_formed d routes n plan ≡ true
    pub given : 1 ≤ length (path plan t)
    pub visit : is_visit d t j ≡ true
    pub missed : is_none (entry None (visits_of_train d routes (of_plan routes plan) t) j) ≡ true

  abbrev this : ConeTrain
  this = record { train = t; horizon = 0; free = 0; path = path plan t; holder = None }

  module _ (misses : Misses) where
    train_in : is_from 1 (length d.trains) t.0 ≡ true
    train_in = and_left (is_from 1 (length d.trains) t.0) _ misses.visit

    named_this : named (path_cone plan t j) t ≡ this
    named_this = ap (λ b. if b then this else unnamed t) (eq-eqb t.0 t.0 refl)

    -- ---- valid

    begins_at_boundary : (set : List NodeNo) (rs : List Route) → 1 ≤ length rs → begins_in set rs ≡ true → from_boundary rs ≡ true
    begins_at_boundary set [] m b = absurd (omega arith)
    begins_at_boundary set (r ∷ rs) m b = at r.start refl b
      where
        at : (s : Start) → r.start ≡ s → starts_in set r.start ≡ true → from_boundary (r ∷ rs) ≡ true
        at (start.Boundary x) e k = ap (λ s. from_boundary (record r { start = s } ∷ rs)) e
        at (start.Signal x) e k = absurd (true≢false (sym k ∙ ap (starts_in set) e))

    way : is_walk (map (route_at routes) (path plan t)) ≡ true
    way =
        let p = list_all_at (λ t. is_path (train_of d t) (path_routes routes plan t)) (trains d) t (and_right (nat_le (length plan) n && list_all one_each plan) _ misses.formed) (in_trains d t (leb-true 1 t.0 (and_left (nat_le 1 t.0) _ train_in)) (leb-true t.0 (length d.trains) (and_right (nat_le 1 t.0) _ train_in))) in
        let xyz = and_left (begins_in (first_visit (train_of d t)) (path_routes routes plan t) && all_neighbors (λ r q. goes_on r.finish q.start) (path_routes routes plan t) && all_pairs (λ r q. not (is_start r.start q.start)) (path_routes routes plan t)) _ p in
        let xy = and_left (begins_in (first_visit (train_of d t)) (path_routes routes plan t) && all_neighbors (λ r q. goes_on r.finish q.start) (path_routes routes plan t)) _ xyz in
        let l = length-map (route_at routes) (path plan t) in
        let g = misses.given in
        and_both _ _ (and_both _ _ (begins_at_boundary (first_visit (train_of d t)) (path_routes routes plan t) (omega arith) (and_left (begins_in (first_visit (train_of d t)) (path_routes routes plan t)) _ xy)) (and_right (begins_in (first_visit (train_of d t)) (path_routes routes plan t)) _ xy))
        (and_right (begins_in (first_visit (train_of d t)) (path_routes routes plan t) && all_neighbors (λ r q. goes_on r.finish q.start) (path_routes routes plan t)) _ xyz)

    routes_in : list_all (λ r. is_from 1 (length routes) r.0) (path plan t) ≡ true
    routes_in = list_all_from (λ (r : RouteNo). is_from 1 (length routes) r.0) (path plan t) (λ r m.
        let o = list_all_at (is_of d routes) (commands plan) (record { train = t; route = r }) misses.names (in_path t plan r m) in
        and_both _ _ (and_right (nat_le 1 t.0 && nat_le t.0 (length d.trains)) _ (and_left (nat_le 1 t.0 && nat_le t.0 (length d.trains) && nat_le 1 r.0) _ o)) (and_right (nat_le 1 t.0 && nat_le t.0 (length d.trains) && nat_le 1 r.0) _ o))

    in_design_it : in_design d routes (path_cone plan t j) ≡ true
    in_design_it = and_both _ _ (and_both _ _ (and_both _ _ (and_both _ _ (and_both _ _ (and_both _ _ train_ok refl) refl) refl) refl) refl) violation_ok
      where
        train_ok : train_in_design d routes (path_cone plan t j) this ≡ true
        train_ok = and_both _ _ (and_both _ _ (and_both _ _ (and_both _ _ train_in routes_in) (le-leb 0 (horizon d) (omega arith))) (le-leb 0 (length (path plan t)) (omega arith))) way

        violation_ok : violation_in_design d routes (path_cone plan t j) (violation.Path t j) ≡ true
        violation_ok = and_both _ _ (and_both _ _ misses.visit (and_both _ _ (and_both _ _ (and_both _ _ (eq-eqb t.0 t.0 refl) refl) refl) refl)) refl

    held_it : holder_fits d routes (path_cone plan t j) this None ≡ true
    held_it = go (all_free this) (just_granted d routes (path_cone plan t j) this)
      where
        go : (a b : Bool) → not (not a && false && not b) ≡ true
        go true b = refl
        go false b = refl

    shown_it : shows_violation d routes (path_cone plan t j) (violation.Path t j) ≡ true
    shown_it = ap (λ (c : ConeTrain). is_none (entry None (visits_on (train_of d t).visits (path_nodes (map (route_at routes) c.path))) j)) named_this ∙ misses.missed

    pub path_valid : is_valid_cone d routes (path_cone plan t j) ≡ true
    path_valid = valid_of d routes (path_cone plan t j) in_design_it (and_both _ _ (le-leb 0 (granted_at d routes (path_cone plan t j) 0 t) (omega arith)) refl) (and_both _ _ held_it refl) shown_it

    -- ---- its clause is false of the plan

    abbrev fails : Literal → Bool
    fails l = not (is_true_of plan l)

    not_twice : (x : Bool) → x ≡ true → (not (not x) && true) ≡ true
    not_twice true e = refl
    not_twice false e = e

    not_once : (x : Bool) → x ≡ false → (not x && true) ≡ true
    not_once true e = absurd (true≢false e)
    not_once false e = refl

    abbrev K : Cone
    K = path_cone plan t j

    -- a command's train is this one, or the cone says nothing of it
    this_or_not : (u : TrainNo) → ((u ≡ t) × (named (path_cone plan t j) u ≡ this)) ⊎ (named (path_cone plan t j) u ≡ unnamed u)
    this_or_not u = go (is_train t u) refl
      where
        go : (b : Bool) → is_train t u ≡ b → ((u ≡ t) × (named (path_cone plan t j) u ≡ this)) ⊎ (named (path_cone plan t j) u ≡ unnamed u)
        go true e = inl (ap (λ n. record { 0 = n }) (sym (eqb-true t.0 u.0 e)), ap (λ b. if b then this else unnamed u) e)
        go false e = inr (ap (λ b. if b then this else unnamed u) e)

    given_it : (c : Command) → is_named (path_cone plan t j) c ≡ true → has_command plan c ≡ true
    given_it c m = go (this_or_not c.train)
      where
        i : In c.route (named (path_cone plan t j) c.train).path
        i = has_route_in (named (path_cone plan t j) c.train).path c.route m

        go : ((c.train ≡ t) × (named (path_cone plan t j) c.train ≡ this)) ⊎ (named (path_cone plan t j) c.train ≡ unnamed c.train) → has_command plan c ≡ true
        go (inr e) = absurd (subst (λ (x : ConeTrain). In c.route x.path) e i)
        go (inl (s, e)) = in_has plan c (subst (λ u. In (record { train = u; route = c.route }) (commands plan)) (sym s) (in_path t plan c.route (subst (λ (x : ConeTrain). In c.route x.path) e i)))

    no_further : (c : Command) → is_named (path_cone plan t j) c ≡ false → goes_further (map (route_at routes) (named (path_cone plan t j) c.train).path) (route_at routes c.route) ≡ true → has_command plan c ≡ false
    no_further c none on = at (has_command plan c) refl
      where
        go : In c (commands plan) → ((c.train ≡ t) × (named (path_cone plan t j) c.train ≡ this)) ⊎ (named (path_cone plan t j) c.train ≡ unnamed c.train) → ⊥
        go m (inr e) = true≢false (sym on ∙ ap (λ (x : ConeTrain). goes_further (map (route_at routes) x.path) (route_at routes c.route)) e)
        go m (inl (s, e)) =
            let here : In c.route (path plan t) = subst (λ u. In c.route (path plan u)) s (command_in_path plan c m) in
            true≢false (sym (in_has_route (named (path_cone plan t j) c.train).path c.route (subst (λ (x : ConeTrain). In c.route x.path) (sym e) here)) ∙ none)

        at : (x : Bool) → has_command plan c ≡ x → has_command plan c ≡ false
        at false e = e
        at true e = absurd (go (has_in plan c e) (this_or_not c.train))

    used_fail : (c : Command) → list_all fails (used_literals d routes (path_cone plan t j) c) ≡ true
    used_fail c = go (is_named (path_cone plan t j) c) refl (all_free (named (path_cone plan t j) c.train)) (goes_further (map (route_at routes) (named (path_cone plan t j) c.train).path) (route_at routes c.route)) refl
      where
        go : (a : Bool) → is_named (path_cone plan t j) c ≡ a → (b f : Bool) → goes_further (map (route_at routes) (named (path_cone plan t j) c.train).path) (route_at routes c.route) ≡ f
            → list_all fails (if a then record { fact = Used c; negated = true } ∷ [] else if (b || true) && f then record { fact = Used c; negated = false } ∷ [] else []) ≡ true
        go true ea b f ef = not_twice (has_command plan c) (given_it c ea)
        go false ea true true ef = not_once (has_command plan c) (no_further c ea ef)
        go false ea false true ef = not_once (has_command plan c) (no_further c ea ef)
        go false ea true false ef = refl
        go false ea false false ef = refl

    none_free : (c : Command) → is_free (path_cone plan t j) c ≡ false
    none_free c = go (this_or_not c.train)
      where
        go : ((c.train ≡ t) × (named (path_cone plan t j) c.train ≡ this)) ⊎ (named (path_cone plan t j) c.train ≡ unnamed c.train) → is_free (path_cone plan t j) c ≡ false
        go (inl (s, e)) = ap (λ (x : ConeTrain). has_route (take x.free x.path) c.route) e
        go (inr e) = ap (λ (x : ConeTrain). has_route (take x.free x.path) c.route) e

    before_fail : (e c : Command) → list_all fails (before_literals d routes (path_cone plan t j) e c) ≡ true
    before_fail e c = ap (λ f. list_all fails (if f && contend routes e c then record { fact = Before e c; negated = false } ∷ [] else [])) (none_free c)

    pub path_false : is_false_of plan (clause_of_cone d routes (path_cone plan t j)) ≡ true
    path_false = all_append fails (flat_map (used_literals d routes (path_cone plan t j)) (all_commands d routes)) _
        (all_flat fails (used_literals d routes (path_cone plan t j)) (all_commands d routes) used_fail)
        (all_flat fails (λ e. flat_map (before_literals d routes (path_cone plan t j) e) (all_commands d routes)) (all_commands d routes) (λ e. all_flat fails (before_literals d routes (path_cone plan t j) e) (all_commands d routes) (before_fail e)))

  pub path_refutes : IsWellFormed d routes n plan → 1 ≤ length (path plan t) → is_visit d t j ≡ true → is_none (entry None (visits_of_train d routes (of_plan routes plan) t) j) ≡ true → Refutes d routes n (path_cone plan t j) plan
  path_refutes formed given visit missed =
      let m : Misses = record { names = formed.named; formed = formed.formed; given = given; visit = visit; missed = missed } in
      record { well_formed = formed; valid = path_valid m; denies = path_false m }
