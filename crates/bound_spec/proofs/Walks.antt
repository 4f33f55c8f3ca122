-- A walk through places is one of all such walks.
use Rattle.std.proofs.Common.{◌≡◌, ℕ, ◌≤◌, inl, inr, true, not, List, [], ◌∷◌, ◌++◌, map, filter, flat_map, refl, sym, ap, subst, arith}
use Rattle.rail_base.specs.declared.station.Station.{Station}
use Rattle.rail_base.specs.declared.station.TrainNo.{TrainNo}
use Rattle.rail_base.specs.declared.route.Route.{Route}
use Rattle.rail_base.specs.declared.plan.Command.{Command}
use Rattle.rail_base.specs.Admitted.{IsAdmitted}
use Rattle.rail_base.specs.Members.{In, all_pairs, all_neighbors}
use Rattle.rail_base.specs.Stations.{train_of, first_visit}
use Rattle.rail_spec.specs.Track.{routes_of}
use Rattle.rail_spec.specs.Plans.{path_routes, is_start, goes_on, end_at_one_signal, begins_in}
use Rattle.rail_spec.specs.Feasible.{IsWellFormed}
use Rattle.rail_base.proofs.Members.{and_left, and_right, in_filter}
use Rattle.rail_base.proofs.Lists.{in_map, in_append_left, in_append_right}
use Rattle.rail_laws.proofs.Admits.{formed_path}
use Rattle.bound_spec.specs.Walks.{goes_before, walks, least_walk, LieIn}
use Rattle.free_spec.proofs.Following.{neighbors_after, of_design}

in_flat : {X Y : Type 0} (f : X → List Y) (xs : List X) (x : X) (y : Y) → In x xs → In y (f x) → In y (flat_map f xs)
in_flat f [] x y m i = absurd m
in_flat f (a ∷ xs) x y (inl e) i = in_append_left y (f a) (flat_map f xs) (subst (λ b. In y (f b)) (sym e) i)
in_flat f (a ∷ xs) x y (inr m) i = in_append_right y (f a) (flat_map f xs) (in_flat f xs x y m i)

abbrev pub goes : List Route → Type 0
goes rs = all_neighbors (λ r q. goes_on r.finish q.start) rs ≡ true

first_goes : (r : Route) (rs more : List Route) → goes (r ∷ rs ++ more) → goes_before r rs ≡ true
first_goes r [] more h = refl
first_goes r (q ∷ rs) more h = and_left (goes_on r.finish q.start) _ h

pub walk_in : (rs more : List Route) (places : List (List Route)) → LieIn rs places → goes (rs ++ more) → In rs (walks places)
walk_in [] more [] lie h = inl refl
walk_in [] more (p ∷ ps) lie h = absurd lie
walk_in (r ∷ rs) more [] lie h = absurd lie
walk_in (r ∷ rs) more (p ∷ ps) lie h =
    in_flat (λ q. map (λ qs. q ∷ qs) (filter (goes_before q) (walks ps))) p r (r ∷ rs) lie.0
    (in_map (λ qs. r ∷ qs) (filter (goes_before r) (walks ps)) rs (in_filter (goes_before r) (walks ps) rs (walk_in rs more ps lie.1 (neighbors_after (λ r q. goes_on r.finish q.start) (r ∷ []) (rs ++ more) h)) (first_goes r rs more h)))

least_of_walk : (f : List Route → ℕ) (n : ℕ) (ws : List (List Route)) (rs : List Route) → In rs ws → least_walk f n ws ≤ f rs
least_of_walk f n [] rs m = absurd m
least_of_walk f n (w ∷ ws) rs (inl e) = let k = ap f e in omega arith
least_of_walk f n (w ∷ ws) rs (inr m) = let k = least_of_walk f n ws rs m in omega arith

module _ (d : Station) (adm : IsAdmitted d) (n : ℕ) (plan : List (List Command)) (well : IsWellFormed d (routes_of d) n plan) where
  pub path_goes : (t : TrainNo) (rs : List Route) → path_routes (routes_of d) plan t ≡ rs → goes rs
  path_goes t [] e = refl
  path_goes t (r ∷ rs) e =
      let named = (of_design d adm n plan well t r (subst (In r) (sym e) (inl refl))).0 in
      let all = formed_path d adm n plan well.formed t named in
      let xyz = and_left _ (all_pairs (λ r q. not (end_at_one_signal r.finish q.finish)) (path_routes (routes_of d) plan t)) all in
      let xy = and_left _ (all_pairs (λ r q. not (is_start r.start q.start)) (path_routes (routes_of d) plan t)) xyz in
      subst goes e (and_right (begins_in (first_visit (train_of d t)) (path_routes (routes_of d) plan t)) _ xy)

  pub through_places : (t : TrainNo) (before rs more : List Route) → path_routes (routes_of d) plan t ≡ before ++ (rs ++ more) → (places : List (List Route)) → LieIn rs places
      → (f : List Route → ℕ) (h c : ℕ) → f rs ≤ c → least_walk f h (walks places) ≤ c
  through_places t before rs more whole places lie f h c own =
      let g = neighbors_after (λ r q. goes_on r.finish q.start) before (rs ++ more) (path_goes t (before ++ (rs ++ more)) whole) in
      let k = least_of_walk f h (walks places) rs (walk_in rs more places lie g) in
      omega arith
