-- Paths that make all visits have, for each, a route on which it is.
use Rattle.std.proofs.Common.{◌≡◌, ℕ, zero, suc, ◌+◌, ◌≤◌, ◌<◌, ◌⊎◌, inl, inr, Bool, true, false, if◌then◌else◌, List, [], ◌∷◌, ◌++◌, map, filter, length, refl, sym, ap, subst, ◌∙◌, arith, true≢false, ℤ}
use Rattle.std.specs.Prelude.{is_some, slice_index_or, nat_abs}
use Rattle.std.specs.List.{list_any, list_all}
use Rattle.rail_base.specs.declared.station.Station.{Station}
use Rattle.rail_base.specs.declared.station.NodeNo.{NodeNo}
use Rattle.rail_base.specs.declared.station.TrainNo.{TrainNo}
use Rattle.rail_base.specs.declared.route.Route.{Route}
use Rattle.rail_base.specs.declared.route.RouteNo.{RouteNo}
use Rattle.rail_base.specs.declared.plan.Command.{Command}
use Rattle.rail_base.specs.Numbering.{one_to, entry, first_of_list, from_first, after_first}
use Rattle.rail_base.specs.Stations.{train_of, trains}
use Rattle.rail_spec.specs.Plans.{route_at, path, path_routes, has_node, length_mm, route_numbers}
use Rattle.rail_spec.specs.Dispatches.{of_plan}
use Rattle.rail_base.specs.declared.state.PathNode.{PathNode}
use Rattle.rail_spec.specs.Visits as visits
use Rattle.rail_spec.specs.Places.{path_nodes_of, path_nodes_after, path_nodes, visits_at, visits_on}
use Rattle.rail_base.proofs.Members.{In, and_left, and_right, list_any_from, in_filter}
use Rattle.clause_spec.specs.Variables.{Given, yes}
use Rattle.clause_spec.specs.Clauses.{Clause, may_visit, visited, makes_visits}
use Rattle.clause_spec.specs.Models.{holds, is_so}
use Rattle.clause_spec.proofs.Steps.{cmd, in_path}
use Rattle.clause_spec.proofs.Truth.{Fails, at_clause, yes_false}
use Rattle.clause_spec.proofs.Forward.{Fit, of, used_from, begins_at}
use Rattle.rail_base.proofs.Lists.{in_map_back, in_map, in_count_back, in_append}
use Rattle.rail_laws.proofs.Arrivals.{in_after}

in_after_append : {X : Type 0} (xs ys : List X) (x : X) → In x (after_first (xs ++ ys)) → In x (after_first xs) ⊎ In x ys
in_after_append [] ys x m = inr (in_after ys x m)
in_after_append (z ∷ zs) ys x m = in_append x zs ys m

in_from_first : {X : Type 0} (test : X → Bool) (xs : List X) (x : X) → In x (from_first test xs) → In x xs
in_from_first test [] x m = m
in_from_first {X} test (y ∷ ys) x m = go (test y) m (in_from_first test ys x)
  where
    go : (b : Bool) → In x (if b then y ∷ ys else from_first test ys) → (In x (from_first test ys) → In x ys) → In x (y ∷ ys)
    go true k rest = k
    go false k rest = inr (rest k)

-- the first that passes the test
first_passing : {X : Type 0} (test : X → Bool) (xs : List X) → is_some (first_of_list (from_first test xs)) ≡ true → (x : X) × In x xs × (test x ≡ true)
first_passing test [] h = absurd (true≢false (sym h))
first_passing {X} test (y ∷ ys) h = go (test y) refl h (first_passing test ys)
  where
    later : (x : X) × In x ys × (test x ≡ true) → (x : X) × In x (y ∷ ys) × (test x ≡ true)
    later r = (r.0, inr r.1, r.2)

    go : (b : Bool) → test y ≡ b → is_some (first_of_list (if b then y ∷ ys else from_first test ys)) ≡ true → (is_some (first_of_list (from_first test ys)) ≡ true → (x : X) × In x ys × (test x ≡ true)) → (x : X) × In x (y ∷ ys) × (test x ≡ true)
    go true e k rest = (y, inl refl, e)
    go false e k rest = later (rest k)

-- a stop at which a visit after the first is made
pub record Met (set : List NodeNo) (ps : List PathNode) : Type 0 where
  pub path_node : PathNode
  pub member : In path_node ps
  pub node : has_node set path_node.node ≡ true

met : (sets : List (List NodeNo)) (ps : List PathNode) (j : ℕ) → list_all is_some (visits_at sets ps) ≡ true → j < length sets → Met (slice_index_or sets j []) ps
met [] ps j h k = absurd (omega arith)
met (set ∷ sets) ps zero h k =
    let f = first_passing (λ (p : PathNode). has_node set p.node) ps (and_left (is_some (first_of_list (from_first (λ (p : PathNode). has_node set p.node) ps))) _ h) in
    record { path_node = f.0; member = f.1; node = f.2 }
met (set ∷ sets) ps (suc j) h k =
    let here = from_first (λ (p : PathNode). has_node set p.node) ps in
    let m = met sets (after_first here) j (and_right (is_some (first_of_list here)) _ h) (omega arith) in
    record { path_node = m.path_node; member = in_from_first (λ (p : PathNode). has_node set p.node) ps m.path_node (in_after here m.path_node m.member); node = m.node }

-- a stop is at the end of an edge of one of the routes
pub record On (p : PathNode) (rs : List Route) : Type 0 where
  pub route : Route
  pub member : In route rs
  pub entry : NodeNo × ℤ
  pub at : In entry (after_first route.nodes)
  pub node : entry.0 ≡ p.node

after-map : {X Y : Type 0} (f : X → Y) (xs : List X) → after_first (map f xs) ≡ map f (after_first xs)
after-map f [] = refl
after-map f (x ∷ xs) = refl

on_one : (offset j : ℕ) (r : Route) (rs : List Route) (p : PathNode) → In r rs → In p (after_first (path_nodes_of offset j r)) → On p rs
on_one offset j r rs p m k =
    let path_node : NodeNo × ℤ → PathNode = λ q. record { node = q.0; event = record { granted = j; place = offset + nat_abs q.1 } } in
    let f = in_map_back path_node (after_first r.nodes) p (subst (λ xs. In p xs) (after-map path_node r.nodes) k) in
    record { route = r; member = m; entry = f.0; at = f.1; node = ap (λ (q : PathNode). q.node) f.2 }

on_later : (offset j : ℕ) (rs : List Route) (p : PathNode) → In p (path_nodes_after offset j rs) → On p rs
on_later offset j [] p m = absurd m
on_later offset j (r ∷ rs) p m = go (in_append p (after_first (path_nodes_of offset j r)) (path_nodes_after (offset + length_mm r) (j + 1) rs) m) (on_later (offset + length_mm r) (j + 1) rs p)
  where
    go : In p (after_first (path_nodes_of offset j r)) ⊎ In p (path_nodes_after (offset + length_mm r) (j + 1) rs) → (In p (path_nodes_after (offset + length_mm r) (j + 1) rs) → On p rs) → On p (r ∷ rs)
    go (inl k) rest = on_one offset j r (r ∷ rs) p (inl refl) k
    go (inr k) rest = let o = rest k in record { route = o.route; member = inr o.member; entry = o.entry; at = o.at; node = o.node }

on : (rs : List Route) (p : PathNode) → In p (after_first (path_nodes rs)) → On p rs
on [] p m = absurd m
on (r ∷ rs) p m = go (in_after_append (path_nodes_of 0 1 r) (path_nodes_after (length_mm r) 2 rs) p m)
  where
    go : In p (after_first (path_nodes_of 0 1 r)) ⊎ In p (path_nodes_after (length_mm r) 2 rs) → On p (r ∷ rs)
    go (inl k) = on_one 0 1 r (r ∷ rs) p (inl refl) k
    go (inr k) = let o = on_later (length_mm r) 2 rs p k in record { route = o.route; member = inr o.member; entry = o.entry; at = o.at; node = o.node }

module _ (d : Station) (routes : List Route) (n : ℕ) (plan : List (List Command)) (fit : Fit d routes n plan) (t : TrainNo) (known : In t (trains d)) (all : visits.makes_visits d routes (of_plan routes plan) t ≡ true) where
  -- a route of the train on which the visit is
  record Made (k : ℕ) : Type 0 where
    route : RouteNo
    member : In route (path plan t)
    may : may_visit d routes n k (entry [] (train_of d t).visits k) route ≡ true

  made_first : (sets : List (List NodeNo)) → (train_of d t).visits ≡ sets → 1 ≤ length sets → list_all is_some (visits_on sets (path_nodes (path_routes routes plan t))) ≡ true → Made 1
  made_first [] e l h = absurd (omega arith)
  made_first (first ∷ later) e l h = go (path plan t) refl (and_left (is_some (first_of_list (path_nodes (path_routes routes plan t)))) _ h)
    where
      go : (rs : List RouteNo) → path plan t ≡ rs → is_some (first_of_list (path_nodes (map (route_at routes) rs))) ≡ true → Made 1
      go [] f k = absurd (true≢false (sym k))
      go (r ∷ rs) f k = record { route = r; member = subst (λ xs. In r xs) (sym f) (inl refl); may = begins_at d routes n plan fit t r known (ap first_of_list f) }

  made_later : (sets : List (List NodeNo)) (k : ℕ) → (train_of d t).visits ≡ sets → suc k < length sets → list_all is_some (visits_on sets (path_nodes (path_routes routes plan t))) ≡ true → Made (suc (suc k))
  made_later [] k e l h = absurd (omega arith)
  made_later (first ∷ later) k e l h =
      let m = met later (after_first (path_nodes (path_routes routes plan t))) k (and_right (is_some (first_of_list (path_nodes (path_routes routes plan t)))) _ h) (omega arith) in
      let o = on (path_routes routes plan t) m.path_node m.member in
      let r = in_map_back (route_at routes) (path plan t) o.route o.member in
      record {
        route = r.0;
        member = r.1;
        may = subst (λ (q : Route). list_any (λ (p : NodeNo × ℤ). has_node (slice_index_or (train_of d t).visits (suc k) []) p.0) (after_first q.nodes) ≡ true) (sym r.2)
            (list_any_from (λ (p : NodeNo × ℤ). has_node (slice_index_or (train_of d t).visits (suc k) []) p.0) (after_first o.route.nodes) o.entry o.at
            (ap (has_node (slice_index_or (train_of d t).visits (suc k) [])) o.node ∙ (ap (λ (xs : List (List NodeNo)). has_node (slice_index_or xs (suc k) []) m.path_node.node) e ∙ m.node)));
      }

  made : (k : ℕ) → In k (one_to (length (train_of d t).visits)) → Made k
  made zero m = let f = in_count_back 1 (length (train_of d t).visits) 0 m in let g = f.0 in absurd (omega arith)
  made (suc zero) m = let f = in_count_back 1 (length (train_of d t).visits) 1 m in let g = f.1 in made_first (train_of d t).visits refl (omega arith) all
  made (suc (suc k)) m = let f = in_count_back 1 (length (train_of d t).visits) (suc (suc k)) m in let g = f.1 in made_later (train_of d t).visits k refl (omega arith) all

  pub makes_visits_holds : (cl : Clause) → In cl (makes_visits d routes n t) → holds (is_so plan) cl ≡ true
  makes_visits_holds cl m =
      let f = in_map_back (visited d routes n t) (one_to (length (train_of d t).visits)) cl m in
      at_clause (is_so plan) f.2 (λ h. go f.0 (made f.0 f.1) h)
    where
      go : (k : ℕ) → Made k → Fails (is_so plan) (visited d routes n t k) → ⊥
      go k x h =
          let here = in_path plan t x.route x.member in
          let set = entry [] (train_of d t).visits k in
          let a = yes_false (is_so plan) (Given (cmd t x.route) n) h (in_map (λ r. yes (Given (cmd t r) n)) (filter (may_visit d routes n k set) (route_numbers routes)) x.route (in_filter (may_visit d routes n k set) (route_numbers routes) x.route (of d routes n plan fit (cmd t x.route) here).route x.may)) in
          true≢false (sym (used_from d routes n plan fit (cmd t x.route) here) ∙ a)
