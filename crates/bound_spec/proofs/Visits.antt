-- On which route of its path a train makes a visit, and where.
use Rattle.std.proofs.Common.{◌≡◌, ℕ, zero, suc, ◌+◌, ◌≤◌, ◌⊎◌, inl, inr, Bool, true, false, not, ◌||◌, if◌then◌else◌, List, [], ◌∷◌, ◌++◌, map, length, sum_by, None, Some, refl, sym, ap, subst, ◌∙◌, arith, true≢false, ℤ}
use Rattle.std.specs.Prelude.{slice_index_or, nat_abs, pos}
use Rattle.std.specs.List.{list_any}
use Rattle.std.proofs.lemmas.List.Sums.{sum_by-cons}
use Rattle.rail_base.specs.declared.station.Station.{Station}
use Rattle.rail_base.specs.declared.station.NodeNo.{NodeNo}
use Rattle.rail_base.specs.declared.station.EdgeNo.{EdgeNo}
use Rattle.rail_base.specs.declared.station.TrainNo.{TrainNo}
use Rattle.rail_base.specs.declared.route.Route.{Route}
use Rattle.rail_base.specs.declared.route.RouteNo.{RouteNo}
use Rattle.rail_base.specs.declared.plan.Command.{Command}
use Rattle.rail_base.specs.declared.state.PathNode.{PathNode}
use Rattle.rail_base.specs.Admitted.{IsAdmitted}
use Rattle.rail_base.specs.Members.{In, all_pairs}
use Rattle.rail_base.specs.Numbering.{entry, first_of_list, from_first, after_first}
use Rattle.rail_base.specs.Stations.{train_of, length_of, first_visit}
use Rattle.rail_spec.specs.Track.{routes_of, edge_ends}
use Rattle.rail_spec.specs.Plans.{route_at, path, path_routes, has_node, length_mm, starts_in, begins_in, is_start, end_at_one_signal}
use Rattle.rail_spec.specs.Feasible.{IsWellFormed}
use Rattle.rail_spec.specs.Visits.{visits_of_train}
use Rattle.rail_spec.specs.Dispatches.{of_plan}
use Rattle.rail_spec.specs.Places.{path_nodes_of, path_nodes_after, path_nodes, visits_at, visits_on}
use Rattle.rail_base.proofs.Members.{and_left, list_any_from}
use Rattle.rail_base.proofs.Lists.{in_map, in_map_back, in_append}
use Rattle.rail_laws.proofs.AsEdges.{told}
use Rattle.rail_laws.proofs.Admits.{good_route, formed_path}
use Rattle.free_spec.proofs.Following.{of_design, has_train}
use Rattle.bound_spec.specs.Certificates.{first_in, nodes_of_visit, visit_offset}
use Rattle.bound_spec.specs.Validity.{can_visit}
use Rattle.rail_laws.proofs.Arrivals.{in_after, in_from}

-- ---- lists

-- the first that passes the test is one, and passes
found : {X : Type 0} (test : X → Bool) (xs : List X) (x : X) → first_of_list (from_first test xs) ≡ Some x → In x xs × (test x ≡ true)
found test [] x h = cc
found {X} test (y ∷ ys) x h = go (test y) refl h (found test ys x)
  where
    go : (b : Bool) → test y ≡ b → first_of_list (if b then y ∷ ys else from_first test ys) ≡ Some x → (first_of_list (from_first test ys) ≡ Some x → In x ys × (test x ≡ true)) → In x (y ∷ ys) × (test x ≡ true)
    go true e k later = let same : y ≡ x = cc in (inl same, subst (λ z. test z ≡ true) same e)
    go false e k later = let r = later k in (inr r.0, r.1)

after-map : {X Y : Type 0} (f : X → Y) (xs : List X) → after_first (map f xs) ≡ map f (after_first xs)
after-map f [] = refl
after-map f (x ∷ xs) = refl

-- a visit after the first is made at a stop with one of its nodes
visit_there : (sets : List (List NodeNo)) (ps : List PathNode) (i : ℕ) (s : PathNode) → slice_index_or (visits_at sets ps) i None ≡ Some s → In s ps × (has_node (slice_index_or sets i []) s.node ≡ true)
visit_there [] ps i s h = cc
visit_there (set ∷ sets) ps zero s h = found (λ (p : PathNode). has_node set p.node) ps s h
visit_there (set ∷ sets) ps (suc i) s h =
    let here = from_first (λ (p : PathNode). has_node set p.node) ps in
    let r = visit_there sets (after_first here) i s h in
    (in_from (λ (p : PathNode). has_node set p.node) ps s (in_after here s r.0), r.1)

-- ---- nodes of a route

abbrev ends_from : Station → ℕ → List EdgeNo → List ℤ
ends_from d o es = map (λ (e : EdgeNo × ℕ). pos e.1) (edge_ends d o es)

abbrev offsets : List (NodeNo × ℤ) → List ℤ
offsets ps = map (λ (p : NodeNo × ℤ). p.1) ps

head_same : {X : Type 0} (x y : X) (xs ys : List X) → x ∷ xs ≡ y ∷ ys → x ≡ y
head_same x y xs ys h = cc

tail_same : {X : Type 0} (x y : X) (xs ys : List X) → x ∷ xs ≡ y ∷ ys → xs ≡ ys
tail_same x y xs ys h = cc

no_end : (d : Station) (o : ℕ) (p : NodeNo × ℤ) (ps : List (NodeNo × ℤ)) → offsets (p ∷ ps) ≡ ends_from d o [] → ⊥
no_end d o p ps h = cc

not_below : (d : Station) (o : ℕ) (es : List EdgeNo) (ps : List (NodeNo × ℤ)) → offsets ps ≡ ends_from d o es → (p : NodeNo × ℤ) → In p ps → o ≤ nat_abs p.1
not_below d o es [] h p m = absurd m
not_below d o [] (q ∷ ps) h p m = absurd (no_end d o q ps h)
not_below d o (e ∷ es) (q ∷ ps) h p (inl same) =
    let f = ap nat_abs (head_same q.1 (pos (o + length_of d e)) (offsets ps) (ends_from d (o + length_of d e) es) h) in
    let g = ap (λ (p : NodeNo × ℤ). nat_abs p.1) same in
    omega arith
not_below d o (e ∷ es) (q ∷ ps) h p (inr m) = let k = not_below d (o + length_of d e) es ps (tail_same q.1 (pos (o + length_of d e)) (offsets ps) (ends_from d (o + length_of d e) es) h) p m in omega arith

-- the first node of a set is not behind another of it
first_is_low : (d : Station) (set : List NodeNo) (o : ℕ) (es : List EdgeNo) (ps : List (NodeNo × ℤ)) → offsets ps ≡ ends_from d o es → (p : NodeNo × ℤ) → In p ps → has_node set p.0 ≡ true → first_in set ps ≤ nat_abs p.1
first_is_low d set o es [] h p m has = absurd m
first_is_low d set o [] (q ∷ ps) h p m has = absurd (no_end d o q ps h)
first_is_low d set o (e ∷ es) (q ∷ ps) h p m has = go (has_node set q.0) refl m (λ k. first_is_low d set (o + length_of d e) es ps rest p k has)
  where
    at : nat_abs q.1 ≡ o + length_of d e
    at = ap nat_abs (head_same q.1 (pos (o + length_of d e)) (offsets ps) (ends_from d (o + length_of d e) es) h)

    rest : offsets ps ≡ ends_from d (o + length_of d e) es
    rest = tail_same q.1 (pos (o + length_of d e)) (offsets ps) (ends_from d (o + length_of d e) es) h

    go : (b : Bool) → has_node set q.0 ≡ b → In p (q ∷ ps) → (In p ps → first_in set ps ≤ nat_abs p.1) → (if b then nat_abs q.1 else first_in set ps) ≤ nat_abs p.1
    go true eb (inl same) later = let g = ap (λ (p : NodeNo × ℤ). nat_abs p.1) same in omega arith
    go true eb (inr k) later = let a = at in let l = not_below d (o + length_of d e) es ps rest p k in omega arith
    go false eb (inl same) later = absurd (true≢false (sym has ∙ ap (λ (p : NodeNo × ℤ). has_node set p.0) (sym same) ∙ eb))
    go false eb (inr k) later = later k

-- the first of some nodes in the set is the first stop at one
first_path_node_of : (set : List NodeNo) (o j : ℕ) (ps : List (NodeNo × ℤ)) (more : List PathNode) → list_any (λ p. has_node set p.0) ps ≡ true
    → (s : PathNode) × (first_of_list (from_first (λ (q : PathNode). has_node set q.node) (map (λ p. record { node = p.0; event = record { granted = j; place = o + nat_abs p.1 } }) ps ++ more)) ≡ Some s) × (s.event.place ≡ o + first_in set ps) × (s.event.granted ≡ j)
first_path_node_of set o j [] more h = absurd (true≢false (sym h))
first_path_node_of set o j (p ∷ ps) more h = go (has_node set p.0) h (first_path_node_of set o j ps more)
  where
    path_node : NodeNo × ℤ → PathNode
    path_node q = record { node = q.0; event = record { granted = j; place = o + nat_abs q.1 } }

    Found : List PathNode → ℕ → Type 0
    Found xs x = (s : PathNode) × (first_of_list xs ≡ Some s) × (s.event.place ≡ o + x) × (s.event.granted ≡ j)

    go : (b : Bool) → (b || list_any (λ p. has_node set p.0) ps) ≡ true → (list_any (λ p. has_node set p.0) ps ≡ true → Found (from_first (λ (q : PathNode). has_node set q.node) (map path_node ps ++ more)) (first_in set ps))
        → Found (if b then path_node p ∷ (map path_node ps ++ more) else from_first (λ (q : PathNode). has_node set q.node) (map path_node ps ++ more)) (if b then nat_abs p.1 else first_in set ps)
    go true e later = (path_node p, refl, refl, refl)
    go false e later = later e

-- or the first stop is at one of them, or none is
found_or_none : (set : List NodeNo) (o j : ℕ) (ps : List (NodeNo × ℤ)) (more : List PathNode) (s : PathNode)
    → first_of_list (from_first (λ (q : PathNode). has_node set q.node) more) ≡ Some s
    → (q : PathNode) × (first_of_list (from_first (λ (q : PathNode). has_node set q.node) (map (λ p. record { node = p.0; event = record { granted = j; place = o + nat_abs p.1 } }) ps ++ more)) ≡ Some q)
    × ((q ≡ s) ⊎ ((p : NodeNo × ℤ) × In p ps × (q.event.place ≡ o + nat_abs p.1) × (q.event.granted ≡ j)))
found_or_none set o j [] more s h = (s, h, inl refl)
found_or_none set o j (p ∷ ps) more s h = go (has_node set p.0) (found_or_none set o j ps more s h)
  where
    path_node : NodeNo × ℤ → PathNode
    path_node q = record { node = q.0; event = record { granted = j; place = o + nat_abs q.1 } }

    Found : List PathNode → List (NodeNo × ℤ) → Type 0
    Found xs ps = (q : PathNode) × (first_of_list xs ≡ Some q) × ((q ≡ s) ⊎ ((p : NodeNo × ℤ) × In p ps × (q.event.place ≡ o + nat_abs p.1) × (q.event.granted ≡ j)))

    further : (q : PathNode) → ((q ≡ s) ⊎ ((r : NodeNo × ℤ) × In r ps × (q.event.place ≡ o + nat_abs r.1) × (q.event.granted ≡ j))) → (q ≡ s) ⊎ ((r : NodeNo × ℤ) × In r (p ∷ ps) × (q.event.place ≡ o + nat_abs r.1) × (q.event.granted ≡ j))
    further q (inl e) = inl e
    further q (inr (r, m, x, y)) = inr (r, inr m, x, y)

    go : (b : Bool) → Found (from_first (λ (q : PathNode). has_node set q.node) (map path_node ps ++ more)) ps → Found (if b then path_node p ∷ (map path_node ps ++ more) else from_first (λ (q : PathNode). has_node set q.node) (map path_node ps ++ more)) (p ∷ ps)
    go true later = (path_node p, refl, inr (p, inl refl, refl, refl))
    go false later = (later.0, later.1, further later.0 later.2)

-- ---- stops of a path

module _ (d : Station) (adm : IsAdmitted d) where
  abbrev pub f : RouteNo → Route
  f p = route_at (routes_of d) p

  -- how long these routes are
  abbrev pub path_length : List RouteNo → ℕ
  path_length ps = sum_by length_mm (map (route_at (routes_of d)) ps)

  -- a stop at the end of an edge of a route of the path
  record Stands (o j : ℕ) (ps : List RouteNo) (s : PathNode) : Type 0 where
    before : List RouteNo
    route : RouteNo
    more : List RouteNo
    whole : ps ≡ before ++ route ∷ more
    node : NodeNo × ℤ
    member : In node (after_first (f route).nodes)
    here : node.0 ≡ s.node
    offset : s.event.place ≡ o + path_length before + nat_abs node.1
    command : s.event.granted ≡ j + length before

  on_one : (o j : ℕ) (r : RouteNo) (ps : List RouteNo) (s : PathNode) → In s (after_first (path_nodes_of o j (f r))) → Stands o j (r ∷ ps) s
  on_one o j r ps s m =
      let path_node : NodeNo × ℤ → PathNode = λ q. record { node = q.0; event = record { granted = j; place = o + nat_abs q.1 } } in
      let g = in_map_back path_node (after_first (f r).nodes) s (subst (λ xs. In s xs) (after-map path_node (f r).nodes) m) in
      record { before = []; route = r; more = ps; whole = refl; node = g.0; member = g.1; here = ap (λ (q : PathNode). q.node) g.2; offset = let e = ap (λ (q : PathNode). q.event.place) g.2 in omega arith; command = let e = ap (λ (q : PathNode). q.event.granted) g.2 in omega arith }

  stands : (ps : List RouteNo) (o j : ℕ) (s : PathNode) → In s (path_nodes_after o j (map f ps)) → Stands o j ps s
  stands [] o j s m = absurd m
  stands (r ∷ ps) o j s m = go (in_append s (after_first (path_nodes_of o j (f r))) (path_nodes_after (o + length_mm (f r)) (j + 1) (map f ps)) m) (stands ps (o + length_mm (f r)) (j + 1) s)
    where
      go : In s (after_first (path_nodes_of o j (f r))) ⊎ In s (path_nodes_after (o + length_mm (f r)) (j + 1) (map f ps)) → (In s (path_nodes_after (o + length_mm (f r)) (j + 1) (map f ps)) → Stands (o + length_mm (f r)) (j + 1) ps s) → Stands o j (r ∷ ps) s
      go (inl k) later = on_one o j r ps s k
      go (inr k) later =
          let w = later k in
          let sum = sum_by-cons length_mm (f r) (map f w.before) in
          let at = w.offset in
          let number = w.command in
          record { before = r ∷ w.before; route = w.route; more = w.more; whole = ap (λ xs. r ∷ xs) w.whole; node = w.node; member = w.member; here = w.here; offset = omega arith; command = omega arith }

  -- the nodes of a route: its start, and others behind it
  record Nodes (r : Route) : Type 0 where
    first : NodeNo × ℤ
    rest : List (NodeNo × ℤ)
    whole : r.nodes ≡ first ∷ rest
    start : nat_abs first.1 ≡ 0
    ends : offsets rest ≡ ends_from d 0 r.edges

  nodes_of : (r : Route) → In r (routes_of d) → Nodes r
  nodes_of r m = go r.nodes refl (told d adm r m).nodes_at
    where
      go : (ps : List (NodeNo × ℤ)) → r.nodes ≡ ps → offsets ps ≡ pos 0 ∷ ends_from d 0 r.edges → Nodes r
      go [] e h = cc
      go (p ∷ ps) e h = record { first = p; rest = ps; whole = e; start = ap nat_abs (head_same p.1 (pos 0) (offsets ps) (ends_from d 0 r.edges) h); ends = tail_same p.1 (pos 0) (offsets ps) (ends_from d 0 r.edges) h }

  -- the stops of a path after its start
  after_start : (r : RouteNo) (ps : List RouteNo) → In (f r) (routes_of d) → after_first (path_nodes (map f (r ∷ ps))) ≡ path_nodes_after 0 1 (map f (r ∷ ps))
  after_start r ps m =
      let n = nodes_of (f r) m in
      let path_node : NodeNo × ℤ → PathNode = λ q. record { node = q.0; event = record { granted = 1; place = 0 + nat_abs q.1 } } in
      let zero_more : length_mm (f r) ≡ 0 + length_mm (f r) = omega arith in
      ap (λ ns. after_first (map path_node ns ++ path_nodes_after (length_mm (f r)) 2 (map f ps))) n.whole ∙ sym (ap (λ ns. after_first (map path_node ns) ++ path_nodes_after (length_mm (f r)) 2 (map f ps)) n.whole)
      ∙ ap (λ o. after_first (path_nodes_of 0 1 (f r)) ++ path_nodes_after o 2 (map f ps)) zero_more

  -- no visit is made past the end of a route
  pub visit_in : (t : TrainNo) (k : ℕ) (r : RouteNo) → visit_offset d t k (f r) ≤ length_mm (f r)
  visit_in t zero r = omega arith
  visit_in t (suc zero) r = omega arith
  visit_in t (suc (suc k)) r = first_in_route (nodes_of_visit d t (suc (suc k))) (after_first (f r).nodes) (length_mm (f r)) (λ p m. (good_route d adm r).nodes_in p (in_after (f r).nodes p m))
    where
      first_in_route : (set : List NodeNo) (ps : List (NodeNo × ℤ)) (x : ℕ) → ((p : NodeNo × ℤ) → In p ps → nat_abs p.1 ≤ x) → first_in set ps ≤ x
      first_in_route set [] x each = omega arith
      first_in_route set (p ∷ ps) x each = go (has_node set p.0) (each p (inl refl)) (first_in_route set ps x (λ q m. each q (inr m)))
        where
          go : (b : Bool) → nat_abs p.1 ≤ x → first_in set ps ≤ x → (if b then nat_abs p.1 else first_in set ps) ≤ x
          go true here later = here
          go false here later = later

  -- a set that a route of the path leads to is met no later than on it
  met_by : (set : List NodeNo) (before : List RouteNo) (r : RouteNo) (more : List RouteNo) (o j : ℕ) → list_any (λ p. has_node set p.0) (after_first (f r).nodes) ≡ true
      → (s : PathNode) × (first_of_list (from_first (λ (q : PathNode). has_node set q.node) (path_nodes_after o j (map f (before ++ r ∷ more)))) ≡ Some s) × (s.event.place ≤ o + path_length before + first_in set (after_first (f r).nodes)) × (s.event.granted ≤ j + length before)
  met_by set [] r more o j leads =
      let path_node : NodeNo × ℤ → PathNode = λ q. record { node = q.0; event = record { granted = j; place = o + nat_abs q.1 } } in
      let g = first_path_node_of set o j (after_first (f r).nodes) (path_nodes_after (o + length_mm (f r)) (j + 1) (map f more)) leads in
      let e = ap (λ xs. first_of_list (from_first (λ (q : PathNode). has_node set q.node) (xs ++ path_nodes_after (o + length_mm (f r)) (j + 1) (map f more)))) (after-map path_node (f r).nodes) in
      let x = g.2 in
      let y = g.3 in
      (g.0, e ∙ g.1, omega arith, omega arith)
  met_by set (a ∷ before) r more o j leads = go (met_by set before r more (o + length_mm (f a)) (j + 1) leads)
    where
      go : ((s : PathNode) × (first_of_list (from_first (λ (q : PathNode). has_node set q.node) (path_nodes_after (o + length_mm (f a)) (j + 1) (map f (before ++ r ∷ more)))) ≡ Some s) × (s.event.place ≤ o + length_mm (f a) + path_length before + first_in set (after_first (f r).nodes)) × (s.event.granted ≤ j + 1 + length before))
          → (s : PathNode) × (first_of_list (from_first (λ (q : PathNode). has_node set q.node) (path_nodes_after o j (map f (a ∷ before ++ r ∷ more)))) ≡ Some s) × (s.event.place ≤ o + path_length (a ∷ before) + first_in set (after_first (f r).nodes)) × (s.event.granted ≤ j + length (a ∷ before))
      go (s, at, x, y) =
          let path_node : NodeNo × ℤ → PathNode = λ q. record { node = q.0; event = record { granted = j; place = o + nat_abs q.1 } } in
          let e = ap (λ xs. first_of_list (from_first (λ (q : PathNode). has_node set q.node) (xs ++ path_nodes_after (o + length_mm (f a)) (j + 1) (map f (before ++ r ∷ more))))) (after-map path_node (f a).nodes) in
          let g = found_or_none set o j (after_first (f a).nodes) (path_nodes_after (o + length_mm (f a)) (j + 1) (map f (before ++ r ∷ more))) s at in
          let low = within g.0 g.2 in
          (g.0, e ∙ g.1, low.0, low.1)
        where
          within : (q : PathNode) → ((q ≡ s) ⊎ ((p : NodeNo × ℤ) × In p (after_first (f a).nodes) × (q.event.place ≡ o + nat_abs p.1) × (q.event.granted ≡ j))) → (q.event.place ≤ o + path_length (a ∷ before) + first_in set (after_first (f r).nodes)) × (q.event.granted ≤ j + length (a ∷ before))
          within q (inl same) =
              let sum = sum_by-cons length_mm (f a) (map f before) in
              let k = ap (λ (q : PathNode). q.event.place) same in
              let l = ap (λ (q : PathNode). q.event.granted) same in
              (omega arith, omega arith)
          within q (inr (p, m, k, l)) =
              let sum = sum_by-cons length_mm (f a) (map f before) in
              let in_route = (good_route d adm a).nodes_in p (in_after (f a).nodes p m) in
              (omega arith, omega arith)

  module _ (n : ℕ) (plan : List (List Command)) (well : IsWellFormed d (routes_of d) n plan) where
    -- a visit is made on a route of the train's path: not before it can be on that route, and not after its end
    pub record MadeOn (t : TrainNo) (k : ℕ) (s : PathNode) : Type 0 where
      pub before : List RouteNo
      pub route : RouteNo
      pub more : List RouteNo
      pub whole : path plan t ≡ before ++ route ∷ more
      pub may : can_visit d (routes_of d) t k route ≡ true
      pub command : s.event.granted ≡ length before + 1
      pub low : path_length before + visit_offset d t k (f route) ≤ s.event.place
      pub high : s.event.place ≤ path_length before + length_mm (f route)

    routes_in : (t : TrainNo) (p : RouteNo) → In p (path plan t) → In (f p) (routes_of d)
    routes_in t p m = (of_design d adm n plan well t (f p) (in_map f (path plan t) p m)).1

    begins : (t : TrainNo) (r : RouteNo) (ps : List RouteNo) → path plan t ≡ r ∷ ps → starts_in (first_visit (train_of d t)) (f r).start ≡ true
    begins t r ps e =
        let long = ap length e in
        let named = has_train d adm n plan well t (omega arith) in
        let all = formed_path d adm n plan well.formed t named in
        let xyz = and_left _ (all_pairs (λ r q. not (end_at_one_signal r.finish q.finish)) (path_routes (routes_of d) plan t)) all in
        let xy = and_left _ (all_pairs (λ r q. not (is_start r.start q.start)) (path_routes (routes_of d) plan t)) xyz in
        let x = and_left (begins_in (first_visit (train_of d t)) (path_routes (routes_of d) plan t)) _ xy in
        subst (λ ps. begins_in (first_visit (train_of d t)) (map f ps) ≡ true) e x

    made_first : (t : TrainNo) (sets : List (List NodeNo)) (s : PathNode) (ps : List RouteNo) → path plan t ≡ ps → entry None (visits_on sets (path_nodes (map f ps))) 1 ≡ Some s → MadeOn t 1 s
    made_first t [] s ps e h = cc
    made_first t (first ∷ later) s [] e h = cc
    made_first t (first ∷ later) s (r ∷ ps) e h =
        let m = nodes_of (f r) (routes_in t r (subst (λ xs. In r xs) (sym e) (inl refl))) in
        let path_node : NodeNo × ℤ → PathNode = λ q. record { node = q.0; event = record { granted = 1; place = 0 + nat_abs q.1 } } in
        let at : Some (path_node m.first) ≡ Some s = sym (ap (λ ns. first_of_list (map path_node ns ++ path_nodes_after (length_mm (f r)) 2 (map f ps))) m.whole) ∙ h in
        let same : path_node m.first ≡ s = cc in
        let x = ap (λ (q : PathNode). q.event.place) same in
        let y = ap (λ (q : PathNode). q.event.granted) same in
        let z = m.start in
        record { before = []; route = r; more = ps; whole = e; may = begins t r ps e; command = omega arith; low = omega arith; high = omega arith }

    first_path_node_at : (t : TrainNo) (sets : List (List NodeNo)) (s : PathNode) (ps : List RouteNo) → path plan t ≡ ps → entry None (visits_on sets (path_nodes (map f ps))) 1 ≡ Some s → (s.event.place ≡ 0) × (s.event.granted ≡ 1)
    first_path_node_at t [] s ps e h = cc
    first_path_node_at t (first ∷ later) s [] e h = cc
    first_path_node_at t (first ∷ later) s (r ∷ ps) e h =
        let m = nodes_of (f r) (routes_in t r (subst (λ xs. In r xs) (sym e) (inl refl))) in
        let path_node : NodeNo × ℤ → PathNode = λ q. record { node = q.0; event = record { granted = 1; place = 0 + nat_abs q.1 } } in
        let at : Some (path_node m.first) ≡ Some s = sym (ap (λ ns. first_of_list (map path_node ns ++ path_nodes_after (length_mm (f r)) 2 (map f ps))) m.whole) ∙ h in
        let same : path_node m.first ≡ s = cc in
        let x = ap (λ (q : PathNode). q.event.place) same in
        let y = ap (λ (q : PathNode). q.event.granted) same in
        let z = m.start in
        (omega arith, omega arith)

    -- the first visit is made at the start of the path
    pub first_made : (t : TrainNo) (s : PathNode) → entry None (visits_of_train d (routes_of d) (of_plan (routes_of d) plan) t) 1 ≡ Some s → (s.event.place ≡ 0) × (s.event.granted ≡ 1)
    first_made t s h = first_path_node_at t (train_of d t).visits s (path plan t) refl h

    made_later : (t : TrainNo) (k : ℕ) (sets : List (List NodeNo)) (s : PathNode) (ps : List RouteNo) → (train_of d t).visits ≡ sets → path plan t ≡ ps → entry None (visits_on sets (path_nodes (map f ps))) (suc (suc k)) ≡ Some s → MadeOn t (suc (suc k)) s
    made_later t k [] s ps v e h = cc
    made_later t k (first ∷ later) s [] v e h = let there = visit_there later [] k s h in absurd there.0
    made_later t k (first ∷ later) s (r ∷ ps) v e h =
        let there = visit_there later (after_first (path_nodes (map f (r ∷ ps)))) k s h in
        let m = routes_in t r (subst (λ xs. In r xs) (sym e) (inl refl)) in
        let w = stands (r ∷ ps) 0 1 s (subst (λ xs. In s xs) (after_start r ps m) there.0) in
        let here : has_node (nodes_of_visit d t (suc (suc k))) w.node.0 ≡ true = ap (λ x. has_node (nodes_of_visit d t (suc (suc k))) x) w.here ∙ (ap (λ (xs : List (List NodeNo)). has_node (slice_index_or xs (suc k) []) s.node) v ∙ there.1) in
        let on : In (f w.route) (routes_of d) = routes_in t w.route (subst (λ xs. In w.route xs) (sym (e ∙ w.whole)) (in_middle w.before w.route w.more)) in
        let ns = nodes_of (f w.route) on in
        let rest : after_first (f w.route).nodes ≡ ns.rest = ap after_first ns.whole in
        let low : first_in (nodes_of_visit d t (suc (suc k))) (after_first (f w.route).nodes) ≤ nat_abs w.node.1 =
        first_is_low d (nodes_of_visit d t (suc (suc k))) 0 (f w.route).edges (after_first (f w.route).nodes) (ap offsets rest ∙ ns.ends) w.node w.member here in
        let high = (good_route d adm w.route).nodes_in w.node (in_after (f w.route).nodes w.node w.member) in
        let x = w.offset in
        let y = w.command in
        record { before = w.before; route = w.route; more = w.more; whole = e ∙ w.whole; may = list_any_from (λ p. has_node (nodes_of_visit d t (suc (suc k))) p.0) (after_first (f w.route).nodes) w.node w.member here; command = omega arith; low = omega arith; high = omega arith }
      where
        in_middle : (xs : List RouteNo) (y : RouteNo) (zs : List RouteNo) → In y (xs ++ y ∷ zs)
        in_middle [] y zs = inl refl
        in_middle (x ∷ xs) y zs = inr (in_middle xs y zs)

    pub made_on : (t : TrainNo) (k : ℕ) (s : PathNode) → entry None (visits_of_train d (routes_of d) (of_plan (routes_of d) plan) t) k ≡ Some s → MadeOn t k s
    made_on t zero s h = cc
    made_on t (suc zero) s h = made_first t (train_of d t).visits s (path plan t) refl h
    made_on t (suc (suc k)) s h = made_later t k (train_of d t).visits s (path plan t) refl refl h

    -- the second visit is made no later than on a route that leads to it
    pub second_by : (t : TrainNo) (s : PathNode) (before : List RouteNo) (r : RouteNo) (more : List RouteNo) → path plan t ≡ before ++ r ∷ more → can_visit d (routes_of d) t 2 r ≡ true
        → entry None (visits_of_train d (routes_of d) (of_plan (routes_of d) plan) t) 2 ≡ Some s → (s.event.place ≤ path_length before + visit_offset d t 2 (f r)) × (s.event.granted ≤ length before + 1)
    second_by t s before r more e may h = go (train_of d t).visits refl (before ++ r ∷ more) refl
      where
        go : (sets : List (List NodeNo)) → (train_of d t).visits ≡ sets → (ps : List RouteNo) → before ++ r ∷ more ≡ ps → (s.event.place ≤ path_length before + visit_offset d t 2 (f r)) × (s.event.granted ≤ length before + 1)
        go [] v ps w = let none : None ≡ Some s = sym (ap (λ sets. entry None (visits_on sets (path_nodes (path_routes (routes_of d) plan t))) 2) v) ∙ h in cc
        go (first ∷ []) v ps w = let none : None ≡ Some s = sym (ap (λ sets. entry None (visits_on sets (path_nodes (path_routes (routes_of d) plan t))) 2) v) ∙ h in cc
        go (first ∷ set ∷ sets) v [] w = cc
        go (first ∷ set ∷ sets) v (q ∷ qs) w =
            let m = routes_in t q (subst (λ xs. In q xs) (sym (e ∙ w)) (inl refl)) in
            let same : set ≡ nodes_of_visit d t 2 = sym (ap (λ (xs : List (List NodeNo)). slice_index_or xs 1 []) v) in
            let g = met_by (nodes_of_visit d t 2) before r more 0 1 may in
            let at : first_of_list (from_first (λ (p : PathNode). has_node (nodes_of_visit d t 2) p.node) (after_first (path_nodes (path_routes (routes_of d) plan t)))) ≡ Some s =
            ap (λ xs. first_of_list (from_first (λ (p : PathNode). has_node xs p.node) (after_first (path_nodes (path_routes (routes_of d) plan t))))) (sym same) ∙ sym (ap (λ sets. entry None (visits_on sets (path_nodes (path_routes (routes_of d) plan t))) 2) v) ∙ h in
            let at2 : Some g.0 ≡ Some s = sym g.1 ∙ ap (λ ps. first_of_list (from_first (λ (p : PathNode). has_node (nodes_of_visit d t 2) p.node) (path_nodes_after 0 1 (map f ps)))) w ∙ sym (ap (λ xs. first_of_list (from_first (λ (p : PathNode). has_node (nodes_of_visit d t 2) p.node) xs)) (ap (λ ps. after_first (path_nodes (map f ps))) (e ∙ w) ∙ after_start q qs m)) ∙ at in
            let is : g.0 ≡ s = cc in
            let x = ap (λ (p : PathNode). p.event.place) is in
            let y = ap (λ (p : PathNode). p.event.granted) is in
            let xl = g.2 in
            let yl = g.3 in
            (omega arith, omega arith)
