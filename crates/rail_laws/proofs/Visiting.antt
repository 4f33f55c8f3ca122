-- Where visits are made on a path, and what more of the path leaves as it is.
use Rattle.std.proofs.Common.{◌≡◌, ℕ, zero, suc, ◌+◌, ◌≤◌, ◌<◌, ◌⊎◌, inl, inr, Bool, true, false, if◌then◌else◌, List, [], ◌∷◌, ◌++◌, take, length, Option, Some, None, sum_by, ℤ, nat_abs, refl, sym, ap, subst, ◌∙◌, arith, append_assoc}
use Rattle.std.proofs.lemmas.List.Sums.{sum_by-cons}
use Rattle.rail_base.specs.declared.station.NodeNo.{NodeNo}
use Rattle.rail_base.specs.declared.route.Route.{Route}
use Rattle.rail_base.specs.declared.state.PathNode.{PathNode}
use Rattle.rail_base.specs.Members.{In, Pairs}
use Rattle.rail_base.specs.Numbering.{from_first, first_of_list, after_first}
use Rattle.rail_spec.specs.Plans.{length_mm, has_node}
use Rattle.rail_spec.specs.Places.{path_nodes_of, path_nodes_after, path_nodes, visits_at, visits_on}
use Rattle.rail_base.proofs.Lists.{in_append, in_map_back, pairs_append, pairs_map}
use Rattle.rail_laws.specs.Standing.{NodesRise}

pub in_take : {X : Type 0} (g : ℕ) (xs : List X) (x : X) → In x (take g xs) → In x xs
in_take zero xs x m = absurd m
in_take (suc g) [] x m = m
in_take (suc g) (y ∷ ys) x (inl e) = inl e
in_take (suc g) (y ∷ ys) x (inr m) = inr (in_take g ys x m)

-- ---- the nodes of a path lie on it

abbrev pub NodesIn : List Route → Type 0
NodesIn rs = (r : Route) → In r rs → (p : NodeNo × ℤ) → In p r.nodes → nat_abs p.1 ≤ length_mm r

pub in_after : {X : Type 0} (xs : List X) (x : X) → In x (after_first xs) → In x xs
in_after [] x m = m
in_after (y ∷ ys) x m = inr m

pub in_from : {X : Type 0} (test : X → Bool) (xs : List X) (x : X) → In x (from_first test xs) → In x xs
in_from test [] x m = m
in_from {X} test (y ∷ ys) x m = go (test y) m (in_from test ys x)
  where
    go : (b : Bool) → In x (if b then y ∷ ys else from_first test ys) → (In x (from_first test ys) → In x ys) → In x (y ∷ ys)
    go true k later = k
    go false k later = inr (later k)

in_path_nodes_of : (o j : ℕ) (r : Route) → ((p : NodeNo × ℤ) → In p r.nodes → nat_abs p.1 ≤ length_mm r) → (s : PathNode) → In s (path_nodes_of o j r) → (s.event.place ≤ o + length_mm r) × (s.event.granted ≡ j)
in_path_nodes_of o j r good s m = go (in_map_back (λ (p : NodeNo × ℤ). let t : PathNode = record { node = p.0; event = record { granted = j; place = o + nat_abs p.1 } } in t) r.nodes s m)
  where
    go : ((p : NodeNo × ℤ) × In p r.nodes × (record { node = p.0; event = record { granted = j; place = o + nat_abs p.1 } } ≡ s)) → (s.event.place ≤ o + length_mm r) × (s.event.granted ≡ j)
    go (p, k, e) = let l = good p k in let n : o + nat_abs p.1 ≡ s.event.place = ap (λ (t : PathNode). t.event.place) e in (omega arith, sym (ap (λ (t : PathNode). t.event.granted) e))

in_path_nodes_after : (rs : List Route) (o j : ℕ) → NodesIn rs → (s : PathNode) → In s (path_nodes_after o j rs) → (s.event.place ≤ o + sum_by length_mm rs) × (s.event.granted < j + length rs)
in_path_nodes_after [] o j good s m = absurd m
in_path_nodes_after (r ∷ rs) o j good s m = go (in_append s (after_first (path_nodes_of o j r)) (path_nodes_after (o + length_mm r) (j + 1) rs) m) (in_path_nodes_after rs (o + length_mm r) (j + 1) (λ q k. good q (inr k)) s)
  where
    go : In s (after_first (path_nodes_of o j r)) ⊎ In s (path_nodes_after (o + length_mm r) (j + 1) rs) → (In s (path_nodes_after (o + length_mm r) (j + 1) rs) → (s.event.place ≤ o + length_mm r + sum_by length_mm rs) × (s.event.granted < j + 1 + length rs)) → (s.event.place ≤ o + sum_by length_mm (r ∷ rs)) × (s.event.granted < j + length (r ∷ rs))
    go (inl k) later = let l = in_path_nodes_of o j r (good r (inl refl)) s (in_after _ s k) in let a = l.0 in let b = l.1 in let w = sum_by-cons length_mm r rs in (omega arith, omega arith)
    go (inr k) later = let l = later k in let a = l.0 in let b = l.1 in let w = sum_by-cons length_mm r rs in (omega arith, omega arith)

pub in_path_nodes : (rs : List Route) → NodesIn rs → (s : PathNode) → In s (path_nodes rs) → (s.event.place ≤ sum_by length_mm rs) × (s.event.granted ≤ length rs)
in_path_nodes [] good s m = absurd m
in_path_nodes (r ∷ rs) good s m = go (in_append s (path_nodes_of 0 1 r) (path_nodes_after (length_mm r) 2 rs) m)
  where
    go : In s (path_nodes_of 0 1 r) ⊎ In s (path_nodes_after (length_mm r) 2 rs) → (s.event.place ≤ sum_by length_mm (r ∷ rs)) × (s.event.granted ≤ length (r ∷ rs))
    go (inl k) = let l = in_path_nodes_of 0 1 r (good r (inl refl)) s k in let a = l.0 in let b = l.1 in let w = sum_by-cons length_mm r rs in (omega arith, omega arith)
    go (inr k) = let l = in_path_nodes_after rs (length_mm r) 2 (λ q i. good q (inr i)) s k in let a = l.0 in let b = l.1 in let w = sum_by-cons length_mm r rs in (omega arith, omega arith)

-- ---- visits are made at nodes of the path

pub in_visits_at : (sets : List (List NodeNo)) (ps : List PathNode) (s : PathNode) → In (Some s) (visits_at sets ps) → In s ps
in_visits_at [] ps s m = absurd m
in_visits_at (set ∷ sets) ps s (inl e) = in_from (λ p. has_node set p.node) ps s (first (from_first (λ p. has_node set p.node) ps) e)
  where
    first : (xs : List PathNode) → first_of_list xs ≡ Some s → In s xs
    first [] h = cc
    first (x ∷ xs) h = inl cc
in_visits_at (set ∷ sets) ps s (inr m) = in_from (λ p. has_node set p.node) ps s (in_after (from_first (λ p. has_node set p.node) ps) s (in_visits_at sets (after_first (from_first (λ p. has_node set p.node) ps)) s m))

pub in_visits_on : (sets : List (List NodeNo)) (ps : List PathNode) (s : PathNode) → In (Some s) (visits_on sets ps) → In s ps
in_visits_on [] ps s m = absurd m
in_visits_on (set ∷ sets) ps s (inr m) = in_after ps s (in_visits_at sets (after_first ps) s m)
in_visits_on (set ∷ sets) ps s (inl e) = first ps e
  where
    first : (xs : List PathNode) → first_of_list xs ≡ Some s → In s xs
    first [] h = cc
    first (x ∷ xs) h = inl cc

-- ---- the nodes of a path stand in order of their places

abbrev pub IsUpTo : PathNode → PathNode → Type 0
IsUpTo a b = a.event.place ≤ b.event.place

abbrev pub Rises : List PathNode → Type 0
Rises ps = Pairs IsUpTo ps

up_to : (a b c : ℕ) → a ≤ b → b ≤ c → a ≤ c
up_to a b c l k = omega arith

in_path_nodes_from : (o j : ℕ) (r : Route) (s : PathNode) → In s (path_nodes_of o j r) → o ≤ s.event.place
in_path_nodes_from o j r s m = go (in_map_back (λ (p : NodeNo × ℤ). let t : PathNode = record { node = p.0; event = record { granted = j; place = o + nat_abs p.1 } } in t) r.nodes s m)
  where
    go : ((p : NodeNo × ℤ) × In p r.nodes × (record { node = p.0; event = record { granted = j; place = o + nat_abs p.1 } } ≡ s)) → o ≤ s.event.place
    go (p, k, e) = let n : o + nat_abs p.1 ≡ s.event.place = ap (λ (t : PathNode). t.event.place) e in omega arith

in_path_nodes_beyond : (rs : List Route) (o j : ℕ) (s : PathNode) → In s (path_nodes_after o j rs) → o ≤ s.event.place
in_path_nodes_beyond [] o j s m = absurd m
in_path_nodes_beyond (r ∷ rs) o j s m = go (in_append s (after_first (path_nodes_of o j r)) (path_nodes_after (o + length_mm r) (j + 1) rs) m) (in_path_nodes_beyond rs (o + length_mm r) (j + 1) s)
  where
    go : In s (after_first (path_nodes_of o j r)) ⊎ In s (path_nodes_after (o + length_mm r) (j + 1) rs) → (In s (path_nodes_after (o + length_mm r) (j + 1) rs) → o + length_mm r ≤ s.event.place) → o ≤ s.event.place
    go (inl k) later = in_path_nodes_from o j r s (in_after (path_nodes_of o j r) s k)
    go (inr k) later = let l = later k in omega arith

rises_after : (ps : List PathNode) → Rises ps → Rises (after_first ps)
rises_after [] h = tt
rises_after (p ∷ ps) h = h.1

rises_from : (test : PathNode → Bool) (ps : List PathNode) → Rises ps → Rises (from_first test ps)
rises_from test [] h = tt
rises_from test (p ∷ ps) h = go (test p) (rises_from test ps h.1)
  where
    go : (b : Bool) → Rises (from_first test ps) → Rises (if b then p ∷ ps else from_first test ps)
    go true k = h
    go false k = k

route_rises : (o j : ℕ) (r : Route) → NodesRise r → Rises (path_nodes_of o j r)
route_rises o j r h = pairs_map IsUpTo (λ (a b : NodeNo × ℤ). nat_abs a.1 ≤ nat_abs b.1) (λ (p : NodeNo × ℤ). let t : PathNode = record { node = p.0; event = record { granted = j; place = o + nat_abs p.1 } } in t) r.nodes over h
  where
    over : (a b : NodeNo × ℤ) → nat_abs a.1 ≤ nat_abs b.1 → o + nat_abs a.1 ≤ o + nat_abs b.1
    over a b l = omega arith

abbrev pub AllRise : List Route → Type 0
AllRise rs = (r : Route) → In r rs → NodesRise r

rises_beyond : (rs : List Route) (o j : ℕ) → NodesIn rs → AllRise rs → Rises (path_nodes_after o j rs)
rises_beyond [] o j good rise = tt
rises_beyond (r ∷ rs) o j good rise =
    pairs_append IsUpTo (after_first (path_nodes_of o j r)) (path_nodes_after (o + length_mm r) (j + 1) rs)
    (rises_after (path_nodes_of o j r) (route_rises o j r (rise r (inl refl))))
    (rises_beyond rs (o + length_mm r) (j + 1) (λ q m. good q (inr m)) (λ q m. rise q (inr m)))
    (λ a b m n. up_to a.event.place (o + length_mm r) b.event.place (in_path_nodes_of o j r (good r (inl refl)) a (in_after (path_nodes_of o j r) a m)).0 (in_path_nodes_beyond rs (o + length_mm r) (j + 1) b n))

pub path_rises : (rs : List Route) → NodesIn rs → AllRise rs → Rises (path_nodes rs)
path_rises [] good rise = tt
path_rises (r ∷ rs) good rise =
    pairs_append IsUpTo (path_nodes_of 0 1 r) (path_nodes_after (length_mm r) 2 rs)
    (route_rises 0 1 r (rise r (inl refl)))
    (rises_beyond rs (length_mm r) 2 (λ q m. good q (inr m)) (λ q m. rise q (inr m)))
    (λ a b m n. up_to a.event.place (0 + length_mm r) b.event.place (in_path_nodes_of 0 1 r (good r (inl refl)) a m).0 (let l = in_path_nodes_beyond rs (length_mm r) 2 b n in omega arith))

-- ---- so do the places at which visits are made

-- the one is made no later on the path than the other, and if the other is made so is the one
abbrev pub NoLater : Option PathNode → Option PathNode → Type 0
NoLater (Some a) (Some b) = a.event.place ≤ b.event.place
NoLater None (Some b) = ⊥
NoLater (Some a) None = Unit {0}
NoLater None None = Unit {0}

pub later_not : (a : Option PathNode) → NoLater a None
later_not (Some a) = tt
later_not None = tt

pub later_same : (a : Option PathNode) → NoLater a a
later_same (Some a) = omega arith
later_same None = tt

visits_rise_at : (sets : List (List NodeNo)) (ps : List PathNode) → Rises ps → Pairs NoLater (visits_at sets ps)
visits_rise_at [] ps h = tt
visits_rise_at (set ∷ sets) ps h =
    let here = from_first (λ (p : PathNode). has_node set p.node) ps in
    (first here (rises_from (λ (p : PathNode). has_node set p.node) ps h), visits_rise_at sets (after_first here) (rises_after here (rises_from (λ (p : PathNode). has_node set p.node) ps h)))
  where
    first : (qs : List PathNode) → Rises qs → (o : Option PathNode) → In o (visits_at sets (after_first qs)) → NoLater (first_of_list qs) o
    first [] k None m = tt
    first [] k (Some b) m = absurd (in_visits_at sets [] b m)
    first (q ∷ qs) k None m = tt
    first (q ∷ qs) k (Some b) m = k.0 b (in_visits_at sets qs b m)

pub visits_rise : (sets : List (List NodeNo)) (ps : List PathNode) → Rises ps → Pairs NoLater (visits_on sets ps)
visits_rise [] ps h = tt
visits_rise (set ∷ sets) ps h = (first ps h, visits_rise_at sets (after_first ps) (rises_after ps h))
  where
    first : (qs : List PathNode) → Rises qs → (o : Option PathNode) → In o (visits_at sets (after_first qs)) → NoLater (first_of_list qs) o
    first [] k None m = tt
    first [] k (Some b) m = absurd (in_visits_at sets [] b m)
    first (q ∷ qs) k None m = tt
    first (q ∷ qs) k (Some b) m = k.0 b (in_visits_at sets qs b m)

-- ---- where more routes follow

-- what is behind the nodes of some routes lies past their end
longer_after : (rs qs : List Route) (o j : ℕ) → (more : List PathNode) × (path_nodes_after o j (rs ++ qs) ≡ path_nodes_after o j rs ++ more) × ((s : PathNode) → In s more → o + sum_by length_mm rs ≤ s.event.place)
longer_after [] qs o j = (path_nodes_after o j qs, refl, λ s m. let l = in_path_nodes_beyond qs o j s m in omega arith)
longer_after (r ∷ rs) qs o j = go (longer_after rs qs (o + length_mm r) (j + 1))
  where
    go : ((more : List PathNode) × (path_nodes_after (o + length_mm r) (j + 1) (rs ++ qs) ≡ path_nodes_after (o + length_mm r) (j + 1) rs ++ more) × ((s : PathNode) → In s more → o + length_mm r + sum_by length_mm rs ≤ s.event.place))
        → (more : List PathNode) × (path_nodes_after o j ((r ∷ rs) ++ qs) ≡ path_nodes_after o j (r ∷ rs) ++ more) × ((s : PathNode) → In s more → o + sum_by length_mm (r ∷ rs) ≤ s.event.place)
    go (more, e, past) = (
      more,
      ap (λ zs. after_first (path_nodes_of o j r) ++ zs) e ∙ sym (append_assoc (after_first (path_nodes_of o j r)) (path_nodes_after (o + length_mm r) (j + 1) rs) more),
      λ s m. let l = past s m in let w = sum_by-cons length_mm r rs in omega arith,
    )

pub longer_path : (rs qs : List Route) → (more : List PathNode) × (path_nodes (rs ++ qs) ≡ path_nodes rs ++ more) × ((s : PathNode) → In s more → sum_by length_mm rs ≤ s.event.place)
longer_path [] qs = (path_nodes qs, refl, λ s m. omega arith)
longer_path (r ∷ rs) qs = go (longer_after rs qs (length_mm r) 2)
  where
    go : ((more : List PathNode) × (path_nodes_after (length_mm r) 2 (rs ++ qs) ≡ path_nodes_after (length_mm r) 2 rs ++ more) × ((s : PathNode) → In s more → length_mm r + sum_by length_mm rs ≤ s.event.place))
        → (more : List PathNode) × (path_nodes ((r ∷ rs) ++ qs) ≡ path_nodes (r ∷ rs) ++ more) × ((s : PathNode) → In s more → sum_by length_mm (r ∷ rs) ≤ s.event.place)
    go (more, e, past) = (
      more,
      ap (λ zs. path_nodes_of 0 1 r ++ zs) e ∙ sym (append_assoc (path_nodes_of 0 1 r) (path_nodes_after (length_mm r) 2 rs) more),
      λ s m. let l = past s m in let w = sum_by-cons length_mm r rs in omega arith,
    )

-- a visit that is made stays where it is, and one that is not may come to be made on what is new
abbrev pub Grown : List PathNode → Option PathNode → Option PathNode → Type 0
Grown more (Some a) b = b ≡ Some a
Grown more None (Some b) = In b more
Grown more None None = Unit {0}

abbrev pub AllGrown : List PathNode → List (Option PathNode) → List (Option PathNode) → Type 0
AllGrown more [] [] = Unit {0}
AllGrown more (x ∷ xs) (y ∷ ys) = Grown more x y × AllGrown more xs ys
AllGrown more [] (y ∷ ys) = ⊥
AllGrown more (x ∷ xs) [] = ⊥

grown_first : (more qs : List PathNode) → ((s : PathNode) → In s qs → In s more) → Grown more None (first_of_list qs)
grown_first more [] h = tt
grown_first more (q ∷ qs) h = h q (inl refl)

grown_from_none : (more : List PathNode) (sets : List (List NodeNo)) (qs : List PathNode) → ((s : PathNode) → In s qs → In s more) → AllGrown more (visits_at sets []) (visits_at sets qs)
grown_from_none more [] qs h = tt
grown_from_none more (set ∷ sets) qs h =
    let here = from_first (λ (p : PathNode). has_node set p.node) qs in (
      grown_first more here (λ s m. h s (in_from (λ (p : PathNode). has_node set p.node) qs s m)),
      grown_from_none more sets (after_first here) (λ s m. h s (in_from (λ (p : PathNode). has_node set p.node) qs s (in_after here s m))),
    )

-- the list from its first member that passes, where more is put behind it
abbrev Found : (PathNode → Bool) → List PathNode → List PathNode → List PathNode → List PathNode → Type 0
Found test more ps short long =
    ((short ≡ []) × (long ≡ from_first test more)) ⊎ ((n : PathNode) × (ns : List PathNode) × (short ≡ n ∷ ns) × (long ≡ n ∷ (ns ++ more)))

found_longer : (test : PathNode → Bool) (ps more : List PathNode) → Found test more ps (from_first test ps) (from_first test (ps ++ more))
found_longer test [] more = inl (refl, refl)
found_longer test (p ∷ ps) more = go (test p) (found_longer test ps more)
  where
    go : (b : Bool) → Found test more ps (from_first test ps) (from_first test (ps ++ more)) → Found test more ps (if b then p ∷ ps else from_first test ps) (if b then p ∷ (ps ++ more) else from_first test (ps ++ more))
    go true later = inr (p, ps, refl, refl)
    go false later = later

grown_at : (sets : List (List NodeNo)) (ps more : List PathNode) → AllGrown more (visits_at sets ps) (visits_at sets (ps ++ more))
grown_at [] ps more = tt
grown_at (set ∷ sets) ps more = go (from_first (λ (p : PathNode). has_node set p.node) ps) (from_first (λ (p : PathNode). has_node set p.node) (ps ++ more)) (found_longer (λ (p : PathNode). has_node set p.node) ps more) (λ ns. grown_at sets ns more)
  where
    go : (short long : List PathNode) → Found (λ (p : PathNode). has_node set p.node) more ps short long → ((ns : List PathNode) → AllGrown more (visits_at sets ns) (visits_at sets (ns ++ more)))
        → AllGrown more (first_of_list short ∷ visits_at sets (after_first short)) (first_of_list long ∷ visits_at sets (after_first long))
    go short long (inl (e, f)) later =
        subst (λ zs. AllGrown more (first_of_list zs ∷ visits_at sets (after_first zs)) (first_of_list long ∷ visits_at sets (after_first long))) (sym e)
        (subst (λ zs. AllGrown more (None ∷ visits_at sets []) (first_of_list zs ∷ visits_at sets (after_first zs))) (sym f) (grown_from_none more (set ∷ sets) more (λ s m. m)))
    go short long (inr (n, ns, e, f)) later =
        subst (λ zs. AllGrown more (first_of_list zs ∷ visits_at sets (after_first zs)) (first_of_list long ∷ visits_at sets (after_first long))) (sym e)
        (subst (λ zs. AllGrown more (Some n ∷ visits_at sets ns) (first_of_list zs ∷ visits_at sets (after_first zs))) (sym f) (refl, later ns))

pub visits_grown : (sets : List (List NodeNo)) (ps more : List PathNode) → AllGrown more (visits_on sets ps) (visits_on sets (ps ++ more))
visits_grown [] ps more = tt
visits_grown (set ∷ sets) [] more = (grown_first more more (λ s m. m), grown_from_none more sets (after_first more) (λ s m. in_after more s m))
visits_grown (set ∷ sets) (p ∷ ps) more = (refl, grown_at sets ps more)
