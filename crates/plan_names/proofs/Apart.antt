-- The names by which routes are shown tell them apart.
use Rattle.std.proofs.Common.{◌≡◌, ℕ, ◌≤◌, ◌<◌, ◌⊎◌, inl, inr, Bool, true, false, if◌then◌else◌, List, [], ◌∷◌, ◌++◌, map, length, nat_le, refl, sym, ap, ap₂, subst, ◌∙◌, arith, true≢false, ◌==◌, ℤ, eq-eqb, eqb-true}
use Rattle.std.proofs.lemmas.Bool.{leb-false}
use Rattle.std.proofs.lemmas.List.{same_from_push}
use Rattle.rail_base.specs.declared.station.Station.{Station}
use Rattle.rail_base.specs.declared.station.End.{End}
use Rattle.rail_base.specs.declared.station.Side.TheVariants.{A, B}
use Rattle.rail_base.specs.declared.station.NodeNo.{NodeNo}
use Rattle.rail_base.specs.declared.station.EdgeNo.{EdgeNo}
use Rattle.rail_base.specs.declared.station.SignalNo.{SignalNo}
use Rattle.rail_base.specs.declared.route.Route.{Route}
use Rattle.rail_base.specs.declared.route.Start.{Start}
use Rattle.rail_base.specs.declared.route.Start.TheVariants as start
use Rattle.rail_base.specs.Admission.{is_admitted}
use Rattle.rail_base.specs.Members.{In}
use Rattle.rail_base.specs.Stations.{is_end, through, far_end, edge_of, node_of, signal_of}
use Rattle.rail_spec.specs.Track.{start_end, routes_of}
use Rattle.rail_laws.specs.Elementary.{IsAt, IsStart, LeavesBy, IsWalk, reached, EndsFirst, IsRouteOf, IsBefore, RouteBefore, start_node, start_side}
use Rattle.rail_base.proofs.Admitting.{admitted}
use Rattle.rail_base.proofs.Members.{in_filter, false_unless}
use Rattle.rail_laws.proofs.Walk.{is_end_same, is_end_refl, before_not_self}
use Rattle.rail_laws.proofs.RouteLaws.{start_leaves, start_end_is, route_is, routes_rise}
use Rattle.rail_laws.proofs.AsEdges.{told}
use Rattle.plan_names.specs.Shown.{edge_name, edge_names, direction, directed, directed_names, same_names, routes_over, is_shared, shown}
use Rattle.plan_names.proofs.EdgeNames.{same_refl, only_one, in_order, name_tells, no_direction}

-- the first edge is at this end, and all of them are a walk from it
abbrev pub Begins : Station → End → List EdgeNo → Type 0
Begins d end [] = ⊥
Begins d end (e ∷ es) = IsWalk d end (e ∷ es)

-- the byte of a direction
abbrev arrow : Bool → ℕ
arrow b = if b then 62 else 60

same_arrow : (b c : Bool) → arrow b ≡ arrow c → b ≡ c
same_arrow true true h = refl
same_arrow false false h = refl
same_arrow true false h = absurd (omega arith)
same_arrow false true h = absurd (omega arith)

at_most_one : (n : ℕ) → nat_le 2 n ≡ false → n ≤ 1
at_most_one n h = let l : n < 2 = leb-false 2 n h in omega arith

-- which way an edge is run from this end
abbrev pub way : Station → EdgeNo → End → List ℕ
way d e end = if is_end (edge_of d e).from end then 62 ∷ [] else 60 ∷ []

-- the names of edges that are run from this end on, each with its direction
abbrev pub directed_from : Station → End → List EdgeNo → List (List ℕ)
directed_from d end [] = []
directed_from d end (e ∷ es) = (edge_name d e ++ way d e end) ∷ directed_from d (through (far_end (edge_of d e) end)) es

module _ (d : Station) (adm : is_admitted d ≡ true) where
  is_arrow : (e : EdgeNo) (end : End) → way d e end ≡ arrow (is_end (edge_of d e).from end) ∷ []
  is_arrow e end = go (is_end (edge_of d e).from end)
    where
      go : (b : Bool) → (if b then 62 ∷ [] else 60 ∷ []) ≡ arrow b ∷ []
      go true = refl
      go false = refl

  two_of : (e g : EdgeNo) (a b : End) → edge_name d e ++ way d e a ≡ edge_name d g ++ way d g b
      → (edge_name d e ≡ edge_name d g) × (is_end (edge_of d e).from a ≡ is_end (edge_of d g).from b)
  two_of e g a b h =
      let moved = ap (λ t. edge_name d e ++ t) (sym (is_arrow e a)) ∙ h ∙ ap (λ t. edge_name d g ++ t) (is_arrow g b) in
      let two = same_from_push (edge_name d e) (edge_name d g) (arrow (is_end (edge_of d e).from a)) (arrow (is_end (edge_of d g).from b)) moved in
      (two.0, same_arrow (is_end (edge_of d e).from a) (is_end (edge_of d g).from b) two.1)

  same_edges : (es gs : List EdgeNo) (a b : End) → IsWalk d a es → IsWalk d b gs → directed_from d a es ≡ directed_from d b gs → es ≡ gs
  same_edges [] [] a b w v h = refl
  same_edges [] (g ∷ gs) a b w v h = absurd cc
  same_edges (e ∷ es) [] a b w v h = absurd cc
  same_edges (e ∷ es) (g ∷ gs) a b w v h =
      let head : edge_name d e ++ way d e a ≡ edge_name d g ++ way d g b = cc in
      let tail : directed_from d (through (far_end (edge_of d e) a)) es ≡ directed_from d (through (far_end (edge_of d g) b)) gs = cc in
      let one : e ≡ g = name_tells d adm e g w.0.0 v.0.0 (two_of e g a b head).0 in
      let more : es ≡ gs = same_edges es gs _ _ w.1 v.1 tail in
      cc

  -- an edge that is left for at two ends by the same direction is left for at one
  one_end : (e : EdgeNo) (a b : End) → IsAt d e a → IsAt d e b → is_end (edge_of d e).from a ≡ is_end (edge_of d e).from b → a ≡ b
  one_end e a b (k, inl f) (l, inl g) h = sym f ∙ g
  one_end e a b (k, inr f) (l, inr g) h = sym f ∙ g
  one_end e a b (k, inl f) (l, inr g) h = sym f ∙ is_end_same (edge_of d e).from b (sym h ∙ is_end_refl (edge_of d e).from a f)
  one_end e a b (k, inr f) (l, inl g) h = sym (is_end_same (edge_of d e).from a (h ∙ is_end_refl (edge_of d e).from b g)) ∙ g

  same_end : (es gs : List EdgeNo) (a b : End) → Begins d a es → Begins d b gs → directed_from d a es ≡ directed_from d b gs → a ≡ b
  same_end [] gs a b w v h = absurd w
  same_end (e ∷ es) [] a b w v h = absurd v
  same_end (e ∷ es) (g ∷ gs) a b w v h =
      let head : edge_name d e ++ way d e a ≡ edge_name d g ++ way d g b = cc in
      let two = two_of e g a b head in
      let one : e ≡ g = name_tells d adm e g w.0.0 v.0.0 two.0 in
      one_end e a b w.0 (subst (λ x. IsAt d x b) (sym one) v.0) (two.1 ∙ ap (λ x. is_end (edge_of d x).from b) (sym one))

  -- no names with directions are names of edges
  directions_differ : (es gs : List EdgeNo) (a b : End) → Begins d a es → IsWalk d b gs → directed_from d a es ≡ map (edge_name d) gs → ⊥
  directions_differ [] gs a b w v h = w
  directions_differ (e ∷ es) [] a b w v h = cc
  directions_differ (e ∷ es) (g ∷ gs) a b w v h =
      let head : edge_name d e ++ way d e a ≡ edge_name d g = cc in
      go (is_end (edge_of d e).from a) (ap (λ t. edge_name d e ++ t) (sym (is_arrow e a)) ∙ head)
    where
      go : (t : Bool) → edge_name d e ++ arrow t ∷ [] ≡ edge_name d g → ⊥
      go true h = true≢false (sym (no_direction d adm g (edge_name d e) 62 v.0.0 h))
      go false h = true≢false (sym (no_direction d adm g (edge_name d e) 60 v.0.0 h))

  -- ---- starts

  same_start : (s q : Start) → IsStart d s → IsStart d q → start_end d s ≡ start_end d q → s ≡ q
  same_start (start.Boundary m) (start.Boundary n) h k same =
      let one : m ≡ n = start_leaves d (start.Boundary m) ∙ ap (λ (e : End). e.node) same ∙ sym (start_leaves d (start.Boundary n)) in
      ap (λ (x : NodeNo). start.Boundary x) one
  same_start (start.Signal s) (start.Signal q) h k same =
      let one = (admitted d adm).signals_differ s q h k (ap (λ (e : End). e.node) same) (ap (λ (e : End). e.side) same) in
      ap (λ (x : SignalNo). start.Signal x) one
  same_start (start.Boundary n) (start.Signal s) h k same =
      let one : n ≡ (signal_of d s).node = start_leaves d (start.Boundary n) ∙ ap (λ (e : End). e.node) same in
      absurd (true≢false (sym h.1 ∙ ap (λ (x : NodeNo). (node_of d x).boundary) one ∙ ((admitted d adm).signal s k).inside))
  same_start (start.Signal s) (start.Boundary n) h k same =
      let one : n ≡ (signal_of d s).node = start_leaves d (start.Boundary n) ∙ ap (λ (e : End). e.node) (sym same) in
      absurd (true≢false (sym k.1 ∙ ap (λ (x : NodeNo). (node_of d x).boundary) one ∙ ((admitted d adm).signal s h).inside))

  -- ---- routes

  begins : (r : Route) → In r (routes_of d) → Begins d (start_end d r.start) r.edges
  begins r m = go (route_is d (admitted d adm) r m)
    where
      from : (es : List EdgeNo) (end : End) → IsStart d r.start → LeavesBy d r.start end → IsWalk d end es → EndsFirst d (reached d end es) r.finish → Begins d (start_end d r.start) es
      from [] end h l w f = f
      from (e ∷ es) end h l w f = subst (λ x. IsWalk d x (e ∷ es)) (sym (start_end_is d (admitted d adm) r.start end e h l w.0)) w

      go : IsRouteOf d r → Begins d (start_end d r.start) r.edges
      go is = from r.edges is.elementary.end is.start is.elementary.leaves is.elementary.walk is.elementary.ends

  walk_of : (end : End) (es : List EdgeNo) → Begins d end es → IsWalk d end es
  walk_of end [] b = absurd b
  walk_of end (e ∷ es) b = b

  one_route : (r q : Route) → In r (routes_of d) → In q (routes_of d) → r.start ≡ q.start → r.edges ≡ q.edges → r ≡ q
  one_route r q m n s e = go (in_order (RouteBefore d) (routes_of d) r q (routes_rise d (admitted d adm)) m n)
    where
      never : (r q : Route) → r.start ≡ q.start → r.edges ≡ q.edges → RouteBefore d r q → ⊥
      never r q s e (inl (inl less)) = let n = ap (λ (x : Start). (start_node d x).0) s in omega arith
      never r q s e (inl (inr k)) = let sides : A ≡ B = sym k.1 ∙ ap (λ (x : Start). start_side d x) s ∙ k.2 in cc
      never r q s e (inr k) = before_not_self q.edges (subst (λ es. IsBefore es q.edges) e k.1)

      go : (r ≡ q) ⊎ (RouteBefore d r q ⊎ RouteBefore d q r) → r ≡ q
      go (inl same) = same
      go (inr (inl before)) = absurd (never r q s e before)
      go (inr (inr before)) = absurd (never q r (sym s) (sym e) before)

  few : (names : List (List ℕ)) → is_shared d (routes_of d) names ≡ false → length (routes_over d (routes_of d) names) ≤ 1
  few names h = at_most_one (length (routes_over d (routes_of d) names)) h

  -- ---- the nodes of a route tell the ends

  one_way : (e : EdgeNo) (end : End) (n : NodeNo) → IsAt d e end → n ≡ end.node → direction d e n ≡ way d e end
  one_way e end n at same = ap (λ t. if t then 62 ∷ [] else 60 ∷ []) (ap (λ (x : NodeNo). (edge_of d e).from.node.0 == x.0) same ∙ go at)
    where
      go : IsAt d e end → ((edge_of d e).from.node.0 == end.node.0) ≡ is_end (edge_of d e).from end
      go (k, inl f) = eq-eqb (edge_of d e).from.node.0 end.node.0 (ap (λ (x : End). x.node.0) f) ∙ sym (is_end_refl (edge_of d e).from end f)
      go (k, inr f) =
          false_unless ((edge_of d e).from.node.0 == end.node.0) (λ t. apart (eqb-true (edge_of d e).from.node.0 end.node.0 t))
          ∙ sym (false_unless (is_end (edge_of d e).from end) (λ t. apart (ap (λ (x : End). x.node.0) (is_end_same (edge_of d e).from end t))))
        where
          apart : (edge_of d e).from.node.0 ≡ end.node.0 → ⊥
          apart h = ((admitted d adm).edge e k).apart (ap (λ (x : ℕ). let m : NodeNo = record { 0 = x } in m) (h ∙ ap (λ (x : End). x.node.0) (sym f)))

  as_walk : (es : List EdgeNo) (ns : List (NodeNo × ℤ)) (end : End) → IsWalk d end es
      → map (λ (n : NodeNo × ℤ). n.0) ns ≡ end.node ∷ map (λ (e : End). e.node) (reached d end es) → directed d es ns ≡ directed_from d end es
  as_walk [] [] end w h = refl
  as_walk [] (n ∷ ns) end w h = refl
  as_walk (e ∷ es) [] end w h = absurd cc
  as_walk (e ∷ es) (n ∷ ns) end w h =
      let head : n.0 ≡ end.node = cc in
      let tail : map (λ (n : NodeNo × ℤ). n.0) ns ≡ (far_end (edge_of d e) end).node ∷ map (λ (e : End). e.node) (reached d (through (far_end (edge_of d e) end)) es) = cc in
      ap₂ (λ t ts. (edge_name d e ++ t) ∷ ts) (one_way e end n.0 w.0 head) (as_walk es ns (through (far_end (edge_of d e) end)) w.1 tail)

  by_walk : (r : Route) → In r (routes_of d) → directed_names d r ≡ directed_from d (start_end d r.start) r.edges
  by_walk r m =
      let walk = walk_of (start_end d r.start) r.edges (begins r m) in
      as_walk r.edges r.nodes (start_end d r.start) walk ((told d (admitted d adm) r m).nodes_are (start_end d r.start) (start_leaves d r.start) walk)

  pub shown_apart : (r q : Route) → In r (routes_of d) → In q (routes_of d) → shown d (routes_of d) r ≡ shown d (routes_of d) q → r ≡ q
  shown_apart r q m n same = go (is_shared d (routes_of d) (edge_names d r)) (is_shared d (routes_of d) (edge_names d q)) refl refl same
    where
      go : (b c : Bool) → is_shared d (routes_of d) (edge_names d r) ≡ b → is_shared d (routes_of d) (edge_names d q) ≡ c
          → (if b then directed_names d r else edge_names d r) ≡ (if c then directed_names d q else edge_names d q) → r ≡ q
      go false false k l h = only_one (routes_over d (routes_of d) (edge_names d q)) r q
          (in_filter (λ x. same_names (edge_names d x) (edge_names d q)) (routes_of d) r m (subst (λ x. same_names (edge_names d r) x ≡ true) h (same_refl (edge_names d r))))
          (in_filter (λ x. same_names (edge_names d x) (edge_names d q)) (routes_of d) q n (same_refl (edge_names d q)))
          (few (edge_names d q) l)
      go true true k l g =
          let h = sym (by_walk r m) ∙ g ∙ by_walk q n in
          let one = begins r m in
          let two = begins q n in
          let route = route_is d (admitted d adm) r m in
          let other = route_is d (admitted d adm) q n in
          one_route r q m n (same_start r.start q.start route.start other.start (same_end r.edges q.edges (start_end d r.start) (start_end d q.start) one two h))
          (same_edges r.edges q.edges (start_end d r.start) (start_end d q.start) (walk_of _ r.edges one) (walk_of _ q.edges two) h)
      go true false k l h = absurd (directions_differ r.edges q.edges (start_end d r.start) (start_end d q.start) (begins r m) (walk_of _ q.edges (begins q n)) (sym (by_walk r m) ∙ h))
      go false true k l h = absurd (directions_differ q.edges r.edges (start_end d q.start) (start_end d r.start) (begins q n) (walk_of _ r.edges (begins r m)) (sym (by_walk q n) ∙ sym h))
