-- The routes of a design are its elementary routes, in their order.
use Rattle.std.proofs.Common.{◌≡◌, ℕ, ◌+◌, ◌≤◌, ◌<◌, ◌⊎◌, inl, inr, Bool, true, false, if◌then◌else◌, List, [], ◌∷◌, ◌++◌, map, flat_map, length, refl, sym, ap, subst, ◌∙◌, arith}
use Rattle.rail_base.specs.declared.station.Station.{Station}
use Rattle.rail_base.specs.declared.station.End.{End}
use Rattle.rail_base.specs.declared.station.Side.{Side}
use Rattle.rail_base.specs.declared.station.Side.TheVariants.{A, B}
use Rattle.rail_base.specs.declared.station.NodeNo.{NodeNo}
use Rattle.rail_base.specs.declared.station.EdgeNo.{EdgeNo}
use Rattle.rail_base.specs.declared.station.SignalNo.{SignalNo}
use Rattle.rail_base.specs.declared.route.Route.{Route}
use Rattle.rail_base.specs.declared.route.Start.{Start}
use Rattle.rail_base.specs.declared.route.Start.TheVariants as start
use Rattle.rail_base.specs.declared.route.Finish.{Finish}
use Rattle.rail_base.specs.Numbering.{one_to}
use Rattle.rail_base.specs.Members.{In, Pairs, Differ}
use Rattle.rail_base.specs.Stations.{through, edge_of, node_of, signal_of, leave, far_end, IsEdge, IsNode}
use Rattle.rail_spec.specs.Track.{signals_at, is_empty, starts_at, starts, start_end, Walk, Whole, RepeatsEdge, walks, walks_from, route_of, route_from, routes_of}
use Rattle.rail_laws.specs.Elementary.{IsAt, Governs, IsStart, LeavesBy, IsWalk, reached, EndsFirst, IsElementary, IsRouteOf, start_node, StartsBefore, RouteBefore}
use Rattle.rail_base.specs.Admitted.{IsAdmitted, ends_a, ends_b}
use Rattle.rail_base.proofs.Lists.{in_append, in_append_left, in_append_right, in_map, in_map_back, in_flat_map, in_flat_map_back, in_count, in_count_back, pairs_append, pairs_flat_map, pairs_map, pairs_count, pairs_more}
use Rattle.rail_laws.proofs.Counting.{at_most}
use Rattle.rail_laws.proofs.Walk.{leave_from_at, governs_from, signals_from, signals_rise, Found, found, listed, ClosesBefore, walks_rise, is_empty_some, length_empty, length_some, before_not_self}

module _ (d : Station) where
  abbrev starts_of : ℕ → List Start
  starts_of n = starts_at d (record { 0 = n })

  abbrev at_a : NodeNo → End
  at_a n = record { node = n; side = A }

  abbrev at_b : NodeNo → End
  at_b n = record { node = n; side = B }

  abbrev signal_start : SignalNo → Start
  signal_start s = start.Signal s

  -- where routes start at a node
  abbrev starts_with : Bool → NodeNo → List Start
  starts_with b n = if b then start.Boundary n ∷ [] else map signal_start (signals_at d (at_a n) ++ signals_at d (at_b n))

  starts_back : (n : NodeNo) (s : Start) → IsNode d n → In s (starts_at d n) → IsStart d s × (start_node d s ≡ n)
  starts_back n s good m = go (node_of d n).boundary refl m
    where
      by_signal : ((q : SignalNo) × In q (signals_at d (at_a n) ++ signals_at d (at_b n)) × (signal_start q ≡ s)) → IsStart d s × (start_node d s ≡ n)
      by_signal (q, k, e) = which (in_append q (signals_at d (at_a n)) (signals_at d (at_b n)) k)
        where
          which : In q (signals_at d (at_a n)) ⊎ In q (signals_at d (at_b n)) → IsStart d s × (start_node d s ≡ n)
          which (inl i) = let g = governs_from d (at_a n) q i in subst (λ w. IsStart d w × (start_node d w ≡ n)) e (g.0, g.1)
          which (inr i) = let g = governs_from d (at_b n) q i in subst (λ w. IsStart d w × (start_node d w ≡ n)) e (g.0, g.1)

      go : (b : Bool) → (node_of d n).boundary ≡ b → In s (starts_with b n) → IsStart d s × (start_node d s ≡ n)
      go true e (inl k) = subst (λ w. IsStart d w × (start_node d w ≡ n)) k ((good, e), refl)
      go true e (inr k) = absurd k
      go false e k = by_signal (in_map_back signal_start (signals_at d (at_a n) ++ signals_at d (at_b n)) s k)

  pub starts_tell : (s : Start) → In s (starts d) → IsStart d s
  starts_tell s m = go (in_flat_map_back starts_of (one_to (length d.nodes)) s m)
    where
      go : ((n : ℕ) × In n (one_to (length d.nodes)) × In s (starts_of n)) → IsStart d s
      go (n, k, i) = let c = in_count_back 1 (length d.nodes) n k in (starts_back (record { 0 = n }) s (c.0, let u = c.1 in omega arith) i).0

  pub starts_from : IsAdmitted d → (s : Start) → IsStart d s → In s (starts d)
  starts_from adm (start.Boundary n) h =
      in_flat_map starts_of (one_to (length d.nodes)) n.0 (start.Boundary n) (let l = h.0.0 in let u = h.0.1 in in_count 1 (length d.nodes) n.0 l (omega arith))
      (subst (λ b. In (start.Boundary n) (starts_with b n)) (sym h.1) (inl refl))
  starts_from adm (start.Signal s) h =
      in_flat_map starts_of (one_to (length d.nodes)) (signal_of d s).node.0 (start.Signal s) (let l = (adm.signal s h).node.0 in let u = (adm.signal s h).node.1 in in_count 1 (length d.nodes) (signal_of d s).node.0 l (omega arith))
      (subst (λ b. In (start.Signal s) (starts_with b (signal_of d s).node)) (sym (adm.signal s h).inside)
      (in_map signal_start _ s (side (signal_of d s).toward refl)))
    where
      side : (z : Side) → (signal_of d s).toward ≡ z → In s (signals_at d (at_a (signal_of d s).node) ++ signals_at d (at_b (signal_of d s).node))
      side A e = in_append_left s _ (signals_at d (at_b (signal_of d s).node)) (signals_from d (at_a (signal_of d s).node) s (h, refl, e))
      side B e = in_append_right s (signals_at d (at_a (signal_of d s).node)) _ (signals_from d (at_b (signal_of d s).node) s (h, refl, e))

  starts_rise : IsAdmitted d → Pairs (StartsBefore d) (starts d)
  starts_rise adm = pairs_flat_map (λ (m n : ℕ). m < n) (StartsBefore d) starts_of (one_to (length d.nodes)) (pairs_count 1 (length d.nodes)) (λ n m. each (record { 0 = n }) (node_of d (record { 0 = n })).boundary)
      (λ a b y z m n less i j. inl (lower a b y z less (starts_back (record { 0 = a }) y (numbered a m) i).1 (starts_back (record { 0 = b }) z (numbered b n) j).1))
    where
      numbered : (a : ℕ) → In a (one_to (length d.nodes)) → IsNode d (record { 0 = a })
      numbered a m = let c = in_count_back 1 (length d.nodes) a m in (c.0, let u = c.1 in omega arith)

      lower : (a b : ℕ) (y z : Start) → a < b → start_node d y ≡ record { 0 = a } → start_node d z ≡ record { 0 = b } → (start_node d y).0 < (start_node d z).0
      lower a b y z less e f = let p = ap (λ (n : NodeNo). n.0) e in let q = ap (λ (n : NodeNo). n.0) f in omega arith

      alone : (n : NodeNo) (end : End) → Pairs (λ (s q : SignalNo). StartsBefore d (start.Signal s) (start.Signal q)) (signals_at d end)
      alone n end = pairs_more (λ (s q : SignalNo). s.0 < q.0) (λ (s q : SignalNo). StartsBefore d (start.Signal s) (start.Signal q)) (signals_at d end) (λ s q i j less. not_two s q less (governs_from d end s i) (governs_from d end q j)) (signals_rise d end)
        where
          not_two : (s q : SignalNo) → s.0 < q.0 → Governs d s end → Governs d q end → StartsBefore d (start.Signal s) (start.Signal q)
          not_two s q less g h = let same = adm.signals_differ s q g.0 h.0 (g.1 ∙ sym h.1) (g.2 ∙ sym h.2) in let number = ap (λ (x : SignalNo). x.0) same in absurd (omega arith)

      each : (n : NodeNo) (b : Bool) → Pairs (StartsBefore d) (starts_with b n)
      each n true = (λ y k. absurd k, tt)
      each n false = pairs_map (StartsBefore d) (λ (s q : SignalNo). StartsBefore d (start.Signal s) (start.Signal q)) signal_start (signals_at d (at_a n) ++ signals_at d (at_b n)) (λ a b h. h)
          (pairs_append _ (signals_at d (at_a n)) (signals_at d (at_b n)) (alone n (at_a n)) (alone n (at_b n)) (λ s q i j. inr (sides s q (governs_from d (at_a n) s i) (governs_from d (at_b n) q j))))
        where
          sides : (s q : SignalNo) → Governs d s (at_a n) → Governs d q (at_b n) → ((signal_of d s).node ≡ (signal_of d q).node) × ((signal_of d s).toward ≡ A) × ((signal_of d q).toward ≡ B)
          sides s q g h = (g.1 ∙ sym h.1, g.2, h.2)

  -- ---- the end of a start

  pub start_leaves : (s : Start) → LeavesBy d s (start_end d s)
  start_leaves (start.Signal s) = (refl, refl)
  start_leaves (start.Boundary n) = go (is_empty (leave d (at_a n)))
    where
      go : (b : Bool) → n ≡ (if b then at_b n else at_a n).node
      go true = refl
      go false = refl

  -- a boundary has one edge end, so its routes leave by that
  pub start_end_is : IsAdmitted d → (s : Start) (end : End) (e : EdgeNo) → IsStart d s → LeavesBy d s end → IsAt d e end → start_end d s ≡ end
  start_end_is adm (start.Signal s) end e h l at = ap (λ (n : NodeNo). let e : End = record { node = n; side = (signal_of d s).toward } in e) l.0 ∙ ap (λ (z : Side). let e : End = record { node = end.node; side = z } in e) l.1
  start_end_is adm (start.Boundary n) end e h l at = side end.side end.node refl l (leave_from_at d end e at)
    where
      one : ends_a d n + ends_b d n ≡ 1
      one = (adm.node n h.0).one_end h.1

      side : (z : Side) (m : NodeNo) → end.side ≡ z → n ≡ m → In e (leave d end) → start_end d (start.Boundary n) ≡ end
      side A m s same i =
          let here : end ≡ at_a n = ap (λ (z : Side). let e : End = record { node = end.node; side = z } in e) s ∙ ap (λ (k : NodeNo). let e : End = record { node = k; side = A } in e) (sym l) in
          ap (λ b. if b then at_b n else at_a n) (is_empty_some (leave d (at_a n)) e (subst (λ w. In e (leave d w)) here i)) ∙ sym here
      side B m s same i =
          let here : end ≡ at_b n = ap (λ (z : Side). let e : End = record { node = end.node; side = z } in e) s ∙ ap (λ (k : NodeNo). let e : End = record { node = k; side = B } in e) (sym l) in
          let some : 1 ≤ ends_b d n = length_some (leave d (at_b n)) e (subst (λ w. In e (leave d w)) here i) in
          ap (λ b. if b then at_b n else at_a n) (length_empty (leave d (at_a n)) (let o = one in omega arith)) ∙ sym here

  -- ---- how many edges

  pub walk_edges : (end : End) (es : List EdgeNo) → IsWalk d end es → (e : EdgeNo) → In e es → IsEdge d e
  walk_edges end [] w e m = absurd m
  walk_edges end (g ∷ gs) w e (inl s) = subst (IsEdge d) s w.0.0
  walk_edges end (g ∷ gs) w e (inr m) = walk_edges (through (far_end (edge_of d g) end)) gs w.1 e m

  pub few_edges : (es : List EdgeNo) → Differ es → ((e : EdgeNo) → In e es → IsEdge d e) → length es ≤ length d.edges
  few_edges es dif good = at_most (λ (e : EdgeNo). e.0) (λ x y s. ap (λ n. record { 0 = n }) s) (length d.edges) es dif good

  -- ---- routes are elementary

  elementary : IsAdmitted d → (s : Start) (p : List EdgeNo) (f : Finish) → In (Whole p f) (walks_from d s) → IsElementary d s p f
  elementary adm s p f m = go (found d adm (length d.edges + 1) [] (start_end d s) p f tt m)
    where
      go : Found d [] (start_end d s) p f → IsElementary d s p f
      go w = record { end = start_end d s; leaves = start_leaves s; walk = subst (IsWalk d (start_end d s)) w.is w.walk; once = w.once; ends = subst (λ es. EndsFirst d (reached d (start_end d s) es) f) w.is w.ends }

  closes : IsAdmitted d → (s : Start) (p : List EdgeNo) (f : Finish) → IsStart d s → IsElementary d s p f → In (Whole p f) (walks_from d s)
  closes adm s [] f h el = absurd el.ends
  closes adm s (e ∷ es) f h el =
      let from : start_end d s ≡ el.end = start_end_is adm s el.end e h el.leaves el.walk.0 in
      subst (λ end. In (Whole (e ∷ es) f) (walks (length d.edges + 1) d [] end)) (sym from)
      (listed d adm (length d.edges + 1) [] el.end (e ∷ es) f (let few = few_edges (e ∷ es) el.once (walk_edges el.end (e ∷ es) el.walk) in omega arith) el.walk el.once el.ends)

  -- where a route stands in the search
  pub record Listed (r : Route) : Type 0 where
    pub start : Start
    pub path : List EdgeNo
    pub finish : Finish
    pub starts_there : In start (starts d)
    pub closed : In (Whole path finish) (walks_from d start)
    pub is : route_of d start path finish ≡ r

  abbrev routes_from : Start → List Route
  routes_from s = flat_map (route_from d s) (walks_from d s)

  in_from : (s : Start) (r : Route) → In r (routes_from s) → (p : List EdgeNo) × (f : Finish) × In (Whole p f) (walks_from d s) × (route_of d s p f ≡ r)
  in_from s r m = go (in_flat_map_back (route_from d s) (walks_from d s) r m)
    where
      go : ((c : Walk) × In c (walks_from d s) × In r (route_from d s c)) → (p : List EdgeNo) × (f : Finish) × In (Whole p f) (walks_from d s) × (route_of d s p f ≡ r)
      go (RepeatsEdge e, k, i) = absurd i
      go (Whole p f, k, inr i) = absurd i
      go (Whole p f, k, inl e) = (p, f, k, e)

  pub listed_at : (r : Route) → In r (routes_of d) → Listed r
  listed_at r m = go (in_flat_map_back routes_from (starts d) r m)
    where
      go : ((s : Start) × In s (starts d) × In r (routes_from s)) → Listed r
      go (s, k, i) = let l = in_from s r i in record { start = s; path = l.0; finish = l.1; starts_there = k; closed = l.2; is = l.3 }

  pub route_is : IsAdmitted d → (r : Route) → In r (routes_of d) → IsRouteOf d r
  route_is adm r m = let l = listed_at r m in subst (IsRouteOf d) l.is (record { start = starts_tell l.start l.starts_there; elementary = elementary adm l.start l.path l.finish l.closed; is_route_of = refl })

  pub is_route : IsAdmitted d → (r : Route) → IsRouteOf d r → In r (routes_of d)
  is_route adm r h =
      subst (λ q. In q (routes_of d)) h.is_route_of
      (in_flat_map routes_from (starts d) r.start (route_of d r.start r.edges r.finish) (starts_from adm r.start h.start)
      (in_flat_map (route_from d r.start) (walks_from d r.start) (Whole r.edges r.finish) (route_of d r.start r.edges r.finish) (closes adm r.start r.edges r.finish h.start h.elementary) (inl refl)))

  -- ---- in their order

  pub routes_rise : IsAdmitted d → Pairs (RouteBefore d) (routes_of d)
  routes_rise adm = pairs_flat_map (StartsBefore d) (RouteBefore d) routes_from (starts d) (starts_rise adm) each across
    where
      across : (a b : Start) (y z : Route) → In a (starts d) → In b (starts d) → StartsBefore d a b → In y (routes_from a) → In z (routes_from b) → RouteBefore d y z
      across a b y z m n before i j =
          let one = in_from a y i in
          let two = in_from b z j in
          subst (λ w. RouteBefore d w z) one.3 (subst (λ w. RouteBefore d (route_of d a one.0 one.1) w) two.3 (inl before))

      each : (s : Start) → In s (starts d) → Pairs (RouteBefore d) (routes_from s)
      each s m = pairs_flat_map (ClosesBefore d) (RouteBefore d) (route_from d s) (walks_from d s) (walks_rise d (length d.edges + 1) [] (start_end d s)) (λ c k. one c) over
        where
          one : (c : Walk) → Pairs (RouteBefore d) (route_from d s c)
          one (RepeatsEdge e) = tt
          one (Whole p f) = (λ y k. absurd k, tt)

          over : (a b : Walk) (y z : Route) → In a (walks_from d s) → In b (walks_from d s) → ClosesBefore d a b → In y (route_from d s a) → In z (route_from d s b) → RouteBefore d y z
          over (RepeatsEdge e) b y z k l before i j = absurd i
          over (Whole p f) (RepeatsEdge e) y z k l before i j = absurd j
          over (Whole p f) (Whole q g) y z k l before (inr i) j = absurd i
          over (Whole p f) (Whole q g) y z k l before (inl i) (inr j) = absurd j
          over (Whole p f) (Whole q g) y z k l before (inl i) (inl j) = subst (λ w. RouteBefore d w z) i (subst (λ w. RouteBefore d (route_of d s p f) w) j (inr (refl, before)))

  not_before_self : (r q : Route) → RouteBefore d r q → r ≡ q → ⊥
  not_before_self r q before same = go (subst (λ w. RouteBefore d r w) (sym same) before)
    where
      go : RouteBefore d r r → ⊥
      go (inl (inl less)) = omega arith
      go (inl (inr k)) = let sides : A ≡ B = sym k.1 ∙ k.2 in cc
      go (inr k) = before_not_self r.edges k.1

  pub routes_differ : IsAdmitted d → Differ (routes_of d)
  routes_differ adm = pairs_more (RouteBefore d) (λ (x y : Route). x ≡ y → ⊥) (routes_of d) (λ a b m n before. not_before_self a b before) (routes_rise adm)
