-- A train comes to the end of a route of its path where it passes the node there.
use Rattle.std.proofs.Common.{◌≡◌, inl, inr, ℕ, zero, suc, ◌+◌, ◌-◌, ◌≤◌, List, [], ◌∷◌, ◌++◌, All, map, flat_map, length, slice_get, Option, Some, option_map, option_and_then, ℤ, pos, nat_abs, sum_by, refl, sym, ap, ap₂, subst, ◌∙◌, arith, eqb-true, eq-eqb, length-append}
use Rattle.std.proofs.lemmas.List.{map-append}
use Rattle.std.proofs.lemmas.List.Sums.{sum_by-cons}
use Rattle.std.proofs.lemmas.Option.{slice_get-map}
use Rattle.rail_base.specs.declared.station.Station.{Station}
use Rattle.rail_base.specs.declared.station.EdgeNo.{EdgeNo}
use Rattle.rail_base.specs.declared.station.NodeNo.{NodeNo}
use Rattle.rail_base.specs.declared.station.TrainNo.{TrainNo}
use Rattle.rail_base.specs.declared.route.Route.{Route}
use Rattle.rail_base.specs.declared.route.RouteNo.{RouteNo}
use Rattle.rail_base.specs.declared.plan.Command.{Command}
use Rattle.rail_base.specs.declared.state.Event.{Event}
use Rattle.rail_base.specs.declared.state.PathNode.{PathNode}
use Rattle.rail_base.specs.declared.state.TrainEvent.{TrainEvent}
use Rattle.rail_base.specs.Events.{has_happened}
use Rattle.rail_base.specs.Members.{In}
use Rattle.rail_base.specs.Numbering.{after_first, before_first, least}
use Rattle.rail_base.specs.Routes.{IsRoute, route_at, length_mm}
use Rattle.rail_base.specs.Stations.{length_of}
use Rattle.rail_base.proofs.Lists.{length-map}
use Rattle.rail_spec.specs.Plans.{is_route}
use Rattle.rail_spec.specs.Track.{edge_ends}
use Rattle.rail_spec.specs.Places.{path_nodes_of, path_nodes_after, path_nodes}
use Rattle.rail_spec.specs.Dispatches.{Dispatch, ago, past_of, has_come, pasts_at, routes_before, release}
use Rattle.rail_spec.specs.Visits.{happened_by, pass_tick, passed, path_nodes_of_train}
use Rattle.rail_course.specs.declared.journey.Hold.{Hold}
use Rattle.rail_course.specs.Clocks.{comes_by, own_ticks, IsConcernedFirst}
use Rattle.rail_course.specs.Holds.{hold_for, holds_of_train}
use Rattle.rail_course.specs.Marks.{pass_mark}
use Rattle.rail_course.specs.Tracks.{AreLaid, IsLaid, routes_at}
use Rattle.rail_course.proofs.Granting.{in_from_all}
use Rattle.rail_course.proofs.Holding.{HoldOf, Split, get_left, get_right, grants_of_hold, hold_of, release_is_held, split_first, train_of_hold}
use Rattle.rail_course.proofs.Lasting.{happened_ago, happened_at_clock}

-- ---- the node at the end of a route

last_end : (d : Station) (o : ℕ) (es : List EdgeNo) (i : ℕ) → length es ≡ suc i → slice_get (map (λ (e : EdgeNo × ℕ). pos e.1) (edge_ends d o es)) i ≡ Some (pos (o + sum_by (length_of d) es))
last_end d o [] i e = absurd (omega arith)
last_end d o (e ∷ []) zero h = let s = sum_by-cons (length_of d) e [] in ap (λ n. Some (pos n)) (omega arith)
last_end d o (e ∷ []) (suc i) h = absurd (omega arith)
last_end d o (e ∷ f ∷ es) zero h = absurd (omega arith)
last_end d o (e ∷ f ∷ es) (suc i) h = let s = sum_by-cons (length_of d) e (f ∷ es) in last_end d (o + length_of d e) (f ∷ es) i (omega arith) ∙ ap (λ n. Some (pos n)) (omega arith)

-- what a map has at a place is made of what stands there
got_back : {X Y : Type 0} (f : X → Y) (xs : List X) (i : ℕ) (y : Y) → slice_get (map f xs) i ≡ Some y → (x : X) × (slice_get xs i ≡ Some x) × (f x ≡ y)
got_back f [] i y e = cc
got_back f (x ∷ xs) zero y e = (x, refl, cc)
got_back f (x ∷ xs) (suc i) y e = got_back f xs i y e

pub record EndNode (path_nodes : List PathNode) (i : ℕ) (e : Event) : Type 0 where
  pub path_node : PathNode
  pub there : slice_get path_nodes i ≡ Some path_node
  pub event : path_node.event ≡ e

event_same : (g p q : ℕ) → p ≡ q → ◌≡◌ {A = Event} (record { granted = g; place = p }) (record { granted = g; place = q })
event_same g p q e = ap (λ n. let e : Event = record { granted = g; place = n } in e) e

after_first-map : {X Y : Type 0} (f : X → Y) (xs : List X) → after_first (map f xs) ≡ map f (after_first xs)
after_first-map f [] = refl
after_first-map f (x ∷ xs) = refl

module _ (d : Station) where
  abbrev node_of : ℕ → ℕ → NodeNo × ℤ → PathNode
  node_of o j p = record { node = p.0; event = record { granted = j; place = o + nat_abs p.1 } }

  many_after : (r : Route) → IsLaid d r → (o j : ℕ) → length (after_first (path_nodes_of o j r)) ≡ length r.edges
  many_after r laid o j =
      ap length (after_first-map (node_of o j) r.nodes) ∙ length-map (node_of o j) (after_first r.nodes)
      ∙ sym (length-map (λ (n : NodeNo × ℤ). n.1) (after_first r.nodes)) ∙ ap length laid.ends ∙ length-map (λ (e : EdgeNo × ℕ). pos e.1) (edge_ends d 0 r.edges) ∙ length-ends 0 r.edges
    where
      length-ends : (b : ℕ) (es : List EdgeNo) → length (edge_ends d b es) ≡ length es
      length-ends b [] = refl
      length-ends b (e ∷ es) = ap suc (length-ends (b + length_of d e) es)

  last_of_route : (r : Route) → IsLaid d r → (o j i : ℕ) → length r.edges ≡ suc i → EndNode (after_first (path_nodes_of o j r)) i (record { granted = j; place = o + length_mm r })
  last_of_route r laid o j i many = go (got_back (λ (n : NodeNo × ℤ). n.1) (after_first r.nodes) i (pos (0 + sum_by (length_of d) r.edges)) (ap (λ ns. slice_get ns i) laid.ends ∙ last_end d 0 r.edges i many))
    where
      go : ((n : NodeNo × ℤ) × (slice_get (after_first r.nodes) i ≡ Some n) × (n.1 ≡ pos (0 + sum_by (length_of d) r.edges))) → EndNode (after_first (path_nodes_of o j r)) i (record { granted = j; place = o + length_mm r })
      go (n, there, offset) =
          let far : nat_abs n.1 ≡ 0 + sum_by (length_of d) r.edges = ap nat_abs offset in
          let whole = laid.whole in
          record {
            path_node = node_of o j n;
            there = ap (λ ns. slice_get ns i) (after_first-map (node_of o j) r.nodes) ∙ slice_get-map (node_of o j) (after_first r.nodes) i ∙ ap (option_map (node_of o j)) there;
            event = event_same j (o + nat_abs n.1) (o + length_mm r) (omega arith);
          }

  -- the nodes behind the first of a path
  end_after : (before rest : List Route) (r : Route) → ((q : Route) → In q before → IsLaid d q) → IsLaid d r → (o j n : ℕ) → 1 ≤ length r.edges → suc n ≡ length (flat_map (λ (q : Route). q.edges) before) + length r.edges
      → EndNode (path_nodes_after o j (before ++ r ∷ rest)) n (record { granted = j + length before; place = o + sum_by length_mm before + length_mm r })
  end_after [] rest r laid here o j n some number =
      let last = last_of_route r here o j n (omega arith) in
      record {
        path_node = last.path_node;
        there = get_left (after_first (path_nodes_of o j r)) (path_nodes_after (o + length_mm r) (j + 1) rest) n last.path_node last.there;
        event = last.event ∙ ap₂ (λ g p. let e : Event = record { granted = g; place = p } in e) (omega arith) (omega arith);
      }
  end_after (q ∷ before) rest r laid here o j n some number =
      let more = length-append q.edges (flat_map (λ (x : Route). x.edges) before) in
      let many = many_after q (laid q (inl refl)) o j in
      let m = sum_by-cons length_mm q before in
      let later = end_after before rest r (λ x k. laid x (inr k)) here (o + length_mm q) (j + 1) (n - length q.edges) some (omega arith) in
      record {
        path_node = later.path_node;
        there = get_right (after_first (path_nodes_of o j q)) (path_nodes_after (o + length_mm q) (j + 1) (before ++ r ∷ rest)) n (n - length q.edges) (omega arith) ∙ later.there;
        event = later.event ∙ ap₂ (λ g p. let e : Event = record { granted = g; place = p } in e) (omega arith) (omega arith);
      }

  -- the nodes of a path are the first and those behind it
  first_then : (r : Route) (rest : List Route) → IsLaid d r → 1 ≤ length r.edges → (first : PathNode) × (path_nodes (r ∷ rest) ≡ first ∷ path_nodes_after 0 1 (r ∷ rest))
  first_then r rest laid some = go r.nodes refl
    where
      go : (ns : List (NodeNo × ℤ)) → r.nodes ≡ ns → (first : PathNode) × (path_nodes (r ∷ rest) ≡ first ∷ path_nodes_after 0 1 (r ∷ rest))
      go [] e =
          let none : length (after_first (path_nodes_of 0 1 r)) ≡ 0 = ap (λ ns. length (after_first (map (node_of 0 1) ns))) e in
          let many = many_after r laid 0 1 in
          absurd (omega arith)
      go (n ∷ ns) e =
          let same : 0 + length_mm r ≡ length_mm r = omega arith in (
            node_of 0 1 n,
            ap (λ ms. map (node_of 0 1) ms ++ path_nodes_after (length_mm r) 2 rest) e
                ∙ ap (λ ms. node_of 0 1 n ∷ after_first (map (node_of 0 1) ms) ++ path_nodes_after (length_mm r) 2 rest) (sym e)
                ∙ ap (λ l. node_of 0 1 n ∷ after_first (path_nodes_of 0 1 r) ++ path_nodes_after l 2 rest) (sym same),
          )

  end_of_route : (before rest : List Route) (r : Route) → ((q : Route) → In q (before ++ r ∷ rest) → IsLaid d q × (1 ≤ length q.edges)) → (n : ℕ) → n ≡ length (flat_map (λ (q : Route). q.edges) before) + length r.edges
      → EndNode (path_nodes (before ++ r ∷ rest)) n (record { granted = suc (length before); place = sum_by length_mm before + length_mm r })
  end_of_route before rest r laid zero number = let some = (laid r (here before)).1 in absurd (omega arith)
    where
      here : (qs : List Route) → In r (qs ++ r ∷ rest)
      here [] = inl refl
      here (q ∷ qs) = inr (here qs)
  end_of_route before rest r laid (suc n) number = go before refl
    where
      here : (qs : List Route) → In r (qs ++ r ∷ rest)
      here [] = inl refl
      here (q ∷ qs) = inr (here qs)

      of_before : (qs : List Route) (q : Route) → In q qs → In q (qs ++ r ∷ rest)
      of_before [] q m = absurd m
      of_before (x ∷ qs) q (inl e) = inl e
      of_before (x ∷ qs) q (inr m) = inr (of_before qs q m)

      later : EndNode (path_nodes_after 0 1 (before ++ r ∷ rest)) n (record { granted = 1 + length before; place = 0 + sum_by length_mm before + length_mm r })
      later = end_after before rest r (λ q m. (laid q (of_before before q m)).0) (laid r (here before)).0 0 1 n (laid r (here before)).1 number

      with_first : ((first : PathNode) × (path_nodes (before ++ r ∷ rest) ≡ first ∷ path_nodes_after 0 1 (before ++ r ∷ rest))) → EndNode (path_nodes (before ++ r ∷ rest)) (suc n) (record { granted = suc (length before); place = sum_by length_mm before + length_mm r })
      with_first (first, e) = record {
        path_node = later.path_node;
        there = ap (λ ns. slice_get ns (suc n)) e ∙ later.there;
        event = later.event ∙ ap₂ (λ g p. let e : Event = record { granted = g; place = p } in e) (omega arith) (omega arith);
      }

      go : (qs : List Route) → before ≡ qs → EndNode (path_nodes (before ++ r ∷ rest)) (suc n) (record { granted = suc (length before); place = sum_by length_mm before + length_mm r })
      go [] e = with_first (subst (λ qs. (first : PathNode) × (path_nodes (qs ++ r ∷ rest) ≡ first ∷ path_nodes_after 0 1 (qs ++ r ∷ rest))) (sym e) (first_then r rest (laid r (here before)).0 (laid r (here before)).1))
      go (q ∷ qs) e =
          let first_is = laid q (subst (λ xs. In q (xs ++ r ∷ rest)) (sym e) (inl refl)) in
          with_first (subst (λ xs. (first : PathNode) × (path_nodes (xs ++ r ∷ rest) ≡ first ∷ path_nodes_after 0 1 (xs ++ r ∷ rest))) (sym e) (first_then q (qs ++ r ∷ rest) first_is.0 first_is.1))

-- ---- the arrival at the end of a route is the passing of its node

module _ (d : Station) (routes : List Route) (laid : AreLaid d routes) (p : Dispatch) (t : TrainNo) (named : All (IsRoute routes) (p.path t)) where
  laid_on : (q : Route) → In q (routes_at routes (p.path t)) → IsLaid d q × (1 ≤ length q.edges)
  laid_on q m = go (in_map_of (p.path t) m)
    where
      in_map_of : (rs : List RouteNo) → In q (map (route_at routes) rs) → (r : RouteNo) × In r rs × (route_at routes r ≡ q)
      in_map_of [] k = absurd k
      in_map_of (r ∷ rs) (inl e) = (r, inl refl, e)
      in_map_of (r ∷ rs) (inr k) = let f = in_map_of rs k in (f.0, inr f.1, f.2)

      go : ((r : RouteNo) × In r (p.path t) × (route_at routes r ≡ q)) → IsLaid d q × (1 ≤ length q.edges)
      go (r, k, e) = subst (λ x. IsLaid d x × (1 ≤ length x.edges)) e (laid.each r, laid.some_edge r (in_from_all (IsRoute routes) (p.path t) named r k))

  pub node_of_hold : (h : Hold) → In h (holds_of_train d routes p t) → EndNode (path_nodes_of_train d routes p t) h.node h.event.event
  node_of_hold h m = subst (λ (g : Hold). EndNode (path_nodes_of_train d routes p t) g.node g.event.event) k.is at
    where
      k : HoldOf d routes p t h
      k = hold_of d routes p t h m

      c : Command
      c = record { train = t; route = k.route }

      s : Split (λ r. is_route r k.route) (p.path t)
      s = split_first (λ r. is_route r k.route) (p.path t) k.route k.on_path (eq-eqb k.route.0 k.route.0 refl)

      same : s.first ≡ k.route
      same = ap (λ n. record { 0 = n }) (eqb-true s.first.0 k.route.0 s.passes)

      parts : routes_at routes (p.path t) ≡ routes_before d routes p c ++ route_at routes k.route ∷ map (route_at routes) s.rest
      parts = ap (map (route_at routes)) s.is ∙ map-append (route_at routes) (before_first (λ r. is_route r k.route) (p.path t)) (s.first ∷ s.rest) ∙ ap (λ r. routes_before d routes p c ++ route_at routes r ∷ map (route_at routes) s.rest) same

      last : EndNode (path_nodes (routes_before d routes p c ++ route_at routes k.route ∷ map (route_at routes) s.rest)) (hold_for d routes p c k.section).node (record { granted = suc (length (routes_before d routes p c)); place = sum_by length_mm (routes_before d routes p c) + length_mm (route_at routes k.route) })
      last = end_of_route d (routes_before d routes p c) (map (route_at routes) s.rest) (route_at routes k.route) (subst (λ rs. (q : Route) → In q rs → IsLaid d q × (1 ≤ length q.edges)) parts laid_on) (hold_for d routes p c k.section).node refl

      event : (release d routes p c k.section).event ≡ record { granted = suc (length (routes_before d routes p c)); place = sum_by length_mm (routes_before d routes p c) + length_mm (route_at routes k.route) }
      event = ap (λ (e : TrainEvent). e.event) (release_is_held d routes p c k.section ((laid.each k.route).beside k.section k.held))

      at : EndNode (path_nodes_of_train d routes p t) (hold_for d routes p c k.section).node (hold_for d routes p c k.section).event.event
      at = subst (EndNode (path_nodes_of_train d routes p t) (hold_for d routes p c k.section).node) (sym event) (subst (λ rs. EndNode (path_nodes rs) (hold_for d routes p c k.section).node (record { granted = suc (length (routes_before d routes p c)); place = sum_by length_mm (routes_before d routes p c) + length_mm (route_at routes k.route) })) (sym parts) last)

  -- the tick at which it is passed
  pub mark_of_hold : (k : ℕ) (h : Hold) → In h (holds_of_train d routes p t) → pass_mark (passed d routes p k t) h.node ≡ least (happened_by d routes p t h.event.event) k
  mark_of_hold k h m =
      let n = node_of_hold h m in
      let mark : PathNode → NodeNo × Option ℕ = λ q. (q.node, pass_tick d routes p k t q) in
      ap (option_and_then (λ (pass : NodeNo × Option ℕ). pass.1)) (slice_get-map mark (path_nodes_of_train d routes p t) h.node ∙ ap (option_map mark) n.there)
      ∙ ap (λ e. least (happened_by d routes p t e) k) n.event

  -- and so a hold has ended where that was long enough ago
  pub hold_ends : IsConcernedFirst p t → (k : ℕ) (h : Hold) → In h (holds_of_train d routes p t) → comes_by (pass_mark (passed d routes p k t) h.node) h.event.ticks (own_ticks p k t) ≡ has_come (pasts_at d routes p k) h.event
  hold_ends first k h m =
      ap (λ o. comes_by o h.event.ticks (own_ticks p k t)) (mark_of_hold k h m ∙ sym (happened_at_clock d routes p t h.event.event (grants_of_hold d routes p t h m) first k))
      ∙ sym (happened_ago d routes p t h.event.event (grants_of_hold d routes p t h m) k h.event.ticks)
      ∙ ap (λ u. has_happened (ago h.event.ticks (past_of (pasts_at d routes p k) u)) h.event.event) (sym (train_of_hold d routes p t h m))
