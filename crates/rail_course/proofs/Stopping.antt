-- Where a train has still to stand on its granted routes is where it has on its whole path, if that is granted.
use Rattle.std.proofs.Common.{◌≡◌, ℕ, zero, suc, ◌+◌, ◌-◌, ◌≤◌, ◌<◌, ◌^◌, ◌⊎◌, inl, inr, Bool, true, false, cond, if◌then◌else◌, nat_le, nat_lt, List, [], ◌∷◌, ◌++◌, length, take, drop, get_or, slice_get, Option, Some, None, option_map, option_and_then, nat_abs, ℤ, refl, sym, ap, subst, ◌∙◌, arith, append_assoc, leb-true, leb-false, le-leb}
use Rattle.std.specs.List.{position_from}
use Rattle.std.specs.Option.{ForSome}
use Rattle.rail_base.specs.declared.station.Station.{Station}
use Rattle.rail_base.specs.declared.station.NodeNo.{NodeNo}
use Rattle.rail_base.specs.declared.route.Route.{Route}
use Rattle.rail_base.specs.declared.route.RouteNo.{RouteNo}
use Rattle.rail_base.specs.declared.state.PathNode.{PathNode}
use Rattle.rail_base.specs.declared.state.TrainState.{TrainState}
use Rattle.rail_base.specs.Members.{In}
use Rattle.rail_base.specs.Numbering.{after_first}
use Rattle.rail_base.specs.Routes.{route_at, length_mm}
use Rattle.rail_base.specs.Stations.{train_of, dwell_ticks}
use Rattle.rail_base.proofs.Lists.{in_append, in_map_back, length-map}
use Rattle.rail_base.proofs.Members.{false_unless}
use Rattle.rail_spec.specs.Places.{path_nodes_of, path_nodes_after, path_nodes, visits_on, next_stop}
use Rattle.rail_spec.specs.Dispatches.{Dispatch, stop, stop_place}
use Rattle.rail_laws.proofs.Visiting.{in_after, in_visits_on, Grown, visits_grown, in_path_nodes}
use Rattle.rail_laws.proofs.Stops.{stop_in, stop_grown}
use Rattle.rail_require.proofs.Finding.{position_from-next}
use Rattle.rail_course.specs.declared.dwells.Dwell.{Dwell}
use Rattle.rail_course.specs.declared.train_path.TrainPath.{TrainPath}
use Rattle.rail_course.specs.Dwells.{dwells_from}
use Rattle.rail_course.specs.PathNodes.{path_node_at, LieBelow}
use Rattle.rail_course.specs.Stops.{made_within, IsStopPlace}
use Rattle.rail_course.specs.TrainPaths.{IsTrainPath}
use Rattle.rail_course.specs.Tracks.{AreLaid, routes_at, path_length}
use Rattle.rail_course.proofs.Granting.{in_from_all}
use Rattle.rail_course.proofs.Prefixing.{length_of-take}

-- ---- the nodes of a path have the numbers of their routes

in_route : (o j : ℕ) (r : Route) (x : PathNode) → In x (path_nodes_of o j r) → x.event.granted ≡ j
in_route o j r x m = go (in_map_back (path_node_at o j) r.nodes x m)
  where
    go : ((p : NodeNo × ℤ) × In p r.nodes × (path_node_at o j p ≡ x)) → x.event.granted ≡ j
    go (p, k, same) = sym (ap (λ (y : PathNode). y.event.granted) same)

numbered_after : (rs : List Route) (o j : ℕ) (x : PathNode) → In x (path_nodes_after o j rs) → (j ≤ x.event.granted) × (x.event.granted < j + length rs)
numbered_after [] o j x m = absurd m
numbered_after (r ∷ rs) o j x m = go (in_append x (after_first (path_nodes_of o j r)) (path_nodes_after (o + length_mm r) (j + 1) rs) m) (numbered_after rs (o + length_mm r) (j + 1) x)
  where
    go : In x (after_first (path_nodes_of o j r)) ⊎ In x (path_nodes_after (o + length_mm r) (j + 1) rs) → (In x (path_nodes_after (o + length_mm r) (j + 1) rs) → (j + 1 ≤ x.event.granted) × (x.event.granted < j + 1 + length rs))
        → (j ≤ x.event.granted) × (x.event.granted < j + length (r ∷ rs))
    go (inl k) later = let e = in_route o j r x (in_after (path_nodes_of o j r) x k) in (omega arith, omega arith)
    go (inr k) later = let h = later k in let a = h.0 in let b = h.1 in (omega arith, omega arith)

numbered : (rs : List Route) (x : PathNode) → In x (path_nodes rs) → (1 ≤ x.event.granted) × (x.event.granted ≤ length rs)
numbered [] x m = absurd m
numbered (r ∷ rs) x m = go (in_append x (path_nodes_of 0 1 r) (path_nodes_after (length_mm r) 2 rs) m)
  where
    go : In x (path_nodes_of 0 1 r) ⊎ In x (path_nodes_after (length_mm r) 2 rs) → (1 ≤ x.event.granted) × (x.event.granted ≤ length (r ∷ rs))
    go (inl k) = let e = in_route 0 1 r x k in (omega arith, omega arith)
    go (inr k) = let h = numbered_after rs (length_mm r) 2 x k in let a = h.0 in let b = h.1 in (omega arith, omega arith)

longer_after : (rs qs : List Route) (o j : ℕ) → (more : List PathNode) × (path_nodes_after o j (rs ++ qs) ≡ path_nodes_after o j rs ++ more) × ((x : PathNode) → In x more → j + length rs ≤ x.event.granted)
longer_after [] qs o j = (path_nodes_after o j qs, refl, λ x m. let l = (numbered_after qs o j x m).0 in omega arith)
longer_after (r ∷ rs) qs o j = go (longer_after rs qs (o + length_mm r) (j + 1))
  where
    go : ((more : List PathNode) × (path_nodes_after (o + length_mm r) (j + 1) (rs ++ qs) ≡ path_nodes_after (o + length_mm r) (j + 1) rs ++ more) × ((x : PathNode) → In x more → j + 1 + length rs ≤ x.event.granted))
        → (more : List PathNode) × (path_nodes_after o j ((r ∷ rs) ++ qs) ≡ path_nodes_after o j (r ∷ rs) ++ more) × ((x : PathNode) → In x more → j + length (r ∷ rs) ≤ x.event.granted)
    go (more, e, past) = (
      more,
      ap (λ zs. after_first (path_nodes_of o j r) ++ zs) e ∙ sym (append_assoc (after_first (path_nodes_of o j r)) (path_nodes_after (o + length_mm r) (j + 1) rs) more),
      λ x m. let l = past x m in omega arith,
    )

longer : (rs qs : List Route) → (more : List PathNode) × (path_nodes (rs ++ qs) ≡ path_nodes rs ++ more) × ((x : PathNode) → In x more → length rs < x.event.granted)
longer [] qs = (path_nodes qs, refl, λ x m. let l = (numbered qs x m).0 in omega arith)
longer (r ∷ rs) qs = go (longer_after rs qs (length_mm r) 2)
  where
    go : ((more : List PathNode) × (path_nodes_after (length_mm r) 2 (rs ++ qs) ≡ path_nodes_after (length_mm r) 2 rs ++ more) × ((x : PathNode) → In x more → 2 + length rs ≤ x.event.granted))
        → (more : List PathNode) × (path_nodes ((r ∷ rs) ++ qs) ≡ path_nodes (r ∷ rs) ++ more) × ((x : PathNode) → In x more → length (r ∷ rs) < x.event.granted)
    go (more, e, past) = (
      more,
      ap (λ zs. path_nodes_of 0 1 r ++ zs) e ∙ sym (append_assoc (path_nodes_of 0 1 r) (path_nodes_after (length_mm r) 2 rs) more),
      λ x m. let l = past x m in omega arith,
    )

-- ---- so the place on the first routes is that on all of them, if it is there

stop_granted : (ws : List ℕ) (sets : List (List NodeNo)) (n : ℕ) (rs qs : List Route) → made_within (length rs) (next_stop ws (visits_on sets (path_nodes (rs ++ qs))) n) ≡ next_stop ws (visits_on sets (path_nodes rs)) n
stop_granted ws sets n rs qs = go (longer rs qs)
  where
    early : List (Option PathNode)
    early = visits_on sets (path_nodes rs)

    same : (more : List PathNode) → ((x : PathNode) → In x more → length rs < x.event.granted) → (a b : Option PathNode) → next_stop ws early n ≡ a → Grown more a b → made_within (length rs) b ≡ a
    same more past None None e h = refl
    same more past None (Some b) e h =
        let l = past b h in
        ap (λ c. if c then Some b else None) (false_unless (nat_le b.event.granted (length rs)) (λ t. let k = leb-true b.event.granted (length rs) t in absurd (omega arith)))
    same more past (Some a) b e h =
        let l = (numbered rs a (in_visits_on sets (path_nodes rs) a (stop_in ws early n a e))).1 in
        ap (made_within (length rs)) h ∙ ap (λ c. if c then Some a else None) (le-leb a.event.granted (length rs) l)

    go : ((more : List PathNode) × (path_nodes (rs ++ qs) ≡ path_nodes rs ++ more) × ((x : PathNode) → In x more → length rs < x.event.granted)) → made_within (length rs) (next_stop ws (visits_on sets (path_nodes (rs ++ qs))) n) ≡ next_stop ws early n
    go (more, e, past) =
        let late = visits_on sets (path_nodes rs ++ more) in
        ap (λ ps. made_within (length rs) (next_stop ws (visits_on sets ps) n)) e
        ∙ same more past (next_stop ws early n) (next_stop ws late n) refl (stop_grown more ws early late n (visits_grown sets (path_nodes rs) more))

first_and_rest : {X : Type 0} (g : ℕ) (xs : List X) → take g xs ++ drop g xs ≡ xs
first_and_rest zero xs = refl
first_and_rest (suc g) [] = refl
first_and_rest (suc g) (x ∷ xs) = ap (λ zs. x ∷ zs) (first_and_rest g xs)

-- ---- the place by what is worked out of the path

module _ (d : Station) (routes : List Route) (p : Dispatch) (c : TrainPath) (is : IsTrainPath d routes (p.path c.train) c) (s : TrainState) (within : s.granted ≤ length (p.path c.train)) where
  abbrev rs : List Route
  rs = routes_at routes (p.path c.train)

  pub stop_known : made_within s.granted (next_stop (dwell_ticks d c.train) c.visits.items s.stood) ≡ stop d routes p c.train s
  stop_known =
      let ws = dwell_ticks d c.train in
      let sets = (train_of d c.train).visits in
      let long = length-map (route_at routes) (p.path c.train) in
      let many : length (take s.granted rs) ≡ s.granted = length_of-take s.granted rs (omega arith) in
      ap (λ vs. made_within s.granted (next_stop ws vs s.stood)) is.visits
      ∙ ap (λ qs. made_within s.granted (next_stop ws (visits_on sets (path_nodes qs)) s.stood)) (sym (first_and_rest s.granted rs))
      ∙ ap (λ g. made_within g (next_stop ws (visits_on sets (path_nodes (take s.granted rs ++ drop s.granted rs))) s.stood)) (sym many)
      ∙ stop_granted ws sets s.stood (take s.granted rs) (drop s.granted rs)

  stop_below : (o : Option PathNode) → made_within s.granted (next_stop (dwell_ticks d c.train) c.visits.items s.stood) ≡ o → ForSome (option_map (λ (n : PathNode). n.event.place) o) (λ x. x < 2 ^ 47)
  stop_below None e = λ x k. cc
  stop_below (Some n) e = λ x k.
      let same : n.event.place ≡ x = cc in
      let below = is.on_path n (subst (In n) (sym is.nodes) (in_visits_on (train_of d c.train).visits (path_nodes rs) n (subst (In (Some n)) is.visits (stop_in (dwell_ticks d c.train) c.visits.items s.stood n (unmade (next_stop (dwell_ticks d c.train) c.visits.items s.stood) e))))) in
      omega arith
    where
      unmade : (o : Option PathNode) → made_within s.granted o ≡ Some n → o ≡ Some n
      unmade None k = cc
      unmade (Some m) k = go (nat_le m.event.granted s.granted) k
        where
          go : (b : Bool) → (if b then Some m else None) ≡ Some n → Some m ≡ Some n
          go true k = k
          go false k = cc

  place_known : (made : Option PathNode) → made ≡ made_within s.granted (next_stop (dwell_ticks d c.train) c.visits.items s.stood)
      → (option_map (λ (n : PathNode). n.event.place) made ≡ stop_place d routes p c.train s) × ForSome (option_map (λ (n : PathNode). n.event.place) made) (λ x. x < 2 ^ 47)
  place_known made e = (ap (option_map (λ (n : PathNode). n.event.place)) (e ∙ stop_known), stop_below made (sym e))

pub is_stop_place : (c : TrainPath) (s : TrainState) (next made : Option PathNode) (place : Option ℕ) → ((ws : List ℕ) → c.dwells.items ≡ dwells_from 0 ws → next ≡ next_stop ws c.visits.items s.stood)
    → made ≡ made_within s.granted next → place ≡ option_map (λ (n : PathNode). n.event.place) made → IsStopPlace c s place
is_stop_place c s next made place first here at = λ d routes p is within.
    subst (λ o. (o ≡ stop_place d routes p c.train s) × ForSome o (λ x. x < 2 ^ 47)) (sym at)
    (place_known d routes p c is s within made (here ∙ ap (made_within s.granted) (first (dwell_ticks d c.train) is.dwells)))

-- ---- the first visit at which it has not stood long enough

-- the entry at a place, if there is one
abbrev pub at_place : Option ℕ → List (Option PathNode) → Option PathNode
at_place None ps = None
at_place (Some i) ps = option_and_then (λ o. o) (slice_get ps i)

nowhere : (o : Option ℕ) → at_place o [] ≡ None
nowhere None = refl
nowhere (Some i) = refl

next_place : (o : Option ℕ) (p : Option PathNode) (ps : List (Option PathNode)) → at_place (option_map (λ i. i + 1) o) (p ∷ ps) ≡ at_place o ps
next_place None p ps = refl
next_place (Some i) p ps = let e : i + 1 ≡ suc i = omega arith in ap (λ j. at_place (Some j) (p ∷ ps)) e

pub stop_of_dwells : (ws : List ℕ) (u n : ℕ) (ps : List (Option PathNode)) → u ≤ n → at_place (position_from (λ (w : Dwell). nat_lt n w.until) 0 (dwells_from u ws)) ps ≡ next_stop ws ps (n - u)
stop_of_dwells [] u n ps l = refl
stop_of_dwells (w ∷ ws) u n [] l = nowhere (position_from (λ (w : Dwell). nat_lt n w.until) 0 (dwells_from u (w ∷ ws)))
stop_of_dwells (w ∷ ws) u n (p ∷ ps) l = go (nat_lt n (u + w)) refl (nat_lt (n - u) w) refl (stop_of_dwells ws (u + w) n ps)
  where
    test : Dwell → Bool
    test w = nat_lt n w.until

    go : (b : Bool) → nat_lt n (u + w) ≡ b → (c : Bool) → nat_lt (n - u) w ≡ c → (u + w ≤ n → at_place (position_from test 0 (dwells_from (u + w) ws)) ps ≡ next_stop ws ps (n - (u + w)))
        → at_place (cond b (Some 0) (position_from test (0 + 1) (dwells_from (u + w) ws))) (p ∷ ps) ≡ (if c then p else next_stop ws ps (n - u - w))
    go true e true f later = refl
    go true e false f later = let a = leb-true (suc n) (u + w) e in let b = leb-false (suc (n - u)) w f in absurd (omega arith)
    go false e true f later = let a = leb-false (suc n) (u + w) e in let b = leb-true (suc (n - u)) w f in absurd (omega arith)
    go false e false f later =
        let a = leb-false (suc n) (u + w) e in
        let left : n - (u + w) ≡ n - u - w = omega arith in
        ap (λ o. at_place o (p ∷ ps)) (position_from-next test 0 (dwells_from (u + w) ws))
        ∙ next_place (position_from test 0 (dwells_from (u + w) ws)) p ps ∙ later (omega arith) ∙ ap (next_stop ws ps) left

stop_found : (ws : List ℕ) (n : ℕ) (ps : List (Option PathNode)) (o : Option ℕ) → position_from (λ (w : Dwell). nat_lt n w.until) 0 (dwells_from 0 ws) ≡ o → at_place o ps ≡ next_stop ws ps n
stop_found ws n ps o e = let all : n - 0 ≡ n = omega arith in ap (λ q. at_place q ps) (sym e) ∙ stop_of_dwells ws 0 n ps (omega arith) ∙ ap (next_stop ws ps) all

get_there : {X : Type 0} (xs : List X) (i : ℕ) (x : X) → i < length xs → x ≡ get_or xs i x → slice_get xs i ≡ Some x
get_there [] i x l e = absurd (omega arith)
get_there (y ∷ ys) zero x l e = ap Some (sym e)
get_there (y ∷ ys) (suc i) x l e = get_there ys i x (omega arith) e

get_past : {X : Type 0} (xs : List X) (i : ℕ) → length xs ≤ i → slice_get xs i ≡ None
get_past [] i l = refl
get_past (y ∷ ys) zero l = absurd (omega arith)
get_past (y ∷ ys) (suc i) l = get_past ys i (omega arith)

pub stop_none : (ws : List ℕ) (n : ℕ) (ps : List (Option PathNode)) → position_from (λ (w : Dwell). nat_lt n w.until) 0 (dwells_from 0 ws) ≡ None → None ≡ next_stop ws ps n
stop_none ws n ps e = stop_found ws n ps None e

pub stop_past : (ws : List ℕ) (n : ℕ) (ps : List (Option PathNode)) (i : ℕ) → position_from (λ (w : Dwell). nat_lt n w.until) 0 (dwells_from 0 ws) ≡ Some i → length ps ≤ i → None ≡ next_stop ws ps n
stop_past ws n ps i e l = sym (ap (option_and_then (λ o. o)) (get_past ps i l)) ∙ stop_found ws n ps (Some i) e

pub stop_here : (ws : List ℕ) (n : ℕ) (ps : List (Option PathNode)) (i : ℕ) (visit : Option PathNode) → position_from (λ (w : Dwell). nat_lt n w.until) 0 (dwells_from 0 ws) ≡ Some i → i < length ps → visit ≡ get_or ps i visit → visit ≡ next_stop ws ps n
stop_here ws n ps i visit e l at = sym (ap (option_and_then (λ o. o)) (get_there ps i visit l at)) ∙ stop_found ws n ps (Some i) e

-- ---- the nodes of a path lie on it

pub nodes_below : (d : Station) (routes : List Route) → AreLaid d routes → (path : List RouteNo) → path_length routes path < 2 ^ 47 → LieBelow (2 ^ 47) (path_nodes (routes_at routes path))
nodes_below d routes laid path short n m =
    let l = (in_path_nodes (routes_at routes path) within n m).0 in
    omega arith
  where
    within : (r : Route) → In r (routes_at routes path) → (q : NodeNo × ℤ) → In q r.nodes → nat_abs q.1 ≤ length_mm r
    within r i = go (in_map_back (route_at routes) path r i)
      where
        go : ((k : RouteNo) × In k path × (route_at routes k ≡ r)) → (q : NodeNo × ℤ) → In q r.nodes → nat_abs q.1 ≤ length_mm r
        go (k, j, same) = subst (λ (r : Route). (q : NodeNo × ℤ) → In q r.nodes → nat_abs q.1 ≤ length_mm r) same (λ q i. in_from_all (λ (p : NodeNo × ℤ). nat_abs p.1 ≤ length_mm (route_at routes k)) (route_at routes k).nodes (laid.each k).nodes q i)
