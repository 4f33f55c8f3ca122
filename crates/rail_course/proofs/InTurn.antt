-- What stands on a later route of a path is no nearer.
use Rattle.std.proofs.Common.{◌≡◌, ℕ, zero, suc, ◌+◌, ◌≤◌, ◌<◌, ◌⊎◌, inl, inr, Bool, true, false, if◌then◌else◌, List, [], ◌∷◌, ◌++◌, map, length, take, nat_abs, ℤ, sum_by, refl, sym, ap, ap₂, ◌∙◌, subst, arith, eq-eqb, eqb-true}
use Rattle.std.proofs.lemmas.List.Sums.{sum_by-cons}
use Rattle.rail_base.specs.declared.station.Station.{Station}
use Rattle.rail_base.specs.declared.station.NodeNo.{NodeNo}
use Rattle.rail_base.specs.declared.station.SectionNo.{SectionNo}
use Rattle.rail_base.specs.declared.station.TrainNo.{TrainNo}
use Rattle.rail_base.specs.declared.route.Route.{Route}
use Rattle.rail_base.specs.declared.route.RouteNo.{RouteNo}
use Rattle.rail_base.specs.declared.state.PathNode.{PathNode}
use Rattle.rail_base.specs.Members.{In}
use Rattle.rail_base.specs.Numbering.{after_first, before_first}
use Rattle.rail_base.specs.Stations.{train_length}
use Rattle.rail_base.specs.Routes.{route_at, own_sections, length_mm}
use Rattle.rail_base.proofs.Lists.{in_append, in_flat_map_back, in_map_back, length-map}
use Rattle.rail_base.proofs.Members.{below_or_not}
use Rattle.rail_spec.specs.Plans.{is_route}
use Rattle.rail_base.specs.declared.state.Event.{Event}
use Rattle.rail_spec.specs.Dispatches.{Dispatch}
use Rattle.rail_spec.specs.Places.{path_nodes_of, path_nodes_after, path_nodes}
use Rattle.rail_course.specs.declared.journey.Release.{Release}
use Rattle.rail_course.specs.Milestones.{ComeInTurn}
use Rattle.rail_course.specs.PathNodes.{path_node_at}
use Rattle.rail_course.specs.Releases.{release_for, releases_of_route, releases_of_train}
use Rattle.rail_course.specs.Tracks.{AreLaid, routes_at}
use Rattle.rail_course.proofs.Granting.{in_from_all}
use Rattle.rail_base.proofs.Sharing.{own_goes_over}
use Rattle.rail_course.proofs.Holding.{release_is_own}

-- ---- the nodes of a path

in_after_first : {X : Type 0} (xs : List X) (x : X) → In x (after_first xs) → In x xs
in_after_first [] x m = m
in_after_first (y ∷ ys) x m = inr m

-- the nodes of a path, made in two parts
pub first_and_later : (routes : List Route) (first : RouteNo) (later : List RouteNo) (none one all : List PathNode) (nodes : List (NodeNo × ℤ)) (o : ℕ) → none ≡ [] → nodes ≡ (route_at routes first).nodes
    → o ≡ length_mm (route_at routes first) → one ≡ none ++ map (path_node_at 0 1) nodes → all ≡ one ++ path_nodes_after o 2 (routes_at routes later) → all ≡ path_nodes (routes_at routes (first ∷ later))
first_and_later routes first later none one all nodes o empty of long made more =
    more ∙ ap₂ (λ ns n. ns ++ path_nodes_after n 2 (routes_at routes later)) (made ∙ ap₂ (λ ns ps. ns ++ map (path_node_at 0 1) ps) empty of) long

module _ (d : Station) (routes : List Route) (laid : AreLaid d routes) where
  abbrev NodesInTurn : List PathNode → Type 0
  NodesInTurn = ComeInTurn (λ (n : PathNode). n.event.place) (λ (n : PathNode). n.event.granted)

  of_route : (o j : ℕ) (r : RouteNo) (x : PathNode) → In x (path_nodes_of o j (route_at routes r)) → (x.event.granted ≡ j) × (o ≤ x.event.place) × (x.event.place ≤ o + length_mm (route_at routes r))
  of_route o j r x m = go (in_map_back (path_node_at o j) (route_at routes r).nodes x m)
    where
      go : ((p : NodeNo × ℤ) × In p (route_at routes r).nodes × (path_node_at o j p ≡ x)) → (x.event.granted ≡ j) × (o ≤ x.event.place) × (x.event.place ≤ o + length_mm (route_at routes r))
      go (p, k, same) =
          let here = in_from_all (λ (p : NodeNo × ℤ). nat_abs p.1 ≤ length_mm (route_at routes r)) (route_at routes r).nodes (laid.each r).nodes p k in
          subst (λ (y : PathNode). (y.event.granted ≡ j) × (o ≤ y.event.place) × (y.event.place ≤ o + length_mm (route_at routes r))) same (refl, omega arith, omega arith)

  behind : (o j : ℕ) (path : List RouteNo) (x : PathNode) → In x (path_nodes_after o j (routes_at routes path)) → (j ≤ x.event.granted) × (o ≤ x.event.place)
  behind o j [] x m = absurd m
  behind o j (r ∷ rs) x m = go (in_append x (after_first (path_nodes_of o j (route_at routes r))) (path_nodes_after (o + length_mm (route_at routes r)) (j + 1) (routes_at routes rs)) m) (behind (o + length_mm (route_at routes r)) (j + 1) rs x)
    where
      go : In x (after_first (path_nodes_of o j (route_at routes r))) ⊎ In x (path_nodes_after (o + length_mm (route_at routes r)) (j + 1) (routes_at routes rs))
          → (In x (path_nodes_after (o + length_mm (route_at routes r)) (j + 1) (routes_at routes rs)) → (j + 1 ≤ x.event.granted) × (o + length_mm (route_at routes r) ≤ x.event.place))
          → (j ≤ x.event.granted) × (o ≤ x.event.place)
      go (inl k) later = let h = of_route o j r x (in_after_first (path_nodes_of o j (route_at routes r)) x k) in let a = h.0 in let b = h.1 in (omega arith, omega arith)
      go (inr k) later = let h = later k in let a = h.0 in let b = h.1 in (omega arith, omega arith)

  with_next : (o j : ℕ) (r : RouteNo) (rs : List RouteNo) (first : List PathNode) → ((x : PathNode) → In x first → In x (path_nodes_of o j (route_at routes r)))
      → NodesInTurn (path_nodes_after (o + length_mm (route_at routes r)) (j + 1) (routes_at routes rs)) → NodesInTurn (first ++ path_nodes_after (o + length_mm (route_at routes r)) (j + 1) (routes_at routes rs))
  with_next o j r rs first of later x y m n less = go (in_append x first rest m) (in_append y first rest n)
    where
      rest : List PathNode
      rest = path_nodes_after (o + length_mm (route_at routes r)) (j + 1) (routes_at routes rs)

      go : In x first ⊎ In x rest → In y first ⊎ In y rest → x.event.granted ≤ y.event.granted
      go (inl a) (inl b) = let h = (of_route o j r x (of x a)).0 in let k = (of_route o j r y (of y b)).0 in omega arith
      go (inl a) (inr b) = let h = (of_route o j r x (of x a)).0 in let k = (behind (o + length_mm (route_at routes r)) (j + 1) rs y b).0 in omega arith
      go (inr a) (inl b) = let h = (behind (o + length_mm (route_at routes r)) (j + 1) rs x a).1 in let k = (of_route o j r y (of y b)).2 in absurd (omega arith)
      go (inr a) (inr b) = later x y a b less

  later_nodes : (o j : ℕ) (path : List RouteNo) → NodesInTurn (path_nodes_after o j (routes_at routes path))
  later_nodes o j [] = λ x y m n less. absurd m
  later_nodes o j (r ∷ rs) = with_next o j r rs (after_first (path_nodes_of o j (route_at routes r))) (λ x m. in_after_first (path_nodes_of o j (route_at routes r)) x m) (later_nodes (o + length_mm (route_at routes r)) (j + 1) rs)

  pub nodes_in_turn : (path : List RouteNo) → NodesInTurn (path_nodes (routes_at routes path))
  nodes_in_turn [] = λ x y m n less. absurd m
  nodes_in_turn (r ∷ rs) =
      let begin : 0 + length_mm (route_at routes r) ≡ length_mm (route_at routes r) = omega arith in
      subst (λ o. NodesInTurn (path_nodes_of 0 1 (route_at routes r) ++ path_nodes_after o 2 (routes_at routes rs))) begin
      (with_next 0 1 r rs (path_nodes_of 0 1 (route_at routes r)) (λ x m. m) (later_nodes (0 + length_mm (route_at routes r)) 2 rs))

  -- ---- the releases of a path

  -- how long the first routes of a path are, so many of them
  abbrev length_to : List RouteNo → ℕ → ℕ
  length_to path n = sum_by length_mm (take n (routes_at routes path))

  length_rises : (path : List RouteNo) (m n : ℕ) → m ≤ n → length_to path m ≤ length_to path n
  length_rises path zero n h = omega arith
  length_rises path (suc m) zero h = absurd (omega arith)
  length_rises [] (suc m) (suc n) h = omega arith
  length_rises (r ∷ rs) (suc m) (suc n) h =
      let a = sum_by-cons length_mm (route_at routes r) (take m (routes_at routes rs)) in
      let b = sum_by-cons length_mm (route_at routes r) (take n (routes_at routes rs)) in
      let k = length_rises rs m n (omega arith) in
      omega arith

  abbrev before : List RouteNo → RouteNo → List RouteNo
  before path r = before_first (λ q. is_route q r) path

  before_are_first : (path : List RouteNo) (r : RouteNo) → map (route_at routes) (before path r) ≡ take (length (before path r)) (routes_at routes path)
  before_are_first [] r = refl
  before_are_first (q ∷ qs) r = go (is_route q r) (before_are_first qs r)
    where
      go : (b : Bool) → map (route_at routes) (before qs r) ≡ take (length (before qs r)) (routes_at routes qs) → map (route_at routes) (if b then [] else q ∷ before qs r) ≡ take (length (if b then [] else q ∷ before qs r)) (routes_at routes (q ∷ qs))
      go true later = refl
      go false later = ap (λ zs. route_at routes q ∷ zs) later

  up_to_it : (path : List RouteNo) (r : RouteNo) → In r path → length_to path (suc (length (before path r))) ≡ sum_by length_mm (map (route_at routes) (before path r)) + length_mm (route_at routes r)
  up_to_it [] r m = absurd m
  up_to_it (q ∷ qs) r m = go (is_route q r) refl m (λ k. up_to_it qs r k)
    where
      go : (b : Bool) → is_route q r ≡ b → (q ≡ r) ⊎ In r qs
          → (In r qs → length_to qs (suc (length (before qs r))) ≡ sum_by length_mm (map (route_at routes) (before qs r)) + length_mm (route_at routes r))
          → length_to (q ∷ qs) (suc (length (if b then [] else q ∷ before qs r))) ≡ sum_by length_mm (map (route_at routes) (if b then [] else q ∷ before qs r)) + length_mm (route_at routes r)
      go true e k later =
          let same : q ≡ r = ap (λ n. record { 0 = n }) (eqb-true q.0 r.0 e) in
          sum_by-cons length_mm (route_at routes q) [] ∙ ap (λ (p : RouteNo). length_mm (route_at routes p) + 0) same ∙ omega arith
      go false e (inl same) later = absurd (let t : is_route q r ≡ true = eq-eqb q.0 r.0 (ap (λ (p : RouteNo). p.0) same) in cc)
      go false e (inr k) later =
          let a = sum_by-cons length_mm (route_at routes q) (take (suc (length (before qs r))) (routes_at routes qs)) in
          let b = sum_by-cons length_mm (route_at routes q) (map (route_at routes) (before qs r)) in
          let h = later k in
          omega arith

  module _ (p : Dispatch) (t : TrainNo) where
    -- a release is no nearer than where its route begins, and no farther than where it ends, and the train's length behind
    abbrev Between : Event → Type 0
    Between e = (n : ℕ) × (e.granted ≡ suc n) × (length_to (p.path t) n + train_length d t ≤ e.place)
        × (e.place ≤ length_to (p.path t) (suc n) + train_length d t)

    abbrev IsBetween : Release → Type 0
    IsBetween x = Between x.event

    on_route : (r : RouteNo) (z : SectionNo) → In r (p.path t) → In z (own_sections (route_at routes r)) → IsBetween (release_for d routes p (record { train = t; route = r }) z)
    on_route r z m own =
        let own_release = release_is_own d routes p (record { train = t; route = r }) z (own_goes_over (route_at routes r) z own) in
        let number = length-map (route_at routes) (before (p.path t) r) in
        let first = ap (sum_by length_mm) (before_are_first (p.path t) r) in
        let up = up_to_it (p.path t) r m in
        let within = (laid.each r).releases z in
        subst (λ e. Between e.event) (sym own_release) (length (before (p.path t) r), ap suc number, omega arith, omega arith)

    between : (x : Release) → In x (releases_of_train d routes p t) → IsBetween x
    between x m = go (in_flat_map_back (releases_of_route d routes p t) (p.path t) x m)
      where
        here : (r : RouteNo) → In r (p.path t) → ((z : SectionNo) × In z (own_sections (route_at routes r)) × (release_for d routes p (record { train = t; route = r }) z ≡ x)) → IsBetween x
        here r k (z, l, same) = subst IsBetween same (on_route r z k l)

        go : ((r : RouteNo) × In r (p.path t) × In x (releases_of_route d routes p t r)) → IsBetween x
        go (r, k, i) = here r k (in_map_back (release_for d routes p (record { train = t; route = r })) (own_sections (route_at routes r)) x i)

    pub releases_in_turn : ComeInTurn (λ (r : Release). r.event.place) (λ (r : Release). r.event.granted) (releases_of_train d routes p t)
    releases_in_turn x y m n less = go (below_or_not y.event.granted x.event.granted)
      where
        go : (y.event.granted < x.event.granted) ⊎ (x.event.granted ≤ y.event.granted) → x.event.granted ≤ y.event.granted
        go (inl later) =
            let a = between x m in
            let b = between y n in
            let of_a = a.1 in
            let of_b = b.1 in
            let low = a.2 in
            let high = b.3 in
            let c = length_rises (p.path t) (suc b.0) a.0 (omega arith) in
            absurd (omega arith)
        go (inr within) = within
