-- What is taken for granted of routes and paths holds of every well-formed plan of an admitted design.
use Rattle.std.proofs.Common.{◌≡◌, ℕ, ◌<◌, ◌≤◌, ◌^◌, ◌*◌, suc, inl, inr, Bool, true, false, cond, not, ◌&&◌, ◌==◌, nat_le, List, [], ◌∷◌, map, filter, flat_map, find, length, All, nat_abs, ℤ, pos, sum_by, Option, None, Some, unwrap_or, get_or, refl, sym, ap, ◌∙◌, subst, arith, leb-true, length-append}
use Rattle.std.proofs.lemmas.List.Sums.{sum_by-cons}
use Rattle.rail_base.specs.declared.station.Station.{Station}
use Rattle.rail_base.specs.declared.station.EdgeNo.{EdgeNo}
use Rattle.rail_base.specs.declared.station.NodeNo.{NodeNo}
use Rattle.rail_base.specs.declared.station.Overlap.{Overlap}
use Rattle.rail_base.specs.declared.station.SectionNo.{SectionNo}
use Rattle.rail_base.specs.declared.route.OverlapSection.{OverlapSection}
use Rattle.rail_base.specs.declared.route.Finish.{Finish}
use Rattle.rail_base.specs.declared.route.Finish.TheVariants as finish
use Rattle.rail_base.specs.declared.station.TrainNo.{TrainNo}
use Rattle.rail_base.specs.declared.route.Route.{Route}
use Rattle.rail_base.proofs.Admitting.{admitted}
use Rattle.interlocking.specs.declared.railway.Interlocking.{Interlocking}
use Rattle.rail_base.specs.declared.route.RouteNo.{RouteNo}
use Rattle.rail_base.specs.declared.plan.Command.{Command}
use Rattle.rail_base.specs.Members.{In}
use Rattle.rail_base.specs.Admitted.{IsAdmitted}
use Rattle.rail_base.specs.Stations.{IsTrain, edge_of, length_of, section_of, trains, no_overlap}
use Rattle.rail_base.specs.Routes.{IsRoute, no_route, route_at, length_mm, goes_over, held_sections}
use Rattle.rail_base.specs.Numbering.{after_first}
use Rattle.rail_base.proofs.Members.{and_left, and_right, list_all_at}
use Rattle.rail_base.proofs.Lists.{in_entry, in_flat_map, in_flat_map_back, in_map_back, length-map}
use Rattle.rail_base.proofs.Contained.{in_at, contains_of_in}
use Rattle.rail_spec.specs.Track.{edge_ends, end_overlap, first_occurrences, overlap_sections, routes_of}
use Rattle.rail_spec.specs.Plans.{commands, path}
use Rattle.rail_spec.specs.Feasible.{is_of, IsWellFormed}
use Rattle.rail_laws.proofs.RouteLaws.{walk_edges, route_is}
use Rattle.rail_laws.proofs.AsEdges.{told}
use Rattle.rail_laws.proofs.Beside.{beside}
use Rattle.rail_laws.proofs.Verdicts.{found_in}
use Rattle.std.specs.List.{list_any}
use Rattle.rail_laws.proofs.Admits.{entry_is, good_route}
use Rattle.rail_laws.proofs.Standing.{in_path}
use Rattle.rail_laws.proofs.Small.{short_path, short_route}
use Rattle.rail_course.specs.Tracks.{HasLimit, AreLaid, ArePaths, IsCommand, IsPathInRange, routes_at, edges_of, held_count, path_length}
use Rattle.rail_course.proofs.Numbered.{many_trains}
use Rattle.rail_course.proofs.Rating.{speed_small}

pub all_from_in : {X : Type 0} (P : X → Type 0) (xs : List X) → ((x : X) → In x xs → P x) → All P xs
all_from_in P xs h = λ k other l. h (get_or xs k other) (in_at xs k other l)

pub in_from_all : {X : Type 0} (P : X → Type 0) (xs : List X) → All P xs → (x : X) → In x xs → P x
in_from_all P xs h x m = let c = contains_of_in xs x m in subst P c.2 (h c.0 x c.1)

pub sum_least : {X : Type 0} (f : X → ℕ) (xs : List X) → ((x : X) → In x xs → 1 ≤ f x) → length xs ≤ sum_by f xs
sum_least f [] h = omega arith
sum_least f (x ∷ xs) h = let s = sum_by-cons f x xs in let a = h x (inl refl) in let b = sum_least f xs (λ y m. h y (inr m)) in omega arith

-- the edges of a path have a length
pub edges_long : (d : Station) (routes : List Route) (path : List RouteNo) → AreLaid d routes → (e : EdgeNo) → In e (edges_of routes path) → 1 ≤ length_of d e
edges_long d routes path laid e m = go (in_flat_map_back (λ r. r.edges) (routes_at routes path) e m)
  where
    at : (r : Route) → ((n : RouteNo) × In n path × (route_at routes n ≡ r)) → In e r.edges → 1 ≤ length_of d e
    at r (n, k, same) i = (in_from_all (HasLimit d) (route_at routes n).edges (laid.each n).edges e (subst (λ (q : Route). In e q.edges) (sym same) i)).long

    go : ((r : Route) × In r (routes_at routes path) × In e r.edges) → 1 ≤ length_of d e
    go (r, k, i) = at r (in_map_back (route_at routes) path r k) i

-- what is kept of a list is no longer
length-once : {X : Type 0} (test : X → Bool) (xs : List X) → length (filter test xs) ≤ length xs
length-once test [] = omega arith
length-once test (x ∷ xs) = go (test x) (length-once test xs)
  where
    go : (b : Bool) → length (filter test xs) ≤ length xs → length (cond b (x ∷ filter test xs) (filter test xs)) ≤ suc (length xs)
    go true h = omega arith
    go false h = omega arith

length-first : (zs : List SectionNo) → length (first_occurrences zs) ≤ length zs
length-first [] = omega arith
length-first (z ∷ zs) =
    let a = length-once (λ (y : SectionNo). not (y.0 == z.0)) (first_occurrences zs) in
    let h = length-first zs in
    omega arith

module _ (d : Station) (adm : IsAdmitted d) where
  -- an overlap has few sections
  few_of : (o : Option Overlap) → ((q : Overlap) → o ≡ Some q → In q d.overlaps) → length (unwrap_or o no_overlap).sections ≤ 16
  few_of None there = omega arith
  few_of (Some q) there = (adm.overlap q (there q refl)).sections.1

  few_at_end : (f : Finish) → length (end_overlap d f).sections ≤ 16
  few_at_end (finish.Signal s) = few_of (find (λ o. o.signal.0 == s.0) d.overlaps) (λ q e. found_in (λ o. o.signal.0 == s.0) d.overlaps q e)
  few_at_end (finish.Exit n) = omega arith
  few_at_end (finish.DeadEnd n) = omega arith

  few_overlaps : (r : Route) → In r (routes_of d) → length r.overlaps ≤ 16
  few_overlaps r m = let h = route_is d adm r m in subst (λ (q : Route). length q.overlaps ≤ 16) h.is_route_of (go r.finish (first_occurrences (map (section_of d) r.edges)))
    where
      go : (f : Finish) (own : List SectionNo) → length (overlap_sections (end_overlap d f) own) ≤ 16
      go f own =
          let o = end_overlap d f in
          let free : SectionNo → Bool = λ z. not (list_any (λ (y : SectionNo). y.0 == z.0) own) in
          let a : length (overlap_sections o own) ≡ length (filter free (first_occurrences o.sections)) = length-map {Y = OverlapSection} (λ (z : SectionNo). record { section = z; hold_ms = o.hold_ms }) (filter free (first_occurrences o.sections)) in
          let b = length-once free (first_occurrences o.sections) in
          let c = length-first o.sections in
          let e = few_at_end f in
          omega arith

  held_beside : (r : Route) → In r (routes_of d) → (z : SectionNo) → In z (held_sections r) → goes_over r z ≡ false
  held_beside r m z k = at (in_map_back (λ (o : OverlapSection). o.section) r.overlaps z k)
    where
      at : ((o : OverlapSection) × In o r.overlaps × (o.section ≡ z)) → goes_over r z ≡ false
      at (o, i, s) = subst (λ z. goes_over r z ≡ false) s ((beside d adm r m).not_own o i)

  nodes_end : (r : Route) → In r (routes_of d) → map (λ (n : NodeNo × ℤ). n.1) (after_first r.nodes) ≡ map (λ (e : EdgeNo × ℕ). pos e.1) (edge_ends d 0 r.edges)
  nodes_end r m = after_first-of r.nodes ∙ ap after_first (told d adm r m).nodes_at
    where
      after_first-of : (ns : List (NodeNo × ℤ)) → map (λ (n : NodeNo × ℤ). n.1) (after_first ns) ≡ after_first (map (λ (n : NodeNo × ℤ). n.1) ns)
      after_first-of [] = refl
      after_first-of (n ∷ ns) = refl

  has_edge : (r : Route) → In r (routes_of d) → 1 ≤ length r.edges
  has_edge r m = go r.edges (told d adm r m).whole
    where
      go : (es : List EdgeNo) → ((e : EdgeNo) × In (e, sum_by (length_of d) es) (edge_ends d 0 es)) → 1 ≤ length es
      go [] (e, k) = absurd k
      go (e ∷ es) h = omega arith

  edge_has_limit : (q : Route) → In q (routes_of d) → All (HasLimit d) q.edges
  edge_has_limit q k = all_from_in (HasLimit d) q.edges (λ e m.
      let l = (route_is d adm q k).elementary in
      let there = walk_edges d l.end q.edges l.walk e m in
      let good = adm.edge e there in
      record { there = there; long = good.length_mm.0; moves = good.moves; slow = speed_small (edge_of d e).speed_mm_s d.tick_ms good.speed.1 adm.tick.1 })

  pub laid : AreLaid d (routes_of d)
  laid = record {
    each = λ r.
        let good = good_route d adm r in
        record {
          edges = entry_is (λ (q : Route). All (HasLimit d) q.edges) no_route (routes_of d) r.0 (λ k other l. absurd (omega arith)) edge_has_limit;
          whole = good.whole;
          nodes = all_from_in (λ (p : NodeNo × ℤ). nat_abs p.1 ≤ length_mm (route_at (routes_of d) r)) (route_at (routes_of d) r).nodes good.nodes_in;
          ends = entry_is (λ (q : Route). map (λ (n : NodeNo × ℤ). n.1) (after_first q.nodes) ≡ map (λ (e : EdgeNo × ℕ). pos e.1) (edge_ends d 0 q.edges)) no_route (routes_of d) r.0 refl nodes_end;
          releases = good.released_in;
          beside = entry_is (λ (q : Route). (z : SectionNo) → In z (held_sections q) → goes_over q z ≡ false) no_route (routes_of d) r.0 (λ z m. absurd m) held_beside;
          few_held = entry_is (λ (q : Route). length q.overlaps ≤ 16) no_route (routes_of d) r.0 (omega arith) few_overlaps;
        };
    some_edge = λ r is. has_edge (route_at (routes_of d) r) (in_entry no_route (routes_of d) r.0 is.0 is.1);
  }

  -- a path has no more edges than mm
  pub edges_few : (path : List RouteNo) → length (edges_of (routes_of d) path) ≤ path_length (routes_of d) path
  edges_few [] = omega arith
  edges_few (r ∷ rs) =
      let here = sum_least (length_of d) (route_at (routes_of d) r).edges (λ e m. (in_from_all (HasLimit d) (route_at (routes_of d) r).edges (laid.each r).edges e m).long) in
      let whole = (laid.each r).whole in
      let later = edges_few rs in
      let s = sum_by-cons length_mm (route_at (routes_of d) r) (routes_at (routes_of d) rs) in
      let l = length-append (route_at (routes_of d) r).edges (edges_of (routes_of d) rs) in
      omega arith

  -- and few sections are held behind the ends of its routes
  pub held_few : (path : List RouteNo) → All (IsRoute (routes_of d)) path → held_count (routes_of d) path ≤ 16 * path_length (routes_of d) path
  held_few [] named = omega arith
  held_few (r ∷ rs) named =
      let edges = sum_least (length_of d) (route_at (routes_of d) r).edges (λ e m. (in_from_all (HasLimit d) (route_at (routes_of d) r).edges (laid.each r).edges e m).long) in
      let some = laid.some_edge r (named 0 r (omega arith)) in
      let few = (laid.each r).few_held in
      let whole = (laid.each r).whole in
      let later = held_few rs (λ k other l. named (suc k) other (omega arith)) in
      let s = sum_by-cons length_mm (route_at (routes_of d) r) (routes_at (routes_of d) rs) in
      let l = length-append (route_at (routes_of d) r).overlaps (flat_map (λ (q : Route). q.overlaps) (routes_at (routes_of d) rs)) in
      omega arith

  module _ (n : ℕ) (plan : List (List Command)) (formed : IsWellFormed d (routes_of d) n plan) (many : length (routes_of d) ≤ 2000) where
    command_is : (c : Command) → In c (commands plan) → IsCommand d (routes_of d) c
    command_is c m =
        let h = list_all_at (is_of d (routes_of d)) (commands plan) c formed.named m in
        let f = and_left (nat_le 1 c.train.0 && nat_le c.train.0 (length d.trains) && nat_le 1 c.route.0) (nat_le c.route.0 (length (routes_of d))) h in
        let g = and_left (nat_le 1 c.train.0 && nat_le c.train.0 (length d.trains)) (nat_le 1 c.route.0) f in (
          (leb-true 1 c.train.0 (and_left (nat_le 1 c.train.0) (nat_le c.train.0 (length d.trains)) g), leb-true c.train.0 (length d.trains) (and_right (nat_le 1 c.train.0) (nat_le c.train.0 (length d.trains)) g)),
          (leb-true 1 c.route.0 (and_right (nat_le 1 c.train.0 && nat_le c.train.0 (length d.trains)) (nat_le 1 c.route.0) f), leb-true c.route.0 (length (routes_of d)) (and_right (nat_le 1 c.train.0 && nat_le c.train.0 (length d.trains) && nat_le 1 c.route.0) (nat_le c.route.0 (length (routes_of d))) h)),
        )

    pub named : All (λ step. All (IsCommand d (routes_of d)) step) plan
    named = all_from_in (λ step. All (IsCommand d (routes_of d)) step) plan (λ step m. all_from_in (IsCommand d (routes_of d)) step (λ c i. command_is c (in_flat_map (λ (s : List Command). s) plan step c m i)))

    pub in_range : (t : TrainNo) → IsPathInRange (routes_of d) (path plan t)
    in_range t = record {
      named = all_from_in (IsRoute (routes_of d)) (path plan t) (λ r m. (command_is (record { train = t; route = r }) (in_path t plan r m)).1);
      below_2_47 = (let s = short_path d adm n plan formed many t in omega arith);
    }

-- ---- over an interlocking

module _ (i : Interlocking) where
  abbrev station : Station
  station = i.design.station

  adm : IsAdmitted station
  adm = admitted station i.design.admitted

  -- its routes are laid
  pub laid_out : AreLaid station i.routes
  laid_out = subst (AreLaid station) (sym i.table) (laid station adm)

  pub brief : (r : RouteNo) → length_mm (route_at i.routes r) < 2 ^ 47
  brief r = subst (λ rs. length_mm (route_at rs r) < 2 ^ 47) (sym i.table)
      (entry_is (λ (q : Route). length_mm q < 2 ^ 47) no_route (routes_of station) r.0 (omega arith) (λ q m. let s = short_route station adm q m in omega arith))

  pub short_edges : (r : RouteNo) → length (route_at i.routes r).edges < 2 ^ 47
  short_edges r =
      let some = sum_least (length_of station) (route_at i.routes r).edges (λ e m. (in_from_all (HasLimit station) (route_at i.routes r).edges (laid_out.each r).edges e m).long) in
      let whole = (laid_out.each r).whole in
      let near = brief r in
      omega arith

  pub few_edges : (path : List RouteNo) → length (edges_of i.routes path) ≤ path_length i.routes path
  few_edges path = subst (λ rs. length (edges_of rs path) ≤ path_length rs path) (sym i.table) (edges_few station adm path)

  pub few_held : (path : List RouteNo) → All (IsRoute i.routes) path → held_count i.routes path ≤ 16 * path_length i.routes path
  few_held path = subst (λ rs. All (IsRoute rs) path → held_count rs path ≤ 16 * path_length rs path) (sym i.table) (held_few station adm path)

  -- what a well-formed plan has
  module _ (plan : List (List Command)) (formed : IsWellFormed station i.routes 256 plan) where
    there : IsWellFormed station (routes_of station) 256 plan
    there = subst (λ rs. IsWellFormed station rs 256 plan) i.table formed

    few : length (routes_of station) ≤ 2000
    few = subst (λ rs. length rs ≤ 2000) i.table i.at_most_2000

    pub plan_named : All (λ step. All (IsCommand station i.routes) step) plan
    plan_named = subst (λ rs. All (λ step. All (IsCommand station rs) step) plan) (sym i.table) (named station adm 256 plan there few)

    pub plan_in_range : (t : TrainNo) → IsPathInRange i.routes (path plan t)
    plan_in_range = subst (λ rs. (t : TrainNo) → IsPathInRange rs (path plan t)) (sym i.table) (in_range station adm 256 plan there few)

-- paths in range are those of all trains
pub paths_are : (d : Station) (routes : List Route) (f : TrainNo → List RouteNo) → ((t : TrainNo) → IsPathInRange routes (f t)) → (paths : List (List RouteNo)) → paths ≡ map f (trains d) → ArePaths d routes f paths
paths_are d routes f range paths all = record {
  all = all;
  path_a_train = ap length all ∙ length-map f (trains d) ∙ many_trains d;
  range = subst (All (IsPathInRange routes)) (sym all) (all_from_in (IsPathInRange routes) (map f (trains d)) (λ ps m. let k = in_map_back f (trains d) ps m in subst (IsPathInRange routes) k.2 (range k.0)));
}

-- who is no train has no path in a plan whose commands name trains
pub no_path : (d : Station) (routes : List Route) (plan : List (List Command)) → All (λ step. All (IsCommand d routes) step) plan → (t : TrainNo) → (IsTrain d t → ⊥) → path plan t ≡ []
no_path d routes plan named t out = none (path plan t) (λ r m. out (at (in_flat_map_back (λ (s : List Command). s) plan (record { train = t; route = r }) (in_path t plan r m))))
  where
    none : (rs : List RouteNo) → ((r : RouteNo) → In r rs → ⊥) → rs ≡ []
    none [] h = refl
    none (r ∷ rs) h = absurd (h r (inl refl))

    at : {r : RouteNo} → (step : List Command) × In step plan × In (record { train = t; route = r }) step → IsTrain d t
    at (step, m, k) = (in_from_all (IsCommand d routes) step (in_from_all (λ step. All (IsCommand d routes) step) plan named step m) _ k).0
