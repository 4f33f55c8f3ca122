-- The sections of a route are those of the station.
use Rattle.std.proofs.Common.{◌≡◌, ℕ, suc, ◌+◌, ◌≤◌, ◌<◌, ◌⊎◌, inl, inr, ℤ, Bool, true, ◌&&◌, ◌==◌, nat_le, List, [], ◌∷◌, map, length, get_or, Option, Some, None, refl, sym, subst, arith, eqb-true, le_trans}
use Rattle.std.specs.Prelude.{find, unwrap_or}
use Rattle.std.specs.List.{list_all}
use Rattle.rail_base.specs.declared.station.Station.{Station}
use Rattle.rail_base.specs.declared.station.EdgeNo.{EdgeNo}
use Rattle.rail_base.specs.declared.station.SectionNo.{SectionNo}
use Rattle.rail_base.specs.declared.station.Overlap.{Overlap}
use Rattle.rail_base.specs.declared.route.Route.{Route}
use Rattle.rail_base.specs.declared.route.RouteNo.{RouteNo}
use Rattle.rail_base.specs.declared.route.OverlapSection.{OverlapSection}
use Rattle.rail_base.specs.declared.route.Finish.{Finish}
use Rattle.rail_base.specs.declared.route.Finish.TheVariants as finish
use Rattle.rail_base.specs.declared.station.Edge.{Edge}
use Rattle.rail_base.specs.Admission.{are_apart, are_few, are_named, are_numbered, is_admitted, is_good_edge, is_good_node, is_good_signal, is_sound_track, is_sound_traffic, are_sound_overlaps, is_timed}
use Rattle.rail_base.specs.Admitted.{IsAdmitted}
use Rattle.rail_base.specs.Members.{In, all_pairs}
use Rattle.rail_base.specs.Numbering.{one_to}
use Rattle.rail_base.specs.Routes.{no_route, route_at}
use Rattle.rail_base.specs.Stations.{IsSection, no_overlap, section_of}
use Rattle.rail_base.proofs.Admitting.{admitted}
use Rattle.rail_base.proofs.Contained.{in_at}
use Rattle.rail_base.proofs.Lists.{in_map, in_map_back}
use Rattle.rail_base.proofs.Members.{and_left, and_right, either}
use Rattle.rail_spec.specs.Track.{end_overlap, first_occurrences, routes_of}
use Rattle.rail_laws.proofs.Admits.{entry_is}
use Rattle.rail_laws.proofs.RouteLaws.{route_is, walk_edges}
use Rattle.rail_laws.proofs.AsEdges.{first_in, told}
use Rattle.rail_laws.proofs.Beside.{beside}
use Rattle.rail_laws.proofs.Verdicts.{found_in}
use Rattle.interlocking.specs.declared.railway.Interlocking.{Interlocking}

module _ (i : Interlocking) where
  abbrev station : Station
  station = i.design.station

  adm : IsAdmitted station
  adm = admitted station i.design.admitted

  sections_within : (r : RouteNo) (p : SectionNo × ℤ) → In p (route_at i.routes r).sections → IsSection station p.0
  sections_within r = subst (λ rs. (p : SectionNo × ℤ) → In p (route_at rs r).sections → IsSection station p.0) (sym i.table)
      (entry_is (λ (q : Route). (p : SectionNo × ℤ) → In p q.sections → IsSection station p.0) no_route (routes_of station) r.0 (λ p m. absurd m) of_route)
    where
      of_route : (q : Route) → In q (routes_of station) → (p : SectionNo × ℤ) → In p q.sections → IsSection station p.0
      of_route q m p k =
          let first : In p.0 (first_occurrences (map (section_of station) q.edges)) = subst (In p.0) (told station adm q m).sections_are (in_map (λ (x : SectionNo × ℤ). x.0) q.sections p k) in
          at (in_map_back (section_of station) q.edges p.0 (first_in (map (section_of station) q.edges) p.0 first))
        where
          at : ((e : EdgeNo) × In e q.edges × (section_of station e ≡ p.0)) → IsSection station p.0
          at (e, n, same) =
              let l = (route_is station adm q m).elementary in
              subst (IsSection station) same (adm.edge e (walk_edges station l.end q.edges l.walk e n)).section

  -- so are those of an overlap
  of_overlap : (f : Finish) (z : SectionNo) → In z (end_overlap station f).sections → IsSection station z
  of_overlap (finish.Signal s) z m = go (find test station.overlaps) refl m
    where
      test : Overlap → Bool
      test o = o.signal.0 == s.0

      go : (o : Option Overlap) → find test station.overlaps ≡ o → In z (unwrap_or o no_overlap).sections → IsSection station z
      go None e k = absurd k
      go (Some o) e k = (adm.overlap o (found_in test station.overlaps o e)).there z k
  of_overlap (finish.Exit n) z m = absurd m
  of_overlap (finish.DeadEnd n) z m = absurd m

  overlaps_within : (r : RouteNo) (p : OverlapSection) → In p (route_at i.routes r).overlaps → IsSection station p.section
  overlaps_within r = subst (λ rs. (p : OverlapSection) → In p (route_at rs r).overlaps → IsSection station p.section) (sym i.table)
      (entry_is (λ (q : Route). (p : OverlapSection) → In p q.overlaps → IsSection station p.section) no_route (routes_of station) r.0 (λ p m. absurd m)
      (λ q m p k. of_overlap q.finish p.section ((beside station adm q m).listed p k)))

  -- a part by its place in the route
  pub part_within : (r : RouteNo) (parts : List (SectionNo × ℤ)) (k : ℕ) (other : SectionNo × ℤ) → parts ≡ (route_at i.routes r).sections → k < length parts → (n : ℕ) → length station.sections ≤ n
      → (1 ≤ (get_or parts k other).0.0) × ((get_or parts k other).0.0 ≤ n)
  part_within r parts k other same less n many =
      let in_station = sections_within r (get_or parts k other) (subst (In (get_or parts k other)) same (in_at parts k other less)) in
      (in_station.0, le_trans in_station.1 many)

  -- and one of the overlap
  pub part_beside_within : (r : RouteNo) (parts : List OverlapSection) (k : ℕ) (other : OverlapSection) → parts ≡ (route_at i.routes r).overlaps → k < length parts → (n : ℕ) → length station.sections ≤ n
      → (1 ≤ (get_or parts k other).section.0) × ((get_or parts k other).section.0 ≤ n)
  part_beside_within r parts k other same less n many =
      let in_station = overlaps_within r (get_or parts k other) (subst (In (get_or parts k other)) same (in_at parts k other less)) in
      (in_station.0, le_trans in_station.1 many)

-- ---- how many sections there are

-- they are numbered by their first edges, so there are no more of them than edges
numbered_few : (total known : ℕ) (es : List Edge) → are_numbered total known es ≡ true → total ≤ known + length es
numbered_few total known [] h = let e : known ≡ total = eqb-true known total h in omega arith
numbered_few total known (e ∷ es) h = go (either (nat_le e.section.0 known && are_numbered total known es) ((e.section.0 == known + 1) && are_numbered total (known + 1) es) h) (numbered_few total known es) (numbered_few total (known + 1) es)
  where
    go : ((nat_le e.section.0 known && are_numbered total known es) ≡ true) ⊎ (((e.section.0 == known + 1) && are_numbered total (known + 1) es) ≡ true) → (are_numbered total known es ≡ true → total ≤ known + length es) → (are_numbered total (known + 1) es ≡ true → total ≤ known + 1 + length es) → total ≤ known + suc (length es)
    go (inl k) old new = let l = old (and_right (nat_le e.section.0 known) (are_numbered total known es) k) in omega arith
    go (inr k) old new = let l = new (and_right (e.section.0 == known + 1) (are_numbered total (known + 1) es) k) in omega arith

pub few_sections : (d : Station) → is_admitted d ≡ true → length d.sections ≤ 4000
few_sections d h =
    let sound = and_right (are_few d && is_timed d && are_named d) (is_sound_track d) (and_left (are_few d && is_timed d && are_named d && is_sound_track d) (is_sound_traffic d) (and_left (are_few d && is_timed d && are_named d && is_sound_track d && is_sound_traffic d) (are_sound_overlaps d) h)) in
    let prefix = and_left (nodes_pass && edges_pass && are_numbered (length d.sections) 0 d.edges) signals_pass (and_left (nodes_pass && edges_pass && are_numbered (length d.sections) 0 d.edges && signals_pass) (all_pairs are_apart d.signals) sound) in
    let few = numbered_few (length d.sections) 0 d.edges (and_right (nodes_pass && edges_pass) (are_numbered (length d.sections) 0 d.edges) prefix) in
    let most = (admitted d h).many_edges in
    omega arith
  where
    nodes_pass : Bool
    nodes_pass = list_all (is_good_node d) (map (λ n. record { 0 = n }) (one_to (length d.nodes)))

    edges_pass : Bool
    edges_pass = list_all (is_good_edge d) d.edges

    signals_pass : Bool
    signals_pass = list_all (is_good_signal d) d.signals
