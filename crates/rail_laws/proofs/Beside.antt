-- What is held behind the end of a route is none of its own sections.
use Rattle.std.proofs.Common.{◌≡◌, Bool, false, not, ◌==◌, ◌||◌, List, [], ◌∷◌, map, filter, ℤ, pos, refl, ap, subst, ◌∙◌}
use Rattle.std.specs.List.{list_any}
use Rattle.rail_base.specs.declared.station.Station.{Station}
use Rattle.rail_base.specs.declared.station.Overlap.{Overlap}
use Rattle.rail_base.specs.declared.station.EdgeNo.{EdgeNo}
use Rattle.rail_base.specs.declared.station.SectionNo.{SectionNo}
use Rattle.rail_base.specs.declared.route.Route.{Route}
use Rattle.rail_base.specs.declared.route.OverlapSection.{OverlapSection}
use Rattle.rail_base.specs.declared.route.Start.{Start}
use Rattle.rail_base.specs.declared.route.Finish.{Finish}
use Rattle.rail_base.specs.Members.{In, Pairs}
use Rattle.rail_base.specs.Stations.{section_of}
use Rattle.rail_base.specs.Admitted.{IsAdmitted}
use Rattle.rail_base.proofs.Members.{is_false}
use Rattle.rail_base.proofs.Lists.{in_filter_back, in_map_back, pairs_filter, pairs_map}
use Rattle.rail_spec.specs.Track.{edge_ends, end_overlap, first_occurrences, last_end, overlap_sections, route_of, routes_of}
use Rattle.rail_laws.specs.Elementary.{HasOverlapsBeside}
use Rattle.rail_laws.proofs.AsEdges.{first_in, first_differ}
use Rattle.rail_laws.proofs.RouteLaws.{route_is}

any_map : {X Y : Type 0} (test : Y → Bool) (f : X → Y) (xs : List X) → list_any test (map f xs) ≡ list_any (λ x. test (f x)) xs
any_map test f [] = refl
any_map test f (x ∷ xs) = ap (λ b. test (f x) || b) (any_map test f xs)

module _ (o : Overlap) (own : List SectionNo) where
  abbrev held : SectionNo → OverlapSection
  held z = record { section = z; hold_ms = o.hold_ms }

  abbrev free : SectionNo → Bool
  free z = not (list_any (λ (y : SectionNo). y.0 == z.0) own)

  is_one : (p : OverlapSection) → In p (overlap_sections o own) → In p.section o.sections × (list_any (λ (y : SectionNo). y.0 == p.section.0) own ≡ false)
  is_one p m =
      let z = in_map_back held (filter free (first_occurrences o.sections)) p m in
      let b = in_filter_back free (first_occurrences o.sections) z.0 z.1 in
      subst (λ (q : OverlapSection). In q.section o.sections × (list_any (λ (y : SectionNo). y.0 == q.section.0) own ≡ false)) z.2 (first_in o.sections z.0 b.0, is_false (list_any (λ (y : SectionNo). y.0 == z.0.0) own) b.1)

  differ : Pairs (λ (p q : OverlapSection). p.section ≡ q.section → ⊥) (overlap_sections o own)
  differ = pairs_map (λ (p q : OverlapSection). p.section ≡ q.section → ⊥) (λ (y z : SectionNo). y ≡ z → ⊥) held (filter free (first_occurrences o.sections)) (λ a b k. k)
      (pairs_filter (λ (y z : SectionNo). y ≡ z → ⊥) free (first_occurrences o.sections) (first_differ o.sections))

module _ (d : Station) where
  beside_of : (s : Start) (path : List EdgeNo) (f : Finish) → HasOverlapsBeside d (route_of d s path f)
  beside_of s path f =
      let own = first_occurrences (map (section_of d) path) in
      record {
        listed = λ p m. (is_one (end_overlap d f) own p m).0;
        not_own = λ p m. any_map (λ (q : SectionNo × ℤ). q.0.0 == p.section.0) (λ (z : SectionNo). (z, pos (last_end d z (edge_ends d 0 path)))) own ∙ (is_one (end_overlap d f) own p m).1;
        each_once = differ (end_overlap d f) own;
      }

  pub beside : IsAdmitted d → (r : Route) → In r (routes_of d) → HasOverlapsBeside d r
  beside adm r m = let h = route_is d adm r m in subst (HasOverlapsBeside d) h.is_route_of (beside_of r.start r.edges r.finish)
