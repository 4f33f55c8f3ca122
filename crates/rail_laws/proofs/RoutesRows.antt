-- The routes of small designs.
use Rattle.std.specs.Prelude.{◌≡◌, ℕ, List, [], ◌∷◌, map, pos, ℤ, refl}
use Rattle.rail_base.specs.declared.station.SectionNo.{SectionNo}
use Rattle.rail_base.specs.declared.route.OverlapSection.{OverlapSection}
use Rattle.rail_spec.specs.Track.{routes_of, edges_met_again}
use Rattle.rail_laws.proofs.Stations.{follow, follow_over, ring}

abbrev numbers : List (SectionNo × ℤ) → List (ℕ × ℤ)
numbers zs = map (λ z. (z.0.0, z.1)) zs

abbrev held : List OverlapSection → List (ℕ × ℕ)
held ps = map (λ p. (p.section.0, p.hold_ms)) ps

lengths : map (λ r. r.length) (routes_of follow) ≡ pos 10000 ∷ pos 6000 ∷ pos 16000 ∷ []
lengths = refl

releases : map (λ r. numbers r.sections) (routes_of follow) ≡ ((1, pos 10000) ∷ []) ∷ ((2, pos 6000) ∷ []) ∷ ((2, pos 6000) ∷ (1, pos 16000) ∷ []) ∷ []
releases = refl

-- the first route ends at the signal
overlaps : map (λ r. held r.overlaps) (routes_of (follow_over (record { 0 = 2 } ∷ record { 0 = 1 } ∷ record { 0 = 2 } ∷ []))) ≡ ((2, 2000) ∷ []) ∷ [] ∷ [] ∷ []
overlaps = refl

ring_closes : edges_met_again ring ≡ record { 0 = 2 } ∷ []
ring_closes = refl
