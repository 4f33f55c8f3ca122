-- Routes of which the second has an own section of the first share one.
use Rattle.std.proofs.Common.{◌≡◌, ℤ, Bool, true, false, ◌&&◌, ◌||◌, refl, sym, ap, ap₂, ◌∙◌}
use Rattle.std.specs.List.{list_any}
use Rattle.rail_base.specs.declared.station.SectionNo.{SectionNo}
use Rattle.rail_base.specs.declared.route.Route.{Route}
use Rattle.rail_base.specs.Routes.{has_section, own_sections, share}
use Rattle.rail_base.proofs.Sharing.{list_any-map, share-parts}

in_parts : (own held : Bool) → own ≡ ((own || held) && own)
in_parts true held = refl
in_parts false true = refl
in_parts false false = refl

-- so where the trains differ, that is how they contend over an own one
pub over_own : (differ : Bool) (r q : Route) → differ ≡ true → list_any (λ p. has_section q p.0) r.sections ≡ (differ && share r q && list_any (has_section q) (own_sections r))
over_own differ r q h =
    in_parts (list_any (λ p. has_section q p.0) r.sections) (list_any (λ p. has_section q p.section) r.overlaps)
    ∙ (ap₂ (λ s own. s && own) (sym (share-parts r q)) (sym (list_any-map (has_section q) (λ (p : SectionNo × ℤ). p.0) r.sections))
    ∙ ap (λ t. t && share r q && list_any (has_section q) (own_sections r)) (sym h))
