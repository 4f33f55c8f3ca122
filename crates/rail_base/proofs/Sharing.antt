-- A test of lists that are appended, or of what is made of each.
use Rattle.std.proofs.Common.{◌≡◌, ℤ, ◌⊎◌, inl, inr, Bool, true, false, ◌||◌, ◌==◌, List, [], ◌∷◌, ◌++◌, map, refl, sym, ap, ap₂, subst, ◌∙◌, eqb-true, eq-eqb}
use Rattle.std.specs.List.{list_any}
use Rattle.rail_base.specs.declared.station.SectionNo.{SectionNo}
use Rattle.rail_base.specs.declared.route.Route.{Route}
use Rattle.rail_base.specs.declared.route.OverlapSection.{OverlapSection}
use Rattle.rail_base.specs.Routes.{goes_over, has_section, overlaps, own_sections, sections, share}
use Rattle.rail_base.proofs.Members.{In, list_any_from, list_any_gives}
use Rattle.rail_base.proofs.Lists.{in_append, in_append_left, in_append_right, in_map, in_map_back}

or_in_turn : (a b c : Bool) → (a || (b || c)) ≡ ((a || b) || c)
or_in_turn true b c = refl
or_in_turn false b c = refl

pub list_any-append : {X : Type 0} (test : X → Bool) (xs ys : List X) → list_any test (xs ++ ys) ≡ (list_any test xs || list_any test ys)
list_any-append test [] ys = refl
list_any-append test (x ∷ xs) ys = ap (λ b. test x || b) (list_any-append test xs ys) ∙ or_in_turn (test x) (list_any test xs) (list_any test ys)

pub list_any-map : {X Y : Type 0} (test : Y → Bool) (f : X → Y) (xs : List X) → list_any test (map f xs) ≡ list_any (λ x. test (f x)) xs
list_any-map test f [] = refl
list_any-map test f (x ∷ xs) = ap (λ b. test (f x) || b) (list_any-map test f xs)

-- routes share a section where the second has an own one of the first, or one of its overlap
pub share-parts : (r q : Route) → share r q ≡ (list_any (λ p. has_section q p.0) r.sections || list_any (λ p. has_section q p.section) r.overlaps)
share-parts r q =
    let own = list_any-map (has_section q) (λ (p : SectionNo × ℤ). p.0) r.sections in
    let beside = list_any-map (has_section q) (λ (p : OverlapSection). p.section) r.overlaps in
    list_any-append (has_section q) (own_sections r) (map (λ p. p.section) r.overlaps) ∙ ap₂ (λ a b. a || b) own beside

pub share-then : (r q : Route) (b : Bool) → b ≡ list_any (λ p. has_section q p.0) r.sections → b ≡ true → b ≡ share r q
share-then r q b h t = t ∙ sym (share-parts r q ∙ ap (λ x. x || list_any (λ p. has_section q p.section) r.overlaps) (sym h ∙ t))

pub share-else : (r q : Route) (a b : Bool) → a ≡ list_any (λ p. has_section q p.0) r.sections → a ≡ false → b ≡ list_any (λ p. has_section q p.section) r.overlaps → b ≡ share r q
share-else r q a b h f g = g ∙ sym (share-parts r q ∙ ap (λ x. x || list_any (λ p. has_section q p.section) r.overlaps) (sym h ∙ f))

-- ---- a route has a section exactly where it is one of its sections

numbered : (n z : SectionNo) → n.0 ≡ z.0 → n ≡ z
numbered n z e = ap (λ k. record { 0 = k }) e

pub in_sections : (r : Route) (z : SectionNo) → has_section r z ≡ true → In z (sections r)
in_sections r z h = go (goes_over r z) refl
  where
    go : (b : Bool) → goes_over r z ≡ b → In z (sections r)
    go true e =
        let p = list_any_gives (λ (p : SectionNo × ℤ). p.0.0 == z.0) r.sections e in
        in_append_left z (own_sections r) (map (λ p. p.section) r.overlaps) (subst (λ w. In w (own_sections r)) (numbered p.0.0 z (eqb-true p.0.0.0 z.0 p.2)) (in_map (λ y. y.0) r.sections p.0 p.1))
    go false e =
        let p = list_any_gives (λ (p : OverlapSection). p.section.0 == z.0) r.overlaps (sym (ap (λ b. b || overlaps r z) e) ∙ h) in
        in_append_right z (own_sections r) (map (λ p. p.section) r.overlaps) (subst (λ w. In w (map (λ (p : OverlapSection). p.section) r.overlaps)) (numbered p.0.section z (eqb-true p.0.section.0 z.0 p.2)) (in_map (λ (p : OverlapSection). p.section) r.overlaps p.0 p.1))

or_turned : (a b : Bool) → (a || b) ≡ (b || a)
or_turned true true = refl
or_turned true false = refl
or_turned false true = refl
or_turned false false = refl

pub own_goes_over : (r : Route) (z : SectionNo) → In z (own_sections r) → goes_over r z ≡ true
own_goes_over r z m =
    let p = in_map_back (λ (y : SectionNo × ℤ). y.0) r.sections z m in
    let same : p.0.0.0 ≡ z.0 = ap (λ (y : SectionNo). y.0) p.2 in
    list_any_from (λ (y : SectionNo × ℤ). y.0.0 == z.0) r.sections p.0 p.1 (eq-eqb p.0.0.0 z.0 same)

pub beside_overlaps : (r : Route) (z : SectionNo) → In z (map (λ p. p.section) r.overlaps) → overlaps r z ≡ true
beside_overlaps r z m =
    let p = in_map_back (λ (y : OverlapSection). y.section) r.overlaps z m in
    let same : p.0.section.0 ≡ z.0 = ap (λ (y : SectionNo). y.0) p.2 in
    list_any_from (λ (y : OverlapSection). y.section.0 == z.0) r.overlaps p.0 p.1 (eq-eqb p.0.section.0 z.0 same)

pub has_when_in : (r : Route) (z : SectionNo) → In z (sections r) → has_section r z ≡ true
has_when_in r z m = elim (in_append z (own_sections r) (map (λ (p : OverlapSection). p.section) r.overlaps) m) [
  | inl own ↦ ap (λ b. b || overlaps r z) (own_goes_over r z own)
  | inr beside ↦ or_turned (goes_over r z) (overlaps r z) ∙ ap (λ b. b || goes_over r z) (beside_overlaps r z beside)
]

-- those that it goes over are its own
pub in_own : (r : Route) (z : SectionNo) → goes_over r z ≡ true → In z (own_sections r)
in_own r z e =
    let p = list_any_gives (λ (p : SectionNo × ℤ). p.0.0 == z.0) r.sections e in
    subst (λ w. In w (own_sections r)) (numbered p.0.0 z (eqb-true p.0.0.0 z.0 p.2)) (in_map (λ y. y.0) r.sections p.0 p.1)
