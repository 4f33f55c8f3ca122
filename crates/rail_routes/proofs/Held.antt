-- The sections of an overlap, of which one after the other is held.
use Rattle.std.proofs.Common.{◌≡◌, ℕ, ◌+◌, ◌<◌, Bool, true, false, not, cond, ◌&&◌, ◌||◌, ◌==◌, List, [], ◌∷◌, ◌++◌, map, filter, drop, length, get_or, refl, sym, ap, ◌∙◌, eq-eqb, eqb-true, true≢false, append_assoc, drop-cons, add-one}
use Rattle.std.specs.List.{list_any}
use Rattle.rail_base.specs.declared.station.Overlap.{Overlap}
use Rattle.rail_base.specs.declared.station.SectionNo.{SectionNo}
use Rattle.rail_base.specs.declared.route.OverlapSection.{OverlapSection}
use Rattle.rail_base.proofs.Members.{or_right}
use Rattle.rail_spec.specs.Track.{first_occurrences, overlap_sections}
use Rattle.rail_routes.specs.Walks.{is_new}
use Rattle.rail_routes.proofs.Walking.{filter-filter}

any-more : {X : Type 0} (test : X → Bool) (xs : List X) (x : X) → list_any test (xs ++ x ∷ []) ≡ (list_any test xs || test x)
any-more test [] x = go (test x)
  where
    go : (b : Bool) → (b || false) ≡ b
    go true = refl
    go false = refl
any-more test (y ∷ xs) x = go (test y) (any-more test xs x)
  where
    go : (b : Bool) → list_any test (xs ++ x ∷ []) ≡ (list_any test xs || test x) → (b || list_any test (xs ++ x ∷ [])) ≡ ((b || list_any test xs) || test x)
    go true e = refl
    go false e = e

turned : (a b : ℕ) (c : Bool) → (a == b) ≡ c → (b == a) ≡ c
turned a b true t = eq-eqb b a (sym (eqb-true a b t))
turned a b false t = other (b == a) refl
  where
    other : (c : Bool) → (b == a) ≡ c → (b == a) ≡ false
    other false e = e
    other true e = absurd (true≢false (sym (eq-eqb a b (sym (eqb-true b a e))) ∙ t))

filter-same : (p q : SectionNo → Bool) (zs : List SectionNo) → ((z : SectionNo) → p z ≡ q z) → filter p zs ≡ filter q zs
filter-same p q [] h = refl
filter-same p q (z ∷ zs) h = ap (λ b. cond b (z ∷ filter p zs) (filter p zs)) (h z) ∙ ap (λ ys. cond (q z) (z ∷ ys) ys) (filter-same p q zs h)

pub from_section : (zs : List SectionNo) (k : ℕ) (other : SectionNo) → k < length zs → drop k zs ≡ get_or zs k other ∷ drop (k + 1) zs
from_section zs k other h = drop-cons zs k other h ∙ ap (λ n. get_or zs k other ∷ drop n zs) (sym (add-one k))

module _ (o : Overlap) (own : List SectionNo) where
  abbrev pub held_by : SectionNo → OverlapSection
  held_by z = record { section = z; hold_ms = o.hold_ms }

  -- those that are still to be held, of these sections
  abbrev pub to_hold : List OverlapSection → List SectionNo → List OverlapSection
  to_hold held zs = map held_by (filter (is_new own held) (first_occurrences zs))

  known-again : (z : SectionNo) (zs : List SectionNo) (held : List OverlapSection) → is_new own held z ≡ false → filter (is_new own held) (first_occurrences (z ∷ zs)) ≡ filter (is_new own held) (first_occurrences zs)
  known-again z zs held h =
      ap (λ b. cond b (z ∷ filter (is_new own held) (filter (λ y. not (y.0 == z.0)) (first_occurrences zs))) (filter (is_new own held) (filter (λ y. not (y.0 == z.0)) (first_occurrences zs)))) h
      ∙ filter-filter (is_new own held) (λ y. not (y.0 == z.0)) (is_new own held) (first_occurrences zs) (λ y. go y (y.0 == z.0) refl)
    where
      go : (y : SectionNo) (b : Bool) → (y.0 == z.0) ≡ b → is_new own held y ≡ (not b && is_new own held y)
      go y true t = let s : y.0 ≡ z.0 = eqb-true y.0 z.0 t in ap (λ n. is_new own held (record { 0 = n })) s ∙ h
      go y false t = refl

  new-first : (z : SectionNo) (zs : List SectionNo) (held : List OverlapSection) → is_new own held z ≡ true
      → filter (is_new own held) (first_occurrences (z ∷ zs)) ≡ z ∷ filter (is_new own (held ++ held_by z ∷ [])) (first_occurrences zs)
  new-first z zs held h =
      ap (λ b. cond b (z ∷ filter (is_new own held) (filter (λ y. not (y.0 == z.0)) (first_occurrences zs))) (filter (is_new own held) (filter (λ y. not (y.0 == z.0)) (first_occurrences zs)))) h
      ∙ ap (λ ys. z ∷ ys) (filter-filter (is_new own held) (λ y. not (y.0 == z.0)) (is_new own (held ++ held_by z ∷ [])) (first_occurrences zs) (λ y. go y (y.0 == z.0) refl))
    where
      none : (a b : Bool) → b ≡ true → (a && not b) ≡ false
      none true b e = ap not e
      none false b e = refl

      or_no : (a b : Bool) → b ≡ false → (a || b) ≡ a
      or_no true b e = refl
      or_no false b e = e

      free : SectionNo → Bool
      free y = not (list_any (λ (x : SectionNo). x.0 == y.0) own)

      in_held : SectionNo → List OverlapSection → Bool
      in_held y ps = list_any (λ (p : OverlapSection). p.section.0 == y.0) ps

      more : (y : SectionNo) → in_held y (held ++ held_by z ∷ []) ≡ (in_held y held || (z.0 == y.0))
      more y = any-more (λ (p : OverlapSection). p.section.0 == y.0) held (held_by z)

      go : (y : SectionNo) (b : Bool) → (y.0 == z.0) ≡ b → is_new own (held ++ held_by z ∷ []) y ≡ (not b && is_new own held y)
      go y true t = none (free y) (in_held y (held ++ held_by z ∷ [])) (more y ∙ or_right (in_held y held) (z.0 == y.0) (turned y.0 z.0 true t))
      go y false t = ap (λ b. free y && not b) (more y ∙ or_no (in_held y held) (z.0 == y.0) (turned y.0 z.0 false t))

  pub none_held : to_hold [] o.sections ≡ overlap_sections o own
  none_held = ap (map held_by) (filter-same (is_new own []) (λ z. not (list_any (λ (y : SectionNo). y.0 == z.0) own)) (first_occurrences o.sections) (λ z. go (not (list_any (λ (y : SectionNo). y.0 == z.0) own))))
    where
      go : (b : Bool) → (b && true) ≡ b
      go true = refl
      go false = refl

  pub held_again : (z : SectionNo) (zs ys : List SectionNo) (held new all : List OverlapSection) → zs ≡ z ∷ ys → is_new own held z ≡ false → new ≡ held → held ++ to_hold held zs ≡ all → new ++ to_hold new ys ≡ all
  held_again z zs ys held new all from h kept same =
      ap (λ xs. xs ++ to_hold xs ys) kept ∙ ap (λ xs. held ++ map held_by xs) (sym (ap (λ xs. filter (is_new own held) (first_occurrences xs)) from ∙ known-again z ys held h)) ∙ same

  pub held_more : (z : SectionNo) (zs ys : List SectionNo) (held new all : List OverlapSection) → zs ≡ z ∷ ys → is_new own held z ≡ true → new ≡ held ++ held_by z ∷ [] → held ++ to_hold held zs ≡ all → new ++ to_hold new ys ≡ all
  held_more z zs ys held new all from h added same =
      ap (λ xs. xs ++ to_hold xs ys) added
      ∙ append_assoc held (held_by z ∷ []) (to_hold (held ++ held_by z ∷ []) ys)
      ∙ ap (λ xs. held ++ map held_by xs) (sym (ap (λ xs. filter (is_new own held) (first_occurrences xs)) from ∙ new-first z ys held h)) ∙ same
