-- The sections that routes share, by their sets.
use Rattle.std.proofs.Common.{◌≡◌, ℕ, zero, suc, ℤ, ◌+◌, ◌-◌, ◌<◌, ◌≤◌, ◌⊎◌, inl, inr, Bool, true, false, ◌||◌, ◌==◌, eqb, List, map, filter, fold, max, length, get_or, take, refl, sym, ap, ap₂, ◌∙◌, arith, eqb-true, eq-eqb, take_all}
use Rattle.std.specs.Prelude.{nat_abs}
use Rattle.std.specs.List.{list_any}
use Rattle.std.proofs.lemmas.Bool.{cases_eq, ne_eqb, false_from_ne_true}
use Rattle.std.proofs.lemmas.List.Folds.{list_any_more}
use Rattle.rail_base.specs.declared.station.SectionNo.{SectionNo}
use Rattle.rail_base.specs.declared.route.Route.{Route}
use Rattle.rail_base.specs.Members.{In}
use Rattle.rail_base.specs.Numbering.{entry}
use Rattle.rail_base.specs.Routes.{has_section, own_sections, own_shared, release_offset, sections, share}
use Rattle.rail_base.proofs.Lists.{in_map, in_map_back, in_filter_back}
use Rattle.rail_base.proofs.Members.{in_filter, list_any_from, list_any_gives}
use Rattle.rail_laws.proofs.AsEdges.{fold_above, fold_reached}
use Rattle.rail_base.proofs.Sharing.{has_when_in, in_sections}
use Rattle.number_sets.specs.declared.set.NumberSet.{NumberSet}
use Rattle.number_sets.specs.Sets.{contains}
use Rattle.interlocking.specs.Sections.{IsSectionSet, last_release}

or_turned : (a b : Bool) → (a || b) ≡ (b || a)
or_turned true true = refl
or_turned true false = refl
or_turned false true = refl
or_turned false false = refl

eqb_turned : (a b : ℕ) → eqb a b ≡ eqb b a
eqb_turned a b = elim (cases_eq a b) [ inl e ↦ eq-eqb a b e ∙ sym (eq-eqb b a (sym e)) | inr d ↦ ne_eqb a b d ∙ sym (ne_eqb b a (λ e. d (sym e))) ]

-- one member more of which the number is taken
pub one_more : {X : Type 0} (key : X → ℕ) (xs : List X) (i k : ℕ) (d : X) (new old : Bool) → i < length xs → new ≡ (k == key (get_or xs i d) || old) → old ≡ list_any (λ x. key x == k) (take i xs) → new ≡ list_any (λ x. key x == k) (take (i + 1) xs)
one_more key xs i k d new old h e f =
    e ∙ (or_turned (k == key (get_or xs i d)) old
    ∙ (ap₂ (λ a b. a || b) f (eqb_turned k (key (get_or xs i d)))
    ∙ sym (list_any_more (λ x. key x == k) xs i d h)))

-- and beside what was there
pub one_more_beside : {X : Type 0} (key : X → ℕ) (xs : List X) (i k : ℕ) (d : X) (new old there : Bool) → i < length xs → new ≡ (k == key (get_or xs i d) || old) → old ≡ (there || list_any (λ x. key x == k) (take i xs)) → new ≡ (there || list_any (λ x. key x == k) (take (i + 1) xs))
one_more_beside key xs i k d new old there h e f = e ∙ step there f
  where
    step : (there : Bool) → old ≡ (there || list_any (λ x. key x == k) (take i xs)) → (k == key (get_or xs i d) || old) ≡ (there || list_any (λ x. key x == k) (take (i + 1) xs))
    step true f = ap (λ b. k == key (get_or xs i d) || b) f ∙ or_turned (k == key (get_or xs i d)) true
    step false f = one_more key xs i k d (k == key (get_or xs i d) || old) old h refl f

-- once all are taken
pub all_taken : {X : Type 0} (test : X → Bool) (xs ys : List X) (i : ℕ) (b there : Bool) → length xs ≤ i → xs ≡ ys → b ≡ (there || list_any test (take i xs)) → b ≡ (there || list_any test ys)
all_taken test xs ys i b there h e f = f ∙ ap (λ zs. there || list_any test zs) (take_all i xs h ∙ e)

pub nothing_beside : (a b : Bool) → a ≡ b → a ≡ (b || false)
nothing_beside a true h = h
nothing_beside a false h = h

-- routes share a section where the sets of their sections have a number in common
pub share_is : (r q : Route) (one other : NumberSet) (b : Bool) → IsSectionSet one r → IsSectionSet other q
    → (b ≡ true → (k : ℕ) × (contains one k ≡ true) × (contains other k ≡ true)) → (b ≡ false → (k : ℕ) → contains one k ≡ true → contains other k ≡ false) → b ≡ share r q
share_is r q one other true e f some none =
    let k = some refl in
    let number : SectionNo = record { 0 = k.0 } in
    sym (list_any_from (has_section q) (sections r) number (in_sections r number (sym (e number) ∙ k.1)) (sym (f number) ∙ k.2))
share_is r q one other false e f some none = sym (false_from_ne_true (share r q) (λ h.
    let found = list_any_gives (has_section q) (sections r) h in
    let z = found.0 in
    let own : contains one z.0 ≡ true = e z ∙ has_when_in r z found.1 in
    let its : contains other z.0 ≡ true = f z ∙ found.2 in
    let not_its : contains other z.0 ≡ false = none refl z.0 own in
    absurd (cc)))

module _ (r q : Route) (set : NumberSet) (is : IsSectionSet set q) where
  abbrev offset : SectionNo × ℤ → ℕ
  offset p = nat_abs p.1

  abbrev kept : SectionNo × ℤ → Bool
  kept p = contains set p.0.0

  abbrev here : SectionNo → SectionNo × ℤ → Bool
  here z p = p.0.0 == z.0

  below_release : (p : SectionNo × ℤ) → In p r.sections → offset p ≤ release_offset r p.0
  below_release p m =
      fold_above 0 (map offset (filter (here p.0) r.sections)) (offset p)
      (in_map offset (filter (here p.0) r.sections) p (in_filter (here p.0) r.sections p m (eq-eqb p.0.0 p.0.0 refl)))

  -- the parts that are kept are no later than all releases of shared sections
  low : (p : SectionNo × ℤ) → In p r.sections → kept p ≡ true → offset p ≤ last_release r q
  low p m k =
      let own = in_map (λ (s : SectionNo × ℤ). s.0) r.sections p m in
      let both = in_filter (has_section q) (own_sections r) p.0 own (sym (is p.0) ∙ k) in
      let a = below_release p m in
      let b = fold_above 0 (map (release_offset r) (own_shared r q)) (release_offset r p.0) (in_map (release_offset r) (own_shared r q) p.0 both) in
      omega arith

  -- and a bound of them is one of these releases
  high : (m : ℕ) → ((p : SectionNo × ℤ) → In p r.sections → kept p ≡ true → offset p ≤ m) → (z : SectionNo) → has_section q z ≡ true → release_offset r z ≤ m
  high m h z k = go (fold_reached 0 (map offset (filter (here z) r.sections)))
    where
      go : (release_offset r z ≡ 0) ⊎ In (release_offset r z) (map offset (filter (here z) r.sections)) → release_offset r z ≤ m
      go (inl e) = omega arith
      go (inr i) =
          let at = in_map_back offset (filter (here z) r.sections) (release_offset r z) i in
          let part = in_filter_back (here z) r.sections at.0 at.1 in
          let same : at.0.0.0 ≡ z.0 = eqb-true at.0.0.0 z.0 part.1 in
          let l = h at.0 part.0 (ap (contains set) same ∙ (is z ∙ k)) in
          let e = at.2 in
          omega arith

  abbrev greatest : ℕ
  greatest = fold max 0 (map offset (filter kept r.sections))

  above : (p : SectionNo × ℤ) → In p r.sections → kept p ≡ true → offset p ≤ greatest
  above p m k = fold_above 0 (map offset (filter kept r.sections)) (offset p) (in_map offset (filter kept r.sections) p (in_filter kept r.sections p m k))

  pub last_release_is : fold max 0 (map (λ (p : SectionNo × ℤ). nat_abs p.1) (filter (λ (p : SectionNo × ℤ). contains set p.0.0) r.sections)) ≡ last_release r q
  last_release_is =
      let a = no_later (fold_reached 0 (map offset (filter kept r.sections))) in
      let b = no_earlier (fold_reached 0 (map (release_offset r) (own_shared r q))) in
      omega arith
    where
      no_later : (greatest ≡ 0) ⊎ In greatest (map offset (filter kept r.sections)) → greatest ≤ last_release r q
      no_later (inl e) = omega arith
      no_later (inr i) =
          let at = in_map_back offset (filter kept r.sections) greatest i in
          let part = in_filter_back kept r.sections at.0 at.1 in
          let l = low at.0 part.0 part.1 in
          let e = at.2 in
          omega arith

      no_earlier : (last_release r q ≡ 0) ⊎ In (last_release r q) (map (release_offset r) (own_shared r q)) → last_release r q ≤ greatest
      no_earlier (inl e) = omega arith
      no_earlier (inr i) =
          let z = in_map_back (release_offset r) (own_shared r q) (last_release r q) i in
          let both = in_filter_back (has_section q) (own_sections r) z.0 z.1 in
          let l = high greatest above z.0 both.1 in
          let e = z.2 in
          omega arith

-- what stands at a number, counted from 1
pub numbered : {X : Type 0} (other : X) (xs : List X) (n : ℕ) → 1 ≤ n → get_or xs (n - 1) other ≡ entry other xs n
numbered other xs zero h = absurd (omega arith)
numbered other xs (suc n) h = let e : suc n - 1 ≡ n = omega arith in ap (λ k. get_or xs k other) e
