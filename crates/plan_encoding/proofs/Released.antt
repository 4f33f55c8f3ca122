-- Where a route releases the last section that it shares with another.
use Rattle.std.proofs.Common.{◌≡◌, ℕ, ℤ, suc, ◌+◌, ◌≤◌, ◌⊎◌, inl, inr, Bool, true, false, cond, Option, Some, None, List, [], ◌∷◌, map, filter, fold, max, refl, sym, ap, subst, ◌∙◌, arith, true≢false}
use Rattle.std.specs.Prelude.{All, find, nat_abs, reverse}
use Rattle.std.specs.List.Sorted.{IsNonDecreasingBy, IsPermutation}
use Rattle.std.specs.Option.{option_or}
use Rattle.std.proofs.lemmas.List.{reverse-append}
use Rattle.std.proofs.lemmas.List.Folds.{find-append}
use Rattle.std.proofs.lemmas.List.Sorted.{All-permutation, IsPermutation-sym}
use Rattle.rail_base.specs.declared.station.SectionNo.{SectionNo}
use Rattle.rail_base.specs.declared.route.Route.{Route}
use Rattle.rail_base.specs.Members.{In}
use Rattle.rail_base.proofs.Lists.{in_map, in_map_back, in_filter_back}
use Rattle.rail_base.proofs.Members.{in_filter}
use Rattle.rail_laws.proofs.AsEdges.{fold_above, fold_reached}
use Rattle.rail_base.specs.Routes.{has_section, own_sections, own_shared, release_offset}
use Rattle.clause_spec.specs.Clauses.{left_by}
use Rattle.plan_encoding.specs.Releases.{left_of, AreReleases}
use Rattle.number_sets.specs.declared.set.NumberSet.{NumberSet}
use Rattle.number_sets.specs.Sets.{contains}
use Rattle.interlocking.specs.Sections.{IsSectionSet, last_release}
use Rattle.interlocking.proofs.Sectioned.{last_release_is}
use Rattle.plan_encoding.proofs.Tabled.{all_by_members}

all_gives : {X : Type 0} (P : X → Type 0) (xs : List X) (x : X) → All P xs → In x xs → P x
all_gives P [] x h m = absurd m
all_gives P (y ∷ ys) x h (inl e) = subst P e (h 0 x (omega arith))
all_gives P (y ∷ ys) x h (inr m) = all_gives P ys x (λ i d l. h (suc i) d (omega arith)) m

-- members stay where a list is put into another order
moved_in : {X : Type 0} (xs ys : List X) → IsPermutation xs ys → (x : X) → In x xs → In x ys
moved_in {X} xs ys h x m = all_gives (λ (y : X). In y ys) xs x (All-permutation (λ (y : X). In y ys) ys xs (IsPermutation-sym xs ys h) (all_by_members (λ (y : X). In y ys) ys (λ y k. k))) m

module _ {X : Type 0} (test : X → Bool) (n : X → ℕ) where
  -- of those that pass the test it has the greatest number; none passes where it is none
  abbrev IsLast : List X → Option X → Type 0
  IsLast xs None = (x : X) → In x xs → test x ≡ false
  IsLast xs (Some p) = In p xs × (test p ≡ true) × ((x : X) → In x xs → test x ≡ true → n x ≤ n p)

  last_is : (xs : List X) → IsNonDecreasingBy n xs → IsLast xs (find test (reverse xs))
  last_is [] h = λ x m. absurd m
  last_is (x ∷ xs) h =
      subst (IsLast (x ∷ xs)) (sym (ap (find test) (reverse-append (x ∷ []) xs) ∙ find-append test (reverse xs) (x ∷ []))) (go (find test (reverse xs)) (test x) refl (last_is xs (λ i j d a b. h (suc i) (suc j) d (omega arith) (omega arith))))
    where
      below : All (λ y. n x ≤ n y) xs
      below = λ i d l. h 0 (suc i) d (omega arith) (omega arith)

      go : (found : Option X) (b : Bool) → test x ≡ b → IsLast xs found → IsLast (x ∷ xs) (option_or found (cond b (Some x) None))
      go (Some p) b e k = (inr k.0, k.1, λ y m t. elim m [ inl f ↦ subst (λ z. n z ≤ n p) f (all_gives (λ y. n x ≤ n y) xs p below k.0) | inr i ↦ k.2 y i t ])
      go None true e k = (inl refl, e, λ y m t. elim m [ inl f ↦ subst (λ z. n z ≤ n x) f (omega arith) | inr i ↦ absurd (let u = sym t ∙ k y i in cc) ])
      go None false e k = λ y m. elim m [ inl f ↦ subst (λ z. test z ≡ false) f e | inr i ↦ k y i ]

-- where a section is released, or 0 where there is none
abbrev offset_of : Option (SectionNo × ℤ) → ℕ
offset_of None = 0
offset_of (Some p) = nat_abs p.1

module _ (r q : Route) (parts : List (SectionNo × ℤ)) (set : NumberSet) (all : AreReleases parts r) where
  abbrev offset : SectionNo × ℤ → ℕ
  offset p = nat_abs p.1

  abbrev kept : SectionNo × ℤ → Bool
  kept p = contains set p.0.0

  abbrev greatest : ℕ
  greatest = fold max 0 (map offset (filter kept r.sections))

  -- the last part that is in the set has the greatest offset of all that are
  greatest_last : offset_of (find kept (reverse parts)) ≡ greatest
  greatest_last = go (find kept (reverse parts)) (last_is kept offset parts all.rising)
    where
      go : (found : Option (SectionNo × ℤ)) → IsLast kept offset parts found → offset_of found ≡ greatest
      go None none = no_part (fold_reached 0 (map offset (filter kept r.sections)))
        where
          no_part : (greatest ≡ 0) ⊎ In greatest (map offset (filter kept r.sections)) → 0 ≡ greatest
          no_part (inl e) = sym e
          no_part (inr m) =
              let at = in_map_back offset (filter kept r.sections) greatest m in
              let part = in_filter_back kept r.sections at.0 at.1 in
              let a = none at.0 (moved_in r.sections parts all.moved at.0 part.0) in
              absurd (let e = sym a ∙ part.1 in cc)
      go (Some p) best = same (fold_reached 0 (map offset (filter kept r.sections)))
        where
          own : In p r.sections
          own = moved_in parts r.sections (IsPermutation-sym r.sections parts all.moved) p best.0

          low : offset p ≤ greatest
          low =
              fold_above 0 (map offset (filter kept r.sections)) (offset p)
              (in_map offset (filter kept r.sections) p (in_filter kept r.sections p own best.1))

          same : (greatest ≡ 0) ⊎ In greatest (map offset (filter kept r.sections)) → offset p ≡ greatest
          same (inl e) = let l = low in omega arith
          same (inr m) =
              let at = in_map_back offset (filter kept r.sections) greatest m in
              let part = in_filter_back kept r.sections at.0 at.1 in
              let high = best.2 at.0 (moved_in r.sections parts all.moved at.0 part.0) part.1 in
              let e = at.2 in
              let l = low in
              omega arith

  last_tells : IsSectionSet set q → offset_of (find kept (reverse parts)) ≡ last_release r q
  last_tells is = greatest_last ∙ last_release_is r q set is

  -- so much takes a tail clear of all of them
  pub last_clears : (l : ℕ) → IsSectionSet set q → left_of (find (λ p. contains set p.0.0) (reverse parts)) l ≡ left_by (map (release_offset r) (own_shared r q)) l
  last_clears l is = go (find kept (reverse parts)) refl (last_is kept offset parts all.rising)
    where
      go : (found : Option (SectionNo × ℤ)) → find kept (reverse parts) ≡ found → IsLast kept offset parts found → left_of found l ≡ left_by (map (release_offset r) (own_shared r q)) l
      go None e none = empty (own_shared r q) (λ z m. m)
        where
          empty : (zs : List SectionNo) → ((z : SectionNo) → In z zs → In z (own_shared r q)) → 0 ≡ left_by (map (release_offset r) zs) l
          empty [] h = refl
          empty (z ∷ zs) h =
              let own = in_filter_back (has_section q) (own_sections r) z (h z (inl refl)) in
              let part = in_map_back (λ (p : SectionNo × ℤ). p.0) r.sections z own.0 in
              let there : has_section q part.0.0 ≡ true = ap (has_section q) part.2 ∙ own.1 in
              let out = none part.0 (moved_in r.sections parts all.moved part.0 part.1) in
              absurd (true≢false (sym there ∙ (sym (is part.0.0) ∙ out)))
      go (Some p) e best = full (own_shared r q) (λ n. n) here
        where
          told : offset p ≡ last_release r q
          told = sym (ap offset_of e) ∙ last_tells is

          here : In p.0 (own_shared r q)
          here = in_filter (has_section q) (own_sections r) p.0 (in_map (λ (x : SectionNo × ℤ). x.0) r.sections p (moved_in parts r.sections (IsPermutation-sym r.sections parts all.moved) p best.0)) (sym (is p.0) ∙ best.1)

          full : (zs : List SectionNo) → (last_release r q ≡ fold max 0 (map (release_offset r) (own_shared r q)) → last_release r q ≡ fold max 0 (map (release_offset r) zs)) → In p.0 zs → offset p + l ≡ left_by (map (release_offset r) zs) l
          full [] same m = absurd m
          full (z ∷ zs) same m = ap (λ n. n + l) (told ∙ same refl)
