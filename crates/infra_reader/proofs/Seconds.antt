-- Overlaps of which no two are at one signal, as the station has them.
use Rattle.std.proofs.Common.{◌≡◌, ℕ, ◌+◌, ◌-◌, inr, Bool, true, false, cond, not, ◌&&◌, ◌||◌, ◌==◌, List, [], ◌∷◌, take, map, bytes_eq, refl, sym, ap, subst, ◌∙◌, arith, eqb-true}
use Rattle.std.proofs.lemmas.Slice.Eq.{bytes_eq-Decides}
use Rattle.std.specs.List.{list_any, list_all, position_or_len}
use Rattle.design_table.specs.declared.key.Key.TheVariants as keys
use Rattle.design_table.specs.declared.place.EntryKind.TheVariants as kinds
use Rattle.design_table.specs.declared.place.Place.TheVariants.{Field}
use Rattle.design_table.specs.Reads.{at}
use Rattle.design_table.specs.Parsed.{ParsedOverlap}
use Rattle.rail_base.specs.declared.station.Overlap.{Overlap}
use Rattle.rail_base.specs.Members.{In, all_pairs}
use Rattle.rail_base.proofs.Members.{and_both, and_left, and_right, list_all_at}
use Rattle.rail_base.proofs.Lists.{list_all_from, in_map, in_map_back}
use Rattle.infra_reader.specs.Names.{Names, is_among, number_in, is_second, overlaps_repeated}
use Rattle.infra_reader.specs.Stations.{overlap_in}
use Rattle.infra_reader.proofs.Apart.{bytes_same, any_turned, all_apart}
use Rattle.infra_reader.proofs.Placeless.{unbroken}

-- ---- names

any_and : (test : List ℕ → Bool) (c : Bool) (names : List (List ℕ)) → list_any (λ q. test q && c) names ≡ (list_any test names && c)
any_and test c [] = refl
any_and test c (n ∷ ns) = ap (λ b. (test n && c) || b) (any_and test c ns) ∙ go (test n) c
  where
    go : (a c : Bool) → ((a && c) || (list_any test ns && c)) ≡ ((a || list_any test ns) && c)
    go true true = refl
    go true false = no (list_any test ns)
      where
        no : (b : Bool) → (b && false) ≡ false
        no true = refl
        no false = refl
    go false c = refl

-- a name and an earlier one, where it is a signal
abbrev pub clash : List (List ℕ) → List ℕ → List ℕ → Bool
clash signals q name = bytes_eq q name && is_among signals name

pub names_clash_free : (signals names : List (List ℕ)) → overlaps_repeated signals names ≡ [] → all_pairs (λ q name. not (clash signals q name)) names ≡ true
unfolding overlaps_repeated
names_clash_free signals names h = all_apart (clash signals) names (λ i name. at (is_second signals names i name) (Field kinds.Overlap i keys.Signal)) later h
  where
    later : (n : ℕ) (x : List ℕ) → at (is_second signals names n x) (Field kinds.Overlap n keys.Signal) ≡ [] → list_any (λ q. clash signals q x) (take (n - 1) names) ≡ false
    later n x e =
        any_and (λ q. bytes_eq q x) (is_among signals x) (take (n - 1) names)
        ∙ ap (λ b. b && is_among signals x) (any_turned x (take (n - 1) names))
        ∙ unbroken (is_second signals names n x) (Field kinds.Overlap n keys.Signal) e

-- ---- numbers

-- two names of one number are one, where the second is there
same_place : (a b : List ℕ) (names : List (List ℕ)) → is_among names b ≡ true → position_or_len (bytes_eq a) names ≡ position_or_len (bytes_eq b) names → bytes_eq a b ≡ true
same_place a b [] h e = absurd (cc)
same_place a b (n ∷ ns) h e = go (bytes_eq a n) (bytes_eq b n) refl refl h e (same_place a b ns)
  where
    go : (p q : Bool) → bytes_eq a n ≡ p → bytes_eq b n ≡ q → (q || is_among ns b) ≡ true
        → cond (not p) (1 + position_or_len (bytes_eq a) ns) 0 ≡ cond (not q) (1 + position_or_len (bytes_eq b) ns) 0
        → (is_among ns b ≡ true → position_or_len (bytes_eq a) ns ≡ position_or_len (bytes_eq b) ns → bytes_eq a b ≡ true) → bytes_eq a b ≡ true
    go true true p q h e rest =
        let left : a ≡ n = (bytes_eq-Decides a n).0 p in
        let right : b ≡ n = (bytes_eq-Decides b n).0 q in
        rw (left ∙ sym right) (bytes_same b)
    go true false p q h e rest = absurd (omega arith)
    go false true p q h e rest = absurd (omega arith)
    go false false p q h e rest = rest h (omega arith)

abbrev pub apart : Overlap → Overlap → Bool
apart a b = not (a.signal.0 == b.signal.0)

module _ (names : Names) where
  one_apart : (o p : ParsedOverlap) → is_among names.signals p.signal ≡ true → not (clash names.signals o.signal p.signal) ≡ true → apart (overlap_in names o) (overlap_in names p) ≡ true
  one_apart o p there h = go (number_in names.signals o.signal == number_in names.signals p.signal) refl
    where
      go : (b : Bool) → (number_in names.signals o.signal == number_in names.signals p.signal) ≡ b → not b ≡ true
      go false e = refl
      go true e =
          let same = eqb-true (number_in names.signals o.signal) (number_in names.signals p.signal) e in
          let one = same_place o.signal p.signal names.signals there (omega arith) in
          let both : clash names.signals o.signal p.signal ≡ true = and_both (bytes_eq o.signal p.signal) (is_among names.signals p.signal) one there in
          sym (ap not both) ∙ h

  pub overlaps_apart : (os : List ParsedOverlap) → ((o : ParsedOverlap) → In o os → is_among names.signals o.signal ≡ true) → all_pairs (λ q name. not (clash names.signals q name)) (map (λ (o : ParsedOverlap). o.signal) os) ≡ true
      → all_pairs apart (map (overlap_in names) os) ≡ true
  overlaps_apart [] there h = refl
  overlaps_apart (o ∷ os) there h =
      let signal = λ (o : ParsedOverlap). o.signal in
      let test = λ (name : List ℕ). not (clash names.signals o.signal name) in
      let here = list_all test (map signal os) in
      let more = all_pairs (λ q name. not (clash names.signals q name)) (map signal os) in
      and_both (list_all (apart (overlap_in names o)) (map (overlap_in names) os)) (all_pairs apart (map (overlap_in names) os))
      (list_all_from (apart (overlap_in names o)) (map (overlap_in names) os) (λ b m.
      let x = in_map_back (overlap_in names) os b m in
      subst (λ b. apart (overlap_in names o) b ≡ true) x.2 (one_apart o x.0 (there x.0 (inr x.1)) (list_all_at test (map signal os) x.0.signal (and_left here more h) (in_map signal os x.0 x.1)))))
      (overlaps_apart os (λ p m. there p (inr m)) (and_right here more h))
