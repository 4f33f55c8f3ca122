-- The names of the trains, as a set of borrowed bytes finds them.
use Rattle.std.proofs.Common.{◌≡◌, ℕ, ◌+◌, ◌<◌, inl, true, false, not, cond, if◌then◌else◌, List, [], ◌∷◌, ◌++◌, map, length, take, drop, get_or, position, nat_lt, bytes_eq, Option, None, Some, option_map, Bor, refl, ap, ap₂, sym, subst, ◌∙◌}
use Rattle.std.proofs.lemmas.List.{length-map, map-append, take_more, take-append-drop, drop_more}
use Rattle.std.proofs.lemmas.Slice.Eq.{bytes_eq-Decides}
use Rattle.std.specs.List.{list_any, position_or_len}
use Rattle.rail_base.specs.declared.station.Station.{Station}
use Rattle.rail_base.specs.declared.station.Train.{Train}
use Rattle.rail_base.specs.Admission.{is_admitted}
use Rattle.rail_base.specs.Members.{In, Pairs}
use Rattle.rail_plan.specs.Reading.{train_named}
use Rattle.rail_base.proofs.Members.{false_unless, list_any_gives}
use Rattle.rail_base.proofs.Lists.{in_map, in_map_back, pairs_across}
use Rattle.rail_base.proofs.Admitting.{admitted}

-- where a set finds a name
prefix_text : (n : List ℕ) (ks : List (Bor (List ℕ))) → position_or_len (bytes_eq n) (map (λ k. k.now) ks) ≡ position_or_len (λ k. bytes_eq n k.now) ks
prefix_text n [] = refl
prefix_text n (k ∷ ks) = ap (λ l. cond (not (bytes_eq n k.now)) (1 + l) 0) (prefix_text n ks)

pub position_text : (n : List ℕ) (ks : List (Bor (List ℕ))) → position (bytes_eq n) (map (λ k. k.now) ks) ≡ position (λ k. bytes_eq n k.now) ks
position_text n ks = ap₂ (λ l m. cond (nat_lt l m) (Some l) None) (prefix_text n ks) (length-map ks (λ k. k.now))

pub named_none : (n : List ℕ) (ks : List (Bor (List ℕ))) → position (λ k. bytes_eq n k.now) ks ≡ None → None ≡ train_named (map (λ k. k.now) ks) n
named_none n ks e = sym (ap (λ (o : Option ℕ). option_map (λ i. record { 0 = i + 1 }) o) (position_text n ks ∙ e))

pub named_some : (n : List ℕ) (ks : List (Bor (List ℕ))) (i : ℕ) → position (λ k. bytes_eq n k.now) ks ≡ Some i → Some (record { 0 = i + 1 }) ≡ train_named (map (λ k. k.now) ks) n
named_some n ks i e = sym (ap (λ (o : Option ℕ). option_map (λ i. record { 0 = i + 1 }) o) (position_text n ks ∙ e))

same_bytes : (a b : List ℕ) → bytes_eq a b ≡ true → a ≡ b
same_bytes a b h = (bytes_eq-Decides a b).0 h

-- a name that isn't among those before it is a new key
module _ (d : Station) (good : is_admitted d ≡ true) (i : ℕ) (t : Train) (h : i < length d.trains) (e : t ≡ get_or d.trains i t) where
  parts : d.trains ≡ take i d.trains ++ t ∷ drop (i + 1) d.trains
  parts = sym (take-append-drop i d.trains) ∙ ap (λ ts. take i d.trains ++ ts) (drop_more d.trains i t h ∙ ap (λ x. x ∷ drop (i + 1) d.trains) (sym e))

  differs : (u : Train) → In u (take i d.trains) → u.name ≡ t.name → ⊥
  differs u m = pairs_across (λ (a b : Train). a.name ≡ b.name → ⊥) (take i d.trains) (t ∷ drop (i + 1) d.trains) (subst (λ ts. Pairs (λ (a b : Train). a.name ≡ b.name → ⊥) ts) parts (admitted d good).train_names) u t m (inl refl)

  pub is_new : (keys : List (Bor (List ℕ))) → map (λ k. k.now) keys ≡ map (λ u. u.name) (take i d.trains) → list_any (λ (k : Bor (List ℕ)). bytes_eq t.name k.now) keys ≡ false
  is_new keys so = false_unless (list_any (λ (k : Bor (List ℕ)). bytes_eq t.name k.now) keys) (λ h. go (list_any_gives (λ (k : Bor (List ℕ)). bytes_eq t.name k.now) keys h))
    where
      go : (k : Bor (List ℕ)) × In k keys × (bytes_eq t.name k.now ≡ true) → ⊥
      go (k, m, same) =
          let there = subst (In k.now) so (in_map (λ (k : Bor (List ℕ)). k.now) keys k m) in
          let f = in_map_back (λ (u : Train). u.name) (take i d.trains) k.now there in
          differs f.0 f.1 (f.2 ∙ sym (same_bytes t.name k.now same))

  pub names_more : (keys later : List (Bor (List ℕ))) (k : Bor (List ℕ)) → map (λ k. k.now) keys ≡ map (λ u. u.name) (take i d.trains) → k.now ≡ t.name
      → later ≡ (if list_any (λ (x : Bor (List ℕ)). bytes_eq k.now x.now) keys then keys else keys ++ k ∷ []) → map (λ k. k.now) later ≡ map (λ u. u.name) (take (i + 1) d.trains)
  names_more keys later k so name pushed =
      let fresh : list_any (λ (x : Bor (List ℕ)). bytes_eq k.now x.now) keys ≡ false = ap (λ n. list_any (λ (x : Bor (List ℕ)). bytes_eq n x.now) keys) name ∙ is_new keys so in
      ap (map (λ (x : Bor (List ℕ)). x.now)) (pushed ∙ ap (λ b. if b then keys else keys ++ k ∷ []) fresh)
      ∙ map-append (λ (x : Bor (List ℕ)). x.now) keys (k ∷ [])
      ∙ ap₂ (λ ns n. ns ++ n ∷ []) so name
      ∙ sym (map-append (λ (u : Train). u.name) (take i d.trains) (t ∷ []))
      ∙ ap (map (λ (u : Train). u.name)) (ap (λ u. take i d.trains ++ u ∷ []) e ∙ sym (take_more d.trains i t h))
