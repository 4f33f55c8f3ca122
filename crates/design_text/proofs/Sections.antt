-- The names of edges' sections, each once, are those of the design.
use Rattle.std.proofs.Common.{◌≡◌, ℕ, zero, suc, ◌+◌, ◌≤◌, ◌⊎◌, inl, inr, Bool, true, false, ◌&&◌, ◌==◌, nat_le, List, [], ◌∷◌, ◌++◌, length, take, get_or, map, fold, bytes_eq, refl, sym, ap, subst, ◌∙◌, arith, eqb-true, leb-true, if◌then◌else◌}
use Rattle.std.proofs.lemmas.List.{take_more}
use Rattle.std.proofs.Math.Seq.{take-length}
use Rattle.rail_base.specs.declared.station.Edge.{Edge}
use Rattle.rail_base.specs.Members.{In, all_pairs}
use Rattle.rail_base.specs.Numbering.{entry}
use Rattle.rail_base.specs.Admission.{are_numbered}
use Rattle.rail_base.specs.Admitted.{Ranges}
use Rattle.rail_base.proofs.Members.{list_any_from, either}
use Rattle.infra_reader.specs.Names.{is_among, with_name, each_once}
use Rattle.infra_reader.proofs.Apart.{bytes_same, names_apart, any_turned}
use Rattle.design_text.proofs.Splitting.{two}
use Rattle.design_text.proofs.Distinct.{none_before}

-- the entry of a number is among so many of the first
in_front : {X : Type 0} (other : X) (xs : List X) (k n : ℕ) → 1 ≤ n → n ≤ k → n ≤ length xs → In (entry other xs n) (take k xs)
in_front other xs k zero l h m = absurd (omega arith)
in_front other [] k (suc n) l h m = absurd (omega arith)
in_front other (x ∷ xs) zero (suc n) l h m = absurd (omega arith)
in_front other (x ∷ xs) (suc k) (suc zero) l h m = inl refl
in_front other (x ∷ xs) (suc k) (suc (suc n)) l h m = inr (in_front other xs k (suc n) (omega arith) (omega arith) (omega arith))

module _ (sections : List (List ℕ)) (distinct : all_pairs names_apart sections ≡ true) where
  abbrev section_name : Edge → List ℕ
  section_name e = entry [] sections e.section.0

  abbrev Numbered : List Edge → Type 0
  Numbered edges = (e : Edge) → In e edges → Ranges 1 (length sections) e.section.0

  -- a section that is known
  old_name : (known n : ℕ) → 1 ≤ n → n ≤ known → n ≤ length sections → with_name (take known sections) (entry [] sections n) ≡ take known sections
  old_name known n l h m = choose (is_among (take known sections) name) (list_any_from (bytes_eq name) (take known sections) name (in_front [] sections known n l h m) (bytes_same name))
    where
      name : List ℕ
      name = entry [] sections n

      choose : (b : Bool) → b ≡ true → (if b then take known sections else take known sections ++ name ∷ []) ≡ take known sections
      choose b e = rw e refl

  -- the next section
  new_name : (known n : ℕ) → n ≡ suc known → n ≤ length sections → with_name (take known sections) (entry [] sections n) ≡ take (known + 1) sections
  new_name known n is m = subst (λ n. with_name (take known sections) (entry [] sections n) ≡ take (known + 1) sections) (sym is) (choose (is_among (take known sections) name) (sym (any_turned name (take known sections)) ∙ none_before bytes_eq sections known [] distinct (omega arith)) ∙ sym (take_more sections known [] (omega arith)))
    where
      name : List ℕ
      name = get_or sections known []

      choose : (b : Bool) → b ≡ false → (if b then take known sections else take known sections ++ name ∷ []) ≡ take known sections ++ name ∷ []
      choose b e = rw e refl

  added : (known : ℕ) (edges : List Edge) → Numbered edges → are_numbered (length sections) known edges ≡ true → fold with_name (take known sections) (map section_name edges) ≡ sections
  added known [] right h = ap (λ k. take k sections) (eqb-true known (length sections) h) ∙ take-length sections
  added known (e ∷ es) right h =
      go (either (nat_le e.section.0 known && are_numbered (length sections) known es) ((e.section.0 == known + 1) && are_numbered (length sections) (known + 1) es) h)
      (right e (inl refl)) (added known es (λ f m. right f (inr m))) (added (known + 1) es (λ f m. right f (inr m)))
    where
      go : ((nat_le e.section.0 known && are_numbered (length sections) known es) ≡ true) ⊎ (((e.section.0 == known + 1) && are_numbered (length sections) (known + 1) es) ≡ true)
          → Ranges 1 (length sections) e.section.0
          → (are_numbered (length sections) known es ≡ true → fold with_name (take known sections) (map section_name es) ≡ sections)
          → (are_numbered (length sections) (known + 1) es ≡ true → fold with_name (take (known + 1) sections) (map section_name es) ≡ sections)
          → fold with_name (with_name (take known sections) (section_name e)) (map section_name es) ≡ sections
      go (inl t) range old new =
          let p = two (nat_le e.section.0 known) (are_numbered (length sections) known es) t in
          ap (λ names. fold with_name names (map section_name es)) (old_name known e.section.0 range.0 (leb-true e.section.0 known p.0) range.1) ∙ old p.1
      go (inr t) range old new =
          let p = two (e.section.0 == known + 1) (are_numbered (length sections) (known + 1) es) t in
          let next : known + 1 ≡ suc known = omega arith in
          ap (λ names. fold with_name names (map section_name es)) (new_name known e.section.0 (eqb-true e.section.0 (known + 1) p.0 ∙ next) range.1) ∙ new p.1

  pub once : (edges : List Edge) → Numbered edges → are_numbered (length sections) 0 edges ≡ true → each_once (map section_name edges) ≡ sections
  once edges right h = added 0 edges right h
