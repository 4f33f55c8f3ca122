-- Names of edges: those of different edges differ, and none ends with a direction.
use Rattle.std.proofs.Common.{◌≡◌, ℕ, zero, suc, ◌≤◌, ◌<◌, ◌⊎◌, inl, inr, true, false, ◌&&◌, List, [], ◌∷◌, ◌++◌, map, length, bytes_eq, refl, sym, ap, subst, ◌∙◌, arith, true≢false}
use Rattle.std.specs.List.{list_all}
use Rattle.std.proofs.lemmas.Slice.Eq.{bytes_eq-Decides}
use Rattle.rail_base.specs.declared.station.Station.{Station}
use Rattle.rail_base.specs.declared.station.Edge.{Edge}
use Rattle.rail_base.specs.declared.station.EdgeNo.{EdgeNo}
use Rattle.rail_base.specs.Admission.{is_name_byte, is_name, are_names, is_admitted, are_few, is_timed, are_named, is_sound_track, is_sound_traffic, are_sound_overlaps}
use Rattle.rail_base.specs.Members.{In, Pairs}
use Rattle.rail_base.specs.Numbering.{entry}
use Rattle.rail_base.specs.Stations.{no_edge, edge_of, IsEdge}
use Rattle.rail_base.proofs.Members.{and_left, and_right, and_both, list_all_at}
use Rattle.rail_base.proofs.Lists.{in_map, in_entry}
use Rattle.rail_base.proofs.Admitting.{admitted}
use Rattle.plan_names.specs.Shown.{edge_name, same_names}

-- ---- lists of names

pub same_refl : (xs : List (List ℕ)) → same_names xs xs ≡ true
same_refl [] = refl
same_refl (x ∷ xs) = and_both (bytes_eq x x) (same_names xs xs) ((bytes_eq-Decides x x).1 refl) (same_refl xs)

pub same_true : (xs ys : List (List ℕ)) → same_names xs ys ≡ true → xs ≡ ys
same_true [] [] h = refl
same_true [] (y ∷ ys) h = absurd (true≢false (sym h))
same_true (x ∷ xs) [] h = absurd (true≢false (sym h))
same_true (x ∷ xs) (y ∷ ys) h =
    let one : x ≡ y = (bytes_eq-Decides x y).0 (and_left (bytes_eq x y) (same_names xs ys) h) in
    let more : xs ≡ ys = same_true xs ys (and_right (bytes_eq x y) (same_names xs ys) h) in
    cc

-- ---- two of a list

pub entries_apart : {X : Type 0} (R : X → X → Type 0) (other : X) (xs : List X) (m n : ℕ) → Pairs R xs → 1 ≤ m → m < n → n ≤ length xs → R (entry other xs m) (entry other xs n)
entries_apart R other xs zero n p l k u = absurd (omega arith)
entries_apart R other [] (suc m) n p l k u = absurd (omega arith)
entries_apart R other (x ∷ xs) (suc m) zero p l k u = absurd (omega arith)
entries_apart R other (x ∷ xs) (suc zero) (suc zero) p l k u = absurd (omega arith)
entries_apart R other (x ∷ xs) (suc zero) (suc (suc n)) p l k u = p.0 (entry other xs (suc n)) (in_entry other xs (suc n) (omega arith) (omega arith))
entries_apart R other (x ∷ xs) (suc (suc m)) (suc zero) p l k u = absurd (omega arith)
entries_apart R other (x ∷ xs) (suc (suc m)) (suc (suc n)) p l k u = entries_apart R other xs (suc m) (suc n) p.1 (omega arith) (omega arith) (omega arith)

pub in_order : {X : Type 0} (R : X → X → Type 0) (xs : List X) (a b : X) → Pairs R xs → In a xs → In b xs → (a ≡ b) ⊎ (R a b ⊎ R b a)
in_order R [] a b p m n = absurd m
in_order R (x ∷ xs) a b p (inl e) (inl f) = inl (sym e ∙ f)
in_order R (x ∷ xs) a b p (inl e) (inr n) = inr (inl (subst (λ z. R z b) e (p.0 b n)))
in_order R (x ∷ xs) a b p (inr m) (inl f) = inr (inr (subst (λ z. R z a) f (p.0 a m)))
in_order R (x ∷ xs) a b p (inr m) (inr n) = in_order R xs a b p.1 m n

pub only_one : {X : Type 0} (xs : List X) (a b : X) → In a xs → In b xs → length xs ≤ 1 → a ≡ b
only_one [] a b m n few = absurd m
only_one (x ∷ []) a b (inl e) (inl f) few = sym e ∙ f
only_one (x ∷ []) a b (inl e) (inr n) few = absurd n
only_one (x ∷ []) a b (inr m) n few = absurd m
only_one (x ∷ y ∷ ys) a b m n few = absurd (omega arith)

-- ---- edges

last_passes : (bs : List ℕ) (b : ℕ) → list_all is_name_byte (bs ++ b ∷ []) ≡ true → is_name_byte b ≡ true
last_passes [] b h = and_left (is_name_byte b) true h
last_passes (x ∷ bs) b h = last_passes bs b (and_right (is_name_byte x) (list_all is_name_byte (bs ++ b ∷ [])) h)

three : (a b : ℕ) → (a < b) ⊎ ((b < a) ⊎ (a ≡ b))
three a b = grind arith

module _ (d : Station) (adm : is_admitted d ≡ true) where
  pub name_tells : (e g : EdgeNo) → IsEdge d e → IsEdge d g → edge_name d e ≡ edge_name d g → e ≡ g
  name_tells e g h k same = go (three e.0 g.0)
    where
      R : Edge → Edge → Type 0
      R a b = a.name ≡ b.name → ⊥

      go : (e.0 < g.0) ⊎ ((g.0 < e.0) ⊎ (e.0 ≡ g.0)) → e ≡ g
      go (inl less) = absurd (entries_apart (λ (a b : Edge). a.name ≡ b.name → ⊥) no_edge d.edges e.0 g.0 (admitted d adm).edge_names h.0 less k.1 same)
      go (inr (inl less)) = absurd (entries_apart (λ (a b : Edge). a.name ≡ b.name → ⊥) no_edge d.edges g.0 e.0 (admitted d adm).edge_names k.0 less h.1 (sym same))
      go (inr (inr one)) = ap (λ (n : ℕ). let e : EdgeNo = record { 0 = n } in e) one

  pub name_bytes : (e : EdgeNo) → IsEdge d e → list_all is_name_byte (edge_name d e) ≡ true
  name_bytes e k =
      let names = map (λ (u : Edge). u.name) d.edges in
      let named : are_named d ≡ true = and_right (are_few d && is_timed d) (are_named d) (and_left (are_few d && is_timed d && are_named d) (is_sound_track d) (and_left (are_few d && is_timed d && are_named d && is_sound_track d) (is_sound_traffic d) (and_left (are_few d && is_timed d && are_named d && is_sound_track d && is_sound_traffic d) (are_sound_overlaps d) adm))) in
      let of_edges : are_names names ≡ true = and_right _ (are_names names) (and_left _ (are_names d.sections) (and_left _ _ (and_left _ _ (and_left _ _ named)))) in
      let each : list_all is_name names ≡ true = and_left (list_all is_name names) _ of_edges in
      let name = list_all_at is_name names (edge_name d e) each (in_map (λ (u : Edge). u.name) d.edges (edge_of d e) (in_entry no_edge d.edges e.0 k.0 k.1)) in
      and_right _ (list_all is_name_byte (edge_name d e)) name

  pub no_direction : (e : EdgeNo) (bs : List ℕ) (b : ℕ) → IsEdge d e → bs ++ b ∷ [] ≡ edge_name d e → is_name_byte b ≡ true
  no_direction e bs b k same = last_passes bs b (subst (λ n. list_all is_name_byte n ≡ true) (sym same) (name_bytes e k))
