-- Lists that are put together part by part.
use Rattle.std.proofs.Common.{◌≡◌, ℕ, zero, ◌-◌, ◌≤◌, List, [], ◌∷◌, ◌++◌, map, flat_map, refl, sym, ap, ◌∙◌, arith, append-nil}
use Rattle.std.proofs.lemmas.List.{append_assoc, map-append}
use Rattle.std.proofs.lemmas.Grind.{flat_map-append}
use Rattle.rail_base.specs.Numbering.{count_from}

-- none are left at the end
pub count_end : (i n : ℕ) → n ≤ i → count_from i (n - i) ≡ []
count_end i n h = let e : n - i ≡ zero = omega arith in ap (count_from i) e

module _ {X L Z : Type 0} (g : X → List L) (num : L → Z) where
  -- one more part, of which each member is written so
  pub mapped_next : (old new all : List Z) (now later : List X) (x : X) → now ≡ x ∷ later → new ≡ old ++ map num (g x) → old ++ map num (flat_map g now) ≡ all → new ++ map num (flat_map g later) ≡ all
  mapped_next old new all now later x is e h = ap (λ xs. xs ++ map num (flat_map g later)) e ∙ (append_assoc old (map num (g x)) (map num (flat_map g later))
      ∙ (ap (λ xs. old ++ xs) (sym (ap (λ xs. map num (flat_map g xs)) is ∙ map-append num (g x) (flat_map g later))) ∙ h))

  -- nothing is left at the end
  pub mapped_end : (old all : List Z) (now : List X) → now ≡ [] → old ++ map num (flat_map g now) ≡ all → old ≡ all
  mapped_end old all now is h = sym (append-nil old) ∙ (ap (λ xs. old ++ map num (flat_map g xs)) (sym is) ∙ h)

-- parts of parts
pub flat_flat : {X Y L : Type 0} (g : Y → List L) (f : X → List Y) (xs : List X) → flat_map g (flat_map f xs) ≡ flat_map (λ x. flat_map g (f x)) xs
flat_flat g f [] = refl
flat_flat g f (x ∷ xs) = flat_map-append g (f x) (flat_map f xs) ∙ ap (λ ys. flat_map g (f x) ++ ys) (flat_flat g f xs)
