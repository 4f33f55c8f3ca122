-- Lists that are put together part by part.
use Rattle.std.proofs.Common.{◌≡◌, ℕ, List, [], ◌∷◌, ◌++◌, map, flat_map, sym, ap, ◌∙◌}
use Rattle.std.proofs.lemmas.List.{append_assoc}

module _ {Y : Type 0} (old new all : List Y) (now later : List ℕ) (i : ℕ) (is : now ≡ i ∷ later) where
  -- one more member
  pub push_next : (g : ℕ → Y) → new ≡ old ++ g i ∷ [] → old ++ map g now ≡ all → new ++ map g later ≡ all
  push_next g e h = ap (λ xs. xs ++ map g later) e ∙ (append_assoc old (g i ∷ []) (map g later) ∙ (ap (λ xs. old ++ map g xs) (sym is) ∙ h))

  -- one more part
  pub part_next : (g : ℕ → List Y) → new ≡ old ++ g i → old ++ flat_map g now ≡ all → new ++ flat_map g later ≡ all
  part_next g e h = ap (λ xs. xs ++ flat_map g later) e ∙ (append_assoc old (g i) (flat_map g later) ∙ (ap (λ xs. old ++ flat_map g xs) (sym is) ∙ h))

-- one member and then another
pub push_two : {Y : Type 0} (old mid new : List Y) (a b : Y) → mid ≡ old ++ a ∷ [] → new ≡ mid ++ b ∷ [] → new ≡ old ++ a ∷ b ∷ []
push_two old mid new a b e f = f ∙ (ap (λ xs. xs ++ b ∷ []) e ∙ append_assoc old (a ∷ []) (b ∷ []))
