-- Numbers that are added part by part.
use Rattle.std.proofs.Common.{◌≡◌, ℕ, ◌+◌, ◌≤◌, ◌<◌, ◌⊎◌, inl, inr, List, [], ◌∷◌, ◌++◌, take, get_or, length, refl, sym, subst}
use Rattle.std.proofs.lemmas.List.{take_more, take_all}
use Rattle.rail_base.proofs.Members.{In}
use Rattle.rail_base.proofs.Lists.{in_append, in_append_left, in_append_right}
use Rattle.cone_clause.specs.Places.{Adds}

-- one number
pub adds_one : (P : ℕ → Type 0) (n : ℕ) (old new : List ℕ) → new ≡ old ++ n ∷ [] → P n → ((i : ℕ) → P i → n ≡ i) → Adds P old new
adds_one P n old new is holds only = record {
  kept = λ i m. subst (In i) (sym is) (in_append_left i old (n ∷ []) m);
  added = λ i p. subst (In i) (sym is) (in_append_right i old (n ∷ []) (inl (only i p)));
  no_more = λ i m. go i (in_append i old (n ∷ []) (subst (In i) is m));
}
  where
    go : (i : ℕ) → In i old ⊎ In i (n ∷ []) → In i old ⊎ P i
    go i (inl m) = inl m
    go i (inr (inl e)) = inr (subst P e holds)
    go i (inr (inr e)) = absurd e

-- the same numbers, otherwise said
pub adds_same : (P Q : ℕ → Type 0) (old new : List ℕ) → ((i : ℕ) → P i → Q i) → ((i : ℕ) → Q i → P i) → Adds P old new → Adds Q old new
adds_same P Q old new to from a = record { kept = a.kept; added = λ i q. a.added i (from i q); no_more = λ i m. go i (a.no_more i m) }
  where
    go : (i : ℕ) → In i old ⊎ P i → In i old ⊎ Q i
    go i (inl m) = inl m
    go i (inr p) = inr (to i p)

module _ {X : Type 0} (Q : X → ℕ → Type 0) (xs : List X) where
  -- those of the members up to a place
  abbrev pub OfPrefix : ℕ → ℕ → Type 0
  OfPrefix j i = (x : X) × In x (take j xs) × Q x i

  pub adds_none : (old : List ℕ) → Adds (OfPrefix 0) old old
  adds_none old = record { kept = λ i m. m; added = λ i p. absurd p.1; no_more = λ i m. inl m }

  pub adds_more : (j : ℕ) (other : X) (old now new : List ℕ) → j < length xs → Adds (OfPrefix j) old now → Adds (Q (get_or xs j other)) now new → Adds (OfPrefix (j + 1)) old new
  adds_more j other old now new inside before here = record {
    kept = λ i m. here.kept i (before.kept i m);
    added = λ i p. at i p.0 p.2 (in_append p.0 (take j xs) (get_or xs j other ∷ []) (subst (In p.0) (take_more xs j other inside) p.1));
    no_more = λ i m. back i (here.no_more i m);
  }
    where
      at : (i : ℕ) (x : X) → Q x i → In x (take j xs) ⊎ In x (get_or xs j other ∷ []) → In i new
      at i x q (inl m) = here.kept i (before.added i (x, m, q))
      at i x q (inr (inl e)) = here.added i (subst (λ y. Q y i) (sym e) q)
      at i x q (inr (inr e)) = absurd e

      prefix : (x : X) → In x (take j xs) → In x (take (j + 1) xs)
      prefix x m = subst (In x) (sym (take_more xs j other inside)) (in_append_left x (take j xs) (get_or xs j other ∷ []) m)

      last : In (get_or xs j other) (take (j + 1) xs)
      last = subst (In (get_or xs j other)) (sym (take_more xs j other inside)) (in_append_right (get_or xs j other) (take j xs) (get_or xs j other ∷ []) (inl refl))

      older : (i : ℕ) → In i old ⊎ OfPrefix j i → In i old ⊎ OfPrefix (j + 1) i
      older i (inl m) = inl m
      older i (inr (x, m, q)) = inr (x, prefix x m, q)

      back : (i : ℕ) → In i now ⊎ Q (get_or xs j other) i → In i old ⊎ OfPrefix (j + 1) i
      back i (inl m) = older i (before.no_more i m)
      back i (inr q) = inr (get_or xs j other, last, q)

  pub adds_all : (j : ℕ) (old new : List ℕ) → length xs ≤ j → Adds (OfPrefix j) old new → Adds (λ i. (x : X) × In x xs × Q x i) old new
  adds_all j old new end a = adds_same (OfPrefix j) (λ i. (x : X) × In x xs × Q x i) old new
      (λ i p. (p.0, subst (In p.0) whole p.1, p.2)) (λ i p. (p.0, subst (In p.0) (sym whole) p.1, p.2)) a
    where
      whole : take j xs ≡ xs
      whole = take_all j xs end
