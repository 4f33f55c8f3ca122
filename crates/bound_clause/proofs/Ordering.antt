-- Literals that are sorted by their variables, with those taken out that are as the one before.
use Rattle.std.proofs.Common.{◌≡◌, ◌⊎◌, inl, inr, ℕ, suc, ◌≤◌, ◌<◌, Bool, true, false, ◌&&◌, cond, nat_lt, List, [], ◌∷◌, refl, sym, ap, subst, ◌∙◌, arith, leb-true, le-leb, true≢false}
use Rattle.std.specs.List.{dedup, dedup_from, list_all, list_any}
use Rattle.std.specs.List.Sorted.{IsNonDecreasingBy, IsPermutation}
use Rattle.std.proofs.lemmas.List.Sorted.{list_any-IsPermutation}
use Rattle.sat_clause.specs.declared.lit.Lit.{Lit}
use Rattle.rail_base.specs.Members.{all_neighbors, all_pairs}
use Rattle.rail_base.proofs.Members.{In, and_left, and_right, and_both, list_any_from, list_any_gives, list_all_at}
use Rattle.rail_base.proofs.Lists.{list_all_from}
use Rattle.bound_clause.specs.Order.{BothSigns, IsPutInOrder}

abbrev pub is_less : Lit → Lit → Bool
is_less l m = nat_lt l.var m.var

-- ---- what is left of a sorted list

module _ (E : Lit → Lit → Bool) (same : (x y : Lit) → E x y ≡ true → x ≡ y) (self : (x : Lit) → E x x ≡ true) where
  -- each literal is left
  kept : (k : Lit) (xs : List Lit) (l : Lit) → In l (k ∷ xs) → In l (dedup_from E k xs)
  kept k [] l m = m
  kept k (x ∷ xs) l m = go (E x k) refl m (kept k xs l) (kept x xs l)
    where
      go : (b : Bool) → E x k ≡ b → In l (k ∷ x ∷ xs) → (In l (k ∷ xs) → In l (dedup_from E k xs)) → (In l (x ∷ xs) → In l (dedup_from E x xs)) → In l (cond b (dedup_from E k xs) (k ∷ dedup_from E x xs))
      go true e (inl h) one two = one (inl h)
      go true e (inr (inl h)) one two = one (inl (sym (same x k e) ∙ h))
      go true e (inr (inr h)) one two = one (inr h)
      go false e (inl h) one two = inl h
      go false e (inr h) one two = inr (two h)

  -- and nothing else
  back : (k : Lit) (xs : List Lit) (l : Lit) → In l (dedup_from E k xs) → In l (k ∷ xs)
  back k [] l m = m
  back k (x ∷ xs) l m = go (E x k) m (back k xs l) (back x xs l)
    where
      skip : In l (k ∷ xs) → In l (k ∷ x ∷ xs)
      skip (inl h) = inl h
      skip (inr h) = inr (inr h)

      go : (b : Bool) → In l (cond b (dedup_from E k xs) (k ∷ dedup_from E x xs)) → (In l (dedup_from E k xs) → In l (k ∷ xs)) → (In l (dedup_from E x xs) → In l (x ∷ xs)) → In l (k ∷ x ∷ xs)
      go true m one two = skip (one m)
      go false (inl h) one two = inl h
      go false (inr h) one two = inr (two h)

  -- the first one stays the first
  head : (x : Lit) (xs : List Lit) → (rest : List Lit) × (dedup_from E x xs ≡ x ∷ rest)
  head x [] = ([], refl)
  head x (y ∷ ys) = go (E y x) (head x ys)
    where
      go : (b : Bool) → ((rest : List Lit) × (dedup_from E x ys ≡ x ∷ rest)) → (rest : List Lit) × (cond b (dedup_from E x ys) (x ∷ dedup_from E y ys) ≡ x ∷ rest)
      go true r = r
      go false r = (dedup_from E y ys, refl)

  later : (k : Lit) (xs : List Lit) → IsNonDecreasingBy (λ (l : Lit). l.var) (k ∷ xs) → IsNonDecreasingBy (λ (l : Lit). l.var) xs
  later k xs up i j other h l = up (suc i) (suc j) other (omega arith) (omega arith)

  more : (k x : Lit) (xs : List Lit) → BothSigns (x ∷ xs) → BothSigns (k ∷ x ∷ xs)
  more k x xs (l, m, i, j, e, apart) = (l, m, inr i, inr j, e, apart)

  -- where its variables do not rise, two literals of one variable differ
  apart : (k : Lit) (xs : List Lit) → IsNonDecreasingBy (λ (l : Lit). l.var) (k ∷ xs) → all_neighbors is_less (dedup_from E k xs) ≡ false → BothSigns (k ∷ xs)
  apart k [] up h = absurd (true≢false h)
  apart k (x ∷ xs) up h = go (E x k) refl h (apart k xs) (λ g. more k x xs (apart x xs (later k (x ∷ xs) up) g))
    where
      skip : (l : Lit) → In l (k ∷ xs) → In l (k ∷ x ∷ xs)
      skip l (inl h) = inl h
      skip l (inr h) = inr (inr h)

      widen : BothSigns (k ∷ xs) → BothSigns (k ∷ x ∷ xs)
      widen (l, m, i, j, e, apart) = (l, m, skip l i, skip m j, e, apart)

      first : k.var ≤ x.var
      first = up 0 1 k (omega arith) (omega arith)

      fork : E x k ≡ false → (b : Bool) → is_less k x ≡ b → (b && all_neighbors is_less (dedup_from E x xs)) ≡ false → (all_neighbors is_less (dedup_from E x xs) ≡ false → BothSigns (k ∷ x ∷ xs)) → BothSigns (k ∷ x ∷ xs)
      fork e true f g two = two g
      fork e false f g two = (k, x, inl refl, inr (inl refl), equal, λ s. true≢false (sym (self x) ∙ subst (λ y. E x y ≡ false) s e))
        where
          equal : k.var ≡ x.var
          equal = not_less k.var x.var first f
            where
              not_less : (a b : ℕ) → a ≤ b → nat_lt a b ≡ false → a ≡ b
              not_less a b h f = grind arith

      go : (b : Bool) → E x k ≡ b → all_neighbors is_less (cond b (dedup_from E k xs) (k ∷ dedup_from E x xs)) ≡ false → (IsNonDecreasingBy (λ (l : Lit). l.var) (k ∷ xs) → all_neighbors is_less (dedup_from E k xs) ≡ false → BothSigns (k ∷ xs)) → (all_neighbors is_less (dedup_from E x xs) ≡ false → BothSigns (k ∷ x ∷ xs)) → BothSigns (k ∷ x ∷ xs)
      go true e h one two = widen (one (subst (λ y. IsNonDecreasingBy (λ (l : Lit). l.var) (y ∷ xs)) (same x k e) (later k (x ∷ xs) up)) h)
      go false e h one two =
          let r = head x xs in
          let h' : (is_less k x && all_neighbors is_less (x ∷ r.0)) ≡ false = subst (λ ls. all_neighbors is_less (k ∷ ls) ≡ false) r.1 h in
          fork e (is_less k x) refl (subst (λ ls. (is_less k x && all_neighbors is_less ls) ≡ false) (sym r.1) h') two

  whole_kept : (xs : List Lit) (l : Lit) → In l xs → In l (dedup E xs)
  whole_kept [] l m = m
  whole_kept (x ∷ xs) l m = kept x xs l m

  whole_back : (xs : List Lit) (l : Lit) → In l (dedup E xs) → In l xs
  whole_back [] l m = m
  whole_back (x ∷ xs) l m = back x xs l m

  whole_apart : (xs : List Lit) → IsNonDecreasingBy (λ (l : Lit). l.var) xs → all_neighbors is_less (dedup E xs) ≡ false → BothSigns xs
  whole_apart [] up h = absurd (true≢false h)
  whole_apart (x ∷ xs) up h = apart x xs up h

  at : (xs : List Lit) (l : Lit) → list_any (λ x. E x l) xs ≡ true → In l xs
  at xs l h = let f = list_any_gives (λ x. E x l) xs h in subst (λ j. In j xs) (same f.0 l f.2) f.1

  has : (xs : List Lit) (l : Lit) → In l xs → list_any (λ x. E x l) xs ≡ true
  has xs l m = list_any_from (λ x. E x l) xs l m (self l)

  pub put_in_order : (old sorted new : List Lit) → IsPermutation old sorted → IsNonDecreasingBy (λ (l : Lit). l.var) sorted → new ≡ dedup E sorted → IsPutInOrder old new
  put_in_order old sorted new moved up is = record {
    kept = λ l m. subst (In l) (sym is) (whole_kept sorted l (at sorted l (sym (list_any-IsPermutation (λ x. E x l) old sorted moved) ∙ has old l m)));
    no_more = λ l m. at old l (list_any-IsPermutation (λ x. E x l) old sorted moved ∙ has sorted l (whole_back sorted l (subst (In l) is m)));
    apart = λ h. into (whole_apart sorted up (subst (λ ls. all_neighbors is_less ls ≡ false) is h));
  }
    where
      into : BothSigns sorted → BothSigns new
      into (l, m, i, j, e, apart) = (l, m, subst (In l) (sym is) (whole_kept sorted l i), subst (In m) (sym is) (whole_kept sorted m j), e, apart)

-- ---- lists in order

less_both : (a b : Lit) → is_less a b ≡ true → a.var < b.var
less_both a b h = leb-true _ _ h

-- neighbors that rise make each two rise
pub each_two : (xs : List Lit) → all_neighbors is_less xs ≡ true → all_pairs is_less xs ≡ true
each_two [] h = refl
each_two (x ∷ []) h = refl
each_two (x ∷ y ∷ xs) h = from_first (each_two (y ∷ xs) (and_right (is_less x y) _ h))
  where
    from_first : all_pairs is_less (y ∷ xs) ≡ true → all_pairs is_less (x ∷ y ∷ xs) ≡ true
    from_first rest = and_both _ _
        (and_both _ _ (and_left (is_less x y) _ h) (list_all_from (is_less x) xs (λ z m.
        let one = less_both x y (and_left (is_less x y) _ h) in
        let two = less_both y z (list_all_at (is_less y) xs z (and_left (list_all (is_less y) xs) _ rest) m) in
        le-leb _ _ (omega arith)))) rest

-- literals of one variable are one
pub one_of_variable : (xs : List Lit) (a b : Lit) → all_pairs is_less xs ≡ true → In a xs → In b xs → a.var ≡ b.var → a ≡ b
one_of_variable [] a b h i j e = absurd i
one_of_variable (x ∷ xs) a b h (inl i) (inl j) e = sym i ∙ j
one_of_variable (x ∷ xs) a b h (inl i) (inr j) e =
    let l = less_both x b (list_all_at (is_less x) xs b (and_left (list_all (is_less x) xs) _ h) j) in
    let f : x.var ≡ a.var = ap (λ (l : Lit). l.var) i in
    absurd (omega arith)
one_of_variable (x ∷ xs) a b h (inr i) (inl j) e =
    let l = less_both x a (list_all_at (is_less x) xs a (and_left (list_all (is_less x) xs) _ h) i) in
    let f : x.var ≡ b.var = ap (λ (l : Lit). l.var) j in
    absurd (omega arith)
one_of_variable (x ∷ xs) a b h (inr i) (inr j) e = one_of_variable xs a b (and_right (list_all (is_less x) xs) _ h) i j e

-- two lists in order that have the same members are equal
pub same_members : (xs ys : List Lit) → all_pairs is_less xs ≡ true → all_pairs is_less ys ≡ true → ((l : Lit) → In l xs → In l ys) → ((l : Lit) → In l ys → In l xs) → xs ≡ ys
same_members [] [] h k to from = refl
same_members [] (y ∷ ys) h k to from = absurd (from y (inl refl))
same_members (x ∷ xs) [] h k to from = absurd (to x (inl refl))
same_members (x ∷ xs) (y ∷ ys) h k to from = ends first (same_members xs ys (and_right (list_all (is_less x) xs) _ h) (and_right (list_all (is_less y) ys) _ k))
  where
    above_x : (l : Lit) → In l xs → x.var < l.var
    above_x l m = less_both x l (list_all_at (is_less x) xs l (and_left (list_all (is_less x) xs) _ h) m)

    above_y : (l : Lit) → In l ys → y.var < l.var
    above_y l m = less_both y l (list_all_at (is_less y) ys l (and_left (list_all (is_less y) ys) _ k) m)

    first : x ≡ y
    first = go (to x (inl refl)) (from y (inl refl))
      where
        go : (y ≡ x) ⊎ In x ys → (x ≡ y) ⊎ In y xs → x ≡ y
        go (inl e) other = sym e
        go (inr m) (inl e) = e
        go (inr m) (inr n) = let a = above_y x m in let b = above_x y n in absurd (omega arith)

    to_rest : x ≡ y → (l : Lit) → In l xs → In l ys
    to_rest e l m = go (to l (inr m))
      where
        go : (y ≡ l) ⊎ In l ys → In l ys
        go (inr n) = n
        go (inl f) = let a = above_x l m in let g : x.var ≡ l.var = ap (λ (l : Lit). l.var) (e ∙ f) in absurd (omega arith)

    from_rest : x ≡ y → (l : Lit) → In l ys → In l xs
    from_rest e l m = go (from l (inr m))
      where
        go : (x ≡ l) ⊎ In l xs → In l xs
        go (inr n) = n
        go (inl f) = let a = above_y l m in let g : y.var ≡ l.var = ap (λ (l : Lit). l.var) (sym e ∙ f) in absurd (omega arith)

    ends : x ≡ y → (((l : Lit) → In l xs → In l ys) → ((l : Lit) → In l ys → In l xs) → xs ≡ ys) → (x ∷ xs) ≡ (y ∷ ys)
    ends e rest = ap (λ l. l ∷ xs) e ∙ ap (λ ls. y ∷ ls) (rest (to_rest e) (from_rest e))
