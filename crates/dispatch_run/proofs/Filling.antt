-- A list that is filled in from its front on.
use Rattle.std.proofs.Common.{◌≡◌, ℕ, zero, suc, ◌<◌, ◌≤◌, List, [], ◌∷◌, ◌++◌, length, get_or, set, take, drop, map, refl, ap, ◌∙◌, arith}
use Rattle.std.proofs.lemmas.List.{append-nil, drop_all}

module _ {X Y : Type 0} (f : X → Y → Y) where
  -- the first i members are made of those of the other list
  pub filled : ℕ → List X → List Y → List Y
  filled zero xs ys = ys
  filled (suc i) [] ys = ys
  filled (suc i) (x ∷ xs) [] = []
  filled (suc i) (x ∷ xs) (y ∷ ys) = f x y ∷ filled i xs ys

  -- none at first
  pub none_filled : (xs : List X) (ys : List Y) → ys ≡ filled zero xs ys
  unfolding filled
  none_filled xs ys = refl

  -- the next one is as it was
  pub next_is : (i : ℕ) (xs : List X) (ys : List Y) (d : Y) → get_or (filled i xs ys) i d ≡ get_or ys i d
  unfolding filled
  next_is zero xs ys d = refl
  next_is (suc i) [] ys d = refl
  next_is (suc i) (x ∷ xs) [] d = refl
  next_is (suc i) (x ∷ xs) (y ∷ ys) d = next_is i xs ys d

  -- one more
  pub one_more : (i : ℕ) (xs : List X) (ys : List Y) (dx : X) (dy : Y) → i < length xs → i < length ys → set (filled i xs ys) i (f (get_or xs i dx) (get_or ys i dy)) ≡ filled (suc i) xs ys
  unfolding filled
  one_more zero [] ys dx dy h k = absurd (omega arith)
  one_more zero (x ∷ xs) [] dx dy h k = absurd (omega arith)
  one_more zero (x ∷ xs) (y ∷ ys) dx dy h k = refl
  one_more (suc i) [] ys dx dy h k = absurd (omega arith)
  one_more (suc i) (x ∷ xs) [] dx dy h k = absurd (omega arith)
  one_more (suc i) (x ∷ xs) (y ∷ ys) dx dy h k = ap (λ zs. f x y ∷ zs) (one_more i xs ys dx dy (omega arith) (omega arith))

  pub length-filled : (i : ℕ) (xs : List X) (ys : List Y) → length (filled i xs ys) ≡ length ys
  unfolding filled
  length-filled zero xs ys = refl
  length-filled (suc i) [] ys = refl
  length-filled (suc i) (x ∷ xs) [] = refl
  length-filled (suc i) (x ∷ xs) (y ∷ ys) = ap suc (length-filled i xs ys)

-- all of them, where each is made of the other list's alone
pub all_made : {X Y : Type 0} (g : X → Y) (i : ℕ) (xs : List X) (ys : List Y) → length xs ≤ i → length ys ≡ length xs → filled (λ x y. g x) i xs ys ≡ map g xs
unfolding filled
all_made g zero [] [] h e = refl
all_made g zero [] (y ∷ ys) h e = absurd (omega arith)
all_made g zero (x ∷ xs) ys h e = absurd (omega arith)
all_made g (suc i) [] [] h e = refl
all_made g (suc i) [] (y ∷ ys) h e = absurd (omega arith)
all_made g (suc i) (x ∷ xs) [] h e = absurd (omega arith)
all_made g (suc i) (x ∷ xs) (y ∷ ys) h e = ap (λ zs. g x ∷ zs) (all_made g i xs ys (omega arith) (omega arith))

all_taken : {X : Type 0} (xs : List X) (n : ℕ) → length xs ≤ n → take n xs ≡ xs
all_taken [] zero h = refl
all_taken [] (suc n) h = refl
all_taken (x ∷ xs) zero h = absurd (omega arith)
all_taken (x ∷ xs) (suc n) h = ap (λ ys. x ∷ ys) (all_taken xs n (omega arith))

-- what is written over all of a list is then there
pub written_back : {X : Type 0} (n : ℕ) (new old : List X) → n ≡ length old → length new ≡ length old → take n (new ++ drop (length new) old) ≡ new
written_back n new old e f =
    ap (λ xs. take n (new ++ xs)) (drop_all (length new) old (omega arith))
    ∙ (ap (take n) (append-nil new) ∙ all_taken new n (omega arith))
