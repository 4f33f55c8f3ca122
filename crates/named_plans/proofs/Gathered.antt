-- What a loop has made of values so far.
use Rattle.std.proofs.Common.{◌≡◌, ℕ, ◌+◌, ◌≤◌, ◌<◌, suc, List, [], ◌∷◌, ◌++◌, map, length, get_or, drop, Option, Some, None, option_map, refl, sym, ap, ◌∙◌, arith, append_assoc, append-nil}
use Rattle.std.proofs.Math.Seq.{drop-cons}
use Rattle.std.proofs.lemmas.List.{drop_all}
use Rattle.rail_plan.specs.Text.{of_all, with_others}

pub same_option : {X : Type 0} (o : Option (List X)) → o ≡ option_map (λ more. [] ++ more) o
same_option None = refl
same_option (Some xs) = refl

module _ {X Y Z : Type 0} (f : Y → Option Z) (g : X → Y) (xs : List X) where
  -- what f gives of all is what was made so far, with what it gives of the others
  abbrev pub Gathers : List Z → ℕ → Type 0
  Gathers made i = of_all f (map g xs) ≡ option_map (λ more. made ++ more) (of_all f (map g (drop i xs)))

  pub begun : Gathers [] 0
  begun = same_option (of_all f (map g xs))

  joined : (made : List Z) (z : Z) (o : Option (List Z)) → option_map (λ more. made ++ more) (with_others (Some z) o) ≡ option_map (λ more. (made ++ z ∷ []) ++ more) o
  joined made z None = refl
  joined made z (Some zs) = ap (λ ys. Some ys) (sym (append_assoc made (z ∷ []) zs))

  nothing : (made : List Z) (o : Option (List Z)) → option_map (λ more. made ++ more) (with_others None o) ≡ None
  nothing made None = refl
  nothing made (Some zs) = refl

  next_is : (i : ℕ) (other : X) → i < length xs → of_all f (map g (drop i xs)) ≡ with_others (f (g (get_or xs i other))) (of_all f (map g (drop (i + 1) xs)))
  next_is i other l =
      let one : suc i ≡ i + 1 = omega arith in
      ap (λ ys. of_all f (map g ys)) (drop-cons xs i other l)
      ∙ ap (λ n. with_others (f (g (get_or xs i other))) (of_all f (map g (drop n xs)))) one

  pub made_more : (made : List Z) (i : ℕ) (x other : X) (z : Z) → i < length xs → x ≡ get_or xs i other → f (g x) ≡ Some z → Gathers made i → Gathers (made ++ z ∷ []) (i + 1)
  made_more made i x other z l is gives before =
      let here : f (g (get_or xs i other)) ≡ Some z = ap (λ y. f (g y)) (sym is) ∙ gives in
      before ∙ ap (option_map (λ more. made ++ more)) (next_is i other l ∙ ap (λ o. with_others o (of_all f (map g (drop (i + 1) xs)))) here)
      ∙ joined made z (of_all f (map g (drop (i + 1) xs)))

  pub gives_none : (made : List Z) (i : ℕ) (x other : X) → i < length xs → x ≡ get_or xs i other → f (g x) ≡ None → Gathers made i → of_all f (map g xs) ≡ None
  gives_none made i x other l is gives before =
      let here : f (g (get_or xs i other)) ≡ None = ap (λ y. f (g y)) (sym is) ∙ gives in
      before ∙ ap (option_map (λ more. made ++ more)) (next_is i other l ∙ ap (λ o. with_others o (of_all f (map g (drop (i + 1) xs)))) here)
      ∙ nothing made (of_all f (map g (drop (i + 1) xs)))

  pub all_made : (made : List Z) (i : ℕ) → length xs ≤ i → Gathers made i → of_all f (map g xs) ≡ Some made
  all_made made i l before =
      before ∙ ap (λ ys. option_map (λ more. made ++ more) (of_all f (map g ys))) (drop_all i xs l)
      ∙ ap (λ ys. Some ys) (append-nil made)
