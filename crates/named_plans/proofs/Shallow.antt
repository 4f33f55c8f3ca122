-- A plan with numbers in place of names is no deeper than a text may be.
use Rattle.std.proofs.Common.{◌≡◌, ℕ, ◌≤◌, List, [], ◌∷◌, Option, Some, None, option_map, option_and_then, refl, subst, arith, codes}
use Rattle.serde_json.specs.Data.{Data, unsigned, number, string, array, object, member, no_members, depth, items_depth}
use Rattle.serde_json.specs.Read.{max_depth}
use Rattle.serde_json.specs.View.{items_of}
use Rattle.rail_plan.specs.Text.{array_of, of_all, with_others, steps_at, string_of}
use Rattle.named_plans.specs.Numbered.{both, two_numbered, command_numbered, step_numbered, plan_numbered, names_in, number_or_none}
use Rattle.plan_names.specs.Shown.{number_among}

-- what f gives is no deeper than this
abbrev GivesShallow : (Data → Option Data) → ℕ → Type 0
GivesShallow f n = (x y : Data) → f x ≡ Some y → depth y ≤ n

all_shallow : (f : Data → Option Data) (n : ℕ) → GivesShallow f n → (xs ys : List Data) → of_all f xs ≡ Some ys → items_depth (items_of ys) ≤ n
all_shallow f n each [] ys e = let none : [] ≡ ys = cc in subst (λ zs. items_depth (items_of zs) ≤ n) none (omega arith)
all_shallow f n each (x ∷ xs) ys e = go (f x) (of_all f xs) refl refl e (all_shallow f n each xs)
  where
    go : (a : Option Data) (b : Option (List Data)) → f x ≡ a → of_all f xs ≡ b → with_others a b ≡ Some ys → ((zs : List Data) → of_all f xs ≡ Some zs → items_depth (items_of zs) ≤ n) → items_depth (items_of ys) ≤ n
    go None None h k is later = absurd cc
    go None (Some zs) h k is later = absurd cc
    go (Some z) None h k is later = absurd cc
    go (Some z) (Some zs) h k is later =
        let same : z ∷ zs ≡ ys = cc in
        let first = each x z h in
        let others = later zs k in
        subst (λ ws. items_depth (items_of ws) ≤ n) same (omega arith)

module _ (all : List (List (List ℕ))) where
  both_shallow : (a : Option (List ℕ)) (b : Option (List (List ℕ))) (y : Data) → both all a b ≡ Some y → depth y ≤ 1
  both_shallow None None y e = absurd cc
  both_shallow None (Some names) y e = absurd cc
  both_shallow (Some t) None y e = absurd cc
  both_shallow (Some t) (Some names) y e =
      let same : array (items_of (string t ∷ number (unsigned (number_or_none (number_among all names))) ∷ [])) ≡ y = cc in
      subst (λ v. depth v ≤ 1) same (omega arith)

  two_shallow : (vs : List Data) (y : Data) → two_numbered all vs ≡ Some y → depth y ≤ 1
  two_shallow [] y e = absurd cc
  two_shallow (t ∷ []) y e = absurd cc
  two_shallow (t ∷ r ∷ []) y e = both_shallow (string_of t) (names_in r) y e
  two_shallow (t ∷ r ∷ v ∷ vs) y e = absurd cc

  command_shallow : (x y : Data) → command_numbered all x ≡ Some y → depth y ≤ 1
  command_shallow x y e = go (array_of x) e
    where
      go : (o : Option (List Data)) → option_and_then (two_numbered all) o ≡ Some y → depth y ≤ 1
      go None h = absurd cc
      go (Some vs) h = two_shallow vs y h

  step_shallow : (x y : Data) → step_numbered all x ≡ Some y → depth y ≤ 2
  step_shallow x y e = go (array_of x) e
    where
      made : (vs : List Data) (o : Option (List Data)) → of_all (command_numbered all) vs ≡ o → option_map (λ cs. array (items_of cs)) o ≡ Some y → depth y ≤ 2
      made vs None h is = absurd cc
      made vs (Some cs) h is =
          let same : array (items_of cs) ≡ y = cc in
          let low = all_shallow (command_numbered all) 1 command_shallow vs cs h in
          subst (λ v. depth v ≤ 2) same (omega arith)

      go : (o : Option (List Data)) → option_map (λ cs. array (items_of cs)) (option_and_then (of_all (command_numbered all)) o) ≡ Some y → depth y ≤ 2
      go None h = absurd cc
      go (Some vs) h = made vs (of_all (command_numbered all) vs) refl h

  pub plan_shallow : (x y : Data) → plan_numbered all x ≡ Some y → depth y ≤ max_depth
  plan_shallow x y e = go (option_and_then array_of (steps_at x)) e
    where
      wrapped : List Data → Data
      wrapped ss = object (member (codes "steps") (array (items_of ss)) no_members)

      made : (vs : List Data) (o : Option (List Data)) → of_all (step_numbered all) vs ≡ o → option_map wrapped o ≡ Some y → depth y ≤ max_depth
      made vs None h is = absurd cc
      made vs (Some ss) h is =
          let same : object (member (codes "steps") (array (items_of ss)) no_members) ≡ y = cc in
          let low = all_shallow (step_numbered all) 2 step_shallow vs ss h in
          subst (λ v. depth v ≤ max_depth) same (omega arith)

      go : (o : Option (List Data)) → option_map wrapped (option_and_then (of_all (step_numbered all)) o) ≡ Some y → depth y ≤ max_depth
      go None h = absurd cc
      go (Some vs) h = made vs (of_all (step_numbered all) vs) refl h
