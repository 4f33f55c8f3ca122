-- Arrays of two values, and objects of one member.
use Rattle.std.proofs.Common.{◌≡◌, ◌<◌, ◌≤◌, false, List, [], ◌∷◌, length, map, get_or, Option, Some, None, is_some, ◌&&◌, option_and_then, String, Global, codes, refl, arith, sym, ◌∙◌, ap}
use Rattle.serde_json.specs.declared.value.Value.{Value}
use Rattle.serde_json.specs.Data.{Data}
use Rattle.serde_json.specs.Find.{get_member}
use Rattle.serde_json.specs.View.{view, items_view, members_view}
use Rattle.std.specs.List.{list_all}
use Rattle.rail_plan.specs.Text.{two_of, pair_of, string_of, whole_of, list_of_items, only_steps, array_of, command_of, step_in, of_all, with_others}

pub two_values : (vs : List Value) (a b : Value) → length vs ≡ 2 → a ≡ get_or vs 0 a → b ≡ get_or vs 1 b → two_of (map view vs) ≡ pair_of (string_of (view a)) (whole_of (view b))
two_values [] a b n p q = absurd (omega arith)
two_values (v ∷ []) a b n p q = absurd (omega arith)
two_values (v ∷ w ∷ []) a b n p q = rw (p, q) refl
two_values (v ∷ w ∷ x ∷ vs) a b n p q = absurd (omega arith)

pub few_values : (vs : List Value) → length vs < 2 → two_of (map view vs) ≡ None
few_values [] n = refl
few_values (v ∷ []) n = refl
few_values (v ∷ w ∷ vs) n = absurd (omega arith)

pub many_values : (vs : List Value) → 3 ≤ length vs → two_of (map view vs) ≡ None
many_values [] n = absurd (omega arith)
many_values (v ∷ []) n = absurd (omega arith)
many_values (v ∷ w ∷ []) n = absurd (omega arith)
many_values (v ∷ w ∷ x ∷ vs) n = refl

pub ruleset pairs = (two_values, few_values, many_values)

-- the members of an array, as a list of values
pub listed_values : (vs : List Value) → list_of_items (items_view vs) ≡ map view vs
listed_values [] = refl
listed_values (v ∷ vs) = ap (λ ds. view v ∷ ds) (listed_values vs)

pub one_member : (es : List (String Global × Value)) → length es ≡ 1 → only_steps (members_view es) ≡ get_member (codes "steps") (members_view es)
one_member [] n = absurd (omega arith)
one_member (e ∷ []) n = refl
one_member (e ∷ f ∷ es) n = absurd (omega arith)

pub other_members : (es : List (String Global × Value)) → (length es ≡ 1 → ⊥) → only_steps (members_view es) ≡ None
other_members [] n = refl
other_members (e ∷ []) n = absurd (n refl)
other_members (e ∷ f ∷ es) n = refl

pub ruleset singles = (one_member, other_members)

-- ---- something of all

pub of_all_is : {X Y Z : Type 0} (f : Y → Option Z) (g : X → Y) (xs : List X) → is_some (of_all f (map g xs)) ≡ list_all (λ x. is_some (f (g x))) xs
of_all_is f g [] = refl
of_all_is f g (x ∷ xs) = both (f (g x)) (of_all f (map g xs)) ∙ ap (λ b. is_some (f (g x)) && b) (of_all_is f g xs)
  where
    both : {Z : Type 0} (a : Option Z) (b : Option (List Z)) → is_some (with_others a b) ≡ (is_some a && is_some b)
    both None None = refl
    both None (Some zs) = refl
    both (Some z) None = refl
    both (Some z) (Some zs) = refl

pub step_is : (d : Data) (vs : List Value) → Some (map view vs) ≡ array_of d → list_all (λ v. is_some (command_of (view v))) vs ≡ is_some (step_in d)
step_is d vs e = sym (of_all_is command_of view vs) ∙ ap (λ o. is_some (option_and_then (of_all command_of) o)) e

pub no_step : (d : Data) → None ≡ array_of d → false ≡ is_some (step_in d)
no_step d e = ap (λ o. is_some (option_and_then (of_all command_of) o)) e

pub ruleset shapes = (step_is, no_step)
