-- What is so of all milestones is so of all that they are of.
use Rattle.std.proofs.Common.{◌≡◌, ℕ, ◌≤◌, ◌<◌, ◌⊎◌, ◌==◌, true, slice_get, Some, List, map, length, get_or, ap, sym, ◌∙◌, subst, arith, eqb-true}
use Rattle.std.specs.List.{Contains}
use Rattle.std.proofs.lemmas.List.{get_or-map}
use Rattle.std.proofs.lemmas.Option.{get_or_from_slice_get}
use Rattle.rail_base.specs.Members.{In}
use Rattle.rail_base.proofs.Contained.{contains_of_in}
use Rattle.rail_base.proofs.Lists.{length-map}
use Rattle.rail_base.proofs.Members.{list_any_gives}
use Rattle.rail_course.specs.declared.milestones.Milestone.{Milestone}
use Rattle.rail_course.specs.Milestones.{AreMilestones}

-- what is not ahead of a place, or no nearer than another
pub nearest : {X : Type 0} (place : X → ℕ) (xs : List X) (ms : List Milestone) → AreMilestones (map place xs) ms → (x least : ℕ) → ((m : Milestone) → In m ms → (m.place ≤ x) ⊎ (least ≤ m.place))
    → (y : X) → In y xs → (place y ≤ x) ⊎ (least ≤ place y)
nearest {X} place xs ms are x least each y i = at (contains_of_in xs y i)
  where
    of : (k : ℕ) → k < length xs → place (get_or xs k y) ≡ place y → ((m : Milestone) × In m ms × ((m.index == k) ≡ true)) → (place y ≤ x) ⊎ (least ≤ place y)
    of k l same (m, j, e) =
        let known = subst (λ n. slice_get (map place xs) n ≡ Some m.place) (eqb-true m.index k e) (are.known m j) in
        let is : m.place ≡ place y = sym (get_or_from_slice_get (map place xs) k m.place 0 known) ∙ get_or-map place xs k y 0 l ∙ same in
        subst (λ p. (p ≤ x) ⊎ (least ≤ p)) is (each m j)

    at : Contains xs y → (place y ≤ x) ⊎ (least ≤ place y)
    at (k, l, same) = of k l (ap place same) (list_any_gives (λ (m : Milestone). m.index == k) ms (are.all k (let n = length-map place xs in omega arith)))
