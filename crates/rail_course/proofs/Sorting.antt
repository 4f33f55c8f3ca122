-- The milestones of places are all of them, in another order.
use Rattle.std.proofs.Common.{◌≡◌, ℕ, zero, suc, ◌+◌, ◌<◌, ◌==◌, inl, inr, true, List, [], ◌∷◌, map, length, slice_get, Some, refl, sym, ◌∙◌, subst, arith, eq-eqb}
use Rattle.std.specs.List.{enumerate_from, list_any}
use Rattle.std.specs.List.Sorted.{IsPermutation}
use Rattle.std.proofs.lemmas.List.Sorted.{Contains-permutation, IsPermutation-sym, list_any-IsPermutation}
use Rattle.rail_base.specs.Members.{In}
use Rattle.rail_base.proofs.Contained.{contains_of_in, in_of_contains}
use Rattle.rail_base.proofs.Members.{or_left, or_right}
use Rattle.rail_course.specs.declared.milestones.Milestone.{Milestone}
use Rattle.rail_course.specs.Milestones.{milestone_of}

-- what a number in a list of numbered places says
abbrev Known : ℕ → List ℕ → Milestone → Type 0
Known n places m = (i : ℕ) × (m.index ≡ n + i) × (slice_get places i ≡ Some m.place)

numbered_known : (n : ℕ) (places : List ℕ) (m : Milestone) → In m (map milestone_of (enumerate_from n places)) → Known n places m
numbered_known n [] m k = absurd k
numbered_known n (p ∷ ps) m (inl same) = subst (Known n (p ∷ ps)) same (0, omega arith, refl)
numbered_known n (p ∷ ps) m (inr k) = go (numbered_known (n + 1) ps m k)
  where
    go : Known (n + 1) ps m → Known n (p ∷ ps) m
    go (i, e, h) = (suc i, omega arith, h)

numbered_there : (n : ℕ) (places : List ℕ) (i j : ℕ) → j ≡ n + i → i < length places → list_any (λ (m : Milestone). m.index == j) (map milestone_of (enumerate_from n places)) ≡ true
numbered_there n [] i j e h = absurd (omega arith)
numbered_there n (p ∷ ps) zero j e h = or_left _ _ (eq-eqb n j (omega arith))
numbered_there n (p ∷ ps) (suc i) j e h = or_right _ _ (numbered_there (n + 1) ps i j (omega arith) (omega arith))

pub all_there : (places : List ℕ) (ms : List Milestone) → IsPermutation (map milestone_of (enumerate_from 0 places)) ms → (i : ℕ) → i < length places → list_any (λ (m : Milestone). m.index == i) ms ≡ true
all_there places ms moved i h = sym (list_any-IsPermutation (λ (m : Milestone). m.index == i) _ ms moved) ∙ numbered_there 0 places i i (omega arith) h

pub each_known : (places : List ℕ) (ms : List Milestone) → IsPermutation (map milestone_of (enumerate_from 0 places)) ms → (m : Milestone) → In m ms → slice_get places m.index ≡ Some m.place
each_known places ms moved m k =
    let back = IsPermutation-sym (map milestone_of (enumerate_from 0 places)) ms moved in
    go (numbered_known 0 places m (in_of_contains _ m (Contains-permutation ms (map milestone_of (enumerate_from 0 places)) m back (contains_of_in ms m k))))
  where
    go : Known 0 places m → slice_get places m.index ≡ Some m.place
    go (i, e, h) = let same : i ≡ m.index = omega arith in subst (λ j. slice_get places j ≡ Some m.place) same h
