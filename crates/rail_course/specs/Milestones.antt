-- Places on a path, in the order in which a train comes to them.
use Rattle.std.specs.Prelude.{◌≡◌, ℕ, ◌≤◌, ◌<◌, ◌==◌, true, List, length, slice_get, Some}
use Rattle.std.specs.List.{list_any}
use Rattle.std.specs.List.Sorted.{IsNonDecreasingBy}
use Rattle.rail_base.specs.Members.{In}
use Rattle.rail_course.specs.declared.milestones.Milestone.{Milestone}

-- a place with its number in a list
abbrev pub milestone_of : ℕ × ℕ → Milestone
milestone_of p = record { place = p.1; index = p.0 }

-- these are all the places, the nearest first, each with its number in the list
pub record AreMilestones (places : List ℕ) (ms : List Milestone) : Type 0 where
  pub rising : IsNonDecreasingBy (λ m. m.place) ms
  pub known : (m : Milestone) → In m ms → slice_get places m.index ≡ Some m.place
  pub all : (i : ℕ) → i < length places → list_any (λ m. m.index == i) ms ≡ true

-- what is come to later has no lower number
abbrev pub ComeInTurn : {X : Type 0} → (X → ℕ) → (X → ℕ) → List X → Type 0
ComeInTurn {X} place number xs = (x y : X) → In x xs → In y xs → place x < place y → number x ≤ number y
