-- Where sections are released.
use Rattle.std.specs.Prelude.{ℕ, ◌+◌, ℤ, ◌≡◌, List, map, Option, Some, None, find, nat_abs, reverse}
use Rattle.std.specs.List.Sorted.{IsNonDecreasingBy, IsPermutation}
use Rattle.rail_base.specs.declared.route.Route.{Route}
use Rattle.rail_base.specs.declared.station.SectionNo.{SectionNo}
use Rattle.number_sets.specs.declared.set.NumberSet.{NumberSet}
use Rattle.number_sets.specs.Sets.{contains}
use Rattle.rail_base.specs.Routes.{own_shared, release_offset}
use Rattle.clause_spec.specs.Clauses.{left_by}
use Rattle.interlocking.specs.Sections.{IsSectionSet}

-- so much track of its route takes a train of this length clear of a section; of none, none
abbrev pub left_of : Option (SectionNo × ℤ) → ℕ → ℕ
left_of None length = 0
left_of (Some p) length = nat_abs p.1 + length

-- the sections of a route with their release offsets, in the order in which they are released
pub record AreReleases (parts : List (SectionNo × ℤ)) (r : Route) : Type 0 where
  pub moved : IsPermutation r.sections parts
  pub rising : IsNonDecreasingBy (λ p. nat_abs p.1) parts

-- the last of these parts that is in the set of another route's sections says how much takes it clear of all of them
abbrev pub AreReleasesOf : List (SectionNo × ℤ) → Route → Type 0
AreReleasesOf parts r = (set : NumberSet) (q : Route) (length : ℕ) → IsSectionSet set q
    → left_of (find (λ p. contains set p.0.0) (reverse parts)) length
    ≡ left_by (map (release_offset r) (own_shared r q)) length
