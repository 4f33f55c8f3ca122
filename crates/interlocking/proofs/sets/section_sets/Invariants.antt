use Rattle.std.proofs.Common.{◌≡◌, ℕ, ◌<◌, length, get_or}
use Rattle.rail_base.specs.Routes.{no_route}
use Rattle.number_sets.specs.declared.set.NumberSet.{NumberSet}
use Rattle.interlocking.specs.Sections.{IsSectionSet}
use Rattle.interlocking.proofs.sets.section_sets.Given as goal

-- each route so far has its set
abbrev pub invariant-loop-route : goal.invariant-loop-route
invariant-loop-route l = record {
  many : length l.sets.items ≡ l.route-index;
  each : (i : ℕ) (none : NumberSet) → i < l.route-index → IsSectionSet (get_or l.sets.items i none) (get_or l.route-items i no_route);
}
