use Rattle.std.proofs.Common.{◌≡◌, ◌+◌, drop, length}
use Rattle.rail_base.specs.Numbering.{before_first}
use Rattle.rail_spec.specs.Plans.{is_route}
use Rattle.rail_course.proofs.waits.number_of.Given as goal

abbrev pub invariant-loop-other : goal.invariant-loop-other
invariant-loop-other l = record {
  count : l.number ≡ l.other-index;
  left : length (before_first (λ r. is_route r l.route) l.path) ≡ l.number + length (before_first (λ r. is_route r l.route) (drop l.other-index l.path));
}
