use Rattle.std.proofs.Common.{◌≡◌, true, All}
use Rattle.bound_spec.specs.Validity.{names_design}
use Rattle.interlocking.specs.Plans.{on}
use Rattle.bound_finder.proofs.finder.in_design.Given as goal

abbrev pub invariant-loop-bound : goal.invariant-loop-bound
invariant-loop-bound l = All (λ bound. on l.interlocking names_design bound ≡ true) l.kept.items
