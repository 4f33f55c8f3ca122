use Rattle.std.proofs.Common.{◌≡◌, length}
use Rattle.clause_spec.specs.Models.{cut_off}
use Rattle.plan_decoder.proofs.decoding.cut_off.Given as goal

abbrev pub invariant-cut : goal.invariant-cut
invariant-cut l = cut_off l.steps.items ≡ cut_off l.fn.steps.items

abbrev pub decreases-cut : goal.decreases-cut
decreases-cut l = length l.steps.items
