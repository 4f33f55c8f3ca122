use Rattle.std.proofs.Common.{◌≡◌, drop}
use Rattle.slice_spec.specs.Slices.{past_last}
use Rattle.timing_refuter.specs.Prefixes.{holds_one, past_holder}
use Rattle.timing_refuter.proofs.Prefixing.{or_last}
use Rattle.timing_refuter.proofs.prefixes.past_holder.Given as goal

abbrev pub invariant-loop-place : goal.invariant-loop-place
invariant-loop-place l = or_last l.past l.place (past_last (λ r. holds_one l.trains (record { train = l.train.train; route = r })) (drop l.place l.route-items)) ≡ past_holder l.trains l.train
