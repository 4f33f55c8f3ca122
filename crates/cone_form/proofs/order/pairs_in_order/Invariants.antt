use Rattle.std.proofs.Common.{◌≡◌, ◌-◌, drop}
use Rattle.rail_base.specs.Members.{all_neighbors}
use Rattle.cone_spec.specs.Validity.{is_pair_before}
use Rattle.cone_form.proofs.order.pairs_in_order.Given as goal

-- those so far stand in order
abbrev pub invariant-loop-index : goal.invariant-loop-index
invariant-loop-index l = all_neighbors is_pair_before (drop (l.index - 1) l.pairs) ≡ all_neighbors is_pair_before l.pairs
