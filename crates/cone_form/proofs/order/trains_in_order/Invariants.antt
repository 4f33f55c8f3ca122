use Rattle.std.proofs.Common.{◌≡◌, nat_lt, ◌-◌, drop}
use Rattle.rail_base.specs.Members.{all_neighbors}
use Rattle.cone_spec.specs.declared.ConeTrain.{ConeTrain}
use Rattle.cone_form.proofs.order.trains_in_order.Given as goal

-- those so far stand in order
abbrev pub invariant-loop-index : goal.invariant-loop-index
invariant-loop-index l = all_neighbors (λ (a b : ConeTrain). nat_lt a.train.0 b.train.0) (drop (l.index - 1) l.entries) ≡ all_neighbors (λ (a b : ConeTrain). nat_lt a.train.0 b.train.0) l.entries
