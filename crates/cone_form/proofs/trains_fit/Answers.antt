use Rattle.std.proofs.Common.{nat_lt, List, sym, ap, ◌∙◌}
use Rattle.rail_base.specs.Members.{all_neighbors}
use Rattle.cone_spec.specs.declared.ConeTrain.{ConeTrain}
use Rattle.cone_form.proofs.Walks.{and_then}
use Rattle.cone_form.proofs.Joined.{second_holds}
use Rattle.cone_form.proofs.trains_fit.Goals as goal

pub returns-then-trains_in_design : goal.returns-then-trains_in_design
returns-then-trains_in_design c =
    let ordered = sym (ap (λ (es : List ConeTrain). all_neighbors (λ (a b : ConeTrain). nat_lt a.train.0 b.train.0) es) c.as_slice.ensures) ∙ (sym c.trains_in_order.ensures ∙ c.if-not-trains_in_order.false) in
    second_holds _ _ _ _ ordered (and_then c.trains_in_design.ensures c.if-trains_in_design.true (c.holders_in_paths.ensures c.args.interlocking.now))
