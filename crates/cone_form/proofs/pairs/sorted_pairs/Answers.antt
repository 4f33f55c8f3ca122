use Rattle.std.proofs.Common.{◌≡◌, true, List, sym, subst}
use Rattle.rail_base.specs.declared.plan.Command.{Command}
use Rattle.rail_base.specs.Members.{all_pairs}
use Rattle.cone_spec.specs.Validity.{is_pair_before}
use Rattle.cone_form.proofs.Orders.{neighbors_pairs}
use Rattle.cone_form.proofs.pairs.sorted_pairs.Goals as goal

pub invariant_of-result : goal.invariant_of-result
invariant_of-result c = record {
  sorted = subst (λ (ps : List (Command × Command)). all_pairs is_pair_before ps ≡ true) (sym c.as_slice.ensures) (neighbors_pairs c.args.cone.now.pairs c.requires);
}
