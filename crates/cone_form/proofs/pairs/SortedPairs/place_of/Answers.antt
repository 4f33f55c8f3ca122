use Rattle.std.proofs.Common.{rules}
use Rattle.std.proofs.lemmas.List.Sorted.{IsPartitionPoint-from_clause}
use Rattle.rail_base.specs.declared.plan.Command.{Command}
use Rattle.cone_spec.specs.Validity.{is_pair_before}
use Rattle.cone_form.proofs.Placed.{parted_pair, place_index}
use Rattle.cone_form.proofs.pairs.SortedPairs.place_of.Goals as goal

pub returns-clause-index : goal.returns-clause-index
returns-clause-index c =
    let point = IsPartitionPoint-from_clause (λ (p : Command × Command). is_pair_before p c.args.pair) _ _ c.partition_point.ensures.partitioned (parted_pair c.args.self.now.items.now c.args.self.now.sorted c.args.pair) (λ a r q k. search rules) in
    place_index c.args.self.now.items.now c.args.self.now.sorted c.args.pair _ c.partition_point.ensures.bound point
