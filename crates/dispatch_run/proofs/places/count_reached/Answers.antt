use Rattle.std.proofs.Common.{rules, nat_le, leb-true, leb-false}
use Rattle.std.proofs.lemmas.List.Sorted.{IsPartitionPoint-from_clause, IsPartitionedBy-leb}
use Rattle.rail_course.specs.declared.milestones.Milestone.{Milestone}
use Rattle.dispatch_run.proofs.places.count_reached.Goals as goal

pub returns-clause-behind : goal.returns-clause-behind
returns-clause-behind c =
    let ms = c.args.milestones.now in
    let parted = IsPartitionedBy-leb (λ (m : Milestone). m.place) ms c.args.x c.requires in
    let point = IsPartitionPoint-from_clause (λ (m : Milestone). nat_le m.place c.args.x) ms _ c.partition_point.ensures.partitioned parted (λ a r q k. search rules) in
    λ k d low high. leb-true _ c.args.x (point.0 k d low high)

pub returns-clause-ahead : goal.returns-clause-ahead
returns-clause-ahead c =
    let ms = c.args.milestones.now in
    let parted = IsPartitionedBy-leb (λ (m : Milestone). m.place) ms c.args.x c.requires in
    let point = IsPartitionPoint-from_clause (λ (m : Milestone). nat_le m.place c.args.x) ms _ c.partition_point.ensures.partitioned parted (λ a r q k. search rules) in
    λ k d low high. leb-false _ c.args.x (point.1 k d low high)
