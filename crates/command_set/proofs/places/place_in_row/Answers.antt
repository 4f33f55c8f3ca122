use Rattle.std.proofs.Common.{nat_lt, rules, sym, arith}
use Rattle.std.proofs.lemmas.List.Sorted.{IsPartitionPoint-from_clause}
use Rattle.rail_base.specs.declared.route.RouteNo.{RouteNo}
use Rattle.command_set.proofs.InRow.{parted_row, row_absent, row_found}
use Rattle.command_set.proofs.places.place_in_row.Goals.{else-place-row-via-then-place-row+else-row-place, else-place-row-via-else-place-row}
use Rattle.command_set.proofs.places.place_in_row.Goals as goal

pub returns-then-row-place-clause-place : goal.returns-then-row-place-clause-place
returns-then-row-place-clause-place c =
    let point = IsPartitionPoint-from_clause (λ (q : RouteNo). nat_lt q.0 c.args.route.0) _ _ c.partition_point-place.ensures.partitioned (parted_row c.args.row.now c.requires c.args.route) (λ a r q k. search rules) in
    sym (row_found c.args.row.now c.requires c.args.route c.partition_point-place.result c.partition_point-place.ensures.bound point (record { 0 = 0 }) c.if-place-row.true c.if-row-place.true)

pub returns-clause-place : goal.returns-clause-place
returns-clause-place c =
    let point = IsPartitionPoint-from_clause (λ (q : RouteNo). nat_lt q.0 c.args.route.0) _ _ c.partition_point-place.ensures.partitioned (parted_row c.args.row.now c.requires c.args.route) (λ a r q k. search rules) in
    sym (row_absent c.args.row.now c.requires c.args.route c.partition_point-place.result c.partition_point-place.ensures.bound point (record { 0 = 0 })
    (elim c.else-place-row.branch [
      | else-place-row-via-then-place-row+else-row-place w ↦ λ l e. w.if-row-place.false e
      | else-place-row-via-else-place-row w ↦ λ l e. absurd (let h = w.if-place-row.false in omega arith)
    ]))
