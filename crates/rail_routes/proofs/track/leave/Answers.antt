use Rattle.std.proofs.Common.{◌||◌, sym, ◌∙◌, length, arith, rules}
use Rattle.rail_base.specs.Stations.{is_end, edge_of, leave}
use Rattle.rail_base.specs.declared.station.EdgeNo.{EdgeNo}
use Rattle.rail_routes.proofs.Numbered.{kept-true, kept-false}
use Rattle.rail_routes.proofs.track.leave.Goals as goal
use Rattle.rail_routes.proofs.track.leave.Goals.{then-ends_at+in_ok-push, else-ends_at}

pub loop-index-preserved : goal.loop-index-preserved
loop-index-preserved c =
    let d = c.args.design.now.station in
    let end = c.args.end in
    elim c.if-ends_at.branch [
      | then-ends_at+in_ok-push w ↦ kept-true (λ n. let e : EdgeNo = record { 0 = n } in e) (λ e. is_end (edge_of d e).from end || is_end (edge_of d e).to end) (length d.edges) c.loop-index.index c.loop-index.edges c.if-ends_at.edges (leave d end) (omega arith) c.loop-index.invariant (sym c.ends_at.ensures ∙ w.if-ends_at.true) (search rules)
      | else-ends_at w ↦ kept-false (λ n. let e : EdgeNo = record { 0 = n } in e) (λ e. is_end (edge_of d e).from end || is_end (edge_of d e).to end) (length d.edges) c.loop-index.index c.loop-index.edges c.if-ends_at.edges (leave d end) (omega arith) c.loop-index.invariant (sym c.ends_at.ensures ∙ w.if-ends_at.false) (search rules)
    ]
