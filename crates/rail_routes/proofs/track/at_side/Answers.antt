use Rattle.std.proofs.Common.{length, arith, rules}
use Rattle.rail_routes.specs.Ends.{edges_at_end, at_side}
use Rattle.rail_routes.proofs.Numbered.{made-more}
use Rattle.rail_routes.proofs.track.at_side.Goals as goal

pub loop-index-preserved : goal.loop-index-preserved
loop-index-preserved c =
    let d = c.args.design.now.station in
    made-more (λ n. edges_at_end d (record { node = record { 0 = n }; side = c.args.side })) (length d.nodes) c.loop-index.index c.loop-index.all c.push.new.self (at_side d c.args.side) (omega arith) c.loop-index.invariant (search rules)
