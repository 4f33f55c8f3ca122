use Rattle.std.proofs.Common.{length, arith, rules}
use Rattle.rail_spec.specs.Track.{starts, starts_at}
use Rattle.rail_routes.proofs.Numbered.{given-more, given-all}
use Rattle.rail_routes.proofs.starts.starts.Goals as goal

pub loop-index-preserved : goal.loop-index-preserved
loop-index-preserved c =
    let d = c.args.track.now.design.now.station in
    given-more (λ n. starts_at d (record { 0 = n })) (length d.nodes) c.loop-index.index c.loop-index.all.items c.add_starts_at.new.starts.items (starts d) (omega arith) c.loop-index.invariant (search rules)

pub returns : goal.returns
returns c =
    let d = c.args.track.now.design.now.station in
    given-all (λ n. starts_at d (record { 0 = n })) (length d.nodes) c.loop-index.index c.loop-index.all.items (starts d) (omega arith) c.loop-index.invariant
