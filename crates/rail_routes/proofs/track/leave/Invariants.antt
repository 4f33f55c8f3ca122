use Rattle.std.proofs.Common.{◌≡◌, ◌++◌, ◌||◌, length}
use Rattle.rail_base.specs.Stations.{is_end, edge_of, leave}
use Rattle.rail_base.specs.declared.station.EdgeNo.{EdgeNo}
use Rattle.rail_routes.proofs.Numbered.{left}
use Rattle.rail_routes.proofs.track.leave.Given as goal

abbrev pub invariant-loop-index : goal.invariant-loop-index
invariant-loop-index l = l.edges ++ left (λ n. let e : EdgeNo = record { 0 = n } in e) (λ e. is_end (edge_of l.design.station e).from l.end || is_end (edge_of l.design.station e).to l.end) (length l.design.station.edges) l.index ≡ leave l.design.station l.end
