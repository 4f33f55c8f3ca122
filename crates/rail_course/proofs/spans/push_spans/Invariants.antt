use Rattle.std.proofs.Common.{◌≡◌, ◌+◌, ◌<◌, ◌^◌, ◌++◌, drop, map, sum_by}
use Rattle.rail_motion.specs.Track.{stretches_of}
use Rattle.rail_spec.specs.Track.{edge_ends}
use Rattle.rail_base.specs.Stations.{length_of}
use Rattle.rail_spec.specs.Dispatches.{stretch}
use Rattle.rail_course.proofs.spans.push_spans.Given as goal

abbrev pub invariant-loop-edge : goal.invariant-loop-edge
invariant-loop-edge l = record {
  short : l.offset + sum_by (length_of l.design.station) (drop l.edge-index l.edge-items) < 2 ^ 47;
  left : stretches_of l.spans.items ++ map (stretch l.design.station) (edge_ends l.design.station l.offset (drop l.edge-index l.edge-items)) ≡ stretches_of l.fn.spans.items ++ map (stretch l.design.station) (edge_ends l.design.station l.begin l.edge-items);
}
