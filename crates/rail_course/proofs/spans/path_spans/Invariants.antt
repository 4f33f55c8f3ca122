use Rattle.std.proofs.Common.{◌≡◌, ◌+◌, ◌<◌, ◌^◌, ◌++◌, drop, map}
use Rattle.rail_motion.specs.Track.{stretches_of}
use Rattle.rail_spec.specs.Track.{edge_ends}
use Rattle.rail_spec.specs.Dispatches.{stretch}
use Rattle.rail_course.specs.Tracks.{path_length}
use Rattle.rail_course.specs.Tracks.{edges_of}
use Rattle.rail_course.proofs.spans.path_spans.Given as goal

abbrev pub invariant-loop-number : goal.invariant-loop-number
invariant-loop-number l = record {
  short : l.offset + path_length l.interlocking.routes (drop l.number-index l.path) < 2 ^ 47;
  left : stretches_of l.spans.items ++ map (stretch l.interlocking.design.station) (edge_ends l.interlocking.design.station l.offset (edges_of l.interlocking.routes (drop l.number-index l.path))) ≡ map (stretch l.interlocking.design.station) (edge_ends l.interlocking.design.station 0 (edges_of l.interlocking.routes l.path));
}
