use Rattle.std.proofs.Common.{◌≡◌, ◌+◌, ◌++◌, filter, map, drop, length}
use Rattle.rail_base.specs.Stations.{section_of}
use Rattle.rail_spec.specs.Track.{first_occurrences}
use Rattle.rail_routes.proofs.Walking.{unseen}
use Rattle.rail_routes.proofs.route.first_sections.Given as goal

abbrev pub invariant-loop-edge : goal.invariant-loop-edge
invariant-loop-edge l = record {
  many : length l.seen.items ≡ length l.design.station.sections + 1;
  same : l.sections.items ++ filter (unseen l.seen.items) (first_occurrences (map (section_of l.design.station) (drop l.edge-index l.path))) ≡ first_occurrences (map (section_of l.design.station) l.path);
}
