use Rattle.std.proofs.Common.{◌≡◌, ℕ, ◌≤◌, ◌+◌, ◌*◌, drop, length, get_or}
use Rattle.rail_base.specs.declared.station.SectionNo.{SectionNo}
use Rattle.rail_spec.specs.Track.{edge_ends, last_end}
use Rattle.rail_routes.proofs.Walking.{end_after}
use Rattle.rail_routes.proofs.route.last_ends.Given as goal

abbrev pub invariant-loop-edge : goal.invariant-loop-edge
invariant-loop-edge l = record {
  many : length l.ends.items ≡ length l.design.station.sections + 1;
  below : (k : ℕ) → get_or l.ends.items k 0 ≤ l.offset;
  same : (z : SectionNo) → z.0 ≤ length l.design.station.sections → end_after l.design.station z (get_or l.ends.items z.0 0) l.offset (drop l.edge-index l.path) ≡ last_end l.design.station z (edge_ends l.design.station 0 l.path);
  bound : l.offset ≤ 10000000 * l.edge-index;
}
