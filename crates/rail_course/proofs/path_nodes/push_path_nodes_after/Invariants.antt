use Rattle.std.proofs.Common.{◌≡◌, ◌+◌, ◌<◌, ◌^◌, ◌++◌, drop}
use Rattle.rail_course.specs.Tracks.{routes_at, path_length}
use Rattle.rail_course.proofs.path_nodes.push_path_nodes_after.Given as goal
use Rattle.rail_spec.specs.Places.{path_nodes_after}

abbrev pub invariant-loop-number : goal.invariant-loop-number
invariant-loop-number l = record {
  short : l.offset + path_length l.interlocking.routes (drop l.number-index l.path) < 2 ^ 47;
  number : l.command ≡ l.number-index + 2;
  left : l.path_nodes.items ++ path_nodes_after l.offset l.command (routes_at l.interlocking.routes (drop l.number-index l.path)) ≡ l.fn.path_nodes.items ++ path_nodes_after l.begin 2 (routes_at l.interlocking.routes l.path);
}
