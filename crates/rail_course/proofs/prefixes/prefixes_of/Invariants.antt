use Rattle.std.proofs.Common.{◌≡◌, ◌+◌, ◌<◌, ◌^◌, ◌++◌, drop, length}
use Rattle.rail_course.specs.Tracks.{routes_at, path_length, edges_of, held_count}
use Rattle.rail_course.specs.Prefixes.{prefixes_from, no_prefix}
use Rattle.rail_course.proofs.prefixes.prefixes_of.Given as goal

abbrev pub invariant-loop-number : goal.invariant-loop-number
invariant-loop-number l = record {
  short : l.prefix.length + path_length l.routes (drop l.number-index l.path) < 2 ^ 47;
  spans : l.prefix.spans + length (edges_of l.routes (drop l.number-index l.path)) < 2 ^ 47;
  holds : l.prefix.holds + held_count l.routes (drop l.number-index l.path) < 2 ^ 52;
  left : l.prefixes.items ++ prefixes_from l.prefix (routes_at l.routes (drop l.number-index l.path)) ≡ prefixes_from no_prefix (routes_at l.routes l.path);
}
