use Rattle.std.proofs.Common.{◌≡◌, length, take}
use Rattle.cone_form.specs.Marks.{MarksPath}
use Rattle.cone_form.proofs.marks.marks_of.Given as goal

-- the routes so far are marked
abbrev pub invariant-loop-route : goal.invariant-loop-route
invariant-loop-route l = record {
  many : length l.marks.items ≡ length l.routes;
  marked : MarksPath (take l.route-index l.path) l.marks.items;
}
