use Rattle.std.proofs.Common.{◌≡◌, ◌++◌, take}
use Rattle.std.specs.List.{flat_map}
use Rattle.drawing.specs.Parts.{point_text}
use Rattle.drawing.proofs.attributes.put_points.Given as goal

abbrev pub invariant-loop-point : goal.invariant-loop-point
invariant-loop-point l = l.line.items ≡ l.initial.line.items ++ flat_map point_text (take l.point-index l.points)
