use Rattle.std.proofs.Common.{◌≡◌, take, true}
use Rattle.std.specs.List.{list_all}
use Rattle.drawing.specs.Drawing.{are_disjoint, areas_in}
use Rattle.drawing.proofs.labels.has_room.Given as goal

abbrev pub invariant-loop-shape : goal.invariant-loop-shape
invariant-loop-shape l = list_all (λ other. are_disjoint other l.area) (areas_in (take l.shape-index l.shapes)) ≡ true
