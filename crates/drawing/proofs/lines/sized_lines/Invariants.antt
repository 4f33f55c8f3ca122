use Rattle.std.proofs.Common.{◌≡◌, ◌∷◌, map, take}
use Rattle.rail_outside.specs.Lines.{lines_of}
use Rattle.drawing.specs.Lines.{ground_line, head_line, shape_line}
use Rattle.drawing.proofs.lines.sized_lines.Given as goal

abbrev pub invariant-loop-shape : goal.invariant-loop-shape
invariant-loop-shape l = lines_of l.lines.items ≡ head_line l.fn.size ∷ ground_line ∷ map shape_line (take l.shape-index l.shapes)
