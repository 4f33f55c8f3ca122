use Rattle.std.proofs.Common.{◌≡◌, ◌++◌, map, take}
use Rattle.std.specs.List.{flat_map}
use Rattle.design_text.specs.Texts.{behind_comma}
use Rattle.design_text.proofs.part.put_more.Given as goal

abbrev pub invariant-loop-part : goal.invariant-loop-part
invariant-loop-part g l = l.line.items ≡ l.initial.line.items ++ flat_map behind_comma (map (g.P.Part.text l.design.station) (take l.part-index l.parts))
