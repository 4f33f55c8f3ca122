use Rattle.std.proofs.Common.{◌≡◌, ◌++◌, drop, flat_map}
use Rattle.toml_places.specs.Finding.{items_of}
use Rattle.toml_places.specs.Texts.{texts}
use Rattle.toml_places.proofs.finding.items_of_all.Given as goal

-- those so far, and those of the rest
abbrev pub invariant-loop-line : goal.invariant-loop-line
invariant-loop-line l = texts l.all.items ++ flat_map (items_of l.name) (texts (drop l.line-index l.lines)) ≡ flat_map (items_of l.name) (texts l.lines)
