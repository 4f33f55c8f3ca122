use Rattle.std.proofs.Common.{◌≡◌, ◌++◌, drop, filter}
use Rattle.toml_places.specs.Extents.{is_header}
use Rattle.toml_places.specs.Finding.{top_lines}
use Rattle.toml_places.specs.Texts.{texts}
use Rattle.toml_places.proofs.finding.top_lines.Given as goal

-- those so far, and those of the rest
abbrev pub invariant-loop-line : goal.invariant-loop-line
invariant-loop-line l = texts l.top.items ++ filter is_header (texts (drop l.line-index l.lines)) ≡ top_lines (texts l.lines)
