use Rattle.std.proofs.Common.{◌≡◌, ◌++◌, drop}
use Rattle.toml_places.specs.Finding.{before_headers}
use Rattle.toml_places.specs.Texts.{texts}
use Rattle.toml_places.proofs.finding.before_headers.Given as goal

-- those so far, and those of the rest
abbrev pub invariant-loop-line : goal.invariant-loop-line
invariant-loop-line l = texts l.before.items ++ before_headers (texts (drop l.line-index l.lines)) ≡ before_headers (texts l.lines)
