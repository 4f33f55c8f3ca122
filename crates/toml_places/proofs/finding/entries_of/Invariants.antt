use Rattle.std.proofs.Common.{◌≡◌, ◌++◌, drop, filter}
use Rattle.toml_places.specs.Finding.{entries_of, is_entry_of}
use Rattle.toml_places.specs.Texts.{texts}
use Rattle.toml_places.proofs.finding.entries_of.Given as goal

-- those so far, and those of the rest
abbrev pub invariant-loop-line : goal.invariant-loop-line
invariant-loop-line l = texts l.entries.items ++ filter (is_entry_of l.name) (texts (drop l.line-index l.lines)) ≡ entries_of l.name (texts l.lines)
