use Rattle.std.proofs.Common.{◌≡◌, ◌++◌, drop}
use Rattle.design_table.specs.Texts.{texts}
use Rattle.infra_reader.proofs.resolve.owned_each.Given as goal

abbrev pub invariant-loop-name : goal.invariant-loop-name
invariant-loop-name l = texts l.names ≡ l.copies.items ++ texts (drop l.name-index l.names)
