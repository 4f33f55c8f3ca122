use Rattle.std.proofs.Common.{◌≡◌, drop, fold}
use Rattle.infra_reader.specs.Names.{with_name, each_once}
use Rattle.design_table.specs.Texts.{texts}
use Rattle.infra_reader.proofs.names.each_once.Given as goal

abbrev pub invariant-loop-name : goal.invariant-loop-name
invariant-loop-name l = each_once (texts l.names) ≡ fold with_name (texts l.seen.keys) (texts (drop l.name-index l.names))
