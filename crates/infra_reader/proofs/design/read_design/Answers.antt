use Rattle.std.proofs.Common.{sym, subst}
use Rattle.toml.specs.View.{table_view}
use Rattle.design_table.specs.Parsed.{sheet_seen}
use Rattle.infra_reader.specs.Spelling.{IsSpelled}
use Rattle.infra_reader.proofs.Resolved.{gives_design}
use Rattle.infra_reader.proofs.Spelling.{is_spelled}
use Rattle.infra_reader.proofs.design.read_design.Goals as goal

pub admit-requires : goal.admit-requires
admit-requires c = subst IsSpelled (sym c.in_ok-sheet.ensures.1) (is_spelled (table_view c.in_ok-table.table) c.in_ok-sheet.ensures.0)

pub returns : goal.returns
returns c = gives_design c.args.bytes.now (table_view c.in_ok-table.table) (sheet_seen c.in_ok-sheet.sheet) c.in_ok-table.ensures c.in_ok-sheet.ensures.0 c.in_ok-sheet.ensures.1 c.admit.result c.admit.ensures
