use Rattle.toml.specs.View.{table_view}
use Rattle.refused_words.proofs.Texts.{table_is_utf8}
use Rattle.refused_words.proofs.faults.table_lines.Goals as goal

pub unreachable-requires : goal.unreachable-requires
unreachable-requires c = c.in_default.ensures.cases.0 (table_is_utf8 c.args.bytes.now (table_view c.args.table.now) c.requires)
