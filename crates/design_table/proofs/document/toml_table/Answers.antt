use Rattle.std.proofs.Common.{◌≡◌, refl, true}
use Rattle.toml.specs.View.{table_view}
use Rattle.design_table.proofs.Documents.{toml_found, toml_refused}
use Rattle.design_table.proofs.document.toml_table.Goals as goal

pub returns-in-Ok : goal.returns-in-Ok
returns-in-Ok c = toml_found c.args.bytes.now (table_view c.in-Ok.table) c.in-Ok.ensures.ok.0 c.in-Ok.ensures.ok.1

pub returns-else-is_memory : goal.returns-else-is_memory
returns-else-is_memory c = (refl, refl, toml_refused c.args.bytes.now (c.in-Err.ensures.refused (λ m. let t : c.is_memory.result ≡ true = c.is_memory.ensures.1 m in cc)))
