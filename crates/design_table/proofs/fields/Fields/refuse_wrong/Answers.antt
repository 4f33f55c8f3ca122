use Rattle.std.proofs.Common.{not, refl, sym, subst, ◌∙◌}
use Rattle.toml.specs.View.{table_view}
use Rattle.design_table.specs.declared.fault.Code.TheVariants.{D02}
use Rattle.design_table.specs.declared.fault.DesignFault.{DesignFault}
use Rattle.design_table.specs.declared.key.Column.{Column}
use Rattle.design_table.specs.declared.place.Place.TheVariants.{Field}
use Rattle.design_table.specs.Keys.{columns_of}
use Rattle.design_table.specs.Reads.{Fails}
use Rattle.design_table.specs.Sheet.{is_right, wrong_fields}
use Rattle.design_table.proofs.Walks.{first_here, reads_later, found_first, found_none}
use Rattle.design_table.proofs.fields.Fields.refuse_wrong.Goals as goal

pub returns-in-Some : goal.returns-in-Some
returns-in-Some c =
    let fields = c.args.self in
    subst (λ (e : DesignFault). Fails e D02 (wrong_fields fields.version fields.kind fields.number (table_view fields.table.now))) (sym c.form_fault.ensures)
    (refl, first_here _ _ _ (found_first (λ (column : Column). not (is_right fields.version (table_view fields.table.now) column)) (λ (column : Column). Field fields.kind fields.number column.key) (columns_of fields.kind) _ (sym c.wrong_column.ensures ∙ c.in-Some.is)))

pub returns-in-None : goal.returns-in-None
returns-in-None c =
    let fields = c.args.self in
    reads_later _ _ D02 _ _ _ (found_none (λ (column : Column). not (is_right fields.version (table_view fields.table.now) column)) (λ (column : Column). Field fields.kind fields.number column.key) (columns_of fields.kind) (sym c.wrong_column.ensures ∙ c.in-None.is)) c.refuse_unknown.ensures
