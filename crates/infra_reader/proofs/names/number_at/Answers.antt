use Rattle.std.proofs.Common.{◌∙◌, sym, refl}
use Rattle.design_table.specs.Texts.{texts}
use Rattle.infra_reader.proofs.Numbers.{reads_number, refuses_name}
use Rattle.infra_reader.proofs.names.number_at.Goals as goal

pub returns-in-Some : goal.returns-in-Some
returns-in-Some c = reads_number (texts c.args.names.now.keys) c.args.name.now c.args.place c.number_after.result c.in-Some.index (sym c.place_of.ensures ∙ c.in-Some.is) c.number_after.ensures.ok c.number_after.ensures.err

pub returns-in-None : goal.returns-in-None
returns-in-None c = (refl, refuses_name (texts c.args.names.now.keys) c.args.name.now c.args.place (sym c.place_of.ensures ∙ c.in-None.is))
