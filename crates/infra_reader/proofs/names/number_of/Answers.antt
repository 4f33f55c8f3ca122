use Rattle.std.proofs.Common.{◌∙◌, sym}
use Rattle.std.proofs.lemmas.List.{length-map}
use Rattle.design_table.specs.Texts.{texts}
use Rattle.infra_reader.proofs.Numbers.{number_past}
use Rattle.infra_reader.proofs.names.number_of.Goals as goal

pub returns-in-None-clause-ok : goal.returns-in-None-clause-ok
returns-in-None-clause-ok c =
    number_past (texts c.args.names.now.keys) c.args.name.now c.number_after-in-None.result c.len.result (sym c.place_of.ensures ∙ c.in-None.is) (c.len.ensures.len ∙ sym (length-map c.args.names.now.keys (λ name. name.now))) c.number_after-in-None.ensures.ok
