use Rattle.std.proofs.Common.{Vec, Global, Bool, false, List, ap, ◌∙◌, arith}
use Rattle.rail_base.specs.Numbering.{entry}
use Rattle.cone_form.proofs.Marked.{row_at}
use Rattle.cone_form.proofs.marks.is_marked.Goals as goal

pub returns : goal.returns
returns c =
    let items : Vec Bool Global → List Bool = λ row. row.items in
    c.has_mark.ensures ∙ ap (λ (row : List Bool). entry false row c.args.command.route.0)
    (c.as_slice-row.ensures.value ∙ (ap items c.index-rows-command.is ∙ row_at items c.args.rows.now c.args.command.train.0 c.index-rows-command.result (omega arith) (omega arith)))
