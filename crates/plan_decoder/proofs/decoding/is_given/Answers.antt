use Rattle.std.proofs.Common.{sym, ◌∙◌, arith}
use Rattle.plan_decoder.proofs.Telling.{not_none, value_given}
use Rattle.plan_decoder.proofs.decoding.is_given.Goals as goal

pub returns-in-Some : goal.returns-in-Some
returns-in-Some c = λ live d routes n is.
    c.value.ensures ∙ value_given live d routes n c.args.numbering.now is c.args.command c.args.step c.requires.command c.args.values.now c.given_lit.result c.in-Some.lit (omega arith)
    (c.given_lit.ensures live d routes n is) (sym c.in-Some.is)

pub returns-in-None : goal.returns-in-None
returns-in-None c = λ live d routes n is.
    absurd (not_none live d routes n c.args.numbering.now is c.args.command c.args.step c.requires.command c.given_lit.result (c.given_lit.ensures live d routes n is) (sym c.in-None.is))
