use Rattle.std.proofs.Common.{false, ◌+◌, ◌*◌, List, length, ap, ap₂, ◌∙◌}
use Rattle.sat_clause.specs.declared.lit.Lit.{Lit}
use Rattle.rail_base.specs.declared.plan.Command.{Command}
use Rattle.plan_encoding.specs.Numberings.{Numbered}
use Rattle.plan_encoding.proofs.numbering.Numbering.selector.Goals as goal

pub returns : goal.returns
returns c = λ live d routes n is.
    ap₂ (λ a b. let x : Lit = record { var = a + b + c.args.step; negated = false } in x)
    (c.given_count.ensures.value ∙ ap₂ (λ (cs : List Command) m. length cs * m) is.commands is.steps)
    (c.count.ensures ∙ ap length (ap (λ (b : Numbered). b.pairs) c.self.view_is ∙ is.pairs))
