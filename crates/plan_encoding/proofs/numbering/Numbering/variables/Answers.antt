use Rattle.std.proofs.Common.{length, ap, ◌∙◌}
use Rattle.plan_encoding.specs.Numberings.{Numbered}
use Rattle.plan_encoding.proofs.BeforeSteps.{counts_more, counts_none}
use Rattle.plan_encoding.proofs.numbering.Numbering.variables.Goals as goal
use Rattle.plan_encoding.proofs.numbering.Numbering.variables.Goals.{in-Plain, in-Normal}

pub returns : goal.returns
returns c = λ d routes n is.
    let pairs = c.count.ensures ∙ ap length (ap (λ (b : Numbered). b.pairs) c.self.view_is) in
    let steps = ap (λ (b : Numbered). b.steps) c.self.view_is in
    elim c.match-kind.branch [
      | in-Plain w ↦ counts_none d routes n c.args.kind c.args.self.now is c.match-kind.result c.given_count-given.result c.count.result c.self.inside.steps.count c.given_count-given.ensures.value pairs steps w.in-Plain.is w.result-is
      | in-Normal w ↦ counts_more d routes n c.args.kind c.args.self.now is c.match-kind.result c.given_count-given.result c.count.result c.self.inside.steps.count c.given_count-given.ensures.value pairs steps w.in-Normal.is w.result-is
    ]
