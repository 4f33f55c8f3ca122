use Rattle.std.proofs.Common.{ap, ◌∙◌}
use Rattle.number_sets.specs.Sets.{contains}
use Rattle.interlocking.proofs.Sectioned.{numbered}
use Rattle.interlocking.proofs.railway.Interlocking.sections.Goals as goal

pub returns : goal.returns
returns c = λ z.
    ap (λ s. contains s z.0) (c.index.ensures ∙ numbered c.index.result.now c.args.self.now.sets.items c.args.number.0 c.requires.0)
    ∙ c.args.self.now.sections.each c.args.number c.index.result.now c.requires z
