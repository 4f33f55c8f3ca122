use Rattle.clause_spec.specs.declared.question.BaseKind.TheVariants.{Plain}
use Rattle.plan_encoding.specs.Bases.{speaks_of}
use Rattle.plan_encoding.proofs.Lefts.{of_design, paired}
use Rattle.std.proofs.Common.{◌∙◌}
use Rattle.refused_lines.proofs.rounds.PlanSearch.clause_of.Goals as goal

pub invariant_of-contention : goal.invariant_of-contention
invariant_of-contention c =
    let s = c.args.self.now in
    let i = s.interlocking.now in
    let b = s.base.now in
    let live = speaks_of Plain i.design.station i.routes in
    record {
      of_design = rw c.pairs.ensures.commands (of_design live i.design.station i.routes b.numbering.steps b.numbering s.numbers.numbering);
      paired = rw c.pairs.ensures.commands (c.pairs.ensures.pairs ∙ paired live i.design.station i.routes b.numbering.steps b.numbering s.numbers.numbering);
      at_most_8000000 = c.pairs.ensures.bound;
    }

pub invariant_of-design : goal.invariant_of-design
invariant_of-design c = record { speaks = c.pairs.ensures.commands ∙ c.args.self.now.numbers.numbering.commands }
