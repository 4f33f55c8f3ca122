use Rattle.std.proofs.Common.{◌≡◌, sym, ◌∙◌, subst, true}
use Rattle.sat_clause.specs.Hints.{is_assigned}
use Rattle.sat_trail.proofs.Settling.{true-first, some-clause}
use Rattle.sat_trail.proofs.settled.is_true_first.Goals as goal

pub returns-in-Some : goal.returns-in-Some
returns-in-Some c = λ y d e.
    let same : d ≡ c.clause.result.now = some-clause d c.clause.result.now (sym e ∙ (c.requires.attached c.args.id ∙ c.clause.ensures)) in
    true-first c.args.trail.now d c.in-Some.field-0 c.requires.at_level_zero c.steps.ensures.levelled (subst (λ z. is_assigned z c.in-Some.field-0 ≡ true) (sym same) c.in-Some.ensures.member) c.in-Some.ensures.holds
