use Rattle.std.proofs.Common.{◌≡◌, All, get_or, sym, ap, subst, ◌∙◌}
use Rattle.rail_course.specs.Itineraries.{IsCommandIn}
use Rattle.rail_course.proofs.Granting.{plan_named}
use Rattle.dispatcher.proofs.planned.step_at.Goals as goal

pub returns-clause-named : goal.returns-clause-named
returns-clause-named c =
    let given = c.args.planned.now.train_paths.given in
    let steps = c.args.planned.now.plan.now.steps in
    let other = c.index-as_slice-number.result in
    let same : c.as_slice-2.result.now ≡ get_or steps c.args.number other = c.as_slice-2.ensures ∙ c.index-as_slice-number.is ∙ ap (λ ss. get_or ss c.args.number other) c.as_slice.ensures in
    subst (All (IsCommandIn given)) (sym same) (plan_named given.interlocking.now steps c.args.planned.now.formed c.args.number other c.requires)
