use Rattle.std.proofs.Common.{◌≡◌, true, All, subst, sym, ◌∙◌}
use Rattle.std.proofs.lemmas.List.Elements.{All-push}
use Rattle.bound_spec.specs.declared.Bound.{Bound}
use Rattle.bound_spec.specs.Validity.{names_design}
use Rattle.interlocking.specs.Plans.{on}
use Rattle.bound_finder.proofs.finder.in_design.Goals as goal

pub loop-bound-preserved-in-Continue-branch-2 : goal.loop-bound-preserved-in-Continue-branch-2
loop-bound-preserved-in-Continue-branch-2 c =
    let names = λ (b : Bound). on c.args.interlocking.now names_design b ≡ true in
    subst (All names) (sym c.in_ok-push.ensures.items) (All-push names c.loop-bound.kept.items c.in-Some.bound c.loop-bound.invariant (sym c.in_ok-names_design.ensures ∙ c.if-branch.true))
