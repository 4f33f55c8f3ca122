use Rattle.std.proofs.Common.{◌-◌, ◌++◌, [], ◌∷◌, ap, ◌∙◌}
use Rattle.std.proofs.lemmas.List.{drop_more}
use Rattle.normal_clause_spec.specs.Variables.{is_in, normal_numbered}
use Rattle.command_set.proofs.Gathering.{twice_next}
use Rattle.plan_encoding.specs.Encoders.{over}
use Rattle.plan_encoding.proofs.normal.NormalEncoder.kept_clause.Goals as goal

pub loop-other-preserved : goal.loop-other-preserved
loop-other-preserved c =
    twice_next c.loop-other.clause.items c.push-in-loop-other.new.self.items _ _ _ _ (drop_more c.args.before.now c.loop-other.other-index _ c.loop-other-test.true) (λ e. is_in e (c.args.step - 1)) (over c.args.self.now.encoder normal_numbered) (c.in_ok-push-2.ensures.items ∙ ap (λ x. c.loop-other.clause.items ++ x ∷ []) c.in_lit.ensures) c.loop-other.invariant
