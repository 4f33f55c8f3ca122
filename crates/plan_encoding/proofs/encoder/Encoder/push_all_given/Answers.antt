use Rattle.plan_encoding.specs.Encoders.{among}
use Rattle.live_clause_spec.specs.Variables.{live_numbered}
use Rattle.std.proofs.Common.{◌++◌, [], ◌∷◌, ap, ◌∙◌}
use Rattle.clause_spec.specs.Variables.{Given, yes}
use Rattle.command_set.proofs.Gathering.{twice_next}
use Rattle.std.proofs.lemmas.List.{drop_more}
use Rattle.plan_encoding.proofs.encoder.Encoder.push_all_given.Goals as goal

pub loop-route-preserved : goal.loop-route-preserved
loop-route-preserved c =
    twice_next c.loop-route.clause.items c.push.new.self.items _ _ _ _ (drop_more c.args.routes.now c.loop-route.route-index _ c.loop-route-test.true) (λ w. yes (Given (record { train = c.args.train; route = w }) c.args.step)) (among c.args.self.now live_numbered) (c.in_ok-push.ensures.items ∙ ap (λ x. c.loop-route.clause.items ++ x ∷ []) c.given_lit.ensures) c.loop-route.invariant
