use Rattle.plan_encoding.specs.Encoders.{among}
use Rattle.live_clause_spec.specs.Variables.{live_numbered}
use Rattle.std.proofs.Common.{◌-◌}
use Rattle.clause_spec.specs.Variables.{if_given}
use Rattle.command_set.proofs.Gathering.{mapped_next}
use Rattle.std.proofs.lemmas.List.{drop_more}
use Rattle.plan_encoding.proofs.encoder.Encoder.led_clause.Goals as goal

pub loop-route-preserved : goal.loop-route-preserved
loop-route-preserved c =
    mapped_next c.loop-route.clause.items c.push_if_given.new.clause.items _ _ _ _ (drop_more c.args.leading.now c.loop-route.route-index _ c.loop-route-test.true) (λ q. if_given (record { train = c.args.command.train; route = q }) (c.args.step - 1)) (among c.args.self.now live_numbered) c.in_ok-push_if_given.ensures c.loop-route.invariant
