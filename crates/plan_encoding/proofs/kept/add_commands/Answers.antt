use Rattle.rail_base.specs.declared.plan.Command.{Command}
use Rattle.rail_base.specs.declared.route.RouteNo.{RouteNo}
use Rattle.std.proofs.lemmas.List.{drop_more}
use Rattle.command_set.proofs.Gathering.{push_next}
use Rattle.plan_encoding.proofs.kept.add_commands.Goals as goal

pub loop-route-preserved : goal.loop-route-preserved
loop-route-preserved c =
    let command : RouteNo → Command = λ r. record { train = c.args.train; route = r } in
    push_next c.loop-route.commands.items c.push.new.self.items _ _ _ _ (drop_more c.args.routes.now c.loop-route.route-index _ c.loop-route-test.true) command c.in_ok-push.ensures.items c.loop-route.invariant
