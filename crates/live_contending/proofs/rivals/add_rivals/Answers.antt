use Rattle.std.proofs.Common.{◌==◌, ◌++◌, [], if◌then◌else◌, sym, ap, ◌∙◌, eqb-true}
use Rattle.rail_base.specs.declared.plan.Command.{Command}
use Rattle.rail_base.specs.declared.route.RouteNo.{RouteNo}
use Rattle.rail_base.proofs.Members.{false_unless}
use Rattle.command_set.specs.Commands.{commands_in}
use Rattle.command_set.proofs.Gathering.{done_next}
use Rattle.live_contending.proofs.rivals.add_rivals.Goals as goal

pub returns : goal.returns
returns c =
    let made : RouteNo → Command = λ r. record { train = record { 0 = c.args.train.0 }; route = r } in
    done_next c.loop-route.rivals.items _ made c.args.row.now c.loop-route.route-index c.loop-route-test.false c.loop-route.invariant
    ∙ ap (λ b. c.args.rivals.now.items ++ (if b then [] else commands_in c.args.train.0 c.args.row.now)) (sym (false_unless (c.args.own.0 == c.args.train.0) (λ h. c.if-own-train.false (eqb-true c.args.own.0 c.args.train.0 h))))
