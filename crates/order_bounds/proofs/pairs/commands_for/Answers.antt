use Rattle.std.proofs.Common.{List, slice_index_or, subst, ◌∙◌}
use Rattle.rail_base.specs.declared.plan.Command.{Command}
use Rattle.rail_base.specs.Members.{In}
use Rattle.order_bounds.proofs.Paired.{in_at, member_route}
use Rattle.order_bounds.proofs.pairs.commands_for.Goals as goal

pub makes-requires : goal.makes-requires
makes-requires c =
    let k = c.args.contention.now in
    let i = k.interlocking.now in
    let none : Command = record { train = record { 0 = 0 }; route = record { 0 = 0 } } in
    let items = c.commands-command-items.result.now in
    let at : Command = slice_index_or items c.loop-command.command-index none in
    let there : In at items = in_at items c.loop-command.command-index none c.loop-command-test.true in
    member_route k.pairs.now.commands i.design.station i.routes k.of_design at (subst (λ (cs : List Command). In at cs) (c.commands-command-items.ensures.value ∙ c.commands.ensures) there)
