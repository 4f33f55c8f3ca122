use Rattle.std.proofs.Common.{◌≡◌, List, true, length, sym, ap, subst, ◌∙◌}
use Rattle.std.proofs.lemmas.Result.{IfOk-weaker}
use Rattle.rail_base.specs.declared.plan.Command.{Command}
use Rattle.rail_base.specs.declared.route.RouteNo.{RouteNo}
use Rattle.rail_base.proofs.Admitting.{admitted}
use Rattle.interlocking.specs.Plans.{on}
use Rattle.command_set.specs.Commands.{AreCommandsOf}
use Rattle.command_set.specs.Rows.{AreRows, commands_by_rows}
use Rattle.command_set.proofs.Lists.{all_are_some, all_listed, rows_good}
use Rattle.command_set.proofs.Tests.{all_are_a_set}
use Rattle.command_set.proofs.set.CommandSet.all.Goals as goal

pub set_of-requires : goal.set_of-requires
set_of-requires c =
    let i = c.args.interlocking.now in
    let many = (admitted i.design.station i.design.admitted).many_trains in
    let high = many.1 in
    subst (λ n. AreRows n c.in_ok-rows.rows.items) (sym c.len.ensures)
    (subst (λ (rows : List (List RouteNo)). AreRows (length i.routes) rows) (sym (c.in_ok-rows.ensures ∙ all_are_some i.design.station i.routes))
    (rows_good i.design.station i.routes (λ t r. true) high i.at_most_2000))

pub returns-clause-value : goal.returns-clause-value
returns-clause-value c =
    let i = c.args.interlocking.now in
    IfOk-weaker c.set_of.result (λ set. set ≡ commands_by_rows c.in_ok-rows.rows.items) _
    (λ set h. h ∙ (ap commands_by_rows c.in_ok-rows.ensures ∙ all_listed i.design.station i.routes))
    c.set_of.ensures

pub returns-clause-are : goal.returns-clause-are
returns-clause-are c =
    let i = c.args.interlocking.now in
    IfOk-weaker c.set_of.result _ (λ (set : List Command). on i AreCommandsOf set)
    (λ set h. subst (λ (cs : List Command). on i AreCommandsOf cs) (sym h) (all_are_a_set i.design.station i.routes))
    (returns-clause-value c)
