use Rattle.std.proofs.Common.{◌≡◌, ℕ, Bool, ◌&&◌, List, filter, flat_map, map, slice_index_or, sym, ap, ap₂, subst, ◌∙◌, arith}
use Rattle.std.proofs.lemmas.List.{take_all}
use Rattle.rail_base.specs.declared.plan.Command.{Command}
use Rattle.rail_base.specs.declared.station.Order.{Order}
use Rattle.rail_base.specs.Members.{In}
use Rattle.rail_base.proofs.Lists.{in_filter_back}
use Rattle.rail_spec.specs.Plans.{contend}
use Rattle.order_bounds.specs.Asked.{makes_it}
use Rattle.order_bounds.specs.Orders.{makes, makes_both}
use Rattle.order_bounds.proofs.Making.{makes_so}
use Rattle.order_bounds.proofs.Paired.{in_at, pairs_passing}
use Rattle.order_bounds.proofs.pairs.pairs_of_order.Goals as goal

pub add_pairs-requires : goal.add_pairs-requires
add_pairs-requires c =
    let k = c.args.contention.now in
    let none : Command = record { train = record { 0 = 0 }; route = record { 0 = 0 } } in
    let items = c.deref-command-items.result.now in
    let at : Command = slice_index_or items c.loop-command.command-index none in
    let there : In at items = in_at items c.loop-command.command-index none c.loop-command-test.true in
    let x = c.order_of-order.result in
    (in_filter_back (makes_it k.interlocking.now.routes x.then_train c.in_ok-later.later.number c.in_ok-later.later.list.now) k.pairs.now.commands at (subst (λ (cs : List Command). In at cs) (c.deref-command-items.ensures.value ∙ c.in_ok-commands_for.ensures) there)).0

pub returns : goal.returns
returns c =
    let k = c.args.contention.now in
    let i = k.interlocking.now in
    let d = i.design.station in
    let cs = k.pairs.now.commands in
    let x = c.order_of-order.result in
    let items = c.deref-command-items.result.now in
    let done = c.loop-command-test.false in
    let by : (Command → Bool) → (Command → Bool) → List (Command × Command) = λ one other. flat_map (λ e. map (λ c. (e, c)) (filter other (filter (contend i.routes e) cs))) (filter one cs) in
    let one : makes_it i.routes x.then_train c.in_ok-later.later.number c.in_ok-later.later.list.now ≡ makes d i.routes x.then_train x.then_visit = makes_so d i.routes x.then_train x.then_visit c.in_ok-later.later.number c.in_ok-later.later.list.now c.in_ok-later.ensures.number c.in_ok-later.ensures.list in
    let other : makes_it i.routes x.first_train c.in_ok-earlier.earlier.number c.in_ok-earlier.earlier.list.now ≡ makes d i.routes x.first_train x.first_visit = makes_so d i.routes x.first_train x.first_visit c.in_ok-earlier.earlier.number c.in_ok-earlier.earlier.list.now c.in_ok-earlier.ensures.number c.in_ok-earlier.ensures.list in
    let gathered : items ≡ filter (makes_it i.routes x.then_train c.in_ok-later.later.number c.in_ok-later.later.list.now) cs = c.deref-command-items.ensures.value ∙ c.in_ok-commands_for.ensures in
    let from : List Command → List (Command × Command) = λ es. flat_map (λ e. map (λ c. (e, c)) (filter (makes_it i.routes x.first_train c.in_ok-earlier.earlier.number c.in_ok-earlier.earlier.list.now) (filter (contend i.routes e) cs))) es in
    c.loop-command.invariant
    ∙ (ap from (take_all c.loop-command.command-index items (omega (arith, done)) ∙ gathered)
    ∙ (ap₂ by one other
    ∙ (sym (pairs_passing cs d i.routes k.of_design (makes d i.routes x.then_train x.then_visit) (makes d i.routes x.first_train x.first_visit))
    ∙ (ap (filter (λ (p : Command × Command). makes d i.routes x.then_train x.then_visit p.0 && makes d i.routes x.first_train x.first_visit p.1)) (sym k.paired)
    ∙ ap (λ (y : Order). filter (λ (p : Command × Command). makes d i.routes y.then_train y.then_visit p.0 && makes d i.routes y.first_train y.first_visit p.1) k.pairs.now.pairs) c.order_of-order.ensures))))
