use Rattle.std.proofs.Common.{◌≡◌, ◌++◌, List, filter, map, slice_index_or, ap, subst, ◌∙◌, arith}
use Rattle.std.proofs.lemmas.List.{take_all}
use Rattle.rail_base.specs.declared.plan.Command.{Command}
use Rattle.rail_base.specs.Members.{In}
use Rattle.rail_base.proofs.Lists.{in_filter_back}
use Rattle.rail_spec.specs.Plans.{contend}
use Rattle.order_bounds.specs.Asked.{makes_it}
use Rattle.order_bounds.proofs.Paired.{among, in_at, member_route}
use Rattle.order_bounds.proofs.pairs.add_pairs.Goals as goal

pub makes-requires : goal.makes-requires
makes-requires c =
    let k = c.args.contention.now in
    let i = k.interlocking.now in
    let cs = k.pairs.now.commands in
    let none : Command = record { train = record { 0 = 0 }; route = record { 0 = 0 } } in
    let items = c.deref-other-items.result.now in
    let at : Command = slice_index_or items c.loop-other.other-index none in
    let there : In at items = in_at items c.loop-other.other-index none c.loop-other-test.true in
    let found : items ≡ filter (contend i.routes c.args.command) cs =
    c.deref-other-items.ensures.value ∙ c.in_ok-rivals.ensures.all i.design.station i.routes k.of_design k.paired (among cs i.design.station i.routes k.of_design c.args.command c.requires) in
    member_route cs i.design.station i.routes k.of_design at (in_filter_back (contend i.routes c.args.command) cs at (subst (λ (xs : List Command). In at xs) found there)).0

pub returns : goal.returns
returns c =
    let k = c.args.contention.now in
    let i = k.interlocking.now in
    let cs = k.pairs.now.commands in
    let items = c.deref-other-items.result.now in
    let found : items ≡ filter (contend i.routes c.args.command) cs =
    c.deref-other-items.ensures.value ∙ c.in_ok-rivals.ensures.all i.design.station i.routes k.of_design k.paired (among cs i.design.station i.routes k.of_design c.args.command c.requires) in
    let done = c.loop-other-test.false in
    c.loop-other.invariant
    ∙ ap (λ (xs : List Command). c.args.pairs.now.items ++ map (λ (x : Command). (c.args.command, x)) (filter (makes_it i.routes c.args.train c.args.visit.now.number c.args.visit.now.list.now) xs)) (take_all c.loop-other.other-index items (omega arith) ∙ found)
