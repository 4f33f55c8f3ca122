use Rattle.order_bounds.proofs.Paired.{member_route, pair_in}
use Rattle.rail_base.specs.Members.{In}
use Rattle.rail_base.specs.declared.plan.Command.{Command}
use Rattle.std.proofs.Common.{List, subst}
use Rattle.order_bounds.proofs.said.makes_both.Goals as goal

pub makes-requires : goal.makes-requires
makes-requires c =
    let k = c.args.design.now.contention in
    let i = k.interlocking.now in
    let both = pair_in k.pairs.now.commands i.design.station i.routes k.of_design c.args.pair (subst (λ (ps : List (Command × Command)). In c.args.pair ps) k.paired c.requires.contend) in
    member_route k.pairs.now.commands i.design.station i.routes k.of_design c.args.pair.0 both.0

pub makes-requires-2 : goal.makes-requires-2
makes-requires-2 c =
    let k = c.args.design.now.contention in
    let i = k.interlocking.now in
    let both = pair_in k.pairs.now.commands i.design.station i.routes k.of_design c.args.pair (subst (λ (ps : List (Command × Command)). In c.args.pair ps) k.paired c.requires.contend) in
    member_route k.pairs.now.commands i.design.station i.routes k.of_design c.args.pair.1 both.1
