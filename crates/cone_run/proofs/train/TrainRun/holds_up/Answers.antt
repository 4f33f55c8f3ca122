use Rattle.std.proofs.Common.{◌≡◌, ◌+◌, ◌≤◌, true, not, List, ap, sym, ◌∙◌, arith}
use Rattle.std.specs.List.{list_any}
use Rattle.rail_base.specs.declared.plan.Command.{Command}
use Rattle.cone_spec.specs.Cones.{has_pair, is_pair, named}
use Rattle.cone_form.proofs.Contending.{listed_in_order}
use Rattle.cone_run.proofs.Looking.{held_until_cleared}
use Rattle.cone_run.proofs.train.TrainRun.holds_up.Goals as goal

pub sorted_pairs-listed-requires : goal.sorted_pairs-listed-requires
sorted_pairs-listed-requires c =
    let l = c.args.self.now.run.layout in
    let i = l.interlocking.now in
    listed_in_order i.design.station i.routes l.cone.now l.known

pub returns : goal.returns
returns c =
    let l = c.args.self.now.run.layout in
    let i = l.interlocking.now in
    let listed : has_pair l.cone.now c.args.holder (record { train = c.args.self.now.said.now.train; route = c.args.route }) ≡ true = sym (ap (λ (ps : List (Command × Command)). list_any (is_pair c.args.holder (record { train = c.args.self.now.said.now.train; route = c.args.route })) ps) c.sorted_pairs-listed.ensures) ∙ (sym c.is_among.ensures ∙ c.if-not-is_among.false) in
    let later = c.requires.later in
    let horizon = c.horizon_of.ensures in
    let short = c.if-horizon_of-last.false in
    let near : c.args.self.now.said.now.horizon ≤ (named l.cone.now c.args.holder.train).horizon + 1 = omega arith in
    ap not c.has_cleared.ensures ∙ held_until_cleared i.design.station i.routes l.cone.now l.known c.args.self.now.said.now c.args.holder c.args.route listed near
