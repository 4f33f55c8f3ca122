use Rattle.std.proofs.Common.{get_or, ◌∙◌}
use Rattle.rail_base.specs.declared.plan.Command.{Command}
use Rattle.rail_spec.specs.Plans.{is_command}
use Rattle.cone_form.proofs.Placed.{among_here, among_past}
use Rattle.cone_form.proofs.Walks.{and_then, and_else}
use Rattle.cone_form.proofs.pairs.SortedPairs.is_among.Goals as goal

none : Command
none = record { train = record { 0 = 0 }; route = record { 0 = 0 } }

pub returns-then-place-self : goal.returns-then-place-self
returns-then-place-self c = among_past c.args.self.now.items.now c.args.first c.args.second c.place_of-place.result c.place_of-place.ensures.index c.if-place-self.true

pub returns-then-is_command : goal.returns-then-is_command
unfolding none
returns-then-is_command c = and_then c.is_command.ensures c.if-is_command.true c.is_command-then-is_command.ensures
    ∙ among_here c.args.self.now.items.now c.args.first c.args.second c.place_of-place.result c.place_of-place.ensures.index (none, none) c.place_of-place.ensures.bound c.if-place-self.false

pub returns-else-is_command : goal.returns-else-is_command
unfolding none
returns-else-is_command c = and_else (is_command (get_or c.args.self.now.items.now c.place_of-place.result (none, none)).1 c.args.second) c.is_command.ensures c.if-is_command.false
    ∙ among_here c.args.self.now.items.now c.args.first c.args.second c.place_of-place.result c.place_of-place.ensures.index (none, none) c.place_of-place.ensures.bound c.if-place-self.false
