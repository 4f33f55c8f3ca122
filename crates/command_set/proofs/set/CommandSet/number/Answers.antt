use Rattle.std.proofs.Common.{[], None, sym, ap, ◌∙◌}
use Rattle.rail_base.specs.Numbering.{entry}
use Rattle.rail_spec.specs.Plans.{is_command}
use Rattle.command_set.specs.Commands.{first_place}
use Rattle.command_set.proofs.Standing.{place_low, table_is}
use Rattle.command_set.proofs.set.CommandSet.number.Goals as goal

pub returns-clause-place : goal.returns-clause-place
returns-clause-place c =
    c.place_at.ensures
    ∙ (ap (λ ps. entry None (entry [] ps c.args.command.train.0) c.args.command.route.0) (c.deref.ensures.value ∙ c.self.invariant.placed)
    ∙ (table_is c.self.inside.routes c.self.inside.rows.items c.self.invariant.good c.args.command
    ∙ ap (first_place (is_command c.args.command)) (sym c.self.invariant.listed ∙ c.self.view_is)))

pub returns-clause-bound : goal.returns-clause-bound
returns-clause-bound c = place_low (is_command c.args.command) c.args.self.now c.place_at.result (returns-clause-place c)
