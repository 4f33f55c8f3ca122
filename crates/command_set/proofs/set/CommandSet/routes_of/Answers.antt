use Rattle.std.proofs.Common.{[], sym, ap, ◌∙◌}
use Rattle.rail_base.specs.Numbering.{entry}
use Rattle.rail_spec.specs.Plans.{routes_given}
use Rattle.command_set.proofs.Lists.{given_row}
use Rattle.command_set.proofs.Tests.{given_live}
use Rattle.command_set.proofs.set.CommandSet.routes_of.Goals as goal

pub returns-clause-value : goal.returns-clause-value
returns-clause-value c =
    c.row_at.ensures
    ∙ (ap (λ rows. entry [] rows c.args.train.0) c.deref.ensures.value
    ∙ (sym (given_row c.self.inside.rows.items c.args.train) ∙ ap (routes_given c.args.train) (sym c.self.invariant.listed ∙ c.self.view_is)))

pub returns-clause-live : goal.returns-clause-live
returns-clause-live c = λ d routes are. returns-clause-value c ∙ given_live c.args.self.now d routes are c.args.train
