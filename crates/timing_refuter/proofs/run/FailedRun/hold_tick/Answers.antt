use Rattle.std.proofs.Common.{find, option_and_then, ap, ◌∙◌}
use Rattle.rail_base.specs.declared.history.TrainHistory.{TrainHistory}
use Rattle.rail_laws.proofs.Given.{command_in_path}
use Rattle.timing_refuter.specs.Clearings.{is_entry}
use Rattle.timing_refuter.proofs.Releasing.{hold_found}
use Rattle.timing_refuter.proofs.run.FailedRun.hold_tick.Goals as goal

pub returns : goal.returns
returns c =
    let d = c.args.self.now.interlocking.now.design.station in
    let routes = c.args.self.now.interlocking.now.routes in
    let plan = c.args.self.now.plan.now.steps in
    let e = c.args.command in
    c.released_at.ensures ∙ ap (λ rs. option_and_then (λ p. p.2) (find (is_entry e.route c.args.section) rs)) (c.as_slice-holds.ensures ∙ ap (λ (h : TrainHistory). h.holds) c.history_of.ensures)
    ∙ hold_found d routes plan c.args.self.now.tick e c.args.section (command_in_path plan e c.requires.command.2) c.requires.section
