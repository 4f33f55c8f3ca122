use Rattle.std.proofs.Common.{sym, ap, ◌∙◌}
use Rattle.rail_base.specs.Numbering.{first_of_list}
use Rattle.rail_plan.proofs.Holding.{held_sections_are}
use Rattle.rail_plan.proofs.Named.{first_is_route}
use Rattle.rail_plan.proofs.Stopped.{stopped_none, stopped_free, stopped_there}
use Rattle.rail_plan.proofs.clearance.stopped_train.Goals as goal

pub kept_section-requires-clause-every_section : goal.kept_section-requires-clause-every_section
kept_section-requires-clause-every_section c = c.requires.holds.hold_a_section

pub kept_section-requires-clause-route : goal.kept_section-requires-clause-route
kept_section-requires-clause-route c = first_is_route c.args.interlocking.now.routes c.args.step.now c.args.train c.in_ok-route.route c.requires.routes (sym c.in_ok-route.was ∙ c.first_given.ensures)

pub returns-in_err-route : goal.returns-in_err-route
returns-in_err-route c = c.from_residual.ensures ∙ stopped_none c.args.interlocking.now.design.station c.args.interlocking.now.routes c.args.before.now c.args.step.now c.args.train (sym c.in_err-route.was ∙ c.first_given.ensures)

pub returns-in_err-section : goal.returns-in_err-section
returns-in_err-section c =
    let d = c.args.interlocking.now.design.station in
    let routes = c.args.interlocking.now.routes in
    let same = held_sections_are d routes c.args.step.now c.args.before.now c.args.holds.now c.requires.holds (record { train = c.args.train; route = c.in_ok-route.route }) in
    c.from_residual-in_err-section.ensures ∙ stopped_free d routes c.args.before.now c.args.step.now c.args.train c.in_ok-route.route c.requires.each_once (sym c.in_ok-route.was ∙ c.first_given.ensures) (sym c.in_err-section.was ∙ c.kept_section.ensures ∙ ap first_of_list same)

pub returns : goal.returns
returns c =
    let d = c.args.interlocking.now.design.station in
    let routes = c.args.interlocking.now.routes in
    let same = held_sections_are d routes c.args.step.now c.args.before.now c.args.holds.now c.requires.holds (record { train = c.args.train; route = c.in_ok-route.route }) in
    stopped_there d routes c.args.before.now c.args.step.now c.args.train c.in_ok-route.route c.in_ok-section.section c.requires.each_once (sym c.in_ok-route.was ∙ c.first_given.ensures) (sym c.in_ok-section.was ∙ c.kept_section.ensures ∙ ap first_of_list same)
