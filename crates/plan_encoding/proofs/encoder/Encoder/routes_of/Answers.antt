use Rattle.std.proofs.Common.{List, sym, ap, subst, ◌∙◌}
use Rattle.rail_base.specs.declared.plan.Command.{Command}
use Rattle.rail_base.specs.declared.route.RouteNo.{RouteNo}
use Rattle.rail_spec.specs.Plans.{route_numbers}
use Rattle.live_clause_spec.specs.Listed.{live_routes}
use Rattle.command_set.specs.Commands.{AreCommandsOf, is_among}
use Rattle.plan_encoding.specs.Encoders.{HasCommands, station, table}
use Rattle.plan_encoding.proofs.Tabled.{all_numbers, among_known}
use Rattle.plan_encoding.proofs.encoder.Encoder.routes_of.Goals as goal

pub returns-clause-value : goal.returns-clause-value
returns-clause-value c =
    let f = c.args.self.now in
    c.routes_of.ensures.live (station f) (table f) (subst (λ (xs : List Command). AreCommandsOf (station f) (table f) xs) (sym c.commands.ensures) f.of_design)
    ∙ ap (λ (xs : List Command). live_routes (is_among xs) (table f) c.args.train) c.commands.ensures

pub returns-clause-known : goal.returns-clause-known
returns-clause-known c =
    let f = c.args.self.now in
    subst (λ (rs : List RouteNo). HasCommands f c.args.train rs) (sym (returns-clause-value c)) (among_known f c.args.train (route_numbers (table f)) c.requires.train (all_numbers (table f)))
