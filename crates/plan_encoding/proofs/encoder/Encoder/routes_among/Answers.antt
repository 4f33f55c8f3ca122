use Rattle.std.proofs.Common.{List, get_or, ◌++◌, filter, sym, ap, ◌∙◌}
use Rattle.std.proofs.lemmas.List.{drop_more}
use Rattle.rail_base.specs.declared.plan.Command.{Command}
use Rattle.live_clause_spec.specs.Listed.{is_live_for}
use Rattle.command_set.specs.Commands.{is_among}
use Rattle.command_set.proofs.Gathering.{kept_next}
use Rattle.plan_encoding.specs.Encoders.{commands}
use Rattle.plan_encoding.proofs.Tabled.{among_found}
use Rattle.plan_encoding.proofs.encoder.Encoder.routes_among.Goals as goal

pub loop-route-init : goal.loop-route-init
loop-route-init c = ap (λ xs. xs ++ filter (is_live_for (is_among (commands c.args.self.now)) c.args.train) c.args.routes.now) c.new-among.ensures.items

pub loop-route-preserved : goal.loop-route-preserved
loop-route-preserved c =
    kept_next c.loop-route.among.items c.push_if.new.list.items _ _ _ _ (drop_more c.args.routes.now c.loop-route.route-index _ c.loop-route-test.true)
    (is_live_for (is_among (commands c.args.self.now)) c.args.train) (sym (c.contains.ensures ∙ ap (λ (xs : List Command). is_among xs (record { train = c.args.train; route = get_or c.args.routes.now c.loop-route.route-index (record { 0 = 0 }) })) c.commands.ensures)) c.in_ok-push_if.ensures c.loop-route.invariant

pub returns-clause-known : goal.returns-clause-known
returns-clause-known c = among_found c.args.self.now c.args.train c.args.routes.now c.loop-route.among.items c.loop-route.route-index c.loop-route-test.false c.loop-route.invariant c.requires.train c.requires.routes
