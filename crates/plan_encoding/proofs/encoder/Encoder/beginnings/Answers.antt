use Rattle.std.proofs.Common.{◌++◌, filter, sym, ap, ◌∙◌}
use Rattle.alike_clause_spec.specs.Turns.{begins}
use Rattle.plan_encoding.specs.Encoders.{over}
use Rattle.command_set.proofs.Gathering.{kept_next}
use Rattle.plan_encoding.proofs.Beginning.{begins_among, begins_known}
use Rattle.plan_encoding.proofs.encoder.Encoder.beginnings.Goals as goal
use Rattle.std.proofs.lemmas.List.{drop_more}

pub loop-route-init : goal.loop-route-init
loop-route-init c =
    ap (λ xs. xs ++ filter (over c.args.self.now begins c.args.train) c.routes_of-route-items.result.now) c.new-routes.ensures.items
    ∙ (ap (filter (over c.args.self.now begins c.args.train)) c.routes_of-route-items.ensures.value ∙ begins_among c.args.self.now c.args.train)

pub begins-belongs-requires : goal.begins-belongs-requires
begins-belongs-requires c = record { train = c.requires; route = (c.routes_of-route-items.ensures.known c.loop-route.route-index _ c.loop-route-test.true).route }

pub loop-route-preserved : goal.loop-route-preserved
loop-route-preserved c =
    kept_next c.loop-route.routes.items c.push_if.new.list.items _ _ _ _ (drop_more c.routes_of-route-items.result.now c.loop-route.route-index _ c.loop-route-test.true)
    (over c.args.self.now begins c.args.train) (sym c.begins-belongs.ensures) c.in_ok-push_if.ensures c.loop-route.invariant

pub returns-clause-known : goal.returns-clause-known
returns-clause-known c = begins_known c.args.self.now c.args.train c.routes_of-route-items.result.now c.loop-route.routes.items c.loop-route.route-index c.loop-route-test.false c.loop-route.invariant c.requires
