use Rattle.std.proofs.Common.{◌++◌, filter, sym, ap, ◌∙◌}
use Rattle.rail_spec.specs.Plans.{route_at, goes_on}
use Rattle.std.proofs.Common.{ap₂}
use Rattle.command_set.proofs.Gathering.{kept_next}
use Rattle.plan_encoding.proofs.Tabled.{known_routes}
use Rattle.plan_encoding.proofs.network.Network.going_on.Goals as goal
use Rattle.std.proofs.lemmas.List.{drop_more}

pub route_at-requires-in-loop-number : goal.route_at-requires-in-loop-number
route_at-requires-in-loop-number c = known_routes c.args.self.now c.deref-number-items.result.now c.deref-number-items.ensures.value c.loop-number.number-index _ c.loop-number-test.true

pub loop-number-init : goal.loop-number-init
loop-number-init c =
    ap (λ xs. xs ++ filter (λ q. goes_on (route_at c.args.self.now.encoder.interlocking.now.routes c.args.route).finish (route_at c.args.self.now.encoder.interlocking.now.routes q).start) c.deref-number-items.result.now) c.new-found.ensures.items
    ∙ ap (filter (λ q. goes_on (route_at c.args.self.now.encoder.interlocking.now.routes c.args.route).finish (route_at c.args.self.now.encoder.interlocking.now.routes q).start)) (c.deref-number-items.ensures.value ∙ c.args.self.now.every_number)

pub loop-number-preserved : goal.loop-number-preserved
loop-number-preserved c =
    kept_next c.loop-number.found.items c.push_if.new.list.items _ _ _ _ (drop_more c.deref-number-items.result.now c.loop-number.number-index _ c.loop-number-test.true) (λ q. goes_on (route_at c.args.self.now.encoder.interlocking.now.routes c.args.route).finish (route_at c.args.self.now.encoder.interlocking.now.routes q).start)
    (ap₂ (λ p q. goes_on p.finish q.start) (sym c.route_at.ensures) (sym c.route_at-in-loop-number.ensures) ∙ sym c.goes_on-starts.ensures) c.in_ok-push_if.ensures c.loop-number.invariant
