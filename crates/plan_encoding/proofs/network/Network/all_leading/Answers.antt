use Rattle.std.proofs.Common.{[], ◌∷◌, ◌++◌, map, ap, ◌∙◌}
use Rattle.clause_spec.specs.Clauses.{leading_to}
use Rattle.plan_encoding.specs.Tables.{leading}
use Rattle.command_set.proofs.Gathering.{push_next}
use Rattle.plan_encoding.proofs.Tabled.{known_routes}
use Rattle.plan_encoding.proofs.network.Network.all_leading.Goals as goal
use Rattle.std.proofs.lemmas.List.{drop_more}

pub route_at-requires : goal.route_at-requires
route_at-requires c = known_routes c.args.self.now c.deref-number-items.result.now c.deref-number-items.ensures.value c.loop-number.number-index _ c.loop-number-test.true

pub loop-number-init : goal.loop-number-init
loop-number-init c =
    ap (λ xs. xs ++ map (leading c.args.self.now.encoder.interlocking.now.routes) c.deref-number-items.result.now) c.new-rows.ensures.items
    ∙ ap (map (leading c.args.self.now.encoder.interlocking.now.routes)) (c.deref-number-items.ensures.value ∙ c.args.self.now.every_number)

pub loop-number-preserved : goal.loop-number-preserved
loop-number-preserved c =
    push_next c.loop-number.rows.items c.push.new.self.items _ _ _ _ (drop_more c.deref-number-items.result.now c.loop-number.number-index _ c.loop-number-test.true) (leading c.args.self.now.encoder.interlocking.now.routes)
    (c.in_ok-push.ensures.items ∙ ap (λ x. c.loop-number.rows.items ++ x ∷ []) (c.in_ok-leading_to.ensures ∙ ap (leading_to c.args.self.now.encoder.interlocking.now.routes) (ap (λ r. r.start) c.route_at.ensures))) c.loop-number.invariant
