use Rattle.std.proofs.Common.{[], ◌∷◌, ◌++◌, map, ap, ◌∙◌}
use Rattle.plan_encoding.specs.Tables.{going_on}
use Rattle.command_set.proofs.Gathering.{push_next}
use Rattle.plan_encoding.proofs.Tabled.{known_routes}
use Rattle.plan_encoding.proofs.network.Network.all_going_on.Goals as goal
use Rattle.std.proofs.lemmas.List.{drop_more}

pub going_on-requires : goal.going_on-requires
going_on-requires c = known_routes c.args.self.now c.deref-number-items.result.now c.deref-number-items.ensures.value c.loop-number.number-index _ c.loop-number-test.true

pub loop-number-init : goal.loop-number-init
loop-number-init c =
    ap (λ xs. xs ++ map (going_on c.args.self.now.encoder.interlocking.now.routes) c.deref-number-items.result.now) c.new-rows.ensures.items
    ∙ ap (map (going_on c.args.self.now.encoder.interlocking.now.routes)) (c.deref-number-items.ensures.value ∙ c.args.self.now.every_number)

pub loop-number-preserved : goal.loop-number-preserved
loop-number-preserved c =
    push_next c.loop-number.rows.items c.push.new.self.items _ _ _ _ (drop_more c.deref-number-items.result.now c.loop-number.number-index _ c.loop-number-test.true) (going_on c.args.self.now.encoder.interlocking.now.routes)
    (c.in_ok-push.ensures.items ∙ ap (λ x. c.loop-number.rows.items ++ x ∷ []) c.in_ok-going_on.ensures) c.loop-number.invariant
