use Rattle.std.proofs.Common.{ℕ, List, ◌++◌, ◌∷◌, [], sym, ap, ◌∙◌, arith}
use Rattle.rail_base.specs.declared.route.RouteNo.{RouteNo}
use Rattle.command_set.proofs.Lists.{next_cell}
use Rattle.command_set.proofs.rows.all_routes.Goals as goal

pub loop-number-preserved : goal.loop-number-preserved
loop-number-preserved c =
    let named : ℕ → RouteNo = λ n. record { 0 = n } in
    c.in_ok-push.ensures.ok
    ∙ (ap (λ (xs : List RouteNo). xs ++ named c.loop-number.number ∷ []) c.loop-number.invariant
    ∙ sym (next_cell named c.loop-number.number (let a = c.loop-number.auto.number in omega arith)))
