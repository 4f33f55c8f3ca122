use Rattle.std.proofs.Common.{ℕ, List, ◌++◌, ◌∷◌, [], map, sym, ap, ap₂, ◌∙◌, arith}
use Rattle.rail_base.specs.declared.route.RouteNo.{RouteNo}
use Rattle.rail_base.specs.Numbering.{one_to}
use Rattle.rail_spec.specs.Plans.{route_numbers}
use Rattle.command_set.proofs.Lists.{next_cell}
use Rattle.command_set.proofs.rows.all_rows.Goals as goal

pub loop-train-preserved : goal.loop-train-preserved
loop-train-preserved c =
    let f : ℕ → List RouteNo = λ n. route_numbers c.args.interlocking.now.routes in
    c.in_ok-push.ensures.items
    ∙ (ap₂ (λ xs x. xs ++ x ∷ []) c.loop-train.invariant c.in_ok-all_routes.ensures
    ∙ sym (next_cell f c.loop-train._train (let a = c.loop-train.auto._train in omega arith)))

pub returns : goal.returns
returns c =
    let f : ℕ → List RouteNo = λ n. route_numbers c.args.interlocking.now.routes in
    let low = c.loop-train.auto._train in
    let high = c.loop-train.auto._train-end in
    let done = c.loop-train-test.false in
    let many = c.len.ensures in
    c.loop-train.invariant ∙ ap (λ k. map f (one_to k)) (omega arith)
