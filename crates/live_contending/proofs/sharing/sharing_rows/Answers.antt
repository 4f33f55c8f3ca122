use Rattle.std.proofs.Common.{ℕ, List, ◌++◌, ◌∷◌, [], filter, map, sym, ap, ap₂, ◌∙◌, arith}
use Rattle.rail_base.specs.declared.route.RouteNo.{RouteNo}
use Rattle.rail_base.specs.Numbering.{one_to}
use Rattle.rail_base.proofs.Members.{map-map}
use Rattle.command_set.proofs.Lists.{next_cell}
use Rattle.live_contending.specs.Rows.{shares}
use Rattle.live_contending.proofs.sharing.sharing_rows.Goals as goal

pub loop-number-preserved : goal.loop-number-preserved
loop-number-preserved c =
    let f : ℕ → List RouteNo = λ n. filter (shares c.args.interlocking.now.routes (record { 0 = n })) c.args.among.now in
    c.in_ok-push.ensures.items
    ∙ (ap₂ (λ xs x. xs ++ x ∷ []) c.loop-number.invariant c.in_ok-routes_sharing.ensures
    ∙ sym (next_cell f c.loop-number.number (let a = c.loop-number.auto.number in omega arith)))

pub returns : goal.returns
returns c =
    let named : ℕ → RouteNo = λ n. record { 0 = n } in
    let f : ℕ → List RouteNo = λ n. filter (shares c.args.interlocking.now.routes (named n)) c.args.among.now in
    let g : RouteNo → List RouteNo = λ r. filter (shares c.args.interlocking.now.routes r) c.args.among.now in
    let low = c.loop-number.auto.number in
    let high = c.loop-number.auto.number-end in
    let done = c.loop-number-test.false in
    let many = c.len.ensures in
    c.from_vec.ensures ∙ (c.loop-number.invariant ∙ (ap (λ k. map f (one_to k)) (omega arith) ∙ sym (map-map g named (one_to _))))
