use Rattle.std.proofs.Common.{◌≡◌, ℕ, ◌-◌, length, flat_map, sym, ap, subst, ◌∙◌, arith}
use Rattle.order_bounds.specs.Orders.{orders_first, said_by}
use Rattle.rail_base.specs.Numbering.{one_to}
use Rattle.verify_loop.specs.Asking.{IsBeginning, said_before}
use Rattle.verify_loop.proofs.Ordering.{live_first}
use Rattle.verify_loop.proofs.rounds.PlanSearch.with_all_orders.Goals as goal

pub returns-clause-begun : goal.returns-clause-begun
returns-clause-begun c =
    let q = c.args.self.now in
    let d = q.interlocking.now.design.station in
    let n = q.numbering.now.steps in
    let o = c.loop-order.order in
    let done = c.loop-order-test.false in
    let size = c.len.ensures in
    let last : o - 1 ≡ length d.orders = omega arith in
    let whole : said_before q o ≡ orders_first q.aim.base d n = ap (λ (k : ℕ). flat_map (said_by q.aim.base d n) (one_to k)) last ∙ sym (live_first q.aim.base c.requires.live.0 d n c.requires.live.1) in
    subst (IsBeginning q c.loop-order.search) whole c.loop-order.invariant.begun
