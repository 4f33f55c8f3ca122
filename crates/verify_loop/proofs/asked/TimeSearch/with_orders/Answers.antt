use Rattle.std.proofs.Common.{ℕ, [], refl, sym, ap, subst, ◌∙◌, append-nil}
use Rattle.order_bounds.specs.Orders.{orders_first}
use Rattle.rail_base.specs.declared.station.Station.{Station}
use Rattle.verify_loop.specs.Tightening.{as_tried, known_first, within_ticks}
use Rattle.verify_loop.proofs.LessTime as less
use Rattle.verify_loop.proofs.asked.TimeSearch.with_orders.Goals as goal

pub with_orders-requires-clause-first : goal.with_orders-requires-clause-first
with_orders-requires-clause-first c =
    let t = c.args.self.now in
    let a = c.args.asked.now in
    let k = c.requires.asked in
    let n = t.numbering.now.steps in
    let s = less.c t a k in
    record {
      attempts = [];
      lead = sym c.requires.all_ticks;
      all = ap as_tried (c.as_slice.ensures.value ∙ c.requires.none_tried);
      known_is = ap (λ (st : Station). orders_first t.base st n) (sym (less.d_is t a k) ∙ ap (within_ticks t.base s t.within n) c.requires.all_ticks) ∙ sym (append-nil (known_first t.base s t.within n));
      spent_is = refl;
    }
