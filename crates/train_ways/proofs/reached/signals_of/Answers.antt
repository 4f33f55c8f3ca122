use Rattle.std.proofs.Common.{◌≡◌, ◌+◌, drop, get_or, sym, ap, ◌∙◌}
use Rattle.std.proofs.lemmas.List.{at_drop_all, at_drop_more}
use Rattle.rail_base.specs.declared.route.Route.{Route}
use Rattle.rail_base.specs.declared.route.RouteNo.{RouteNo}
use Rattle.rail_spec.specs.Plans.{route_at}
use Rattle.train_ways.specs.Reached.{with_start, with_starts}
use Rattle.train_ways.proofs.reached.signals_of.Goals as goal

pub loop-number-init : goal.loop-number-init
loop-number-init c = ap (λ signals. with_starts c.args.routes.now signals c.args.numbers.now) c.new-signals.ensures.items

pub loop-number-preserved : goal.loop-number-preserved
loop-number-preserved c =
    let routes = c.args.routes.now in
    let numbers = c.args.numbers.now in
    let i = c.loop-number.number-index in
    let signals = c.loop-number.signals.items in
    let r : RouteNo = get_or numbers i (record { 0 = 0 }) in
    let put : c.add_start.new.signals.items ≡ with_start signals (route_at routes r).start = c.in_ok-add_start.ensures ∙ ap (λ (q : Route). with_start signals q.start) c.route_at.ensures in
    let step : with_starts routes signals (drop i numbers) ≡ with_starts routes (with_start signals (route_at routes r).start) (drop (i + 1) numbers) = at_drop_more (with_starts routes signals) numbers i (record { 0 = 0 }) c.loop-number-test.true in
    ap (λ ss. with_starts routes ss (drop (i + 1) numbers)) put ∙ sym step ∙ c.loop-number.invariant

pub returns : goal.returns
returns c = sym (at_drop_all (with_starts c.args.routes.now c.loop-number.signals.items) c.args.numbers.now c.loop-number.number-index c.loop-number-test.false) ∙ c.loop-number.invariant
