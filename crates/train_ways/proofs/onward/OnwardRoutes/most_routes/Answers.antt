use Rattle.std.proofs.Common.{◌≡◌, ◌+◌, [], length, sym, ap, subst, ◌∙◌, arith}
use Rattle.way_spec.specs.Ways.{IsMostRoutes}
use Rattle.train_ways.specs.Reached.{with_starts}
use Rattle.train_ways.proofs.Summing.{few_live, few_signals, live_routes_named, most_routes}
use Rattle.train_ways.proofs.onward.OnwardRoutes.most_routes.Goals as goal

pub signals_of-requires : goal.signals_of-requires
signals_of-requires c =
    let i = c.args.self.now.interlocking.now in
    live_routes_named i.design.station i.routes c.args.train c.in_ok-live.live.items c.in_ok-live.ensures c.deref.result.now c.deref.ensures.value

pub returns : goal.returns
returns c =
    let i = c.args.self.now.interlocking.now in
    let d = i.design.station in
    let live = c.in_ok-live.live.items in
    let signals = c.in_ok-signals.signals.items in
    let is : signals ≡ with_starts i.routes [] live = c.in_ok-signals.ensures ∙ ap (with_starts i.routes []) c.deref.ensures.value in
    let many : length c.as_slice.result.now ≡ length signals = ap length c.as_slice.ensures.value in
    record {
      most = subst (λ n. IsMostRoutes d i.routes c.args.train (n + 1)) (sym many) (most_routes d i.routes c.args.train live c.in_ok-live.ensures signals is);
      few =
          let a = few_live d i.routes c.args.train live c.in_ok-live.ensures in
          let b = few_signals i.routes live in
          let e = ap length is in
          let r = i.at_most_2000 in
          omega arith;
    }
