use Rattle.std.proofs.Common.{All, List, Vec, map, sym, ap, subst, ◌∙◌}
use Rattle.std.specs.Prelude.{option_map}
use Rattle.std.specs.declared.alloc.Global.{Global}
use Rattle.rail_base.specs.declared.route.RouteNo.{RouteNo}
use Rattle.plan_ways.specs.Paths.{AreListed, IsPlanWay}
use Rattle.plan_ways.proofs.Pathing.{all_from_in}
use Rattle.way_times.specs.Times.{least_of, ticks_alone}
use Rattle.way_times.proofs.Lesser.{least_is, many_is}
use Rattle.way_times.proofs.least.least_alone.Goals as goal

pub returns-in_default : goal.returns-in_default
returns-in_default c =
    let i = c.args.onward.now.interlocking.now in
    many_is i.design.station i.routes c.args.train c.args.from c.args.to
    (subst (λ o. AreListed i.design.station i.routes c.args.train (option_map (λ (w : Vec (List RouteNo) Global). w.items) o)) c.in_default.is c.in_ok-ways.ensures)

pub least_on-requires-clause-ways : goal.least_on-requires-clause-ways
least_on-requires-clause-ways c =
    let i = c.args.onward.now.interlocking.now in
    let are = subst (λ o. AreListed i.design.station i.routes c.args.train (option_map (λ (w : Vec (List RouteNo) Global). w.items) o)) c.in-Some.is c.in_ok-ways.ensures in
    subst (All (IsPlanWay i.design.station i.routes c.args.train)) (sym c.deref.ensures.value)
    (all_from_in (IsPlanWay i.design.station i.routes c.args.train) c.in-Some.ways.items (λ rs m. (are rs).0 m))

pub returns : goal.returns
returns c =
    let i = c.args.onward.now.interlocking.now in
    let are = subst (λ o. AreListed i.design.station i.routes c.args.train (option_map (λ (w : Vec (List RouteNo) Global). w.items) o)) c.in-Some.is c.in_ok-ways.ensures in
    least_is i.design.station i.routes c.args.train c.args.from c.args.to c.in-Some.ways.items are c.in_ok-least.least
    (c.in_ok-least.ensures ∙ ap (λ ways. least_of (map (λ way. ticks_alone i.design.station i.routes c.args.train way c.args.from c.args.to) ways)) c.deref.ensures.value)
