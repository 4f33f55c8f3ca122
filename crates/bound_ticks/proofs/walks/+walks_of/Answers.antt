use Rattle.std.proofs.Common.{rules, ◌≡◌, ◌+◌, ◌-◌, All, flat_map, length, take, drop, sym, subst, arith}
use Rattle.rail_base.specs.Routes.{IsRoute}
use Rattle.bound_ticks.specs.Walks.{IsWalk, longer_by}
use Rattle.bound_ticks.proofs.Longer.{longer_walks_are}
use Rattle.leg_targets.proofs.Parts.{ok_more, rest_long}
use Rattle.bound_ticks.proofs.walks.+walks_of.Goals as goal

pub returns-in_ok-later-in-len1-up-clause-named : goal.returns-in_ok-later-in-len1-up-clause-named
returns-in_ok-later-in-len1-up-clause-named t c =
    let routes = c.args.routes.now in
    let place = c.routes_of.result.now in
    let later = c.deref.result.now in
    let named : All (IsRoute routes) place = search rules in
    let are = subst (λ ws. All (IsWalk routes (length (take (length c.args.places.now - 1) (drop 1 c.args.places.now)))) ws) (sym c.deref.ensures.value) c.in_ok-later-in-len1-up.ensures.named in
    let some = c.in-len1-up.len_at_least in
    let rest = rest_long c.args.places.now some in
    let long : length (take (length c.args.places.now - 1) (drop 1 c.args.places.now)) + 1 ≡ length c.args.places.now = omega arith in
    ok_more _ _ c.longer_walks.result (λ walks e. subst (λ ws. All (IsWalk routes (length c.args.places.now)) ws) (sym e) (subst (λ n. All (IsWalk routes n) (flat_map (longer_by routes later) place)) long (longer_walks_are routes _ later place named are))) c.longer_walks.ensures
