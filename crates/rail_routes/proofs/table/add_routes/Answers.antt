use Rattle.std.proofs.Common.{◌≡◌, ◌<◌, ◌+◌, ◌-◌, ◌++◌, ◌∷◌, [], Option, Some, length, sym, ap, subst, ◌∙◌, arith, rules}
use Rattle.rail_base.specs.declared.station.End.{End}
use Rattle.rail_base.specs.Stations.{IsNode}
use Rattle.rail_base.proofs.Admitting.{admitted}
use Rattle.rail_spec.specs.Track.{Whole, route_of}
use Rattle.rail_routes.specs.Pending.{closed_then, to_come}
use Rattle.rail_routes.specs.Refusals.{fault_of}
use Rattle.rail_routes.specs.declared.search.Closed.{Closed}
use Rattle.rail_routes.proofs.Faults.{start_node_is, whole_more, whole_added}
use Rattle.rail_routes.proofs.Searching.{are_edges, station_same}
use Rattle.rail_routes.proofs.table.add_routes.Goals as goal

pub new-requires : goal.new-requires
new-requires c =
    let d = c.args.track.now.design.now.station in
    subst (λ (end : End). IsNode d end.node) (sym c.start_end-from.ensures) (start_node_is d c.args.start (admitted d c.args.track.now.design.now.admitted) c.requires.start)

pub route_of-requires-clause-edges : goal.route_of-requires-clause-edges
route_of-requires-clause-edges c = are_edges c.args.track.now.design.now.station c.next.new.self c.as_slice-path.result.now (station_same c.next.new.self c.loop-search.search c.in_ok-closed.ensures.track ∙ c.loop-search.invariant.track) c.as_slice-path.ensures.value

pub loop-search-preserved : goal.loop-search-preserved
loop-search-preserved c =
    let d = c.args.track.now.design.now.station in
    let s = c.args.start in
    let path = c.next.new.self.path.edges.items in
    let later = to_come c.next.new.self in
    let all = to_come c.loop-search.search in
    let table = c.loop-search.table.items in
    let whole : Whole path c.in-Whole.finish ∷ later ≡ all = ap (λ (o : Option Closed). closed_then o path later) (sym (c.in-Some.is ∙ ap Some c.in-Whole.is)) ∙ c.in_ok-closed.ensures.next in
    let route = c.in_ok-route_of-in-Whole.field-0 in
    let is : route ≡ route_of d s path c.in-Whole.finish = c.in_ok-route_of-in-Whole.ensures ∙ ap (λ es. route_of d s es c.in-Whole.finish) c.as_slice-path.ensures.value in
    let pushed : c.push.new.self.items ≡ table ++ route ∷ [] = search rules in
    let long : length c.push.new.self.items ≡ length table + 1 = search rules in
    let room : length table < 2000 = let f = c.loop-search.invariant.few in omega arith in
    record {
      track = station_same c.next.new.self c.loop-search.search c.in_ok-closed.ensures.track ∙ c.loop-search.invariant.track;
      few = omega arith;
      fault = ap (λ n. fault_of (2000 - n) later) long ∙ whole_more (length table) path c.in-Whole.finish later all _ room whole c.loop-search.invariant.fault;
      same = whole_added d s path c.in-Whole.finish later all table c.push.new.self.items _ whole (pushed ∙ ap (λ r. table ++ r ∷ []) is) c.loop-search.invariant.same;
    }
