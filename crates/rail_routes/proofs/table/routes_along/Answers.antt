use Rattle.std.proofs.Common.{◌≡◌, ◌-◌, ◌+◌, [], flat_map, drop, length, get_or, sym, ap, subst, ◌∙◌, arith}
use Rattle.std.proofs.Math.ListN.{drop_of_length-le}
use Rattle.std.proofs.lemmas.Result.{err_from_is_err_and}
use Rattle.rail_base.specs.declared.route.Start.TheVariants as start
use Rattle.rail_base.specs.Members.{In}
use Rattle.rail_base.proofs.Contained.{in_at}
use Rattle.rail_spec.specs.Track.{walks_from}
use Rattle.rail_laws.proofs.RouteLaws.{starts_tell}
use Rattle.rail_routes.specs.Refusals.{fault_of}
use Rattle.rail_routes.proofs.Faults.{has_fault, is_listed, start_more, start_added, from_start}
use Rattle.rail_routes.proofs.table.routes_along.Goals as goal

pub add_routes-requires-clause-start : goal.add_routes-requires-clause-start
add_routes-requires-clause-start c =
    let d = c.args.track.now.design.now.station in
    let items = c.as_slice-start-items.ensures.value ∙ c.in_ok-starts.ensures in
    starts_tell d _ (subst (In _) items (in_at c.as_slice-start-items.result.now c.loop-start.start-index _ (omega arith)))

pub returns-in_err-add_routes-clause-fault : goal.returns-in_err-add_routes-clause-fault
returns-in_err-add_routes-clause-fault c =
    let d = c.args.track.now.design.now.station in
    let items = c.as_slice-start-items.result.now in
    let i = c.loop-start.start-index in
    let p = err_from_is_err_and c.from_residual-in_err-add_routes.result c.from_residual-in_err-add_routes.ensures.1 in
    let from = from_start items i _ (omega arith) in
    rw (p.1, p.2) (has_fault d (2000 - length c.loop-start.table.items) _ (flat_map (walks_from d) (drop (i + 1) items)) _ c.in_err-add_routes.ensures.fault (ap (λ ss. fault_of (2000 - length c.loop-start.table.items) (flat_map (walks_from d) ss)) (sym from) ∙ c.loop-start.invariant.fault))

pub loop-start-preserved : goal.loop-start-preserved
loop-start-preserved c =
    let d = c.args.track.now.design.now.station in
    let items = c.as_slice-start-items.result.now in
    let i = c.loop-start.start-index in
    let table = c.loop-start.table.items in
    let new = c.add_routes.new.table.items in
    let later = drop (i + 1) items in
    let from = from_start items i (start.Boundary (record { 0 = 0 })) (omega arith) in
    let s = get_or items i (start.Boundary (record { 0 = 0 })) in
    record {
      few = c.in_ok-add_routes.ensures.at_most_2000;
      fault = start_more d s later table new _ c.loop-start.invariant.few c.in_ok-add_routes.ensures.sound c.in_ok-add_routes.ensures.added (ap (λ ss. fault_of (2000 - length table) (flat_map (walks_from d) ss)) (sym from) ∙ c.loop-start.invariant.fault);
      same = start_added d s (drop i items) later table new _ from c.in_ok-add_routes.ensures.added c.loop-start.invariant.same;
    }

pub returns-clause-can_be_listed : goal.returns-clause-can_be_listed
returns-clause-can_be_listed c =
    let d = c.args.track.now.design.now.station in
    let none : drop c.loop-start.start-index c.as_slice-start-items.result.now ≡ [] = drop_of_length-le c.as_slice-start-items.result.now (omega arith) in
    is_listed d (sym c.loop-start.invariant.fault ∙ ap (λ ss. fault_of (2000 - length c.loop-start.table.items) (flat_map (walks_from d) ss)) none)
