use Rattle.std.proofs.Common.{◌≡◌, ◌+◌, ◌++◌, map, get_or, length, ap, ap₂, sym, ◌∙◌, arith}
use Rattle.rail_base.specs.declared.route.OverlapSection.{OverlapSection}
use Rattle.rail_base.specs.declared.route.Route.{Route}
use Rattle.rail_base.specs.Routes.{route_at, hold_ms, length_mm}
use Rattle.rail_base.specs.Stations.{whole_ticks}
use Rattle.rail_base.proofs.Members.{map-map}
use Rattle.rail_course.specs.declared.prefixes.PathPrefix.{PathPrefix}
use Rattle.rail_course.specs.Itineraries.{command_of, going_in, hold_in}
use Rattle.rail_course.proofs.Granting.{brief, short_edges}
use Rattle.rail_course.proofs.Parting.{grown, held_beside, same_hold}
use Rattle.rail_course.proofs.itineraries.Itineraries.push_holds.Goals as goal

pub loop-part-init : goal.loop-part-init
loop-part-init c =
    let route = route_at c.args.self.now.interlocking.now.routes c.args.number in
    let items : c.as_slice-part-items.result.now ≡ route.overlaps = c.as_slice-part-items.ensures ∙ ap (λ (r : Route). r.overlaps) c.route_at-route.ensures in
    let hold = hold_in c.args.self.now (record { train = c.args.train_path.now.train; route = c.args.number }) in
    ap (λ hs. c.args.holds.now.items ++ hs) (ap (map (λ p. hold p.section)) items ∙ sym (map-map hold (λ p. p.section) route.overlaps))

pub overflow_add-arrival : goal.overflow_add-arrival
overflow_add-arrival c =
    let short = c.place_of-before.ensures.below_2_47 in
    let near = brief c.args.self.now.interlocking.now c.args.number in
    let long = c.length_mm.ensures ∙ ap length_mm c.route_at-route.ensures in
    omega (arith, short, near, long)

pub overflow_add-node : goal.overflow_add-node
overflow_add-node c =
    let short = c.place_of-before.ensures.spans in
    let few = short_edges c.args.self.now.interlocking.now c.args.number in
    let many = c.len.ensures ∙ ap (λ (r : Route). length r.edges) c.route_at-route.ensures in
    omega (arith, short, few, many)

pub loop-part-preserved : goal.loop-part-preserved
loop-part-preserved c =
    let given = c.args.self.now in
    let i = given.interlocking.now in
    let d = i.design.station in
    let route = route_at i.routes c.args.number in
    let other : OverlapSection = record { section = record { 0 = 0 }; hold_ms = 0 } in
    let z = (get_or c.as_slice-part-items.result.now c.loop-part.part-index other).section in
    let hold = λ (y : OverlapSection). hold_in given (record { train = c.args.train_path.now.train; route = c.args.number }) y.section in
    let overlaps = c.as_slice-part-items.ensures ∙ ap (λ (r : Route). r.overlaps) c.route_at-route.ensures in
    let beside = held_beside i c.args.number c.as_slice-part-items.result.now c.loop-part.part-index other overlaps c.loop-part-test.true in
    let far = ap₂ (λ m n. m + n) (ap (λ (f : PathPrefix). f.length) c.place_of-before.ensures.prefix) (c.length_mm.ensures ∙ ap length_mm c.route_at-route.ensures) in
    let wide = ap₂ (λ m n. m + n) (ap (λ (f : PathPrefix). f.spans) c.place_of-before.ensures.prefix) (c.len.ensures ∙ ap (λ (r : Route). length r.edges) c.route_at-route.ensures) in
    let ticks = c.whole_ticks.ensures.value ∙ ap (whole_ticks d) (c.hold_ms.ensures ∙ ap (λ (r : Route). hold_ms r z) c.route_at-route.ensures) in
    grown hold c.loop-part.holds.items c.push.new.self.items _ c.as_slice-part-items.result.now c.loop-part.part-index other _ c.loop-part-test.true c.in_ok-push.ensures.items
    (same_hold d i.routes (going_in given) (command_of c.args.train_path.now.train c.args.number) z _ _ _ _ beside c.place_of-before.ensures.granted far ticks wide) c.loop-part.invariant
