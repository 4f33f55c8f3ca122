use Rattle.std.proofs.Common.{◌≡◌, ◌++◌, map, get_or, ℤ, pos, ap, sym, ◌∙◌, arith}
use Rattle.rail_base.specs.declared.station.SectionNo.{SectionNo}
use Rattle.rail_base.specs.declared.route.Route.{Route}
use Rattle.rail_base.specs.Routes.{route_at}
use Rattle.rail_base.specs.Stations.{train_length}
use Rattle.rail_base.proofs.Members.{map-map}
use Rattle.rail_course.specs.declared.prefixes.PathPrefix.{PathPrefix}
use Rattle.rail_course.specs.Itineraries.{command_of, going_in, release_in}
use Rattle.rail_course.proofs.Rating.{vehicle_is_good}
use Rattle.rail_course.proofs.Granting.{brief}
use Rattle.rail_course.proofs.Parting.{grown, part_offset, part_own, part_small, same_release}
use Rattle.rail_course.proofs.itineraries.Itineraries.push_releases.Goals as goal

pub loop-part-init : goal.loop-part-init
loop-part-init c =
    let route = route_at c.args.self.now.interlocking.now.routes c.args.number in
    let items : c.as_slice-part-items.result.now ≡ route.sections = c.as_slice-part-items.ensures ∙ ap (λ (r : Route). r.sections) c.route_at-route.ensures in
    let release = release_in c.args.self.now (record { train = c.args.train_path.now.train; route = c.args.number }) in
    ap (λ rs. c.args.releases.now.items ++ rs) (ap (map (λ p. release p.0)) items ∙ sym (map-map release (λ p. p.0) route.sections))

pub overflow_add-event : goal.overflow_add-event
overflow_add-event c =
    let i = c.args.self.now.interlocking.now in
    let short = c.place_of-before.ensures.below_2_47 in
    let near = brief i c.args.number in
    let small = part_small i c.args.number c.as_slice-part-items.result.now c.loop-part.part-index c.offset_of.result (record { 0 = 0 }, pos 0) (c.as_slice-part-items.ensures ∙ ap (λ (r : Route). r.sections) c.route_at-route.ensures) c.loop-part-test.true c.offset_of.ensures in
    omega (arith, short, near, small)

pub overflow_add-event-in-loop-part : goal.overflow_add-event-in-loop-part
overflow_add-event-in-loop-part c =
    let i = c.args.self.now.interlocking.now in
    let short = c.place_of-before.ensures.below_2_47 in
    let near = brief i c.args.number in
    let small = part_small i c.args.number c.as_slice-part-items.result.now c.loop-part.part-index c.offset_of.result (record { 0 = 0 }, pos 0) (c.as_slice-part-items.ensures ∙ ap (λ (r : Route). r.sections) c.route_at-route.ensures) c.loop-part-test.true c.offset_of.ensures in
    let long = c.requires.train_path.long in
    let good = (vehicle_is_good i.design c.args.train_path.now.train c.requires.train_path.train).length_mm.1 in
    omega (arith, short, near, small, long, good)

pub loop-part-preserved : goal.loop-part-preserved
loop-part-preserved c =
    let given = c.args.self.now in
    let i = given.interlocking.now in
    let z = (get_or c.as_slice-part-items.result.now c.loop-part.part-index (record { 0 = 0 }, pos 0)).0 in
    let release = λ (y : SectionNo × ℤ). release_in given (record { train = c.args.train_path.now.train; route = c.args.number }) y.0 in
    let sections = c.as_slice-part-items.ensures ∙ ap (λ (r : Route). r.sections) c.route_at-route.ensures in
    let at = part_offset i c.args.number c.as_slice-part-items.result.now c.loop-part.part-index c.offset_of.result (record { 0 = 0 }, pos 0) sections c.loop-part-test.true c.offset_of.ensures in
    let own = part_own i c.args.number c.as_slice-part-items.result.now c.loop-part.part-index (record { 0 = 0 }, pos 0) sections c.loop-part-test.true in
    let before = ap (λ (f : PathPrefix). f.length) c.place_of-before.ensures.prefix in
    let long : c.args.train_path.now.length ≡ train_length i.design.station c.args.train_path.now.train = c.requires.train_path.long in
    grown release c.loop-part.releases.items c.push.new.self.items _ c.as_slice-part-items.result.now c.loop-part.part-index (record { 0 = 0 }, pos 0) _ c.loop-part-test.true c.in_ok-push.ensures.items
    (same_release i.design.station i.routes (going_in given) (command_of c.args.train_path.now.train c.args.number) z _ _ own c.place_of-before.ensures.granted (omega (arith, at, before, long))) c.loop-part.invariant
