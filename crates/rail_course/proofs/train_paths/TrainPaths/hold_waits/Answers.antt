use Rattle.std.proofs.Common.{◌≡◌, ◌+◌, ◌++◌, map, length, ap, ◌∙◌, refl, arith}
use Rattle.std.specs.List.{enumerate_from}
use Rattle.rail_base.specs.declared.route.OverlapSection.{OverlapSection}
use Rattle.rail_base.specs.Routes.{held_sections, route_at}
use Rattle.rail_base.proofs.Lists.{length-map}
use Rattle.rail_course.specs.declared.prefixes.PathPrefix.{PathPrefix}
use Rattle.rail_course.specs.Itineraries.{going_in, hold_in}
use Rattle.rail_course.specs.Waits.{holds_before, wait_for_held}
use Rattle.rail_course.proofs.Asking.{grown_by, held_are, wait_of_hold}
use Rattle.rail_course.proofs.Granting.{laid_out}
use Rattle.rail_course.proofs.train_paths.TrainPaths.hold_waits.Goals as goal

pub loop-hold-init : goal.loop-hold-init
loop-hold-init c =
    let given = c.args.self.now.given in
    let i = given.interlocking.now in
    let d = i.design.station in
    let first : c.place_of-number.result.prefix.holds ≡ holds_before d i.routes (going_in given) c.args.command = ap (λ (f : PathPrefix). f.holds) c.place_of-number.ensures.prefix ∙ ap (λ t. holds_before d i.routes (going_in given) (record { train = t; route = c.args.command.route })) c.train_path-train_path.ensures.train in
    record {
      small = (let h = c.place_of-number.ensures.holds in omega (arith, h));
      left = ap (λ ws. ws ++ map wait_of_hold (enumerate_from c.place_of-number.result.prefix.holds c.deref-hold-items.result.now)) c.new-waits.ensures.items
          ∙ held_are d i.routes (going_in given) c.args.command c.place_of-number.result.prefix.holds c.deref-hold-items.result.now (c.deref-hold-items.ensures.value ∙ c.in_ok-holds.ensures)
          ∙ ap (λ n. map (wait_for_held d i.routes (going_in given) c.args.command) (enumerate_from n (held_sections (route_at i.routes c.args.command.route)))) first;
    }

pub overflow_add-number : goal.overflow_add-number
overflow_add-number c =
    let given = c.args.self.now.given in
    let i = given.interlocking.now in
    let route = route_at i.routes c.args.command.route in
    let many : length c.deref-hold-items.result.now ≡ length route.overlaps = ap length (c.deref-hold-items.ensures.value ∙ c.in_ok-holds.ensures) ∙ length-map (hold_in given c.args.command) (held_sections route) ∙ length-map (λ (o : OverlapSection). o.section) route.overlaps in
    let few = ((laid_out i).each c.args.command.route).few_held in
    let test = c.loop-hold-test.true in
    let small = c.loop-hold.invariant.small in
    omega (arith, many, few, test, small)

pub loop-hold-preserved : goal.loop-hold-preserved
loop-hold-preserved c = record {
  small = (let h = c.loop-hold.invariant.small in omega (arith, h));
  left = grown_by wait_of_hold c.loop-hold.waits.items c.push.new.self.items _ c.deref-hold-items.result.now c.loop-hold.hold-index c.loop-hold.number (c.loop-hold.number + 1) _ _ c.loop-hold-test.true c.in_ok-push.ensures.items refl refl c.loop-hold.invariant.left;
}
