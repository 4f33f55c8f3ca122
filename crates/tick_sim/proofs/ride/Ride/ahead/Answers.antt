use Rattle.std.proofs.Common.{◌≡◌, get_or, length, take, sym, arith, if◌then◌else◌, None, Some, ap, ap₂, ◌∙◌}
use Rattle.std.specs.Option.{option_or}
use Rattle.rail_motion.specs.Track.{stretches_of}
use Rattle.rail_spec.specs.Plans.{path, path_routes}
use Rattle.rail_course.specs.declared.prefixes.PathPrefix.{PathPrefix}
use Rattle.rail_course.specs.Prefixes.{prefix_of, no_prefix}
use Rattle.rail_course.proofs.Prefixing.{prefix_fits, prefix_is, prefix_short, length_of-take, spans_are, spans_fit}
use Rattle.tick_sim.proofs.ride.Ride.ahead.Goals as goal

pub bounds-prefixes-granted : goal.bounds-prefixes-granted
bounds-prefixes-granted c =
    let d = c.args.self.now.run.now.interlocking.now.design.station in
    let routes = c.args.self.now.run.now.interlocking.now.routes in
    let plan = c.args.self.now.run.now.plan.now.steps in
    let train_path = c.args.self.now.journey.now.train_path in
    let fits = prefix_fits d routes (path plan train_path.train) train_path c.args.self.now.led.train_path c.args.granted c.requires.granted in
    let items = ap length c.as_slice-prefixes.ensures.value in
    omega arith

pub offset_bounds-prefixes-granted : goal.offset_bounds-prefixes-granted
offset_bounds-prefixes-granted c =
    let d = c.args.self.now.run.now.interlocking.now.design.station in
    let routes = c.args.self.now.run.now.interlocking.now.routes in
    let plan = c.args.self.now.run.now.plan.now.steps in
    let train_path = c.args.self.now.journey.now.train_path in
    let fits = prefix_fits d routes (path plan train_path.train) train_path c.args.self.now.led.train_path c.args.granted c.requires.granted in
    let items = ap length c.as_slice-prefixes.ensures.value in
    omega arith

pub slice_bounds-result-end : goal.slice_bounds-result-end
slice_bounds-result-end c =
    let d = c.args.self.now.run.now.interlocking.now.design.station in
    let routes = c.args.self.now.run.now.interlocking.now.routes in
    let plan = c.args.self.now.run.now.plan.now.steps in
    let train_path = c.args.self.now.journey.now.train_path in
    let prefix : get_or c.as_slice-prefixes.result.now c.args.granted no_prefix ≡ prefix_of (take c.args.granted (path_routes routes plan train_path.train)) = ap (λ fs. get_or fs c.args.granted no_prefix) c.as_slice-prefixes.ensures.value ∙ prefix_is d routes (path plan train_path.train) train_path c.args.self.now.led.train_path c.args.granted c.requires.granted no_prefix in
    let many = ap (λ (f : PathPrefix). f.spans) prefix in
    let fits = spans_fit d routes (path plan train_path.train) train_path c.args.self.now.led.train_path c.args.granted c.requires.granted in
    let items = ap length c.as_slice-spans.ensures.value in
    sym (length_of-take (get_or c.as_slice-prefixes.result.now c.args.granted no_prefix).spans c.as_slice-spans.result.now (omega arith))

pub authority_end-requires-clause-prefix : goal.authority_end-requires-clause-prefix
authority_end-requires-clause-prefix c =
    let d = c.args.self.now.run.now.interlocking.now.design.station in
    let routes = c.args.self.now.run.now.interlocking.now.routes in
    let plan = c.args.self.now.run.now.plan.now.steps in
    let train_path = c.args.self.now.journey.now.train_path in
    let prefix : get_or c.as_slice-prefixes.result.now c.args.granted no_prefix ≡ prefix_of (take c.args.granted (path_routes routes plan train_path.train)) = ap (λ fs. get_or fs c.args.granted no_prefix) c.as_slice-prefixes.ensures.value ∙ prefix_is d routes (path plan train_path.train) train_path c.args.self.now.led.train_path c.args.granted c.requires.granted no_prefix in
    let long = ap (λ (f : PathPrefix). f.length) prefix in
    let short = prefix_short d routes (path plan train_path.train) train_path c.args.self.now.led.train_path c.args.granted c.requires.granted in
    omega arith

pub returns : goal.returns
returns c =
    let d = c.args.self.now.run.now.interlocking.now.design.station in
    let routes = c.args.self.now.run.now.interlocking.now.routes in
    let plan = c.args.self.now.run.now.plan.now.steps in
    let train_path = c.args.self.now.journey.now.train_path in
    let prefix : get_or c.as_slice-prefixes.result.now c.args.granted no_prefix ≡ prefix_of (take c.args.granted (path_routes routes plan train_path.train)) =
    ap (λ fs. get_or fs c.args.granted no_prefix) c.as_slice-prefixes.ensures.value ∙ prefix_is d routes (path plan train_path.train) train_path c.args.self.now.led.train_path c.args.granted c.requires.granted no_prefix in
    record {
      spans = ap₂ (λ (f : PathPrefix) ss. stretches_of (take f.spans ss)) prefix c.as_slice-spans.ensures.value ∙ spans_are d routes (path plan train_path.train) train_path c.args.self.now.led.train_path c.args.granted c.requires.granted;
      end = c.authority_end.ensures.value ∙ ap (λ (f : PathPrefix). option_or c.args.place (if f.exits then None else Some f.length)) prefix;
    }
