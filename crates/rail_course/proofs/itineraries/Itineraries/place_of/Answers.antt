use Rattle.std.proofs.Common.{◌≡◌, refl, get_or, length, ap, ap₂, ◌∙◌, arith}
use Rattle.rail_base.specs.Numbering.{before_first}
use Rattle.rail_spec.specs.Plans.{is_route}
use Rattle.rail_spec.specs.Dispatches.{routes_before}
use Rattle.rail_course.specs.declared.prefixes.PathPrefix.{PathPrefix}
use Rattle.rail_course.specs.Prefixes.{no_prefix, prefix_of}
use Rattle.rail_course.specs.Itineraries.{command_of, going_in}
use Rattle.rail_course.proofs.Numbered.{number_is, number_fits, prefix_is, before_short}
use Rattle.rail_course.proofs.Placed.{before_edges, before_held}
use Rattle.rail_course.proofs.itineraries.Itineraries.place_of.Goals as goal

pub bounds-prefixes-number : goal.bounds-prefixes-number
bounds-prefixes-number c =
    let d = c.args.self.now.interlocking.now.design.station in
    let routes = c.args.self.now.interlocking.now.routes in
    let p = going_in c.args.self.now in
    let train_path = c.args.train_path.now in
    let command = command_of train_path.train c.args.route in
    let number : c.number_of-number.result ≡ length (before_first (λ r. is_route r c.args.route) train_path.path.items) = c.number_of-number.ensures.value ∙ ap (λ p. length (before_first (λ r. is_route r c.args.route) p)) c.as_slice.ensures.value in
    let fits = number_fits d routes p train_path c.requires command refl in
    let items = ap length c.as_slice-prefixes.ensures.value in
    omega arith

pub offset_bounds-prefixes-number : goal.offset_bounds-prefixes-number
offset_bounds-prefixes-number c =
    let d = c.args.self.now.interlocking.now.design.station in
    let routes = c.args.self.now.interlocking.now.routes in
    let p = going_in c.args.self.now in
    let train_path = c.args.train_path.now in
    let command = command_of train_path.train c.args.route in
    let number : c.number_of-number.result ≡ length (before_first (λ r. is_route r c.args.route) train_path.path.items) = c.number_of-number.ensures.value ∙ ap (λ p. length (before_first (λ r. is_route r c.args.route) p)) c.as_slice.ensures.value in
    let fits = number_fits d routes p train_path c.requires command refl in
    let items = ap length c.as_slice-prefixes.ensures.value in
    omega arith

pub returns : goal.returns
returns c =
    let d = c.args.self.now.interlocking.now.design.station in
    let routes = c.args.self.now.interlocking.now.routes in
    let p = going_in c.args.self.now in
    let train_path = c.args.train_path.now in
    let command = command_of train_path.train c.args.route in
    let number : c.number_of-number.result ≡ length (before_first (λ r. is_route r c.args.route) train_path.path.items) = c.number_of-number.ensures.value ∙ ap (λ p. length (before_first (λ r. is_route r c.args.route) p)) c.as_slice.ensures.value in
    let begin : get_or c.as_slice-prefixes.result.now c.number_of-number.result no_prefix ≡ prefix_of (routes_before d routes p command) = ap₂ (λ fs n. get_or fs n no_prefix) c.as_slice-prefixes.ensures.value number ∙ prefix_is d routes p train_path c.requires command refl no_prefix in
    let below_2_47 = before_short d routes p train_path c.requires command refl in
    let far = ap (λ (f : PathPrefix). f.length) begin in
    let wide = ap (λ (f : PathPrefix). f.spans) begin in
    let held = ap (λ (f : PathPrefix). f.holds) begin in
    let edges = before_edges c.args.self.now.interlocking.now p train_path c.requires command refl in
    let few = before_held c.args.self.now.interlocking.now p train_path c.requires command refl in
    let place = number ∙ number_is d routes p train_path c.requires command refl in
    record { granted = omega arith; prefix = begin; below_2_47 = omega arith; spans = omega arith; holds = omega arith }
