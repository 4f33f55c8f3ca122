use Rattle.std.proofs.Common.{ℕ, ◌+◌, ◌*◌, ◌≤◌, ◌<◌, List, length, Option, sym, ap, subst, ◌∙◌, arith}
use Rattle.std.specs.Prelude.{IfSome}
use Rattle.std.specs.Option.{unwrap_or}
use Rattle.std.proofs.lemmas.Nat.{mul-le}
use Rattle.rail_base.specs.declared.plan.Command.{Command}
use Rattle.rail_base.specs.Numbering.{before_first}
use Rattle.rail_base.proofs.Admitting.{admitted}
use Rattle.rail_spec.specs.Plans.{is_command}
use Rattle.command_set.specs.Commands.{first_place}
use Rattle.plan_encoding.specs.Encoders.{commands, station, table}
use Rattle.plan_encoding.proofs.Over.{few_among}
use Rattle.plan_encoding.proofs.Placed.{place_is}
use Rattle.plan_encoding.proofs.encoder.Encoder.given_number.Goals as goal

pub returns : goal.returns
returns c =
    let f = c.args.self.now in
    ap (λ m. m * f.steps.count + c.args.step)
    (c.unwrap_or-place.ensures
    ∙ ap (λ o. unwrap_or o 0) (place_is (commands f) c.args.command c.number.result (c.number.ensures.place ∙ ap (first_place (is_command c.args.command)) c.commands.ensures) c.requires.command.known))
    ∙ ap (λ (cs : List Command). length (before_first (is_command c.args.command) cs) * f.steps.count + c.args.step) (sym f.of_design)

pub overflow_mul-result : goal.overflow_mul-result
overflow_mul-result c =
    let f = c.args.self.now in
    let is = place_is (commands f) c.args.command c.number.result (c.number.ensures.place ∙ ap (first_place (is_command c.args.command)) c.commands.ensures) c.requires.command.known in
    let low : length (before_first (is_command c.args.command) (commands f)) < length c.commands.result.now = subst (λ (o : Option ℕ). IfSome o (λ place. place < length c.commands.result.now)) is c.number.ensures.bound in
    let e = c.unwrap_or-place.ensures ∙ ap (λ o. unwrap_or o 0) is in
    let few = few_among (commands f) (station f) (table f) f.of_design (admitted (station f) f.interlocking.now.design.admitted).many_trains.1 f.interlocking.now.at_most_2000 in
    let same = ap length c.commands.ensures in
    let all : c.unwrap_or-place.result * f.steps.count ≤ 256000 * 256 = mul-le c.unwrap_or-place.result f.steps.count 256000 256 (omega arith) f.steps.at_most_256 in
    let step = c.requires.step in
    let most = f.steps.at_most_256 in
    omega arith

pub overflow_add-result : goal.overflow_add-result
overflow_add-result c =
    let f = c.args.self.now in
    let is = place_is (commands f) c.args.command c.number.result (c.number.ensures.place ∙ ap (first_place (is_command c.args.command)) c.commands.ensures) c.requires.command.known in
    let low : length (before_first (is_command c.args.command) (commands f)) < length c.commands.result.now = subst (λ (o : Option ℕ). IfSome o (λ place. place < length c.commands.result.now)) is c.number.ensures.bound in
    let e = c.unwrap_or-place.ensures ∙ ap (λ o. unwrap_or o 0) is in
    let few = few_among (commands f) (station f) (table f) f.of_design (admitted (station f) f.interlocking.now.design.admitted).many_trains.1 f.interlocking.now.at_most_2000 in
    let same = ap length c.commands.ensures in
    let all : c.unwrap_or-place.result * f.steps.count ≤ 256000 * 256 = mul-le c.unwrap_or-place.result f.steps.count 256000 256 (omega arith) f.steps.at_most_256 in
    let step = c.requires.step in
    let most = f.steps.at_most_256 in
    omega arith
