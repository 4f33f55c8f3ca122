use Rattle.std.proofs.Common.{◌≡◌, ◌+◌, ◌*◌, ◌<◌, arith, if◌then◌else◌, List, length, Some, None, sym, ap, ◌∙◌}
use Rattle.rail_base.specs.declared.plan.Command.{Command}
use Rattle.rail_base.proofs.Admitting.{admitted}
use Rattle.rail_base.specs.Numbering.{before_first}
use Rattle.rail_spec.specs.Plans.{is_command}
use Rattle.command_set.specs.Commands.{first_place}
use Rattle.cone_clause.specs.Contentions.{among}
use Rattle.cone_clause.proofs.Sizes.{given_small, set_few}
use Rattle.cone_clause.proofs.Placed.{no_place, place_made}
use Rattle.cone_clause.proofs.contention.Contention.used_number.Goals as goal

pub returns-in-Some : goal.returns-in-Some
returns-in-Some c =
    let self = c.args.self.now in
    let n = c.args.steps.count in
    let command = c.args.command in
    place_made (is_command command) self.pairs.now.commands (λ k. k * n + n) c.in-Some.place
    (sym c.in-Some.is ∙ (c.number.ensures.place ∙ ap (first_place (is_command command)) c.commands.ensures))
    ∙ ap (λ (cs : List Command). if among self command then Some (length (before_first (is_command command) cs) * n + n) else None) (sym self.of_design)

pub returns-in-None : goal.returns-in-None
returns-in-None c =
    let self = c.args.self.now in
    let n = c.args.steps.count in
    let command = c.args.command in
    no_place (is_command command) self.pairs.now.commands (λ k. k * n + n)
    (sym c.in-None.is ∙ (c.number.ensures.place ∙ ap (first_place (is_command command)) c.commands.ensures))
    ∙ ap (λ (cs : List Command). if among self command then Some (length (before_first (is_command command) cs) * n + n) else None) (sym self.of_design)

pub overflow_mul-result : goal.overflow_mul-result
overflow_mul-result c =
    let i = c.args.self.now.interlocking.now in
    let cs : List Command = c.args.self.now.pairs.now.commands in
    let few = (admitted i.design.station i.design.admitted).many_trains in
    let many = set_few cs i.design.station i.routes c.args.self.now.of_design few.1 i.at_most_2000 in
    let low : c.in-Some.place < length c.commands.result.now = c.in-Some.ensures.bound in
    let same : length c.commands.result.now ≡ length cs = ap length c.commands.ensures in
    let small = given_small c.in-Some.place (length cs) c.args.steps.count (omega arith) many c.args.steps.at_most_256 in
    omega arith

pub overflow_add-result : goal.overflow_add-result
overflow_add-result c =
    let i = c.args.self.now.interlocking.now in
    let cs : List Command = c.args.self.now.pairs.now.commands in
    let few = (admitted i.design.station i.design.admitted).many_trains in
    let many = set_few cs i.design.station i.routes c.args.self.now.of_design few.1 i.at_most_2000 in
    let low : c.in-Some.place < length c.commands.result.now = c.in-Some.ensures.bound in
    let same : length c.commands.result.now ≡ length cs = ap length c.commands.ensures in
    let small = given_small c.in-Some.place (length cs) c.args.steps.count (omega arith) many c.args.steps.at_most_256 in
    omega arith
