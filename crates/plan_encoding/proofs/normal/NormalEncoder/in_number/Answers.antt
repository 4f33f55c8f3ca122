use Rattle.std.proofs.Common.{◌+◌, length, ap₂, ◌∙◌, arith}
use Rattle.rail_base.proofs.Admitting.{admitted}
use Rattle.plan_encoding.specs.Encoders.{station, table}
use Rattle.plan_encoding.proofs.Over.{given_as, of_design}
use Rattle.plan_encoding.proofs.Sizes.{given_small}
use Rattle.plan_encoding.proofs.normal.NormalEncoder.in_number.Goals as goal

pub overflow_add-result : goal.overflow_add-result
overflow_add-result c =
    let f = c.args.self.now.encoder in
    let is = c.given_number.ensures ∙ given_as f c.args.self.now.every_command c.args.command c.args.step (of_design f c.args.command c.requires.command) in
    let few = (admitted (station f) f.interlocking.now.design.admitted).many_trains in
    let t = c.requires.command.train in
    let r = c.requires.command.route in
    let small = given_small c.args.command.train.0 c.args.command.route.0 (length (table f)) f.steps.count (omega arith) (omega arith) (omega arith) f.steps.at_most_256 t.0 r.0 in
    let most = c.args.self.now.at_most_73536256 in
    let step = c.requires.step in
    omega arith

pub returns : goal.returns
returns c =
    let f = c.args.self.now.encoder in
    ap₂ (λ a b. a + b) c.args.self.now.counted
    (c.given_number.ensures ∙ given_as f c.args.self.now.every_command c.args.command c.args.step (of_design f c.args.command c.requires.command))
