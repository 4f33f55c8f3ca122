use Rattle.std.proofs.Common.{◌*◌, ◌≤◌, length, ap, ◌∙◌, arith}
use Rattle.std.proofs.lemmas.Nat.{mul-le}
use Rattle.plan_encoding.specs.Numberings.{Numbered}
use Rattle.plan_encoding.proofs.numbering.Numbering.given_count.Goals as goal

pub returns-clause-value : goal.returns-clause-value
returns-clause-value c =
    ap (λ m. m * c.self.inside.steps.count) (c.count.ensures.value ∙ ap length c.commands.ensures)
    ∙ ap (λ (b : Numbered). length b.commands * b.steps) c.self.view_is

pub returns-clause-bound : goal.returns-clause-bound
returns-clause-bound c =
    let most : c.count.result * c.self.inside.steps.count ≤ 256000 * 256 = mul-le c.count.result c.self.inside.steps.count 256000 256 c.count.ensures.bound c.self.invariant.0 in
    omega arith

pub overflow_mul-result : goal.overflow_mul-result
overflow_mul-result c =
    let most : c.count.result * c.self.inside.steps.count ≤ 256000 * 256 = mul-le c.count.result c.self.inside.steps.count 256000 256 c.count.ensures.bound c.self.invariant.0 in
    omega arith
