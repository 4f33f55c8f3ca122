use Rattle.std.proofs.Common.{ℕ, List, Option, Bor, subst}
use Rattle.std.specs.Prelude.{option_map}
use Rattle.serde_json.specs.View.{view}
use Rattle.plan_fault_words.specs.Faults.{IsPlaceOfCommand}
use Rattle.plan_fault_words.proofs.faults.lines_of_plan.Goals as goal

pub returns : goal.returns
returns c =
    let rest : Option (List ℕ) = option_map (λ (s : Bor (List ℕ)). s.now) c.in_ok-rest.rest in (
      rest,
      subst (λ (o : Option (ℕ × ℕ)). IsPlaceOfCommand c.args.bytes.now (view c.args.value.now) o rest) c.command_of_place.ensures c.in_ok-rest.ensures,
      c.in_ok-lines.ensures,
    )
