use Rattle.std.proofs.Common.{◌+◌, ◌*◌, if◌then◌else◌, List, length, Some, None, sym, ap, ap₂, ◌∙◌}
use Rattle.std.specs.List.{list_any}
use Rattle.rail_base.specs.declared.plan.Command.{Command}
use Rattle.rail_base.specs.Numbering.{before_first}
use Rattle.clause_spec.specs.Variables.{is_pair}
use Rattle.cone_clause.proofs.Placed.{no_place, place_made}
use Rattle.cone_clause.proofs.contention.Contention.before_number.Goals as goal

pub returns-in-Some : goal.returns-in-Some
returns-in-Some c =
    let self = c.args.self.now in
    let n = c.args.steps.count in
    let test = is_pair c.args.first c.args.second in
    ap (λ m. Some (m + c.in-Some.place + 1)) c.given_count.ensures.value
    ∙ (place_made test self.pairs.now.pairs (λ k. length self.pairs.now.commands * n + k + 1) c.in-Some.place (sym c.in-Some.is ∙ c.place.ensures.place)
    ∙ ap₂ (λ (cs : List Command) (ps : List (Command × Command)). if list_any test self.pairs.now.pairs then Some (length cs * n + length (before_first test ps) + 1) else None) (sym self.of_design) self.paired)

pub returns-in-None : goal.returns-in-None
returns-in-None c =
    let self = c.args.self.now in
    let n = c.args.steps.count in
    let test = is_pair c.args.first c.args.second in
    no_place test self.pairs.now.pairs (λ k. length self.pairs.now.commands * n + k + 1) (sym c.in-None.is ∙ c.place.ensures.place)
    ∙ ap₂ (λ (cs : List Command) (ps : List (Command × Command)). if list_any test self.pairs.now.pairs then Some (length cs * n + length (before_first test ps) + 1) else None) (sym self.of_design) self.paired
