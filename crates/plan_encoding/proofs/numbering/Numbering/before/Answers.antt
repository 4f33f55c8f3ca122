use Rattle.std.proofs.Common.{◌+◌, ◌*◌, false, List, length, Some, sym, ap, ap₂, ◌∙◌}
use Rattle.sat_clause.specs.declared.lit.Lit.{Lit}
use Rattle.rail_base.specs.declared.plan.Command.{Command}
use Rattle.clause_spec.specs.Variables.{Before, is_pair, yes}
use Rattle.live_clause_spec.specs.Variables.{live_commands, live_numbered, live_pairs}
use Rattle.command_set.specs.Commands.{first_place}
use Rattle.plan_encoding.specs.Numberings.{Numbered}
use Rattle.plan_encoding.proofs.Placed.{no_place, place_made}
use Rattle.plan_encoding.proofs.numbering.Numbering.before.Goals as goal

pub returns-in-Some : goal.returns-in-Some
returns-in-Some c = λ live d routes n is.
    ap (λ m. let x : Lit = record { var = m + c.in-Some.place + 1; negated = false } in Some x) (c.given_count.ensures.value ∙ ap₂ (λ (cs : List Command) m. length cs * m) is.commands is.steps)
    ∙ place_made (is_pair c.args.first c.args.second) (live_pairs live d routes) (λ k. let x : Lit = record { var = length (live_commands live d routes) * n + k + 1; negated = false } in x) c.in-Some.place
    (sym c.in-Some.is ∙ (c.place.ensures.place ∙ ap (first_place (is_pair c.args.first c.args.second)) (ap (λ (b : Numbered). b.pairs) c.self.view_is ∙ is.pairs)))

pub returns-in-None : goal.returns-in-None
returns-in-None c = λ live d routes n is.
    no_place (is_pair c.args.first c.args.second) (live_pairs live d routes) (live_numbered live d routes n (yes (Before c.args.first c.args.second)))
    (sym c.in-None.is ∙ (c.place.ensures.place ∙ ap (first_place (is_pair c.args.first c.args.second)) (ap (λ (b : Numbered). b.pairs) c.self.view_is ∙ is.pairs)))
