use Rattle.std.proofs.Common.{false, ◌+◌, ◌*◌, Some, sym, ap, ◌∙◌}
use Rattle.sat_clause.specs.declared.lit.Lit.{Lit}
use Rattle.rail_spec.specs.Plans.{is_command}
use Rattle.clause_spec.specs.Variables.{Given, yes}
use Rattle.live_clause_spec.specs.Variables.{live_commands, live_numbered}
use Rattle.command_set.specs.Commands.{first_place}
use Rattle.plan_encoding.specs.Numberings.{Numbered}
use Rattle.plan_encoding.proofs.Placed.{no_place, place_made}
use Rattle.plan_encoding.proofs.numbering.Numbering.given_lit.Goals as goal

pub returns-in-Some : goal.returns-in-Some
returns-in-Some c = λ live d routes n is.
    ap (λ m. let x : Lit = record { var = c.in-Some.place * m + c.args.step; negated = false } in Some x) (ap (λ (b : Numbered). b.steps) c.self.view_is ∙ is.steps)
    ∙ place_made (is_command c.args.command) (live_commands live d routes) (λ k. let x : Lit = record { var = k * n + c.args.step; negated = false } in x) c.in-Some.place
    (sym c.in-Some.is ∙ (c.number.ensures.place ∙ ap (first_place (is_command c.args.command)) (c.commands.ensures ∙ (ap (λ (b : Numbered). b.commands) c.self.view_is ∙ is.commands))))

pub returns-in-None : goal.returns-in-None
returns-in-None c = λ live d routes n is.
    no_place (is_command c.args.command) (live_commands live d routes) (live_numbered live d routes n (yes (Given c.args.command c.args.step)))
    (sym c.in-None.is ∙ (c.number.ensures.place ∙ ap (first_place (is_command c.args.command)) (c.commands.ensures ∙ (ap (λ (b : Numbered). b.commands) c.self.view_is ∙ is.commands))))
