use Rattle.std.proofs.Common.{◌≡◌, ℕ, sym, ◌+◌, ◌*◌, List, [], ◌∷◌, true, length, map, ap, ap₂, ◌∙◌, arith}
use Rattle.sat_clause.specs.declared.lit.Lit.{Lit}
use Rattle.rail_base.specs.declared.plan.Command.{Command}
use Rattle.clause_spec.specs.Variables.{By, no}
use Rattle.live_clause_spec.specs.Variables.{live_numbered}
use Rattle.plan_encoding.specs.Sinks.{emitted}
use Rattle.plan_encoding.specs.Families.{given_by}
use Rattle.plan_encoding.specs.Encoders.{among, numbered_clauses}
use Rattle.plan_encoding.specs.declared.selectors.Selectors.{Selectors}
use Rattle.plan_encoding.proofs.Emission.{next_one, next_one_fails, next_member_one, handed_on, three_lits}
use Rattle.plan_encoding.proofs.selectors.Selectors.emit_by_step.Goals as goal

-- the literal that not all is given by a step
by_number : (s : Selectors) (k : ℕ) → ◌≡◌ {A = Lit} (record { var = s.last + k; negated = true }) (among s.tables.now.encoder live_numbered (no (By k)))
by_number s k =
    let f = s.tables.now.encoder in
    let written : ℕ → Lit = λ v. record { var = v; negated = true } in
    ap written (ap (λ m. m + k) s.number ∙ ap₂ (λ (cs : List Command) (ps : List (Command × Command)). length cs * f.steps.count + length ps + k) (sym f.of_design) f.paired)

pub overflow_add-by : goal.overflow_add-by
overflow_add-by c =
    let low = c.args.self.now.at_most_73536000 in
    let most = c.args.self.now.tables.now.encoder.steps.at_most_256 in
    let step = c.requires.step in
    omega arith

pub loop-command-init : goal.loop-command-init
loop-command-init c =
    ap (λ cs. emitted c.args.sink.now (numbered_clauses c.args.self.now.tables.now.encoder (map (given_by c.args.self.now.tables.now.encoder c.args.step) cs))) (c.commands-command-items.ensures.value ∙ sym c.args.self.now.tables.now.encoder.of_design)

pub not_given_lit-requires-clause-command : goal.not_given_lit-requires-clause-command
not_given_lit-requires-clause-command c = c.commands-command-items.ensures.known c.loop-command.command-index _ c.loop-command-test.true

pub given_lit-requires-clause-command : goal.given_lit-requires-clause-command
given_lit-requires-clause-command c = c.commands-command-items.ensures.known c.loop-command.command-index _ c.loop-command-test.true

pub returns-in_err-emit-clause-err : goal.returns-in_err-emit-clause-err
returns-in_err-emit-clause-err c =
    handed_on _ c.from_residual.result c.in_err-emit.field-0.0 c.from_residual.ensures.1
    (next_one_fails c.args.self.now.tables.now.encoder _ _ _ (next_member_one (given_by c.args.self.now.tables.now.encoder c.args.step) c.commands-command-items.result.now c.loop-command.command-index _ c.loop-command-test.true) (record { var = c.args.self.now.last + c.args.step; negated = true } ∷ c.not_given_lit.result ∷ c.given_lit.result ∷ []) (three_lits _ _ _ _ _ _ (by_number c.args.self.now c.args.step) c.not_given_lit.ensures c.given_lit.ensures) c.loop-command.sink _ _ c.in_err-emit.ensures.err c.loop-command.invariant)

pub loop-command-preserved : goal.loop-command-preserved
loop-command-preserved c =
    next_one c.args.self.now.tables.now.encoder _ _ _ (next_member_one (given_by c.args.self.now.tables.now.encoder c.args.step) c.commands-command-items.result.now c.loop-command.command-index _ c.loop-command-test.true) (record { var = c.args.self.now.last + c.args.step; negated = true } ∷ c.not_given_lit.result ∷ c.given_lit.result ∷ []) (three_lits _ _ _ _ _ _ (by_number c.args.self.now c.args.step) c.not_given_lit.ensures c.given_lit.ensures) c.loop-command.sink c.emit.new.self _ c.in_ok-emit.ensures.ok c.loop-command.invariant
