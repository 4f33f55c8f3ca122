-- What is left of a clause that is shown is of the base's variables before the last, so its line may be written.
use Rattle.std.proofs.Common.{◌≡◌, ℕ, ◌+◌, ◌≤◌, ◌<◌, true, List, Ok, sym, subst, arith, nat_eq, eqb-true}
use Rattle.base_spec.specs.Bases.{before_selectors, left_in}
use Rattle.bound_spec.specs.declared.Evidence.{Evidence}
use Rattle.clause_spec.specs.declared.question.BaseKind.{BaseKind}
use Rattle.log_checker.specs.Verdict.{may_stand}
use Rattle.proof_judge.specs.Judged.{clause_said, fault_of, not_in_design, refuted}
use Rattle.proof_judge.specs.Written.{IsEvidenceLine}
use Rattle.proof_judge.proofs.Below.{shown_within}
use Rattle.proof_judge.proofs.Showing.{shown_valid}
use Rattle.proof_log.specs.declared.line.Line.TheVariants.{Refute}
use Rattle.proof_log.specs.Text.{text_of_line, keeps_grammar}
use Rattle.rail_base.specs.declared.station.Station.{Station}
use Rattle.rail_base.proofs.Members.{and_left, list_any_gives}
use Rattle.rail_spec.specs.Track.{routes_of}
use Rattle.sat_clause.specs.declared.lit.Lit.{Lit}
use Rattle.sat_clause.specs.Hints.{same_lit, is_assigned}

less : (a b : ℕ) → a ≤ b → (a ≡ b → ⊥) → a < b
less a b le ne = omega arith

pub assigned_within : (kind : BaseKind) (d : Station) (n : ℕ) → 1 ≤ n → (e : Evidence) (clause : List Lit) → refuted kind d n e ≡ Ok clause → (l : Lit) → is_assigned clause l ≡ true
    → (1 ≤ l.var) × (l.var < before_selectors kind d (routes_of d) n + n)
assigned_within kind d n some e clause shows l h =
    let a = list_any_gives (same_lit l) clause h in
    let same : l.var ≡ a.0.var = eqb-true l.var a.0.var (and_left (nat_eq l.var a.0.var) _ a.2) in
    let w = shown_within d n some kind e clause shows a.0 a.1 in
    subst (λ v. (1 ≤ v) × (v < before_selectors kind d (routes_of d) n + n)) (sym same) (w.0, less a.0.var (before_selectors kind d (routes_of d) n + n) w.1 w.2)

pub written_so : (kind : BaseKind) (d : Station) (n : ℕ) → 1 ≤ n → (e : Evidence) (line : List ℕ) (clause : List Lit) → refuted kind d n e ≡ Ok clause → may_stand kind e ≡ true → keeps_grammar (Refute e) ≡ true → line ≡ text_of_line (Refute e)
    → IsEvidenceLine kind d n e line clause
written_so kind d n some e line clause shows stands written text = record {
  shows = shows;
  left = (shown_valid (fault_of d e) (not_in_design e) (left_in kind d (routes_of d) n (clause_said d n e)) clause shows).1;
  below = assigned_within kind d n some e clause shows;
  stands = stands;
  written = written;
  line_is = text;
}
