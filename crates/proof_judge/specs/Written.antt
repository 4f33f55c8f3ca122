-- Lines that a search writes of cones and bounds.
use Rattle.std.specs.Prelude.{ℕ, ◌≡◌, ◌+◌, ◌≤◌, ◌<◌, true, List, Some, Ok}
use Rattle.base_spec.specs.Bases.{before_selectors, left_in}
use Rattle.bound_spec.specs.declared.Evidence.{Evidence}
use Rattle.clause_spec.specs.declared.question.BaseKind.{BaseKind}
use Rattle.log_checker.specs.Verdict.{may_stand}
use Rattle.proof_judge.specs.Judged.{clause_said, refuted}
use Rattle.proof_log.specs.declared.line.Line.TheVariants.{Refute}
use Rattle.proof_log.specs.Text.{text_of_line, keeps_grammar}
use Rattle.rail_base.specs.declared.station.Station.{Station}
use Rattle.rail_spec.specs.Track.{routes_of}
use Rattle.sat_clause.specs.declared.lit.Lit.{Lit}
use Rattle.sat_clause.specs.Hints.{is_assigned}

-- the line of a valid cone or bound, which may stand in the log, and what is left of its clause in the base
pub record IsEvidenceLine (kind : BaseKind) (d : Station) (n : ℕ) (e : Evidence) (line : List ℕ) (clause : List Lit) : Type 0 where
  pub shows : refuted kind d n e ≡ Ok clause
  pub left : left_in kind d (routes_of d) n (clause_said d n e) ≡ Some clause
  pub below : (l : Lit) → is_assigned clause l ≡ true
      → (1 ≤ l.var) × (l.var < before_selectors kind d (routes_of d) n + n)
  pub stands : may_stand kind e ≡ true
  pub written : keeps_grammar (Refute e) ≡ true
  pub line_is : line ≡ text_of_line (Refute e)
