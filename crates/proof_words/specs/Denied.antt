-- What the lines of a file that shows that there is no plan say of the design.
use Rattle.std.specs.Prelude.{◌≡◌, ℕ, List, Some}
use Rattle.rail_base.specs.declared.station.Station.{Station}
use Rattle.rail_base.specs.declared.plan.Command.{Command}
use Rattle.rail_base.specs.Admitted.{IsAdmitted}
use Rattle.rail_base.specs.Members.{In}
use Rattle.rail_base.specs.Numbering.{after_first}
use Rattle.rail_spec.specs.Feasible.{IsFeasible}
use Rattle.rail_text.specs.Pieces.{pieces}
use Rattle.rail_text.specs.Pieces.{Line as Piece}
use Rattle.bound_spec.specs.declared.Evidence.{Evidence}
use Rattle.log_checker.specs.declared.check_result.CheckResult.TheVariants.{Yes}
use Rattle.proof_judge.specs.Judged.{judged}
use Rattle.proof_log.specs.declared.line.Line.TheVariants.{Refute}
use Rattle.proof_log.specs.Lines.{line_in_bytes}
use Rattle.evidence_words.specs.So.{EvidenceIsSo}

-- a line of the file after its head is of this cone or bound
pub record IsExplained (bytes : List ℕ) (e : Evidence) : Type 0 where
  pub piece : Piece
  pub there : In piece (after_first (pieces bytes))
  pub spells : line_in_bytes piece.bytes ≡ Some (Refute e)

-- a plan of which all that the sentences about it say is so is not feasible, however many steps it has
abbrev pub DeniesWhatIsSo : Station → Evidence → Type 0
DeniesWhatIsSo d e = (n : ℕ) (plan : List (List Command)) → EvidenceIsSo d e plan → IsFeasible d n plan → ⊥

-- so it is with each line of the file that has sentences
abbrev pub EachLineDenies : Station → List ℕ → Type 0
EachLineDenies d bytes = (e : Evidence) → IsExplained bytes e → DeniesWhatIsSo d e

-- where the file shows that there is no plan
abbrev pub SentencesOfProofsDeny : Type 0
SentencesOfProofsDeny = (d : Station) → IsAdmitted d → (n k : ℕ) (bytes : List ℕ) → judged d n bytes ≡ Yes k
    → EachLineDenies d bytes
