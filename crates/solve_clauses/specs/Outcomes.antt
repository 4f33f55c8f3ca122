-- How a run ends.
use Rattle.std.specs.Prelude.{ℕ, ◌≡◌, ◌≤◌, List, [], ◌∷◌, ◌++◌, flat_map, codes, decimal, Option, Some, None, Result}
use Rattle.std.specs.Prelude.{Ok, Err, IsSome, ◌⊎◌}
use Rattle.std.proofs.Common.{inl, inr}
use Rattle.sat_clause.specs.Clauses.{Store, live_clause}
use Rattle.sat_clause.specs.Hints.{follow_of}
use Rattle.sat_clause.specs.declared.follow.Follow.TheVariants.{Yes}
use Rattle.sat_core.specs.Lines.{Entry, entry_text, after_entry, derive_count}
use Rattle.sat_core.specs.Listing.{text_of_line}
use Rattle.sat_core.specs.Models.{IsModel, HasNoModel}
use Rattle.sat_core.specs.declared.list_recorder.Line.{Line}
use Rattle.sat_core.specs.declared.solver.Answer.{Answer}
use Rattle.sat_core.specs.declared.solver.Answer.TheVariants as answer
use Rattle.solve_clauses.specs.declared.formula.Formula.{Formula}
use Rattle.solve_clauses.specs.declared.outcome.Outcome.{Outcome}
use Rattle.solve_clauses.specs.declared.outcome.Outcome.TheVariants.{Sat, Unsat, Spent, DoesNotFollow, Text, Memory}
use Rattle.solve_clauses.specs.declared.outcome.Outcome.TheVariants.{Usage, File, TooLong}
use Rattle.solve_clauses.specs.Replays.{fault_from}

-- a derived clause follows, or a forgotten one is live
abbrev pub Follows : Store → Entry → Type 0
Follows store (inl d) = follow_of store d.0 d.1 ≡ Yes
Follows store (inr id) = IsSome (live_clause store id)

-- so it is with each entry, over the clauses after those before it
abbrev pub AllFollow : Store → List Entry → Type 0
AllFollow store [] = Unit {0}
AllFollow store (e ∷ es) = Follows store e × AllFollow (after_entry store e) es

-- so many lines were derived, each of which follows, and live clauses were forgotten; the lines that are kept have their text,
-- and this is the first of them that the check found at fault, if one is
pub record AreRecorded (store : Store) (derived : ℕ) (fault : Option ℕ) : Type 0 where
  pub entries : List Entry
  pub lines : List Line
  pub count : derive_count entries ≡ derived
  pub follow : AllFollow store entries
  pub text : flat_map text_of_line lines ≡ flat_map entry_text entries
  pub checked : fault_from store 1 lines ≡ fault

-- what an answer and the number of derived lines say; a recorder without a limit is never full
abbrev pub outcome_of : Answer → ℕ → Outcome
outcome_of (answer.Sat values) lines = Sat lines values
outcome_of (answer.Unsat core) lines = Unsat lines
outcome_of (answer.Spent clause hints) lines = Spent lines
outcome_of (answer.Full bytes next) lines = Memory
outcome_of answer.Memory lines = Memory

-- what the end of a run over these clauses says, where at most so many lines may be derived
abbrev pub Ends : Formula → ℕ → Outcome → Type 0
Ends f conflicts (Sat lines values) =
    IsModel f.clauses [] f.vars values × AreRecorded f.clauses lines None × (lines ≤ conflicts)
Ends f conflicts (Unsat lines) = HasNoModel f.clauses [] × AreRecorded f.clauses lines None × (lines ≤ conflicts)
Ends f conflicts (Spent lines) = AreRecorded f.clauses lines None × (lines ≡ conflicts)
Ends f conflicts (DoesNotFollow line) = (lines : ℕ) × AreRecorded f.clauses lines (Some line) × (lines ≤ conflicts)
Ends f conflicts (Text line) = ⊥
Ends f conflicts Memory = Unit {0}
Ends f conflicts Usage = ⊥
Ends f conflicts File = ⊥
Ends f conflicts TooLong = ⊥

-- what it says of what the bytes spell: clauses, or none from this line on
abbrev pub IsOutcomeOf : Result Formula ℕ → ℕ → Outcome → Type 0
IsOutcomeOf (Ok f) conflicts outcome = Ends f conflicts outcome
IsOutcomeOf (Err line) conflicts outcome = (outcome ≡ Text line) ⊎ (outcome ≡ Memory)

abbrev pub numbered_line : List ℕ → ℕ → List ℕ → List ℕ
numbered_line prefix number back = prefix ++ decimal number ++ back

-- the line that says it
abbrev pub outcome_line : Outcome → List ℕ
outcome_line (Sat lines values) = numbered_line (codes "sat lines ") lines (codes "\n")
outcome_line (Unsat lines) = numbered_line (codes "unsat lines ") lines (codes "\n")
outcome_line (Spent lines) = numbered_line (codes "spent lines ") lines (codes "\n")
outcome_line (DoesNotFollow line) = numbered_line (codes "line ") line (codes " does not follow\n")
outcome_line (Text line) = numbered_line (codes "text line ") line (codes "\n")
outcome_line Memory = codes "memory\n"
outcome_line Usage = codes "usage: solve_clauses CONFLICTS FILE\n"
outcome_line File = codes "file\n"
outcome_line TooLong = codes "too long\n"

-- 0 for an answer, 1 for a bad text, 2 for other words, 3 for a line that does not follow, 6 for want of memory, 7 and 11 for a file
abbrev pub status_of : Outcome → ℕ
status_of (Sat lines values) = 0
status_of (Unsat lines) = 0
status_of (Spent lines) = 0
status_of (Text line) = 1
status_of (DoesNotFollow line) = 3
status_of Memory = 6
status_of Usage = 2
status_of File = 7
status_of TooLong = 11
