-- What a proof file shows over a base of clauses, or its first bad line.
use Rattle.std.specs.Prelude.{ℕ, suc, zero, ◌+◌, ◌-◌, Bool, true, false, ◌&&◌, List, [], ◌∷◌, ◌++◌, length, replicate}
use Rattle.std.specs.Prelude.{nat_le, slice_get, unwrap_or, is_some, Option, Some, None, Result, Ok, Err, if◌then◌else◌}
use Rattle.std.specs.List.{list_all}
use Rattle.std.specs.Str.{bytes_eq}
use Rattle.rail_text.specs.Pieces.{pieces}
use Rattle.rail_text.specs.Pieces.{Line as Piece}
use Rattle.bound_spec.specs.declared.Evidence.{Evidence}
use Rattle.bound_spec.specs.declared.Evidence.TheVariants as evidence
use Rattle.bound_spec.specs.declared.EvidenceFault.{EvidenceFault}
use Rattle.sat_clause.specs.declared.lit.Lit.{Lit}
use Rattle.sat_clause.specs.declared.follow.Follow.{Follow}
use Rattle.sat_clause.specs.declared.follow.Follow.TheVariants as follow
use Rattle.sat_clause.specs.Clauses.{Store, live_clause, without}
use Rattle.sat_clause.specs.Hints.{follow_of}
use Rattle.clause_spec.specs.declared.question.BaseKind.{BaseKind}
use Rattle.clause_spec.specs.declared.question.BaseKind.TheVariants.{Plain, Sorted, Normal, Live}
use Rattle.clause_spec.specs.declared.question.VariableCounts.{VariableCounts}
use Rattle.proof_log.specs.declared.line.Line.{Line}
use Rattle.proof_log.specs.declared.line.Line.TheVariants.{Derive, Refute, Forget}
use Rattle.proof_log.specs.declared.head.Head.{Head}
use Rattle.proof_log.specs.Heads.{base_of, head_of, head_text}
use Rattle.proof_log.specs.Lines.{line_in_bytes}
use Rattle.log_checker.specs.declared.check_result.CheckResult.{CheckResult}
use Rattle.log_checker.specs.declared.check_result.CheckResult.TheVariants.{Yes, No}
use Rattle.log_checker.specs.declared.check_result.Reason.{Reason}
use Rattle.log_checker.specs.declared.check_result.Reason.TheVariants.{Text, UnknownClause, HintNotUnit, NoConflict}
use Rattle.log_checker.specs.declared.check_result.Reason.TheVariants.{DropRefused, NotRefuted, NoFinalLine}

-- ---- lines

-- bounds stand where trains come in turn alone
abbrev pub may_stand : BaseKind → Evidence → Bool
may_stand base (evidence.Cone cone) = true
may_stand Plain (evidence.Bound bound) = false
may_stand Sorted (evidence.Bound bound) = true
may_stand Normal (evidence.Bound bound) = false
may_stand (Live turns) (evidence.Bound bound) = true

-- the line, where no variable of a clause that it derives is past the last one, and it may stand in a file on this base
abbrev pub if_within : BaseKind → ℕ → Option Line → Option Line
if_within base vars None = None
if_within base vars (Some (Derive clause hints)) =
    if list_all (λ l. nat_le l.var vars) clause then Some (Derive clause hints) else None
if_within base vars (Some (Refute e)) = if may_stand base e then Some (Refute e) else None
if_within base vars (Some (Forget ids)) = Some (Forget ids)

-- the line that a piece of a file spells: an LF ends it, no variable is past the last one, and it may stand there
abbrev pub parsed : BaseKind → ℕ → Piece → Option Line
parsed base vars piece = if piece.ended then if_within base vars (line_in_bytes piece.bytes) else None

-- ---- what the last line shows

-- the k for which a literal is not e(k): e(k) is the k-th variable after those before the selectors, for k from 1 to steps
abbrev pub step_denied : ℕ → Lit → ℕ → Option ℕ
step_denied steps l k = if l.negated && nat_le 1 k && nat_le k steps then Some k else None

-- for how many steps a clause shows that there is no plan: for all of them where it is empty, for k where it is not e(k)
abbrev pub steps_denied : VariableCounts → List Lit → Option ℕ
steps_denied variables [] = Some variables.steps
steps_denied variables (l ∷ []) = step_denied variables.steps l (l.var - variables.before_selectors)
steps_denied variables (l ∷ m ∷ more) = None

-- ---- the clauses so far

-- the clauses, of which some are live; of each, whether a line derived it; and what the last line shows
pub record SoFar : Type 0 where
  pub store : Store
  pub derived : List Bool
  pub shown : Option ℕ

-- those of the base: all stay, and nothing is shown
abbrev pub at_first : Store → SoFar
at_first base = record { store = base; derived = replicate (length base) false; shown = None }

-- with one clause more
abbrev pub with_clause : SoFar → List Lit → Bool → Option ℕ → SoFar
with_clause s clause derived shown = record {
  store = s.store ++ (clause, true) ∷ [];
  derived = s.derived ++ derived ∷ [];
  shown = shown;
}

-- a line derived the clause of this number, numbers being counted from 1
abbrev pub is_derived : List Bool → ℕ → Bool
is_derived derived zero = false
is_derived derived (suc i) = unwrap_or (slice_get derived i) false

-- the clauses without these, which are taken out in order, or why one is not: it is not live, or it is to stay
abbrev pub forgotten : List Bool → Store → List ℕ → Result Store Reason
forgotten derived store [] = Ok store
forgotten derived store (id ∷ ids) =
    if is_some (live_clause store id)
    then if is_derived derived id then forgotten derived (without store id) ids else Err DropRefused
    else Err UnknownClause

-- ---- what a line does to them

-- with a derived clause, or why its hints don't show it
abbrev pub by_follow : SoFar → List Lit → Option ℕ → Follow → Result SoFar Reason
by_follow s clause shown follow.Yes = Ok (with_clause s clause true shown)
by_follow s clause shown follow.UnknownClause = Err UnknownClause
by_follow s clause shown follow.NotUnit = Err HintNotUnit
by_follow s clause shown follow.NoConflict = Err NoConflict

-- with a clause derived by these hints, showing this, or why they don't show it
abbrev pub derived_by : SoFar → List Lit → List ℕ → Option ℕ → Result SoFar Reason
derived_by s clause hints shown = by_follow s clause shown (follow_of s.store clause hints)

-- with the clause of a cone or a bound, or why it shows nothing
abbrev pub by_evidence : SoFar → Result (List Lit) EvidenceFault → Result SoFar Reason
by_evidence s (Ok clause) = Ok (with_clause s clause false None)
by_evidence s (Err fault) = Err (NotRefuted fault)

-- with these clauses left
abbrev pub by_forget : SoFar → Result Store Reason → Result SoFar Reason
by_forget s (Ok store) = Ok (record { store = store; derived = s.derived; shown = None })
by_forget s (Err reason) = Err reason

-- without the clauses of these numbers, or why one of them stays
abbrev pub forgotten_by : SoFar → List ℕ → Result SoFar Reason
forgotten_by s ids = by_forget s (forgotten s.derived s.store ids)

-- a bad line is the answer, a good one goes on
abbrev pub after_line : ℕ → Result SoFar Reason → (SoFar → CheckResult) → CheckResult
after_line here (Err reason) next = No here reason
after_line here (Ok s) next = next s

-- the answer where no line is left, by what the last one shows
abbrev pub result_at_end : ℕ → Option ℕ → CheckResult
result_at_end here None = No here NoFinalLine
result_at_end here (Some k) = Yes k

-- the head of a file: what its first line spells, where an LF ends it
abbrev pub head_in : List Piece → Option Head
head_in [] = None
head_in (first ∷ more) = if first.ended then head_of first.bytes else None

-- an LF ends the first line, and it is this head
abbrev pub is_headed : Head → Piece → Bool
is_headed head first = first.ended && bytes_eq first.bytes (head_text head)

-- ---- all lines after this head, where cones and bounds show such clauses, over these variables

module _ (head : Head) (refute : Evidence → Result (List Lit) EvidenceFault) (variables : VariableCounts) where
  -- with a line taken, or why it is bad
  abbrev pub taken : SoFar → Option Line → Result SoFar Reason
  taken s None = Err Text
  taken s (Some (Derive clause hints)) = derived_by s clause hints (steps_denied variables clause)
  taken s (Some (Refute e)) = by_evidence s (refute e)
  taken s (Some (Forget ids)) = forgotten_by s ids

  -- what the lines from this place on show
  abbrev pub result_from : ℕ → SoFar → List Piece → CheckResult
  result_from here s [] = result_at_end here s.shown
  result_from here s (piece ∷ more) =
      after_line here (taken s (parsed (base_of head) variables.count piece)) (λ t. result_from (here + 1) t more)

  -- what the lines of a file show, the head being the first of them
  abbrev pub result_of : Store → List Piece → CheckResult
  result_of base [] = No 1 NoFinalLine
  result_of base (first ∷ more) = if is_headed head first then result_from 2 (at_first base) more else No 1 Text

  -- what a file shows over the clauses of a base
  abbrev pub log_verdict : Store → List ℕ → CheckResult
  log_verdict base bytes = result_of base (pieces bytes)
