-- In a file that shows that there is no plan each cone and each bound names what the design has.
use Rattle.std.proofs.Common.{◌≡◌, ℕ, ◌+◌, Bool, true, false, not, suc, zero, List, [], ◌∷◌, All, get_or, Option, Some, None, Result, Ok, Err, is_none, is_some, if◌then◌else◌, refl, sym, ap, ◌∙◌, arith}
use Rattle.rail_base.specs.declared.station.Station.{Station}
use Rattle.rail_base.specs.Numbering.{after_first}
use Rattle.rail_base.proofs.Members.{and_left}
use Rattle.base_spec.specs.Bases.{left_in}
use Rattle.bound_spec.specs.declared.Evidence.{Evidence}
use Rattle.bound_spec.specs.declared.Evidence.TheVariants as evidence
use Rattle.bound_spec.specs.declared.EvidenceFault.{EvidenceFault}
use Rattle.bound_spec.specs.declared.EvidenceFault.TheVariants as of
use Rattle.bound_spec.specs.Validity.{covered, fault_of, first_fault, in_design, is_consistent, names_design, shows_failure}
use Rattle.rail_spec.specs.Track.{routes_of}
use Rattle.rail_text.specs.Pieces.{pieces}
use Rattle.rail_text.specs.Pieces.{Line as Piece}
use Rattle.sat_clause.specs.declared.lit.Lit.{Lit}
use Rattle.sat_clause.specs.Clauses.{Store}
use Rattle.log_checker.specs.declared.check_result.CheckResult.TheVariants.{Yes, No}
use Rattle.log_checker.specs.declared.check_result.Reason.{Reason}
use Rattle.log_checker.specs.declared.check_result.Reason.TheVariants.{HeadDiffers, BaseTooLarge, Text}
use Rattle.log_checker.specs.Verdict.{SoFar, after_line, at_first, by_evidence, head_in, if_within, is_headed, may_stand, result_of, result_from, parsed, taken}
use Rattle.clause_spec.specs.declared.question.BaseKind.{BaseKind}
use Rattle.clause_spec.specs.Clauses.{past_limit}
use Rattle.clause_spec.specs.declared.question.VariableCounts.{VariableCounts}
use Rattle.proof_log.specs.declared.head.Head.{Head}
use Rattle.proof_log.specs.declared.head.Head.TheVariants.{Unnamed, Of}
use Rattle.proof_log.specs.Heads.{base_of}
use Rattle.proof_log.specs.declared.line.Line.{Line}
use Rattle.proof_log.specs.declared.line.Line.TheVariants.{Derive, Refute, Forget}
use Rattle.proof_log.specs.Lines.{line_in_bytes}
use Rattle.proof_judge.specs.Judged.{all_live, clause_said, clauses_under, is_asked_of, fault_of as fault_of_evidence, judged, judged_by, judged_under, not_in_design, refuted, variables_under}
use Rattle.proof_judge.proofs.Showing.{none_of, shown_valid}
use Rattle.cone_spec.specs.Validity as cone
use Rattle.evidence_words.specs.Sentences.{names_what_is_there}
use Rattle.evidence_words.specs.So.{is_valid}
use Rattle.evidence_words.proofs.So.{sentences_deny as deny}
use Rattle.proof_words.specs.Denied.{IsExplained, SentencesOfProofsDeny}
use Rattle.proof_words.specs.Named.{IsNamedPiece, names_line}
use Rattle.proof_words.proofs.Pieces.{in_all}

-- ---- what shows a clause is valid

-- no reason holds against it
abbrev pub IsSound : Station → Evidence → Type 0
IsSound d e = fault_of_evidence d e ≡ None

shows_sound : (kind : BaseKind) (d : Station) (n : ℕ) (e : Evidence) (clause : List Lit) → refuted kind d n e ≡ Ok clause → IsSound d e
shows_sound kind d n e clause h = (shown_valid (fault_of_evidence d e) (not_in_design e) (left_in kind d (routes_of d) n (clause_said d n e)) clause h).0

valid_there : (d : Station) (e : Evidence) → IsSound d e → is_valid d e ≡ true
valid_there d (evidence.Cone c) h = none_of of.Cone (cone.fault_of d (routes_of d) c) h
valid_there d (evidence.Bound b) h = none_of of.Bound (fault_of d (routes_of d) b) h

-- ---- and names what is there

no_fault : (d b e : Bool) → is_none (first_fault d b e) ≡ true → d ≡ true
no_fault false b e h = absurd (cc)
no_fault true b e h = refl

pub names_there : (d : Station) (e : Evidence) → IsSound d e → names_what_is_there d (routes_of d) e ≡ true
names_there d (evidence.Cone c) h = refl
names_there d (evidence.Bound b) h =
    let none = none_of of.Bound (fault_of d (routes_of d) b) h in
    and_left (names_design d (routes_of d) b) (is_consistent d (routes_of d) b) (no_fault (in_design d (routes_of d) b) (covered d (routes_of d) b) (shows_failure d (routes_of d) b) none)

-- ---- the lines that are taken

-- the piece shows the clause of its cone or bound
abbrev pub ShowsClause : (Evidence → Result (List Lit) EvidenceFault) → Piece → Type 0
ShowsClause refute piece = (e : Evidence) → line_in_bytes piece.bytes ≡ Some (Refute e) → (clause : List Lit) × (refute e ≡ Ok clause)

module _ (head : Head) (refute : Evidence → Result (List Lit) EvidenceFault) (variables : VariableCounts) where
  -- a cone or a bound of a line that is taken shows a clause
  evidence_taken : (s t : SoFar) (ending_of : Bool) (line : Option Line) (e : Evidence) → line ≡ Some (Refute e)
      → taken head refute variables s (if ending_of then if_within (base_of head) variables.count line else None) ≡ Ok t → (clause : List Lit) × (refute e ≡ Ok clause)
  evidence_taken s t false line e is ok = absurd (cc)
  evidence_taken s t true line e is ok = stands (may_stand (base_of head) e) (sym (ap (λ l. taken head refute variables s (if_within (base_of head) variables.count l)) is) ∙ ok)
    where
      by : (r : Result (List Lit) EvidenceFault) → refute e ≡ r → by_evidence s r ≡ Ok t → (clause : List Lit) × (refute e ≡ Ok clause)
      by (Ok clause) h ok = (clause, h)
      by (Err fault) h ok = absurd (cc)

      stands : (b : Bool) → taken head refute variables s (if b then Some (Refute e) else None) ≡ Ok t → (clause : List Lit) × (refute e ≡ Ok clause)
      stands false ok = absurd (cc)
      stands true ok = by (refute e) refl ok

  piece_taken : (s t : SoFar) (piece : Piece) → taken head refute variables s (parsed (base_of head) variables.count piece) ≡ Ok t → ShowsClause refute piece
  piece_taken s t piece ok e is = evidence_taken s t piece.ended (line_in_bytes piece.bytes) e is ok

  all_before : (p : Piece) (ps : List Piece) → ShowsClause refute p → All (ShowsClause refute) ps → All (ShowsClause refute) (p ∷ ps)
  all_before p ps first more zero other less = first
  all_before p ps first more (suc i) other less = more i other (omega arith)

  pub all_taken : (here k : ℕ) (s : SoFar) (ps : List Piece) → result_from head refute variables here s ps ≡ Yes k → All (ShowsClause refute) ps
  all_taken here k s [] found = λ i other less. absurd (omega arith)
  all_taken here k s (p ∷ ps) found = next (taken head refute variables s (parsed (base_of head) variables.count p)) refl found (λ t later. all_taken (here + 1) k t ps later)
    where
      next : (r : Result SoFar Reason) → taken head refute variables s (parsed (base_of head) variables.count p) ≡ r → after_line here r (λ t. result_from head refute variables (here + 1) t ps) ≡ Yes k
          → ((t : SoFar) → result_from head refute variables (here + 1) t ps ≡ Yes k → All (ShowsClause refute) ps) → All (ShowsClause refute) (p ∷ ps)
      next (Err reason) is found more = absurd (cc)
      next (Ok t) is found more = all_before p ps (piece_taken s t p is) (more t found)

  pub all_shown : (k : ℕ) (base : Store) (ps : List Piece) → result_of head refute variables base ps ≡ Yes k → All (ShowsClause refute) (after_first ps)
  all_shown k base [] found = absurd (cc)
  all_shown k base (p ∷ ps) found = go (is_headed head p) found
    where
      go : (b : Bool) → (if b then result_from head refute variables 2 (at_first base) ps else No 1 Text) ≡ Yes k → All (ShowsClause refute) ps
      go false found = absurd (cc)
      go true found = all_taken 2 k (at_first base) ps found

-- ---- the file

module _ (d : Station) (n : ℕ) where
  named_line : (line : Line) → ((e : Evidence) → line ≡ Refute e → names_what_is_there d (routes_of d) e ≡ true) → names_line d line ≡ true
  named_line (Derive clause hints) h = refl
  named_line (Refute e) h = h e refl
  named_line (Forget clauses) h = refl

  -- no reason holds against a cone or a bound that the piece spells
  abbrev SpellsSound : Piece → Type 0
  SpellsSound piece = (e : Evidence) → line_in_bytes piece.bytes ≡ Some (Refute e) → IsSound d e

  piece_named : (p : Piece) → SpellsSound p → IsNamedPiece d p
  piece_named p sound line is = named_line line (λ e same. names_there d e (sound e (is ∙ ap Some same)))

  -- so it is with all lines
  abbrev AllShow : List ℕ → Type 0
  AllShow bytes = All SpellsSound (after_first (pieces bytes))

  under_shown : (head : Head) (bytes : List ℕ) (k : ℕ) → judged_under head d n bytes ≡ Yes k → AllShow bytes
  under_shown head bytes k found i other less =
      let shows = all_shown head (refuted (base_of head) d n) (variables_under head d n) k (all_live (clauses_under head d n)) (pieces bytes) found i other less in
      λ e is. let c = shows e is in shows_sound (base_of head) d n e c.0 c.1

  by_shown : (bytes : List ℕ) (head : Option Head) (k : ℕ) → judged_by d n bytes head ≡ Yes k → AllShow bytes
  by_shown bytes None k found = under_shown Unnamed bytes k found
  by_shown bytes (Some Unnamed) k found = under_shown Unnamed bytes k found
  by_shown bytes (Some (Of q)) k found = differs (not (is_asked_of q d n)) found
    where
      large : (b : Bool) → (if b then No 1 BaseTooLarge else judged_under (Of q) d n bytes) ≡ Yes k → AllShow bytes
      large true found = absurd (cc)
      large false found = under_shown (Of q) bytes k found

      differs : (b : Bool) → (if b then No 1 HeadDiffers else if is_some (past_limit 16000000 0 (clauses_under (Of q) d n)) then No 1 BaseTooLarge else judged_under (Of q) d n bytes) ≡ Yes k → AllShow bytes
      differs true found = absurd (cc)
      differs false found = large (is_some (past_limit 16000000 0 (clauses_under (Of q) d n))) found

  judged_shown : (bytes : List ℕ) (k : ℕ) → judged d n bytes ≡ Yes k → AllShow bytes
  judged_shown bytes k found = by_shown bytes (head_in (pieces bytes)) k found

  -- where a file shows k, each cone and bound of its lines names what the design has
  pub judged_named : (bytes : List ℕ) (k : ℕ) → judged d n bytes ≡ Yes k → All (IsNamedPiece d) (after_first (pieces bytes))
  judged_named bytes k found i other less = piece_named (get_or (after_first (pieces bytes)) i other) (judged_shown bytes k found i other less)

  -- and is valid
  pub judged_valid : (bytes : List ℕ) (k : ℕ) → judged d n bytes ≡ Yes k → (e : Evidence) → IsExplained bytes e → is_valid d e ≡ true
  judged_valid bytes k found e is =
      valid_there d e (in_all SpellsSound (after_first (pieces bytes)) (judged_shown bytes k found) is.piece is.there e is.spells)

pub proofs_deny : SentencesOfProofsDeny
proofs_deny d admitted n k bytes found e is m plan so feasible = deny d admitted m plan feasible e (judged_valid d n bytes k found e is) so
