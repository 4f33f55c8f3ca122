-- Lines that go on, and then a last one, are a file that shows n.
use Rattle.std.proofs.Common.{◌≡◌, ℕ, zero, suc, ◌+◌, ◌≤◌, Bool, true, false, ◌||◌, List, [], ◌∷◌, ◌++◌, flat_map, length, Some, None, is_some, Ok, Result, ◌⊎◌, inl, inr, refl, sym, ap, ◌∙◌, subst, arith, length-append}
use Rattle.std.specs.Prelude.{nat_eq, replicate, if◌then◌else◌}
use Rattle.std.proofs.lemmas.Bool.Decides.{eqb_tells}
use Rattle.std.proofs.lemmas.Slice.Eq.{bytes_eq-Decides}
use Rattle.sat_trail.proofs.Rows.{among-append}
use Rattle.sat_core.proofs.Forgets.{without-length}
use Rattle.rail_text.specs.Pieces.{pieces, pieces_from}
use Rattle.rail_text.specs.Pieces.{Line as Piece}
use Rattle.clause_spec.specs.declared.question.VariableCounts.{VariableCounts}
use Rattle.sat_clause.specs.declared.lit.Lit.{Lit}
use Rattle.bound_spec.specs.declared.Evidence.{Evidence}
use Rattle.bound_spec.specs.declared.EvidenceFault.{EvidenceFault}
use Rattle.proof_log.specs.declared.head.Head.{Head}
use Rattle.sat_clause.specs.Clauses.{Store, live_clause, without}
use Rattle.sat_trail.specs.Attached.{is_among}
use Rattle.sat_core.specs.Lines.{Derived, derived_text}
use Rattle.sat_core.specs.Texts.{ended}
use Rattle.proof_log.specs.declared.line.Line.{Line}
use Rattle.proof_log.specs.declared.line.Line.TheVariants.{Derive, Refute, Forget}
use Rattle.proof_log.specs.Heads.{base_of, head_text, keeps_head}
use Rattle.proof_log.proofs.Heads.{read-back}
use Rattle.rail_text.specs.Laws.{NumbersReadBack}
use Rattle.proof_log.specs.Lines.{line_in_bytes}
use Rattle.proof_log.specs.Laws.{LinesReadBack}
use Rattle.proof_log.specs.Text.{text_of_line}
use Rattle.log_checker.specs.declared.check_result.CheckResult.TheVariants.{Yes, No}
use Rattle.log_checker.specs.declared.check_result.Reason.TheVariants.{Text}
use Rattle.log_checker.specs.Verdict.{SoFar, at_first, with_clause, is_derived, forgotten, if_within, parsed, by_evidence, by_forget, taken, steps_denied, result_at_end, after_line, head_in, result_from, result_of}
use Rattle.log_recorder.specs.Logs.{LogLine, Learnt, Forgot, Refuted, line_text, log_text, with_log, IsGoodLine, IsGoodForget, IsGoodEvidence, AllGoOn, IsLast}
use Rattle.log_recorder.specs.Laws.{EndedRunsAreAccepted}
use Rattle.log_recorder.proofs.Lines.{is_one_line, first-piece, line-apart, forget-apart, evidence-apart, head-apart}

-- the piece that a line is
abbrev piece_of : ℕ → Line → Piece
piece_of place line = record { line = place; ended = true; bytes = text_of_line line }

-- ---- which clauses were derived

is_derived-append : (flags : List Bool) (b : Bool) (id : ℕ) → id ≤ length flags → is_derived (flags ++ b ∷ []) id ≡ is_derived flags id
is_derived-append flags b zero le = refl
is_derived-append [] b (suc i) le = absurd (omega (arith, le))
is_derived-append (f ∷ fs) b (suc zero) le = refl
is_derived-append (f ∷ fs) b (suc (suc i)) le = is_derived-append fs b (suc i) (omega (arith, le))

is_derived-last : (flags : List Bool) (b : Bool) → is_derived (flags ++ b ∷ []) (suc (length flags)) ≡ b
is_derived-last [] b = refl
is_derived-last (f ∷ fs) b = is_derived-last fs b

-- each of these numbers is that of a clause that a line derived
record AreFlagged (flags : List Bool) (learnt : List ℕ) (store : Store) : Type 0 where
  same_length : length flags ≡ length store
  within : (id : ℕ) → is_among learnt id ≡ true → id ≤ length store
  flagged : (id : ℕ) → is_among learnt id ≡ true → is_derived flags id ≡ true

prefix : (a b : Bool) → (a || (b || false)) ≡ true → b ≡ false → a ≡ true
prefix true b h e = refl
prefix false true h e = absurd (cc)
prefix false false h e = absurd (cc)

pub among-one : (xs : List ℕ) (k id : ℕ) → is_among (xs ++ k ∷ []) id ≡ true → (is_among xs id ≡ true) ⊎ (id ≡ k)
among-one xs k id h = elim (eqb_tells id k) [
  | inl p ↦ inr p.1
  | inr p ↦ inl (prefix (is_among xs id) (nat_eq id k) (sym (among-append xs (k ∷ []) id) ∙ h) p.0)
]

length-one : (store : Store) (c : List Lit) → length (store ++ (c, true) ∷ []) ≡ length store + 1
length-one store c = length-append store ((c, true) ∷ [])

longer : (flags : List Bool) (b : Bool) (store : Store) (c : List Lit) → length flags ≡ length store → length (flags ++ b ∷ []) ≡ length (store ++ (c, true) ∷ [])
longer flags b store c e = let l = length-append flags (b ∷ []) in let m = length-one store c in omega arith

-- with a derived clause
flagged-learnt : (flags : List Bool) (learnt : List ℕ) (store : Store) (c : List Lit) → AreFlagged flags learnt store → AreFlagged (flags ++ true ∷ []) (learnt ++ length (store ++ (c, true) ∷ []) ∷ []) (store ++ (c, true) ∷ [])
flagged-learnt flags learnt store c f = record {
  same_length = longer flags true store c f.same_length;
  within = λ id h. elim (among-one learnt (length (store ++ (c, true) ∷ [])) id h) [
    | inl p ↦ (let m = length-one store c in let w = f.within id p in omega arith)
    | inr q ↦ omega (arith, q)
  ];
  flagged = λ id h. elim (among-one learnt (length (store ++ (c, true) ∷ [])) id h) [
    | inl p ↦ (let w = f.within id p in let e = f.same_length in is_derived-append flags true id (omega arith) ∙ f.flagged id p)
    | inr q ↦ (
        let m = length-one store c in
        let e = f.same_length in
        let at : suc (length flags) ≡ id = omega (arith, q) in
        subst (λ z. is_derived (flags ++ true ∷ []) z ≡ true) at (is_derived-last flags true))
  ];
}

-- with the clause of a cone
flagged-cone : (flags : List Bool) (learnt : List ℕ) (store : Store) (c : List Lit) → AreFlagged flags learnt store → AreFlagged (flags ++ false ∷ []) learnt (store ++ (c, true) ∷ [])
flagged-cone flags learnt store c f = record {
  same_length = longer flags false store c f.same_length;
  within = λ id h. (let m = length-one store c in let w = f.within id h in omega arith);
  flagged = λ id h. (let w = f.within id h in let e = f.same_length in is_derived-append flags false id (omega arith) ∙ f.flagged id h);
}

-- without one
flagged-forget : (flags : List Bool) (learnt : List ℕ) (store : Store) (id : ℕ) → AreFlagged flags learnt store → AreFlagged flags learnt (without store id)
flagged-forget flags learnt store id f =
    let l = without-length store id in record {
      same_length = (let e = f.same_length in omega arith);
      within = λ k h. (let w = f.within k h in omega arith);
      flagged = f.flagged;
    }

length-flags : (base : Store) → length (replicate (length base) false) ≡ length base
length-flags [] = refl
length-flags (e ∷ es) = ap suc (length-flags es)

flagged-first : (base : Store) → AreFlagged (at_first base).derived [] base
flagged-first base = record { same_length = length-flags base; within = λ id h. absurd (cc); flagged = λ id h. absurd (cc) }

forgets-one : (flags : List Bool) (store : Store) (id : ℕ) → is_some (live_clause store id) ≡ true → is_derived flags id ≡ true → forgotten flags store (id ∷ []) ≡ Ok (without store id)
forgets-one flags store id a b = rw (a, b) refl

module _ (head : Head) (refute : Evidence → Result (List Lit) EvidenceFault) (variables : VariableCounts) (back : LinesReadBack) where
  -- the clauses with that of a derived line
  abbrev after : SoFar → Derived → SoFar
  after s d = with_clause s d.0 true (steps_denied variables d.0)

  -- the clauses with that of a cone
  abbrev after_cone : SoFar → List Lit → SoFar
  after_cone s clause = with_clause s clause false None

  -- a good line is taken
  good-takes : (place : ℕ) (s : SoFar) (d : Derived) → IsGoodLine variables.count s.store d → taken head refute variables s (parsed (base_of head) variables.count (piece_of place (Derive d.0 d.1))) ≡ Ok (after s d)
  good-takes place s d g =
      let read : line_in_bytes (text_of_line (Derive d.0 d.1)) ≡ Some (Derive d.0 d.1) = back (Derive d.0 d.1) g.written in
      ap (λ o. taken head refute variables s (if_within (base_of head) variables.count o)) read ∙ rw (g.within, g.follows) refl

  -- a good cone is taken
  cone-takes : (place : ℕ) (s : SoFar) (cone : Evidence) (clause : List Lit) → IsGoodEvidence head refute cone clause → taken head refute variables s (parsed (base_of head) variables.count (piece_of place (Refute cone))) ≡ Ok (after_cone s clause)
  cone-takes place s cone clause g =
      let read : line_in_bytes (text_of_line (Refute cone)) ≡ Some (Refute cone) = back (Refute cone) g.written in
      ap (λ o. taken head refute variables s (if_within (base_of head) variables.count o)) read ∙ ap (λ b. taken head refute variables s (if b then Some (Refute cone) else None)) g.stands ∙ ap (by_evidence s) g.shows

  -- what is shown after a line that is taken is what the rest shows
  taken-step : (here place : ℕ) (s t : SoFar) (line : Line) (rest : List ℕ) → is_one_line (text_of_line line) ≡ true → taken head refute variables s (parsed (base_of head) variables.count (piece_of place line)) ≡ Ok t
      → result_from head refute variables here s (pieces_from place (ended (text_of_line line) ++ rest)) ≡ result_from head refute variables (here + 1) t (pieces_from (place + 1) rest)
  taken-step here place s t line rest h e =
      ap (result_from head refute variables here s) (first-piece place (text_of_line line) rest h)
      ∙ ap (λ r. after_line here r (λ u. result_from head refute variables (here + 1) u (pieces_from (place + 1) rest))) e

  -- so it is with a good line
  good-step : (here place : ℕ) (s : SoFar) (d : Derived) (rest : List ℕ) → IsGoodLine variables.count s.store d
      → result_from head refute variables here s (pieces_from place (derived_text d ++ rest)) ≡ result_from head refute variables (here + 1) (after s d) (pieces_from (place + 1) rest)
  good-step here place s d rest g = taken-step here place s (after s d) (Derive d.0 d.1) rest (line-apart d.0 d.1 g.written) (good-takes place s d g)

  -- and with a good cone
  cone-step : (here place : ℕ) (s : SoFar) (cone : Evidence) (clause : List Lit) (rest : List ℕ) → IsGoodEvidence head refute cone clause
      → result_from head refute variables here s (pieces_from place (line_text (Refuted cone clause) ++ rest)) ≡ result_from head refute variables (here + 1) (after_cone s clause) (pieces_from (place + 1) rest)
  cone-step here place s cone clause rest g = taken-step here place s (after_cone s clause) (Refute cone) rest (evidence-apart cone g.written) (cone-takes place s cone clause g)

  -- the clauses without one
  abbrev after_forget : SoFar → ℕ → SoFar
  after_forget s id = record { store = without s.store id; derived = s.derived; shown = None }

  -- a clause that may be forgotten is taken out
  forget-takes : (place : ℕ) (s : SoFar) (learnt : List ℕ) (id : ℕ) → AreFlagged s.derived learnt s.store → IsGoodForget s.store learnt id
      → taken head refute variables s (parsed (base_of head) variables.count (piece_of place (Forget (id ∷ [])))) ≡ Ok (after_forget s id)
  forget-takes place s learnt id f g =
      let read : line_in_bytes (text_of_line (Forget (id ∷ []))) ≡ Some (Forget (id ∷ [])) = back (Forget (id ∷ [])) g.written in
      ap (λ o. taken head refute variables s (if_within (base_of head) variables.count o)) read
      ∙ ap (by_forget s) (forgets-one s.derived s.store id g.may.is_live (f.flagged id g.may.is_learnt))

  -- and what is shown after it
  forget-step : (here place : ℕ) (s : SoFar) (learnt : List ℕ) (id : ℕ) (rest : List ℕ) → AreFlagged s.derived learnt s.store → IsGoodForget s.store learnt id
      → result_from head refute variables here s (pieces_from place (line_text (Forgot id) ++ rest)) ≡ result_from head refute variables (here + 1) (after_forget s id) (pieces_from (place + 1) rest)
  forget-step here place s learnt id rest f g = taken-step here place s (after_forget s id) (Forget (id ∷ [])) rest (forget-apart (id ∷ []) g.written) (forget-takes place s learnt id f g)

  -- the last line alone
  last-shown : (here place : ℕ) (s : SoFar) (d : Derived) → IsLast variables s.store d → result_from head refute variables here s (pieces_from place (derived_text d ++ [])) ≡ Yes variables.steps
  last-shown here place s d l = good-step here place s d [] l.good ∙ ap (result_at_end (here + 1)) l.last

  -- the lines, and then the last one
  all-shown : (here place : ℕ) (s : SoFar) (learnt : List ℕ) (lines : List LogLine) (d : Derived) → AreFlagged s.derived learnt s.store → AllGoOn head refute variables s.store learnt lines → IsLast variables (with_log s.store lines) d
      → result_from head refute variables here s (pieces_from place (flat_map line_text (lines ++ Learnt d ∷ []))) ≡ Yes variables.steps
  all-shown here place s learnt [] d f a l = last-shown here place s d l
  all-shown here place s learnt (Learnt m ∷ ms) d f a l =
      good-step here place s m (flat_map line_text (ms ++ Learnt d ∷ [])) a.0.good
      ∙ all-shown (here + 1) (place + 1) (after s m) (learnt ++ length (s.store ++ (m.0, true) ∷ []) ∷ []) ms d (flagged-learnt s.derived learnt s.store m.0 f) a.1 l
  all-shown here place s learnt (Forgot id ∷ ms) d f a l =
      forget-step here place s learnt id (flat_map line_text (ms ++ Learnt d ∷ [])) f a.0
      ∙ all-shown (here + 1) (place + 1) (after_forget s id) learnt ms d (flagged-forget s.derived learnt s.store id f) a.1 l
  all-shown here place s learnt (Refuted cone clause ∷ ms) d f a l =
      cone-step here place s cone clause (flat_map line_text (ms ++ Learnt d ∷ [])) a.0
      ∙ all-shown (here + 1) (place + 1) (after_cone s clause) learnt ms d (flagged-cone s.derived learnt s.store clause f) a.1 l

pub accepted : LinesReadBack → EndedRunsAreAccepted
accepted back head refute variables base lines d keeps a l =
    ap (result_of head refute variables base) (first-piece 1 (head_text head) (flat_map line_text (lines ++ Learnt d ∷ [])) (head-apart head keeps))
    ∙ ap (λ b. if b then result_from head refute variables 2 (at_first base) (pieces_from 2 (flat_map line_text (lines ++ Learnt d ∷ []))) else No 1 Text) ((bytes_eq-Decides (head_text head) (head_text head)).1 refl)
    ∙ all-shown head refute variables back 2 2 (at_first base) [] lines d (flagged-first base) a l

-- a log is a file with its head
pub headed : NumbersReadBack → (head : Head) → keeps_head head ≡ true → (lines : List LogLine) → head_in (pieces (log_text head lines)) ≡ Some head
headed back head keeps lines = ap head_in (first-piece 1 (head_text head) (flat_map line_text lines) (head-apart head keeps)) ∙ read-back back head keeps
