-- The text of a search for a plan of n steps: a head, and a line for each clause that is derived, forgotten, or shown by a cone or a bound.
use Rattle.std.specs.Prelude.{ℕ, ◌≡◌, ◌+◌, ◌≤◌, Bool, true, false, List, [], ◌∷◌, ◌++◌, filter, flat_map, length}
use Rattle.std.specs.Prelude.{nat_le, Some, Result, Ok, ◌⊎◌}
use Rattle.std.proofs.Common.{inl, inr}
use Rattle.std.specs.List.{list_all}
use Rattle.bound_spec.specs.declared.Evidence.{Evidence}
use Rattle.bound_spec.specs.declared.EvidenceFault.{EvidenceFault}
use Rattle.clause_spec.specs.declared.question.VariableCounts.{VariableCounts}
use Rattle.sat_clause.specs.declared.lit.Lit.{Lit}
use Rattle.sat_clause.specs.declared.follow.Follow.TheVariants.{Yes}
use Rattle.sat_clause.specs.Clauses.{Store, live_clause, without}
use Rattle.sat_clause.specs.Closed.{IsNew}
use Rattle.sat_clause.specs.Hints.{follow_of}
use Rattle.sat_core.specs.Lines.{Derived, Entry, MayForget, derived_text}
use Rattle.sat_core.specs.Texts.{ended, forget_line}
use Rattle.proof_log.specs.declared.line.Line.TheVariants.{Derive, Refute, Forget}
use Rattle.proof_log.specs.declared.head.Head.{Head}
use Rattle.proof_log.specs.Heads.{base_of, head_text}
use Rattle.proof_log.specs.Text.{keeps_grammar, text_of_line}
use Rattle.log_checker.specs.Verdict.{may_stand, steps_denied}

-- ---- lines

-- a line of a search: a clause that was derived, the number of one that was forgotten, or a cone or a bound with the clause that it shows
pub data LogLine : Type 0 where
  Learnt : Derived → LogLine
  Forgot : ℕ → LogLine
  Refuted : Evidence → List Lit → LogLine

-- the line of what a solver records
abbrev pub log_line_of : Entry → LogLine
log_line_of (inl d) = Learnt d
log_line_of (inr id) = Forgot id

-- its text, with its end
abbrev pub line_text : LogLine → List ℕ
line_text (Learnt d) = derived_text d
line_text (Forgot id) = forget_line id
line_text (Refuted e clause) = ended (text_of_line (Refute e))

-- the head, and then each line
abbrev pub log_text : Head → List LogLine → List ℕ
log_text head lines = ended (head_text head) ++ flat_map line_text lines

-- the clauses after a line
abbrev pub with_line : Store → LogLine → Store
with_line store (Learnt d) = store ++ (d.0, true) ∷ []
with_line store (Forgot id) = without store id
with_line store (Refuted e clause) = store ++ (clause, true) ∷ []

-- the clauses after all lines
abbrev pub with_log : Store → List LogLine → Store
with_log store [] = store
with_log store (l ∷ ls) = with_log (with_line store l) ls

-- the numbers of the derived clauses after a line
abbrev pub learnt_by : Store → List ℕ → LogLine → List ℕ
learnt_by store learnt (Learnt d) = learnt ++ length (store ++ (d.0, true) ∷ []) ∷ []
learnt_by store learnt (Forgot id) = learnt
learnt_by store learnt (Refuted e clause) = learnt

-- the numbers of the derived clauses after all lines
abbrev pub learnt_in : Store → List ℕ → List LogLine → List ℕ
learnt_in store learnt [] = learnt
learnt_in store learnt (l ∷ ls) = learnt_in (with_line store l) (learnt_by store learnt l) ls

-- a clause was derived
abbrev pub is_learnt : LogLine → Bool
is_learnt (Learnt d) = true
is_learnt (Forgot id) = false
is_learnt (Refuted e clause) = false

-- how many clauses were derived
abbrev pub learnt_count : List LogLine → ℕ
learnt_count lines = length (filter is_learnt lines)

-- the cones and bounds, in order
abbrev pub evidence_of : List LogLine → List Evidence
evidence_of [] = []
evidence_of (Learnt d ∷ ls) = evidence_of ls
evidence_of (Forgot id ∷ ls) = evidence_of ls
evidence_of (Refuted e clause ∷ ls) = e ∷ evidence_of ls

-- ---- which lines may stand where

-- a good line over the clauses so far: it follows by its hints, keeps the grammar, and names no variable past the last one
pub record IsGoodLine (vars : ℕ) (store : Store) (d : Derived) : Type 0 where
  pub follows : follow_of store d.0 d.1 ≡ Yes
  pub written : keeps_grammar (Derive d.0 d.1) ≡ true
  pub within : list_all (λ l. nat_le l.var vars) d.0 ≡ true

-- e(k), the literal that all is given by step k
abbrev pub by_step : VariableCounts → ℕ → Lit
by_step variables k = record { var = variables.before_selectors + k; negated = false }

-- a literal of a variable of the base that does not say that all is given by the last step
pub record IsInner (variables : VariableCounts) (l : Lit) : Type 0 where
  pub low : 1 ≤ l.var
  pub high : l.var ≤ variables.count
  pub not_last : l.var ≡ variables.before_selectors + variables.steps → ⊥

-- the clause says that there is no plan of some number of steps, and no live clause is the same
pub record IsDenial (variables : VariableCounts) (store : Store) (clause : List Lit) : Type 0 where
  pub steps : ℕ
  pub denied : steps_denied variables clause ≡ Some steps
  pub unknown : (id : ℕ) → live_clause store id ≡ Some clause → ⊥

-- a good line that goes on: its clause is new, or denies some number of steps for the first time, but not all of them
pub record GoesOn (variables : VariableCounts) (store : Store) (d : Derived) : Type 0 where
  pub good : IsGoodLine variables.count store d
  pub is_new : IsNew store d.0 ⊎ IsDenial variables store d.0
  pub not_last : steps_denied variables d.0 ≡ Some variables.steps → ⊥

-- a good line that says that there is no plan of all steps
pub record IsLast (variables : VariableCounts) (store : Store) (d : Derived) : Type 0 where
  pub good : IsGoodLine variables.count store d
  pub last : steps_denied variables d.0 ≡ Some variables.steps

-- a derived clause that may be forgotten, so that at least half of those derived so far stay live
pub record IsGoodForget (store : Store) (learnt : List ℕ) (id : ℕ) : Type 0 where
  pub may : MayForget store learnt id
  pub written : keeps_grammar (Forget (id ∷ [])) ≡ true

-- a cone or a bound that shows the clause, keeps the grammar, and may stand in a file with this head
pub record IsGoodEvidence (head : Head) (refute : Evidence → Result (List Lit) EvidenceFault)
    (e : Evidence) (clause : List Lit) : Type 0 where
  pub shows : refute e ≡ Ok clause
  pub written : keeps_grammar (Refute e) ≡ true
  pub stands : may_stand (base_of head) e ≡ true

-- ---- logs with this head, where cones and bounds show such clauses, over a base of clauses of these variables

module _ (head : Head) (refute : Evidence → Result (List Lit) EvidenceFault) (variables : VariableCounts) where
  -- the line may stand after these clauses, of which those of these numbers were derived
  abbrev pub MayStand : Store → List ℕ → LogLine → Type 0
  MayStand store learnt (Learnt d) = GoesOn variables store d
  MayStand store learnt (Forgot id) = IsGoodForget store learnt id
  MayStand store learnt (Refuted e clause) = IsGoodEvidence head refute e clause

  -- each line may stand after the clauses before it
  abbrev pub AllGoOn : Store → List ℕ → List LogLine → Type 0
  AllGoOn store learnt [] = Unit {0}
  AllGoOn store learnt (l ∷ ls) = MayStand store learnt l × AllGoOn (with_line store l) (learnt_by store learnt l) ls

  -- the bytes are a run log of these lines: the head, and lines that go on
  pub record IsRunLog (base : Store) (lines : List LogLine) (log : List ℕ) : Type 0 where
    pub text : log ≡ log_text head lines
    pub go_on : AllGoOn base [] lines

  -- the bytes are a run log of these lines, with the line that ends it
  pub record IsEndedLog (base : Store) (lines : List LogLine) (log : List ℕ) : Type 0 where
    pub last : Derived
    pub text : log ≡ log_text head (lines ++ Learnt last ∷ [])
    pub go_on : AllGoOn base [] lines
    pub is_last : IsLast variables (with_log base lines) last

-- a derived line that may come next: it goes on, or is the last
abbrev pub MayComeNext : Store → VariableCounts → List LogLine → Derived → Type 0
MayComeNext base variables lines d = GoesOn variables (with_log base lines) d ⊎ IsLast variables (with_log base lines) d
