-- What a file shows is so.
use Rattle.std.proofs.Common.{◌≡◌, ℕ, ◌+◌, Bool, true, false, List, [], ◌∷◌, if◌then◌else◌, is_some, Option, Some, None, Result, Ok, Err, refl, subst}
use Rattle.rail_text.specs.Pieces.{pieces}
use Rattle.rail_text.specs.Pieces.{Line as Piece}
use Rattle.bound_spec.specs.declared.Evidence.{Evidence}
use Rattle.bound_spec.specs.declared.EvidenceFault.{EvidenceFault}
use Rattle.proof_log.specs.declared.head.Head.{Head}
use Rattle.proof_log.specs.Heads.{base_of}
use Rattle.clause_spec.specs.declared.question.VariableCounts.{VariableCounts}
use Rattle.sat_clause.specs.declared.lit.Lit.{Lit}
use Rattle.sat_clause.specs.declared.follow.Follow.{Follow}
use Rattle.sat_clause.specs.declared.follow.Follow.TheVariants as follow
use Rattle.sat_clause.specs.Clauses.{Store, clause_holds, live_clause, without}
use Rattle.sat_clause.specs.Hints.{follow_of}
use Rattle.proof_log.specs.declared.line.Line.{Line}
use Rattle.proof_log.specs.declared.line.Line.TheVariants.{Derive, Refute, Forget}
use Rattle.log_checker.specs.declared.check_result.CheckResult.TheVariants.{Yes, No}
use Rattle.log_checker.specs.declared.check_result.Reason.{Reason}
use Rattle.log_checker.specs.declared.check_result.Reason.TheVariants as reason
use Rattle.log_checker.specs.Truth.{clauses_hold}
use Rattle.log_checker.specs.Verdict.{SoFar, at_first, with_clause, is_derived, forgotten, parsed, by_follow, by_evidence, by_forget, taken, steps_denied, result_at_end, after_line, result_from, is_headed, result_of}
use Rattle.log_checker.specs.Laws.{AllHold, Denies, CheckIsSound}
use Rattle.log_checker.proofs.Kept.{follows-true, push-holds, without-holds}
use Rattle.log_checker.proofs.Denied.{clause-denies}

forget-step : (values : ℕ → Bool) (left : Store) (further : Result Store Reason) (a b : Bool) → (if a then if b then further else Err reason.DropRefused else Err reason.UnknownClause) ≡ Ok left → (further ≡ Ok left → clauses_hold values left ≡ true) → clauses_hold values left ≡ true
forget-step values left further true true e go = go e
forget-step values left further true false e go = absurd (cc)
forget-step values left further false b e go = absurd (cc)

-- taking clauses out leaves them true
forgets : (values : ℕ → Bool) (derived : List Bool) (store left : Store) (ids : List ℕ) → forgotten derived store ids ≡ Ok left → clauses_hold values store ≡ true → clauses_hold values left ≡ true
forgets values derived store left [] e h = let same : store ≡ left = cc in subst (λ s. clauses_hold values s ≡ true) same h
forgets values derived store left (id ∷ ids) e h =
    forget-step values left (forgotten derived (without store id) ids) (is_some (live_clause store id)) (is_derived derived id) e
    (λ f. forgets values derived (without store id) left ids f (without-holds values store id h))

module _ (head : Head) (refute : Evidence → Result (List Lit) EvidenceFault) (variables : VariableCounts) (base : Store) where
  -- all clauses are true wherever those of the base and of the cones are, and what is shown is denied
  record IsSo (s : SoFar) : Type 0 where
    holds : (values : ℕ → Bool) → AllHold refute values base → clauses_hold values s.store ≡ true
    denied : (k : ℕ) → s.shown ≡ Some k → Denies refute variables base k

  begins : IsSo (at_first base)
  begins = record { holds = λ values h. h.clauses; denied = λ k e. absurd (cc) }

  -- a clause more, which is true
  goes-on : (s : SoFar) (clause : List Lit) (derived : Bool) (shown : Option ℕ) → IsSo s → ((values : ℕ → Bool) → AllHold refute values base → clause_holds values clause ≡ true)
      → ((k : ℕ) → shown ≡ Some k → Denies refute variables base k) → IsSo (with_clause s clause derived shown)
  goes-on s clause derived shown so is_true denied = record { holds = λ values h. push-holds values s.store clause (so.holds values h) (is_true values h); denied = denied }

  by-clause : (clause : List Lit) → ((values : ℕ → Bool) → AllHold refute values base → clause_holds values clause ≡ true) → (k : ℕ) → steps_denied variables clause ≡ Some k → Denies refute variables base k
  by-clause clause is_true k e =
      let d = clause-denies variables clause k e in
      record { at_most_steps = d.at_most_steps; least = d.least; never = λ values h g. d.never values (is_true values h) g }

  followed : (s t : SoFar) (clause : List Lit) (hints : List ℕ) (answer : Follow) → IsSo s → follow_of s.store clause hints ≡ answer → by_follow s clause (steps_denied variables clause) answer ≡ Ok t → IsSo t
  followed s t clause hints follow.Yes so y e =
      let same : with_clause s clause true (steps_denied variables clause) ≡ t = cc in
      let is_true : (values : ℕ → Bool) → AllHold refute values base → clause_holds values clause ≡ true = λ values h. follows-true values s.store clause hints y (so.holds values h) in
      subst IsSo same (goes-on s clause true (steps_denied variables clause) so is_true (by-clause clause is_true))
  followed s t clause hints follow.UnknownClause so y e = absurd (cc)
  followed s t clause hints follow.NotUnit so y e = absurd (cc)
  followed s t clause hints follow.NoConflict so y e = absurd (cc)

  refuted : (s t : SoFar) (e : Evidence) (r : Result (List Lit) EvidenceFault) → IsSo s → refute e ≡ r → by_evidence s r ≡ Ok t → IsSo t
  refuted s t shown (Ok clause) so r e =
      let same : with_clause s clause false None ≡ t = cc in
      subst IsSo same (goes-on s clause false None so (λ values h. h.holds_of_evidence shown clause r) (λ k n. absurd (cc)))
  refuted s t shown (Err fault) so r e = absurd (cc)

  forgot : (s t : SoFar) (ids : List ℕ) (r : Result Store Reason) → IsSo s → forgotten s.derived s.store ids ≡ r → by_forget s r ≡ Ok t → IsSo t
  forgot s t ids (Ok left) so r e =
      let after : SoFar = record { store = left; derived = s.derived; shown = None } in
      let same : after ≡ t = cc in
      subst IsSo same (record { holds = λ values h. forgets values s.derived s.store left ids r (so.holds values h); denied = λ k n. absurd (cc) })
  forgot s t ids (Err fault) so r e = absurd (cc)

  takes : (s t : SoFar) (line : Option Line) → IsSo s → taken head refute variables s line ≡ Ok t → IsSo t
  takes s t None so e = absurd (cc)
  takes s t (Some (Derive clause hints)) so e = followed s t clause hints (follow_of s.store clause hints) so refl e
  takes s t (Some (Refute shown)) so e = refuted s t shown (refute shown) so refl e
  takes s t (Some (Forget ids)) so e = forgot s t ids (forgotten s.derived s.store ids) so refl e

  module _ (k : ℕ) where
    ended : (here : ℕ) (shown : Option ℕ) → ((j : ℕ) → shown ≡ Some j → Denies refute variables base j) → result_at_end here shown ≡ Yes k → Denies refute variables base k
    ended here None denied e = absurd (cc)
    ended here (Some j) denied e = let same : j ≡ k = cc in subst (Denies refute variables base) same (denied j refl)

    further : (here : ℕ) (r : Result SoFar Reason) (next : SoFar → _) → after_line here r next ≡ Yes k → ((t : SoFar) → r ≡ Ok t → next t ≡ Yes k → Denies refute variables base k) → Denies refute variables base k
    further here (Err reason) next e go = absurd (cc)
    further here (Ok t) next e go = go t refl e

    result_from-so : (here : ℕ) (s : SoFar) (lines : List Piece) → IsSo s → result_from head refute variables here s lines ≡ Yes k → Denies refute variables base k
    result_from-so here s [] so e = ended here s.shown so.denied e
    result_from-so here s (piece ∷ more) so e =
        further here (taken head refute variables s (parsed (base_of head) variables.count piece)) (λ t. result_from head refute variables (here + 1) t more) e
        (λ t r f. result_from-so (here + 1) t more (takes s t (parsed (base_of head) variables.count piece) so r) f)

    headed : (b : Bool) (more : List Piece) → (if b then result_from head refute variables 2 (at_first base) more else No 1 reason.Text) ≡ Yes k → Denies refute variables base k
    headed true more e = result_from-so 2 (at_first base) more begins e
    headed false more e = absurd (cc)

    lines-so : (lines : List Piece) → result_of head refute variables base lines ≡ Yes k → Denies refute variables base k
    lines-so [] e = absurd (cc)
    lines-so (first ∷ more) e = headed (is_headed head first) more e

pub shown-so : CheckIsSound
shown-so head refute variables base k bytes e = lines-so head refute variables base k (pieces bytes) e
