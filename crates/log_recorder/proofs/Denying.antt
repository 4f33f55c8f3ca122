-- What a live clause of a run log says is so.
use Rattle.std.proofs.Common.{◌≡◌, ℕ, zero, suc, Bool, true, false, List, [], ◌∷◌, Some, Ok, Result, slice_get, subst}
use Rattle.bound_spec.specs.declared.Evidence.{Evidence}
use Rattle.bound_spec.specs.declared.EvidenceFault.{EvidenceFault}
use Rattle.proof_log.specs.declared.head.Head.{Head}
use Rattle.clause_spec.specs.declared.question.VariableCounts.{VariableCounts}
use Rattle.sat_clause.specs.declared.lit.Lit.{Lit}
use Rattle.sat_clause.specs.Clauses.{Store, live_clause, if_live, clause_holds}
use Rattle.log_checker.specs.Truth.{clauses_hold}
use Rattle.log_checker.proofs.Denied.{clause-denies}
use Rattle.log_checker.proofs.Kept.{follows-true, push-holds, without-holds}
use Rattle.log_recorder.specs.Logs.{LogLine, Learnt, Forgot, Refuted, with_line, with_log, learnt_by, AllGoOn}
use Rattle.log_recorder.specs.Laws.{DenialsAreSo}
use Rattle.sat_clause.proofs.Sound.{both}

at-holds : (values : ℕ → Bool) (store : Store) (i : ℕ) (c : List Lit) → clauses_hold values store ≡ true → if_live (slice_get store i) ≡ Some c → clause_holds values c ≡ true
at-holds values [] i c h e = absurd (cc)
at-holds values ((d, true) ∷ es) zero c h e = let same : d ≡ c = cc in subst (λ (z : List Lit). clause_holds values z ≡ true) same (both (clause_holds values d) (clauses_hold values es) h).0
at-holds values ((d, false) ∷ es) zero c h e = absurd (cc)
at-holds values (x ∷ es) (suc i) c h e = at-holds values es i c (both (clause_holds values x.0) (clauses_hold values es) h).1 e

-- a live clause is true where all are
live-holds : (values : ℕ → Bool) (store : Store) (id : ℕ) (c : List Lit) → clauses_hold values store ≡ true → live_clause store id ≡ Some c → clause_holds values c ≡ true
live-holds values store zero c h e = absurd (cc)
live-holds values store (suc i) c h e = at-holds values store i c h e

module _ (head : Head) (refute : Evidence → Result (List Lit) EvidenceFault) (variables : VariableCounts) (values : ℕ → Bool) (shown : (cone : Evidence) (clause : List Lit) → refute cone ≡ Ok clause → clause_holds values clause ≡ true) where
  -- the clauses of a log are true wherever those before it and those of cones are
  log-holds : (store : Store) (learnt : List ℕ) (lines : List LogLine) → AllGoOn head refute variables store learnt lines → clauses_hold values store ≡ true → clauses_hold values (with_log store lines) ≡ true
  log-holds store learnt [] a h = h
  log-holds store learnt (Learnt d ∷ ls) a h =
      log-holds (with_line store (Learnt d)) (learnt_by store learnt (Learnt d)) ls a.1 (push-holds values store d.0 h (follows-true values store d.0 d.1 a.0.good.follows h))
  log-holds store learnt (Forgot id ∷ ls) a h = log-holds (with_line store (Forgot id)) learnt ls a.1 (without-holds values store id h)
  log-holds store learnt (Refuted cone clause ∷ ls) a h = log-holds (with_line store (Refuted cone clause)) learnt ls a.1 (push-holds values store clause h (shown cone clause a.0.shows))

pub denied : DenialsAreSo
denied head refute variables base lines id k clause a live denies =
    let d = clause-denies variables clause k denies in record {
      at_most_steps = d.at_most_steps;
      least = d.least;
      never = λ values h by. d.never values (live-holds values (with_log base lines) id clause (log-holds head refute variables values h.holds_of_evidence base [] lines a h.clauses) live) by;
    }
