-- What was not derived stays live.
use Rattle.std.proofs.Common.{◌≡◌, ℕ, ◌+◌, ◌≤◌, true, List, [], ◌∷◌, ◌++◌, length, Some, Result, inl, inr, ◌∙◌, subst, arith, length-append}
use Rattle.bound_spec.specs.declared.Evidence.{Evidence}
use Rattle.bound_spec.specs.declared.EvidenceFault.{EvidenceFault}
use Rattle.proof_log.specs.declared.head.Head.{Head}
use Rattle.clause_spec.specs.declared.question.VariableCounts.{VariableCounts}
use Rattle.sat_clause.specs.declared.lit.Lit.{Lit}
use Rattle.sat_clause.specs.Clauses.{Store, live_clause, without}
use Rattle.sat_trail.specs.Attached.{is_among}
use Rattle.sat_trail.proofs.Stores.{live-keep}
use Rattle.sat_core.proofs.Forgets.{without-length, without-other}
use Rattle.log_recorder.specs.Logs.{LogLine, Learnt, Forgot, Refuted, with_line, with_log, learnt_by, AllGoOn}
use Rattle.log_recorder.proofs.Accepted.{among-one}

-- derived clauses have numbers up to that of the last clause
abbrev pub AreNumbers : List ℕ → Store → Type 0
AreNumbers learnt store = (id : ℕ) → is_among learnt id ≡ true → id ≤ length store

longer : (store : Store) (c : List Lit) → length (store ++ (c, true) ∷ []) ≡ length store + 1
longer store c = length-append store ((c, true) ∷ [])

pub numbers-learnt : (learnt : List ℕ) (store : Store) (c : List Lit) → AreNumbers learnt store → AreNumbers (learnt ++ length (store ++ (c, true) ∷ []) ∷ []) (store ++ (c, true) ∷ [])
numbers-learnt learnt store c a id h = elim (among-one learnt (length (store ++ (c, true) ∷ [])) id h) [
  | inl p ↦ (let w = a id p in let m = longer store c in omega arith)
  | inr q ↦ omega (arith, q)
]

pub numbers-more : (learnt : List ℕ) (store : Store) (c : List Lit) → AreNumbers learnt store → AreNumbers learnt (store ++ (c, true) ∷ [])
numbers-more learnt store c a id h = let w = a id h in let m = longer store c in omega arith

pub numbers-less : (learnt : List ℕ) (store : Store) (gone : ℕ) → AreNumbers learnt store → AreNumbers learnt (without store gone)
numbers-less learnt store gone a id h = let w = a id h in let m = without-length store gone in omega arith

module _ (head : Head) (refute : Evidence → Result (List Lit) EvidenceFault) (variables : VariableCounts) (id : ℕ) (c : List Lit) where
  -- a live clause that no line derived is live after each line
  pub stays : (store : Store) (learnt : List ℕ) (lines : List LogLine) → AllGoOn head refute variables store learnt lines → id ≤ length store → (is_among learnt id ≡ true → ⊥) → live_clause store id ≡ Some c → live_clause (with_log store lines) id ≡ Some c
  stays store learnt [] a low apart live = live
  stays store learnt (Learnt d ∷ ls) a low apart live =
      let m = longer store d.0 in
      stays (with_line store (Learnt d)) (learnt_by store learnt (Learnt d)) ls a.1 (omega arith)
      (λ h. elim (among-one learnt (length (store ++ (d.0, true) ∷ [])) id h) [ inl p ↦ apart p | inr q ↦ omega (arith, q) ])
      (live-keep store d.0 id c live)
  stays store learnt (Forgot gone ∷ ls) a low apart live =
      let m = without-length store gone in
      let other : gone ≡ id → ⊥ = λ same. apart (subst (λ (z : ℕ). is_among learnt z ≡ true) same a.0.may.is_learnt) in
      stays (with_line store (Forgot gone)) learnt ls a.1 (omega arith) apart (without-other store gone id other ∙ live)
  stays store learnt (Refuted cone clause ∷ ls) a low apart live =
      let m = longer store clause in
      stays (with_line store (Refuted cone clause)) learnt ls a.1 (omega arith) apart (live-keep store clause id c live)
