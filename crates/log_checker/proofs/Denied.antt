-- What a clause says of the steps that it denies.
use Rattle.std.proofs.Common.{◌≡◌, ℕ, ◌+◌, ◌-◌, ◌≤◌, ◌<◌, Bool, true, false, not, ◌&&◌, ◌||◌, cond, nat_le, List, [], ◌∷◌, Some, None, refl, arith}
use Rattle.std.proofs.lemmas.Bool.Decides.{nat_tests}
use Rattle.clause_spec.specs.declared.question.VariableCounts.{VariableCounts}
use Rattle.sat_clause.specs.declared.lit.Lit.{Lit}
use Rattle.sat_clause.specs.Clauses.{clause_holds, lit_holds}
use Rattle.log_checker.specs.Verdict.{steps_denied}

tests : (negated : Bool) (steps step k : ℕ) → cond (negated && nat_le 1 step && nat_le step steps) (Some step) None ≡ Some k → (negated ≡ true) × (1 ≤ step) × (step ≤ steps) × (step ≡ k)
tests negated steps step k e = grind (arith, nat_tests)

or-false : (v : Bool) → (v || false) ≡ true → v ≡ true
or-false true h = refl
or-false false h = h

opposed : (v : Bool) → not v ≡ true → v ≡ true → ⊥
opposed true h g = cc
opposed false h g = cc

negated-holds : (values : ℕ → Bool) (l : Lit) → l.negated ≡ true → lit_holds values l ≡ true → values l.var ≡ true → ⊥
negated-holds values l n h g = opposed (values l.var) (rw n at h) g

-- the steps are among those asked for, and where the clause is true not all is given by then
pub record ClauseDenies (variables : VariableCounts) (clause : List Lit) (k : ℕ) : Type 0 where
  pub at_most_steps : k ≤ variables.steps
  pub least : 0 < variables.steps → 0 < k
  pub never : (values : ℕ → Bool) → clause_holds values clause ≡ true → values (variables.before_selectors + k) ≡ true → ⊥

pub clause-denies : (variables : VariableCounts) (clause : List Lit) (k : ℕ) → steps_denied variables clause ≡ Some k → ClauseDenies variables clause k
clause-denies variables [] k e = let s : variables.steps ≡ k = cc in record { at_most_steps = omega arith; least = λ h. omega arith; never = λ values h g. cc }
clause-denies variables (l ∷ []) k e =
    let t = tests l.negated variables.steps (l.var - variables.before_selectors) k e in
    let at : variables.before_selectors + k ≡ l.var = omega (arith, t.1, t.3) in
    record { at_most_steps = omega (arith, t.2, t.3); least = λ h. omega (arith, t.1, t.3); never = λ values h g. negated-holds values l t.0 (or-false (lit_holds values l) h) (rw at at g) }
clause-denies variables (l ∷ m ∷ more) k e = absurd (cc)
