-- A clause that is derived is true wherever all clauses before it are, and clauses that are taken out stay true.
use Rattle.std.proofs.Common.{◌≡◌, ℕ, zero, suc, Bool, true, ◌&&◌, List, [], ◌∷◌, ◌++◌, slice_get, Option, Some, None, refl}
use Rattle.std.proofs.lemmas.Option.{cond_some}
use Rattle.sat_clause.specs.declared.lit.Lit.{Lit}
use Rattle.sat_clause.specs.declared.follow.Follow.{Follow}
use Rattle.sat_clause.specs.declared.follow.Follow.TheVariants.{Yes}
use Rattle.sat_clause.specs.Clauses.{Store, clause_holds, if_live, live_clause, unmarked_at, without}
use Rattle.sat_clause.specs.Hints.{open_lits, unit_of, at_last, at_unit, at_clause, where_last, follow_from, follow_of, holds_at, hints_hold}
use Rattle.sat_clause.proofs.Sound.{follows-holds, both}
use Rattle.log_checker.specs.Truth.{clauses_hold}

at-holds : (values : ℕ → Bool) (store : Store) (i : ℕ) (c : List Lit) → if_live (slice_get store i) ≡ Some c → clauses_hold values store ≡ true → clause_holds values c ≡ true
at-holds values [] i c e h = absurd (cc)
at-holds values (x ∷ xs) zero c e h =
    let p = both (clause_holds values x.0) (clauses_hold values xs) h in
    let s = cond_some x.1 x.0 c e in
    rw (← s.1) p.0
at-holds values (x ∷ xs) (suc i) c e h = at-holds values xs i c e (both (clause_holds values x.0) (clauses_hold values xs) h).1

live-holds : (values : ℕ → Bool) (store : Store) (id : ℕ) (c : List Lit) → live_clause store id ≡ Some c → clauses_hold values store ≡ true → clause_holds values c ≡ true
live-holds values store zero c e h = absurd (cc)
live-holds values store (suc i) c e h = at-holds values store i c e h

rest-step : (values : ℕ → Bool) (store : Store) (hints : List ℕ) (last : Follow) (unit : Option Lit) (next : Lit → Follow) → where_last hints last (at_unit unit next) ≡ Yes → ((l : Lit) → next l ≡ Yes → hints_hold values store hints ≡ true) → hints_hold values store hints ≡ true
rest-step values store [] last unit next y rec = refl
rest-step values store (i ∷ is) last None next y rec = absurd (cc)
rest-step values store (i ∷ is) last (Some l) next y rec = rec l y

hint-step : (values : ℕ → Bool) (store : Store) (assigned : List Lit) (i : ℕ) (is : List ℕ) (o : Option (List Lit)) → live_clause store i ≡ o → clauses_hold values store ≡ true
    → at_clause o (λ c. where_last is (at_last (open_lits assigned c)) (at_unit (unit_of assigned c) (λ l. follow_from store (assigned ++ l ∷ []) is))) ≡ Yes
    → ((l : Lit) → follow_from store (assigned ++ l ∷ []) is ≡ Yes → hints_hold values store is ≡ true)
    → (holds_at values (live_clause store i) && hints_hold values store is) ≡ true
hint-step values store assigned i is None e h y rec = absurd (cc)
hint-step values store assigned i is (Some c) e h y rec =
    let a : clause_holds values c ≡ true = live-holds values store i c e h in
    let b : hints_hold values store is ≡ true = rest-step values store is (at_last (open_lits assigned c)) (unit_of assigned c) (λ l. follow_from store (assigned ++ l ∷ []) is) y rec in
    rw (e, a, b) refl

-- where a clause follows, its hints are live, so they are true
hinted : (values : ℕ → Bool) (store : Store) (assigned : List Lit) (hints : List ℕ) → clauses_hold values store ≡ true → follow_from store assigned hints ≡ Yes → hints_hold values store hints ≡ true
hinted values store assigned [] h y = refl
hinted values store assigned (i ∷ is) h y = hint-step values store assigned i is (live_clause store i) refl h y (λ l z. hinted values store (assigned ++ l ∷ []) is h z)

-- so a clause that follows is true
pub follows-true : (values : ℕ → Bool) (store : Store) (clause : List Lit) (hints : List ℕ) → follow_of store clause hints ≡ Yes → clauses_hold values store ≡ true → clause_holds values clause ≡ true
follows-true values store clause hints y h = follows-holds values store clause hints y (hinted values store _ hints h y)

pub push-holds : (values : ℕ → Bool) (store : Store) (clause : List Lit) → clauses_hold values store ≡ true → clause_holds values clause ≡ true → clauses_hold values (store ++ (clause, true) ∷ []) ≡ true
push-holds values [] clause h c = rw c refl
push-holds values (x ∷ xs) clause h c =
    let p = both (clause_holds values x.0) (clauses_hold values xs) h in
    rw (p.0, push-holds values xs clause p.1 c) refl

unmarked-holds : (values : ℕ → Bool) (store : Store) (i : ℕ) → clauses_hold values store ≡ true → clauses_hold values (unmarked_at store i) ≡ true
unmarked-holds values [] i h = refl
unmarked-holds values (x ∷ xs) zero h = h
unmarked-holds values (x ∷ xs) (suc i) h =
    let p = both (clause_holds values x.0) (clauses_hold values xs) h in
    rw (p.0, unmarked-holds values xs i p.1) refl

-- a clause that is no longer live is still true
pub without-holds : (values : ℕ → Bool) (store : Store) (id : ℕ) → clauses_hold values store ≡ true → clauses_hold values (without store id) ≡ true
without-holds values store zero h = h
without-holds values store (suc i) h = unmarked-holds values store i h
