-- A clause that follows is true wherever the hinted clauses are.
use Rattle.std.proofs.Common.{◌≡◌, ℕ, Bool, true, false, cond, not, ◌&&◌, ◌||◌, List, [], ◌∷◌, ◌++◌, Option, Some, None, refl, sym, ap, ◌∙◌, map}
use Rattle.std.specs.List.{list_all}
use Rattle.std.specs.Prelude.{nat_eq}
use Rattle.std.proofs.lemmas.Bool.{eqb-true}
use Rattle.sat_clause.specs.declared.lit.Lit.{Lit}
use Rattle.sat_clause.specs.Clauses.{Store, live_clause, opposite, clause_holds, lit_holds}
use Rattle.sat_clause.specs.declared.follow.Follow.{Follow}
use Rattle.sat_clause.specs.declared.follow.Follow.TheVariants.{Yes}
use Rattle.sat_clause.specs.Hints.{same_lit, is_assigned, open_lits, only_one, unit_of, at_last, at_unit, at_clause, where_last, follow_from, follow_of, holds_at, hints_hold}

pub both : (a b : Bool) → (a && b) ≡ true → (a ≡ true) × (b ≡ true)
both true b h = (refl, h)
both false b h = absurd (cc)

pub same_bool : (a b : Bool) → cond a b (not b) ≡ true → a ≡ b
same_bool true true h = refl
same_bool true false h = absurd (cc)
same_bool false true h = absurd (cc)
same_bool false false h = refl

-- whether all the held literals are true
abbrev pub all_hold : (ℕ → Bool) → List Lit → Bool
all_hold values assigned = list_all (lit_holds values) assigned

lit_holds-same : (values : ℕ → Bool) (a b : Lit) → same_lit a b ≡ true → lit_holds values a ≡ lit_holds values b
lit_holds-same values a b h =
    let p = both (nat_eq a.var b.var) (cond a.negated b.negated (not b.negated)) h in
    let v : a.var ≡ b.var = eqb-true a.var b.var p.0 in
    let n : a.negated ≡ b.negated = same_bool a.negated b.negated p.1 in
    cc

assigned-step : (values : ℕ → Bool) (k l : Lit) (s r : Bool) → s ≡ same_lit l k → lit_holds values k ≡ true → (r ≡ true → lit_holds values l ≡ true) → (s || r) ≡ true → lit_holds values l ≡ true
assigned-step values k l true r e a rest h = lit_holds-same values l k (sym e) ∙ a
assigned-step values k l false r e a rest h = rest h

-- a held literal is true
assigned-holds : (values : ℕ → Bool) (assigned : List Lit) (l : Lit) → all_hold values assigned ≡ true → is_assigned assigned l ≡ true → lit_holds values l ≡ true
assigned-holds values [] l a h = absurd (cc)
assigned-holds values (k ∷ ks) l a h =
    let p = both (lit_holds values k) (all_hold values ks) a in
    assigned-step values k l (same_lit l k) (is_assigned ks l) refl p.0 (assigned-holds values ks l p.1) h

flipped : (n v : Bool) → cond (not n) (not v) v ≡ not (cond n (not v) v)
flipped true true = refl
flipped true false = refl
flipped false true = refl
flipped false false = refl

lit_holds-opposite : (values : ℕ → Bool) (l : Lit) → lit_holds values (opposite l) ≡ not (lit_holds values l)
lit_holds-opposite values l = flipped l.negated (values l.var)

not-true : (v : Bool) → not v ≡ true → v ≡ false
not-true true h = absurd (cc)
not-true false h = refl

open-step : (values : ℕ → Bool) (l : Lit) (o : Bool) (f : List Lit) (c : Bool) → (o ≡ true → lit_holds values l ≡ false) → c ≡ clause_holds values f → (lit_holds values l || c) ≡ clause_holds values (cond (not o) (l ∷ f) f)
open-step values l true f c h e = rw (h refl) e
open-step values l false f c h e = ap (λ z. lit_holds values l || z) e

-- a clause is true where one of its open literals is
open-holds : (values : ℕ → Bool) (assigned clause : List Lit) → all_hold values assigned ≡ true → clause_holds values clause ≡ clause_holds values (open_lits assigned clause)
open-holds values assigned [] a = refl
open-holds values assigned (l ∷ ls) a =
    open-step values l (is_assigned assigned (opposite l)) (open_lits assigned ls) (clause_holds values ls) (λ h. not-true (lit_holds values l) (sym (lit_holds-opposite values l) ∙ assigned-holds values assigned (opposite l) a h)) (open-holds values assigned ls a)

or_same : (v c : Bool) → (v || c) ≡ v → (v || (v || c)) ≡ v
or_same true c h = refl
or_same false c h = h

or-false : (v : Bool) → (v || false) ≡ v
or-false true = refl
or-false false = refl

-- equal literals are true together
same-holds : (values : ℕ → Bool) (l : Lit) (ls : List Lit) → list_all (same_lit l) ls ≡ true → (lit_holds values l || clause_holds values ls) ≡ lit_holds values l
same-holds values l [] h = or-false (lit_holds values l)
same-holds values l (k ∷ ks) h =
    let p = both (same_lit l k) (list_all (same_lit l) ks) h in
    rw (← lit_holds-same values l k p.0) (or_same (lit_holds values l) (clause_holds values ks) (same-holds values l ks p.1))

only_one-step : (values : ℕ → Bool) (l u : Lit) (ls : List Lit) (b t : Bool) → t ≡ list_all (same_lit l) ls → cond (b && t) (Some l) None ≡ Some u → (lit_holds values l || clause_holds values ls) ≡ lit_holds values u
only_one-step values l u ls true true e h = let i : l ≡ u = cc in same-holds values l ls (sym e) ∙ ap (lit_holds values) i
only_one-step values l u ls true false e h = absurd (cc)
only_one-step values l u ls false t e h = absurd (cc)

-- where one literal is left, it is true where the clause is
only_one-holds : (values : ℕ → Bool) (assigned ls : List Lit) (u : Lit) → only_one assigned ls ≡ Some u → clause_holds values ls ≡ lit_holds values u
only_one-holds values assigned [] u e = absurd (cc)
only_one-holds values assigned (l ∷ ls) u e = only_one-step values l u ls (not (is_assigned assigned l)) (list_all (same_lit l) ls) refl e

all_hold-push : (values : ℕ → Bool) (assigned : List Lit) (u : Lit) → all_hold values assigned ≡ true → lit_holds values u ≡ true → all_hold values (assigned ++ u ∷ []) ≡ true
all_hold-push values [] u a h = rw h refl
all_hold-push values (k ∷ ks) u a h = let p = both (lit_holds values k) (all_hold values ks) a in rw (p.0, all_hold-push values ks u p.1 h) refl

last-false : (values : ℕ → Bool) (ls : List Lit) → at_last ls ≡ Yes → clause_holds values ls ≡ false
last-false values [] h = refl
last-false values (l ∷ ls) h = absurd (cc)

unit-step : (values : ℕ → Bool) (assigned c : List Lit) (o : Option Lit) (next : Lit → Follow) → unit_of assigned c ≡ o → all_hold values assigned ≡ true → clause_holds values c ≡ true → at_unit o next ≡ Yes → ((u : Lit) → all_hold values (assigned ++ u ∷ []) ≡ true → next u ≡ Yes → ⊥) → ⊥
unit-step values assigned c None next e a h y rec = cc
unit-step values assigned c (Some u) next e a h y rec = rec u (all_hold-push values assigned u a (sym (only_one-holds values assigned (open_lits assigned c) u e) ∙ sym (open-holds values assigned c a) ∙ h)) y

clause-step : (values : ℕ → Bool) (assigned c : List Lit) (hs : List ℕ) (next : Lit → Follow) → all_hold values assigned ≡ true → clause_holds values c ≡ true → where_last hs (at_last (open_lits assigned c)) (at_unit (unit_of assigned c) next) ≡ Yes → ((u : Lit) → all_hold values (assigned ++ u ∷ []) ≡ true → next u ≡ Yes → ⊥) → ⊥
clause-step values assigned c [] next a h y rec = let f = last-false values (open_lits assigned c) y in let g = open-holds values assigned c a in cc
clause-step values assigned c (i ∷ is) next a h y rec = unit-step values assigned c (unit_of assigned c) next refl a h y rec

hint-step : (values : ℕ → Bool) (assigned : List Lit) (o : Option (List Lit)) (hs : List ℕ) (next : List Lit → Lit → Follow) → all_hold values assigned ≡ true → holds_at values o ≡ true → at_clause o (λ c. where_last hs (at_last (open_lits assigned c)) (at_unit (unit_of assigned c) (next c))) ≡ Yes → ((c : List Lit) (u : Lit) → all_hold values (assigned ++ u ∷ []) ≡ true → next c u ≡ Yes → ⊥) → ⊥
hint-step values assigned None hs next a h y rec = cc
hint-step values assigned (Some c) hs next a h y rec = clause-step values assigned c hs (next c) a h y (rec c)

-- true literals and true hinted clauses meet no conflict
no_conflict : (values : ℕ → Bool) (store : Store) (assigned : List Lit) (hints : List ℕ) → all_hold values assigned ≡ true → hints_hold values store hints ≡ true → follow_from store assigned hints ≡ Yes → ⊥
no_conflict values store assigned [] a h y = cc
no_conflict values store assigned (i ∷ is) a h y =
    let p = both (holds_at values (live_clause store i)) (hints_hold values store is) h in
    hint-step values assigned (live_clause store i) is (λ c u. follow_from store (assigned ++ u ∷ []) is) a p.0 y (λ c u b z. no_conflict values store (assigned ++ u ∷ []) is b p.1 z)

neither : (a b : Bool) → (a || b) ≡ false → (a ≡ false) × (b ≡ false)
neither true b h = absurd (cc)
neither false b h = (refl, h)

-- where a clause is false, the opposites of its literals are true
opposites-hold : (values : ℕ → Bool) (clause : List Lit) → clause_holds values clause ≡ false → all_hold values (map opposite clause) ≡ true
opposites-hold values [] f = refl
opposites-hold values (l ∷ ls) f =
    let p = neither (lit_holds values l) (clause_holds values ls) f in
    rw (lit_holds-opposite values l, p.0, opposites-hold values ls p.1) refl

true_unless : (b : Bool) → (b ≡ false → ⊥) → b ≡ true
true_unless true h = refl
true_unless false h = absurd (h refl)

pub follows-holds : (values : ℕ → Bool) (store : Store) (clause : List Lit) (hints : List ℕ) → follow_of store clause hints ≡ Yes → hints_hold values store hints ≡ true → clause_holds values clause ≡ true
follows-holds values store clause hints y h =
    true_unless (clause_holds values clause) (λ f. no_conflict values store (map opposite clause) hints (opposites-hold values clause f) h y)
