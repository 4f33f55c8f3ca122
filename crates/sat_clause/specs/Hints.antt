-- When a clause follows from live clauses by its hints.
use Rattle.std.specs.Prelude.{ℕ, Bool, true, false, not, cond, ◌&&◌, nat_eq, List, [], ◌∷◌, ◌++◌, map, filter, Option}
use Rattle.std.specs.Prelude.{Some, None}
use Rattle.std.specs.List.{list_all, list_any}
use Rattle.sat_clause.specs.declared.lit.Lit.{Lit}
use Rattle.sat_clause.specs.Clauses.{Store, live_clause, opposite, clause_holds}
use Rattle.sat_clause.specs.declared.follow.Follow.{Follow}
use Rattle.sat_clause.specs.declared.follow.Follow.TheVariants.{Yes, UnknownClause, NotUnit, NoConflict}

-- whether two literals are the same
abbrev pub same_lit : Lit → Lit → Bool
same_lit a b = nat_eq a.var b.var && cond a.negated b.negated (not b.negated)

-- whether a literal is one of those held true
abbrev pub is_assigned : List Lit → Lit → Bool
is_assigned assigned l = list_any (same_lit l) assigned

-- the literals of a clause that the held ones don't make false
abbrev pub open_lits : List Lit → List Lit → List Lit
open_lits assigned clause = filter (λ l. not (is_assigned assigned (opposite l))) clause

-- of literals that aren't false, the one that they all are, where it isn't held
abbrev pub only_one : List Lit → List Lit → Option Lit
only_one assigned [] = None
only_one assigned (l ∷ ls) = cond (not (is_assigned assigned l) && list_all (same_lit l) ls) (Some l) None

-- the literal of a clause that has no value while all others are false
abbrev pub unit_of : List Lit → List Lit → Option Lit
unit_of assigned clause = only_one assigned (open_lits assigned clause)

-- the answer at the last hint, by the literals of its clause that aren't false
abbrev pub at_last : List Lit → Follow
at_last [] = Yes
at_last (l ∷ ls) = NoConflict

-- the answer at a hint before the last: it goes on with the one literal that its clause gives
abbrev pub at_unit : Option Lit → (Lit → Follow) → Follow
at_unit None next = NotUnit
at_unit (Some l) next = next l

-- the answer at a hint: it goes on with the live clause
abbrev pub at_clause : Option (List Lit) → (List Lit → Follow) → Follow
at_clause None next = UnknownClause
at_clause (Some c) next = next c

-- the first answer where no hint is left, and else the second
abbrev pub where_last : List ℕ → Follow → Follow → Follow
where_last [] last more = last
where_last (h ∷ hs) last more = more

-- the answer of the hints in turn, while these literals are held
abbrev pub follow_from : Store → List Lit → List ℕ → Follow
follow_from store assigned [] = NoConflict
follow_from store assigned (h ∷ hs) =
    at_clause (live_clause store h) (λ c.
    where_last hs (at_last (open_lits assigned c)) (at_unit (unit_of assigned c) (λ l. follow_from store (assigned ++ l ∷ []) hs)))

-- whether a clause follows by these hints, its literals being made false first
abbrev pub follow_of : Store → List Lit → List ℕ → Follow
follow_of store clause hints = follow_from store (map opposite clause) hints

-- whether the live clause of a number is true
abbrev pub holds_at : (ℕ → Bool) → Option (List Lit) → Bool
holds_at values None = false
holds_at values (Some c) = clause_holds values c

-- whether all the hinted clauses are true
abbrev pub hints_hold : (ℕ → Bool) → Store → List ℕ → Bool
hints_hold values store [] = true
hints_hold values store (h ∷ hs) = holds_at values (live_clause store h) && hints_hold values store hs
