-- Literals, clauses and their truth, and lists of clauses of which some are live.
use Rattle.std.specs.Prelude.{ℕ, zero, suc, Bool, false, not, cond, ◌||◌, List, [], ◌∷◌, Option, Some, None, slice_get}
use Rattle.sat_clause.specs.declared.lit.Lit.{Lit}

-- the literal of the same variable that is true where this one is false
abbrev pub opposite : Lit → Lit
opposite l = record { var = l.var; negated = not l.negated }

-- whether the literal is true under the values of the variables
abbrev pub lit_holds : (ℕ → Bool) → Lit → Bool
lit_holds values l = cond l.negated (not (values l.var)) (values l.var)

-- whether one of the literals is true
abbrev pub clause_holds : (ℕ → Bool) → List Lit → Bool
clause_holds values [] = false
clause_holds values (l ∷ ls) = lit_holds values l || clause_holds values ls

-- clauses in order, each with the mark that it is live
abbrev pub Store : Type 0
Store = List (List Lit × Bool)

-- the clause of an entry that is live
abbrev pub if_live : Option (List Lit × Bool) → Option (List Lit)
if_live None = None
if_live (Some e) = cond e.1 (Some e.0) None

-- the live clause of this number, numbers being counted from 1
abbrev pub live_clause : Store → ℕ → Option (List Lit)
live_clause store zero = None
live_clause store (suc i) = if_live (slice_get store i)

-- the list with the mark at an index taken away
abbrev pub unmarked_at : Store → ℕ → Store
unmarked_at [] i = []
unmarked_at (e ∷ es) zero = (e.0, false) ∷ es
unmarked_at (e ∷ es) (suc i) = e ∷ unmarked_at es i

-- the list in which the clause of this number is no longer live
abbrev pub without : Store → ℕ → Store
without store zero = store
without store (suc i) = unmarked_at store i
