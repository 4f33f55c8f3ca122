-- Marks on literals, two for each variable, and when they say which literals are assigned.
use Rattle.std.specs.Prelude.{◌≡◌, Bool, false, not, cond, ◌||◌, List, get_or}
use Rattle.sat_clause.specs.declared.lit.Lit.{Lit}
use Rattle.sat_clause.specs.Hints.{is_assigned}
use Rattle.rup_check.specs.declared.marks.Mark.{Mark}

-- no literal of the variable is marked
abbrev pub no_mark : Mark
no_mark = record { plain = false; negated = false }

-- whether the literal is marked, by the marks of its variable
abbrev pub says : Mark → Lit → Bool
says m l = cond l.negated m.negated m.plain

-- the marks of a variable with that of one of its literals set
abbrev pub with_mark : Mark → Lit → Mark
with_mark m l = record { plain = m.plain || not l.negated; negated = m.negated || l.negated }

-- whether the literal is marked; past the end nothing is
abbrev pub marked : List Mark → Lit → Bool
marked table l = says (get_or table l.var no_mark) l

-- the literals that are marked are those that are held
abbrev pub Agrees : List Mark → List Lit → Type 0
Agrees table assigned = (l : Lit) → marked table l ≡ is_assigned assigned l
