-- What is left of literals, part by part.
use Rattle.std.specs.Prelude.{ℕ, Bool, true, false, if◌then◌else◌, List, [], ◌∷◌, ◌++◌, Option, None, Some}
use Rattle.sat_clause.specs.declared.lit.Lit.{Lit}
use Rattle.bound_clause.specs.declared.remainder.Remainder.{Remainder}

-- both parts, where neither denies what is dead
abbrev pub together : Option (List Lit) → Option (List Lit) → Option (List Lit)
together (Some ls) (Some ms) = Some (ls ++ ms)
together (Some ls) None = None
together None part = None

-- a literal by the number of its variable, if it has one: without one it is dead, and denied where it is negated
abbrev pub signed_left : Option ℕ → Bool → Option (List Lit)
signed_left (Some v) negated = Some (record { var = v; negated = negated } ∷ [])
signed_left None false = Some []
signed_left None true = None

-- what is gathered, where nothing dead is denied
abbrev pub gathered : Remainder → Option (List Lit)
gathered r = if r.denies_dead then None else Some r.literals.items
