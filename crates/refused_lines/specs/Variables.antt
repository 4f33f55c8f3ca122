-- The variables of literals.
use Rattle.std.specs.Prelude.{ℕ, Bool, ◌&&◌, nat_le}
use Rattle.sat_clause.specs.declared.lit.Lit.{Lit}

-- the literal is of one of so many variables, which are counted from 1
abbrev pub is_in : ℕ → Lit → Bool
is_in vars l = nat_le 1 l.var && nat_le l.var vars
