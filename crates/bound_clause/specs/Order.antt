-- Literals in the order of their variables, each once.
use Rattle.std.specs.Prelude.{◌≡◌, false, List, nat_lt}
use Rattle.rail_base.specs.Members.{In, all_neighbors}
use Rattle.sat_clause.specs.declared.lit.Lit.{Lit}

-- two literals of one variable, that are not one literal
abbrev pub BothSigns : List Lit → Type 0
BothSigns ls = (l : Lit) × (m : Lit) × In l ls × In m ls × (l.var ≡ m.var) × (l ≡ m → ⊥)

-- the new list has the same literals, and where its variables do not rise one stands there with both signs
pub record IsPutInOrder (old new : List Lit) : Type 0 where
  pub kept : (l : Lit) → In l old → In l new
  pub no_more : (l : Lit) → In l new → In l old
  pub apart : all_neighbors (λ l m. nat_lt l.var m.var) new ≡ false → BothSigns new
