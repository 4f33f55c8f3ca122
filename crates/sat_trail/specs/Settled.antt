-- Clauses that need no look, since each has a literal that is true at level 0.
use Rattle.std.specs.Prelude.{ℕ, ◌≡◌, ◌≤◌, ◌<◌, List, length, Some, slice_index_or}
use Rattle.sat_clause.specs.declared.lit.Lit.{Lit}
use Rattle.sat_trail.specs.Attached.{attached_clause}
use Rattle.sat_trail.specs.View.{View}
use Rattle.sat_trail.specs.Watches.{Satisfied}

-- the clause of this number, where it is attached, has a literal that is true at level 0
abbrev pub IsTrueFirst : View → ℕ → Type 0
IsTrueFirst trail id = (c : List Lit) → attached_clause trail.attached id ≡ Some c → Satisfied c 0 trail.steps

-- so it is with so many of these numbers at their front, none of which is greater than the last one
pub record IsSettled (trail : View) (ids : List ℕ) (count top : ℕ) : Type 0 where
  pub within : count ≤ length ids
  pub ids_to_top : (j : ℕ) → j < count → slice_index_or ids j 0 ≤ top
  pub true_first : (j : ℕ) → j < count → IsTrueFirst trail (slice_index_or ids j 0)
