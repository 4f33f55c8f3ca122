-- Sets of literals that are closed, and clauses that are new.
use Rattle.std.specs.Prelude.{ℕ, ◌≡◌, true, false, List, [], Some, None}
use Rattle.sat_clause.specs.declared.lit.Lit.{Lit}
use Rattle.sat_clause.specs.Clauses.{Store, live_clause, opposite}
use Rattle.sat_clause.specs.Hints.{is_assigned, open_lits, unit_of}

-- a clause that isn't wholly negated, and of which the only literal that isn't negated is held
pub record IsInactive (assigned clause : List Lit) : Type 0 where
  pub not_false : open_lits assigned clause ≡ [] → ⊥
  pub not_unit : unit_of assigned clause ≡ None

-- each live clause is quiet
abbrev pub IsClosed : Store → List Lit → Type 0
IsClosed store assigned = (id : ℕ) (c : List Lit) → live_clause store id ≡ Some c → IsInactive assigned c

-- no two opposites are held
abbrev pub IsConsistent : List Lit → Type 0
IsConsistent assigned = (l : Lit) → is_assigned assigned l ≡ true → is_assigned assigned (opposite l) ≡ false

-- a closed set of literals that has no two opposites, doesn't hold one literal of the clause, and holds the opposites of the others
pub record IsNewBy (store : Store) (clause : List Lit) (l : Lit) (assigned : List Lit) : Type 0 where
  pub one : is_assigned clause l ≡ true
  pub closed : IsClosed store assigned
  pub consistent : IsConsistent assigned
  pub not_assigned : is_assigned assigned l ≡ false
  pub others : (k : Lit) → is_assigned clause k ≡ true → (k ≡ l → ⊥) → is_assigned assigned (opposite k) ≡ true

-- a clause is new where some literal and some set of literals show it
abbrev pub IsNew : Store → List Lit → Type 0
IsNew store clause = (l : Lit) × (assigned : List Lit) × IsNewBy store clause l assigned
