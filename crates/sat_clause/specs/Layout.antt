-- How the clauses lie in one list of literals.
use Rattle.std.specs.Prelude.{ℕ, zero, suc, ◌≡◌, ◌≤◌, Bool, List, [], ◌∷◌, length, get_or, map, slice_range}
use Rattle.sat_clause.specs.declared.lit.Lit.{Lit}
use Rattle.sat_clause.specs.Clauses.{Store}

-- where a clause begins and ends in the list of all literals, and whether it is live
pub record Head : Type 0 where
  pub start : ℕ
  pub end : ℕ
  pub live : Bool

-- the clause that a head gives
abbrev pub clause_at : List Lit → Head → (List Lit × Bool)
clause_at lits h = (slice_range lits h.start h.end, h.live)

-- the clauses that the heads give, in order, each with its mark
abbrev pub clauses_of : List Lit → List Head → Store
clauses_of lits heads = map (clause_at lits) heads

-- the heads of clauses that lie one after another from a place on, by where they end and by their marks
abbrev pub heads_of : ℕ → List ℕ → List Bool → List Head
heads_of from [] marks = []
heads_of from (e ∷ es) [] = []
heads_of from (e ∷ es) (m ∷ ms) = record { start = from; end = e; live = m } ∷ heads_of e es ms

-- where the clause at a place begins: where the one before ends, and the first where all begin
abbrev pub begin_at : ℕ → List ℕ → ℕ → ℕ
begin_at from ends zero = from
begin_at from ends (suc i) = get_or ends i 0

-- the heads give pieces that lie one after another from a place to an end
abbrev pub LaidOut : ℕ → List Head → ℕ → Type 0
LaidOut from [] end = from ≤ end
LaidOut from (h ∷ hs) end = (from ≤ h.start) × (h.start ≤ h.end) × LaidOut h.end hs end

-- each clause has a mark, and the clauses lie one after another up to the end of all literals
pub record IsLaidOut (lits : List Lit) (ends : List ℕ) (marks : List Bool) : Type 0 where
  pub marked : length marks ≡ length ends
  pub laid : LaidOut 0 (heads_of 0 ends marks) (length lits)
  pub whole : begin_at 0 ends (length ends) ≡ length lits
