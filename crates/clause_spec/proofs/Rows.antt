-- Bases of designs that another program listed.
use Rattle.std.specs.Prelude.{◌≡◌, ℕ, zero, suc, Bool, true, false, [], ◌∷◌, map, ℤ, pos, negsuc, refl}
use Rattle.sat_clause.specs.declared.lit.Lit.{Lit}
use Rattle.rail_spec.specs.Track.{routes_of}
use Rattle.rail_laws.proofs.Stations.{halt, follow}
use Rattle.clause_spec.specs.Clauses.{base_clauses}

-- a literal as a whole number
abbrev signed : Lit → ℤ
signed l = sign l.negated l.var
  where
    sign : Bool → ℕ → ℤ
    sign false v = pos v
    sign true zero = pos 0
    sign true (suc v) = negsuc v

base_of_halt_within : map (map signed) (base_clauses halt (routes_of halt) 2) ≡
    (negsuc 0 ∷ pos 2 ∷ []) ∷
    (negsuc 2 ∷ pos 4 ∷ []) ∷
    (negsuc 4 ∷ pos 6 ∷ []) ∷
    (negsuc 2 ∷ []) ∷
    (negsuc 3 ∷ pos 1 ∷ []) ∷
    (negsuc 4 ∷ []) ∷
    (negsuc 5 ∷ []) ∷
    (negsuc 1 ∷ negsuc 5 ∷ []) ∷
    (pos 2 ∷ []) ∷
    (pos 4 ∷ []) ∷
    (negsuc 6 ∷ negsuc 1 ∷ pos 1 ∷ []) ∷
    (negsuc 6 ∷ negsuc 3 ∷ pos 3 ∷ []) ∷
    (negsuc 6 ∷ negsuc 5 ∷ pos 5 ∷ []) ∷ []
base_of_halt_within = refl

base_of_halt : map (map signed) (base_clauses halt (routes_of halt) 1) ≡
    (negsuc 1 ∷ []) ∷
    (negsuc 2 ∷ []) ∷
    (negsuc 0 ∷ negsuc 2 ∷ []) ∷
    (pos 1 ∷ []) ∷
    (pos 2 ∷ []) ∷ []
base_of_halt = refl

base_of_follow : map (map signed) (base_clauses follow (routes_of follow) 2) ≡
    (negsuc 0 ∷ pos 2 ∷ []) ∷
    (negsuc 2 ∷ pos 4 ∷ []) ∷
    (negsuc 4 ∷ pos 6 ∷ []) ∷
    (negsuc 6 ∷ pos 8 ∷ []) ∷
    (negsuc 8 ∷ pos 10 ∷ []) ∷
    (negsuc 10 ∷ pos 12 ∷ []) ∷
    (negsuc 2 ∷ []) ∷
    (negsuc 3 ∷ pos 1 ∷ []) ∷
    (negsuc 4 ∷ []) ∷
    (negsuc 5 ∷ []) ∷
    (negsuc 8 ∷ []) ∷
    (negsuc 9 ∷ pos 7 ∷ []) ∷
    (negsuc 10 ∷ []) ∷
    (negsuc 11 ∷ []) ∷
    (negsuc 1 ∷ negsuc 5 ∷ []) ∷
    (negsuc 7 ∷ negsuc 11 ∷ []) ∷
    (negsuc 0 ∷ negsuc 6 ∷ []) ∷
    (negsuc 1 ∷ pos 1 ∷ negsuc 7 ∷ pos 7 ∷ []) ∷
    (negsuc 0 ∷ negsuc 10 ∷ []) ∷
    (negsuc 1 ∷ pos 1 ∷ negsuc 11 ∷ pos 11 ∷ []) ∷
    (negsuc 2 ∷ negsuc 8 ∷ []) ∷
    (negsuc 3 ∷ pos 3 ∷ negsuc 9 ∷ pos 9 ∷ []) ∷
    (negsuc 2 ∷ negsuc 10 ∷ []) ∷
    (negsuc 3 ∷ pos 3 ∷ negsuc 11 ∷ pos 11 ∷ []) ∷
    (negsuc 4 ∷ negsuc 6 ∷ []) ∷
    (negsuc 5 ∷ pos 5 ∷ negsuc 7 ∷ pos 7 ∷ []) ∷
    (negsuc 4 ∷ negsuc 8 ∷ []) ∷
    (negsuc 5 ∷ pos 5 ∷ negsuc 9 ∷ pos 9 ∷ []) ∷
    (negsuc 4 ∷ negsuc 10 ∷ []) ∷
    (negsuc 5 ∷ pos 5 ∷ negsuc 11 ∷ pos 11 ∷ []) ∷
    (negsuc 0 ∷ negsuc 7 ∷ pos 7 ∷ pos 3 ∷ []) ∷
    (negsuc 0 ∷ negsuc 11 ∷ pos 11 ∷ pos 3 ∷ []) ∷
    (negsuc 6 ∷ negsuc 1 ∷ pos 1 ∷ pos 9 ∷ []) ∷
    (negsuc 6 ∷ negsuc 5 ∷ pos 5 ∷ pos 9 ∷ []) ∷
    (pos 2 ∷ []) ∷
    (pos 4 ∷ []) ∷
    (pos 8 ∷ []) ∷
    (pos 10 ∷ []) ∷
    (negsuc 12 ∷ pos 8 ∷ []) ∷
    (negsuc 12 ∷ negsuc 6 ∷ []) ∷
    (negsuc 12 ∷ negsuc 7 ∷ pos 1 ∷ []) ∷
    (pos 13 ∷ negsuc 0 ∷ pos 7 ∷ negsuc 7 ∷ []) ∷
    (negsuc 13 ∷ pos 12 ∷ []) ∷
    (negsuc 13 ∷ negsuc 10 ∷ []) ∷
    (negsuc 13 ∷ negsuc 11 ∷ pos 1 ∷ []) ∷
    (pos 14 ∷ negsuc 0 ∷ pos 11 ∷ negsuc 11 ∷ []) ∷
    (negsuc 14 ∷ pos 10 ∷ []) ∷
    (negsuc 14 ∷ negsuc 8 ∷ []) ∷
    (negsuc 14 ∷ negsuc 9 ∷ pos 3 ∷ []) ∷
    (pos 15 ∷ negsuc 2 ∷ pos 9 ∷ negsuc 9 ∷ []) ∷
    (negsuc 15 ∷ pos 12 ∷ []) ∷
    (negsuc 15 ∷ negsuc 10 ∷ []) ∷
    (negsuc 15 ∷ negsuc 11 ∷ pos 3 ∷ []) ∷
    (pos 16 ∷ negsuc 2 ∷ pos 11 ∷ negsuc 11 ∷ []) ∷
    (negsuc 16 ∷ pos 8 ∷ []) ∷
    (negsuc 16 ∷ negsuc 6 ∷ []) ∷
    (negsuc 16 ∷ negsuc 7 ∷ pos 5 ∷ []) ∷
    (pos 17 ∷ negsuc 4 ∷ pos 7 ∷ negsuc 7 ∷ []) ∷
    (negsuc 17 ∷ pos 10 ∷ []) ∷
    (negsuc 17 ∷ negsuc 8 ∷ []) ∷
    (negsuc 17 ∷ negsuc 9 ∷ pos 5 ∷ []) ∷
    (pos 18 ∷ negsuc 4 ∷ pos 9 ∷ negsuc 9 ∷ []) ∷
    (negsuc 18 ∷ pos 12 ∷ []) ∷
    (negsuc 18 ∷ negsuc 10 ∷ []) ∷
    (negsuc 18 ∷ negsuc 11 ∷ pos 5 ∷ []) ∷
    (pos 19 ∷ negsuc 4 ∷ pos 11 ∷ negsuc 11 ∷ []) ∷
    (negsuc 19 ∷ pos 2 ∷ []) ∷
    (negsuc 19 ∷ negsuc 0 ∷ []) ∷
    (negsuc 19 ∷ negsuc 1 ∷ pos 7 ∷ []) ∷
    (pos 20 ∷ negsuc 6 ∷ pos 1 ∷ negsuc 1 ∷ []) ∷
    (negsuc 20 ∷ pos 6 ∷ []) ∷
    (negsuc 20 ∷ negsuc 4 ∷ []) ∷
    (negsuc 20 ∷ negsuc 5 ∷ pos 7 ∷ []) ∷
    (pos 21 ∷ negsuc 6 ∷ pos 5 ∷ negsuc 5 ∷ []) ∷
    (negsuc 21 ∷ pos 4 ∷ []) ∷
    (negsuc 21 ∷ negsuc 2 ∷ []) ∷
    (negsuc 21 ∷ negsuc 3 ∷ pos 9 ∷ []) ∷
    (pos 22 ∷ negsuc 8 ∷ pos 3 ∷ negsuc 3 ∷ []) ∷
    (negsuc 22 ∷ pos 6 ∷ []) ∷
    (negsuc 22 ∷ negsuc 4 ∷ []) ∷
    (negsuc 22 ∷ negsuc 5 ∷ pos 9 ∷ []) ∷
    (pos 23 ∷ negsuc 8 ∷ pos 5 ∷ negsuc 5 ∷ []) ∷
    (negsuc 23 ∷ pos 2 ∷ []) ∷
    (negsuc 23 ∷ negsuc 0 ∷ []) ∷
    (negsuc 23 ∷ negsuc 1 ∷ pos 11 ∷ []) ∷
    (pos 24 ∷ negsuc 10 ∷ pos 1 ∷ negsuc 1 ∷ []) ∷
    (negsuc 24 ∷ pos 4 ∷ []) ∷
    (negsuc 24 ∷ negsuc 2 ∷ []) ∷
    (negsuc 24 ∷ negsuc 3 ∷ pos 11 ∷ []) ∷
    (pos 25 ∷ negsuc 10 ∷ pos 3 ∷ negsuc 3 ∷ []) ∷
    (negsuc 25 ∷ pos 6 ∷ []) ∷
    (negsuc 25 ∷ negsuc 4 ∷ []) ∷
    (negsuc 25 ∷ negsuc 5 ∷ pos 11 ∷ []) ∷
    (pos 26 ∷ negsuc 10 ∷ pos 5 ∷ negsuc 5 ∷ []) ∷
    (negsuc 26 ∷ negsuc 1 ∷ pos 1 ∷ []) ∷
    (negsuc 26 ∷ negsuc 3 ∷ pos 3 ∷ []) ∷
    (negsuc 26 ∷ negsuc 5 ∷ pos 5 ∷ []) ∷
    (negsuc 26 ∷ negsuc 7 ∷ pos 7 ∷ []) ∷
    (negsuc 26 ∷ negsuc 9 ∷ pos 9 ∷ []) ∷
    (negsuc 26 ∷ negsuc 11 ∷ pos 11 ∷ []) ∷ []
base_of_follow = refl
