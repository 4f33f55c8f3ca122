-- The clauses of small cones, by hand-counted numbers.
use Rattle.std.specs.Prelude.{◌≡◌, ℕ, zero, suc, Bool, true, false, [], ◌∷◌, map, ℤ, pos, negsuc, None, Some, refl}
use Rattle.rail_base.specs.declared.plan.Violation.TheVariants as violation
use Rattle.sat_clause.specs.declared.lit.Lit.{Lit}
use Rattle.rail_spec.specs.Track.{routes_of}
use Rattle.rail_laws.proofs.Stations.{halt_within, follow_short, plan_one, plan_two, command}
use Rattle.cone_spec.specs.declared.Cone.{Cone}
use Rattle.sat_clause.specs.Clauses.{clause_holds}
use Rattle.clause_spec.specs.Models.{model_of}
use Rattle.cone_clause.specs.Numbered.{numbered_clause}

-- a literal as a whole number
abbrev signed : Lit → ℤ
signed l = sign l.negated l.var
  where
    sign : Bool → ℕ → ℤ
    sign false v = pos v
    sign true zero = pos 0
    sign true (suc v) = negsuc v

-- one train that is too slow
abbrev too_slow : Cone
too_slow = record { trains = record { train = record { 0 = 1 }; horizon = 9; free = 2; path = record { 0 = 1 } ∷ record { 0 = 2 } ∷ []; holder = None } ∷ []; pairs = []; violation = violation.Within 1 }

slow_clause : map signed (numbered_clause (halt_within 8000) (routes_of (halt_within 8000)) 2 too_slow) ≡ negsuc 1 ∷ negsuc 3 ∷ []
slow_clause = refl

slow_denied : clause_holds (model_of (halt_within 8000) (routes_of (halt_within 8000)) 2 plan_one) (numbered_clause (halt_within 8000) (routes_of (halt_within 8000)) 2 too_slow) ≡ false
slow_denied = refl

-- a second train that is not let in by the horizon
abbrev shut_out : Cone
shut_out = record {
  trains =
      record { train = record { 0 = 1 }; horizon = 7; free = 2; path = record { 0 = 1 } ∷ record { 0 = 2 } ∷ []; holder = None }
      ∷ record { train = record { 0 = 2 }; horizon = 8; free = 0; path = record { 0 = 1 } ∷ []; holder = Some (command 1 1) } ∷ [];
  pairs = (command 1 1, command 2 1) ∷ [];
  violation = violation.Grant (record { 0 = 2 }) 1;
}

-- its two used commands of the first train, that of the second, the listed pair, and those that might come before a free one
shut_out_clause : map signed (numbered_clause follow_short (routes_of follow_short) 2 shut_out) ≡ negsuc 1 ∷ negsuc 3 ∷ negsuc 7 ∷ negsuc 12 ∷ pos 20 ∷ pos 22 ∷ pos 24 ∷ pos 25 ∷ []
shut_out_clause = refl

shut_out_denied : clause_holds (model_of follow_short (routes_of follow_short) 4 plan_two) (numbered_clause follow_short (routes_of follow_short) 4 shut_out) ≡ false
shut_out_denied = refl
