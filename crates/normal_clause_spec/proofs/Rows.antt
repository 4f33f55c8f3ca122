-- The clauses of small designs, and of which plans they are true.
use Rattle.std.specs.Prelude.{◌≡◌, ℕ, zero, suc, Bool, true, false, List, [], ◌∷◌, map, flat_map, ℤ, pos, negsuc, refl}
use Rattle.std.specs.List.{list_all}
use Rattle.rail_base.specs.declared.plan.Command.{Command}
use Rattle.rail_spec.specs.Plans.{all_commands}
use Rattle.rail_spec.specs.Track.{routes_of}
use Rattle.rail_laws.proofs.Stations.{halt, follow, command, plan_one, plan_two}
use Rattle.sat_clause.specs.declared.lit.Lit.{Lit}
use Rattle.sat_clause.specs.Clauses.{clause_holds}
use Rattle.normal_clause_spec.specs.Variables.{normal_numbered}
use Rattle.normal_clause_spec.specs.Clauses.{kept, normal_clauses}
use Rattle.normal_clause_spec.specs.Models.{normal_model_of}

-- a literal as a whole number
abbrev signed : Lit → ℤ
signed l = sign l.negated l.var
  where
    sign : Bool → ℕ → ℤ
    sign false v = pos v
    sign true zero = pos 0
    sign true (suc v) = negsuc v

clauses_of_halt : map (map signed) (map (map (normal_numbered halt (routes_of halt) 2)) (normal_clauses halt (routes_of halt) 2)) ≡
    (negsuc 8 ∷ pos 1 ∷ []) ∷
    (negsuc 0 ∷ pos 9 ∷ []) ∷
    (negsuc 9 ∷ pos 2 ∷ []) ∷
    (negsuc 9 ∷ negsuc 0 ∷ []) ∷
    (negsuc 1 ∷ pos 1 ∷ pos 10 ∷ []) ∷
    (negsuc 10 ∷ pos 3 ∷ []) ∷
    (negsuc 2 ∷ pos 11 ∷ []) ∷
    (negsuc 11 ∷ pos 4 ∷ []) ∷
    (negsuc 11 ∷ negsuc 2 ∷ []) ∷
    (negsuc 3 ∷ pos 3 ∷ pos 12 ∷ []) ∷
    (negsuc 12 ∷ pos 5 ∷ []) ∷
    (negsuc 4 ∷ pos 13 ∷ []) ∷
    (negsuc 13 ∷ pos 6 ∷ []) ∷
    (negsuc 13 ∷ negsuc 4 ∷ []) ∷
    (negsuc 5 ∷ pos 5 ∷ pos 14 ∷ []) ∷
    (negsuc 9 ∷ []) ∷
    (negsuc 11 ∷ pos 9 ∷ []) ∷
    (negsuc 13 ∷ []) ∷ []
clauses_of_halt = refl

kept_of_follow : map (map signed) (map (map (normal_numbered follow (routes_of follow) 2)) (flat_map (kept follow (routes_of follow) 2) (all_commands follow (routes_of follow)))) ≡
    (negsuc 29 ∷ pos 35 ∷ pos 37 ∷ pos 39 ∷ []) ∷
    (negsuc 31 ∷ pos 29 ∷ pos 37 ∷ pos 39 ∷ []) ∷
    (negsuc 33 ∷ pos 35 ∷ pos 37 ∷ pos 39 ∷ []) ∷
    (negsuc 35 ∷ pos 29 ∷ pos 31 ∷ pos 33 ∷ []) ∷
    (negsuc 37 ∷ pos 35 ∷ pos 31 ∷ pos 33 ∷ []) ∷
    (negsuc 39 ∷ pos 29 ∷ pos 31 ∷ pos 33 ∷ []) ∷ []
kept_of_follow = refl

-- ---- plans

abbrev are_true_of_halt : List (List Command) → Bool
are_true_of_halt plan = list_all (clause_holds (normal_model_of halt (routes_of halt) 3 plan)) (map (map (normal_numbered halt (routes_of halt) 3)) (normal_clauses halt (routes_of halt) 3))

abbrev are_true_of_follow : List (List Command) → Bool
are_true_of_follow plan = list_all (clause_holds (normal_model_of follow (routes_of follow) 4 plan)) (map (map (normal_numbered follow (routes_of follow) 4)) (normal_clauses follow (routes_of follow) 4))

normal_halt : are_true_of_halt plan_one ≡ true
normal_halt = refl

-- the second command could stand a step earlier
late_halt : are_true_of_halt ((command 1 1 ∷ []) ∷ [] ∷ (command 1 2 ∷ []) ∷ []) ≡ false
late_halt = refl

normal_follow : are_true_of_follow plan_two ≡ true
normal_follow = refl
