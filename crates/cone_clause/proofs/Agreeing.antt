-- In the model of a plan the clause of a cone is true just where a fact of the plan makes it true.
use Rattle.std.proofs.Common.{◌≡◌, ℕ, ◌≤◌, inl, inr, Bool, true, false, cond, not, ◌&&◌, ◌||◌, nat_le, List, [], ◌∷◌, ◌++◌, map, length, refl, ap, ◌∙◌, arith, le-leb}
use Rattle.std.specs.List.{list_all}
use Rattle.rail_base.specs.declared.station.Station.{Station}
use Rattle.rail_base.specs.declared.route.Route.{Route}
use Rattle.rail_base.specs.declared.plan.Command.{Command}
use Rattle.rail_spec.specs.Track.{routes_of}
use Rattle.rail_spec.specs.Plans.{commands, step_of, has_command}
use Rattle.rail_spec.specs.Feasible.{IsFeasible, IsInfeasible}
use Rattle.rail_base.proofs.Members.{In, and_left, and_right, and_both}
use Rattle.sat_clause.specs.Clauses.{lit_holds, clause_holds}
use Rattle.clause_spec.specs.Clauses.{base_clauses}
use Rattle.clause_spec.specs.Variables.{By, number_of}
use Rattle.rail_base.proofs.Lists.{list_all_from}
use Rattle.cone_clause.specs.Laws.{NoneByCones}
use Rattle.clause_spec.specs.Models.{is_so, model_of}
use Rattle.clause_spec.proofs.Steps.{has_gives, step_high}
use Rattle.clause_spec.proofs.Numbers.{model_says}
use Rattle.clause_spec.proofs.Theorems.{feasible_plans_are_models}
use Rattle.cone_spec.specs.declared.Cone.{Cone}
use Rattle.cone_spec.specs.Validity.{in_design, is_valid_cone}
use Rattle.cone_spec.specs.Clauses.{Fact, Used, Before, Literal, holds_of, is_true_of, is_false_of, clause_of_cone}
use Rattle.cone_spec.proofs.Failing.{IsTimed}
use Rattle.cone_spec.proofs.Refusing.{true_of_feasible, holds_of_valid}
use Rattle.cone_clause.specs.Numbered.{variable_of, lit_of, numbered_clause}
use Rattle.cone_clause.proofs.Known.{IsKnown, all_known, fact_known}
use Rattle.clause_spec.proofs.Shown.{short_enough, more_feasible}

-- ---- plans of k steps are plans of more

-- ---- what literals say in the model of a plan

module _ (d : Station) (routes : List Route) (n : ℕ) (some : 1 ≤ n) (plan : List (List Command)) (within : length plan ≤ n) where
  -- a command that is given at all is given by step n
  so_alike : (f : Fact) → is_so plan (variable_of n f) ≡ holds_of plan f
  so_alike (Used c) = go (has_command plan c) refl
    where
      go : (b : Bool) → has_command plan c ≡ b → (b && nat_le (step_of plan c) n) ≡ b
      go false e = refl
      go true e = let high = step_high plan c (has_gives (commands plan) c e) in let w = within in le-leb _ _ (omega arith)
  so_alike (Before e c) = refl

  literal_alike : (l : Literal) → IsKnown d routes l.fact → lit_holds (model_of d routes n plan) (lit_of d routes n l) ≡ is_true_of plan l
  literal_alike l m = ap (λ b. cond l.negated (not b) b) (model_says d routes n plan (variable_of n l.fact) (fact_known d routes n some l.fact m) ∙ so_alike l.fact)

  one_true : (a b : Bool) → (a || not b) ≡ not (not a && b)
  one_true true b = refl
  one_true false b = refl

  pub each_alike : (ls : List Literal) → ((l : Literal) → In l ls → IsKnown d routes l.fact) → clause_holds (model_of d routes n plan) (map (lit_of d routes n) ls) ≡ not (is_false_of plan ls)
  each_alike [] h = refl
  each_alike (l ∷ ls) h =
      ap (λ a. a || clause_holds (model_of d routes n plan) (map (lit_of d routes n) ls)) (literal_alike l (h l (inl refl)))
      ∙ (ap (λ b. is_true_of plan l || b) (each_alike ls (λ k m. h k (inr m))) ∙ one_true (is_true_of plan l) (is_false_of plan ls))

  pub clause_alike : (k : Cone) → in_design d routes k ≡ true → clause_holds (model_of d routes n plan) (numbered_clause d routes n k) ≡ not (is_false_of plan (clause_of_cone d routes k))
  clause_alike k fits = each_alike (clause_of_cone d routes k) (all_known d routes k fits)

-- the clause of a valid cone is true in the model, for n or more steps, of every feasible plan
pub holds_of_feasible : (d : Station) (n k : ℕ) (cone : Cone) (plan : List (List Command)) → 1 ≤ n → k ≤ n → IsTimed d → IsFeasible d k plan → is_valid_cone d (routes_of d) cone ≡ true → clause_holds (model_of d (routes_of d) n plan) (numbered_clause d (routes_of d) n cone) ≡ true
holds_of_feasible d n k cone plan some more timed f valid =
    let short = short_enough d (routes_of d) k plan f.runnable.well_formed.formed in
    clause_alike d (routes_of d) n some plan (omega arith) cone (holds_of_valid d (routes_of d) cone valid).in_design ∙ ap not (true_of_feasible d k cone plan timed f valid)

pub all_append : {X : Type 0} (test : X → Bool) (xs ys : List X) → list_all test xs ≡ true → list_all test ys ≡ true → list_all test (xs ++ ys) ≡ true
all_append test [] ys h k = k
all_append test (x ∷ xs) ys h k = and_both _ _ (and_left (test x) _ h) (all_append test xs ys (and_right (test x) _ h) k)

-- where no values make the base and the clauses of valid cones true and say that all is given by step k, no plan of k steps is feasible
pub none_feasible : (d : Station) (n k : ℕ) (cones : List Cone) → 1 ≤ k → k ≤ n → IsTimed d → list_all (is_valid_cone d (routes_of d)) cones ≡ true → NoneByCones d (routes_of d) n k cones → IsInfeasible d k
none_feasible d n k cones some more timed valid none plan f =
    let short = short_enough d (routes_of d) k plan f.runnable.well_formed.formed in
    let by_then : is_so plan (By k) ≡ true = list_all_from (λ c. nat_le (step_of plan c) k) (commands plan) (λ c m. (let high = step_high plan c m in le-leb (step_of plan c) k (omega arith))) in
    let model = model_of d (routes_of d) n plan in
    none model
    (all_append (clause_holds model) (base_clauses d (routes_of d) n) (map (numbered_clause d (routes_of d) n) cones) (feasible_plans_are_models d n plan (omega arith) (more_feasible d k n plan more f)) (each cones valid))
    (model_says d (routes_of d) n plan (By k) (some, more) ∙ by_then)
  where
    each : (ks : List Cone) → list_all (is_valid_cone d (routes_of d)) ks ≡ true → list_all (clause_holds (model_of d (routes_of d) n plan)) (map (numbered_clause d (routes_of d) n) ks) ≡ true
    each [] h = refl
    each (c ∷ cs) h = and_both _ _ (holds_of_feasible d n k c plan (omega arith) more timed f (and_left (is_valid_cone d (routes_of d) c) _ h)) (each cs (and_right (is_valid_cone d (routes_of d) c) _ h))

-- so too where it is asked of all valid cones
pub none_of_valid : (d : Station) (n k : ℕ) → 1 ≤ k → k ≤ n → IsTimed d
    → ((values : ℕ → Bool) → list_all (clause_holds values) (base_clauses d (routes_of d) n) ≡ true → ((cone : Cone) → is_valid_cone d (routes_of d) cone ≡ true → clause_holds values (numbered_clause d (routes_of d) n cone) ≡ true) → values (number_of d (routes_of d) n (By k)) ≡ true → ⊥)
    → IsInfeasible d k
none_of_valid d n k some more timed none plan f =
    let short = short_enough d (routes_of d) k plan f.runnable.well_formed.formed in
    let by_then : is_so plan (By k) ≡ true = list_all_from (λ c. nat_le (step_of plan c) k) (commands plan) (λ c m. (let high = step_high plan c m in le-leb (step_of plan c) k (omega arith))) in
    none (model_of d (routes_of d) n plan)
    (feasible_plans_are_models d n plan (omega arith) (more_feasible d k n plan more f))
    (λ cone valid. holds_of_feasible d n k cone plan (omega arith) more timed f valid)
    (model_says d (routes_of d) n plan (By k) (some, more) ∙ by_then)
