-- In the model of a feasible plan the clause of a valid certificate is true.
use Rattle.std.proofs.Common.{◌≡◌, ℕ, ◌≤◌, Bool, true, false, not, nat_lt, List, [], ◌∷◌, map, is_none, refl, sym, ap, ◌∙◌, arith, le-leb, le_refl, true≢false}
use Rattle.std.specs.List.{list_all}
use Rattle.rail_base.specs.declared.station.Station.{Station}
use Rattle.rail_base.specs.declared.route.Route.{Route}
use Rattle.rail_base.specs.declared.plan.Command.{Command}
use Rattle.rail_base.specs.Admitted.{IsAdmitted}
use Rattle.rail_base.specs.Members.{all_pairs}
use Rattle.rail_base.proofs.Members.{and_left, and_right, and_both}
use Rattle.rail_spec.specs.Track.{routes_of}
use Rattle.rail_spec.specs.Feasible.{IsFeasible, IsInfeasible}
use Rattle.sat_clause.specs.declared.lit.Lit.{Lit}
use Rattle.sat_clause.specs.Clauses.{clause_holds}
use Rattle.clause_spec.specs.declared.question.Turns.{Turns}
use Rattle.clause_spec.specs.Models.{model_of}
use Rattle.cone_spec.proofs.Sorted.{all_pairs_map}
use Rattle.cone_spec.specs.declared.Cone.{Cone}
use Rattle.cone_spec.specs.Validity.{is_valid_cone}
use Rattle.cone_spec.specs.Clauses.{Literal}
use Rattle.cone_spec.proofs.Refusing.{timed_of}
use Rattle.cone_clause.specs.Numbered.{variable_of, lit_of, numbered_clause}
use Rattle.clause_spec.specs.Variables.{number_of}
use Rattle.cone_clause.proofs.ClauseOrder.{is_literal_before}
use Rattle.cone_clause.proofs.Ordered.{facts_rise, weaken}
use Rattle.cone_clause.proofs.Agreeing.{each_alike, holds_of_feasible, all_append}
use Rattle.alike_clause_spec.specs.Sorted.{AreSound, NoneSortedBy}
use Rattle.alike_clause_spec.proofs.Holding.{none_sorted}
use Rattle.bound_spec.specs.declared.Bound.{Bound}
use Rattle.bound_spec.specs.Clauses.{clause_of_bound}
use Rattle.bound_spec.specs.Validity.{in_design, covered, shows_failure, first_fault, is_valid_bound}
use Rattle.bound_spec.proofs.Certified.{true_of_feasible}
use Rattle.bound_clause.specs.Numbered.{numbered_bound, clauses_of_evidence}
use Rattle.bound_clause.proofs.Known.{all_known}
use Rattle.bound_clause.proofs.ClauseOrder.{clause_sorted}
use Rattle.clause_spec.proofs.Shown.{short_enough}

pub fits_design : (d : Station) (routes : List Route) (b : Bound) → is_valid_bound d routes b ≡ true → in_design d routes b ≡ true
fits_design d routes b = go (in_design d routes b) (covered d routes b) (shows_failure d routes b)
  where
    go : (x y z : Bool) → is_none (first_fault x y z) ≡ true → x ≡ true
    go true y z h = refl
    go false y z h = absurd (true≢false (sym h))

pub bound_holds : (d : Station) → IsAdmitted d → (n : ℕ) (b : Bound) (plan : List (List Command)) → 1 ≤ n → is_valid_bound d (routes_of d) b ≡ true → IsFeasible d n plan → clause_holds (model_of d (routes_of d) n plan) (numbered_bound d (routes_of d) n b) ≡ true
bound_holds d adm n b plan some valid f =
    let short = short_enough d (routes_of d) n plan f.runnable.well_formed.formed in
    each_alike d (routes_of d) n some plan short (clause_of_bound d (routes_of d) b) (all_known d (routes_of d) b (fits_design d (routes_of d) b valid)) ∙ ap not (true_of_feasible d adm n b plan valid f)

pub clause_rises : (d : Station) (routes : List Route) (n : ℕ) (b : Bound) → 1 ≤ n → in_design d routes b ≡ true → all_pairs (λ (l m : Lit). nat_lt l.var m.var) (numbered_bound d routes n b) ≡ true
clause_rises d routes n b some fits = all_pairs_map (λ (l m : Lit). nat_lt l.var m.var) (lit_of d routes n) (clause_of_bound d routes b)
    (weaken d routes n some is_literal_before (λ (l m : Literal). nat_lt (number_of d routes n (variable_of n l.fact)) (number_of d routes n (variable_of n m.fact))) (clause_of_bound d routes b)
    (λ l m i j h. le-leb _ _ (facts_rise d routes n some l.fact m.fact (all_known d routes b fits l i) (all_known d routes b fits m j) h)) (clause_sorted d routes b fits))

pub sound : (d : Station) → IsAdmitted d → (n : ℕ) (cones : List Cone) (bounds : List Bound) → 1 ≤ n → list_all (is_valid_cone d (routes_of d)) cones ≡ true → list_all (is_valid_bound d (routes_of d)) bounds ≡ true → AreSound d n (clauses_of_evidence d n cones bounds)
sound d adm n cones bounds some valid valid_too plan f = all_append (clause_holds (model_of d (routes_of d) n plan)) (map (numbered_clause d (routes_of d) n) cones) (map (numbered_bound d (routes_of d) n) bounds) (each_cone cones valid) (each_bound bounds valid_too)
  where
    each_cone : (ks : List Cone) → list_all (is_valid_cone d (routes_of d)) ks ≡ true → list_all (clause_holds (model_of d (routes_of d) n plan)) (map (numbered_clause d (routes_of d) n) ks) ≡ true
    each_cone [] h = refl
    each_cone (c ∷ cs) h = and_both _ _ (holds_of_feasible d n n c plan some (le_refl n) (timed_of d adm) f (and_left (is_valid_cone d (routes_of d) c) _ h)) (each_cone cs (and_right (is_valid_cone d (routes_of d) c) _ h))

    each_bound : (bs : List Bound) → list_all (is_valid_bound d (routes_of d)) bs ≡ true → list_all (clause_holds (model_of d (routes_of d) n plan)) (map (numbered_bound d (routes_of d) n) bs) ≡ true
    each_bound [] h = refl
    each_bound (b ∷ bs) h = and_both _ _ (bound_holds d adm n b plan some (and_left (is_valid_bound d (routes_of d) b) _ h) f) (each_bound bs (and_right (is_valid_bound d (routes_of d) b) _ h))

pub refuted : (turns : Turns) (d : Station) → IsAdmitted d → (n k : ℕ) (cones : List Cone) (bounds : List Bound) → 1 ≤ k → k ≤ n → list_all (is_valid_cone d (routes_of d)) cones ≡ true → list_all (is_valid_bound d (routes_of d)) bounds ≡ true
    → NoneSortedBy turns d n k (clauses_of_evidence d n cones bounds) → IsInfeasible d k
refuted turns d adm n k cones bounds some more valid valid_too none = none_sorted turns d n k some more (clauses_of_evidence d n cones bounds) (sound d adm n cones bounds (omega arith) valid valid_too) none
