-- Values that make the base true give a plan whose own model makes it true.
use Rattle.std.proofs.Common.{◌≡◌, ℕ, ◌≤◌, Bool, true, List, map, ap, sym, ◌∙◌}
use Rattle.std.specs.List.{list_all}
use Rattle.rail_base.specs.declared.station.Station.{Station}
use Rattle.rail_base.specs.declared.route.Route.{Route}
use Rattle.rail_base.specs.declared.plan.Command.{Command}
use Rattle.rail_base.proofs.Members.{In, list_all_at}
use Rattle.rail_base.proofs.Lists.{list_all_from, in_map_back}
use Rattle.rail_spec.specs.Feasible.{is_of}
use Rattle.rail_spec.specs.Plans.{commands}
use Rattle.sat_clause.specs.declared.lit.Lit.{Lit}
use Rattle.sat_clause.specs.Clauses.{clause_holds}
use Rattle.clause_spec.specs.Variables.{Variable, Given, Before, By, numbered, number_of}
use Rattle.clause_spec.specs.Clauses.{Clause, clauses, base_clauses}
use Rattle.clause_spec.specs.Models.{holds, is_so, model_of, decoded}
use Rattle.clause_spec.proofs.Base.{is_of_in}
use Rattle.clause_spec.proofs.Decode.{decoded_names, decoded_formed, decoded_runs, decoded_given, decoded_before}
use Rattle.clause_spec.proofs.Families.{KnownAll, clauses_known}
use Rattle.clause_spec.proofs.Forward.{Fit, all_given_holds}
use Rattle.clause_spec.proofs.Numbers.{Known, model_says, clause_says, holds_alike}
use Rattle.clause_spec.proofs.Plain.{IsPlain, of_plain}

module _ (d : Station) (routes : List Route) (n : ℕ) (values : ℕ → Bool) (true_ : list_all (clause_holds values) (base_clauses d routes n) ≡ true) (some : 1 ≤ n) where
  abbrev plan : List (List Command)
  plan = decoded d routes n values

  abbrev says : Variable → Bool
  says v = values (number_of d routes n v)

  -- the plan says the same of what is given, and of which is before
  same_said : (v : Variable) → Known d routes n v → IsPlain v → is_so plan v ≡ says v
  same_said (Given c i) k p = sym (model_says d routes n plan (Given c i) k) ∙ decoded_given d routes n values true_ c i k.0 k.1 k.2
  same_said (Before e c) k p = sym (model_says d routes n plan (Before e c) k) ∙ decoded_before d routes n values true_ some e c k
  same_said (By j) k p = absurd p

  fit : Fit d routes n plan
  fit = record {
    named = λ c m. is_of_in d routes c (list_all_at (is_of d routes) (commands plan) c (decoded_names d routes n values true_) m);
    formed = decoded_formed d routes n values true_;
    can_run = decoded_runs d routes n values true_;
  }

  -- each clause is true of the plan
  abbrev Kept : Clause → Type 0
  Kept cl = KnownAll d routes n cl → holds says cl ≡ true → holds (is_so plan) cl ≡ true

  kept : (cl : Clause) → In cl (clauses d routes n) → Kept cl
  kept = of_plain d routes n Kept
      (λ cl p known h. holds_alike (is_so plan) says cl (λ l m. same_said l.variable (known l m) (p l m)) ∙ h)
      (λ k i cl m known h. all_given_holds d routes n plan fit k cl m)

  one : (c : List Lit) → In c (base_clauses d routes n) → clause_holds (model_of d routes n plan) c ≡ true
  one c m =
      let f = in_map_back (map (numbered d routes n)) (clauses d routes n) c m in
      let known = clauses_known d routes n some f.0 f.1 in
      let said : holds says f.0 ≡ true = sym (clause_says d routes n values f.0) ∙ (ap (clause_holds values) f.2 ∙ list_all_at (clause_holds values) (base_clauses d routes n) c true_ m) in
      ap (clause_holds (model_of d routes n plan)) (sym f.2) ∙ (clause_says d routes n (model_of d routes n plan) f.0
      ∙ (holds_alike (λ v. model_of d routes n plan (number_of d routes n v)) (is_so plan) f.0 (λ l k. model_says d routes n plan l.variable (known l k))
      ∙ kept f.0 f.1 known said))

  -- the model of the plan makes the base true
  pub retold : list_all (clause_holds (model_of d routes n plan)) (base_clauses d routes n) ≡ true
  retold = list_all_from (clause_holds (model_of d routes n plan)) (base_clauses d routes n) one
