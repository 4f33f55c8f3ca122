-- The base that is left: what makes it true, and the numbers in it.
use Rattle.std.proofs.Common.{◌≡◌, ℕ, ◌≤◌, Bool, true, false, not, List, map, filter, refl, sym, ap, subst, ◌∙◌, arith, le-leb}
use Rattle.std.specs.Prelude.{◌≢◌}
use Rattle.std.specs.List.{list_all}
use Rattle.std.proofs.lemmas.List.Folds.{list_all-append}
use Rattle.rail_base.specs.declared.station.Station.{Station}
use Rattle.rail_base.specs.declared.route.Route.{Route}
use Rattle.rail_base.specs.declared.plan.Command.{Command}
use Rattle.rail_base.proofs.Members.{In, and_both, and_left, list_all_at}
use Rattle.rail_base.proofs.Lists.{in_filter_back, in_map_back}
use Rattle.rail_spec.specs.Feasible.{is_of}
use Rattle.rail_spec.specs.Plans.{all_commands, commands, has_command, step_of}
use Rattle.sat_clause.specs.declared.lit.Lit.{Lit}
use Rattle.sat_clause.specs.Clauses.{clause_holds}
use Rattle.clause_spec.specs.declared.question.Turns.{Turns}
use Rattle.clause_spec.specs.Variables.{Variable, Given, By, Literal, number_of}
use Rattle.clause_spec.specs.Clauses.{Clause, base_clauses}
use Rattle.clause_spec.specs.Models.{decoded, is_so, model_of}
use Rattle.clause_spec.proofs.Base.{is_of_in}
use Rattle.clause_spec.proofs.Decode.{decoded_formed, decoded_given, decoded_names}
use Rattle.clause_spec.proofs.Numbers.{model_says}
use Rattle.clause_spec.proofs.Shown.{short_enough}
use Rattle.clause_spec.proofs.Steps.{has_from, step_high}
use Rattle.alike_clause_spec.specs.Sorted.{sorted_base}
use Rattle.alike_clause_spec.specs.Turns.{turn_clauses, turn_pairs}
use Rattle.live_clause_spec.specs.Variables.{is_dead, live_count, live_number, live_numbered}
use Rattle.live_clause_spec.specs.Clauses.{base_left, clauses_left, denies_dead, sorted_clauses, without_dead}
use Rattle.live_clause_spec.specs.Models.{live_model_of, live_says, spread}
use Rattle.live_clause_spec.proofs.Lists.{not_not, not_true}
use Rattle.live_clause_spec.proofs.Numbers.{live_number_high, live_number_low, one_live_number}
use Rattle.live_clause_spec.proofs.Sorted.{not_last, sorted_are, sorted_known}
use Rattle.live_clause_spec.proofs.Spread.{clauses_spread, model_alike, spread_says}

module _ (turns : Turns) (live : Command → Bool) (d : Station) (routes : List Route) (n : ℕ) (some : 1 ≤ n) where
  -- values make it true exactly where they make the sorted base true, with dead variables false
  pub base_spread : (values : ℕ → Bool) → list_all (clause_holds values) (base_left turns live d routes n) ≡ list_all (clause_holds (spread live d routes n values)) (sorted_base turns d routes n)
  base_spread values = clauses_spread live d routes n values (sorted_clauses turns d routes n) (sorted_known turns d routes n some) ∙ ap (list_all (clause_holds (spread live d routes n values))) (sym (sorted_are turns d routes n))

  -- so does the model of a plan that has live commands alone
  pub base_of_plan : (plan : List (List Command)) → ((c : Command) → In c (commands plan) → live c ≡ true)
      → list_all (clause_holds (live_model_of live d routes n plan)) (base_left turns live d routes n) ≡ list_all (clause_holds (model_of d routes n plan)) (sorted_base turns d routes n)
  base_of_plan plan all = model_alike live d routes n plan all (sorted_clauses turns d routes n) (sorted_known turns d routes n some) ∙ ap (list_all (clause_holds (model_of d routes n plan))) (sym (sorted_are turns d routes n))

  -- ---- the plan that values give

  module _ (values : ℕ → Bool) (true_ : list_all (clause_holds (spread live d routes n values)) (sorted_base turns d routes n) ≡ true) where
    abbrev whole : ℕ → Bool
    whole = spread live d routes n values

    abbrev plan : List (List Command)
    plan = decoded d routes n whole

    plain : list_all (clause_holds (spread live d routes n values)) (base_clauses d routes n) ≡ true
    plain = and_left (list_all (clause_holds whole) (base_clauses d routes n)) (list_all (clause_holds whole) (turn_clauses d routes n (turn_pairs turns d)))
        (sym (list_all-append (clause_holds whole) (base_clauses d routes n) (turn_clauses d routes n (turn_pairs turns d))) ∙ true_)

    -- it has live commands alone
    pub decoded_live : (c : Command) → In c (commands (decoded d routes n (spread live d routes n values))) → live c ≡ true
    decoded_live c m =
        let known : In c (all_commands d routes) = is_of_in d routes c (list_all_at (is_of d routes) (commands plan) c (decoded_names d routes n whole plain) m) in
        let short = short_enough d routes n plan (decoded_formed d routes n whole plain) in
        let high = step_high plan c m in
        let last : n ≤ n = omega arith in
        let so : is_so plan (Given c n) ≡ true = and_both (has_command plan c) _ (has_from (commands plan) c m) (le-leb (step_of plan c) n (omega arith)) in
        let said : whole (number_of d routes n (Given c n)) ≡ true = sym (decoded_given d routes n whole plain c n known some last) ∙ (model_says d routes n plan (Given c n) (known, some, last) ∙ so) in
        let both : live_says live d routes n values (Given c n) ≡ true = sym (spread_says live d routes n values (Given c n) (known, some, last)) ∙ said in
        sym (not_not (live c)) ∙ and_left (not (is_dead live (Given c n))) (values (live_number live d routes n (Given c n))) both

  -- ---- the numbers in it

  pub left_in_range : (c : List Lit) → In c (base_left turns live d routes n) → (l : Lit) → In l c → (1 ≤ l.var) × (l.var ≤ live_count live d routes n) × (l.var ≢ live_number live d routes n (By n))
  left_in_range c m l i = clause (in_map_back (map (live_numbered live d routes n)) (clauses_left turns live d routes n) c m)
    where
      alive : Literal → Bool
      alive x = not (is_dead live x.variable)

      of_variable : (v : Variable) → live_number live d routes n v ≡ l.var → (1 ≤ live_number live d routes n v) × (live_number live d routes n v ≤ live_count live d routes n) × (live_number live d routes n v ≢ live_number live d routes n (By n))
          → (1 ≤ l.var) × (l.var ≤ live_count live d routes n) × (l.var ≢ live_number live d routes n (By n))
      of_variable v e r = subst (λ x. (1 ≤ x) × (x ≤ live_count live d routes n) × (x ≢ live_number live d routes n (By n))) e r

      literal : (old : Clause) → In old (sorted_clauses turns d routes n) → (x : Literal) → In x old → is_dead live x.variable ≡ false → live_numbered live d routes n x ≡ l
          → (1 ≤ l.var) × (l.var ≤ live_count live d routes n) × (l.var ≢ live_number live d routes n (By n))
      literal old k x j a e =
          let known = sorted_known turns d routes n some old k x j in
          let last : n ≤ n = omega arith in
          of_variable x.variable (ap (λ (y : Lit). y.var) e) (
            live_number_low live d routes n x.variable known a,
            live_number_high live d routes n x.variable known a,
            (λ same. not_last turns d routes n some old k x j (one_live_number live d routes n x.variable (By n) known a (some, last) (let r : is_dead live (By n) ≡ false = refl in r) same)),
          )

      kept : (old : Clause) → In old (sorted_clauses turns d routes n) → ((x : Literal) × In x (without_dead live old) × (live_numbered live d routes n x ≡ l)) → (1 ≤ l.var) × (l.var ≤ live_count live d routes n) × (l.var ≢ live_number live d routes n (By n))
      kept old k (x, j, e) = let f = in_filter_back alive old x j in literal old k x f.0 (not_true (is_dead live x.variable) f.1) e

      left : (cl : Clause) → map (live_numbered live d routes n) cl ≡ c → ((old : Clause) × In old (filter (λ cl. not (denies_dead live cl)) (sorted_clauses turns d routes n)) × (without_dead live old ≡ cl))
          → (1 ≤ l.var) × (l.var ≤ live_count live d routes n) × (l.var ≢ live_number live d routes n (By n))
      left cl e (old, k, f) =
          let old_in = (in_filter_back (λ cl. not (denies_dead live cl)) (sorted_clauses turns d routes n) old k).0 in
          kept old old_in (in_map_back (live_numbered live d routes n) (without_dead live old) l (subst (λ (x : List Lit). In l x) (sym e ∙ ap (map (live_numbered live d routes n)) (sym f)) i))

      clause : ((cl : Clause) × In cl (clauses_left turns live d routes n) × (map (live_numbered live d routes n) cl ≡ c)) → (1 ≤ l.var) × (l.var ≤ live_count live d routes n) × (l.var ≢ live_number live d routes n (By n))
      clause (cl, k, e) = left cl e (in_map_back (without_dead live) (filter (λ cl. not (denies_dead live cl)) (sorted_clauses turns d routes n)) cl k)
