-- Clauses over the variables of the plain base are true alike where the values agree there.
use Rattle.std.proofs.Common.{◌≡◌, ℕ, ◌≤◌, ◌<◌, inl, inr, Bool, true, cond, not, ◌&&◌, ◌||◌, List, [], ◌∷◌, ◌++◌, map, refl, sym, ap, subst, ◌∙◌, arith}
use Rattle.std.specs.List.{list_all}
use Rattle.std.proofs.lemmas.List.Folds.{list_all-append}
use Rattle.rail_base.specs.declared.station.Station.{Station}
use Rattle.rail_base.specs.declared.route.Route.{Route}
use Rattle.rail_base.specs.declared.plan.Command.{Command}
use Rattle.rail_base.proofs.Members.{In, and_left, and_right, and_both, list_all_at}
use Rattle.rail_base.proofs.Lists.{in_map_back, list_all_from}
use Rattle.sat_clause.specs.declared.lit.Lit.{Lit}
use Rattle.sat_clause.specs.Clauses.{lit_holds, clause_holds}
use Rattle.clause_spec.specs.declared.question.BaseKind.{BaseKind}
use Rattle.clause_spec.specs.declared.question.BaseKind.TheVariants.{Plain, Sorted, Normal, Live}
use Rattle.clause_spec.specs.declared.question.Turns.TheVariants.{All}
use Rattle.clause_spec.specs.Variables.{numbered, variable_count}
use Rattle.clause_spec.specs.Clauses.{Clause, base_clauses}
use Rattle.clause_spec.specs.Models.{model_of}
use Rattle.clause_spec.proofs.Families.{KnownAll}
use Rattle.clause_spec.proofs.InRange.{literals_in_range}
use Rattle.clause_spec.proofs.Variables.{number_high}
use Rattle.alike_clause_spec.specs.Turns.{turn_clauses, turn_pairs}
use Rattle.normal_clause_spec.specs.Variables.{normal_numbered}
use Rattle.normal_clause_spec.specs.Clauses.{normal_clauses}
use Rattle.live_clause_spec.specs.Live.{is_live}
use Rattle.live_clause_spec.specs.Models.{spread}
use Rattle.live_clause_spec.proofs.Base.{base_spread}
use Rattle.base_spec.specs.Bases.{HasModelFor, clauses_of, on_plain}
use Rattle.base_spec.specs.Laws.{BeginsWithPlain}

-- values that agree up to a number
module _ (one other : ℕ → Bool) (count : ℕ) (same : (v : ℕ) → v ≤ count → one v ≡ other v) where
  -- make clauses over these numbers true alike
  pub alike_on_base : (clause : List Lit) → ((l : Lit) → In l clause → l.var ≤ count) → clause_holds one clause ≡ clause_holds other clause
  alike_on_base [] h = refl
  alike_on_base (l ∷ ls) h =
      let a : lit_holds one l ≡ lit_holds other l = ap (λ b. cond l.negated (not b) b) (same l.var (h l (inl refl))) in
      let b = alike_on_base ls (λ m k. h m (inr k)) in
      ap (λ x. x || clause_holds one ls) a ∙ ap (λ x. lit_holds other l || x) b

  -- so all of them are true where they are under the other values
  pub all_alike : (clauses : List (List Lit)) → ((c : List Lit) → In c clauses → (l : Lit) → In l c → l.var ≤ count) → list_all (clause_holds other) clauses ≡ true → list_all (clause_holds one) clauses ≡ true
  all_alike clauses over h = list_all_from (clause_holds one) clauses (λ c m. alike_on_base c (over c m) ∙ list_all_at (clause_holds other) clauses c h m)

-- the two parts of a list of clauses
pub first_true : (values : ℕ → Bool) (clauses more : List (List Lit)) → list_all (clause_holds values) (clauses ++ more) ≡ true → list_all (clause_holds values) clauses ≡ true
first_true values clauses more h =
    let both : (list_all (clause_holds values) clauses && list_all (clause_holds values) more) ≡ true = sym (list_all-append (clause_holds values) clauses more) ∙ h in
    and_left (list_all (clause_holds values) clauses) (list_all (clause_holds values) more) both

pub last_true : (values : ℕ → Bool) (clauses more : List (List Lit)) → list_all (clause_holds values) (clauses ++ more) ≡ true → list_all (clause_holds values) more ≡ true
last_true values clauses more h =
    let both : (list_all (clause_holds values) clauses && list_all (clause_holds values) more) ≡ true = sym (list_all-append (clause_holds values) clauses more) ∙ h in
    and_right (list_all (clause_holds values) clauses) (list_all (clause_holds values) more) both

pub both_true : (values : ℕ → Bool) (clauses more : List (List Lit)) → list_all (clause_holds values) clauses ≡ true → list_all (clause_holds values) more ≡ true → list_all (clause_holds values) (clauses ++ more) ≡ true
both_true values clauses more h k = list_all-append (clause_holds values) clauses more ∙ and_both (list_all (clause_holds values) clauses) (list_all (clause_holds values) more) h k

-- ---- models of plans

module _ (kind : BaseKind) (d : Station) (routes : List Route) (n : ℕ) (plan : List (List Command)) (clauses more : List (List Lit)) where
  -- further clauses come behind, where they say what clauses over the plain base say
  module _ (plain : List (List Lit)) (alike : (values : ℕ → Bool) → list_all (clause_holds values) more ≡ list_all (clause_holds (on_plain kind d routes n values)) plain)
      (over : (c : List Lit) → In c plain → (l : Lit) → In l c → l.var ≤ variable_count d routes n) where
    -- that are true of the plan
    pub extended : HasModelFor kind d routes n plan clauses → list_all (clause_holds (model_of d routes n plan)) plain ≡ true → HasModelFor kind d routes n plan (clauses ++ more)
    extended m h = record {
      values = m.values;
      of_plan = m.of_plan;
      holds = both_true m.values clauses more m.holds (alike m.values ∙ all_alike (on_plain kind d routes n m.values) (model_of d routes n plan) (variable_count d routes n) m.of_plan plain over h);
    }

    -- so they are where they stand there
    pub last_part : HasModelFor kind d routes n plan (clauses ++ more) → list_all (clause_holds (model_of d routes n plan)) plain ≡ true
    last_part m = all_alike (model_of d routes n plan) (on_plain kind d routes n m.values) (variable_count d routes n) (λ v h. sym (m.of_plan v h)) plain over (sym (alike m.values) ∙ last_true m.values clauses more m.holds)

  -- they can be left out
  pub first_part : HasModelFor kind d routes n plan (clauses ++ more) → HasModelFor kind d routes n plan clauses
  first_part m = record { values = m.values; of_plan = m.of_plan; holds = first_true m.values clauses more m.holds }

-- ---- the plain base

at_most : (x a : ℕ) → x < a → x ≤ a
at_most x a h = omega arith

-- its clauses are over its variables
pub base_over : (d : Station) (routes : List Route) (n : ℕ) → 1 ≤ n → (c : List Lit) → In c (base_clauses d routes n) → (l : Lit) → In l c → l.var ≤ variable_count d routes n
base_over d routes n some c m l i = let r = literals_in_range d routes n some c m l i in at_most l.var (variable_count d routes n) r.1

-- each base begins with it
pub begins_with_plain : (kind : BaseKind) (d : Station) (routes : List Route) (n : ℕ) → 1 ≤ n → BeginsWithPlain kind d routes n
begins_with_plain Plain d routes n some values h = h
begins_with_plain Sorted d routes n some values h = first_true values (base_clauses d routes n) (turn_clauses d routes n (turn_pairs All d)) h
begins_with_plain Normal d routes n some values h = first_true values (base_clauses d routes n) (map (map (normal_numbered d routes n)) (normal_clauses d routes n)) h
begins_with_plain (Live turns) d routes n some values h =
    first_true (spread (is_live d routes) d routes n values) (base_clauses d routes n) (turn_clauses d routes n (turn_pairs turns d)) (sym (base_spread turns (is_live d routes) d routes n some values) ∙ h)

-- a plan with a model for a base makes the plain base true
pub plain_holds : (kind : BaseKind) (d : Station) (routes : List Route) (n : ℕ) (plan : List (List Command)) → 1 ≤ n → HasModelFor kind d routes n plan (clauses_of kind d routes n)
    → list_all (clause_holds (model_of d routes n plan)) (base_clauses d routes n) ≡ true
plain_holds kind d routes n plan some m =
    all_alike (model_of d routes n plan) (on_plain kind d routes n m.values) (variable_count d routes n) (λ v h. sym (m.of_plan v h)) (base_clauses d routes n) (base_over d routes n some)
    (begins_with_plain kind d routes n some m.values m.holds)

-- each clause over variables that there are is over the numbers of the plain base
pub known_over : (d : Station) (routes : List Route) (n : ℕ) (cl : Clause) → KnownAll d routes n cl → (l : Lit) → In l (map (numbered d routes n) cl) → l.var ≤ variable_count d routes n
known_over d routes n cl known l i =
    let f = in_map_back (numbered d routes n) cl l i in
    subst (λ (x : Lit). x.var ≤ variable_count d routes n) f.2 (number_high d routes n f.0.variable (known f.0 f.1))
