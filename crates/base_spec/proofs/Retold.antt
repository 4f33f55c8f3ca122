-- Values that make the base of normal plans true give a plan whose model on the plain base, with the same values behind it, does.
use Rattle.std.proofs.Common.{◌≡◌, ℕ, zero, suc, ◌+◌, ◌-◌, ◌≤◌, ◌<◌, ◌⊎◌, inl, inr, Bool, true, false, if◌then◌else◌, nat_le, List, [], ◌∷◌, ◌++◌, map, sym, ap, subst, ◌∙◌, arith, leb-true, le-leb}
use Rattle.std.specs.List.{list_all}
use Rattle.rail_base.specs.declared.station.Station.{Station}
use Rattle.rail_base.specs.declared.route.Route.{Route}
use Rattle.rail_base.specs.declared.plan.Command.{Command}
use Rattle.rail_base.proofs.Members.{In, false_unless, list_all_at}
use Rattle.rail_base.proofs.Lists.{in_append, in_map_back, list_all_from}
use Rattle.sat_clause.specs.declared.lit.Lit.{Lit}
use Rattle.sat_clause.specs.Clauses.{clause_holds}
use Rattle.clause_spec.specs.Variables.{Given, Before, By, yes, no, if_given, number_of, variable_count}
use Rattle.clause_spec.specs.Clauses.{base_clauses}
use Rattle.clause_spec.specs.Models.{decoded, model_of}
use Rattle.clause_spec.proofs.Decode.{decoded_given}
use Rattle.clause_spec.proofs.DecodedModels.{retold}
use Rattle.clause_spec.proofs.Numbers.{number_low}
use Rattle.clause_spec.proofs.Variables.{number_high}
use Rattle.normal_clause_spec.specs.Variables.{NormalVariable, OfBase, GivenIn, NormalLiteral, of_base, is_in, is_not_in, normal_number_of, normal_numbered}
use Rattle.normal_clause_spec.specs.Clauses.{NormalClause, not_before, exactly_in, leaders, keepers, kept_clause, normal_clauses, normal_base}
use Rattle.normal_clause_spec.proofs.InRange.{by_clause, all_fine}
use Rattle.normal_clause_spec.proofs.Values.{Fine, normal_clause_says, normal_alike}
use Rattle.base_spec.proofs.Alike.{all_alike, base_over, both_true, first_true, last_true}

-- the variable says that a command is given by a step, or in it
abbrev IsGiven : NormalVariable → Type 0
IsGiven (OfBase (Given c i)) = Unit {0}
IsGiven (OfBase (Before e c)) = ⊥
IsGiven (OfBase (By k)) = ⊥
IsGiven (GivenIn c i) = Unit {0}

-- ---- the clauses of normal plans say of nothing else

module _ (d : Station) (routes : List Route) (n : ℕ) where
  abbrev GivenAll : NormalClause → Type 0
  GivenAll cl = (l : NormalLiteral) → In l cl → IsGiven l.variable

  given_at : (m l : NormalLiteral) → m ≡ l → IsGiven m.variable → IsGiven l.variable
  given_at m l e g = subst (λ (x : NormalLiteral). IsGiven x.variable) e g

  then_given : (c : Command) (i : ℕ) → GivenAll (is_not_in c i ∷ of_base (yes (Given c i)) ∷ [])
  then_given c i l (inl e) = given_at (is_not_in c i) l e tt
  then_given c i l (inr (inl e)) = given_at (of_base (yes (Given c i))) l e tt
  then_given c i l (inr (inr m)) = absurd m

  before_given : (c : Command) (i : ℕ) (cl : NormalClause) → In cl (not_before d routes n c i) → GivenAll cl
  before_given c zero cl m = absurd m
  before_given c (suc i) cl (inr m) = absurd m
  before_given c (suc i) cl (inl e) = subst GivenAll e all
    where
      all : GivenAll (is_not_in c (suc (suc i)) ∷ of_base (no (Given c (suc i))) ∷ [])
      all l (inl f) = given_at (is_not_in c (suc (suc i))) l f tt
      all l (inr (inl f)) = given_at (of_base (no (Given c (suc i)))) l f tt
      all l (inr (inr m)) = absurd m

  if_given_too : (c : Command) (i : ℕ) → GivenAll (map of_base (if_given c i))
  if_given_too c zero l m = absurd m
  if_given_too c (suc i) l (inl e) = given_at (of_base (yes (Given c (suc i)))) l e tt
  if_given_too c (suc i) l (inr m) = absurd m

  new_given : (c : Command) (i : ℕ) → GivenAll (of_base (no (Given c i)) ∷ map of_base (if_given c (i - 1)) ++ is_in c i ∷ [])
  new_given c i l (inl e) = given_at (of_base (no (Given c i))) l e tt
  new_given c i l (inr m) = go (in_append l (map of_base (if_given c (i - 1))) (is_in c i ∷ []) m)
    where
      go : In l (map of_base (if_given c (i - 1))) ⊎ In l (is_in c i ∷ []) → IsGiven l.variable
      go (inl k) = if_given_too c (i - 1) l k
      go (inr (inl e)) = given_at (is_in c i) l e tt
      go (inr (inr k)) = absurd k

  exactly_given : (c : Command) (i : ℕ) (cl : NormalClause) → In cl (exactly_in d routes n c i) → GivenAll cl
  exactly_given c i cl (inl e) = subst GivenAll e (then_given c i)
  exactly_given c i cl (inr m) = go (in_append cl (not_before d routes n c (i - 1)) ((of_base (no (Given c i)) ∷ map of_base (if_given c (i - 1)) ++ is_in c i ∷ []) ∷ []) m)
    where
      go : In cl (not_before d routes n c (i - 1)) ⊎ In cl ((of_base (no (Given c i)) ∷ map of_base (if_given c (i - 1)) ++ is_in c i ∷ []) ∷ []) → GivenAll cl
      go (inl k) = before_given c (i - 1) cl k
      go (inr (inl e)) = subst GivenAll e (new_given c i)
      go (inr (inr k)) = absurd k

  kept_given : (c : Command) (i : ℕ) → GivenAll (kept_clause d routes n c i)
  kept_given c i l (inl e) = given_at (is_not_in c i) l e tt
  kept_given c i l (inr m) =
      let f = in_map_back (λ e. is_in e (i - 1)) (leaders d routes n c ++ keepers d routes n c) l m in
      given_at (is_in f.0 (i - 1)) l f.2 tt

  all_given : (cl : NormalClause) → In cl (normal_clauses d routes n) → GivenAll cl
  all_given = by_clause d routes n GivenAll (λ c known i low high. exactly_given c i) (λ c known i low high. kept_given c i)

-- ---- the values

above : (v a : ℕ) → a < v → nat_le v a ≡ false
above v a high = false_unless (nat_le v a) (λ h. let l = leb-true v a h in absurd (omega arith))

behind : (a k : ℕ) → 1 ≤ k → a < a + k
behind a k low = omega arith

module _ (d : Station) (routes : List Route) (n : ℕ) (values : ℕ → Bool) where
  abbrev model : ℕ → Bool
  model = model_of d routes n (decoded d routes n values)

  -- those of the plan's model on the variables of the plain base, and the same ones behind them
  abbrev pub joined : ℕ → Bool
  joined v = if nat_le v (variable_count d routes n) then model v else values v

  pub joined_low : (v : ℕ) → v ≤ variable_count d routes n → joined v ≡ model v
  joined_low v h = ap (λ b. if b then model v else values v) (le-leb v (variable_count d routes n) h)

  joined_high : (v : ℕ) → variable_count d routes n < v → joined v ≡ values v
  joined_high v h = ap (λ b. if b then model v else values v) (above v (variable_count d routes n) h)

  module _ (true_ : list_all (clause_holds values) (base_clauses d routes n) ≡ true) where
    -- what is given is so in both
    same_said : (v : NormalVariable) → Fine d routes n v → IsGiven v → joined (normal_number_of d routes n v) ≡ values (normal_number_of d routes n v)
    same_said (OfBase (Given c i)) f g = joined_low (number_of d routes n (Given c i)) (number_high d routes n (Given c i) f.0) ∙ decoded_given d routes n values true_ c i f.0.0 f.0.1 f.0.2
    same_said (OfBase (Before e c)) f g = absurd g
    same_said (OfBase (By k)) f g = absurd g
    same_said (GivenIn c i) f g = joined_high (variable_count d routes n + number_of d routes n (Given c i)) (behind (variable_count d routes n) (number_of d routes n (Given c i)) (number_low d routes n (Given c i) f))

    normal_same : (c : List Lit) → In c (map (map (normal_numbered d routes n)) (normal_clauses d routes n)) → clause_holds joined c ≡ clause_holds values c
    normal_same c m =
        let f = in_map_back (map (normal_numbered d routes n)) (normal_clauses d routes n) c m in
        ap (clause_holds joined) (sym f.2) ∙ (normal_clause_says d routes n joined f.0
        ∙ (normal_alike (λ v. joined (normal_number_of d routes n v)) (λ v. values (normal_number_of d routes n v)) f.0
        (λ l k. same_said l.variable (all_fine d routes n f.0 f.1 l k) (all_given d routes n f.0 f.1 l k))
        ∙ (sym (normal_clause_says d routes n values f.0) ∙ ap (clause_holds values) f.2)))

    clauses_retold : list_all (clause_holds values) (map (map (normal_numbered d routes n)) (normal_clauses d routes n)) ≡ true → list_all (clause_holds joined) (map (map (normal_numbered d routes n)) (normal_clauses d routes n)) ≡ true
    clauses_retold h = list_all_from (clause_holds joined) (map (map (normal_numbered d routes n)) (normal_clauses d routes n))
        (λ c m. normal_same c m ∙ list_all_at (clause_holds values) (map (map (normal_numbered d routes n)) (normal_clauses d routes n)) c h m)

    base_retold : 1 ≤ n → list_all (clause_holds joined) (base_clauses d routes n) ≡ true
    base_retold some = all_alike joined model (variable_count d routes n) joined_low (base_clauses d routes n) (base_over d routes n some) (retold d routes n values true_ some)

  pub normal_retold : 1 ≤ n → list_all (clause_holds values) (normal_base d routes n) ≡ true → list_all (clause_holds joined) (normal_base d routes n) ≡ true
  normal_retold some h =
      let further : List (List Lit) = map (map (normal_numbered d routes n)) (normal_clauses d routes n) in
      let true_ = first_true values (base_clauses d routes n) further h in
      both_true joined (base_clauses d routes n) further (base_retold true_ some) (clauses_retold true_ (last_true values (base_clauses d routes n) further h))
