-- The values of the model of a plan: on the numbers of the base, and behind them.
use Rattle.std.proofs.Common.{◌≡◌, ℕ, ◌+◌, ◌-◌, ◌≤◌, inl, inr, Bool, false, cond, not, ◌||◌, if◌then◌else◌, List, [], ◌∷◌, map, nat_le, refl, ap, ◌∙◌, arith, leb-true, le-leb}
use Rattle.rail_base.specs.declared.station.Station.{Station}
use Rattle.rail_base.specs.declared.route.Route.{Route}
use Rattle.rail_base.specs.declared.plan.Command.{Command}
use Rattle.rail_base.proofs.Members.{In, false_unless}
use Rattle.sat_clause.specs.declared.lit.Lit.{Lit}
use Rattle.sat_clause.specs.Clauses.{lit_holds, clause_holds}
use Rattle.clause_spec.specs.Variables.{Given, number_of, variable_count}
use Rattle.clause_spec.specs.Models.{model_of}
use Rattle.clause_spec.proofs.InRange.{IsEarly}
use Rattle.clause_spec.proofs.Numbers.{Known, stands_known, model_says, number_low}
use Rattle.clause_spec.proofs.Variables.{number_high}
use Rattle.normal_clause_spec.specs.Variables.{NormalVariable, OfBase, GivenIn, NormalLiteral, normal_number_of, normal_numbered}
use Rattle.normal_clause_spec.specs.Models.{normal_literal_holds, normal_holds, is_normally_so, stands_or_false, stands_at, normal_model_of}

above : (a k : ℕ) → 1 ≤ k → nat_le (a + k) a ≡ false
above a k low = false_unless (nat_le (a + k) a) (λ h. let l = leb-true (a + k) a h in absurd (omega arith))

module _ (d : Station) (routes : List Route) (n : ℕ) where
  pub on_base : (plan : List (List Command)) (v : ℕ) → v ≤ variable_count d routes n → normal_model_of d routes n plan v ≡ model_of d routes n plan v
  on_base plan v h = ap (λ b. if b then model_of d routes n plan v else stands_at d routes n plan (v - variable_count d routes n)) (le-leb v (variable_count d routes n) h)

  pub alike_on_base : (plan : List (List Command)) (clause : List Lit) → ((l : Lit) → In l clause → l.var ≤ variable_count d routes n) → clause_holds (normal_model_of d routes n plan) clause ≡ clause_holds (model_of d routes n plan) clause
  alike_on_base plan [] h = refl
  alike_on_base plan (l ∷ ls) h =
      let a : lit_holds (normal_model_of d routes n plan) l ≡ lit_holds (model_of d routes n plan) l = ap (λ b. cond l.negated (not b) b) (on_base plan l.var (h l (inl refl))) in
      let b = alike_on_base plan ls (λ m k. h m (inr k)) in
      ap (λ x. x || clause_holds (normal_model_of d routes n plan) ls) a ∙ ap (λ x. lit_holds (model_of d routes n plan) l || x) b

  behind_base : (plan : List (List Command)) (k : ℕ) → 1 ≤ k → normal_model_of d routes n plan (variable_count d routes n + k) ≡ stands_at d routes n plan k
  behind_base plan k low =
      let count = variable_count d routes n in
      let back : count + k - count ≡ k = omega arith in
      ap (λ b. if b then model_of d routes n plan (count + k) else stands_at d routes n plan (count + k - count)) (above count k low) ∙ ap (stands_at d routes n plan) back

  -- a variable that there is, and that doesn't say that all is given by the last step
  abbrev pub Fine : NormalVariable → Type 0
  Fine (OfBase v) = Known d routes n v × IsEarly d routes n v
  Fine (GivenIn c i) = Known d routes n (Given c i)

  pub normal_says : (plan : List (List Command)) (v : NormalVariable) → Fine v → normal_model_of d routes n plan (normal_number_of d routes n v) ≡ is_normally_so plan v
  normal_says plan (OfBase v) k = on_base plan (number_of d routes n v) (number_high d routes n v k.0) ∙ model_says d routes n plan v k.0
  normal_says plan (GivenIn c i) k =
      let s = stands_known d routes n (Given c i) k in
      behind_base plan (number_of d routes n (Given c i)) (number_low d routes n (Given c i) k) ∙ ap (stands_at d routes n plan) s.number ∙ ap (stands_or_false plan) s.there

  pub normal_clause_says : (values : ℕ → Bool) (cl : List NormalLiteral) → clause_holds values (map (normal_numbered d routes n) cl) ≡ normal_holds (λ v. values (normal_number_of d routes n v)) cl
  normal_clause_says values [] = refl
  normal_clause_says values (l ∷ ls) = ap (λ b. normal_literal_holds (λ v. values (normal_number_of d routes n v)) l || b) (normal_clause_says values ls)

pub normal_alike : (one other : NormalVariable → Bool) (cl : List NormalLiteral) → ((l : NormalLiteral) → In l cl → one l.variable ≡ other l.variable) → normal_holds one cl ≡ normal_holds other cl
normal_alike one other [] h = refl
normal_alike one other (l ∷ ls) h =
    let a : normal_literal_holds one l ≡ normal_literal_holds other l = ap (λ b. cond l.negated (not b) b) (h l (inl refl)) in
    let b = normal_alike one other ls (λ k m. h k (inr m)) in
    ap (λ x. x || normal_holds one ls) a ∙ ap (λ x. normal_literal_holds other l || x) b
