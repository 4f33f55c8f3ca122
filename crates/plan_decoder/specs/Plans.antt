-- The plan that is decoded from values of a base's variables.
use Rattle.std.specs.Prelude.{ℕ, ◌≡◌, ◌≤◌, Bool, true, List, Result, IfOk}
use Rattle.std.specs.List.{list_all}
use Rattle.rail_base.specs.declared.station.Station.{Station}
use Rattle.rail_base.specs.declared.route.Route.{Route}
use Rattle.rail_base.specs.declared.plan.Plan.{Plan}
use Rattle.rail_spec.specs.Feasible.{IsRunnable}
use Rattle.sat_clause.specs.Clauses.{clause_holds}
use Rattle.sat_core.specs.Models.{value_in}
use Rattle.clause_spec.specs.declared.question.BaseKind.{BaseKind}
use Rattle.clause_spec.specs.Laws.{Agrees}
use Rattle.clause_spec.specs.Models.{model_of}
use Rattle.base_spec.specs.Bases.{clauses_of, decoded_of, on_plain}
use Rattle.plan_encoding.specs.Bases.{speaks_of}
use Rattle.plan_encoding.specs.Numberings.{IsNumberingOf, Numbered}
use Rattle.plan_decoder.specs.Decoded.{EndsAsSaid}

-- it is so of each kind of base, design and number of steps of which this is the numbering
abbrev pub OfBase : Numbered → (BaseKind → Station → List Route → ℕ → Type 0) → Type 0
OfBase b Is =
    (kind : BaseKind) (d : Station) (routes : List Route) (n : ℕ) → IsNumberingOf (speaks_of kind d routes) d routes n b
    → Is kind d routes n

-- the values make the clauses of a base true
abbrev pub AreModel : List Bool → BaseKind → Station → List Route → ℕ → Type 0
AreModel values kind d routes n = list_all (clause_holds (value_in values)) (clauses_of kind d routes n) ≡ true

module _ (numbering : Numbered) (values : List Bool) {E : Type 0} (found : Result Plan E) where
  -- the plan is what the values say
  abbrev pub IsDecoded : Type 0
  IsDecoded = OfBase numbering (λ kind d routes n.
      IfOk found (λ plan. plan.steps ≡ decoded_of kind d routes n (value_in values)))

  -- where they are a model, the plan can be carried out
  abbrev pub DecodesRunnable : Type 0
  DecodesRunnable = OfBase numbering (λ kind d routes n. 1 ≤ n → AreModel values kind d routes n
      → IfOk found (λ plan. IsRunnable d routes n plan.steps))

  -- and the plan's model agrees with them
  abbrev pub DecodesInAgreement : Type 0
  DecodesInAgreement = OfBase numbering (λ kind d routes n. 1 ≤ n → AreModel values kind d routes n
      → IfOk found (λ plan. Agrees d routes n (model_of d routes n plan.steps)
      (on_plain kind d routes n (value_in values))))

  -- and it ends by the step by which they say that all is given
  abbrev pub DecodesAsSaid : Type 0
  DecodesAsSaid = OfBase numbering (λ kind d routes n. AreModel values kind d routes n
      → IfOk found (λ plan. EndsAsSaid kind d routes n values plan.steps))
