-- Literals that are counted.
use Rattle.std.specs.Prelude.{◌≡◌, ℕ, List, Option, None, Some}
use Rattle.limit_words.specs.Counts.{Exceeds, Fits, literal_count}
use Rattle.clause_spec.specs.declared.question.BaseKind.{BaseKind}
use Rattle.rail_base.specs.declared.route.Route.{Route}
use Rattle.rail_base.specs.declared.station.Station.{Station}

module _ (kind : BaseKind) (d : Station) (routes : List Route) (n : ℕ) where
  -- the clauses for n steps are few, and have so many literals
  pub record IsFewCount (count : ℕ) : Type 0 where
    pub few : Fits kind d routes n
    pub is : count ≡ literal_count kind d routes n

  -- so many where they are few, and none where they are too many
  abbrev pub IsCounted : Option ℕ → Type 0
  IsCounted None = Exceeds kind d routes n
  IsCounted (Some count) = IsFewCount count
