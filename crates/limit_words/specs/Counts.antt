-- How many literals the clauses have with which a search begins.
use Rattle.std.specs.Prelude.{◌≡◌, ℕ, ◌+◌, ◌-◌, ◌*◌, ◌≤◌, ◌<◌, List}
use Rattle.base_spec.specs.Bases.{clauses_of}
use Rattle.clause_spec.specs.Clauses.{literals}
use Rattle.clause_spec.specs.declared.question.BaseKind.{BaseKind}
use Rattle.rail_base.specs.declared.route.Route.{Route}
use Rattle.rail_base.specs.declared.station.Station.{Station}

module _ (kind : BaseKind) (d : Station) (routes : List Route) where
  -- how many literals those for n steps have
  abbrev pub literal_count : ℕ → ℕ
  literal_count n = literals (clauses_of kind d routes n)

  -- those for n steps have at most 16,000,000
  abbrev pub Fits : ℕ → Type 0
  Fits n = literal_count n ≤ 16000000

  -- they have more
  abbrev pub Exceeds : ℕ → Type 0
  Exceeds n = 16000000 < literal_count n

  -- with each step more there are as many more as those for 2 steps are more than those for 1
  abbrev pub GrowEvenly : Type 0
  GrowEvenly = (m : ℕ) → literal_count (m + 1) ≡ literal_count 1 + m * (literal_count 2 - literal_count 1)
