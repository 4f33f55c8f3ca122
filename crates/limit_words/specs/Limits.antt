-- How many steps can be asked for: those whose clauses are few.
use Rattle.std.specs.Prelude.{◌≡◌, ℕ, ◌≤◌, ◌<◌, nat_le, if◌then◌else◌, List, Option, None, Some}
use Rattle.limit_words.specs.Counts.{Exceeds, Fits, literal_count}
use Rattle.limit_words.specs.declared.greatest.Limit.{Limit}
use Rattle.clause_spec.specs.declared.question.BaseKind.{BaseKind}
use Rattle.rail_base.specs.declared.route.Route.{Route}
use Rattle.rail_base.specs.declared.station.Station.{Station}

module _ (kind : BaseKind) (d : Station) (routes : List Route) where
  -- how many literals the clauses for n steps have, which is known where those for 2 steps are few
  abbrev pub known_count : ℕ → Option ℕ
  known_count n = if nat_le (literal_count kind d routes 2) 16000000 then Some (literal_count kind d routes n) else None

  -- the clauses for each number of steps from 1 to k are few, and those for more steps are not
  pub record IsGreatest (k : ℕ) : Type 0 where
    pub few : (n : ℕ) → 1 ≤ n → n ≤ k → Fits kind d routes n
    pub no_more : (n : ℕ) → k < n → Exceeds kind d routes n

  -- where n steps are asked for, at most so many can be, which are fewer
  pub record IsLimit (n : ℕ) (l : Limit) : Type 0 where
    pub fewer : l.steps < n
    pub greatest : IsGreatest l.steps
    pub literals : l.literals ≡ known_count n

  -- n steps can be asked for, or there is such a limit
  abbrev pub IsLimitFor : ℕ → Option Limit → Type 0
  IsLimitFor n None = Fits kind d routes n
  IsLimitFor n (Some l) = IsLimit n l
