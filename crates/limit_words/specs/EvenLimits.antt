-- How many steps can be asked for where the clauses for one have so many literals, and with each step more so many more.
use Rattle.std.specs.Prelude.{◌≡◌, ℕ, ◌+◌, ◌-◌, ◌*◌, ◌≤◌, ◌<◌, Option, None, Some}
use Rattle.limit_words.specs.declared.greatest.Limit.{Limit}

module _ (first each : ℕ) where
  -- how many those for n steps have
  abbrev pub even_count : ℕ → ℕ
  even_count n = first + (n - 1) * each

  -- those for so many steps are few, and those for one more are not, where n steps are asked for
  pub record IsEvenLimit (n : ℕ) (l : Limit) : Type 0 where
    pub fewer : l.steps < n
    pub some : 1 ≤ l.steps
    pub few : even_count l.steps ≤ 16000000
    pub one_more : 16000000 < even_count (l.steps + 1)
    pub literals : l.literals ≡ Some (even_count n)

  -- those for n steps are few, or there is such a limit
  abbrev pub IsEvenLimitFor : ℕ → Option Limit → Type 0
  IsEvenLimitFor n None = even_count n ≤ 16000000
  IsEvenLimitFor n (Some l) = IsEvenLimit n l
