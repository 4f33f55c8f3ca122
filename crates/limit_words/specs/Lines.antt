-- How many steps can be asked for, in words.
use Rattle.std.specs.Prelude.{◌≡◌, ℕ, ◌+◌, List, [], ◌∷◌, ◌++◌, codes, decimal, Option, None, Some}
use Rattle.limit_words.specs.Limits.{IsLimitFor}
use Rattle.limit_words.specs.declared.greatest.Limit.{Limit}
use Rattle.clause_spec.specs.declared.question.BaseKind.{BaseKind}
use Rattle.clause_spec.specs.declared.question.BaseKind.TheVariants.{Plain, Sorted, Normal, Live}
use Rattle.clause_spec.specs.declared.question.Turns.TheVariants.{All}
use Rattle.rail_base.specs.declared.route.Route.{Route}
use Rattle.rail_base.specs.declared.station.Station.{Station}

-- how a search is asked for
abbrev pub kind_text : BaseKind → List ℕ
kind_text Plain = codes "without --bounds"
kind_text Sorted = codes "with --bounds"
kind_text Normal = codes "with --normal"
kind_text (Live turns) = codes "with --bounds"

-- how many literals the clauses for n steps have
abbrev pub known_text : ℕ → ℕ → List ℕ
known_text n literals = decimal n ++ codes " have " ++ decimal literals ++ codes " literals of at most 16000000\n"

-- where it is not known, for which steps they are too many
abbrev pub unknown_text : ℕ → List ℕ
unknown_text n = decimal n ++ codes " have more than 16000000 literals\n"

-- of the clauses for n steps, or else for one step more than can be asked for
abbrev pub excess_said : ℕ → Option ℕ → ℕ → List ℕ
excess_said n (Some literals) more = known_text n literals
excess_said n None more = unknown_text more

abbrev pub excess_text : ℕ → Limit → List ℕ
excess_text n l = excess_said n l.literals (l.steps + 1)

-- `with --bounds at most 8 steps can be asked for: the clauses for 20 have 41234567 literals of at most 16000000`
-- or `with --bounds at most 1 steps can be asked for: the clauses for 2 have more than 16000000 literals`
abbrev pub limit_line : BaseKind → ℕ → Limit → List ℕ
limit_line kind n l =
    kind_text kind ++ codes " at most " ++ decimal l.steps ++ codes " steps can be asked for: the clauses for "
    ++ excess_text n l

-- `with --bounds 20 steps can be asked for`
abbrev pub fits_line : ℕ → List ℕ
fits_line n = kind_text (Live All) ++ codes " " ++ decimal n ++ codes " steps can be asked for\n"

-- the line on a limit, where there is one; else, of the base of live commands, that so many steps can be asked for
abbrev pub limits_said : BaseKind → ℕ → Option Limit → List (List ℕ)
limits_said kind n (Some l) = limit_line kind n l ∷ []
limits_said Plain n None = []
limits_said Sorted n None = []
limits_said Normal n None = []
limits_said (Live turns) n None = fits_line n ∷ []

module _ (d : Station) (routes : List Route) where
  -- the lines for n steps: without bounds, with them, and for normal plans alone
  pub record AreLimitLines (n : ℕ) (lines : List (List ℕ)) : Type 0 where
    pub plain : Option Limit
    pub is_plain : IsLimitFor Plain d routes n plain
    pub bounds : Option Limit
    pub is_bounds : IsLimitFor (Live All) d routes n bounds
    pub normal : Option Limit
    pub is_normal : IsLimitFor Normal d routes n normal
    pub are : lines ≡ limits_said Plain n plain ++ limits_said (Live All) n bounds ++ limits_said Normal n normal
