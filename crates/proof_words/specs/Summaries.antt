-- What is the same in many lines, said once at the end.
use Rattle.std.specs.Prelude.{ℕ, Bool, not, List, [], ◌∷◌, ◌++◌, codes, decimal, filter, length, map, min}
use Rattle.std.specs.Prelude.{bytes_eq, Option, None, Some}
use Rattle.rail_base.specs.declared.station.Station.{Station}
use Rattle.cone_words.specs.Times.{ms_of}
use Rattle.evidence_words.specs.Failings.{FailingSeen}

-- both are of one requirement
abbrev pub is_same : FailingSeen → FailingSeen → Bool
is_same f g = bytes_eq f.name g.name

-- the lesser one, where there are any
abbrev pub lesser : Option ℕ → Option ℕ → Option ℕ
lesser None o = o
lesser (Some a) None = Some a
lesser (Some a) (Some b) = Some (min a b)

-- the least shortfall of these, where there is one
abbrev pub least_shortfall : List FailingSeen → Option ℕ
least_shortfall [] = None
least_shortfall (f ∷ fs) = lesser f.shortfall (least_shortfall fs)

-- `, least shortfall 2000 ms`
abbrev pub shortfall_text : Station → Option ℕ → List ℕ
shortfall_text d None = []
shortfall_text d (Some n) = codes ", least shortfall " ++ decimal (ms_of d n) ++ codes " ms"

-- one of each requirement: the first that there is
abbrev pub one_of_each : List FailingSeen → List FailingSeen
one_of_each [] = []
one_of_each (f ∷ fs) = f ∷ filter (λ g. not (is_same f g)) (one_of_each fs)

module _ (d : Station) (all : List FailingSeen) where
  -- those of one requirement
  abbrev pub of_one : FailingSeen → List FailingSeen
  of_one f = filter (is_same f) all

  -- `5 lines: within 2 fails in 3 of them, least shortfall 2000 ms`
  abbrev pub summary_line : FailingSeen → List ℕ
  summary_line f =
      decimal (length all) ++ codes " lines: " ++ f.name ++ codes " fails in " ++ decimal (length (of_one f)) ++ codes " of them"
      ++ shortfall_text d (least_shortfall (of_one f)) ++ codes "\n"

  -- a line for each requirement
  abbrev pub summary_lines : List (List ℕ)
  summary_lines = map summary_line (one_of_each all)
