-- For the greatest times between two visits of one train: how quick it is alone, in words.
use Rattle.std.specs.Prelude.{◌≡◌, ℕ, Bool, List, [], ◌∷◌, ◌++◌, filter, length, take, codes, decimal, Option, None, Some}
use Rattle.rail_base.specs.declared.station.Station.{Station}
use Rattle.rail_base.specs.declared.station.Within.{Within}
use Rattle.rail_base.specs.declared.route.Route.{Route}
use Rattle.rail_base.specs.Names.{train_name}
use Rattle.rail_base.specs.Numbering.{one_to}
use Rattle.rail_base.specs.Stations.{within_of}
use Rattle.rail_spec.specs.Plans.{is_train}
use Rattle.asked_words.specs.Quantities.{duration_text}
use Rattle.cone_words.specs.Times.{ms_of}
use Rattle.way_times.specs.Times.{LeastAlone}

-- both visits are of one train
abbrev pub is_of_one_train : Within → Bool
is_of_one_train w = is_train w.from_train w.to_train

-- the numbers of the withins of which this is so
abbrev pub own_withins : Station → List ℕ
own_withins d = filter (λ n. is_of_one_train (within_of d n)) (one_to (length d.withins))

-- `within 1: ICe takes 5 min 41.5 s of at most 6 min 0 s where it runs alone on its quickest way`
abbrev pub least_line : Station → ℕ → ℕ → List ℕ
least_line d n ticks = let w = within_of d n in
    codes "within " ++ decimal n ++ codes ": " ++ train_name d w.from_train ++ codes " takes " ++ duration_text (ms_of d ticks)
    ++ codes " of at most " ++ duration_text w.max_ms ++ codes " where it runs alone on its quickest way\n"

-- that line, where the ticks are known
abbrev pub least_lines : Station → ℕ → Option ℕ → List (List ℕ)
least_lines d n None = []
least_lines d n (Some ticks) = least_line d n ticks ∷ []

module _ (d : Station) (routes : List Route) where
  -- the ticks in which the train of the within is quickest from the one visit to the other
  abbrev pub IsLeastOf : ℕ → Option ℕ → Type 0
  IsLeastOf n ticks = let w = within_of d n in LeastAlone d routes w.from_train w.from_visit w.to_visit ticks

  -- the lines on the withins of these numbers
  abbrev pub AreLinesOn : List ℕ → List (List ℕ) → Type 0
  AreLinesOn [] lines = lines ≡ []
  AreLinesOn (n ∷ ns) lines =
      (ticks : Option ℕ) × IsLeastOf n ticks × (rest : List (List ℕ)) × AreLinesOn ns rest
      × (lines ≡ least_lines d n ticks ++ rest)

  -- those on the first 16 withins of one train
  abbrev pub AreLeastLines : List (List ℕ) → Type 0
  AreLeastLines lines = AreLinesOn (take 16 (own_withins d)) lines
