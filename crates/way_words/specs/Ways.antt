-- What the ways of the trains say of a design, in words.
use Rattle.std.specs.Prelude.{◌≡◌, ℕ, List, [], ◌∷◌, ◌++◌, codes, decimal, Option, None, Some, Vec}
use Rattle.std.specs.List.{flat_map}
use Rattle.std.specs.declared.alloc.Global.{Global}
use Rattle.cone_words.specs.Names.{nodes_text}
use Rattle.rail_base.specs.declared.route.Route.{Route}
use Rattle.rail_base.specs.declared.station.Station.{Station}
use Rattle.rail_base.specs.declared.station.TrainNo.{TrainNo}
use Rattle.rail_base.specs.Names.{train_name}
use Rattle.rail_base.specs.Stations.{IsTrain, trains}
use Rattle.rail_text.specs.Added.{AddsLines}
use Rattle.way_spec.specs.Ways.{HasWay, IsFewestSteps, IsFirstUnmade, IsMostSteps}

-- ---- lines

-- `ICe up to visit 2, at p1 or p2`
abbrev pub up_to_text : Station → TrainNo → ℕ → List ℕ
up_to_text d t k = train_name d t ++ codes " up to visit " ++ decimal k ++ nodes_text d t k

-- `no way makes the visits of ICe up to visit 2, at p1 or p2: no plan meets the design`
abbrev pub no_way_line : Station → TrainNo → ℕ → List ℕ
no_way_line d t k = codes "no way makes the visits of " ++ up_to_text d t k ++ codes ": no plan meets the design\n"

-- that line, where there is such a visit
abbrev pub no_way_lines : Station → TrainNo → Option ℕ → List (List ℕ)
no_way_lines d t None = []
no_way_lines d t (Some k) = no_way_line d t k ∷ []

-- `a plan that meets the design has 3 steps or more`
abbrev pub fewest_line : ℕ → List ℕ
fewest_line n = codes "a plan that meets the design has " ++ decimal n ++ codes " steps or more\n"

-- `if any plan meets the design, one of at most 17 steps does`
abbrev pub most_line : ℕ → List ℕ
most_line m = codes "if any plan meets the design, one of at most " ++ decimal m ++ codes " steps does\n"

-- both, where all trains have ways
abbrev pub steps_lines : Option ℕ → ℕ → List (List ℕ)
steps_lines None m = []
steps_lines (Some n) m = fewest_line n ∷ most_line m ∷ []

-- ---- what they say

module _ (d : Station) (routes : List Route) where
  -- the first visit of a train up to which no way makes its visits, or else it has a way
  abbrev pub IsUnmade : TrainNo → Option ℕ → Type 0
  IsUnmade t None = HasWay d routes t
  IsUnmade t (Some k) = IsFirstUnmade d routes t k

  -- the fewest steps, or else some train has no way
  abbrev pub IsFewest : Option ℕ → Type 0
  IsFewest None = (t : TrainNo) × IsTrain d t × (HasWay d routes t → ⊥)
  IsFewest (Some n) = IsFewestSteps d routes n

  -- a line for each train that has no way
  pub record AreNoWayLines (lines : List (List ℕ)) : Type 0 where
    pub unmade : TrainNo → Option ℕ
    pub of_train : (t : TrainNo) → IsTrain d t → IsUnmade t (unmade t)
    pub are : lines ≡ flat_map (λ t. no_way_lines d t (unmade t)) (trains d)

  -- those lines, and where there is none, how many steps plans have at the least, and need at the most
  pub record AreWayLines (lines : List (List ℕ)) : Type 0 where
    pub no_ways : List (List ℕ)
    pub are_no_ways : AreNoWayLines no_ways
    pub fewest : Option ℕ
    pub is_fewest : IsFewest fewest
    pub most : ℕ
    pub is_most : IsMostSteps d routes most
    pub are : lines ≡ no_ways ++ steps_lines fewest most

-- lines of which this is so are added
abbrev pub AddsSuch : Vec (Vec ℕ Global) Global → Vec (Vec ℕ Global) Global → (List (List ℕ) → Type 0) → Type 0
AddsSuch before after Such = (more : List (List ℕ)) × AddsLines before after more × Such more
