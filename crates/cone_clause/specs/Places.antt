-- The places of those contending pairs of which a cone's clause says something.
use Rattle.std.specs.Prelude.{◌≡◌, ◌⊎◌, ℕ, true, List, Some, slice_get}
use Rattle.std.specs.List.Sorted.{IsNonDecreasing}
use Rattle.rail_base.specs.declared.plan.Command.{Command}
use Rattle.rail_base.specs.declared.route.RouteNo.{RouteNo}
use Rattle.rail_base.specs.declared.station.TrainNo.{TrainNo}
use Rattle.rail_base.specs.Members.{In}
use Rattle.cone_spec.specs.declared.Cone.{Cone}
use Rattle.cone_spec.specs.declared.ConeTrain.{ConeTrain}
use Rattle.cone_spec.specs.Cones.{free_path, is_free, has_pair}

-- exactly the numbers of which it holds are added
pub record Adds (P : ℕ → Type 0) (old new : List ℕ) : Type 0 where
  pub kept : (i : ℕ) → In i old → In i new
  pub added : (i : ℕ) → P i → In i new
  pub no_more : (i : ℕ) → In i new → In i old ⊎ P i

module _ (pairs : List (Command × Command)) where
  -- the place of this pair
  abbrev pub IsPlaceOf : Command × Command → ℕ → Type 0
  IsPlaceOf p i = slice_get pairs i ≡ Some p

  -- the place of a pair whose second command is this one
  abbrev pub IsPlaceBefore : Command → ℕ → Type 0
  IsPlaceBefore c i = (e : Command) × IsPlaceOf (e, c) i

  -- the place of a pair whose second command is a free one of the train
  abbrev pub IsPlaceBeforeFree : Cone → TrainNo → ℕ → Type 0
  IsPlaceBeforeFree k t i = (r : RouteNo) × In r (free_path k t) × IsPlaceBefore (record { train = t; route = r }) i

  -- the place of a pair whose second command is free
  abbrev pub IsPlaceBeforeAny : Cone → ℕ → Type 0
  IsPlaceBeforeAny k i = (e : ConeTrain) × In e k.trains × IsPlaceBeforeFree k e.train i

  -- the place of a pair that is listed
  abbrev pub IsPairPlace : Cone → ℕ → Type 0
  IsPairPlace k i = (p : Command × Command) × In p k.pairs × IsPlaceOf p i

  -- the clause says something of the pair of this place: it is listed, or its second command is free
  abbrev pub IsSaid : Cone → ℕ → Type 0
  IsSaid k i = (p : Command × Command) × IsPlaceOf p i × ((has_pair k p.0 p.1 ≡ true) ⊎ (is_free k p.1 ≡ true))

  -- the places of all such pairs, in order
  pub record AreSaid (k : Cone) (places : List ℕ) : Type 0 where
    pub rising : IsNonDecreasing places
    pub all : (i : ℕ) → IsSaid k i → In i places
    pub only : (i : ℕ) → In i places → IsSaid k i

  -- the places of all listed pairs, in order
  pub record ArePlacesOfPairs (k : Cone) (places : List ℕ) : Type 0 where
    pub rising : IsNonDecreasing places
    pub all : (i : ℕ) → IsPairPlace k i → In i places
    pub only : (i : ℕ) → In i places → IsPairPlace k i
