-- The test of trains that are alike, and those of them that are next to each other.
use Rattle.std.specs.Prelude.{ℕ, Bool, not, ◌&&◌, ◌||◌, ◌==◌, nat_le, nat_lt, List, [], ◌∷◌, filter, flat_map, length}
use Rattle.std.specs.Prelude.{Option, None, Some, find}
use Rattle.std.specs.List.{list_any, list_all, zip}
use Rattle.rail_base.specs.declared.station.Station.{Station}
use Rattle.rail_base.specs.declared.station.Order.{Order}
use Rattle.rail_base.specs.declared.station.Within.{Within}
use Rattle.rail_base.specs.declared.station.NodeNo.{NodeNo}
use Rattle.rail_base.specs.declared.station.TrainNo.{TrainNo}
use Rattle.rail_base.specs.Stations.{train_of, trains, within_of}
use Rattle.rail_spec.specs.Plans.{is_train}
use Rattle.rail_alike.specs.Renaming.{renamed_order, renamed_within}
use Rattle.rail_alike.specs.Alike.{exchange}

-- the two lists have one length, and members at one place are the same by the test
abbrev pub are_same : {X : Type 0} → (X → X → Bool) → List X → List X → Bool
are_same same xs ys = (length xs == length ys) && list_all (λ p. same p.0 p.1) (zip xs ys)

-- the two are one node
abbrev pub is_node : NodeNo → NodeNo → Bool
is_node m n = m.0 == n.0

-- the two are one number
abbrev pub is_number : ℕ → ℕ → Bool
is_number m n = m == n

-- the two are one order
abbrev pub is_order : Order → Order → Bool
is_order a b = is_train a.first_train b.first_train && (a.first_visit == b.first_visit)
    && is_train a.then_train b.then_train && (a.then_visit == b.then_visit)

-- the two are one within
abbrev pub is_within : Within → Within → Bool
is_within a b = is_train a.from_train b.from_train && (a.from_visit == b.from_visit)
    && is_train a.to_train b.to_train && (a.to_visit == b.to_visit) && (a.max_ms == b.max_ms)

-- a train has this number
abbrev pub is_named : Station → TrainNo → Bool
is_named d t = nat_le 1 t.0 && nat_le t.0 (length d.trains)

module _ (d : Station) (t u : TrainNo) where
  -- the two have one vehicle
  abbrev pub same_vehicle : Bool
  same_vehicle = (train_of d t).vehicle.0 == (train_of d u).vehicle.0

  -- and the same visits
  abbrev pub same_visits : Bool
  same_visits = are_same (are_same is_node) (train_of d t).visits (train_of d u).visits

  -- at which they stand as long
  abbrev pub same_dwells : Bool
  same_dwells = are_same is_number (train_of d t).dwell_ms (train_of d u).dwell_ms

  -- each order is one of the design with the two exchanged
  abbrev pub orders_stay : Bool
  orders_stay = list_all (λ o. list_any (is_order (renamed_order (exchange t u) o)) d.orders) d.orders

  -- so is each within
  abbrev pub withins_stay : Bool
  withins_stay = list_all (λ w. list_any (is_within (renamed_within (exchange t u) w)) d.withins) d.withins

  -- the two trains are alike
  abbrev pub are_alike : Bool
  are_alike =
      is_named d t && is_named d u && same_vehicle && same_visits && same_dwells && orders_stay && withins_stay

-- u comes after t, and is like it
abbrev pub is_later_alike : Station → TrainNo → TrainNo → Bool
is_later_alike d t u = nat_lt t.0 u.0 && are_alike d t u

-- the first of these trains that comes after this one and is like it
abbrev pub next_among : Station → List TrainNo → TrainNo → Option TrainNo
next_among d ts t = find (is_later_alike d t) ts

-- a train with the next one, where there is one
abbrev pub pair_with : TrainNo → Option TrainNo → List (TrainNo × TrainNo)
pair_with t None = []
pair_with t (Some u) = (t, u) ∷ []

-- each of these trains with the next of them that is like it
abbrev pub neighbors_among : Station → List TrainNo → List (TrainNo × TrainNo)
neighbors_among d ts = flat_map (λ t. pair_with t (next_among d ts t)) ts

-- each train with the next one that is like it
abbrev pub neighbors : Station → List (TrainNo × TrainNo)
neighbors d = neighbors_among d (trains d)

-- the within of this number names the train
abbrev pub is_named_by : Station → ℕ → TrainNo → Bool
is_named_by d w t = is_train (within_of d w).from_train t || is_train (within_of d w).to_train t

-- the trains that it doesn't name
abbrev pub trains_beside : Station → ℕ → List TrainNo
trains_beside d w = filter (λ t. not (is_named_by d w t)) (trains d)

-- each of them with the next of them that is like it
abbrev pub neighbors_beside : Station → ℕ → List (TrainNo × TrainNo)
neighbors_beside d w = neighbors_among d (trains_beside d w)
