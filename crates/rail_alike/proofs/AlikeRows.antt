-- Small designs with trains that are alike, and with such as are not, so that the laws speak of something.
use Rattle.std.specs.Prelude.{◌≡◌, ℕ, true, false, [], ◌∷◌, refl}
use Rattle.rail_base.specs.declared.station.Station.{Station}
use Rattle.rail_base.specs.declared.station.TrainNo.{TrainNo}
use Rattle.rail_base.specs.declared.plan.Command.{Command}
use Rattle.rail_laws.proofs.Stations.{follow, parallel, plan_two, train_with, node}
use Rattle.rail_alike.specs.Renaming.{first_step}
use Rattle.rail_alike.specs.Alike.{exchanged}
use Rattle.rail_alike.specs.Tests.{are_alike, neighbors, neighbors_beside}

abbrev number : ℕ → TrainNo
number n = record { 0 = n }

abbrev give : ℕ → ℕ → Command
give t r = record { train = number t; route = record { 0 = r } }

one_pair : neighbors follow ≡ (number 1, number 2) ∷ []
one_pair = refl

other_way : exchanged (number 1) (number 2) plan_two ≡ (give 2 1 ∷ []) ∷ (give 2 2 ∷ []) ∷ (give 1 1 ∷ []) ∷ (give 1 2 ∷ []) ∷ []
other_way = refl

first_of_one : first_step plan_two (number 1) ≡ 1
first_of_one = refl

first_of_two : first_step plan_two (number 2) ≡ 3
first_of_two = refl

not_given : first_step plan_two (number 3) ≡ 5
not_given = refl

-- an order of the one before the other tells them apart
abbrev in_order : Station
in_order = record follow { orders = record { first_train = number 1; first_visit = 1; then_train = number 2; then_visit = 1 } ∷ [] }

told_apart : are_alike in_order (number 1) (number 2) ≡ false
told_apart = refl

-- orders each way don't
abbrev both_ways : Station
both_ways = record follow {
  orders = record { first_train = number 1; first_visit = 1; then_train = number 2; then_visit = 2 }
      ∷ record { first_train = number 2; first_visit = 1; then_train = number 1; then_visit = 2 } ∷ [];
}

not_told_apart : are_alike both_ways (number 1) (number 2) ≡ true
not_told_apart = refl

different_tracks : are_alike parallel (number 1) (number 2) ≡ false
different_tracks = refl

-- the one stands at its second visit for a second, the other as long or longer
abbrev standing : ℕ → Station
standing ms = record follow {
  trains = train_with "A" ((node 1 ∷ []) ∷ (node 3 ∷ []) ∷ []) (0 ∷ 1000 ∷ [])
      ∷ train_with "B" ((node 1 ∷ []) ∷ (node 3 ∷ []) ∷ []) (0 ∷ ms ∷ []) ∷ [];
}

stand_alike : are_alike (standing 1000) (number 1) (number 2) ≡ true
stand_alike = refl

stand_otherwise : are_alike (standing 1001) (number 1) (number 2) ≡ false
stand_otherwise = refl

-- three alike, but for withins of two of them
abbrev three : ℕ → Station
three ms = record follow {
  trains = train_with "A" ((node 1 ∷ []) ∷ (node 3 ∷ []) ∷ []) (0 ∷ 0 ∷ [])
      ∷ train_with "B" ((node 1 ∷ []) ∷ (node 3 ∷ []) ∷ []) (0 ∷ 0 ∷ [])
      ∷ train_with "C" ((node 1 ∷ []) ∷ (node 3 ∷ []) ∷ []) (0 ∷ 0 ∷ []) ∷ [];
  withins = record { from_train = number 2; from_visit = 1; to_train = number 2; to_visit = 2; max_ms = ms }
      ∷ record { from_train = number 3; from_visit = 1; to_train = number 3; to_visit = 2; max_ms = 9000 } ∷ [];
}

all_neighbors_of_three : neighbors (three 9000) ≡ (number 2, number 3) ∷ []
all_neighbors_of_three = refl

beside_the_first : neighbors_beside (three 9000) 1 ≡ []
beside_the_first = refl

-- two that no within names are neighbors past one that is named
abbrev one_within : ℕ → Station
one_within ms = record (three ms) { withins = record { from_train = number 2; from_visit = 1; to_train = number 2; to_visit = 2; max_ms = ms } ∷ [] }

beside_one : neighbors_beside (one_within 8000) 1 ≡ (number 1, number 3) ∷ []
beside_one = refl

beside_another_time : neighbors_beside (one_within 7000) 1 ≡ (number 1, number 3) ∷ []
beside_another_time = refl

-- an entry that there isn't names none
beside_none : neighbors_beside (one_within 8000) 2 ≡ neighbors (one_within 8000)
beside_none = refl
