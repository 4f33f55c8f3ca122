-- The entries of an admitted design are good.
use Rattle.std.proofs.Common.{◌≡◌, ℕ, zero, suc, ◌≤◌, inl, inr, List, [], ◌∷◌, length, subst, arith}
use Rattle.rail_base.specs.declared.station.Station.{Station}
use Rattle.rail_base.specs.declared.station.Edge.{Edge}
use Rattle.rail_base.specs.declared.station.Side.TheVariants.{A}
use Rattle.rail_base.specs.declared.station.Signal.{Signal}
use Rattle.rail_base.specs.declared.station.Vehicle.{Vehicle}
use Rattle.rail_base.specs.declared.station.Train.{Train}
use Rattle.rail_base.specs.Admitted.{IsAdmitted, IsGoodEdge, IsGoodSignal, IsGoodVehicle, IsGoodTrain}
use Rattle.rail_base.specs.Members.{In}
use Rattle.rail_base.specs.Numbering.{entry}
use Rattle.rail_base.specs.Stations.{no_edge, no_train, no_vehicle}

-- an entry has a number
pub number_of : {X : Type 0} (other x : X) (xs : List X) → In x xs → (n : ℕ) × (1 ≤ n) × (n ≤ length xs) × (entry other xs n ≡ x)
number_of other x [] m = absurd m
number_of other x (y ∷ ys) (inl e) = (1, omega arith, omega arith, e)
number_of {X} other x (y ∷ ys) (inr m) = go (number_of other x ys m)
  where
    go : (n : ℕ) × (1 ≤ n) × (n ≤ length ys) × (entry other ys n ≡ x) → (n : ℕ) × (1 ≤ n) × (n ≤ length (y ∷ ys)) × (entry other (y ∷ ys) n ≡ x)
    go (zero, l, h, e) = absurd (omega arith)
    go (suc n, l, h, e) = (suc (suc n), omega arith, omega arith, e)

module _ (d : Station) (good : IsAdmitted d) where
  pub good_edge : (x : Edge) → In x d.edges → IsGoodEdge d x
  good_edge x m = let at = number_of no_edge x d.edges m in subst (IsGoodEdge d) at.3 (good.edge (record { 0 = at.0 }) (at.1, at.2))

  pub good_signal : (x : Signal) → In x d.signals → IsGoodSignal d x
  good_signal x m = let at = number_of (record { name = []; node = record { 0 = 0 }; toward = A }) x d.signals m in subst (IsGoodSignal d) at.3 (good.signal (record { 0 = at.0 }) (at.1, at.2))

  pub good_vehicle : (x : Vehicle) → In x d.vehicles → IsGoodVehicle d x
  good_vehicle x m = let at = number_of no_vehicle x d.vehicles m in subst (IsGoodVehicle d) at.3 (good.vehicle (record { 0 = at.0 }) (at.1, at.2))

  pub good_train : (x : Train) → In x d.trains → IsGoodTrain d x
  good_train x m = let at = number_of no_train x d.trains m in subst (IsGoodTrain d) at.3 (good.train (record { 0 = at.0 }) (at.1, at.2))
