-- Trains that are alike, and what is the same where two of them are exchanged.
use Rattle.std.specs.Prelude.{◌≡◌, ℕ, ◌-◌, ◌<◌, ◌⊎◌, List, slice_set, if◌then◌else◌}
use Rattle.rail_base.specs.declared.station.Station.{Station}
use Rattle.rail_base.specs.declared.station.Order.{Order}
use Rattle.rail_base.specs.declared.station.Within.{Within}
use Rattle.rail_base.specs.declared.station.TrainNo.{TrainNo}
use Rattle.rail_base.specs.declared.plan.Command.{Command}
use Rattle.rail_base.specs.Members.{In}
use Rattle.rail_base.specs.Stations.{train_of, within_of, IsTrain}
use Rattle.rail_spec.specs.Plans.{is_train}
use Rattle.rail_alike.specs.Renaming.{renamed, renamed_order, renamed_within}

-- each of the two for the other, and any other train as it is
abbrev pub exchange : TrainNo → TrainNo → TrainNo → TrainNo
exchange t u x = if is_train x t then u else if is_train x u then t else x

-- the plan in which each command of t is given to u, and the other way round
abbrev pub exchanged : TrainNo → TrainNo → List (List Command) → List (List Command)
exchanged t u plan = renamed (exchange t u) plan

-- the two have one vehicle and the same visits, at which they stand as long, and each order and within is one of the
-- design with them exchanged
pub record AreAlike (d : Station) (t u : TrainNo) : Type 0 where
  pub one : IsTrain d t
  pub other : IsTrain d u
  pub vehicle : (train_of d t).vehicle ≡ (train_of d u).vehicle
  pub visits : (train_of d t).visits ≡ (train_of d u).visits
  pub dwells : (train_of d t).dwell_ms ≡ (train_of d u).dwell_ms
  pub order : (o : Order) → In o d.orders → In (renamed_order (exchange t u) o) d.orders
  pub within : (w : Within) → In w d.withins → In (renamed_within (exchange t u) w) d.withins

-- the two are alike, and no train between them is like the first
pub record AreNeighbors (d : Station) (t u : TrainNo) : Type 0 where
  pub alike : AreAlike d t u
  pub later : t.0 < u.0
  pub next : (x : TrainNo) → t.0 < x.0 → x.0 < u.0 → AreAlike d t x → ⊥

-- the within of this number names the train
abbrev pub IsNamedBy : Station → ℕ → TrainNo → Type 0
IsNamedBy d w t = ((within_of d w).from_train ≡ t) ⊎ ((within_of d w).to_train ≡ t)

-- the two are alike, the within names neither, and no train between them that it doesn't name is like the first
pub record AreNeighborsBeside (d : Station) (w : ℕ) (t u : TrainNo) : Type 0 where
  pub alike : AreAlike d t u
  pub later : t.0 < u.0
  pub one : IsNamedBy d w t → ⊥
  pub other : IsNamedBy d w u → ⊥
  pub next : (x : TrainNo) → t.0 < x.0 → x.0 < u.0 → (IsNamedBy d w x → ⊥) → AreAlike d t x → ⊥

-- the design with another greatest time of the within
abbrev pub with_max_ms : Station → ℕ → ℕ → Station
with_max_ms d w ms = record d { withins = slice_set d.withins (w - 1) (record (within_of d w) { max_ms = ms }) }
