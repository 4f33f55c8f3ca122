-- What a cone says, held against an interlocking.
use Rattle.std.specs.Prelude.{ℕ, Bool, ◌&&◌, nat_le, nat_lt, length}
use Rattle.std.specs.List.{list_all}
use Rattle.rail_base.specs.declared.plan.Violation.TheVariants as violation
use Rattle.rail_base.specs.declared.station.TrainNo.{TrainNo}
use Rattle.rail_base.specs.Admission.{is_from}
use Rattle.rail_base.specs.Members.{all_neighbors}
use Rattle.rail_base.specs.Stations.{horizon}
use Rattle.interlocking.specs.declared.railway.Interlocking.{Interlocking}
use Rattle.cone_spec.specs.declared.Cone.{Cone}
use Rattle.cone_spec.specs.declared.ConeTrain.{ConeTrain}
use Rattle.cone_spec.specs.Validity.{in_design, holder_in_path, pair_in_design, train_in_design, violation_in_design}

module _ (i : Interlocking) where
  -- the train and its routes are there, and its horizon is at most the design's
  abbrev pub names_fit : ConeTrain → Bool
  names_fit c = is_from 1 (length i.design.station.trains) c.train.0
      && list_all (λ r. is_from 1 (length i.routes) r.0) c.path
      && nat_le c.horizon (horizon i.design.station)

  -- what is said of a train is possible
  abbrev pub train_fits : Cone → ConeTrain → Bool
  train_fits k = train_in_design i.design.station i.routes k

  -- what is said of each train is possible
  abbrev pub each_train_fits : Cone → Bool
  each_train_fits k = list_all (train_fits k) k.trains

  -- each holder is a command of the cone
  abbrev pub each_holder_fits : Cone → Bool
  each_holder_fits k = list_all (λ c. holder_in_path i.design.station i.routes k c.holder) k.trains

  -- each pair is of two commands of the cone that contend
  abbrev pub each_pair_fits : Cone → Bool
  each_pair_fits k = list_all (pair_in_design i.design.station i.routes k) k.pairs

  -- the trains stand in order, what is said of each is possible, and the holders are commands of the cone
  abbrev pub trains_fit : Cone → Bool
  trains_fit k = each_train_fits k && all_neighbors (λ a b. nat_lt a.train.0 b.train.0) k.trains && each_holder_fits k

  -- the train has the visit, and the cone says nothing but its path
  abbrev pub path_fits : Cone → TrainNo → ℕ → Bool
  path_fits k t j = violation_in_design i.design.station i.routes k (violation.Path t j)

  -- the violation names what there is
  abbrev pub violation_fits : Cone → Bool
  violation_fits k = violation_in_design i.design.station i.routes k k.violation

  -- the cone speaks of the design
  abbrev pub fits : Cone → Bool
  fits k = in_design i.design.station i.routes k
