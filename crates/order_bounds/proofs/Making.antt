-- Visits as they are found in a design.
use Rattle.std.proofs.Common.{◌≡◌, ℕ, Bool, List, ap₂}
use Rattle.bound_spec.specs.Certificates.{nodes_of_visit}
use Rattle.rail_base.specs.declared.plan.Command.{Command}
use Rattle.rail_base.specs.declared.route.Route.{Route}
use Rattle.rail_base.specs.declared.station.NodeNo.{NodeNo}
use Rattle.rail_base.specs.declared.station.Station.{Station}
use Rattle.rail_base.specs.declared.station.TrainNo.{TrainNo}
use Rattle.order_bounds.specs.Asked.{makes_it}
use Rattle.order_bounds.specs.Orders.{makes}

pub makes_so : (d : Station) (routes : List Route) (t : TrainNo) (k number : ℕ) (nodes : List NodeNo) → number ≡ k → nodes ≡ nodes_of_visit d t k
    → makes_it routes t number nodes ≡ makes d routes t k
makes_so d routes t k number nodes same list = ap₂ (λ (n : ℕ) (ns : List NodeNo). makes_it routes t n ns) same list
