-- A station of the parts that are made.
use Rattle.std.proofs.Common.{◌≡◌, ℕ, ◌≤◌, true, List, [], ◌∷◌, ap, ◌∙◌, sym, subst}
use Rattle.rail_base.specs.declared.station.Station.{Station}
use Rattle.rail_base.specs.declared.station.Node.{Node}
use Rattle.rail_base.specs.declared.station.Edge.{Edge}
use Rattle.rail_base.specs.declared.station.Signal.{Signal}
use Rattle.rail_base.specs.declared.station.Vehicle.{Vehicle}
use Rattle.rail_base.specs.declared.station.Train.{Train}
use Rattle.rail_base.specs.declared.station.Order.{Order}
use Rattle.rail_base.specs.declared.station.Within.{Within}
use Rattle.rail_base.specs.declared.station.Overlap.{Overlap}
use Rattle.rail_base.specs.Admission.{is_admitted}
use Rattle.workload.specs.Draws.{drawn, track_length, runs_east, time_of}
use Rattle.workload.specs.Track.{nodes, edges, sections, signals}
use Rattle.workload.specs.Traffic.{vehicle, trains, withins}
use Rattle.workload.specs.Made.{made}
use Rattle.workload.proofs.Drawing.{ways_after, times_after}
use Rattle.workload.proofs.Admitting.{made_admitted}

module _ (seed size : ℕ) (ns : List Node) (es : List Edge) (zs : List (List ℕ)) (gs : List Signal) (vs : List Vehicle) (ts : List Train) (os : List Order) (ws : List Within) (ls : List Overlap) (state : ℕ) where
  abbrev pub parts : Station
  parts = record { version = 1; tick_ms = 1000; horizon_ms = 3600000; nodes = ns; edges = es; sections = zs; signals = gs; vehicles = vs; trains = ts; orders = os; withins = ws; overlaps = ls }

  pub made_of_parts : ns ≡ nodes size → es ≡ edges size (track_length seed) → zs ≡ sections size → gs ≡ signals size → vs ≡ vehicle ∷ [] → state ≡ drawn seed size → ts ≡ trains size (runs_east state 0) → os ≡ [] → ws ≡ withins size (time_of state 0) → ls ≡ [] → parts ≡ made seed size
  unfolding made
  made_of_parts n e z g v s t o w l =
      let ways = t ∙ ap (trains size) (ap (λ x. runs_east x 0) s ∙ ways_after seed size) in
      let times = w ∙ ap (withins size) (ap (λ x. time_of x 0) s ∙ times_after seed size) in
      λ i. record { version = 1; tick_ms = 1000; horizon_ms = 3600000; nodes = n i; edges = e i; sections = z i; signals = g i; vehicles = v i; trains = ways i; orders = o i; withins = times i; overlaps = l i }

-- the station that is made is admitted
pub same_admitted : (seed size : ℕ) (d : Station) → d ≡ made seed size → 1 ≤ size → size ≤ 6 → is_admitted d ≡ true
same_admitted seed size d e at_least_one at_most_six = subst (λ s. is_admitted s ≡ true) (sym e) (made_admitted seed size at_least_one at_most_six)
