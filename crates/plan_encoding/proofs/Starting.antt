-- What is said of how a route starts.
use Rattle.std.proofs.Common.{◌≡◌, ℕ, ◌-◌, Bool, true, false, if◌then◌else◌, List, [], ◌∷◌, map, flat_map, refl, sym, ap, ◌∙◌}
use Rattle.rail_base.specs.declared.station.Station.{Station}
use Rattle.rail_base.specs.declared.station.NodeNo.{NodeNo}
use Rattle.rail_base.specs.declared.station.SignalNo.{SignalNo}
use Rattle.rail_base.specs.declared.route.Route.{Route}
use Rattle.rail_base.specs.declared.route.RouteNo.{RouteNo}
use Rattle.rail_base.specs.declared.route.Start.{Start}
use Rattle.rail_base.specs.declared.route.Start.TheVariants as start
use Rattle.rail_base.specs.declared.plan.Command.{Command}
use Rattle.rail_base.specs.Numbering.{one_to}
use Rattle.rail_base.specs.Stations.{first_visit, train_of}
use Rattle.rail_spec.specs.Plans.{has_node, route_at}
use Rattle.clause_spec.specs.Variables.{Given, no, if_given}
use Rattle.live_clause_spec.specs.Listed.{live_leading_to, live_start_clause, live_starts_rightly}

abbrev no_one : {Y : Type 0} → List Y
no_one = []

nothing : {X Y : Type 0} (xs : List X) → flat_map (λ (x : X). no_one {Y = Y}) xs ≡ []
nothing [] = refl
nothing (x ∷ xs) = nothing xs

one_each : {X Y : Type 0} (g : X → Y) (xs : List X) → flat_map (λ x. g x ∷ []) xs ≡ map g xs
one_each g [] = refl
one_each g (x ∷ xs) = ap (λ ys. g x ∷ ys) (one_each g xs)

module _ (live : Command → Bool) (d : Station) (routes : List Route) (n : ℕ) (c : Command) where
  -- nothing, at a boundary of the first visit
  pub starts_first : (s : Start) (m : NodeNo) → (route_at routes c.route).start ≡ s → s ≡ start.Boundary m → has_node (first_visit (train_of d c.train)) m ≡ true → live_starts_rightly live d routes n c ≡ []
  starts_first s m e f h = ap (λ s. flat_map (live_start_clause live d routes n c s) (one_to n)) (e ∙ f) ∙ (ap (λ (b : Bool). flat_map (λ (i : ℕ). if b then [] else (no (Given c i) ∷ []) ∷ []) (one_to n)) h ∙ nothing (one_to n))

  -- at another, that the command is not given
  pub starts_never : (s : Start) (m : NodeNo) → (route_at routes c.route).start ≡ s → s ≡ start.Boundary m → has_node (first_visit (train_of d c.train)) m ≡ false → live_starts_rightly live d routes n c ≡ map (λ i. no (Given c i) ∷ []) (one_to n)
  starts_never s m e f h = ap (λ s. flat_map (live_start_clause live d routes n c s) (one_to n)) (e ∙ f) ∙ (ap (λ (b : Bool). flat_map (λ (i : ℕ). if b then [] else (no (Given c i) ∷ []) ∷ []) (one_to n)) h ∙ one_each (λ i. no (Given c i) ∷ []) (one_to n))

  -- at a signal, that a route that leads there is given by the step before
  pub starts_led : (s : Start) (q : SignalNo) (leading : List RouteNo) → (route_at routes c.route).start ≡ s → s ≡ start.Signal q → leading ≡ live_leading_to live routes c.train (route_at routes c.route).start
      → live_starts_rightly live d routes n c ≡ map (λ i. no (Given c i) ∷ flat_map (λ q. if_given (record { train = c.train; route = q }) (i - 1)) leading) (one_to n)
  starts_led s q leading e f h = ap (λ s. flat_map (live_start_clause live d routes n c s) (one_to n)) (e ∙ f)
      ∙ (ap (λ ls. flat_map (λ (i : ℕ). (no (Given c i) ∷ flat_map (λ q. if_given (record { train = c.train; route = q }) (i - 1)) ls) ∷ []) (one_to n)) (sym (h ∙ ap (live_leading_to live routes c.train) (e ∙ f)))
      ∙ one_each (λ i. no (Given c i) ∷ flat_map (λ q. if_given (record { train = c.train; route = q }) (i - 1)) leading) (one_to n))
