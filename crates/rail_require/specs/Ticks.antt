-- The ticks that a history has of grants and visits.
use Rattle.std.specs.Prelude.{ℕ, ◌<◌, ◌^◌, ◌==◌, Bool, false, List, [], map, length, nat_le, nat_lt, Option, None, Some, ◌≡◌, true}
use Rattle.std.specs.Prelude.{option_map, All}
use Rattle.std.specs.List.{list_any}
use Rattle.rail_base.specs.declared.station.TrainNo.{TrainNo}
use Rattle.rail_base.specs.declared.history.TrainHistory.{TrainHistory}
use Rattle.rail_base.specs.Numbering.{entry, one_to}
use Rattle.rail_base.specs.declared.station.Station.{Station}
use Rattle.rail_base.specs.declared.route.Route.{Route}
use Rattle.rail_base.specs.declared.plan.Command.{Command}
use Rattle.rail_spec.specs.Plans.{is_well_formed, path}
use Rattle.rail_spec.specs.Histories.{history_at}

-- what happened to the train of this number
abbrev pub history_of : List TrainHistory → TrainNo → TrainHistory
history_of history t =
    entry (record { grants = []; passes = []; releases = []; holds = []; visits = []; dwells = [] }) history t.0

-- the numbers of the trains
abbrev pub trains : List TrainHistory → List TrainNo
trains history = map (λ n. record { 0 = n }) (one_to (length history))

-- the numbers of the train's commands
abbrev pub command_numbers : List TrainHistory → TrainNo → List ℕ
command_numbers history t = one_to (length (history_of history t).grants)

-- the numbers of its visits
abbrev pub visit_numbers : List TrainHistory → TrainNo → List ℕ
visit_numbers history t = one_to (length (history_of history t).visits)

-- the tick at which the train's command of this number is granted
abbrev pub grant_tick : List TrainHistory → TrainNo → ℕ → Option ℕ
grant_tick history t j = (entry (record { 0 = 0 }, None) (history_of history t).grants j).1

-- the tick at which the visit is made
abbrev pub visit_tick : List TrainHistory → TrainNo → ℕ → Option ℕ
visit_tick history t j = option_map (λ v. v.1) (entry None (history_of history t).visits j)

-- the tick has come by the end of tick k
abbrev pub is_by : ℕ → Option ℕ → Bool
is_by k (Some a) = nat_le a k
is_by k None = false

-- the tick has come before tick k
abbrev pub is_before : ℕ → Option ℕ → Bool
is_before k (Some a) = nat_lt a k
is_before k None = false

-- the tick is tick k
abbrev pub is_at : ℕ → Option ℕ → Bool
is_at k (Some a) = a == k
is_at k None = false

-- the train makes a visit at tick k
abbrev pub makes_visit_at : ℕ → TrainHistory → Bool
makes_visit_at k t = list_any (λ v. is_at k (option_map (λ m. m.1) v)) t.visits

-- a train makes a visit at tick k
abbrev pub has_visit_at : ℕ → List TrainHistory → Bool
has_visit_at k history = list_any (makes_visit_at k) history

-- trains, commands and visits have numbers of 32 bits
abbrev pub HasNumbers : List TrainHistory → Type 0
HasNumbers history = (length history < 2 ^ 32)
    × All (λ t. (length t.grants < 2 ^ 32) × (length t.visits < 2 ^ 32)) history

-- the history of the plan's run has numbers at every tick
abbrev pub HistoriesHaveNumbers : Station → List Route → List (List Command) → Type 0
HistoriesHaveNumbers d routes plan = (k : ℕ) → HasNumbers (history_at d routes plan k)

-- each train's path has fewer than 2^32 routes
abbrev pub PathsAreShort : List (List Command) → Type 0
PathsAreShort plan = (t : TrainNo) → length (path plan t) < 2 ^ 32

-- so it is where the plan is well formed for fewer than 2^32 steps
abbrev pub FormedHaveNumbers : Station → List Route → List (List Command) → Type 0
FormedHaveNumbers d routes plan = (n : ℕ) → n < 2 ^ 32 → is_well_formed d routes n plan ≡ true
    → HistoriesHaveNumbers d routes plan
