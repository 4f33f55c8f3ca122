-- Small cones.
use Rattle.std.specs.Prelude.{◌≡◌, ℕ, true, false, List, [], ◌∷◌, ◌++◌, Option, None, Some, refl}
use Rattle.rail_base.specs.declared.station.Station.{Station}
use Rattle.rail_base.specs.declared.route.RouteNo.{RouteNo}
use Rattle.rail_base.specs.declared.plan.Command.{Command}
use Rattle.rail_base.specs.declared.plan.Violation.{Violation}
use Rattle.rail_base.specs.declared.plan.Violation.TheVariants as violation
use Rattle.rail_spec.specs.Track.{routes_of}
use Rattle.rail_laws.proofs.Stations.{halt_for, within, follow_short, parallel, halt_within, follow_within, plan_two, plan_one, plan_together, command}
use Rattle.cone_spec.specs.declared.ConeTrain.{ConeTrain}
use Rattle.cone_spec.specs.declared.Cone.{Cone}
use Rattle.cone_spec.specs.declared.ConeFault.{ConeFault}
use Rattle.cone_spec.specs.declared.ConeFault.TheVariants as fault
use Rattle.cone_spec.specs.Cones.{cone_state_at}
use Rattle.cone_spec.specs.Validity.{fault_of}
use Rattle.cone_spec.specs.Clauses.{clause_of_cone, is_false_of, Literal, Fact, Used, Before}

abbrev follows : ℕ → ℕ → ℕ → List RouteNo → Option Command → ConeTrain
follows t horizon free path holder = record { train = record { 0 = t }; horizon = horizon; free = free; path = path; holder = holder }

abbrev route : ℕ → RouteNo
route r = record { 0 = r }

abbrev both_routes : List RouteNo
both_routes = route 1 ∷ route 2 ∷ []

abbrev cone : List ConeTrain → List (Command × Command) → Violation → Cone
cone trains pairs v = record { trains = trains; pairs = pairs; violation = v }

abbrev fault_in : Station → Cone → Option ConeFault
fault_in d k = fault_of d (routes_of d) k

abbrev clause_in : Station → Cone → List Literal
clause_in d k = clause_of_cone d (routes_of d) k

-- one train that is too slow
abbrev slow_train : ℕ → Cone
slow_train horizon = cone (follows 1 horizon 2 both_routes None ∷ []) [] (violation.Within 1)

slow_valid : fault_in (halt_within 8000) (slow_train 9) ≡ None
slow_valid = refl

slow_early : fault_in (halt_within 8000) (slow_train 8) ≡ Some fault.ViolationNotShown
slow_early = refl

slow_in_time : fault_in (halt_within 9000) (slow_train 9) ≡ Some fault.ViolationNotShown
slow_in_time = refl

abbrev neg : Fact → Literal
neg f = record { fact = f; negated = true }

abbrev affirm : Fact → Literal
affirm f = record { fact = f; negated = false }

slow_clause : clause_in (halt_within 8000) (slow_train 9) ≡ neg (Used (command 1 1)) ∷ neg (Used (command 1 2)) ∷ []
slow_clause = refl

slow_false : is_false_of plan_one (clause_in (halt_within 8000) (slow_train 9)) ≡ true
slow_false = refl

-- the second train follows too late
abbrev late : ℕ → ℕ → List (Command × Command) → Cone
late first second pairs = cone (follows 1 first 2 both_routes None ∷ follows 2 second 2 both_routes None ∷ []) pairs (violation.Within 1)

abbrev in_turn : List (Command × Command)
in_turn = (command 1 1, command 2 1) ∷ (command 1 2, command 2 2) ∷ []

late_valid : fault_in (follow_within 7999) (late 11 17 in_turn) ≡ None
late_valid = refl

late_whole : fault_in (follow_within 7999) (late 17 17 in_turn) ≡ None
late_whole = refl

late_whole_false : is_false_of plan_two (clause_in (follow_within 7999) (late 17 17 in_turn)) ≡ true
late_whole_false = refl

late_unlisted : fault_in (follow_within 7999) (late 11 17 ((command 1 2, command 2 2) ∷ [])) ≡ Some fault.ViolationNotShown
late_unlisted = refl

late_short : fault_in (follow_within 7999) (late 10 17 in_turn) ≡ Some fault.CommandNotGranted
late_short = refl

late_false : is_false_of plan_two (clause_in (follow_within 7999) (late 11 17 in_turn)) ≡ true
late_false = refl

-- the second train isn't let in by the horizon
abbrev shut_out : ℕ → List RouteNo → Cone
shut_out horizon second = cone (follows 1 horizon 2 both_routes None ∷ follows 2 8 0 second (Some (command 1 1)) ∷ []) ((command 1 1, command 2 1) ∷ []) (violation.Grant (record { 0 = 2 }) 1)

shut_out_valid : fault_in follow_short (shut_out 7 (route 1 ∷ [])) ≡ None
shut_out_valid = refl

shut_out_whole : fault_in follow_short (shut_out 8 both_routes) ≡ None
shut_out_whole = refl

shut_out_whole_false : is_false_of plan_two (clause_in follow_short (shut_out 8 both_routes)) ≡ true
shut_out_whole_false = refl

shut_out_short : fault_in follow_short (shut_out 6 (route 1 ∷ [])) ≡ Some fault.HolderNotValid
shut_out_short = refl

shut_out_clause : clause_in follow_short (shut_out 7 (route 1 ∷ [])) ≡
    neg (Used (command 1 1)) ∷ neg (Used (command 1 2)) ∷ neg (Used (command 2 1)) ∷ neg (Before (command 1 1) (command 2 1))
    ∷ affirm (Before (command 2 1) (command 1 1)) ∷ affirm (Before (command 2 2) (command 1 2)) ∷ affirm (Before (command 2 3) (command 1 1)) ∷ affirm (Before (command 2 3) (command 1 2)) ∷ []
shut_out_clause = refl

shut_out_false : is_false_of plan_two (clause_in follow_short (shut_out 7 (route 1 ∷ []))) ≡ true
shut_out_false = refl

-- the second train is there first
abbrev wrong_order : List ConeTrain → List (Command × Command) → Cone
wrong_order trains pairs = cone trains pairs (violation.Order 1)

abbrev second_first : List (List Command)
second_first = (command 2 1 ∷ []) ∷ (command 2 2 ∷ []) ∷ (command 1 1 ∷ []) ∷ (command 1 2 ∷ []) ∷ []

abbrev order_whole : Cone
order_whole = wrong_order (follows 1 1 0 both_routes (Some (command 2 1)) ∷ follows 2 1 1 both_routes None ∷ []) ((command 2 1, command 1 1) ∷ [])

order_whole_valid : fault_in (follow_within 7999) order_whole ≡ None
order_whole_valid = refl

order_whole_false : is_false_of second_first (clause_in (follow_within 7999) order_whole) ≡ true
order_whole_false = refl

order_alone : fault_in (follow_within 7999) (wrong_order (follows 2 1 1 both_routes None ∷ []) []) ≡ None
order_alone = refl

-- both trains begin at once
abbrev at_once_whole : Cone
at_once_whole = wrong_order (follows 1 1 1 (route 1 ∷ []) None ∷ follows 2 1 1 (route 3 ∷ []) None ∷ []) []

at_once_whole_valid : fault_in parallel at_once_whole ≡ None
at_once_whole_valid = refl

at_once_whole_false : is_false_of plan_together (clause_in parallel at_once_whole) ≡ true
at_once_whole_false = refl

at_once_alone : fault_in parallel (wrong_order (follows 2 1 1 (route 3 ∷ []) None ∷ []) []) ≡ None
at_once_alone = refl

-- a cone that follows a train to a signal is valid where the train has to go on, and its clause is true of the plan that does
abbrev to_signal : Cone
to_signal = cone (follows 1 10 1 (route 1 ∷ []) None ∷ []) [] (violation.Within 1)

to_signal_valid : fault_in (halt_within 9000) to_signal ≡ None
to_signal_valid = refl

to_signal_clause : clause_in (halt_within 9000) to_signal ≡ neg (Used (command 1 1)) ∷ affirm (Used (command 1 2)) ∷ []
to_signal_clause = refl

to_signal_true : is_false_of plan_one (clause_in (halt_within 9000) to_signal) ≡ false
to_signal_true = refl

-- where the first train goes first the plan meets the design; the clause of the cone that follows the second alone is true of it, by the first train's command before the free one
second_alone : fault_in (follow_within 8000) (wrong_order (follows 2 1 1 both_routes None ∷ []) []) ≡ None
second_alone = refl

first_goes_first : is_false_of plan_two (clause_in (follow_within 8000) (wrong_order (follows 2 1 1 both_routes None ∷ []) [])) ≡ false
first_goes_first = refl

only_used_would_fail : is_false_of plan_two (neg (Used (command 2 1)) ∷ neg (Used (command 2 2)) ∷ []) ≡ true
only_used_would_fail = refl

-- ---- cones that don't fit the design

abbrev not_in_design : Option ConeFault
not_in_design = Some fault.PathNotInDesign

abbrev shut_out_by : List ConeTrain → List (Command × Command) → Cone
shut_out_by trains pairs = cone trains pairs (violation.Grant (record { 0 = 2 }) 1)

abbrev first_train : ConeTrain
first_train = follows 1 7 2 both_routes None

abbrev second_train : ConeTrain
second_train = follows 2 8 0 (route 1 ∷ []) (Some (command 1 1))

abbrev waits_for_it : List (Command × Command)
waits_for_it = (command 1 1, command 2 1) ∷ []

fits : fault_in follow_short (shut_out_by (first_train ∷ second_train ∷ []) waits_for_it) ≡ None
fits = refl

no_third_train : fault_in follow_short (shut_out_by (first_train ∷ second_train ∷ follows 3 1 0 both_routes None ∷ []) waits_for_it) ≡ not_in_design
no_third_train = refl

no_fourth_route : fault_in follow_short (shut_out_by (follows 1 7 2 (route 1 ∷ route 4 ∷ []) None ∷ second_train ∷ []) waits_for_it) ≡ not_in_design
no_fourth_route = refl

trains_in_order : fault_in follow_short (shut_out_by (second_train ∷ first_train ∷ []) waits_for_it) ≡ not_in_design
trains_in_order = refl

no_pair_twice : fault_in follow_short (shut_out_by (first_train ∷ second_train ∷ []) (waits_for_it ++ waits_for_it)) ≡ not_in_design
no_pair_twice = refl

past_the_horizon : fault_in follow_short (shut_out_by (follows 1 9 2 both_routes None ∷ second_train ∷ []) waits_for_it) ≡ not_in_design
past_the_horizon = refl

more_free_than_there_are : fault_in follow_short (shut_out_by (follows 1 7 3 both_routes None ∷ second_train ∷ []) waits_for_it) ≡ not_in_design
more_free_than_there_are = refl

not_from_a_boundary : fault_in follow_short (shut_out_by (follows 1 7 1 (route 2 ∷ []) None ∷ second_train ∷ []) waits_for_it) ≡ not_in_design
not_from_a_boundary = refl

no_path : fault_in follow_short (shut_out_by (follows 1 7 0 [] None ∷ second_train ∷ []) []) ≡ not_in_design
no_path = refl

does_not_go_on : fault_in follow_short (shut_out_by (follows 1 7 2 (route 3 ∷ route 2 ∷ []) None ∷ second_train ∷ []) waits_for_it) ≡ not_in_design
does_not_go_on = refl

pair_of_no_path : fault_in follow_short (shut_out_by (first_train ∷ second_train ∷ []) ((command 1 1, command 2 1) ∷ (command 1 2, command 2 2) ∷ [])) ≡ not_in_design
pair_of_no_path = refl

pair_of_one_train : fault_in follow_short (shut_out_by (first_train ∷ second_train ∷ []) ((command 1 1, command 1 2) ∷ waits_for_it)) ≡ not_in_design
pair_of_one_train = refl

pair_without_a_section : fault_in follow_short (shut_out_by (first_train ∷ second_train ∷ []) (waits_for_it ++ (command 1 2, command 2 1) ∷ [])) ≡ not_in_design
pair_without_a_section = refl

holder_of_no_path : fault_in follow_short (shut_out_by (first_train ∷ follows 2 8 0 (route 1 ∷ []) (Some (command 1 3)) ∷ []) waits_for_it) ≡ not_in_design
holder_of_no_path = refl

no_second_command : fault_in follow_short (cone (first_train ∷ second_train ∷ []) waits_for_it (violation.Grant (record { 0 = 2 }) 2)) ≡ not_in_design
no_second_command = refl

no_within : fault_in follow_short (cone (first_train ∷ second_train ∷ []) waits_for_it (violation.Within 1)) ≡ not_in_design
no_within = refl

-- ---- cones of a path that misses a visit

abbrev path_nodes_short : List ConeTrain → List (Command × Command) → ℕ → Cone
path_nodes_short trains pairs visit = cone trains pairs (violation.Path (record { 0 = 1 }) visit)

path_valid : fault_in follow_short (path_nodes_short (follows 1 0 0 (route 1 ∷ []) None ∷ []) [] 2) ≡ None
path_valid = refl

path_clause : clause_in follow_short (path_nodes_short (follows 1 0 0 (route 1 ∷ []) None ∷ []) [] 2) ≡ neg (Used (command 1 1)) ∷ affirm (Used (command 1 2)) ∷ []
path_clause = refl

path_makes_it : fault_in follow_short (path_nodes_short (follows 1 0 0 both_routes None ∷ []) [] 2) ≡ Some fault.ViolationNotShown
path_makes_it = refl

path_of_another : fault_in follow_short (path_nodes_short (follows 2 0 0 (route 1 ∷ []) None ∷ []) [] 2) ≡ not_in_design
path_of_another = refl

path_of_none : fault_in follow_short (path_nodes_short [] [] 2) ≡ not_in_design
path_of_none = refl

path_with_a_horizon : fault_in follow_short (path_nodes_short (follows 1 1 0 (route 1 ∷ []) None ∷ []) [] 2) ≡ not_in_design
path_with_a_horizon = refl

-- ---- holders

-- the last free command is granted just at the horizon, so what comes next needs no holder
just_granted : fault_in follow_short (cone (follows 1 1 1 both_routes None ∷ []) [] (violation.Grant (record { 0 = 1 }) 2)) ≡ Some fault.ViolationNotShown
just_granted = refl

holder_is_missing : fault_in follow_short (cone (follows 1 2 1 both_routes None ∷ []) [] (violation.Grant (record { 0 = 1 }) 2)) ≡ Some fault.HolderNotValid
holder_is_missing = refl

holder_is_not_needed : fault_in follow_short (shut_out_by (first_train ∷ follows 2 0 0 (route 1 ∷ []) (Some (command 1 1)) ∷ []) waits_for_it) ≡ Some fault.HolderNotValid
holder_is_not_needed = refl

holder_is_not_listed : fault_in follow_short (shut_out_by (first_train ∷ second_train ∷ []) []) ≡ Some fault.HolderNotValid
holder_is_not_listed = refl

-- ---- a train that stands for three ticks at its second visit, and comes to its third 15 ticks after its first

abbrev standing_within : ℕ → ℕ → Station
standing_within dwell ms = record (halt_for dwell) { withins = within 1 1 1 3 ms ∷ [] }

standing_valid : fault_in (standing_within 3000 14999) (slow_train 15) ≡ None
standing_valid = refl

standing_early : fault_in (standing_within 3000 14999) (slow_train 14) ≡ Some fault.ViolationNotShown
standing_early = refl

standing_in_time : fault_in (standing_within 3000 15000) (slow_train 16) ≡ Some fault.ViolationNotShown
standing_in_time = refl

standing_false : is_false_of plan_one (clause_in (standing_within 3000 14999) (slow_train 15)) ≡ true
standing_false = refl

-- nor is it late where it stands a tick less
standing_less : fault_in (standing_within 2000 14999) (slow_train 15) ≡ Some fault.ViolationNotShown
standing_less = refl

-- past its horizon it stands no longer
standing_stays : cone_state_at (standing_within 3000 14999) (routes_of (standing_within 3000 14999)) (slow_train 10) 20 (record { 0 = 1 })
    ≡ record { granted = 2; x = 10000; v = 0; stood = 2 }
standing_stays = refl
