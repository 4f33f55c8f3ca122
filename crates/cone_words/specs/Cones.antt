-- Cones in sentences.
use Rattle.std.specs.Prelude.{ℕ, Bool, true, false, ◌||◌, if◌then◌else◌, nat_le, List, [], ◌∷◌, ◌++◌, map, filter, codes, decimal}
use Rattle.std.specs.Prelude.{Option, None, Some}
use Rattle.std.specs.List.{flat_map, list_any}
use Rattle.rail_base.specs.declared.station.Station.{Station}
use Rattle.rail_base.specs.declared.station.SectionNo.{SectionNo}
use Rattle.rail_base.specs.declared.station.TrainNo.{TrainNo}
use Rattle.rail_base.specs.declared.route.Route.{Route}
use Rattle.rail_base.specs.declared.route.OverlapSection.{OverlapSection}
use Rattle.rail_base.specs.declared.plan.Command.{Command}
use Rattle.rail_base.specs.declared.plan.Violation.{Violation}
use Rattle.rail_base.specs.declared.plan.Violation.TheVariants as violation
use Rattle.rail_base.specs.Routes.{has_section, held_sections, own_shared, route_at}
use Rattle.rail_base.specs.Stations.{horizon, order_of, within_of}
use Rattle.rail_spec.specs.Requirements.{most_ticks}
use Rattle.cone_spec.specs.declared.Cone.{Cone}
use Rattle.cone_spec.specs.declared.ConeTrain.{ConeTrain}
use Rattle.cone_spec.specs.Cones.{all_free}
use Rattle.rail_base.specs.Names.{section_name, train_name}
use Rattle.cone_words.specs.Names.{makes_text, nodes_text}
use Rattle.cone_words.specs.Phrases.{joined, sentence}
use Rattle.cone_words.specs.Routes.{path_text, route_text}
use Rattle.cone_words.specs.Stops.{stop_sentences}
use Rattle.cone_words.specs.Times.{tick_text, ticks_text}
use Rattle.rail_base.specs.declared.route.RouteNo.{RouteNo}

-- what no plan that meets the design has
abbrev pub opening_line : ℕ → List ℕ
opening_line n = sentence n (codes "no plan in which this is so meets the design:")

-- `z4, z5`
abbrev pub sections_text : Station → List SectionNo → List ℕ
sections_text d zs = joined (codes ", ") (section_name d) zs

-- ---- what is so

-- `leave`, or `release` for a route with an overlap, whose sections are held when the train has left the others
abbrev pub leave_word : List OverlapSection → List ℕ
leave_word [] = codes "leave"
leave_word (p ∷ ps) = codes "release"

-- the command that holds up the first one that waits, if there is one
abbrev pub holder_text : Station → List Route → Option Command → List ℕ
holder_text d routes None = []
holder_text d routes (Some h) =
    codes ", and the next one waits for " ++ train_name d h.train ++ codes " to "
    ++ leave_word (route_at routes h.route).overlaps ++ codes " route " ++ route_text d routes h.route

-- a train: up to which tick it is followed, and its path
abbrev pub followed_text : Station → List Route → ConeTrain → List ℕ
followed_text d routes c =
    train_name d c.train ++ codes " is followed up to " ++ tick_text d c.horizon
    ++ codes " over " ++ path_text d routes c.path

-- the same, and how many commands of it are granted by then
abbrev pub train_text : Station → List Route → ConeTrain → List ℕ
train_text d routes c =
    followed_text d routes c ++ codes "; by then it is granted " ++ decimal c.free ++ codes " of them"
    ++ holder_text d routes c.holder

-- the violation is that the path misses a visit
abbrev pub is_of_path : Violation → Bool
is_of_path (violation.Path t j) = true
is_of_path (violation.Within w) = false
is_of_path (violation.Order o) = false
is_of_path (violation.Grant t j) = false
is_of_path (violation.Visit t j) = false

-- the cone says that the train goes no further than its path: where all commands of it are granted, and where the path misses a visit
abbrev pub goes_no_further : Cone → ConeTrain → Bool
goes_no_further k c = all_free c || is_of_path k.violation

abbrev pub end_text : Station → TrainNo → List ℕ
end_text d t = train_name d t ++ codes " goes no further"

-- `<train> goes no further`, where the cone says so
abbrev pub end_sentences : Station → ℕ → Cone → ConeTrain → List (List ℕ)
end_sentences d n k c =
    if goes_no_further k c then sentence n (end_text d c.train) ∷ [] else []

-- sections that a train goes over are left
abbrev pub left_text : Station → List SectionNo → List ℕ
left_text d own = codes "has left " ++ sections_text d own

-- sections of an overlap are released
abbrev pub released_text : Station → List SectionNo → List ℕ
released_text d held = codes "has released " ++ sections_text d held

-- `has left z4, z5`, `has released z6`, or both
abbrev pub cleared_text : Station → List SectionNo → List SectionNo → List ℕ
cleared_text d own [] = left_text d own
cleared_text d [] (z ∷ held) = released_text d (z ∷ held)
cleared_text d (y ∷ own) (z ∷ held) = left_text d (y ∷ own) ++ codes " and " ++ released_text d (z ∷ held)

-- the sections of the overlap at the first route's end that the second has too
abbrev pub held_shared : Route → Route → List SectionNo
held_shared r q = filter (has_section q) (held_sections r)

-- a train has left or released each section of its route that the other route has too
abbrev pub cleared_of : Station → List Route → RouteNo → RouteNo → List ℕ
cleared_of d routes r q = let route = route_at routes r in let other = route_at routes q in
    cleared_text d (own_shared route other) (held_shared route other)

-- a pair: the second command waits until the first one's train has left or released the sections that the two share
abbrev pub pair_text : Station → List Route → Command × Command → List ℕ
pair_text d routes p =
    train_name d p.1.train ++ codes " is granted route " ++ route_text d routes p.1.route ++ codes " only after "
    ++ train_name d p.0.train ++ codes ", by route " ++ route_text d routes p.0.route ++ codes ", "
    ++ cleared_of d routes p.0.route p.1.route

-- a command of the train is granted
abbrev pub is_granted_some : ConeTrain → Bool
is_granted_some c = nat_le 1 c.free

-- what is said of all other commands, where the cone has granted ones
abbrev pub others_sentences : ℕ → Cone → List (List ℕ)
others_sentences n k =
    if list_any is_granted_some k.trains
    then sentence n (codes "of all other routes that share a section with one granted here, none goes before it but where this is said") ∷ []
    else []

-- a train of a cone, with where it stands and where it ends
abbrev pub train_sentences : Station → List Route → ℕ → Cone → ConeTrain → List (List ℕ)
train_sentences d routes n k t =
    sentence n (train_text d routes t) ∷ stop_sentences d routes n t ++ end_sentences d n k t

-- these trains of it
abbrev pub trains_sentences : Station → List Route → ℕ → Cone → List ConeTrain → List (List ℕ)
trains_sentences d routes n k trains = flat_map (train_sentences d routes n k) trains

-- its pairs
abbrev pub pairs_sentences : Station → List Route → ℕ → List (Command × Command) → List (List ℕ)
pairs_sentences d routes n pairs = map (λ p. sentence n (pair_text d routes p)) pairs

-- its pairs, and then all others
abbrev pub order_sentences : Station → List Route → ℕ → Cone → List (List ℕ)
order_sentences d routes n c = pairs_sentences d routes n c.pairs ++ others_sentences n c

-- its trains, and then in which order commands are
abbrev pub parts_sentences : Station → List Route → ℕ → Cone → List (List ℕ)
parts_sentences d routes n c = trains_sentences d routes n c c.trains ++ order_sentences d routes n c

-- ---- how it fails

-- `so <train> does not make visit <k>, at <node>`
abbrev pub missed_text : Station → TrainNo → ℕ → List ℕ
missed_text d t k =
    codes "so " ++ train_name d t ++ codes " does not make visit " ++ decimal k ++ nodes_text d t k

-- `, by tick <k> (<t> s), the horizon`
abbrev pub by_horizon_text : Station → List ℕ
by_horizon_text d = codes ", by " ++ tick_text d (horizon d) ++ codes ", the horizon"

-- the failure, with what is asked for
abbrev pub failure_text : Station → Violation → List ℕ
failure_text d (violation.Path t k) = missed_text d t k
failure_text d (violation.Within w) = let within = within_of d w in
    missed_text d within.to_train within.to_visit ++ codes ", within " ++ ticks_text d (most_ticks d within)
    ++ codes " after " ++ makes_text d within.from_train within.from_visit ++ codes ", as within " ++ decimal w
    ++ codes " asks"
failure_text d (violation.Order o) = let order = order_of d o in
    missed_text d order.first_train order.first_visit ++ codes ", before "
    ++ makes_text d order.then_train order.then_visit ++ codes ", as order " ++ decimal o ++ codes " asks"
failure_text d (violation.Grant t j) =
    codes "so " ++ train_name d t ++ codes " is not granted command " ++ decimal j ++ codes " of its path"
    ++ by_horizon_text d
failure_text d (violation.Visit t k) = missed_text d t k ++ by_horizon_text d

-- what is so, and how it fails
abbrev pub cone_sentences : Station → List Route → ℕ → Cone → List (List ℕ)
cone_sentences d routes n c =
    opening_line n ∷ parts_sentences d routes n c ++ sentence n (failure_text d c.violation) ∷ []

-- what a within asks for
abbrev pub within_text : Station → ℕ → List ℕ
within_text d w = failure_text d (violation.Within w)

-- that a train is not granted a command
abbrev pub ungranted_text : Station → TrainNo → ℕ → List ℕ
ungranted_text d t j = failure_text d (violation.Grant t j)

-- the sections that the first route goes over and the second has too
abbrev pub own_text : Station → List Route → RouteNo → RouteNo → List ℕ
own_text d routes r q = sections_text d (own_shared (route_at routes r) (route_at routes q))
