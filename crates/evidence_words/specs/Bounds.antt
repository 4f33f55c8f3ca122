-- Bounds in sentences: legs one after the other, with the ticks that they take at the least.
use Rattle.std.specs.Prelude.{ℕ, ◌+◌, if◌then◌else◌, nat_le, List, [], ◌∷◌, ◌++◌, codes, decimal, Option, None, Some}
use Rattle.rail_base.specs.declared.station.Station.{Station}
use Rattle.rail_base.specs.declared.station.TrainNo.{TrainNo}
use Rattle.rail_base.specs.declared.route.Route.{Route}
use Rattle.rail_base.specs.declared.route.RouteNo.{RouteNo}
use Rattle.rail_base.specs.Routes.{own_shared, route_at}
use Rattle.rail_base.specs.Stations.{horizon, order_of, within_of}
use Rattle.rail_spec.specs.Requirements.{most_ticks}
use Rattle.bound_spec.specs.declared.Requirement.{Requirement}
use Rattle.bound_spec.specs.declared.Requirement.TheVariants as requirement
use Rattle.bound_spec.specs.declared.Origin.{Origin}
use Rattle.bound_spec.specs.declared.Origin.TheVariants as origin
use Rattle.bound_spec.specs.declared.Place.{Place}
use Rattle.bound_spec.specs.declared.Leg.{Leg}
use Rattle.bound_spec.specs.declared.Bound.{Bound}
use Rattle.bound_spec.specs.Certificates.{VisitOf, routes_of_place, kept_out, last_of_leg, visit_from, visit_to}
use Rattle.bound_spec.specs.Validity.{first_leg, followed}
use Rattle.bound_ticks.specs.Chains.{chain_of, leg_to_release}
use Rattle.bound_ticks.specs.Walks.{first_routes}
use Rattle.rail_base.specs.Names.{train_name}
use Rattle.cone_words.specs.Names.{makes_text, nodes_text}
use Rattle.cone_words.specs.Phrases.{joined, sentence}
use Rattle.cone_words.specs.Routes.{any_route_text, route_text}
use Rattle.cone_words.specs.Times.{tick_text, ticks_text}
use Rattle.cone_words.specs.Cones.{opening_line, parts_sentences, sections_text}

-- ---- from when ticks are counted

-- the visit after which they are counted, or none where they are ticks of the run
abbrev pub counted_after : Origin → Option VisitOf → Option VisitOf
counted_after origin.Visit from = from
counted_after origin.Start from = None
counted_after origin.FirstTick from = None
counted_after (origin.Cone k c) from = None

-- the tick at which the first leg's first command is granted at the earliest: the first of the run, or that of the visit
abbrev pub first_tick : Option VisitOf → ℕ
first_tick None = 1
first_tick (Some v) = 0

-- the visit, where it is made later than the first leg's first command is granted
abbrev pub passed : Option VisitOf → Option VisitOf
passed None = None
passed (Some v) = if nat_le v.number 1 then None else Some v

-- the tick at which it is made in the run, where that is known
abbrev pub origin_tick : Origin → ℕ
origin_tick origin.Visit = 0
origin_tick origin.Start = 0
origin_tick origin.FirstTick = 1
origin_tick (origin.Cone k c) = k

-- a visit, with its nodes
abbrev pub made_text : Station → VisitOf → List ℕ
made_text d v = makes_text d v.train v.number ++ nodes_text d v.train v.number

-- ticks are those of the run
abbrev pub start_text : List ℕ
start_text = codes "ticks are counted from the start of the run"

-- from when they are counted, by the visit from which the requirement is asked for
abbrev pub origin_of_visit_text : Station → VisitOf → Origin → List ℕ
origin_of_visit_text d v origin.Visit =
    codes "ticks are counted from when " ++ made_text d v
origin_of_visit_text d v origin.Start = start_text
origin_of_visit_text d v origin.FirstTick =
    made_text d v ++ codes ", at " ++ tick_text d 1 ++ codes ", since it waits for no other train"
origin_of_visit_text d v (origin.Cone k c) =
    made_text d v ++ codes ", at " ++ tick_text d k ++ codes ", since:"

abbrev pub origin_text : Station → Origin → Option VisitOf → List ℕ
origin_text d o None = start_text
origin_text d o (Some v) = origin_of_visit_text d v o

-- the parts of the cone of an origin
abbrev pub origin_parts : Station → List Route → ℕ → Origin → List (List ℕ)
origin_parts d routes n origin.Visit = []
origin_parts d routes n origin.Start = []
origin_parts d routes n origin.FirstTick = []
origin_parts d routes n (origin.Cone k c) = parts_sentences d routes n c

-- `tick 7 (7 s)`, or `7 ticks (7 s) after <train> makes visit 1`
abbrev pub moment_text : Station → Option VisitOf → ℕ → List ℕ
moment_text d None n = tick_text d n
moment_text d (Some v) n = ticks_text d n ++ codes " after " ++ makes_text d v.train v.number

-- ---- legs

-- `, since it does not use route 4 or 8`
abbrev pub unused_text : Station → List Route → List RouteNo → List ℕ
unused_text d routes [] = []
unused_text d routes (r ∷ rs) = codes ", since it does not use " ++ any_route_text d routes (r ∷ rs)

-- the routes of a place, of which the train uses one
abbrev pub place_text : Station → List Route → Place → List ℕ
place_text d routes p = any_route_text d routes (routes_of_place p) ++ unused_text d routes (kept_out p)

-- the train, and its places in order
abbrev pub leg_text : Station → List Route → Leg → List ℕ
leg_text d routes l = train_name d l.train ++ codes " takes " ++ joined (codes ", then ") (place_text d routes) l.places

-- the one of these, if there is just one
abbrev pub only : List RouteNo → Option RouteNo
only [] = None
only (r ∷ []) = Some r
only (r ∷ s ∷ rs) = None

-- the own sections of the one route that the other has; only that they share some where either may be one of more
abbrev pub meeting_text : Station → List Route → Option RouteNo → Option RouteNo → List ℕ
meeting_text d routes (Some r) (Some q) = sections_text d (own_shared (route_at routes r) (route_at routes q))
meeting_text d routes (Some r) None = codes "what the two routes share"
meeting_text d routes None q = codes "what the two routes share"

-- the train of the first of these legs is not granted its first route before this moment: it waits for the leg before
abbrev pub wait_text : Station → List Route → Option VisitOf → ℕ → Leg → List Leg → List ℕ
wait_text d routes after tick l ls =
    train_name d (first_leg ls).train ++ codes " cannot be granted " ++ any_route_text d routes (first_routes ls)
    ++ codes " before " ++ moment_text d after tick ++ codes ": it waits for " ++ train_name d l.train
    ++ codes " to leave "
    ++ meeting_text d routes (only (routes_of_place (last_of_leg l))) (only (first_routes ls))

module _ (d : Station) (routes : List Route) (h : ℕ) where
  -- the tick at which the first of these legs is granted its first route at the earliest, where the leg before was so
  abbrev pub next_tick : Option VisitOf → ℕ → Leg → List Leg → ℕ
  next_tick from tick l ls = tick + leg_to_release d routes h from l (first_routes ls) + 1

  -- each leg, and from when on the next one is granted its first route
  abbrev pub legs_sentences : ℕ → Option VisitOf → Option VisitOf → ℕ → List Leg → List (List ℕ)
  legs_sentences n after from tick [] = []
  legs_sentences n after from tick (l ∷ []) = sentence n (leg_text d routes l) ∷ []
  legs_sentences n after from tick (l ∷ m ∷ ls) =
      sentence n (leg_text d routes l)
      ∷ sentence n (wait_text d routes after (next_tick from tick l (m ∷ ls)) l (m ∷ ls))
      ∷ legs_sentences n after None (next_tick from tick l (m ∷ ls)) (m ∷ ls)

-- ---- the end

-- `so <train> makes visit <k>, at <node>, no earlier than <moment>`
abbrev pub arrives_text : Station → Option VisitOf → ℕ → TrainNo → ℕ → List ℕ
arrives_text d after tick t k =
    codes "so " ++ makes_text d t k ++ nodes_text d t k ++ codes ", no earlier than " ++ moment_text d after tick

-- ` after tick 40 (40 s)`, where ticks are those of the run
abbrev pub since_text : Station → Option VisitOf → ℕ → List ℕ
since_text d None k = codes " after " ++ tick_text d k
since_text d (Some v) k = []

-- the horizon
abbrev pub horizon_text : Station → List ℕ
horizon_text d = codes "; the horizon is " ++ tick_text d (horizon d)

-- when the legs are through, and what is asked for; k is the tick of the visit from which it is asked for, where that is known
abbrev pub end_text : Station → List Route → Option VisitOf → ℕ → ℕ → Requirement → List ℕ
end_text d routes after k tick (requirement.Within w) = let within = within_of d w in
    arrives_text d after tick within.to_train within.to_visit ++ codes "; within " ++ decimal w ++ codes " allows "
    ++ ticks_text d (most_ticks d within) ++ since_text d after k
end_text d routes after k tick (requirement.Order o) = let order = order_of d o in
    arrives_text d after tick order.first_train order.first_visit ++ codes "; order " ++ decimal o
    ++ codes " asks for it before " ++ makes_text d order.then_train order.then_visit
end_text d routes after k tick (requirement.Visit t v) = arrives_text d after tick t v ++ horizon_text d
end_text d routes after k tick (requirement.Grant c) =
    codes "so " ++ train_name d c.train ++ codes " cannot be granted route " ++ route_text d routes c.route ++ codes " before "
    ++ moment_text d after tick ++ horizon_text d

-- ---- the whole

module _ (d : Station) (routes : List Route) (b : Bound) where
  -- the visit after which its ticks are counted, if there is one
  abbrev pub after_of : Option VisitOf
  after_of = counted_after b.origin (visit_from d b.requirement)

  -- the tick at which its legs are through at the earliest
  abbrev pub end_tick : ℕ
  end_tick =
      first_tick after_of
      + chain_of d routes (followed d routes b.legs) (passed after_of) (visit_to d b.requirement) b.legs

  -- its legs, from its first tick on
  abbrev pub chain_sentences : ℕ → List (List ℕ)
  chain_sentences n =
      legs_sentences d routes (followed d routes b.legs) n after_of (passed after_of) (first_tick after_of) b.legs

  -- from when ticks are counted, the legs, and when they are through
  abbrev pub bound_sentences : ℕ → List (List ℕ)
  bound_sentences n =
      opening_line n ∷ sentence n (origin_text d b.origin (visit_from d b.requirement))
      ∷ (origin_parts d routes n b.origin ++ chain_sentences n
      ++ sentence n (end_text d routes after_of (origin_tick b.origin) end_tick b.requirement) ∷ [])
