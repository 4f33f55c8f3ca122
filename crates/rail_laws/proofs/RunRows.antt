-- Runs of small designs.
use Rattle.std.specs.Prelude.{◌≡◌, ℕ, true, false, List, [], ◌∷◌, map, refl}
use Rattle.rail_base.specs.declared.station.Station.{Station}
use Rattle.rail_base.specs.declared.plan.Command.{Command}
use Rattle.rail_base.specs.Numbering.{one_to}
use Rattle.rail_spec.specs.Track.{routes_of}
use Rattle.rail_spec.specs.Plans.{is_well_formed, is_executable}
use Rattle.rail_spec.specs.Dispatches.{of_plan, state_at}
use Rattle.rail_laws.proofs.Stations.{halt, halt_for, follow, plan_one, plan_two, plan_early, plan_half}

-- the heads of all trains at ticks 1 to n
abbrev heads : Station → List (List Command) → ℕ → List (List ℕ)
heads d plan n = map (λ k. map (λ s. s.x) (state_at d (routes_of d) (of_plan (routes_of d) plan) k)) (one_to n)

good : is_well_formed follow (routes_of follow) 256 plan_two ≡ true
good = refl

can_do : is_executable follow (routes_of follow) plan_two ≡ true
can_do = refl

cannot_do : is_executable follow (routes_of follow) plan_early ≡ false
cannot_do = refl

heads_of_one : heads halt plan_one 10
    ≡ (500 ∷ []) ∷ (1500 ∷ []) ∷ (3000 ∷ []) ∷ (5000 ∷ []) ∷ (7000 ∷ []) ∷ (9000 ∷ []) ∷ (11000 ∷ []) ∷ (13000 ∷ []) ∷ (15000 ∷ []) ∷ (17000 ∷ []) ∷ []
heads_of_one = refl

-- it brakes for its place, stands there for 3 ticks, and goes on
heads_of_stop : heads (halt_for 3000) plan_one 16
    ≡ (500 ∷ []) ∷ (1500 ∷ []) ∷ (3000 ∷ []) ∷ (5000 ∷ []) ∷ (7000 ∷ []) ∷ (8700 ∷ []) ∷ (9700 ∷ []) ∷ (10000 ∷ []) ∷ (10000 ∷ []) ∷ (10000 ∷ []) ∷ (10000 ∷ [])
    ∷ (10500 ∷ []) ∷ (11500 ∷ []) ∷ (13000 ∷ []) ∷ (15000 ∷ []) ∷ (17000 ∷ []) ∷ []
heads_of_stop = refl

stood_of_stop : map (λ k. map (λ s. s.stood) (state_at (halt_for 3000) (routes_of (halt_for 3000)) (of_plan (routes_of (halt_for 3000)) plan_one) k)) (8 ∷ 9 ∷ 10 ∷ 11 ∷ 16 ∷ []) ≡ (0 ∷ []) ∷ (1 ∷ []) ∷ (2 ∷ []) ∷ (3 ∷ []) ∷ (3 ∷ []) ∷ []
stood_of_stop = refl

heads_of_two : heads follow plan_two 20
    ≡ (500 ∷ 0 ∷ []) ∷ (1500 ∷ 0 ∷ []) ∷ (3000 ∷ 0 ∷ []) ∷ (5000 ∷ 0 ∷ []) ∷ (7000 ∷ 0 ∷ []) ∷ (9000 ∷ 0 ∷ []) ∷ (11000 ∷ 0 ∷ []) ∷ (13000 ∷ 0 ∷ []) ∷ (15000 ∷ 500 ∷ []) ∷ (17000 ∷ 1500 ∷ [])
    ∷ (19000 ∷ 3000 ∷ []) ∷ (21000 ∷ 5000 ∷ []) ∷ (23000 ∷ 7000 ∷ []) ∷ (25000 ∷ 9000 ∷ []) ∷ (27000 ∷ 11000 ∷ []) ∷ (29000 ∷ 13000 ∷ []) ∷ (31000 ∷ 15000 ∷ []) ∷ (33000 ∷ 17000 ∷ []) ∷ (35000 ∷ 19000 ∷ []) ∷ (37000 ∷ 21000 ∷ []) ∷ []
heads_of_two = refl

heads_half : heads halt plan_half 10 ≡ (500 ∷ []) ∷ (1500 ∷ []) ∷ (3000 ∷ []) ∷ (5000 ∷ []) ∷ (7000 ∷ []) ∷ (8700 ∷ []) ∷ (9700 ∷ []) ∷ (10000 ∷ []) ∷ (10000 ∷ []) ∷ (10000 ∷ []) ∷ []
heads_half = refl
