-- The cones of small failed plans.
use Rattle.std.proofs.Common.{◌≡◌, ℕ, zero, suc, ◌≤◌, ◌==◌, if◌then◌else◌, false, inl, inr, List, [], ◌∷◌, Option, None, Some, refl, sym, ap, subst, arith}
use Rattle.rail_base.specs.declared.station.TrainNo.{TrainNo}
use Rattle.rail_base.specs.declared.route.RouteNo.{RouteNo}
use Rattle.rail_base.specs.declared.plan.Command.{Command}
use Rattle.rail_base.specs.declared.plan.Violation.TheVariants as violation
use Rattle.cone_spec.specs.declared.ConeTrain.{ConeTrain}
use Rattle.rail_spec.specs.Track.{routes_of}
use Rattle.rail_laws.proofs.Stations.{halt_for, within, follow_short, parallel, follow_within, plan_one, plan_two, plan_together, command}
use Rattle.slice_spec.specs.Leasts.{IsLeast}
use Rattle.slice_spec.specs.Slices.{slice_of, whole_cone}
use Rattle.slice_spec.proofs.Raising.{reaches_asked, reaches_clear, reaches_held}
use Rattle.slice_spec.specs.Holders.{IsClosedFamily, grants_reach, holder_at, reaches_holder}
use Rattle.rail_base.specs.Stations.{trains}
use Rattle.rail_base.specs.declared.station.Station.{Station}
use Rattle.rail_base.specs.declared.plan.Violation.{Violation}
use Rattle.rail_spec.specs.Plans.{commands}
use Rattle.std.specs.List.{list_all}
use Rattle.cone_spec.specs.declared.Cone.{Cone}

abbrev two : ℕ → ℕ → TrainNo → ℕ
two a b t = if t.0 == 1 then a else b

abbrev r1 : RouteNo
r1 = record { 0 = 1 }

abbrev r2 : RouteNo
r2 = record { 0 = 2 }

abbrev train : ℕ → ℕ → ℕ → List RouteNo → Option Command → ConeTrain
train t horizon free path holder = record { train = record { 0 = t }; horizon = horizon; free = free; path = path; holder = holder }

abbrev second_first : List (List Command)
second_first = (command 2 1 ∷ []) ∷ (command 2 2 ∷ []) ∷ (command 1 1 ∷ []) ∷ (command 1 2 ∷ []) ∷ []

abbrev slice_in : Station → List (List Command) → ℕ → (TrainNo → ℕ) → Violation → Cone
slice_in d plan last h v = slice_of d (routes_of d) plan last h v

abbrev whole_in : Station → List (List Command) → ℕ → Violation → Cone
whole_in d plan last v = whole_cone d (routes_of d) plan last v

abbrev Closed : Station → List (List Command) → ℕ → (TrainNo → ℕ) → Violation → Type 0
Closed d plan last h v = IsClosedFamily d (routes_of d) plan last h v

late_slice : slice_in (follow_within 7999) plan_two 17 (two 11 17) (violation.Within 1)
    ≡ record { trains = train 1 11 2 (r1 ∷ r2 ∷ []) None ∷ train 2 17 2 (r1 ∷ r2 ∷ []) None ∷ []; pairs = (command 1 1, command 2 1) ∷ (command 1 2, command 2 2) ∷ []; violation = violation.Within 1 }
late_slice = refl

late_closed : Closed (follow_within 7999) plan_two 17 (two 11 17) (violation.Within 1)
late_closed = record { soon = refl; own = refl; grants = refl; holders = refl }

late_open : list_all (grants_reach (follow_within 7999) (routes_of (follow_within 7999)) plan_two 17 (two 10 17)) (commands plan_two) ≡ false
late_open = refl

order_slice : slice_in (follow_within 7999) second_first 1 (two 0 1) (violation.Order 1)
    ≡ record { trains = train 2 1 1 (r1 ∷ r2 ∷ []) None ∷ []; pairs = []; violation = violation.Order 1 }
order_slice = refl

order_closed : Closed (follow_within 7999) second_first 1 (two 0 1) (violation.Order 1)
order_closed = record { soon = refl; own = refl; grants = refl; holders = refl }

shut_out_slice : slice_in follow_short plan_two 8 (two 7 8) (violation.Grant (record { 0 = 2 }) 1)
    ≡ record { trains = train 1 7 2 (r1 ∷ r2 ∷ []) None ∷ train 2 8 0 (r1 ∷ []) (Some (command 1 1)) ∷ []; pairs = (command 1 1, command 2 1) ∷ []; violation = violation.Grant (record { 0 = 2 }) 1 }
shut_out_slice = refl

shut_out_closed : Closed follow_short plan_two 8 (two 7 8) (violation.Grant (record { 0 = 2 }) 1)
shut_out_closed = record { soon = refl; own = refl; grants = refl; holders = refl }

shut_out_open : list_all (λ t. reaches_holder follow_short (routes_of follow_short) plan_two 8 (two 6 8) t (holder_at follow_short (routes_of follow_short) plan_two 8 (two 6 8) t)) (trains follow_short) ≡ false
shut_out_open = refl

together_slice : slice_in parallel plan_together 1 (two 0 1) (violation.Order 1)
    ≡ record { trains = train 2 1 1 (record { 0 = 3 } ∷ []) None ∷ []; pairs = []; violation = violation.Order 1 }
together_slice = refl

together_closed : Closed parallel plan_together 1 (two 0 1) (violation.Order 1)
together_closed = record { soon = refl; own = refl; grants = refl; holders = refl }

-- one train that stands for three ticks between its visits
abbrev standing_within : ℕ → Station
standing_within ms = record (halt_for 3000) { withins = within 1 1 1 3 ms ∷ [] }

standing_slice : slice_in (standing_within 14999) plan_one 15 (λ t. 15) (violation.Within 1)
    ≡ record { trains = train 1 15 2 (r1 ∷ r2 ∷ []) None ∷ []; pairs = []; violation = violation.Within 1 }
standing_slice = refl

standing_closed : Closed (standing_within 14999) plan_one 15 (λ t. 15) (violation.Within 1)
standing_closed = record { soon = refl; own = refl; grants = refl; holders = refl }

-- ---- no closed horizons are lower

abbrev Least : Station → List (List Command) → ℕ → (TrainNo → ℕ) → Violation → Type 0
Least d plan last h v = IsLeast d (routes_of d) plan last v h

-- horizons of two trains
two_low : (f g : TrainNo → ℕ) → f (record { 0 = 1 }) ≤ g (record { 0 = 1 }) → f (record { 0 = 2 }) ≤ g (record { 0 = 2 }) → (t : TrainNo) → (1 ≤ t.0) × (t.0 ≤ 2) → f t ≤ g t
two_low f g a b t is = go t.0 refl is.0 is.1
  where
    at : (n : ℕ) → t.0 ≡ n → f (record { 0 = n }) ≤ g (record { 0 = n }) → f t ≤ g t
    at n e l = subst (λ (u : TrainNo). f u ≤ g u) (ap {B = TrainNo} (λ n. record { 0 = n }) (sym e)) l

    go : (n : ℕ) → t.0 ≡ n → 1 ≤ t.0 → t.0 ≤ 2 → f t ≤ g t
    go zero e low high = absurd (omega arith)
    go (suc zero) e low high = at 1 e a
    go (suc (suc zero)) e low high = at 2 e b
    go (suc (suc (suc n))) e low high = absurd (omega arith)

-- the second train is followed to the end, and the first until it has left what the second is granted
late_least : Least (follow_within 7999) plan_two 17 (two 11 17) (violation.Within 1)
late_least = record { closed = late_closed; lowest = λ g closed t is. two_low (two 11 17) g (first g closed) (second g closed) t is }
  where
    second : (g : TrainNo → ℕ) → Closed (follow_within 7999) plan_two 17 g (violation.Within 1) → 17 ≤ g (record { 0 = 2 })
    second g closed = reaches_asked (follow_within 7999) (routes_of (follow_within 7999)) plan_two 17 (violation.Within 1) refl g closed (record { 0 = 2 }) 17 (inr (inl refl))

    first : (g : TrainNo → ℕ) → Closed (follow_within 7999) plan_two 17 g (violation.Within 1) → 11 ≤ g (record { 0 = 1 })
    first g closed = reaches_clear (follow_within 7999) (routes_of (follow_within 7999)) plan_two 17 (violation.Within 1) g closed (command 2 2) (command 1 2) (inr (inr (inr (inl refl)))) (inl refl) 17 (second g closed) refl 11 refl

-- the first train is not followed
order_least : Least (follow_within 7999) second_first 1 (two 0 1) (violation.Order 1)
order_least = record {
  closed = order_closed;
  lowest = λ g closed t is. two_low (two 0 1) g (omega arith) (reaches_asked (follow_within 7999) (routes_of (follow_within 7999)) second_first 1 (violation.Order 1) refl g closed (record { 0 = 2 }) 1 (inl refl)) t is;
}

-- the second train is followed to the end, and the first to the tick before, at which it still holds that up
shut_out_least : Least follow_short plan_two 8 (two 7 8) (violation.Grant (record { 0 = 2 }) 1)
shut_out_least = record { closed = shut_out_closed; lowest = λ g closed t is. two_low (two 7 8) g (first g closed) (second g closed) t is }
  where
    second : (g : TrainNo → ℕ) → Closed follow_short plan_two 8 g (violation.Grant (record { 0 = 2 }) 1) → 8 ≤ g (record { 0 = 2 })
    second g closed = reaches_asked follow_short (routes_of follow_short) plan_two 8 (violation.Grant (record { 0 = 2 }) 1) refl g closed (record { 0 = 2 }) 8 (inl refl)

    first : (g : TrainNo → ℕ) → Closed follow_short plan_two 8 g (violation.Grant (record { 0 = 2 }) 1) → 7 ≤ g (record { 0 = 1 })
    first g closed = reaches_held follow_short (routes_of follow_short) plan_two 8 (violation.Grant (record { 0 = 2 }) 1) g closed (record { 0 = 2 }) (omega arith, omega arith) 8 (omega arith) (second g closed) (command 1 1) refl

together_least : Least parallel plan_together 1 (two 0 1) (violation.Order 1)
together_least = record {
  closed = together_closed;
  lowest = λ g closed t is. two_low (two 0 1) g (omega arith) (reaches_asked parallel (routes_of parallel) plan_together 1 (violation.Order 1) refl g closed (record { 0 = 2 }) 1 (inl refl)) t is;
}

-- ---- the slices of the whole plans

late_whole : whole_in (follow_within 7999) plan_two 17 (violation.Within 1)
    ≡ record { trains = train 1 17 2 (r1 ∷ r2 ∷ []) None ∷ train 2 17 2 (r1 ∷ r2 ∷ []) None ∷ []; pairs = (command 1 1, command 2 1) ∷ (command 1 2, command 2 2) ∷ []; violation = violation.Within 1 }
late_whole = refl

order_whole : whole_in (follow_within 7999) second_first 1 (violation.Order 1)
    ≡ record { trains = train 1 1 0 (r1 ∷ r2 ∷ []) (Some (command 2 1)) ∷ train 2 1 1 (r1 ∷ r2 ∷ []) None ∷ []; pairs = (command 2 1, command 1 1) ∷ []; violation = violation.Order 1 }
order_whole = refl

shut_out_whole : whole_in follow_short plan_two 8 (violation.Grant (record { 0 = 2 }) 1)
    ≡ record { trains = train 1 8 2 (r1 ∷ r2 ∷ []) None ∷ train 2 8 0 (r1 ∷ r2 ∷ []) (Some (command 1 1)) ∷ []; pairs = (command 1 1, command 2 1) ∷ []; violation = violation.Grant (record { 0 = 2 }) 1 }
shut_out_whole = refl

together_whole : whole_in parallel plan_together 1 (violation.Order 1)
    ≡ record { trains = train 1 1 1 (r1 ∷ []) None ∷ train 2 1 1 (record { 0 = 3 } ∷ []) None ∷ []; pairs = []; violation = violation.Order 1 }
together_whole = refl
