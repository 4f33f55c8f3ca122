-- What is known of plans of fewer steps.
use Rattle.std.proofs.Common.{◌≡◌, ℕ, List, Option, Some, IfSome, ◌+◌, ◌≤◌, ◌&&◌, length, min, max, nat_le, inl, inr, sym, subst, arith, leb-true}
use Rattle.std.specs.List.{list_all}
use Rattle.log_recorder.proofs.Searched.{le-split}
use Rattle.plan_decoder.proofs.Fewest.{none_without_steps}
use Rattle.rail_base.specs.declared.station.Station.{Station}
use Rattle.rail_base.specs.Admitted.{IsAdmitted}
use Rattle.rail_base.specs.declared.route.Route.{Route}
use Rattle.interlocking.specs.declared.railway.Interlocking.{Interlocking}
use Rattle.interlocking.specs.Plans.{on}
use Rattle.rail_base.specs.declared.station.TrainNo.{TrainNo}
use Rattle.rail_base.specs.Stations.{IsTrain}
use Rattle.rail_base.proofs.Members.{and_left}
use Rattle.rail_spec.specs.Feasible.{IsFeasible, IsInfeasible}
use Rattle.rail_spec.specs.Plans.{one_each}
use Rattle.rail_spec.specs.Track.{routes_of}
use Rattle.way_spec.specs.Ways.{HasWay, IsFewestSteps}
use Rattle.way_spec.proofs.Paths.{needs_ways, takes_fewest_of_all}
use Rattle.verify_loop.specs.declared.outcome.Wanted.{Wanted}
use Rattle.verify_loop.specs.declared.outcome.Wanted.TheVariants.{Fewest, Any}
use Rattle.verify_loop.specs.Outcomes.{HasNoneBelow}

-- none of fewer steps than every plan takes, or than are allowed
pub none_below_fewest : (d : Station) (fewest n k : ℕ) → IsAdmitted d → IsFewestSteps d (routes_of d) fewest → k ≡ min (max fewest 1) n → HasNoneBelow Fewest d k
none_below_fewest d fewest n k good is at = λ s less plan f.
    let short : length plan ≤ s = leb-true _ _ (and_left (nat_le (length plan) s) _ (and_left (nat_le (length plan) s && list_all one_each plan) _ f.runnable.well_formed.formed)) in
    let takes : fewest ≤ length plan = takes_fewest_of_all d s plan f fewest is in
    let empty : s ≡ 0 = omega (arith, less, short, takes, at) in
    none_without_steps d good plan (subst (λ (z : ℕ). IsFeasible d z plan) empty f)

-- none of any where a train has no way
pub none_without_ways : (d : Station) (k : ℕ) (t : TrainNo) → IsTrain d t → (HasWay d (routes_of d) t → ⊥) → HasNoneBelow Fewest d k
none_without_ways d k t there none = λ s less. needs_ways d t there none s

-- what is said of an interlocking is said of its station's routes
pub fewest_of : (i j : Interlocking) (found : Option ℕ) (k : ℕ) → i ≡ j → IfSome found (λ n. on i IsFewestSteps n) → found ≡ Some k → IsFewestSteps j.design.station (routes_of j.design.station) k
fewest_of i j found k same is there = subst (λ rs. IsFewestSteps j.design.station rs k) j.table (subst (λ (z : Interlocking). on z IsFewestSteps k) same (subst (λ (o : Option ℕ). IfSome o (λ n. on i IsFewestSteps n)) there is))

abbrev IsWayless : Station → List Route → Type 0
IsWayless d routes = (t : TrainNo) × IsTrain d t × (HasWay d routes t → ⊥)

pub wayless : (i j : Interlocking) (k : ℕ) → i ≡ j → ((t : TrainNo) × IsTrain i.design.station t × (on i HasWay t → ⊥)) → HasNoneBelow Fewest j.design.station k
wayless i j k same none =
    let there = subst (IsWayless j.design.station) j.table (subst (λ (z : Interlocking). on z IsWayless) same none) in
    none_without_ways j.design.station k there.0 there.1 there.2

-- and of fewer than fewer
pub none_below_less : (w : Wanted) (d : Station) (a b : ℕ) → a ≤ b → HasNoneBelow w d b → HasNoneBelow w d a
none_below_less Fewest d a b short none = λ s less. none s (omega (arith, less))
none_below_less Any d a b short none = tt

-- and of one more where there is none of so many
pub none_below_more : (w : Wanted) (d : Station) (k m : ℕ) → m ≡ k + 1 → HasNoneBelow w d k → IsInfeasible d k → HasNoneBelow w d m
none_below_more Fewest d k m next none here = λ s less. elim (le-split s k (omega (arith, less))) [ inl p ↦ none s p | inr q ↦ subst (IsInfeasible d) (sym q) here ]
none_below_more Any d k m next none here = tt
