-- Least times: what is said of a design without time for a within is said of the design, and there is one least time.
use Rattle.std.proofs.Common.{◌≡◌, ◌⊎◌, ℕ, ◌≤◌, ◌<◌, ◌*◌, ◌-◌, Bool, true, false, List, length, Option, Vec, Global, refl, ap, sym, ◌∙◌, subst, inl, inr, arith, le-leb}
use Rattle.std.proofs.lemmas.Bool.{cases_lt}
use Rattle.std.proofs.lemmas.List.{length-set}
use Rattle.std.proofs.Math.Nat.{mul-le-mul, mul-lt-mul_of_pos_right}
use Rattle.base_spec.proofs.Staying.{clauses_stay}
use Rattle.base_spec.specs.Bases.{clauses_of}
use Rattle.clause_spec.specs.Clauses.{past_limit}
use Rattle.clause_spec.specs.declared.question.BaseKind.{BaseKind}
use Rattle.clause_spec.specs.declared.question.BaseKind.TheVariants.{Live}
use Rattle.clause_spec.specs.declared.question.Turns.TheVariants.{Beside}
use Rattle.greatest_time.specs.Times.{with_max}
use Rattle.greatest_time.proofs.Admitted.{stays_admitted}
use Rattle.greatest_time.proofs.Alike.{routes_alike}
use Rattle.greatest_time.proofs.InTime.{later_time, horizon_decides}
use Rattle.proof_judge.specs.Judged.{names_within}
use Rattle.rail_base.specs.Admitted.{IsAdmitted}
use Rattle.rail_base.specs.Stations.{horizon}
use Rattle.rail_base.specs.declared.history.Verdict.{Verdict}
use Rattle.rail_base.specs.declared.plan.Plan.{Plan}
use Rattle.rail_base.specs.declared.route.Route.{Route}
use Rattle.rail_base.specs.declared.station.Station.{Station}
use Rattle.rail_spec.specs.Feasible.{IsFeasible, IsInfeasible}
use Rattle.rail_spec.specs.Track.{routes_of}
use Rattle.time_evidence.proofs.Bases.{changed_plain}
use Rattle.interlocking.specs.declared.railway.Interlocking.{Interlocking}
use Rattle.rail_base.proofs.Admitting.{admitted}
use Rattle.verify_loop.specs.declared.least_time.Tightest.TheVariants as least_time
use Rattle.verify_loop.specs.declared.outcome.Budgets.{Budgets}
use Rattle.verify_loop.specs.Lessening.{in_ticks, untimed}
use Rattle.verify_loop.specs.Tightening.{IsLeastTime, IsTightest, base_for}
use Rattle.cli_shell.specs.Shows.{verdict_at_horizon}
use Rattle.rail_cli.specs.Times.{AreLeastTicks}

module _ (d : Station) (w : ℕ) (low : 1 ≤ w) (high : w ≤ length d.withins) where
  -- a time that is put in after no time stands
  pub put_later : (ms : ℕ) → with_max (untimed d w) w ms ≡ with_max d w ms
  put_later ms = later_time d w low high 0 ms

  -- the least time of the one design is that of the other
  pub least_so : (base : BaseKind) (n least : ℕ) (plan : Plan) (verdict : Verdict) → IsLeastTime base (untimed d w) w n least plan verdict → AreLeastTicks d w n least
  least_so base n least plan verdict h = record {
    enough = (plan.steps, subst (λ (e : Station). IsFeasible e n plan.steps) (put_later (least * d.tick_ms)) h.feasible);
    none_less = λ ms less. subst (λ (e : Station). IsInfeasible e n) (put_later ms) (h.none_less ms less);
  }

  -- with no time fewer than any time a plan is feasible whatever the time
  pub none_at_all : (n : ℕ) → ((ms : ℕ) → IsInfeasible (with_max (untimed d w) w ms) n) → (ms : ℕ) → IsInfeasible (with_max d w ms) n
  none_at_all n none ms = subst (λ (e : Station). IsInfeasible e n) (put_later ms) (none ms)

  -- it is no more than as many ticks as are run
  pub by_horizon : (n least : ℕ) → 1 ≤ d.tick_ms → AreLeastTicks d w n least → least ≤ horizon d
  by_horizon n least some h = go (cases_lt (horizon d) least)
    where
      go : (horizon d < least) ⊎ (least ≤ horizon d) → least ≤ horizon d
      go (inr le) = le
      go (inl lt) = absurd (horizon_decides d w low high n (h.none_less (horizon d * d.tick_ms) (mul-lt-mul_of_pos_right lt some)) (least * d.tick_ms) h.enough.0 h.enough.1)

  -- so many ticks are no more than a day
  pub in_a_day : IsAdmitted d → (k : ℕ) → k ≤ horizon d → k * d.tick_ms ≤ 86400000
  in_a_day good k le =
      let most : k ≤ 86400 = omega (arith, le, good.ticks.1) in
      let all : k * d.tick_ms ≤ 86400 * 1000 = mul-le-mul most good.tick.1 in
      omega (arith, all)

  pub ticks_admitted : IsAdmitted d → (k : ℕ) → k ≤ horizon d → IsAdmitted (in_ticks d w k)
  ticks_admitted good k le = stays_admitted d w low high (k * d.tick_ms) (in_a_day good k le) good

  -- the base names a within that is there
  pub names_for : (bounds : Bool) (ms : ℕ) → names_within (base_for bounds w) (with_max d w ms) ≡ true
  names_for false ms = refl
  names_for true ms = rw (le-leb 1 w low, le-leb w (length (with_max d w ms).withins) (subst (λ k. w ≤ k) (sym (length-set d.withins (w - 1) _)) high)) refl

  -- the clauses say nothing of the time
  pub same_clauses : (bounds : Bool) (n : ℕ) → clauses_of (base_for bounds w) (untimed d w) (routes_of (untimed d w)) n ≡ clauses_of (base_for bounds w) d (routes_of d) n
  same_clauses false n = (changed_plain d w 0 n).clauses
  same_clauses true n =
      ap (λ (routes : List Route). clauses_of (Live (Beside w)) (untimed d w) routes n) (routes_alike d _)
      ∙ clauses_stay d (routes_of d) n w 0 low high

  pub same_literals : (bounds : Bool) (n : ℕ) → past_limit 16000000 0 (clauses_of (base_for bounds w) (untimed d w) (routes_of (untimed d w)) n) ≡ past_limit 16000000 0 (clauses_of (base_for bounds w) d (routes_of d) n)
  same_literals bounds n = ap (past_limit 16000000 0) (same_clauses bounds n)

-- there is one least time
no_less : (d : Station) (w n a b : ℕ) → 1 ≤ d.tick_ms → AreLeastTicks d w n a → AreLeastTicks d w n b → a < b → ⊥
no_less d w n a b some one two lt = two.none_less (a * d.tick_ms) (mul-lt-mul_of_pos_right lt some) one.enough.0 one.enough.1

pub one_least : (d : Station) (w n a b : ℕ) → 1 ≤ d.tick_ms → AreLeastTicks d w n a → AreLeastTicks d w n b → a ≡ b
one_least d w n a b some one two = go (cases_lt a b) (cases_lt b a)
  where
    go : (a < b) ⊎ (b ≤ a) → (b < a) ⊎ (a ≤ b) → a ≡ b
    go (inl lt) other = absurd (no_less d w n a b some one two lt)
    go (inr le) (inl lt) = absurd (no_less d w n b a some two one lt)
    go (inr le) (inr other) = omega (arith, le, other)

-- ---- what the end of a search says of the design with the least time

module _ (base : BaseKind) (d : Station) (w : ℕ) (low : 1 ≤ w) (high : w ≤ length d.withins) (n : ℕ) (b : Budgets) (i : Interlocking) (least : ℕ) (plan : Plan) (verdict : Verdict) (log : Option (Vec ℕ Global))
    (says : IsTightest base (untimed d w) w n b (least_time.Least i least plan verdict log)) where
  -- the time is no more than as many ticks as are run
  pub least_by_horizon : least ≤ horizon i.design.station
  least_by_horizon =
      let tick = (admitted i.design.station i.design.admitted).tick.0 in
      let same : i.design.station.tick_ms ≡ d.tick_ms = ap (λ (e : Station). e.tick_ms) says.0 in
      let ticks : horizon i.design.station ≡ horizon d = ap horizon says.0 in
      subst (λ k. least ≤ k) (sym ticks) (by_horizon d w low high n least (omega (arith, tick, same)) (least_so d w low high base n least plan verdict says.1))

  -- and the plan's run shows the verdict
  pub least_shown : verdict ≡ verdict_at_horizon i.design.station plan.steps
  least_shown = says.1.shown ∙ ap (λ (e : Station). verdict_at_horizon e plan.steps) (sym says.0)
