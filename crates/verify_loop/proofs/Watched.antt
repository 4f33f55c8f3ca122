-- What the history of a plan that meets the design says of the visits of a within.
use Rattle.std.proofs.Common.{◌≡◌, ℕ, ◌+◌, ◌-◌, ◌<◌, ◌≤◌, Bool, true, List, length, Option, None, Some, is_some, refl, sym, ap, ap₂, subst, ◌∙◌, arith}
use Rattle.clause_spec.proofs.Places.{train_in}
use Rattle.greatest_time.proofs.InTime.{entry_place}
use Rattle.order_bounds.proofs.Paired.{in_at}
use Rattle.rail_base.specs.Admitted.{IsAdmitted}
use Rattle.rail_base.specs.declared.history.TrainHistory.{TrainHistory}
use Rattle.rail_base.specs.declared.history.Verdict.{Verdict}
use Rattle.rail_base.specs.declared.history.Verdict.TheVariants.{Met}
use Rattle.rail_base.specs.declared.plan.Command.{Command}
use Rattle.rail_base.specs.declared.station.Station.{Station}
use Rattle.rail_base.specs.declared.station.TrainNo.{TrainNo}
use Rattle.rail_base.specs.declared.station.Within.{Within}
use Rattle.rail_base.specs.Stations.{HasVisit, horizon, no_within, train_of, within_of}
use Rattle.rail_base.proofs.Lists.{in_count}
use Rattle.rail_base.proofs.Members.{In}
use Rattle.rail_laws.proofs.Deciding.{visit_stays}
use Rattle.rail_laws.proofs.Verdicts.{done_visits, met_exactly, verdict}
use Rattle.rail_require.specs.Ticks as seen
use Rattle.rail_require.proofs.Telling.{visit_told}
use Rattle.rail_spec.specs.Feasible.{IsFeasible}
use Rattle.rail_spec.specs.Histories.{history_at, verdict_of}
use Rattle.rail_spec.specs.Requirements.{cost, is_done, visited_at}
use Rattle.rail_spec.specs.Track.{routes_of}
use Rattle.verify_loop.specs.Tightening.{ticks_from, ticks_taken}
use Rattle.verify_loop.proofs.Timely.{met_shows}

same_history : (one other : List TrainHistory) (k l : ℕ) → Met one k ≡ Met other l → one ≡ other
same_history one other k l e = cc

module _ (d : Station) (good : IsAdmitted d) (n : ℕ) (plan : List (List Command)) (f : IsFeasible d n plan) where
  abbrev last : ℕ
  last = cost d (routes_of d) plan

  abbrev at : ℕ → TrainNo → ℕ → Option ℕ
  at = visited_at d (routes_of d) plan

  done : is_done d (routes_of d) plan last ≡ true
  done = (verdict d (routes_of d) plan good).met ((met_exactly d (routes_of d) plan good).0 f.met)

  -- a visit is made by the last tick
  at_end : (t : TrainNo) (j : ℕ) → HasVisit d t j → at last t j ≡ at (horizon d) t j
  at_end t j v = go (at last t j) refl (done_visits d (routes_of d) plan good last done t (train_in d t v.0.0 v.0.1) j (in_count 1 (length (train_of d t).visits) j (let low = v.1 in omega (arith, low)) (let high = v.2 in omega (arith, high))))
    where
      go : (o : Option ℕ) → at last t j ≡ o → is_some (at last t j) ≡ true → at last t j ≡ at (horizon d) t j
      go None e h = let no = sym (ap is_some e) ∙ h in absurd (cc)
      go (Some a) e h =
          let near = (verdict d (routes_of d) plan good).last in
          let whole : last + (horizon d - last) ≡ horizon d = omega (arith, near) in
          e ∙ sym (subst (λ (k : ℕ). at k t j ≡ Some a) whole (visit_stays d (routes_of d) plan last (horizon d - last) t j a e))

  -- the history of its run has it
  module _ (history : List TrainHistory) (tick : ℕ) (shown : Met history tick ≡ verdict_of d (routes_of d) plan (horizon d)) where
    history_is : history ≡ history_at d (routes_of d) plan last
    history_is = same_history history (history_at d (routes_of d) plan last) tick last (shown ∙ met_shows d (routes_of d) plan good f.met)

    visit_is : (t : TrainNo) (j : ℕ) → HasVisit d t j → seen.visit_tick history t j ≡ at (horizon d) t j
    visit_is t j v = ap (λ h. seen.visit_tick h t j) history_is ∙ (visit_told d (routes_of d) plan last t v.0 j ∙ at_end t j v)

    pub taken_told : (w : ℕ) → 1 ≤ w → w ≤ length d.withins → let own = within_of d w in ticks_from (seen.visit_tick history own.from_train own.from_visit) (seen.visit_tick history own.to_train own.to_visit) ≡ ticks_taken d w plan
    taken_told w first there =
        let own = within_of d w in
        let here : In own d.withins = subst (λ (v : Within). In v d.withins) (sym (entry_place no_within d.withins w first)) (in_at d.withins (w - 1) no_within (omega (arith, first, there))) in
        ap₂ ticks_from (visit_is own.from_train own.from_visit (good.within own here).from) (visit_is own.to_train own.to_visit (good.within own here).to)
