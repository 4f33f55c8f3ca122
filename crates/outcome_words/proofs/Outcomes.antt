-- What the lines say of visits, stands, orders and withins is so.
use Rattle.std.proofs.Common.{◌≡◌, ◌⊎◌, inl, inr, ℕ, zero, suc, ◌+◌, ◌-◌, ◌<◌, ◌≤◌, ◌==◌, true, false, if◌then◌else◌, List, [], ◌∷◌, length, map, Option, None, Some, refl, sym, ap, ap₂, subst, ◌∙◌, arith}
use Rattle.rail_base.specs.declared.station.Station.{Station}
use Rattle.rail_base.specs.declared.route.Route.{Route}
use Rattle.rail_base.specs.declared.plan.Command.{Command}
use Rattle.rail_base.specs.declared.plan.Violation.{Violation}
use Rattle.rail_base.specs.declared.plan.Violation.TheVariants as violation
use Rattle.rail_base.specs.declared.history.TrainHistory.{TrainHistory}
use Rattle.rail_base.specs.declared.history.Verdict.{Verdict}
use Rattle.rail_base.specs.declared.history.Verdict.TheVariants.{Met, Failed, Undecided}
use Rattle.rail_base.specs.declared.station.TrainNo.{TrainNo}
use Rattle.rail_base.specs.Admitted.{IsAdmitted}
use Rattle.rail_base.specs.Numbering.{entry, least, one_to}
use Rattle.rail_base.specs.Stations.{IsTrain, dwell_ticks, horizon, train_of, whole_ticks}
use Rattle.rail_base.proofs.Lists.{length-map}
use Rattle.rail_base.proofs.Members.{below_or_not, get_or-counted, get_or-counted_past}
use Rattle.rail_spec.specs.Histories.{dwell_tick, has_stood, history_at, verdict_of}
use Rattle.rail_spec.specs.Requirements.{keeps_order, keeps_within}
use Rattle.rail_require.specs.Ticks.{history_of, visit_tick}
use Rattle.rail_require.proofs.Telling.{train_told, visit_told}
use Rattle.run_drawing.specs.Laws.{EndingsAreSo}
use Rattle.run_drawing.specs.Requirements.{ending_of_order, ending_of_within}
use Rattle.outcome_words.specs.Laws.{OutcomesAreSo, shown_by}
use Rattle.outcome_words.specs.Outcome.{outcome_lines, run_lines}
use Rattle.outcome_words.proofs.Shown.{failed_shows, known, met_shows}

-- where a run shows something its lines are told
lines_told : (d : Station) (routes : List Route) (plan : List (List Command)) (v : Verdict) (history : List TrainHistory) (last : ℕ) → shown_by v ≡ Some (history, last) → outcome_lines d routes plan v ≡ run_lines d routes plan history last
lines_told d routes plan Undecided history last e = absurd (cc)
lines_told d routes plan (Met h k) history last e = let p = met_shows k h history last e in ap₂ (run_lines d routes plan) p.0 p.1
lines_told d routes plan (Failed h k v) history last e = go v e
  where
    go : (v : Violation) → shown_by (Failed h k v) ≡ Some (history, last) → outcome_lines d routes plan (Failed h k v) ≡ run_lines d routes plan history last
    go (violation.Path t j) e = absurd (cc)
    go (violation.Within w) e = let p = failed_shows k h (violation.Within w) history last e in ap₂ (run_lines d routes plan) p.0 p.1
    go (violation.Order o) e = let p = failed_shows k h (violation.Order o) history last e in ap₂ (run_lines d routes plan) p.0 p.1
    go (violation.Grant t j) e = let p = failed_shows k h (violation.Grant t j) history last e in ap₂ (run_lines d routes plan) p.0 p.1
    go (violation.Visit t j) e = let p = failed_shows k h (violation.Visit t j) history last e in ap₂ (run_lines d routes plan) p.0 p.1

-- ---- ends of stands

-- what is said of the numbers from 1 to n, where it is none for others
entry_told : {Y : Type 0} (f : ℕ → Option Y) (n j : ℕ) → f 0 ≡ None → ((i : ℕ) → n < i → f i ≡ None) → entry None (map f (one_to n)) j ≡ f j
entry_told f n zero first past = sym first
entry_told f n (suc j) first past = go (below_or_not j n)
  where
    one : 1 + j ≡ suc j
    one = omega arith

    go : (j < n) ⊎ (n ≤ j) → entry None (map f (one_to n)) (suc j) ≡ f (suc j)
    go (inl h) = get_or-counted f 1 n j None h ∙ ap f one
    go (inr h) = get_or-counted_past f 1 n j None h ∙ sym (past (suc j) (omega arith))

none_past : (ws : List ℕ) (i : ℕ) → length ws < i → entry 0 ws i ≡ 0
none_past ws zero h = absurd (omega arith)
none_past [] (suc i) h = refl
none_past (w ∷ ws) (suc zero) h = absurd (omega arith)
none_past (w ∷ ws) (suc (suc i)) h = none_past ws (suc i) (omega arith)

dwell_told : (d : Station) (routes : List Route) (plan : List (List Command)) → IsAdmitted d → (last : ℕ) (t : TrainNo) → IsTrain d t → (j : ℕ)
    → entry None (history_of (history_at d routes plan last) t).dwells j ≡ dwell_tick d routes plan last t j
dwell_told d routes plan good last t is j =
    let many = length-map (whole_ticks d) (train_of d t).dwell_ms ∙ (good.train t is).dwells in
    ap (λ (h : TrainHistory). entry None h.dwells j) (train_told d routes plan last t is)
    ∙ entry_told (dwell_tick d routes plan last t) (length (train_of d t).visits) j refl
    (λ i h. ap (λ w. if w == 0 then None else least (has_stood d routes plan t i) last) (none_past (dwell_ticks d t) i (omega (arith, many, h))))

pub outcomes_so : EndingsAreSo → OutcomesAreSo
outcomes_so endings d routes plan good n history last s =
    let k = known d routes plan good n history last s in
    let to_end : last + (horizon d - last) ≡ horizon d = let h = k.in_time in omega arith in
    record {
      lines = lines_told d routes plan (verdict_of d routes plan n) history last s;
      dwell = λ t is j. ap (λ h. entry None (history_of h t).dwells j) k.happened ∙ dwell_told d routes plan good last t is j;
      visit = λ t is j. ap (λ h. visit_tick h t j) k.happened ∙ visit_told d routes plan last t is j;
      order_met = λ o is h. subst (λ m. keeps_order d routes plan m o ≡ true) to_end ((endings.order d routes plan last good o is).met (ap (λ h. ending_of_order h o) (sym k.happened) ∙ h) (horizon d - last));
      order_broken = λ o is h. subst (λ m. keeps_order d routes plan m o ≡ false) to_end ((endings.order d routes plan last good o is).broken (ap (λ h. ending_of_order h o) (sym k.happened) ∙ h) (horizon d - last));
      within_met = λ w is h. subst (λ m. keeps_within d routes plan m w ≡ true) to_end ((endings.within d routes plan last good w is).met (ap (λ h. ending_of_within d h last w) (sym k.happened) ∙ h) (horizon d - last));
      within_broken = λ w is h. subst (λ m. keeps_within d routes plan m w ≡ false) to_end ((endings.within d routes plan last good w is).broken (ap (λ h. ending_of_within d h last w) (sym k.happened) ∙ h) (horizon d - last));
    }
