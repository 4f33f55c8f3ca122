-- Attempts at less and less time, one after the other.
use Rattle.std.proofs.Common.{◌≡◌, ℕ, ◌+◌, ◌-◌, ◌≤◌, List, [], ◌∷◌, ◌++◌, map, flat_map, sum_by, refl, sym, ap, subst, ◌∙◌, arith, append_assoc, append-nil}
use Rattle.std.proofs.lemmas.List.Concat.{flat_map-append}
use Rattle.std.proofs.lemmas.List.Sums.{sum_by-append}
use Rattle.bound_spec.specs.declared.Evidence.{Evidence}
use Rattle.clause_spec.specs.declared.question.BaseKind.{BaseKind}
use Rattle.rail_base.specs.declared.plan.Command.{Command}
use Rattle.rail_base.specs.declared.station.Station.{Station}
use Rattle.rail_base.specs.Stations.{horizon}
use Rattle.rail_spec.specs.Feasible.{IsFeasible}
use Rattle.verify_loop.specs.declared.outcome.Tried.{Tried}
use Rattle.verify_loop.specs.Outcomes.{AreRefuted, IsFound, Refutal, cost_of, evidence_in, plans_of}
use Rattle.verify_loop.specs.Tightening.{AreAttempts, Attempt, IsAttempt, IsPast, as_tried, asked_for, known_by, known_first, plans_in, spent_by, ticks_taken, tried_by, within_ticks}

module _ (base : BaseKind) (d : Station) (w n : ℕ) where
  abbrev found_in : Attempt → List Evidence
  found_in a = evidence_in a.failed

  -- one more, which asks for as many ticks as the others leave
  push : (known : List Evidence) (first : ℕ) (attempts : List Attempt) (next : ℕ) (a : Attempt) → AreAttempts base d w n known first attempts next → a.ticks ≡ next → IsAttempt base d w n (known ++ flat_map found_in attempts) a
      → AreAttempts base d w n known first (attempts ++ a ∷ []) (ticks_taken d w a.met - 1)
  push known first [] next a lead same is = (same ∙ sym lead, subst (λ k. IsAttempt base d w n k a) (append-nil known) is, refl)
  push known first (x ∷ xs) next a lead same is = (
    lead.0,
    lead.1,
    push (known ++ found_in x) (ticks_taken d w x.met - 1) xs next a lead.2 same (subst (λ k. IsAttempt base d w n k a) (sym (append_assoc known (found_in x) (flat_map found_in xs))) is),
  )

  -- after the last a tick less is asked for than its plan takes, which is feasible
  pub last_of : (known : List Evidence) (first : ℕ) (before : List Attempt) (last : Attempt) (next : ℕ) → AreAttempts base d w n known first (before ++ last ∷ []) next
      → (next ≡ ticks_taken d w last.met - 1) × ((k : List Evidence) × IsAttempt base d w n k last)
  last_of known first [] last next lead = (sym lead.2, (known, lead.1))
  last_of known first (x ∷ xs) last next lead = last_of (known ++ found_in x) (ticks_taken d w x.met - 1) xs last next lead.2

  -- ---- one attempt more in the past

  module _ (tried later : List Tried) (ticks : ℕ) (known : List Evidence) (spent : ℕ) (p : IsPast base d w n tried ticks known spent) (rs : List Refutal) (met : List (List Command)) where
    abbrev pub attempt : Attempt
    attempt = record { ticks = ticks; failed = rs; met = met }

    pub past_push : AreRefuted base (within_ticks base d w n ticks) n known rs → IsFound base (within_ticks base d w n ticks) n (known ++ evidence_in rs) met → IsFeasible (within_ticks base d w n ticks) n met → 1 ≤ ticks_taken d w met
        → as_tried later ≡ as_tried tried ++ asked_for ticks (plans_of rs ++ met ∷ [])
        → IsPast base d w n later (ticks_taken d w met - 1) (known ++ evidence_in rs) (spent + cost_of (within_ticks base d w n ticks) n (plans_of rs ++ met ∷ []))
    past_push failed found feasible some same = record {
      attempts = p.attempts ++ attempt ∷ [];
      lead = push (known_first base d w n) (horizon d) p.attempts ticks attempt p.lead refl
          (subst (λ k. IsAttempt base d w n k attempt) p.known_is (record { failed = failed; found = found; feasible = feasible; takes_some = some }));
      all = same ∙ (ap (λ z. z ++ asked_for ticks (plans_of rs ++ met ∷ [])) p.all
          ∙ (ap (λ z. tried_by base d w n p.attempts ++ z) (sym (append-nil (asked_for ticks (plans_of rs ++ met ∷ []))))
          ∙ sym (flat_map-append (λ (a : Attempt). asked_for a.ticks (plans_in a)) p.attempts (attempt ∷ []))));
      known_is = ap (λ z. z ++ evidence_in rs) p.known_is
          ∙ (append_assoc (known_first base d w n) (flat_map found_in p.attempts) (evidence_in rs)
          ∙ (ap (λ z. known_first base d w n ++ (flat_map found_in p.attempts ++ z)) (sym (append-nil (evidence_in rs)))
          ∙ ap (λ z. known_first base d w n ++ z) (sym (flat_map-append found_in p.attempts (attempt ∷ [])))));
      spent_is = (let old = p.spent_is in let both = sum_by-append (λ (a : Attempt). cost_of (within_ticks base d w n a.ticks) n (plans_in a)) p.attempts (attempt ∷ []) in omega arith);
    }
