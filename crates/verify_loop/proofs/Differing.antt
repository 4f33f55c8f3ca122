-- The plans that failed in a search are pairwise different: what is left of the clause of what shows that one fails is false by its values, and true by those of the plans that were found later.
use Rattle.std.proofs.Common.{◌≡◌, ℕ, ◌≤◌, List, [], ◌∷◌, ◌++◌, flat_map, refl, inl, inr, sym, ap, subst, ◌∙◌, true≢false}
use Rattle.clause_spec.specs.declared.question.BaseKind.{BaseKind}
use Rattle.plan_exclusion.specs.Exclusions.{head_for}
use Rattle.proof_judge.specs.Judged.{clauses_under}
use Rattle.plan_exclusion.specs.Failures.{IsRefutedBy, clauses_of_evidence, listed}
use Rattle.plan_exclusion.proofs.Denying.{evidence_denies}
use Rattle.rail_base.specs.declared.plan.Command.{Command}
use Rattle.rail_base.specs.declared.station.Station.{Station}
use Rattle.rail_base.specs.Admitted.{IsAdmitted}
use Rattle.rail_base.specs.Members.{Differ}
use Rattle.rail_base.proofs.Members.{In, list_all_at}
use Rattle.rail_base.proofs.Lists.{in_append_left, in_append_right, in_flat_map}
use Rattle.bound_spec.specs.declared.Evidence.{Evidence}
use Rattle.sat_clause.specs.declared.lit.Lit.{Lit}
use Rattle.sat_clause.specs.Clauses.{clause_holds}
use Rattle.verify_loop.specs.Outcomes.{Refutal, plans_of, clauses_with, IsFound, AreRefuted}
use Rattle.verify_loop.proofs.Each.{each_given}

module _ (base : BaseKind) (d : Station) (good : IsAdmitted d) (n : ℕ) (some : 1 ≤ n) where
  -- what shows that a plan fails was not known where it was found
  not_known : (known : List Evidence) (plan : List (List Command)) (e : Evidence) → IsFound base d n known plan → IsRefutedBy d plan e → In e known → ⊥
  not_known known plan e found shown i =
      let no = evidence_denies base d good n some plan found.runnable (each_given base d n good some known plan found) (clauses_with base d n known) found.model e shown in
      let more = flat_map (clauses_of_evidence base d n) known in
      let own : In no.0 (clauses_of_evidence base d n e) = subst (λ (cs : List (List Lit)). In no.0 cs) (sym (ap listed no.1)) (inl refl) in
      let there : In no.0 (clauses_with base d n known) = in_append_right no.0 (clauses_under (head_for base d n) d n) more (in_flat_map (clauses_of_evidence base d n) known e no.0 i own) in
      true≢false (sym (list_all_at (clause_holds found.model.values) (clauses_with base d n known) no.0 found.model.holds there) ∙ no.2)

  -- a plan whose evidence is known is none of those that were found later
  later_differs : (plan : List (List Command)) (e : Evidence) → IsRefutedBy d plan e → (known : List Evidence) → In e known → (rs : List Refutal) → AreRefuted base d n known rs
      → (later : List (List Command)) → In later (plans_of rs) → plan ≡ later → ⊥
  later_differs plan e shown known i [] a later j same = absurd j
  later_differs plan e shown known i (r ∷ rs) a later (inl is) same = not_known known r.plan e a.0 (subst (λ (p : List (List Command)). IsRefutedBy d p e) (same ∙ sym is) shown) i
  later_differs plan e shown known i (r ∷ rs) a later (inr j) same = later_differs plan e shown (known ++ r.evidence ∷ []) (in_append_left e known (r.evidence ∷ []) i) rs a.2 later j same

  pub plans_differ : (known : List Evidence) (rs : List Refutal) → AreRefuted base d n known rs → Differ (plans_of rs)
  plans_differ known [] a = tt
  plans_differ known (r ∷ rs) a = (
    later_differs r.plan r.evidence a.1 (known ++ r.evidence ∷ []) (in_append_right r.evidence known (r.evidence ∷ []) (inl refl)) rs a.2,
    plans_differ (known ++ r.evidence ∷ []) rs a.2,
  )
