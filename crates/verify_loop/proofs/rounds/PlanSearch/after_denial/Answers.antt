use Rattle.std.proofs.Common.{◌≡◌, ℕ, ◌≤◌, ◌<◌, List, [], length, inl, inr, ◌⊎◌, ap, subst, sym, ◌∙◌}
use Rattle.rail_spec.specs.Feasible.{IsInfeasible}
use Rattle.log_recorder.proofs.Searched.{le-split}
use Rattle.verify_loop.specs.Asking.{quest}
use Rattle.verify_loop.specs.Outcomes.{IsProof}
use Rattle.verify_loop.proofs.Held.{empty-so, some-so}
use Rattle.verify_loop.proofs.rounds.PlanSearch.after_denial.Goals as goal
use Rattle.verify_loop.proofs.rounds.PlanSearch.after_denial.Goals.{then-is_empty-via-then-is_empty, then-is_empty-via-else-is_empty+then-search-steps}

pub returns-then-is_empty-clause-ends : goal.returns-then-is_empty-clause-ends
returns-then-is_empty-clause-ends g c =
    let q = c.args.self.now in
    let r = c.requires in
    let m = quest q r.0 r.1 in
    let d = q.interlocking.now.design.station in
    let n = q.numbering.now.steps in
    let b = q.budgets in
    let which : (c.args.core.now ≡ []) ⊎ (c.args.search.steps ≡ n) = elim c.then-is_empty.branch [
      | then-is_empty-via-then-is_empty w ↦ inl (empty-so c.args.core.now c.is_empty.result c.is_empty.ensures w.if-is_empty.true)
      | then-is_empty-via-else-is_empty+then-search-steps w ↦ inr (w.if-search-steps.true ∙ w.steps.ensures)
    ] in
    (tt, (r.0, r.1, r.2, subst (λ (log : List ℕ). IsInfeasible d n × IsProof m d n b log × (length log ≤ b.log_bytes)) (sym (ap (λ v. v.items) c.log_of.ensures)) (r.3.of_all which)))

pub longer-search-requires-clause-known : goal.longer-search-requires-clause-known
longer-search-requires-clause-known g c =
    let n = c.args.self.now.numbering.now.steps in
    let less : c.args.search.steps < n = elim (le-split c.args.search.steps n c.requires.3.at_most_n) [ inl p ↦ p | inr q ↦ absurd (c.if-search-steps.false (q ∙ sym c.steps.ensures)) ] in
    (c.requires.3.of_these (some-so c.args.core.now c.is_empty.result c.is_empty.ensures c.if-is_empty.false) less).0

pub longer-search-requires-clause-state : goal.longer-search-requires-clause-state
longer-search-requires-clause-state g c =
    let n = c.args.self.now.numbering.now.steps in
    let r = c.requires in
    let less : c.args.search.steps < n = elim (le-split c.args.search.steps n r.3.at_most_n) [ inl p ↦ p | inr q ↦ absurd (c.if-search-steps.false (q ∙ sym c.steps.ensures)) ] in
    (r.0, r.1, r.2, (r.3.of_these (some-so c.args.core.now c.is_empty.result c.is_empty.ensures c.if-is_empty.false) less).1)
