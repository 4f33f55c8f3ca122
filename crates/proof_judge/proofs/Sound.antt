-- A file that shows k shows that no plan of k steps is feasible.
use Rattle.std.proofs.Common.{◌≡◌, ◌≤◌, ◌<◌, ℕ, Bool, true, false, not, ◌&&◌, if◌then◌else◌, List, [], ◌∷◌, map, refl, ap, sym, ◌∙◌, arith, le_refl, is_some, Option, Some, None, Ok}
use Rattle.std.specs.List.{list_all}
use Rattle.rail_text.specs.Pieces.{pieces}
use Rattle.base_spec.specs.Bases.{HasModelFor, clauses_of, left_in}
use Rattle.base_spec.specs.Laws.{HasModelBy}
use Rattle.base_spec.proofs.Left.{left_of_plan}
use Rattle.base_spec.proofs.Models.{has_model_by}
use Rattle.bound_clause.proofs.Holding.{bound_holds}
use Rattle.cone_clause.proofs.Agreeing.{holds_of_feasible}
use Rattle.log_checker.specs.declared.check_result.CheckResult.TheVariants.{Yes, No}
use Rattle.log_checker.specs.declared.check_result.Reason.TheVariants.{HeadDiffers, BaseTooLarge}
use Rattle.log_checker.specs.Laws.{Denies}
use Rattle.log_checker.specs.Truth.{clauses_hold}
use Rattle.log_checker.specs.Verdict.{head_in}
use Rattle.log_checker.proofs.ShownSo.{shown-so}
use Rattle.clause_spec.specs.declared.question.BaseKind.{BaseKind}
use Rattle.clause_spec.specs.Clauses.{past_limit}
use Rattle.clause_spec.specs.Models.{model_of}
use Rattle.clause_spec.specs.Variables.{numbered}
use Rattle.proof_log.specs.declared.head.Head.{Head}
use Rattle.proof_log.specs.declared.head.Head.TheVariants.{Unnamed, Of}
use Rattle.proof_log.specs.Heads.{base_of}
use Rattle.rail_base.specs.declared.plan.Command.{Command}
use Rattle.rail_base.specs.declared.station.Station.{Station}
use Rattle.rail_base.specs.Admitted.{IsAdmitted}
use Rattle.bound_spec.specs.declared.Evidence.{Evidence}
use Rattle.bound_spec.specs.declared.Evidence.TheVariants as evidence
use Rattle.bound_spec.specs.declared.EvidenceFault.TheVariants as of
use Rattle.bound_spec.specs.Clauses.{clause_of_bound}
use Rattle.bound_spec.specs.Validity as bound
use Rattle.cone_spec.specs.Clauses.{clause_of_cone}
use Rattle.cone_spec.specs.Validity as cone
use Rattle.cone_spec.proofs.Refusing.{timed_of}
use Rattle.rail_spec.specs.Feasible.{IsFeasible, IsInfeasible}
use Rattle.rail_spec.specs.Track.{routes_of}
use Rattle.sat_clause.specs.Clauses.{clause_holds}
use Rattle.sat_clause.specs.declared.lit.Lit.{Lit}
use Rattle.proof_judge.specs.Judged.{is_asked_of, all_live, clause_said, clauses_under, fault_of, not_in_design, variables_under, judged_by, judged_under, refuted, YesIsInfeasible}
use Rattle.proof_judge.proofs.Below.{clause_known, numbers_said}
use Rattle.proof_judge.proofs.Showing.{none_of, shown_valid}

live_hold : (values : ℕ → Bool) (cs : List (List Lit)) → list_all (clause_holds values) cs ≡ clauses_hold values (all_live cs)
live_hold values [] = refl
live_hold values (c ∷ cs) = ap (λ b. clause_holds values c && b) (live_hold values cs)

-- what valid evidence says is true in the model of each feasible plan
pub evidence_holds : (d : Station) → IsAdmitted d → (n : ℕ) → 1 ≤ n → (plan : List (List Command)) → IsFeasible d n plan → (e : Evidence) → fault_of d e ≡ None
    → clause_holds (model_of d (routes_of d) n plan) (map (numbered d (routes_of d) n) (clause_said d n e)) ≡ true
evidence_holds d admitted n some plan feasible (evidence.Cone k) valid =
    ap (clause_holds (model_of d (routes_of d) n plan)) (numbers_said d (routes_of d) n (clause_of_cone d (routes_of d) k))
    ∙ holds_of_feasible d n n k plan some (le_refl n) (timed_of d admitted) feasible (none_of of.Cone (cone.fault_of d (routes_of d) k) valid)
evidence_holds d admitted n some plan feasible (evidence.Bound b) valid =
    ap (clause_holds (model_of d (routes_of d) n plan)) (numbers_said d (routes_of d) n (clause_of_bound d (routes_of d) b))
    ∙ bound_holds d admitted n b plan some (none_of of.Bound (bound.fault_of d (routes_of d) b) valid) feasible

-- so what is shown of it in a base is true by the plan's values there
shown_holds : (kind : BaseKind) (d : Station) → IsAdmitted d → (n : ℕ) → 1 ≤ n → (plan : List (List Command)) → IsFeasible d n plan
    → (m : HasModelFor kind d (routes_of d) n plan (clauses_of kind d (routes_of d) n)) → (e : Evidence) (clause : List Lit) → refuted kind d n e ≡ Ok clause → clause_holds m.values clause ≡ true
shown_holds kind d admitted n some plan feasible m e clause shows =
    let s = shown_valid (fault_of d e) (not_in_design e) (left_in kind d (routes_of d) n (clause_said d n e)) clause shows in
    left_of_plan d (routes_of d) n (clause_said d n e) clause (clause_known d n some e s.0) kind s.1 plan (clauses_of kind d (routes_of d) n) m
    ∙ evidence_holds d admitted n some plan feasible e s.0

pub denied_infeasible : (d : Station) → IsAdmitted d → (head : Head) (n k : ℕ) → 1 ≤ n → Denies (refuted (base_of head) d n) (variables_under head d n) (all_live (clauses_under head d n)) k → IsInfeasible d k
denied_infeasible d admitted head n k some denies plan feasible =
    let first : 0 < k = denies.least (omega arith) in
    let m : HasModelBy (base_of head) d n k = has_model_by d n k (omega arith) denies.at_most_steps (base_of head) admitted plan feasible in
    denies.never m.model.values (record {
      clauses = sym (live_hold m.model.values (clauses_under head d n)) ∙ m.model.holds;
      holds_of_evidence = shown_holds (base_of head) d admitted n some m.plan m.feasible m.model;
    }) m.by

under_so : (d : Station) → IsAdmitted d → (head : Head) (n k : ℕ) (bytes : List ℕ) → 1 ≤ n → judged_under head d n bytes ≡ Yes k → (1 ≤ k) × ((k ≤ n) × IsInfeasible d k)
under_so d admitted head n k bytes some e =
    let denies = shown-so head (refuted (base_of head) d n) (variables_under head d n) (all_live (clauses_under head d n)) k bytes e in
    let first : 0 < k = denies.least (omega arith) in
    (omega arith, (denies.at_most_steps, denied_infeasible d admitted head n k some denies))

by_so : (d : Station) → IsAdmitted d → (n k : ℕ) (bytes : List ℕ) → 1 ≤ n → (head : Option Head) → judged_by d n bytes head ≡ Yes k → (1 ≤ k) × ((k ≤ n) × IsInfeasible d k)
by_so d admitted n k bytes some None e = under_so d admitted Unnamed n k bytes some e
by_so d admitted n k bytes some (Some Unnamed) e = under_so d admitted Unnamed n k bytes some e
by_so d admitted n k bytes some (Some (Of q)) e = go (not (is_asked_of q d n)) (is_some (past_limit 16000000 0 (clauses_under (Of q) d n))) e
  where
    go : (differs large : Bool) → (if differs then No 1 HeadDiffers else if large then No 1 BaseTooLarge else judged_under (Of q) d n bytes) ≡ Yes k → (1 ≤ k) × ((k ≤ n) × IsInfeasible d k)
    go true large e = absurd (cc)
    go false true e = absurd (cc)
    go false false e = under_so d admitted (Of q) n k bytes some e

pub yes_infeasible : YesIsInfeasible
yes_infeasible d admitted n k bytes some e = by_so d admitted n k bytes some (head_in (pieces bytes)) e
