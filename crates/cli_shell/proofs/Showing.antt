-- What a timetable says of the plan.
use Rattle.std.proofs.Common.{◌≡◌, ◌↔◌, ℕ, Bool, true, false, List, [], ◌∷◌, codes, nat_lt, Option, None, Some, if◌then◌else◌, refl, ap, ap₂, sym, ◌∙◌, arith}
use Rattle.std.specs.List.{concat}
use Rattle.std.proofs.lemmas.Bool.{le-ltb}
use Rattle.rail_base.specs.declared.station.Station.{Station}
use Rattle.rail_base.specs.declared.route.Route.{Route}
use Rattle.rail_base.specs.declared.plan.Command.{Command}
use Rattle.rail_base.specs.declared.plan.Violation.{Violation}
use Rattle.rail_base.specs.declared.plan.Violation.TheVariants.{Path, Within, Order, Grant, Visit}
use Rattle.rail_base.specs.declared.history.Verdict.{Verdict}
use Rattle.rail_base.specs.declared.history.Verdict.TheVariants.{Met, Failed, Undecided}
use Rattle.rail_base.specs.Admitted.{IsAdmitted}
use Rattle.rail_base.specs.Stations.{horizon}
use Rattle.rail_spec.specs.Track.{routes_of}
use Rattle.rail_spec.specs.Feasible.{IsRunnable, IsFeasible}
use Rattle.rail_spec.specs.Histories.{decided}
use Rattle.rail_spec.specs.Requirements.{meets, cost, path_violation, violation_at}
use Rattle.rail_spec.specs.Verdict.{failure, or_else}
use Rattle.rail_laws.proofs.KeptFree.{stay_free}
use Rattle.rail_laws.proofs.Admits.{never_clash}
use Rattle.rail_laws.proofs.Keeping.{keeps_authority, keeps_all_limits}
use Rattle.rail_laws.proofs.Lively.{no_deadlock}
use Rattle.rail_laws.proofs.Verdicts.{met_exactly, verdict}
use Rattle.timetable.specs.Lines.{met_line}
use Rattle.timetable.specs.Timetable.{timetable_of, timetable_text}
use Rattle.cli_shell.specs.declared.status.Status.{Status}
use Rattle.cli_shell.specs.declared.status.Status.TheVariants as statuses
use Rattle.cli_shell.specs.Statuses.{is_answered, is_refusal, is_verdict}
use Rattle.cli_shell.specs.Answers.{verdict_status, verdict_reply}
use Rattle.cli_shell.specs.Shows.{verdict_at_horizon}
use Rattle.cli_shell.specs.Simulations.{RunsSafely, BeginsWith}

-- ---- the status of a verdict

pub verdict_is_verdict : (v : Verdict) → is_verdict (verdict_status v) ≡ true
verdict_is_verdict (Met h k) = refl
verdict_is_verdict (Failed h k x) = refl
verdict_is_verdict Undecided = refl

pub verdict_is_answered : (v : Verdict) → is_answered (verdict_status v) ≡ true
verdict_is_answered (Met h k) = refl
verdict_is_answered (Failed h k x) = refl
verdict_is_answered Undecided = refl

pub verdict_refuses_nothing : (v : Verdict) → is_refusal (verdict_status v) ≡ true → ⊥
verdict_refuses_nothing (Met h k) e = cc
verdict_refuses_nothing (Failed h k x) e = cc
verdict_refuses_nothing Undecided e = cc

-- it is 0 or else 1
pub no_unless_done : (v : Verdict) → (verdict_status v ≡ statuses.Done → ⊥) → verdict_status v ≡ statuses.No
no_unless_done (Met h k) not = absurd (not refl)
no_unless_done (Failed h k x) not = refl
no_unless_done Undecided not = refl

-- ---- 0 exactly where the plan meets the design

done_told : (d : Station) (routes : List Route) (plan : List (List Command)) (path run : Option Violation) → (verdict_status (decided d routes plan path run) ≡ statuses.Done) ↔ (or_else path run ≡ None)
done_told d routes plan (Some v) run = ((λ e. absurd (cc)), (λ e. absurd (cc)))
done_told d routes plan None (Some v) = ((λ e. absurd (cc)), (λ e. absurd (cc)))
done_told d routes plan None None = ((λ e. refl), (λ e. refl))

-- by the horizon all is decided
told_by_horizon : (d : Station) (plan : List (List Command)) → IsAdmitted d → verdict_at_horizon d plan ≡ decided d (routes_of d) plan (path_violation d (routes_of d) plan) (violation_at d (routes_of d) plan (cost d (routes_of d) plan))
told_by_horizon d plan admitted = rw (le-ltb (horizon d) (cost d (routes_of d) plan) (verdict d (routes_of d) plan admitted).last) refl

pub done_exactly : (d : Station) (n : ℕ) (plan : List (List Command)) → IsAdmitted d → IsRunnable d (routes_of d) n plan → (verdict_status (verdict_at_horizon d plan) ≡ statuses.Done) ↔ IsFeasible d n plan
done_exactly d n plan admitted runnable =
    let exact : (meets d (routes_of d) plan ≡ true) ↔ (failure d (routes_of d) plan ≡ None) = met_exactly d (routes_of d) plan admitted in
    let reply_for = done_told d (routes_of d) plan (path_violation d (routes_of d) plan) (violation_at d (routes_of d) plan (cost d (routes_of d) plan)) in
    let same = ap verdict_status (told_by_horizon d plan admitted) in
    ((λ e. record { runnable = runnable; met = exact.1 (reply_for.0 (sym same ∙ e)) }), (λ f. same ∙ reply_for.1 (exact.0 f.met)))

-- ---- its run

pub runs_safely : (d : Station) (n : ℕ) (plan : List (List Command)) → IsAdmitted d → IsRunnable d (routes_of d) n plan → RunsSafely d plan
runs_safely d n plan good able =
    let formed = able.well_formed.formed in
    record {
      apart = never_clash d good n plan formed able.executable;
      free = stay_free d good n plan formed;
      keeps = record { in_authority = keeps_authority d good n plan formed; in_limits = keeps_all_limits d good n plan formed };
      granted = no_deadlock d good n plan able;
    }

-- ---- its first line

first_line : (d : Station) (routes : List Route) (plan : List (List Command)) (late : Bool) (path run : Option Violation) → verdict_status (if late then Undecided else decided d routes plan path run) ≡ statuses.Done
    → (more : List (List ℕ)) × (timetable_of d (if late then Undecided else decided d routes plan path run) ≡ met_line (cost d routes plan) ∷ more)
first_line d routes plan true path run e = absurd (cc)
first_line d routes plan false (Some v) run e = absurd (cc)
first_line d routes plan false None (Some v) e = absurd (cc)
first_line d routes plan false None None e = (_, refl)

pub met_first : (d : Station) (plan : List (List Command)) → verdict_status (verdict_at_horizon d plan) ≡ statuses.Done → (more : List (List ℕ)) × (timetable_of d (verdict_at_horizon d plan) ≡ met_line (cost d (routes_of d) plan) ∷ more)
met_first d plan e = first_line d (routes_of d) plan (nat_lt (horizon d) (cost d (routes_of d) plan)) (path_violation d (routes_of d) plan) (violation_at d (routes_of d) plan (cost d (routes_of d) plan)) e

-- ---- the prefix of its text

abbrev first : List ℕ → ℕ
first [] = 0
first (x ∷ xs) = x

pub done_begins : (d : Station) (v : Verdict) → verdict_status v ≡ statuses.Done → BeginsWith (codes "met tick") (timetable_text d v)
done_begins d (Met h k) e = (_, refl)
done_begins d (Failed h k x) e = absurd (cc)
done_begins d Undecided e = absurd (cc)

-- no other text begins with an `m`
apart : (n : ℕ) → n ≡ 102 → n ≡ 109 → ⊥
apart n one other = omega arith

nothing : (n : ℕ) → n ≡ 0 → n ≡ 109 → ⊥
nothing n one other = omega arith

begins_done : (d : Station) (v : Verdict) → first (timetable_text d v) ≡ 109 → verdict_status v ≡ statuses.Done
begins_done d (Met h k) e = refl
begins_done d (Failed h k (Path t j)) e = absurd (apart (first (timetable_text d (Failed h k (Path t j)))) refl e)
begins_done d (Failed h k (Within w)) e = absurd (apart (first (timetable_text d (Failed h k (Within w)))) refl e)
begins_done d (Failed h k (Order o)) e = absurd (apart (first (timetable_text d (Failed h k (Order o)))) refl e)
begins_done d (Failed h k (Grant t j)) e = absurd (apart (first (timetable_text d (Failed h k (Grant t j)))) refl e)
begins_done d (Failed h k (Visit t j)) e = absurd (apart (first (timetable_text d (Failed h k (Visit t j)))) refl e)
begins_done d Undecided e = absurd (nothing (first (timetable_text d Undecided)) refl e)

pub met_done : (d : Station) (v : Verdict) → BeginsWith (codes "met tick") (timetable_text d v) → verdict_status v ≡ statuses.Done
met_done d v h = begins_done d v (ap first h.1)

pub first_done : (d : Station) (v : Verdict) (k : ℕ) (more : List (List ℕ)) → timetable_of d v ≡ met_line k ∷ more → verdict_status v ≡ statuses.Done
first_done d v k more e = begins_done d v (ap (λ (lines : List (List ℕ)). first (concat lines)) e)

-- ---- the reply

pub shown_so : (d : Station) (s : Status) (lines : List (List ℕ)) (v w : Verdict) → s ≡ verdict_status v → lines ≡ timetable_of d v → v ≡ w → record { status = s; lines = lines } ≡ verdict_reply d w
shown_so d s lines v w e f same = ap₂ (λ (a : Status) (b : List (List ℕ)). record { status = a; lines = b }) e f ∙ ap (verdict_reply d) same
