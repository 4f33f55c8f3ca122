-- How a line is added, or left out, and what that says of a search.
use Rattle.std.proofs.Common.{◌≡◌, ℕ, zero, suc, ◌+◌, ◌<◌, Bool, List, [], ◌∷◌, filter, get_or, length, slice_index_or, refl, arith, Option, None, Some, MatchOption, Result, Ok, Err, IfOk, IfErr, Vec, Global, sym, ap, subst, ◌∙◌}
use Rattle.bound_spec.specs.declared.Evidence.{Evidence}
use Rattle.clause_spec.specs.declared.question.BaseKind.{BaseKind}
use Rattle.interlocking.specs.declared.railway.Interlocking.{Interlocking}
use Rattle.order_bounds.specs.Asked.{says_first_of}
use Rattle.live_clause_spec.specs.Live.{is_live}
use Rattle.live_clause_spec.specs.Variables.{live_pairs}
use Rattle.order_bounds.specs.Orders.{makes_both, says_first}
use Rattle.order_bounds.proofs.Saying.{says_first_so}
use Rattle.proof_judge.specs.declared.evidence.ByDesign.{ByDesign}
use Rattle.proof_judge.specs.declared.evidence.EvidenceLine.{EvidenceLine}
use Rattle.proof_judge.specs.Written.{IsEvidenceLine}
use Rattle.rail_base.specs.declared.plan.Command.{Command}
use Rattle.rail_base.specs.declared.route.Route.{Route}
use Rattle.rail_base.specs.declared.station.Station.{Station}
use Rattle.rail_spec.specs.Track.{routes_of}
use Rattle.sat_clause.specs.declared.lit.Lit.{Lit}
use Rattle.verify_loop.specs.Asking.{IsLeftOut}
use Rattle.rail_base.specs.declared.plan.Plan.{Plan}
use Rattle.verify_loop.specs.declared.outcome.Outcome.{Outcome}
use Rattle.verify_loop.specs.declared.outcome.Outcome.TheVariants as outcome
use Rattle.verify_loop.specs.declared.rounds.SearchState.{SearchState}

-- what stands at an index of a list is the same whatever stands for nothing
pub same_at : {X : Type 0} (xs : List X) (k : ℕ) (one other : X) → k < length xs → slice_index_or xs k one ≡ get_or xs k other
same_at [] k one other less = absurd (omega arith)
same_at (x ∷ xs) zero one other less = refl
same_at (x ∷ xs) (suc k) one other less = same_at xs k one other (omega arith)

pub ok_more : {A E : Type 0} (r : Result A E) (P Q : A → Type 0) → ((x : A) → P x → Q x) → IfOk r P → IfOk r Q
ok_more (Ok x) P Q more h = more x h
ok_more (Err e) P Q more h = tt

pub err_more : {A E : Type 0} (r : Result A E) (P Q : E → Type 0) → ((x : E) → P x → Q x) → IfErr r P → IfErr r Q
err_more (Ok x) P Q more h = tt
err_more (Err e) P Q more h = more e h

-- what is known of an option, where it is known which it is
pub some_told : {X : Type 0} (o : Option X) (x : X) (A : Type 0) (P : X → Type 0) → o ≡ Some x → MatchOption o A P → P x
some_told o x A P is h = subst (λ z. MatchOption z A P) is h

pub none_told : {X : Type 0} (o : Option X) (A : Type 0) (P : X → Type 0) → o ≡ None → MatchOption o A P → A
none_told o A P is h = subst (λ z. MatchOption z A P) is h

-- a line is left out where the log is full, or there was no memory
pub left_out_so : (s : SearchState) (l : EvidenceLine) (Ends : Outcome → Type 0) (o : Outcome) → IsLeftOut s l o
    → ((log : Vec ℕ Global) (bytes next : ℕ) (failed : Vec Plan Global) → log.items ≡ s.solver.recorder.bytes.items → bytes ≡ length log.items → next ≡ length l.line.items + 1 → s.solver.recorder.limit < bytes + next → failed.items ≡ s.failed.items → Ends (outcome.LogSpent log bytes next failed))
    → Ends outcome.Memory → Ends o
left_out_so s l Ends (outcome.LogSpent log bytes next failed) h full none = full log bytes next failed h.0 h.1 h.2 h.3 (ap (λ (f : Vec Plan Global). f.items) h.4)
left_out_so s l Ends outcome.Memory h full none = none
left_out_so s l Ends (outcome.Plan plan verdict) h full none = absurd h
left_out_so s l Ends (outcome.Infeasible log) h full none = absurd h
left_out_so s l Ends (outcome.ConflictsSpent log clause hints failed) h full none = absurd h
left_out_so s l Ends (outcome.TicksSpent failed sum at_hand) h full none = absurd h
left_out_so s l Ends (outcome.TooLarge literals) h full none = absurd h

-- what is said of the parts of a search
module _ (b : ByDesign) (kind : BaseKind) (i : Interlocking) (n : ℕ) (same_kind : b.kind ≡ kind) (same : b.contention.interlocking.now ≡ i) (same_steps : b.steps.count ≡ n) where
  pub says_is : (o : ℕ) (p : Command × Command) → says_first_of b o p ≡ says_first kind i.design.station n o p
  says_is o p =
      says_first_so b o p
      ∙ (ap (λ (k : BaseKind). says_first k b.contention.interlocking.now.design.station b.steps.count o p) same_kind
      ∙ (ap (λ (z : Interlocking). says_first kind z.design.station b.steps.count o p) same ∙ ap (λ (k : ℕ). says_first kind i.design.station k o p) same_steps))

  pub line_is : (e : Evidence) (line : List ℕ) (clause : List Lit) → IsEvidenceLine b.kind b.contention.interlocking.now.design.station b.steps.count e line clause → IsEvidenceLine kind i.design.station n e line clause
  line_is e line clause w =
      subst (λ (k : ℕ). IsEvidenceLine kind i.design.station k e line clause) same_steps
      (subst (λ (z : Interlocking). IsEvidenceLine kind z.design.station b.steps.count e line clause) same
      (subst (λ (k : BaseKind). IsEvidenceLine k b.contention.interlocking.now.design.station b.steps.count e line clause) same_kind w))

-- the pairs of which an order may say something, over the design
pub listed_so : (i j : Interlocking) (o : ℕ) (ps own : List (Command × Command)) → i ≡ j → ps ≡ filter (makes_both i.design.station i.routes o) own
    → (let d = j.design.station in own ≡ live_pairs (is_live d (routes_of d)) d (routes_of d)) → let d = j.design.station in ps ≡ filter (makes_both d (routes_of d) o) (live_pairs (is_live d (routes_of d)) d (routes_of d))
listed_so i j o ps own same is live =
    is ∙ (ap (λ (z : Interlocking). filter (makes_both z.design.station z.routes o) own) same
    ∙ (ap (λ (rs : List Route). filter (makes_both j.design.station rs o) own) j.table ∙ ap (filter (makes_both j.design.station (routes_of j.design.station) o)) live))
