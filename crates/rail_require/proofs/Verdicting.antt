-- What the ticks of a run show of a plan.
use Rattle.std.proofs.Common.{◌≡◌, ℕ, zero, suc, ◌+◌, ◌-◌, ◌≤◌, ◌<◌, ◌⊎◌, inl, inr, Bool, true, false, if◌then◌else◌, min, List, [], ◌∷◌, map, flat_map, length, Option, None, Some, option_map, is_none, find, refl, sym, ap, ap₂, subst, ◌∙◌, arith, le-leb, true≢false}
use Rattle.std.specs.List.{position_from}
use Rattle.rail_base.specs.declared.station.Station.{Station}
use Rattle.rail_base.specs.declared.station.NodeNo.{NodeNo}
use Rattle.rail_base.specs.declared.station.TrainNo.{TrainNo}
use Rattle.rail_base.specs.declared.route.Route.{Route}
use Rattle.rail_base.specs.declared.plan.Command.{Command}
use Rattle.rail_base.specs.declared.plan.Violation.{Violation}
use Rattle.rail_base.specs.declared.plan.Violation.TheVariants as violation
use Rattle.rail_base.specs.declared.state.PathNode.{PathNode}
use Rattle.rail_base.specs.declared.history.Verdict.TheVariants.{Met, Failed, Undecided}
use Rattle.rail_base.specs.Admitted.{IsAdmitted}
use Rattle.rail_base.specs.Numbering.{least, one_to, after_first, from_first}
use Rattle.rail_base.specs.Stations.{train_of, horizon}
use Rattle.rail_base.proofs.Members.{below_or_not, not_less}
use Rattle.rail_spec.specs.Visits.{path_nodes_of_train, visits_of_train}
use Rattle.rail_spec.specs.Plans.{has_node}
use Rattle.rail_spec.specs.Dispatches.{of_plan, tick, pasts_at}
use Rattle.rail_spec.specs.Requirements.{is_certain, is_decided, violation_at, path_violation, visit_numbers, cost}
use Rattle.rail_spec.specs.Histories.{history_at, decided, verdict_of}
use Rattle.rail_spec.specs.Places.{visits_at, visits_on}
use Rattle.rail_laws.proofs.Deciding.{least_gives}
use Rattle.rail_laws.proofs.Verdicts as verdicts
use Rattle.rail_require.proofs.Finding.{find-numbered, entry-get, find-append_none, find-append_some}

-- ---- the least number that passes a test

least_nothing : (test : ℕ → Bool) (n : ℕ) → ((i : ℕ) → 1 ≤ i → i ≤ n → test i ≡ false) → least test n ≡ None
least_nothing test zero h = refl
least_nothing test (suc n) h = rw (least_nothing test n (λ i l m. h i l (omega arith)), h (suc n) (omega arith) (omega arith)) refl

pub least_is : (test : ℕ → Bool) (n k : ℕ) → 1 ≤ k → k ≤ n → test k ≡ true → ((i : ℕ) → 1 ≤ i → i < k → test i ≡ false) → least test n ≡ Some k
least_is test zero k low high passes before = absurd (omega arith)
least_is test (suc n) k low high passes before = go (below_or_not n k) (least_is test n k low)
  where
    go : (n < k) ⊎ (k ≤ n) → (k ≤ n → test k ≡ true → ((i : ℕ) → 1 ≤ i → i < k → test i ≡ false) → least test n ≡ Some k) → least test (suc n) ≡ Some k
    go (inl more) later =
        let same : k ≡ suc n = omega arith in
        let here : test (suc n) ≡ true = subst (λ m. test m ≡ true) same passes in
        rw (least_nothing test n (λ i l m. before i l (omega arith)), here) (ap (λ m. Some m) (sym same))
    go (inr less) later = rw (later less passes before) refl

-- ---- verdicts

module _ (d : Station) (routes : List Route) (plan : List (List Command)) where
  pub cost_is : (k : ℕ) → path_violation d routes plan ≡ None → 1 ≤ k → k ≤ horizon d → is_decided d routes plan k ≡ true → ((i : ℕ) → 1 ≤ i → i < k → is_decided d routes plan i ≡ false) → cost d routes plan ≡ k
  cost_is k none low high passes before = rw (none, least_is (is_decided d routes plan) (horizon d) k low high passes before) refl

  told : (ticks k : ℕ) → cost d routes plan ≡ k → k ≤ ticks → verdict_of d routes plan ticks ≡ decided d routes plan (path_violation d routes plan) (violation_at d routes plan (cost d routes plan))
  told ticks k same within = ap (λ b. if b then Undecided else decided d routes plan (path_violation d routes plan) (violation_at d routes plan (cost d routes plan))) (not_less ticks (cost d routes plan) (omega arith))

  pub failed_is : (ticks k : ℕ) (v : Violation) → path_violation d routes plan ≡ None → cost d routes plan ≡ k → k ≤ ticks → violation_at d routes plan k ≡ Some v → Failed (history_at d routes plan k) k v ≡ verdict_of d routes plan ticks
  failed_is ticks k v none same within fails = sym (told ticks k same within ∙ ap₂ (decided d routes plan) none (ap (violation_at d routes plan) same ∙ fails) ∙ ap (λ n. Failed (history_at d routes plan n) n v) same)

  pub met_is : (ticks k : ℕ) → path_violation d routes plan ≡ None → cost d routes plan ≡ k → k ≤ ticks → violation_at d routes plan k ≡ None → Met (history_at d routes plan k) k ≡ verdict_of d routes plan ticks
  met_is ticks k none same within fine = sym (told ticks k same within ∙ ap₂ (decided d routes plan) none (ap (violation_at d routes plan) same ∙ fine) ∙ ap (λ n. Met (history_at d routes plan n) n) same)

  undecided_before : (ticks : ℕ) → ticks < cost d routes plan → Undecided ≡ verdict_of d routes plan ticks
  undecided_before ticks less = sym (ap (λ b. if b then Undecided else decided d routes plan (path_violation d routes plan) (violation_at d routes plan (cost d routes plan))) (le-leb (suc ticks) (cost d routes plan) (omega arith)))

  pub undecided_is : IsAdmitted d → (ticks last : ℕ) → path_violation d routes plan ≡ None → last ≡ min ticks (horizon d) → ((i : ℕ) → 1 ≤ i → i ≤ last → is_decided d routes plan i ≡ false) → Undecided ≡ verdict_of d routes plan ticks
  undecided_is adm ticks last none is before = undecided_before ticks (go (below_or_not last c.tick))
    where
      c : verdicts.Decided d routes plan adm
      c = verdicts.decided d routes plan adm none

      go : (last < c.tick) ⊎ (c.tick ≤ last) → ticks < cost d routes plan
      go (inl more) = let g = least_gives (is_decided d routes plan) (horizon d) c.tick c.first in let l = g.last in let s = c.costs in omega arith
      go (inr less) = let g = least_gives (is_decided d routes plan) (horizon d) c.tick c.first in absurd (true≢false (sym g.passes ∙ before c.tick g.first less))

  path_cost : (v : Violation) → path_violation d routes plan ≡ Some v → cost d routes plan ≡ 1
  path_cost v fails = rw fails refl

  pub path_fails : (ticks : ℕ) (v : Violation) → path_violation d routes plan ≡ Some v → 1 ≤ ticks → Failed [] 1 v ≡ verdict_of d routes plan ticks
  path_fails ticks v fails some = sym (told ticks 1 (path_cost v fails) some ∙ rw fails refl)

  pub path_fails_later : (ticks : ℕ) (v : Violation) → path_violation d routes plan ≡ Some v → ticks ≡ 0 → Undecided ≡ verdict_of d routes plan ticks
  path_fails_later ticks v fails none = undecided_before ticks (let s = path_cost v fails in omega arith)

  -- ---- paths

  pub length-visits_at : (sets : List (List NodeNo)) (ps : List PathNode) → length (visits_at sets ps) ≡ length sets
  length-visits_at [] ps = refl
  length-visits_at (set ∷ sets) ps = ap suc (length-visits_at sets (after_first (from_first (λ p. has_node set p.node) ps)))

  pub length-visits_on : (sets : List (List NodeNo)) (ps : List PathNode) → length (visits_on sets ps) ≡ length sets
  length-visits_on [] ps = refl
  length-visits_on (set ∷ sets) ps = ap suc (length-visits_at sets (after_first ps))

  -- the first visit that a path doesn't make
  pub find-path : (t : TrainNo) → find (is_certain d routes plan 1) (map (violation.Path t) (visit_numbers d t)) ≡ option_map (violation.Path t) (position_from is_none 1 (visits_of_train d routes (of_plan routes plan) t))
  find-path t =
      ap (λ n. find (is_certain d routes plan 1) (map (violation.Path t) (one_to n))) (sym (length-visits_on (train_of d t).visits (path_nodes_of_train d routes (of_plan routes plan) t)))
      ∙ find-numbered (is_certain d routes plan 1) (violation.Path t) is_none 1 (visits_of_train d routes (of_plan routes plan) t)
      (λ i place there. let one : 1 + i ≡ suc i = omega arith in ap (λ n. is_certain d routes plan 1 (violation.Path t n)) one ∙ ap is_none (entry-get None (visits_of_train d routes (of_plan routes plan) t) i place there))

-- ---- the first path that fails

abbrev ways_of : Station → TrainNo → List Violation
ways_of d t = map (violation.Path t) (visit_numbers d t)

pub path_here : (d : Station) (routes : List Route) (plan : List (List Command)) (t : TrainNo) (ts : List TrainNo) (o : Option ℕ) (j : ℕ) → o ≡ position_from is_none 1 (visits_of_train d routes (of_plan routes plan) t) → o ≡ Some j
    → find (is_certain d routes plan 1) (flat_map (ways_of d) (t ∷ ts)) ≡ Some (violation.Path t j)
path_here d routes plan t ts o j found some =
    find-append_some (is_certain d routes plan 1) (ways_of d t) (flat_map (ways_of d) ts) (violation.Path t j) (find-path d routes plan t ∙ ap (option_map (violation.Path t)) (sym found ∙ some))

pub path_later : (d : Station) (routes : List Route) (plan : List (List Command)) (t : TrainNo) (ts : List TrainNo) (o : Option ℕ) → o ≡ position_from is_none 1 (visits_of_train d routes (of_plan routes plan) t) → o ≡ None
    → find (is_certain d routes plan 1) (flat_map (ways_of d) (t ∷ ts)) ≡ find (is_certain d routes plan 1) (flat_map (ways_of d) ts)
path_later d routes plan t ts o found none =
    find-append_none (is_certain d routes plan 1) (ways_of d t) (flat_map (ways_of d) ts) (find-path d routes plan t ∙ ap (option_map (violation.Path t)) (sym found ∙ none))

-- ---- states

pub pasts_next : (d : Station) (routes : List Route) (plan : List (List Command)) (k : ℕ) → 1 ≤ k → tick d routes (of_plan routes plan) k (pasts_at d routes (of_plan routes plan) (k - 1)) ≡ pasts_at d routes (of_plan routes plan) k
pasts_next d routes plan zero first = absurd (omega arith)
pasts_next d routes plan (suc k) first = let less : suc k - 1 ≡ k = omega arith in ap (λ n. tick d routes (of_plan routes plan) (suc k) (pasts_at d routes (of_plan routes plan) n)) less

-- what is not decided before a tick nor at it
pub undecided_to : (d : Station) (routes : List Route) (plan : List (List Command)) (k i : ℕ) → is_decided d routes plan k ≡ false → ((i : ℕ) → 1 ≤ i → i < k → is_decided d routes plan i ≡ false) → 1 ≤ i → i < k + 1 → is_decided d routes plan i ≡ false
undecided_to d routes plan k i here before low high = go (below_or_not i k)
  where
    go : (i < k) ⊎ (k ≤ i) → is_decided d routes plan i ≡ false
    go (inl less) = before i low less
    go (inr more) = let same : k ≡ i = omega arith in subst (λ n. is_decided d routes plan n ≡ false) same here
