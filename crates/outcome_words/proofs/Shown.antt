-- What a verdict shows is what has happened up to the deciding tick.
use Rattle.std.proofs.Common.{◌≡◌, ℕ, ◌≤◌, Bool, true, false, List, [], if◌then◌else◌, nat_lt, Option, None, Some, map, refl, sym, ap, ◌∙◌, arith}
use Rattle.rail_base.specs.declared.station.Station.{Station}
use Rattle.rail_base.specs.declared.route.Route.{Route}
use Rattle.rail_base.specs.declared.plan.Command.{Command}
use Rattle.rail_base.specs.declared.plan.Violation.{Violation}
use Rattle.rail_base.specs.declared.plan.Violation.TheVariants as violation
use Rattle.rail_base.specs.declared.history.TrainHistory.{TrainHistory}
use Rattle.rail_base.specs.declared.history.Verdict.{Verdict}
use Rattle.rail_base.specs.declared.history.Verdict.TheVariants.{Met, Failed, Undecided}
use Rattle.rail_base.specs.Admitted.{IsAdmitted}
use Rattle.rail_base.specs.Stations.{horizon, trains}
use Rattle.rail_base.proofs.Lists.{in_flat_map_back, in_map_back}
use Rattle.rail_spec.specs.Histories.{decided, history_at}
use Rattle.rail_spec.specs.Requirements.{cost, is_certain, is_decided, path_failures, path_violation, violation_at, visit_numbers}
use Rattle.rail_laws.proofs.Deciding.{least_gives}
use Rattle.rail_laws.proofs.Verdicts as verdicts
use Rattle.rail_laws.proofs.Verdicts.{found_in}
use Rattle.outcome_words.specs.Laws.{IsShown, shown_by}

pub some_is : {X : Type 0} (x y : X) → Some x ≡ Some y → x ≡ y
some_is x y e = cc

same_pair : {X Y : Type 0} (p q : X × Y) → Some p ≡ Some q → (p.0 ≡ q.0) × (p.1 ≡ q.1)
same_pair {X} {Y} p q e = let s = some_is p q e in (ap (λ (p : X × Y). p.0) s, ap (λ (p : X × Y). p.1) s)

-- what a failure that is shown shows
pub failed_shows : (k : ℕ) (h : List TrainHistory) (v : Violation) (history : List TrainHistory) (last : ℕ) → shown_by (Failed h k v) ≡ Some (history, last) → (h ≡ history) × (k ≡ last)
failed_shows k h (violation.Path t j) history last e = absurd (cc)
failed_shows k h (violation.Within w) history last e = same_pair (h, k) (history, last) e
failed_shows k h (violation.Order o) history last e = same_pair (h, k) (history, last) e
failed_shows k h (violation.Grant t j) history last e = same_pair (h, k) (history, last) e
failed_shows k h (violation.Visit t j) history last e = same_pair (h, k) (history, last) e

pub met_shows : (k : ℕ) (h : List TrainHistory) (history : List TrainHistory) (last : ℕ) → shown_by (Met h k) ≡ Some (history, last) → (h ≡ history) × (k ≡ last)
met_shows k h history last e = same_pair (h, k) (history, last) e

module _ (d : Station) (routes : List Route) (plan : List (List Command)) (good : IsAdmitted d) where
  -- up to which tick, and what
  pub record Known (history : List TrainHistory) (last : ℕ) : Type 0 where
    pub some : 1 ≤ last
    pub in_time : last ≤ horizon d
    pub happened : history ≡ history_at d routes plan last

  -- a path that fails shows nothing
  path_shows_none : (v : Violation) → path_violation d routes plan ≡ Some v → shown_by (Failed [] 1 v) ≡ None
  path_shows_none v e =
      let f = in_flat_map_back (λ t. map (violation.Path t) (visit_numbers d t)) (trains d) v (found_in (is_certain d routes plan 1) (path_failures d routes plan) v e) in
      let p = in_map_back (violation.Path f.0) (visit_numbers d f.0) v f.2 in
      ap (λ v. shown_by (Failed [] 1 v)) (sym p.2)

  decided_shows : (o w : Option Violation) → path_violation d routes plan ≡ o → (history : List TrainHistory) (last : ℕ) → shown_by (decided d routes plan o w) ≡ Some (history, last)
      → (path_violation d routes plan ≡ None) × ((history_at d routes plan (cost d routes plan) ≡ history) × (cost d routes plan ≡ last))
  decided_shows (Some v) w e history last s = absurd (let n = sym s ∙ path_shows_none v e in cc)
  decided_shows None (Some v) e history last s = (e, failed_shows (cost d routes plan) (history_at d routes plan (cost d routes plan)) v history last s)
  decided_shows None None e history last s = (e, met_shows (cost d routes plan) (history_at d routes plan (cost d routes plan)) history last s)

  pub known : (n : ℕ) (history : List TrainHistory) (last : ℕ) → IsShown d routes plan n history last → Known history last
  known n history last s = go (nat_lt n (cost d routes plan)) s
    where
      told : Verdict
      told = decided d routes plan (path_violation d routes plan) (violation_at d routes plan (cost d routes plan))

      go : (b : Bool) → shown_by (if b then Undecided else told) ≡ Some (history, last) → Known history last
      go true h = absurd (cc)
      go false h =
          let k = decided_shows (path_violation d routes plan) (violation_at d routes plan (cost d routes plan)) refl history last h in
          let c = verdicts.decided d routes plan good k.0 in
          let l = least_gives (is_decided d routes plan) (horizon d) c.tick c.first in
          let low = l.first in
          let high = l.last in
          let same = c.costs in
          let is_last = k.1.1 in
          record {
            some = omega arith;
            in_time = omega arith;
            happened = sym k.1.0 ∙ ap (history_at d routes plan) is_last;
          }
