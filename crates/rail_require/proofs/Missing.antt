-- The first command that isn't granted, and the first visit that isn't made, train by train.
use Rattle.std.proofs.Common.{◌≡◌, ℕ, suc, ◌+◌, ◌-◌, ◌<◌, ◌≤◌, Bool, false, not, ◌&&◌, ◌==◌, List, ◌++◌, map, flat_map, length, slice_get, get_or, Option, None, Some, option_map, find, sym, ap, subst, ◌∙◌, arith, eq-eqb, eqb-true, ◌⊎◌, inl, inr}
use Rattle.std.specs.List.{position_from}
use Rattle.std.proofs.lemmas.List.{get_or_read}
use Rattle.rail_base.specs.declared.station.Station.{Station}
use Rattle.rail_base.specs.declared.station.TrainNo.{TrainNo}
use Rattle.rail_base.specs.declared.history.TrainHistory.{TrainHistory}
use Rattle.rail_base.specs.declared.plan.Violation.{Violation}
use Rattle.rail_base.specs.declared.plan.Violation.TheVariants as violation
use Rattle.rail_base.specs.Numbering.{count_from, entry}
use Rattle.rail_base.specs.Stations.{horizon}
use Rattle.rail_base.specs.Members.{In}
use Rattle.rail_base.proofs.Members.{false_unless}
use Rattle.rail_base.proofs.Lists.{in_append, in_map_back, in_flat_map_back}
use Rattle.rail_require.specs.Ticks.{trains, history_of, command_numbers, visit_numbers, grant_tick, visit_tick, is_by}
use Rattle.rail_require.specs.Violations.{is_certain, grant_violations, visit_violations}
use Rattle.rail_require.proofs.Finding.{find-numbered, find-append_none, find-append_some, find-none, entry-get}

-- the ways of the trains from a place on
abbrev pub violations_from : (TrainNo → List Violation) → ℕ → ℕ → List Violation
violations_from failures trains place = flat_map failures (map (λ n. record { 0 = n }) (count_from (place + 1) (trains - place)))

module _ (test : Violation → Bool) (failures : TrainNo → List Violation) (trains place : ℕ) where
  next : place < trains → violations_from failures trains place ≡ failures (record { 0 = place + 1 }) ++ violations_from failures trains (place + 1)
  next less = ap (λ n. flat_map failures (map (λ m. record { 0 = m }) (count_from (place + 1) n))) (let e : trains - place ≡ suc (trains - (place + 1)) = omega arith in e)

  pub find-next : place < trains → find test (failures (record { 0 = place + 1 })) ≡ None → find test (violations_from failures trains place) ≡ find test (violations_from failures trains (place + 1))
  find-next less none = ap (find test) (next less) ∙ find-append_none test (failures (record { 0 = place + 1 })) (violations_from failures trains (place + 1)) none

  pub find-here : (v : Violation) → place < trains → find test (failures (record { 0 = place + 1 })) ≡ Some v → find test (violations_from failures trains place) ≡ Some v
  find-here v less some = ap (find test) (next less) ∙ find-append_some test (failures (record { 0 = place + 1 })) (violations_from failures trains (place + 1)) v some

  pub find-past : trains ≤ place → find test (violations_from failures trains place) ≡ None
  find-past less = ap (λ n. find test (flat_map failures (map (λ m. record { 0 = m }) (count_from (place + 1) n)))) (let e : trains - place ≡ 0 = omega arith in e)

module _ (d : Station) (history : List TrainHistory) (k : ℕ) (due : k ≡ horizon d) (place : ℕ) (train : TrainHistory) (less : place < length history) (here : train ≡ get_or history place train) where
  abbrev pub number : TrainNo
  number = record { 0 = place + 1 }

  that : history_of history number ≡ train
  that = ap (λ n. history_of history (record { 0 = n })) (let e : place + 1 ≡ suc place = omega arith in e) ∙ sym (get_or_read history place train less here _)

  missing : (tick : Option ℕ) → ((k == horizon d) && not (is_by k tick)) ≡ not (is_by k tick)
  missing tick = ap (λ b. b && not (is_by k tick)) (eq-eqb k (horizon d) due)

  entry-next : {X : Type 0} (other : X) (xs : List X) (i : ℕ) (x : X) → slice_get xs i ≡ Some x → entry other xs (1 + i) ≡ x
  entry-next other xs i x g = ap (entry other xs) (let e : 1 + i ≡ suc i = omega arith in e) ∙ entry-get other xs i x g

  pub find-grant : find (is_certain d history k) (map (violation.Grant number) (command_numbers history number)) ≡ option_map (violation.Grant number) (position_from (λ g. not (is_by k g.1)) 1 train.grants)
  find-grant =
      find-numbered (is_certain d history k) (violation.Grant number) (λ g. not (is_by k g.1)) 1 (history_of history number).grants
      (λ i g e. missing (grant_tick history number (1 + i)) ∙ ap (λ x. not (is_by k x.1)) (entry-next (record { 0 = 0 }, None) (history_of history number).grants i g e))
      ∙ ap (λ (t : TrainHistory). option_map (violation.Grant number) (position_from (λ g. not (is_by k g.1)) 1 t.grants)) that

  pub find-visit : find (is_certain d history k) (map (violation.Visit number) (visit_numbers history number)) ≡ option_map (violation.Visit number) (position_from (λ v. not (is_by k (option_map (λ m. m.1) v))) 1 train.visits)
  find-visit =
      find-numbered (is_certain d history k) (violation.Visit number) (λ v. not (is_by k (option_map (λ m. m.1) v))) 1 (history_of history number).visits
      (λ i v e. missing (visit_tick history number (1 + i)) ∙ ap (λ x. not (is_by k (option_map (λ m. m.1) x))) (entry-next None (history_of history number).visits i v e))
      ∙ ap (λ (t : TrainHistory). option_map (violation.Visit number) (position_from (λ v. not (is_by k (option_map (λ m. m.1) v))) 1 t.visits)) that

-- at another tick none of them is certain
pub find-not_due : (d : Station) (history : List TrainHistory) (k : ℕ) → (k ≡ horizon d → ⊥) → find (is_certain d history k) (grant_violations history ++ visit_violations history) ≡ None
find-not_due d history k other = find-none (is_certain d history k) (grant_violations history ++ visit_violations history) (λ v m. which v (in_append v (grant_violations history) (visit_violations history) m))
  where
    not_due : (tick : Option ℕ) → ((k == horizon d) && not (is_by k tick)) ≡ false
    not_due tick = ap (λ b. b && not (is_by k tick)) (false_unless (k == horizon d) (λ e. other (eqb-true k (horizon d) e)))

    grant : (v : Violation) (t : TrainNo) → ((j : ℕ) × In j (command_numbers history t) × (violation.Grant t j ≡ v)) → is_certain d history k v ≡ false
    grant v t (j, i, e) = subst (λ w. is_certain d history k w ≡ false) e (not_due (grant_tick history t j))

    visit : (v : Violation) (t : TrainNo) → ((j : ℕ) × In j (visit_numbers history t) × (violation.Visit t j ≡ v)) → is_certain d history k v ≡ false
    visit v t (j, i, e) = subst (λ w. is_certain d history k w ≡ false) e (not_due (visit_tick history t j))

    grants : (v : Violation) → ((t : TrainNo) × In t (trains history) × In v (map (violation.Grant t) (command_numbers history t))) → is_certain d history k v ≡ false
    grants v (t, i, n) = grant v t (in_map_back (violation.Grant t) (command_numbers history t) v n)

    visits : (v : Violation) → ((t : TrainNo) × In t (trains history) × In v (map (violation.Visit t) (visit_numbers history t))) → is_certain d history k v ≡ false
    visits v (t, i, n) = visit v t (in_map_back (violation.Visit t) (visit_numbers history t) v n)

    which : (v : Violation) → In v (grant_violations history) ⊎ In v (visit_violations history) → is_certain d history k v ≡ false
    which v (inl m) = grants v (in_flat_map_back (λ t. map (violation.Grant t) (command_numbers history t)) (trains history) v m)
    which v (inr m) = visits v (in_flat_map_back (λ t. map (violation.Visit t) (visit_numbers history t)) (trains history) v m)
