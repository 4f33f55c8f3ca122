-- At tick k the history of the run up to k shows whether all is done in the run.
use Rattle.std.proofs.Common.{◌≡◌, ℕ, zero, suc, ◌+◌, ◌≤◌, Bool, true, false, ◌&&◌, List, [], ◌∷◌, map, length, None, is_some, refl, sym, ap, ap₂, ◌∙◌, arith}
use Rattle.std.specs.List.{list_all, enumerate_from}
use Rattle.rail_base.specs.declared.station.Station.{Station}
use Rattle.rail_base.specs.declared.station.TrainNo.{TrainNo}
use Rattle.rail_base.specs.declared.route.Route.{Route}
use Rattle.rail_base.specs.declared.plan.Command.{Command}
use Rattle.rail_base.specs.declared.history.TrainHistory.{TrainHistory}
use Rattle.rail_base.specs.Numbering.{count_from, entry}
use Rattle.rail_base.specs.Stations.{trains}
use Rattle.rail_spec.specs.Plans.{path}
use Rattle.rail_spec.specs.Dispatches.{of_plan}
use Rattle.rail_spec.specs.Visits.{visits_of_train}
use Rattle.rail_spec.specs.Requirements.{granted_by, visited_by, command_numbers, visit_numbers, is_done}
use Rattle.rail_spec.specs.Histories.{history_at, train_history, visit_made, grant_tick}
use Rattle.rail_require.specs.Violations.{is_done_in}
use Rattle.rail_require.proofs.Telling.{some_grant, some_made, visits_there}

list_all-map : {X Y : Type 0} (test : Y → Bool) (f : X → Y) (xs : List X) → list_all test (map f xs) ≡ list_all (λ x. test (f x)) xs
list_all-map test f [] = refl
list_all-map test f (x ∷ xs) = ap (λ b. test (f x) && b) (list_all-map test f xs)

list_all-same : {X : Type 0} (test other : X → Bool) (xs : List X) → ((x : X) → test x ≡ other x) → list_all test xs ≡ list_all other xs
list_all-same test other [] h = refl
list_all-same test other (x ∷ xs) h = ap₂ ◌&&◌ (h x) (list_all-same test other xs h)

-- two tests of each are one test of all and then the other
list_all-both : {X : Type 0} (first second : X → Bool) (xs : List X) → list_all (λ x. first x && second x) xs ≡ (list_all first xs && list_all second xs)
list_all-both first second [] = refl
list_all-both first second (x ∷ xs) = ap (λ b. (first x && second x) && b) (list_all-both first second xs) ∙ turn (first x) (second x) (list_all first xs) (list_all second xs)
  where
    turn : (a b c e : Bool) → ((a && b) && (c && e)) ≡ ((a && c) && (b && e))
    turn false b c e = refl
    turn true true c e = refl
    turn true false true e = refl
    turn true false false e = refl

list_all-enumerated : {X Y : Type 0} (test : Y → Bool) (made : ℕ → Y) (by : ℕ → Bool) (a : ℕ) (xs : List X) → ((j : ℕ) → test (made j) ≡ by j)
    → list_all (λ (g : X × Y). test g.1) (map (λ p. (p.1, made p.0)) (enumerate_from a xs)) ≡ list_all by (count_from a (length xs))
list_all-enumerated test made by a [] h = refl
list_all-enumerated test made by a (x ∷ xs) h = ap₂ ◌&&◌ (h a) (list_all-enumerated test made by (a + 1) xs h)

list_all-entries : {X : Type 0} (test : X → Bool) (by : ℕ → Bool) (a : ℕ) (xs : List X) (other : X) → ((j : ℕ) → 1 ≤ j → by (a + j) ≡ test (entry other xs j)) → list_all test xs ≡ list_all by (count_from (a + 1) (length xs))
list_all-entries test by a [] other h = refl
list_all-entries {X} test by a (x ∷ xs) other h =
    ap₂ ◌&&◌ (sym (h 1 (omega arith)))
    (list_all-entries test by (a + 1) xs other (λ j low. ap by (let e : a + 1 + j ≡ a + (j + 1) = omega arith in e) ∙ h (j + 1) (omega arith) ∙ ap test (deeper j low)))
  where
    deeper : (j : ℕ) → 1 ≤ j → entry other (x ∷ xs) (j + 1) ≡ entry other xs j
    deeper j low = go j low
      where
        go : (i : ℕ) → 1 ≤ i → entry other (x ∷ xs) (i + 1) ≡ entry other xs i
        go zero l = absurd (omega arith)
        go (suc i) l = ap (entry other (x ∷ xs)) (let e : suc i + 1 ≡ suc (suc i) = omega arith in e)

module _ (d : Station) (routes : List Route) (plan : List (List Command)) (k : ℕ) (low : 1 ≤ k) where
  grants_done : (t : TrainNo) → list_all (λ g. is_some g.1) (train_history d routes plan k t).grants ≡ list_all (granted_by d routes plan k t) (command_numbers d routes plan t)
  grants_done t = list_all-enumerated is_some (grant_tick d routes plan k t) (granted_by d routes plan k t) 1 (path plan t) (λ j. some_grant d routes plan k t j low)

  visits_done : (t : TrainNo) → list_all is_some (train_history d routes plan k t).visits ≡ list_all (visited_by d routes plan k t) (visit_numbers d t)
  visits_done t =
      list_all-map is_some (visit_made d routes plan k t) (visits_of_train d routes (of_plan routes plan) t)
      ∙ list_all-entries (λ place. is_some (visit_made d routes plan k t place)) (visited_by d routes plan k t) 0 (visits_of_train d routes (of_plan routes plan) t) None
      (λ j l. ap (visited_by d routes plan k t) (let e : 0 + j ≡ j = omega arith in e) ∙ sym (some_made d routes plan k t (entry None (visits_of_train d routes (of_plan routes plan) t) j)))
      ∙ ap₂ (λ a n. list_all (visited_by d routes plan k t) (count_from a n)) (let e : 0 + 1 ≡ 1 = omega arith in e) (visits_there d routes plan k t)

  pub done_told : is_done_in (history_at d routes plan k) ≡ is_done d routes plan k
  done_told =
      list_all-map (λ (t : TrainHistory). list_all (λ g. is_some g.1) t.grants && list_all is_some t.visits) (train_history d routes plan k) (trains d)
      ∙ list_all-same (λ t. list_all (λ g. is_some g.1) (train_history d routes plan k t).grants && list_all is_some (train_history d routes plan k t).visits)
      (λ t. list_all (granted_by d routes plan k t) (command_numbers d routes plan t) && list_all (visited_by d routes plan k t) (visit_numbers d t)) (trains d)
      (λ t. ap₂ ◌&&◌ (grants_done t) (visits_done t))
      ∙ list_all-both (λ t. list_all (granted_by d routes plan k t) (command_numbers d routes plan t)) (λ t. list_all (visited_by d routes plan k t) (visit_numbers d t)) (trains d)
