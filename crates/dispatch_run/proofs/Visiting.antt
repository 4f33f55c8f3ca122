-- A visit is made at a tick only by a train that is looked at then.
use Rattle.std.proofs.Common.{◌≡◌, ℕ, suc, ◌≤◌, ◌<◌, Bool, true, false, ◌&&◌, ◌||◌, ◌==◌, List, [], ◌∷◌, map, length, get_or, Option, None, Some, option_map, refl, sym, ap, ap₂, ◌∙◌, arith, eqb-true, eq-eqb}
use Rattle.std.specs.List.{list_any, zip}
use Rattle.rail_base.specs.declared.station.Station.{Station}
use Rattle.rail_base.specs.declared.station.NodeNo.{NodeNo}
use Rattle.rail_base.specs.declared.station.TrainNo.{TrainNo}
use Rattle.rail_base.specs.declared.route.Route.{Route}
use Rattle.rail_base.specs.declared.state.PathNode.{PathNode}
use Rattle.rail_base.specs.declared.state.TrainState.{TrainState}
use Rattle.rail_base.specs.declared.history.TrainHistory.{TrainHistory}
use Rattle.rail_base.specs.Stations.{trains}
use Rattle.rail_base.proofs.Members.{false_unless}
use Rattle.rail_spec.specs.Dispatches.{Dispatch}
use Rattle.rail_spec.specs.Visits.{pass_tick, visits_of_train, happened_by}
use Rattle.rail_laws.proofs.Deciding.{least_gives}
use Rattle.rail_require.specs.Ticks.{is_at, makes_visit_at, has_visit_at}
use Rattle.quiet_spec.specs.Histories.{history_at, train_history, visit_made}
use Rattle.dispatch_run.specs.declared.looks.Look.{Look}
use Rattle.dispatch_run.specs.Looks.{has_looked_visit_at}
use Rattle.dispatch_run.specs.Turns.{AreToBeMarked}
use Rattle.dispatch_run.proofs.Turning.{train_told, length-each}

any_mapped : {X Y : Type 0} (test : Y → Bool) (f : X → Y) (xs : List X) → ((x : X) → test (f x) ≡ false) → list_any test (map f xs) ≡ false
any_mapped test f [] none = refl
any_mapped test f (x ∷ xs) none = ap₂ ◌||◌ (none x) (any_mapped test f xs none)

-- who does not pass the one test does not pass the other
any_zipped : {X Y : Type 0} (first : X → Bool) (test : Y → Bool) (xs : List X) (ys : List Y) (dx : X) (dy : Y) → length xs ≡ length ys → ((i : ℕ) → i < length ys → first (get_or xs i dx) ≡ false → test (get_or ys i dy) ≡ false)
    → list_any (λ (z : X × Y). first z.0 && test z.1) (zip xs ys) ≡ list_any test ys
any_zipped first test [] [] dx dy e none = refl
any_zipped first test [] (y ∷ ys) dx dy e none = absurd (omega arith)
any_zipped first test (x ∷ xs) [] dx dy e none = absurd (omega arith)
any_zipped first test (x ∷ xs) (y ∷ ys) dx dy e none = ap₂ ◌||◌ (go (first x) (none 0 (omega arith))) (any_zipped first test xs ys dx dy (omega arith) (λ i l. none (suc i) (omega arith)))
  where
    go : (b : Bool) → (b ≡ false → test y ≡ false) → (b && test y) ≡ test y
    go true h = refl
    go false h = sym (h refl)

abbrev no_look : Look
no_look = record { since = 0; until = 1 }

abbrev no_history : TrainHistory
no_history = record { grants = []; passes = []; releases = []; holds = []; visits = []; dwells = [] }

module _ (d : Station) (routes : List Route) (dispatch : Dispatch) where
  visit_at_other : (k m : ℕ) (t : TrainNo) → ((a : ℕ) → 1 ≤ a → a ≤ k → a ≡ m → ⊥) → (place : Option PathNode) → is_at m (option_map (λ (v : NodeNo × ℕ). v.1) (visit_made d routes dispatch k t place)) ≡ false
  visit_at_other k m t other None = refl
  visit_at_other k m t other (Some path_node) = go (pass_tick d routes dispatch k t path_node) refl
    where
      go : (o : Option ℕ) → pass_tick d routes dispatch k t path_node ≡ o → is_at m (option_map (λ (v : NodeNo × ℕ). v.1) (option_map (λ i. (path_node.node, i)) o)) ≡ false
      go None e = refl
      go (Some a) e = let l = least_gives (happened_by d routes dispatch t path_node.event) k a e in false_unless (a == m) (λ same. other a l.first l.last (eqb-true a m same))

  -- by tick k no visit is made at a tick that is not one of the ticks from 1 to k
  made_at_other : (k m : ℕ) (t : TrainNo) → ((a : ℕ) → 1 ≤ a → a ≤ k → a ≡ m → ⊥) → makes_visit_at m (train_history d routes dispatch k t) ≡ false
  made_at_other k m t other = any_mapped (λ v. is_at m (option_map (λ (x : NodeNo × ℕ). x.1) v)) (visit_made d routes dispatch k t) (visits_of_train d routes dispatch t) (visit_at_other k m t other)

  -- none is made before the first tick
  pub none_at_first : (history : List TrainHistory) → history ≡ history_at d routes dispatch 0 → false ≡ has_visit_at 0 history
  none_at_first history told = sym (ap (has_visit_at 0) told ∙ any_mapped (makes_visit_at 0) (train_history d routes dispatch 0) (trains d) (λ t. made_at_other 0 0 t (λ a low high e. absurd (omega arith))))

  -- at a tick only those that are looked at then make one
  pub only_looked : (k tick : ℕ) (states : List TrainState) (looks : List Look) (old new : List TrainHistory) → k < tick → length looks ≡ length d.trains → old ≡ history_at d routes dispatch k → new ≡ history_at d routes dispatch tick
      → AreToBeMarked d routes dispatch tick states looks old → has_looked_visit_at tick looks new ≡ has_visit_at tick new
  only_looked k tick states looks old new next count was now told =
      any_zipped (λ (l : Look). l.until == tick) (makes_visit_at tick) looks new no_look no_history (count ∙ sym many) one
    where
      many : length new ≡ length d.trains
      many = ap length now ∙ length-each d (train_history d routes dispatch tick)

      one : (i : ℕ) → i < length new → ((get_or looks i no_look).until == tick) ≡ false → makes_visit_at tick (get_or new i no_history) ≡ false
      one i less h =
          let t : TrainNo = record { 0 = suc i } in
          let high : suc i ≤ length d.trains = (let n = many in omega arith) in
          let unlooked = (told.each t (omega arith, high)).unlooked (λ e. let s = eq-eqb _ tick e in cc) in
          ap (λ hs. makes_visit_at tick (get_or hs i no_history)) now
          ∙ ap (makes_visit_at tick) (train_told d routes dispatch tick t (omega arith, high) ∙ sym unlooked ∙ ap (λ hs. get_or hs i no_history) was ∙ train_told d routes dispatch k t (omega arith, high))
          ∙ made_at_other k tick t (λ a low within e. absurd (omega arith))
