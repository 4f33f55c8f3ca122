-- The history of a run has the ticks of its grants and visits.
use Rattle.std.proofs.Common.{◌≡◌, ℕ, zero, suc, ◌+◌, ◌-◌, ◌≤◌, ◌<◌, Bool, true, false, nat_lt, List, [], ◌∷◌, map, length, get_or, Option, None, Some, is_some, option_map, option_and_then, refl, sym, ap, subst, ◌∙◌, arith, leb-true, le-leb}
use Rattle.std.specs.List.{enumerate_from}
use Rattle.rail_base.specs.declared.station.Station.{Station}
use Rattle.rail_base.specs.declared.station.NodeNo.{NodeNo}
use Rattle.rail_base.specs.declared.station.TrainNo.{TrainNo}
use Rattle.rail_base.specs.declared.route.Route.{Route}
use Rattle.rail_base.specs.declared.plan.Command.{Command}
use Rattle.rail_base.specs.declared.state.PathNode.{PathNode}
use Rattle.rail_base.specs.declared.history.TrainHistory.{TrainHistory}
use Rattle.rail_base.specs.Numbering.{count_from, entry, one_to, least, or_this, from_first, after_first}
use Rattle.rail_base.specs.Stations.{IsTrain, train_of}
use Rattle.rail_base.specs.Stations as station
use Rattle.rail_base.proofs.Members.{get_or-counted, map-map, false_unless}
use Rattle.rail_base.proofs.Lists.{length-map}
use Rattle.rail_spec.specs.Plans.{path, has_node}
use Rattle.rail_spec.specs.Dispatches.{state_of, of_plan, state_at}
use Rattle.rail_spec.specs.Visits.{pass_tick, path_nodes_of_train, visits_of_train}
use Rattle.rail_spec.specs.Visits as visits
use Rattle.rail_spec.specs.Requirements.{granted_by, visited_by}
use Rattle.rail_spec.specs.Requirements as requirements
use Rattle.rail_spec.specs.Histories.{history_at, train_history, visit_made}
use Rattle.rail_spec.specs.Histories as histories
use Rattle.rail_spec.specs.Places.{visits_at, visits_on}
use Rattle.rail_laws.proofs.Exclusion.{run_later}
use Rattle.rail_laws.proofs.Deciding.{least_gives, visit_stays, visit_within, visit_at, visit_once}
use Rattle.rail_require.specs.Ticks.{history_of, trains, command_numbers, visit_numbers, grant_tick, visit_tick, is_by, is_before}

-- ---- lists

length-counted : (a n : ℕ) → length (count_from a n) ≡ n
length-counted a zero = refl
length-counted a (suc n) = ap suc (length-counted (a + 1) n)

pub length-trains : (d : Station) → length (station.trains d) ≡ length d.trains
length-trains d = length-map (λ n. record { 0 = n }) (one_to (length d.trains)) ∙ length-counted 1 (length d.trains)

length-enumerated : {X : Type 0} (a : ℕ) (xs : List X) → length (enumerate_from a xs) ≡ length xs
length-enumerated a [] = refl
length-enumerated a (x ∷ xs) = ap suc (length-enumerated (a + 1) xs)

pub entry-map : {X Y : Type 0} (f : X → Y) (other : X) (xs : List X) (j : ℕ) → entry (f other) (map f xs) j ≡ f (entry other xs j)
entry-map f other xs zero = refl
entry-map f other [] (suc j) = refl
entry-map f other (x ∷ xs) (suc zero) = refl
entry-map f other (x ∷ xs) (suc (suc j)) = entry-map f other xs (suc j)

pub entry-enumerated : {X Y : Type 0} (f : ℕ → Y) (other : X × Y) (a : ℕ) (xs : List X) (j : ℕ) → j < length xs → (get_or (map (λ p. (p.1, f p.0)) (enumerate_from a xs)) j other).1 ≡ f (a + j)
entry-enumerated f other a [] j h = absurd (omega arith)
entry-enumerated f other a (x ∷ xs) zero h = ap f (omega arith)
entry-enumerated f other a (x ∷ xs) (suc j) h = entry-enumerated f other (a + 1) xs j (omega arith) ∙ ap f (omega arith)

length-visits_at : (sets : List (List NodeNo)) (ps : List PathNode) → length (visits_at sets ps) ≡ length sets
length-visits_at [] ps = refl
length-visits_at (set ∷ sets) ps = ap suc (length-visits_at sets (after_first (from_first (λ p. has_node set p.node) ps)))

length-visits_on : (sets : List (List NodeNo)) (ps : List PathNode) → length (visits_on sets ps) ≡ length sets
length-visits_on [] ps = refl
length-visits_on (set ∷ sets) ps = ap suc (length-visits_at sets (after_first ps))

-- a test that goes on passing passes at n where it has passed by then
pub some-least : (test : ℕ → Bool) (n : ℕ) → 1 ≤ n → ((a : ℕ) → a ≤ n → test a ≡ true → test n ≡ true) → is_some (least test n) ≡ test n
some-least test zero low stays = absurd (omega arith)
some-least test (suc n) low stays = go (least test n) refl (test (suc n)) refl
  where
    go : (o : Option ℕ) → least test n ≡ o → (b : Bool) → test (suc n) ≡ b → is_some (or_this o b (suc n)) ≡ b
    go (Some a) e b eb = let l = least_gives test n a e in sym (sym eb ∙ stays a (let h = l.last in omega arith) l.passes)
    go None e true eb = refl
    go None e false eb = refl

by-least : (test : ℕ → Bool) (n : ℕ) → is_by n (least test n) ≡ is_some (least test n)
by-least test n = go (least test n) refl
  where
    go : (o : Option ℕ) → least test n ≡ o → is_by n o ≡ is_some o
    go None e = refl
    go (Some a) e = le-leb a n (least_gives test n a e).last

module _ (d : Station) (routes : List Route) (plan : List (List Command)) where
  -- ---- grants

  granted_more : (k m : ℕ) (t : TrainNo) → (state_of (state_at d routes (of_plan routes plan) k) t).granted ≤ (state_of (state_at d routes (of_plan routes plan) (k + m)) t).granted
  granted_more k zero t = let e : k ≡ k + 0 = omega arith in subst (λ n. (state_of (state_at d routes (of_plan routes plan) k) t).granted ≤ (state_of (state_at d routes (of_plan routes plan) n) t).granted) e (omega arith)
  granted_more k (suc m) t =
      let e : suc (k + m) ≡ k + suc m = omega arith in
      let a = granted_more k m t in
      let b = (run_later d routes plan (k + m) t).granted in
      let c : (state_of (state_at d routes (of_plan routes plan) k) t).granted ≤ (state_of (state_at d routes (of_plan routes plan) (suc (k + m))) t).granted = omega arith in
      subst (λ n. (state_of (state_at d routes (of_plan routes plan) k) t).granted ≤ (state_of (state_at d routes (of_plan routes plan) n) t).granted) e c

  granted_later : (i k : ℕ) (t : TrainNo) (j : ℕ) → i ≤ k → granted_by d routes plan i t j ≡ true → granted_by d routes plan k t j ≡ true
  granted_later i k t j less h =
      let a = leb-true j (state_of (state_at d routes (of_plan routes plan) i) t).granted h in
      let b = granted_more i (k - i) t in
      let e : i + (k - i) ≡ k = omega arith in
      subst (λ n. granted_by d routes plan n t j ≡ true) e (le-leb j (state_of (state_at d routes (of_plan routes plan) (i + (k - i))) t).granted (omega arith))

  -- a grant has its tick exactly where the command is granted
  pub some_grant : (k : ℕ) (t : TrainNo) (j : ℕ) → 1 ≤ k → is_some (histories.grant_tick d routes plan k t j) ≡ granted_by d routes plan k t j
  some_grant k t j low = some-least (λ i. granted_by d routes plan i t j) k low (λ i less h. granted_later i k t j less h)

  pub by_grant : (k : ℕ) (t : TrainNo) (j : ℕ) → 1 ≤ k → is_by k (histories.grant_tick d routes plan k t j) ≡ granted_by d routes plan k t j
  by_grant k t j low = by-least (λ i. granted_by d routes plan i t j) k ∙ some_grant k t j low

  -- ---- visits

  pub by_visit : (k : ℕ) (t : TrainNo) (j : ℕ) → is_by k (visits.visit_tick d routes (of_plan routes plan) k t j) ≡ visited_by d routes plan k t j
  by_visit k t j = go (visits.visit_tick d routes (of_plan routes plan) k t j) refl
    where
      go : (o : Option ℕ) → visits.visit_tick d routes (of_plan routes plan) k t j ≡ o → is_by k o ≡ is_some o
      go None e = refl
      go (Some a) e = le-leb a k (visit_within d routes plan k t j a e).1

  -- a visit has a tick before k exactly where it is made by the tick before k
  pub before_visit : (k : ℕ) (t : TrainNo) (j : ℕ) → 1 ≤ k → is_before k (visits.visit_tick d routes (of_plan routes plan) k t j) ≡ visited_by d routes plan (k - 1) t j
  before_visit k t j low = go (visits.visit_tick d routes (of_plan routes plan) k t j) refl (visits.visit_tick d routes (of_plan routes plan) (k - 1) t j) refl
    where
      up : (a l : ℕ) → l ≤ k → visits.visit_tick d routes (of_plan routes plan) l t j ≡ Some a → visits.visit_tick d routes (of_plan routes plan) k t j ≡ Some a
      up a l less e = let same : l + (k - l) ≡ k = omega arith in subst (λ n. visits.visit_tick d routes (of_plan routes plan) n t j ≡ Some a) same (visit_stays d routes plan l (k - l) t j a e)

      down : (a : ℕ) → a < k → visits.visit_tick d routes (of_plan routes plan) k t j ≡ Some a → visits.visit_tick d routes (of_plan routes plan) (k - 1) t j ≡ Some a
      down a less e = let same : a + (k - 1 - a) ≡ k - 1 = omega arith in subst (λ n. visits.visit_tick d routes (of_plan routes plan) n t j ≡ Some a) same (visit_stays d routes plan a (k - 1 - a) t j a (visit_at d routes plan k t j a e))

      go : (o : Option ℕ) → visits.visit_tick d routes (of_plan routes plan) k t j ≡ o → (p : Option ℕ) → visits.visit_tick d routes (of_plan routes plan) (k - 1) t j ≡ p → is_before k o ≡ is_some p
      go None e None f = refl
      go None e (Some b) f = let u = up b (k - 1) (omega arith) f in cc
      go (Some a) e None f = false_unless (nat_lt a k) (λ h. let l = leb-true (suc a) k h in let u = down a (omega arith) e in absurd (some≢none (sym u ∙ f)))
        where
          some≢none : {n : ℕ} → Some n ≡ None → ⊥
          some≢none q = cc
      go (Some a) e (Some b) f =
          let same = visit_once d routes plan k (k - 1) t j a b e f in
          let w = (visit_within d routes plan (k - 1) t j b f).1 in
          le-leb (suc a) k (omega arith)

  -- ---- what stands in the history

  module _ (k : ℕ) where
    pub trains_told : trains (history_at d routes plan k) ≡ station.trains d
    trains_told = ap (λ n. map (λ m. record { 0 = m }) (one_to n)) (length-map (train_history d routes plan k) (station.trains d) ∙ length-trains d)

    pub train_told : (t : TrainNo) → IsTrain d t → history_of (history_at d routes plan k) t ≡ train_history d routes plan k t
    train_told t is = go t.0 is.0 is.1
      where
        number : ℕ → TrainNo
        number n = record { 0 = n }

        go : (n : ℕ) → 1 ≤ n → n ≤ length d.trains → history_of (history_at d routes plan k) (record { 0 = n }) ≡ train_history d routes plan k (record { 0 = n })
        go zero low high = absurd (omega arith)
        go (suc i) low high =
            let other : TrainHistory = record { grants = []; passes = []; releases = []; holds = []; visits = []; dwells = [] } in
            ap (λ xs. get_or xs i other) (map-map (train_history d routes plan k) (λ n. record { 0 = n }) (one_to (length d.trains)))
            ∙ get_or-counted (λ n. train_history d routes plan k (record { 0 = n })) 1 (length d.trains) i other (omega arith)
            ∙ ap (λ n. train_history d routes plan k (record { 0 = n })) (let e : 1 + i ≡ suc i = omega arith in e)

    pub length-granted : (t : TrainNo) → length (train_history d routes plan k t).grants ≡ length (path plan t)
    length-granted t = length-map (λ p. (p.1, histories.grant_tick d routes plan k t p.0)) (enumerate_from 1 (path plan t)) ∙ length-enumerated 1 (path plan t)

    pub commands_told : (t : TrainNo) → IsTrain d t → command_numbers (history_at d routes plan k) t ≡ requirements.command_numbers d routes plan t
    commands_told t is = ap (λ (h : TrainHistory). one_to (length h.grants)) (train_told t is) ∙ ap one_to (length-granted t)

    pub visits_there : (t : TrainNo) → length (visits_of_train d routes (of_plan routes plan) t) ≡ length (train_of d t).visits
    visits_there t = length-visits_on (train_of d t).visits (path_nodes_of_train d routes (of_plan routes plan) t)

    pub length-visits : (t : TrainNo) → length (train_history d routes plan k t).visits ≡ length (train_of d t).visits
    length-visits t = length-map (visit_made d routes plan k t) (visits_of_train d routes (of_plan routes plan) t) ∙ visits_there t

    pub visits_told : (t : TrainNo) → IsTrain d t → visit_numbers (history_at d routes plan k) t ≡ requirements.visit_numbers d t
    visits_told t is = ap (λ (h : TrainHistory). one_to (length h.visits)) (train_told t is) ∙ ap one_to (length-visits t)

    pub grant_told : (t : TrainNo) → IsTrain d t → (j : ℕ) → 1 ≤ j → j ≤ length (path plan t) → grant_tick (history_at d routes plan k) t j ≡ histories.grant_tick d routes plan k t j
    grant_told t is zero low high = absurd (omega arith)
    grant_told t is (suc j) low high =
        ap (λ (h : TrainHistory). (get_or h.grants j (record { 0 = 0 }, None)).1) (train_told t is)
        ∙ entry-enumerated (histories.grant_tick d routes plan k t) (record { 0 = 0 }, None) 1 (path plan t) j (omega arith)
        ∙ ap (histories.grant_tick d routes plan k t) (let e : 1 + j ≡ suc j = omega arith in e)

    tick_made : (t : TrainNo) (place : Option PathNode) → option_map (λ v. v.1) (visit_made d routes plan k t place) ≡ option_and_then (pass_tick d routes (of_plan routes plan) k t) place
    tick_made t None = refl
    tick_made t (Some path_node) = go (pass_tick d routes (of_plan routes plan) k t path_node)
      where
        go : (o : Option ℕ) → option_map (λ (v : NodeNo × ℕ). v.1) (option_map (λ i. (path_node.node, i)) o) ≡ o
        go None = refl
        go (Some i) = refl

    pub some_made : (t : TrainNo) (place : Option PathNode) → is_some (visit_made d routes plan k t place) ≡ is_some (option_and_then (pass_tick d routes (of_plan routes plan) k t) place)
    some_made t None = refl
    some_made t (Some path_node) = go (pass_tick d routes (of_plan routes plan) k t path_node)
      where
        go : (o : Option ℕ) → is_some {T = NodeNo × ℕ} (option_map (λ i. (path_node.node, i)) o) ≡ is_some o
        go None = refl
        go (Some i) = refl

    pub visit_told : (t : TrainNo) → IsTrain d t → (j : ℕ) → visit_tick (history_at d routes plan k) t j ≡ visits.visit_tick d routes (of_plan routes plan) k t j
    visit_told t is j =
        ap (λ (h : TrainHistory). option_map (λ v. v.1) (entry None h.visits j)) (train_told t is)
        ∙ ap (option_map (λ v. v.1)) (entry-map (visit_made d routes plan k t) None (visits_of_train d routes (of_plan routes plan) t) j)
        ∙ tick_made t (entry None (visits_of_train d routes (of_plan routes plan) t) j)
