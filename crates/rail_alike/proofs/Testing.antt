-- The test of trains that are alike.
use Rattle.std.proofs.Common.{◌≡◌, ◌↔◌, ℕ, Bool, true, ◌&&◌, ◌==◌, nat_le, List, [], ◌∷◌, length, refl, sym, ap, ap₂, subst, ◌∙◌, arith, leb-true, le-leb, eqb-true, eq-eqb}
use Rattle.std.specs.List.{list_any, list_all, zip}
use Rattle.rail_base.specs.declared.station.Station.{Station}
use Rattle.rail_base.specs.declared.station.Order.{Order}
use Rattle.rail_base.specs.declared.station.Within.{Within}
use Rattle.rail_base.specs.declared.station.NodeNo.{NodeNo}
use Rattle.rail_base.specs.declared.station.VehicleNo.{VehicleNo}
use Rattle.rail_base.specs.declared.station.TrainNo.{TrainNo}
use Rattle.rail_base.specs.Members.{In}
use Rattle.rail_base.specs.Stations.{train_of, IsTrain}
use Rattle.rail_spec.specs.Plans.{is_train}
use Rattle.rail_base.proofs.Members.{and_left, and_right, and_both, list_all_at, list_any_gives, list_any_from}
use Rattle.rail_base.proofs.Lists.{list_all_from}
use Rattle.rail_alike.specs.Renaming.{renamed_order, renamed_within}
use Rattle.rail_alike.specs.Alike.{exchange, AreAlike}
use Rattle.rail_alike.specs.Tests.{are_same, is_node, is_number, is_order, is_within, is_named, same_vehicle, same_visits, same_dwells, orders_stay, withins_stay, are_alike}
use Rattle.rail_alike.proofs.Equivariant.{same_train}

-- ---- what the tests say

members_told : {X : Type 0} (same : X → X → Bool) → ((x y : X) → same x y ≡ true → x ≡ y) → (xs ys : List X) → length xs ≡ length ys → list_all (λ p. same p.0 p.1) (zip xs ys) ≡ true → xs ≡ ys
members_told same h [] [] n e = refl
members_told same h [] (y ∷ ys) n e = absurd (omega arith)
members_told same h (x ∷ xs) [] n e = absurd (omega arith)
members_told {X} same h (x ∷ xs) (y ∷ ys) n e =
    let rest = list_all (λ p. same p.0 p.1) (zip xs ys) in
    ap₂ (λ (a : X) (b : List X). a ∷ b) (h x y (and_left (same x y) rest e)) (members_told same h xs ys (omega arith) (and_right (same x y) rest e))

list_told : {X : Type 0} (same : X → X → Bool) → ((x y : X) → same x y ≡ true → x ≡ y) → (xs ys : List X) → are_same same xs ys ≡ true → xs ≡ ys
list_told same h xs ys e =
    let members = list_all (λ p. same p.0 p.1) (zip xs ys) in
    members_told same h xs ys (eqb-true (length xs) (length ys) (and_left (length xs == length ys) members e)) (and_right (length xs == length ys) members e)

members_same : {X : Type 0} (same : X → X → Bool) → ((x : X) → same x x ≡ true) → (xs : List X) → list_all (λ p. same p.0 p.1) (zip xs xs) ≡ true
members_same same h [] = refl
members_same same h (x ∷ xs) = and_both (same x x) _ (h x) (members_same same h xs)

list_same : {X : Type 0} (same : X → X → Bool) → ((x : X) → same x x ≡ true) → (xs : List X) → are_same same xs xs ≡ true
list_same same h xs = and_both _ _ (eq-eqb (length xs) (length xs) refl) (members_same same h xs)

node_told : (m n : NodeNo) → is_node m n ≡ true → m ≡ n
node_told m n e = ap (λ k. record { 0 = k }) (eqb-true m.0 n.0 e)

visits_told : (xs ys : List (List NodeNo)) → are_same (are_same is_node) xs ys ≡ true → xs ≡ ys
visits_told = list_told (are_same is_node) (list_told is_node node_told)

visits_same : (xs : List (List NodeNo)) → are_same (are_same is_node) xs xs ≡ true
visits_same = list_same (are_same is_node) (list_same is_node (λ n. eq-eqb n.0 n.0 refl))

numbers_told : (xs ys : List ℕ) → are_same is_number xs ys ≡ true → xs ≡ ys
numbers_told = list_told is_number (λ m n e. eqb-true m n e)

numbers_same : (xs : List ℕ) → are_same is_number xs xs ≡ true
numbers_same = list_same is_number (λ n. eq-eqb n n refl)

train_told : (t u : TrainNo) → is_train t u ≡ true → t ≡ u
train_told t u e = same_train t u (eqb-true t.0 u.0 e)

order_told : (a b : Order) → is_order a b ≡ true → b ≡ a
order_told a b e =
    let abc = and_left _ (a.then_visit == b.then_visit) e in
    let ab = and_left _ (is_train a.then_train b.then_train) abc in
    let p : b.first_train ≡ a.first_train = sym (train_told a.first_train b.first_train (and_left _ (a.first_visit == b.first_visit) ab)) in
    let q : b.first_visit ≡ a.first_visit = sym (eqb-true a.first_visit b.first_visit (and_right (is_train a.first_train b.first_train) _ ab)) in
    let r : b.then_train ≡ a.then_train = sym (train_told a.then_train b.then_train (and_right (is_train a.first_train b.first_train && (a.first_visit == b.first_visit)) _ abc)) in
    let s : b.then_visit ≡ a.then_visit = sym (eqb-true a.then_visit b.then_visit (and_right (is_train a.first_train b.first_train && (a.first_visit == b.first_visit) && is_train a.then_train b.then_train) _ e)) in
    ap₂ (λ (x : TrainNo) (y : ℕ). let o : Order = record { first_train = x; first_visit = y; then_train = b.then_train; then_visit = b.then_visit } in o) p q
    ∙ ap₂ (λ (x : TrainNo) (y : ℕ). let o : Order = record { first_train = a.first_train; first_visit = a.first_visit; then_train = x; then_visit = y } in o) r s

order_same : (a : Order) → is_order a a ≡ true
order_same a = and_both _ _ (and_both _ _ (and_both _ _ (eq-eqb a.first_train.0 a.first_train.0 refl) (eq-eqb a.first_visit a.first_visit refl)) (eq-eqb a.then_train.0 a.then_train.0 refl)) (eq-eqb a.then_visit a.then_visit refl)

within_told : (a b : Within) → is_within a b ≡ true → b ≡ a
within_told a b e =
    let abcd = and_left _ (a.max_ms == b.max_ms) e in
    let abc = and_left _ (a.to_visit == b.to_visit) abcd in
    let ab = and_left _ (is_train a.to_train b.to_train) abc in
    let p : b.from_train ≡ a.from_train = sym (train_told a.from_train b.from_train (and_left _ (a.from_visit == b.from_visit) ab)) in
    let q : b.from_visit ≡ a.from_visit = sym (eqb-true a.from_visit b.from_visit (and_right (is_train a.from_train b.from_train) _ ab)) in
    let r : b.to_train ≡ a.to_train = sym (train_told a.to_train b.to_train (and_right (is_train a.from_train b.from_train && (a.from_visit == b.from_visit)) _ abc)) in
    let s : b.to_visit ≡ a.to_visit = sym (eqb-true a.to_visit b.to_visit (and_right (is_train a.from_train b.from_train && (a.from_visit == b.from_visit) && is_train a.to_train b.to_train) _ abcd)) in
    let m : b.max_ms ≡ a.max_ms = sym (eqb-true a.max_ms b.max_ms (and_right (is_train a.from_train b.from_train && (a.from_visit == b.from_visit) && is_train a.to_train b.to_train && (a.to_visit == b.to_visit)) _ e)) in
    ap₂ (λ (x : TrainNo) (y : ℕ). let o : Within = record { from_train = x; from_visit = y; to_train = b.to_train; to_visit = b.to_visit; max_ms = b.max_ms } in o) p q
    ∙ ap₂ (λ (x : TrainNo) (y : ℕ). let o : Within = record { from_train = a.from_train; from_visit = a.from_visit; to_train = x; to_visit = y; max_ms = b.max_ms } in o) r s
    ∙ ap (λ (y : ℕ). let o : Within = record { from_train = a.from_train; from_visit = a.from_visit; to_train = a.to_train; to_visit = a.to_visit; max_ms = y } in o) m

within_same : (a : Within) → is_within a a ≡ true
within_same a = and_both _ _ (and_both _ _ (and_both _ _ (and_both _ _ (eq-eqb a.from_train.0 a.from_train.0 refl) (eq-eqb a.from_visit a.from_visit refl)) (eq-eqb a.to_train.0 a.to_train.0 refl)) (eq-eqb a.to_visit a.to_visit refl)) (eq-eqb a.max_ms a.max_ms refl)

-- each renamed member is one of the list
all_there : {X : Type 0} (same : X → X → Bool) → ((x y : X) → same x y ≡ true → y ≡ x) → (f : X → X) (xs ys : List X) → list_all (λ x. list_any (same (f x)) ys) xs ≡ true → (x : X) → In x xs → In (f x) ys
all_there {X} same told f xs ys h x m = go (list_any_gives (same (f x)) ys (list_all_at (λ x. list_any (same (f x)) ys) xs x h m))
  where
    go : ((y : X) × In y ys × (same (f x) y ≡ true)) → In (f x) ys
    go (y, k, e) = subst (λ z. In z ys) (told (f x) y e) k

there_all : {X : Type 0} (same : X → X → Bool) → ((x : X) → same x x ≡ true) → (f : X → X) (xs ys : List X) → ((x : X) → In x xs → In (f x) ys) → list_all (λ x. list_any (same (f x)) ys) xs ≡ true
there_all same told f xs ys h = list_all_from _ xs (λ x m. list_any_from (same (f x)) ys (f x) (h x m) (told (f x)))

-- ---- alike

module _ (d : Station) (t u : TrainNo) where
  named_told : (x : TrainNo) → is_named d x ≡ true → IsTrain d x
  named_told x h = (leb-true 1 x.0 (and_left _ (nat_le x.0 (length d.trains)) h), leb-true x.0 (length d.trains) (and_right (nat_le 1 x.0) _ h))

  named_tested : (x : TrainNo) → IsTrain d x → is_named d x ≡ true
  named_tested x h = and_both _ _ (le-leb 1 x.0 h.0) (le-leb x.0 (length d.trains) h.1)

  pub alike_told : are_alike d t u ≡ true → AreAlike d t u
  alike_told h =
      let h5 = and_left _ (withins_stay d t u) h in
      let h4 = and_left _ (orders_stay d t u) h5 in
      let h4v = and_left _ (same_dwells d t u) h4 in
      let h3 = and_left _ (same_visits d t u) h4v in
      let h2 = and_left _ (same_vehicle d t u) h3 in
      record {
        one = named_told t (and_left _ (is_named d u) h2);
        other = named_told u (and_right (is_named d t) _ h2);
        vehicle = ap (λ k. record { 0 = k }) (eqb-true (train_of d t).vehicle.0 (train_of d u).vehicle.0 (and_right (is_named d t && is_named d u) _ h3));
        visits = visits_told (train_of d t).visits (train_of d u).visits (and_right (is_named d t && is_named d u && same_vehicle d t u) _ h4v);
        dwells = numbers_told (train_of d t).dwell_ms (train_of d u).dwell_ms (and_right (is_named d t && is_named d u && same_vehicle d t u && same_visits d t u) _ h4);
        order = all_there is_order order_told (renamed_order (exchange t u)) d.orders d.orders (and_right (is_named d t && is_named d u && same_vehicle d t u && same_visits d t u && same_dwells d t u) _ h5);
        within = all_there is_within within_told (renamed_within (exchange t u)) d.withins d.withins (and_right (is_named d t && is_named d u && same_vehicle d t u && same_visits d t u && same_dwells d t u && orders_stay d t u) _ h);
      }

  pub alike_tested : AreAlike d t u → are_alike d t u ≡ true
  alike_tested a =
      and_both _ _ (and_both _ _ (and_both _ _ (and_both _ _ (and_both _ _ (and_both _ _ (named_tested t a.one) (named_tested u a.other))
      (eq-eqb (train_of d t).vehicle.0 (train_of d u).vehicle.0 (ap (λ (v : VehicleNo). v.0) a.vehicle)))
      (subst (λ vs. are_same (are_same is_node) (train_of d t).visits vs ≡ true) a.visits (visits_same (train_of d t).visits)))
      (subst (λ ns. are_same is_number (train_of d t).dwell_ms ns ≡ true) a.dwells (numbers_same (train_of d t).dwell_ms)))
      (there_all is_order order_same (renamed_order (exchange t u)) d.orders d.orders a.order))
      (there_all is_within within_same (renamed_within (exchange t u)) d.withins d.withins a.within)

  pub alike_exactly : (are_alike d t u ≡ true) ↔ AreAlike d t u
  alike_exactly = (alike_told, alike_tested)
