-- Neighbors among the trains that a within doesn't name: which they are, and that they are so whatever its greatest
-- time is.
use Rattle.std.proofs.Common.{◌≡◌, ◌↔◌, ◌≢◌, ℕ, zero, suc, ◌-◌, ◌≤◌, ◌<◌, ◌⊎◌, inl, inr, Bool, true, false, cond, not, ◌&&◌, ◌||◌, ◌==◌, nat_lt, List, [], ◌∷◌, ◌++◌, filter, flat_map, length, get_or, Some, find, refl, sym, ap, ap₂, subst, ◌∙◌, arith, eqb-true, eq-eqb, true≢false}
use Rattle.std.proofs.Math.ListN.{set}
use Rattle.std.proofs.lemmas.List.{get_or-set_same, get_or-set_other, length-set}
use Rattle.rail_base.specs.declared.station.Station.{Station}
use Rattle.rail_base.specs.declared.station.Within.{Within}
use Rattle.rail_base.specs.declared.station.TrainNo.{TrainNo}
use Rattle.rail_base.specs.Members.{In}
use Rattle.rail_base.specs.Stations.{trains, within_of, no_within, IsTrain}
use Rattle.rail_base.proofs.Members.{in_filter, is_false, same_bool, either, or_left, or_right, false_unless}
use Rattle.rail_base.proofs.Lists.{in_filter_back, pairs_filter}
use Rattle.rail_spec.specs.Plans.{is_train}
use Rattle.rail_alike.specs.Renaming.{renamed_within}
use Rattle.rail_alike.specs.Alike.{exchange, AreAlike, AreNeighborsBeside, IsNamedBy, with_max_ms}
use Rattle.rail_alike.specs.Tests.{are_alike, is_later_alike, is_named_by, next_among, pair_with, neighbors_among, neighbors_beside, trains_beside}
use Rattle.rail_alike.specs.Turns.{ArePairs, AreNamed}
use Rattle.rail_alike.proofs.Equivariant.{same_train}
use Rattle.rail_alike.proofs.Exchanging.{back_again, untouched}
use Rattle.rail_alike.proofs.Feasibility.{in_trains, in_trains_back}
use Rattle.rail_alike.proofs.Testing.{alike_told, alike_tested}
use Rattle.rail_alike.proofs.Next.{AreRising, trains_rise, of_pair, from_next, pairs_alike}

module _ (d : Station) (w : ℕ) where
  named_told : (t : TrainNo) → is_named_by d w t ≡ true → IsNamedBy d w t
  named_told t h = go (either (is_train (within_of d w).from_train t) (is_train (within_of d w).to_train t) h)
    where
      go : (is_train (within_of d w).from_train t ≡ true) ⊎ (is_train (within_of d w).to_train t ≡ true) → IsNamedBy d w t
      go (inl e) = inl (same_train (within_of d w).from_train t (eqb-true (within_of d w).from_train.0 t.0 e))
      go (inr e) = inr (same_train (within_of d w).to_train t (eqb-true (within_of d w).to_train.0 t.0 e))

  named_tested : (t : TrainNo) → IsNamedBy d w t → is_named_by d w t ≡ true
  named_tested t (inl e) = or_left (is_train (within_of d w).from_train t) (is_train (within_of d w).to_train t) (eq-eqb (within_of d w).from_train.0 t.0 (ap (λ (x : TrainNo). x.0) e))
  named_tested t (inr e) = or_right (is_train (within_of d w).from_train t) (is_train (within_of d w).to_train t) (eq-eqb (within_of d w).to_train.0 t.0 (ap (λ (x : TrainNo). x.0) e))

  -- the train is one that the within doesn't name
  beside : (t : TrainNo) → IsTrain d t → (IsNamedBy d w t → ⊥) → In t (trains_beside d w)
  beside t i h = in_filter (λ t. not (is_named_by d w t)) (trains d) t (in_trains d t i) (ap not (false_unless (is_named_by d w t) (λ e. h (named_told t e))))

  beside_back : (t : TrainNo) → In t (trains_beside d w) → IsTrain d t × (IsNamedBy d w t → ⊥)
  beside_back t m =
      let k = in_filter_back (λ t. not (is_named_by d w t)) (trains d) t m in
      (in_trains_back d t k.0, λ h. true≢false (sym (named_tested t h) ∙ is_false (is_named_by d w t) k.1))

  rise : AreRising (trains_beside d w)
  rise = pairs_filter (λ (t u : TrainNo). t.0 < u.0) (λ t. not (is_named_by d w t)) (trains d) (trains_rise d)

  pub beside_exactly : (t u : TrainNo) → In (t, u) (neighbors_beside d w) ↔ AreNeighborsBeside d w t u
  beside_exactly t u = (told, from)
    where
      told : In (t, u) (neighbors_beside d w) → AreNeighborsBeside d w t u
      told m =
          let n = of_pair d (trains_beside d w) rise (t, u) m in
          record {
            alike = n.alike;
            later = n.later;
            one = (beside_back t n.one).1;
            other = (beside_back u n.other).1;
            next = λ x l h free a. n.next x (beside x a.other free) l h a;
          }

      from : AreNeighborsBeside d w t u → In (t, u) (neighbors_beside d w)
      from n =
          let a = n.alike in
          from_next d (trains_beside d w) rise t u (record {
            one = beside t a.one n.one;
            other = beside u a.other n.other;
            alike = a;
            later = n.later;
            next = λ x i l h b. n.next x l h (beside_back x i).1 b;
          })

  pub beside_alike : ArePairs d (neighbors_beside d w)
  beside_alike = pairs_alike d (trains_beside d w) rise

  pub beside_named : AreNamed d (neighbors_beside d w)
  beside_named p m = let a = (beside_alike p m).0 in (a.one, a.other)

-- ---- lists that differ at one place

same_or_not : (j i : ℕ) → (j ≡ i) ⊎ (j ≢ i)
same_or_not j i = go (j == i) refl
  where
    go : (b : Bool) → (j == i) ≡ b → (j ≡ i) ⊎ (j ≢ i)
    go true e = inl (eqb-true j i e)
    go false e = inr (λ same. true≢false (sym (eq-eqb j i same) ∙ e))

-- the place of a member
place_of : {X : Type 0} (other : X) (xs : List X) (x : X) → In x xs → (j : ℕ) × (j < length xs) × (get_or xs j other ≡ x)
place_of other [] x m = absurd m
place_of other (y ∷ ys) x (inl e) = (0, omega arith, e)
place_of other (y ∷ ys) x (inr m) = let k = place_of other ys x m in (suc k.0, let l = k.1 in omega arith, k.2)

at_place : {X : Type 0} (other : X) (xs : List X) (j : ℕ) → j < length xs → In (get_or xs j other) xs
at_place other [] j l = absurd (omega arith)
at_place other (x ∷ xs) zero l = inl refl
at_place other (x ∷ xs) (suc j) l = inr (at_place other xs j (omega arith))

-- the two lists have the same members at all places but one
record AreSameBut {X : Type 0} (other : X) (i : ℕ) (xs ys : List X) : Type 0 where
  long : length xs ≡ length ys
  place : i < length xs
  same : (j : ℕ) → j ≢ i → get_or xs j other ≡ get_or ys j other

module _ {X : Type 0} (other : X) (i : ℕ) (xs ys : List X) (are : AreSameBut other i xs ys) (f : X → X)
    (back : (x : X) → f (f x) ≡ x) (one : f (get_or xs i other) ≡ get_or xs i other) (two : f (get_or ys i other) ≡ get_or ys i other)
    (stays : (x : X) → In x xs → In (f x) xs) where
  -- what makes members of members of the one, and leaves what is at that place, does so in the other
  still_stays : (y : X) → In y ys → In (f y) ys
  still_stays y m = go (place_of other ys y m)
    where
      go : ((j : ℕ) × (j < length ys) × (get_or ys j other ≡ y)) → In (f y) ys
      go (j, l, e) = elsewhere (same_or_not j i)
        where
          elsewhere : (j ≡ i) ⊎ (j ≢ i) → In (f y) ys
          elsewhere (inl at) =
              let is : y ≡ get_or ys i other = sym e ∙ ap (λ k. get_or ys k other) at in
              subst (λ z. In z ys) (is ∙ (sym two ∙ ap f (sym is))) m
          elsewhere (inr away) =
              let is : get_or xs j other ≡ y = are.same j away ∙ e in
              let there : In y xs = subst (λ z. In z xs) is (at_place other xs j (let k = are.long in omega arith)) in
              at (place_of other xs (f y) (stays y there))
            where
              at : ((k : ℕ) × (k < length xs) × (get_or xs k other ≡ f y)) → In (f y) ys
              at (k, h, p) = by (same_or_not k i)
                where
                  by : (k ≡ i) ⊎ (k ≢ i) → In (f y) ys
                  by (inl q) =
                      let made : get_or xs i other ≡ f y = ap (λ n. get_or xs n other) (sym q) ∙ p in
                      let is : f y ≡ y = sym made ∙ (sym one ∙ (ap f made ∙ back y)) in
                      subst (λ z. In z ys) (sym is) m
                  by (inr q) = subst (λ z. In z ys) (sym (are.same k q) ∙ p) (at_place other ys k (let n = are.long in omega arith))

-- ---- tests that agree on members

find_each : {X : Type 0} (p q : X → Bool) (xs : List X) → ((x : X) → In x xs → p x ≡ q x) → find p xs ≡ find q xs
find_each p q [] h = refl
find_each p q (x ∷ xs) h = ap₂ (λ (b : Bool) o. cond b (Some x) o) (h x (inl refl)) (find_each p q xs (λ y m. h y (inr m)))

filter_each : {X : Type 0} (p q : X → Bool) (xs : List X) → ((x : X) → p x ≡ q x) → filter p xs ≡ filter q xs
filter_each p q [] h = refl
filter_each p q (x ∷ xs) h = ap₂ (λ (b : Bool) ys. cond b (x ∷ ys) ys) (h x) (filter_each p q xs h)

flat_each : {X Y : Type 0} (f g : X → List Y) (xs : List X) → ((x : X) → In x xs → f x ≡ g x) → flat_map f xs ≡ flat_map g xs
flat_each f g [] h = refl
flat_each f g (x ∷ xs) h = ap₂ (λ a b. a ++ b) (h x (inl refl)) (flat_each f g xs (λ y m. h y (inr m)))

-- ---- another greatest time

module _ (d : Station) (i ms : ℕ) (within : i < length d.withins) where
  abbrev old : Within
  old = get_or d.withins i no_within

  abbrev new : Within
  new = record old { max_ms = ms }

  abbrev with : Station
  with = record d { withins = set d.withins i new }

  at_it : get_or (set d.withins i new) i no_within ≡ new
  at_it = get_or-set_same d.withins i new no_within within

  are_same_but : AreSameBut no_within i d.withins (set d.withins i new)
  are_same_but = record {
    long = sym (length-set d.withins i new);
    place = within;
    same = λ j away. sym (get_or-set_other d.withins i j new no_within away);
  }

  are_same_back : AreSameBut no_within i (set d.withins i new) d.withins
  are_same_back = record {
    long = length-set d.withins i new;
    place = let e = length-set d.withins i new in omega arith;
    same = λ j away. get_or-set_other d.withins i j new no_within away;
  }

  named_alike : (t : TrainNo) → is_named_by with (suc i) t ≡ is_named_by d (suc i) t
  named_alike t = ap (λ (w : Within). is_train w.from_train t || is_train w.to_train t) at_it

  module _ (t u : TrainNo) (one : IsNamedBy d (suc i) t → ⊥) (other : IsNamedBy d (suc i) u → ⊥) where
    -- exchanging the two leaves whoever is neither
    leaves : (x : TrainNo) → (x ≡ t → ⊥) → (x ≡ u → ⊥) → exchange t u x ≡ x
    leaves x p q = untouched t u x (false_unless (is_train x t) (λ e. p (same_train x t (eqb-true x.0 t.0 e)))) (false_unless (is_train x u) (λ e. q (same_train x u (eqb-true x.0 u.0 e))))

    from_left : exchange t u old.from_train ≡ old.from_train
    from_left = leaves old.from_train (λ e. one (inl e)) (λ e. other (inl e))

    to_left : exchange t u old.to_train ≡ old.to_train
    to_left = leaves old.to_train (λ e. one (inr e)) (λ e. other (inr e))

    abbrev ends : Within → TrainNo → TrainNo → Within
    ends w a b = record w { from_train = a; to_train = b }

    within_left : (w : Within) → w.from_train ≡ old.from_train → w.to_train ≡ old.to_train → renamed_within (exchange t u) w ≡ w
    within_left w p q = ap₂ (ends w) (ap (exchange t u) p ∙ (from_left ∙ sym p)) (ap (exchange t u) q ∙ (to_left ∙ sym q))

    within_back : (w : Within) → renamed_within (exchange t u) (renamed_within (exchange t u) w) ≡ w
    within_back w = ap₂ (ends w) (back_again t u w.from_train) (back_again t u w.to_train)

    new_left : renamed_within (exchange t u) (get_or (set d.withins i new) i no_within) ≡ get_or (set d.withins i new) i no_within
    new_left = ap (renamed_within (exchange t u)) at_it ∙ (within_left new refl refl ∙ sym at_it)

    alike_then : AreAlike d t u → AreAlike with t u
    alike_then a = record {
      one = a.one;
      other = a.other;
      vehicle = a.vehicle;
      visits = a.visits;
      dwells = a.dwells;
      order = a.order;
      within = still_stays no_within i d.withins (set d.withins i new) are_same_but (renamed_within (exchange t u)) within_back (within_left old refl refl) new_left a.within;
    }

    alike_before : AreAlike with t u → AreAlike d t u
    alike_before a = record {
      one = a.one;
      other = a.other;
      vehicle = a.vehicle;
      visits = a.visits;
      dwells = a.dwells;
      order = a.order;
      within = still_stays no_within i (set d.withins i new) d.withins are_same_back (renamed_within (exchange t u)) within_back new_left (within_left old refl refl) a.within;
    }

    alike_same : are_alike with t u ≡ are_alike d t u
    alike_same = same_bool (are_alike with t u) (are_alike d t u) (λ h. alike_tested d t u (alike_before (alike_told with t u h))) (λ h. alike_tested with t u (alike_then (alike_told d t u h)))

  among_same : neighbors_among with (trains_beside d (suc i)) ≡ neighbors_among d (trains_beside d (suc i))
  among_same = flat_each (λ t. pair_with t (next_among with ts t)) (λ t. pair_with t (next_among d ts t)) ts (λ t m.
      ap (pair_with t) (find_each (is_later_alike with t) (is_later_alike d t) ts (λ u k.
      ap (λ b. nat_lt t.0 u.0 && b) (alike_same t u (beside_back d (suc i) t m).1 (beside_back d (suc i) u k).1))))
    where
      ts : List TrainNo
      ts = trains_beside d (suc i)

  same_beside : neighbors_beside with (suc i) ≡ neighbors_beside d (suc i)
  same_beside = ap (neighbors_among with) (filter_each (λ t. not (is_named_by with (suc i) t)) (λ t. not (is_named_by d (suc i) t)) (trains d) (λ t. ap not (named_alike t))) ∙ among_same

pub beside_same : (d : Station) (w ms : ℕ) → 1 ≤ w → w ≤ length d.withins → neighbors_beside (with_max_ms d w ms) w ≡ neighbors_beside d w
beside_same d zero ms l h = absurd (omega arith)
beside_same d (suc i) ms l h =
    ap (λ k. neighbors_beside (record d { withins = set d.withins k (new d i ms (omega arith)) }) (suc i)) (let e : suc i - 1 ≡ i = omega arith in e)
    ∙ same_beside d i ms (omega arith)
