-- The least of what a train takes on its ways.
use Rattle.std.proofs.Common.{◌≡◌, ℕ, ◌≤◌, ◌<◌, ◌⊎◌, min, inl, inr, List, [], ◌∷◌, map, Option, Some, None, refl, sym, ap, subst, ◌∙◌, arith}
use Rattle.rail_base.specs.declared.station.Station.{Station}
use Rattle.rail_base.specs.declared.station.TrainNo.{TrainNo}
use Rattle.rail_base.specs.declared.route.Route.{Route}
use Rattle.rail_base.specs.declared.route.RouteNo.{RouteNo}
use Rattle.rail_base.specs.Members.{In}
use Rattle.rail_base.proofs.Lists.{in_map, in_map_back}
use Rattle.rail_base.proofs.Members.{below_or_not}
use Rattle.plan_ways.specs.Paths.{ArePlanWays, AreListed}
use Rattle.way_times.specs.Times.{LeastAlone, Takes, Never, Many, least_of, lesser, ticks_alone}

-- ---- the lesser of two

pub lesser_assoc : (a b c : Option ℕ) → lesser (lesser a b) c ≡ lesser a (lesser b c)
lesser_assoc None b c = refl
lesser_assoc (Some a) None c = refl
lesser_assoc (Some a) (Some b) None = refl
lesser_assoc (Some a) (Some b) (Some c) = ap Some (omega arith)

lesser_none : (a b : Option ℕ) → lesser a b ≡ None → (a ≡ None) × (b ≡ None)
lesser_none None b e = (refl, e)
lesser_none (Some a) None e = cc
lesser_none (Some a) (Some b) e = cc

-- ---- the least of a list

none_there : (os : List (Option ℕ)) → least_of os ≡ None → (o : Option ℕ) → In o os → o ≡ None
none_there [] e o m = absurd m
none_there (x ∷ os) e o (inl same) = sym same ∙ (lesser_none x (least_of os) e).0
none_there (x ∷ os) e o (inr m) = none_there os (lesser_none x (least_of os) e).1 o m

least_low : (os : List (Option ℕ)) (n k : ℕ) → least_of os ≡ Some n → In (Some k) os → n ≤ k
least_low [] n k e m = absurd m
least_low (x ∷ os) n k e m = go x (least_of os) refl refl m e (λ r er i. least_low os r k er i)
  where
    go : (o rest : Option ℕ) → x ≡ o → least_of os ≡ rest → In (Some k) (x ∷ os) → lesser x (least_of os) ≡ Some n
        → ((r : ℕ) → least_of os ≡ Some r → In (Some k) os → r ≤ k) → n ≤ k
    go o rest eo er (inl same) h low = first rest er (ap (λ y. lesser y (least_of os)) (sym same) ∙ h)
      where
        first : (rest : Option ℕ) → least_of os ≡ rest → lesser (Some k) (least_of os) ≡ Some n → n ≤ k
        first None er h = let s : Some k ≡ Some n = sym (ap (lesser (Some k)) er) ∙ h in let same : k ≡ n = cc in omega arith
        first (Some r) er h = let s : Some (min k r) ≡ Some n = sym (ap (lesser (Some k)) er) ∙ h in let same : min k r ≡ n = cc in omega arith
    go None None eo er (inr i) h low = absurd (let s : None ≡ Some n = sym (ap (λ y. lesser y (least_of os)) eo ∙ er) ∙ h in cc)
    go (Some a) None eo er (inr i) h low = let nothing = none_there os er (Some k) i in cc
    go None (Some r) eo er (inr i) h low =
        let s : Some r ≡ Some n = sym (ap (λ y. lesser y (least_of os)) eo ∙ er) ∙ h in
        let same : r ≡ n = cc in
        subst (λ z. z ≤ k) same (low r er i)
    go (Some a) (Some r) eo er (inr i) h low =
        let s : Some (min a r) ≡ Some n = sym (ap (λ y. lesser y (least_of os)) eo ∙ ap (lesser (Some a)) er) ∙ h in
        let same : min a r ≡ n = cc in
        let bound = low r er i in
        omega arith

least_there : (os : List (Option ℕ)) (n : ℕ) → least_of os ≡ Some n → In (Some n) os
least_there [] n e = cc
least_there (x ∷ os) n e = go x (least_of os) refl refl (λ h. least_there os n h)
  where
    go : (o rest : Option ℕ) → x ≡ o → least_of os ≡ rest → (least_of os ≡ Some n → In (Some n) os) → In (Some n) (x ∷ os)
    go None rest eo er there = inr (there (sym (ap (λ y. lesser y (least_of os)) eo) ∙ e))
    go (Some a) None eo er there = inl (eo ∙ sym (ap (lesser (Some a)) er) ∙ sym (ap (λ y. lesser y (least_of os)) eo) ∙ e)
    go (Some a) (Some r) eo er there = either a r (sym (ap (λ y. lesser y (least_of os)) eo ∙ ap (lesser (Some a)) er) ∙ e) eo er there (at_most a r)
      where
        at_most : (a r : ℕ) → (min a r ≡ a) ⊎ (min a r ≡ r)
        at_most a r = pick (below_or_not a r)
          where
            pick : (a < r) ⊎ (r ≤ a) → (min a r ≡ a) ⊎ (min a r ≡ r)
            pick (inl l) = inl (omega arith)
            pick (inr l) = inr (omega arith)

        either : (a r : ℕ) → Some (min a r) ≡ Some n → x ≡ Some a → least_of os ≡ Some r → (least_of os ≡ Some n → In (Some n) os) → (min a r ≡ a) ⊎ (min a r ≡ r) → In (Some n) (x ∷ os)
        either a r s eo er there (inl m) = let same : a ≡ n = cc in inl (eo ∙ ap Some same)
        either a r s eo er there (inr m) = let same : r ≡ n = cc in inr (there (er ∙ ap Some same))

-- ---- on the ways of a train

module _ (d : Station) (routes : List Route) (t : TrainNo) (from to : ℕ) where
  abbrev pub taken : List RouteNo → Option ℕ
  taken way = ticks_alone d routes t way from to

  pub least_is : (ways : List (List RouteNo)) → ArePlanWays d routes t ways → (o : Option ℕ) → o ≡ least_of (map taken ways) → LeastAlone d routes t from to o
  least_is ways are None e = Never (λ rs w. none_there (map taken ways) (sym e) (taken rs) (in_map taken ways rs ((are rs).1 w)))
  least_is ways are (Some n) e =
      let there = in_map_back taken ways (Some n) (least_there (map taken ways) n (sym e)) in
      Takes n (record {
        way = there.0;
        is_way = (are there.0).0 there.1;
        takes = there.2;
        none_fewer = λ rs k w s. least_low (map taken ways) n k (sym e) (subst (λ o. In o (map taken ways)) s (in_map taken ways rs ((are rs).1 w)));
      })

  pub many_is : AreListed d routes t None → LeastAlone d routes t from to None
  many_is many = Many many
