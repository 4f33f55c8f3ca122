-- To exchange two trains that are alike is to name each by the other's number.
use Rattle.std.proofs.Common.{◌≡◌, Bool, true, false, cond, refl, sym, ap, ap₂, subst, ◌∙◌, eqb-true, eq-eqb, true≢false}
use Rattle.rail_base.specs.declared.station.Station.{Station}
use Rattle.rail_base.specs.declared.station.Order.{Order}
use Rattle.rail_base.specs.declared.station.Within.{Within}
use Rattle.rail_base.specs.declared.station.TrainNo.{TrainNo}
use Rattle.rail_base.specs.Members.{In}
use Rattle.rail_base.specs.Stations.{train_of, IsTrain}
use Rattle.rail_base.proofs.Members.{false_unless}
use Rattle.rail_spec.specs.Plans.{is_train}
use Rattle.rail_alike.specs.Renaming.{renamed_order, renamed_within, Renames}
use Rattle.rail_alike.specs.Alike.{exchange, AreAlike}
use Rattle.rail_alike.proofs.Equivariant.{same_train}

module _ (t u : TrainNo) where
  pub first_goes : exchange t u t ≡ u
  first_goes = ap (λ b. cond b u (cond (is_train t u) t t)) (eq-eqb t.0 t.0 refl)

  pub second_goes : exchange t u u ≡ t
  second_goes = go (is_train u t) refl
    where
      go : (b : Bool) → is_train u t ≡ b → exchange t u u ≡ t
      go true e = ap (λ b. cond b u (cond (is_train u u) t u)) e ∙ same_train u t (eqb-true u.0 t.0 e)
      go false e = ap (λ b. cond b u (cond (is_train u u) t u)) e ∙ ap (λ b. cond b t u) (eq-eqb u.0 u.0 refl)

  -- the first of the two, or the second, or neither, which stays
  pub data Which (x : TrainNo) : Type 0 where
    First : x ≡ t → Which x
    Second : x ≡ u → Which x
    Neither : exchange t u x ≡ x → Which x

  pub which : (x : TrainNo) → Which x
  which x = go (is_train x t) refl (is_train x u) refl
    where
      go : (a : Bool) → is_train x t ≡ a → (b : Bool) → is_train x u ≡ b → Which x
      go true p b q = First (same_train x t (eqb-true x.0 t.0 p))
      go false p true q = Second (same_train x u (eqb-true x.0 u.0 q))
      go false p false q = Neither (ap₂ (λ (a b : Bool). cond a u (cond b t x)) p q)

  -- what holds of the two holds of each train's
  pub by_which : (P : TrainNo → TrainNo → Type 0) → P t u → P u t → ((x : TrainNo) → P x x) → (x : TrainNo) → P x (exchange t u x)
  by_which P a b c x = go (which x)
    where
      go : Which x → P x (exchange t u x)
      go (First e) = subst (λ y. P y (exchange t u y)) (sym e) (subst (P t) (sym first_goes) a)
      go (Second e) = subst (λ y. P y (exchange t u y)) (sym e) (subst (P u) (sym second_goes) b)
      go (Neither e) = subst (P x) (sym e) (c x)

  pub back_again : (x : TrainNo) → exchange t u (exchange t u x) ≡ x
  back_again x = go (which x)
    where
      go : Which x → exchange t u (exchange t u x) ≡ x
      go (First e) = ap (λ y. exchange t u (exchange t u y)) e ∙ ap (exchange t u) first_goes ∙ second_goes ∙ sym e
      go (Second e) = ap (λ y. exchange t u (exchange t u y)) e ∙ ap (exchange t u) second_goes ∙ first_goes ∙ sym e
      go (Neither e) = ap (exchange t u) e ∙ e

pub renames : (d : Station) (t u : TrainNo) → AreAlike d t u → Renames d (exchange t u)
renames d t u a = record {
  back = back_again t u;
  named = by_which t u (λ x y. IsTrain d x → IsTrain d y) (λ h. a.other) (λ h. a.one) (λ x h. h);
  vehicle = by_which t u (λ x y. (train_of d y).vehicle ≡ (train_of d x).vehicle) (sym a.vehicle) a.vehicle (λ x. refl);
  visits = by_which t u (λ x y. (train_of d y).visits ≡ (train_of d x).visits) (sym a.visits) a.visits (λ x. refl);
  dwells = by_which t u (λ x y. (train_of d y).dwell_ms ≡ (train_of d x).dwell_ms) (sym a.dwells) a.dwells (λ x. refl);
  order = a.order;
  within = a.within;
}

-- ---- trains that are like one train are alike

-- the tests of two numbers that differ, both ways
pub record Apart (t u : TrainNo) : Type 0 where
  pub one : is_train t u ≡ false
  pub other : is_train u t ≡ false

apart : (t u : TrainNo) → is_train t u ≡ false → Apart t u
apart t u e = record {
  one = e;
  other = false_unless (is_train u t) (λ h. true≢false (sym (eq-eqb t.0 u.0 (sym (eqb-true u.0 t.0 h))) ∙ e));
}

module _ (t u : TrainNo) where
  pub untouched : (x : TrainNo) → is_train x t ≡ false → is_train x u ≡ false → exchange t u x ≡ x
  untouched x p q = ap₂ (λ (a b : Bool). cond a u (cond b t x)) p q

  -- it doesn't matter which is said first
  either_way : (x : TrainNo) → exchange u t x ≡ exchange t u x
  either_way x = go (is_train x t) refl (is_train x u) refl
    where
      go : (a : Bool) → is_train x t ≡ a → (b : Bool) → is_train x u ≡ b → exchange u t x ≡ exchange t u x
      go true p b q = let e = same_train x t (eqb-true x.0 t.0 p) in ap (exchange u t) e ∙ (second_goes u t ∙ (sym (first_goes t u) ∙ ap (exchange t u) (sym e)))
      go false p true q = let e = same_train x u (eqb-true x.0 u.0 q) in ap (exchange u t) e ∙ (first_goes u t ∙ (sym (second_goes t u) ∙ ap (exchange t u) (sym e)))
      go false p false q = ap₂ (λ (a b : Bool). cond b t (cond a u x)) p q ∙ sym (untouched x p q)

module _ (d : Station) (f g : TrainNo → TrainNo) (same : (x : TrainNo) → f x ≡ g x) where
  order_alike : (o : Order) → In (renamed_order f o) d.orders → In (renamed_order g o) d.orders
  order_alike o = subst (λ x. In x d.orders) (ap₂ (λ (a b : TrainNo). let r : Order = record { first_train = a; first_visit = o.first_visit; then_train = b; then_visit = o.then_visit } in r) (same o.first_train) (same o.then_train))

  within_alike : (w : Within) → In (renamed_within f w) d.withins → In (renamed_within g w) d.withins
  within_alike w = subst (λ x. In x d.withins) (ap₂ (λ (a b : TrainNo). let r : Within = record { from_train = a; from_visit = w.from_visit; to_train = b; to_visit = w.to_visit; max_ms = w.max_ms } in r) (same w.from_train) (same w.to_train))

pub like_itself : (d : Station) (t : TrainNo) → IsTrain d t → AreAlike d t t
like_itself d t h = record {
  one = h;
  other = h;
  vehicle = refl;
  visits = refl;
  dwells = refl;
  order = λ o m. order_alike d (λ x. x) (exchange t t) (λ x. sym (stays x)) o m;
  within = λ w m. within_alike d (λ x. x) (exchange t t) (λ x. sym (stays x)) w m;
}
  where
    stays : (x : TrainNo) → exchange t t x ≡ x
    stays x = go (which t t x)
      where
        go : Which t t x → exchange t t x ≡ x
        go (First e) = ap (exchange t t) e ∙ (first_goes t t ∙ sym e)
        go (Second e) = ap (exchange t t) e ∙ (first_goes t t ∙ sym e)
        go (Neither e) = e

pub like_back : (d : Station) (t u : TrainNo) → AreAlike d t u → AreAlike d u t
like_back d t u a = record {
  one = a.other;
  other = a.one;
  vehicle = sym a.vehicle;
  visits = sym a.visits;
  dwells = sym a.dwells;
  order = λ o m. order_alike d (exchange t u) (exchange u t) (λ x. sym (either_way t u x)) o (a.order o m);
  within = λ w m. within_alike d (exchange t u) (exchange u t) (λ x. sym (either_way t u x)) w (a.within w m);
}

-- three exchanges of neighbors of three are one of the outer two
module _ (t u x : TrainNo) (tu : Apart t u) (ux : Apart u x) (tx : Apart t x) where
  three : (y : TrainNo) → exchange t u (exchange u x (exchange t u y)) ≡ exchange t x y
  three y = go (is_train y t) refl (is_train y u) refl (is_train y x) refl
    where
      is : (a : TrainNo) → is_train y a ≡ true → y ≡ a
      is a e = same_train y a (eqb-true y.0 a.0 e)

      of_first : y ≡ t → exchange t u (exchange u x (exchange t u y)) ≡ exchange t x y
      of_first e = ap (λ z. exchange t u (exchange u x (exchange t u z))) e
          ∙ (ap (λ z. exchange t u (exchange u x z)) (first_goes t u)
          ∙ (ap (exchange t u) (first_goes u x) ∙ (untouched t u x tx.other ux.other ∙ (sym (first_goes t x) ∙ ap (exchange t x) (sym e)))))

      of_second : y ≡ u → exchange t u (exchange u x (exchange t u y)) ≡ exchange t x y
      of_second e = ap (λ z. exchange t u (exchange u x (exchange t u z))) e
          ∙ (ap (λ z. exchange t u (exchange u x z)) (second_goes t u)
          ∙ (ap (exchange t u) (untouched u x t tu.one tx.one) ∙ (first_goes t u ∙ (sym (untouched t x u tu.other ux.one) ∙ ap (exchange t x) (sym e)))))

      of_third : y ≡ x → exchange t u (exchange u x (exchange t u y)) ≡ exchange t x y
      of_third e = ap (λ z. exchange t u (exchange u x (exchange t u z))) e
          ∙ (ap (λ z. exchange t u (exchange u x z)) (untouched t u x tx.other ux.other)
          ∙ (ap (exchange t u) (second_goes u x) ∙ (second_goes t u ∙ (sym (second_goes t x) ∙ ap (exchange t x) (sym e)))))

      go : (a : Bool) → is_train y t ≡ a → (b : Bool) → is_train y u ≡ b → (c : Bool) → is_train y x ≡ c → exchange t u (exchange u x (exchange t u y)) ≡ exchange t x y
      go true p b q c r = of_first (is t p)
      go false p true q c r = of_second (is u q)
      go false p false q true r = of_third (is x r)
      go false p false q false r =
          ap (λ z. exchange t u (exchange u x z)) (untouched t u y p q)
          ∙ (ap (exchange t u) (untouched u x y q r) ∙ (untouched t u y p q ∙ sym (untouched t x y p r)))

pub like_on : (d : Station) (t u x : TrainNo) → AreAlike d t u → AreAlike d u x → AreAlike d t x
like_on d t u x a b = go (is_train t u) refl (is_train u x) refl (is_train t x) refl
  where
    go : (p : Bool) → is_train t u ≡ p → (q : Bool) → is_train u x ≡ q → (r : Bool) → is_train t x ≡ r → AreAlike d t x
    go true p q e r f = subst (λ y. AreAlike d y x) (sym (same_train t u (eqb-true t.0 u.0 p))) b
    go false p true e r f = subst (AreAlike d t) (same_train u x (eqb-true u.0 x.0 e)) a
    go false p false e true f = subst (AreAlike d t) (same_train t x (eqb-true t.0 x.0 f)) (like_itself d t a.one)
    go false p false e false f = record {
      one = a.one;
      other = b.other;
      vehicle = a.vehicle ∙ b.vehicle;
      visits = a.visits ∙ b.visits;
      dwells = a.dwells ∙ b.dwells;
      order = λ o m. order_alike d (λ y. exchange t u (exchange u x (exchange t u y))) (exchange t x) (three t u x (apart t u p) (apart u x e) (apart t x f)) o (a.order _ (b.order _ (a.order o m)));
      within = λ w m. within_alike d (λ y. exchange t u (exchange u x (exchange t u y))) (exchange t x) (three t u x (apart t u p) (apart u x e) (apart t x f)) w (a.within _ (b.within _ (a.within w m)));
    }
