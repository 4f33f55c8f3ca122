-- The literals of a cone's clause stand in strictly increasing order of their numbers.
use Rattle.std.proofs.Common.{◌≡◌, ℕ, suc, ◌+◌, ◌-◌, ◌*◌, ◌≤◌, ◌<◌, ◌⊎◌, inl, inr, Bool, true, false, ◌&&◌, if◌then◌else◌, nat_lt, List, [], ◌∷◌, length, refl, sym, ap, subst, ◌∙◌, arith, le-leb, true≢false, mul-le-mul, le_refl}
use Rattle.std.specs.List.{list_all}
use Rattle.rail_base.specs.declared.station.Station.{Station}
use Rattle.rail_base.specs.declared.route.Route.{Route}
use Rattle.rail_base.specs.declared.plan.Command.{Command}
use Rattle.rail_base.specs.Numbering.{before_first, one_to}
use Rattle.rail_base.specs.Members.{all_pairs}
use Rattle.rail_base.proofs.Members.{In, and_left, and_right, and_both, list_all_at, either}
use Rattle.rail_spec.specs.Plans.{is_command, contend, all_commands}
use Rattle.sat_clause.specs.declared.lit.Lit.{Lit}
use Rattle.clause_spec.specs.Variables.{pairs, is_pair, number_of}
use Rattle.std.proofs.Math.Nat.{suc-mul}
use Rattle.rail_base.specs.declared.station.TrainNo.{TrainNo}
use Rattle.rail_base.specs.declared.route.RouteNo.{RouteNo}
use Rattle.clause_spec.proofs.Steps.{is_command_same, is_command_self}
use Rattle.clause_spec.proofs.Places.{command_of, pair_from}
use Rattle.cone_spec.specs.declared.Cone.{Cone}
use Rattle.cone_spec.specs.Validity.{is_before, is_pair_before, in_design}
use Rattle.cone_spec.specs.Clauses.{Fact, Used, Before, Literal, clause_of_cone}
use Rattle.cone_clause.proofs.ClauseOrder.{is_fact_before, is_literal_before, clause_sorted}
use Rattle.cone_spec.proofs.Sorted.{all_pairs_map, pairs_sorted}
use Rattle.cone_clause.specs.Numbered.{variable_of, lit_of, numbered_clause}
use Rattle.cone_clause.proofs.Known.{IsKnown, all_known}
use Rattle.rail_base.proofs.Lists.{list_all_from, in_map_back, in_count_back}
use Rattle.cone_form.proofs.Orders.{Less, less, not_both}

-- ---- orders

pair_less : (p q : Command × Command) → is_pair_before p q ≡ true → Less p.0 q.0 ⊎ ((q.0 ≡ p.0) × Less p.1 q.1)
pair_less p q h = go (either (is_before p.0 q.0) (is_command p.0 q.0 && is_before p.1 q.1) h)
  where
    go : (is_before p.0 q.0 ≡ true) ⊎ ((is_command p.0 q.0 && is_before p.1 q.1) ≡ true) → Less p.0 q.0 ⊎ ((q.0 ≡ p.0) × Less p.1 q.1)
    go (inl x) = inl (less p.0 q.0 x)
    go (inr x) = inr (is_command_same p.0 q.0 (and_left (is_command p.0 q.0) (is_before p.1 q.1) x), less p.1 q.1 (and_right (is_command p.0 q.0) (is_before p.1 q.1) x))

pub not_both_pairs : (p q : Command × Command) → is_pair_before p q ≡ true → is_pair_before q p ≡ true → ⊥
not_both_pairs p q h k = go (pair_less p q h) (pair_less q p k)
  where
    go : Less p.0 q.0 ⊎ ((q.0 ≡ p.0) × Less p.1 q.1) → Less q.0 p.0 ⊎ ((p.0 ≡ q.0) × Less q.1 p.1) → ⊥
    go (inl x) (inl y) = not_both p.0 q.0 x y
    go (inl x) (inr (e, y)) = not_both p.0 p.0 (subst (Less p.0) (sym e) x) (subst (Less p.0) (sym e) x)
    go (inr (e, x)) (inl y) = not_both q.0 q.0 (subst (Less q.0) (sym e) y) (subst (Less q.0) (sym e) y)
    go (inr (e, x)) (inr (f, y)) = not_both p.1 q.1 x y

-- ---- the place of a pair among all pairs

pub same_pair : (p x : Command × Command) → is_pair p.0 p.1 x ≡ true → x ≡ p
same_pair p x h =
    let a = is_command_same p.0 x.0 (and_left (is_command p.0 x.0) (is_command p.1 x.1) h) in
    let b = is_command_same p.1 x.1 (and_right (is_command p.0 x.0) (is_command p.1 x.1) h) in
    ap (λ c. (c, x.1)) a ∙ ap (λ c. (p.0, c)) b

pub pair_self : (p : Command × Command) → is_pair p.0 p.1 p ≡ true
pair_self p = and_both _ _ (is_command_self p.0) (is_command_self p.1)

places : (xs : List (Command × Command)) (p q : Command × Command) → all_pairs is_pair_before xs ≡ true → In p xs → In q xs → is_pair_before p q ≡ true
    → length (before_first (is_pair p.0 p.1) xs) < length (before_first (is_pair q.0 q.1) xs)
places [] p q h m n b = absurd m
places (x ∷ xs) p q h m n b = go (is_pair p.0 p.1 x) refl (is_pair q.0 q.1 x) refl m n (places xs p q (and_right (list_all (is_pair_before x) xs) (all_pairs is_pair_before xs) h))
  where
    not_here : (r : Command × Command) → is_pair r.0 r.1 x ≡ false → In r (x ∷ xs) → In r xs
    not_here r e (inl s) = absurd (true≢false (sym (subst (λ y. is_pair r.0 r.1 y ≡ true) (sym s) (pair_self r)) ∙ e))
    not_here r e (inr k) = k

    go : (a : Bool) → is_pair p.0 p.1 x ≡ a → (c : Bool) → is_pair q.0 q.1 x ≡ c → In p (x ∷ xs) → In q (x ∷ xs) → (In p xs → In q xs → is_pair_before p q ≡ true → length (before_first (is_pair p.0 p.1) xs) < length (before_first (is_pair q.0 q.1) xs))
        → length (if a then [] else x ∷ before_first (is_pair p.0 p.1) xs) < length (if c then [] else x ∷ before_first (is_pair q.0 q.1) xs)
    go true e true f m n later =
        let one : p ≡ q = sym (same_pair p x e) ∙ same_pair q x f in
        let b' = subst (λ r. is_pair_before r q ≡ true) one b in
        absurd (not_both_pairs q q b' b')
    go true e false f m n later = omega arith
    go false e true f m n later =
        let first : is_pair_before x p ≡ true = list_all_at (is_pair_before x) xs p (and_left (list_all (is_pair_before x) xs) (all_pairs is_pair_before xs) h) (not_here p e m) in
        absurd (not_both_pairs p q b (subst (λ r. is_pair_before r p ≡ true) (same_pair q x f) first))
    go false e false f m n later = let l = later (not_here p e m) (not_here q f n) b in omega arith

-- ---- numbers

-- so many rows of a length, and less than one more
rows : (a b r m : ℕ) → a < b → r < m → a * m + r < b * m
rows a b r m l h =
    let e : suc a * m ≤ b * m = mul-le-mul l (le_refl m) in
    let s = suc-mul a m in
    omega arith

module _ (d : Station) (routes : List Route) (n : ℕ) (some : 1 ≤ n) where
  in_range : (c : Command) → In c (all_commands d routes) → (1 ≤ c.train.0) × (c.train.0 ≤ length d.trains) × (1 ≤ c.route.0) × (c.route.0 ≤ length routes)
  in_range c m =
      let o = command_of d routes c m in
      let number : ℕ → TrainNo = λ t. record { 0 = t } in
      let route : ℕ → RouteNo = λ r. record { 0 = r } in
      let t = in_map_back number (one_to (length d.trains)) c.train o.train in
      let r = in_map_back route (one_to (length routes)) c.route o.route in
      let tn : t.0 ≡ c.train.0 = ap (λ (u : TrainNo). u.0) t.2 in
      let rn : r.0 ≡ c.route.0 = ap (λ (q : RouteNo). q.0) r.2 in
      let tr = in_count_back 1 (length d.trains) t.0 t.1 in
      let rr = in_count_back 1 (length routes) r.0 r.1 in
      let tl = tr.0 in
      let th = tr.1 in
      let rl = rr.0 in
      let rh = rr.1 in
      (omega arith, omega arith, omega arith, omega arith)

  abbrev place : Command → ℕ
  place c = (c.train.0 - 1) * length routes + (c.route.0 - 1)

  places_rise : (c e : Command) → In c (all_commands d routes) → In e (all_commands d routes) → Less c e → place c < place e
  places_rise c e m k l = go l (in_range c m) (in_range e k)
    where
      go : Less c e → (1 ≤ c.train.0) × (c.train.0 ≤ length d.trains) × (1 ≤ c.route.0) × (c.route.0 ≤ length routes) → (1 ≤ e.train.0) × (e.train.0 ≤ length d.trains) × (1 ≤ e.route.0) × (e.route.0 ≤ length routes) → place c < place e
      go (inl x) (a, b, f, g) (a', b', f', g') = let h = rows (c.train.0 - 1) (e.train.0 - 1) (c.route.0 - 1) (length routes) (omega arith) (omega arith) in omega arith
      go (inr (s, x)) (a, b, f, g) (a', b', f', g') = let t : (c.train.0 - 1) * length routes ≡ (e.train.0 - 1) * length routes = ap (λ i. (i - 1) * length routes) s in omega arith

  place_low : (c : Command) → In c (all_commands d routes) → place c < length d.trains * length routes
  place_low c m = go (in_range c m)
    where
      go : (1 ≤ c.train.0) × (c.train.0 ≤ length d.trains) × (1 ≤ c.route.0) × (c.route.0 ≤ length routes) → place c < length d.trains * length routes
      go (a, b, f, g) = rows (c.train.0 - 1) (length d.trains) (c.route.0 - 1) (length routes) (omega arith) (omega arith)

  number_rises : (a b : ℕ) → a < b → a * n + n ≤ b * n
  number_rises a b l =
      let e : suc a * n ≤ b * n = mul-le-mul l (le_refl n) in
      let s = suc-mul a n in
      omega arith

  pub facts_rise : (f g : Fact) → IsKnown d routes f → IsKnown d routes g → is_fact_before f g ≡ true → number_of d routes n (variable_of n f) < number_of d routes n (variable_of n g)
  facts_rise (Used c) (Used e) k l h = let r = number_rises (place c) (place e) (places_rise c e k l (less c e h)) in omega arith
  facts_rise (Used c) (Before a b) k l h = let r = number_rises (place c) (length d.trains * length routes) (place_low c k) in omega arith
  facts_rise (Before a b) (Used e) k l h = absurd (true≢false (sym h))
  facts_rise (Before a b) (Before c e) k l h =
      let r = places (pairs d routes) (a, b) (c, e) (pairs_sorted d routes (contend routes)) (pair_from d routes a b k.0 k.1 k.2) (pair_from d routes c e l.0 l.1 l.2) h in
      omega arith

  pub weaken : {X : Type 0} (test other : X → X → Bool) (xs : List X) → ((a b : X) → In a xs → In b xs → test a b ≡ true → other a b ≡ true) → all_pairs test xs ≡ true → all_pairs other xs ≡ true
  weaken test other [] w h = refl
  weaken test other (x ∷ xs) w h = and_both _ _
      (list_all_from (other x) xs (λ y m. w x y (inl refl) (inr m) (list_all_at (test x) xs y (and_left (list_all (test x) xs) (all_pairs test xs) h) m)))
      (weaken test other xs (λ a b m k. w a b (inr m) (inr k)) (and_right (list_all (test x) xs) (all_pairs test xs) h))

  pub clause_rises : (k : Cone) → in_design d routes k ≡ true → all_pairs (λ (l m : Lit). nat_lt l.var m.var) (numbered_clause d routes n k) ≡ true
  clause_rises k fits = all_pairs_map (λ (l m : Lit). nat_lt l.var m.var) (lit_of d routes n) (clause_of_cone d routes k)
      (weaken is_literal_before (λ (l m : Literal). nat_lt (number_of d routes n (variable_of n l.fact)) (number_of d routes n (variable_of n m.fact))) (clause_of_cone d routes k)
      (λ l m i j h. le-leb _ _ (facts_rise l.fact m.fact (all_known d routes k fits l i) (all_known d routes k fits m j) h)) (clause_sorted d routes k))
