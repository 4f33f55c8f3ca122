-- The numbers of live variables rise with their facts.
use Rattle.std.proofs.Common.{◌≡◌, ℕ, suc, ◌+◌, ◌*◌, ◌≤◌, ◌<◌, inl, inr, Bool, true, false, not, if◌then◌else◌, nat_lt, List, [], ◌∷◌, map, filter, length, refl, sym, ap, subst, ◌∙◌, arith, le-leb, true≢false, mul-le-mul, le_refl}
use Rattle.std.proofs.Math.Nat.{suc-mul}
use Rattle.std.specs.List.{list_all}
use Rattle.rail_base.specs.declared.station.Station.{Station}
use Rattle.rail_base.specs.declared.route.Route.{Route}
use Rattle.rail_base.specs.declared.plan.Command.{Command}
use Rattle.rail_base.specs.Members.{all_pairs}
use Rattle.rail_base.specs.Numbering.{before_first}
use Rattle.rail_base.proofs.Lists.{in_filter_back}
use Rattle.rail_base.proofs.Members.{In, and_left, and_right, in_filter, list_all_at, map-map}
use Rattle.rail_spec.specs.Plans.{all_commands, contend, is_command}
use Rattle.sat_clause.specs.declared.lit.Lit.{Lit}
use Rattle.clause_spec.specs.Variables.{Literal as BaseLiteral, is_pair, pairs}
use Rattle.clause_spec.proofs.Places.{pair_from}
use Rattle.clause_spec.proofs.Steps.{is_command_same, is_command_self}
use Rattle.live_clause_spec.specs.Clauses.{without_dead}
use Rattle.live_clause_spec.specs.Variables.{both_live, is_dead, live_commands, live_number, live_numbered, live_pairs}
use Rattle.live_clause_spec.proofs.Lists.{filter_map, not_true}
use Rattle.cone_spec.specs.Clauses.{Fact, Used, Before, Literal}
use Rattle.cone_spec.specs.Validity.{is_before, is_pair_before}
use Rattle.cone_spec.proofs.Sorted.{all_pairs_filter, all_pairs_map, commands_sorted, pairs_sorted}
use Rattle.cone_form.proofs.Orders.{less, not_both}
use Rattle.cone_clause.specs.Numbered.{base_literal, variable_of}
use Rattle.cone_clause.proofs.ClauseOrder.{is_fact_before, is_literal_before}
use Rattle.cone_clause.proofs.Known.{IsKnown}
use Rattle.cone_clause.proofs.Ordered.{not_both_pairs, pair_self, same_pair, weaken}

-- ---- places in a list that is in order

module _ {X : Type 0} (is order : X → X → Bool) (self : (x : X) → is x x ≡ true) (same : (x y : X) → is x y ≡ true → y ≡ x) (one_way : (x y : X) → order x y ≡ true → order y x ≡ true → ⊥) where
  not_here : (x y : X) (ys : List X) → is x y ≡ false → In x (y ∷ ys) → In x ys
  not_here x y ys e (inl s) = absurd (true≢false (sym (subst (λ z. is x z ≡ true) (sym s) (self x)) ∙ e))
  not_here x y ys e (inr m) = m

  places_rise : (xs : List X) (x y : X) → all_pairs order xs ≡ true → In x xs → In y xs → order x y ≡ true → length (before_first (is x) xs) < length (before_first (is y) xs)
  places_rise [] x y h m n b = absurd m
  places_rise (z ∷ zs) x y h m n b = go (is x z) refl (is y z) refl (places_rise zs x y (and_right (list_all (order z) zs) (all_pairs order zs) h))
    where
      go : (a : Bool) → is x z ≡ a → (c : Bool) → is y z ≡ c → (In x zs → In y zs → order x y ≡ true → length (before_first (is x) zs) < length (before_first (is y) zs))
          → length (if a then [] else z ∷ before_first (is x) zs) < length (if c then [] else z ∷ before_first (is y) zs)
      go true e true f later =
          let one : x ≡ y = sym (same x z e) ∙ same y z f in
          let around = subst (λ w. order w y ≡ true) one b in
          absurd (one_way y y around around)
      go true e false f later = omega arith
      go false e true f later =
          let first : order z x ≡ true = list_all_at (order z) zs x (and_left (list_all (order z) zs) (all_pairs order zs) h) (not_here x z zs e m) in
          absurd (one_way x y b (subst (λ w. order w x ≡ true) (same y z f) first))
      go false e false f later = let l = later (not_here x z zs e m) (not_here y z zs f n) b in omega arith

  place_below : (xs : List X) (x : X) → In x xs → length (before_first (is x) xs) < length xs
  place_below [] x m = absurd m
  place_below (z ∷ zs) x m = go (is x z) refl (place_below zs x)
    where
      go : (a : Bool) → is x z ≡ a → (In x zs → length (before_first (is x) zs) < length zs) → length (if a then [] else z ∷ before_first (is x) zs) < suc (length zs)
      go true e later = omega arith
      go false e later = let l = later (not_here x z zs e m) in omega arith

-- ---- numbers

module _ (live : Command → Bool) (d : Station) (routes : List Route) (n : ℕ) (some : 1 ≤ n) where
  command_rises : (c e : Command) → In c (live_commands live d routes) → In e (live_commands live d routes) → is_before c e ≡ true → length (before_first (is_command c) (live_commands live d routes)) < length (before_first (is_command e) (live_commands live d routes))
  command_rises c e = places_rise is_command is_before is_command_self is_command_same (λ x y h k. not_both x y (less x y h) (less y x k)) (live_commands live d routes) c e
      (all_pairs_filter is_before live (all_commands d routes) (commands_sorted d routes))

  command_below : (c : Command) → In c (live_commands live d routes) → length (before_first (is_command c) (live_commands live d routes)) < length (live_commands live d routes)
  command_below c = place_below is_command is_before is_command_self is_command_same (λ x y h k. not_both x y (less x y h) (less y x k)) (live_commands live d routes) c

  pair_rises : (p q : Command × Command) → In p (live_pairs live d routes) → In q (live_pairs live d routes) → is_pair_before p q ≡ true → length (before_first (is_pair p.0 p.1) (live_pairs live d routes)) < length (before_first (is_pair q.0 q.1) (live_pairs live d routes))
  pair_rises p q = places_rise (λ (r : Command × Command). is_pair r.0 r.1) is_pair_before pair_self same_pair not_both_pairs (live_pairs live d routes) p q
      (all_pairs_filter is_pair_before (both_live live) (pairs d routes) (pairs_sorted d routes (contend routes)))

  row_rises : (a b : ℕ) → a < b → a * n + n ≤ b * n
  row_rises a b l =
      let e : suc a * n ≤ b * n = mul-le-mul l (le_refl n) in
      let s = suc-mul a n in
      omega arith

  alive : (b : Bool) → not b ≡ false → b ≡ true
  alive true e = refl
  alive false e = absurd (true≢false e)

  command_there : (c : Command) → In c (all_commands d routes) → not (live c) ≡ false → In c (live_commands live d routes)
  command_there c m e = in_filter live (all_commands d routes) c m (alive (live c) e)

  pair_there : (e c : Command) → IsKnown d routes (Before e c) → not (both_live live (e, c)) ≡ false → In (e, c) (live_pairs live d routes)
  pair_there e c k a = in_filter (both_live live) (pairs d routes) (e, c) (pair_from d routes e c k.0 k.1 k.2) (alive (both_live live (e, c)) a)

  numbers_rise : (f g : Fact) → IsKnown d routes f → IsKnown d routes g → is_dead live (variable_of n f) ≡ false → is_dead live (variable_of n g) ≡ false → is_fact_before f g ≡ true → live_number live d routes n (variable_of n f) < live_number live d routes n (variable_of n g)
  numbers_rise (Used c) (Used e) k l a b h =
      let rising = command_rises c e (command_there c k a) (command_there e l b) h in
      let r = row_rises (length (before_first (is_command c) (live_commands live d routes))) (length (before_first (is_command e) (live_commands live d routes))) rising in
      omega arith
  numbers_rise (Used c) (Before e f) k l a b h =
      let r = row_rises (length (before_first (is_command c) (live_commands live d routes))) (length (live_commands live d routes)) (command_below c (command_there c k a)) in
      omega arith
  numbers_rise (Before e f) (Used c) k l a b h = absurd (true≢false (sym h))
  numbers_rise (Before e f) (Before x y) k l a b h =
      let r = pair_rises (e, f) (x, y) (pair_there e f k a) (pair_there x y l b) h in
      omega arith

  -- ---- literals

  abbrev number : Literal → Lit
  number l = live_numbered live d routes n (base_literal n l)

  abbrev kept : Literal → Bool
  kept l = not (is_dead live (variable_of n l.fact))

  -- what is left of known literals that are in order has rising variables
  pub left_rises : (ls : List Literal) → ((l : Literal) → In l ls → IsKnown d routes l.fact) → all_pairs is_literal_before ls ≡ true
      → all_pairs (λ (l m : Lit). nat_lt l.var m.var) (map (live_numbered live d routes n) (without_dead live (map (base_literal n) ls))) ≡ true
  left_rises ls known sorted =
      subst (λ (ms : List Lit). all_pairs (λ (l m : Lit). nat_lt l.var m.var) ms ≡ true)
      (sym (ap (map (live_numbered live d routes n)) (filter_map (λ (l : BaseLiteral). not (is_dead live l.variable)) kept (base_literal n) ls (λ l m. refl)) ∙ map-map (live_numbered live d routes n) (base_literal n) (filter kept ls)))
      (all_pairs_map (λ (l m : Lit). nat_lt l.var m.var) number (filter kept ls)
      (weaken d routes n some is_literal_before (λ (l m : Literal). nat_lt (live_number live d routes n (variable_of n l.fact)) (live_number live d routes n (variable_of n m.fact))) (filter kept ls)
      (λ l m i j h.
      let x = in_filter_back kept ls l i in
      let y = in_filter_back kept ls m j in
      le-leb _ _ (numbers_rise l.fact m.fact (known l x.0) (known m y.0) (not_true (is_dead live (variable_of n l.fact)) x.1) (not_true (is_dead live (variable_of n m.fact)) y.1) h))
      (all_pairs_filter is_literal_before kept ls sorted)))
