-- The place of a pair.
use Rattle.std.proofs.Common.{◌≡◌, ℕ, suc, ◌+◌, ◌-◌, ◌≤◌, ◌⊎◌, inl, inr, Bool, true, false, ◌&&◌, ◌||◌, ◌==◌, if◌then◌else◌, List, [], ◌∷◌, ◌++◌, map, flat_map, take, length, Option, Some, None, option_map, refl, sym, ap, ap₂, subst, ◌∙◌, arith, eqb-true, eq-eqb, true≢false, length-append}
use Rattle.std.specs.List.{list_any}
use Rattle.rail_base.specs.declared.route.RouteNo.{RouteNo}
use Rattle.rail_base.specs.declared.plan.Command.{Command}
use Rattle.rail_base.specs.Members.{In}
use Rattle.rail_base.specs.Numbering.{before_first, one_to}
use Rattle.rail_base.proofs.Lists.{in_flat_map_back, in_map, in_map_back}
use Rattle.rail_base.proofs.Members.{and_left, and_right, false_unless, list_any_from, list_any_gives}
use Rattle.rail_spec.specs.Plans.{is_command, is_route}
use Rattle.clause_spec.specs.Variables.{is_pair}
use Rattle.clause_spec.proofs.Steps.{is_command_same, is_command_self}
use Rattle.command_set.specs.Blocks.{member_count}
use Rattle.command_set.specs.Commands.{commands_in, first_place}
use Rattle.command_set.proofs.Blocks.{before_here, before_past, placed_block, placed_mapped, placed_nowhere}
use Rattle.command_set.proofs.Standing.{in_other, in_own}
use Rattle.live_contending.specs.Pairs.{pairs_by_rows, rivals, rivals_of_train}

-- ---- the first that passes, in two lists

any_append : {X : Type 0} (test : X → Bool) (xs ys : List X) → list_any test xs ≡ false → list_any test (xs ++ ys) ≡ list_any test ys
any_append test [] ys h = refl
any_append {X} test (x ∷ xs) ys h = go (test x) h (any_append test xs ys)
  where
    go : (b : Bool) → (b || list_any test xs) ≡ false → (list_any test xs ≡ false → list_any test (xs ++ ys) ≡ list_any test ys) → (b || list_any test (xs ++ ys)) ≡ list_any test ys
    go true k rest = absurd (true≢false k)
    go false k rest = rest k

any_first : {X : Type 0} (test : X → Bool) (xs ys : List X) → list_any test xs ≡ true → list_any test (xs ++ ys) ≡ true
any_first test [] ys h = absurd (true≢false (sym h))
any_first {X} test (x ∷ xs) ys h = go (test x) h (any_first test xs ys)
  where
    go : (b : Bool) → (b || list_any test xs) ≡ true → (list_any test xs ≡ true → list_any test (xs ++ ys) ≡ true) → (b || list_any test (xs ++ ys)) ≡ true
    go true k rest = refl
    go false k rest = rest k

module _ {X : Type 0} (test : X → Bool) (xs ys : List X) where
  -- it stands in the first one
  place_here : list_any test xs ≡ true → first_place test (xs ++ ys) ≡ first_place test xs
  place_here h = ap₂ (λ b zs. if b then Some (length zs) else None) (any_first test xs ys h ∙ sym h) (before_here test xs ys h)

  -- or behind it
  place_past : list_any test xs ≡ false → first_place test (xs ++ ys) ≡ option_map (λ w. length xs + w) (first_place test ys)
  place_past h = ap₂ (λ b zs. if b then Some (length zs) else None) (any_append test xs ys h) (before_past test xs ys h) ∙ go (list_any test ys)
    where
      go : (b : Bool) → (if b then Some (length (xs ++ before_first test ys)) else None) ≡ option_map (λ w. length xs + w) (if b then Some (length (before_first test ys)) else None)
      go true = ap Some (length-append xs (before_first test ys))
      go false = refl

-- ---- pairs by their first commands

-- each command with what is listed for it, as pairs
module _ (listed : Command → List Command) where
  abbrev pub from : Command → List (Command × Command)
  from e = map (λ c. (e, c)) (listed e)

  pub first_of : (e : Command) (p : Command × Command) → In p (from e) → p.0 ≡ e
  first_of e p m = let back = in_map_back (λ (c : Command). (e, c)) (listed e) p m in sym (ap (λ (q : Command × Command). q.0) back.2)

  module _ (e c : Command) where
    not_from : (x : Command) → is_command e x ≡ false → list_any (is_pair e c) (from x) ≡ false
    not_from x h = false_unless (list_any (is_pair e c) (from x)) (λ k.
        let g = list_any_gives (is_pair e c) (from x) k in
        let t = and_left (is_command e g.0.0) (is_command c g.0.1) g.2 in
        true≢false (sym (subst (λ (y : Command). is_command e y ≡ true) (first_of x g.0 g.1) t) ∙ h))

    own_place : (x : Command) → is_command e x ≡ true → first_place (is_pair e c) (from x) ≡ first_place (is_command c) (listed e)
    own_place x h =
        let same = is_command_same e x h in
        ap (λ (y : Command). first_place (is_pair e c) (from y)) same
        ∙ placed_mapped (is_pair e c) (is_command c) (λ (y : Command). (e, y)) (λ y. ap (λ b. b && is_command c y) (is_command_self e)) (listed e)

    -- where the first command isn't there, or the second isn't listed for it, the pair isn't
    pub pair_none : (cs : List Command) → (In e cs → list_any (is_command c) (listed e) ≡ true → ⊥) → first_place (is_pair e c) (flat_map from cs) ≡ None
    pair_none cs none = placed_nowhere (is_pair e c) (flat_map from cs) (λ p m t.
        let one = in_flat_map_back from cs p m in
        let two = in_map_back (λ (y : Command). (one.0, y)) (listed one.0) p one.2 in
        let first = is_command_same e p.0 (and_left (is_command e p.0) (is_command c p.1) t) in
        let second = is_command_same c p.1 (and_right (is_command e p.0) (is_command c p.1) t) in
        let is : one.0 ≡ e = sym (first_of one.0 p one.2) ∙ first in
        none (subst (λ (y : Command). In y cs) is one.1)
        (list_any_from (is_command c) (listed e) two.0 (subst (λ (y : Command). In two.0 (listed y)) is two.1)
        (subst (λ (y : Command). is_command c y ≡ true) (sym second ∙ sym (ap (λ (q : Command × Command). q.1) two.2)) (is_command_self c))))

    -- its place is behind the pairs of the commands before its first
    pub pair_place : (cs : List Command) (k : ℕ) → first_place (is_command e) cs ≡ Some k
        → first_place (is_pair e c) (flat_map from cs) ≡ option_map (λ w. length (flat_map from (take k cs)) + w) (first_place (is_command c) (listed e))
    pair_place [] k h = cc
    pair_place (x ∷ cs) k h = go (λ j is. pair_place cs j is) (is_command e x) refl
      where
        some_same : {a b : ℕ} → Some a ≡ Some b → a ≡ b
        some_same p = cc

        none_plus : (o : Option ℕ) → option_map (λ w. 0 + w) o ≡ o
        none_plus None = refl
        none_plus (Some w) = ap Some (omega arith)

        twice : (a b : ℕ) (o : Option ℕ) → option_map (λ w. a + w) (option_map (λ w. b + w) o) ≡ option_map (λ w. a + b + w) o
        twice a b None = refl
        twice a b (Some w) = ap Some (omega arith)

        here : (b : Bool) → is_command e x ≡ b → b ≡ true → first_place (is_command e) (x ∷ cs) ≡ Some 0
        here true t u = ap (λ y. if y || list_any (is_command e) cs then Some (length (if y then [] else x ∷ before_first (is_command e) cs)) else None) t
        here false t u = absurd (true≢false (sym u))

        own : (b : Bool) → list_any (is_pair e c) (from x) ≡ b → is_command e x ≡ true → first_place (is_pair e c) (from x ++ flat_map from cs) ≡ first_place (is_command c) (listed e)
        own true f t = place_here (is_pair e c) (from x) (flat_map from cs) f ∙ own_place x t
        own false f t =
            let none : list_any (is_command c) (listed e) ≡ false = false_unless (list_any (is_command c) (listed e)) (λ k.
            let g = list_any_gives (is_command c) (listed e) k in
            let there = list_any_from (is_pair e c) (from e) (e, g.0) (in_map (λ (y : Command). (e, y)) (listed e) g.0 g.1) (ap (λ b. b && is_command c g.0) (is_command_self e) ∙ g.2) in
            true≢false (sym there ∙ (ap (λ (y : Command). list_any (is_pair e c) (from y)) (sym (is_command_same e x t)) ∙ f))) in
            pair_none (x ∷ cs) (λ m k. true≢false (sym k ∙ none))
            ∙ sym (ap (λ b. if b then Some (length (before_first (is_command c) (listed e))) else None) none)

        -- that of a command behind the first
        behind : is_command e x ≡ false → first_place (is_command e) (x ∷ cs) ≡ option_map (λ w. suc w) (first_place (is_command e) cs)
        behind f = ap (λ y. if y || list_any (is_command e) cs then Some (length (if y then [] else x ∷ before_first (is_command e) cs)) else None) f ∙ at (list_any (is_command e) cs)
          where
            at : (b : Bool) → (if b then Some (suc (length (before_first (is_command e) cs))) else None) ≡ option_map (λ w. suc w) (if b then Some (length (before_first (is_command e) cs)) else None)
            at true = refl
            at false = refl

        later : (o : Option ℕ) → first_place (is_command e) cs ≡ o → Some k ≡ option_map (λ w. suc w) o → is_command e x ≡ false
            → ((j : ℕ) → first_place (is_command e) cs ≡ Some j → first_place (is_pair e c) (flat_map from cs) ≡ option_map (λ w. length (flat_map from (take j cs)) + w) (first_place (is_command c) (listed e)))
            → first_place (is_pair e c) (from x ++ flat_map from cs) ≡ option_map (λ w. length (flat_map from (take k (x ∷ cs))) + w) (first_place (is_command c) (listed e))
        later None is m f rest = cc
        later (Some j) is m f rest =
            let same : k ≡ suc j = some_same m in
            place_past (is_pair e c) (from x) (flat_map from cs) (not_from x f)
            ∙ (ap (option_map (λ w. length (from x) + w)) (rest j is)
            ∙ (twice (length (from x)) (length (flat_map from (take j cs))) (first_place (is_command c) (listed e))
            ∙ ap (λ n. option_map (λ w. n + w) (first_place (is_command c) (listed e)))
            (sym (length-append (from x) (flat_map from (take j cs))) ∙ ap (λ i. length (flat_map from (take i (x ∷ cs)))) (sym same))))

        go : ((j : ℕ) → first_place (is_command e) cs ≡ Some j → first_place (is_pair e c) (flat_map from cs) ≡ option_map (λ w. length (flat_map from (take j cs)) + w) (first_place (is_command c) (listed e)))
            → (b : Bool) → is_command e x ≡ b → first_place (is_pair e c) (from x ++ flat_map from cs) ≡ option_map (λ w. length (flat_map from (take k (x ∷ cs))) + w) (first_place (is_command c) (listed e))
        go rest true t =
            let zero_ : k ≡ 0 = some_same (sym h ∙ here (is_command e x) refl t) in
            own (list_any (is_pair e c) (from x)) refl t
            ∙ (sym (none_plus (first_place (is_command c) (listed e))) ∙ ap (λ i. option_map (λ w. length (flat_map from (take i (x ∷ cs))) + w) (first_place (is_command c) (listed e))) (sym zero_))
        go rest false t = later (first_place (is_command e) cs) refl (sym h ∙ behind t) t rest

-- ---- the place among a command's rivals

module _ (trains : ℕ) (row : ℕ → RouteNo → List RouteNo) (e c : Command) where
  rival_apart : (i : ℕ) → (i ≡ c.train.0 → ⊥) → list_any (is_command c) (rivals_of_train row e i) ≡ false
  rival_apart i apart = go (e.train.0 == i)
    where
      go : (b : Bool) → list_any (is_command c) (if b then [] else commands_in i (row i e.route)) ≡ false
      go true = refl
      go false = in_other c i (row i e.route) apart

  -- it is that of the route in its row, behind those of trains before its own
  pub rival_place : 1 ≤ c.train.0 → c.train.0 ≤ trains → (e.train.0 ≡ c.train.0 → ⊥)
      → first_place (is_command c) (rivals trains row e) ≡ option_map (λ w. member_count (rivals_of_train row e) 1 (c.train.0 - 1) + w) (first_place (is_route c.route) (row c.train.0 e.route))
  rival_place low high other =
      placed_block (is_command c) (rivals_of_train row e) c.train.0 rival_apart trains low high
      ∙ ap (option_map (λ w. member_count (rivals_of_train row e) 1 (c.train.0 - 1) + w))
      (ap (λ b. first_place (is_command c) (if b then [] else commands_in c.train.0 (row c.train.0 e.route))) (false_unless (e.train.0 == c.train.0) (λ h. other (eqb-true e.train.0 c.train.0 h)))
      ∙ in_own c (row c.train.0 e.route))

  in_train : (t : ℕ) (x : Command) → In x (rivals_of_train row e t) → (x.train.0 ≡ t) × (e.train.0 ≡ t → ⊥) × In x.route (row t e.route)
  in_train t x m = go (e.train.0 == t) refl m
    where
      go : (b : Bool) → (e.train.0 == t) ≡ b → In x (if b then [] else commands_in t (row t e.route)) → (x.train.0 ≡ t) × (e.train.0 ≡ t → ⊥) × In x.route (row t e.route)
      go true h n = absurd n
      go false h n =
          let make : RouteNo → Command = λ r. record { train = record { 0 = t }; route = r } in
          let back = in_map_back make (row t e.route) x n in
          (sym (ap (λ (y : Command). y.train.0) back.2), (λ k. true≢false (sym (eq-eqb e.train.0 t k) ∙ h)), subst (λ (y : Command). In y.route (row t e.route)) back.2 back.1)

  -- one of the same train is none, nor one whose route isn't in the row
  pub rival_none : (e.train.0 ≡ c.train.0) ⊎ (first_place (is_route c.route) (row c.train.0 e.route) ≡ None) → list_any (is_command c) (rivals trains row e) ≡ true → ⊥
  rival_none h k =
      let g = list_any_gives (is_command c) (rivals trains row e) k in
      let is = is_command_same c g.0 g.2 in
      let one = in_flat_map_back (rivals_of_train row e) (one_to trains) g.0 g.1 in
      let own = in_train one.0 g.0 one.2 in
      let train : one.0 ≡ c.train.0 = sym own.0 ∙ ap (λ (y : Command). y.train.0) is in
      let route : In c.route (row c.train.0 e.route) = subst (λ t. In c.route (row t e.route)) train (subst (λ (y : Command). In y.route (row one.0 e.route)) is own.2) in
      at h (own.1) train (list_any_from (is_route c.route) (row c.train.0 e.route) c.route route (eq-eqb c.route.0 c.route.0 refl))
    where
      at : (e.train.0 ≡ c.train.0) ⊎ (first_place (is_route c.route) (row c.train.0 e.route) ≡ None) → {t : ℕ} → (e.train.0 ≡ t → ⊥) → t ≡ c.train.0 → list_any (is_route c.route) (row c.train.0 e.route) ≡ true → ⊥
      at (inl same) apart is there = apart (same ∙ sym is)
      at (inr none) apart is there = some (list_any (is_route c.route) (row c.train.0 e.route)) there none
        where
          some : (b : Bool) → b ≡ true → (if b then Some (length (before_first (is_route c.route) (row c.train.0 e.route))) else None) ≡ None → ⊥
          some true f n = cc
          some false f n = cc

-- ---- the place of a pair by rows

none_there : {X : Type 0} (test : X → Bool) (xs : List X) → first_place test xs ≡ None → list_any test xs ≡ true → ⊥
none_there test xs none there = go (list_any test xs) there none
  where
    go : (b : Bool) → b ≡ true → (if b then Some (length (before_first test xs)) else None) ≡ None → ⊥
    go true f n = cc
    go false f n = cc

module _ (trains : ℕ) (row : ℕ → RouteNo → List RouteNo) (cs : List Command) (e c : Command) where
  -- it has none where its first command isn't there
  pub place_absent : first_place (is_command e) cs ≡ None → first_place (is_pair e c) (pairs_by_rows trains row cs) ≡ None
  place_absent none = pair_none (rivals trains row) e c cs (λ m k. none_there (is_command e) cs none (list_any_from (is_command e) cs e m (is_command_self e)))

  -- nor where the second is no rival
  pub place_apart : (e.train.0 ≡ c.train.0) ⊎ (first_place (is_route c.route) (row c.train.0 e.route) ≡ None) → first_place (is_pair e c) (pairs_by_rows trains row cs) ≡ None
  place_apart h = pair_none (rivals trains row) e c cs (λ m k. rival_none trains row e c h k)

  pub place_present : (k w : ℕ) → first_place (is_command e) cs ≡ Some k → first_place (is_route c.route) (row c.train.0 e.route) ≡ Some w → 1 ≤ c.train.0 → c.train.0 ≤ trains → (e.train.0 ≡ c.train.0 → ⊥)
      → first_place (is_pair e c) (pairs_by_rows trains row cs) ≡ Some (length (pairs_by_rows trains row (take k cs)) + member_count (rivals_of_train row e) 1 (c.train.0 - 1) + w)
  place_present k w first second low high other =
      pair_place (rivals trains row) e c cs k first
      ∙ (ap (option_map (λ n. length (pairs_by_rows trains row (take k cs)) + n)) (rival_place trains row e c low high other ∙ ap (option_map (λ n. member_count (rivals_of_train row e) 1 (c.train.0 - 1) + n)) second)
      ∙ ap Some (omega arith))
