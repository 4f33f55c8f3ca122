-- The places of commands by rows.
use Rattle.std.proofs.Common.{◌≡◌, ℕ, zero, suc, ◌+◌, ◌-◌, ◌*◌, ◌≤◌, ◌<◌, ◌⊎◌, inl, inr, Bool, true, false, ◌&&◌, ◌||◌, if◌then◌else◌, List, [], ◌∷◌, length, Option, Some, None, option_map, refl, sym, ap, ap₂, subst, ◌∙◌, arith, eq-eqb}
use Rattle.std.specs.List.{list_any}
use Rattle.std.specs.Option.{IfSome, is_some}
use Rattle.rail_base.specs.declared.route.RouteNo.{RouteNo}
use Rattle.rail_base.specs.declared.plan.Command.{Command}
use Rattle.rail_base.specs.Numbering.{before_first, entry, one_to}
use Rattle.rail_base.proofs.Lists.{in_count_back, in_flat_map_back, in_map_back, length-map}
use Rattle.rail_base.proofs.Members.{below_or_not, false_unless, list_any_gives}
use Rattle.rail_spec.specs.Plans.{is_command, is_route}
use Rattle.clause_spec.proofs.Steps.{is_command_same}
use Rattle.command_set.specs.Blocks.{member_count}
use Rattle.command_set.specs.Commands.{commands_in, first_place}
use Rattle.command_set.specs.Rows.{AreRows, commands_by_rows, places_by_rows, places_in}
use Rattle.command_set.proofs.Blocks.{counted_few, length_blocks, placed_block, placed_mapped, placed_nowhere}
use Rattle.command_set.proofs.Lists.{entry_is, entry_past}

-- lists of as many members are counted alike
pub counted_same : {X Y : Type 0} (f : ℕ → List X) (g : ℕ → List Y) → ((i : ℕ) → length (f i) ≡ length (g i)) → (a n : ℕ) → member_count f a n ≡ member_count g a n
counted_same f g same a zero = refl
counted_same f g same a (suc n) = ap₂ (λ x y. x + y) (same a) (counted_same f g same (a + 1) n)

-- ---- one train's commands

-- the first of them that is this command
pub in_own : (c : Command) (row : List RouteNo) → first_place (is_command c) (commands_in c.train.0 row) ≡ first_place (is_route c.route) row
in_own c row = placed_mapped (is_command c) (is_route c.route) (λ (r : RouteNo). record { train = record { 0 = c.train.0 }; route = r })
    (λ r. ap (λ b. b && is_route c.route r) (eq-eqb c.train.0 c.train.0 refl)) row

-- there is none among another train's
pub in_other : (c : Command) (i : ℕ) (row : List RouteNo) → (i ≡ c.train.0 → ⊥) → list_any (is_command c) (commands_in i row) ≡ false
in_other c i row apart = false_unless (list_any (is_command c) (commands_in i row)) (λ h.
    let g = list_any_gives (is_command c) (commands_in i row) h in
    let back = in_map_back (λ (r : RouteNo). record { train = record { 0 = i }; route = r }) row g.0 g.1 in
    apart (ap (λ (x : Command). x.train.0) back.2 ∙ ap (λ (x : Command). x.train.0) (is_command_same c g.0 g.2)))

module _ (routes : ℕ) (rows : List (List RouteNo)) (good : AreRows routes rows) where
  abbrev of_train : ℕ → List Command
  of_train t = commands_in t (entry [] rows t)

  -- how many there are
  pub few_before : (n : ℕ) → n ≤ 128 → member_count (entry [] rows) 1 n ≤ n * 2000
  few_before n h = counted_few (entry [] rows) 2000 1 n good.short

  same_length : (i : ℕ) → length (of_train i) ≡ length (entry [] rows i)
  same_length i = length-map (λ (r : RouteNo). record { train = record { 0 = i }; route = r }) (entry [] rows i)

  pub few_commands : length (commands_by_rows rows) ≤ 256000
  few_commands =
      let e = length_blocks of_train 1 (length rows) in
      let s = counted_same of_train (entry [] rows) same_length 1 (length rows) in
      let b = good.at_most_128 in
      let f = few_before (length rows) b in
      omega arith

  -- the place of a command of a train that there is
  pub place_known : (c : Command) → 1 ≤ c.train.0 → c.train.0 ≤ length rows
      → first_place (is_command c) (commands_by_rows rows) ≡ option_map (λ w. member_count (entry [] rows) 1 (c.train.0 - 1) + w) (first_place (is_route c.route) (entry [] rows c.train.0))
  place_known c low high =
      placed_block (is_command c) of_train c.train.0 (λ i apart. in_other c i (entry [] rows i) apart) (length rows) low high
      ∙ ap₂ (λ m o. option_map (λ w. m + w) o) (counted_same of_train (entry [] rows) same_length 1 (c.train.0 - 1)) (in_own c (entry [] rows c.train.0))

  -- a command that isn't of such a train and route has none
  pub place_unknown : (c : Command) → ((1 ≤ c.train.0) → (c.train.0 ≤ length rows) → (1 ≤ c.route.0) → (c.route.0 ≤ routes) → ⊥) → first_place (is_command c) (commands_by_rows rows) ≡ None
  place_unknown c unknown = placed_nowhere (is_command c) (commands_by_rows rows) (λ x m h.
      let one = in_flat_map_back of_train (one_to (length rows)) x m in
      let range = in_count_back 1 (length rows) one.0 one.1 in
      let low = range.0 in
      let high = range.1 in
      let two = in_map_back (λ (r : RouteNo). record { train = record { 0 = one.0 }; route = r }) (entry [] rows one.0) x one.2 in
      let is = is_command_same c x h in
      let train : one.0 ≡ c.train.0 = ap (λ (y : Command). y.train.0) two.2 ∙ ap (λ (y : Command). y.train.0) is in
      let route : two.0.0 ≡ c.route.0 = ap (λ (y : Command). y.route.0) two.2 ∙ ap (λ (y : Command). y.route.0) is in
      let inside = good.within one.0 two.0 two.1 in
      let first = inside.0 in
      let last = inside.1 in
      unknown (omega arith) (omega arith) (omega arith) (omega arith))

  -- so the table has the places of all commands
  pub table_is : (c : Command) → entry None (entry [] (places_by_rows routes rows) c.train.0) c.route.0 ≡ first_place (is_command c) (commands_by_rows rows)
  table_is c = go (below_or_not c.train.0 1) (below_or_not (length rows) c.train.0) (below_or_not c.route.0 1) (below_or_not routes c.route.0)
    where
      line : ℕ → List (Option ℕ)
      line t = places_in routes (entry [] rows t) (member_count (entry [] rows) 1 (t - 1))

      cell : ℕ → Option ℕ
      cell r = option_map (λ w. member_count (entry [] rows) 1 (c.train.0 - 1) + w) (first_place (is_route (record { 0 = r })) (entry [] rows c.train.0))

      no_number : {X : Type 0} (other : X) (xs : List X) (n : ℕ) → n < 1 → entry other xs n ≡ other
      no_number other xs zero h = refl
      no_number other xs (suc n) h = absurd (omega arith)

      of_none : {X : Type 0} (other : X) (n : ℕ) → entry other [] n ≡ other
      of_none other zero = refl
      of_none other (suc n) = refl

      go : (c.train.0 < 1) ⊎ (1 ≤ c.train.0) → (length rows < c.train.0) ⊎ (c.train.0 ≤ length rows) → (c.route.0 < 1) ⊎ (1 ≤ c.route.0) → (routes < c.route.0) ⊎ (c.route.0 ≤ routes)
          → entry None (entry [] (places_by_rows routes rows) c.train.0) c.route.0 ≡ first_place (is_command c) (commands_by_rows rows)
      go (inl a) b d e = ap (λ (xs : List (Option ℕ)). entry None xs c.route.0) (no_number [] (places_by_rows routes rows) c.train.0 a) ∙ (of_none None c.route.0 ∙ sym (place_unknown c (λ x y z w. absurd (omega arith))))
      go (inr a) (inl b) d e = ap (λ (xs : List (Option ℕ)). entry None xs c.route.0) (entry_past line (length rows) [] c.train.0 b) ∙ (of_none None c.route.0 ∙ sym (place_unknown c (λ x y z w. absurd (omega arith))))
      go (inr a) (inr b) (inl d) e = no_number None (entry [] (places_by_rows routes rows) c.train.0) c.route.0 d ∙ sym (place_unknown c (λ x y z w. absurd (omega arith)))
      go (inr a) (inr b) (inr d) (inl e) =
          ap (λ (xs : List (Option ℕ)). entry None xs c.route.0) (entry_is line (length rows) [] c.train.0 a b)
          ∙ (entry_past cell routes None c.route.0 e ∙ sym (place_unknown c (λ x y z w. absurd (omega arith))))
      go (inr a) (inr b) (inr d) (inr e) =
          ap (λ (xs : List (Option ℕ)). entry None xs c.route.0) (entry_is line (length rows) [] c.train.0 a b)
          ∙ (entry_is cell routes None c.route.0 d e ∙ sym (place_known c a b))

-- ---- a place that is given

-- it is below how many there are
pub place_low : {X : Type 0} (test : X → Bool) (xs : List X) (o : Option ℕ) → o ≡ first_place test xs → IfSome o (λ n. n < length xs)
place_low test xs None h = tt
place_low {X} test xs (Some n) h = go (list_any test xs) refl (sym h)
  where
    some_same : {a b : ℕ} → Some a ≡ Some b → a ≡ b
    some_same p = cc

    low : (ys : List X) → list_any test ys ≡ true → length (before_first test ys) < length ys
    low [] k = cc
    low (y ∷ ys) k = at (test y) k (low ys)
      where
        at : (b : Bool) → (b || list_any test ys) ≡ true → (list_any test ys ≡ true → length (before_first test ys) < length ys) → length (if b then [] else y ∷ before_first test ys) < suc (length ys)
        at true k rest = omega arith
        at false k rest = let l = rest k in omega arith

    go : (b : Bool) → list_any test xs ≡ b → (if b then Some (length (before_first test xs)) else None) ≡ Some n → n < length xs
    go true f k = subst (λ m. m < length xs) (some_same k) (low xs f)
    go false f k = cc

-- it is there where one passes
pub some_place : {X : Type 0} (test : X → Bool) (xs : List X) (o : Option ℕ) → o ≡ first_place test xs → is_some o ≡ list_any test xs
some_place {X} test xs o is = ap (λ x. is_some x) is ∙ go (list_any test xs)
  where
    go : (b : Bool) → is_some (if b then Some (length (before_first test xs)) else None) ≡ b
    go true = refl
    go false = refl
