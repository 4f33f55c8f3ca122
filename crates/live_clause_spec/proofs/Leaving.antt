-- What is left of one clause, and of lists of clauses that are made of others.
use Rattle.std.proofs.Common.{◌≡◌, ℕ, zero, suc, inl, inr, Bool, true, false, cond, not, ◌&&◌, ◌||◌, List, [], ◌∷◌, ◌++◌, map, flat_map, filter, refl, ap, ap₂, ◌∙◌}
use Rattle.std.proofs.lemmas.List.{map-append}
use Rattle.rail_base.specs.declared.plan.Command.{Command}
use Rattle.rail_base.specs.declared.route.RouteNo.{RouteNo}
use Rattle.rail_base.specs.declared.station.TrainNo.{TrainNo}
use Rattle.rail_base.proofs.Members.{In, filter-append, list_any_from}
use Rattle.clause_spec.specs.Variables.{Variable, Given, Literal, yes, no, if_given}
use Rattle.clause_spec.specs.Clauses.{Clause}
use Rattle.clause_spec.proofs.Steps.{cmd}
use Rattle.live_clause_spec.specs.Variables.{is_dead}
use Rattle.live_clause_spec.specs.Clauses.{denies_dead, with_dead_false, without_dead}
use Rattle.live_clause_spec.specs.Listed.{is_live_for}
use Rattle.live_clause_spec.proofs.Lists.{flat_map_kept}

module _ (live : Command → Bool) where
  -- ---- one clause

  -- the clause doesn't go, and this is left of it
  pub record Leaves (cl left : Clause) : Type 0 where
    pub stays : denies_dead live cl ≡ false
    pub is : without_dead live cl ≡ left

  pub nothing : Leaves [] []
  nothing = record { stays = refl; is = refl }

  pub with_no : (v : Variable) (cl left : Clause) → is_dead live v ≡ false → Leaves cl left → Leaves (no v ∷ cl) (no v ∷ left)
  with_no v cl left a l = record {
    stays = ap (λ b. b || denies_dead live cl) a ∙ l.stays;
    is = ap (λ b. cond (not b) (no v ∷ without_dead live cl) (without_dead live cl)) a ∙ ap (λ ls. no v ∷ ls) l.is;
  }

  pub with_yes : (v : Variable) (cl left : Clause) → is_dead live v ≡ false → Leaves cl left → Leaves (yes v ∷ cl) (yes v ∷ left)
  with_yes v cl left a l = record {
    stays = l.stays;
    is = ap (λ b. cond (not b) (yes v ∷ without_dead live cl) (without_dead live cl)) a ∙ ap (λ ls. yes v ∷ ls) l.is;
  }

  pub without_yes : (v : Variable) (cl left : Clause) → is_dead live v ≡ true → Leaves cl left → Leaves (yes v ∷ cl) left
  without_yes v cl left a l = record {
    stays = l.stays;
    is = ap (λ b. cond (not b) (yes v ∷ without_dead live cl) (without_dead live cl)) a ∙ l.is;
  }

  any_append : (xs ys : Clause) → denies_dead live xs ≡ false → denies_dead live (xs ++ ys) ≡ denies_dead live ys
  any_append [] ys h = refl
  any_append (x ∷ xs) ys h = go (x.negated && is_dead live x.variable) h (any_append xs ys)
    where
      go : (b : Bool) → (b || denies_dead live xs) ≡ false → (denies_dead live xs ≡ false → denies_dead live (xs ++ ys) ≡ denies_dead live ys) → (b || denies_dead live (xs ++ ys)) ≡ denies_dead live ys
      go true k rest = absurd (cc)
      go false k rest = rest k

  pub with_both : (a b x y : Clause) → Leaves a x → Leaves b y → Leaves (a ++ b) (x ++ y)
  with_both a b x y l m = record {
    stays = any_append a b l.stays ∙ m.stays;
    is = filter-append (λ (z : Literal). not (is_dead live z.variable)) a b ∙ ap₂ (λ p q. p ++ q) l.is m.is;
  }

  -- ---- literals of commands

  pub alive_given : (c : Command) (i : ℕ) → live c ≡ true → is_dead live (Given c i) ≡ false
  alive_given c i h = ap not h

  pub dead_given : (c : Command) (i : ℕ) → live c ≡ false → is_dead live (Given c i) ≡ true
  dead_given c i h = ap not h

  pub if_given_stays : (c : Command) (i : ℕ) → live c ≡ true → Leaves (if_given c i) (if_given c i)
  if_given_stays c zero h = nothing
  if_given_stays c (suc i) h = with_yes (Given c (suc i)) [] [] (alive_given c (suc i) h) nothing

  if_given_goes : (c : Command) (i : ℕ) → live c ≡ false → Leaves (if_given c i) []
  if_given_goes c zero h = nothing
  if_given_goes c (suc i) h = without_yes (Given c (suc i)) [] [] (dead_given c (suc i) h) nothing

  -- for each route of a train
  pub given_if : (t : TrainNo) (rs : List RouteNo) (i : ℕ) → Leaves (flat_map (λ q. if_given (cmd t q) i) rs) (flat_map (λ q. if_given (cmd t q) i) (filter (is_live_for live t) rs))
  given_if t [] i = nothing
  given_if t (r ∷ rs) i = go (is_live_for live t r) refl (given_if t rs i)
    where
      go : (b : Bool) → is_live_for live t r ≡ b → Leaves (flat_map (λ q. if_given (cmd t q) i) rs) (flat_map (λ q. if_given (cmd t q) i) (filter (is_live_for live t) rs))
          → Leaves (if_given (cmd t r) i ++ flat_map (λ q. if_given (cmd t q) i) rs) (flat_map (λ q. if_given (cmd t q) i) (cond b (r ∷ filter (is_live_for live t) rs) (filter (is_live_for live t) rs)))
      go true e rest = with_both (if_given (cmd t r) i) (flat_map (λ q. if_given (cmd t q) i) rs) (if_given (cmd t r) i) (flat_map (λ q. if_given (cmd t q) i) (filter (is_live_for live t) rs)) (if_given_stays (cmd t r) i e) rest
      go false e rest = with_both (if_given (cmd t r) i) (flat_map (λ q. if_given (cmd t q) i) rs) [] (flat_map (λ q. if_given (cmd t q) i) (filter (is_live_for live t) rs)) (if_given_goes (cmd t r) i e) rest

  pub each_given : (t : TrainNo) (rs : List RouteNo) (i : ℕ) → Leaves (map (λ q. yes (Given (cmd t q) i)) rs) (map (λ q. yes (Given (cmd t q) i)) (filter (is_live_for live t) rs))
  each_given t [] i = nothing
  each_given t (r ∷ rs) i = go (is_live_for live t r) refl (each_given t rs i)
    where
      go : (b : Bool) → is_live_for live t r ≡ b → Leaves (map (λ q. yes (Given (cmd t q) i)) rs) (map (λ q. yes (Given (cmd t q) i)) (filter (is_live_for live t) rs))
          → Leaves (yes (Given (cmd t r) i) ∷ map (λ q. yes (Given (cmd t q) i)) rs) (map (λ q. yes (Given (cmd t q) i)) (cond b (r ∷ filter (is_live_for live t) rs) (filter (is_live_for live t) rs)))
      go true e rest = with_yes (Given (cmd t r) i) (map (λ q. yes (Given (cmd t q) i)) rs) (map (λ q. yes (Given (cmd t q) i)) (filter (is_live_for live t) rs)) (alive_given (cmd t r) i e) rest
      go false e rest = without_yes (Given (cmd t r) i) (map (λ q. yes (Given (cmd t q) i)) rs) (map (λ q. yes (Given (cmd t q) i)) (filter (is_live_for live t) rs)) (dead_given (cmd t r) i e) rest

  pub none_given : (t : TrainNo) (rs : List RouteNo) (i : ℕ) → ((r : RouteNo) → In r rs → is_live_for live t r ≡ true) → Leaves (map (λ w. no (Given (cmd t w) i)) rs) (map (λ w. no (Given (cmd t w) i)) rs)
  none_given t [] i h = nothing
  none_given t (r ∷ rs) i h =
      with_no (Given (cmd t r) i) (map (λ w. no (Given (cmd t w) i)) rs) (map (λ w. no (Given (cmd t w) i)) rs) (alive_given (cmd t r) i (h r (inl refl))) (none_given t rs i (λ q m. h q (inr m)))

  -- ---- a clause that goes

  pub denies_in : (cl : Clause) (v : Variable) → In (no v) cl → is_dead live v ≡ true → denies_dead live cl ≡ true
  denies_in cl v m h =
      let test : Literal → Bool = λ l. l.negated && is_dead live l.variable in
      list_any_from test cl (no v) m h

  -- ---- lists of clauses

  abbrev stays_in : Clause → Bool
  stays_in cl = not (denies_dead live cl)

  pub one_left : (cl left : Clause) (cls : List Clause) → Leaves cl left → with_dead_false live (cl ∷ cls) ≡ left ∷ with_dead_false live cls
  one_left cl left cls l =
      ap (λ b. map (without_dead live) (cond (not b) (cl ∷ filter (λ c. not (denies_dead live c)) cls) (filter (λ c. not (denies_dead live c)) cls))) l.stays
      ∙ ap (λ x. x ∷ with_dead_false live cls) l.is

  pub one_gone : (cl : Clause) (cls : List Clause) → denies_dead live cl ≡ true → with_dead_false live (cl ∷ cls) ≡ with_dead_false live cls
  one_gone cl cls h = ap (λ b. map (without_dead live) (cond (not b) (cl ∷ filter (λ c. not (denies_dead live c)) cls) (filter (λ c. not (denies_dead live c)) cls))) h

  pub both_left : (xs ys : List Clause) → with_dead_false live (xs ++ ys) ≡ with_dead_false live xs ++ with_dead_false live ys
  both_left xs ys =
      ap (map (without_dead live)) (filter-append stays_in xs ys)
      ∙ map-append (without_dead live) (filter (λ c. not (denies_dead live c)) xs) (filter (λ c. not (denies_dead live c)) ys)

  pub each_left : {X : Type 0} (f : X → List Clause) (xs : List X) → with_dead_false live (flat_map f xs) ≡ flat_map (λ x. with_dead_false live (f x)) xs
  each_left f [] = refl
  each_left f (x ∷ xs) = both_left (f x) (flat_map f xs) ∙ ap (λ ys. with_dead_false live (f x) ++ ys) (each_left f xs)

  -- those that are made of what passes a test, as they are left; others go
  pub rows_left : {X : Type 0} (f g : X → List Clause) (test : X → Bool) (xs : List X) → ((x : X) → In x xs → test x ≡ true → with_dead_false live (f x) ≡ g x) → ((x : X) → In x xs → test x ≡ false → with_dead_false live (f x) ≡ [])
      → with_dead_false live (flat_map f xs) ≡ flat_map g (filter test xs)
  rows_left f g test xs h k = each_left f xs ∙ flat_map_kept test (λ x. with_dead_false live (f x)) g xs h k

  pub all_rows_left : {X : Type 0} (f g : X → List Clause) (xs : List X) → ((x : X) → In x xs → with_dead_false live (f x) ≡ g x) → with_dead_false live (flat_map f xs) ≡ flat_map g xs
  all_rows_left f g [] h = refl
  all_rows_left f g (x ∷ xs) h = both_left (f x) (flat_map f xs) ∙ ap₂ (λ ys zs. ys ++ zs) (h x (inl refl)) (all_rows_left f g xs (λ y m. h y (inr m)))

  pub kept_left : {X : Type 0} (f g : X → Clause) (test : X → Bool) (xs : List X) → ((x : X) → In x xs → test x ≡ true → Leaves (f x) (g x)) → ((x : X) → In x xs → test x ≡ false → denies_dead live (f x) ≡ true)
      → with_dead_false live (map f xs) ≡ map g (filter test xs)
  kept_left f g test [] h k = refl
  kept_left f g test (x ∷ xs) h k = go (test x) refl (kept_left f g test xs (λ y m. h y (inr m)) (λ y m. k y (inr m)))
    where
      go : (b : Bool) → test x ≡ b → with_dead_false live (map f xs) ≡ map g (filter test xs) → with_dead_false live (f x ∷ map f xs) ≡ map g (cond b (x ∷ filter test xs) (filter test xs))
      go true e rest = one_left (f x) (g x) (map f xs) (h x (inl refl) e) ∙ ap (λ ys. g x ∷ ys) rest
      go false e rest = one_gone (f x) (map f xs) (k x (inl refl) e) ∙ rest

  pub all_left_of : {X : Type 0} (f g : X → Clause) (xs : List X) → ((x : X) → In x xs → Leaves (f x) (g x)) → with_dead_false live (map f xs) ≡ map g xs
  all_left_of f g [] h = refl
  all_left_of f g (x ∷ xs) h = one_left (f x) (g x) (map f xs) (h x (inl refl)) ∙ ap (λ ys. g x ∷ ys) (all_left_of f g xs (λ y m. h y (inr m)))

  pub none_left : {X : Type 0} (f : X → Clause) (xs : List X) → ((x : X) → In x xs → denies_dead live (f x) ≡ true) → with_dead_false live (map f xs) ≡ []
  none_left f [] h = refl
  none_left f (x ∷ xs) h = one_gone (f x) (map f xs) (h x (inl refl)) ∙ none_left f xs (λ y m. h y (inr m))

  pub no_rows_left : {X : Type 0} (f : X → List Clause) (xs : List X) → ((x : X) → In x xs → with_dead_false live (f x) ≡ []) → with_dead_false live (flat_map f xs) ≡ []
  no_rows_left f [] h = refl
  no_rows_left f (x ∷ xs) h = both_left (f x) (flat_map f xs) ∙ ap₂ (λ ys zs. ys ++ zs) (h x (inl refl)) (no_rows_left f xs (λ y m. h y (inr m)))
