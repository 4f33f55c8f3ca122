-- Routes without marks, and nodes and signals in sets.
use Rattle.std.proofs.Common.{◌≡◌, ℕ, suc, ◌+◌, ◌-◌, ◌≤◌, ◌<◌, Bool, true, false, ◌&&◌, ◌||◌, List, [], ◌∷◌, ◌++◌, map, take, get_or, length, Bor, refl, sym, ap, ap₂, ◌∙◌, arith}
use Rattle.std.specs.List.{list_all, list_any}
use Rattle.std.proofs.lemmas.List.{take_more}
use Rattle.std.proofs.lemmas.List.Folds.{list_all-append, list_any-append}
use Rattle.rail_base.specs.declared.station.NodeNo.{NodeNo}
use Rattle.rail_base.specs.declared.route.Finish.{Finish}
use Rattle.rail_base.specs.declared.route.Route.{Route}
use Rattle.rail_base.specs.declared.route.RouteNo.{RouteNo}
use Rattle.rail_base.specs.Numbering.{count_from, one_to}
use Rattle.rail_spec.specs.Plans.{goes_on, has_node, route_at}
use Rattle.number_sets.specs.declared.set.NumberSet.{NumberSet}
use Rattle.number_sets.specs.Sets.{contains}
use Rattle.bound_design.specs.Covering.{IsNodeSet, AreOf}

-- nodes of a list, by their set
pub nodes_met : {X : Type 0} (node : X → NodeNo) (set : NumberSet) (nodes : List NodeNo) → IsNodeSet set nodes → (xs : List X) → list_any (λ x. contains set (node x).0) xs ≡ list_any (λ x. has_node nodes (node x)) xs
nodes_met node set nodes h [] = refl
nodes_met node set nodes h (x ∷ xs) = ap₂ (λ a b. a || b) (h (node x)) (nodes_met node set nodes h xs)

-- ---- numbers in a row

pub count_here : (k n : ℕ) → k < n + 1 → count_from k (n + 1 - k) ≡ k ∷ count_from (k + 1) (n + 1 - (k + 1))
count_here k n h = let e : n + 1 - k ≡ suc (n + 1 - (k + 1)) = omega arith in ap (count_from k) e

pub count_done : (k n : ℕ) → n + 1 ≤ k → count_from k (n + 1 - k) ≡ []
count_done k n h = let e : n + 1 - k ≡ 0 = omega arith in ap (count_from k) e

and_moved : (a x y b : Bool) → x ≡ y → ((a && x) && b) ≡ (a && (y && b))
and_moved true x y b e = ap (λ z. z && b) e
and_moved false x y b e = refl

or_moved : (a b c : Bool) → (a || (b || c)) ≡ (a || b || c)
or_moved true b c = refl
or_moved false b c = refl

and_end : (a : Bool) → (a && true) ≡ a
and_end true = refl
and_end false = refl

-- a loop over numbers, with those that it has taken and those that are left
module _ (test : RouteNo → Bool) (n : ℕ) where
  abbrev pub from : ℕ → Bool
  from k = list_all test (map (λ m. record { 0 = m }) (count_from k (n + 1 - k)))

  pub taken : (k : ℕ) (before after a b c all : Bool) → k < n + 1 → test (record { 0 = k }) ≡ (a || b || c) → after ≡ (before && (a || (b || c))) → (before && from k) ≡ all → (after && from (k + 1)) ≡ all
  taken k before after a b c all h e f g =
      ap (λ z. z && from (k + 1)) f
      ∙ (and_moved before (a || (b || c)) (test (record { 0 = k })) (from (k + 1)) (or_moved a b c ∙ sym e)
      ∙ (sym (ap (λ ns. before && list_all test (map (λ m. record { 0 = m }) ns)) (count_here k n h)) ∙ g))

  pub all_taken : (k : ℕ) (before all : Bool) → n + 1 ≤ k → (before && from k) ≡ all → before ≡ all
  all_taken k before all h g =
      sym (ap (λ ns. before && list_all test (map (λ m. record { 0 = m }) ns)) (count_done k n h) ∙ and_end before) ∙ g

-- ---- one more

pub of_more : (routes : List Route) (numbers : List RouteNo) (i : ℕ) (d : RouteNo) (rs : List (Bor Route)) (r : Bor Route) → i < length numbers → r.now ≡ route_at routes (get_or numbers i d) → AreOf routes (take i numbers) rs → AreOf routes (take (i + 1) numbers) (rs ++ r ∷ [])
of_more routes numbers i d rs r h e before = λ test.
    list_all-append (λ (x : Bor Route). test x.now) rs (r ∷ [])
    ∙ (ap₂ (λ a b. a && (b && true)) (before test) (ap test e)
    ∙ (sym (list_all-append (λ q. test (route_at routes q)) (take i numbers) (get_or numbers i d ∷ []))
    ∙ sym (ap (list_all (λ q. test (route_at routes q))) (take_more numbers i d h))))

or_turned : (a b : Bool) → (a || b) ≡ (b || (a || false))
or_turned true true = refl
or_turned true false = refl
or_turned false true = refl
or_turned false false = refl

pub start_more : (routes : List Route) (numbers : List RouteNo) (i : ℕ) (d : RouteNo) (f : Finish) (new old : Bool) → i < length numbers → new ≡ (goes_on f (route_at routes (get_or numbers i d)).start || old) → old ≡ list_any (λ q. goes_on f (route_at routes q).start) (take i numbers) → new ≡ list_any (λ q. goes_on f (route_at routes q).start) (take (i + 1) numbers)
start_more routes numbers i d f new old h e g =
    let test : RouteNo → Bool = λ q. goes_on f (route_at routes q).start in
    e
    ∙ (or_turned (test (get_or numbers i d)) old
    ∙ (ap (λ b. b || (test (get_or numbers i d) || false)) g
    ∙ (sym (list_any-append test (take i numbers) (get_or numbers i d ∷ []))
    ∙ sym (ap (list_any test) (take_more numbers i d h)))))

-- ---- some number that passes a test

abbrev pub MissesFrom : (ℕ → Bool) → ℕ → ℕ → Type 0
MissesFrom test n k = list_any test (count_from k (n + 1 - k)) ≡ list_any test (one_to n)

module _ (test : ℕ → Bool) (n k : ℕ) where
  pub any_stop : k < n + 1 → test k ≡ true → MissesFrom test n k → true ≡ list_any test (one_to n)
  any_stop h e f = sym (ap (list_any test) (count_here k n h) ∙ ap (λ b. b || list_any test (count_from (k + 1) (n + 1 - (k + 1)))) e) ∙ f

  pub any_next : k < n + 1 → test k ≡ false → MissesFrom test n k → MissesFrom test n (k + 1)
  any_next h e f = sym (ap (list_any test) (count_here k n h) ∙ ap (λ b. b || list_any test (count_from (k + 1) (n + 1 - (k + 1)))) e) ∙ f

  pub any_done : n + 1 ≤ k → MissesFrom test n k → false ≡ list_any test (one_to n)
  any_done h f = sym (ap (list_any test) (count_done k n h)) ∙ f

pub any_same : {X : Type 0} (f g : X → Bool) (xs : List X) → ((x : X) → f x ≡ g x) → list_any f xs ≡ list_any g xs
any_same f g [] h = refl
any_same f g (x ∷ xs) h = ap₂ (λ a b. a || b) (h x) (any_same f g xs h)
