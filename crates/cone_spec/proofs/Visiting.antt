-- Visits on a path and on one that goes further: the same up to the end of the first.
use Rattle.std.proofs.Common.{◌≡◌, ℕ, zero, suc, ◌+◌, ◌≤◌, ◌<◌, ◌⊎◌, inl, inr, Bool, true, false, cond, List, [], ◌∷◌, ◌++◌, map, length, get_or, Option, None, Some, ℤ, nat_abs, refl, sym, ap, ap₂, subst, ◌∙◌, arith, append_assoc}
use Rattle.rail_base.specs.declared.station.NodeNo.{NodeNo}
use Rattle.rail_base.specs.declared.route.Route.{Route}
use Rattle.rail_base.specs.Numbering.{entry, least, or_this, from_first, first_of_list, after_first}
use Rattle.rail_spec.specs.Plans.{length_mm, has_node}
use Rattle.rail_base.specs.declared.state.PathNode.{PathNode}
use Rattle.rail_spec.specs.Places.{path_nodes_of, path_nodes_after, path_nodes, visits_at, visits_on}
use Rattle.rail_base.proofs.Members.{In}
use Rattle.rail_base.proofs.Lists.{in_append}

-- ---- the stops of a longer path

path_node_of : (o j : ℕ) (r : Route) (s : PathNode) → In s (path_nodes_of o j r) → s.event.granted ≡ j
path_node_of o j r s m = go r.nodes m
  where
    go : (ps : List (NodeNo × ℤ)) → In s (map (λ p. record { node = p.0; event = record { granted = j; place = o + nat_abs p.1 } }) ps) → s.event.granted ≡ j
    go [] m = absurd m
    go (p ∷ ps) (inl e) = sym (ap (λ (x : PathNode). x.event.granted) e)
    go (p ∷ ps) (inr m) = go ps m

pub in_after_first : {X : Type 0} (xs : List X) (x : X) → In x (after_first xs) → In x xs
in_after_first [] x m = absurd m
in_after_first (y ∷ ys) x m = inr m

path_nodes_after_far : (o j : ℕ) (rs : List Route) (s : PathNode) → In s (path_nodes_after o j rs) → j ≤ s.event.granted
path_nodes_after_far o j [] s m = absurd m
path_nodes_after_far o j (r ∷ rs) s m = go (in_append s (after_first (path_nodes_of o j r)) (path_nodes_after (o + length_mm r) (j + 1) rs) m) (path_nodes_after_far (o + length_mm r) (j + 1) rs s)
  where
    go : In s (after_first (path_nodes_of o j r)) ⊎ In s (path_nodes_after (o + length_mm r) (j + 1) rs) → (In s (path_nodes_after (o + length_mm r) (j + 1) rs) → j + 1 ≤ s.event.granted) → j ≤ s.event.granted
    go (inl n) later = let e = path_node_of o j r s (in_after_first (path_nodes_of o j r) s n) in omega arith
    go (inr n) later = let e = later n in omega arith

-- the stops of a longer path are those of the shorter one and others that belong to later commands
pub record Longer (n : ℕ) (xs ys : List PathNode) : Type 0 where
  pub more : List PathNode
  pub all : ys ≡ xs ++ more
  pub far : (s : PathNode) → In s more → n < s.event.granted

longer_after : (o j : ℕ) (rs more : List Route) → (far : List PathNode) × (path_nodes_after o j (rs ++ more) ≡ path_nodes_after o j rs ++ far) × ((s : PathNode) → In s far → j + length rs ≤ s.event.granted)
longer_after o j [] more = (path_nodes_after o j more, refl, λ s m. let l = path_nodes_after_far o j more s m in omega arith)
longer_after o j (r ∷ rs) more =
    let k = longer_after (o + length_mm r) (j + 1) rs more in
    (k.0, ap (λ zs. after_first (path_nodes_of o j r) ++ zs) k.1 ∙ sym (append_assoc (after_first (path_nodes_of o j r)) (path_nodes_after (o + length_mm r) (j + 1) rs) k.0), λ s m. let l = k.2 s m in omega arith)

pub longer : (rs more : List Route) → Longer (length rs) (path_nodes rs) (path_nodes (rs ++ more))
longer [] [] = record { more = []; all = refl; far = λ s m. absurd m }
longer [] (q ∷ qs) = record { more = path_nodes (q ∷ qs); all = refl; far = λ s m. far s (in_append s (path_nodes_of 0 1 q) (path_nodes_after (length_mm q) 2 qs) m) }
  where
    far : (s : PathNode) → In s (path_nodes_of 0 1 q) ⊎ In s (path_nodes_after (length_mm q) 2 qs) → 0 < s.event.granted
    far s (inl n) = let e = path_node_of 0 1 q s n in omega arith
    far s (inr n) = let e = path_nodes_after_far (length_mm q) 2 qs s n in omega arith
longer (r ∷ rs) more =
    let k = longer_after (length_mm r) 2 rs more in
    record {
      more = k.0;
      all = ap (λ zs. path_nodes_of 0 1 r ++ zs) k.1 ∙ sym (append_assoc (path_nodes_of 0 1 r) (path_nodes_after (length_mm r) 2 rs) k.0);
      far = λ s m. let l = k.2 s m in omega arith;
    }

-- ---- the visits on it

-- a visit is made at the same stop, or on the longer path alone at a stop of a later command
abbrev pub Alike : ℕ → Option PathNode → Option PathNode → Type 0
Alike n a b = (b ≡ a) ⊎ ((a ≡ None) × (s : PathNode) × (b ≡ Some s) × (n < s.event.granted))

in_from_first : {X : Type 0} (test : X → Bool) (xs : List X) (x : X) → In x (from_first test xs) → In x xs
in_from_first test [] x m = absurd m
in_from_first {X} test (y ∷ ys) x m = go (test y) m (in_from_first test ys x)
  where
    go : (b : Bool) → In x (cond b (y ∷ ys) (from_first test ys)) → (In x (from_first test ys) → In x ys) → In x (y ∷ ys)
    go true k later = k
    go false k later = inr (later k)

-- the first that passes is found in the first list, or there is none in it
from_first-append : {X : Type 0} (test : X → Bool) (xs ys : List X) → ((z : X) × (zs : List X) × (from_first test xs ≡ z ∷ zs) × (from_first test (xs ++ ys) ≡ z ∷ zs ++ ys)) ⊎ ((from_first test xs ≡ []) × (from_first test (xs ++ ys) ≡ from_first test ys))
from_first-append test [] ys = inr (refl, refl)
from_first-append {X} test (x ∷ xs) ys = go (test x) refl (from_first-append test xs ys)
  where
    go : (b : Bool) → test x ≡ b → ((z : X) × (zs : List X) × (from_first test xs ≡ z ∷ zs) × (from_first test (xs ++ ys) ≡ z ∷ zs ++ ys)) ⊎ ((from_first test xs ≡ []) × (from_first test (xs ++ ys) ≡ from_first test ys))
        → ((z : X) × (zs : List X) × (cond b (x ∷ xs) (from_first test xs) ≡ z ∷ zs) × (cond b (x ∷ xs ++ ys) (from_first test (xs ++ ys)) ≡ z ∷ zs ++ ys)) ⊎ ((cond b (x ∷ xs) (from_first test xs) ≡ []) × (cond b (x ∷ xs ++ ys) (from_first test (xs ++ ys)) ≡ from_first test ys))
    go true e k = inl (x, xs, refl, refl)
    go false e k = k

first_alike : (n : ℕ) (ys : List PathNode) → ((s : PathNode) → In s ys → n < s.event.granted) → Alike n None (first_of_list ys)
first_alike n [] far = inl refl
first_alike n (y ∷ ys) far = inr (refl, y, refl, far y (inl refl))

visits_at_alike : (n : ℕ) (sets : List (List NodeNo)) (i : ℕ) (xs ys : List PathNode) → ((s : PathNode) → In s ys → n < s.event.granted) → Alike n (get_or (visits_at sets xs) i None) (get_or (visits_at sets (xs ++ ys)) i None)
visits_at_alike n [] i xs ys far = inl refl
visits_at_alike n (set ∷ sets) zero xs ys far = go (from_first-append (λ (p : PathNode). has_node set p.node) xs ys)
  where
    test : PathNode → Bool
    test p = has_node set p.node

    go : ((z : PathNode) × (zs : List PathNode) × (from_first (λ (p : PathNode). has_node set p.node) xs ≡ z ∷ zs) × (from_first (λ (p : PathNode). has_node set p.node) (xs ++ ys) ≡ z ∷ zs ++ ys)) ⊎ ((from_first (λ (p : PathNode). has_node set p.node) xs ≡ []) × (from_first (λ (p : PathNode). has_node set p.node) (xs ++ ys) ≡ from_first (λ (p : PathNode). has_node set p.node) ys))
        → Alike n (first_of_list (from_first (λ (p : PathNode). has_node set p.node) xs)) (first_of_list (from_first (λ (p : PathNode). has_node set p.node) (xs ++ ys)))
    go (inl (z, zs, e, f)) = inl (ap first_of_list f ∙ sym (ap first_of_list e))
    go (inr (e, f)) = subst (λ a. Alike n (first_of_list a) (first_of_list (from_first (λ (p : PathNode). has_node set p.node) (xs ++ ys)))) (sym e)
        (subst (λ a. Alike n None (first_of_list a)) (sym f) (first_alike n (from_first (λ (p : PathNode). has_node set p.node) ys) (λ s m. far s (in_from_first (λ (p : PathNode). has_node set p.node) ys s m))))
visits_at_alike n (set ∷ sets) (suc i) xs ys far = go (from_first-append (λ (p : PathNode). has_node set p.node) xs ys) (λ us vs. visits_at_alike n sets i us vs)
  where
    go : ((z : PathNode) × (zs : List PathNode) × (from_first (λ (p : PathNode). has_node set p.node) xs ≡ z ∷ zs) × (from_first (λ (p : PathNode). has_node set p.node) (xs ++ ys) ≡ z ∷ zs ++ ys)) ⊎ ((from_first (λ (p : PathNode). has_node set p.node) xs ≡ []) × (from_first (λ (p : PathNode). has_node set p.node) (xs ++ ys) ≡ from_first (λ (p : PathNode). has_node set p.node) ys))
        → ((us vs : List PathNode) → ((s : PathNode) → In s vs → n < s.event.granted) → Alike n (get_or (visits_at sets us) i None) (get_or (visits_at sets (us ++ vs)) i None))
        → Alike n (get_or (visits_at sets (after_first (from_first (λ (p : PathNode). has_node set p.node) xs))) i None) (get_or (visits_at sets (after_first (from_first (λ (p : PathNode). has_node set p.node) (xs ++ ys)))) i None)
    go (inl (z, zs, e, f)) again =
        subst (λ a. Alike n (get_or (visits_at sets (after_first a)) i None) (get_or (visits_at sets (after_first (from_first (λ (p : PathNode). has_node set p.node) (xs ++ ys)))) i None)) (sym e)
        (subst (λ a. Alike n (get_or (visits_at sets zs) i None) (get_or (visits_at sets (after_first a)) i None)) (sym f) (again zs ys far))
    go (inr (e, f)) again =
        subst (λ a. Alike n (get_or (visits_at sets (after_first a)) i None) (get_or (visits_at sets (after_first (from_first (λ (p : PathNode). has_node set p.node) (xs ++ ys)))) i None)) (sym e)
        (subst (λ a. Alike n (get_or (visits_at sets []) i None) (get_or (visits_at sets (after_first a)) i None)) (sym f)
        (again [] (after_first (from_first (λ (p : PathNode). has_node set p.node) ys)) (λ s m. far s (in_from_first (λ (p : PathNode). has_node set p.node) ys s (in_after_first (from_first (λ (p : PathNode). has_node set p.node) ys) s m)))))

visits_on_alike : (n : ℕ) (sets : List (List NodeNo)) (i : ℕ) (xs ys : List PathNode) → ((s : PathNode) → In s ys → n < s.event.granted) → Alike n (get_or (visits_on sets xs) i None) (get_or (visits_on sets (xs ++ ys)) i None)
visits_on_alike n [] i xs ys far = inl refl
visits_on_alike n (set ∷ sets) zero [] ys far = first_alike n ys far
visits_on_alike n (set ∷ sets) zero (x ∷ xs) ys far = inl refl
visits_on_alike n (set ∷ sets) (suc i) [] ys far = visits_at_alike n sets i [] (after_first ys) (λ s m. far s (in_after_first ys s m))
visits_on_alike n (set ∷ sets) (suc i) (x ∷ xs) ys far = visits_at_alike n sets i xs ys far

-- each visit is made alike on a path and on a longer one
pub visits_alike : (sets : List (List NodeNo)) (rs more : List Route) (j : ℕ) → Alike (length rs) (entry None (visits_on sets (path_nodes rs)) j) (entry None (visits_on sets (path_nodes (rs ++ more))) j)
visits_alike sets rs more zero = inl refl
visits_alike sets rs more (suc i) =
    let l = longer rs more in
    subst (λ ss. Alike (length rs) (get_or (visits_on sets (path_nodes rs)) i None) (get_or (visits_on sets ss) i None)) (sym l.all) (visits_on_alike (length rs) sets i (path_nodes rs) l.more l.far)

-- ---- the least number that passes

pub least_same : (one two : ℕ → Bool) (n : ℕ) → ((i : ℕ) → i ≤ n → one i ≡ two i) → least one n ≡ least two n
least_same one two zero h = refl
least_same one two (suc n) h = ap₂ (λ o b. or_this o b (suc n)) (least_same one two n (λ i l. h i (omega arith))) (h (suc n) (omega arith))

pub least_none : (test : ℕ → Bool) (n : ℕ) → ((i : ℕ) → i ≤ n → test i ≡ false) → least test n ≡ None
least_none test zero h = refl
least_none test (suc n) h = ap₂ (λ o b. or_this o b (suc n)) (least_none test n (λ i l. h i (omega arith))) (h (suc n) (omega arith))
