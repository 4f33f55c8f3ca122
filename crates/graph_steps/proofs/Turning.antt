-- The lists of the graph that is turned back.
use Rattle.std.proofs.Common.{◌≡◌, ◌≢◌, ℕ, zero, suc, ◌+◌, ◌<◌, ◌⊎◌, inl, inr, List, [], ◌∷◌, ◌++◌, length, replicate, refl, sym, subst, ◌∙◌, arith, get_or-set_same, get_or-set_other}
use Rattle.std.proofs.lemmas.List.{length-set, length-replicate}
use Rattle.rail_base.specs.Members.{In}
use Rattle.rail_base.proofs.Lists.{in_append, in_append_left, in_append_right}
use Rattle.graph_steps.specs.Graphs.{next, IsGraph, IsTurned}
use Rattle.graph_steps.specs.Marks.{with_each, with_item, with_items}
use Rattle.graph_steps.proofs.Marking.{same_or_not}

pub same_many : (p : ℕ) (lists : List (List ℕ)) (qs : List ℕ) → length (with_items p lists qs) ≡ length lists
same_many p lists [] = refl
same_many p lists (q ∷ qs) = same_many p (with_item p lists q) qs ∙ length-set lists q (next lists q ++ p ∷ [])

-- ---- one item more

item_there : (p : ℕ) (lists : List (List ℕ)) (q x y : ℕ) → q < length lists → In x (next (with_item p lists q) y) → In x (next lists y) ⊎ ((x ≡ p) × (y ≡ q))
item_there p lists q x y within m = go (same_or_not y q)
  where
    here : (y ≡ q) → In x (next lists q ++ p ∷ []) → In x (next lists y) ⊎ ((x ≡ p) × (y ≡ q))
    here s k = of (in_append x (next lists q) (p ∷ []) k)
      where
        of : In x (next lists q) ⊎ In x (p ∷ []) → In x (next lists y) ⊎ ((x ≡ p) × (y ≡ q))
        of (inl h) = inl (subst (λ z. In x (next lists z)) (sym s) h)
        of (inr (inl h)) = inr (sym h, s)
        of (inr (inr h)) = absurd h

    go : (y ≡ q) ⊎ (y ≢ q) → In x (next lists y) ⊎ ((x ≡ p) × (y ≡ q))
    go (inl s) = here s (subst (In x) (get_or-set_same lists q (next lists q ++ p ∷ []) [] within) (subst (λ z. In x (next (with_item p lists q) z)) s m))
    go (inr s) = inl (subst (In x) (get_or-set_other lists q y (next lists q ++ p ∷ []) [] s) m)

item_stays : (p : ℕ) (lists : List (List ℕ)) (q x y : ℕ) → q < length lists → In x (next lists y) → In x (next (with_item p lists q) y)
item_stays p lists q x y within m = go (same_or_not y q)
  where
    go : (y ≡ q) ⊎ (y ≢ q) → In x (next (with_item p lists q) y)
    go (inl s) = subst (λ z. In x (next (with_item p lists q) z)) (sym s) (subst (In x) (sym (get_or-set_same lists q (next lists q ++ p ∷ []) [] within)) (in_append_left x (next lists q) (p ∷ []) (subst (λ z. In x (next lists z)) s m)))
    go (inr s) = subst (In x) (sym (get_or-set_other lists q y (next lists q ++ p ∷ []) [] s)) m

item_new : (p : ℕ) (lists : List (List ℕ)) (q : ℕ) → q < length lists → In p (next (with_item p lists q) q)
item_new p lists q within = subst (In p) (sym (get_or-set_same lists q (next lists q ++ p ∷ []) [] within)) (in_append_right p (next lists q) (p ∷ []) (inl refl))

-- ---- in each of some lists

abbrev Within : List (List ℕ) → List ℕ → Type 0
Within lists qs = (q : ℕ) → In q qs → q < length lists

items_there : (p : ℕ) (lists : List (List ℕ)) (qs : List ℕ) (x y : ℕ) → Within lists qs → In x (next (with_items p lists qs) y) → In x (next lists y) ⊎ ((x ≡ p) × In y qs)
items_there p lists [] x y within m = inl m
items_there p lists (q ∷ qs) x y within m = go (items_there p (with_item p lists q) qs x y (λ z k. let w = within z (inr k) in let l = length-set lists q (next lists q ++ p ∷ []) in omega arith) m)
  where
    first : In x (next lists y) ⊎ ((x ≡ p) × (y ≡ q)) → In x (next lists y) ⊎ ((x ≡ p) × In y (q ∷ qs))
    first (inl h) = inl h
    first (inr h) = inr (h.0, inl (sym h.1))

    go : In x (next (with_item p lists q) y) ⊎ ((x ≡ p) × In y qs) → In x (next lists y) ⊎ ((x ≡ p) × In y (q ∷ qs))
    go (inl h) = first (item_there p lists q x y (within q (inl refl)) h)
    go (inr h) = inr (h.0, inr h.1)

items_stay : (p : ℕ) (lists : List (List ℕ)) (qs : List ℕ) (x y : ℕ) → Within lists qs → In x (next lists y) → In x (next (with_items p lists qs) y)
items_stay p lists [] x y within m = m
items_stay p lists (q ∷ qs) x y within m = items_stay p (with_item p lists q) qs x y (λ z k. let w = within z (inr k) in let l = length-set lists q (next lists q ++ p ∷ []) in omega arith) (item_stays p lists q x y (within q (inl refl)) m)

items_new : (p : ℕ) (lists : List (List ℕ)) (qs : List ℕ) (y : ℕ) → Within lists qs → In y qs → In p (next (with_items p lists qs) y)
items_new p lists [] y within m = absurd m
items_new p lists (q ∷ qs) y within (inl e) = items_stay p (with_item p lists q) qs p y (λ z k. let w = within z (inr k) in let l = length-set lists q (next lists q ++ p ∷ []) in omega arith) (subst (λ z. In p (next (with_item p lists q) z)) e (item_new p lists q (within q (inl refl))))
items_new p lists (q ∷ qs) y within (inr k) = items_new p (with_item p lists q) qs y (λ z k. let w = within z (inr k) in let l = length-set lists q (next lists q ++ p ∷ []) in omega arith) k

-- ---- the lists of all nodes in turn

abbrev AllWithin : List (List ℕ) → List (List ℕ) → Type 0
AllWithin lists graph = (j q : ℕ) → In q (next graph j) → q < length lists

pub each_many : (i : ℕ) (lists graph : List (List ℕ)) → length (with_each i lists graph) ≡ length lists
each_many i lists [] = refl
each_many i lists (qs ∷ rest) = each_many (i + 1) (with_items i lists qs) rest ∙ same_many i lists qs

tail_within : (i : ℕ) (lists : List (List ℕ)) (qs : List ℕ) (rest : List (List ℕ)) → AllWithin lists (qs ∷ rest) → AllWithin (with_items i lists qs) rest
tail_within i lists qs rest within j q m = let w = within (suc j) q m in let s = same_many i lists qs in omega arith

each_there : (i : ℕ) (lists graph : List (List ℕ)) (x y : ℕ) → AllWithin lists graph → In x (next (with_each i lists graph) y) → In x (next lists y) ⊎ ((j : ℕ) × (x ≡ i + j) × In y (next graph j))
each_there i lists [] x y within m = inl m
each_there i lists (qs ∷ rest) x y within m = go (each_there (i + 1) (with_items i lists qs) rest x y (tail_within i lists qs rest within) m)
  where
    first : In x (next lists y) ⊎ ((x ≡ i) × In y qs) → In x (next lists y) ⊎ ((j : ℕ) × (x ≡ i + j) × In y (next (qs ∷ rest) j))
    first (inl h) = inl h
    first (inr h) = inr (0, let e = h.0 in omega arith, h.1)

    go : In x (next (with_items i lists qs) y) ⊎ ((j : ℕ) × (x ≡ i + 1 + j) × In y (next rest j)) → In x (next lists y) ⊎ ((j : ℕ) × (x ≡ i + j) × In y (next (qs ∷ rest) j))
    go (inl h) = first (items_there i lists qs x y (λ q k. within 0 q k) h)
    go (inr h) = inr (suc h.0, let e = h.1 in omega arith, h.2)

each_stays : (i : ℕ) (lists graph : List (List ℕ)) (x y : ℕ) → AllWithin lists graph → In x (next lists y) → In x (next (with_each i lists graph) y)
each_stays i lists [] x y within m = m
each_stays i lists (qs ∷ rest) x y within m = each_stays (i + 1) (with_items i lists qs) rest x y (tail_within i lists qs rest within) (items_stay i lists qs x y (λ q k. within 0 q k) m)

each_new : (i : ℕ) (lists graph : List (List ℕ)) (j y : ℕ) → AllWithin lists graph → In y (next graph j) → In (i + j) (next (with_each i lists graph) y)
each_new i lists [] j y within m = absurd m
each_new i lists (qs ∷ rest) zero y within m =
    let there = each_stays (i + 1) (with_items i lists qs) rest i y (tail_within i lists qs rest within) (items_new i lists qs y (λ q k. within 0 q k) m) in
    let same : i ≡ i + 0 = omega arith in
    subst (λ z. In z (next (with_each i lists (qs ∷ rest)) y)) same there
each_new i lists (qs ∷ rest) (suc j) y within m =
    let there = each_new (i + 1) (with_items i lists qs) rest j y (tail_within i lists qs rest within) m in
    let same : i + 1 + j ≡ i + suc j = omega arith in
    subst (λ z. In z (next (with_each i lists (qs ∷ rest)) y)) same there

-- ---- all of it

none_in : (n x y : ℕ) → In x (next (replicate n []) y) → ⊥
none_in zero x y m = m
none_in (suc n) x zero m = m
none_in (suc n) x (suc y) m = none_in n x y m

past_end : (graph : List (List ℕ)) (p q : ℕ) → In q (next graph p) → p < length graph
past_end [] p q m = absurd m
past_end (qs ∷ rest) zero q m = omega arith
past_end (qs ∷ rest) (suc p) q m = let l = past_end rest p q m in omega arith

pub is_turned : (graph : List (List ℕ)) → IsGraph graph → IsTurned graph (with_each 0 (replicate (length graph) []) graph)
is_turned graph is_graph = record {
  same_nodes = many;
  is_graph = λ q p m. subst (λ n. p < n) (sym many) (past_end graph p q (there p q m));
  steps = λ p q. (there p q, back p q);
}
  where
    empty : length (replicate (length graph) (let x : List ℕ = [] in x)) ≡ length graph
    empty = length-replicate (length graph) []

    many : length (with_each 0 (replicate (length graph) []) graph) ≡ length graph
    many = each_many 0 (replicate (length graph) []) graph ∙ empty

    within : AllWithin (replicate (length graph) []) graph
    within p q m = subst (λ n. q < n) (sym empty) (is_graph p q m)

    there : (p q : ℕ) → In p (next (with_each 0 (replicate (length graph) []) graph) q) → In q (next graph p)
    there p q m = go (each_there 0 (replicate (length graph) []) graph p q within m)
      where
        go : In p (next (replicate (length graph) []) q) ⊎ ((j : ℕ) × (p ≡ 0 + j) × In q (next graph j)) → In q (next graph p)
        go (inl h) = absurd (none_in (length graph) p q h)
        go (inr h) = let e = h.1 in let same : h.0 ≡ p = omega arith in subst (λ z. In q (next graph z)) same h.2

    back : (p q : ℕ) → In q (next graph p) → In p (next (with_each 0 (replicate (length graph) []) graph) q)
    back p q m =
        let n = each_new 0 (replicate (length graph) []) graph p q within m in
        let same : 0 + p ≡ p = omega arith in
        subst (λ z. In z (next (with_each 0 (replicate (length graph) []) graph) q)) same n
