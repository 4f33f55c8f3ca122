-- Which visits are made on routes in a row, counted route by route.
use Rattle.std.proofs.Common.{◌≡◌, ℕ, zero, suc, ◌+◌, ◌≤◌, ◌<◌, ◌⊎◌, inl, inr, Bool, true, false, if◌then◌else◌, nat_le, List, [], ◌∷◌, ◌++◌, map, length, take, drop, get_or, ℤ, nat_abs, refl, sym, ap, ◌∙◌, arith, le-leb}
use Rattle.std.specs.Prelude.{is_some}
use Rattle.std.specs.List.{list_all}
use Rattle.std.proofs.lemmas.List.{drop_more, get_or_past, map-append}
use Rattle.rail_base.specs.declared.station.NodeNo.{NodeNo}
use Rattle.rail_base.specs.declared.state.PathNode.{PathNode}
use Rattle.rail_base.specs.declared.route.Route.{Route}
use Rattle.rail_base.specs.Numbering.{after_first, first_of_list, from_first}
use Rattle.rail_spec.specs.Plans.{has_node, length_mm}
use Rattle.rail_spec.specs.Places.{path_nodes_of, path_nodes_after, path_nodes, visits_at, visits_on}
use Rattle.rail_base.proofs.Members.{below_or_not, map-map}
use Rattle.rail_laws.proofs.Standing.{not_le}
use Rattle.train_ways.specs.Pairs.{made_at, made_behind, made_on}

-- ---- the number never falls, and stays within all visits

at_grows : (sets : List (List NodeNo)) (n : NodeNo) (j : ℕ) → j ≤ made_at sets n j
at_grows sets n j = go (has_node (get_or sets j []) n)
  where
    go : (b : Bool) → j ≤ (if b then j + 1 else j)
    go true = omega arith
    go false = omega arith

pub on_grows : (sets : List (List NodeNo)) (ns : List NodeNo) (j : ℕ) → j ≤ made_on sets ns j
on_grows sets [] j = omega arith
on_grows sets (n ∷ ns) j = let a = at_grows sets n j in let b = on_grows sets ns (made_at sets n j) in omega arith

at_within : (sets : List (List NodeNo)) (n : NodeNo) (j : ℕ) → j ≤ length sets → made_at sets n j ≤ length sets
at_within sets n j h = go (below_or_not j (length sets))
  where
    one : j < length sets → (b : Bool) → (if b then j + 1 else j) ≤ length sets
    one l true = omega arith
    one l false = omega arith

    go : (j < length sets) ⊎ (length sets ≤ j) → made_at sets n j ≤ length sets
    go (inl l) = one l (has_node (get_or sets j []) n)
    go (inr l) = let e : made_at sets n j ≡ j = ap (λ (set : List NodeNo). if has_node set n then j + 1 else j) (get_or_past sets j [] l) in omega arith

pub on_within : (sets : List (List NodeNo)) (ns : List NodeNo) (j : ℕ) → j ≤ length sets → made_on sets ns j ≤ length sets
on_within sets [] j h = h
on_within sets (n ∷ ns) j h = on_within sets ns (made_at sets n j) (at_within sets n j h)

on_append : (sets : List (List NodeNo)) (ms ns : List NodeNo) (j : ℕ) → made_on sets (ms ++ ns) j ≡ made_on sets ns (made_on sets ms j)
on_append sets [] ns j = refl
on_append sets (m ∷ ms) ns j = on_append sets ms ns (made_at sets m j)

-- ---- the next visits on nodes

pub nodes : List PathNode → List NodeNo
nodes ps = map (λ (p : PathNode). p.node) ps

no_more : (sets : List (List NodeNo)) (ps : List PathNode) (j : ℕ) → true ≡ nat_le (j + 0) (made_on sets (map (λ (p : PathNode). p.node) ps) j)
no_more sets ps j = sym (le-leb (j + 0) _ (let g = on_grows sets (map (λ (p : PathNode). p.node) ps) j in omega arith))

-- the next m visits are made on these nodes exactly where so many more are
pub next_made : (sets : List (List NodeNo)) (ps : List PathNode) (j m : ℕ) → j + m ≤ length sets → list_all is_some (take m (visits_at (drop j sets) ps)) ≡ nat_le (j + m) (made_on sets (map (λ (p : PathNode). p.node) ps) j)
next_made sets [] j zero h = no_more sets [] j
next_made sets [] j (suc m) h = ap (λ xs. list_all is_some (take (suc m) (visits_at xs []))) (drop_more sets j [] (omega arith)) ∙ sym (not_le (j + suc m) j (omega arith))
next_made sets (p ∷ ps) j zero h = no_more sets (p ∷ ps) j
next_made sets (p ∷ ps) j (suc m) h =
    ap (λ xs. list_all is_some (take (suc m) (visits_at xs (p ∷ ps)))) (drop_more sets j [] (omega arith))
    ∙ go (has_node (get_or sets j []) p.node) (next_made sets ps (j + 1) m (omega arith)) (next_made sets ps j (suc m) h)
  where
    go : (b : Bool) → list_all is_some (take m (visits_at (drop (j + 1) sets) ps)) ≡ nat_le (j + 1 + m) (made_on sets (map (λ (p : PathNode). p.node) ps) (j + 1))
        → list_all is_some (take (suc m) (visits_at (drop j sets) ps)) ≡ nat_le (j + suc m) (made_on sets (map (λ (p : PathNode). p.node) ps) j)
        → list_all is_some (take (suc m) (let here = if b then p ∷ ps else from_first (λ (p : PathNode). has_node (get_or sets j []) p.node) ps in first_of_list here ∷ visits_at (drop (j + 1) sets) (after_first here)))
        ≡ nat_le (j + suc m) (made_on sets (map (λ (p : PathNode). p.node) ps) (if b then j + 1 else j))
    go true here later = here ∙ ap (λ n. nat_le n (made_on sets (map (λ (p : PathNode). p.node) ps) (j + 1))) (omega arith)
    go false here later = sym (ap (λ xs. list_all is_some (take (suc m) (visits_at xs ps))) (drop_more sets j [] (omega arith))) ∙ later

-- ---- route by route

-- after routes in a row
abbrev pub made_after : List (List NodeNo) → List Route → ℕ → ℕ
made_after sets [] j = j
made_after sets (r ∷ rs) j = made_after sets rs (made_behind sets r j)

pub after_grows : (sets : List (List NodeNo)) (rs : List Route) (j : ℕ) → j ≤ made_after sets rs j
after_grows sets [] j = omega arith
after_grows sets (r ∷ rs) j = let a = on_grows sets (map (λ n. n.0) (after_first r.nodes)) j in let b = after_grows sets rs (made_behind sets r j) in omega arith

map-behind : {X Y : Type 0} (f : X → Y) (xs : List X) → after_first (map f xs) ≡ map f (after_first xs)
map-behind f [] = refl
map-behind f (x ∷ xs) = refl

abbrev node_of : PathNode → NodeNo
node_of p = p.node

further : (sets : List (List NodeNo)) (rs : List Route) (offset c j : ℕ) → made_on sets (map node_of (path_nodes_after offset c rs)) j ≡ made_after sets rs j
further sets [] offset c j = refl
further sets (r ∷ rs) offset c j =
    let one : map node_of (after_first (path_nodes_of offset c r)) ≡ map (λ n. n.0) (after_first r.nodes) = ap (map node_of) (map-behind (λ n. let p : PathNode = record { node = n.0; event = record { granted = c; place = offset + nat_abs n.1 } } in p) r.nodes) ∙ map-map node_of (λ n. let p : PathNode = record { node = n.0; event = record { granted = c; place = offset + nat_abs n.1 } } in p) (after_first r.nodes) in
    ap (λ ns. made_on sets ns j) (map-append node_of (after_first (path_nodes_of offset c r)) (path_nodes_after (offset + length_mm r) (c + 1) rs))
    ∙ on_append sets (map node_of (after_first (path_nodes_of offset c r))) (map node_of (path_nodes_after (offset + length_mm r) (c + 1) rs)) j
    ∙ ap (λ ns. made_on sets (map node_of (path_nodes_after (offset + length_mm r) (c + 1) rs)) (made_on sets ns j)) one
    ∙ further sets rs (offset + length_mm r) (c + 1) (made_behind sets r j)

-- the first visits are made on routes in a row exactly where so many are
pub first_made : (sets : List (List NodeNo)) (r : Route) (rs : List Route) (k : ℕ) → 1 ≤ length r.nodes → 1 ≤ k → k ≤ length sets
    → list_all is_some (take k (visits_on sets (path_nodes (r ∷ rs)))) ≡ nat_le k (made_after sets (r ∷ rs) 1)
first_made [] r rs k some low high = absurd (omega arith)
first_made (set ∷ later) r rs zero some low high = absurd (omega arith)
first_made (set ∷ later) r rs (suc m) some low high = go r.nodes refl some
  where
    go : (ns : List (NodeNo × ℤ)) → r.nodes ≡ ns → 1 ≤ length ns → list_all is_some (take (suc m) (visits_on (set ∷ later) (path_nodes (r ∷ rs)))) ≡ nat_le (suc m) (made_after (set ∷ later) (r ∷ rs) 1)
    go [] e h = absurd (omega arith)
    go (n ∷ ns) e h =
        let place : NodeNo × ℤ → PathNode = λ n. record { node = n.0; event = record { granted = 1; place = 0 + nat_abs n.1 } } in
        let after = path_nodes_after (length_mm r) 2 rs in
        let sets = set ∷ later in
        let whole : path_nodes (r ∷ rs) ≡ place n ∷ (map place ns ++ after) = ap (λ ns. map place ns ++ after) e in
        let behind : map (λ n. n.0) (after_first r.nodes) ≡ map (λ n. n.0) ns = ap (λ ns. map (λ n. n.0) (after_first ns)) e in
        let seen : made_on sets (map node_of (map place ns ++ after)) 1 ≡ made_after sets (r ∷ rs) 1 =
        ap (λ ns. made_on sets ns 1) (map-append node_of (map place ns) after)
        ∙ on_append sets (map node_of (map place ns)) (map node_of after) 1
        ∙ ap (λ ns. made_on sets (map node_of after) (made_on sets ns 1)) (map-map node_of place ns ∙ sym behind)
        ∙ further sets rs (length_mm r) 2 (made_behind sets r 1) in
        let same : 1 + m ≡ suc m = omega arith in
        ap (λ ps. list_all is_some (take (suc m) (visits_on sets ps))) whole
        ∙ next_made sets (map place ns ++ after) 1 m (omega arith)
        ∙ ap (λ j. nat_le j (made_on sets (map node_of (map place ns ++ after)) 1)) same
        ∙ ap (λ j. nat_le (suc m) j) seen
