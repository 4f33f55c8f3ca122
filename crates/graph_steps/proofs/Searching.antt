-- The search comes to each node in the least number of steps.
use Rattle.std.proofs.Common.{◌≡◌, ℕ, zero, suc, ◌+◌, ◌≤◌, ◌<◌, ◌⊎◌, inl, inr, List, [], ◌∷◌, flat_map, length, replicate, Option, Some, None, true, false, ◌==◌, refl, sym, ap, subst, ◌∙◌, arith, eq-eqb, eq-or-lt_of_le, true≢false}
use Rattle.std.proofs.lemmas.List.{get_or_past}
use Rattle.rail_base.specs.Members.{In}
use Rattle.rail_base.proofs.Lists.{in_flat_map, in_flat_map_back}
use Rattle.rail_base.proofs.Members.{below_or_not}
use Rattle.graph_steps.specs.Graphs.{next, AreLeast, Comes, IsGraph, IsLeast}
use Rattle.graph_steps.specs.Marks.{Marked, mark_all, mark_next}
use Rattle.graph_steps.proofs.Leading.{comes_last, comes_then}
use Rattle.graph_steps.proofs.Marking.{known, unfound, Marks, marks_all, next_is_all}

pub some_left : (front slice : List ℕ) → slice ≡ front → (length slice == 0) ≡ false → 1 ≤ length front
some_left [] slice e h = let z : (length slice == 0) ≡ true = eq-eqb (length slice) 0 (ap length e) in absurd (true≢false (sym z ∙ h))
some_left (q ∷ qs) slice e h = omega arith

pub moved_on : (graph : List (List ℕ)) (found : List (Option ℕ)) (slice front : List ℕ) (n k : ℕ) (new : Marked) → new ≡ mark_next graph n (record { found = found; front = [] }) slice → slice ≡ front → n ≡ k
    → new ≡ mark_next graph k (record { found = found; front = [] }) front
moved_on graph found slice front n k new is same step = is ∙ ap (λ ps. mark_next graph n (record { found = found; front = [] }) ps) same ∙ ap (λ j. mark_next graph j (record { found = found; front = [] }) front) step

module _ (graph : List (List ℕ)) (starts : List ℕ) where
  -- after so many steps: what is found, and what was found last
  pub record Searched (steps : ℕ) (m : Marked) : Type 0 where
    pub one_a_node : length m.found ≡ length graph
    pub few : (q e : ℕ) → known m.found q ≡ Some e → e ≤ steps
    pub comes : (q e : ℕ) → known m.found q ≡ Some e → Comes graph starts e q
    pub least : (q e : ℕ) → e ≤ steps → Comes graph starts e q → (k : ℕ) × (known m.found q ≡ Some k) × (k ≤ e)
    pub last : (q : ℕ) → known m.found q ≡ Some steps → In q m.front
    pub front : (q : ℕ) → In q m.front → known m.found q ≡ Some steps
    pub room : steps + (unfound m.found + length m.front) ≤ length graph

  pub front_within : (steps : ℕ) (m : Marked) → Searched steps m → (q : ℕ) → In q m.front → q < length graph
  front_within steps m s q h = go (below_or_not q (length m.found))
    where
      go : (q < length m.found) ⊎ (length m.found ≤ q) → q < length graph
      go (inl l) = let e = s.one_a_node in omega arith
      go (inr l) = let none = get_or_past m.found q None l in let some = s.front q h in cc

  -- ---- the first nodes

  module _ (within : (q : ℕ) → In q starts → q < length graph) where
    none_yet : (n q : ℕ) → known (replicate n None) q ≡ None
    none_yet zero q = refl
    none_yet (suc n) zero = refl
    none_yet (suc n) (suc q) = none_yet n q

    all_unfound : (n : ℕ) → unfound (replicate n None) ≡ n
    all_unfound zero = refl
    all_unfound (suc n) = ap suc (all_unfound n)

    so_many : (n : ℕ) → length (replicate n (let x : Option ℕ = None in x)) ≡ n
    so_many zero = refl
    so_many (suc n) = ap suc (so_many n)

    abbrev empty : Marked
    empty = record { found = replicate (length graph) None; front = [] }

    begun : Marks 0 starts empty (mark_all 0 empty starts)
    begun = marks_all 0 starts empty (λ q h. let l = within q h in let s = so_many (length graph) in omega arith)

    pub searched_first : Searched 0 (mark_all 0 empty starts)
    searched_first = record {
      one_a_node = begun.same_length ∙ so_many (length graph);
      few = λ q e h. few q e (begun.new q e h);
      comes = λ q e h. comes q e (begun.new q e h);
      least = λ q e l c. least q e l c;
      last = λ q h. begun.into_front q 0 (none_yet (length graph) q) h;
      front = λ q h. front q (begun.of_front q h);
      room = let m = begun.many in let u = all_unfound (length graph) in omega arith;
    }
      where
        few : (q e : ℕ) → (known (replicate (length graph) None) q ≡ Some e) ⊎ ((known (replicate (length graph) None) q ≡ None) × (e ≡ 0) × In q starts) → e ≤ 0
        few q e (inl h) = let n = none_yet (length graph) q in cc
        few q e (inr h) = let s = h.1 in omega arith

        comes : (q e : ℕ) → (known (replicate (length graph) None) q ≡ Some e) ⊎ ((known (replicate (length graph) None) q ≡ None) × (e ≡ 0) × In q starts) → Comes graph starts e q
        comes q e (inl h) = let n = none_yet (length graph) q in cc
        comes q e (inr h) = subst (λ x. Comes graph starts x q) (sym h.1) (q, h.2, refl)

        least : (q e : ℕ) → e ≤ 0 → Comes graph starts e q → (k : ℕ) × (known (mark_all 0 empty starts).found q ≡ Some k) × (k ≤ e)
        least q zero l c =
            let k = begun.come q (subst (λ x. In x starts) c.2 c.1) in
            (k.0, k.1, few q k.0 (begun.new q k.0 k.1))
        least q (suc e) l c = absurd (omega arith)

        front : (q : ℕ) → In q [] ⊎ (known (mark_all 0 empty starts).found q ≡ Some 0) → known (mark_all 0 empty starts).found q ≡ Some 0
        front q (inl h) = absurd h
        front q (inr h) = h

  -- ---- one step further

  module _ (is_graph : IsGraph graph) (steps : ℕ) (m : Marked) (s : Searched steps m) (some : 1 ≤ length m.front) where
    abbrev ahead : List ℕ
    ahead = flat_map (next graph) m.front

    abbrev before : Marked
    before = record { found = m.found; front = [] }

    abbrev further : Marked
    further = mark_all (suc steps) before ahead

    moved : Marks (suc steps) ahead before further
    moved = marks_all (suc steps) ahead before (λ q h. let i = in_flat_map_back (next graph) m.front q h in let l = is_graph i.0 q i.2 in let e = s.one_a_node in omega arith)

    new_comes : (q e : ℕ) → (known m.found q ≡ Some e) ⊎ ((known m.found q ≡ None) × (e ≡ suc steps) × In q ahead) → Comes graph starts e q
    new_comes q e (inl h) = s.comes q e h
    new_comes q e (inr h) =
        let i = in_flat_map_back (next graph) m.front q h.2 in
        subst (λ x. Comes graph starts x q) (sym h.1) (comes_then graph starts steps i.0 q (s.comes i.0 steps (s.front i.0 i.1)) i.2)

    new_few : (q e : ℕ) → (known m.found q ≡ Some e) ⊎ ((known m.found q ≡ None) × (e ≡ suc steps) × In q ahead) → e ≤ suc steps
    new_few q e (inl h) = let l = s.few q e h in omega arith
    new_few q e (inr h) = let l = h.1 in omega arith

    new_least : (q e : ℕ) → e ≤ suc steps → Comes graph starts e q → (k : ℕ) × (known further.found q ≡ Some k) × (k ≤ e)
    new_least q e l c = go (below_or_not steps e)
      where
        old : (e : ℕ) → e ≤ steps → Comes graph starts e q → (k : ℕ) × (known further.found q ≡ Some k) × (k ≤ e)
        old e l c = let k = s.least q e l c in (k.0, moved.kept q k.0 k.1, k.2)

        more : (k e : ℕ) → k ≤ e → (j : ℕ) × (known further.found q ≡ Some j) × (j ≤ k) → (j : ℕ) × (known further.found q ≡ Some j) × (j ≤ e)
        more k e l j = (j.0, j.1, let h = j.2 in omega arith)

        from : (p k : ℕ) → k ≤ steps → known m.found p ≡ Some k → In q (next graph p) → (k ≡ steps) ⊎ (k < steps) → (j : ℕ) × (known further.found q ≡ Some j) × (j ≤ suc steps)
        from p k h is step (inl e) =
            let j = moved.come q (in_flat_map (next graph) m.front p q (s.last p (subst (λ x. known m.found p ≡ Some x) e is)) step) in
            (j.0, j.1, new_few q j.0 (moved.new q j.0 j.1))
        from p k h is step (inr e) = more (suc k) (suc steps) (omega arith) (old (suc k) (omega arith) (comes_then graph starts k p q (s.comes p k is) step))

        last : (e : ℕ) → e ≡ suc steps → Comes graph starts e q → (k : ℕ) × (known further.found q ≡ Some k) × (k ≤ e)
        last e is c =
            let u = comes_last graph starts steps q (subst (λ x. Comes graph starts x q) is c) in
            let k = s.least u.0 steps (omega arith) u.1 in
            more (suc steps) e (omega arith) (from u.0 k.0 k.2 k.1 u.2 (eq-or-lt_of_le k.2))

        go : (steps < e) ⊎ (e ≤ steps) → (k : ℕ) × (known further.found q ≡ Some k) × (k ≤ e)
        go (inl h) = last e (omega arith) c
        go (inr h) = old e h c

    pub searched_all : Searched (suc steps) further
    searched_all = record {
      one_a_node = moved.same_length ∙ s.one_a_node;
      few = λ q e h. new_few q e (moved.new q e h);
      comes = λ q e h. new_comes q e (moved.new q e h);
      least = new_least;
      last = λ q h. last q h (moved.new q (suc steps) h);
      front = λ q h. front q (moved.of_front q h);
      room = let m = moved.many in let r = s.room in omega arith;
    }
      where
        last : (q : ℕ) → known further.found q ≡ Some (suc steps) → (known m.found q ≡ Some (suc steps)) ⊎ ((known m.found q ≡ None) × (suc steps ≡ suc steps) × In q ahead) → In q further.front
        last q h (inl k) = let l = s.few q (suc steps) k in absurd (omega arith)
        last q h (inr k) = moved.into_front q (suc steps) k.0 h

        front : (q : ℕ) → In q [] ⊎ (known further.found q ≡ Some (suc steps)) → known further.found q ≡ Some (suc steps)
        front q (inl h) = absurd h
        front q (inr h) = h

    pub searched_next : Searched (suc steps) (mark_next graph (suc steps) before m.front)
    searched_next = subst (Searched (suc steps)) (sym (next_is_all graph (suc steps) before m.front)) searched_all

    pub fewer_left : let n = mark_next graph (suc steps) before m.front in unfound n.found + length n.front < unfound m.found + length m.front
    fewer_left =
        let n = mark_next graph (suc steps) before m.front in
        let same : n ≡ further = next_is_all graph (suc steps) before m.front in
        let many = moved.many in
        let a : unfound n.found + length n.front ≡ unfound further.found + length further.front = ap (λ (x : Marked). unfound x.found + length x.front) same in
        omega arith

  -- ---- the end

  module _ (steps : ℕ) (m : Marked) (s : Searched steps m) (none : m.front ≡ []) where
    all_found : (j q : ℕ) → Comes graph starts j q → (k : ℕ) × (known m.found q ≡ Some k) × (k ≤ j)
    all_found zero q c = s.least q 0 (omega arith) c
    all_found (suc j) q c = go (all_found j (comes_last graph starts j q c).0 (comes_last graph starts j q c).1)
      where
        p : ℕ
        p = (comes_last graph starts j q c).0

        step : In q (next graph p)
        step = (comes_last graph starts j q c).2

        before : (k : ℕ) → known m.found p ≡ Some k → k ≤ steps → (k ≡ steps) ⊎ (k < steps) → k < steps
        before k is l (inr h) = h
        before k is l (inl h) = absurd (subst (In p) none (s.last p (subst (λ x. known m.found p ≡ Some x) h is)))

        go : (k : ℕ) × (known m.found p ≡ Some k) × (k ≤ j) → (k : ℕ) × (known m.found q ≡ Some k) × (k ≤ suc j)
        go (k, is, l) =
            let few = s.few p k is in
            let b = before k is few (eq-or-lt_of_le few) in
            let f = s.least q (suc k) b (comes_then graph starts k p q (s.comes p k is) step) in
            (f.0, f.1, let h = f.2 in omega arith)

    pub are_least : AreLeast graph starts m.found
    are_least = record { one_a_node = s.one_a_node; each = λ q h. go q (known m.found q) refl }
      where
        go : (q : ℕ) (o : Option ℕ) → known m.found q ≡ o → IsLeast graph starts q (known m.found q)
        go q None e = subst (IsLeast graph starts q) (sym e) (λ j c. let f = all_found j q c in let x = f.1 in cc)
        go q (Some k) e = subst (IsLeast graph starts q) (sym e) (s.comes q k e, λ j c. let f = all_found j q c in let x = f.1 in let l = f.2 in let same : f.0 ≡ k = cc in omega arith)
