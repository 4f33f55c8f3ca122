-- Edge ends at a side, as edges at it, where no edge has both ends at one node.
use Rattle.std.proofs.Common.{◌≡◌, ℕ, suc, ◌+◌, ◌<◌, inl, inr, Bool, true, false, cond, not, ◌&&◌, ◌||◌, ◌==◌, nat_le, List, [], ◌∷◌, length, get_or, map, filter, count_by, refl, sym, ap, ◌∙◌, arith, eqb-true, eq-eqb, true≢false}
use Rattle.std.proofs.lemmas.List.Sums.{sum_by-cons}
use Rattle.rail_base.specs.declared.station.Station.{Station}
use Rattle.rail_base.specs.declared.station.Edge.{Edge}
use Rattle.rail_base.specs.declared.station.EdgeNo.{EdgeNo}
use Rattle.rail_base.specs.declared.station.Side.{Side}
use Rattle.rail_base.specs.Numbering.{count_from}
use Rattle.rail_base.specs.Members.{In}
use Rattle.rail_base.specs.Stations.{is_side, is_end, edge_of, no_end, leave}
use Rattle.rail_base.proofs.Members.{and_left, false_unless}
use Rattle.infra_reader.specs.Track.{edge_ends, ends_at, is_loop}

-- entries that pass, by their numbers
numbers_passing : {X : Type 0} (test : X → Bool) (other : X) (at : ℕ → X) (i : ℕ) (xs : List X) → ((j : ℕ) → j < length xs → at (i + j) ≡ get_or xs j other)
    → length (filter (λ (e : EdgeNo). test (at e.0)) (map (λ n. record { 0 = n }) (count_from i (length xs)))) ≡ count_by test xs
numbers_passing test other at i [] same = refl
numbers_passing test other at i (x ∷ xs) same = go (test (at i)) (test x) (ap test here) (numbers_passing test other at (i + 1) xs (λ j h. let there : i + 1 + j ≡ i + suc j = omega arith in ap at there ∙ same (suc j) (omega arith))) ∙ sym (sum_by-cons (λ x. cond (test x) 1 0) x xs)
  where
    here : at i ≡ x
    here = let there : i ≡ i + 0 = omega arith in ap at there ∙ same 0 (omega arith)

    go : (a b : Bool) → a ≡ b → length (filter (λ (e : EdgeNo). test (at e.0)) (map (λ n. record { 0 = n }) (count_from (i + 1) (length xs)))) ≡ count_by test xs
        → length (cond a (record { 0 = i } ∷ filter (λ (e : EdgeNo). test (at e.0)) (map (λ n. record { 0 = n }) (count_from (i + 1) (length xs)))) (filter (λ (e : EdgeNo). test (at e.0)) (map (λ n. record { 0 = n }) (count_from (i + 1) (length xs))))) ≡ cond b 1 0 + count_by test xs
    go true true e rest = omega arith
    go false false e rest = omega arith
    go true false e rest = absurd (cc)
    go false true e rest = absurd (cc)

-- of the ends of an edge, one at most is at a side
one_end : (n : ℕ) (side : Side) (e : Edge) → is_loop e ≡ false → (is_end e.from (record { node = record { 0 = n }; side = side }) && is_end e.to (record { node = record { 0 = n }; side = side })) ≡ false
one_end n side e h = false_unless _ clash
  where
    clash : (is_end e.from (record { node = record { 0 = n }; side = side }) && is_end e.to (record { node = record { 0 = n }; side = side })) ≡ true → ⊥
    clash t =
        let from = and_left (is_end e.from (record { node = record { 0 = n }; side = side })) (is_end e.to (record { node = record { 0 = n }; side = side })) t in
        let to = right (is_end e.from (record { node = record { 0 = n }; side = side })) (is_end e.to (record { node = record { 0 = n }; side = side })) t in
        let a = eqb-true e.from.node.0 n (and_left (e.from.node.0 == n) (is_side e.from.side side) from) in
        let b = eqb-true e.to.node.0 n (and_left (e.to.node.0 == n) (is_side e.to.side side) to) in
        true≢false (sym (eq-eqb e.from.node.0 e.to.node.0 (a ∙ sym b)) ∙ h)
      where
        right : (a b : Bool) → (a && b) ≡ true → b ≡ true
        right true b h = h
        right false b h = absurd (cc)

ends_of_edges : (n : ℕ) (side : Side) (edges : List Edge) → ((e : Edge) → In e edges → is_loop e ≡ false)
    → count_by (λ end. is_end end (record { node = record { 0 = n }; side = side })) (edge_ends edges) ≡ count_by (λ (e : Edge). is_end e.from (record { node = record { 0 = n }; side = side }) || is_end e.to (record { node = record { 0 = n }; side = side })) edges
ends_of_edges n side [] no_loop = refl
ends_of_edges n side (e ∷ es) no_loop =
    sum_by-cons (λ end. cond (is_end end (record { node = record { 0 = n }; side = side })) 1 0) e.from (e.to ∷ edge_ends es)
    ∙ ap (λ c. cond (is_end e.from (record { node = record { 0 = n }; side = side })) 1 0 + c) (sum_by-cons (λ end. cond (is_end end (record { node = record { 0 = n }; side = side })) 1 0) e.to (edge_ends es))
    ∙ go (is_end e.from (record { node = record { 0 = n }; side = side })) (is_end e.to (record { node = record { 0 = n }; side = side })) (one_end n side e (no_loop e (inl refl))) (ends_of_edges n side es (λ f m. no_loop f (inr m)))
    ∙ sym (sum_by-cons (λ (e : Edge). cond (is_end e.from (record { node = record { 0 = n }; side = side }) || is_end e.to (record { node = record { 0 = n }; side = side })) 1 0) e es)
  where
    go : (a b : Bool) → (a && b) ≡ false → count_by (λ end. is_end end (record { node = record { 0 = n }; side = side })) (edge_ends es) ≡ count_by (λ (e : Edge). is_end e.from (record { node = record { 0 = n }; side = side }) || is_end e.to (record { node = record { 0 = n }; side = side })) es
        → cond a 1 0 + (cond b 1 0 + count_by (λ end. is_end end (record { node = record { 0 = n }; side = side })) (edge_ends es)) ≡ cond (a || b) 1 0 + count_by (λ (e : Edge). is_end e.from (record { node = record { 0 = n }; side = side }) || is_end e.to (record { node = record { 0 = n }; side = side })) es
    go true true h rest = absurd (cc)
    go true false h rest = omega arith
    go false true h rest = omega arith
    go false false h rest = omega arith

pub leave_count : (d : Station) (n : ℕ) (side : Side) → ((e : Edge) → In e d.edges → is_loop e ≡ false) → length (leave d (record { node = record { 0 = n }; side = side })) ≡ ends_at d n side
unfolding ends_at
leave_count d n side no_loop =
    numbers_passing (λ (e : Edge). is_end e.from (record { node = record { 0 = n }; side = side }) || is_end e.to (record { node = record { 0 = n }; side = side })) none (λ k. edge_of d (record { 0 = k })) 1 d.edges (λ j h. number j)
    ∙ sym (ends_of_edges n side d.edges no_loop)
  where
    none : Edge
    none = record { name = []; from = no_end; to = no_end; length_mm = 0; speed_mm_s = 0; section = record { 0 = 0 } }

    number : (j : ℕ) → edge_of d (record { 0 = 1 + j }) ≡ get_or d.edges j none
    number j = let there : 1 + j ≡ suc j = omega arith in ap (λ k. edge_of d (record { 0 = k })) there

-- ---- counts at a node

pub good_counts : (a b : ℕ) (boundary : Bool) → (nat_le 3 a || nat_le 3 b || (nat_le 2 a && nat_le 2 b)) ≡ false → (boundary && not (a + b == 1)) ≡ false
    → (nat_le a 2 && nat_le b 2 && nat_le (a + b) 3 && (not boundary || (a + b == 1))) ≡ true
good_counts a b true h k = grind arith
good_counts a b false h k = grind arith
