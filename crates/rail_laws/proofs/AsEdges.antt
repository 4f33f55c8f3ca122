-- What is said of a route is what its edges give.
use Rattle.std.proofs.Common.{◌≡◌, ℕ, ◌+◌, ◌≤◌, ◌<◌, ◌⊎◌, inl, inr, max, Bool, true, false, not, ◌==◌, List, [], ◌∷◌, map, filter, fold, sum_by, ℤ, pos, refl, sym, ap, subst, ◌∙◌, arith, eq-eqb, eqb-true, true≢false}
use Rattle.std.proofs.lemmas.List.Sums.{sum_by-cons}
use Rattle.rail_base.specs.declared.station.Station.{Station}
use Rattle.rail_base.specs.declared.station.End.{End}
use Rattle.rail_base.specs.declared.station.NodeNo.{NodeNo}
use Rattle.rail_base.specs.declared.station.EdgeNo.{EdgeNo}
use Rattle.rail_base.specs.declared.station.SectionNo.{SectionNo}
use Rattle.rail_base.specs.declared.route.Route.{Route}
use Rattle.rail_base.specs.declared.route.Start.{Start}
use Rattle.rail_base.specs.declared.route.Finish.{Finish}
use Rattle.rail_base.specs.Members.{In, Pairs, Differ}
use Rattle.rail_base.specs.Stations.{through, edge_of, far_end, length_of, section_of}
use Rattle.rail_spec.specs.Track.{start_end, edge_ends, nodes_along, with_offsets, first_occurrences, last_end, route_of, routes_of}
use Rattle.rail_laws.specs.Elementary.{IsStart, LeavesBy, IsWalk, reached, EndsFirst, IsElementary, EndsLast, IsAsItsEdges}
use Rattle.rail_base.specs.Admitted.{IsAdmitted}
use Rattle.rail_base.proofs.Members.{in_filter}
use Rattle.rail_base.proofs.Lists.{in_filter_back, in_map, in_map_back, pairs_filter, pairs_map}
use Rattle.rail_laws.proofs.RouteLaws.{walk_edges, start_end_is, route_is}

-- ---- the greatest of some numbers

fold_start : (a : ℕ) (xs : List ℕ) → a ≤ fold max a xs
fold_start a [] = omega arith
fold_start a (x ∷ xs) = let k = fold_start (max a x) xs in omega arith

pub fold_above : (a : ℕ) (xs : List ℕ) (x : ℕ) → In x xs → x ≤ fold max a xs
fold_above a [] x m = absurd m
fold_above a (y ∷ ys) x (inl e) = let k = fold_start (max a y) ys in omega arith
fold_above a (y ∷ ys) x (inr m) = fold_above (max a y) ys x m

pub fold_reached : (a : ℕ) (xs : List ℕ) → (fold max a xs ≡ a) ⊎ In (fold max a xs) xs
fold_reached a [] = inl refl
fold_reached a (x ∷ xs) = go (fold_reached (max a x) xs)
  where
    which : (max a x ≡ a) ⊎ (max a x ≡ x) → fold max (max a x) xs ≡ max a x → (fold max (max a x) xs ≡ a) ⊎ In (fold max (max a x) xs) (x ∷ xs)
    which (inl e) f = inl (f ∙ e)
    which (inr e) f = inr (inl (sym (f ∙ e)))

    one : (max a x ≡ a) ⊎ (max a x ≡ x)
    one = grind arith

    go : (fold max (max a x) xs ≡ max a x) ⊎ In (fold max (max a x) xs) xs → (fold max (max a x) xs ≡ a) ⊎ In (fold max (max a x) xs) (x ∷ xs)
    go (inl e) = which one e
    go (inr m) = inr (inr m)

pub fold_in : (xs : List ℕ) (x : ℕ) → In x xs → 1 ≤ x → In (fold max 0 xs) xs
fold_in xs x m some = go (fold_reached 0 xs)
  where
    go : (fold max 0 xs ≡ 0) ⊎ In (fold max 0 xs) xs → In (fold max 0 xs) xs
    go (inl e) = let k = fold_above 0 xs x m in absurd (omega arith)
    go (inr i) = i

-- ---- each section once

same_section : (y z : SectionNo) → (y.0 == z.0) ≡ true → y ≡ z
same_section y z t = let n : y.0 ≡ z.0 = eqb-true y.0 z.0 t in ap (λ n. record { 0 = n }) n

pub in_first : (zs : List SectionNo) (z : SectionNo) → In z zs → In z (first_occurrences zs)
in_first [] z m = m
in_first (y ∷ ys) z (inl e) = inl e
in_first (y ∷ ys) z (inr m) = go (y.0 == z.0) refl (in_first ys z m)
  where
    go : (b : Bool) → (y.0 == z.0) ≡ b → In z (first_occurrences ys) → In z (first_occurrences (y ∷ ys))
    go true t k = inl (same_section y z t)
    go false t k = inr (in_filter (λ (w : SectionNo). not (w.0 == y.0)) (first_occurrences ys) z k (other (z.0 == y.0) refl))
      where
        other : (b : Bool) → (z.0 == y.0) ≡ b → not b ≡ true
        other false e = refl
        other true e = let n : z.0 ≡ y.0 = eqb-true z.0 y.0 e in absurd (true≢false (sym (eq-eqb y.0 z.0 (sym n)) ∙ t))

pub first_in : (zs : List SectionNo) (z : SectionNo) → In z (first_occurrences zs) → In z zs
first_in [] z m = m
first_in (y ∷ ys) z (inl e) = inl e
first_in (y ∷ ys) z (inr m) = let k = in_filter_back (λ (w : SectionNo). not (w.0 == y.0)) (first_occurrences ys) z m in inr (first_in ys z k.0)

pub first_differ : (zs : List SectionNo) → Differ (first_occurrences zs)
first_differ [] = tt
first_differ (y ∷ ys) = (λ z m e. not_same z e (in_filter_back (λ (w : SectionNo). not (w.0 == y.0)) (first_occurrences ys) z m).1, pairs_filter _ _ (first_occurrences ys) (first_differ ys))
  where
    not_same : (z : SectionNo) → y ≡ z → not (z.0 == y.0) ≡ true → ⊥
    not_same z e h = let t : (z.0 == y.0) ≡ true = eq-eqb z.0 y.0 (ap (λ (w : SectionNo). w.0) (sym e)) in true≢false (sym h ∙ ap not t)

-- ---- the ends of the edges

module _ (d : Station) where
  pub edge_of_end : (o : ℕ) (es : List EdgeNo) (e : EdgeNo) (n : ℕ) → In (e, n) (edge_ends d o es) → In e es
  edge_of_end o [] e n m = m
  edge_of_end o (g ∷ gs) e n (inl s) = inl (ap (λ (p : EdgeNo × ℕ). p.0) s)
  edge_of_end o (g ∷ gs) e n (inr m) = inr (edge_of_end (o + length_of d g) gs e n m)

  pub end_of_edge : (o : ℕ) (es : List EdgeNo) (e : EdgeNo) → In e es → (n : ℕ) × In (e, n) (edge_ends d o es)
  end_of_edge o [] e m = absurd m
  end_of_edge o (g ∷ gs) e (inl s) = (o + length_of d g, inl (ap (λ (w : EdgeNo). (w, o + length_of d g)) s))
  end_of_edge o (g ∷ gs) e (inr m) = let l = end_of_edge (o + length_of d g) gs e m in (l.0, inr l.1)

  ends_in : (o : ℕ) (es : List EdgeNo) (e : EdgeNo) (n : ℕ) → ((g : EdgeNo) → In g es → 1 ≤ length_of d g) → In (e, n) (edge_ends d o es) → (o < n) × (n ≤ o + sum_by (length_of d) es)
  ends_in o [] e n long m = absurd m
  ends_in o (g ∷ gs) e n long (inl s) = let k : o + length_of d g ≡ n = ap (λ (p : EdgeNo × ℕ). p.1) s in let l = long g (inl refl) in let w = sum_by-cons (length_of d) g gs in (omega arith, omega arith)
  ends_in o (g ∷ gs) e n long (inr m) =
      let k = ends_in (o + length_of d g) gs e n (λ h i. long h (inr i)) m in
      let a = k.0 in
      let b = k.1 in
      let w = sum_by-cons (length_of d) g gs in (omega arith, omega arith)

  ends_rise : (o : ℕ) (es : List EdgeNo) → ((g : EdgeNo) → In g es → 1 ≤ length_of d g) → Pairs (λ (m n : EdgeNo × ℕ). m.1 < n.1) (edge_ends d o es)
  ends_rise o [] long = tt
  ends_rise o (g ∷ gs) long = (λ p m. (ends_in (o + length_of d g) gs p.0 p.1 (λ h i. long h (inr i)) m).0, ends_rise (o + length_of d g) gs (λ h i. long h (inr i)))

  ends_whole : (o : ℕ) (e : EdgeNo) (es : List EdgeNo) → (g : EdgeNo) × In (g, o + sum_by (length_of d) (e ∷ es)) (edge_ends d o (e ∷ es))
  ends_whole o e [] = (e, inl (ap (λ (n : ℕ). (e, n)) (let w = sum_by-cons (length_of d) e [] in omega arith)))
  ends_whole o e (g ∷ gs) =
      let l = ends_whole (o + length_of d e) g gs in
      let w = sum_by-cons (length_of d) e (g ∷ gs) in
      let same : o + length_of d e + sum_by (length_of d) (g ∷ gs) ≡ o + sum_by (length_of d) (e ∷ g ∷ gs) = omega arith in
      (l.0, inr (subst (λ n. In (l.0, n) (edge_ends d (o + length_of d e) (g ∷ gs))) same l.1))

  -- ---- nodes

  along : (end : End) (es : List EdgeNo) → nodes_along d end es ≡ map (λ (e : End). e.node) (reached d end es)
  along end [] = refl
  along end (e ∷ es) = ap (λ ns. (far_end (edge_of d e) end).node ∷ ns) (along (through (far_end (edge_of d e) end)) es)

  nodes_of : (o : ℕ) (end : End) (es : List EdgeNo) → map (λ (n : NodeNo × ℤ). n.0) (with_offsets (nodes_along d end es) (edge_ends d o es)) ≡ nodes_along d end es
  nodes_of o end [] = refl
  nodes_of o end (e ∷ es) = ap (λ ns. (far_end (edge_of d e) end).node ∷ ns) (nodes_of (o + length_of d e) (through (far_end (edge_of d e) end)) es)

  offsets_of : (o : ℕ) (end : End) (es : List EdgeNo) → map (λ (n : NodeNo × ℤ). n.1) (with_offsets (nodes_along d end es) (edge_ends d o es)) ≡ map (λ (e : EdgeNo × ℕ). pos e.1) (edge_ends d o es)
  offsets_of o end [] = refl
  offsets_of o end (e ∷ es) = ap (λ ns. pos (o + length_of d e) ∷ ns) (offsets_of (o + length_of d e) (through (far_end (edge_of d e) end)) es)

  -- ---- sections

  abbrev on_section : SectionNo → EdgeNo × ℕ → Bool
  on_section z e = (section_of d e.0).0 == z.0

  abbrev end_no : EdgeNo × ℕ → ℕ
  end_no e = e.1

  pub last_above : (z : SectionNo) (ends : List (EdgeNo × ℕ)) (g : EdgeNo) (n : ℕ) → In (g, n) ends → section_of d g ≡ z → n ≤ last_end d z ends
  last_above z ends g n m s =
      fold_above 0 (map end_no (filter (on_section z) ends)) n (in_map end_no (filter (on_section z) ends) (g, n) (in_filter (on_section z) ends (g, n) m (eq-eqb (section_of d g).0 z.0 (ap (λ (w : SectionNo). w.0) s))))

  last_at : (z : SectionNo) (es : List EdgeNo) (e : EdgeNo) → ((g : EdgeNo) → In g es → 1 ≤ length_of d g) → In e es → section_of d e ≡ z → EndsLast d es z (last_end d z (edge_ends d 0 es))
  last_at z es e long m s = go (end_of_edge 0 es e m)
    where
      ends : List (EdgeNo × ℕ)
      ends = edge_ends d 0 es

      found : ((p : EdgeNo × ℕ) × In p (filter (on_section z) (edge_ends d 0 es)) × (p.1 ≡ last_end d z (edge_ends d 0 es))) → EndsLast d es z (last_end d z (edge_ends d 0 es))
      found (p, k, t) =
          let back = in_filter_back (on_section z) (edge_ends d 0 es) p k in
          record { edge = p.0; there = subst (λ n. In (p.0, n) (edge_ends d 0 es)) t back.0; on_section = same_section (section_of d p.0) z back.1; last = λ g q i h. last_above z (edge_ends d 0 es) g q i h }

      go : ((n : ℕ) × In (e, n) (edge_ends d 0 es)) → EndsLast d es z (last_end d z (edge_ends d 0 es))
      go (n, i) =
          let low = (ends_in 0 es e n long i).0 in
          found (in_map_back end_no (filter (on_section z) (edge_ends d 0 es)) (last_end d z (edge_ends d 0 es))
          (fold_in (map end_no (filter (on_section z) (edge_ends d 0 es))) n (in_map end_no (filter (on_section z) (edge_ends d 0 es)) (e, n) (in_filter (on_section z) (edge_ends d 0 es) (e, n) i (eq-eqb (section_of d e).0 z.0 (ap (λ (w : SectionNo). w.0) s)))) (omega arith)))

  -- ---- a route

  abbrev with_end : List EdgeNo → SectionNo → SectionNo × ℤ
  with_end p z = (z, pos (last_end d z (edge_ends d 0 p)))

  some_long : (es : List EdgeNo) (end : End) (f : Finish) → EndsFirst d (reached d end es) f → ((g : EdgeNo) → In g es → 1 ≤ length_of d g) → 1 ≤ sum_by (length_of d) es
  some_long [] end f h long = absurd h
  some_long (e ∷ es) end f h long = let l = long e (inl refl) in let w = sum_by-cons (length_of d) e es in omega arith

  start_is : IsAdmitted d → (s : Start) (p : List EdgeNo) (f : Finish) (at end : End) → IsStart d s → EndsFirst d (reached d at p) f → LeavesBy d s end → IsWalk d end p → start_end d s ≡ end
  start_is adm s [] f at end h ends l w = absurd ends
  start_is adm s (e ∷ es) f at end h ends l w = start_end_is d adm s end e h l w.0

  told_of : IsAdmitted d → (s : Start) (p : List EdgeNo) (f : Finish) → IsStart d s → IsElementary d s p f → IsAsItsEdges d (route_of d s p f)
  told_of adm s p f h el = record {
    length_is = refl;
    long = some_long p el.end f el.ends long;
    section_of_edge = λ e m. (pos (last_end d (section_of d e) (edge_ends d 0 p)), in_map (with_end p) firsts (section_of d e) (in_first (map (section_of d) p) (section_of d e) (in_map (section_of d) p e m)));
    each_once = pairs_map (λ (y z : SectionNo × ℤ). y.0 ≡ z.0 → ⊥) (λ (y z : SectionNo). y ≡ z → ⊥) (with_end p) firsts (λ a b k. k) (first_differ (map (section_of d) p));
    released_at = λ z o m. release z o (in_map_back (with_end p) firsts (z, o) m);
    nodes_are = λ end l w. ap (λ (ns : List NodeNo). (start_end d s).node ∷ ns) (nodes_of 0 (start_end d s) p) ∙ ap (λ (e : End). e.node ∷ nodes_along d e p) (start_is adm s p f el.end end h el.ends l w) ∙ ap (λ ns. end.node ∷ ns) (along end p);
    nodes_at = ap (λ ns. pos 0 ∷ ns) (offsets_of 0 (start_end d s) p);
    rising = ends_rise 0 p long;
    sections_are = firsts_of firsts;
    whole = whole_walk p el.ends;
    inside = λ e n m. let k = ends_in 0 p e n long m in (k.0, let b = k.1 in omega arith);
  }
    where
      long : (g : EdgeNo) → In g p → 1 ≤ length_of d g
      long g m = (adm.edge g (walk_edges d el.end p el.walk g m)).length_mm.0

      firsts_of : (zs : List SectionNo) → map (λ (z : SectionNo × ℤ). z.0) (map (with_end p) zs) ≡ zs
      firsts_of [] = refl
      firsts_of (z ∷ zs) = ap (λ ys. z ∷ ys) (firsts_of zs)

      whole_walk : (es : List EdgeNo) → EndsFirst d (reached d el.end es) f → (e : EdgeNo) × In (e, sum_by (length_of d) es) (edge_ends d 0 es)
      whole_walk [] h = absurd h
      whole_walk (e ∷ es) h = let l = ends_whole 0 e es in let same : 0 + sum_by (length_of d) (e ∷ es) ≡ sum_by (length_of d) (e ∷ es) = omega arith in (l.0, subst (λ n. In (l.0, n) (edge_ends d 0 (e ∷ es))) same l.1)

      firsts : List SectionNo
      firsts = first_occurrences (map (section_of d) p)

      release : (z : SectionNo) (o : ℤ) → ((y : SectionNo) × In y (first_occurrences (map (section_of d) p)) × (with_end p y ≡ (z, o))) → (n : ℕ) × (o ≡ pos n) × EndsLast d p z n × (1 ≤ n) × (n ≤ sum_by (length_of d) p)
      release z o (y, m, e) = go (in_map_back (section_of d) p y (first_in (map (section_of d) p) y m))
        where
          same : y ≡ z
          same = ap (λ (w : SectionNo × ℤ). w.0) e

          go : ((g : EdgeNo) × In g p × (section_of d g ≡ y)) → (n : ℕ) × (o ≡ pos n) × EndsLast d p z n × (1 ≤ n) × (n ≤ sum_by (length_of d) p)
          go (g, k, s) =
              let last = last_at z p g long k (s ∙ same) in
              let last_of : last_end d y (edge_ends d 0 p) ≡ last_end d z (edge_ends d 0 p) = ap (λ w. last_end d w (edge_ends d 0 p)) same in
              let within = ends_in 0 p last.edge (last_end d z (edge_ends d 0 p)) long last.there in
              (last_end d z (edge_ends d 0 p), sym (ap (λ (w : SectionNo × ℤ). w.1) e) ∙ ap pos last_of, last, within.0, let b = within.1 in omega arith)

  pub told : IsAdmitted d → (r : Route) → In r (routes_of d) → IsAsItsEdges d r
  told adm r m = let h = route_is d adm r m in subst (IsAsItsEdges d) h.is_route_of (told_of adm r.start r.edges r.finish h.start h.elementary)
