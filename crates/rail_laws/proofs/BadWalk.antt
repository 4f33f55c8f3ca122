-- The search finds a path that closes badly exactly where there is one.
use Rattle.std.proofs.Common.{◌≡◌, ℕ, zero, suc, ◌+◌, ◌<◌, inl, inr, ◌↔◌, Bool, true, false, ◌==◌, List, [], ◌∷◌, ◌++◌, flat_map, length, Option, Some, None, refl, sym, ap, subst, ◌∙◌, arith, eq-eqb, eqb-true, append_assoc}
use Rattle.rail_base.specs.declared.station.Station.{Station}
use Rattle.rail_base.specs.declared.station.End.{End}
use Rattle.rail_base.specs.declared.station.EdgeNo.{EdgeNo}
use Rattle.rail_base.specs.declared.route.Start.{Start}
use Rattle.rail_base.specs.declared.route.Finish.{Finish}
use Rattle.rail_base.specs.Members.{In, Differ}
use Rattle.rail_base.specs.Stations.{through, edge_of, leave, far_end}
use Rattle.rail_spec.specs.Track.{start_end, finish_at, has_edge, Walk, Whole, RepeatsEdge, walks, walks_from, all_walks, starts, route_from, routes_of}
use Rattle.rail_laws.specs.Elementary.{IsStart, EndsAt, IsWalk, reached, ClosesBadly}
use Rattle.rail_base.specs.Admitted.{IsAdmitted}
use Rattle.rail_base.proofs.Members.{list_any_gives, list_any_from}
use Rattle.rail_base.proofs.Lists.{in_append_left, in_append_right, in_flat_map, in_flat_map_back}
use Rattle.rail_laws.proofs.Walk.{walk_or, at_from_leave, leave_from_at, branch_with, branch, differ_snoc, differ_new, finish_none, finish_told}
use Rattle.rail_laws.proofs.RouteLaws.{few_edges, start_leaves, start_end_is, starts_from, starts_tell, walk_edges}

module _ (d : Station) where
  Open : End → Type 0
  Open there = (f : Finish) → EndsAt d there f → ⊥

  -- what is met again
  pub record Met (taken : List EdgeNo) (end : End) (e : EdgeNo) : Type 0 where
    pub tail : List EdgeNo
    pub walk : IsWalk d end (tail ++ e ∷ [])
    pub once : Differ (taken ++ tail)
    pub open_so_far : (there : End) → In there (reached d end tail) → (f : Finish) → EndsAt d there f → ⊥
    pub again : In e (taken ++ tail)

  has_in : (taken : List EdgeNo) (e : EdgeNo) → has_edge taken e ≡ true → In e taken
  has_in taken e h = go (list_any_gives (λ (f : EdgeNo). f.0 == e.0) taken h)
    where
      go : ((g : EdgeNo) × In g taken × ((g.0 == e.0) ≡ true)) → In e taken
      go (g, m, t) = let n : g.0 ≡ e.0 = eqb-true g.0 e.0 t in let same : g ≡ e = ap (λ n. record { 0 = n }) n in subst (λ w. In w taken) same m

  in_has : (taken : List EdgeNo) (e : EdgeNo) → In e taken → has_edge taken e ≡ true
  in_has taken e m = list_any_from (λ (f : EdgeNo). f.0 == e.0) taken e m (eq-eqb e.0 e.0 refl)

  append_nil : {X : Type 0} (xs : List X) → xs ++ [] ≡ xs
  append_nil [] = refl
  append_nil (x ∷ xs) = ap (λ ys. x ∷ ys) (append_nil xs)

  met : IsAdmitted d → (n : ℕ) (taken : List EdgeNo) (end : End) (e : EdgeNo) → Differ taken → In (RepeatsEdge e) (walks n d taken end) → Met taken end e
  met adm zero taken end e dif m = absurd m
  met adm (suc n) taken end e dif m = by_edge (in_flat_map_back (branch d n taken end) (leave d end) (RepeatsEdge e) m) (λ longer from. met adm n longer from e)
    where
      by_edge : ((g : EdgeNo) × In g (leave d end) × In (RepeatsEdge e) (branch d n taken end g)) → ((longer : List EdgeNo) (from : End) → Differ longer → In (RepeatsEdge e) (walks n d longer from) → Met longer from e) → Met taken end e
      by_edge (g, at, k) later = go (has_edge taken g) refl (finish_at d (far_end (edge_of d g) end)) refl k
        where
          go : (b : Bool) → has_edge taken g ≡ b → (o : Option Finish) → finish_at d (far_end (edge_of d g) end) ≡ o
              → In (RepeatsEdge e) (branch_with d b o g (taken ++ g ∷ []) (walks n d (taken ++ g ∷ []) (through (far_end (edge_of d g) end)))) → Met taken end e
          go true be o oe (inr j) = absurd j
          go true be o oe (inl s) =
              let same : g ≡ e = cc in
              record {
                tail = [];
                walk = subst (λ w. IsWalk d end (w ∷ [])) same (at_from_leave d end g at, tt);
                once = subst Differ (sym (append_nil taken)) dif;
                open_so_far = λ there i. absurd i;
                again = subst (In e) (sym (append_nil taken)) (subst (λ w. In w taken) same (has_in taken g be));
              }
          go false be (Some f) oe (inl s) = cc
          go false be (Some f) oe (inr j) = absurd j
          go false be None oe j =
              let more = later (taken ++ g ∷ []) (through (far_end (edge_of d g) end)) (differ_snoc d taken g dif be) j in
              record {
                tail = g ∷ more.tail;
                walk = (at_from_leave d end g at, more.walk);
                once = subst Differ (append_assoc taken (g ∷ []) more.tail) more.once;
                open_so_far = still more.tail more.open_so_far oe;
                again = subst (In e) (append_assoc taken (g ∷ []) more.tail) more.again;
              }
            where
              still : (tail : List EdgeNo) → ((there : End) → In there (reached d (through (far_end (edge_of d g) end)) tail) → (f : Finish) → EndsAt d there f → ⊥) → finish_at d (far_end (edge_of d g) end) ≡ None
                  → (there : End) → In there (far_end (edge_of d g) end ∷ reached d (through (far_end (edge_of d g) end)) tail) → (f : Finish) → EndsAt d there f → ⊥
              still tail rest none there (inr i) f h = rest there i f h
              still tail rest none there (inl s) f h = let t = finish_told d adm (far_end (edge_of d g) end) f (subst (λ w. EndsAt d w f) (sym s) h) in let no : Some f ≡ None = sym t ∙ none in cc

  meets_again : IsAdmitted d → (n : ℕ) (taken : List EdgeNo) (end : End) (tail : List EdgeNo) (e : EdgeNo) → length tail < n → IsWalk d end (tail ++ e ∷ []) → Differ (taken ++ tail)
      → ((there : End) → In there (reached d end tail) → (f : Finish) → EndsAt d there f → ⊥) → In e (taken ++ tail) → In (RepeatsEdge e) (walks n d taken end)
  meets_again adm zero taken end tail e short walk dif open_so_far again = absurd (omega arith)
  meets_again adm (suc n) taken end [] e short walk dif open_so_far again =
      in_flat_map (branch d n taken end) (leave d end) e (RepeatsEdge e) (leave_from_at d end e walk.0)
      (subst (λ b. In (RepeatsEdge e) (branch_with d b (finish_at d (far_end (edge_of d e) end)) e (taken ++ e ∷ []) (walks n d (taken ++ e ∷ []) (through (far_end (edge_of d e) end))))) (sym (in_has taken e (subst (In e) (append_nil taken) again))) (inl refl))
  meets_again adm (suc n) taken end (g ∷ gs) e short walk dif open_so_far again =
      let there = far_end (edge_of d g) end in
      in_flat_map (branch d n taken end) (leave d end) g (RepeatsEdge e) (leave_from_at d end g walk.0)
      (subst (λ b. In (RepeatsEdge e) (branch_with d b (finish_at d there) g (taken ++ g ∷ []) (walks n d (taken ++ g ∷ []) (through there)))) (sym (differ_new d taken g gs dif))
      (subst (λ o. In (RepeatsEdge e) (walk_or o (taken ++ g ∷ []) (walks n d (taken ++ g ∷ []) (through there)))) (sym (finish_none d there (open_so_far there (inl refl))))
      (meets_again adm n (taken ++ g ∷ []) (through there) gs e (omega arith) walk.1 (subst Differ (sym (append_assoc taken (g ∷ []) gs)) dif) (λ w i. open_so_far w (inr i)) (subst (In e) (sym (append_assoc taken (g ∷ []) gs)) again))))

  walk_left : (end : End) (es gs : List EdgeNo) → IsWalk d end (es ++ gs) → IsWalk d end es
  walk_left end [] gs w = tt
  walk_left end (e ∷ es) gs w = (w.0, walk_left (through (far_end (edge_of d e) end)) es gs w.1)

  -- ---- from a start

  pub bad_is : IsAdmitted d → (s : Start) (e : EdgeNo) → In (RepeatsEdge e) (walks_from d s) → (edges : List EdgeNo) × ClosesBadly d s edges e
  bad_is adm s e m =
      let f = met adm (length d.edges + 1) [] (start_end d s) e tt m in
      (f.tail, record { end = start_end d s; leaves = start_leaves d s; walk = f.walk; once = f.once; open_so_far = f.open_so_far; again = f.again })

  pub is_bad : IsAdmitted d → (s : Start) (e : EdgeNo) (edges : List EdgeNo) → IsStart d s → ClosesBadly d s edges e → In (RepeatsEdge e) (walks_from d s)
  is_bad adm s e [] h b = absurd b.again
  is_bad adm s e (g ∷ gs) h b =
      let from : start_end d s ≡ b.end = start_end_is d adm s b.end g h b.leaves b.walk.0 in
      let few = few_edges d (g ∷ gs) b.once (walk_edges d b.end (g ∷ gs) (walk_left b.end (g ∷ gs) (e ∷ []) b.walk)) in
      subst (λ end. In (RepeatsEdge e) (walks (length d.edges + 1) d [] end)) (sym from)
      (meets_again adm (length d.edges + 1) [] b.end (g ∷ gs) e (omega arith) b.walk b.once b.open_so_far b.again)

  -- some path of the search closes badly exactly where one does from some start
  pub bad_exactly : IsAdmitted d → (e : EdgeNo) → In (RepeatsEdge e) (all_walks d) ↔ ((s : Start) × (edges : List EdgeNo) × IsStart d s × ClosesBadly d s edges e)
  bad_exactly adm e = (to, from)
    where
      to : In (RepeatsEdge e) (all_walks d) → (s : Start) × (edges : List EdgeNo) × IsStart d s × ClosesBadly d s edges e
      to m = let l = in_flat_map_back (walks_from d) (starts d) (RepeatsEdge e) m in let b = bad_is adm l.0 e l.2 in (l.0, b.0, starts_tell d l.0 l.1, b.1)

      from : ((s : Start) × (edges : List EdgeNo) × IsStart d s × ClosesBadly d s edges e) → In (RepeatsEdge e) (all_walks d)
      from (s, edges, h, b) = in_flat_map (walks_from d) (starts d) s (RepeatsEdge e) (starts_from d adm s h) (is_bad adm s e edges h b)

  -- where none does each closed path is a route
  pub closed_are_routes : ((e : EdgeNo) → In (RepeatsEdge e) (all_walks d) → ⊥) → length (routes_of d) ≡ length (all_walks d)
  closed_are_routes none = by_start (starts d) (λ e m. none e m)
    where
      closed : (s : Start) (cs : List Walk) → ((e : EdgeNo) → In (RepeatsEdge e) cs → ⊥) → length (flat_map (route_from d s) cs) ≡ length cs
      closed s [] h = refl
      closed s (RepeatsEdge e ∷ cs) h = absurd (h e (inl refl))
      closed s (Whole p f ∷ cs) h = ap suc (closed s cs (λ e m. h e (inr m)))

      long : {X : Type 0} (xs ys : List X) → length (xs ++ ys) ≡ length xs + length ys
      long [] ys = omega arith
      long (x ∷ xs) ys = let k = long xs ys in omega arith

      by_start : (ss : List Start) → ((e : EdgeNo) → In (RepeatsEdge e) (flat_map (walks_from d) ss) → ⊥) → length (flat_map (λ s. flat_map (route_from d s) (walks_from d s)) ss) ≡ length (flat_map (walks_from d) ss)
      by_start [] h = refl
      by_start (s ∷ ss) h =
          let a = long (flat_map (route_from d s) (walks_from d s)) (flat_map (λ s. flat_map (route_from d s) (walks_from d s)) ss) in
          let b = long (walks_from d s) (flat_map (walks_from d) ss) in
          let c = closed s (walks_from d s) (λ e m. h e (in_append_left (RepeatsEdge e) (walks_from d s) (flat_map (walks_from d) ss) m)) in
          let k = by_start ss (λ e m. h e (in_append_right (RepeatsEdge e) (walks_from d s) (flat_map (walks_from d) ss) m)) in
          omega arith
