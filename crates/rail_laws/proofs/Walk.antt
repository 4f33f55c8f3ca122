-- The search lists the elementary routes, each once, in their order.
use Rattle.std.proofs.Common.{◌≡◌, ℕ, zero, suc, ◌≤◌, ◌<◌, ◌⊎◌, inl, inr, Bool, true, false, ◌||◌, if◌then◌else◌, ◌==◌, List, [], ◌∷◌, ◌++◌, map, length, Option, Some, None, refl, sym, ap, ap₂, subst, ◌∙◌, arith, eqb-true, eq-eqb, true≢false, append_assoc}
use Rattle.rail_base.specs.declared.station.Station.{Station}
use Rattle.rail_base.specs.declared.station.End.{End}
use Rattle.rail_base.specs.declared.station.Side.{Side}
use Rattle.rail_base.specs.declared.station.Side.TheVariants.{A, B}
use Rattle.rail_base.specs.declared.station.NodeNo.{NodeNo}
use Rattle.rail_base.specs.declared.station.EdgeNo.{EdgeNo}
use Rattle.rail_base.specs.declared.station.SignalNo.{SignalNo}
use Rattle.rail_base.specs.declared.route.Finish.{Finish}
use Rattle.rail_base.specs.declared.route.Finish.TheVariants as finish
use Rattle.rail_base.specs.Numbering.{one_to, first_of_list}
use Rattle.std.specs.Option.{option_or, option_map, unwrap_or}
use Rattle.rail_base.specs.Members.{In, Pairs, Differ}
use Rattle.rail_base.specs.Stations.{is_side, is_end, through, edge_of, node_of, signal_of, leave, far_end, IsEdge, IsSignal}
use Rattle.rail_spec.specs.Track.{signals_at, is_empty, finish_at, has_edge, Walk, Whole, RepeatsEdge, walks}
use Rattle.rail_laws.specs.Elementary.{IsAt, Governs, EndsAt, IsWalk, reached, EndsFirst, IsBefore}
use Rattle.rail_base.specs.Admitted.{IsAdmitted}
use Rattle.rail_base.proofs.Members.{and_left, and_right, and_both, in_filter, list_any_gives, list_any_from, either, or_left, or_right}
use Rattle.rail_base.proofs.Lists.{in_filter_back, in_map, in_map_back, in_flat_map, in_flat_map_back, in_count, in_count_back, pairs_append, pairs_flat_map, pairs_filter, pairs_map, pairs_count, pairs_across}

-- how a route ends at a node that is no boundary, with these signals for its train
abbrev pub ends_by_signal : Station → End → List SignalNo → Option Finish
ends_by_signal d end ss =
    option_or (option_map finish.Signal (first_of_list ss)) (if is_empty (leave d (through end)) then Some (finish.DeadEnd end.node) else None)

-- the path that ends, or else those that go on
abbrev pub walk_or : Option Finish → List EdgeNo → List Walk → List Walk
walk_or o path further = unwrap_or (option_map (λ f. Whole path f ∷ []) o) further

-- ---- ends

is_side_same : (a b : Side) → is_side a b ≡ true → a ≡ b
is_side_same A A h = refl
is_side_same B B h = refl
is_side_same A B h = cc
is_side_same B A h = cc

is_side_refl : (a : Side) → is_side a a ≡ true
is_side_refl A = refl
is_side_refl B = refl

pub is_end_same : (a b : End) → is_end a b ≡ true → a ≡ b
is_end_same a b h =
    let n : a.node.0 ≡ b.node.0 = eqb-true a.node.0 b.node.0 (and_left (a.node.0 == b.node.0) _ h) in
    let s : a.side ≡ b.side = is_side_same a.side b.side (and_right (a.node.0 == b.node.0) _ h) in
    ap₂ (λ (n : ℕ) (s : Side). let e : End = record { node = record { 0 = n }; side = s } in e) n s

pub is_end_refl : (a b : End) → a ≡ b → is_end a b ≡ true
is_end_refl a b h = subst (λ c. is_end a c ≡ true) h (and_both (a.node.0 == a.node.0) (is_side a.side a.side) (eq-eqb a.node.0 a.node.0 refl) (is_side_refl a.side))

is_empty_none : {X : Type 0} (xs : List X) → ((x : X) → In x xs → ⊥) → is_empty xs ≡ true
is_empty_none [] h = refl
is_empty_none (x ∷ xs) h = absurd (h x (inl refl))

pub is_empty_some : {X : Type 0} (xs : List X) (x : X) → In x xs → is_empty xs ≡ false
is_empty_some [] x m = absurd m
is_empty_some (y ∷ ys) x m = refl

none_is_empty : {X : Type 0} (xs : List X) → is_empty xs ≡ true → (x : X) → In x xs → ⊥
none_is_empty [] h x m = m
none_is_empty (y ∷ ys) h x m = true≢false (sym h)

pub length_empty : {X : Type 0} (xs : List X) → length xs ≡ 0 → is_empty xs ≡ true
length_empty [] h = refl
length_empty (x ∷ xs) h = absurd (omega arith)

pub length_some : {X : Type 0} (xs : List X) (x : X) → In x xs → 1 ≤ length xs
length_some [] x m = absurd m
length_some (y ∷ ys) x m = omega arith

-- ---- the order of edge lists

before_prefix : (ps : List EdgeNo) (xs ys : List EdgeNo) → IsBefore xs ys → IsBefore (ps ++ xs) (ps ++ ys)
before_prefix [] xs ys h = h
before_prefix (p ∷ ps) xs ys h = inr (refl, before_prefix ps xs ys h)

pub before_not_self : (xs : List EdgeNo) → IsBefore xs xs → ⊥
before_not_self [] h = h
before_not_self (x ∷ xs) (inl l) = omega arith
before_not_self (x ∷ xs) (inr k) = before_not_self xs k.1

module _ (d : Station) where
  -- ---- edges and signals at an end

  abbrev edge_no : ℕ → EdgeNo
  edge_no n = record { 0 = n }

  abbrev signal_no : ℕ → SignalNo
  signal_no n = record { 0 = n }

  abbrev ends_there : End → EdgeNo → Bool
  ends_there end e = is_end (edge_of d e).from end || is_end (edge_of d e).to end

  pub at_from_leave : (end : End) (e : EdgeNo) → In e (leave d end) → IsAt d e end
  at_from_leave end e m = (numbered (in_map_back edge_no (one_to (length d.edges)) e kept.0), which (either (is_end (edge_of d e).from end) _ kept.1))
    where
      kept : In e (map edge_no (one_to (length d.edges))) × (ends_there end e ≡ true)
      kept = in_filter_back (ends_there end) (map edge_no (one_to (length d.edges))) e m

      numbered : ((n : ℕ) × In n (one_to (length d.edges)) × (edge_no n ≡ e)) → IsEdge d e
      numbered (n, k, s) = let c = in_count_back 1 (length d.edges) n k in subst (IsEdge d) s (c.0, let u = c.1 in omega arith)

      which : (is_end (edge_of d e).from end ≡ true) ⊎ (is_end (edge_of d e).to end ≡ true) → ((edge_of d e).from ≡ end) ⊎ ((edge_of d e).to ≡ end)
      which (inl t) = inl (is_end_same (edge_of d e).from end t)
      which (inr t) = inr (is_end_same (edge_of d e).to end t)

  pub leave_from_at : (end : End) (e : EdgeNo) → IsAt d e end → In e (leave d end)
  leave_from_at end e at = in_filter (ends_there end) (map edge_no (one_to (length d.edges))) e (in_map edge_no (one_to (length d.edges)) e.0 (let l = at.0.0 in let h = at.0.1 in in_count 1 (length d.edges) e.0 l (omega arith))) (which at.1)
    where
      which : ((edge_of d e).from ≡ end) ⊎ ((edge_of d e).to ≡ end) → ends_there end e ≡ true
      which (inl s) = or_left _ _ (is_end_refl (edge_of d e).from end s)
      which (inr s) = or_right (is_end (edge_of d e).from end) _ (is_end_refl (edge_of d e).to end s)

  pub leave_rise : (end : End) → Pairs (λ (e g : EdgeNo). e.0 < g.0) (leave d end)
  leave_rise end = pairs_filter (λ (e g : EdgeNo). e.0 < g.0) (ends_there end) _ (pairs_map (λ (e g : EdgeNo). e.0 < g.0) (λ (x y : ℕ). x < y) edge_no (one_to (length d.edges)) (λ a b h. h) (pairs_count 1 (length d.edges)))

  abbrev stands_there : End → SignalNo → Bool
  stands_there end s = is_end (record { node = (signal_of d s).node; side = (signal_of d s).toward }) end

  pub governs_from : (end : End) (s : SignalNo) → In s (signals_at d end) → Governs d s end
  governs_from end s m = (numbered (in_map_back signal_no (one_to (length d.signals)) s kept.0), ap (λ (e : End). e.node) same, ap (λ (e : End). e.side) same)
    where
      kept : In s (map signal_no (one_to (length d.signals))) × (stands_there end s ≡ true)
      kept = in_filter_back (stands_there end) (map signal_no (one_to (length d.signals))) s m

      same : record { node = (signal_of d s).node; side = (signal_of d s).toward } ≡ end
      same = is_end_same _ end kept.1

      numbered : ((n : ℕ) × In n (one_to (length d.signals)) × (signal_no n ≡ s)) → IsSignal d s
      numbered (n, k, e) = let c = in_count_back 1 (length d.signals) n k in subst (IsSignal d) e (c.0, let u = c.1 in omega arith)

  pub signals_from : (end : End) (s : SignalNo) → Governs d s end → In s (signals_at d end)
  signals_from end s g =
      in_filter (stands_there end) (map signal_no (one_to (length d.signals))) s (in_map signal_no (one_to (length d.signals)) s.0 (let l = g.0.0 in let h = g.0.1 in in_count 1 (length d.signals) s.0 l (omega arith)))
      (is_end_refl _ end (ap₂ (λ (n : NodeNo) (z : Side). let e : End = record { node = n; side = z } in e) g.1 g.2))

  pub signals_rise : (end : End) → Pairs (λ (s q : SignalNo). s.0 < q.0) (signals_at d end)
  signals_rise end = pairs_filter (λ (s q : SignalNo). s.0 < q.0) (stands_there end) _ (pairs_map (λ (s q : SignalNo). s.0 < q.0) (λ (x y : ℕ). x < y) signal_no (one_to (length d.signals)) (λ a b h. h) (pairs_count 1 (length d.signals)))

  -- ---- where a route ends

  pub finish_tells : (end : End) (f : Finish) → finish_at d end ≡ Some f → EndsAt d end f
  finish_tells end f h = go (node_of d end.node).boundary refl h
    where
      by_signal : (node_of d end.node).boundary ≡ false → (ss : List SignalNo) → ((s : SignalNo) → In s ss → Governs d s (through end)) → ((s : SignalNo) → Governs d s (through end) → In s ss) → ends_by_signal d end ss ≡ Some f → EndsAt d end f
      by_signal inside (s ∷ ss) tells has e = let same : finish.Signal s ≡ f = cc in subst (EndsAt d end) same (tells s (inl refl), inside)
      by_signal inside [] tells has e = dead (is_empty (leave d (through end))) refl e
        where
          dead : (b : Bool) → is_empty (leave d (through end)) ≡ b → (if b then Some (finish.DeadEnd end.node) else None) ≡ Some f → EndsAt d end f
          dead false n k = cc
          dead true n k = let same : finish.DeadEnd end.node ≡ f = cc in subst (EndsAt d end) same (refl, inside, has, λ g at. none_is_empty (leave d (through end)) n g (leave_from_at (through end) g at))

      go : (b : Bool) → (node_of d end.node).boundary ≡ b → (if b then Some (finish.Exit end.node) else ends_by_signal d end (signals_at d (through end))) ≡ Some f → EndsAt d end f
      go true e k = let same : finish.Exit end.node ≡ f = cc in subst (EndsAt d end) same (refl, e)
      go false e k = by_signal e (signals_at d (through end)) (governs_from (through end)) (signals_from (through end)) k

  pub finish_none : (end : End) → ((f : Finish) → EndsAt d end f → ⊥) → finish_at d end ≡ None
  finish_none end h = go (finish_at d end) refl
    where
      go : (o : Option Finish) → finish_at d end ≡ o → o ≡ None
      go None e = refl
      go (Some f) e = absurd (h f (finish_tells end f e))

  pub finish_told : IsAdmitted d → (end : End) (f : Finish) → EndsAt d end f → finish_at d end ≡ Some f
  finish_told adm end (finish.Exit n) h =
      ap (λ b. if b then Some (finish.Exit end.node) else ends_by_signal d end (signals_at d (through end))) h.1 ∙ ap (λ m. Some (finish.Exit m)) (sym h.0)
  finish_told adm end (finish.Signal s) h =
      ap (λ b. if b then Some (finish.Exit end.node) else ends_by_signal d end (signals_at d (through end))) h.1 ∙ first (signals_at d (through end)) (signals_from (through end) s h.0) (governs_from (through end))
    where
      first : (ss : List SignalNo) → In s ss → ((q : SignalNo) → In q ss → Governs d q (through end)) → ends_by_signal d end ss ≡ Some (finish.Signal s)
      first [] m tells = absurd m
      first (q ∷ qs) m tells =
          let g = tells q (inl refl) in
          let same : q ≡ s = adm.signals_differ q s g.0 h.0.0 (g.1 ∙ sym h.0.1) (g.2 ∙ sym h.0.2) in
          ap (λ x. Some (finish.Signal x)) same
  finish_told adm end (finish.DeadEnd n) h =
      ap (λ b. if b then Some (finish.Exit end.node) else ends_by_signal d end (signals_at d (through end))) h.1 ∙ none (signals_at d (through end)) (governs_from (through end))
    where
      none : (ss : List SignalNo) → ((q : SignalNo) → In q ss → Governs d q (through end)) → ends_by_signal d end ss ≡ Some (finish.DeadEnd n)
      none (q ∷ qs) tells = absurd (h.2 q (tells q (inl refl)))
      none [] tells =
          ap (λ b. if b then Some (finish.DeadEnd end.node) else None) (is_empty_none (leave d (through end)) (λ e m. h.3 e (at_from_leave (through end) e m))) ∙ ap (λ m. Some (finish.DeadEnd m)) (sym h.0)

  -- ---- the search from an end

  abbrev pub branch_with : Bool → Option Finish → EdgeNo → List EdgeNo → List Walk → List Walk
  branch_with b o e longer further = if b then RepeatsEdge e ∷ [] else walk_or o longer further

  abbrev pub branch : ℕ → List EdgeNo → End → EdgeNo → List Walk
  branch n taken end e = branch_with (has_edge taken e) (finish_at d (far_end (edge_of d e) end)) e (taken ++ e ∷ []) (walks n d (taken ++ e ∷ []) (through (far_end (edge_of d e) end)))

  pub differ_snoc : (taken : List EdgeNo) (e : EdgeNo) → Differ taken → has_edge taken e ≡ false → Differ (taken ++ e ∷ [])
  differ_snoc taken e dif new = pairs_append _ taken (e ∷ []) dif (λ y m. absurd m, tt) across
    where
      across : (x y : EdgeNo) → In x taken → In y (e ∷ []) → x ≡ y → ⊥
      across x y m (inr n) s = n
      across x y m (inl n) s =
          let same : x.0 ≡ e.0 = ap (λ (g : EdgeNo). g.0) (s ∙ sym n) in
          true≢false (sym (list_any_from (λ (f : EdgeNo). f.0 == e.0) taken x m (eq-eqb x.0 e.0 same)) ∙ new)

  pub differ_new : (taken : List EdgeNo) (e : EdgeNo) (es : List EdgeNo) → Differ (taken ++ e ∷ es) → has_edge taken e ≡ false
  differ_new taken e es dif = go (has_edge taken e) refl
    where
      go : (b : Bool) → has_edge taken e ≡ b → b ≡ false
      go false h = refl
      go true h =
          let l = list_any_gives (λ (f : EdgeNo). f.0 == e.0) taken h in
          let number : l.0.0 ≡ e.0 = eqb-true l.0.0 e.0 l.2 in
          let same : l.0 ≡ e = ap (λ n. edge_no n) number in
          absurd (pairs_across (λ (x y : EdgeNo). x ≡ y → ⊥) taken (e ∷ es) dif l.0 e l.1 (inl refl) same)

  ends_more : (there : End) (ends : List End) (f : Finish) → ((g : Finish) → EndsAt d there g → ⊥) → EndsFirst d ends f → EndsFirst d (there ∷ ends) f
  ends_more there [] f none h = absurd h
  ends_more there (next ∷ ends) f none h = (none, h)

  -- what is found goes on from what was taken
  pub record Found (taken : List EdgeNo) (end : End) (p : List EdgeNo) (f : Finish) : Type 0 where
    pub tail : List EdgeNo
    pub is : taken ++ tail ≡ p
    pub walk : IsWalk d end tail
    pub once : Differ p
    pub ends : EndsFirst d (reached d end tail) f

  pub found : IsAdmitted d → (n : ℕ) (taken : List EdgeNo) (end : End) (p : List EdgeNo) (f : Finish) → Differ taken → In (Whole p f) (walks n d taken end) → Found taken end p f
  found adm zero taken end p f dif m = absurd m
  found adm (suc n) taken end p f dif m = by_edge (in_flat_map_back (branch n taken end) (leave d end) (Whole p f) m) (λ longer from. found adm n longer from p f)
    where
      by_edge : ((e : EdgeNo) × In e (leave d end) × In (Whole p f) (branch n taken end e)) → ((longer : List EdgeNo) (from : End) → Differ longer → In (Whole p f) (walks n d longer from) → Found longer from p f) → Found taken end p f
      by_edge (e, at, k) later = go (has_edge taken e) refl (finish_at d (far_end (edge_of d e) end)) refl k
        where
          go : (b : Bool) → has_edge taken e ≡ b → (o : Option Finish) → finish_at d (far_end (edge_of d e) end) ≡ o
              → In (Whole p f) (branch_with b o e (taken ++ e ∷ []) (walks n d (taken ++ e ∷ []) (through (far_end (edge_of d e) end)))) → Found taken end p f
          go true be o oe (inl s) = cc
          go true be o oe (inr j) = absurd j
          go false be (Some g) oe (inr j) = absurd j
          go false be (Some g) oe (inl s) =
              let path : taken ++ e ∷ [] ≡ p = cc in
              let how : g ≡ f = cc in
              record { tail = e ∷ []; is = path; walk = (at_from_leave end e at, tt); once = subst Differ path (differ_snoc taken e dif be); ends = subst (EndsAt d (far_end (edge_of d e) end)) how (finish_tells _ g oe) }
          go false be None oe j =
              let more = later (taken ++ e ∷ []) (through (far_end (edge_of d e) end)) (differ_snoc taken e dif be) j in
              record {
                tail = e ∷ more.tail;
                is = sym (append_assoc taken (e ∷ []) more.tail) ∙ more.is;
                walk = (at_from_leave end e at, more.walk);
                once = more.once;
                ends = ends_more (far_end (edge_of d e) end) _ f (λ g h. let s = finish_told adm _ g h in let no : Some g ≡ None = sym s ∙ oe in cc) more.ends;
              }

  pub listed : IsAdmitted d → (n : ℕ) (taken : List EdgeNo) (end : End) (tail : List EdgeNo) (f : Finish) → length tail ≤ n → IsWalk d end tail → Differ (taken ++ tail) → EndsFirst d (reached d end tail) f → In (Whole (taken ++ tail) f) (walks n d taken end)
  listed adm n taken end [] f short walk dif ends = absurd ends
  listed adm zero taken end (e ∷ es) f short walk dif ends = absurd (omega arith)
  listed adm (suc n) taken end (e ∷ es) f short walk dif ends =
      in_flat_map (branch n taken end) (leave d end) e (Whole (taken ++ e ∷ es) f) (leave_from_at end e walk.0)
      (subst (λ b. In (Whole (taken ++ e ∷ es) f) (branch_with b (finish_at d there) e longer (walks n d longer (through there)))) (sym (differ_new taken e es dif)) (inside es walk.1 (subst Differ (sym (append_assoc taken (e ∷ []) es)) dif) ends (append_assoc taken (e ∷ []) es) (listed adm n longer (through there) es f (omega arith))))
    where
      there : End
      there = far_end (edge_of d e) end

      longer : List EdgeNo
      longer = taken ++ e ∷ []

      inside : (es : List EdgeNo) → IsWalk d (through (far_end (edge_of d e) end)) es → Differ ((taken ++ e ∷ []) ++ es) → EndsFirst d (far_end (edge_of d e) end ∷ reached d (through (far_end (edge_of d e) end)) es) f → (taken ++ e ∷ []) ++ es ≡ taken ++ e ∷ es
          → (IsWalk d (through (far_end (edge_of d e) end)) es → Differ ((taken ++ e ∷ []) ++ es) → EndsFirst d (reached d (through (far_end (edge_of d e) end)) es) f → In (Whole ((taken ++ e ∷ []) ++ es) f) (walks n d (taken ++ e ∷ []) (through (far_end (edge_of d e) end))))
          → In (Whole (taken ++ e ∷ es) f) (walk_or (finish_at d (far_end (edge_of d e) end)) (taken ++ e ∷ []) (walks n d (taken ++ e ∷ []) (through (far_end (edge_of d e) end))))
      inside [] walk dif ends assoc later =
          subst (λ o. In (Whole (taken ++ e ∷ []) f) (walk_or o (taken ++ e ∷ []) (walks n d (taken ++ e ∷ []) (through (far_end (edge_of d e) end))))) (sym (finish_told adm _ f ends)) (inl refl)
      inside (g ∷ gs) walk dif ends assoc later =
          subst (λ o. In (Whole (taken ++ e ∷ g ∷ gs) f) (walk_or o (taken ++ e ∷ []) (walks n d (taken ++ e ∷ []) (through (far_end (edge_of d e) end))))) (sym (finish_none _ ends.0))
          (subst (λ p. In (Whole p f) (walks n d (taken ++ e ∷ []) (through (far_end (edge_of d e) end)))) assoc (later walk dif ends.1))

  -- ---- the order of the search

  abbrev pub ClosesBefore : Walk → Walk → Type 0
  ClosesBefore (Whole p f) (Whole q g) = IsBefore p q
  ClosesBefore (Whole p f) (RepeatsEdge e) = Unit {0}
  ClosesBefore (RepeatsEdge e) c = Unit {0}

  goes_on_from : (n : ℕ) (taken : List EdgeNo) (end : End) (p : List EdgeNo) (f : Finish) → In (Whole p f) (walks n d taken end) → (tail : List EdgeNo) × (taken ++ tail ≡ p)
  goes_on_from zero taken end p f m = absurd m
  goes_on_from (suc n) taken end p f m = by_edge (in_flat_map_back (branch n taken end) (leave d end) (Whole p f) m) (λ longer from. goes_on_from n longer from p f)
    where
      by_edge : ((e : EdgeNo) × In e (leave d end) × In (Whole p f) (branch n taken end e)) → ((longer : List EdgeNo) (from : End) → In (Whole p f) (walks n d longer from) → (tail : List EdgeNo) × (longer ++ tail ≡ p)) → (tail : List EdgeNo) × (taken ++ tail ≡ p)
      by_edge (e, at, k) later = go (has_edge taken e) (finish_at d (far_end (edge_of d e) end)) k
        where
          go : (b : Bool) (o : Option Finish) → In (Whole p f) (branch_with b o e (taken ++ e ∷ []) (walks n d (taken ++ e ∷ []) (through (far_end (edge_of d e) end)))) → (tail : List EdgeNo) × (taken ++ tail ≡ p)
          go true o (inl s) = cc
          go true o (inr j) = absurd j
          go false (Some g) (inr j) = absurd j
          go false (Some g) (inl s) = (e ∷ [], cc)
          go false None j = let l = later (taken ++ e ∷ []) (through (far_end (edge_of d e) end)) j in (e ∷ l.0, sym (append_assoc taken (e ∷ []) l.0) ∙ l.1)

  branch_begins : (n : ℕ) (taken : List EdgeNo) (end : End) (e : EdgeNo) (p : List EdgeNo) (f : Finish) → In (Whole p f) (branch n taken end e) → (tail : List EdgeNo) × (taken ++ e ∷ tail ≡ p)
  branch_begins n taken end e p f k = go (has_edge taken e) (finish_at d (far_end (edge_of d e) end)) k
    where
      go : (b : Bool) (o : Option Finish) → In (Whole p f) (branch_with b o e (taken ++ e ∷ []) (walks n d (taken ++ e ∷ []) (through (far_end (edge_of d e) end)))) → (tail : List EdgeNo) × (taken ++ e ∷ tail ≡ p)
      go true o (inl s) = cc
      go true o (inr j) = absurd j
      go false (Some g) (inr j) = absurd j
      go false (Some g) (inl s) = ([], cc)
      go false None j = let l = goes_on_from n (taken ++ e ∷ []) (through (far_end (edge_of d e) end)) p f j in (l.0, sym (append_assoc taken (e ∷ []) l.0) ∙ l.1)

  pub walks_rise : (n : ℕ) (taken : List EdgeNo) (end : End) → Pairs ClosesBefore (walks n d taken end)
  walks_rise zero taken end = tt
  walks_rise (suc n) taken end = pairs_flat_map (λ (e g : EdgeNo). e.0 < g.0) ClosesBefore (branch n taken end) (leave d end) (leave_rise end) (λ e m. each e (walks_rise n (taken ++ e ∷ []) (through (far_end (edge_of d e) end)))) across
    where
      each : (e : EdgeNo) → Pairs ClosesBefore (walks n d (taken ++ e ∷ []) (through (far_end (edge_of d e) end))) → Pairs ClosesBefore (branch n taken end e)
      each e h = go (has_edge taken e) (finish_at d (far_end (edge_of d e) end))
        where
          go : (b : Bool) (o : Option Finish) → Pairs ClosesBefore (branch_with b o e (taken ++ e ∷ []) (walks n d (taken ++ e ∷ []) (through (far_end (edge_of d e) end))))
          go true o = (λ y k. absurd k, tt)
          go false (Some g) = (λ y k. absurd k, tt)
          go false None = h

      across : (e g : EdgeNo) (y z : Walk) → In e (leave d end) → In g (leave d end) → e.0 < g.0 → In y (branch n taken end e) → In z (branch n taken end g) → ClosesBefore y z
      across e g (RepeatsEdge a) z m k less i j = tt
      across e g (Whole p f) (RepeatsEdge a) m k less i j = tt
      across e g (Whole p f) (Whole q h) m k less i j =
          let one = branch_begins n taken end e p f i in
          let two = branch_begins n taken end g q h j in
          subst (λ w. IsBefore w q) one.1 (subst (λ w. IsBefore (taken ++ e ∷ one.0) w) two.1 (before_prefix taken (e ∷ one.0) (g ∷ two.0) (inl less)))
