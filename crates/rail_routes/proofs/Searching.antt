-- What a step of the search leaves of the closed paths that are still to come.
use Rattle.std.proofs.Common.{◌≡◌, ℕ, zero, suc, ◌+◌, ◌-◌, ◌≤◌, ◌<◌, ◌⊎◌, inl, inr, Bool, true, false, if◌then◌else◌, List, [], ◌∷◌, ◌++◌, flat_map, reverse, take, drop, length, get_or, Option, Some, None, refl, sym, ap, ap₂, subst, ◌∙◌, arith, append_assoc, append-nil, le_refl, add-one, length-append, drop-cons, Result, Ok, Err, OnOk, OnErr}
use Rattle.std.proofs.lemmas.List.{take-append-le, reverse-append, length-take-le}
use Rattle.std.proofs.lemmas.Grind.{flat_map-append}
use Rattle.std.proofs.Math.Seq.{take-length}
use Rattle.std.proofs.Math.ListN.{drop_of_length-le}
use Rattle.rail_base.specs.declared.station.Station.{Station}
use Rattle.rail_base.specs.declared.station.End.{End}
use Rattle.rail_base.specs.declared.station.EdgeNo.{EdgeNo}
use Rattle.rail_base.specs.declared.station.SignalNo.{SignalNo}
use Rattle.rail_base.specs.declared.route.Finish.{Finish}
use Rattle.rail_base.specs.declared.route.Finish.TheVariants as finish
use Rattle.rail_base.specs.Members.{In}
use Rattle.rail_base.specs.Stations.{is_end, through, edge_of, node_of, leave, far_end, IsEdge, IsNode}
use Rattle.rail_base.specs.Admitted.{IsAdmitted}
use Rattle.rail_base.proofs.Contained.{in_at}
use Rattle.rail_base.proofs.Lists.{in_append, in_append_left, in_append_right, pairs_append, pairs_across, pairs_left}
use Rattle.rail_spec.specs.Track.{signals_at, is_empty, finish_at, has_edge, Walk, Whole, RepeatsEdge, walks}
use Rattle.rail_laws.proofs.Walk.{at_from_leave, ends_by_signal, walk_or}
use Rattle.rail_laws.proofs.RouteLaws.{few_edges}
use Rattle.rail_routes.specs.declared.search.Level.{Level}
use Rattle.rail_routes.specs.declared.search.Search.{Search}
use Rattle.rail_routes.specs.declared.path.Path.{Path}
use Rattle.rail_routes.specs.Levels.{IsOpen, AreOpen, AreNested}
use Rattle.rail_routes.specs.Pending.{over, at_level, pending, station_of}
use Rattle.rail_routes.specs.Walks.{AreEdges}

-- ---- lists from their end

-- what each gives, the last first
backward : {X Y : Type 0} → (X → List Y) → List X → List Y
backward f [] = []
backward f (x ∷ xs) = backward f xs ++ f x

backward-is : {X Y : Type 0} (f : X → List Y) (xs : List X) → flat_map f (reverse xs) ≡ backward f xs
unfolding backward
backward-is f [] = refl
backward-is f (x ∷ xs) = ap (flat_map f) (reverse-append (x ∷ []) xs) ∙ flat_map-append f (reverse xs) (x ∷ []) ∙ ap₂ (λ a b. a ++ b) (backward-is f xs) (append-nil (f x))

backward-same : {X Y : Type 0} (f g : X → List Y) (xs : List X) → ((x : X) → In x xs → f x ≡ g x) → backward f xs ≡ backward g xs
unfolding backward
backward-same f g [] h = refl
backward-same f g (x ∷ xs) h = ap₂ (λ a b. a ++ b) (backward-same f g xs (λ y m. h y (inr m))) (h x (inl refl))

same-backward : {X Y : Type 0} (f g : X → List Y) (xs : List X) → ((x : X) → In x xs → f x ≡ g x) → flat_map f (reverse xs) ≡ flat_map g (reverse xs)
same-backward f g xs h = backward-is f xs ∙ backward-same f g xs h ∙ sym (backward-is g xs)

take-shorter : {X : Type 0} (j k : ℕ) (xs : List X) → j ≤ k → take j (take k xs) ≡ take j xs
take-shorter zero k xs h = refl
take-shorter (suc j) zero xs h = absurd (omega arith)
take-shorter (suc j) (suc k) [] h = refl
take-shorter (suc j) (suc k) (x ∷ xs) h = ap (λ ys. x ∷ ys) (take-shorter j k xs (omega arith))

some-rest : {X : Type 0} (xs : List X) (k : ℕ) (x : X) → k < length xs → x ≡ get_or xs k x → drop k xs ≡ x ∷ drop (k + 1) xs
some-rest xs k x h e = drop-cons xs k x h ∙ ap₂ (λ y n. y ∷ drop n xs) (sym e) (sym (add-one k))

-- within the list no other value is needed
pub some-place : {X : Type 0} (xs : List X) (k : ℕ) (a b : X) → k < length xs → get_or xs k a ≡ get_or xs k b
some-place [] k a b h = absurd (omega arith)
some-place (x ∷ xs) zero a b h = refl
some-place (x ∷ xs) (suc k) a b h = some-place xs k a b (omega arith)

module _ (d : Station) where
  -- ---- the edges at an end

  pub far_node : IsAdmitted d → (e : EdgeNo) (end : End) → IsEdge d e → IsNode d (far_end (edge_of d e) end).node
  far_node adm e end h = go (is_end (edge_of d e).from end)
    where
      go : (b : Bool) → IsNode d (if b then (edge_of d e).to else (edge_of d e).from).node
      go true = (adm.edge e h).to
      go false = (adm.edge e h).from

  -- how a route ends at a node with these signals and edges for trains that go on
  abbrev ends_with : End → List SignalNo → List EdgeNo → Option Finish
  ends_with there (s ∷ ss) es = Some (finish.Signal s)
  ends_with there [] es = if is_empty es then Some (finish.DeadEnd there.node) else None

  ends-with-is : (there : End) (ss : List SignalNo) → ends_by_signal d there ss ≡ ends_with there ss (leave d (through there))
  ends-with-is there [] = refl
  ends-with-is there (s ∷ ss) = refl

  pub some_leaves : (there : End) → finish_at d there ≡ None → 1 ≤ length (leave d (through there))
  some_leaves there h = go (node_of d there.node).boundary (signals_at d (through there)) (leave d (through there)) (ap (λ o. if (node_of d there.node).boundary then Some (finish.Exit there.node) else o) (sym (ends-with-is there (signals_at d (through there)))) ∙ h)
    where
      go : (b : Bool) (ss : List SignalNo) (es : List EdgeNo) → (if b then Some (finish.Exit there.node) else ends_with there ss es) ≡ None → 1 ≤ length es
      go true ss es e = cc
      go false (s ∷ ss) es e = cc
      go false [] [] e = cc
      go false [] (g ∷ gs) e = omega arith

  pub at_leave : (end : End) (k : ℕ) (x : EdgeNo) → k < length (leave d end) → x ≡ get_or (leave d end) k x → IsEdge d x
  at_leave end k x h e = (at_from_leave d end x (subst (λ y. In y (leave d end)) (sym e) (in_at (leave d end) k x h))).0

  pub few : (p : Path) → length p.marks.items ≡ length d.edges → length p.edges.items ≤ length d.edges
  few p many = few_edges d p.edges.items p.once (λ e m. let h = p.numbered e m in (h.0, let u = h.1 in omega arith))

  -- ---- what is over an edge

  abbrev over_with : Bool → Option Finish → EdgeNo → List EdgeNo → List Walk → List Walk
  over_with b o e longer further = if b then RepeatsEdge e ∷ [] else walk_or o longer further

  pub over_open : (n : ℕ) (path : List EdgeNo) (end : End) (e : EdgeNo) (o : Option Finish) → has_edge path e ≡ false → finish_at d (far_end (edge_of d e) end) ≡ o
      → over d n path end e ≡ walk_or o (path ++ e ∷ []) (walks n d (path ++ e ∷ []) (through (far_end (edge_of d e) end)))
  over_open n path end e o h f = ap₂ (λ b p. over_with b p e (path ++ e ∷ []) (walks n d (path ++ e ∷ []) (through (far_end (edge_of d e) end)))) h f

  -- ---- levels

  pub open_longer : (m n : ℕ) (l : Level) → m ≤ n → IsOpen d m l → IsOpen d n l
  open_longer m n l h o = record { on_path = let k = o.on_path in omega arith; node = o.node; has_next = o.has_next }

  same_prefix : (path other : List EdgeNo) (l : Level) → take l.after path ≡ take l.after other → at_level d path l ≡ at_level d other l
  same_prefix path other l h = ap (λ prefix. flat_map (over d (length d.edges - l.after) prefix l.from) (drop l.tried (leave d l.from))) h

  pub pending_longer : (path more : List EdgeNo) (levels : List Level) → ((l : Level) → In l levels → l.after ≤ length path) → pending d (path ++ more) levels ≡ pending d path levels
  pending_longer path more levels h = same-backward (at_level d (path ++ more)) (at_level d path) levels (λ l m. same_prefix (path ++ more) path l (take-append-le l.after path more (h l m)))

  pub pending_shorter : (path : List EdgeNo) (k : ℕ) (levels : List Level) → ((l : Level) → In l levels → l.after ≤ k) → pending d (take k path) levels ≡ pending d path levels
  pending_shorter path k levels h = same-backward (at_level d (take k path)) (at_level d path) levels (λ l m. same_prefix (take k path) path l (take-shorter l.after k path (h l m)))

  pub pending_push : (path : List EdgeNo) (levels : List Level) (l : Level) → pending d path (levels ++ l ∷ []) ≡ at_level d path l ++ pending d path levels
  pending_push path levels l = ap (flat_map (at_level d path)) (reverse-append levels (l ∷ []))

  -- a level at which nothing was tried has all closed paths from there
  pub level_walks : (path : List EdgeNo) (end : End) → length path ≤ length d.edges → at_level d path (record { after = length path; from = end; tried = 0 }) ≡ walks (length d.edges + 1 - length path) d path end
  level_walks path end h =
      let fuel : length d.edges + 1 - length path ≡ suc (length d.edges - length path) = omega arith in
      ap (λ prefix. flat_map (over d (length d.edges - length path) prefix end) (leave d end)) (take-length path) ∙ ap (λ n. walks n d path end) (sym fuel)

  -- a level without its next edge
  pub level_next : (path : List EdgeNo) (l : Level) (e : EdgeNo) → l.after ≡ length path → l.tried < length (leave d l.from) → e ≡ get_or (leave d l.from) l.tried e
      → at_level d path l ≡ over d (length d.edges - length path) path l.from e ++ at_level d path (record l { tried = l.tried + 1 })
  level_next path l e here some is =
      let prefix : take l.after path ≡ path = ap (λ n. take n path) here ∙ take-length path in
      ap (flat_map (over d (length d.edges - l.after) (take l.after path) l.from)) (some-rest (leave d l.from) l.tried e some is)
      ∙ ap₂ (λ n p. over d (length d.edges - n) p l.from e ++ at_level d path (record l { tried = l.tried + 1 })) here prefix

  -- a level whose edges were all tried
  pub level_done : (path : List EdgeNo) (l : Level) → length (leave d l.from) ≤ l.tried → at_level d path l ≡ []
  level_done path l h = ap (flat_map (over d (length d.edges - l.after) (take l.after path) l.from)) (drop_of_length-le (leave d l.from) h)

  -- ---- a search begins

  pub started : (path : List EdgeNo) (levels : List Level) (from : End) → path ≡ [] → levels ≡ record { after = 0; from = from; tried = 0 } ∷ [] → pending d path levels ≡ walks (length d.edges + 1) d [] from
  started path levels from p l =
      let fuel : length d.edges + 1 - 0 ≡ length d.edges + 1 = omega arith in
      ap₂ (pending d) p l ∙ append-nil (at_level d [] (record { after = 0; from = from; tried = 0 })) ∙ level_walks [] from (omega arith) ∙ ap (λ n. walks n d [] from) fuel

  pub started_nowhere : (path : List EdgeNo) (levels : List Level) (from : End) → path ≡ [] → levels ≡ [] → leave d from ≡ [] → pending d path levels ≡ walks (length d.edges + 1) d [] from
  started_nowhere path levels from p l none =
      let nothing : [] ≡ flat_map (over d (length d.edges) [] from) (leave d from) = ap (flat_map (over d (length d.edges) [] from)) (sym none) in
      ap₂ (pending d) p l ∙ nothing ∙ ap (λ n. walks n d [] from) (sym (add-one (length d.edges)))

  -- ---- an edge of a level is taken

  -- the levels are open, each at least as far along the path as those before it
  pub record AreLevels (n : ℕ) (ls : List Level) : Type 0 where
    pub tried : AreOpen d n ls
    pub nested : AreNested ls

  pub levels_push : (n : ℕ) (ls more : List Level) (l : Level) → AreLevels n ls → more ≡ ls ++ l ∷ [] → l.after ≡ n → IsOpen d n l → AreLevels n more
  levels_push n ls more l is e here some = record {
    tried = λ k m. each k (in_append k ls (l ∷ []) (subst (In k) e m));
    nested = subst AreNested (sym e) (pairs_append (λ (j k : Level). j.after ≤ k.after) ls (l ∷ []) is.nested (λ y m. absurd m, tt) across);
  }
    where
      each : (k : Level) → In k ls ⊎ In k (l ∷ []) → IsOpen d n k
      each k (inl m) = is.tried k m
      each k (inr (inl same)) = subst (IsOpen d n) same some
      each k (inr (inr m)) = absurd m

      across : (j k : Level) → In j ls → In k (l ∷ []) → j.after ≤ k.after
      across j k m (inl same) = let o = (is.tried j m).on_path in let a = ap (λ (x : Level). x.after) same in omega arith
      across j k m (inr n) = absurd n

  -- also where it is not known whether there was room for one more
  pub levels_pushed : (n : ℕ) (b : Bool) (ls more : List Level) (l : Level) → AreLevels n ls → more ≡ (if b then ls ++ l ∷ [] else ls) → l.after ≡ n → IsOpen d n l → AreLevels n more
  levels_pushed n true ls more l is e here some = levels_push n ls more l is e here some
  levels_pushed n false ls more l is e here some = subst (AreLevels n) (sym e) is

  pub levels_longer : (m n : ℕ) (ls : List Level) → m ≤ n → AreLevels m ls → AreLevels n ls
  levels_longer m n ls more is = record { tried = λ l i. open_longer m n l more (is.tried l i); nested = is.nested }

  pub taken_some : (p q : Path) (ls more : List Level) (l : Level) (e : EdgeNo) → q ≡ p → more ≡ ls ++ record l { tried = l.tried + 1 } ∷ [] → l.after ≡ length p.edges.items → l.tried < length (leave d l.from) → e ≡ get_or (leave d l.from) l.tried e
      → over d (length d.edges - length p.edges.items) p.edges.items l.from e ++ pending d q.edges.items more ≡ at_level d p.edges.items l ++ pending d p.edges.items ls
  taken_some p q ls more l e same h here some is =
      let first = over d (length d.edges - length p.edges.items) p.edges.items l.from e in
      let rest = at_level d p.edges.items (record l { tried = l.tried + 1 }) in
      ap (λ cs. first ++ cs) (ap₂ (λ (q : Path) ls. pending d q.edges.items ls) same h ∙ pending_push p.edges.items ls (record l { tried = l.tried + 1 }))
      ∙ sym (append_assoc first rest (pending d p.edges.items ls))
      ∙ ap (λ cs. cs ++ pending d p.edges.items ls) (sym (level_next p.edges.items l e here some is))

  pub taken_last : (p q : Path) (ls more : List Level) (l : Level) (e : EdgeNo) → q ≡ p → more ≡ ls → l.after ≡ length p.edges.items → l.tried < length (leave d l.from) → length (leave d l.from) ≤ l.tried + 1 → e ≡ get_or (leave d l.from) l.tried e
      → over d (length d.edges - length p.edges.items) p.edges.items l.from e ++ pending d q.edges.items more ≡ at_level d p.edges.items l ++ pending d p.edges.items ls
  taken_last p q ls more l e same kept here some last is =
      let first = over d (length d.edges - length p.edges.items) p.edges.items l.from e in
      ap₂ (λ (q : Path) ls. first ++ pending d q.edges.items ls) same kept
      ∙ ap (λ cs. cs ++ pending d p.edges.items ls) (sym (level_next p.edges.items l e here some is ∙ ap (λ cs. first ++ cs) (level_done p.edges.items (record l { tried = l.tried + 1 }) last) ∙ append-nil first))

  -- ---- the path goes over an edge

  pub closed_over : (n : ℕ) (path longer : List EdgeNo) (levels : List Level) (end : End) (e : EdgeNo) (f : Finish) → has_edge path e ≡ false → finish_at d (far_end (edge_of d e) end) ≡ Some f → longer ≡ path ++ e ∷ [] → ((l : Level) → In l levels → IsOpen d (length path) l)
      → Whole longer f ∷ pending d longer levels ≡ over d n path end e ++ pending d path levels
  closed_over n path longer levels end e f h fin is open_ =
      ap₂ (λ p cs. Whole p f ∷ cs) is (ap (λ p. pending d p levels) is ∙ pending_longer path (e ∷ []) levels (λ l m. (open_ l m).on_path))
      ∙ ap (λ cs. cs ++ pending d path levels) (sym (over_open n path end e (Some f) h fin))

  pub further_over : (path longer : List EdgeNo) (levels : List Level) (end on : End) (e : EdgeNo) → has_edge path e ≡ false → finish_at d (far_end (edge_of d e) end) ≡ None → longer ≡ path ++ e ∷ [] → on ≡ through (far_end (edge_of d e) end) → ((l : Level) → In l levels → IsOpen d (length path) l)
      → walks (length d.edges + 1 - length longer) d longer on ++ pending d longer levels ≡ over d (length d.edges - length path) path end e ++ pending d path levels
  further_over path longer levels end on e h fin is there open_ =
      let k = ap length is in
      let a = length-append path (e ∷ []) in
      let fuel : length d.edges + 1 - length longer ≡ length d.edges - length path = omega arith in
      ap₂ (λ cs ds. cs ++ ds)
      (ap₂ (λ n p. walks n d p on) fuel is ∙ ap (walks (length d.edges - length path) d (path ++ e ∷ [])) there)
      (ap (λ p. pending d p levels) is ∙ pending_longer path (e ∷ []) levels (λ l m. (open_ l m).on_path))
      ∙ ap (λ cs. cs ++ pending d path levels) (sym (over_open (length d.edges - length path) path end e None h fin))

  -- ---- the innermost level is taken off

  last_open : (path : List EdgeNo) (ls rest : List Level) (l : Level) → AreLevels (length path) ls → ls ≡ rest ++ l ∷ [] → IsOpen d (length path) l
  last_open path ls rest l is e = is.tried l (subst (In l) (sym e) (in_append_right l rest (l ∷ []) (inl refl)))

  rest_before : (path : List EdgeNo) (ls rest : List Level) (l : Level) → AreLevels (length path) ls → ls ≡ rest ++ l ∷ [] → (k : Level) → In k rest → k.after ≤ l.after
  rest_before path ls rest l is e k m = pairs_across (λ (j k : Level). j.after ≤ k.after) rest (l ∷ []) (subst AreNested e is.nested) k l m (inl refl)

  pub popped_fewer : (path : List EdgeNo) (ls rest : List Level) (l : Level) → AreLevels (length path) ls → ls ≡ rest ++ l ∷ [] → l.after ≤ length path
  popped_fewer path ls rest l is e = (last_open path ls rest l is e).on_path

  pub popped_here : (path short : List EdgeNo) (ls rest : List Level) (l : Level) → AreLevels (length path) ls → ls ≡ rest ++ l ∷ [] → short ≡ take l.after path → l.after ≡ length short
  popped_here path short ls rest l is e cut = sym (ap length cut ∙ length-take-le l.after path (popped_fewer path ls rest l is e))

  pub popped_some : (path short : List EdgeNo) (ls rest : List Level) (l : Level) → AreLevels (length path) ls → ls ≡ rest ++ l ∷ [] → short ≡ take l.after path → IsOpen d (length short) l
  popped_some path short ls rest l is e cut =
      let here = popped_here path short ls rest l is e cut in
      record { on_path = omega arith; node = (last_open path ls rest l is e).node; has_next = (last_open path ls rest l is e).has_next }

  -- the others stay, also on what is left of the path
  pub popped_levels : (path short : List EdgeNo) (ls rest : List Level) (l : Level) → AreLevels (length path) ls → ls ≡ rest ++ l ∷ [] → short ≡ take l.after path → AreLevels (length short) rest
  popped_levels path short ls rest l is e cut = record {
    tried = λ k m. each k m (is.tried k (subst (In k) (sym e) (in_append_left k rest (l ∷ []) m)));
    nested = pairs_left (λ (j k : Level). j.after ≤ k.after) rest (l ∷ []) (subst AreNested e is.nested);
  }
    where
      each : (k : Level) → In k rest → IsOpen d (length path) k → IsOpen d (length short) k
      each k m o =
          let here = popped_here path short ls rest l is e cut in
          let before = rest_before path ls rest l is e k m in
          record { on_path = omega arith; node = o.node; has_next = o.has_next }

  pub popped_same : (path short : List EdgeNo) (ls rest : List Level) (l : Level) → AreLevels (length path) ls → ls ≡ rest ++ l ∷ [] → short ≡ take l.after path
      → at_level d short l ++ pending d short rest ≡ pending d path ls
  popped_same path short ls rest l is e cut =
      ap (λ p. at_level d p l ++ pending d p rest) cut
      ∙ ap₂ (λ a b. a ++ b) (same_prefix (take l.after path) path l (take-shorter l.after l.after path (le_refl l.after))) (pending_shorter path l.after rest (rest_before path ls rest l is e))
      ∙ sym (pending_push path rest l) ∙ ap (pending d path) (sym e)

-- ---- the edges of the path

pub levels_of : (s : Search) → AreLevels (station_of s) (length s.path.edges.items) s.levels.items
levels_of s = record { tried = s.tried; nested = s.nested }

-- of a call that says what holds after it, the one or the other
pub on_either : {X E : Type 0} (r : Result X E) (P Q : Type 0) → OnOk r P → OnErr r Q → P ⊎ Q
on_either (Ok x) P Q p q = inl p
on_either (Err e) P Q p q = inr q

-- searches along one track are of one station
pub station_same : (s t : Search) → s.track ≡ t.track → station_of s ≡ station_of t
station_same s t e = ap (λ r. r.now.design.now.station) e

pub are_edges : (d : Station) (s : Search) (path : List EdgeNo) → station_of s ≡ d → path ≡ s.path.edges.items → AreEdges d path
are_edges d s path of same = subst (λ d. AreEdges d path) of (subst (AreEdges (station_of s)) (sym same) (record {
  numbered = λ e m. let h = s.path.numbered e m in (h.0, let u = h.1 in let k = s.marks in omega arith);
  within_edges = few (station_of s) s.path s.marks;
}))
