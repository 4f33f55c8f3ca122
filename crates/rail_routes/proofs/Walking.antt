-- What is said of a route, edge by edge.
use Rattle.std.proofs.Common.{◌≡◌, ℕ, zero, suc, ◌+◌, ◌≤◌, ◌<◌, ◌⊎◌, inl, inr, max, Bool, true, false, not, cond, ◌&&◌, ◌==◌, nat_le, replicate, List, [], ◌∷◌, ◌++◌, map, filter, fold, drop, length, get_or, refl, sym, ap, ap₂, subst, ◌∙◌, arith, eq-eqb, eqb-true, true≢false, append_assoc, set, get_or-set_same, get_or-set_other, drop-cons, add-one}
use Rattle.rail_base.specs.declared.station.Station.{Station}
use Rattle.rail_base.specs.declared.station.EdgeNo.{EdgeNo}
use Rattle.rail_base.specs.declared.station.SectionNo.{SectionNo}
use Rattle.rail_base.specs.Members.{In}
use Rattle.rail_base.specs.Stations.{length_of, section_of, IsEdge}
use Rattle.rail_base.specs.declared.station.Edge.{Edge}
use Rattle.rail_base.specs.Numbering.{one_to}
use Rattle.rail_base.specs.Members.{all_pairs}
use Rattle.rail_base.specs.Admitted.{IsAdmitted}
use Rattle.rail_base.specs.Admission.{is_good_node, is_good_edge, is_good_signal, are_numbered, are_apart, are_few, is_timed, are_named, is_sound_track, is_sound_traffic, are_sound_overlaps, is_admitted}
use Rattle.rail_base.proofs.Admitting.{admitted}
use Rattle.rail_base.proofs.Members.{and_left, and_right, either}
use Rattle.std.specs.List.{list_all}
use Rattle.rail_base.proofs.Contained.{in_at}
use Rattle.rail_base.proofs.Lists.{in_map_back}
use Rattle.rail_spec.specs.Track.{edge_ends, first_occurrences, last_end}
use Rattle.rail_laws.proofs.AsEdges.{first_in}
use Rattle.rail_routes.specs.Walks.{AreEdges}

-- the edge at a place of the path, and those from it on
pub edge_at : (d : Station) (path : List EdgeNo) (k : ℕ) (other : EdgeNo) → AreEdges d path → k < length path → IsEdge d (get_or path k other)
edge_at d path k other are h = are.numbered (get_or path k other) (in_at path k other h)

pub from_edge : (path : List EdgeNo) (k : ℕ) (other : EdgeNo) → k < length path → drop k path ≡ get_or path k other ∷ drop (k + 1) path
from_edge path k other h = drop-cons path k other h ∙ ap (λ n. get_or path k other ∷ drop n path) (sym (add-one k))

-- sections are numbered by their first edges, so there are no more of them than edges
numbered-few : (total known : ℕ) (es : List Edge) → are_numbered total known es ≡ true → total ≤ known + length es
numbered-few total known [] h = let e : known ≡ total = eqb-true known total h in omega arith
numbered-few total known (e ∷ es) h = go (either (nat_le e.section.0 known && are_numbered total known es) ((e.section.0 == known + 1) && are_numbered total (known + 1) es) h) (numbered-few total known es) (numbered-few total (known + 1) es)
  where
    go : ((nat_le e.section.0 known && are_numbered total known es) ≡ true) ⊎ (((e.section.0 == known + 1) && are_numbered total (known + 1) es) ≡ true) → (are_numbered total known es ≡ true → total ≤ known + length es) → (are_numbered total (known + 1) es ≡ true → total ≤ known + 1 + length es) → total ≤ known + suc (length es)
    go (inl k) old new = let l = old (and_right (nat_le e.section.0 known) (are_numbered total known es) k) in omega arith
    go (inr k) old new = let l = new (and_right (e.section.0 == known + 1) (are_numbered total (known + 1) es) k) in omega arith

pub few_sections : (d : Station) → is_admitted d ≡ true → length d.sections ≤ 4000
few_sections d h =
    let sound = and_right (are_few d && is_timed d && are_named d) (is_sound_track d) (and_left (are_few d && is_timed d && are_named d && is_sound_track d) (is_sound_traffic d) (and_left (are_few d && is_timed d && are_named d && is_sound_track d && is_sound_traffic d) (are_sound_overlaps d) h)) in
    let prefix = and_left (nodes_pass && edges_pass && are_numbered (length d.sections) 0 d.edges) signals_pass (and_left (nodes_pass && edges_pass && are_numbered (length d.sections) 0 d.edges && signals_pass) (all_pairs are_apart d.signals) sound) in
    let few = numbered-few (length d.sections) 0 d.edges (and_right (nodes_pass && edges_pass) (are_numbered (length d.sections) 0 d.edges) prefix) in
    let most = (admitted d h).many_edges in
    omega arith
  where
    nodes_pass : Bool
    nodes_pass = list_all (is_good_node d) (map (λ n. record { 0 = n }) (one_to (length d.nodes)))

    edges_pass : Bool
    edges_pass = list_all (is_good_edge d) d.edges

    signals_pass : Bool
    signals_pass = list_all (is_good_signal d) d.signals

pub short_edge : (d : Station) (e : EdgeNo) → IsAdmitted d → IsEdge d e → length_of d e ≤ 10000000
short_edge d e adm h = (adm.edge e h).length_mm.1

pub has_section : (d : Station) (e : EdgeNo) → IsAdmitted d → IsEdge d e → (section_of d e).0 ≤ length d.sections
has_section d e adm h = (adm.edge e h).section.1

-- the end of the last edge of a section, of which one before ends there
abbrev pub end_after : Station → SectionNo → ℕ → ℕ → List EdgeNo → ℕ
end_after d z last offset path = fold max last (map (λ e. e.1) (filter (λ e. (section_of d e.0).0 == z.0) (edge_ends d offset path)))

-- a section that was not seen yet
abbrev pub unseen : List Bool → SectionNo → Bool
unseen seen z = not (get_or seen z.0 false)

-- ---- the end of the last edge of each section

none-ends : (n k : ℕ) → get_or (replicate n zero) k zero ≡ zero
none-ends zero k = refl
none-ends (suc n) zero = refl
none-ends (suc n) (suc k) = none-ends n k

pub no_ends : (ends : List ℕ) (n k : ℕ) → ends ≡ replicate n zero → get_or ends k zero ≡ zero
no_ends ends n k h = ap (λ es. get_or es k zero) h ∙ none-ends n k

pub end_begins : (d : Station) (z : SectionNo) (last : ℕ) (path : List EdgeNo) → last ≡ 0 → end_after d z last 0 path ≡ last_end d z (edge_ends d 0 path)
end_begins d z last path h = ap (λ n. end_after d z n 0 path) h

end_after-more : (d : Station) (z : SectionNo) (last offset : ℕ) (e : EdgeNo) (path : List EdgeNo) → last ≤ offset
    → end_after d z last offset (e ∷ path) ≡ end_after d z (cond ((section_of d e).0 == z.0) (offset + length_of d e) last) (offset + length_of d e) path
end_after-more d z last offset e path h = go ((section_of d e).0 == z.0)
  where
    rest : List (EdgeNo × ℕ)
    rest = filter (λ g. (section_of d g.0).0 == z.0) (edge_ends d (offset + length_of d e) path)

    greater : max last (offset + length_of d e) ≡ offset + length_of d e
    greater = omega arith

    go : (b : Bool) → fold max last (map (λ (g : EdgeNo × ℕ). g.1) (cond b ((e, offset + length_of d e) ∷ filter (λ g. (section_of d g.0).0 == z.0) (edge_ends d (offset + length_of d e) path)) (filter (λ g. (section_of d g.0).0 == z.0) (edge_ends d (offset + length_of d e) path))))
        ≡ fold max (cond b (offset + length_of d e) last) (map (λ (g : EdgeNo × ℕ). g.1) (filter (λ g. (section_of d g.0).0 == z.0) (edge_ends d (offset + length_of d e) path)))
    go true = ap (λ n. fold max n (map (λ (g : EdgeNo × ℕ). g.1) rest)) greater
    go false = refl

get-set : (ends : List ℕ) (i j n : ℕ) → i < length ends → get_or (set ends i n) j 0 ≡ cond (i == j) n (get_or ends j 0)
get-set ends i j n h = go (i == j) refl
  where
    go : (b : Bool) → (i == j) ≡ b → get_or (set ends i n) j 0 ≡ cond b n (get_or ends j 0)
    go true t = let s : i ≡ j = eqb-true i j t in ap (λ k. get_or (set ends i n) k 0) (sym s) ∙ get_or-set_same ends i n 0 h
    go false t = get_or-set_other ends i j n 0 (λ (s : j ≡ i). true≢false (sym (eq-eqb i j (sym s)) ∙ t))

pub ends_below : (ends : List ℕ) (i offset more : ℕ) → i < length ends → ((k : ℕ) → get_or ends k 0 ≤ offset) → (k : ℕ) → get_or (set ends i (offset + more)) k 0 ≤ offset + more
ends_below ends i offset more h below k = subst (λ n. n ≤ offset + more) (sym (get-set ends i k (offset + more) h)) (go (i == k))
  where
    go : (b : Bool) → cond b (offset + more) (get_or ends k 0) ≤ offset + more
    go true = omega arith
    go false = let l = below k in omega arith

pub ends_more : (d : Station) (path : List EdgeNo) (i offset : ℕ) (ends : List ℕ) (e : EdgeNo) (z : SectionNo) (s more all : ℕ) → drop i path ≡ e ∷ drop (i + 1) path → s ≡ (section_of d e).0 → more ≡ length_of d e → s < length ends → get_or ends z.0 0 ≤ offset
    → end_after d z (get_or ends z.0 0) offset (drop i path) ≡ all → end_after d z (get_or (set ends s (offset + more)) z.0 0) (offset + more) (drop (i + 1) path) ≡ all
ends_more d path i offset ends e z s more all from at long h below same =
    ap (λ n. end_after d z n (offset + more) (drop (i + 1) path)) (get-set ends s z.0 (offset + more) h)
    ∙ ap₂ (λ y m. end_after d z (cond (y == z.0) (offset + m) (get_or ends z.0 0)) (offset + m) (drop (i + 1) path)) at long
    ∙ sym (end_after-more d z (get_or ends z.0 0) offset e (drop (i + 1) path) below)
    ∙ ap (end_after d z (get_or ends z.0 0) offset) (sym from) ∙ same

-- ---- the sections by their first occurrence

none-seen : (n k : ℕ) → get_or (replicate n false) k false ≡ false
none-seen zero k = refl
none-seen (suc n) zero = refl
none-seen (suc n) (suc k) = none-seen n k

keeps-all : (test : SectionNo → Bool) (zs : List SectionNo) → ((z : SectionNo) → test z ≡ true) → filter test zs ≡ zs
keeps-all test [] h = refl
keeps-all test (z ∷ zs) h = ap (λ b. cond b (z ∷ filter test zs) (filter test zs)) (h z) ∙ ap (λ ys. z ∷ ys) (keeps-all test zs h)

pub none_seen : (seen : List Bool) (n : ℕ) (zs : List SectionNo) → seen ≡ replicate n false → filter (unseen seen) zs ≡ zs
none_seen seen n zs h = keeps-all (unseen seen) zs (λ z. ap (λ b. not b) (ap (λ s. get_or s z.0 false) h ∙ none-seen n z.0))

pub filter-filter : (p q r : SectionNo → Bool) (zs : List SectionNo) → ((z : SectionNo) → r z ≡ (q z && p z)) → filter p (filter q zs) ≡ filter r zs
filter-filter p q r [] h = refl
filter-filter p q r (z ∷ zs) h = go (q z) (p z) (r z) refl refl (h z) (filter-filter p q r zs h)
  where
    go : (a b c : Bool) → q z ≡ a → p z ≡ b → c ≡ (a && b) → filter p (filter q zs) ≡ filter r zs → filter p (cond a (z ∷ filter q zs) (filter q zs)) ≡ cond c (z ∷ filter r zs) (filter r zs)
    go true true c qa pb e later = ap (λ t. cond t (z ∷ filter p (filter q zs)) (filter p (filter q zs))) pb ∙ ap (λ ys. z ∷ ys) later ∙ ap (λ t. cond t (z ∷ filter r zs) (filter r zs)) (sym e)
    go true false c qa pb e later = ap (λ t. cond t (z ∷ filter p (filter q zs)) (filter p (filter q zs))) pb ∙ later ∙ ap (λ t. cond t (z ∷ filter r zs) (filter r zs)) (sym e)
    go false b c qa pb e later = later ∙ ap (λ t. cond t (z ∷ filter r zs) (filter r zs)) (sym e)

pub seen-again : (z : SectionNo) (zs : List SectionNo) (seen : List Bool) → get_or seen z.0 false ≡ true → filter (unseen seen) (first_occurrences (z ∷ zs)) ≡ filter (unseen seen) (first_occurrences zs)
seen-again z zs seen h =
    ap (λ b. cond (not b) (z ∷ filter (unseen seen) (filter (λ y. not (y.0 == z.0)) (first_occurrences zs))) (filter (unseen seen) (filter (λ y. not (y.0 == z.0)) (first_occurrences zs)))) h
    ∙ filter-filter (unseen seen) (λ y. not (y.0 == z.0)) (unseen seen) (first_occurrences zs) (λ y. go y (y.0 == z.0) refl)
  where
    go : (y : SectionNo) (b : Bool) → (y.0 == z.0) ≡ b → unseen seen y ≡ (not b && unseen seen y)
    go y true t = let s : y.0 ≡ z.0 = eqb-true y.0 z.0 t in ap (λ n. not (get_or seen n false)) s ∙ ap not h
    go y false t = refl

pub seen-first : (z : SectionNo) (zs : List SectionNo) (seen : List Bool) → z.0 < length seen → get_or seen z.0 false ≡ false
    → filter (unseen seen) (first_occurrences (z ∷ zs)) ≡ z ∷ filter (unseen (set seen z.0 true)) (first_occurrences zs)
seen-first z zs seen less h =
    ap (λ b. cond (not b) (z ∷ filter (unseen seen) (filter (λ y. not (y.0 == z.0)) (first_occurrences zs))) (filter (unseen seen) (filter (λ y. not (y.0 == z.0)) (first_occurrences zs)))) h
    ∙ ap (λ ys. z ∷ ys) (filter-filter (unseen seen) (λ y. not (y.0 == z.0)) (unseen (set seen z.0 true)) (first_occurrences zs) (λ y. go y (y.0 == z.0) refl))
  where
    go : (y : SectionNo) (b : Bool) → (y.0 == z.0) ≡ b → unseen (set seen z.0 true) y ≡ (not b && unseen seen y)
    go y true t = let s : y.0 ≡ z.0 = eqb-true y.0 z.0 t in ap (λ n. not (get_or (set seen z.0 true) n false)) s ∙ ap not (get_or-set_same seen z.0 true false less)
    go y false t = ap not (get_or-set_other seen z.0 y.0 true false (λ (s : y.0 ≡ z.0). true≢false (sym (eq-eqb y.0 z.0 s) ∙ t)))

pub again_more : (z : SectionNo) (zs ys : List SectionNo) (seen : List Bool) (done all : List SectionNo) → zs ≡ z ∷ ys → get_or seen z.0 false ≡ true → done ++ filter (unseen seen) (first_occurrences zs) ≡ all → done ++ filter (unseen seen) (first_occurrences ys) ≡ all
again_more z zs ys seen done all from h same = ap (λ xs. done ++ xs) (sym (ap (λ xs. filter (unseen seen) (first_occurrences xs)) from ∙ seen-again z ys seen h)) ∙ same

pub first_more : (z : SectionNo) (zs ys : List SectionNo) (seen : List Bool) (done new all : List SectionNo) → zs ≡ z ∷ ys → z.0 < length seen → get_or seen z.0 false ≡ false → new ≡ done ++ z ∷ []
    → done ++ filter (unseen seen) (first_occurrences zs) ≡ all → new ++ filter (unseen (set seen z.0 true)) (first_occurrences ys) ≡ all
first_more z zs ys seen done new all from less h added same =
    ap (λ xs. xs ++ filter (unseen (set seen z.0 true)) (first_occurrences ys)) added
    ∙ append_assoc done (z ∷ []) (filter (unseen (set seen z.0 true)) (first_occurrences ys))
    ∙ ap (λ xs. done ++ xs) (sym (ap (λ xs. filter (unseen seen) (first_occurrences xs)) from ∙ seen-first z ys seen less h)) ∙ same

pub sections_from : (d : Station) (path : List EdgeNo) (i : ℕ) (other : EdgeNo) (z : SectionNo) → i < length path → z ≡ section_of d (get_or path i other) → map (section_of d) (drop i path) ≡ z ∷ map (section_of d) (drop (i + 1) path)
sections_from d path i other z h s = ap (map (section_of d)) (from_edge path i other h) ∙ ap (λ y. y ∷ map (section_of d) (drop (i + 1) path)) (sym s)

-- ---- the sections with their release offsets

pub section_there : (d : Station) (path : List EdgeNo) (z : SectionNo) → IsAdmitted d → AreEdges d path → In z (first_occurrences (map (section_of d) path)) → z.0 ≤ length d.sections
section_there d path z adm are m = go (in_map_back (section_of d) path z (first_in (map (section_of d) path) z m))
  where
    go : ((e : EdgeNo) × In e path × (section_of d e ≡ z)) → z.0 ≤ length d.sections
    go (e, k, s) = subst (λ (y : SectionNo). y.0 ≤ length d.sections) s (has_section d e adm (are.numbered e k))

pub map-same : {X Y : Type 0} (f g : X → Y) (xs : List X) → ((x : X) → In x xs → f x ≡ g x) → map f xs ≡ map g xs
map-same f g [] h = refl
map-same f g (x ∷ xs) h = ap₂ (λ y ys. y ∷ ys) (h x (inl refl)) (map-same f g xs (λ y m. h y (inr m)))
