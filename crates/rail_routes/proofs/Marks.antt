-- A path that goes on over an edge, or back over one, keeps its marks right.
use Rattle.std.proofs.Common.{◌≡◌, ℕ, ◌-◌, ◌<◌, ◌⊎◌, inl, inr, Bool, true, false, ◌||◌, ◌==◌, List, [], ◌∷◌, ◌++◌, length, get_or, refl, sym, ap, subst, ◌∙◌, arith, eq-eqb, eqb-true, true≢false, set, length-set, get_or-set_same, get_or-set_other}
use Rattle.std.proofs.lemmas.List.Folds.{list_any-append}
use Rattle.rail_base.specs.declared.station.EdgeNo.{EdgeNo}
use Rattle.rail_base.specs.Members.{In, Differ}
use Rattle.rail_base.proofs.Members.{list_any_gives, list_any_from}
use Rattle.rail_base.proofs.Lists.{in_append, in_append_left, in_append_right, pairs_append, pairs_across, pairs_left}
use Rattle.rail_spec.specs.Track.{has_edge}
use Rattle.rail_routes.specs.Paths.{HasMark, AreMarked}
use Rattle.rail_routes.specs.declared.path.Path.{Path}

same-edge : (e g : EdgeNo) → e.0 ≡ g.0 → e ≡ g
same-edge e g h = ap (λ n. let x : EdgeNo = record { 0 = n } in x) h

pub has-in : (es : List EdgeNo) (e : EdgeNo) → has_edge es e ≡ true → In e es
has-in es e h = let l = list_any_gives (λ (f : EdgeNo). f.0 == e.0) es h in subst (λ g. In g es) (same-edge l.0 e (eqb-true l.0.0 e.0 l.2)) l.1

pub in-has : (es : List EdgeNo) (e : EdgeNo) → In e es → has_edge es e ≡ true
in-has es e m = list_any_from (λ (f : EdgeNo). f.0 == e.0) es e m (eq-eqb e.0 e.0 refl)

pub differ-push : (es : List EdgeNo) (e : EdgeNo) → Differ es → has_edge es e ≡ false → Differ (es ++ e ∷ [])
differ-push es e dif new = pairs_append (λ (x y : EdgeNo). x ≡ y → ⊥) es (e ∷ []) dif (λ y m. absurd m, tt) across
  where
    across : (x y : EdgeNo) → In x es → In y (e ∷ []) → x ≡ y → ⊥
    across x y m (inr n) s = n
    across x y m (inl n) s = true≢false (sym (in-has es e (subst (λ g. In g es) (s ∙ sym n) m)) ∙ new)

pub differ-new : (es : List EdgeNo) (e : EdgeNo) → Differ (es ++ e ∷ []) → has_edge es e ≡ false
differ-new es e dif = go (has_edge es e) refl
  where
    go : (b : Bool) → has_edge es e ≡ b → b ≡ false
    go false h = refl
    go true h = absurd (pairs_across (λ (x y : EdgeNo). x ≡ y → ⊥) es (e ∷ []) dif e e (has-in es e h) (inl refl) refl)

or-false : (b : Bool) → (b || (false || false)) ≡ b
or-false true = refl
or-false false = refl

or-true : (b : Bool) → (b || (true || false)) ≡ true
or-true true = refl
or-true false = refl

has-push : (es : List EdgeNo) (e g : EdgeNo) → has_edge (es ++ e ∷ []) g ≡ (has_edge es g || ((e.0 == g.0) || false))
has-push es e g = list_any-append (λ (f : EdgeNo). f.0 == g.0) es (e ∷ [])

pub has-push_same : (es : List EdgeNo) (e g : EdgeNo) → (e.0 == g.0) ≡ true → has_edge (es ++ e ∷ []) g ≡ true
has-push_same es e g t = has-push es e g ∙ ap (λ b. has_edge es g || (b || false)) t ∙ or-true (has_edge es g)

pub has-push_other : (es : List EdgeNo) (e g : EdgeNo) → (e.0 == g.0) ≡ false → has_edge (es ++ e ∷ []) g ≡ has_edge es g
has-push_other es e g t = has-push es e g ∙ ap (λ b. has_edge es g || (b || false)) t ∙ or-false (has_edge es g)

other-number : (e g : EdgeNo) → (e.0 == g.0) ≡ false → e.0 ≡ g.0 → ⊥
other-number e g t s = true≢false (sym (eq-eqb e.0 g.0 s) ∙ t)

has-mark-set : (ms : List Bool) (i : ℕ) (b : Bool) (g : EdgeNo) → HasMark ms g → HasMark (set ms i b) g
has-mark-set ms i b g h = (h.0, let u = h.1 in let l = length-set ms i b in omega arith)

mark-of-set : (ms : List Bool) (i : ℕ) (b : Bool) (g : EdgeNo) → HasMark (set ms i b) g → HasMark ms g
mark-of-set ms i b g h = (h.0, let u = h.1 in let l = length-set ms i b in omega arith)

set-same : (ms : List Bool) (e g : EdgeNo) (b : Bool) → HasMark ms g → (e.0 == g.0) ≡ true → get_or (set ms (e.0 - 1) b) (g.0 - 1) false ≡ b
set-same ms e g b h t =
    let s : e.0 ≡ g.0 = eqb-true e.0 g.0 t in
    let low = h.0 in let high = h.1 in
    let less : e.0 - 1 < length ms = omega arith in
    ap (λ i. get_or (set ms (e.0 - 1) b) (i - 1) false) (sym s) ∙ get_or-set_same ms (e.0 - 1) b false less

set-other : (ms : List Bool) (e g : EdgeNo) (b : Bool) → HasMark ms e → HasMark ms g → (e.0 == g.0) ≡ false → get_or (set ms (e.0 - 1) b) (g.0 - 1) false ≡ get_or ms (g.0 - 1) false
set-other ms e g b he hg t =
    let ne = other-number e g t in
    let a = he.0 in let c = hg.0 in
    get_or-set_other ms (e.0 - 1) (g.0 - 1) b false (λ (s : g.0 - 1 ≡ e.0 - 1). ne (omega arith))

pub mark-push : (es : List EdgeNo) (ms : List Bool) (e : EdgeNo) → AreMarked es ms → HasMark ms e → has_edge es e ≡ false → AreMarked (es ++ e ∷ []) (set ms (e.0 - 1) true)
mark-push es ms e are he new = record {
  numbered = λ g m. has-mark-set ms (e.0 - 1) true g (numbered g (in_append g es (e ∷ []) m));
  once = differ-push es e are.once new;
  marked = λ g h. marked g (mark-of-set ms (e.0 - 1) true g h) (e.0 == g.0) refl;
}
  where
    numbered : (g : EdgeNo) → In g es ⊎ In g (e ∷ []) → HasMark ms g
    numbered g (inl m) = are.numbered g m
    numbered g (inr (inl s)) = subst (HasMark ms) s he
    numbered g (inr (inr m)) = absurd m

    marked : (g : EdgeNo) → HasMark ms g → (b : Bool) → (e.0 == g.0) ≡ b → get_or (set ms (e.0 - 1) true) (g.0 - 1) false ≡ has_edge (es ++ e ∷ []) g
    marked g hg true t = set-same ms e g true hg t ∙ sym (has-push_same es e g t)
    marked g hg false t = set-other ms e g true he hg t ∙ are.marked g hg ∙ sym (has-push_other es e g t)

pub mark-pop : (es : List EdgeNo) (ms : List Bool) (e : EdgeNo) → AreMarked (es ++ e ∷ []) ms → AreMarked es (set ms (e.0 - 1) false)
mark-pop es ms e are = record {
  numbered = λ g m. has-mark-set ms (e.0 - 1) false g (are.numbered g (in_append_left g es (e ∷ []) m));
  once = pairs_left (λ (x y : EdgeNo). x ≡ y → ⊥) es (e ∷ []) are.once;
  marked = λ g h. marked g (mark-of-set ms (e.0 - 1) false g h) (e.0 == g.0) refl;
}
  where
    here : HasMark ms e
    here = are.numbered e (in_append_right e es (e ∷ []) (inl refl))

    marked : (g : EdgeNo) → HasMark ms g → (b : Bool) → (e.0 == g.0) ≡ b → get_or (set ms (e.0 - 1) false) (g.0 - 1) false ≡ has_edge es g
    marked g hg true t = set-same ms e g false hg t ∙ sym (ap (has_edge es) (sym (same-edge e g (eqb-true e.0 g.0 t))) ∙ differ-new es e are.once)
    marked g hg false t = set-other ms e g false here hg t ∙ are.marked g hg ∙ has-push_other es e g t

pub last-has_mark : (es old : List EdgeNo) (ms : List Bool) (e : EdgeNo) → AreMarked old ms → old ≡ es ++ e ∷ [] → HasMark ms e
last-has_mark es old ms e are h = are.numbered e (subst (In e) (sym h) (in_append_right e es (e ∷ []) (inl refl)))

-- a path is marked
pub path_marked : (p : Path) → AreMarked p.edges.items p.marks.items
path_marked p = record { numbered = p.numbered; once = p.once; marked = p.marked }
