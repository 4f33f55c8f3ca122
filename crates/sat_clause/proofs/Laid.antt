-- What follows of clauses that are laid out one after another.
use Rattle.std.proofs.Common.{◌≡◌, ℕ, zero, suc, ◌+◌, ◌-◌, ◌<◌, ◌≤◌, ◌⊎◌, inl, inr, Bool, true, false, List, [], ◌∷◌, ◌++◌, length, map, get_or, take, drop, set, refl, sym, ap, ap₂, ◌∙◌, arith, IsTrue, IsSome, Some, None, ◌↔◌, subst}
use Rattle.std.proofs.lemmas.Option.{slice_get-map, slice_get-get_or, slice_get_past, slice_get_cases}
use Rattle.std.proofs.lemmas.List.{drop-take, take-take, map-append, length-map}
use Rattle.std.proofs.Math.Seq.{take-append_seam, drop-append_seam, take-length}
use Rattle.std.proofs.Common.{length-append}
use Rattle.std.proofs.lemmas.List.{length-take, length-set}
use Rattle.sat_clause.specs.declared.lit.Lit.{Lit}
use Rattle.sat_clause.specs.Clauses.{Store, live_clause, if_live, without, unmarked_at}
use Rattle.sat_clause.specs.Layout.{Head, LaidOut, IsLaidOut, begin_at, clauses_of, heads_of, clause_at}

pub laid-le : (from : ℕ) (hs : List Head) (end : ℕ) → LaidOut from hs end → from ≤ end
laid-le from [] end l = l
laid-le from (h ∷ hs) end l = let r = laid-le h.end hs end l.2 in omega arith

-- a piece lies within the list
pub laid-at : (from : ℕ) (hs : List Head) (end i : ℕ) (d : Head) → LaidOut from hs end → i < length hs → ((get_or hs i d).start ≤ (get_or hs i d).end) × ((get_or hs i d).end ≤ end)
laid-at from [] end i d l k = absurd (omega arith)
laid-at from (h ∷ hs) end zero d l k = (l.1, laid-le h.end hs end l.2)
laid-at from (h ∷ hs) end (suc i) d l k = laid-at h.end hs end i d l.2 (omega arith)

pub laid-push : (from : ℕ) (hs : List Head) (end : ℕ) (h : Head) → LaidOut from hs end → end ≤ h.start → h.start ≤ h.end → LaidOut from (hs ++ h ∷ []) h.end
laid-push from [] end h l a b = (omega arith, b, omega arith)
laid-push from (g ∷ gs) end h l a b = (l.0, l.1, laid-push g.end gs end h l.2 a b)

-- the first pieces end where the next one begins
pub laid-take : (from : ℕ) (hs : List Head) (end n : ℕ) (d : Head) → LaidOut from hs end → n < length hs → LaidOut from (take n hs) (get_or hs n d).start
laid-take from [] end n d l k = absurd (omega arith)
laid-take from (h ∷ hs) end zero d l k = l.0
laid-take from (h ∷ hs) end (suc n) d l k = (l.0, l.1, laid-take h.end hs end n d l.2 (omega arith))

-- a mark plays no part
pub laid-set : (from : ℕ) (hs : List Head) (end i : ℕ) (d h : Head) → LaidOut from hs end → i < length hs → h.start ≡ (get_or hs i d).start → h.end ≡ (get_or hs i d).end → LaidOut from (set hs i h) end
laid-set from [] end i d h l k a b = absurd (omega arith)
laid-set from (g ∷ gs) end zero d h l k a b = (omega arith, omega arith, let P : ℕ → Type 0 = λ e. LaidOut e gs end in subst P (sym b) l.2)
laid-set from (g ∷ gs) end (suc i) d h l k a b = (l.0, l.1, laid-set g.end gs end i d h l.2 (omega arith) a b)

range-take : {A : Type 0} (s e n : ℕ) (xs : List A) → s ≤ e → e ≤ n → take (e - s) (drop s xs) ≡ take (e - s) (drop s (take n xs))
range-take s e n xs a b =
    let m : s + (e - s) ≡ e = omega arith in
    let m' : e + (n - e) ≡ n = omega arith in
    let one = drop-take s (e - s) xs in
    let two = drop-take s (e - s) (take n xs) in
    let three : take e (take n xs) ≡ take e xs = take-take e n xs b in
    sym one ∙ (simp m (ap (drop s) (sym three))) ∙ two

-- pieces are the same in two lists that begin alike
pub clauses-agree : (from : ℕ) (hs : List Head) (end : ℕ) (xs ys : List Lit) → LaidOut from hs end → take end xs ≡ take end ys → clauses_of xs hs ≡ clauses_of ys hs
clauses-agree from [] end xs ys l e = refl
clauses-agree from (h ∷ hs) end xs ys l e =
    let n = laid-le h.end hs end l.2 in
    let here : take (h.end - h.start) (drop h.start xs) ≡ take (h.end - h.start) (drop h.start ys) = range-take h.start h.end end xs l.1 n ∙ ap (λ z. take (h.end - h.start) (drop h.start z)) e ∙ sym (range-take h.start h.end end ys l.1 n) in
    let rest = clauses-agree h.end hs end xs ys l.2 e in
    cc

-- the live clause at a head's number
pub live_clause-at : (lits : List Lit) (hs : List Head) (id k : ℕ) (d : Head) → id ≡ suc k → k < length hs → live_clause (clauses_of lits hs) id ≡ if_live (Some (clause_at lits (get_or hs k d)))
live_clause-at lits hs id k d e b = rw (e, slice_get-map (clause_at lits) hs k, slice_get-get_or hs k d b) refl

-- a number that no head has is not live
pub live_clause-past : (lits : List Lit) (hs : List Head) (id k : ℕ) → id ≡ suc k → length hs ≤ k → live_clause (clauses_of lits hs) id ≡ None
live_clause-past lits hs id k e b = rw (e, slice_get-map (clause_at lits) hs k, slice_get_past hs k b) refl

-- a number that is live is one of the list
pub live_clause-within : (store : Store) (id : ℕ) → IsSome (live_clause store id) → (1 ≤ id) × (id ≤ length store)
live_clause-within store zero h = absurd (cc)
live_clause-within store (suc i) h = elim ((slice_get_cases store i).1) [ inl p ↦ (let q = p.1 in (omega arith, omega arith)) | inr q ↦ (let g = rw q.1 at h in absurd (cc)) ]

unmarked-map : (lits : List Lit) (hs : List Head) (i : ℕ) (d h : Head) → i < length hs → h.start ≡ (get_or hs i d).start → h.end ≡ (get_or hs i d).end → h.live ≡ false → clauses_of lits (set hs i h) ≡ unmarked_at (clauses_of lits hs) i
unmarked-map lits [] i d h k a b e = absurd (omega arith)
unmarked-map lits (g ∷ gs) zero d h k a b e = let f : clause_at lits h ≡ (take (g.end - g.start) (drop g.start lits), false) = cc in cc
unmarked-map lits (g ∷ gs) (suc i) d h k a b e = let r = unmarked-map lits gs i d h (omega arith) a b e in cc

pub clauses-without : (lits : List Lit) (hs : List Head) (id k : ℕ) (d h : Head) → id ≡ suc k → k < length hs → h.start ≡ (get_or hs k d).start → h.end ≡ (get_or hs k d).end → h.live ≡ false → clauses_of lits (set hs k h) ≡ without (clauses_of lits hs) id
clauses-without lits hs id k d h s q a b e = rw s (unmarked-map lits hs k d h q a b e)

-- a number that is live is one of a head
pub head-within : (lits : List Lit) (hs : List Head) (store : Store) (id : ℕ) → clauses_of lits hs ≡ store → IsSome (live_clause store id) → (1 ≤ id) × (id ≤ length hs)
head-within lits hs store id e h =
    let w = live_clause-within store id h in
    let n : length store ≡ length hs = ap length (sym e) ∙ length-map hs (clause_at lits) in
    (w.0, omega arith)

if_live-some : (x : List Lit) (b : Bool) → IsSome (if_live (Some (x, b))) → if_live (Some (x, b)) ≡ Some x
if_live-some x true h = refl
if_live-some x false h = absurd (cc)

-- the clause that is lent at a live number
pub lent-at : (lits : List Lit) (hs : List Head) (store : Store) (id k : ℕ) (d : Head) (piece : List Lit) → clauses_of lits hs ≡ store → IsSome (live_clause store id) → id ≡ suc k → k < length hs → d ≡ get_or hs k d → piece ≡ take (d.end - d.start) (drop d.start lits) → live_clause store id ≡ Some piece
lent-at lits hs store id k d piece e h s l g p =
    let at = live_clause-at lits hs id k d s l in
    let at' : live_clause store id ≡ if_live (Some (clause_at lits d)) = rw (← e) (at ∙ ap (λ z. if_live (Some (clause_at lits z))) (sym g)) in
    let h' : IsSome (if_live (Some (take (d.end - d.start) (drop d.start lits), d.live))) = rw at' at h in
    at' ∙ if_live-some (take (d.end - d.start) (drop d.start lits)) d.live h' ∙ ap Some (sym p)

if_live-iff : (x : List Lit) (b : Bool) → (IsTrue b ↔ IsSome (if_live (Some (x, b))))
if_live-iff x true = (λ _. refl, λ _. refl)
if_live-iff x false = (λ h. absurd (cc), λ h. absurd (cc))

pub live-at : (lits : List Lit) (hs : List Head) (store : Store) (id k : ℕ) (d : Head) → clauses_of lits hs ≡ store → id ≡ suc k → k < length hs → d ≡ get_or hs k d → (IsTrue d.live ↔ IsSome (live_clause store id))
live-at lits hs store id k d e s l g =
    let at' : live_clause store id ≡ if_live (Some (clause_at lits d)) = rw (← e) (live_clause-at lits hs id k d s l ∙ ap (λ z. if_live (Some (clause_at lits z))) (sym g)) in
    rw at' (if_live-iff (take (d.end - d.start) (drop d.start lits)) d.live)

pub clauses-push : (lits more : List Lit) (hs : List Head) (h : Head) → LaidOut 0 hs (length lits) → h.start ≡ length lits → h.end ≡ length lits + length more → h.live ≡ true → clauses_of (lits ++ more) (hs ++ h ∷ []) ≡ clauses_of lits hs ++ (more, true) ∷ []
clauses-push lits more hs h l a b e =
    let same = clauses-agree 0 hs (length lits) (lits ++ more) lits l (take-append_seam lits more ∙ sym (take-length lits)) in
    let n : h.end - h.start ≡ length more = omega arith in
    let cut : take (h.end - h.start) (drop h.start (lits ++ more)) ≡ more = rw (n, a, drop-append_seam lits more) (take-length more) in
    let last : clause_at (lits ++ more) h ≡ (more, true) = cc in
    map-append (clause_at (lits ++ more)) hs (h ∷ []) ∙ cc

map-taken : {X Y : Type 0} (f : X → Y) (n : ℕ) (xs : List X) → map f (take n xs) ≡ take n (map f xs)
map-taken f zero xs = refl
map-taken f (suc n) [] = refl
map-taken f (suc n) (x ∷ xs) = ap (λ ys. f x ∷ ys) (map-taken f n xs)

-- the first clauses are those of the first heads, over the literals up to where the next one begins
pub clauses-take : (lits : List Lit) (hs : List Head) (n start : ℕ) → LaidOut 0 (take n hs) start → clauses_of (take start lits) (take n hs) ≡ take n (clauses_of lits hs)
clauses-take lits hs n start l =
    let same = clauses-agree 0 (take n hs) start (take start lits) lits l (take-take start start lits (omega arith)) in
    same ∙ map-taken (clause_at lits) n hs

pub part-at : (hs : List Head) (end k : ℕ) (d : Head) → LaidOut 0 hs end → k < length hs → d ≡ get_or hs k d → (d.start ≤ d.end) × (d.end ≤ end)
part-at hs end k d l a e = let P : Head → Type 0 = λ h. (h.start ≤ h.end) × (h.end ≤ end) in subst P (sym e) (laid-at 0 hs end k d l a)

pub length_take_le : {A : Type 0} (n : ℕ) (l : List A) → n ≤ length l → length (take n l) ≡ n
length_take_le n l h = omega (arith, length-take n l)

pub push-fact : (lits more now : List Lit) (hs heads : List Head) (h : Head) (store : Store) → LaidOut 0 hs (length lits) → clauses_of lits hs ≡ store → now ≡ lits ++ more → heads ≡ hs ++ h ∷ [] → h.start ≡ length lits → h.end ≡ length now → h.live ≡ true → LaidOut 0 heads (length now) × (clauses_of now heads ≡ store ++ (more, true) ∷ []) × (length (clauses_of now heads) ≡ length heads)
push-fact lits more now hs heads h store l v n e a b t =
    let size : length now ≡ length lits + length more = ap length n ∙ length-append lits more in
    let laid = laid-push 0 hs (length lits) h l (omega arith) (omega arith) in
    let P : ℕ → Type 0 = λ m. LaidOut 0 heads m in
    (subst P b (rw e laid), rw (n, e, ← v) (clauses-push lits more hs h l a (b ∙ size) t), length-map heads (clause_at now))

-- ---- heads by where clauses end

pub heads-length : (from : ℕ) (es : List ℕ) (ms : List Bool) → length ms ≡ length es → length (heads_of from es ms) ≡ length es
heads-length from [] ms e = refl
heads-length from (x ∷ es) [] e = absurd (omega arith)
heads-length from (x ∷ es) (m ∷ ms) e = ap suc (heads-length x es ms (omega arith))

begin-next : (from e : ℕ) (es : List ℕ) (i : ℕ) → begin_at e es i ≡ begin_at from (e ∷ es) (suc i)
begin-next from e es zero = refl
begin-next from e es (suc i) = refl

-- the head at a place
pub head-at : (from : ℕ) (es : List ℕ) (ms : List Bool) (k : ℕ) (d : Head) → length ms ≡ length es → k < length es
    → get_or (heads_of from es ms) k d ≡ record { start = begin_at from es k; end = get_or es k 0; live = get_or ms k false }
head-at from [] ms k d e l = absurd (omega arith)
head-at from (x ∷ es) [] k d e l = absurd (omega arith)
head-at from (x ∷ es) (m ∷ ms) zero d e l = refl
head-at from (x ∷ es) (m ∷ ms) (suc i) d e l =
    head-at x es ms i d (omega arith) (omega arith)
    ∙ ap (λ s. record { start = s; end = get_or es i 0; live = get_or ms i false }) (begin-next from x es i)

-- a mark that is taken away
pub heads-set : (from : ℕ) (es : List ℕ) (ms : List Bool) (k : ℕ) → length ms ≡ length es → k < length es
    → heads_of from es (set ms k false) ≡ set (heads_of from es ms) k (record { start = begin_at from es k; end = get_or es k 0; live = false })
heads-set from [] ms k e l = absurd (omega arith)
heads-set from (x ∷ es) [] k e l = absurd (omega arith)
heads-set from (x ∷ es) (m ∷ ms) zero e l = refl
heads-set from (x ∷ es) (m ∷ ms) (suc i) e l =
    ap (λ hs. record { start = from; end = x; live = m } ∷ hs)
    (heads-set x es ms i (omega arith) (omega arith)
    ∙ ap (λ s. set (heads_of x es ms) i (record { start = s; end = get_or es i 0; live = false })) (begin-next from x es i))

-- one clause more
pub heads-push : (from : ℕ) (es : List ℕ) (ms : List Bool) (x : ℕ) (m : Bool) → length ms ≡ length es
    → heads_of from (es ++ x ∷ []) (ms ++ m ∷ []) ≡ heads_of from es ms ++ record { start = begin_at from es (length es); end = x; live = m } ∷ []
heads-push from [] [] x m e = refl
heads-push from [] (n ∷ ns) x m e = absurd (omega arith)
heads-push from (y ∷ es) [] x m e = absurd (omega arith)
heads-push from (y ∷ es) (n ∷ ns) x m e =
    ap (λ hs. record { start = from; end = y; live = n } ∷ hs)
    (heads-push y es ns x m (omega arith)
    ∙ ap (λ s. heads_of y es ns ++ record { start = s; end = x; live = m } ∷ []) (begin-next from y es (length es)))

-- the first ones
pub heads-take : (from : ℕ) (es : List ℕ) (ms : List Bool) (n : ℕ) → length ms ≡ length es → heads_of from (take n es) (take n ms) ≡ take n (heads_of from es ms)
heads-take from es ms zero e = refl
heads-take from [] ms (suc n) e = refl
heads-take from (x ∷ es) [] (suc n) e = absurd (omega arith)
heads-take from (x ∷ es) (m ∷ ms) (suc n) e = ap (λ hs. record { start = from; end = x; live = m } ∷ hs) (heads-take x es ms n (omega arith))

-- where the clause after the last one begins
end-at : (from : ℕ) (es : List ℕ) (x : ℕ) → begin_at from (es ++ x ∷ []) (length (es ++ x ∷ [])) ≡ x
end-at from [] x = refl
end-at from (y ∷ es) x = sym (begin-next from y (es ++ x ∷ []) (length (es ++ x ∷ []))) ∙ end-at y es x

begin-taken : (from : ℕ) (es : List ℕ) (n : ℕ) → n ≤ length es → begin_at from (take n es) n ≡ begin_at from es n
begin-taken from es zero l = refl
begin-taken from [] (suc n) l = absurd (omega arith)
begin-taken from (y ∷ es) (suc n) l = sym (begin-next from y (take n es) n) ∙ (begin-taken y es n (omega arith) ∙ begin-next from y es n)

get-other : {X : Type 0} (xs : List X) (i : ℕ) (a b : X) → i < length xs → get_or xs i a ≡ get_or xs i b
get-other [] i a b l = absurd (omega arith)
get-other (x ∷ xs) zero a b l = refl
get-other (x ∷ xs) (suc i) a b l = get-other xs i a b (omega arith)

-- a clause that is not the first begins where the one before ends
pub begin-after : (es : List ℕ) (k x : ℕ) → (k ≡ 0 → ⊥) → k ≤ length es → x ≡ get_or es (k - 1) x → x ≡ begin_at 0 es k
begin-after es zero x some l e = absurd (some refl)
begin-after es (suc i) x some l e = e ∙ (ap (λ j. get_or es j x) (less i) ∙ get-other es i x 0 (omega arith))
  where
    less : (i : ℕ) → suc i - 1 ≡ i
    less i = omega arith

-- a clause ends where its number says, and has its mark
pub end-is : (es : List ℕ) (k x : ℕ) → k < length es → x ≡ get_or es k x → x ≡ get_or es k 0
end-is es k x l e = e ∙ get-other es k x 0 l

pub mark-is : (ms : List Bool) (k : ℕ) (m : Bool) → k < length ms → m ≡ get_or ms k m → m ≡ get_or ms k false
mark-is ms k m l e = e ∙ get-other ms k m false l

-- ---- lists of clauses

module _ (lits : List Lit) (es : List ℕ) (ms : List Bool) (is : IsLaidOut lits es ms) where
  count-heads : length (heads_of 0 es ms) ≡ length es
  count-heads = heads-length 0 es ms is.marked

  pub count-store : length (clauses_of lits (heads_of 0 es ms)) ≡ length es
  count-store = length-map (heads_of 0 es ms) (clause_at lits) ∙ count-heads

  -- a number that is live is one of a clause
  pub number-within : (store : Store) (id : ℕ) → clauses_of lits (heads_of 0 es ms) ≡ store → IsSome (live_clause store id) → (1 ≤ id) × (id ≤ length es)
  number-within store id e h = let w = head-within lits (heads_of 0 es ms) store id e h in let n = count-heads in (w.0, omega arith)

  -- a clause's piece lies within the literals
  pub piece-within : (k : ℕ) → k < length es → (begin_at 0 es k ≤ get_or es k 0) × (get_or es k 0 ≤ length lits)
  piece-within k l =
      let d : Head = record { start = 0; end = 0; live = false } in
      let n = count-heads in
      let P : Head → Type 0 = λ h. (h.start ≤ h.end) × (h.end ≤ length lits) in
      subst P (head-at 0 es ms k d is.marked l) (laid-at 0 (heads_of 0 es ms) (length lits) k d is.laid (omega arith))

  -- the clause that is lent at a live number
  pub lent-clause : (store : Store) (id k : ℕ) (piece : List Lit) → clauses_of lits (heads_of 0 es ms) ≡ store → IsSome (live_clause store id) → id ≡ suc k → k < length es
      → piece ≡ take (get_or es k 0 - begin_at 0 es k) (drop (begin_at 0 es k) lits) → live_clause store id ≡ Some piece
  lent-clause store id k piece e h s l p =
      let d : Head = record { start = begin_at 0 es k; end = get_or es k 0; live = get_or ms k false } in
      let n = count-heads in
      lent-at lits (heads_of 0 es ms) store id k d piece e h s (omega arith) (sym (head-at 0 es ms k d is.marked l)) p

  -- whether a clause is live, by its mark
  pub live-mark : (store : Store) (id k : ℕ) (mark : Bool) → clauses_of lits (heads_of 0 es ms) ≡ store → id ≡ suc k → k < length es → mark ≡ get_or ms k false → (IsTrue mark ↔ IsSome (live_clause store id))
  live-mark store id k mark e s l m =
      let d : Head = record { start = begin_at 0 es k; end = get_or es k 0; live = get_or ms k false } in
      let n = count-heads in
      subst (λ b. IsTrue b ↔ IsSome (live_clause store id)) (sym m) (live-at lits (heads_of 0 es ms) store id k d e s (omega arith) (sym (head-at 0 es ms k d is.marked l)))

  -- no clause has the number 0 or one past the last
  pub not-there : (store : Store) (id : ℕ) → clauses_of lits (heads_of 0 es ms) ≡ store → (id ≡ 0) ⊎ (length es < id) → (IsTrue false ↔ IsSome (live_clause store id))
  not-there store id e out = (λ h. absurd (cc), λ h. let w = number-within store id e h in elim out [ inl z ↦ absurd (omega arith) | inr z ↦ absurd (omega arith) ])

  -- a clause that is forgotten
  module _ (k : ℕ) (l : k < length es) where
    abbrev forgotten : Head
    forgotten = record { start = begin_at 0 es k; end = get_or es k 0; live = false }

    same_place : (d : Head) → (get_or (heads_of 0 es ms) k d).start ≡ begin_at 0 es k
    same_place d = ap (λ (h : Head). h.start) (head-at 0 es ms k d is.marked l)

    same_end : (d : Head) → (get_or (heads_of 0 es ms) k d).end ≡ get_or es k 0
    same_end d = ap (λ (h : Head). h.end) (head-at 0 es ms k d is.marked l)

    pub forgets : IsLaidOut lits es (set ms k false)
    forgets =
        let n = count-heads in
        record {
          marked = length-set ms k false ∙ is.marked;
          laid = subst (λ hs. LaidOut 0 hs (length lits)) (sym (heads-set 0 es ms k is.marked l))
              (laid-set 0 (heads_of 0 es ms) (length lits) k forgotten forgotten is.laid (omega arith) (sym (same_place forgotten)) (sym (same_end forgotten)));
          whole = is.whole;
        }

    pub forgotten-clauses : (id : ℕ) → id ≡ suc k → clauses_of lits (heads_of 0 es (set ms k false)) ≡ without (clauses_of lits (heads_of 0 es ms)) id
    forgotten-clauses id s =
        let n = count-heads in
        ap (clauses_of lits) (heads-set 0 es ms k is.marked l)
        ∙ clauses-without lits (heads_of 0 es ms) id k forgotten forgotten s (omega arith) (sym (same_place forgotten)) (sym (same_end forgotten)) refl

  -- one clause more
  module _ (more now : List Lit) (ends : List ℕ) (marks : List Bool) (n : now ≡ lits ++ more) (e : ends ≡ es ++ length now ∷ []) (m : marks ≡ ms ++ true ∷ []) where
    abbrev added : Head
    added = record { start = begin_at 0 es (length es); end = length now; live = true }

    heads_are : heads_of 0 ends marks ≡ heads_of 0 es ms ++ added ∷ []
    heads_are = ap₂ (heads_of 0) e m ∙ heads-push 0 es ms (length now) true is.marked

    fact : (store : Store) → clauses_of lits (heads_of 0 es ms) ≡ store
        → LaidOut 0 (heads_of 0 ends marks) (length now) × (clauses_of now (heads_of 0 ends marks) ≡ store ++ (more, true) ∷ []) × (length (clauses_of now (heads_of 0 ends marks)) ≡ length (heads_of 0 ends marks))
    fact store v = push-fact lits more now (heads_of 0 es ms) (heads_of 0 ends marks) added store is.laid v n heads_are is.whole refl refl

    pub pushes : IsLaidOut now ends marks
    pushes = record {
      marked = ap length m ∙ (length-append ms (true ∷ []) ∙ (ap (λ k. k + 1) is.marked ∙ sym (ap length e ∙ length-append es (length now ∷ []))));
      laid = (fact (clauses_of lits (heads_of 0 es ms)) refl).0;
      whole = subst (λ xs. begin_at 0 xs (length xs) ≡ length now) (sym e) (end-at 0 es (length now));
    }

    pub pushed-clauses : (store : Store) → clauses_of lits (heads_of 0 es ms) ≡ store → clauses_of now (heads_of 0 ends marks) ≡ store ++ (more, true) ∷ []
    pushed-clauses store v = (fact store v).1

  -- without the last clause
  module _ (k : ℕ) (last : k + 1 ≡ length es) (now : List Lit) (ends : List ℕ) (marks : List Bool) (n : now ≡ take (begin_at 0 es k) lits) (e : ends ≡ take k es) (m : marks ≡ take k ms) where
    start_low : begin_at 0 es k ≤ length lits
    start_low = let p = piece-within k (omega arith) in let a = p.0 in let b = p.1 in omega arith

    size : length now ≡ begin_at 0 es k
    size = ap length n ∙ length_take_le (begin_at 0 es k) lits start_low

    firsts : heads_of 0 ends marks ≡ take k (heads_of 0 es ms)
    firsts = ap₂ (heads_of 0) e m ∙ heads-take 0 es ms k is.marked

    laid_firsts : LaidOut 0 (take k (heads_of 0 es ms)) (begin_at 0 es k)
    laid_firsts =
        let d : Head = record { start = 0; end = 0; live = false } in
        let c = count-heads in
        subst (λ (h : Head). LaidOut 0 (take k (heads_of 0 es ms)) h.start) (head-at 0 es ms k d is.marked (omega arith)) (laid-take 0 (heads_of 0 es ms) (length lits) k d is.laid (omega arith))

    pub pops : IsLaidOut now ends marks
    pops = record {
      marked = ap length m ∙ (length_take_le k ms (let a = is.marked in omega arith) ∙ sym (ap length e ∙ length_take_le k es (omega arith)));
      laid = subst (λ hs. LaidOut 0 hs (length now)) (sym firsts) (subst (λ z. LaidOut 0 (take k (heads_of 0 es ms)) z) (sym size) laid_firsts);
      whole = ap (λ z. begin_at 0 ends z) (ap length e ∙ length_take_le k es (omega arith)) ∙ (ap (λ xs. begin_at 0 xs k) e ∙ (begin-taken 0 es k (omega arith) ∙ sym size));
    }

    pub popped-clauses : (store : Store) → clauses_of lits (heads_of 0 es ms) ≡ store → clauses_of now (heads_of 0 ends marks) ≡ take (length store - 1) store
    popped-clauses store v =
        let c = ap length (sym v) ∙ count-store in
        let less : k ≡ length store - 1 = omega arith in
        ap₂ clauses_of n firsts ∙ (clauses-take lits (heads_of 0 es ms) k (begin_at 0 es k) laid_firsts ∙ (ap (take k) v ∙ ap (λ j. take j store) less))
