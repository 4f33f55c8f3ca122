-- Literals that stand beside the clauses in the lists.
use Rattle.std.proofs.Common.{◌≡◌, ◌≢◌, ◌+◌, ◌-◌, ℕ, zero, suc, ◌<◌, ◌≤◌, true, not, List, [], ◌∷◌, ◌++◌, Some, refl, sym, ap, ◌∙◌, subst, arith, inl, inr, length, get_or, map, set}
use Rattle.std.specs.Prelude.{nat_eq, None, slice_get}
use Rattle.sat_trail.specs.declared.pair.Pair.{Pair}
use Rattle.std.specs.List.{All, filter}
use Rattle.std.specs.Global.{Vec}
use Rattle.std.proofs.lemmas.Bool.{eqb-true}
use Rattle.std.proofs.lemmas.Bool.Decides.{eqb_tells}
use Rattle.std.proofs.lemmas.List.{map-set, length-map, get_or-map}
use Rattle.std.proofs.lemmas.List.Elements.{All-set}
use Rattle.sat_clause.specs.declared.lit.Lit.{Lit}
use Rattle.sat_clause.specs.Clauses.{Store, live_clause}
use Rattle.sat_trail.specs.declared.entry.Entry.{Entry}
use Rattle.sat_trail.specs.Attached.{Seen, is_among, attached_clause, with_attached, without_attached, IsSameBut}
use Rattle.sat_trail.specs.Blockers.{IsOf, IsBlocked, AllBlocked}
use Rattle.sat_trail.specs.View.{View}
use Rattle.sat_trail.specs.Watches.{row_at, entries, ids}
use Rattle.sat_trail.proofs.Members.{told, or-left, or-right, either}
use Rattle.sat_trail.proofs.Rows.{among-before}
use Rattle.sat_trail.proofs.Stores.{attached-same, attached-other, detached-same, detached-other}

-- the same, element by element
abbrev Every : {X : Type 0} → (X → Type 0) → List X → Type 0
Every P [] = Unit {0}
Every P (x ∷ xs) = P x × Every P xs

to-every : {X : Type 0} (P : X → Type 0) (xs : List X) → All P xs → Every P xs
to-every P [] a = tt
to-every P (x ∷ xs) a = (a 0 x (omega arith), to-every P xs (λ k d h. a (suc k) d (omega arith)))

from-every : {X : Type 0} (P : X → Type 0) (xs : List X) → Every P xs → All P xs
from-every P [] e k d h = absurd (omega arith)
from-every P (x ∷ xs) e zero d h = e.0
from-every P (x ∷ xs) e (suc k) d h = from-every P xs e.1 k d (omega arith)

pub all-one : (P : Entry → Type 0) (e : Entry) → P e → All P (e ∷ [])
all-one P e h = from-every P (e ∷ []) (h, tt)

-- one is taken out, and the last one takes its place
pub all-cut : (P : Entry → Type 0) (xs ys : List Entry) (i : ℕ) → length ys + 1 ≡ length xs → (i + 1 < length xs → (x : Entry) → get_or ys i x ≡ get_or xs (length xs - 1) x) → ((j : ℕ) → (x : Entry) → j ≢ i → j + 1 < length xs → get_or ys j x ≡ get_or xs j x) → All P xs → All P ys
all-cut P xs ys i n last others a k d h = elim (eqb_tells k i) [
  | inl p ↦ (let e = p.1 in subst P (sym (ap (λ z. get_or ys z d) e ∙ last (omega arith) d)) (a (length xs - 1) d (omega arith)))
  | inr p ↦ subst P (sym (others k d p.1 (omega arith))) (a k d (omega arith))
]

-- what holds of each entry
pub each : (P Q : Entry → Type 0) (lists : List (List Entry)) → ((e : Entry) → P e → Q e) → All (All P) lists → All (All Q) lists
each P Q lists f a k d h j e i = f (get_or (get_or lists k d) j e) (a k d h j e i)

-- a list is written back, of which each entry holds
pub each-set : (P : Entry → Type 0) (lists : List (Vec Entry)) (k : ℕ) (v : Vec Entry) → All P v.items → All (All P) (entries lists) → All (All P) (entries (set lists k v))
each-set P lists k v a h =
    let Q : List (List Entry) → Type 0 = All (All P) in
    subst Q (sym (map-set (λ (z : Vec Entry). z.items) lists k v)) (All-set (All P) (entries lists) k v.items a h)

pub each-get : (P : Entry → Type 0) (lists : List (Vec Entry)) (k : ℕ) (d : Vec Entry) → k < length lists → d ≡ get_or lists k d → All (All P) (entries lists) → All P d.items
each-get P lists k d h g a =
    let Q : List Entry → Type 0 = All P in
    let n = length-map lists (λ (z : Vec Entry). z.items) in
    subst Q (get_or-map (λ (z : Vec Entry). z.items) lists k d d.items h ∙ sym (ap (λ (z : Vec Entry). z.items) g)) (a k d.items (omega arith))

of-but : (seen now : Seen) (loose : List ℕ) (id k : ℕ) (l : Lit) (c : List Lit) → IsSameBut seen now id c → (k ≡ id → ⊥) → IsOf seen loose k l → IsOf now loose k l
of-but seen now loose id k l c s n o d e f = o d (sym (s.others k n) ∙ e) f

pub blocked-but : (seen now : Seen) (loose : List ℕ) (count id : ℕ) (c : List Lit) (e : Entry) → IsSameBut seen now id c → (e.id ≡ id → ⊥) → IsBlocked seen loose count e → IsBlocked now loose count e
blocked-but seen now loose count id c e s n b = record { below = b.below; member = of-but seen now loose id e.id e.blocker c s n b.member }

freed-one : (seen now : Seen) (loose : List ℕ) (count id : ℕ) (c : List Lit) (es : List Entry) → IsSameBut seen now id c → Every (IsBlocked seen loose count) es → Every (IsBlocked now loose count) (filter (λ (e : Entry). not (nat_eq e.id id)) es)
freed-one seen now loose count id c [] s a = tt
freed-one seen now loose count id c (e ∷ es) s a = elim (eqb_tells e.id id) [
  | inl p ↦ rw p.0 (freed-one seen now loose count id c es s a.1)
  | inr p ↦ rw p.0 (blocked-but seen now loose count id c e s p.1 a.0, freed-one seen now loose count id c es s a.1)
]

freed-all : (seen now : Seen) (loose : List ℕ) (count id : ℕ) (c : List Lit) (ess : List (List Entry)) → IsSameBut seen now id c → Every (All (IsBlocked seen loose count)) ess → Every (All (IsBlocked now loose count)) (map (filter (λ (e : Entry). not (nat_eq e.id id))) ess)
freed-all seen now loose count id c [] s a = tt
freed-all seen now loose count id c (es ∷ ess) s a = (
  from-every (IsBlocked now loose count) (filter (λ (e : Entry). not (nat_eq e.id id)) es) (freed-one seen now loose count id c es s (to-every (IsBlocked seen loose count) es a.0)),
  freed-all seen now loose count id c ess s a.1,
)

-- no entry that is left is of the number that is free
pub freed : (seen now : Seen) (loose : List ℕ) (count id : ℕ) (c : List Lit) (ess : List (List Entry)) → IsSameBut seen now id c → All (All (IsBlocked seen loose count)) ess → All (All (IsBlocked now loose count)) (map (filter (λ (e : Entry). not (nat_eq e.id id))) ess)
freed seen now loose count id c ess s a = from-every (All (IsBlocked now loose count)) (map (filter (λ (e : Entry). not (nat_eq e.id id))) ess) (freed-all seen now loose count id c ess s (to-every (All (IsBlocked seen loose count)) ess a))

left-one : (es : List Entry) (id x : ℕ) → (x ≡ id → ⊥) → is_among (ids es) x ≡ true → is_among (ids (filter (λ (e : Entry). not (nat_eq e.id id)) es)) x ≡ true
left-one [] id x n m = m
left-one (e ∷ es) id x n m = elim (either (nat_eq x e.id) (is_among (ids es) x) m) [
  | inl q ↦ (let at = eqb-true x e.id q in elim (eqb_tells e.id id) [
    | inl p ↦ absurd (n (at ∙ p.1))
    | inr p ↦ rw p.0 (or-left (nat_eq x e.id) (is_among (ids (filter (λ (e : Entry). not (nat_eq e.id id)) es)) x) q)
  ])
  | inr q ↦ (let r = left-one es id x n q in elim (eqb_tells e.id id) [
    | inl p ↦ rw p.0 r
    | inr p ↦ rw p.0 (or-right (nat_eq x e.id) (is_among (ids (filter (λ (e : Entry). not (nat_eq e.id id)) es)) x) r)
  ])
]

-- other numbers stay
pub left-there : (ess : List (List Entry)) (id k x : ℕ) → (x ≡ id → ⊥) → is_among (row_at (map ids ess) k) x ≡ true → is_among (row_at (map ids (map (filter (λ (e : Entry). not (nat_eq e.id id))) ess)) k) x ≡ true
left-there [] id k x n m = m
left-there (es ∷ ess) id zero x n m = left-one es id x n m
left-there (es ∷ ess) id (suc k) x n m = left-there ess id k x n m

-- with more clauses that are loose
pub blocked-loose : (seen : Seen) (loose now : List ℕ) (count id : ℕ) (lists : List (Vec Entry)) → now ≡ loose ++ id ∷ [] → AllBlocked seen loose count lists → AllBlocked seen now count lists
blocked-loose seen loose now count id lists e a = each (IsBlocked seen loose count) (IsBlocked seen now count) (entries lists) (λ x b. record {
  below = b.below;
  member = λ c f n. elim (told (is_among loose x.id)) [
    | inl q ↦ (let z = ap (λ y. is_among y x.id) e ∙ among-before loose (id ∷ []) x.id q in absurd (cc))
    | inr q ↦ b.member c f q
  ];
}) a

-- with more pairs
pub blocked-more : (seen : Seen) (loose : List ℕ) (count more : ℕ) (lists : List (Vec Entry)) → count ≤ more → AllBlocked seen loose count lists → AllBlocked seen loose more lists
blocked-more seen loose count more lists h a = each (IsBlocked seen loose count) (IsBlocked seen loose more) (entries lists) (λ x b. record { below = (let z = b.below in omega arith); member = b.member }) a

-- what is attached under other numbers alone
pub same-but : (seen : Seen) (id : ℕ) (c : List Lit) → attached_clause seen id ≡ None → IsSameBut seen seen id c
same-but seen id c n = record { others = λ k m. refl; own = λ d e. absurd (let z = sym n ∙ e in cc) }

pub with-but : (seen : Seen) (id : ℕ) (store : Store) (c : List Lit) → live_clause store id ≡ Some c → IsSameBut seen (with_attached seen id store) id c
with-but seen id store c live = record {
  others = λ k m. attached-other seen id k store (λ q. m (sym q));
  own = λ d e. (let z : Some d ≡ Some c = sym e ∙ attached-same seen id store ∙ live in cc);
}

-- a clause that is attached no more
pub blocked-without : (seen : Seen) (loose : List ℕ) (count id : ℕ) (lists : List (Vec Entry)) → AllBlocked seen loose count lists → AllBlocked (without_attached seen id) loose count lists
blocked-without seen loose count id lists a = each (IsBlocked seen loose count) (IsBlocked (without_attached seen id) loose count) (entries lists) (λ x b. record {
  below = b.below;
  member = λ c f n. elim (eqb_tells x.id id) [
    | inl p ↦ absurd (let z : None ≡ Some c = sym (detached-same seen id) ∙ ap (λ y. attached_clause (without_attached seen id) y) (sym p.1) ∙ f in cc)
    | inr p ↦ b.member c (sym (detached-other seen id x.id (λ q. p.1 (sym q))) ∙ f) n
  ];
}) a

pub blocked-same : (v new : View) (loose : List ℕ) (count : ℕ) (lists : List (Vec Entry)) → new.attached ≡ v.attached → AllBlocked v.attached loose count lists → AllBlocked new.attached loose count lists
blocked-same v new loose count lists e a = let P : Seen → Type 0 = λ z. AllBlocked z loose count lists in subst P (sym e) a

pub blocked-detached : (v new : View) (loose : List ℕ) (count id : ℕ) (lists : List (Vec Entry)) → new ≡ record v { attached = without_attached v.attached id } → AllBlocked v.attached loose count lists → AllBlocked new.attached loose count lists
blocked-detached v new loose count id lists e a = let P : Seen → Type 0 = λ z. AllBlocked z loose count lists in subst P (sym (ap (λ (z : View). z.attached) e)) (blocked-without v.attached loose count id lists a)

-- a clause that is attached now, and one that is not for want of memory
pub blocked-attached : (v new : View) (loose : List ℕ) (count id : ℕ) (store : Store) (c : List Lit) (lists : List (Vec Entry)) → live_clause store id ≡ Some c → new ≡ record v { attached = with_attached v.attached id store } → ((seen : Seen) → IsSameBut v.attached seen id c → AllBlocked seen loose count lists) → AllBlocked new.attached loose count lists
blocked-attached v new loose count id store c lists live e f = let P : Seen → Type 0 = λ z. AllBlocked z loose count lists in subst P (sym (ap (λ (z : View). z.attached) e)) (f (with_attached v.attached id store) (with-but v.attached id store c live))

pub blocked-kept : (v new : View) (loose : List ℕ) (count id : ℕ) (c : List Lit) (lists : List (Vec Entry)) → attached_clause v.attached id ≡ None → new ≡ v → ((seen : Seen) → IsSameBut v.attached seen id c → AllBlocked seen loose count lists) → AllBlocked new.attached loose count lists
blocked-kept v new loose count id c lists none e f = let P : Seen → Type 0 = λ z. AllBlocked z loose count lists in subst P (sym (ap (λ (z : View). z.attached) e)) (f v.attached (same-but v.attached id c none))

-- no entry is in lists that are empty
pub blocked-none : (seen : Seen) (loose : List ℕ) (count : ℕ) (ess : List (List Entry)) → All (λ es. es ≡ []) ess → All (All (IsBlocked seen loose count)) ess
blocked-none seen loose count ess a k d h j e i = (let n = ap length (a k d h) in absurd (omega arith))

-- a number is freed for a clause
pub free-blocked : (old seen : Seen) (loose : List ℕ) (k count id : ℕ) (c : List Lit) (before after : List (Vec Entry)) → k ≡ count → ((seen now : Seen) (loose : List ℕ) (c : List Lit) → IsSameBut seen now id c → AllBlocked seen loose k before → AllBlocked now loose k after) → AllBlocked old loose count before → IsSameBut old seen id c → AllBlocked seen loose count after
free-blocked old seen loose k count id c before after e f a s =
    let P : ℕ → Type 0 = λ z. AllBlocked old loose z before in
    let Q : ℕ → Type 0 = λ z. AllBlocked seen loose z after in
    subst Q e (f old seen loose c s (subst P (sym e) a))

-- a list that keeps each pair at its place is not shorter
keeps-length : (pairs after : List Pair) → ((k : ℕ) (p : Pair) → slice_get pairs k ≡ Some p → slice_get after k ≡ Some p) → length pairs ≤ length after
keeps-length [] after f = omega arith
keeps-length (p ∷ ps) [] f = (let z = f 0 p refl in absurd (cc))
keeps-length (p ∷ ps) (q ∷ qs) f = (let r = keeps-length ps qs (λ k x e. f (suc k) x e) in omega arith)

pub reach-blocked : (seen : Seen) (loose : List ℕ) (pairs after : List Pair) (lists : List (Vec Entry)) → ((k : ℕ) (p : Pair) → slice_get pairs k ≡ Some p → slice_get after k ≡ Some p) → AllBlocked seen loose (length pairs) lists → AllBlocked seen loose (length after) lists
reach-blocked seen loose pairs after lists f a = blocked-more seen loose (length pairs) (length after) lists (keeps-length pairs after f) a
