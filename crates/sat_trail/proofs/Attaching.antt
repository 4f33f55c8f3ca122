-- What the watches of a trail say where it goes back, where a clause comes or goes, and where nothing is left to be looked at.
use Rattle.std.proofs.Common.{◌≡◌, ℕ, ◌+◌, ◌*◌, ◌<◌, ◌≤◌, true, false, List, [], ◌∷◌, ◌++◌, Option, Some, None, refl, sym, ap, ◌∙◌, subst, arith, inl, inr, length, take, zero, suc}
use Rattle.std.specs.Prelude.{slice_get, Result, Ok, Err, OnOk, OnErr}
use Rattle.std.specs.List.{filter}
use Rattle.std.proofs.lemmas.Bool.Decides.{eqb_tells, leb_tells}
use Rattle.sat_clause.specs.declared.lit.Lit.{Lit}
use Rattle.sat_clause.specs.Clauses.{Store, live_clause, opposite}
use Rattle.sat_clause.specs.Hints.{same_lit, is_assigned, unit_of}
use Rattle.sat_clause.specs.Closed.{IsInactive, IsClosed, IsConsistent}
use Rattle.sat_trail.specs.declared.step.Step.{Step}
use Rattle.sat_trail.specs.declared.pace.Pace.{Pace}
use Rattle.sat_trail.specs.declared.pace.Parts.{Parts}
use Rattle.sat_trail.specs.declared.pair.Pair.{Pair}
use Rattle.sat_trail.specs.declared.status.Propagation.{Propagation}
use Rattle.sat_trail.specs.declared.status.Propagation.TheVariants as propagation
use Rattle.sat_trail.specs.Trails.{lits, depth, IsTrail}
use Rattle.sat_trail.specs.Attached.{is_among, attached_clause, with_attached, without_attached, AreLive}
use Rattle.sat_trail.specs.Scans.{InactiveAmong, IsPropagation, SaysAmong}
use Rattle.sat_trail.specs.View.{View, empty_view}
use Rattle.sat_trail.specs.Watches.{code_of, row_at, edit, stands_by, Satisfied, IsGuarded, IsWatched, IsWatching, IsOpenPair, IsLooseOrWatched}
use Rattle.sat_trail.proofs.Members.{told, same-self}
use Rattle.sat_trail.proofs.Closes.{none-open, unit-others, unit-new}
use Rattle.sat_trail.proofs.Levels.{up_to}
use Rattle.sat_trail.proofs.Places.{trail-consistent}
use Rattle.sat_trail.proofs.Rows.{edit-length, among-put, among-before}
use Rattle.sat_trail.proofs.Standby.{stands-assigned, stands-higher, stands-shorter, stands-low, stands-kept, low-filter, AllLow}
use Rattle.sat_trail.proofs.Stores.{attached-same, attached-other, detached-same, detached-other}
use Rattle.sat_trail.proofs.Watched.{entry_at-more, entry_at-there, not-done, watching-more}

pub on-either : {A E : Type 0} (r : Result A E) (P Q R : Type 0) → OnOk r P → OnErr r Q → (P → R) → (Q → R) → R
on-either (Ok x) P Q R p q f g = f p
on-either (Err e) P Q R p q f g = g q

guarded-back : (c : List Lit) (level h k n : ℕ) (xs ys : List Step) (w : Lit) → k ≤ h → ys ≡ take n xs → ys ≡ filter (up_to level) xs → IsGuarded c (take h xs) xs w → IsGuarded c (take k ys) ys w
guarded-back c level h k n xs ys w b e f g a s =
    let at : (z : ℕ) → stands_by z (take k ys) (opposite w) ≡ true → stands_by z (take h xs) (opposite w) ≡ true = λ z t. stands-shorter z k n h xs (opposite w) b (subst (λ y. stands_by z (take k y) (opposite w) ≡ true) e t) in
    let back : (z : ℕ) → z ≤ level → Satisfied c z xs → Satisfied c z ys = λ z le q. record { by = q.by; member = q.member; stands = subst (λ y. stands_by z y q.by ≡ true) (sym f) (stands-kept z level xs q.by le q.stands) } in
    elim (leb_tells a level) [
      | inl p ↦ back a p.1 (g a (at a s))
      | inr p ↦ (
          let low : AllLow level ys = (let P : List Step → Type 0 = AllLow level in subst P (sym f) (low-filter level xs)) in
          let m = p.1 in
          let q = back level (omega arith) (g level (at level (stands-low a level k ys (opposite w) low s))) in
          record { by = q.by; member = q.member; stands = stands-higher level a ys q.by (omega arith) q.stands })
    ]

-- the watches stay where levels are taken off
pub watching-back : (v new : View) (loose : List ℕ) (rows : List (List ℕ)) (pairs : List Pair) (level h k : ℕ) → new ≡ record v { steps = filter (up_to level) v.steps } → new.steps ≡ take (length new.steps) v.steps → k ≤ h → k ≤ length new.steps → IsWatching v loose rows pairs h → IsWatching new loose rows pairs k
watching-back v new loose rows pairs level h k e f b n x =
    let steps : new.steps ≡ filter (up_to level) v.steps = ap (λ (z : View). z.steps) e in
    record {
      size = x.size ∙ sym (ap (λ (z : View). z.vars * 2 + 2) e);
      within = n;
      all = λ id c g. elim (x.all id c (ap (λ (z : View). attached_clause z.attached id) (sym e) ∙ g)) [
        | inl q ↦ inl q
        | inr q ↦ inr (record {
          pair = q.pair;
          kept = q.kept;
          by = record {
            first_in = q.by.first_in;
            second_in = q.by.second_in;
            apart = q.by.apart;
            first_watched = q.by.first_watched;
            second_watched = q.by.second_watched;
            first_guarded = guarded-back c level h k (length new.steps) v.steps new.steps q.pair.first b f steps q.by.first_guarded;
            second_guarded = guarded-back c level h k (length new.steps) v.steps new.steps q.pair.second b f steps q.by.second_guarded;
          };
        })
      ];
    }

pub quiet-assigned : (assigned c : List Lit) (b : Lit) → IsConsistent assigned → is_assigned c b ≡ true → is_assigned assigned b ≡ true → IsInactive assigned c
quiet-assigned assigned c b con m h = record {
  not_false = λ e. (let y = none-open assigned c b e m in let z = con b h in cc);
  not_unit = by (unit_of assigned c) refl;
}
  where
    by : (o : Option Lit) → unit_of assigned c ≡ o → unit_of assigned c ≡ None
    by None e = e
    by (Some t) e = elim (unit-others assigned c t b e m) [
      | inl s ↦ (let y = unit-new assigned c t e in let z : is_assigned assigned t ≡ true = subst (λ x. is_assigned assigned x ≡ true) s h in absurd (cc))
      | inr s ↦ (let z = con b h in absurd (cc))
    ]

quiet-two : (assigned c : List Lit) (a b : Lit) → is_assigned c a ≡ true → is_assigned c b ≡ true → same_lit a b ≡ false → is_assigned assigned (opposite a) ≡ false → is_assigned assigned (opposite b) ≡ false → IsInactive assigned c
quiet-two assigned c a b m n ne f g = record {
  not_false = λ e. (let y = none-open assigned c a e m in cc);
  not_unit = by (unit_of assigned c) refl;
}
  where
    by : (o : Option Lit) → unit_of assigned c ≡ o → unit_of assigned c ≡ None
    by None e = e
    by (Some t) e = elim (unit-others assigned c t a e m) [
      | inr s ↦ absurd (cc)
      | inl s ↦ elim (unit-others assigned c t b e n) [
        | inr r ↦ absurd (cc)
        | inl r ↦ (let z : same_lit a b ≡ true = subst (λ x. same_lit a x ≡ true) (s ∙ sym r) (same-self a) in absurd (cc))
      ]
    ]

quiet-watched : (c : List Lit) (id : ℕ) (rows : List (List ℕ)) (pairs : List Pair) (steps : List Step) → IsConsistent (lits steps) → IsWatched c id rows pairs steps steps → depth steps ≤ depth steps → ((l : Lit) → is_assigned (lits steps) l ≡ true → stands_by (depth steps) steps l ≡ true) → IsInactive (lits steps) c
quiet-watched c id rows pairs steps con x le stands = elim (told (is_assigned (lits steps) (opposite x.pair.first))) [
  | inl y ↦ (let s = x.by.first_guarded (depth steps) (stands (opposite x.pair.first) y) in quiet-assigned (lits steps) c s.by con s.member (stands-assigned (depth steps) steps s.by s.stands))
  | inr n ↦ elim (told (is_assigned (lits steps) (opposite x.pair.second))) [
    | inl y ↦ (let s = x.by.second_guarded (depth steps) (stands (opposite x.pair.second) y) in quiet-assigned (lits steps) c s.by con s.member (stands-assigned (depth steps) steps s.by s.stands))
    | inr m ↦ quiet-two (lits steps) c x.pair.first x.pair.second x.by.first_in x.by.second_in x.by.apart n m
  ]
]

take-whole : (n : ℕ) (xs : List Step) → length xs ≤ n → take n xs ≡ xs
take-whole zero [] h = refl
take-whole (suc n) [] h = refl
take-whole zero (x ∷ xs) h = absurd (omega arith)
take-whole (suc n) (x ∷ xs) h = ap (λ z. x ∷ z) (take-whole n xs (omega arith))

take-lits : (xs : List Lit) → take (length xs) xs ≡ xs
take-lits [] = refl
take-lits (x ∷ xs) = ap (λ z. x ∷ z) (take-lits xs)

lits-length : (xs : List Step) → length (lits xs) ≡ length xs
lits-length [] = refl
lits-length (x ∷ xs) = ap suc (lits-length xs)

pub consistent-all : (store : Store) (steps : List Step) → IsTrail store steps → IsConsistent (lits steps)
consistent-all store steps t =
    let P : List Lit → Type 0 = IsConsistent in
    subst P (ap (λ z. take z (lits steps)) (sym (lits-length steps)) ∙ take-lits (lits steps)) (trail-consistent store steps (length steps) t (omega arith))

-- where all steps were looked at and the loose clauses are quiet, the trail is closed
pub watching-closed : (store : Store) (v : View) (loose : List ℕ) (rows : List (List ℕ)) (pairs : List Pair) (h : ℕ) → AreLive store v.attached → IsTrail store v.steps → ((l : Lit) → is_assigned (lits v.steps) l ≡ true → stands_by (depth v.steps) v.steps l ≡ true) → IsWatching v loose rows pairs h → length v.steps ≤ h → InactiveAmong store (lits v.steps) loose → IsClosed store (lits v.steps)
watching-closed store v loose rows pairs h live t stands x n quiet id c e = elim (x.all id c (live id ∙ e)) [
  | inl q ↦ quiet id c q e
  | inr q ↦ (let P : List Step → Type 0 = λ z. IsWatched c id rows pairs z v.steps in quiet-watched c id rows pairs v.steps (consistent-all store v.steps t) (subst P (take-whole h v.steps n) q) (omega arith) stands)
]

-- what was found among the loose clauses was found
pub says-all : (store : Store) (assigned : List Lit) (ids : List ℕ) (r : Propagation) → (InactiveAmong store assigned ids → IsClosed store assigned) → SaysAmong store assigned ids r → IsPropagation store assigned r
says-all store assigned ids propagation.Closed f s = f s
says-all store assigned ids (propagation.Conflict id) f s = s
says-all store assigned ids (propagation.Unit l id) f s = s

pub watching-reach : (v : View) (loose : List ℕ) (rows : List (List ℕ)) (pairs after : List Pair) (h : ℕ) → ((k : ℕ) (p : Pair) → slice_get pairs k ≡ Some p → slice_get after k ≡ Some p) → IsWatching v loose rows pairs h → IsWatching v loose rows after h
watching-reach v loose rows pairs after h same x = record {
  size = x.size;
  within = x.within;
  all = λ id c e. elim (x.all id c e) [
    | inl q ↦ inl q
    | inr q ↦ inr (record { pair = q.pair; kept = same id q.pair q.kept; by = q.by })
  ];
}

-- other numbers stay in the lists
pub watching-freed : (v : View) (loose : List ℕ) (old new : List (List ℕ)) (pairs : List Pair) (h id : ℕ) → length new ≡ length old → ((k x : ℕ) → (x ≡ id → ⊥) → is_among (row_at old k) x ≡ true → is_among (row_at new k) x ≡ true) → attached_clause v.attached id ≡ None → IsWatching v loose old pairs h → IsWatching v loose new pairs h
watching-freed v loose old new pairs h id size others none x = record {
  size = size ∙ x.size;
  within = x.within;
  all = λ j c f. elim (x.all j c f) [
    | inl q ↦ inl q
    | inr q ↦ (
        let ne : j ≡ id → ⊥ = λ e. (let z : None ≡ Some c = sym none ∙ ap (λ y. attached_clause v.attached y) (sym e) ∙ f in cc) in
        inr (record {
          pair = q.pair;
          kept = q.kept;
          by = record {
            first_in = q.by.first_in;
            second_in = q.by.second_in;
            apart = q.by.apart;
            first_watched = others (code_of q.pair.first) j ne q.by.first_watched;
            second_watched = others (code_of q.pair.second) j ne q.by.second_watched;
            first_guarded = q.by.first_guarded;
            second_guarded = q.by.second_guarded;
          };
        }))
  ];
}

pub watching-put : (v : View) (loose : List ℕ) (old new : List (List ℕ)) (pairs : List Pair) (h k id : ℕ) → k < length old → new ≡ edit (λ r. r ++ id ∷ []) old k → IsWatching v loose old pairs h → IsWatching v loose new pairs h
watching-put v loose old new pairs h k id n e x = record {
  size = ap length e ∙ edit-length (λ r. r ++ id ∷ []) old k ∙ x.size;
  within = x.within;
  all = λ j c f. elim (x.all j c f) [
    | inl q ↦ inl q
    | inr q ↦ inr (record {
      pair = q.pair;
      kept = q.kept;
      by = record {
        first_in = q.by.first_in;
        second_in = q.by.second_in;
        apart = q.by.apart;
        first_watched = ap (λ z. is_among (row_at z (code_of q.pair.first)) j) e ∙ entry_at-more old k (code_of q.pair.first) id j n q.by.first_watched;
        second_watched = ap (λ z. is_among (row_at z (code_of q.pair.second)) j) e ∙ entry_at-more old k (code_of q.pair.second) id j n q.by.second_watched;
        first_guarded = q.by.first_guarded;
        second_guarded = q.by.second_guarded;
      };
    })
  ];
}

pub watching-pair : (v : View) (loose : List ℕ) (rows : List (List ℕ)) (pairs after : List Pair) (h id : ℕ) → attached_clause v.attached id ≡ None → ((k : ℕ) → (k ≡ id → ⊥) → slice_get after k ≡ slice_get pairs k) → IsWatching v loose rows pairs h → IsWatching v loose rows after h
watching-pair v loose rows pairs after h id none same x = record {
  size = x.size;
  within = x.within;
  all = λ k c e. elim (x.all k c e) [
    | inl q ↦ inl q
    | inr q ↦ inr (record {
      pair = q.pair;
      kept = same k (λ y. (let z : None ≡ Some c = sym none ∙ ap (λ w. attached_clause v.attached w) (sym y) ∙ e in cc)) ∙ q.kept;
      by = q.by;
    })
  ];
}

pub watching-loose : (v : View) (loose now : List ℕ) (rows : List (List ℕ)) (pairs : List Pair) (h id : ℕ) → now ≡ loose ++ id ∷ [] → IsWatching v loose rows pairs h → IsWatching v now rows pairs h
watching-loose v loose now rows pairs h id e x = record {
  size = x.size;
  within = x.within;
  all = λ k c f. elim (x.all k c f) [
    | inl q ↦ inl (ap (λ z. is_among z k) e ∙ among-before loose (id ∷ []) k q)
    | inr q ↦ inr q
  ];
}

pub loose-there : (loose now : List ℕ) (id : ℕ) → now ≡ loose ++ id ∷ [] → is_among now id ≡ true
loose-there loose now id e = ap (λ z. is_among z id) e ∙ among-put loose id

-- a clause of which two literals are open is watched by them
pub watched-open : (c : List Lit) (id h : ℕ) (old rows new : List (List ℕ)) (pairs : List Pair) (steps : List Step) (p : Pair) → IsOpenPair c (lits steps) p → slice_get pairs id ≡ Some p → code_of p.first < length old → code_of p.second < length rows → rows ≡ edit (λ r. r ++ id ∷ []) old (code_of p.first) → new ≡ edit (λ r. r ++ id ∷ []) rows (code_of p.second) → IsWatched c id new pairs (take h steps) steps
watched-open c id h old rows new pairs steps p o k a b e f = record {
  pair = p;
  kept = k;
  by = record {
    first_in = o.first_in;
    second_in = o.second_in;
    apart = o.apart;
    first_watched = ap (λ z. is_among (row_at z (code_of p.first)) id) f ∙ entry_at-more rows (code_of p.second) (code_of p.first) id id b (ap (λ z. is_among (row_at z (code_of p.first)) id) e ∙ entry_at-there old (code_of p.first) id a);
    second_watched = ap (λ z. is_among (row_at z (code_of p.second)) id) f ∙ entry_at-there rows (code_of p.second) id b;
    first_guarded = not-done c h steps p.first o.first_open;
    second_guarded = not-done c h steps p.second o.second_open;
  };
}

watching-with : (v : View) (loose : List ℕ) (rows : List (List ℕ)) (pairs : List Pair) (h id : ℕ) (store : Store) (c : List Lit) → live_clause store id ≡ Some c → IsLooseOrWatched c id loose rows pairs (take h v.steps) v.steps → IsWatching v loose rows pairs h → IsWatching (record v { attached = with_attached v.attached id store }) loose rows pairs h
watching-with v loose rows pairs h id store c live w x = record {
  size = x.size;
  within = x.within;
  all = λ k d e. elim (eqb_tells k id) [
    | inl p ↦ (
        let same : d ≡ c = (let z : Some d ≡ Some c = sym e ∙ ap (λ y. attached_clause (with_attached v.attached id store) y) p.1 ∙ attached-same v.attached id store ∙ live in cc) in
        let P : ℕ → List Lit → Type 0 = λ y z. IsLooseOrWatched z y loose rows pairs (take h v.steps) v.steps in
        subst (λ y. P y d) (sym p.1) (subst (λ z. P id z) (sym same) w))
    | inr p ↦ x.all k d (sym (attached-other v.attached id k store (λ q. p.1 (sym q))) ∙ e)
  ];
}

-- the clause that is attached now is loose or watched
pub watching-attached : (v new : View) (loose : List ℕ) (rows : List (List ℕ)) (pairs : List Pair) (h id : ℕ) (store : Store) (c : List Lit) → live_clause store id ≡ Some c → IsLooseOrWatched c id loose rows pairs (take h v.steps) v.steps → new ≡ record v { attached = with_attached v.attached id store } → IsWatching v loose rows pairs h → IsWatching new loose rows pairs h
watching-attached v new loose rows pairs h id store c live w e x = let P : View → Type 0 = λ z. IsWatching z loose rows pairs h in subst P (sym e) (watching-with v loose rows pairs h id store c live w x)

watching-without : (v : View) (loose : List ℕ) (rows : List (List ℕ)) (pairs : List Pair) (h id : ℕ) → IsWatching v loose rows pairs h → IsWatching (record v { attached = without_attached v.attached id }) loose rows pairs h
watching-without v loose rows pairs h id x = record {
  size = x.size;
  within = x.within;
  all = λ k d e. elim (eqb_tells k id) [
    | inl p ↦ absurd (let z : None ≡ Some d = sym (detached-same v.attached id) ∙ ap (λ y. attached_clause (without_attached v.attached id) y) (sym p.1) ∙ e in cc)
    | inr p ↦ x.all k d (sym (detached-other v.attached id k (λ q. p.1 (sym q))) ∙ e)
  ];
}

pub watching-detached : (v new : View) (loose : List ℕ) (rows : List (List ℕ)) (pairs : List Pair) (h id : ℕ) → new ≡ record v { attached = without_attached v.attached id } → IsWatching v loose rows pairs h → IsWatching new loose rows pairs h
watching-detached v new loose rows pairs h id e x = let P : View → Type 0 = λ z. IsWatching z loose rows pairs h in subst P (sym e) (watching-without v loose rows pairs h id x)

pub watching-same : (v new : View) (loose : List ℕ) (rows : List (List ℕ)) (pairs : List Pair) (h : ℕ) → new ≡ v → IsWatching v loose rows pairs h → IsWatching new loose rows pairs h
watching-same v new loose rows pairs h e x = let P : View → Type 0 = λ z. IsWatching z loose rows pairs h in subst P (sym e) x

-- nothing is attached at the start
pub watching-none : (v : View) (loose : List ℕ) (rows : List (List ℕ)) (pairs : List Pair) (vars n : ℕ) → v ≡ empty_view vars → length rows ≡ n → n ≡ vars * 2 + 2 → IsWatching v loose rows pairs 0
watching-none v loose rows pairs vars n e s m =
    let P : View → Type 0 = λ z. IsWatching z loose rows pairs 0 in
    subst P (sym e) (record { size = s ∙ m; within = omega arith; all = λ id c f. absurd (cc) })

-- the same steps are watched, however decisions are counted
watching-counted : (v : View) (loose : List ℕ) (rows : List (List ℕ)) (pairs : List Pair) (h : ℕ) (pace : Pace) (parts : Parts) → IsWatching v loose rows pairs h → IsWatching (record v { pace = pace; parts = parts }) loose rows pairs h
watching-counted v loose rows pairs h pace parts x = record { size = x.size; within = x.within; all = x.all }

pub watching-paced : (v new : View) (loose : List ℕ) (rows : List (List ℕ)) (pairs : List Pair) (h : ℕ) (pace : Pace) (parts : Parts) → new ≡ record v { pace = pace; parts = parts } → IsWatching v loose rows pairs h → IsWatching new loose rows pairs h
watching-paced v new loose rows pairs h pace parts e x = let P : View → Type 0 = λ z. IsWatching z loose rows pairs h in subst P (sym e) (watching-counted v loose rows pairs h pace parts x)

-- a decision was made
pub watching-decided : (v new : View) (loose : List ℕ) (rows : List (List ℕ)) (pairs : List Pair) (h : ℕ) (s : Step) (pace : Pace) → new ≡ record v { steps = v.steps ++ s ∷ []; pace = pace } → IsWatching v loose rows pairs h → IsWatching new loose rows pairs h
watching-decided v new loose rows pairs h s pace e x = watching-paced (record v { steps = v.steps ++ s ∷ [] }) new loose rows pairs h pace v.parts e (watching-more v _ loose rows pairs h (s ∷ []) refl x)
