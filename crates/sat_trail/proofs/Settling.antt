-- Clauses that have a literal that is true at level 0 keep it.
use Rattle.std.proofs.Common.{◌≡◌, ℕ, ◌+◌, ◌<◌, ◌≤◌, true, List, [], ◌∷◌, ◌++◌, Some, None, refl, sym, ap, ◌∙◌, subst, arith, ◌⊎◌, inl, inr, length, drop, get_or, zero, suc, length-append}
use Rattle.std.specs.List.{filter}
use Rattle.std.proofs.lemmas.Bool.Decides.{eqb_tells, leb_tells}
use Rattle.sat_clause.specs.declared.lit.Lit.{Lit}
use Rattle.sat_clause.specs.Clauses.{Store}
use Rattle.sat_clause.specs.Hints.{is_assigned}
use Rattle.sat_trail.specs.declared.pace.Pace.{Pace}
use Rattle.sat_trail.specs.declared.pace.Parts.{Parts}
use Rattle.sat_trail.specs.declared.step.Step.{Step}
use Rattle.sat_trail.specs.Trails.{lits, depth, IsTrail, IsLevelled}
use Rattle.sat_trail.specs.Attached.{is_among, attached_clause, with_attached, without_attached, AreLive}
use Rattle.sat_trail.specs.Forced.{IsForced}
use Rattle.sat_trail.specs.Scans.{InactiveAmong}
use Rattle.sat_trail.specs.Settled.{IsTrueFirst, IsSettled}
use Rattle.sat_trail.specs.View.{View}
use Rattle.sat_trail.specs.Watches.{Satisfied, stands_by}
use Rattle.sat_trail.proofs.Attaching.{quiet-assigned, consistent-all}
use Rattle.sat_trail.proofs.Levels.{up_to}
use Rattle.sat_trail.proofs.Rows.{among-index, index-among}
use Rattle.sat_trail.proofs.Standby.{stands-assigned, assigned-stands, stands-kept}
use Rattle.sat_trail.proofs.Stores.{attached-other, detached-same, detached-other}
use Rattle.sat_trail.proofs.Watched.{satisfied-more}

-- none at the start
pub settled-none : (v : View) (ids : List ℕ) (top : ℕ) → IsSettled v ids 0 top
settled-none v ids top = record { within = omega arith; ids_to_top = λ j h. absurd (omega arith); true_first = λ j h. absurd (omega arith) }

-- with more steps
pub settled-steps : (v new : View) (ids : List ℕ) (n top : ℕ) (more : List Step) → new.attached ≡ v.attached → new.steps ≡ v.steps ++ more → IsSettled v ids n top → IsSettled new ids n top
settled-steps v new ids n top more a e s = record {
  within = s.within;
  ids_to_top = s.ids_to_top;
  true_first = λ j h c f. (let P : List Step → Type 0 = λ z. Satisfied c 0 z in subst P (sym e) (satisfied-more c 0 v.steps more (s.true_first j h c (ap (λ z. attached_clause z (get_or ids j 0)) (sym a) ∙ f))));
}

pub settled-forced : (v new : View) (ids : List ℕ) (n top : ℕ) → IsForced v new → IsSettled v ids n top → IsSettled new ids n top
settled-forced v new ids n top f s = settled-steps v new ids n top f.more f.attached f.steps s

settled-counted : (v : View) (ids : List ℕ) (n top : ℕ) (pace : Pace) (parts : Parts) → IsSettled v ids n top → IsSettled (record v { pace = pace; parts = parts }) ids n top
settled-counted v ids n top pace parts x = record { within = x.within; ids_to_top = x.ids_to_top; true_first = x.true_first }

-- however decisions are counted
pub settled-paced : (v new : View) (ids : List ℕ) (n top : ℕ) (pace : Pace) (parts : Parts) → new ≡ record v { pace = pace; parts = parts } → IsSettled v ids n top → IsSettled new ids n top
settled-paced v new ids n top pace parts e x = let P : View → Type 0 = λ z. IsSettled z ids n top in subst P (sym e) (settled-counted v ids n top pace parts x)

-- where levels are taken off
pub settled-back : (v new : View) (ids : List ℕ) (n top level : ℕ) → new ≡ record v { steps = filter (up_to level) v.steps } → IsSettled v ids n top → IsSettled new ids n top
settled-back v new ids n top level e s =
    let a : new.attached ≡ v.attached = ap (λ (z : View). z.attached) e in
    let k : new.steps ≡ filter (up_to level) v.steps = ap (λ (z : View). z.steps) e in
    record {
      within = s.within;
      ids_to_top = s.ids_to_top;
      true_first = λ j h c f. (
          let q = s.true_first j h c (ap (λ z. attached_clause z (get_or ids j 0)) (sym a) ∙ f) in
          record { by = q.by; member = q.member; stands = subst (λ y. stands_by 0 y q.by ≡ true) (sym k) (stands-kept 0 level v.steps q.by (omega arith) q.stands) });
    }

at-put : (ids : List ℕ) (id j : ℕ) → j < length ids → get_or (ids ++ id ∷ []) j 0 ≡ get_or ids j 0
at-put [] id j h = absurd (omega arith)
at-put (x ∷ xs) id zero h = refl
at-put (x ∷ xs) id (suc j) h = at-put xs id j (omega arith)

-- with one number more
pub settled-put : (v : View) (ids now : List ℕ) (n top id : ℕ) → now ≡ ids ++ id ∷ [] → IsSettled v ids n top → IsSettled v now n top
settled-put v ids now n top id e s =
    let w = s.within in
    let k = ap length e ∙ length-append ids (id ∷ []) in
    let at : (j : ℕ) → j < n → get_or ids j 0 ≡ get_or now j 0 = λ j h. sym (ap (λ z. get_or z j 0) e ∙ at-put ids id j (omega arith)) in
    record {
      within = omega arith;
      ids_to_top = λ j h. subst (λ z. z ≤ top) (at j h) (s.ids_to_top j h);
      true_first = λ j h. (let P : ℕ → Type 0 = IsTrueFirst v in subst P (at j h) (s.true_first j h));
    }

pub settled-same : (v new : View) (ids : List ℕ) (n top : ℕ) → new ≡ v → IsSettled v ids n top → IsSettled new ids n top
settled-same v new ids n top e s = let P : View → Type 0 = λ z. IsSettled z ids n top in subst P (sym e) s

pub settled-loose : (v : View) (ids now : List ℕ) (n top id : ℕ) → (now ≡ ids) ⊎ (now ≡ ids ++ id ∷ []) → IsSettled v ids n top → IsSettled v now n top
settled-loose v ids now n top id e s = elim e [
  | inl p ↦ (let P : List ℕ → Type 0 = λ z. IsSettled v z n top in subst P (sym p) s)
  | inr p ↦ settled-put v ids now n top id p s
]

-- a greater number is attached
pub settled-attached : (v new : View) (ids : List ℕ) (n top id : ℕ) (store : Store) → (n ≡ 0) ⊎ (top < id) → new ≡ record v { attached = with_attached v.attached id store } → IsSettled v ids n top → IsSettled new ids n top
settled-attached v new ids n top id store far e s =
    let a : new.attached ≡ with_attached v.attached id store = ap (λ (z : View). z.attached) e in
    let k : new.steps ≡ v.steps = ap (λ (z : View). z.steps) e in
    record {
      within = s.within;
      ids_to_top = s.ids_to_top;
      true_first = λ j h c f. (
          let low = s.ids_to_top j h in
          let other : id ≡ get_or ids j 0 → ⊥ = λ q. elim far [ inl z ↦ omega arith | inr z ↦ omega arith ] in
          let P : List Step → Type 0 = λ z. Satisfied c 0 z in
          subst P (sym k) (s.true_first j h c (sym (attached-other v.attached id (get_or ids j 0) store other) ∙ ap (λ z. attached_clause z (get_or ids j 0)) (sym a) ∙ f)));
    }

pub settled-detached : (v new : View) (ids : List ℕ) (n top id : ℕ) → new ≡ record v { attached = without_attached v.attached id } → IsSettled v ids n top → IsSettled new ids n top
settled-detached v new ids n top id e s =
    let a : new.attached ≡ without_attached v.attached id = ap (λ (z : View). z.attached) e in
    let k : new.steps ≡ v.steps = ap (λ (z : View). z.steps) e in
    record {
      within = s.within;
      ids_to_top = s.ids_to_top;
      true_first = λ j h c f. (
          let g : attached_clause (without_attached v.attached id) (get_or ids j 0) ≡ Some c = ap (λ z. attached_clause z (get_or ids j 0)) (sym a) ∙ f in
          let P : List Step → Type 0 = λ z. Satisfied c 0 z in
          elim (eqb_tells (get_or ids j 0) id) [
            | inl p ↦ absurd (let z : None ≡ Some c = sym (detached-same v.attached id) ∙ ap (λ y. attached_clause (without_attached v.attached id) y) (sym p.1) ∙ g in cc)
            | inr p ↦ subst P (sym k) (s.true_first j h c (sym (detached-other v.attached id (get_or ids j 0) (λ q. p.1 (sym q))) ∙ g))
          ]);
    }

-- one number more is settled
pub settled-next : (v : View) (ids : List ℕ) (n top now : ℕ) → n < length ids → top ≤ now → get_or ids n 0 ≤ now → IsTrueFirst v (get_or ids n 0) → IsSettled v ids n top → IsSettled v ids (n + 1) now
settled-next v ids n top now h a b f s = record {
  within = omega arith;
  ids_to_top = λ j k. elim (eqb_tells j n) [
    | inl p ↦ subst (λ z. get_or ids z 0 ≤ now) (sym p.1) b
    | inr p ↦ (let ne = p.1 in let low = s.ids_to_top j (omega arith) in omega arith)
  ];
  true_first = λ j k. elim (eqb_tells j n) [
    | inl p ↦ (let P : ℕ → Type 0 = λ z. IsTrueFirst v (get_or ids z 0) in subst P (sym p.1) f)
    | inr p ↦ (let ne = p.1 in s.true_first j (omega arith))
  ];
}

drop-none : (ids : List ℕ) → drop 0 ids ≡ ids
drop-none [] = refl
drop-none (x ∷ xs) = refl

-- where the clauses behind the prefix are quiet, all are
pub settled-quiet : (store : Store) (v : View) (ids : List ℕ) (n top : ℕ) → AreLive store v.attached → IsTrail store v.steps → IsSettled v ids n top → InactiveAmong store (lits v.steps) (drop n ids) → InactiveAmong store (lits v.steps) ids
settled-quiet store v ids n top live t s quiet id c m e =
    let r = among-index ids 0 id (subst (λ z. is_among z id ≡ true) (sym (drop-none ids)) m) in
    let a = r.1 in
    let b = r.2 in
    elim (leb_tells n r.0) [
      | inl p ↦ quiet id c (subst (λ z. is_among (drop n ids) z ≡ true) r.3 (index-among ids n r.0 p.1 b)) e
      | inr p ↦ (
          let far = p.1 in
          let q = s.true_first r.0 (omega arith) c (ap (λ z. attached_clause v.attached z) r.3 ∙ live id ∙ e) in
          quiet-assigned (lits v.steps) c q.by (consistent-all store v.steps t) q.member (stands-assigned 0 v.steps q.by q.stands))
    ]

-- what is true where no level is open is true at level 0
pub true-first : (v : View) (c : List Lit) (l : Lit) → depth v.steps ≡ 0 → IsLevelled 0 v.steps → is_assigned c l ≡ true → is_assigned (lits v.steps) l ≡ true → Satisfied c 0 v.steps
true-first v c l d levelled m h = record { by = l; member = m; stands = subst (λ z. stands_by z v.steps l ≡ true) d (assigned-stands 0 v.steps l levelled h) }

pub some-clause : (a b : List Lit) → Some a ≡ Some b → a ≡ b
some-clause a b e = cc
