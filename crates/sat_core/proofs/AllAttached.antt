-- Clauses that are attached one after the other.
use Rattle.std.proofs.Common.{◌≡◌, ℕ, zero, suc, ◌+◌, ◌≤◌, ◌<◌, [], ◌∷◌, length, None, inl, inr, refl, sym, ap, ◌∙◌, arith, subst}
use Rattle.std.specs.Prelude.{slice_get}
use Rattle.std.proofs.lemmas.Bool.Decides.{eqb_tells, leb_tells}
use Rattle.sat_clause.specs.Clauses.{Store, if_live, live_clause}
use Rattle.sat_trail.specs.View.{View}
use Rattle.sat_trail.specs.Attached.{attached_clause, with_attached}
use Rattle.sat_trail.proofs.Stores.{attached-same, attached-other}
use Rattle.sat_core.specs.Kept.{AreAttached, AreAttachedTo, IsAttachedIfLive}

none-at : (store : Store) (i : ℕ) → length store ≤ i → slice_get store i ≡ None
none-at [] i h = refl
none-at (x ∷ xs) zero h = absurd (omega arith)
none-at (x ∷ xs) (suc i) h = none-at xs i (omega (arith, h))

none-behind : (store : Store) (id : ℕ) → length store < id → live_clause store id ≡ None
none-behind store zero h = refl
none-behind store (suc i) h = ap if_live (none-at store i (omega (arith, h)))

module _ (store : Store) (old : View) where
  -- nothing is attached at first
  pub none-attached : old.attached ≡ [] → AreAttachedTo store old 0 old
  none-attached e = record {
    up_to = λ id h. (let z : id ≡ 0 = omega (arith, h) in ap (λ s. attached_clause s id) e ∙ sym (ap (live_clause store) z));
    behind = λ id h. ap (λ s. attached_clause s id) e;
    else_same = refl;
  }

  -- and then one after the other
  pub attached-next : (mid new : View) (n : ℕ) → AreAttachedTo store old n mid → IsAttachedIfLive store mid (n + 1) new → AreAttachedTo store old (n + 1) new
  attached-next mid new n so (inl none) =
      let same : (id : ℕ) → attached_clause new.attached id ≡ attached_clause mid.attached id = λ id. ap (λ (v : View). attached_clause v.attached id) none.1 in
      record {
        up_to = λ id h. same id ∙ elim (eqb_tells (n + 1) id) [
          | inl p ↦ (let here : n + 1 ≡ id = p.1 in so.behind id (omega (arith, here)) ∙ sym (ap (live_clause store) (sym here) ∙ none.0))
          | inr p ↦ so.up_to id (let other : n + 1 ≡ id → ⊥ = p.1 in omega (arith, h, other))
        ];
        behind = λ id h. same id ∙ so.behind id (omega (arith, h));
        else_same = none.1 ∙ (so.else_same ∙ ap (λ (v : View). record old { attached = v.attached }) (sym none.1));
      }
  attached-next mid new n so (inr is) =
      let now : (id : ℕ) → attached_clause new.attached id ≡ attached_clause (with_attached mid.attached (n + 1) store) id = λ id. ap (λ (v : View). attached_clause v.attached id) is in
      let base : mid ≡ record old { attached = mid.attached } = so.else_same in
      record {
        up_to = λ id h. now id ∙ elim (eqb_tells (n + 1) id) [
          | inl p ↦ (let P : ℕ → Type 0 = λ z. attached_clause (with_attached mid.attached (n + 1) store) z ≡ live_clause store z in subst P p.1 (attached-same mid.attached (n + 1) store))
          | inr p ↦ (attached-other mid.attached (n + 1) id store p.1 ∙ so.up_to id (let other : n + 1 ≡ id → ⊥ = p.1 in omega (arith, h, other)))
        ];
        behind = λ id h. now id ∙ (attached-other mid.attached (n + 1) id store (λ e. omega (arith, h, e)) ∙ so.behind id (omega (arith, h)));
        else_same = is ∙ (ap (λ (v : View). record v { attached = with_attached mid.attached (n + 1) store }) base ∙ ap (λ (v : View). record old { attached = v.attached }) (sym is));
      }

  -- until all are
  pub all-attached : (new : View) (n : ℕ) → length store ≤ n → AreAttachedTo store old n new → AreAttached store old new
  all-attached new n all so = record {
    live = λ id. elim (leb_tells id n) [
      | inl p ↦ so.up_to id p.1
      | inr p ↦ (so.behind id p.1 ∙ sym (none-behind store id (let far : n < id = p.1 in omega (arith, all, far))))
    ];
    else_same = so.else_same;
  }
