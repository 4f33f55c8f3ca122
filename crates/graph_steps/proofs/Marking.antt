-- What marks change.
use Rattle.std.proofs.Common.{◌≡◌, ◌≢◌, ℕ, zero, suc, ◌+◌, ◌<◌, ◌⊎◌, inl, inr, Bool, true, false, if◌then◌else◌, List, [], ◌∷◌, ◌++◌, flat_map, get_or, set, length, Option, Some, None, refl, sym, ap, subst, ◌∙◌, arith, get_or-set_same, get_or-set_other, length-append}
use Rattle.std.specs.Prelude.{is_none}
use Rattle.std.proofs.lemmas.List.{length-set}
use Rattle.rail_base.specs.Members.{In}
use Rattle.rail_base.proofs.Lists.{in_append, in_append_left, in_append_right}
use Rattle.graph_steps.specs.Graphs.{next}
use Rattle.graph_steps.specs.Marks.{Marked, mark, mark_all, mark_next}

-- what is known of a node
abbrev pub known : List (Option ℕ) → ℕ → Option ℕ
known found q = get_or found q None

-- how many nodes are not come to
abbrev pub unfound : List (Option ℕ) → ℕ
unfound [] = 0
unfound (None ∷ found) = suc (unfound found)
unfound (Some k ∷ found) = unfound found

one_less : (found : List (Option ℕ)) (q steps : ℕ) → q < length found → known found q ≡ None → unfound (set found q (Some steps)) + 1 ≡ unfound found
one_less [] q steps h e = absurd (omega arith)
one_less (None ∷ found) zero steps h e = omega arith
one_less (Some k ∷ found) zero steps h e = cc
one_less (None ∷ found) (suc q) steps h e = let l = one_less found q steps (omega arith) e in omega arith
one_less (Some k ∷ found) (suc q) steps h e = one_less found q steps (omega arith) e

-- from m to n these nodes are come to in so many steps
pub record Marks (steps : ℕ) (qs : List ℕ) (m n : Marked) : Type 0 where
  pub same_length : length n.found ≡ length m.found
  pub kept : (q e : ℕ) → known m.found q ≡ Some e → known n.found q ≡ Some e
  pub new : (q e : ℕ) → known n.found q ≡ Some e → (known m.found q ≡ Some e) ⊎ ((known m.found q ≡ None) × (e ≡ steps) × In q qs)
  pub come : (q : ℕ) → In q qs → (e : ℕ) × (known n.found q ≡ Some e)
  pub into_front : (q e : ℕ) → known m.found q ≡ None → known n.found q ≡ Some e → In q n.front
  pub stays : (q : ℕ) → In q m.front → In q n.front
  pub of_front : (q : ℕ) → In q n.front → In q m.front ⊎ (known n.found q ≡ Some steps)
  pub many : unfound n.found + length n.front ≡ unfound m.found + length m.front

nothing : (steps : ℕ) (m : Marked) → Marks steps [] m m
nothing steps m = record {
  same_length = refl;
  kept = λ q e h. h;
  new = λ q e h. inl h;
  come = λ q h. absurd h;
  into_front = λ q e h k. cc;
  stays = λ q h. h;
  of_front = λ q h. inl h;
  many = refl;
}

-- where a node is known already
old_node : (steps : ℕ) (m : Marked) (q k : ℕ) → known m.found q ≡ Some k → Marks steps (q ∷ []) m m
old_node steps m q k is = record {
  same_length = refl;
  kept = λ q e h. h;
  new = λ q e h. inl h;
  come = λ p h. one p h;
  into_front = λ q e h k. cc;
  stays = λ q h. h;
  of_front = λ q h. inl h;
  many = refl;
}
  where
    one : (p : ℕ) → In p (q ∷ []) → (e : ℕ) × (known m.found p ≡ Some e)
    one p (inl e) = (k, subst (λ x. known m.found x ≡ Some k) e is)
    one p (inr e) = absurd e

pub same_or_not : (p q : ℕ) → (p ≡ q) ⊎ (p ≢ q)
same_or_not p q = grind arith

new_node : (steps : ℕ) (m : Marked) (q : ℕ) → q < length m.found → known m.found q ≡ None → Marks steps (q ∷ []) m (record { found = set m.found q (Some steps); front = m.front ++ q ∷ [] })
new_node steps m q within none = record {
  same_length = length-set m.found q (Some steps);
  kept = λ p e h. kept p e h (same_or_not p q);
  new = λ p e h. new p e h (same_or_not p q);
  come = λ p h. come p h;
  into_front = λ p e h k. into p e h k (same_or_not p q);
  stays = λ p h. in_append_left p m.front (q ∷ []) h;
  of_front = λ p h. of p (in_append p m.front (q ∷ []) h);
  many = let l = one_less m.found q steps within none in let a = length-append m.front (q ∷ []) in omega arith;
}
  where
    here : known (set m.found q (Some steps)) q ≡ Some steps
    here = get_or-set_same m.found q (Some steps) None within

    other : (p : ℕ) → p ≢ q → known (set m.found q (Some steps)) p ≡ known m.found p
    other p h = get_or-set_other m.found q p (Some steps) None h

    kept : (p e : ℕ) → known m.found p ≡ Some e → (p ≡ q) ⊎ (p ≢ q) → known (set m.found q (Some steps)) p ≡ Some e
    kept p e h (inl s) = let x : known m.found q ≡ Some e = subst (λ y. known m.found y ≡ Some e) s h in cc
    kept p e h (inr s) = other p s ∙ h

    new : (p e : ℕ) → known (set m.found q (Some steps)) p ≡ Some e → (p ≡ q) ⊎ (p ≢ q) → (known m.found p ≡ Some e) ⊎ ((known m.found p ≡ None) × (e ≡ steps) × In p (q ∷ []))
    new p e h (inl s) =
        let x : Some e ≡ Some steps = sym (subst (λ y. known (set m.found q (Some steps)) y ≡ Some e) s h) ∙ here in
        inr (subst (λ y. known m.found y ≡ None) (sym s) none, cc, inl (sym s))
    new p e h (inr s) = inl (sym (other p s) ∙ h)

    come : (p : ℕ) → In p (q ∷ []) → (e : ℕ) × (known (set m.found q (Some steps)) p ≡ Some e)
    come p (inl e) = (steps, subst (λ x. known (set m.found q (Some steps)) x ≡ Some steps) e here)
    come p (inr e) = absurd e

    into : (p e : ℕ) → known m.found p ≡ None → known (set m.found q (Some steps)) p ≡ Some e → (p ≡ q) ⊎ (p ≢ q) → In p (m.front ++ q ∷ [])
    into p e h k (inl s) = in_append_right p m.front (q ∷ []) (inl (sym s))
    into p e h k (inr s) = let x : known m.found p ≡ Some e = sym (other p s) ∙ k in cc

    of : (p : ℕ) → In p m.front ⊎ In p (q ∷ []) → In p m.front ⊎ (known (set m.found q (Some steps)) p ≡ Some steps)
    of p (inl h) = inl h
    of p (inr (inl e)) = inr (subst (λ x. known (set m.found q (Some steps)) x ≡ Some steps) e here)
    of p (inr (inr e)) = absurd e

marks_one : (steps : ℕ) (m : Marked) (q : ℕ) → q < length m.found → Marks steps (q ∷ []) m (mark steps m q)
marks_one steps m q within = go (known m.found q) refl
  where
    go : (o : Option ℕ) → known m.found q ≡ o → Marks steps (q ∷ []) m (if is_none (known m.found q) then record { found = set m.found q (Some steps); front = m.front ++ q ∷ [] } else m)
    go None e = subst (λ b. Marks steps (q ∷ []) m (if b then record { found = set m.found q (Some steps); front = m.front ++ q ∷ [] } else m)) (sym (ap is_none e)) (new_node steps m q within e)
    go (Some k) e = subst (λ b. Marks steps (q ∷ []) m (if b then record { found = set m.found q (Some steps); front = m.front ++ q ∷ [] } else m)) (sym (ap is_none e)) (old_node steps m q k e)

and_further : (steps q : ℕ) (qs : List ℕ) (l m n : Marked) → Marks steps (q ∷ []) l m → Marks steps qs m n → Marks steps (q ∷ qs) l n
and_further steps q qs l m n a b = record {
  same_length = b.same_length ∙ a.same_length;
  kept = λ p e h. b.kept p e (a.kept p e h);
  new = λ p e h. new p e (b.new p e h);
  come = λ p h. come p h;
  into_front = λ p e h k. into p e h k (known m.found p) refl;
  stays = λ p h. b.stays p (a.stays p h);
  of_front = λ p h. of p (b.of_front p h);
  many = b.many ∙ a.many;
}
  where
    new : (p e : ℕ) → (known m.found p ≡ Some e) ⊎ ((known m.found p ≡ None) × (e ≡ steps) × In p qs) → (known l.found p ≡ Some e) ⊎ ((known l.found p ≡ None) × (e ≡ steps) × In p (q ∷ qs))
    new p e (inl h) = go (a.new p e h)
      where
        go : (known l.found p ≡ Some e) ⊎ ((known l.found p ≡ None) × (e ≡ steps) × In p (q ∷ [])) → (known l.found p ≡ Some e) ⊎ ((known l.found p ≡ None) × (e ≡ steps) × In p (q ∷ qs))
        go (inl k) = inl k
        go (inr k) = inr (k.0, k.1, first k.2)
          where
            first : In p (q ∷ []) → In p (q ∷ qs)
            first (inl s) = inl s
            first (inr s) = absurd s
    new p e (inr h) = go (known l.found p) refl
      where
        go : (o : Option ℕ) → known l.found p ≡ o → (known l.found p ≡ Some e) ⊎ ((known l.found p ≡ None) × (e ≡ steps) × In p (q ∷ qs))
        go None s = inr (s, h.1, inr h.2)
        go (Some k) s = let x = a.kept p k s in let y = h.0 in cc

    come : (p : ℕ) → In p (q ∷ qs) → (e : ℕ) × (known n.found p ≡ Some e)
    come p (inl s) = let c = a.come p (inl s) in (c.0, b.kept p c.0 c.1)
    come p (inr s) = b.come p s

    into : (p e : ℕ) → known l.found p ≡ None → known n.found p ≡ Some e → (o : Option ℕ) → known m.found p ≡ o → In p n.front
    into p e h k None s = b.into_front p e s k
    into p e h k (Some x) s = b.stays p (a.into_front p x h s)

    of : (p : ℕ) → In p m.front ⊎ (known n.found p ≡ Some steps) → In p l.front ⊎ (known n.found p ≡ Some steps)
    of p (inr h) = inr h
    of p (inl h) = go (a.of_front p h)
      where
        go : In p l.front ⊎ (known m.found p ≡ Some steps) → In p l.front ⊎ (known n.found p ≡ Some steps)
        go (inl k) = inl k
        go (inr k) = inr (b.kept p steps k)

pub marks_all : (steps : ℕ) (qs : List ℕ) (m : Marked) → ((q : ℕ) → In q qs → q < length m.found) → Marks steps qs m (mark_all steps m qs)
marks_all steps [] m within = nothing steps m
marks_all steps (q ∷ qs) m within =
    let one = marks_one steps m q (within q (inl refl)) in
    let same = one.same_length in
    and_further steps q qs m (mark steps m q) (mark_all steps (mark steps m q) qs) one (marks_all steps qs (mark steps m q) (λ p h. let k = within p (inr h) in omega arith))

-- ---- one list of nodes after another

all_append : (steps : ℕ) (m : Marked) (qs rs : List ℕ) → mark_all steps m (qs ++ rs) ≡ mark_all steps (mark_all steps m qs) rs
all_append steps m [] rs = refl
all_append steps m (q ∷ qs) rs = all_append steps (mark steps m q) qs rs

pub next_is_all : (graph : List (List ℕ)) (steps : ℕ) (m : Marked) (ps : List ℕ) → mark_next graph steps m ps ≡ mark_all steps m (flat_map (next graph) ps)
next_is_all graph steps m [] = refl
next_is_all graph steps m (p ∷ ps) = next_is_all graph steps (mark_all steps m (next graph p)) ps ∙ sym (all_append steps m (next graph p) (flat_map (next graph) ps))

pub same_found : (steps : ℕ) (m : Marked) (q : ℕ) → length (mark steps m q).found ≡ length m.found
same_found steps m q = go (is_none (known m.found q))
  where
    go : (b : Bool) → length (let n : Marked = if b then record { found = set m.found q (Some steps); front = m.front ++ q ∷ [] } else m in n.found) ≡ length m.found
    go true = length-set m.found q (Some steps)
    go false = refl

pub same_found_all : (steps : ℕ) (m : Marked) (qs : List ℕ) → length (mark_all steps m qs).found ≡ length m.found
same_found_all steps m [] = refl
same_found_all steps m (q ∷ qs) = same_found_all steps (mark steps m q) qs ∙ same_found steps m q
