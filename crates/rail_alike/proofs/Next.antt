-- Trains that are alike and next to each other among trains that stand in the order of their numbers.
use Rattle.std.proofs.Common.{◌≡◌, ◌↔◌, ℕ, zero, suc, ◌+◌, ◌≤◌, ◌<◌, ◌⊎◌, inl, inr, Bool, true, false, cond, nat_lt, List, [], ◌∷◌, length, Option, None, Some, find, refl, sym, ap, subst, ◌∙◌, arith, leb-true, le-leb, true≢false}
use Rattle.rail_base.specs.declared.station.Station.{Station}
use Rattle.rail_base.specs.declared.station.TrainNo.{TrainNo}
use Rattle.rail_base.specs.declared.plan.Command.{Command}
use Rattle.rail_base.specs.Members.{In, Pairs}
use Rattle.rail_base.specs.Numbering.{one_to}
use Rattle.rail_base.specs.Stations.{trains}
use Rattle.rail_base.proofs.Members.{and_left, and_right, and_both, below_or_not}
use Rattle.rail_base.proofs.Lists.{in_flat_map, in_flat_map_back, pairs_count, pairs_map}
use Rattle.rail_spec.specs.Feasible.{IsFeasible}
use Rattle.rail_alike.specs.Renaming.{first_step}
use Rattle.rail_alike.specs.Alike.{AreAlike, AreNeighbors}
use Rattle.rail_alike.specs.Tests.{are_alike, is_later_alike, next_among, pair_with, neighbors_among, neighbors}
use Rattle.rail_alike.specs.Turns.{AreNamed, ArePairs, InTurn, AllInTurn, HasAllInTurn}
use Rattle.rail_alike.proofs.Equivariant.{same_train}
use Rattle.rail_alike.proofs.Exchanging.{like_back, like_on}
use Rattle.rail_alike.proofs.Feasibility.{in_trains}
use Rattle.rail_alike.proofs.Testing.{alike_told, alike_tested}
use Rattle.rail_alike.proofs.Turns.{has_in_turn}

-- the numbers of the trains rise
abbrev pub AreRising : List TrainNo → Type 0
AreRising ts = Pairs (λ (t u : TrainNo). t.0 < u.0) ts

pub trains_rise : (d : Station) → AreRising (trains d)
trains_rise d = pairs_map (λ (t u : TrainNo). t.0 < u.0) (λ (m n : ℕ). m < n) (λ n. record { 0 = n }) (one_to (length d.trains)) (λ a b l. l) (pairs_count 1 (length d.trains))

-- ---- the first train that passes a test

pub record First (test : TrainNo → Bool) (ts : List TrainNo) (u : TrainNo) : Type 0 where
  pub there : In u ts
  pub passes : test u ≡ true
  pub before : (x : TrainNo) → In x ts → x.0 < u.0 → test x ≡ false

first_found : (test : TrainNo → Bool) (ts : List TrainNo) → AreRising ts → (u : TrainNo) → find test ts ≡ Some u → First test ts u
first_found test [] rise u e = absurd (cc)
first_found test (t ∷ ts) rise u e = go (test t) refl e (first_found test ts rise.1 u)
  where
    go : (b : Bool) → test t ≡ b → cond b (Some t) (find test ts) ≡ Some u → (find test ts ≡ Some u → First test ts u) → First test (t ∷ ts) u
    go true p f later =
        let is : t ≡ u = same f in
        record { there = inl is; passes = ap test (sym is) ∙ p; before = earlier is }
      where
        same : {x y : TrainNo} → Some x ≡ Some y → x ≡ y
        same h = cc

        earlier : t ≡ u → (x : TrainNo) → In x (t ∷ ts) → x.0 < u.0 → test x ≡ false
        earlier is x (inl k) l = let a = ap (λ (y : TrainNo). y.0) k in let b = ap (λ (y : TrainNo). y.0) is in absurd (omega arith)
        earlier is x (inr m) l = let a = rise.0 x m in let b = ap (λ (y : TrainNo). y.0) is in absurd (omega arith)
    go false p f later = let r = later f in record { there = inr r.there; passes = r.passes; before = at r }
      where
        at : First test ts u → (x : TrainNo) → In x (t ∷ ts) → x.0 < u.0 → test x ≡ false
        at r x (inl k) l = sym (ap test k) ∙ p
        at r x (inr m) l = r.before x m l

none_found : (test : TrainNo → Bool) (ts : List TrainNo) → find test ts ≡ None → (x : TrainNo) → In x ts → test x ≡ false
none_found test [] e x m = absurd m
none_found test (t ∷ ts) e x m = go (test t) refl e m (none_found test ts)
  where
    go : (b : Bool) → test t ≡ b → cond b (Some t) (find test ts) ≡ None → In x (t ∷ ts) → (find test ts ≡ None → (x : TrainNo) → In x ts → test x ≡ false) → test x ≡ false
    go true p f k later = absurd (cc)
    go false p f (inl k) later = sym (ap test k) ∙ p
    go false p f (inr k) later = later f x k

module _ (d : Station) where
  later_told : (t u : TrainNo) → is_later_alike d t u ≡ true → AreAlike d t u × (t.0 < u.0)
  later_told t u h = (alike_told d t u (and_right (nat_lt t.0 u.0) _ h), leb-true (suc t.0) u.0 (and_left _ (are_alike d t u) h))

  later_tested : (t u : TrainNo) → AreAlike d t u → t.0 < u.0 → is_later_alike d t u ≡ true
  later_tested t u a l = and_both _ _ (le-leb (suc t.0) u.0 l) (alike_tested d t u a)

  -- ---- among these trains

  module _ (ts : List TrainNo) (rise : AreRising ts) where
    -- both are among them, and none between is that is like the first
    pub record AreNext (t u : TrainNo) : Type 0 where
      pub one : In t ts
      pub other : In u ts
      pub alike : AreAlike d t u
      pub later : t.0 < u.0
      pub next : (x : TrainNo) → In x ts → t.0 < x.0 → x.0 < u.0 → AreAlike d t x → ⊥

    -- the next one that is like t, where u is one
    pub record NextUpTo (t u : TrainNo) : Type 0 where
      pub train : TrainNo
      pub is : next_among d ts t ≡ Some train
      pub next : AreNext t train
      pub up_to : train.0 ≤ u.0

    next_told : (t v : TrainNo) → In t ts → next_among d ts t ≡ Some v → AreNext t v
    next_told t v m e =
        let f = first_found (is_later_alike d t) ts rise v e in
        let k = later_told t v f.passes in
        record {
          one = m;
          other = f.there;
          alike = k.0;
          later = k.1;
          next = λ x i l h a. true≢false (sym (later_tested t x a l) ∙ f.before x i h);
        }

    next_up_to : (t u : TrainNo) → In t ts → In u ts → AreAlike d t u → t.0 < u.0 → NextUpTo t u
    next_up_to t u m i a l = go (next_among d ts t) refl
      where
        go : (o : Option TrainNo) → next_among d ts t ≡ o → NextUpTo t u
        go None e = absurd (true≢false (sym (later_tested t u a l) ∙ none_found (is_later_alike d t) ts e u i))
        go (Some v) e = let n = next_told t v m e in record { train = v; is = e; next = n; up_to = at n (below_or_not u.0 v.0) }
          where
            at : AreNext t v → (u.0 < v.0) ⊎ (v.0 ≤ u.0) → v.0 ≤ u.0
            at n (inl h) = absurd (n.next u i l h a)
            at n (inr h) = h

    -- ---- pairs

    pub of_pair : (p : TrainNo × TrainNo) → In p (neighbors_among d ts) → AreNext p.0 p.1
    of_pair p m = at (in_flat_map_back (λ t. pair_with t (next_among d ts t)) ts p m)
      where
        inside : (t : TrainNo) → In t ts → (o : Option TrainNo) → next_among d ts t ≡ o → In p (pair_with t o) → AreNext p.0 p.1
        inside t i None e k = absurd k
        inside t i (Some v) e (inl is) = subst (λ (q : TrainNo × TrainNo). AreNext q.0 q.1) is (next_told t v i e)
        inside t i (Some v) e (inr k) = absurd k

        at : ((t : TrainNo) × In t ts × In p (pair_with t (next_among d ts t))) → AreNext p.0 p.1
        at (t, i, k) = inside t i (next_among d ts t) refl k

    pair_of : (t v : TrainNo) → In t ts → next_among d ts t ≡ Some v → In (t, v) (neighbors_among d ts)
    pair_of t v m e = in_flat_map (λ t. pair_with t (next_among d ts t)) ts t (t, v) m (subst (λ o. In (t, v) (pair_with t o)) (sym e) (inl refl))

    pub from_next : (t u : TrainNo) → AreNext t u → In (t, u) (neighbors_among d ts)
    from_next t u n =
        let k = next_up_to t u n.one n.other n.alike n.later in
        let is : u ≡ k.train = same_train u k.train (at k (below_or_not k.train.0 u.0)) in
        subst (λ v. In (t, v) (neighbors_among d ts)) (sym is) (pair_of t k.train n.one k.is)
      where
        at : (k : NextUpTo t u) → (k.train.0 < u.0) ⊎ (u.0 ≤ k.train.0) → u.0 ≡ k.train.0
        at k (inl h) = let f = k.next in absurd (n.next k.train f.other f.later h f.alike)
        at k (inr h) = let l = k.up_to in omega arith

    pub pairs_alike : ArePairs d (neighbors_among d ts)
    pairs_alike p m = let n = of_pair p m in (n.alike, n.later)

    -- where neighbors come in turn, all of these trains do
    module _ (plan : List (List Command)) (turn : InTurn (neighbors_among d ts) plan) where
      reaches : (fuel : ℕ) (t u : TrainNo) → In t ts → In u ts → AreAlike d t u → t.0 < u.0 → u.0 ≤ t.0 + fuel → first_step plan t ≤ first_step plan u
      reaches zero t u m i a l h = absurd (omega arith)
      reaches (suc fuel) t u m i a l h = go (next_up_to t u m i a l) (reaches fuel)
        where
          go : NextUpTo t u → ((t u : TrainNo) → In t ts → In u ts → AreAlike d t u → t.0 < u.0 → u.0 ≤ t.0 + fuel → first_step plan t ≤ first_step plan u) → first_step plan t ≤ first_step plan u
          go k again =
              let one = turn (t, k.train) (pair_of t k.train m k.is) in
              at k one (below_or_not k.train.0 u.0)
            where
              at : (k : NextUpTo t u) → first_step plan t ≤ first_step plan k.train → (k.train.0 < u.0) ⊎ (u.0 ≤ k.train.0) → first_step plan t ≤ first_step plan u
              at k one (inl b) =
                  let f = k.next in
                  let more = again k.train u f.other i (like_on d k.train t u (like_back d t k.train f.alike) a) b (let j = f.later in omega arith) in
                  omega arith
              at k one (inr b) = subst (λ x. first_step plan t ≤ first_step plan x) (same_train k.train u (let j = k.up_to in omega arith)) one

      pub these_in_turn : (t u : TrainNo) → In t ts → In u ts → AreAlike d t u → t.0 < u.0 → first_step plan t ≤ first_step plan u
      these_in_turn t u m i a l = reaches u.0 t u m i a l (omega arith)

  -- ---- among all trains

  pub neighbors_exactly : (t u : TrainNo) → In (t, u) (neighbors d) ↔ AreNeighbors d t u
  neighbors_exactly t u = (
    λ m. let n = of_pair (trains d) (trains_rise d) (t, u) m in record { alike = n.alike; later = n.later; next = λ x l h a. n.next x (in_trains d x a.other) l h a },
    λ n. let a = n.alike in from_next (trains d) (trains_rise d) t u (record {
      one = in_trains d t a.one;
      other = in_trains d u a.other;
      alike = a;
      later = n.later;
      next = λ x i l h b. n.next x l h b;
    }),
  )

  pub neighbors_alike : ArePairs d (neighbors d)
  neighbors_alike = pairs_alike (trains d) (trains_rise d)

  pub neighbors_named : AreNamed d (neighbors d)
  neighbors_named p m = let a = (neighbors_alike p m).0 in (a.one, a.other)

  pub all_in_turn : (plan : List (List Command)) → InTurn (neighbors d) plan → AllInTurn d plan
  all_in_turn plan turn t u a l = these_in_turn (trains d) (trains_rise d) plan turn t u (in_trains d t a.one) (in_trains d u a.other) a l

  pub all_come_in_turn : (n : ℕ) (plan : List (List Command)) → IsFeasible d n plan → HasAllInTurn d n
  all_come_in_turn n plan f =
      let k = has_in_turn d n (neighbors d) neighbors_alike plan f in
      record { plan = k.plan; feasible = k.feasible; in_turn = all_in_turn k.plan k.in_turn }
