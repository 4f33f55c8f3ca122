-- Where there is a feasible plan, there is one with pairs of trains that are alike in turn.
use Rattle.std.proofs.Common.{◌≡◌, ℕ, zero, suc, ◌+◌, ◌-◌, ◌*◌, ◌≤◌, ◌<◌, ◌⊎◌, inl, inr, Bool, true, false, cond, ◌==◌, List, [], ◌∷◌, length, sum_by, refl, sym, ap, ap₂, subst, ◌∙◌, arith, eqb-true, eq-eqb}
use Rattle.std.proofs.Math.Nat.{add-mul, mul-lt-mul_of_pos_left}
use Rattle.std.proofs.lemmas.List.Sums.{sum_by-cons}
use Rattle.rail_base.specs.declared.station.Station.{Station}
use Rattle.rail_base.specs.declared.station.TrainNo.{TrainNo}
use Rattle.rail_base.specs.declared.plan.Command.{Command}
use Rattle.rail_base.specs.Numbering.{count_from, one_to}
use Rattle.rail_base.specs.Members.{In}
use Rattle.rail_spec.specs.Feasible.{IsFeasible, IsInfeasible}
use Rattle.rail_base.proofs.Members.{below_or_not}
use Rattle.rail_alike.specs.Renaming.{first_step}
use Rattle.rail_alike.specs.Alike.{exchange, exchanged, AreAlike}
use Rattle.rail_alike.specs.Turns.{ArePairs, InTurn, HasInTurn}
use Rattle.rail_alike.proofs.Equivariant.{first_same}
use Rattle.rail_alike.proofs.Exchanging.{renames, first_goes, second_goes, back_again}
use Rattle.rail_alike.proofs.Feasibility.{still_feasible}

-- ---- sums that differ at two numbers

sum_above : (f g : ℕ → ℕ) (a n i : ℕ) → i < a → ((j : ℕ) → (j ≡ i → ⊥) → g j ≡ f j) → sum_by g (count_from a n) ≡ sum_by f (count_from a n)
sum_above f g a zero i l h = refl
sum_above f g a (suc n) i l h =
    let x = sum_by-cons f a (count_from (a + 1) n) in
    let y = sum_by-cons g a (count_from (a + 1) n) in
    let s = sum_above f g (a + 1) n i (omega arith) h in
    let e = h a (λ q. omega arith) in
    omega arith

sum_one : (f g : ℕ → ℕ) (a n i : ℕ) → a ≤ i → i < a + n → ((j : ℕ) → (j ≡ i → ⊥) → g j ≡ f j) → sum_by g (count_from a n) + f i ≡ sum_by f (count_from a n) + g i
sum_one f g a zero i low high h = absurd (omega arith)
sum_one f g a (suc n) i low high h = go (below_or_not a i) (sum_one f g (a + 1) n i)
  where
    go : (a < i) ⊎ (i ≤ a) → (a + 1 ≤ i → i < a + 1 + n → ((j : ℕ) → (j ≡ i → ⊥) → g j ≡ f j) → sum_by g (count_from (a + 1) n) + f i ≡ sum_by f (count_from (a + 1) n) + g i)
        → sum_by g (count_from a (suc n)) + f i ≡ sum_by f (count_from a (suc n)) + g i
    go (inl l) later =
        let x = sum_by-cons f a (count_from (a + 1) n) in
        let y = sum_by-cons g a (count_from (a + 1) n) in
        let s = later (omega arith) (omega arith) h in
        let e = h a (λ q. omega arith) in
        omega arith
    go (inr l) later =
        let x = sum_by-cons f a (count_from (a + 1) n) in
        let y = sum_by-cons g a (count_from (a + 1) n) in
        let s = sum_above f g (a + 1) n i (omega arith) h in
        let same : a ≡ i = omega arith in
        let u = ap f same in
        let v = ap g same in
        omega arith

sum_two : (f g : ℕ → ℕ) (n i j : ℕ) → 1 ≤ i → i < j → j ≤ n → ((k : ℕ) → (k ≡ i → ⊥) → (k ≡ j → ⊥) → g k ≡ f k) → sum_by g (one_to n) + (f i + f j) ≡ sum_by f (one_to n) + (g i + g j)
sum_two f g n i j low less high h =
    let a = sum_one f mid 1 n i low (omega arith) (λ k away. apart k away) in
    let b = sum_one mid g 1 n j (omega arith) (omega arith) (λ k away. from_mid k away) in
    let c = at in
    let e = apart j (λ q. omega arith) in
    omega arith
  where
    mid : ℕ → ℕ
    mid k = cond (k == i) (g k) (f k)

    at : mid i ≡ g i
    at = ap (λ b. cond b (g i) (f i)) (eq-eqb i i refl)

    apart : (k : ℕ) → (k ≡ i → ⊥) → mid k ≡ f k
    apart k away = go (k == i) refl
      where
        go : (b : Bool) → (k == i) ≡ b → cond (k == i) (g k) (f k) ≡ f k
        go true e = absurd (away (eqb-true k i e))
        go false e = ap (λ b. cond b (g k) (f k)) e

    from_mid : (k : ℕ) → (k ≡ j → ⊥) → g k ≡ mid k
    from_mid k away = go (k == i) refl
      where
        go : (b : Bool) → (k == i) ≡ b → g k ≡ cond (k == i) (g k) (f k)
        go true e = sym (ap (λ b. cond b (g k) (f k)) e)
        go false e = h k (λ q. false_is (sym (eq-eqb k i q) ∙ e)) away ∙ sym (ap (λ b. cond b (g k) (f k)) e)
          where
            false_is : true ≡ false → ⊥
            false_is x = cc

-- the greater times the greater, and the smaller times the smaller, is more than crosswise
cross : (m k a b : ℕ) → k < m → b < a → m * b + k * a < m * a + k * b
cross m k a b l h =
    let x = m - k in
    let e : m ≡ k + x = omega arith in
    let s : x * b < x * a = mul-lt-mul_of_pos_left h (omega arith) in
    let p = ap (λ y. y * b) e ∙ add-mul k x b in
    let q = ap (λ y. y * a) e ∙ add-mul k x a in
    omega arith

-- ---- the measure

-- the first steps of all trains, those of earlier trains counted more often
abbrev pub counted : Station → List (List Command) → ℕ → ℕ
counted d plan i = (length d.trains - i) * first_step plan (record { 0 = i })

abbrev pub measure : Station → List (List Command) → ℕ
measure d plan = sum_by (counted d plan) (one_to (length d.trains))

module _ (d : Station) (t u : TrainNo) (alike : AreAlike d t u) (plan : List (List Command)) where
  first_of : (x : TrainNo) → first_step (exchanged t u plan) x ≡ first_step plan (exchange t u x)
  first_of x = sym (ap (first_step (exchanged t u plan)) (back_again t u x)) ∙ first_same d (exchange t u) (renames d t u alike) plan (exchange t u x)

  stays : (k : ℕ) → (k ≡ t.0 → ⊥) → (k ≡ u.0 → ⊥) → counted d (exchanged t u plan) k ≡ counted d plan k
  stays k a b = ap (λ n. (length d.trains - k) * n) (first_of (record { 0 = k }) ∙ ap (first_step plan) (go (k == t.0) refl (k == u.0) refl))
    where
      go : (p : Bool) → (k == t.0) ≡ p → (q : Bool) → (k == u.0) ≡ q → exchange t u (record { 0 = k }) ≡ record { 0 = k }
      go true e q f = absurd (a (eqb-true k t.0 e))
      go false e true f = absurd (b (eqb-true k u.0 f))
      go false e false f = ap₂ (λ (x y : Bool). cond x u (cond y t (record { 0 = k }))) e f

  falls : t.0 < u.0 → first_step plan u < first_step plan t → measure d (exchanged t u plan) < measure d plan
  falls l h =
      let n = length d.trains in
      let low = alike.one.0 in
      let high = alike.other.1 in
      let s = sum_two (counted d plan) (counted d (exchanged t u plan)) n t.0 u.0 low l high stays in
      let x : counted d (exchanged t u plan) t.0 ≡ (n - t.0) * first_step plan u = ap (λ m. (n - t.0) * m) (first_of t ∙ ap (first_step plan) (first_goes t u)) in
      let y : counted d (exchanged t u plan) u.0 ≡ (n - u.0) * first_step plan t = ap (λ m. (n - u.0) * m) (first_of u ∙ ap (first_step plan) (second_goes t u)) in
      let c = cross (n - t.0) (n - u.0) (first_step plan t) (first_step plan u) (omega arith) h in
      omega arith

-- ---- in turn

-- a pair that is not in turn
pub record Out (pairs : List (TrainNo × TrainNo)) (plan : List (List Command)) : Type 0 where
  pub pair : TrainNo × TrainNo
  pub member : In pair pairs
  pub later : first_step plan pair.1 < first_step plan pair.0

pub in_turn_or_out : (pairs : List (TrainNo × TrainNo)) (plan : List (List Command)) → InTurn pairs plan ⊎ Out pairs plan
in_turn_or_out [] plan = inl (λ p m. absurd m)
in_turn_or_out (p ∷ ps) plan = go (below_or_not (first_step plan p.1) (first_step plan p.0)) (in_turn_or_out ps plan)
  where
    go : (first_step plan p.1 < first_step plan p.0) ⊎ (first_step plan p.0 ≤ first_step plan p.1) → InTurn ps plan ⊎ Out ps plan → InTurn (p ∷ ps) plan ⊎ Out (p ∷ ps) plan
    go (inl l) more = inr (record { pair = p; member = inl refl; later = l })
    go (inr l) (inr o) = inr (record { pair = o.pair; member = inr o.member; later = o.later })
    go (inr l) (inl all) = inl each
      where
        each : (q : TrainNo × TrainNo) → In q (p ∷ ps) → first_step plan q.0 ≤ first_step plan q.1
        each q (inl e) = subst (λ (x : TrainNo × TrainNo). first_step plan x.0 ≤ first_step plan x.1) e l
        each q (inr m) = all q m

module _ (d : Station) (n : ℕ) (pairs : List (TrainNo × TrainNo)) (alike : ArePairs d pairs) where
  brought : (fuel : ℕ) (plan : List (List Command)) → IsFeasible d n plan → measure d plan < fuel → HasInTurn d n pairs
  brought zero plan f l = absurd (omega arith)
  brought (suc fuel) plan f l = go (in_turn_or_out pairs plan) (brought fuel)
    where
      go : InTurn pairs plan ⊎ Out pairs plan → ((plan : List (List Command)) → IsFeasible d n plan → measure d plan < fuel → HasInTurn d n pairs) → HasInTurn d n pairs
      go (inl h) again = record { plan = plan; feasible = f; in_turn = h }
      go (inr o) again =
          let a = alike o.pair o.member in
          let t = o.pair.0 in
          let u = o.pair.1 in
          let less = falls d t u a.0 plan a.1 o.later in
          again (exchanged t u plan) (still_feasible d (exchange t u) (renames d t u a.0) n plan f) (omega arith)

  pub has_in_turn : (plan : List (List Command)) → IsFeasible d n plan → HasInTurn d n pairs
  has_in_turn plan f = brought (suc (measure d plan)) plan f (omega arith)

  pub none_in_turn : ((plan : List (List Command)) → IsFeasible d n plan → InTurn pairs plan → ⊥) → IsInfeasible d n
  none_in_turn h plan f = let k = has_in_turn plan f in h k.plan k.feasible k.in_turn
