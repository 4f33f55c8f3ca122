-- The lines that a solver records are a run log.
use Rattle.std.proofs.Common.{◌≡◌, ℕ, zero, suc, ◌+◌, ◌-◌, ◌<◌, ◌≤◌, Bool, true, false, ◌&&◌, List, [], ◌∷◌, ◌++◌, map, length, nat_le, nat_lt, Option, Some, None, Result, ◌⊎◌, inl, inr, refl, sym, ap, ◌∙◌, subst, arith, length-append, if◌then◌else◌, slice_get, slice_index}
use Rattle.std.specs.Prelude.{IsSome}
use Rattle.std.specs.List.{list_all}
use Rattle.std.proofs.lemmas.Bool.Decides.{nat_tests}
use Rattle.bound_spec.specs.declared.Evidence.{Evidence}
use Rattle.bound_spec.specs.declared.EvidenceFault.{EvidenceFault}
use Rattle.proof_log.specs.declared.head.Head.{Head}
use Rattle.clause_spec.specs.declared.question.VariableCounts.{VariableCounts}
use Rattle.sat_clause.specs.declared.lit.Lit.{Lit}
use Rattle.sat_clause.specs.declared.follow.Follow.{Follow}
use Rattle.sat_clause.specs.declared.follow.Follow.TheVariants.{Yes}
use Rattle.sat_clause.specs.Clauses.{Store, live_clause, if_live, opposite, without}
use Rattle.sat_clause.specs.Closed.{IsNew}
use Rattle.sat_clause.specs.Hints.{same_lit, is_assigned, open_lits, unit_of, at_last, at_unit, at_clause, where_last, follow_from, follow_of}
use Rattle.sat_trail.specs.Standing.{IsIncreasing, variables, AllStand}
use Rattle.sat_trail.proofs.Members.{or-left, or-right, same-self, assigned-one, assigned-self, assigned-opposites, opposite-twice}
use Rattle.sat_core.specs.Answers.{IsFinal, IsLearntBeyond}
use Rattle.sat_core.specs.Lines.{Derived, Entry, AllNew, MayForget, with_lines, after_entry, learnt_after}
use Rattle.sat_core.proofs.Forgets.{live-less, without-length}
use Rattle.sat_core.specs.Runs.{MayFollow}
use Rattle.proof_log.specs.declared.line.Line.TheVariants.{Forget}
use Rattle.proof_log.specs.Lines.{is_increasing}
use Rattle.proof_log.specs.Text.{keeps_grammar}
use Rattle.proof_log.specs.Words.{greatest_variable, greatest_clause_number, is_from_1_to}
use Rattle.log_checker.specs.Verdict.{steps_denied, step_denied}
use Rattle.log_recorder.specs.Logs.{IsInner, LogLine, log_line_of, by_step, with_log, IsGoodLine, GoesOn, IsLast, IsGoodForget, AllGoOn, MayComeNext}
use Rattle.sat_core.proofs.Sound.{live-append}

-- ---- the hints of a clause that follows are numbers of clauses

pub numbered : (store : Store) (h : ℕ) (c : List Lit) → live_clause store h ≡ Some c → (1 ≤ h) × (h ≤ length store)
numbered store zero c e = absurd (cc)
numbered store (suc i) c e = (omega arith, within store i c e)
  where
    within : (s : Store) (j : ℕ) (d : List Lit) → if_live (slice_get s j) ≡ Some d → suc j ≤ length s
    within [] j d e = absurd (cc)
    within (x ∷ xs) zero d e = omega arith
    within (x ∷ xs) (suc j) d e = let r = within xs j d e in omega arith

from_1_to : (greatest number : ℕ) → 1 ≤ number → number ≤ greatest → is_from_1_to greatest number ≡ true
from_1_to greatest number low high = grind (arith, nat_tests)

hint-numbered : (store : Store) (greatest : ℕ) (assigned : List Lit) (h : ℕ) (hs : List ℕ) (o : Option (List Lit)) (next : List Lit → Lit → Follow) → length store ≤ greatest → live_clause store h ≡ o
    → at_clause o (λ c. where_last hs (at_last (open_lits assigned c)) (at_unit (unit_of assigned c) (next c))) ≡ Yes → ((c : List Lit) (l : Lit) → next c l ≡ Yes → list_all (is_from_1_to greatest) hs ≡ true)
    → list_all (is_from_1_to greatest) (h ∷ hs) ≡ true
hint-numbered store greatest assigned h hs None next few e y rec = absurd (cc)
hint-numbered store greatest assigned h [] (Some c) next few e y rec = let n = numbered store h c e in rw (from_1_to greatest h n.0 (omega (arith, n.1))) refl
hint-numbered store greatest assigned h (k ∷ ks) (Some c) next few e y rec = by (unit_of assigned c) y
  where
    by : (u : Option Lit) → at_unit u (next c) ≡ Yes → list_all (is_from_1_to greatest) (h ∷ k ∷ ks) ≡ true
    by None z = absurd (cc)
    by (Some l) z = (let n = numbered store h c e in rw (from_1_to greatest h n.0 (omega (arith, n.1))) (rec c l z))

hints-numbered : (store : Store) (greatest : ℕ) (assigned : List Lit) (hints : List ℕ) → length store ≤ greatest → follow_from store assigned hints ≡ Yes → list_all (is_from_1_to greatest) hints ≡ true
hints-numbered store greatest assigned [] few y = refl
hints-numbered store greatest assigned (h ∷ hs) few y = hint-numbered store greatest assigned h hs (live_clause store h) (λ c l. follow_from store (assigned ++ l ∷ []) hs) few refl y (λ c l z. hints-numbered store greatest (assigned ++ l ∷ []) hs few z)

-- ---- the literals of live clauses are of variables up to the last one, and none says that all is given by the last step

abbrev pub IsBelow : VariableCounts → List Lit → Type 0
IsBelow vs clause = (l : Lit) → is_assigned clause l ≡ true → IsInner vs l

-- so it is with each live clause
abbrev pub AllBelow : VariableCounts → Store → Type 0
AllBelow vs store = (id : ℕ) (c : List Lit) → live_clause store id ≡ Some c → IsBelow vs c

-- and with one clause more
pub below-more : (vs : VariableCounts) (store : Store) (c : List Lit) → AllBelow vs store → IsBelow vs c → AllBelow vs (store ++ (c, true) ∷ [])
below-more vs store c a b id d live = elim (live-append store c id d live) [ inl p ↦ a id d p | inr q ↦ subst (IsBelow vs) (sym q) b ]

standing-below : (vs : VariableCounts) (store : Store) (clause : List Lit) → AllBelow vs store → AllStand store clause → IsBelow vs clause
standing-below vs store clause a s l h = let t = s l h in a t.id t.clause t.is_live l t.member

-- and with one fewer
pub below-less : (vs : VariableCounts) (store : Store) (id : ℕ) → AllBelow vs store → AllBelow vs (without store id)
below-less vs store id a k c live = a k c (live-less store id k c live)

-- learnt clauses are of literals of the clauses before them
pub all-below : (vs : VariableCounts) (assumptions : List Lit) (store : Store) (learnt : List ℕ) (more : List Entry) → AllBelow vs store → AllNew assumptions store learnt more → AllBelow vs (with_lines store more)
all-below vs assumptions store learnt [] a h = a
all-below vs assumptions store learnt (inl d ∷ es) a h =
    all-below vs assumptions (after_entry store (inl d)) (learnt_after store learnt (inl d)) es (below-more vs store d.0 a (standing-below vs store d.0 a h.0.0.stand)) h.1
all-below vs assumptions store learnt (inr id ∷ es) a h = all-below vs assumptions (after_entry store (inr id)) learnt es (below-less vs store id a) h.1

-- ---- a clause keeps the grammar

increasing-tail : (l m : Lit) (ls : List Lit) → IsIncreasing (l ∷ m ∷ ls) → IsIncreasing (m ∷ ls)
increasing-tail l m ls i k h =
    let e : suc k + 1 ≡ suc (k + 1) = omega arith in
    subst (λ j. slice_index (variables (l ∷ m ∷ ls)) (suc k) < slice_index (variables (l ∷ m ∷ ls)) j) e (i (suc k) (omega (arith, h)))

increasing-test : (clause : List Lit) → IsIncreasing clause → is_increasing clause ≡ true
increasing-test [] i = refl
increasing-test (l ∷ []) i = refl
increasing-test (l ∷ m ∷ ls) i =
    let first : l.var < m.var = i 0 (omega arith) in
    let test : nat_lt l.var m.var ≡ true = grind (arith, nat_tests) in
    rw test (increasing-test (m ∷ ls) (increasing-tail l m ls i))

assigned-first : (l : Lit) (ls : List Lit) → is_assigned (l ∷ ls) l ≡ true
assigned-first l ls = or-left (same_lit l l) (is_assigned ls l) (same-self l)

-- its variables are from 1 up to the last one
abbrev IsUpTo : ℕ → List Lit → Type 0
IsUpTo vars clause = (l : Lit) → is_assigned clause l ≡ true → (1 ≤ l.var) × (l.var ≤ vars)

up-to-tail : (vars : ℕ) (l : Lit) (ls : List Lit) → IsUpTo vars (l ∷ ls) → IsUpTo vars ls
up-to-tail vars l ls b k h = b k (or-right (same_lit k l) (is_assigned ls k) h)

below-up-to : (vs : VariableCounts) (clause : List Lit) → IsBelow vs clause → IsUpTo vs.count clause
below-up-to vs clause b l h = let p = b l h in (p.low, p.high)

variables-written : (vars : ℕ) (clause : List Lit) → vars ≤ greatest_variable → IsUpTo vars clause → list_all (λ l. is_from_1_to greatest_variable l.var) clause ≡ true
variables-written vars [] most b = refl
variables-written vars (l ∷ ls) most b =
    let p = b l (assigned-first l ls) in
    rw (from_1_to greatest_variable l.var p.0 (omega (arith, p.1))) (variables-written vars ls most (up-to-tail vars l ls b))

variables-within : (vars : ℕ) (clause : List Lit) → IsUpTo vars clause → list_all (λ l. nat_le l.var vars) clause ≡ true
variables-within vars [] b = refl
variables-within vars (l ∷ ls) b =
    let p = b l (assigned-first l ls) in
    let high = p.1 in
    let test : nat_le l.var vars ≡ true = grind (arith, nat_tests) in
    rw test (variables-within vars ls (up-to-tail vars l ls b))

good-line : (vars : ℕ) (store : Store) (clause : List Lit) (hints : List ℕ) → vars ≤ greatest_variable → length store ≤ greatest_clause_number → IsUpTo vars clause → follow_of store clause hints ≡ Yes → IsIncreasing clause → IsGoodLine vars store (clause, hints)
good-line vars store clause hints most few b f i = record {
  follows = f;
  written = rw (increasing-test clause i, variables-written vars clause most b, hints-numbered store greatest_clause_number (map opposite clause) hints few f) refl;
  within = variables-within vars clause b;
}

-- ---- it says that there is no plan of all steps only where it is empty

denied-number : (steps k n : ℕ) (b : Bool) → (if b then Some k else None) ≡ Some n → k ≡ n
denied-number steps k n true e = cc
denied-number steps k n false e = absurd (cc)

not-denied : (vs : VariableCounts) (clause : List Lit) → 1 ≤ vs.steps → IsBelow vs clause → (clause ≡ [] → ⊥) → steps_denied vs clause ≡ Some vs.steps → ⊥
not-denied vs [] some b ne e = ne refl
not-denied vs (l ∷ m ∷ more) some b ne e = cc
not-denied vs (l ∷ []) some b ne e =
    let p = b l (assigned-first l []) in
    let step : ℕ = l.var - vs.before_selectors in
    let at : step ≡ vs.steps = denied-number vs.steps step vs.steps (l.negated && nat_le 1 step && nat_le step vs.steps) e in
    p.not_last (omega (arith, at))

new-some : (store : Store) (clause : List Lit) → IsNew store clause → clause ≡ [] → ⊥
new-some store [] n e = let h = n.2.one in cc
new-some store (l ∷ ls) n e = cc

-- ---- that a plan is given by step k is assumed

-- no live clause is this one
abbrev pub IsUnknown : Store → List Lit → Type 0
IsUnknown store clause = (id : ℕ) → live_clause store id ≡ Some clause → ⊥

-- each literal is that one, so there is at most one
one-negated : (e l m : Lit) (ls : List Lit) → IsIncreasing (l ∷ m ∷ ls) → ((k : Lit) → is_assigned (map opposite (l ∷ m ∷ ls)) k ≡ true → is_assigned (e ∷ []) k ≡ true) → ⊥
one-negated e l m ls i only =
    let first = assigned-one e (opposite l) (only (opposite l) (assigned-opposites (l ∷ m ∷ ls) l (assigned-first l (m ∷ ls)))) in
    let second = assigned-one e (opposite m) (only (opposite m) (assigned-opposites (l ∷ m ∷ ls) m (or-right (same_lit m l) (is_assigned (m ∷ ls) m) (assigned-first m ls)))) in
    let rises : l.var < m.var = i 0 (omega arith) in
    let same : l.var ≡ m.var = ap (λ (z : Lit). z.var) (first ∙ sym second) in
    omega arith

-- a clause of negated assumptions is empty, or the negation of the one assumption
negated-one : (e : Lit) (clause : List Lit) → IsIncreasing clause → ((k : Lit) → is_assigned (map opposite clause) k ≡ true → is_assigned (e ∷ []) k ≡ true) → (clause ≡ []) ⊎ (clause ≡ opposite e ∷ [])
negated-one e [] i only = inl refl
negated-one e (l ∷ []) i only =
    let first = assigned-one e (opposite l) (only (opposite l) (assigned-opposites (l ∷ []) l (assigned-first l []))) in
    inr (ap (λ z. z ∷ []) (sym (opposite-twice l) ∙ ap opposite first))
negated-one e (l ∷ m ∷ ls) i only = absurd (one-negated e l m ls i only)

-- the negation of e(k) says that there is no plan of k steps
pub denies-step : (vs : VariableCounts) (k : ℕ) → 1 ≤ k → k ≤ vs.steps → steps_denied vs (opposite (by_step vs k) ∷ []) ≡ Some k
denies-step vs k low high =
    let at : vs.before_selectors + k - vs.before_selectors ≡ k = omega arith in
    let first : nat_le 1 k ≡ true = grind (arith, nat_tests) in
    let last : nat_le k vs.steps ≡ true = grind (arith, nat_tests) in
    ap (step_denied vs.steps (opposite (by_step vs k))) at ∙ rw (first, last) refl

-- no line before the last is the negation of the assumption
beyond-one : (e : Lit) (clause : List Lit) → (l : Lit) × (is_assigned clause l ≡ true) × (is_assigned (e ∷ []) (opposite l) ≡ false) → clause ≡ opposite e ∷ [] → ⊥
beyond-one e clause b same =
    let at : b.0 ≡ opposite e = assigned-one (opposite e) b.0 (subst (λ (c : List Lit). is_assigned c b.0 ≡ true) same b.1) in
    let own : opposite b.0 ≡ e = ap opposite at ∙ opposite-twice e in
    let assigned : is_assigned (e ∷ []) (opposite b.0) ≡ true = subst (λ (z : Lit). is_assigned (e ∷ []) z ≡ true) (sym own) (assigned-self e) in
    let none = b.2 in
    absurd (cc)

pub unknown-stays : (e : Lit) (store : Store) (learnt : List ℕ) (more : List Entry) → AllNew (e ∷ []) store learnt more → IsUnknown store (opposite e ∷ []) → IsUnknown (with_lines store more) (opposite e ∷ [])
unknown-stays e store learnt [] h u = u
unknown-stays e store learnt (inl d ∷ es) h u =
    unknown-stays e (after_entry store (inl d)) (learnt_after store learnt (inl d)) es h.1
    (λ id live. elim (live-append store d.0 id (opposite e ∷ []) live) [ inl p ↦ u id p | inr q ↦ beyond-one e d.0 h.0.1 (sym q) ])
unknown-stays e store learnt (inr id ∷ es) h u = unknown-stays e (after_entry store (inr id)) learnt es h.1 (λ k live. u k (live-less store id k (opposite e ∷ []) live))

pub le-split : (k n : ℕ) → k ≤ n → (k < n) ⊎ (k ≡ n)
le-split zero zero h = inr refl
le-split zero (suc n) h = inl (omega arith)
le-split (suc k) zero h = absurd (omega arith)
le-split (suc k) (suc n) h = elim (le-split k n (omega arith)) [ inl p ↦ inl (omega arith) | inr q ↦ inr (ap suc q) ]

-- ---- one line

module _ (vs : VariableCounts) (most : vs.count ≤ greatest_variable) (some : 1 ≤ vs.steps) where
  -- a learnt clause goes on
  pub goes-on : (assumptions : List Lit) (store : Store) (d : Derived) → length store ≤ greatest_clause_number → AllBelow vs store → IsLearntBeyond store assumptions d.0 d.1 → GoesOn vs store d
  goes-on assumptions store d few a l =
      let b = standing-below vs store d.0 a l.0.stand in record {
        good = good-line vs.count store d.0 d.1 most few (below-up-to vs d.0 b) l.0.follows l.0.increasing;
        is_new = inl l.0.is_new;
        not_last = not-denied vs d.0 some b (new-some store d.0 l.0.is_new);
      }

  -- a derived clause that may be forgotten
  good-forget : (store : Store) (learnt : List ℕ) (id : ℕ) → length store ≤ greatest_clause_number → MayForget store learnt id → IsGoodForget store learnt id
  good-forget store learnt id few may = record { may = may; written = by (live_clause store id) refl may.is_live }
    where
      by : (o : Option (List Lit)) → live_clause store id ≡ o → IsSome o → keeps_grammar (Forget (id ∷ [])) ≡ true
      by None e h = absurd (cc)
      by (Some c) e h = (let m = numbered store id c e in rw (from_1_to greatest_clause_number id m.0 (omega (arith, m.1))) refl)

  -- the last clause of a round is empty, or denies the steps that were assumed
  module _ (store : Store) (few : length store ≤ greatest_clause_number) where
    empty-last : (hints : List ℕ) → follow_of store [] hints ≡ Yes → IsLast vs store ([], hints)
    empty-last hints f = record { good = good-line vs.count store [] hints most few (λ l h. absurd (cc)) f (λ i h. absurd (omega arith)); last = refl }

    denial-good : (k : ℕ) (hints : List ℕ) → 1 ≤ k → k ≤ vs.steps → vs.before_selectors + vs.steps ≤ vs.count → follow_of store (opposite (by_step vs k) ∷ []) hints ≡ Yes → IsIncreasing (opposite (by_step vs k) ∷ []) → IsGoodLine vs.count store (opposite (by_step vs k) ∷ [], hints)
    denial-good k hints low high wide f i = good-line vs.count store (opposite (by_step vs k) ∷ []) hints most few up f i
      where
        up : IsUpTo vs.count (opposite (by_step vs k) ∷ [])
        up l h = (let at : l.var ≡ vs.before_selectors + k = ap (λ (z : Lit). z.var) (assigned-one (opposite (by_step vs k)) l h) in (omega arith, omega arith))

    denial-goes-on : (k : ℕ) (hints : List ℕ) → 1 ≤ k → k < vs.steps → vs.before_selectors + vs.steps ≤ vs.count → IsUnknown store (opposite (by_step vs k) ∷ []) → IsGoodLine vs.count store (opposite (by_step vs k) ∷ [], hints) → GoesOn vs store (opposite (by_step vs k) ∷ [], hints)
    denial-goes-on k hints low high wide unknown good =
        let denied = denies-step vs k low (omega arith) in record {
          good = good;
          is_new = inr (record { steps = k; denied = denied; unknown = unknown });
          not_last = λ e. (let same : Some k ≡ Some vs.steps = sym denied ∙ e in let at : k ≡ vs.steps = cc in omega arith);
        }

  -- a clause of negated assumptions goes on, or is the last
  pub final-may-come : (store : Store) (k : ℕ) (d : Derived) → length store ≤ greatest_clause_number → 1 ≤ k → k ≤ vs.steps → vs.before_selectors + vs.steps ≤ vs.count → (k < vs.steps → IsUnknown store (opposite (by_step vs k) ∷ []))
      → IsFinal store (by_step vs k ∷ []) d.0 d.1 → GoesOn vs store d ⊎ IsLast vs store d
  final-may-come store k (clause, hints) few low high wide unknown f = elim (negated-one (by_step vs k) clause f.increasing f.only) [
    | inl p ↦ inr (subst (λ (c : List Lit). IsLast vs store (c, hints)) (sym p) (empty-last store few hints (subst (λ (c : List Lit). follow_of store c hints ≡ Yes) p f.follows)))
    | inr q ↦ subst (λ (c : List Lit). GoesOn vs store (c, hints) ⊎ IsLast vs store (c, hints)) (sym q)
        (denial (denial-good store few k hints low high wide (subst (λ (c : List Lit). follow_of store c hints ≡ Yes) q f.follows) (subst IsIncreasing q f.increasing)))
  ]
    where
      denial : IsGoodLine vs.count store (opposite (by_step vs k) ∷ [], hints) → GoesOn vs store (opposite (by_step vs k) ∷ [], hints) ⊎ IsLast vs store (opposite (by_step vs k) ∷ [], hints)
      denial good = elim (le-split k vs.steps high) [
        | inl p ↦ inl (denial-goes-on store few k hints low p wide (unknown p) good)
        | inr q ↦ inr (record { good = good; last = denies-step vs k low high ∙ ap Some q })
      ]

  -- it is the last where it is empty, or denies all steps
  pub final-last : (store : Store) (k : ℕ) (d : Derived) → length store ≤ greatest_clause_number → 1 ≤ k → k ≤ vs.steps → vs.before_selectors + vs.steps ≤ vs.count → (d.0 ≡ []) ⊎ (k ≡ vs.steps) → IsFinal store (by_step vs k ∷ []) d.0 d.1 → IsLast vs store d
  final-last store k (clause, hints) few low high wide which f = elim (negated-one (by_step vs k) clause f.increasing f.only) [
    | inl p ↦ subst (λ (c : List Lit). IsLast vs store (c, hints)) (sym p) (empty-last store few hints (subst (λ (c : List Lit). follow_of store c hints ≡ Yes) p f.follows))
    | inr q ↦ subst (λ (c : List Lit). IsLast vs store (c, hints)) (sym q)
        (denial (denial-good store few k hints low high wide (subst (λ (c : List Lit). follow_of store c hints ≡ Yes) q f.follows) (subst IsIncreasing q f.increasing)) (elim which [ inl e ↦ absurd (none q e) | inr e ↦ e ]))
  ]
    where
      none : clause ≡ opposite (by_step vs k) ∷ [] → clause ≡ [] → ⊥
      none q e = (let z : opposite (by_step vs k) ∷ [] ≡ [] = sym q ∙ e in cc)

      denial : IsGoodLine vs.count store (opposite (by_step vs k) ∷ [], hints) → k ≡ vs.steps → IsLast vs store (opposite (by_step vs k) ∷ [], hints)
      denial good all = record { good = good; last = denies-step vs k low high ∙ ap Some all }

  -- and it goes on where it is not empty, and denies fewer steps
  pub final-goes-on : (store : Store) (k : ℕ) (d : Derived) → length store ≤ greatest_clause_number → 1 ≤ k → k < vs.steps → vs.before_selectors + vs.steps ≤ vs.count → (d.0 ≡ [] → ⊥) → IsUnknown store (opposite (by_step vs k) ∷ []) → IsFinal store (by_step vs k ∷ []) d.0 d.1
      → GoesOn vs store d × (d.0 ≡ opposite (by_step vs k) ∷ [])
  final-goes-on store k (clause, hints) few low less wide some unknown f = elim (negated-one (by_step vs k) clause f.increasing f.only) [
    | inl p ↦ absurd (some p)
    | inr q ↦ (
      subst (λ (c : List Lit). GoesOn vs store (c, hints)) (sym q)
          (denial-goes-on store few k hints low less wide unknown (denial-good store few k hints low (omega arith) wide (subst (λ (c : List Lit). follow_of store c hints ≡ Yes) q f.follows) (subst IsIncreasing q f.increasing))),
      q,
    )
  ]

  -- ---- all lines

  length-lines : (store : Store) (more : List Entry) → length store ≤ length (with_lines store more)
  length-lines store [] = omega arith
  length-lines store (inl d ∷ es) = let r = length-lines (after_entry store (inl d)) es in let a = length-append store ((d.0, true) ∷ []) in omega arith
  length-lines store (inr id ∷ es) = let r = length-lines (after_entry store (inr id)) es in let a = without-length store id in omega arith

  -- what a solver records goes on, whatever cones are refuted
  pub all-go-on : (head : Head) (refute : Evidence → Result (List Lit) EvidenceFault) (assumptions : List Lit) (store : Store) (learnt : List ℕ) (more : List Entry) → length (with_lines store more) ≤ greatest_clause_number → AllBelow vs store → AllNew assumptions store learnt more → AllGoOn head refute vs store learnt (map log_line_of more)
  all-go-on head refute assumptions store learnt [] few a h = tt
  all-go-on head refute assumptions store learnt (inl d ∷ es) few a h =
      let size = length-lines store (inl d ∷ es) in (
        goes-on assumptions store d (omega arith) a h.0,
        all-go-on head refute assumptions (after_entry store (inl d)) (learnt_after store learnt (inl d)) es few (below-more vs store d.0 a (standing-below vs store d.0 a h.0.0.stand)) h.1,
      )
  all-go-on head refute assumptions store learnt (inr id ∷ es) few a h =
      let size = length-lines store (inr id ∷ es) in (
        good-forget store learnt id (omega arith) h.0,
        all-go-on head refute assumptions (after_entry store (inr id)) learnt es few (below-less vs store id a) h.1,
      )

  -- a derived line that may follow the lines of a log, where e(k) is assumed, may come next
  pub may-come : (base : Store) (lines : List LogLine) (k : ℕ) (clause : List Lit) (hints : List ℕ) → length (with_log base lines) ≤ greatest_clause_number → AllBelow vs (with_log base lines) → 1 ≤ k → k ≤ vs.steps → vs.before_selectors + vs.steps ≤ vs.count
      → (k < vs.steps → IsUnknown (with_log base lines) (opposite (by_step vs k) ∷ [])) → MayFollow (with_log base lines) (by_step vs k ∷ []) clause hints → MayComeNext base vs lines (clause, hints)
  may-come base lines k clause hints few a low high wide unknown (inl l) = inl (goes-on (by_step vs k ∷ []) (with_log base lines) (clause, hints) few a l)
  may-come base lines k clause hints few a low high wide unknown (inr f) = final-may-come (with_log base lines) k (clause, hints) few low high wide unknown f
