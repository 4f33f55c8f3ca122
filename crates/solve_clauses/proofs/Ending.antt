-- What the answers of a solver say of the clauses of a text.
use Rattle.std.proofs.Common.{◌≡◌, ℕ, zero, suc, ◌+◌, ◌≤◌, ◌<◌, inl, inr, Bool, true, false, List, [], ◌∷◌, ◌++◌, flat_map, length, Option, Some, None, sym, ap, subst, ◌∙◌, arith, append_assoc, append-nil, length-append, slice_get}
use Rattle.sat_clause.specs.declared.lit.Lit.{Lit}
use Rattle.sat_clause.specs.declared.follow.Follow.TheVariants.{Yes}
use Rattle.sat_clause.specs.Clauses.{Store, live_clause, if_live, without}
use Rattle.sat_clause.specs.Hints.{follow_of}
use Rattle.sat_core.specs.Answers.{IsFinal}
use Rattle.sat_core.specs.Lines.{Derived, Entry, AllNew, with_lines, entry_text, after_entry, learnt_after, derive_count}
use Rattle.sat_core.proofs.Forgets.{without-other, without-length, count-append}
use Rattle.sat_trail.specs.Attached.{is_among}
use Rattle.sat_trail.proofs.Members.{either}
use Rattle.sat_trail.proofs.Rows.{among-append}
use Rattle.std.proofs.lemmas.Bool.{eqb-true}
use Rattle.std.specs.Prelude.{nat_eq}
use Rattle.sat_core.specs.Listing.{text_of_line}
use Rattle.sat_core.specs.Models.{IsModel, HasNoModel, MakesTrue, value_in}
use Rattle.sat_core.specs.Runs.{State, Went, IsRecorded, Ends as AnswerEnds}
use Rattle.sat_core.specs.Texts.{derive_line, has_room}
use Rattle.sat_core.specs.declared.list_recorder.Line.{Line}
use Rattle.sat_core.specs.declared.solver.Answer.{Answer}
use Rattle.sat_core.specs.declared.solver.Answer.TheVariants as answer
use Rattle.solve_clauses.specs.declared.formula.Formula.{Formula}
use Rattle.solve_clauses.specs.Outcomes.{AllFollow, AreRecorded, Ends, outcome_of}
use Rattle.solve_clauses.specs.Replays.{fault_from}

text-push : (xs : List Entry) (d : Derived) → flat_map entry_text (xs ++ inl d ∷ []) ≡ flat_map entry_text xs ++ derive_line d.0 d.1
text-push [] d = append-nil (derive_line d.0 d.1)
text-push (y ∷ ys) d = ap (λ z. entry_text y ++ z) (text-push ys d) ∙ sym (append_assoc (entry_text y) (flat_map entry_text ys) (derive_line d.0 d.1))

-- new lines follow
new-follow : (store : Store) (learnt : List ℕ) (es : List Entry) → AllNew [] store learnt es → AllFollow store es
new-follow store learnt [] a = tt
new-follow store learnt (inl d ∷ es) a = (a.0.0.follows, new-follow (after_entry store (inl d)) (learnt_after store learnt (inl d)) es a.1)
new-follow store learnt (inr id ∷ es) a = (a.0.is_live, new-follow (after_entry store (inr id)) learnt es a.1)

-- and one more that follows
one-more : (store : Store) (es : List Entry) (d : Derived) → AllFollow store es → follow_of (with_lines store es) d.0 d.1 ≡ Yes → AllFollow store (es ++ inl d ∷ [])
one-more store [] d a h = (h, tt)
one-more store (x ∷ xs) d a h = (a.0, one-more (after_entry store x) xs d a.1 h)

-- what makes the clauses true with those of lines makes the clauses true
live-more : (store : Store) (e : List Lit × Bool) (i : ℕ) (c : List Lit) → if_live (slice_get store i) ≡ Some c → if_live (slice_get (store ++ e ∷ []) i) ≡ Some c
live-more [] e i c h = absurd (cc)
live-more (x ∷ xs) e zero c h = h
live-more (x ∷ xs) e (suc i) c h = live-more xs e i c h

still-live : (store : Store) (e : List Lit × Bool) (id : ℕ) (c : List Lit) → live_clause store id ≡ Some c → live_clause (store ++ e ∷ []) id ≡ Some c
still-live store e zero c h = absurd (cc)
still-live store e (suc i) c h = live-more store e i c h

-- the numbers are greater than this one
abbrev Above : ℕ → List ℕ → Type 0
Above n ids = (k : ℕ) → is_among ids k ≡ true → n < k

above-push : (n m : ℕ) (ids : List ℕ) → n < m → Above n ids → Above n (ids ++ m ∷ [])
above-push n m ids h a k q = elim (either (is_among ids k) (is_among (m ∷ []) k) (sym (among-append ids (m ∷ []) k) ∙ q)) [
  | inl r ↦ a k r
  | inr r ↦ elim (either (nat_eq k m) false r) [ inl t ↦ (let e = eqb-true k m t in omega arith) | inr f ↦ absurd (cc) ]
]

-- a clause that was there first is never forgotten
prefix-live : (n : ℕ) (store : Store) (learnt : List ℕ) (es : List Entry) (id : ℕ) (c : List Lit) → n ≤ length store → Above n learnt → AllNew [] store learnt es → id ≤ n → live_clause store id ≡ Some c → live_clause (with_lines store es) id ≡ Some c
prefix-live n store learnt [] id c w a g i l = l
prefix-live n store learnt (inl d ∷ es) id c w a g i l =
    let more = length-append store ((d.0, true) ∷ []) in
    prefix-live n (store ++ (d.0, true) ∷ []) (learnt_after store learnt (inl d)) es id c (omega arith) (above-push n (length (store ++ (d.0, true) ∷ [])) learnt (omega arith) a) g.1 i (still-live store (d.0, true) id c l)
prefix-live n store learnt (inr k ∷ es) id c w a g i l =
    let far = a k g.0.is_learnt in
    prefix-live n (without store k) learnt es id c (let m = without-length store k in omega arith) a g.1 i (without-other store k id (λ e. omega arith) ∙ l)

at-within : (store : Store) (i : ℕ) (c : List Lit) → if_live (slice_get store i) ≡ Some c → i < length store
at-within [] i c h = absurd (cc)
at-within (x ∷ xs) zero c h = omega arith
at-within (x ∷ xs) (suc i) c h = let r = at-within xs i c h in omega arith

within : (store : Store) (id : ℕ) (c : List Lit) → live_clause store id ≡ Some c → id ≤ length store
within store zero c h = absurd (cc)
within store (suc i) c h = let r = at-within store i c h in omega arith

prefix-true : (values : ℕ → Bool) (store : Store) (es : List Entry) → AllNew [] store [] es → MakesTrue values (with_lines store es) → MakesTrue values store
prefix-true values store es g t = λ id c live. t id c (prefix-live (length store) store [] es id c (omega arith) (λ k m. absurd (cc)) g (within store id c live) live)

-- a solver that held the clauses and no line, what it listed by its end, and what the check of it found
pub record IsRun (f : Formula) (old new : State) (listed : List Line) (fault : Option ℕ) : Type 0 where
  pub clauses : old.clauses ≡ f.clauses
  pub text : old.text ≡ []
  pub limit : new.limit ≡ None
  pub learnt : old.learnt ≡ []
  pub derives : old.derives ≡ 0
  pub listed_is : new.text ≡ flat_map text_of_line listed
  pub checked : fault_from f.clauses 1 listed ≡ fault

module _ (f : Formula) (old new : State) (listed : List Line) (fault : Option ℕ) (r : IsRun f old new listed fault) where
  module _ (now : State) (more : List Entry) (went : Went [] old now more) where
    clauses_are : now.clauses ≡ with_lines f.clauses more
    clauses_are = went.clauses ∙ ap (λ (z : Store). with_lines z more) r.clauses

    text_is : now.text ≡ flat_map entry_text more
    text_is = went.text ∙ ap (λ t. t ++ flat_map entry_text more) r.text

    all_new : AllNew [] f.clauses [] more
    all_new = subst (λ (z : List ℕ). AllNew [] f.clauses z more) r.learnt (subst (λ (z : Store). AllNew [] z old.learnt more) r.clauses went.all_new)

    follow : AllFollow f.clauses more
    follow = new-follow f.clauses [] more all_new

    count : now.derives ≡ derive_count more
    count = let grown = went.derives in let none = r.derives in omega arith

  recorded_so : (more : List Entry) → Went [] old new more → AreRecorded f.clauses new.derives fault
  recorded_so more went = record {
    entries = more;
    lines = listed;
    count = sym (count new more went);
    follow = follow new more went;
    text = sym r.listed_is ∙ text_is new more went;
    checked = r.checked;
  }

  at_last_so : (now : State) (more : List Entry) (core : List Lit) (hints : List ℕ) → Went [] old now more → IsFinal now.clauses [] core hints → IsRecorded now new core hints → AreRecorded f.clauses new.derives fault
  at_last_so now more core hints went final recorded =
      let grown = count-append more (inl (core, hints) ∷ []) in
      let so_far = count now more went in
      record {
        entries = more ++ inl (core, hints) ∷ [];
        lines = listed;
        count = omega (arith, grown, so_far, recorded.derives);
        follow = one-more f.clauses more (core, hints) (follow now more went) (subst (λ (z : Store). follow_of z core hints ≡ Yes) (clauses_are now more went) final.follows);
        text = sym r.listed_is ∙ (recorded.text ∙ (ap (λ t. t ++ derive_line core hints) (text_is now more went) ∙ sym (text-push more (core, hints))));
        checked = r.checked;
      }

  model_so : (more : List Entry) (values : List Bool) → Went [] old new more → IsModel new.clauses [] f.vars values → IsModel f.clauses [] f.vars values
  model_so more values went m = record {
    total = m.total;
    clauses = prefix-true (value_in values) f.clauses more (all_new new more went) (subst (MakesTrue (value_in values)) (clauses_are new more went) m.clauses);
    assumed = m.assumed;
  }

  -- whatever it answers, what it recorded follows
  pub recorded : (conflicts : ℕ) (a : Answer) → AnswerEnds old new [] f.vars conflicts a → AreRecorded f.clauses new.derives fault × (new.derives ≤ conflicts)
  recorded conflicts (answer.Sat values) e =
      let so_far = count new e.0 e.1 in
      let few : derive_count e.0 ≤ conflicts = e.2 in
      (recorded_so e.0 e.1, omega arith)
  recorded conflicts (answer.Unsat core) e =
      let so_far = count e.1 e.0 e.3 in
      let last = e.6.derives in
      (at_last_so e.1 e.0 core.clause.items e.2 e.3 e.5 e.6, omega (arith, so_far, last, e.4))
  recorded conflicts (answer.Spent clause hints) e =
      let so_far = count new e.0 e.1 in
      let all : derive_count e.0 ≡ conflicts = e.2 in
      (recorded_so e.0 e.1, omega arith)
  recorded conflicts (answer.Full bytes next) e =
      let so_far = count new e.0 e.3 in
      let few : derive_count e.0 < conflicts = e.4 in
      (recorded_so e.0 e.3, omega arith)
  recorded conflicts answer.Memory e =
      let so_far = count new e.0 e.1 in
      let few : derive_count e.0 ≤ conflicts = e.2 in
      (recorded_so e.0 e.1, omega arith)

  -- it is never full
  pub not_full : (conflicts bytes next : ℕ) → AnswerEnds old new [] f.vars conflicts (answer.Full bytes next) → ⊥
  not_full conflicts bytes next e =
      let room = e.8 in
      never new.limit r.limit room
    where
      never : (limit : Option ℕ) → limit ≡ None → has_room limit (bytes + next) ≡ false → ⊥
      never None is h = cc
      never (Some n) is h = cc

-- where the check found no fault the answer stands
pub ends_so : (f : Formula) (old new : State) (listed : List Line) (r : IsRun f old new listed None) (conflicts : ℕ) (a : Answer) → AnswerEnds old new [] f.vars conflicts a → Ends f conflicts (outcome_of a new.derives)
ends_so f old new listed r conflicts (answer.Sat values) e =
    let so = recorded f old new listed None r conflicts (answer.Sat values) e in
    (model_so f old new listed None r e.0 values e.1 e.3, so.0, so.1)
ends_so f old new listed r conflicts (answer.Unsat core) e =
    let so = recorded f old new listed None r conflicts (answer.Unsat core) e in
    (subst (λ (z : Store). HasNoModel z []) r.clauses e.7, so.0, so.1)
ends_so f old new listed r conflicts (answer.Spent clause hints) e =
    let so = recorded f old new listed None r conflicts (answer.Spent clause hints) e in
    (so.0, count f old new listed None r new e.0 e.1 ∙ e.2)
ends_so f old new listed r conflicts (answer.Full bytes next) e = tt
ends_so f old new listed r conflicts answer.Memory e = tt
