-- What the answers of a solver say of a search that goes on.
use Rattle.std.proofs.Common.{◌≡◌, ℕ, ◌+◌, ◌-◌, ◌<◌, ◌≤◌, true, false, List, [], ◌∷◌, ◌++◌, map, flat_map, length, nat_le, Option, Some, None, ◌⊎◌, inl, inr, refl, sym, ap, subst, ◌∙◌, arith, append-nil, length-append}
use Rattle.clause_spec.specs.Clauses.{past_limit}
use Rattle.verify_loop.specs.Quests.{Quest}
use Rattle.proof_log.specs.Heads.{keeps_head}
use Rattle.std.proofs.lemmas.Bool.Decides.{nat_tests}
use Rattle.log_checker.specs.declared.check_result.CheckResult.TheVariants.{Yes}
use Rattle.log_checker.specs.Verdict.{steps_denied}
use Rattle.proof_judge.specs.Judged.{judged, judged_by, refuted, YesIsInfeasible, names_within}
use Rattle.log_recorder.proofs.Accepted.{headed}
use Rattle.rail_text.proofs.Numerals.{number_of-decimal}
use Rattle.verify_loop.proofs.Heading.{judged_so}
use Rattle.verify_loop.proofs.Known.{DeniedIsInfeasible}
use Rattle.proof_log.specs.Words.{greatest_clause_number}
use Rattle.rail_base.specs.declared.plan.Plan.{Plan}
use Rattle.rail_base.specs.declared.station.Station.{Station}
use Rattle.rail_base.specs.Admitted.{IsAdmitted}
use Rattle.rail_spec.specs.Feasible.{IsInfeasible}
use Rattle.log_recorder.specs.declared.text.Text.{Text}
use Rattle.log_recorder.specs.Laws.{EndedRunsAreAccepted, DenialsAreSo}
use Rattle.log_recorder.specs.Logs.{IsInner, LogLine, Learnt, log_line_of, by_step, log_text, with_log, learnt_in, learnt_count, AllGoOn, GoesOn, IsLast}
use Rattle.log_recorder.proofs.Appending.{with_log-append, with_log-lines, learnt_in-append, learnt_in-lines, go-on-append, log_text-append, text-lines, count-lines, evidence-lines}
use Rattle.log_recorder.proofs.Searched.{IsUnknown, all-below, below-more, all-go-on, unknown-stays, denies-step, may-come, final-last, final-goes-on}
use Rattle.sat_clause.specs.declared.lit.Lit.{Lit}
use Rattle.sat_clause.specs.Clauses.{Store, live_clause, opposite}
use Rattle.sat_clause.specs.Hints.{is_assigned}
use Rattle.sat_trail.proofs.Members.{assigned-one}
use Rattle.sat_trail.proofs.Stores.{live-last}
use Rattle.sat_core.specs.Units.{HasUnit}
use Rattle.sat_core.specs.Answers.{IsFinal}
use Rattle.sat_core.specs.Lines.{Derived, Entry, AllNew, with_lines, learnt_with, derive_count, entry_text}
use Rattle.sat_core.specs.Runs.{State, Went, IsRecorded, MayFollow}
use Rattle.sat_core.specs.Texts.{derive_line, has_room}
use Rattle.verify_loop.specs.declared.outcome.Budgets.{Budgets}
use Rattle.verify_loop.specs.Outcomes.{head, first_clauses, base, vars, plans_of, IsLog, IsNextDerived, IsWithin, IsFull, IsProof}
use Rattle.verify_loop.specs.Searching.{AllBelow, IsSearch, state_in}
use Rattle.verify_loop.proofs.Held.{some-same}

module _ (m : Quest) (d : Station) (n : ℕ) (b : Budgets) (some : 1 ≤ n) (store : Store) (recorder : Text) (ids : List ℕ) (solver_vars derives : ℕ) (failed : List Plan) (sum steps : ℕ) (s : IsSearch m d n b store recorder ids solver_vars derives failed sum steps) where
  abbrev old : State
  old = state_in store recorder ids derives

  -- a plan of so many steps is asked for
  abbrev pub assumed : List Lit
  assumed = by_step (vars m d n) steps ∷ []

  wide : (vars m d n).before_selectors + (vars m d n).steps ≤ (vars m d n).count
  wide = omega arith

  module _ (new : State) (more : List Entry) (went : Went assumed old new more) where
    abbrev pub lines : List LogLine
    lines = s.lines ++ map log_line_of more

    longer : with_lines (with_log (base m d n) s.lines) more ≡ with_log (base m d n) lines
    longer = sym (with_log-append (base m d n) s.lines (map log_line_of more) ∙ with_log-lines (with_log (base m d n) s.lines) more)

    pub clauses_are : new.clauses ≡ with_log (base m d n) lines
    clauses_are = went.clauses ∙ (ap (λ (z : Store). with_lines z more) s.clauses ∙ longer)

    all_new : AllNew assumed (with_log (base m d n) s.lines) (learnt_in (base m d n) [] s.lines) more
    all_new = subst (λ (z : Store). AllNew assumed z (learnt_in (base m d n) [] s.lines) more) s.clauses (subst (λ (z : List ℕ). AllNew assumed store z more) s.numbers went.all_new)

    pub numbers_are : new.learnt ≡ learnt_in (base m d n) [] lines
    numbers_are =
        went.learnt ∙ (ap (λ (z : Store). learnt_with z ids more) s.clauses
        ∙ (ap (λ (z : List ℕ). learnt_with (with_log (base m d n) s.lines) z more) s.numbers
        ∙ (sym (learnt_in-lines (with_log (base m d n) s.lines) (learnt_in (base m d n) [] s.lines) more) ∙ sym (learnt_in-append (base m d n) [] s.lines (map log_line_of more)))))

    pub below : AllBelow (vars m d n) (with_log (base m d n) lines)
    below = subst (AllBelow (vars m d n)) longer (all-below (vars m d n) assumed (with_log (base m d n) s.lines) (learnt_in (base m d n) [] s.lines) more s.below all_new)

    pub text_is : new.text ≡ log_text (head m d n) lines
    text_is =
        went.text ∙ (ap (λ t. t ++ flat_map entry_text more) s.log.run.text
        ∙ (ap (λ t. log_text (head m d n) s.lines ++ t) (sym (text-lines more)) ∙ sym (log_text-append (head m d n) s.lines (map log_line_of more))))

    -- where no clause denies these steps before, none does after
    pub unknown : (HasUnit store (opposite (by_step (vars m d n) steps)) → ⊥) → IsUnknown (with_log (base m d n) lines) (opposite (by_step (vars m d n) steps) ∷ [])
    unknown unsaid =
        subst (λ (z : Store). IsUnknown z (opposite (by_step (vars m d n) steps) ∷ [])) longer
        (unknown-stays (by_step (vars m d n) steps) (with_log (base m d n) s.lines) (learnt_in (base m d n) [] s.lines) more all_new (λ id live. unsaid (id, subst (λ (z : Store). live_clause z id ≡ Some (opposite (by_step (vars m d n) steps) ∷ [])) (sym s.clauses) live)))

    module _ (le : length new.clauses ≤ greatest_clause_number) where
      pub few : length (with_log (base m d n) lines) ≤ greatest_clause_number
      few = let same = ap length clauses_are in omega arith

      pub go_on : AllGoOn (head m d n) (refuted m.base d n) (vars m d n) (base m d n) [] lines
      go_on =
          let same = ap length longer in
          let short = few in
          go-on-append (head m d n) (refuted m.base d n) (vars m d n) (base m d n) [] s.lines (map log_line_of more) s.log.run.go_on
          (all-go-on (vars m d n) s.below_2_32 some (head m d n) (refuted m.base d n) assumed (with_log (base m d n) s.lines) (learnt_in (base m d n) [] s.lines) more (omega arith) s.below all_new)

      -- the text is a log of the search
      pub log_so : IsLog m d n lines s.rs new.text
      log_so = record { run = record { text = text_is; go_on = go_on }; of_failed_plans = record { evidence = evidence-lines s.lines more ∙ s.log.of_failed_plans.evidence; refuted = s.log.of_failed_plans.refuted } }

      -- it is within the budgets
      pub within_so : derive_count more ≤ b.conflicts - derives → IsWithin m d n b lines (plans_of s.rs)
      within_so fewer = record {
        derived = (let c = count-lines s.lines more in let now = s.derived in let spent = s.learnt in omega arith);
        timed = (let so = s.cost in let left = s.left in omega arith);
      }

      -- and a line that the solver may derive next is one that may come next
      pub next_so : (steps < n → HasUnit store (opposite (by_step (vars m d n) steps)) → ⊥) → (clause : List Lit) (hints : List ℕ) → MayFollow new.clauses assumed clause hints → IsNextDerived m d n lines (clause, hints)
      next_so unsaid clause hints follow =
          may-come (vars m d n) s.below_2_32 some (base m d n) lines steps clause hints few below s.at_least_one s.at_most_n wide (λ less. unknown (unsaid less)) (subst (λ (z : Store). MayFollow z assumed clause hints) clauses_are follow)

      -- where there is no room for it, the log is full
      pub full_so : (steps < n → HasUnit store (opposite (by_step (vars m d n) steps)) → ⊥) → (clause : List Lit) (hints : List ℕ) (bytes next : ℕ) → derive_count more ≤ b.conflicts - derives → MayFollow new.clauses assumed clause hints → bytes ≡ length new.text → next ≡ length (derive_line clause hints) → has_room new.limit (bytes + next) ≡ false
          → IsFull m d n b new.text bytes next failed
      full_so unsaid clause hints bytes next fewer follow e m none = (
        e,
        past (subst (λ (o : Option ℕ). has_room o (bytes + next) ≡ false) (went.limit ∙ ap Some s.limit) none),
        inr (inr (lines, s.rs, log_so, within_so fewer, inl ((clause, hints), next_so unsaid clause hints follow, m), s.plans)),
      )
        where
          past : nat_le (bytes + next) b.log_bytes ≡ false → b.log_bytes < bytes + next
          past h = grind (arith, nat_tests)

      -- so many clauses are derived
      pub count_so : derive_count more ≡ b.conflicts - derives → learnt_count lines ≡ b.conflicts
      count_so e = let c = count-lines s.lines more in let now = s.derived in let spent = s.learnt in omega arith

  -- the search goes on with more lines
  pub still : (later_store : Store) (later : Text) (later_ids : List ℕ) (later_vars later_derives : ℕ) (more : List Entry) → Went assumed old (state_in later_store later later_ids later_derives) more → derive_count more ≤ b.conflicts - derives → later_vars ≡ solver_vars → length later_store ≤ greatest_clause_number
      → IsSearch m d n b later_store later later_ids later_vars later_derives failed sum steps
  still later_store later later_ids later_vars later_derives more went within same few_left = record {
    lines = lines (state_in later_store later later_ids later_derives) more went;
    rs = s.rs;
    clauses = clauses_are (state_in later_store later later_ids later_derives) more went;
    numbers = numbers_are (state_in later_store later later_ids later_derives) more went;
    log = log_so (state_in later_store later later_ids later_derives) more went few_left;
    limit = some-same later.limit recorder.limit went.limit ∙ s.limit;
    same_vars = same ∙ s.same_vars;
    below_2_32 = s.below_2_32;
    below = below (state_in later_store later later_ids later_derives) more went;
    derived = (let c = count-lines s.lines more in let now = s.derived in let grown = went.derives in omega arith);
    learnt = (let c = count-lines s.lines more in let now = s.derived in let spent = s.learnt in omega arith);
    plans = s.plans;
    cost = s.cost;
    left = s.left;
    at_least_one = s.at_least_one;
    at_most_n = s.at_most_n;
    fewer = s.fewer;
  }

  pub still_rs : (later_store : Store) (later : Text) (later_ids : List ℕ) (later_vars later_derives : ℕ) (more : List Entry) (went : Went assumed old (state_in later_store later later_ids later_derives) more) (within : derive_count more ≤ b.conflicts - derives) (same : later_vars ≡ solver_vars) (few_left : length later_store ≤ greatest_clause_number)
      → (still later_store later later_ids later_vars later_derives more went within same few_left).rs ≡ s.rs
  unfolding still
  still_rs later_store later later_ids later_vars later_derives more went within same few_left = refl

  -- the last line shows that there is no plan of so many steps
  module _ (now new : State) (more : List Entry) (core : List Lit) (hints : List ℕ) (went : Went assumed old now more) (final : IsFinal now.clauses assumed core hints) (recorded : IsRecorded now new core hints) (le : length new.clauses ≤ greatest_clause_number) where
    abbrev before : List LogLine
    before = lines now more went

    fewer : length now.clauses ≤ greatest_clause_number
    fewer = let same = ap length recorded.clauses in let grown = length-append now.clauses ((core, true) ∷ []) in omega arith

    whole : new.text ≡ log_text (head m d n) (before ++ Learnt (core, hints) ∷ [])
    whole =
        recorded.text ∙ (ap (λ t. t ++ derive_line core hints) (text_is now more went)
        ∙ (ap (λ t. log_text (head m d n) before ++ t) (sym (append-nil (derive_line core hints))) ∙ sym (log_text-append (head m d n) before (Learnt (core, hints) ∷ []))))

    final_there : IsFinal (with_log (base m d n) before) assumed core hints
    final_there = subst (λ (z : Store). IsFinal z assumed core hints) (clauses_are now more went) final

    one-more : (ls : List LogLine) (l : Derived) → learnt_count (ls ++ Learnt l ∷ []) ≡ learnt_count ls + 1
    one-more ls l = count-lines ls (inl l ∷ [])

    -- of all n of them
    module _ (which : (core ≡ []) ⊎ (steps ≡ n)) where
      last : IsLast (vars m d n) (with_log (base m d n) before) (core, hints)
      last = final-last (vars m d n) s.below_2_32 some (with_log (base m d n) before) steps (core, hints) (few now more went fewer) s.at_least_one s.at_most_n wide which final_there

      shown_so : keeps_head (head m d n) ≡ true → names_within m.base d ≡ true → past_limit 16000000 0 (first_clauses m d n) ≡ None → EndedRunsAreAccepted → judged d n new.text ≡ Yes n
      shown_so kept named fits accepted =
          let all = before ++ Learnt (core, hints) ∷ [] in
          ap (judged d n) whole ∙ (ap (judged_by d n (log_text (head m d n) all)) (headed number_of-decimal (head m d n) kept all)
          ∙ (judged_so m d n (log_text (head m d n) all) named fits
          ∙ accepted (head m d n) (refuted m.base d n) (vars m d n) (base m d n) before (core, hints) kept (go_on now more went fewer) last))

      pub proof_so : keeps_head (head m d n) ≡ true → names_within m.base d ≡ true → past_limit 16000000 0 (first_clauses m d n) ≡ None → derive_count more < b.conflicts - derives → EndedRunsAreAccepted → IsProof m d n b new.text
      proof_so kept named fits less accepted = record {
        lines = before;
        rs = s.rs;
        ended_log = record { last = (core, hints); text = whole; go_on = go_on now more went fewer; is_last = last };
        of_failed_plans = (log_so now more went fewer).of_failed_plans;
        accepted = shown_so kept named fits accepted;
        within = record {
          derived = (let c = one-more before (core, hints) in let k = count-lines s.lines more in let so = s.derived in let spent = s.learnt in omega arith);
          timed = (let so = s.cost in let left = s.left in omega arith);
        };
      }

      pub infeasible_so : keeps_head (head m d n) ≡ true → names_within m.base d ≡ true → past_limit 16000000 0 (first_clauses m d n) ≡ None → IsAdmitted d → EndedRunsAreAccepted → YesIsInfeasible → IsInfeasible d n
      infeasible_so kept named fits good accepted sound = (sound d good n n new.text some (shown_so kept named fits accepted)).1.1

    -- of these, of which the search goes on with one more
    module _ (not_empty : core ≡ [] → ⊥) (less : steps < n) (unsaid : HasUnit store (opposite (by_step (vars m d n) steps)) → ⊥) where
      goes_on : GoesOn (vars m d n) (with_log (base m d n) before) (core, hints) × (core ≡ opposite (by_step (vars m d n) steps) ∷ [])
      goes_on = final-goes-on (vars m d n) s.below_2_32 some (with_log (base m d n) before) steps (core, hints) (few now more went fewer) s.at_least_one less wide not_empty (unknown now more went unsaid) final_there

      denial-below : (l : Lit) → is_assigned core l ≡ true → IsInner (vars m d n) l
      denial-below l h =
          let e = opposite (by_step (vars m d n) steps) in
          let at : l.var ≡ (vars m d n).before_selectors + steps = ap (λ (z : Lit). z.var) (assigned-one e l (subst (λ (c : List Lit). is_assigned c l ≡ true) goes_on.1 h)) in
          let first = s.at_least_one in
          let fits = wide in
          record { low = omega arith; high = omega arith; not_last = λ q. omega (arith, q, at, less) }

      with_it : with_log (base m d n) before ++ (core, true) ∷ [] ≡ with_log (base m d n) (before ++ Learnt (core, hints) ∷ [])
      with_it = sym (with_log-append (base m d n) before (Learnt (core, hints) ∷ []))

      pub denied_so : (later_store : Store) (later : Text) (later_ids : List ℕ) (later_vars later_derives : ℕ) → new ≡ state_in later_store later later_ids later_derives → derive_count more < b.conflicts - derives → later_vars ≡ solver_vars → IsSearch m d n b later_store later later_ids later_vars later_derives failed sum steps
      denied_so later_store later later_ids later_vars later_derives is within same = record {
        lines = before ++ Learnt (core, hints) ∷ [];
        rs = s.rs;
        clauses = sym (ap (λ (z : State). z.clauses) is) ∙ (recorded.clauses ∙ (ap (λ (z : Store). z ++ (core, true) ∷ []) (clauses_are now more went) ∙ with_it));
        numbers = sym (ap (λ (z : State). z.learnt) is) ∙ (recorded.learnt
            ∙ (ap (λ (z : Store). now.learnt ++ length z ∷ []) (recorded.clauses ∙ ap (λ (z : Store). z ++ (core, true) ∷ []) (clauses_are now more went))
            ∙ (ap (λ (z : List ℕ). z ++ length (with_log (base m d n) before ++ (core, true) ∷ []) ∷ []) (numbers_are now more went) ∙ sym (learnt_in-append (base m d n) [] before (Learnt (core, hints) ∷ [])))));
        log = record {
          run = record {
            text = sym (ap (λ (z : State). z.text) is) ∙ whole;
            go_on = go-on-append (head m d n) (refuted m.base d n) (vars m d n) (base m d n) [] before (Learnt (core, hints) ∷ []) (go_on now more went fewer) (goes_on.0, tt);
          };
          of_failed_plans = record { evidence = evidence-lines before (inl (core, hints) ∷ []) ∙ (log_so now more went fewer).of_failed_plans.evidence; refuted = s.log.of_failed_plans.refuted };
        };
        limit = some-same later.limit recorder.limit (sym (ap (λ (z : State). z.limit) is) ∙ (recorded.limit ∙ went.limit)) ∙ s.limit;
        same_vars = same ∙ s.same_vars;
        below_2_32 = s.below_2_32;
        below = subst (AllBelow (vars m d n)) with_it (below-more (vars m d n) (with_log (base m d n) before) core (below now more went) denial-below);
        derived = (let c = one-more before (core, hints) in let k = count-lines s.lines more in let so = s.derived in let grown = went.derives in let last = recorded.derives in let e = ap (λ (z : State). z.derives) is in omega arith);
        learnt = (let c = one-more before (core, hints) in let k = count-lines s.lines more in let so = s.derived in let spent = s.learnt in omega arith);
        plans = s.plans;
        cost = s.cost;
        left = s.left;
        at_least_one = s.at_least_one;
        at_most_n = s.at_most_n;
        fewer = s.fewer;
      }

      -- there is none of these
      pub none_so : IsAdmitted d → DenialsAreSo → DeniedIsInfeasible m → IsInfeasible d steps
      none_so good denials sound =
          let clauses = with_log (base m d n) before ++ (core, true) ∷ [] in
          let live : live_clause (with_log (base m d n) (before ++ Learnt (core, hints) ∷ [])) (length clauses) ≡ Some core =
          subst (λ (z : Store). live_clause z (length clauses) ≡ Some core) with_it (live-last (with_log (base m d n) before) clauses core (length clauses) refl refl) in
          let go = go-on-append (head m d n) (refuted m.base d n) (vars m d n) (base m d n) [] before (Learnt (core, hints) ∷ []) (go_on now more went fewer) (goes_on.0, tt) in
          let says = ap (steps_denied (vars m d n)) goes_on.1 ∙ denies-step (vars m d n) steps s.at_least_one s.at_most_n in
          sound d good n steps some (denials (head m d n) (refuted m.base d n) (vars m d n) (base m d n) (before ++ Learnt (core, hints) ∷ []) (length clauses) steps core go live says)

  -- where a clause denies these steps, there is no plan of so many
  pub known_so : IsAdmitted d → DenialsAreSo → DeniedIsInfeasible m → HasUnit store (opposite (by_step (vars m d n) steps)) → IsInfeasible d steps
  known_so good denials sound unit =
      let live = subst (λ (z : Store). live_clause z unit.0 ≡ Some (opposite (by_step (vars m d n) steps) ∷ [])) s.clauses unit.1 in
      sound d good n steps some (denials (head m d n) (refuted m.base d n) (vars m d n) (base m d n) s.lines unit.0 steps (opposite (by_step (vars m d n) steps) ∷ []) s.log.run.go_on live (denies-step (vars m d n) steps s.at_least_one s.at_most_n))
