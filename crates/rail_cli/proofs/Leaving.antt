-- What a run leaves on the shelf.
use Rattle.std.proofs.Common.{◌≡◌, ◌≤◌, ◌⊎◌, ℕ, Bool, true, List, Option, None, Some, Result, Ok, Err, Vec, Global, refl, ap, sym, ◌∙◌, subst, inl, inr}
use Rattle.verify_loop.specs.declared.outcome.Aim.{Aim}
use Rattle.rail_base.specs.declared.station.Station.{Station}
use Rattle.rail_base.specs.Admitted.{IsAdmitted}
use Rattle.rail_outside.specs.Files.{Files}
use Rattle.rail_words.specs.declared.request.SearchMode.{SearchMode}
use Rattle.rail_words.specs.declared.request.SearchMode.TheVariants as by
use Rattle.rail_words.specs.declared.request.InTime.{InTime}
use Rattle.rail_words.specs.Requests.{RequestSeen, simulate, routes, verify, tightest, check, trial}
use Rattle.verify_loop.specs.declared.outcome.Budgets.{Budgets}
use Rattle.verify_loop.specs.declared.outcome.Outcome.{Outcome}
use Rattle.verify_loop.specs.declared.outcome.Outcome.TheVariants as outcome
use Rattle.verify_loop.specs.Outcomes.{IsOutcome}
use Rattle.verify_loop.specs.Quests.{by_itself}
use Rattle.proof_judge.specs.Judged.{names_within}
use Rattle.cli_shell.specs.declared.status.Status.{Status}
use Rattle.cli_shell.specs.declared.status.Status.TheVariants.{Done, No, Usage, DesignRefused, PlanRefused, ConflictsSpent, Memory, ShelfFault, SinkFault, TicksSpent, LogSpent, TooLong}
use Rattle.cli_shell.specs.declared.input.InputFile.TheVariants as file
use Rattle.cli_shell.specs.declared.reply.Reply.{Reply}
use Rattle.cli_shell.specs.declared.ending.Ending.{Ending}
use Rattle.cli_shell.specs.declared.ending.Ending.TheVariants as ending
use Rattle.cli_shell.specs.Statuses.{is_answered, is_refusal}
use Rattle.cli_shell.specs.Texts.{limit_of}
use Rattle.cli_shell.specs.Answers.{ReplySeen, design_in}
use Rattle.rail_cli.specs.Answers.{aim_of, reply_for_outcome}
use Rattle.cli_shell.specs.Replies.{reply_seen, RefusesFile, OnEnd}
use Rattle.rail_cli.specs.Replies.{StoresFile, KeepsLog}
use Rattle.rail_cli.specs.Searches.{HoldsProof, SearchLeaves, Leaves}
use Rattle.rail_cli.specs.Stored.{ShowsNone}
use Rattle.rail_cli.specs.Times.{TimeLeaves}
use Rattle.rail_cli.proofs.Logs.{few_for_log}
use Rattle.rail_cli.proofs.TimeLeaving.{printed_times}

-- the base of each search names no within that the design lacks
pub modes_named : (mode : SearchMode) (d : Station) → names_within (aim_of mode).base d ≡ true
modes_named by.Plain d = refl
modes_named by.Bounds d = refl
modes_named by.Any d = refl
modes_named by.Normal d = refl

-- ---- a search

module _ (files : Files) (n : ℕ) (design proof : List ℕ) (known_files : Option Files) where
  -- this is left with a status
  abbrev left : Status → Type 0
  left s = SearchLeaves files n design proof s known_files

  -- after an answer there is a proof, or the files are as they were
  answered_leaves : (s : Status) → is_answered s ≡ true → left s → HoldsProof files n design proof known_files ⊎ (known_files ≡ Some files)
  answered_leaves No answered h = inl h
  answered_leaves Done answered h = inr h
  answered_leaves Usage answered h = inr h
  answered_leaves DesignRefused answered h = inr h
  answered_leaves PlanRefused answered h = inr h
  answered_leaves ConflictsSpent answered h = inr h
  answered_leaves TicksSpent answered h = inr h
  answered_leaves LogSpent answered h = inr h
  answered_leaves TooLong answered h = inr h
  answered_leaves Memory answered h = absurd (cc)
  answered_leaves ShelfFault answered h = absurd (cc)
  answered_leaves SinkFault answered h = absurd (cc)

  -- a reply with status s was made, and its print ended with status t
  pub printed_leaves : (s t : Status) → is_answered s ≡ true → (is_answered t ≡ true → t ≡ s) → (t ≡ ShelfFault → ⊥) → left s → left t
  printed_leaves s Memory answered same no_shelf h = answered_leaves s answered h
  printed_leaves s SinkFault answered same no_shelf h = answered_leaves s answered h
  printed_leaves s ShelfFault answered same no_shelf h = absurd (no_shelf refl)
  printed_leaves s Done answered same no_shelf h = subst left (sym (same refl)) h
  printed_leaves s No answered same no_shelf h = subst left (sym (same refl)) h
  printed_leaves s Usage answered same no_shelf h = subst left (sym (same refl)) h
  printed_leaves s DesignRefused answered same no_shelf h = subst left (sym (same refl)) h
  printed_leaves s PlanRefused answered same no_shelf h = subst left (sym (same refl)) h
  printed_leaves s ConflictsSpent answered same no_shelf h = subst left (sym (same refl)) h
  printed_leaves s TicksSpent answered same no_shelf h = subst left (sym (same refl)) h
  printed_leaves s LogSpent answered same no_shelf h = subst left (sym (same refl)) h
  printed_leaves s TooLong answered same no_shelf h = subst left (sym (same refl)) h

  -- a refusal leaves the files as they were
  refusal_leaves : (s : Status) → is_refusal s ≡ true → known_files ≡ Some files → left s
  refusal_leaves DesignRefused refusal same = same
  refusal_leaves PlanRefused refusal same = same
  refusal_leaves TooLong refusal same = same
  refusal_leaves Done refusal same = absurd (cc)
  refusal_leaves No refusal same = absurd (cc)
  refusal_leaves Usage refusal same = absurd (cc)
  refusal_leaves ConflictsSpent refusal same = absurd (cc)
  refusal_leaves TicksSpent refusal same = absurd (cc)
  refusal_leaves LogSpent refusal same = absurd (cc)
  refusal_leaves Memory refusal same = absurd (cc)
  refusal_leaves ShelfFault refusal same = absurd (cc)
  refusal_leaves SinkFault refusal same = absurd (cc)

  -- the work ended early, with the files as they were
  pub early_leaves : (r : Result Reply Ending) (e : Ending) → r ≡ Err e → RefusesFile r → known_files ≡ Some files → OnEnd r left
  early_leaves r e is refuses same = subst (λ (x : Result Reply Ending). OnEnd x left) (sym is) (go e (subst (λ (x : Result Reply Ending). RefusesFile x) is refuses))
    where
      go : (e : Ending) → RefusesFile {X = Reply} (Err e) → OnEnd (Err e) left
      go (ending.RefusedWith reply) refuses = refusal_leaves reply.status refuses same
      go ending.Memory refuses = inr same
      go ending.ShelfFault refuses = inr same

  -- what a search in the design in the file leaves
  module _ (m : Aim) (d : Station) (named : names_within m.base d ≡ true) (good : IsAdmitted d) (most : n ≤ 256) (parsed : design_in (files design) ≡ Ok d) (b : Budgets) (room : b.log_bytes ≡ limit_of file.Proof) where
    -- the log of a search shows that there is no plan
    log_shows : (log : Vec ℕ Global) → IsOutcome m d n b (outcome.Infeasible log) → ShowsNone d n log.items
    log_shows log says = record { within_limit = rw (← room) says.2; few = few_for_log (by_itself m d n) d n b log.items good most named says.1; shows = says.1.accepted }

    -- it was not stored
    unstored_leaves : (e : Ending) (log : List ℕ) → ShowsNone d n log → StoresFile {X = Unit {0}} (Err e) files proof log known_files → OnEnd (Err e) left
    unstored_leaves (ending.RefusedWith reply) log shows h = absurd h
    unstored_leaves ending.Memory log shows h = inr h
    unstored_leaves ending.ShelfFault log shows h = inl (d, parsed, record { log = log; proves = shows; some = h.0; holds = h.1 })

    unkept_leaves : (e : Ending) (found : Outcome) → IsOutcome m d n b found → KeepsLog {X = Unit {0}} (Err e) files proof found known_files → OnEnd (Err e) left
    unkept_leaves e (outcome.Infeasible log) says h = unstored_leaves e log.items (log_shows log says) h
    unkept_leaves e (outcome.Plan plan verdict) says h = absurd (let no = h.0 in cc)
    unkept_leaves e (outcome.ConflictsSpent log clause hints failed) says h = absurd (let no = h.0 in cc)
    unkept_leaves e (outcome.TicksSpent failed sum at_hand) says h = absurd (let no = h.0 in cc)
    unkept_leaves e (outcome.LogSpent log bytes next failed) says h = absurd (let no = h.0 in cc)
    unkept_leaves e (outcome.TooLarge literals) says h = absurd (let no = h.0 in cc)
    unkept_leaves e outcome.Memory says h = absurd (let no = h.0 in cc)

    pub failed_leaves : (r : Result Reply Ending) (e : Ending) (found : Outcome) → r ≡ Err e → IsOutcome m d n b found → KeepsLog {X = Unit {0}} (Err e) files proof found known_files → OnEnd r left
    failed_leaves r e found is says h = subst (λ (x : Result Reply Ending). OnEnd x left) (sym is) (unkept_leaves e found says h)

    -- what the search ended with is said, and a log that shows that there is no plan is stored
    told_leaves : (found : Outcome) → IsOutcome m d n b found → KeepsLog {X = Unit {0}} (Ok tt) files proof found known_files → is_answered (reply_for_outcome d n b.conflicts b.ticks found).status ≡ true → left (reply_for_outcome d n b.conflicts b.ticks found).status
    told_leaves (outcome.Infeasible log) says kept answered = (d, parsed, record { log = log.items; proves = log_shows log says; holds = kept })
    told_leaves (outcome.Plan plan verdict) says kept answered = kept.1
    told_leaves (outcome.ConflictsSpent log clause hints failed) says kept answered = kept.1
    told_leaves (outcome.TicksSpent failed sum at_hand) says kept answered = kept.1
    told_leaves (outcome.LogSpent log bytes next failed) says kept answered = kept.1
    told_leaves (outcome.TooLarge literals) says kept answered = kept.1
    told_leaves outcome.Memory says kept answered = absurd (cc)

    pub settled_leaves : (found : Outcome) (reply : Reply) → IsOutcome m d n b found → KeepsLog {X = Unit {0}} (Ok tt) files proof found known_files → reply_seen reply ≡ reply_for_outcome d n b.conflicts b.ticks found → left reply.status
    settled_leaves found reply says kept seen =
        let status : reply.status ≡ (reply_for_outcome d n b.conflicts b.ticks found).status = ap (λ (a : ReplySeen). a.status) seen in
        subst left (sym status) (told_leaves found says kept (ap is_answered (sym status) ∙ reply.answered))

-- ---- a request

-- the fact holds of every status
every_status : (r : Result Reply Ending) (fact : Status → Type 0) → ((s : Status) → fact s) → OnEnd r fact
every_status (Ok reply) fact h = h reply.status
every_status (Err (ending.RefusedWith reply)) fact h = h reply.status
every_status (Err ending.Memory) fact h = h Memory
every_status (Err ending.ShelfFault) fact h = h ShelfFault

-- the facts hold of one status
one_status : (r : Result Reply Ending) (old : Option Files) (fact : Files → Status → Type 0) → ((files : Files) → old ≡ Some files → OnEnd r (fact files)) → OnEnd r (λ s. (files : Files) → old ≡ Some files → fact files s)
one_status (Ok reply) old fact h = h
one_status (Err (ending.RefusedWith reply)) old fact h = h
one_status (Err ending.Memory) old fact h = h
one_status (Err ending.ShelfFault) old fact h = h

module _ (r : Result Reply Ending) (old new : Option Files) (asked : RequestSeen) where
  -- what is left after this request
  abbrev leaves : RequestSeen → Type 0
  leaves a = OnEnd r (λ s. Leaves (Some a) s old new)

  pub simulate_leaves : (design plan : List ℕ) → asked ≡ simulate design plan → new ≡ old → leaves asked
  simulate_leaves design plan is same = subst leaves (sym is) (every_status r (λ s. new ≡ old) (λ s. same))

  pub routes_leaves : (design : List ℕ) → asked ≡ routes design → new ≡ old → leaves asked
  routes_leaves design is same = subst leaves (sym is) (every_status r (λ s. new ≡ old) (λ s. same))

  pub check_leaves : (n : ℕ) (in_time : Option InTime) (design proof : List ℕ) → asked ≡ check n in_time design proof → new ≡ old → leaves asked
  check_leaves n in_time design proof is same = subst leaves (sym is) (every_status r (λ s. new ≡ old) (λ s. same))

  pub trial_leaves : (seed size : ℕ) → asked ≡ trial seed size → new ≡ old → leaves asked
  trial_leaves seed size is same = subst leaves (sym is) (every_status r (λ s. new ≡ old) (λ s. same))

  pub verify_leaves : (n conflicts ticks : ℕ) (mode : SearchMode) (design proof : List ℕ) → asked ≡ verify n conflicts ticks mode design proof → ((files : Files) → old ≡ Some files → OnEnd r (λ s. SearchLeaves files n design proof s new)) → leaves asked
  verify_leaves n conflicts ticks mode design proof is h = subst leaves (sym is) (one_status r old (λ files s. SearchLeaves files n design proof s new) h)

  pub tightest_leaves : (n conflicts ticks w : ℕ) (bounds : Bool) (design proof : List ℕ) → asked ≡ tightest n conflicts ticks w bounds design proof → ((files : Files) → old ≡ Some files → OnEnd r (λ s. TimeLeaves files n w design proof s new)) → leaves asked
  tightest_leaves n conflicts ticks w bounds design proof is h = subst leaves (sym is) (one_status r old (λ files s. TimeLeaves files n w design proof s new) h)

-- ---- a run

-- what is asked for
pub asked_leaves : (r : Result Reply Ending) (old new : Option Files) (a b : Option RequestSeen) → a ≡ b → OnEnd r (λ s. Leaves b s old new) → OnEnd r (λ s. Leaves a s old new)
asked_leaves r old new a b is h = subst (λ (x : Option RequestSeen). OnEnd r (λ s. Leaves x s old new)) (sym is) h

-- nothing is asked for
pub none_leaves : (r : Result Reply Ending) (old new : Option Files) (asked : Option RequestSeen) → asked ≡ None → new ≡ old → OnEnd r (λ s. Leaves asked s old new)
none_leaves r old new asked is same = subst (λ (a : Option RequestSeen). OnEnd r (λ s. Leaves a s old new)) (sym is) (every_status r (λ s. new ≡ old) (λ s. same))

-- the status of a reply that was made
pub told_status : (e : Ending) (reply : Reply) (fact : Status → Type 0) → e ≡ ending.RefusedWith reply → OnEnd (Err e) fact → fact reply.status
told_status (ending.RefusedWith r) reply fact same h = (let this : r ≡ reply = cc in subst (λ (x : Reply). fact x.status) this h)
told_status ending.Memory reply fact same h = absurd (cc)
told_status ending.ShelfFault reply fact same h = absurd (cc)

-- a reply was printed
pub run_leaves : (asked : Option RequestSeen) (s t : Status) (old new : Option Files) → is_answered s ≡ true → (is_answered t ≡ true → t ≡ s) → (t ≡ ShelfFault → ⊥) → Leaves asked s old new → Leaves asked t old new
run_leaves None s t old new answered same no_shelf h = h
run_leaves (Some (simulate design plan)) s t old new answered same no_shelf h = h
run_leaves (Some (routes design)) s t old new answered same no_shelf h = h
run_leaves (Some (check n in_time design proof)) s t old new answered same no_shelf h = h
run_leaves (Some (trial seed size)) s t old new answered same no_shelf h = h
run_leaves (Some (verify n conflicts ticks mode design proof)) s t old new answered same no_shelf h = λ files reply_for. printed_leaves files n design proof new s t answered same no_shelf (h files reply_for)
run_leaves (Some (tightest n conflicts ticks w bounds design proof)) s t old new answered same no_shelf h = λ files reply_for. printed_times files n w design proof new s t answered same no_shelf (h files reply_for)
