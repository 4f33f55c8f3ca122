-- What a search for the least time leaves on the shelf.
use Rattle.std.proofs.Common.{◌≡◌, ◌≤◌, ◌⊎◌, ℕ, ◌-◌, ◌*◌, Bool, true, List, [], ◌∷◌, ◌++◌, length, Option, None, Some, Result, Ok, Err, Vec, Global, refl, ap, sym, ◌∙◌, subst, inl, inr, arith}
use Rattle.interlocking.specs.declared.railway.Interlocking.{Interlocking}
use Rattle.proof_judge.specs.Judged.{names_within}
use Rattle.rail_base.specs.Admitted.{IsAdmitted}
use Rattle.rail_base.specs.Stations.{horizon}
use Rattle.rail_base.specs.declared.history.Verdict.{Verdict}
use Rattle.rail_base.specs.declared.plan.Plan.{Plan}
use Rattle.rail_base.specs.declared.station.Station.{Station}
use Rattle.rail_outside.specs.Files.{Files}
use Rattle.verify_loop.specs.declared.least_time.Tightest.{Tightest}
use Rattle.verify_loop.specs.declared.least_time.Tightest.TheVariants as least_time
use Rattle.verify_loop.specs.declared.outcome.Budgets.{Budgets}
use Rattle.verify_loop.specs.Lessening.{in_ticks, untimed}
use Rattle.verify_loop.specs.Outcomes.{IsProof}
use Rattle.verify_loop.specs.Quests.{Quest}
use Rattle.verify_loop.specs.Tightening.{IsTightest, base_for, quest_after}
use Rattle.cli_shell.specs.declared.status.Status.{Status}
use Rattle.cli_shell.specs.declared.status.Status.TheVariants.{Done, No, Usage, DesignRefused, PlanRefused, ConflictsSpent, Memory, ShelfFault, SinkFault, TicksSpent, LogSpent, TooLong}
use Rattle.cli_shell.specs.declared.input.InputFile.TheVariants as file
use Rattle.cli_shell.specs.declared.reply.Reply.{Reply}
use Rattle.cli_shell.specs.declared.ending.Ending.{Ending}
use Rattle.cli_shell.specs.declared.ending.Ending.TheVariants as ending
use Rattle.cli_shell.specs.Statuses.{is_answered, is_refusal}
use Rattle.cli_shell.specs.Texts.{limit_of}
use Rattle.cli_shell.specs.Answers.{ReplySeen, design_in}
use Rattle.cli_shell.specs.Replies.{reply_seen, RefusesFile, OnEnd}
use Rattle.rail_cli.specs.Answers.{reply_for_time}
use Rattle.rail_cli.specs.Replies.{StoresFile, KeepsTime}
use Rattle.rail_cli.specs.Stored.{ShowsNone}
use Rattle.rail_cli.specs.Times.{AreLeastTicks, AreTooFew, HoldsLeast, HoldsNoTime, TimeLeaves}
use Rattle.rail_cli.proofs.LeastTicks.{put_later, least_so, by_horizon, ticks_admitted, names_for}
use Rattle.rail_cli.proofs.Logs.{few_for_log}

module _ (files : Files) (n w : ℕ) (design proof : List ℕ) (known_files : Option Files) where
  -- this is left with a status
  abbrev left : Status → Type 0
  left s = TimeLeaves files n w design proof s known_files

  -- after an answer there is a proof of either kind, or the files are as they were
  abbrev some_left : Type 0
  some_left = HoldsLeast files n w design proof known_files ⊎ (HoldsNoTime files n w design proof known_files ⊎ (known_files ≡ Some files))

  answered_times : (s : Status) → is_answered s ≡ true → left s → some_left
  answered_times Done answered h = inl h
  answered_times No answered h = inr (inl h)
  answered_times Usage answered h = inr (inr h)
  answered_times DesignRefused answered h = inr (inr h)
  answered_times PlanRefused answered h = inr (inr h)
  answered_times ConflictsSpent answered h = inr (inr h)
  answered_times TicksSpent answered h = inr (inr h)
  answered_times LogSpent answered h = inr (inr h)
  answered_times TooLong answered h = inr (inr h)
  answered_times Memory answered h = absurd (cc)
  answered_times ShelfFault answered h = absurd (cc)
  answered_times SinkFault answered h = absurd (cc)

  -- a reply with status s was made, and its print ended with status t
  pub printed_times : (s t : Status) → is_answered s ≡ true → (is_answered t ≡ true → t ≡ s) → (t ≡ ShelfFault → ⊥) → left s → left t
  printed_times s Memory answered same no_shelf h = answered_times s answered h
  printed_times s SinkFault answered same no_shelf h = answered_times s answered h
  printed_times s ShelfFault answered same no_shelf h = absurd (no_shelf refl)
  printed_times s Done answered same no_shelf h = subst left (sym (same refl)) h
  printed_times s No answered same no_shelf h = subst left (sym (same refl)) h
  printed_times s Usage answered same no_shelf h = subst left (sym (same refl)) h
  printed_times s DesignRefused answered same no_shelf h = subst left (sym (same refl)) h
  printed_times s PlanRefused answered same no_shelf h = subst left (sym (same refl)) h
  printed_times s ConflictsSpent answered same no_shelf h = subst left (sym (same refl)) h
  printed_times s TicksSpent answered same no_shelf h = subst left (sym (same refl)) h
  printed_times s LogSpent answered same no_shelf h = subst left (sym (same refl)) h
  printed_times s TooLong answered same no_shelf h = subst left (sym (same refl)) h

  -- a refusal leaves the files as they were
  refusal_times : (s : Status) → is_refusal s ≡ true → known_files ≡ Some files → left s
  refusal_times DesignRefused refusal same = same
  refusal_times PlanRefused refusal same = same
  refusal_times TooLong refusal same = same
  refusal_times Done refusal same = absurd (cc)
  refusal_times No refusal same = absurd (cc)
  refusal_times Usage refusal same = absurd (cc)
  refusal_times ConflictsSpent refusal same = absurd (cc)
  refusal_times TicksSpent refusal same = absurd (cc)
  refusal_times LogSpent refusal same = absurd (cc)
  refusal_times Memory refusal same = absurd (cc)
  refusal_times ShelfFault refusal same = absurd (cc)
  refusal_times SinkFault refusal same = absurd (cc)

  -- the work ended early, with the files as they were
  pub early_times : (r : Result Reply Ending) (e : Ending) → r ≡ Err e → RefusesFile r → known_files ≡ Some files → OnEnd r left
  early_times r e is refuses same = subst (λ (x : Result Reply Ending). OnEnd x left) (sym is) (go e (subst (λ (x : Result Reply Ending). RefusesFile x) is refuses))
    where
      go : (e : Ending) → RefusesFile {X = Reply} (Err e) → OnEnd (Err e) left
      go (ending.RefusedWith reply) refuses = refusal_times reply.status refuses same
      go ending.Memory refuses = inr (inr same)
      go ending.ShelfFault refuses = inr same

  -- what a search in the design in the file leaves
  module _ (bounds : Bool) (d : Station) (low : 1 ≤ w) (high : w ≤ length d.withins) (good : IsAdmitted d) (most : n ≤ 256)
      (parsed : design_in (files design) ≡ Ok d) (b : Budgets) (room : b.log_bytes ≡ limit_of file.Proof) where
    -- what its end says
    abbrev says_so : Tightest → Type 0
    says_so found = IsTightest (base_for bounds w) (untimed d w) w n b found

    -- its log shows that so many ticks are too few
    log_shows : (m : Quest) (k : ℕ) (log : List ℕ) → m.base ≡ base_for bounds w → k ≤ horizon d → IsProof m (in_ticks (untimed d w) w k) n b log → length log ≤ b.log_bytes
        → ShowsNone (in_ticks d w k) n log
    log_shows m k log by le proof fits =
        let here : IsProof m (in_ticks d w k) n b log = subst (λ (e : Station). IsProof m e n b log) (put_later d w low high (k * d.tick_ms)) proof in
        let named : names_within m.base (in_ticks d w k) ≡ true = subst (λ base. names_within base (in_ticks d w k) ≡ true) (sym by) (names_for d w low high bounds (k * d.tick_ms)) in
        record {
          within_limit = rw (← room) fits;
          few = few_for_log m (in_ticks d w k) n b log (ticks_admitted d w low high good k le) most named here;
          shows = here.accepted;
        }

    -- a tick is some time
    some_ms : 1 ≤ d.tick_ms
    some_ms = let low_tick = good.tick.0 in omega (arith, low_tick)

    -- the least time, and what shows it
    module _ (i : Interlocking) (least : ℕ) (plan : Plan) (verdict : Verdict) where
      least_here : (log : Option (Vec ℕ Global)) → says_so (least_time.Least i least plan verdict log) → AreLeastTicks d w n least
      least_here log says = least_so d w low high (base_for bounds w) n least plan verdict says.1

      less_shown : (log : Vec ℕ Global) → says_so (least_time.Least i least plan verdict (Some log)) → ShowsNone (in_ticks d w (least - 1)) n log.items
      less_shown log says =
          let all : least ≤ horizon d = by_horizon d w low high n least some_ms (least_here (Some log) says) in
          log_shows (quest_after (base_for bounds w) (untimed d w) w n (says.2.before ++ says.2.last ∷ [])) (least - 1) log.items refl (omega (arith, all)) says.2.proof says.2.fits

      less_few : (log : Vec ℕ Global) → says_so (least_time.Least i least plan verdict (Some log)) → AreTooFew d w n (least - 1)
      less_few log says = inl (least, least_here (Some log) says, says.2.some, refl)

    none_shown : (log : Vec ℕ Global) → says_so (least_time.Infeasible log) → ShowsNone (in_ticks d w (horizon d)) n log.items
    none_shown log says = log_shows (quest_after (base_for bounds w) (untimed d w) w n []) (horizon d) log.items refl (omega arith) says.1 says.2

    -- it was not stored
    unstored_times : (e : Ending) (k : ℕ) (log : List ℕ) → AreTooFew d w n k → ShowsNone (in_ticks d w k) n log → StoresFile {X = Unit {0}} (Err e) files proof log known_files → OnEnd (Err e) left
    unstored_times (ending.RefusedWith reply) k log few shows h = absurd h
    unstored_times ending.Memory k log few shows h = inr (inr h)
    unstored_times ending.ShelfFault k log few shows h = inl (d, parsed, (k, few, record { log = log; proves = shows; some = h.0; holds = h.1 }))

    unkept_times : (e : Ending) (found : Tightest) → says_so found → KeepsTime {X = Unit {0}} (Err e) files proof found known_files → OnEnd (Err e) left
    unkept_times e (least_time.Least i least plan verdict (Some log)) says h = unstored_times e (least - 1) log.items (less_few i least plan verdict log says) (less_shown i least plan verdict log says) h
    unkept_times e (least_time.Infeasible log) says h = unstored_times e (horizon d) log.items (inr refl) (none_shown log says) h
    unkept_times e (least_time.Least i least plan verdict None) says h = absurd (let no = h.0 in cc)
    unkept_times e (least_time.ConflictsSpent log clause hints asked tried) says h = absurd (let no = h.0 in cc)
    unkept_times e (least_time.TicksSpent sum at_hand asked tried) says h = absurd (let no = h.0 in cc)
    unkept_times e (least_time.LogSpent log bytes next asked tried) says h = absurd (let no = h.0 in cc)
    unkept_times e (least_time.TooLarge literals) says h = absurd (let no = h.0 in cc)
    unkept_times e least_time.Memory says h = absurd (let no = h.0 in cc)

    pub failed_times : (r : Result Reply Ending) (e : Ending) (found : Tightest) → r ≡ Err e → says_so found → KeepsTime {X = Unit {0}} (Err e) files proof found known_files → OnEnd r left
    failed_times r e found is says h = subst (λ (x : Result Reply Ending). OnEnd x left) (sym is) (unkept_times e found says h)

    -- what the search ended with is said, and a log that shows that some time is too little is stored
    told_times : (found : Tightest) → says_so found → KeepsTime {X = Unit {0}} (Ok tt) files proof found known_files → is_answered (reply_for_time w n b.conflicts b.ticks found).status ≡ true → left (reply_for_time w n b.conflicts b.ticks found).status
    told_times (least_time.Least i least plan verdict (Some log)) says kept answered = (
      d,
      parsed,
      (
        least,
        least_here i least plan verdict (Some log) says,
        λ none. (let some = says.2.some in absurd (omega (arith, some, none))),
        λ some. record { log = log.items; proves = less_shown i least plan verdict log says; holds = kept },
      ),
    )
    told_times (least_time.Least i least plan verdict None) says kept answered = (
      d,
      parsed,
      (
        least,
        least_here i least plan verdict None says,
        λ none. kept.1,
        λ some. (let none = says.2.0 in absurd (omega (arith, some, none))),
      ),
    )
    told_times (least_time.Infeasible log) says kept answered = (d, parsed, record { log = log.items; proves = none_shown log says; holds = kept })
    told_times (least_time.ConflictsSpent log clause hints asked tried) says kept answered = kept.1
    told_times (least_time.TicksSpent sum at_hand asked tried) says kept answered = kept.1
    told_times (least_time.LogSpent log bytes next asked tried) says kept answered = kept.1
    told_times (least_time.TooLarge literals) says kept answered = kept.1
    told_times least_time.Memory says kept answered = absurd (cc)

    pub settled_times : (found : Tightest) (reply : Reply) → says_so found → KeepsTime {X = Unit {0}} (Ok tt) files proof found known_files → reply_seen reply ≡ reply_for_time w n b.conflicts b.ticks found → left reply.status
    settled_times found reply says kept seen =
        let status : reply.status ≡ (reply_for_time w n b.conflicts b.ticks found).status = ap (λ (a : ReplySeen). a.status) seen in
        subst left (sym status) (told_times found says kept (ap is_answered (sym status) ∙ reply.answered))
