-- Searches for the least time: what they end with.
use Rattle.std.proofs.Common.{◌≡◌, ℕ, ◌≤◌, Bool, List, [], length, Option, None, Some, Result, Ok, Err, Vec, Global, refl, ap, sym, ◌∙◌, subst, inl, inr, le-leb}
use Rattle.base_spec.specs.Bases.{clauses_of}
use Rattle.clause_spec.specs.Clauses.{past_limit}
use Rattle.rail_base.specs.declared.design.Design.{Design}
use Rattle.rail_base.specs.declared.station.Station.{Station}
use Rattle.rail_outside.specs.Files.{Files}
use Rattle.rail_spec.specs.Track.{routes_of}
use Rattle.rail_words.specs.Requests.{RequestSeen, tightest, IsRequestInRange}
use Rattle.verify_loop.specs.declared.least_time.Tightest.{Tightest}
use Rattle.verify_loop.specs.declared.least_time.Tightest.TheVariants as least_time
use Rattle.verify_loop.specs.declared.outcome.Budgets.{Budgets}
use Rattle.verify_loop.specs.Lessening.{untimed}
use Rattle.verify_loop.specs.Tightening.{FitsTightest, IsTightest, base_for}
use Rattle.cli_shell.specs.declared.input.InputFile.TheVariants as file
use Rattle.cli_shell.specs.declared.reply.Reply.{Reply}
use Rattle.cli_shell.specs.declared.ending.Ending.{Ending}
use Rattle.cli_shell.specs.Texts.{limit_of}
use Rattle.cli_shell.specs.Answers.{ReplySeen, within_limit, and_then, design_in, with_within, unless_refused}
use Rattle.cli_shell.specs.Replies.{ReadsOrEnds, Replies}
use Rattle.proof_shell.specs.Answers.{unless_too_large, with_clauses}
use Rattle.rail_cli.specs.Ended.{none_ended, time_ended}
use Rattle.rail_cli.specs.Answers.{budgets_of, reply_for_time, timed_in, time_reply}
use Rattle.rail_cli.specs.Replies.{RepliesSo, RepliesSome}
use Rattle.rail_cli.specs.Times.{EndsTime}
use Rattle.cli_shell.proofs.AnyShelf.{ends_so, with_text}
use Rattle.cli_shell.proofs.Deciding.{answered_next, answered_refusal}
use Rattle.cli_shell.proofs.Refusing.{file_is}
use Rattle.proof_shell.proofs.Judging.{small_passes, too_large_refused}
use Rattle.rail_cli.proofs.LeastTicks.{same_literals}
use Rattle.rail_cli.proofs.Finding.{never_memory}

-- ---- the answers to what ends

-- the design has the within
pub within_there : (w : ℕ) (d : Station) → w ≤ length d.withins → with_within w d ≡ Ok d
within_there w d high = rw (le-leb w (length d.withins) high) refl

module _ (bounds : Bool) (w : ℕ) (d : Station) (n conflicts ticks : ℕ) where
  -- what comes of the search, where the clauses are few
  abbrev with_few : Tightest → Station → ReplySeen
  with_few found same = unless_refused (with_within w d) (λ same. reply_for_time w n conflicts ticks found)

  -- the clauses are few and the within is there
  pub timed_few : (found : Tightest) → past_limit 16000000 0 (clauses_of (base_for bounds w) d (routes_of d) n) ≡ None → w ≤ length d.withins → timed_in bounds w d n conflicts ticks found ≡ reply_for_time w n conflicts ticks found
  timed_few found few high =
      answered_next (with_clauses (base_for bounds w) n d) d (with_few found) (small_passes (base_for bounds w) n d few)
      ∙ answered_next (with_within w d) d (λ same. reply_for_time w n conflicts ticks found) (within_there w d high)

  -- the clauses are too many
  timed_many : (literals : ℕ) → past_limit 16000000 0 (clauses_of (base_for bounds w) d (routes_of d) n) ≡ Some literals → timed_in bounds w d n conflicts ticks (least_time.TooLarge literals) ≡ reply_for_time w n conflicts ticks (least_time.TooLarge literals)
  timed_many literals many = answered_refusal (with_clauses (base_for bounds w) n d) _ (with_few (least_time.TooLarge literals)) (too_large_refused (base_for bounds w) n d literals many)

-- both refusals, one after the other, are one
pub both_refusals : (w : ℕ) (d : Station) (past : Option ℕ) (next : ReplySeen) → unless_refused (unless_too_large d past) (λ same. unless_refused (with_within w d) (λ same. next)) ≡ unless_refused (and_then (unless_too_large d past) (with_within w)) (λ same. next)
both_refusals w d None next = refl
both_refusals w d (Some k) next = refl

module _ (bounds : Bool) (d : Station) (w : ℕ) (low : 1 ≤ w) (high : w ≤ length d.withins) (n : ℕ) (b : Budgets) where
  -- what the end says
  abbrev pub says_so : Tightest → Type 0
  says_so found = IsTightest (base_for bounds w) (untimed d w) w n b found × FitsTightest (base_for bounds w) (untimed d w) w n found

  -- what is said of it
  abbrev told : Tightest → ReplySeen
  told found = reply_for_time w n b.conflicts b.ticks found

  few_timed : (r : Result Reply Ending) (found : Tightest) → past_limit 16000000 0 (clauses_of (base_for bounds w) (untimed d w) (routes_of (untimed d w)) n) ≡ None → Replies r (told found) → Replies r (timed_in bounds w d n b.conflicts b.ticks found)
  few_timed r found few h = subst (Replies r) (sym (timed_few bounds w d n b.conflicts b.ticks found (sym (same_literals d w low high bounds n) ∙ few) high)) h

  -- the reply to the end of a search is one to the search
  pub timed_reply : (r : Result Reply Ending) (found : Tightest) → says_so found → Replies r (told found) → Replies r (timed_in bounds w d n b.conflicts b.ticks found)
  timed_reply r least_time.Memory says h = never_memory r _ _ refl h
  timed_reply r (least_time.TooLarge literals) says h = subst (Replies r) (sym (timed_many bounds w d n b.conflicts b.ticks literals (sym (same_literals d w low high bounds n) ∙ says.0))) h
  timed_reply r (least_time.Least i least plan verdict log) says h = few_timed r (least_time.Least i least plan verdict log) says.1 h
  timed_reply r (least_time.Infeasible log) says h = few_timed r (least_time.Infeasible log) says.1 h
  timed_reply r (least_time.ConflictsSpent log clause hints asked tried) says h = few_timed r (least_time.ConflictsSpent log clause hints asked tried) says.1 h
  timed_reply r (least_time.TicksSpent sum at_hand asked tried) says h = few_timed r (least_time.TicksSpent sum at_hand asked tried) says.1 h
  timed_reply r (least_time.LogSpent log bytes next asked tried) says h = few_timed r (least_time.LogSpent log bytes next asked tried) says.1 h

-- ---- the design is read

-- the reply to a search in a design, for an end that it may have
abbrev pub RepliesTimed : Result Reply Ending → Bool → ℕ → Station → ℕ → Budgets → Type 0
RepliesTimed r bounds w d n b = (found : Tightest) × IsTightest (base_for bounds w) (untimed d w) w n b found
    × FitsTightest (base_for bounds w) (untimed d w) w n found
    × Replies r (timed_in bounds w d n b.conflicts b.ticks found)

pub time_within_budgets : (bounds : Bool) (w : ℕ) (d : Station) (n : ℕ) (b : Budgets) (found : Tightest) → b.log_bytes ≡ limit_of file.Proof → IsTightest (base_for bounds w) (untimed d w) w n b found → IsTightest (base_for bounds w) (untimed d w) w n (budgets_of b.conflicts b.ticks) found
time_within_budgets bounds w d n b found room says = subst (λ (k : ℕ). IsTightest (base_for bounds w) (untimed d w) w n (record { conflicts = b.conflicts; ticks = b.ticks; log_bytes = k }) found) room says

module _ (bounds : Bool) (w n conflicts ticks : ℕ) (design_bytes : List ℕ) (found : Tightest) where
  -- the rest of a search with the design, and with its text
  abbrev timed_design : Station → ReplySeen
  timed_design d = timed_in bounds w d n conflicts ticks found

  abbrev timed_text : List ℕ → ReplySeen
  timed_text text = unless_refused (design_in text) timed_design

  module _ (text : List ℕ) (fits : within_limit file.Design design_bytes ≡ Ok text) where
    time_fetched : time_reply bounds w n conflicts ticks design_bytes found ≡ timed_text text
    time_fetched = answered_next (within_limit file.Design design_bytes) text timed_text fits

    pub time_read_so : (d : Station) → design_in text ≡ Ok d → time_reply bounds w n conflicts ticks design_bytes found ≡ timed_in bounds w d n conflicts ticks found
    time_read_so d reads = time_fetched ∙ answered_next (design_in text) d timed_design reads

-- ---- the replies to a search, for the files, and for some bytes of them

module _ (r : Result Reply Ending) (n : ℕ) (bounds : Bool) (w : ℕ) (b : Budgets) (design proof : List ℕ) where
  -- what is asked
  abbrev time_asked : RequestSeen
  time_asked = tightest n b.conflicts b.ticks w bounds design proof

  -- memory was wanting, so that what is said of the file's bytes is free
  time_wanting : (files : Files) → Replies r (time_reply bounds w n b.conflicts b.ticks (files design) least_time.Memory) → RepliesSo r files (Some time_asked)
  time_wanting files h = (none_ended, inl refl, h)

  time_wanting_some : (a : List ℕ) → Replies r (time_reply bounds w n b.conflicts b.ticks a least_time.Memory) → RepliesSome r (Some time_asked)
  time_wanting_some a h = record { design_bytes = a; other_bytes = []; found = none_ended; finds = λ d parsed. (tt, tt); replies = h }

  -- the design was not fetched
  unfetched_reply : (a : List ℕ) (e : Ending) → r ≡ Err e → ReadsOrEnds (λ (v : Vec ℕ Global). v.items) (Err e) (within_limit file.Design a) → Replies r (time_reply bounds w n b.conflicts b.ticks a least_time.Memory)
  unfetched_reply a e is h = ends_so r (λ (v : Vec ℕ Global). v.items) e _ (timed_text bounds w n b.conflicts b.ticks a least_time.Memory) _ is h refl

  pub time_unfetched : (files : Files) (e : Ending) → r ≡ Err e → ReadsOrEnds (λ (v : Vec ℕ Global). v.items) (Err e) (within_limit file.Design (files design)) → RepliesSo r files (Some time_asked)
  time_unfetched files e is h = time_wanting files (unfetched_reply (files design) e is h)

  pub time_unfetched_some : (e : Ending) → r ≡ Err e → (bytes : List ℕ) × ReadsOrEnds (λ (v : Vec ℕ Global). v.items) (Err e) (within_limit file.Design bytes) → RepliesSome r (Some time_asked)
  time_unfetched_some e is h = time_wanting_some h.0 (unfetched_reply h.0 e is h.1)

  module _ (text : List ℕ) where
    -- it was not read
    unread_reply : {X : Type 0} (a : List ℕ) → within_limit file.Design a ≡ Ok text → (view : X → Station) (e : Ending) → r ≡ Err e → ReadsOrEnds view (Err e) (design_in text) → Replies r (time_reply bounds w n b.conflicts b.ticks a least_time.Memory)
    unread_reply a fits view e is h = ends_so r view e (design_in text) (timed_design bounds w n b.conflicts b.ticks a least_time.Memory) _ is h (with_text a text fits (timed_design bounds w n b.conflicts b.ticks a least_time.Memory))

    pub time_unread : {X : Type 0} (files : Files) → within_limit file.Design (files design) ≡ Ok text → (view : X → Station) (e : Ending) → r ≡ Err e → ReadsOrEnds view (Err e) (design_in text) → RepliesSo r files (Some time_asked)
    time_unread files fits view e is h = time_wanting files (unread_reply (files design) fits view e is h)

    pub time_unread_some : {X : Type 0} → (bytes : List ℕ) × (within_limit file.Design bytes ≡ Ok text) → (view : X → Station) (e : Ending) → r ≡ Err e → ReadsOrEnds view (Err e) (design_in text) → RepliesSome r (Some time_asked)
    time_unread_some first view e is h = time_wanting_some first.0 (unread_reply first.0 first.1 view e is h)

    module _ (d : Station) (reads : design_in text ≡ Ok d) where
      -- it has no such within, or too many clauses
      refused_reply : (a : List ℕ) → within_limit file.Design a ≡ Ok text → (e : Ending) → r ≡ Err e → ReadsOrEnds (λ (x : Station). x) (Err e) (and_then (with_clauses (base_for bounds w) n d) (with_within w))
          → Replies r (time_reply bounds w n b.conflicts b.ticks a least_time.Memory)
      refused_reply a fits e is h =
          ends_so r (λ (x : Station). x) e _ (λ same. reply_for_time w n b.conflicts b.ticks least_time.Memory) _ is h
          (time_read_so bounds w n b.conflicts b.ticks a least_time.Memory text fits d reads
          ∙ both_refusals w d (past_limit 16000000 0 (clauses_of (base_for bounds w) d (routes_of d) n)) (reply_for_time w n b.conflicts b.ticks least_time.Memory))

      pub time_refused : (files : Files) → within_limit file.Design (files design) ≡ Ok text → (e : Ending) → r ≡ Err e → ReadsOrEnds (λ (x : Station). x) (Err e) (and_then (with_clauses (base_for bounds w) n d) (with_within w)) → RepliesSo r files (Some time_asked)
      time_refused files fits e is h = time_wanting files (refused_reply (files design) fits e is h)

      pub time_refused_some : (bytes : List ℕ) × (within_limit file.Design bytes ≡ Ok text) → (e : Ending) → r ≡ Err e → ReadsOrEnds (λ (x : Station). x) (Err e) (and_then (with_clauses (base_for bounds w) n d) (with_within w)) → RepliesSome r (Some time_asked)
      time_refused_some first e is h = time_wanting_some first.0 (refused_reply first.0 first.1 e is h)

      -- the search came to its end
      pub time_ended_some : (bytes : List ℕ) × (within_limit file.Design bytes ≡ Ok text) → b.log_bytes ≡ limit_of file.Proof → RepliesTimed r bounds w d n b → RepliesSome r (Some time_asked)
      time_ended_some first room h = record {
        design_bytes = first.0;
        other_bytes = [];
        found = time_ended h.0;
        finds = ends_time;
        replies = subst (Replies r) (sym (time_read_so bounds w n b.conflicts b.ticks first.0 h.0 text first.1 d reads)) h.3;
      }
        where
          ends_time : EndsTime bounds w first.0 n b.conflicts b.ticks h.0
          ends_time e parsed =
              let one : Ok d ≡ Ok e = sym reads ∙ (ap design_in (sym (file_is file.Design first.0 text first.1)) ∙ parsed) in
              let same : d ≡ e = cc in
              subst (λ (x : Station). IsTightest (base_for bounds w) (untimed x w) w n (budgets_of b.conflicts b.ticks) h.0 × FitsTightest (base_for bounds w) (untimed x w) w n h.0) same (time_within_budgets bounds w d n b h.0 room h.1, h.2)

    -- the name spells the design
    pub time_spelled : (files : Files) (d : Station) → within_limit file.Design (files design) ≡ Ok text → design_in text ≡ Ok d → design_in (files design) ≡ Ok d
    time_spelled files d fits reads = ap design_in (file_is file.Design (files design) text fits) ∙ reads

    pub time_ended_so : (files : Files) (d : Design) → within_limit file.Design (files design) ≡ Ok text → design_in text ≡ Ok d.station → b.log_bytes ≡ limit_of file.Proof → RepliesTimed r bounds w d.station n b → RepliesSo r files (Some time_asked)
    time_ended_so files d fits reads room h = (
      time_ended h.0,
      inr (record { design = d; parsed = time_spelled files d.station fits reads; says = time_within_budgets bounds w d.station n b h.0 room h.1; fits = h.2 }),
      subst (Replies r) (sym (time_read_so bounds w n b.conflicts b.ticks (files design) h.0 text fits d.station reads)) h.3,
    )

-- ---- what was asked for

-- from a request that is in range
pub time_steps : (asked : RequestSeen) (n conflicts ticks w : ℕ) (bounds : Bool) (design proof : List ℕ) → asked ≡ tightest n conflicts ticks w bounds design proof → IsRequestInRange asked → (1 ≤ n) × (n ≤ 256) × (1 ≤ w) × (w ≤ 256)
time_steps asked n conflicts ticks w bounds design proof is range = subst IsRequestInRange is range

pub tightest_so : (r : Result Reply Ending) (files : Files) (asked : RequestSeen) (n conflicts ticks w : ℕ) (bounds : Bool) (b : Budgets) (design proof : List ℕ) → b ≡ budgets_of conflicts ticks → asked ≡ tightest n conflicts ticks w bounds design proof → RepliesSo r files (Some (tightest n b.conflicts b.ticks w bounds design proof)) → RepliesSo r files (Some asked)
tightest_so r files asked n conflicts ticks w bounds b design proof within is h = subst (λ (a : RequestSeen). RepliesSo r files (Some a)) (sym is) (subst (λ (x : Budgets). RepliesSo r files (Some (tightest n x.conflicts x.ticks w bounds design proof))) within h)

pub some_tightest : (r : Result Reply Ending) (n conflicts ticks w : ℕ) (bounds : Bool) (b : Budgets) (design proof : List ℕ) → b ≡ budgets_of conflicts ticks → RepliesSome r (Some (tightest n b.conflicts b.ticks w bounds design proof)) → RepliesSome r (Some (tightest n conflicts ticks w bounds design proof))
some_tightest r n conflicts ticks w bounds b design proof within h = subst (λ (x : Budgets). RepliesSome r (Some (tightest n x.conflicts x.ticks w bounds design proof))) within h
