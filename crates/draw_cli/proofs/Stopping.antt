-- Where the work stops, and which file a line names.
use Rattle.std.proofs.Common.{◌≡◌, ℕ, true, inl, inr, List, [], ◌∷◌, ◌++◌, Option, Some, Result, Ok, Err, refl, sym, subst}
use Rattle.named_files.specs.declared.unmade.Unmade.{Unmade}
use Rattle.named_files.specs.declared.unmade.Unmade.TheVariants.{Refused, Memory, Unread}
use Rattle.named_files.specs.Replies.{Answers, Fetches, Makes, RepliesOf, is_unread, unmade_of}
use Rattle.named_files.specs.Reports.{ReportsOf}
use Rattle.named_files.proofs.Printing.{one_stops}
use Rattle.cli_shell.specs.declared.input.InputFile.{InputFile}
use Rattle.cli_shell.specs.declared.ending.Ending.{Ending}
use Rattle.cli_shell.specs.declared.ending.Ending.TheVariants as ending
use Rattle.cli_shell.specs.declared.reply.Reply.{Reply}
use Rattle.cli_shell.specs.declared.status.Status.{Status}
use Rattle.cli_shell.specs.declared.status.Status.TheVariants.{ShelfFault}
use Rattle.cli_shell.specs.Answers.{ReplySeen, within_limit}
use Rattle.cli_shell.proofs.Asking.{grown-nothing}
use Rattle.rail_outside.specs.Asks.{Ask, fetched}
use Rattle.rail_outside.specs.Files.{Files}
use Rattle.rail_outside.specs.Growth.{grown, GrowsByPrefix}
use Rattle.draw_cli.specs.Wanted.{Wanted, track, run}
use Rattle.draw_cli.specs.Answers.{IsTrackAnswer, TrackAnswers, asks_to}
use Rattle.draw_cli.specs.Replies.{NamesUnread, StopsAt, StopsUnread}

-- ---- where the work stops

-- a reply on a file of which it may be said that it could not be read
stops_at : (right : ReplySeen → Type 0) (wanted : Option Wanted) (name : List ℕ) (before behind : List Ask) (old new : Option (List Ask)) (r : Result Reply Unmade)
    → before ++ (fetched name ∷ behind) ≡ asks_to wanted → Makes right (name ∷ []) r → GrowsByPrefix (grown old before) new (fetched name ∷ []) → StopsUnread wanted r old new
stops_at right wanted name before behind old new (Ok reply) all made asked = tt
stops_at right wanted name before behind old new (Err (Refused reply)) all made asked = tt
stops_at right wanted name before behind old new (Err Memory) all made asked = tt
stops_at right wanted name before behind old new (Err (Unread other)) all (inl is) asked =
    subst (λ (n : List ℕ). StopsAt wanted n old new) is (record { before = before; behind = behind; all = all; asked = asked })
stops_at right wanted name before behind old new (Err (Unread other)) all (inr none) asked = absurd none

-- an ending that is no fault of the shelf
here : (wanted : Option Wanted) (e : Ending) (old new : Option (List Ask)) → StopsUnread wanted (Err (unmade_of e)) old new
here wanted (ending.RefusedWith reply) old new = tt
here wanted ending.Memory old new = tt
here wanted ending.ShelfFault old new = tt

module _ (r : Result Reply Unmade) (old new : Option (List Ask)) where
  pub ending_stops : (wanted : Option Wanted) (e : Ending) → r ≡ Err (unmade_of e) → StopsUnread wanted r old new
  ending_stops wanted e is = subst (λ (q : Result Reply Unmade). StopsUnread wanted q old new) (sym is) (here wanted e old new)

  -- at a design alone
  pub track_stops : (known : Option Files) (w : Wanted) (design : List ℕ) → w ≡ track design → RepliesOf known design IsTrackAnswer r → GrowsByPrefix old new (fetched design ∷ []) → StopsUnread (Some w) r old new
  track_stops known w design is of asks =
      subst (λ (v : Wanted). StopsUnread (Some v) r old new) (sym is)
      (stops_at (IsTrackAnswer of.bytes) (Some (track design)) design [] [] old new r refl of.makes (subst (λ (o : Option (List Ask)). GrowsByPrefix o new (fetched design ∷ [])) (grown-nothing old) asks))

  -- at a design before a plan
  pub design_stops : (known : Option Files) (f : InputFile) (design plan : List ℕ) (e : Unmade) → r ≡ Err e → Fetches known f design (Err e) → GrowsByPrefix old new (fetched design ∷ []) → StopsUnread (Some (run design plan)) r old new
  design_stops known f design plan e is h asks =
      let of = one_stops known f design r TrackAnswers e is h in
      stops_at (Answers (within_limit f of.bytes) TrackAnswers) (Some (run design plan)) design [] (fetched plan ∷ []) old new r refl of.makes (subst (λ (o : Option (List Ask)). GrowsByPrefix o new (fetched design ∷ [])) (grown-nothing old) asks)

  -- at a plan behind a design
  pub plan_stops : (known : Option Files) (right : List ℕ → ReplySeen → Type 0) (design plan : List ℕ) (mid : Option (List Ask)) → RepliesOf known plan right r → mid ≡ grown old (fetched design ∷ [])
      → GrowsByPrefix mid new (fetched plan ∷ []) → StopsUnread (Some (run design plan)) r old new
  plan_stops known right design plan mid of first asks =
      stops_at (right of.bytes) (Some (run design plan)) plan (fetched design ∷ []) [] old new r refl of.makes (subst (λ (o : Option (List Ask)). GrowsByPrefix o new (fetched plan ∷ [])) first asks)

  pub run_stops : (w : Wanted) (design plan : List ℕ) → w ≡ run design plan → StopsUnread (Some (run design plan)) r old new → StopsUnread (Some w) r old new
  run_stops w design plan is h = subst (λ (v : Wanted). StopsUnread (Some v) r old new) (sym is) h

-- ---- which file a line names

module _ (text new_text : Option (List ℕ)) (old new : Option (List Ask)) where
  pub names_unread : (wanted : Option Wanted) (s : Status) (pieces new_pieces : Option (List (List ℕ))) (r : Result Reply Unmade) → is_unread r ≡ true → s ≡ ShelfFault → StopsUnread wanted r old new
      → ReportsOf r s text new_text pieces new_pieces → NamesUnread wanted text new_text old new
  names_unread wanted s pieces new_pieces (Ok reply) unread fault stops h = absurd (cc)
  names_unread wanted s pieces new_pieces (Err (Refused reply)) unread fault stops h = absurd (cc)
  names_unread wanted s pieces new_pieces (Err Memory) unread fault stops h = absurd (cc)
  names_unread wanted s pieces new_pieces (Err (Unread name)) unread fault stops h = record { name = name.now; stops = stops; written = h.written fault }

  pub asked_unread : (wanted asked : Option Wanted) → wanted ≡ asked → NamesUnread asked text new_text old new → NamesUnread wanted text new_text old new
  asked_unread wanted asked is h = subst (λ (w : Option Wanted). NamesUnread w text new_text old new) (sym is) h
