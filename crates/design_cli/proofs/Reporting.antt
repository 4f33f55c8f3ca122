-- Runs, and what they print.
use Rattle.std.proofs.Common.{◌≡◌, ◌≢◌, ℕ, true, false, inl, inr, List, [], ◌∷◌, Option, Some, None, Result, Ok, Err, refl, ap, ap₂, sym, ◌∙◌, subst}
use Rattle.std.specs.declared.alloc.AllocError.{AllocError}
use Rattle.cli_shell.specs.declared.status.Status.{Status}
use Rattle.cli_shell.specs.declared.status.Status.TheVariants as statuses
use Rattle.cli_shell.specs.declared.reply.Reply.{Reply}
use Rattle.cli_shell.specs.declared.ending.Ending.{Ending}
use Rattle.cli_shell.specs.declared.ending.Ending.TheVariants as ending
use Rattle.cli_shell.specs.Answers.{ReplySeen}
use Rattle.cli_shell.specs.Prints.{Prints}
use Rattle.cli_shell.specs.Replies.{OnReply, Replies, RepliesWith, reply_seen}
use Rattle.cli_shell.specs.Statuses.{is_answered}
use Rattle.cli_shell.proofs.Silence.{silent_for_memory}
use Rattle.rail_base.specs.declared.station.Station.{Station}
use Rattle.rail_base.specs.Members.{In}
use Rattle.rail_outside.specs.Asks.{Ask}
use Rattle.rail_outside.specs.Files.{Files}
use Rattle.rail_outside.specs.Growth.{GrowsByPrefix}
use Rattle.rail_words.specs.Requests.{request_of}
use Rattle.cli_shell.proofs.Asking.{none_of}
use Rattle.workload.specs.Made.{made}
use Rattle.design_cli.specs.Answers.{answer_given, answer_to, asks_to, design_used, file_answer, names_in, plan_answer, printed, usage}
use Rattle.design_cli.specs.Reports.{PrintsAnswer, PrintsUnread, PrintsSome, Reports, is_reply}
use Rattle.design_cli.specs.declared.wanted.Form.{Form}
use Rattle.design_cli.specs.Wanted.{Wanted, by_request, form_of, in_file, of_plan, of_trial, rcv_words, wanted_of}

-- nothing is printed for want of memory
pub want_answers : (a : ReplySeen) (text : Option (List ℕ)) (pieces : Option (List (List ℕ))) → PrintsAnswer a statuses.Memory text text pieces pieces
want_answers a text pieces = record { prints = silent_for_memory a text pieces; is_read = λ e. absurd (cc) }

pub want_reports : (a : ReplySeen) (names : List (List ℕ)) (text : Option (List ℕ)) (pieces : Option (List (List ℕ))) → Reports a names statuses.Memory text text pieces pieces
want_reports a names text pieces = inl (want_answers a text pieces)

pub want_some : (wanted : Option Wanted) (text : Option (List ℕ)) (pieces : Option (List (List ℕ))) → PrintsSome wanted statuses.Memory text text pieces pieces
want_some wanted text pieces = record { bytes = []; plan_bytes = []; reports = want_reports (answer_given [] [] wanted) (names_in wanted) text pieces }

module _ (s : Status) (text new_text : Option (List ℕ)) (pieces new_pieces : Option (List (List ℕ))) where
  -- a reply is printed that is the answer
  pub answers_so : (reply : Reply) (a : ReplySeen) → a ≡ reply_seen reply → Prints (reply_seen reply) s text new_text pieces new_pieces → s ≢ statuses.ShelfFault → PrintsAnswer a s text new_text pieces new_pieces
  answers_so reply a is prints read = record { prints = subst (λ (b : ReplySeen). Prints b s text new_text pieces new_pieces) (sym is) prints; is_read = read }

  pub answers_with : (r : Result Reply AllocError) (reply : Reply) (a : ReplySeen) → r ≡ Ok reply → RepliesWith r a → Prints (reply_seen reply) s text new_text pieces new_pieces → s ≢ statuses.ShelfFault → PrintsAnswer a s text new_text pieces new_pieces
  answers_with r reply a is h prints read = answers_so reply a (sym (subst (λ (q : Result Reply AllocError). RepliesWith q a) is h)) prints read

  -- the same of an ending
  pub reports_ok : (r : Result Reply Ending) (reply : Reply) (a : ReplySeen) (names : List (List ℕ)) → r ≡ Ok reply → Replies r a → Prints (reply_seen reply) s text new_text pieces new_pieces → s ≢ statuses.ShelfFault → Reports a names s text new_text pieces new_pieces
  reports_ok r reply a names is h prints read = inl (answers_so reply a (subst (λ (q : Result Reply Ending). Replies q a) is h) prints read)

  pub reports_refused : (r : Result Reply Ending) (e : Ending) (reply : Reply) (a : ReplySeen) (names : List (List ℕ)) → r ≡ Err e → e ≡ ending.RefusedWith reply → Replies r a → Prints (reply_seen reply) s text new_text pieces new_pieces → s ≢ statuses.ShelfFault → Reports a names s text new_text pieces new_pieces
  reports_refused r e reply a names is so h prints read = inl (answers_so reply a (subst (λ (x : Ending). Replies (Err x) a) so (subst (λ (q : Result Reply Ending). Replies q a) is h)) prints read)

  -- a file could not be read
  pub reports_unread : (name : List ℕ) (a : ReplySeen) → PrintsUnread name s text new_text pieces new_pieces → Reports a (name ∷ []) s text new_text pieces new_pieces
  reports_unread name a prints = inr (record { name = name; named = inl refl; prints = prints })

  -- the names may be among others
  pub reports_among : (a : ReplySeen) (names more : List (List ℕ)) → ((name : List ℕ) → In name names → In name more) → Reports a names s text new_text pieces new_pieces → Reports a more s text new_text pieces new_pieces
  reports_among a names more among (inl h) = inl h
  reports_among a names more among (inr h) = inr (record { name = h.name; named = among h.name h.named; prints = h.prints })

  pub unread_is_no_answer : (name : List ℕ) → PrintsUnread name s text new_text pieces new_pieces → s ≡ statuses.Done → false ≡ true
  unread_is_no_answer name prints is = sym prints.unanswered ∙ ap is_answered is

-- which results are replies
pub ok_is_reply : (r : Result Reply Ending) (reply : Reply) → r ≡ Ok reply → is_reply r ≡ true
ok_is_reply r reply is = ap is_reply is

pub refused_is_reply : (r : Result Reply Ending) (e : Ending) (reply : Reply) → r ≡ Err e → e ≡ ending.RefusedWith reply → is_reply r ≡ true
refused_is_reply r e reply is so = ap is_reply is ∙ ap (λ (x : Ending). is_reply (Err x)) so

-- what holds of a reply, where one is made
pub on_reply : (r : Result Reply Ending) (fact : Type 0) → OnReply r (λ reply. fact) → is_reply r ≡ true → fact
on_reply (Ok reply) fact h is = h
on_reply (Err (ending.RefusedWith reply)) fact h is = h
on_reply (Err ending.Memory) fact h is = absurd (cc)
on_reply (Err ending.ShelfFault) fact h is = absurd (cc)

-- ---- what is asked for

module _ (s : Status) (text new_text : Option (List ℕ)) (pieces new_pieces : Option (List (List ℕ))) where
  pub asked_reports : (files : Files) (wanted named : Option Wanted) → wanted ≡ named → Reports (answer_to files named) (names_in named) s text new_text pieces new_pieces → Reports (answer_to files wanted) (names_in wanted) s text new_text pieces new_pieces
  asked_reports files wanted named is h = subst (λ (w : Option Wanted). Reports (answer_to files w) (names_in w) s text new_text pieces new_pieces) (sym is) h

  pub asked_some : (wanted named : Option Wanted) → wanted ≡ named → PrintsSome named s text new_text pieces new_pieces → PrintsSome wanted s text new_text pieces new_pieces
  asked_some wanted named is h = subst (λ (w : Option Wanted). PrintsSome w s text new_text pieces new_pieces) (sym is) h

  -- for some bytes of a file
  pub file_some : (name : List ℕ) → ((bytes : List ℕ) × Reports (file_answer bytes) (name ∷ []) s text new_text pieces new_pieces) → PrintsSome (Some (in_file name)) s text new_text pieces new_pieces
  file_some name h = record { bytes = h.0; plan_bytes = []; reports = h.1 }

  pub trial_some : (seed size : ℕ) → PrintsAnswer (printed (made seed size)) s text new_text pieces new_pieces → PrintsSome (Some (of_trial seed size)) s text new_text pieces new_pieces
  trial_some seed size h = record { bytes = []; plan_bytes = []; reports = inl h }

  pub usage_some : PrintsAnswer usage s text new_text pieces new_pieces → PrintsSome None s text new_text pieces new_pieces
  usage_some h = record { bytes = []; plan_bytes = []; reports = inl h }

  -- for some bytes of two files
  pub plan_some : (form : Form) (design plan : List ℕ) → ((bytes : List ℕ) × (plan_bytes : List ℕ) × Reports (plan_answer form bytes plan_bytes) (design ∷ plan ∷ []) s text new_text pieces new_pieces) → PrintsSome (Some (of_plan form design plan)) s text new_text pieces new_pieces
  plan_some form design plan h = record { bytes = h.0; plan_bytes = h.1; reports = h.2 }

-- the design that is used
pub used_design : (files : Files) (wanted named : Option Wanted) (d : Station) → wanted ≡ named → design_used files wanted ≡ Ok d → design_used files named ≡ Ok d
used_design files wanted named d is h = ap (design_used files) (sym is) ∙ h

-- the calls of the shelf
pub asked_grows : (wanted named : Option Wanted) (old new : Option (List Ask)) → wanted ≡ named → GrowsByPrefix old new (asks_to named) → GrowsByPrefix old new (asks_to wanted)
asked_grows wanted named old new is h = subst (λ (w : Option Wanted). GrowsByPrefix old new (asks_to w)) (sym is) h

pub none_asked : (wanted : Option Wanted) (old : Option (List Ask)) → GrowsByPrefix old old (asks_to wanted)
none_asked wanted old = none_of old (asks_to wanted)

-- the words by which rcv is asked
pub same_words : (words asked : List (List ℕ)) (form : Form) → form ≡ form_of words → asked ≡ rcv_words words → by_request form (request_of asked) ≡ wanted_of words
same_words words asked form so is = ap₂ (λ f ws. by_request f (request_of ws)) so is

-- one of two names
pub first_name : (one other name : List ℕ) → In name (one ∷ []) → In name (one ∷ other ∷ [])
first_name one other name (inl e) = inl e
first_name one other name (inr m) = absurd m

pub second_name : (one other name : List ℕ) → In name (other ∷ []) → In name (one ∷ other ∷ [])
second_name one other name m = inr m
