-- Replies, one reading after the other, and what is printed of them.
use Rattle.std.proofs.Common.{◌≡◌, ℕ, List, [], Option, Some, None, Result, Ok, Err, refl, sym, subst}
use Rattle.named_files.specs.declared.unmade.Unmade.{Unmade}
use Rattle.named_files.specs.Replies.{Answers, Makes, RepliesFor, RepliesOf, unmade_of}
use Rattle.named_files.proofs.Printing.{alone}
use Rattle.cli_shell.specs.declared.reply.Reply.{Reply}
use Rattle.cli_shell.specs.declared.ending.Ending.{Ending}
use Rattle.cli_shell.specs.declared.ending.Ending.TheVariants as ending
use Rattle.cli_shell.specs.declared.status.Status.{Status}
use Rattle.cli_shell.specs.Answers.{ReplySeen}
use Rattle.cli_shell.specs.Replies.{OnReply, ReadsOrEnds, reply_seen}
use Rattle.rail_outside.specs.Asks.{Ask}
use Rattle.rail_outside.specs.Files.{Files}
use Rattle.rail_outside.specs.Growth.{GrowsByPrefix}
use Rattle.draw_cli.specs.Wanted.{Wanted, track, run}
use Rattle.draw_cli.specs.Answers.{IsAnswerTo, IsRunAnswer, IsTrackAnswer, asks_to, design_name, plan_name}
use Rattle.draw_cli.specs.Replies.{PrintsAnswer, PrintsUsage}

-- ---- the text of a file

-- a reading that ends the work
refused_here : {X Y : Type 0} (view : X → Y) (e : Ending) (reading : Result Y ReplySeen) (right : Y → ReplySeen → Type 0) → ReadsOrEnds view (Err e) reading → OnReply (Err e) (λ reply. Answers reading right (reply_seen reply))
refused_here {Y = Y} view (ending.RefusedWith reply) reading right h = subst (λ (r : Result Y ReplySeen). Answers r right (reply_seen reply)) (sym h) refl
refused_here view ending.Memory reading right h = tt
refused_here view ending.ShelfFault reading right h = tt

module _ (r : Result Reply Ending) where
  pub refused_so : {X Y : Type 0} (view : X → Y) (e : Ending) (reading : Result Y ReplySeen) (right : Y → ReplySeen → Type 0) → r ≡ Err e → ReadsOrEnds view (Err e) reading → OnReply r (λ reply. Answers reading right (reply_seen reply))
  refused_so view e reading right is h = subst (λ (x : Result Reply Ending). OnReply x (λ reply. Answers reading right (reply_seen reply))) (sym is) (refused_here view e reading right h)

  -- memory was wanting
  pub wanting : (fact : Reply → Type 0) → r ≡ Err ending.Memory → OnReply r fact
  wanting fact is = subst (λ (x : Result Reply Ending). OnReply x fact) (sym is) tt

  -- something was read
  pub read_so : {Y : Type 0} (reading : Result Y ReplySeen) (y : Y) (right : Y → ReplySeen → Type 0) → reading ≡ Ok y → OnReply r (λ reply. right y (reply_seen reply)) → OnReply r (λ reply. Answers reading right (reply_seen reply))
  read_so {Y = Y} reading y right is h = subst (λ (q : Result Y ReplySeen). OnReply r (λ reply. Answers q right (reply_seen reply))) (sym is) h

-- what an ending gives
pub ending_makes : (right : ReplySeen → Type 0) (names : List (List ℕ)) (e : Ending) (r : Result Reply Unmade) → r ≡ Err (unmade_of e) → OnReply (Err e) (λ reply. right (reply_seen reply)) → Makes right names r
ending_makes right names (ending.RefusedWith reply) r is h = subst (Makes right names) (sym is) h
ending_makes right names ending.Memory r is h = subst (Makes right names) (sym is) tt
ending_makes right names ending.ShelfFault r is h = subst (Makes right names) (sym is) tt

-- ---- what is wanted

module _ (known : Option Files) (w : Wanted) (r : Result Reply Unmade) where
  pub track_replies : (design : List ℕ) → w ≡ track design → RepliesOf known design IsTrackAnswer r → RepliesFor known (design_name (Some w)) (plan_name (Some w)) (IsAnswerTo (Some w)) r
  track_replies design is of = subst (λ (v : Wanted). RepliesFor known (design_name (Some v)) (plan_name (Some v)) (IsAnswerTo (Some v)) r) (sym is) (alone known design r IsTrackAnswer of)

  pub run_replies : (design plan : List ℕ) → w ≡ run design plan → RepliesFor known (Some design) (Some plan) IsRunAnswer r → RepliesFor known (design_name (Some w)) (plan_name (Some w)) (IsAnswerTo (Some w)) r
  run_replies design plan is h = subst (λ (v : Wanted). RepliesFor known (design_name (Some v)) (plan_name (Some v)) (IsAnswerTo (Some v)) r) (sym is) h

-- ---- what is printed

module _ (s : Status) (text new_text : Option (List ℕ)) (pieces new_pieces : Option (List (List ℕ))) where
  -- the words ask for this
  pub asked_for : (known : Option Files) (wanted asked : Option Wanted) → wanted ≡ asked → PrintsAnswer known asked s text new_text pieces new_pieces → PrintsAnswer known wanted s text new_text pieces new_pieces
  asked_for known wanted asked is h = subst (λ (x : Option Wanted). PrintsAnswer known x s text new_text pieces new_pieces) (sym is) h

  -- they ask for nothing
  pub usage_for_none : (known : Option Files) (wanted : Option Wanted) → wanted ≡ None → PrintsUsage s text new_text pieces new_pieces → PrintsAnswer known wanted s text new_text pieces new_pieces
  usage_for_none known wanted is h = asked_for known wanted None is (record { first_bytes = []; second_bytes = []; held = λ files told. (tt, tt); reports = h })

-- the calls of the shelf
pub asked_grows : (wanted asked : Option Wanted) (old new : Option (List Ask)) → wanted ≡ asked → GrowsByPrefix old new (asks_to asked) → GrowsByPrefix old new (asks_to wanted)
asked_grows wanted asked old new is h = subst (λ (x : Option Wanted). GrowsByPrefix old new (asks_to x)) (sym is) h
