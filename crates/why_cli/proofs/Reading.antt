-- Replies, one reading after the other, and what is printed of them.
use Rattle.std.proofs.Common.{◌≡◌, ℕ, inl, Bool, true, false, List, [], ◌∷◌, Option, Some, None, Result, Ok, Err, Vec, Global, refl, ap, sym, ◌∙◌, subst}
use Rattle.proof_words.specs.declared.explaining.Explained.{Explained}
use Rattle.proof_words.specs.Explained.{explained_of, sentences_or}
use Rattle.rail_base.specs.declared.station.Station.{Station}
use Rattle.cli_shell.specs.declared.input.InputFile.TheVariants as file
use Rattle.cli_shell.specs.declared.reply.Reply.{Reply}
use Rattle.cli_shell.specs.declared.ending.Ending.{Ending}
use Rattle.cli_shell.specs.declared.ending.Ending.TheVariants as ending
use Rattle.cli_shell.specs.declared.status.Status.{Status}
use Rattle.cli_shell.specs.Answers.{ReplySeen, within_limit, unless_refused}
use Rattle.proof_shell.specs.Answers.{for_file}
use Rattle.cli_shell.specs.Replies.{reply_seen, Replies}
use Rattle.rail_base.specs.Members.{In}
use Rattle.cli_shell.proofs.Deciding.{answered_next}
use Rattle.cli_shell.proofs.Refusing.{file_is}
use Rattle.rail_outside.specs.Asks.{Ask}
use Rattle.rail_outside.specs.Files.{Files}
use Rattle.rail_outside.specs.Growth.{GrowsByPrefix}
use Rattle.named_files.specs.declared.unmade.Unmade.{Unmade}
use Rattle.named_files.specs.Replies.{Answers, Fetches, Makes, Reads, RepliesOf, unmade_of}
use Rattle.named_files.proofs.Printing.{answers_one, goes_on, makes_same, stops_at_file}
use Rattle.rail_words.specs.declared.request.InTime.{InTime}
use Rattle.why_words.specs.Wanted.{Wanted}
use Rattle.why_cli.specs.Answers.{sentences_or_shown, explained_against, text_explained, explained_where, steps_for}
use Rattle.why_cli.specs.Plans.{IsPlanAnswer, is_plan}
use Rattle.why_cli.specs.Replies.{IsFileAnswer, IsOfKind, PrintsAnswer, PrintsUsage, asks_to}

-- ---- the text of a proof

-- what is said of it is the answer for so many steps
pub text_told : (t : Option InTime) (design : List ℕ) (n : ℕ) (d : Station) (text : List ℕ) (said : Explained) (reply : Reply) → for_file n d text ≡ Ok d → sentences_or said ≡ explained_of d n text
    → reply_seen reply ≡ sentences_or_shown t design text (sentences_or said) → text_explained t design n d text ≡ reply_seen reply
text_told t design n d text said reply few is seen =
    answered_next (for_file n d text) d (λ same. explained_against t design d n text) few ∙ sym (seen ∙ ap (sentences_or_shown t design text) is)

-- ---- replies on a file

-- where the answer is one, the same of a reading
stops_here : (next : List ℕ → ReplySeen) (names : List (List ℕ)) (name : List ℕ) (e : Unmade) (reading : Result (List ℕ) ReplySeen)
    → In name names → Reads (Err e) name reading → Makes (λ a. a ≡ unless_refused reading next) names (Err e)
stops_here next names name e reading there h = makes_same (Answers reading (λ text a. a ≡ next text)) (λ a. a ≡ unless_refused reading next) names (Err e) (λ a. answers_one reading next a) (stops_at_file (λ text a. a ≡ next text) names name e reading there h)

goes_here : (next : List ℕ → ReplySeen) (reading : Result (List ℕ) ReplySeen) (text : List ℕ) (names : List (List ℕ)) (r : Result Reply Unmade)
    → reading ≡ Ok text → Makes (λ a. a ≡ next text) names r → Makes (λ a. a ≡ unless_refused reading next) names r
goes_here next reading text names r is made = makes_same (Answers reading (λ t a. a ≡ next t)) (λ a. a ≡ unless_refused reading next) names r (λ a. answers_one reading next a) (goes_on reading text (λ t a. a ≡ next t) names r is made)

-- the bytes that were read are the text
kind_of : (bytes : List ℕ) (text : Vec ℕ Global) → within_limit file.Proof bytes ≡ Ok text.items → is_plan bytes ≡ is_plan text.items
kind_of bytes text is = ap is_plan (file_is file.Proof bytes text.items is)

-- of a file
module _ (known : Option Files) (t : Option InTime) (design : List ℕ) (steps : Option ℕ) (d : Station) (name : List ℕ) (r : Result Reply Unmade) where
  -- what is said of the text of a proof
  abbrev of_text : List ℕ → ReplySeen
  of_text text = explained_where t design (steps_for steps text) d text

  -- it could not be read
  pub file_stops : (e : Unmade) → r ≡ Err e → Fetches known file.Proof name (Err e) → RepliesOf known name (IsFileAnswer t design steps d) r
  file_stops e is h = record { bytes = h.bytes; held = h.held; makes = subst (Makes (IsFileAnswer t design steps d h.bytes) (name ∷ [])) (sym is) (go (is_plan h.bytes) e h.reads) }
    where
      go : (plan : Bool) (x : Unmade) → Reads (Err x) name (within_limit file.Proof h.bytes) → Makes (IsOfKind plan t design steps d h.bytes) (name ∷ []) (Err x)
      go true x reads = stops_at_file (IsPlanAnswer d) (name ∷ []) name x (within_limit file.Proof h.bytes) (inl refl) reads
      go false x reads = stops_here of_text (name ∷ []) name x (within_limit file.Proof h.bytes) (inl refl) reads

  -- it is a plan, or a proof
  pub file_plan : (text : Vec ℕ Global) → Fetches known file.Proof name (Ok text) → is_plan text.items ≡ true → Makes (IsPlanAnswer d text.items) (name ∷ []) r → RepliesOf known name (IsFileAnswer t design steps d) r
  file_plan text h plan made = record {
    bytes = h.bytes;
    held = h.held;
    makes = subst (λ (b : Bool). Makes (IsOfKind b t design steps d h.bytes) (name ∷ []) r) (sym (kind_of h.bytes text h.reads ∙ plan)) (goes_on (within_limit file.Proof h.bytes) text.items (IsPlanAnswer d) (name ∷ []) r h.reads made);
  }

  pub file_proof : (text : Vec ℕ Global) → Fetches known file.Proof name (Ok text) → is_plan text.items ≡ false → Makes (λ a. a ≡ of_text text.items) (name ∷ []) r → RepliesOf known name (IsFileAnswer t design steps d) r
  file_proof text h plan made = record {
    bytes = h.bytes;
    held = h.held;
    makes = subst (λ (b : Bool). Makes (IsOfKind b t design steps d h.bytes) (name ∷ []) r) (sym (kind_of h.bytes text h.reads ∙ plan)) (goes_here of_text (within_limit file.Proof h.bytes) text.items (name ∷ []) r h.reads made);
  }

-- what an ending gives
pub ending_makes : (a : ReplySeen) (names : List (List ℕ)) (e : Ending) (r : Result Reply Unmade) → r ≡ Err (unmade_of e) → Replies (Err e) a → Makes (λ b. b ≡ a) names r
ending_makes a names (ending.RefusedWith reply) r is h = subst (Makes (λ b. b ≡ a) names) (sym is) (sym h)
ending_makes a names ending.Memory r is h = subst (Makes (λ b. b ≡ a) names) (sym is) tt
ending_makes a names ending.ShelfFault r is h = subst (Makes (λ b. b ≡ a) names) (sym is) tt

-- ---- what is printed

module _ (s : Status) (text new_text : Option (List ℕ)) (pieces new_pieces : Option (List (List ℕ))) where
  pub asked_for : (known : Option Files) (wanted : Option Wanted) (w : Wanted) → wanted ≡ Some w → PrintsAnswer known (Some w) s text new_text pieces new_pieces → PrintsAnswer known wanted s text new_text pieces new_pieces
  asked_for known wanted w is h = subst (λ (x : Option Wanted). PrintsAnswer known x s text new_text pieces new_pieces) (sym is) h

  pub usage_for_none : (known : Option Files) (wanted : Option Wanted) → wanted ≡ None → PrintsUsage s text new_text pieces new_pieces → PrintsAnswer known wanted s text new_text pieces new_pieces
  usage_for_none known wanted is h =
      subst (λ (x : Option Wanted). PrintsAnswer known x s text new_text pieces new_pieces) (sym is) (record { first_bytes = []; second_bytes = []; held = λ files told. (tt, tt); reports = h })

-- the calls of the shelf
pub asked_grows : (wanted : Option Wanted) (w : Wanted) (old new : Option (List Ask)) → wanted ≡ Some w → GrowsByPrefix old new (asks_to (Some w)) → GrowsByPrefix old new (asks_to wanted)
asked_grows wanted w old new is h = subst (λ (x : Option Wanted). GrowsByPrefix old new (asks_to x)) (sym is) h
