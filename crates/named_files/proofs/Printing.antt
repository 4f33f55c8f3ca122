-- Runs, and what they print.
use Rattle.std.proofs.Common.{◌≡◌, ◌≢◌, ℕ, true, inl, inr, List, [], ◌∷◌, Option, None, Some, Result, Ok, Err, Vec, Global, refl, sym, ap, ◌∙◌, subst}
use Rattle.rail_base.specs.Members.{In}
use Rattle.cli_shell.specs.declared.status.Status.{Status}
use Rattle.cli_shell.specs.declared.status.Status.TheVariants as statuses
use Rattle.cli_shell.specs.declared.reply.Reply.{Reply}
use Rattle.cli_shell.specs.declared.ending.Ending.{Ending}
use Rattle.cli_shell.specs.declared.ending.Ending.TheVariants as ending
use Rattle.cli_shell.specs.declared.input.InputFile.{InputFile}
use Rattle.cli_shell.specs.Answers.{ReplySeen, unless_refused, within_limit}
use Rattle.cli_shell.specs.Statuses.{is_answered}
use Rattle.rail_outside.specs.Files.{Files}
use Rattle.cli_shell.specs.Prints.{Prints}
use Rattle.cli_shell.specs.Replies.{ReadsOrEnds, reply_seen}
use Rattle.named_files.specs.declared.unmade.Unmade.{Unmade}
use Rattle.named_files.specs.declared.unmade.Unmade.TheVariants.{Refused, Memory, Unread}
use Rattle.named_files.specs.Replies.{Answers, Fetches, IsHeld, Makes, Reads, RepliesFor, RepliesOf, names_of, unmade_of}
use Rattle.named_files.specs.Reports.{PrintsFor, PrintsNothing, PrintsRight, Reports, ReportsOf}

-- ---- what is printed

module _ (s : Status) (text new_text : Option (List ℕ)) (pieces new_pieces : Option (List (List ℕ))) where
  pub reports_ok : (r : Result Reply Unmade) (reply : Reply) → r ≡ Ok reply → Prints (reply_seen reply) s text new_text pieces new_pieces → s ≢ statuses.ShelfFault → ReportsOf r s text new_text pieces new_pieces
  reports_ok r reply is prints read = subst (λ (q : Result Reply Unmade). ReportsOf q s text new_text pieces new_pieces) (sym is) (record { prints = prints; is_read = read })

  pub reports_refused : (r : Result Reply Unmade) (e : Unmade) (reply : Reply) → r ≡ Err e → e ≡ Refused reply → Prints (reply_seen reply) s text new_text pieces new_pieces → s ≢ statuses.ShelfFault → ReportsOf r s text new_text pieces new_pieces
  reports_refused r e reply is so prints read =
      subst (λ (q : Result Reply Unmade). ReportsOf q s text new_text pieces new_pieces) (sym (is ∙ ap (λ (x : Unmade). Err x) so)) (record { prints = prints; is_read = read })

  -- a right reply is printed, or what came in its place
  pub reported : (right : ReplySeen → Type 0) (names : List (List ℕ)) (r : Result Reply Unmade) → Makes right names r → ReportsOf r s text new_text pieces new_pieces → Reports right names s text new_text pieces new_pieces
  reported right names (Ok reply) made h = inl (record { answer = reply_seen reply; is_right = made; prints = h.prints; is_read = h.is_read })
  reported right names (Err (Refused reply)) made h = inl (record { answer = reply_seen reply; is_right = made; prints = h.prints; is_read = h.is_read })
  reported right names (Err Memory) made h = inr (inr h)
  reported right names (Err (Unread name)) made h = inr (inl (record { name = name.now; named = made; prints = h }))

-- nothing is, for want of memory
pub prints_nothing : (text : Option (List ℕ)) (pieces : Option (List (List ℕ))) → PrintsNothing statuses.Memory text text pieces pieces
prints_nothing text pieces = record { memory = refl; text_stays = refl; pieces_stay = refl }

-- ---- replies, one reading after the other

-- a reading that ends the work
pub stops_at_file : (right : List ℕ → ReplySeen → Type 0) (names : List (List ℕ)) (name : List ℕ) (e : Unmade) (reading : Result (List ℕ) ReplySeen)
    → In name names → Reads (Err e) name reading → Makes (Answers reading right) names (Err e)
stops_at_file right names name (Refused reply) reading there h = subst (λ (q : Result (List ℕ) ReplySeen). Answers q right (reply_seen reply)) (sym h) refl
stops_at_file right names name Memory reading there h = tt
stops_at_file right names name (Unread other) reading there h = subst (λ (x : List ℕ). In x names) (sym h) there

pub stops_at_ending : {X Y : Type 0} (view : X → Y) (right : Y → ReplySeen → Type 0) (names : List (List ℕ)) (e : Ending) (reading : Result Y ReplySeen)
    → ReadsOrEnds view (Err e) reading → Makes (Answers reading right) names (Err (unmade_of e))
stops_at_ending {Y = Y} view right names (ending.RefusedWith reply) reading h = subst (λ (q : Result Y ReplySeen). Answers q right (reply_seen reply)) (sym h) refl
stops_at_ending view right names ending.Memory reading h = tt
stops_at_ending view right names ending.ShelfFault reading h = tt

-- something was read
pub goes_on : {Y : Type 0} (reading : Result Y ReplySeen) (y : Y) (right : Y → ReplySeen → Type 0) (names : List (List ℕ)) (r : Result Reply Unmade)
    → reading ≡ Ok y → Makes (right y) names r → Makes (Answers reading right) names r
goes_on {Y = Y} reading y right names r is h = subst (λ (q : Result Y ReplySeen). Makes (Answers q right) names r) (sym is) h

-- the answers that are one, and are it
pub makes_same : (right other : ReplySeen → Type 0) (names : List (List ℕ)) (r : Result Reply Unmade) → ((a : ReplySeen) → right a → other a) → Makes right names r → Makes other names r
makes_same right other names (Ok reply) h made = h (reply_seen reply) made
makes_same right other names (Err (Refused reply)) h made = h (reply_seen reply) made
makes_same right other names (Err Memory) h made = tt
makes_same right other names (Err (Unread name)) h made = made

pub answers_one : {Y : Type 0} (reading : Result Y ReplySeen) (next : Y → ReplySeen) (a : ReplySeen) → Answers reading (λ y b. b ≡ next y) a → a ≡ unless_refused reading next
answers_one (Ok y) next a h = h
answers_one (Err refusal) next a h = h

-- memory was wanting
pub made_for_memory : (right : ReplySeen → Type 0) (names : List (List ℕ)) (r : Result Reply Unmade) → r ≡ Err Memory → Makes right names r
made_for_memory right names r is = subst (Makes right names) (sym is) tt

-- ---- files that are wanted

-- the bytes of files that are not read
pub unread_file : (known : Option Files) (name : List ℕ) → (bytes : List ℕ) × ((files : Files) → known ≡ Some files → bytes ≡ files name)
unread_file None name = ([], λ files told. absurd (cc))
unread_file (Some held) name = (held name, λ files told. let same : held ≡ files = cc in ap (λ (g : Files). g name) same)

unread : (known : Option Files) (name : Option (List ℕ)) → (bytes : List ℕ) × ((files : Files) → known ≡ Some files → IsHeld files name bytes)
unread known None = ([], λ files told. tt)
unread known (Some name) = unread_file known name

-- a right reply is right of the same in other words
pub of_same : (known : Option Files) (name : List ℕ) (right other : List ℕ → ReplySeen → Type 0) (r : Result Reply Unmade)
    → ((bytes : List ℕ) (a : ReplySeen) → right bytes a → other bytes a) → RepliesOf known name right r → RepliesOf known name other r
of_same known name right other r h of = record { bytes = of.bytes; held = of.held; makes = makes_same (right of.bytes) (other of.bytes) (name ∷ []) r (h of.bytes) of.makes }

-- with one more name in front
more_names : (right : ReplySeen → Type 0) (name : List ℕ) (names : List (List ℕ)) (r : Result Reply Unmade) → Makes right names r → Makes right (name ∷ names) r
more_names right name names (Ok reply) made = made
more_names right name names (Err (Refused reply)) made = made
more_names right name names (Err Memory) made = tt
more_names right name names (Err (Unread other)) made = inr made

module _ (known : Option Files) (f : InputFile) (name : List ℕ) (r : Result Reply Unmade) where
  -- the file could not be read, or is too long
  pub one_stops : (right : List ℕ → ReplySeen → Type 0) (e : Unmade) → r ≡ Err e → Fetches known f name (Err e) → RepliesOf known name (λ bytes. Answers (within_limit f bytes) right) r
  one_stops right e is h = record {
    bytes = h.bytes;
    held = h.held;
    makes = subst (Makes (Answers (within_limit f h.bytes) right) (name ∷ [])) (sym is) (stops_at_file right (name ∷ []) name e (within_limit f h.bytes) (inl refl) h.reads);
  }

  -- its text was read
  pub one_made : (right : List ℕ → ReplySeen → Type 0) (text : Vec ℕ Global) → Fetches known f name (Ok text) → Makes (right text.items) (name ∷ []) r → RepliesOf known name (λ bytes. Answers (within_limit f bytes) right) r
  one_made right text h made = record { bytes = h.bytes; held = h.held; makes = goes_on (within_limit f h.bytes) text.items right (name ∷ []) r h.reads made }

  -- the same with a second file
  pub both_stops : (right : List ℕ → List ℕ → ReplySeen → Type 0) (second : Option (List ℕ)) (e : Unmade) → r ≡ Err e → Fetches known f name (Err e)
      → RepliesFor known (Some name) second (λ a b. Answers (within_limit f a) (λ text. right text b)) r
  both_stops right second e is h =
      let p = unread known second in
      record {
        first_bytes = h.bytes;
        second_bytes = p.0;
        held = λ files told. (h.held files told, p.1 files told);
        makes = subst (Makes (Answers (within_limit f h.bytes) (λ text. right text p.0)) (names_of (Some name) second)) (sym is)
            (stops_at_file (λ text. right text p.0) (names_of (Some name) second) name e (within_limit f h.bytes) (inl refl) h.reads);
      }

  pub both_made : (right : List ℕ → List ℕ → ReplySeen → Type 0) (second : List ℕ) (text : Vec ℕ Global) → Fetches known f name (Ok text)
      → RepliesOf known second (right text.items) r → RepliesFor known (Some name) (Some second) (λ a b. Answers (within_limit f a) (λ t. right t b)) r
  both_made right second text h of = record {
    first_bytes = h.bytes;
    second_bytes = of.bytes;
    held = λ files told. (h.held files told, of.held files told);
    makes = goes_on (within_limit f h.bytes) text.items (λ t. right t of.bytes) (name ∷ second ∷ []) r h.reads (more_names (right text.items of.bytes) name (second ∷ []) r of.makes);
  }

module _ (known : Option Files) (name : List ℕ) (r : Result Reply Unmade) where
  -- one file alone
  pub alone : (right : List ℕ → ReplySeen → Type 0) → RepliesOf known name right r → RepliesFor known (Some name) None (λ a b. right a) r
  alone right of = record { first_bytes = of.bytes; second_bytes = []; held = λ files told. (of.held files told, tt); makes = of.makes }

  -- before it is read the work ends, or something is read
  pub of_refused : {X Y : Type 0} (view : X → Y) (right : List ℕ → Y → ReplySeen → Type 0) (e : Ending) (reading : Result Y ReplySeen)
      → r ≡ Err (unmade_of e) → ReadsOrEnds view (Err e) reading → RepliesOf known name (λ bytes. Answers reading (right bytes)) r
  of_refused view right e reading is h =
      let p = unread_file known name in
      record { bytes = p.0; held = p.1; makes = subst (Makes (Answers reading (right p.0)) (name ∷ [])) (sym is) (stops_at_ending view (right p.0) (name ∷ []) e reading h) }

  pub of_read : {Y : Type 0} (right : List ℕ → Y → ReplySeen → Type 0) (reading : Result Y ReplySeen) (y : Y)
      → reading ≡ Ok y → RepliesOf known name (λ bytes. right bytes y) r → RepliesOf known name (λ bytes. Answers reading (right bytes)) r
  of_read right reading y is of = record { bytes = of.bytes; held = of.held; makes = goes_on reading y (right of.bytes) (name ∷ []) r is of.makes }

-- ---- what is printed for them

module _ (s : Status) (text new_text : Option (List ℕ)) (pieces new_pieces : Option (List (List ℕ))) where
  pub prints_for : (known : Option Files) (first second : Option (List ℕ)) (right : List ℕ → List ℕ → ReplySeen → Type 0) (r : Result Reply Unmade)
      → RepliesFor known first second right r → ReportsOf r s text new_text pieces new_pieces → PrintsFor known first second right s text new_text pieces new_pieces
  prints_for known first second right r h reports = record {
    first_bytes = h.first_bytes;
    second_bytes = h.second_bytes;
    held = h.held;
    reports = reported s text new_text pieces new_pieces (right h.first_bytes h.second_bytes) (names_of first second) r h.makes reports;
  }

  -- what an answered run prints is an answer
  pub answered : (right : ReplySeen → Type 0) (names : List (List ℕ)) → Reports right names s text new_text pieces new_pieces → is_answered s ≡ true → PrintsRight s text new_text pieces new_pieces right
  answered right names (inl p) is = p
  answered right names (inr (inl p)) is = let no = p.prints.unanswered in absurd (cc)
  answered right names (inr (inr p)) is = let no : is_answered statuses.Memory ≡ true = ap is_answered (sym p.memory) ∙ is in absurd (cc)

pub prints_nothing_for : (known : Option Files) (first second : Option (List ℕ)) (right : List ℕ → List ℕ → ReplySeen → Type 0) (text : Option (List ℕ)) (pieces : Option (List (List ℕ)))
    → PrintsFor known first second right statuses.Memory text text pieces pieces
prints_nothing_for known first second right text pieces =
    let a = unread known first in
    let b = unread known second in
    record { first_bytes = a.0; second_bytes = b.0; held = λ files told. (a.1 files told, b.1 files told); reports = inr (inr (prints_nothing text pieces)) }
