-- Where clap finds no fault, a command that needs a subcommand enters one, and not `help`.
use Rattle.std.proofs.Common.{◌≡◌, ◌⊎◌, ℕ, ◌&&◌, Bool, true, false, not, List, [], ◌∷◌, Option, Some, None, is_some, if◌then◌else◌, codes, refl, sym, subst, ap, inl, inr, true≢false}
use Rattle.std.specs.Prelude.{find, fold, option_map}
use Rattle.std.specs.Option.{option_map_or}
use Rattle.std.specs.Str.{bytes_eq}
use Rattle.clap.specs.Faults.{built_fault, defaults_fault, entered_fault, level_fault, other_fault, settle_fault, turn_fault, walk_fault, word_fault}
use Rattle.clap.specs.Kinds.{Kinds}
use Rattle.clap.specs.Lexer.{long_of, short_of}
use Rattle.clap.specs.Simple.{App, Shape, entered, label_of, names_of, rows_at}
use Rattle.clap.specs.Walk.{Held, Names, Outcome, Rule, Step, Text, Waiting, Walk, after_flag, after_step, answers_to, arg_by_index, done, idle, long_or_other, next, nothing_held, option, plain, plain_word, positional, refused, settled, short_or_plain, stop_after, subcommand, subcommand_met, subcommand_or_other, to_positional, trailing, value, waits, walk, walk_from, walked, walked_from, word_met}
use Rattle.rail_words.proofs.Values.{both_none, wants_none}

-- ---- the walk never stops at `help`

abbrev pub IsNotHelp : Text → Type 0
IsNotHelp name = bytes_eq name (codes "help") ≡ false

abbrev StopsElsewhere : Option (Text × List Text) → Type 0
StopsElsewhere None = Unit {0}
StopsElsewhere (Some p) = IsNotHelp p.0

abbrev StepsElsewhere : Step → Type 0
StepsElsewhere (next waiting) = Unit {0}
StepsElsewhere (trailing position) = Unit {0}
StepsElsewhere (subcommand name) = IsNotHelp name
StepsElsewhere value = Unit {0}

plain_step : (c : List Rule) (waiting : Waiting) (word : Text) (h : Held) → StepsElsewhere (plain_word c waiting word h).1
plain_step c idle word h = tt
plain_step c (option id) word h = tt
plain_step c positional word h = tt

flag_step : (c : List Rule) (waiting : Waiting) (word : Text) (h : Held) (o : Outcome) → StepsElsewhere (after_flag c waiting word h o).1
flag_step c waiting word h done = tt
flag_step c waiting word h (waits id) = tt
flag_step c waiting word h plain = plain_step c waiting word h
flag_step c waiting word h refused = plain_step c waiting word h

other_step : (c : List Rule) (waiting : Waiting) (word : Text) (o : Option (Text × Option Text)) (h : Held) → StepsElsewhere (long_or_other c waiting word o h).1
other_step c waiting word (Some p) h = flag_step c waiting word _ _
other_step c waiting word None h = go (short_of word)
  where
    go : (o : Option Text) → StepsElsewhere (short_or_plain c waiting word o h).1
    go (Some flags) = flag_step c waiting word _ _
    go None = plain_step c waiting word h

asks_no_help : (is_help disabled : Bool) (kinds : Kinds) → disabled ≡ false → (kinds ≡ [] → ⊥) → (if is_help && not disabled then kinds else []) ≡ [] → is_help ≡ false
asks_no_help false disabled kinds d some e = refl
asks_no_help true true kinds d some e = absurd (true≢false d)
asks_no_help true false kinds d some e = absurd (some e)

module _ (s : Shape) (names : Names) (enabled : s.disable_help_subcommand ≡ false) where
  word_step : (is_trailing : Bool) (waiting : Waiting) (position : ℕ) (word : Text) (h : Held) → word_fault s names is_trailing waiting word h ≡ [] → StepsElsewhere (word_met s.rules names is_trailing waiting position word h).1
  word_step true waiting position word h e = tt
  word_step false waiting position word h e = go (subcommand_met names waiting word) e
    where
      at : (b : Bool) → StepsElsewhere (if b then (h, trailing position) else long_or_other s.rules waiting word (long_of word) h).1
      at true = tt
      at false = other_step s.rules waiting word (long_of word) h

      go : (o : Option Text) → other_fault s o word h ≡ [] → StepsElsewhere (subcommand_or_other s.rules o waiting position word h).1
      go (Some name) e = asks_no_help (bytes_eq name (codes "help")) s.disable_help_subcommand _ enabled (λ none. absurd (cc)) e
      go None e = at (bytes_eq word (45 ∷ 45 ∷ []))

  step_stop : (w : Walk) (word : Text) (h : Held) (step : Step) → StopsElsewhere w.stopped → StepsElsewhere step → StopsElsewhere (after_step s.rules word w h step).stopped
  step_stop w word h (next waiting) i j = i
  step_stop w word h (trailing position) i j = i
  step_stop w word h (subcommand name) i j = j
  step_stop w word h value i j = go (arg_by_index s.rules w.position)
    where
      go : (o : Option Rule) → StopsElsewhere (to_positional s.rules o word w h).stopped
      go None = i
      go (Some a) = tt

  turn_stop : (w : Walk) (word : Text) → turn_fault s names w word ≡ [] → StopsElsewhere w.stopped → StopsElsewhere (walked s.rules names w word).stopped
  unfolding walked
  turn_stop w word e i = go w.stopped e i
    where
      go : (o : Option (Text × List Text)) → turn_fault s names (record w { stopped = o }) word ≡ [] → StopsElsewhere o → StopsElsewhere (walked_from s.rules names o w word).stopped
      go (Some p) e j = j
      go None e j =
          let met = word_met s.rules names w.is_trailing w.waiting w.position word w.held in
          step_stop w word met.0 met.1 i (word_step w.is_trailing w.waiting w.position word w.held (both_none _ _ e).0)

  walk_stop : (w : Walk) (words : List Text) → walk_fault s names w words ≡ [] → StopsElsewhere w.stopped → StopsElsewhere (fold (walked s.rules names) w words).stopped
  unfolding walk_fault
  walk_stop w [] e i = i
  walk_stop w (x ∷ xs) e i =
      let parts = both_none _ _ e in
      walk_stop (walked s.rules names w x) xs parts.1 (turn_stop w x parts.0 i)

-- ---- the subcommand

abbrev pub IsAmong : Shape → List Shape → Type 0
IsAmong s [] = ⊥
IsAmong s (x ∷ xs) = (s ≡ x) ⊎ IsAmong s xs

found_among : (p : Shape → Bool) (xs : List Shape) (s : Shape) → find p xs ≡ Some s → (p s ≡ true) × IsAmong s xs
found_among p [] s e = absurd (cc)
found_among p (x ∷ xs) s e = go (p x) refl (found_among p xs s) e
  where
    go : (b : Bool) → p x ≡ b → (find p xs ≡ Some s → (p s ≡ true) × IsAmong s xs) → (if b then Some x else find p xs) ≡ Some s → (p s ≡ true) × IsAmong s (x ∷ xs)
    go true h more e =
        let same : x ≡ s = cc in
        (subst (λ y. p y ≡ true) same h, inl (sym same))
    go false h more e = ((more e).0, inr (more e).1)

wanted : (has required : Bool) → required ≡ true → (not has && required) ≡ false → has ≡ true
wanted true required r e = refl
wanted false true r e = absurd (true≢false e)
wanted false false r e = absurd (true≢false (sym r))

-- a subcommand of the command is entered, by a word that is not `help`, and takes the words after it
pub record Enters (a : App) (stop : Option (Text × List Text)) : Type 0 where
  pub word : Text
  pub rest : List Text
  pub command : Shape
  pub not_help : IsNotHelp word
  pub answers : answers_to word (label_of command) ≡ true
  pub among : IsAmong command a.subs
  pub is : entered a stop ≡ Some (rows_at command rest)
  pub takes : level_fault command [] nothing_held rest false [] ≡ []

found_enters : (a : App) (p : Text × List Text) (o : Option Shape) → find (λ s. answers_to p.0 (label_of s)) a.subs ≡ o → IsNotHelp p.0
    → option_map_or (λ s. level_fault s [] nothing_held p.1 false []) o [] ≡ [] → is_some (option_map (λ s. rows_at s p.1) o) ≡ true → Enters a (Some p)
found_enters a p None found not_help below has = absurd (true≢false (sym has))
found_enters a p (Some s) found not_help below has =
    let parts = found_among (λ s. answers_to p.0 (label_of s)) a.subs s found in
    record { word = p.0; rest = p.1; command = s; not_help = not_help; answers = parts.0; among = parts.1; is = ap (option_map (λ s. rows_at s p.1)) found; takes = below }

stop_enters : (a : App) (stop : Option (Text × List Text)) → StopsElsewhere stop → entered_fault a stop ≡ [] → is_some (entered a stop) ≡ true → Enters a stop
stop_enters a None not_help below has = absurd (true≢false (sym has))
stop_enters a (Some p) not_help below has = found_enters a p (find (λ s. answers_to p.0 (label_of s)) a.subs) refl not_help below has

pub level_enters : (a : App) (words : List Text) → a.top.subcommand_required ≡ true → a.top.disable_help_subcommand ≡ false → built_fault a nothing_held words ≡ [] → Enters a (stop_after a.top.rules (names_of a) words)
level_enters a words required enabled e =
    let stop = stop_after a.top.rules (names_of a) words in
    let end = (walk a.top.rules (names_of a) nothing_held words).held in
    let walks = both_none _ _ e in
    let below = both_none (entered_fault a stop) _ walks.1 in
    let settles = both_none (settle_fault a.top.rules a.top.args_override_self end) _ below.1 in
    let defaults = both_none (defaults_fault (settled a.top.rules end).rows a.top.rules) _ settles.1 in
    let has = wanted (is_some (entered a stop)) a.top.subcommand_required required (wants_none _ _ _ defaults.1).0 in
    stop_enters a stop (walk_stop a.top (names_of a) enabled (walk_from nothing_held) words walks.0 tt) below.0 has
