-- Where clap finds no fault, each row has a value, and each required argument of a subcommand one.
use Rattle.std.proofs.Common.{◌≡◌, ℕ, zero, suc, ◌&&◌, ◌||◌, Bool, true, false, not, List, [], ◌∷◌, ◌++◌, length, Option, Some, None, is_some, if◌then◌else◌, nat_lt, refl, sym, true≢false}
use Rattle.std.specs.Prelude.{drop, encode_utf8, find, fold, option_and_then, slice_get}
use Rattle.std.specs.List.{list_all, list_any}
use Rattle.std.specs.Option.{option_map_or}
use Rattle.std.specs.Str.{bytes_eq, chars}
use Rattle.clap.specs.Facts.{explicit_source, unwrap_or_range}
use Rattle.clap.specs.Faults.{bundle_fault, defaults_fault, flag_word_fault, flags_fault, bundle_step_fault, level_fault, long_fault, option_fault, other_fault, positional_fault, react_fault, settle_fault, short_fault, step_fault, stray_fault, turn_fault, use_fault, walk_fault, word_fault}
use Rattle.clap.specs.Kinds.{Kinds, check_kinds, or_else, range_kinds}
use Rattle.clap.specs.Lexer.{long_of, short_of}
use Rattle.clap.specs.Simple.{Shape}
use Rattle.clap.specs.Takes.{is_given}
use Rattle.clap.specs.Values.{is_request}
use Rattle.clap.specs.Walk.{Held, Names, Outcome, Row, Rule, Step, Text, Waiting, Walk, action_of, after_flag, after_step, arg_by_id, arg_by_index, arg_by_long, arg_by_short, at_row, attached_value, bundle_met, bundle_step, default_rows, done, finished, first_of, flag_met, idle, is_pending, long_met, long_or_other, more_values, most_values, next, nothing_held, option, option_met, option_word, plain, plain_word, positional, reacted, reading_by, refused, rows_after, settled, settled_rows, short_met, short_or_plain, subcommand, subcommand_met, subcommand_or_other, takes_several, takes_values, to_positional, trailing, used, used_as, used_by_id, value, waits, walk, walk_from, walked, walked_from, with_default, with_values, without, word_met, has_row, is_empty}
use Rattle.clap.specs.declared.builder.action.ArgAction.{ArgAction}
use Rattle.clap.specs.declared.builder.action.ArgAction.TheVariants as action
use Rattle.clap.specs.declared.builder.value_parser.Reading.{Reading}
use Rattle.clap.specs.declared.error.kind.ErrorKind.TheVariants as kind
use Rattle.clap.specs.declared.parser.matches.ValueSource.{ValueSource}
use Rattle.clap.specs.declared.parser.matches.ValueSource.TheVariants.{CommandLine, DefaultValue}

-- ---- rows with values

abbrev pub HasValue : List Text → Type 0
HasValue [] = ⊥
HasValue (v ∷ vs) = Unit {0}

-- each row has a value
abbrev pub HaveValues : List Row → Type 0
HaveValues [] = Unit {0}
HaveValues (r ∷ rs) = HasValue r.values × HaveValues rs

joined : (xs : List Text) (v : Text) (vs : List Text) → HasValue (xs ++ v ∷ vs)
joined [] v vs = tt
joined (x ∷ xs) v vs = tt

rows_joined : (xs ys : List Row) → HaveValues xs → HaveValues ys → HaveValues (xs ++ ys)
rows_joined [] ys h i = i
rows_joined (x ∷ xs) ys h i = (h.0, rows_joined xs ys h.1 i)

at_row_kept : (id : Text) (change : Row → List Row) (missing rows : List Row) → ((r : Row) → HaveValues (change r)) → HaveValues missing → HaveValues rows → HaveValues (at_row id change missing rows)
at_row_kept id change missing [] h m r = m
at_row_kept id change missing (x ∷ xs) h m r = go (bytes_eq x.id id) (at_row_kept id change missing xs h m r.1)
  where
    go : (b : Bool) → HaveValues (at_row id change missing xs) → HaveValues (if b then change x ++ xs else x ∷ at_row id change missing xs)
    go true more = rows_joined (change x) xs (h x) r.1
    go false more = (r.0, more)

without_kept : (id : Text) (rows : List Row) → HaveValues rows → HaveValues (without id rows)
without_kept id rows r = at_row_kept id (λ _. []) [] rows (λ x. tt) tt r

with_kept : (id : Text) (how : Reading) (s : ValueSource) (v : Text) (vs : List Text) (rows : List Row) → HaveValues rows → HaveValues (with_values id how s (v ∷ vs) rows)
with_kept id how s v vs rows r = at_row_kept id (more_values s (v ∷ vs)) (record { id = id; values = v ∷ vs; count = None; source = Some s; reading = how } ∷ []) rows (λ x. (joined x.values v vs, tt)) (tt, tt) r

-- ---- one use of an argument

-- a use that passes has a value, or one that stands for none, or leaves the rows as they are
abbrev pub gives : Rule → Bool
gives a = is_request (action_of a) || (not (is_empty a.missing) || nat_lt 0 (unwrap_or_range a.range).start_inclusive)

pub both_none : (a b : Kinds) → or_else a b ≡ [] → (a ≡ []) × (b ≡ [])
both_none [] b e = (refl, e)
both_none (k ∷ ks) b e = absurd (cc)

none_given : (least most : ℕ) → nat_lt 0 least ≡ true → range_kinds least most 0 ≡ [] → ⊥
none_given least most h e = let f = rw h at e in absurd (cc)

as_used : (x : ArgAction) (id : Text) (how : Reading) (v : Text) (vs : List Text) (rows : List Row) → HaveValues rows → HaveValues (used_as x id how (v ∷ vs) rows)
as_used action.Set id how v vs rows r = with_kept id how CommandLine v vs (without id rows) (without_kept id rows r)
as_used action.Append id how v vs rows r = with_kept id how CommandLine v vs rows r
as_used action.SetTrue id how v vs rows r = with_kept id how CommandLine v vs (without id rows) (without_kept id rows r)
as_used action.SetFalse id how v vs rows r = with_kept id how CommandLine v vs (without id rows) (without_kept id rows r)
as_used action.Count id how v vs rows r = with_kept id how CommandLine v vs (without id rows) (without_kept id rows r)
as_used action.Help id how v vs rows r = r
as_used action.HelpShort id how v vs rows r = r
as_used action.HelpLong id how v vs rows r = r
as_used action.Version id how v vs rows r = r

as_asked : (x : ArgAction) (id : Text) (how : Reading) (vs : List Text) (rows : List Row) → is_request x ≡ true → HaveValues rows → HaveValues (used_as x id how vs rows)
as_asked action.Set id how vs rows e r = absurd (true≢false (sym e))
as_asked action.Append id how vs rows e r = absurd (true≢false (sym e))
as_asked action.SetTrue id how vs rows e r = absurd (true≢false (sym e))
as_asked action.SetFalse id how vs rows e r = absurd (true≢false (sym e))
as_asked action.Count id how vs rows e r = absurd (true≢false (sym e))
as_asked action.Help id how vs rows e r = r
as_asked action.HelpShort id how vs rows e r = r
as_asked action.HelpLong id how vs rows e r = r
as_asked action.Version id how vs rows e r = r

-- rows keep their values through a use that passes
used_kept : (again : Bool) (a : Rule) (values : List Text) (rows : List Row) → gives a ≡ true → use_fault again a values rows ≡ [] → HaveValues rows → HaveValues (used a values rows)
used_kept again a (v ∷ vs) rows g e r = as_used (action_of a) a.id (reading_by a) v vs rows r
used_kept again a [] rows g e r = go (is_request (action_of a)) a.missing refl g
  where
    go : (b : Bool) (missing : List Text) → is_request (action_of a) ≡ b → (b || (not (is_empty missing) || nat_lt 0 (unwrap_or_range a.range).start_inclusive)) ≡ true
        → HaveValues (used_as (action_of a) a.id (reading_by a) missing rows)
    go true missing h g = as_asked (action_of a) a.id (reading_by a) missing rows h r
    go false (v ∷ vs) h g = as_used (action_of a) a.id (reading_by a) v vs rows r
    go false [] h g = absurd (none_given (unwrap_or_range a.range).start_inclusive (most_values a) g (both_none _ _ e).0)

abbrev FoundGives : Option Rule → Type 0
FoundGives None = Unit {0}
FoundGives (Some a) = gives a ≡ true

and_both : (a b : Bool) → (a && b) ≡ true → (a ≡ true) × (b ≡ true)
and_both true b e = (refl, e)
and_both false b e = absurd (true≢false (sym e))

found_gives : (p : Rule → Bool) (c : List Rule) → list_all gives c ≡ true → FoundGives (find p c)
found_gives p [] e = tt
found_gives p (a ∷ rest) e = go (p a) (found_gives p rest (and_both _ _ e).1)
  where
    go : (b : Bool) → FoundGives (find p rest) → FoundGives (if b then Some a else find p rest)
    go true more = (and_both _ _ e).0
    go false more = more

-- ---- the walk

module _ (c : List Rule) (again : Bool) (g : list_all gives c ≡ true) where
  -- so they do where the pending argument is used, and at each word
  settled_kept : (h : Held) → settle_fault c again h ≡ [] → HaveValues h.rows → HaveValues (settled c h).rows
  settled_kept h e r = go h.pending e
    where
      by : (found : Option Rule) (values : List Text) → FoundGives found → option_map_or (λ a. use_fault again a values h.rows) found [] ≡ [] → HaveValues (used_by_id found values h.rows)
      by None values f e = r
      by (Some a) values f e = used_kept again a values h.rows f e r

      go : (p : Option (Text × List Text)) → option_map_or (λ p. option_map_or (λ a. use_fault again a p.1 h.rows) (arg_by_id c p.0) []) p [] ≡ [] → HaveValues (settled_rows c p h.rows)
      go None e = r
      go (Some p) e = by (arg_by_id c p.0) p.1 (found_gives _ c g) e

  reacted_kept : (a : Rule) (values : List Text) (h : Held) → gives a ≡ true → react_fault c again a values h ≡ [] → HaveValues h.rows → HaveValues (reacted c a values h).rows
  reacted_kept a values h f e r =
      let parts = both_none _ _ e in
      used_kept again a values (settled c h).rows f parts.1 (settled_kept h parts.0 r)

  option_kept : (a : Rule) (v : Option Text) (h : Held) → gives a ≡ true → option_fault c again a v h ≡ [] → HaveValues h.rows → HaveValues (option_met c a v h).0.rows
  option_kept a (Some v) h f e r = reacted_kept a (v ∷ []) h f e r
  option_kept a None h f e r = settled_kept h e r

  long_kept : (found : Option Rule) (v : Option Text) (h : Held) → FoundGives found → long_fault c again found v h ≡ [] → HaveValues h.rows → HaveValues (long_met c found v h).0.rows
  long_kept None v h f e r = r
  long_kept (Some a) v h f e r = go (takes_values a) v e
    where
      go : (b : Bool) (v : Option Text) → (if b then option_fault c again a v h else (if is_some v then kind.TooManyValues ∷ [] else react_fault c again a [] h)) ≡ [] → HaveValues (if b then option_met c a v h else flag_met c a v h).0.rows
      go true v e = option_kept a v h f e r
      go false (Some v) e = r
      go false None e = reacted_kept a [] h f e r

  short_kept : (found : Option Rule) (rest : Text) (h : Held) (fault : Held → Kinds) (met : Held → Held × Outcome) → FoundGives found → ((k : Held) → fault k ≡ [] → HaveValues k.rows → HaveValues (met k).0.rows)
      → short_fault c again found rest h fault ≡ [] → HaveValues h.rows → HaveValues (short_met c found rest h met).0.rows
  short_kept None rest h fault met f more e r = r
  short_kept (Some a) rest h fault met f more e r = go (takes_values a) e
    where
      go : (b : Bool) → (if b then option_fault c again a (attached_value rest) h else or_else (react_fault c again a [] h) (fault (reacted c a [] h))) ≡ []
          → HaveValues (if b then option_met c a (attached_value rest) h else met (reacted c a [] h)).0.rows
      go true e = option_kept a (attached_value rest) h f e r
      go false e =
          let parts = both_none _ _ e in
          more (reacted c a [] h) parts.1 (reacted_kept a [] h f parts.0 r)

  bundle_step_kept : (o : Option ℕ) (flags : Text) (skip : ℕ) (so_far : Outcome) (h : Held) (fault : Text → ℕ → Held → Kinds) (met : Text → ℕ → Outcome → Held → Held × Outcome)
      → ((flags : Text) (skip : ℕ) (so_far : Outcome) (k : Held) → fault flags skip k ≡ [] → HaveValues k.rows → HaveValues (met flags skip so_far k).0.rows)
      → bundle_step_fault c again o flags skip h fault ≡ [] → HaveValues h.rows → HaveValues (bundle_step c o flags skip so_far h met).0.rows
  bundle_step_kept None flags skip so_far h fault met more e r = r
  bundle_step_kept (Some x) flags zero so_far h fault met more e r =
      let rest = drop (length (encode_utf8 x)) flags in
      short_kept (arg_by_short c x) rest h (fault rest 0) (met rest 0 done) (found_gives _ c g) (more rest 0 done) e r
  bundle_step_kept (Some x) flags (suc skip) so_far h fault met more e r = more (drop (length (encode_utf8 x)) flags) skip so_far h e r

  bundle_kept : (k : ℕ) (flags : Text) (skip : ℕ) (so_far : Outcome) (h : Held) → flags_fault c again k flags skip h ≡ [] → HaveValues h.rows → HaveValues (bundle_met c k flags skip so_far h).0.rows
  unfolding flags_fault bundle_met
  bundle_kept zero flags skip so_far h e r = r
  bundle_kept (suc k) flags skip so_far h e r = bundle_step_kept (slice_get (chars flags) 0) flags skip so_far h (flags_fault c again k) (bundle_met c k) (bundle_kept k) e r

  option_word_kept : (found : Option Rule) (id word : Text) (h : Held) → HaveValues h.rows → HaveValues (option_word found id word h).0.rows
  option_word_kept None id word h r = r
  option_word_kept (Some a) id word h r = r

  plain_kept : (waiting : Waiting) (word : Text) (h : Held) → HaveValues h.rows → HaveValues (plain_word c waiting word h).0.rows
  plain_kept idle word h r = r
  plain_kept (option id) word h r = option_word_kept (arg_by_id c id) id word h r
  plain_kept positional word h r = r

  flag_kept : (waiting : Waiting) (word : Text) (h : Held) (o : Outcome) → HaveValues h.rows → HaveValues (after_flag c waiting word h o).0.rows
  flag_kept waiting word h done r = r
  flag_kept waiting word h (waits id) r = r
  flag_kept waiting word h plain r = plain_kept waiting word h r
  flag_kept waiting word h refused r = plain_kept waiting word h r

  flag_word_kept : (waiting : Waiting) (word : Text) (o : Option (Text × Option Text)) (h : Held) → flag_word_fault c again o word h ≡ [] → HaveValues h.rows → HaveValues (long_or_other c waiting word o h).0.rows
  flag_word_kept waiting word (Some p) h e r = flag_kept waiting word _ _ (long_kept (arg_by_long c p.0) p.1 h (found_gives _ c g) e r)
  flag_word_kept waiting word None h e r = go (short_of word) e
    where
      go : (o : Option Text) → option_map_or (λ flags. bundle_fault c again flags h) o [] ≡ [] → HaveValues (short_or_plain c waiting word o h).0.rows
      go None e = plain_kept waiting word h r
      go (Some flags) e = flag_kept waiting word _ _ (bundle_kept (length flags) flags h.skip plain (record h { skip = 0 }) e r)

step_kept : (s : Shape) (w : Walk) (word : Text) (h : Held) (step : Step) → list_all gives s.rules ≡ true → step_fault s w.position h step ≡ [] → HaveValues h.rows → HaveValues (after_step s.rules word w h step).held.rows
step_kept s w word h (next waiting) g e r = r
step_kept s w word h (trailing position) g e r = r
step_kept s w word h (subcommand name) g e r = r
step_kept s w word h value g e r = go (arg_by_index s.rules w.position) e
  where
    at : (b : Bool) → (if b then [] else settle_fault s.rules s.args_override_self h) ≡ [] → HaveValues (if b then h else settled s.rules h).rows
    at true e = r
    at false e = settled_kept s.rules s.args_override_self g h e r

    go : (o : Option Rule) → option_map_or (λ a. positional_fault s.rules s.args_override_self a h) o (stray_fault s) ≡ [] → HaveValues (to_positional s.rules o word w h).held.rows
    go None e = r
    go (Some a) e = at (is_pending a h.pending && takes_several a) e

word_kept : (s : Shape) (names : Names) (is_trailing : Bool) (waiting : Waiting) (position : ℕ) (word : Text) (h : Held) → list_all gives s.rules ≡ true → word_fault s names is_trailing waiting word h ≡ [] → HaveValues h.rows
    → HaveValues (word_met s.rules names is_trailing waiting position word h).0.rows
word_kept s names true waiting position word h g e r = r
word_kept s names false waiting position word h g e r = go (subcommand_met names waiting word) e
  where
    at : (b : Bool) → (if b then [] else flag_word_fault s.rules s.args_override_self (long_of word) word h) ≡ [] → HaveValues (if b then (h, trailing position) else long_or_other s.rules waiting word (long_of word) h).0.rows
    at true e = r
    at false e = flag_word_kept s.rules s.args_override_self g waiting word (long_of word) h e r

    go : (o : Option Text) → other_fault s o word h ≡ [] → HaveValues (subcommand_or_other s.rules o waiting position word h).0.rows
    go (Some name) e = r
    go None e = at (bytes_eq word (45 ∷ 45 ∷ [])) e

turn_kept : (s : Shape) (names : Names) (w : Walk) (word : Text) → list_all gives s.rules ≡ true → turn_fault s names w word ≡ [] → HaveValues w.held.rows → HaveValues (walked s.rules names w word).held.rows
unfolding walked
turn_kept s names w word g e r = go w.stopped e
  where
    go : (o : Option (Text × List Text)) → turn_fault s names (record w { stopped = o }) word ≡ [] → HaveValues (walked_from s.rules names o w word).held.rows
    go (Some p) e = r
    go None e =
        let met = word_met s.rules names w.is_trailing w.waiting w.position word w.held in
        let parts = both_none _ _ e in
        step_kept s w word met.0 met.1 g parts.1 (word_kept s names w.is_trailing w.waiting w.position word w.held g parts.0 r)

walk_kept : (s : Shape) (names : Names) (w : Walk) (words : List Text) → list_all gives s.rules ≡ true → walk_fault s names w words ≡ [] → HaveValues w.held.rows → HaveValues (fold (walked s.rules names) w words).held.rows
unfolding walk_fault
walk_kept s names w [] g e r = r
walk_kept s names w (x ∷ xs) g e r =
    let parts = both_none _ _ e in
    walk_kept s names (walked s.rules names w x) xs g parts.1 (turn_kept s names w x g parts.0 r)

-- ---- after the walk

default_kept : (rows : List Row) (a : Rule) → HaveValues rows → HaveValues (with_default rows a)
default_kept rows a r = go (has_row a.id rows) a.defaults
  where
    go : (b : Bool) (values : List Text) → HaveValues (if b then rows else default_rows a.id (reading_by a) values rows)
    go true values = r
    go false [] = r
    go false (v ∷ vs) = with_kept a.id (reading_by a) DefaultValue v vs rows r

defaults_kept : (c : List Rule) (rows : List Row) → HaveValues rows → HaveValues (fold with_default rows c)
defaults_kept [] rows r = r
defaults_kept (a ∷ rest) rows r = defaults_kept rest (with_default rows a) (default_kept rows a r)

-- the argument has a value
abbrev IsGiven : Text → List Row → Type 0
IsGiven id rows = (text : Text) × (first_of id rows ≡ Some text)

abbrev FoundHasValue : Option Row → Type 0
FoundHasValue None = Unit {0}
FoundHasValue (Some r) = HasValue r.values

found_has : (p : Row → Bool) (rows : List Row) → HaveValues rows → FoundHasValue (find p rows)
found_has p [] r = tt
found_has p (x ∷ xs) r = go (p x) (found_has p xs r.1)
  where
    go : (b : Bool) → FoundHasValue (find p xs) → FoundHasValue (if b then Some x else find p xs)
    go true more = r.0
    go false more = more

-- what is given has a value
given : (id : Text) (rows : List Row) → HaveValues rows → is_given id rows ≡ true → IsGiven id rows
given id rows r e = go (find (λ x. bytes_eq x.id id) rows) (found_has _ rows r) e
  where
    first : (values : List Text) → HasValue values → (text : Text) × (slice_get values 0 ≡ Some text)
    first [] h = absurd h
    first (v ∷ vs) h = (v, refl)

    go : (o : Option Row) → FoundHasValue o → option_map_or (λ x. explicit_source x.source) o false ≡ true → (text : Text) × (option_and_then (λ (x : Row). slice_get x.values 0) o ≡ Some text)
    go None h e = absurd (true≢false (sym e))
    go (Some x) h e = first x.values h

-- each required argument has a value
abbrev pub AreGiven : List Rule → List Row → Type 0
AreGiven [] rows = Unit {0}
AreGiven (a ∷ rest) rows = (a.required ≡ true → IsGiven a.id rows) × AreGiven rest rows

neither : (a b : Bool) → (a || b) ≡ false → (a ≡ false) × (b ≡ false)
neither true b e = absurd (true≢false e)
neither false b e = (refl, e)

present : (required is : Bool) → required ≡ true → (required && not is) ≡ false → is ≡ true
present required true h e = refl
present true false h e = absurd (true≢false e)
present false false h e = absurd (true≢false (sym h))

negated : (negates wants : Bool) → (not (negates && false) && wants) ≡ false → wants ≡ false
negated true wants e = e
negated false wants e = e

all_given : (c : List Rule) (rows : List Row) → HaveValues rows → list_any (λ a. a.required && not (is_given a.id rows)) c ≡ false → AreGiven c rows
all_given [] rows r e = tt
all_given (a ∷ rest) rows r e =
    let parts = neither _ _ e in
    (λ required. given a.id rows r (present a.required (is_given a.id rows) required parts.0), all_given rest rows r parts.1)

pub wants_none : (help sub argument : Bool) → check_kinds help sub argument ≡ [] → (sub ≡ false) × (argument ≡ false)
wants_none true sub argument e = absurd (cc)
wants_none false true argument e = absurd (cc)
wants_none false false true e = absurd (cc)
wants_none false false false e = (refl, refl)

-- a command with no subcommand that takes its words has a value for each required argument
pub level_given : (s : Shape) (words : List Text) → list_all gives s.rules ≡ true → level_fault s [] nothing_held words false [] ≡ [] → AreGiven s.rules (rows_after s.rules [] words)
level_given s words g e =
    let end = (walk s.rules [] nothing_held words).held in
    let walks = both_none _ _ e in
    let settles = both_none (settle_fault s.rules s.args_override_self end) _ walks.1 in
    let defaults = both_none (defaults_fault (settled s.rules end).rows s.rules) _ settles.1 in
    let rows = walk_kept s [] (walk_from nothing_held) words g walks.0 tt in
    let settled_rows = settled_kept s.rules s.args_override_self g end settles.0 rows in
    all_given s.rules (finished s.rules end) (defaults_kept s.rules (settled s.rules end).rows settled_rows) (negated s.subcommand_negates_reqs _ (wants_none _ _ _ defaults.1).1)
