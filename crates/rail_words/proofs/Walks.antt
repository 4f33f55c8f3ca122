-- The words of `check`, taken one by one.
use Rattle.std.proofs.Common.{◌≡◌, ℕ, ◌==◌, false, List, [], ◌∷◌, codes, refl, Some, None, slice_index_or}
use Rattle.clap.specs.Kinds.{or_else}
use Rattle.clap.specs.Walk.{Text, Held, Walk, Waiting, idle, option, positional, walk, walked, walk_from, nothing_held, rows_after, first_of, plain_word, after_step}
use Rattle.clap.specs.Simple.{Shape, built}
use Rattle.clap.specs.Faults.{walk_fault, turn_fault, step_fault, level_fault, defaults_fault, fault_of}
use Rattle.clap.specs.Words.{subcommand_of}
use Rattle.clap.proofs.OnLiterals.{clap_on_literals}
use Rattle.rail_words.specs.FixedCommand.{rcv_app, check_app}

-- where a walk stands, before its subcommand
abbrev pub stand : Held → Waiting → ℕ → Walk
stand h waiting position = record { held = h; waiting = waiting; position = position; is_trailing = false; stopped = None }

-- a plain word of a command without subcommands
module _ (s : Shape) (h : Held) (position : ℕ) (x : ℕ) (xs : Text) (e : (x == 45) ≡ false) where
  pub plain_walked : (waiting : Waiting) → walked s.rules [] (stand h waiting position) (x ∷ xs)
      ≡ after_step s.rules (x ∷ xs) (stand h waiting position) (plain_word s.rules waiting (x ∷ xs) h).0 (plain_word s.rules waiting (x ∷ xs) h).1
  unfolding walked
  plain_walked idle = simp e
  plain_walked (option id) = simp e
  plain_walked positional = simp e

  pub plain_turn : (waiting : Waiting) → turn_fault s [] (stand h waiting position) (x ∷ xs)
      ≡ step_fault s position (plain_word s.rules waiting (x ∷ xs) h).0 (plain_word s.rules waiting (x ∷ xs) h).1
  plain_turn idle = simp e
  plain_turn (option id) = simp e
  plain_turn positional = simp e

-- ---- `check`

abbrev pub leaf : Shape
leaf = slice_index_or (built rcv_app).subs 4 check_app.top

start : walked leaf.rules [] (walk_from nothing_held) (codes "--steps") ≡ stand (record { rows = []; pending = Some (codes "steps", []); skip = 0 }) (option (codes "steps")) 1
unfolding clap_on_literals
start = refl

start_turn : turn_fault leaf [] (walk_from nothing_held) (codes "--steps") ≡ []
unfolding clap_on_literals
start_turn = refl

abbrev pub after : Walk → Text → Walk
after w word = after_step leaf.rules word w (plain_word leaf.rules w.waiting word w.held).0 (plain_word leaf.rules w.waiting word w.held).1

module _ (x : ℕ) (xs : Text) (y : ℕ) (ys : Text) (z : ℕ) (zs : Text) (e : (x == 45) ≡ false) (f : (y == 45) ≡ false) (g : (z == 45) ≡ false) where
  abbrev w1 : Walk
  w1 = stand (record { rows = []; pending = Some (codes "steps", []); skip = 0 }) (option (codes "steps")) 1

  abbrev w2 : Walk
  w2 = after w1 (x ∷ xs)

  abbrev w3 : Walk
  w3 = after w2 (y ∷ ys)

  abbrev w4 : Walk
  w4 = after w3 (z ∷ zs)

  abbrev words : List Text
  words = codes "--steps" ∷ (x ∷ xs) ∷ (y ∷ ys) ∷ (z ∷ zs) ∷ []

  to_w2 : walked leaf.rules [] w1 (x ∷ xs) ≡ w2
  to_w2 = plain_walked leaf w1.held w1.position x xs e w1.waiting

  to_w3 : walked leaf.rules [] w2 (y ∷ ys) ≡ w3
  to_w3 = plain_walked leaf w2.held w2.position y ys f w2.waiting

  to_w4 : walked leaf.rules [] w3 (z ∷ zs) ≡ w4
  to_w4 = plain_walked leaf w3.held w3.position z zs g w3.waiting

  walk_is : walk leaf.rules [] nothing_held words ≡ w4
  walk_is = rw (start, to_w2, to_w3, to_w4) refl

  turn2 : turn_fault leaf [] w1 (x ∷ xs) ≡ []
  turn2 = plain_turn leaf w1.held w1.position x xs e w1.waiting

  turn3 : turn_fault leaf [] w2 (y ∷ ys) ≡ []
  turn3 = plain_turn leaf w2.held w2.position y ys f w2.waiting

  turn4 : turn_fault leaf [] w3 (z ∷ zs) ≡ []
  turn4 = plain_turn leaf w3.held w3.position z zs g w3.waiting

  no_turn_fault : walk_fault leaf [] (walk_from nothing_held) words ≡ []
  unfolding walk_fault
  no_turn_fault = rw (start_turn, start, turn2, to_w2, turn3, to_w3, turn4) refl

  pub level : level_fault leaf [] nothing_held words false [] ≡ []
  unfolding defaults_fault
  level = rw (no_turn_fault, walk_is) refl

  pub steps_read : first_of (codes "steps") (rows_after leaf.rules [] words) ≡ Some (x ∷ xs)
  steps_read = rw walk_is refl

  pub design_read : first_of (codes "DESIGN") (rows_after leaf.rules [] words) ≡ Some (y ∷ ys)
  design_read = rw walk_is refl

  pub proof_read : first_of (codes "PROOF") (rows_after leaf.rules [] words) ≡ Some (z ∷ zs)
  proof_read = rw walk_is refl

  pub no_within : first_of (codes "within") (rows_after leaf.rules [] words) ≡ None
  unfolding clap_on_literals
  no_within = rw walk_is refl

  pub no_max_ms : first_of (codes "max-ms") (rows_after leaf.rules [] words) ≡ None
  unfolding clap_on_literals
  no_max_ms = rw walk_is refl

-- the rows of the subcommand
pub check_rows : (program a b c d : Text) → subcommand_of rcv_app (program ∷ codes "check" ∷ a ∷ b ∷ c ∷ d ∷ []) ≡ Some (codes "check", rows_after leaf.rules [] (a ∷ b ∷ c ∷ d ∷ []))
unfolding clap_on_literals
check_rows program a b c d = refl

pub check_top : (program a b c d : Text) → fault_of rcv_app (program ∷ codes "check" ∷ a ∷ b ∷ c ∷ d ∷ []) ≡ or_else (level_fault leaf [] nothing_held (a ∷ b ∷ c ∷ d ∷ []) false []) []
unfolding clap_on_literals
check_top program a b c d = refl
