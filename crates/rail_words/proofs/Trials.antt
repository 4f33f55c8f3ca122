-- The words of `trial`, taken one by one.
use Rattle.std.proofs.Common.{◌≡◌, ℕ, ◌==◌, false, List, [], ◌∷◌, codes, refl, Some, slice_index_or}
use Rattle.clap.specs.Kinds.{or_else}
use Rattle.clap.specs.Walk.{Text, Walk, idle, walk, walked, walk_from, nothing_held, rows_after, first_of, plain_word, after_step}
use Rattle.clap.specs.Simple.{Shape, built}
use Rattle.clap.specs.Faults.{walk_fault, turn_fault, level_fault, defaults_fault, fault_of}
use Rattle.clap.specs.Words.{subcommand_of}
use Rattle.clap.proofs.OnLiterals.{clap_on_literals}
use Rattle.rail_words.specs.FixedCommand.{rcv_app, trial_app}
use Rattle.rail_words.specs.Requests.{is_given}
use Rattle.rail_words.proofs.Walks.{stand, plain_walked, plain_turn}

abbrev pub leaf : Shape
leaf = slice_index_or (built rcv_app).subs 5 trial_app.top

abbrev after : Walk → Text → Walk
after w word = after_step leaf.rules word w (plain_word leaf.rules w.waiting word w.held).0 (plain_word leaf.rules w.waiting word w.held).1

module _ (x : ℕ) (xs : Text) (y : ℕ) (ys : Text) (e : (x == 45) ≡ false) (f : (y == 45) ≡ false) where
  abbrev w0 : Walk
  w0 = stand nothing_held idle 1

  abbrev w1 : Walk
  w1 = after w0 (x ∷ xs)

  abbrev w2 : Walk
  w2 = after w1 (y ∷ ys)

  abbrev words : List Text
  words = (x ∷ xs) ∷ (y ∷ ys) ∷ []

  to_w1 : walked leaf.rules [] w0 (x ∷ xs) ≡ w1
  to_w1 = plain_walked leaf w0.held w0.position x xs e w0.waiting

  to_w2 : walked leaf.rules [] w1 (y ∷ ys) ≡ w2
  to_w2 = plain_walked leaf w1.held w1.position y ys f w1.waiting

  walk_is : walk leaf.rules [] nothing_held words ≡ w2
  walk_is = rw (to_w1, to_w2) refl

  turn1 : turn_fault leaf [] w0 (x ∷ xs) ≡ []
  turn1 = plain_turn leaf w0.held w0.position x xs e w0.waiting

  turn2 : turn_fault leaf [] w1 (y ∷ ys) ≡ []
  turn2 = plain_turn leaf w1.held w1.position y ys f w1.waiting

  no_turn_fault : walk_fault leaf [] (walk_from nothing_held) words ≡ []
  unfolding walk_fault
  no_turn_fault = rw (turn1, to_w1, turn2) refl

  pub level : level_fault leaf [] nothing_held words false [] ≡ []
  unfolding defaults_fault
  level = rw (no_turn_fault, walk_is) refl

  pub seed_read : first_of (codes "SEED") (rows_after leaf.rules [] words) ≡ Some (x ∷ xs)
  seed_read = rw walk_is refl

  pub size_read : first_of (codes "SIZE") (rows_after leaf.rules [] words) ≡ Some (y ∷ ys)
  size_read = rw walk_is refl

  pub no_progress : is_given (codes "progress") (rows_after leaf.rules [] words) ≡ false
  unfolding clap_on_literals
  no_progress = rw walk_is refl

-- the rows of the subcommand
pub trial_rows : (program a b : Text) → subcommand_of rcv_app (program ∷ codes "trial" ∷ a ∷ b ∷ []) ≡ Some (codes "trial", rows_after leaf.rules [] (a ∷ b ∷ []))
unfolding clap_on_literals
trial_rows program a b = refl

pub trial_top : (program a b : Text) → fault_of rcv_app (program ∷ codes "trial" ∷ a ∷ b ∷ []) ≡ or_else (level_fault leaf [] nothing_held (a ∷ b ∷ []) false []) []
unfolding clap_on_literals
trial_top program a b = refl
