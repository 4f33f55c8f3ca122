-- The words of `tightest` that is to tell how far it is, taken one by one.
use Rattle.std.proofs.Common.{◌≡◌, ℕ, ◌==◌, true, false, List, [], ◌∷◌, codes, refl, Some, slice_index_or}
use Rattle.clap.specs.Kinds.{or_else}
use Rattle.clap.specs.Walk.{Text, Walk, idle, walk, walked, walk_from, nothing_held, reacted, rows_after, first_of}
use Rattle.clap.specs.Faults.{walk_fault, turn_fault, level_fault, defaults_fault, fault_of}
use Rattle.clap.specs.Words.{Rule, subcommand_of}
use Rattle.clap.proofs.OnLiterals.{clap_on_literals}
use Rattle.rail_words.specs.FixedCommand.{rcv_app, flag_rule}
use Rattle.rail_words.specs.Requests.{is_given}
use Rattle.rail_words.proofs.Walks.{stand, plain_walked, plain_turn}
use Rattle.rail_words.proofs.Tightest.{leaf, after}
use Rattle.rail_words.proofs.Tightest as tightest

abbrev progress_rule : Rule
progress_rule = slice_index_or leaf.rules 5 (flag_rule (codes "progress"))

module _ (x : ℕ) (xs : Text) (u : ℕ) (us : Text) (v : ℕ) (vs : Text) (t : ℕ) (ts : Text) (y : ℕ) (ys : Text) (z : ℕ) (zs : Text) where
  abbrev w8 : Walk
  w8 = tightest.w8 x xs u us v vs t ts y ys z zs

  -- after the flag
  abbrev pub w9 : Walk
  w9 = stand (reacted leaf.rules progress_rule [] w8.held) idle 1

  pub to_w9 : walked leaf.rules [] w8 (codes "--progress") ≡ w9
  unfolding clap_on_literals
  to_w9 = refl

  pub turn9 : turn_fault leaf [] w8 (codes "--progress") ≡ []
  unfolding clap_on_literals
  turn9 = refl

  abbrev w10 : Walk
  w10 = after w9 (y ∷ ys)

  abbrev w11 : Walk
  w11 = after w10 (z ∷ zs)

  abbrev words : List Text
  words = codes "--steps" ∷ (x ∷ xs) ∷ codes "--conflicts" ∷ (u ∷ us) ∷ codes "--ticks" ∷ (v ∷ vs) ∷ codes "--within" ∷ (t ∷ ts) ∷ codes "--progress" ∷ (y ∷ ys) ∷ (z ∷ zs) ∷ []

  module _ (a : (x == 45) ≡ false) (b : (u == 45) ≡ false) (c : (v == 45) ≡ false) (d : (t == 45) ≡ false) (f : (y == 45) ≡ false) (g : (z == 45) ≡ false) where
    to_w10 : walked leaf.rules [] w9 (y ∷ ys) ≡ w10
    to_w10 = plain_walked leaf w9.held w9.position y ys f w9.waiting

    to_w11 : walked leaf.rules [] w10 (z ∷ zs) ≡ w11
    to_w11 = plain_walked leaf w10.held w10.position z zs g w10.waiting

    walk_is : walk leaf.rules [] nothing_held words ≡ w11
    walk_is = rw (
      tightest.start,
      tightest.to_w2 x xs u us v vs t ts y ys z zs a b c d f g,
      tightest.to_w3 x xs u us v vs t ts y ys z zs,
      tightest.to_w4 x xs u us v vs t ts y ys z zs a b c d f g,
      tightest.to_w5 x xs u us v vs t ts y ys z zs,
      tightest.to_w6 x xs u us v vs t ts y ys z zs a b c d f g,
      tightest.to_w7 x xs u us v vs t ts y ys z zs,
      tightest.to_w8 x xs u us v vs t ts y ys z zs a b c d f g,
      to_w9,
      to_w10,
      to_w11,
    ) refl

    turn10 : turn_fault leaf [] w9 (y ∷ ys) ≡ []
    turn10 = plain_turn leaf w9.held w9.position y ys f w9.waiting

    turn11 : turn_fault leaf [] w10 (z ∷ zs) ≡ []
    turn11 = plain_turn leaf w10.held w10.position z zs g w10.waiting

    no_turn_fault : walk_fault leaf [] (walk_from nothing_held) words ≡ []
    unfolding walk_fault
    no_turn_fault = rw (
      tightest.start_turn,
      tightest.start,
      tightest.turn2 x xs u us v vs t ts y ys z zs a b c d f g,
      tightest.to_w2 x xs u us v vs t ts y ys z zs a b c d f g,
      tightest.turn3 x xs u us v vs t ts y ys z zs,
      tightest.to_w3 x xs u us v vs t ts y ys z zs,
      tightest.turn4 x xs u us v vs t ts y ys z zs a b c d f g,
      tightest.to_w4 x xs u us v vs t ts y ys z zs a b c d f g,
      tightest.turn5 x xs u us v vs t ts y ys z zs,
      tightest.to_w5 x xs u us v vs t ts y ys z zs,
      tightest.turn6 x xs u us v vs t ts y ys z zs a b c d f g,
      tightest.to_w6 x xs u us v vs t ts y ys z zs a b c d f g,
      tightest.turn7 x xs u us v vs t ts y ys z zs,
      tightest.to_w7 x xs u us v vs t ts y ys z zs,
      tightest.turn8 x xs u us v vs t ts y ys z zs a b c d f g,
      tightest.to_w8 x xs u us v vs t ts y ys z zs a b c d f g,
      turn9,
      to_w9,
      turn10,
      to_w10,
      turn11,
    ) refl

    pub level : level_fault leaf [] nothing_held words false [] ≡ []
    unfolding defaults_fault
    level = rw (no_turn_fault, walk_is) refl

    pub steps_read : first_of (codes "steps") (rows_after leaf.rules [] words) ≡ Some (x ∷ xs)
    unfolding clap_on_literals
    steps_read = rw walk_is refl

    pub conflicts_read : first_of (codes "conflicts") (rows_after leaf.rules [] words) ≡ Some (u ∷ us)
    unfolding clap_on_literals
    conflicts_read = rw walk_is refl

    pub ticks_read : first_of (codes "ticks") (rows_after leaf.rules [] words) ≡ Some (v ∷ vs)
    unfolding clap_on_literals
    ticks_read = rw walk_is refl

    pub within_read : first_of (codes "within") (rows_after leaf.rules [] words) ≡ Some (t ∷ ts)
    unfolding clap_on_literals
    within_read = rw walk_is refl

    pub design_read : first_of (codes "DESIGN") (rows_after leaf.rules [] words) ≡ Some (y ∷ ys)
    unfolding clap_on_literals
    design_read = rw walk_is refl

    pub proof_read : first_of (codes "PROOF") (rows_after leaf.rules [] words) ≡ Some (z ∷ zs)
    unfolding clap_on_literals
    proof_read = rw walk_is refl

    pub no_bounds : is_given (codes "bounds") (rows_after leaf.rules [] words) ≡ false
    unfolding clap_on_literals
    no_bounds = rw walk_is refl

    pub with_progress : is_given (codes "progress") (rows_after leaf.rules [] words) ≡ true
    unfolding clap_on_literals
    with_progress = rw walk_is refl

-- the rows of the subcommand
pub progress_rows : (program a b c d e f g h i j k : Text) → subcommand_of rcv_app (program ∷ codes "tightest" ∷ a ∷ b ∷ c ∷ d ∷ e ∷ f ∷ g ∷ h ∷ i ∷ j ∷ k ∷ []) ≡ Some (codes "tightest", rows_after leaf.rules [] (a ∷ b ∷ c ∷ d ∷ e ∷ f ∷ g ∷ h ∷ i ∷ j ∷ k ∷ []))
unfolding clap_on_literals
progress_rows program a b c d e f g h i j k = refl

pub progress_top : (program a b c d e f g h i j k : Text) → fault_of rcv_app (program ∷ codes "tightest" ∷ a ∷ b ∷ c ∷ d ∷ e ∷ f ∷ g ∷ h ∷ i ∷ j ∷ k ∷ []) ≡ or_else (level_fault leaf [] nothing_held (a ∷ b ∷ c ∷ d ∷ e ∷ f ∷ g ∷ h ∷ i ∷ j ∷ k ∷ []) false []) []
unfolding clap_on_literals
progress_top program a b c d e f g h i j k = refl
