-- The words of `verify` with bounds, taken one by one.
use Rattle.std.proofs.Common.{◌≡◌, ℕ, ◌==◌, true, false, List, [], ◌∷◌, codes, refl, Some, slice_index_or}
use Rattle.clap.specs.Kinds.{or_else}
use Rattle.clap.specs.Walk.{Text, Walk, idle, walk, walked, walk_from, nothing_held, reacted, rows_after, first_of}
use Rattle.clap.specs.Faults.{walk_fault, turn_fault, level_fault, defaults_fault, fault_of}
use Rattle.clap.specs.Words.{Rule, subcommand_of}
use Rattle.clap.proofs.OnLiterals.{clap_on_literals}
use Rattle.rail_words.specs.FixedCommand.{rcv_app, flag_rule}
use Rattle.rail_words.specs.Requests.{is_given}
use Rattle.rail_words.proofs.Walks.{stand, plain_walked, plain_turn}
use Rattle.rail_words.proofs.Searches.{leaf, after}
use Rattle.rail_words.proofs.Searches as search

abbrev bounds_rule : Rule
bounds_rule = slice_index_or leaf.rules 3 (flag_rule (codes "bounds"))

module _ (x : ℕ) (xs : Text) (u : ℕ) (us : Text) (v : ℕ) (vs : Text) (y : ℕ) (ys : Text) (z : ℕ) (zs : Text) where
  abbrev w6 : Walk
  w6 = search.w6 x xs u us v vs y ys z zs

  -- after the flag
  abbrev pub w7 : Walk
  w7 = stand (reacted leaf.rules bounds_rule [] w6.held) idle 1

  pub to_w7 : walked leaf.rules [] w6 (codes "--bounds") ≡ w7
  unfolding clap_on_literals
  to_w7 = refl

  pub turn7 : turn_fault leaf [] w6 (codes "--bounds") ≡ []
  unfolding clap_on_literals
  turn7 = refl

  abbrev w8 : Walk
  w8 = after w7 (y ∷ ys)

  abbrev w9 : Walk
  w9 = after w8 (z ∷ zs)

  abbrev words : List Text
  words = codes "--steps" ∷ (x ∷ xs) ∷ codes "--conflicts" ∷ (u ∷ us) ∷ codes "--ticks" ∷ (v ∷ vs) ∷ codes "--bounds" ∷ (y ∷ ys) ∷ (z ∷ zs) ∷ []

  module _ (a : (x == 45) ≡ false) (b : (u == 45) ≡ false) (c : (v == 45) ≡ false) (f : (y == 45) ≡ false) (g : (z == 45) ≡ false) where
    to_w8 : walked leaf.rules [] w7 (y ∷ ys) ≡ w8
    to_w8 = plain_walked leaf w7.held w7.position y ys f w7.waiting

    to_w9 : walked leaf.rules [] w8 (z ∷ zs) ≡ w9
    to_w9 = plain_walked leaf w8.held w8.position z zs g w8.waiting

    walk_is : walk leaf.rules [] nothing_held words ≡ w9
    walk_is = rw (
      search.start,
      search.to_w2 x xs u us v vs y ys z zs a b c f g,
      search.to_w3 x xs u us v vs y ys z zs,
      search.to_w4 x xs u us v vs y ys z zs a b c f g,
      search.to_w5 x xs u us v vs y ys z zs,
      search.to_w6 x xs u us v vs y ys z zs a b c f g,
      to_w7,
      to_w8,
      to_w9,
    ) refl

    turn8 : turn_fault leaf [] w7 (y ∷ ys) ≡ []
    turn8 = plain_turn leaf w7.held w7.position y ys f w7.waiting

    turn9 : turn_fault leaf [] w8 (z ∷ zs) ≡ []
    turn9 = plain_turn leaf w8.held w8.position z zs g w8.waiting

    no_turn_fault : walk_fault leaf [] (walk_from nothing_held) words ≡ []
    unfolding walk_fault
    no_turn_fault = rw (
      search.start_turn,
      search.start,
      search.turn2 x xs u us v vs y ys z zs a b c f g,
      search.to_w2 x xs u us v vs y ys z zs a b c f g,
      search.turn3 x xs u us v vs y ys z zs,
      search.to_w3 x xs u us v vs y ys z zs,
      search.turn4 x xs u us v vs y ys z zs a b c f g,
      search.to_w4 x xs u us v vs y ys z zs a b c f g,
      search.turn5 x xs u us v vs y ys z zs,
      search.to_w5 x xs u us v vs y ys z zs,
      search.turn6 x xs u us v vs y ys z zs a b c f g,
      search.to_w6 x xs u us v vs y ys z zs a b c f g,
      turn7,
      to_w7,
      turn8,
      to_w8,
      turn9,
    ) refl

    pub level : level_fault leaf [] nothing_held words false [] ≡ []
    unfolding defaults_fault
    level = rw (no_turn_fault, walk_is) refl

    pub steps_read : first_of (codes "steps") (rows_after leaf.rules [] words) ≡ Some (x ∷ xs)
    unfolding clap_on_literals
    steps_read = rw walk_is refl

    pub conflicts_read : first_of (codes "conflicts") (rows_after leaf.rules [] words) ≡ Some (u ∷ us)
    unfolding clap_on_literals
    conflicts_read = rw walk_is refl

    pub ticks_read : first_of (codes "ticks") (rows_after leaf.rules [] words) ≡ Some (v ∷ vs)
    unfolding clap_on_literals
    ticks_read = rw walk_is refl

    pub design_read : first_of (codes "DESIGN") (rows_after leaf.rules [] words) ≡ Some (y ∷ ys)
    unfolding clap_on_literals
    design_read = rw walk_is refl

    pub proof_read : first_of (codes "PROOF") (rows_after leaf.rules [] words) ≡ Some (z ∷ zs)
    unfolding clap_on_literals
    proof_read = rw walk_is refl

    pub with_bounds : is_given (codes "bounds") (rows_after leaf.rules [] words) ≡ true
    unfolding clap_on_literals
    with_bounds = rw walk_is refl

    pub not_any : is_given (codes "any") (rows_after leaf.rules [] words) ≡ false
    unfolding clap_on_literals
    not_any = rw walk_is refl

    pub not_normal : is_given (codes "normal") (rows_after leaf.rules [] words) ≡ false
    unfolding clap_on_literals
    not_normal = rw walk_is refl

    pub no_progress : is_given (codes "progress") (rows_after leaf.rules [] words) ≡ false
    unfolding clap_on_literals
    no_progress = rw walk_is refl

-- the rows of the subcommand
pub bounds_rows : (program a b c d e f g h i : Text) → subcommand_of rcv_app (program ∷ codes "verify" ∷ a ∷ b ∷ c ∷ d ∷ e ∷ f ∷ g ∷ h ∷ i ∷ []) ≡ Some (codes "verify", rows_after leaf.rules [] (a ∷ b ∷ c ∷ d ∷ e ∷ f ∷ g ∷ h ∷ i ∷ []))
unfolding clap_on_literals
bounds_rows program a b c d e f g h i = refl

pub bounds_top : (program a b c d e f g h i : Text) → fault_of rcv_app (program ∷ codes "verify" ∷ a ∷ b ∷ c ∷ d ∷ e ∷ f ∷ g ∷ h ∷ i ∷ []) ≡ or_else (level_fault leaf [] nothing_held (a ∷ b ∷ c ∷ d ∷ e ∷ f ∷ g ∷ h ∷ i ∷ []) false []) []
unfolding clap_on_literals
bounds_top program a b c d e f g h i = refl
