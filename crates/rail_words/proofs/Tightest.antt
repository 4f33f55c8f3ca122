-- The words of `tightest`, taken one by one.
use Rattle.std.proofs.Common.{◌≡◌, ℕ, ◌==◌, false, List, [], ◌∷◌, codes, refl, Some, slice_index_or}
use Rattle.clap.specs.Kinds.{or_else}
use Rattle.clap.specs.Walk.{Text, Held, Walk, option, walk, walked, walk_from, nothing_held, rows_after, first_of, plain_word, after_step, settled}
use Rattle.clap.specs.Simple.{Shape, built}
use Rattle.clap.specs.Faults.{walk_fault, turn_fault, level_fault, defaults_fault, fault_of}
use Rattle.clap.specs.Words.{subcommand_of}
use Rattle.clap.proofs.OnLiterals.{clap_on_literals}
use Rattle.rail_words.specs.FixedCommand.{rcv_app, tightest_app}
use Rattle.rail_words.specs.Requests.{is_given}
use Rattle.rail_words.proofs.Walks.{stand, plain_walked, plain_turn}

abbrev pub leaf : Shape
leaf = slice_index_or (built rcv_app).subs 3 tightest_app.top

abbrev pub after : Walk → Text → Walk
after w word = after_step leaf.rules word w (plain_word leaf.rules w.waiting word w.held).0 (plain_word leaf.rules w.waiting word w.held).1

-- what an option is followed by
abbrev at_option : Held → Text → Walk
at_option h name = stand h (option name) 1

abbrev first_held : Held
first_held = record { rows = []; pending = Some (codes "steps", []); skip = 0 }

pub start : walked leaf.rules [] (walk_from nothing_held) (codes "--steps") ≡ at_option first_held (codes "steps")
unfolding clap_on_literals
start = refl

pub start_turn : turn_fault leaf [] (walk_from nothing_held) (codes "--steps") ≡ []
unfolding clap_on_literals
start_turn = refl

-- the options' values and the names
module _ (x : ℕ) (xs : Text) (u : ℕ) (us : Text) (v : ℕ) (vs : Text) (t : ℕ) (ts : Text) (y : ℕ) (ys : Text) (z : ℕ) (zs : Text) where
  abbrev w1 : Walk
  w1 = at_option first_held (codes "steps")

  abbrev w2 : Walk
  w2 = after w1 (x ∷ xs)

  abbrev held3 : Held
  held3 = record (settled leaf.rules w2.held) { pending = Some (codes "conflicts", []) }

  abbrev w3 : Walk
  w3 = at_option held3 (codes "conflicts")

  pub to_w3 : walked leaf.rules [] w2 (codes "--conflicts") ≡ w3
  unfolding clap_on_literals
  to_w3 = refl

  pub turn3 : turn_fault leaf [] w2 (codes "--conflicts") ≡ []
  unfolding clap_on_literals
  turn3 = refl

  abbrev w4 : Walk
  w4 = after w3 (u ∷ us)

  abbrev held5 : Held
  held5 = record (settled leaf.rules w4.held) { pending = Some (codes "ticks", []) }

  abbrev w5 : Walk
  w5 = at_option held5 (codes "ticks")

  pub to_w5 : walked leaf.rules [] w4 (codes "--ticks") ≡ w5
  unfolding clap_on_literals
  to_w5 = refl

  pub turn5 : turn_fault leaf [] w4 (codes "--ticks") ≡ []
  unfolding clap_on_literals
  turn5 = refl

  abbrev w6 : Walk
  w6 = after w5 (v ∷ vs)

  abbrev held7 : Held
  held7 = record (settled leaf.rules w6.held) { pending = Some (codes "within", []) }

  abbrev w7 : Walk
  w7 = at_option held7 (codes "within")

  pub to_w7 : walked leaf.rules [] w6 (codes "--within") ≡ w7
  unfolding clap_on_literals
  to_w7 = refl

  pub turn7 : turn_fault leaf [] w6 (codes "--within") ≡ []
  unfolding clap_on_literals
  turn7 = refl

  abbrev pub w8 : Walk
  w8 = after w7 (t ∷ ts)

  abbrev w9 : Walk
  w9 = after w8 (y ∷ ys)

  abbrev w10 : Walk
  w10 = after w9 (z ∷ zs)

  abbrev words : List Text
  words = codes "--steps" ∷ (x ∷ xs) ∷ codes "--conflicts" ∷ (u ∷ us) ∷ codes "--ticks" ∷ (v ∷ vs) ∷ codes "--within" ∷ (t ∷ ts) ∷ (y ∷ ys) ∷ (z ∷ zs) ∷ []

  module _ (a : (x == 45) ≡ false) (b : (u == 45) ≡ false) (c : (v == 45) ≡ false) (d : (t == 45) ≡ false) (f : (y == 45) ≡ false) (g : (z == 45) ≡ false) where
    pub to_w2 : walked leaf.rules [] w1 (x ∷ xs) ≡ w2
    to_w2 = plain_walked leaf w1.held w1.position x xs a w1.waiting

    pub to_w4 : walked leaf.rules [] w3 (u ∷ us) ≡ w4
    to_w4 = plain_walked leaf w3.held w3.position u us b w3.waiting

    pub to_w6 : walked leaf.rules [] w5 (v ∷ vs) ≡ w6
    to_w6 = plain_walked leaf w5.held w5.position v vs c w5.waiting

    pub to_w8 : walked leaf.rules [] w7 (t ∷ ts) ≡ w8
    to_w8 = plain_walked leaf w7.held w7.position t ts d w7.waiting

    to_w9 : walked leaf.rules [] w8 (y ∷ ys) ≡ w9
    to_w9 = plain_walked leaf w8.held w8.position y ys f w8.waiting

    to_w10 : walked leaf.rules [] w9 (z ∷ zs) ≡ w10
    to_w10 = plain_walked leaf w9.held w9.position z zs g w9.waiting

    walk_is : walk leaf.rules [] nothing_held words ≡ w10
    walk_is = rw (start, to_w2, to_w3, to_w4, to_w5, to_w6, to_w7, to_w8, to_w9, to_w10) refl

    pub turn2 : turn_fault leaf [] w1 (x ∷ xs) ≡ []
    turn2 = plain_turn leaf w1.held w1.position x xs a w1.waiting

    pub turn4 : turn_fault leaf [] w3 (u ∷ us) ≡ []
    turn4 = plain_turn leaf w3.held w3.position u us b w3.waiting

    pub turn6 : turn_fault leaf [] w5 (v ∷ vs) ≡ []
    turn6 = plain_turn leaf w5.held w5.position v vs c w5.waiting

    pub turn8 : turn_fault leaf [] w7 (t ∷ ts) ≡ []
    turn8 = plain_turn leaf w7.held w7.position t ts d w7.waiting

    turn9 : turn_fault leaf [] w8 (y ∷ ys) ≡ []
    turn9 = plain_turn leaf w8.held w8.position y ys f w8.waiting

    turn10 : turn_fault leaf [] w9 (z ∷ zs) ≡ []
    turn10 = plain_turn leaf w9.held w9.position z zs g w9.waiting

    no_turn_fault : walk_fault leaf [] (walk_from nothing_held) words ≡ []
    unfolding walk_fault
    no_turn_fault = rw (start_turn, start, turn2, to_w2, turn3, to_w3, turn4, to_w4, turn5, to_w5, turn6, to_w6, turn7, to_w7, turn8, to_w8, turn9, to_w9, turn10) refl

    pub level : level_fault leaf [] nothing_held words false [] ≡ []
    unfolding defaults_fault
    level = rw (no_turn_fault, walk_is) refl

    pub steps_read : first_of (codes "steps") (rows_after leaf.rules [] words) ≡ Some (x ∷ xs)
    unfolding clap_on_literals
    steps_read = rw walk_is refl

    pub conflicts_read : first_of (codes "conflicts") (rows_after leaf.rules [] words) ≡ Some (u ∷ us)
    unfolding clap_on_literals
    conflicts_read = rw walk_is refl

    pub ticks_read : first_of (codes "ticks") (rows_after leaf.rules [] words) ≡ Some (v ∷ vs)
    unfolding clap_on_literals
    ticks_read = rw walk_is refl

    pub within_read : first_of (codes "within") (rows_after leaf.rules [] words) ≡ Some (t ∷ ts)
    unfolding clap_on_literals
    within_read = rw walk_is refl

    pub design_read : first_of (codes "DESIGN") (rows_after leaf.rules [] words) ≡ Some (y ∷ ys)
    unfolding clap_on_literals
    design_read = rw walk_is refl

    pub proof_read : first_of (codes "PROOF") (rows_after leaf.rules [] words) ≡ Some (z ∷ zs)
    unfolding clap_on_literals
    proof_read = rw walk_is refl

    pub no_bounds : is_given (codes "bounds") (rows_after leaf.rules [] words) ≡ false
    unfolding clap_on_literals
    no_bounds = rw walk_is refl

    pub no_progress : is_given (codes "progress") (rows_after leaf.rules [] words) ≡ false
    unfolding clap_on_literals
    no_progress = rw walk_is refl

-- the rows of the subcommand
pub tightest_rows : (program a b c d e f g h i j : Text) → subcommand_of rcv_app (program ∷ codes "tightest" ∷ a ∷ b ∷ c ∷ d ∷ e ∷ f ∷ g ∷ h ∷ i ∷ j ∷ []) ≡ Some (codes "tightest", rows_after leaf.rules [] (a ∷ b ∷ c ∷ d ∷ e ∷ f ∷ g ∷ h ∷ i ∷ j ∷ []))
unfolding clap_on_literals
tightest_rows program a b c d e f g h i j = refl

pub tightest_top : (program a b c d e f g h i j : Text) → fault_of rcv_app (program ∷ codes "tightest" ∷ a ∷ b ∷ c ∷ d ∷ e ∷ f ∷ g ∷ h ∷ i ∷ j ∷ []) ≡ or_else (level_fault leaf [] nothing_held (a ∷ b ∷ c ∷ d ∷ e ∷ f ∷ g ∷ h ∷ i ∷ j ∷ []) false []) []
unfolding clap_on_literals
tightest_top program a b c d e f g h i j = refl
