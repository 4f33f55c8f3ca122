-- The words of `check` with a time that is put into a within, taken one by one.
use Rattle.std.proofs.Common.{◌≡◌, ℕ, ◌==◌, false, List, [], ◌∷◌, codes, refl, Some}
use Rattle.clap.specs.Kinds.{or_else}
use Rattle.clap.specs.Walk.{Text, Held, Walk, option, walk, walked, walk_from, nothing_held, rows_after, first_of, settled}
use Rattle.clap.specs.Faults.{walk_fault, turn_fault, level_fault, defaults_fault, fault_of}
use Rattle.clap.specs.Words.{subcommand_of}
use Rattle.clap.proofs.OnLiterals.{clap_on_literals}
use Rattle.rail_words.specs.FixedCommand.{rcv_app}
use Rattle.rail_words.proofs.Walks.{leaf, after, stand, plain_walked, plain_turn}

-- what an option is followed by
abbrev at_option : Held → Text → Walk
at_option h name = stand h (option name) 1

abbrev first_held : Held
first_held = record { rows = []; pending = Some (codes "within", []); skip = 0 }

start : walked leaf.rules [] (walk_from nothing_held) (codes "--within") ≡ at_option first_held (codes "within")
unfolding clap_on_literals
start = refl

start_turn : turn_fault leaf [] (walk_from nothing_held) (codes "--within") ≡ []
unfolding clap_on_literals
start_turn = refl

-- the options' values and the names
module _ (u : ℕ) (us : Text) (v : ℕ) (vs : Text) (x : ℕ) (xs : Text) (y : ℕ) (ys : Text) (z : ℕ) (zs : Text) where
  abbrev w1 : Walk
  w1 = at_option first_held (codes "within")

  abbrev w2 : Walk
  w2 = after w1 (u ∷ us)

  abbrev held3 : Held
  held3 = record (settled leaf.rules w2.held) { pending = Some (codes "max-ms", []) }

  abbrev w3 : Walk
  w3 = at_option held3 (codes "max-ms")

  to_w3 : walked leaf.rules [] w2 (codes "--max-ms") ≡ w3
  unfolding clap_on_literals
  to_w3 = refl

  turn3 : turn_fault leaf [] w2 (codes "--max-ms") ≡ []
  unfolding clap_on_literals
  turn3 = refl

  abbrev w4 : Walk
  w4 = after w3 (v ∷ vs)

  abbrev held5 : Held
  held5 = record (settled leaf.rules w4.held) { pending = Some (codes "steps", []) }

  abbrev w5 : Walk
  w5 = at_option held5 (codes "steps")

  to_w5 : walked leaf.rules [] w4 (codes "--steps") ≡ w5
  unfolding clap_on_literals
  to_w5 = refl

  turn5 : turn_fault leaf [] w4 (codes "--steps") ≡ []
  unfolding clap_on_literals
  turn5 = refl

  abbrev w6 : Walk
  w6 = after w5 (x ∷ xs)

  abbrev w7 : Walk
  w7 = after w6 (y ∷ ys)

  abbrev w8 : Walk
  w8 = after w7 (z ∷ zs)

  abbrev words : List Text
  words = codes "--within" ∷ (u ∷ us) ∷ codes "--max-ms" ∷ (v ∷ vs) ∷ codes "--steps" ∷ (x ∷ xs) ∷ (y ∷ ys) ∷ (z ∷ zs) ∷ []

  module _ (a : (u == 45) ≡ false) (b : (v == 45) ≡ false) (e : (x == 45) ≡ false) (f : (y == 45) ≡ false) (g : (z == 45) ≡ false) where
    to_w2 : walked leaf.rules [] w1 (u ∷ us) ≡ w2
    to_w2 = plain_walked leaf w1.held w1.position u us a w1.waiting

    to_w4 : walked leaf.rules [] w3 (v ∷ vs) ≡ w4
    to_w4 = plain_walked leaf w3.held w3.position v vs b w3.waiting

    to_w6 : walked leaf.rules [] w5 (x ∷ xs) ≡ w6
    to_w6 = plain_walked leaf w5.held w5.position x xs e w5.waiting

    to_w7 : walked leaf.rules [] w6 (y ∷ ys) ≡ w7
    to_w7 = plain_walked leaf w6.held w6.position y ys f w6.waiting

    to_w8 : walked leaf.rules [] w7 (z ∷ zs) ≡ w8
    to_w8 = plain_walked leaf w7.held w7.position z zs g w7.waiting

    walk_is : walk leaf.rules [] nothing_held words ≡ w8
    walk_is = rw (start, to_w2, to_w3, to_w4, to_w5, to_w6, to_w7, to_w8) refl

    turn2 : turn_fault leaf [] w1 (u ∷ us) ≡ []
    turn2 = plain_turn leaf w1.held w1.position u us a w1.waiting

    turn4 : turn_fault leaf [] w3 (v ∷ vs) ≡ []
    turn4 = plain_turn leaf w3.held w3.position v vs b w3.waiting

    turn6 : turn_fault leaf [] w5 (x ∷ xs) ≡ []
    turn6 = plain_turn leaf w5.held w5.position x xs e w5.waiting

    turn7 : turn_fault leaf [] w6 (y ∷ ys) ≡ []
    turn7 = plain_turn leaf w6.held w6.position y ys f w6.waiting

    turn8 : turn_fault leaf [] w7 (z ∷ zs) ≡ []
    turn8 = plain_turn leaf w7.held w7.position z zs g w7.waiting

    no_turn_fault : walk_fault leaf [] (walk_from nothing_held) words ≡ []
    unfolding walk_fault
    no_turn_fault = rw (start_turn, start, turn2, to_w2, turn3, to_w3, turn4, to_w4, turn5, to_w5, turn6, to_w6, turn7, to_w7, turn8) refl

    pub level : level_fault leaf [] nothing_held words false [] ≡ []
    unfolding defaults_fault
    level = rw (no_turn_fault, walk_is) refl

    pub within_read : first_of (codes "within") (rows_after leaf.rules [] words) ≡ Some (u ∷ us)
    unfolding clap_on_literals
    within_read = rw walk_is refl

    pub max_ms_read : first_of (codes "max-ms") (rows_after leaf.rules [] words) ≡ Some (v ∷ vs)
    unfolding clap_on_literals
    max_ms_read = rw walk_is refl

    pub steps_read : first_of (codes "steps") (rows_after leaf.rules [] words) ≡ Some (x ∷ xs)
    unfolding clap_on_literals
    steps_read = rw walk_is refl

    pub design_read : first_of (codes "DESIGN") (rows_after leaf.rules [] words) ≡ Some (y ∷ ys)
    unfolding clap_on_literals
    design_read = rw walk_is refl

    pub proof_read : first_of (codes "PROOF") (rows_after leaf.rules [] words) ≡ Some (z ∷ zs)
    unfolding clap_on_literals
    proof_read = rw walk_is refl

-- the rows of the subcommand
pub in_time_rows : (program a b c d e f g h : Text) → subcommand_of rcv_app (program ∷ codes "check" ∷ a ∷ b ∷ c ∷ d ∷ e ∷ f ∷ g ∷ h ∷ []) ≡ Some (codes "check", rows_after leaf.rules [] (a ∷ b ∷ c ∷ d ∷ e ∷ f ∷ g ∷ h ∷ []))
unfolding clap_on_literals
in_time_rows program a b c d e f g h = refl

pub in_time_top : (program a b c d e f g h : Text) → fault_of rcv_app (program ∷ codes "check" ∷ a ∷ b ∷ c ∷ d ∷ e ∷ f ∷ g ∷ h ∷ []) ≡ or_else (level_fault leaf [] nothing_held (a ∷ b ∷ c ∷ d ∷ e ∷ f ∷ g ∷ h ∷ []) false []) []
unfolding clap_on_literals
in_time_top program a b c d e f g h = refl
