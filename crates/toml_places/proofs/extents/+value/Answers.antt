use Rattle.std.proofs.Common.{◌≡◌, ◌==◌, ◌-◌, ◌<◌, ◌||◌, length, true, false, le_refl, refl, Some, ◌∙◌, rules, arith}
use Rattle.std.proofs.lemmas.Grind.{common_steps}
use Rattle.toml_parser.specs.Lexical.{first, skip_blank}
use Rattle.toml_parser.specs.Reading.{key_view}
use Rattle.toml_parser.specs.Strings.{Key}
use Rattle.toml_parser.proofs.StringsLemmas.{gives_err}
use Rattle.toml.specs.Parse.{key_equals}
use Rattle.toml_places.specs.Extents.{past_value}
use Rattle.toml_places.proofs.Turns.{items_end, items_more, items_bad, items_bad_end, members_end, members_more, members_bad, members_bad_value, members_bad_end}
use Rattle.toml_places.proofs.Turns.{value_atom, value_array, value_table, value_deep}
use Rattle.toml_places.proofs.extents.+value.Goals as goal

pub past_items-items-init : goal.past_items-items-init
past_items-items-init c c' = (search rules, le_refl _, λ n h. (n, h, refl))

pub past_items-returns-then-first-eq93-clause-value : goal.past_items-returns-then-first-eq93-clause-value
past_items-returns-then-first-eq93-clause-value c c' n h =
    let l = c'.items in
    let (m, room, loop) = l.invariant.2 n h in
    let closing : (first (skip_blank l.rest.now) == 93) ≡ true = grind (arith, common_steps) in
    loop ∙ items_end (past_value c'.args.depth) m l.rest.now (omega arith) closing ∙ rw (c'.skip.ensures.rest, c'.skip_blank-start.ensures.rest)

pub past_items-returns-in_err-after-clause-value : goal.past_items-returns-in_err-after-clause-value
past_items-returns-in_err-after-clause-value c c' n h =
    let l = c'.items in
    let start_is = c'.skip_blank-start.ensures.rest in
    let other : (first (skip_blank l.rest.now) == 93) ≡ false = grind (arith, common_steps) in
    let (m, room, loop) = l.invariant.2 n h in
    gives_err _ c'.from_residual.result _ c'.in_err-after.field-0.0 _ c'.from_residual.ensures.1 (λ y p. p) λ refused.
    loop ∙ items_bad (past_value c'.args.depth) m l.rest.now (omega arith) other (rw start_is at (c'.in_err-after.ensures.value refused))

pub past_items-returns-in_err-rest-clause-value : goal.past_items-returns-in_err-rest-clause-value
past_items-returns-in_err-rest-clause-value c c' n h =
    let l = c'.items in
    let start_is = c'.skip_blank-start.ensures.rest in
    let other : (first (skip_blank l.rest.now) == 93) ≡ false = grind (arith, common_steps) in
    let (m, room, loop) = l.invariant.2 n h in
    gives_err _ c'.from_residual-in_err-rest.result _ c'.in_err-rest.field-0.0 _ c'.from_residual-in_err-rest.ensures.1 (λ y p. p) λ refused.
    loop ∙ items_bad_end (past_value c'.args.depth) m l.rest.now _ (omega arith) other (rw start_is at c'.in_ok-after.ensures.value) (c'.in_err-rest.ensures.value refused)

pub past_items-items-preserved : goal.past_items-items-preserved
past_items-items-preserved c c' =
    let l = c'.items in
    let start_is = c'.skip_blank-start.ensures.rest in
    let other : (first (skip_blank l.rest.now) == 93) ≡ false = grind (arith, common_steps) in
    let shorter = c'.in_ok-after.ensures.shorter in
    let within = c'.in_ok-rest.ensures.within in
    let before = c'.skip_blank-start.ensures.within in (
      search rules,
      omega (arith, l.invariant.1),
      λ n h.
          let (m, room, loop) = l.invariant.2 n h in
          (m - 1, omega arith, loop ∙ items_more (past_value c'.args.depth) m l.rest.now _ _ (omega arith) other (rw start_is at c'.in_ok-after.ensures.value) c'.in_ok-rest.ensures.value),
    )

pub past_members-members-init : goal.past_members-members-init
past_members-members-init c c' = (search rules, le_refl _, λ n h. (n, h, refl))

pub past_members-returns-then-first-eq125-clause-value : goal.past_members-returns-then-first-eq125-clause-value
past_members-returns-then-first-eq125-clause-value c c' n h =
    let l = c'.members in
    let (m, room, loop) = l.invariant.2 n h in
    let closing : (first (skip_blank l.rest.now) == 125) ≡ true = grind (arith, common_steps) in
    loop ∙ members_end (past_value c'.args.depth) m l.rest.now (omega arith) closing ∙ rw (c'.skip.ensures.rest, c'.skip_blank-start.ensures.rest)

pub past_members-returns-in_err-_key-clause-value : goal.past_members-returns-in_err-_key-clause-value
past_members-returns-in_err-_key-clause-value c c' n h =
    let l = c'.members in
    let start_is = c'.skip_blank-start.ensures.rest in
    let other : (first (skip_blank l.rest.now) == 125) ≡ false = grind (arith, common_steps) in
    let (m, room, loop) = l.invariant.2 n h in
    gives_err _ c'.from_residual.result _ c'.in_err-_key.field-0.0 _ c'.from_residual.ensures.1 (λ y p. p) λ refused.
    loop ∙ members_bad (past_value c'.args.depth) m l.rest.now (omega arith) other (rw start_is at (c'.in_err-_key.ensures.value refused))

pub past_members-returns-in_err-after-clause-value : goal.past_members-returns-in_err-after-clause-value
past_members-returns-in_err-after-clause-value c c' n h =
    let l = c'.members in
    let start_is = c'.skip_blank-start.ensures.rest in
    let other : (first (skip_blank l.rest.now) == 125) ≡ false = grind (arith, common_steps) in
    let key : Key = key_view c'.in_ok-_key._key in
    let named : key_equals (skip_blank l.rest.now) ≡ Some (key, c'.in_ok-_key.value.now) = rw c'.skip_blank-start.ensures.rest at c'.in_ok-_key.ensures.value in
    let (m, room, loop) = l.invariant.2 n h in
    gives_err _ c'.from_residual-in_err-after.result _ c'.in_err-after.field-0.0 _ c'.from_residual-in_err-after.ensures.1 (λ y p. p) λ refused.
    loop ∙ members_bad_value (past_value c'.args.depth) m l.rest.now _ key (omega arith) other named (c'.in_err-after.ensures.value refused)

pub past_members-returns-in_err-rest-clause-value : goal.past_members-returns-in_err-rest-clause-value
past_members-returns-in_err-rest-clause-value c c' n h =
    let l = c'.members in
    let start_is = c'.skip_blank-start.ensures.rest in
    let other : (first (skip_blank l.rest.now) == 125) ≡ false = grind (arith, common_steps) in
    let key : Key = key_view c'.in_ok-_key._key in
    let named : key_equals (skip_blank l.rest.now) ≡ Some (key, c'.in_ok-_key.value.now) = rw c'.skip_blank-start.ensures.rest at c'.in_ok-_key.ensures.value in
    let (m, room, loop) = l.invariant.2 n h in
    gives_err _ c'.from_residual-in_err-rest.result _ c'.in_err-rest.field-0.0 _ c'.from_residual-in_err-rest.ensures.1 (λ y p. p) λ refused.
    loop ∙ members_bad_end (past_value c'.args.depth) m l.rest.now _ _ key (omega arith) other named c'.in_ok-after.ensures.value (c'.in_err-rest.ensures.value refused)

pub past_members-members-preserved : goal.past_members-members-preserved
past_members-members-preserved c c' =
    let l = c'.members in
    let start_is = c'.skip_blank-start.ensures.rest in
    let other : (first (skip_blank l.rest.now) == 125) ≡ false = grind (arith, common_steps) in
    let key : Key = key_view c'.in_ok-_key._key in
    let named : key_equals (skip_blank l.rest.now) ≡ Some (key, c'.in_ok-_key.value.now) = rw c'.skip_blank-start.ensures.rest at c'.in_ok-_key.ensures.value in
    let shorter = c'.in_ok-_key.ensures.shorter in
    let shorter_again = c'.in_ok-after.ensures.shorter in
    let within = c'.in_ok-rest.ensures.within in
    let before = c'.skip_blank-start.ensures.within in (
      search rules,
      omega (arith, l.invariant.1),
      λ n h.
          let (m, room, loop) = l.invariant.2 n h in
          (m - 1, omega arith, loop ∙ members_more (past_value c'.args.depth) m l.rest.now _ _ _ key (omega arith) other named c'.in_ok-after.ensures.value c'.in_ok-rest.ensures.value),
    )

pub past_value-returns-then-byte-ne123-clause-value : goal.past_value-returns-then-byte-ne123-clause-value
past_value-returns-then-byte-ne123-clause-value c c' =
    let s = c'.args.s.now in
    let a : (first s == 91) ≡ false = grind (arith, common_steps) in
    let b : (first s == 123) ≡ false = grind (arith, common_steps) in
    rw (value_atom c'.args.depth s a b) c'.past_atom.ensures.value

pub past_value-returns-then-depth-eq0-clause-value : goal.past_value-returns-then-depth-eq0-clause-value
past_value-returns-then-depth-eq0-clause-value c c' refused =
    let s = c'.args.s.now in
    let bracket : ((first s == 91) || (first s == 123)) ≡ true = grind (arith, common_steps) in
    let zero : c'.args.depth ≡ 0 = omega arith in
    rw zero (value_deep s bracket)

pub past_value-returns-in_err-rest-clause-value : goal.past_value-returns-in_err-rest-clause-value
past_value-returns-in_err-rest-clause-value c c' =
    let s = c'.args.s.now in
    let some : 0 < c'.args.depth = omega arith in
    let a : (first s == 91) ≡ true = grind (arith, common_steps) in
    gives_err _ c'.from_residual.result _ c'.in_err-rest.field-0.0 _ c'.from_residual.ensures.1 (λ y p. p) λ refused.
    value_array c'.args.depth s some a ∙ rw (← c'.skip.ensures.rest, c'.in_err-rest.ensures.value (length s) c'.skip.ensures.shorter refused)

pub past_value-returns-in_err-rest-2-clause-value : goal.past_value-returns-in_err-rest-2-clause-value
past_value-returns-in_err-rest-2-clause-value c c' =
    let s = c'.args.s.now in
    let some : 0 < c'.args.depth = omega arith in
    let a : (first s == 91) ≡ false = grind (arith, common_steps) in
    let b : (first s == 123) ≡ true = grind (arith, common_steps) in
    gives_err _ c'.from_residual-in_err-rest-2.result _ c'.in_err-rest-2.field-0.0 _ c'.from_residual-in_err-rest-2.ensures.1 (λ y p. p) λ refused.
    value_table c'.args.depth s some a b ∙ rw (← c'.skip-else-byte-eq91.ensures.rest, c'.in_err-rest-2.ensures.value (length s) c'.skip-else-byte-eq91.ensures.shorter refused)

pub past_value-returns-in_ok-rest-clause-value : goal.past_value-returns-in_ok-rest-clause-value
past_value-returns-in_ok-rest-clause-value c c' =
    let s = c'.args.s.now in
    let some : 0 < c'.args.depth = omega arith in
    let a : (first s == 91) ≡ true = grind (arith, common_steps) in
    value_array c'.args.depth s some a ∙ rw (← c'.skip.ensures.rest, c'.in_ok-rest.ensures.value (length s) c'.skip.ensures.shorter)

pub past_value-returns-in_ok-rest-2-clause-value : goal.past_value-returns-in_ok-rest-2-clause-value
past_value-returns-in_ok-rest-2-clause-value c c' =
    let s = c'.args.s.now in
    let some : 0 < c'.args.depth = omega arith in
    let a : (first s == 91) ≡ false = grind (arith, common_steps) in
    let b : (first s == 123) ≡ true = grind (arith, common_steps) in
    value_table c'.args.depth s some a b ∙ rw (← c'.skip-else-byte-eq91.ensures.rest, c'.in_ok-rest-2.ensures.value (length s) c'.skip-else-byte-eq91.ensures.shorter)
