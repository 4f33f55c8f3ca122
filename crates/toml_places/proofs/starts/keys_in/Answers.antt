use Rattle.std.proofs.Common.{◌≡◌, ◌-◌, ◌==◌, ◌++◌, true, false, ap, sym, append-nil, ◌∙◌, rules, arith}
use Rattle.std.proofs.lemmas.Grind.{common_steps}
use Rattle.toml_parser.specs.Lexical.{first, skip_blank}
use Rattle.toml_places.specs.Extents.{past, past_member}
use Rattle.toml_places.specs.Texts.{texts}
use Rattle.toml_places.proofs.Begun.{keys_end, keys_last, keys_more}
use Rattle.toml_places.proofs.Reading.{added, added_last, read_none, read_some}
use Rattle.toml_places.proofs.starts.keys_in.Goals as goal

pub returns-then-first-eq125 : goal.returns-then-first-eq125
returns-then-first-eq125 c =
    let l = c.keys in
    let m = l.invariant.2 in
    let loop = l.invariant.4 in
    let start_is = c.skip_blank-start.ensures.rest in
    let none : (first (skip_blank l.rest.now) == 125) ≡ true = grind (arith, common_steps) in
    sym (loop ∙ (ap (λ ls. texts l.keys.items ++ ls) (keys_end m l.rest.now none) ∙ append-nil _))

pub keys-preserved : goal.keys-preserved
keys-preserved c =
    let l = c.keys in
    let m = l.invariant.2 in
    let room = l.invariant.3 in
    let loop = l.invariant.4 in
    let start = c.skip_blank-start.result in
    let start_is = c.skip_blank-start.ensures.rest in
    let other : (first (skip_blank l.rest.now) == 125) ≡ false = grind (arith, common_steps) in
    let before = c.skip_blank-start.ensures.within in
    let (read, shorter) = read_some _ _ c.in-Some.after (past_member past start.now) start.now c.in_ok-after.ensures c.in-Some.is c.past_member.ensures.value c.past_member.ensures.shorter in
    let turn = keys_more m l.rest.now c.in-Some.after.now (omega arith) other (rw start_is at read) in
    (search rules, omega (arith, l.invariant.1), m - 1, omega arith, loop ∙ (ap (λ ls. texts l.keys.items ++ ls) turn ∙ rw c.in_ok-push.ensures.items (added l.keys.items start _ _ start_is)))

pub returns-in-None : goal.returns-in-None
returns-in-None c =
    let l = c.keys in
    let m = l.invariant.2 in
    let room = l.invariant.3 in
    let loop = l.invariant.4 in
    let start = c.skip_blank-start.result in
    let start_is = c.skip_blank-start.ensures.rest in
    let other : (first (skip_blank l.rest.now) == 125) ≡ false = grind (arith, common_steps) in
    let read = read_none _ _ (past_member past start.now) c.in_ok-after.ensures c.in-None.is c.past_member.ensures.value in
    let turn = keys_last m l.rest.now (omega arith) other (rw start_is at read) in
    sym (loop ∙ (ap (λ ls. texts l.keys.items ++ ls) turn ∙ rw c.in_ok-push.ensures.items (added_last l.keys.items start _ start_is)))
