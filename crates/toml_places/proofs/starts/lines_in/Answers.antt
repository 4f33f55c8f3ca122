use Rattle.std.proofs.Common.{◌≡◌, ◌-◌, ◌==◌, ◌++◌, false, length, ap, sym, append-nil, ◌∙◌, rules, arith}
use Rattle.std.proofs.lemmas.Grind.{common_steps}
use Rattle.toml_parser.specs.Lexical.{skip_blank}
use Rattle.toml_places.specs.Extents.{past_line}
use Rattle.toml_places.specs.Texts.{texts}
use Rattle.toml_places.proofs.Begun.{lines_end, lines_last, lines_more}
use Rattle.toml_places.proofs.Reading.{added, added_last, read_none, read_some}
use Rattle.toml_places.proofs.starts.lines_in.Goals as goal

pub returns-then-is_empty : goal.returns-then-is_empty
returns-then-is_empty c =
    let l = c.lines in
    let m = l.invariant.2 in
    let loop = l.invariant.4 in
    let start_is = c.skip_blank-start.ensures.rest in
    let none : length (skip_blank l.rest.now) ≡ 0 = grind (arith, common_steps) in
    sym (loop ∙ (ap (λ ls. texts l.lines.items ++ ls) (lines_end m l.rest.now none) ∙ append-nil _))

pub lines-preserved : goal.lines-preserved
lines-preserved c =
    let l = c.lines in
    let m = l.invariant.2 in
    let room = l.invariant.3 in
    let loop = l.invariant.4 in
    let start = c.skip_blank-start.result in
    let start_is = c.skip_blank-start.ensures.rest in
    let other : (length (skip_blank l.rest.now) == 0) ≡ false = grind (arith, common_steps) in
    let before = c.skip_blank-start.ensures.within in
    let (read, shorter) = read_some _ _ c.in-Some.after (past_line start.now) start.now c.in_ok-after.ensures c.in-Some.is c.past_line.ensures.value c.past_line.ensures.shorter in
    let turn = lines_more m l.rest.now c.in-Some.after.now (omega arith) other (rw start_is at read) in
    (search rules, omega (arith, l.invariant.1), m - 1, omega arith, loop ∙ (ap (λ ls. texts l.lines.items ++ ls) turn ∙ rw c.in_ok-push.ensures.items (added l.lines.items start _ _ start_is)))

pub returns-in-None : goal.returns-in-None
returns-in-None c =
    let l = c.lines in
    let m = l.invariant.2 in
    let room = l.invariant.3 in
    let loop = l.invariant.4 in
    let start = c.skip_blank-start.result in
    let start_is = c.skip_blank-start.ensures.rest in
    let other : (length (skip_blank l.rest.now) == 0) ≡ false = grind (arith, common_steps) in
    let read = read_none _ _ (past_line start.now) c.in_ok-after.ensures c.in-None.is c.past_line.ensures.value in
    let turn = lines_last m l.rest.now (omega arith) other (rw start_is at read) in
    sym (loop ∙ (ap (λ ls. texts l.lines.items ++ ls) turn ∙ rw c.in_ok-push.ensures.items (added_last l.lines.items start _ start_is)))
