use Rattle.std.proofs.Common.{◌≡◌, ◌∙◌, ap, arith, filter, get_or, length, sym, take}
use Rattle.std.proofs.lemmas.List.{take_more}
use Rattle.toml_places.specs.Lines.{begins_character, characters_with, last_line}
use Rattle.toml_places.proofs.Behind.{behind-added}
use Rattle.toml_places.proofs.lines.count_characters.Goals as goal

pub loop-byte-preserved : goal.loop-byte-preserved
loop-byte-preserved c =
    let l = c.loop-byte in
    let text = c.args.text.now in
    let byte = get_or text l.byte-index 0 in
    let counted : c.count_with-count.result ≡ characters_with l.count byte = c.count_with-count.ensures.value in
    (omega (arith, c.count_with-count.ensures.within, l.invariant.0), counted ∙ (ap (λ n. characters_with n byte) l.invariant.1 ∙ (sym (behind-added (take l.byte-index text) byte) ∙ sym (ap (λ t. length (filter begins_character (last_line t))) (take_more text l.byte-index 0 (omega arith))))))
