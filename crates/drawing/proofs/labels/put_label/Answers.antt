use Rattle.std.proofs.Common.{◌≡◌, true, ◌∙◌, Some, ap, refl, sym}
use Rattle.std.specs.List.{list_all}
use Rattle.drawing.specs.declared.shape.Shape.TheVariants.{Label}
use Rattle.drawing.specs.Drawing.{are_disjoint, areas_in, label_area, words_in}
use Rattle.drawing.proofs.Placing.{label_keeps}
use Rattle.drawing.proofs.Wording.{one_word}
use Rattle.drawing.proofs.labels.put_label.Goals as goal

pub returns-clause-words : goal.returns-clause-words
returns-clause-words c = ap words_in c.in_ok-push.ensures.ok ∙ one_word c.args.picture.now (Label c.args.place c.args.spot.style c.args.spot.color c.args.text) c.args.text refl

pub returns-clause-apart : goal.returns-clause-apart
returns-clause-apart c =
    let room : list_all (λ other. are_disjoint other c.in-Some.area) (areas_in c.args.picture.now) ≡ true = rw (← c.as_slice.ensures) (c.has_room.ensures c.if-not-has_room.false) in
    label_keeps c.args.picture.now c.push.new.self (Label c.args.place c.args.spot.style c.args.spot.color c.args.text) c.in-Some.area c.in_ok-push.ensures.ok
    (ap Some (sym (c.in-Some.ensures ∙ ap (label_area c.args.place) c.as_bytes.ensures))) room
