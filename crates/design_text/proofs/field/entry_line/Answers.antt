use Rattle.std.proofs.Common.{◌++◌, map, codes, sym, ap, ◌∙◌}
use Rattle.rail_base.proofs.Members.{map-map}
use Rattle.design_text.specs.Fields.{field_of}
use Rattle.design_text.specs.Texts.{field_text, joined}
use Rattle.design_text.proofs.field.entry_line.Goals as goal

pub returns : goal.returns
returns c =
    let d = c.args.design.now.station in
    let fields = c.args.fields.now in
    let texts = map (λ f. field_text (field_of d f)) fields in
    c.in_ok-extend_from_slice.ensures.items
    ∙ ap (λ t. t ++ codes "},\n") (c.in_ok-put_joined.ensures ∙ ap (λ t. t ++ joined texts) c.in_ok-line.ensures.items)
    ∙ ap (λ ts. codes " {" ++ (joined ts ++ codes "},\n")) (sym (map-map field_text (field_of d) fields))
