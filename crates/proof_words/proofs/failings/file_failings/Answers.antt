use Rattle.std.proofs.Common.{◌≡◌, List, All, ◌∷◌, ap, subst, sym, ◌∙◌}
use Rattle.rail_base.specs.Numbering.{after_first}
use Rattle.rail_text.specs.Cursors.{lines_left}
use Rattle.rail_text.specs.Lines.{line_of_piece}
use Rattle.rail_text.specs.Pieces.{Line, pieces}
use Rattle.proof_words.specs.Named.{IsNamedPiece}
use Rattle.proof_words.proofs.failings.file_failings.Goals as goal

pub push_pieces-requires : goal.push_pieces-requires
push_pieces-requires c =
    let d = c.args.interlocking.now.design.station in
    let is : pieces c.args.bytes.now ≡ line_of_piece c.in-Some._head ∷ lines_left c.next.new.self = sym c.new-cursor.ensures ∙ c.in-Some.ensures.steps in
    subst (All (IsNamedPiece d)) (ap (λ (ps : List Line). after_first ps) is) c.requires
