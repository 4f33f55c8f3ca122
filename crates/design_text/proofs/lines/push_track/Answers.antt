use Rattle.std.proofs.Common.{map, ◌++◌, ap, ◌∙◌, append_assoc}
use Rattle.design_table.specs.declared.key.Key.TheVariants as keys
use Rattle.design_text.specs.Texts.{array_lines, node_line, edge_line, signal_line}
use Rattle.design_text.proofs.lines.push_track.Goals as goal

pub returns : goal.returns
returns c =
    let d = c.args.design.now.station in
    let old = map (λ line. line.items) c.args.lines.now.items in
    let one = array_lines keys.Node (map node_line d.nodes) in
    let two = array_lines keys.Edge (map (edge_line d) d.edges) in
    let three = array_lines keys.Signal (map (signal_line d) d.signals) in
    rw c.as_slice-3.ensures at c.in_ok-push_array-3.ensures
    ∙ ap (λ t. t ++ three) (rw c.as_slice-2.ensures at c.in_ok-push_array-2.ensures ∙ ap (λ t. t ++ two) (rw c.as_slice.ensures at c.in_ok-push_array.ensures) ∙ append_assoc old one two)
    ∙ append_assoc old (one ++ two) three ∙ ap (λ t. old ++ t) (append_assoc one two three)
