use Rattle.std.proofs.Common.{map, ◌++◌, ap, ◌∙◌, append_assoc}
use Rattle.design_table.specs.declared.key.Key.TheVariants as keys
use Rattle.design_text.specs.Texts.{array_lines, vehicle_line, train_line}
use Rattle.design_text.proofs.lines.push_trains.Goals as goal

pub returns : goal.returns
returns c =
    let d = c.args.design.now.station in
    let old = map (λ line. line.items) c.args.lines.now.items in
    let one = array_lines keys.Vehicle (map vehicle_line d.vehicles) in
    let two = array_lines keys.Train (map (train_line d) d.trains) in
    rw c.as_slice-2.ensures at c.in_ok-push_array-2.ensures ∙ ap (λ t. t ++ two) (rw c.as_slice.ensures at c.in_ok-push_array.ensures) ∙ append_assoc old one two
