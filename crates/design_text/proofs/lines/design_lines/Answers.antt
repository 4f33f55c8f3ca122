use Rattle.std.proofs.Common.{◌≡◌, ℕ, List, [], ◌∷◌, ◌++◌, map, ap, refl, ◌∙◌, append_assoc}
use Rattle.design_table.specs.declared.key.Key.TheVariants as keys
use Rattle.design_text.specs.Texts.{array_lines, number_line, design_lines, node_line, edge_line, signal_line, vehicle_line, train_line, order_line, within_line, overlap_line}
use Rattle.design_text.proofs.lines.design_lines.Goals as goal

all_joined : (x y z : List ℕ) (a b c d e f g h : List (List ℕ)) → (((((x ∷ y ∷ z ∷ []) ++ (a ++ (b ++ c))) ++ (d ++ e)) ++ (f ++ g)) ++ h) ≡ (x ∷ y ∷ z ∷ a) ++ (b ++ (c ++ (d ++ (e ++ (f ++ (g ++ h))))))
all_joined x y z a b c d e f g h = simp append_assoc refl

pub returns : goal.returns
unfolding design_lines
returns c =
    let d = c.args.design.now.station in
    c.in_ok-push_overlaps.ensures
    ∙ ap (λ t. t ++ array_lines keys.Overlap (map (overlap_line d) d.overlaps)) (c.in_ok-push_requirements.ensures
    ∙ ap (λ t. t ++ (array_lines keys.Order (map (order_line d) d.orders) ++ array_lines keys.Within (map (within_line d) d.withins))) (c.in_ok-push_trains.ensures
    ∙ ap (λ t. t ++ (array_lines keys.Vehicle (map vehicle_line d.vehicles) ++ array_lines keys.Train (map (train_line d) d.trains))) (c.in_ok-push_track.ensures
    ∙ ap (λ t. t ++ (array_lines keys.Node (map node_line d.nodes) ++ (array_lines keys.Edge (map (edge_line d) d.edges) ++ array_lines keys.Signal (map (signal_line d) d.signals)))) c.in_ok-lines.ensures)))
    ∙ all_joined (number_line keys.Version d.version) (number_line keys.TickMs d.tick_ms) (number_line keys.HorizonMs d.horizon_ms)
    (array_lines keys.Node (map node_line d.nodes)) (array_lines keys.Edge (map (edge_line d) d.edges)) (array_lines keys.Signal (map (signal_line d) d.signals))
    (array_lines keys.Vehicle (map vehicle_line d.vehicles)) (array_lines keys.Train (map (train_line d) d.trains)) (array_lines keys.Order (map (order_line d) d.orders)) (array_lines keys.Within (map (within_line d) d.withins)) (array_lines keys.Overlap (map (overlap_line d) d.overlaps))
