-- A step in file order stays as it is when it is put into file order again.
use Rattle.std.proofs.Common.{◌≡◌, List, [], ◌∷◌, ◌++◌, map, filter, refl, ap, ap₂, eqb-true, codes}
use Rattle.serde_json.specs.Data.{Data, array, object, member, no_members}
use Rattle.serde_json.specs.View.{items_of}
use Rattle.serde_json.specs.Written.{compact_text}
use Rattle.rail_base.specs.declared.station.Station.{Station}
use Rattle.rail_base.specs.declared.plan.Command.{Command}
use Rattle.rail_base.specs.Stations.{trains}
use Rattle.rail_plan.proofs.Blocked.{joined_same}
use Rattle.rail_plan.proofs.Empties.{in_trains_back}
use Rattle.rail_spec.specs.Plans.{is_train}
use Rattle.plan_text.specs.Text.{in_file_order, plan_text}
use Rattle.plan_text.specs.Text as numbers
use Rattle.plan_text.proofs.Ordered.{own}
use Rattle.named_plans.specs.Text.{command_value, line_end, step_lines, named_lines}

module _ (d : Station) where
  pub in_order_again : (step : List Command) → in_file_order d (in_file_order d step) ≡ in_file_order d step
  in_order_again step =
      joined_same (λ t. filter (λ (c : Command). is_train c.train t) (in_file_order d step)) (λ t. filter (λ (c : Command). is_train c.train t) step) (trains d)
      (λ t m. own d t (in_trains_back d t m) (λ c. is_train c.train t) (λ c e. eqb-true c.train.0 t.0 e) step)

  mapped_again : {Y : Type 0} (f : List Command → Y) → ((step : List Command) → f (in_file_order d step) ≡ f step) → (plan : List (List Command)) → map f (map (in_file_order d) plan) ≡ map f plan
  mapped_again f same [] = refl
  mapped_again f same (s ∷ ss) = ap₂ (λ y ys. y ∷ ys) (same s) (mapped_again f same ss)

  pub same_numbers : (plan : List (List Command)) → plan_text d (map (in_file_order d) plan) ≡ plan_text d plan
  same_numbers plan =
      ap (λ vs. compact_text (wrapped vs)) (mapped_again (numbers.step_value d) (λ step. ap (λ cs. array (items_of (map (numbers.command_value d) cs))) (in_order_again step)) plan)
    where
      wrapped : List Data → Data
      wrapped vs = object (member (codes "steps") (array (items_of vs)) no_members)

  same_end : (ss : List (List Command)) → line_end (map (in_file_order d) ss) ≡ line_end ss
  same_end [] = refl
  same_end (s ∷ ss) = refl

  same_lines : (ss : List (List Command)) → step_lines d (map (in_file_order d) ss) ≡ step_lines d ss
  same_lines [] = refl
  same_lines (s ∷ ss) =
      ap₂ (λ l ls. l ∷ ls) (ap₂ (λ v e. compact_text v ++ e) (ap (λ cs. array (items_of (map (command_value d) cs))) (in_order_again s)) (same_end ss)) (same_lines ss)

  pub same_named : (plan : List (List Command)) → named_lines d (map (in_file_order d) plan) ≡ named_lines d plan
  same_named plan = ap (λ ls. codes "{\"steps\":[\n" ∷ (ls ++ codes "]}\n" ∷ [])) (same_lines plan)
