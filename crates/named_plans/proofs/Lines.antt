-- The lines of steps, one after the other.
use Rattle.std.proofs.Common.{◌≡◌, ℕ, suc, ◌+◌, ◌≤◌, ◌<◌, Bool, true, false, ◌==◌, List, [], ◌∷◌, ◌++◌, length, get_or, drop, if◌then◌else◌, codes, refl, sym, ap, ap₂, ◌∙◌, arith, append_assoc, append-nil, length-drop, eqb-true, eq-eqb}
use Rattle.std.proofs.Math.Seq.{drop-cons}
use Rattle.std.proofs.lemmas.List.{drop_all}
use Rattle.serde_json.specs.Written.{compact_text}
use Rattle.rail_base.specs.declared.station.Station.{Station}
use Rattle.rail_base.specs.declared.plan.Command.{Command}
use Rattle.rail_base.proofs.Members.{false_unless}
use Rattle.named_plans.specs.Text.{step_value, line_end, step_lines}

end_is : (ss : List (List Command)) (b : Bool) → b ≡ (length ss == 0) → (if b then codes "\n" else codes ",\n") ≡ line_end ss
end_is [] b e = ap (λ (c : Bool). if c then codes "\n" else codes ",\n") e
end_is (s ∷ ss) b e = ap (λ (c : Bool). if c then codes "\n" else codes ",\n") (e ∙ false_unless (suc (length ss) == 0) (λ h. let k = eqb-true (suc (length ss)) 0 h in omega arith))

module _ (d : Station) (steps : List (List Command)) where
  last_is : (i : ℕ) (b : Bool) → i < length steps → b ≡ ((i + 1) == length steps) → b ≡ (length (drop (i + 1) steps) == 0)
  last_is i b l e = e ∙ go ((i + 1) == length steps) refl
    where
      go : (c : Bool) → ((i + 1) == length steps) ≡ c → c ≡ (length (drop (i + 1) steps) == 0)
      go true h = let k = eqb-true (i + 1) (length steps) h in let m = length-drop (i + 1) steps in sym (eq-eqb (length (drop (i + 1) steps)) 0 (omega arith))
      go false h = let m = length-drop (i + 1) steps in sym (false_unless (length (drop (i + 1) steps) == 0) (λ z. let k = eqb-true (length (drop (i + 1) steps)) 0 z in let t = eq-eqb (i + 1) (length steps) (omega arith) in cc))

  pub one_more_line : (all before lines : List (List ℕ)) (i : ℕ) (step other : List Command) (line : List ℕ) (b : Bool) → i < length steps → step ≡ get_or steps i other → b ≡ ((i + 1) == length steps)
      → line ≡ compact_text (step_value d step) ++ (if b then codes "\n" else codes ",\n") → before ++ step_lines d (drop i steps) ≡ all → lines ≡ before ++ line ∷ [] → lines ++ step_lines d (drop (i + 1) steps) ≡ all
  one_more_line all before lines i step other line b l is last text so_far more =
      let one : suc i ≡ i + 1 = omega arith in
      let rest : drop i steps ≡ step ∷ drop (i + 1) steps = drop-cons steps i other l ∙ ap₂ (λ s n. s ∷ drop n steps) (sym is) one in
      let end = end_is (drop (i + 1) steps) b (last_is i b l last) in
      ap (λ ls. ls ++ step_lines d (drop (i + 1) steps)) more ∙ append_assoc before (line ∷ []) (step_lines d (drop (i + 1) steps))
      ∙ ap (λ t. before ++ t ∷ step_lines d (drop (i + 1) steps)) (text ∙ ap (λ e. compact_text (step_value d step) ++ e) end)
      ∙ ap (λ ss. before ++ step_lines d ss) (sym rest) ∙ so_far

  pub all_lines : (all lines : List (List ℕ)) (i : ℕ) → length steps ≤ i → lines ++ step_lines d (drop i steps) ≡ all → lines ≡ all
  all_lines all lines i over e = sym (append-nil lines) ∙ ap (λ ss. lines ++ step_lines d ss) (sym (drop_all i steps over)) ∙ e
