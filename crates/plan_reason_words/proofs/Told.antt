-- What a refusal of a text says of the text's value.
use Rattle.std.proofs.Common.{◌≡◌, ℕ, zero, suc, ◌+◌, ◌<◌, ◌≤◌, ◌⊎◌, inl, inr, Bool, true, false, cond, nat_le, List, [], ◌∷◌, map, length, Option, None, Some, is_none, option_and_then, Ok, Err, refl, sym, ap, subst, arith, leb-false, ◌∙◌}
use Rattle.std.specs.Prelude.{unwrap_or}
use Rattle.rail_base.specs.declared.plan.Command.{Command}
use Rattle.rail_base.specs.declared.route.Route.{Route}
use Rattle.rail_base.specs.declared.station.Station.{Station}
use Rattle.rail_base.specs.declared.station.TrainNo.{TrainNo}
use Rattle.rail_base.specs.Members.{In}
use Rattle.rail_base.specs.Numbering.{entry, one_to}
use Rattle.rail_base.proofs.Lists.{in_append, in_filter_back, in_flat_map_back, in_map_back}
use Rattle.serde_json.specs.Data.{Data, null}
use Rattle.rail_plan.specs.declared.fault.PlanCode.{PlanCode}
use Rattle.rail_plan.specs.declared.fault.PlanCode.TheVariants.{P1, P2, P3, P4}
use Rattle.rail_plan.specs.declared.place.PlanPlace.{PlanPlace}
use Rattle.rail_plan.specs.declared.place.PlanPlace.TheVariants as place
use Rattle.rail_plan.specs.Executable.{blocked}
use Rattle.rail_plan.specs.Reading.{Refusal, admitted_plan, known, missing, plan_of, plan_of_text, planned, train_names, unknown, unless, values_of}
use Rattle.rail_plan.specs.Text.{Written, array_of, command_of, json_of, of_all, step_in, steps_at, text_steps, with_others}
use Rattle.rail_plan.specs.WellFormed.{misplaced, misplaced_in, past, placed_badly}
use Rattle.rail_plan.proofs.Empties.{in_one_to_back}
use Rattle.rail_plan.proofs.Parsed.{read_is}
use Rattle.plan_values.specs.Commands.{plan_in}
use Rattle.plan_values.specs.Values.{steps_in, written_in}
use Rattle.plan_faults.proofs.Refused.{blocked_has_keeper, misplaced_has_reason, refused, refused_in}
use Rattle.plan_reason_words.specs.Laws.{BlockedIsSo, HasUnknown, MisplacedIsSo, OfPlan, StepsAreMany, UnknownIsThere}

-- ---- something of all

record Both {X : Type 0} (a : Option X) (b : Option (List X)) (zs : List X) : Type 0 where
  pub head : X
  pub rest : List X
  pub first : a ≡ Some head
  pub others : b ≡ Some rest
  pub whole : zs ≡ head ∷ rest

both_there : {X : Type 0} (a : Option X) (b : Option (List X)) (zs : List X) → with_others a b ≡ Some zs → Both a b zs
both_there None b zs e = cc
both_there (Some x) None zs e = cc
both_there (Some x) (Some xs) zs e = record { head = x; rest = xs; first = refl; others = refl; whole = let same : x ∷ xs ≡ zs = cc in sym same }

all_long : {X Y : Type 0} (f : X → Option Y) (xs : List X) (ys : List Y) → of_all f xs ≡ Some ys → length xs ≡ length ys
all_long f [] ys e = let same : [] ≡ ys = cc in ap length same
all_long f (x ∷ xs) ys e =
    let b = both_there (f x) (of_all f xs) ys e in
    ap suc (all_long f xs b.rest b.others) ∙ sym (ap length b.whole)

all_at : {X Y : Type 0} (f : X → Option Y) (xs : List X) (ys : List Y) (other : X) (last : Y) (j : ℕ) → of_all f xs ≡ Some ys → 1 ≤ j → j ≤ length xs → f (entry other xs j) ≡ Some (entry last ys j)
all_at f xs ys other last zero e low high = absurd (omega arith)
all_at f [] ys other last (suc j) e low high = absurd (omega arith)
all_at f (x ∷ xs) ys other last (suc zero) e low high =
    let b = both_there (f x) (of_all f xs) ys e in
    b.first ∙ ap (λ zs. Some (entry last zs 1)) (sym b.whole)
all_at f (x ∷ xs) ys other last (suc (suc j)) e low high =
    let b = both_there (f x) (of_all f xs) ys e in
    all_at f xs b.rest other last (suc j) b.others (omega arith) (omega arith) ∙ ap (λ zs. Some (entry last zs (suc (suc j)))) (sym b.whole)

-- ---- the steps of a text

steps_read : (v : Data) (text : List (List Written)) → text_steps v ≡ Some text → of_all step_in (steps_in v) ≡ Some text
steps_read v text e = go (option_and_then array_of (steps_at v)) e
  where
    go : (o : Option (List Data)) → option_and_then (of_all step_in) o ≡ Some text → of_all step_in (unwrap_or o []) ≡ Some text
    go (Some ds) k = k
    go None k = cc

values_there : (d : Data) (ws : List Written) → step_in d ≡ Some ws → of_all command_of (values_of d) ≡ Some ws
values_there d ws e = go (array_of d) e
  where
    go : (o : Option (List Data)) → option_and_then (of_all command_of) o ≡ Some ws → of_all command_of (unwrap_or o []) ≡ Some ws
    go (Some vs) k = k
    go None k = cc

-- a command of the text, by the values
written_there : (v : Data) (text : List (List Written)) (i j : ℕ) → text_steps v ≡ Some text → 1 ≤ i → i ≤ length text → 1 ≤ j → j ≤ length (entry [] text i)
    → written_in v i j ≡ Some (entry ([], 0) (entry [] text i) j)
written_there v text i j e low high first last =
    let all = steps_read v text e in
    let long = all_long step_in (steps_in v) text all in
    let step = all_at step_in (steps_in v) text null [] i all low (omega arith) in
    let values = values_there (entry null (steps_in v) i) (entry [] text i) step in
    let many = all_long command_of (values_of (entry null (steps_in v) i)) (entry [] text i) values in
    all_at command_of (values_of (entry null (steps_in v) i)) (entry [] text i) null ([], 0) j values first (omega arith)

none_there : {X : Type 0} (o : Option X) → is_none o ≡ true → o ≡ None
none_there None e = refl
none_there (Some x) e = cc

same_code : (code other : PlanCode) (q p : PlanPlace) → refused code q ≡ refused other p → code ≡ other
same_code code other q p e =
    let both : (code, q) ≡ (other, p) = cc in
    ap (λ (x : Refusal). x.0) both

module _ (d : Station) (routes : List Route) where
  -- a plan that is read is refused as not well formed or not executable alone
  not_unknown : (plan : List (List Command)) (p : PlanPlace) → admitted_plan d routes plan ≡ Err (P2, p) → ⊥
  not_unknown plan p e = go (refused_in P3 (misplaced d routes 256 plan) P2 p (unless P4 (blocked d routes plan) (Ok plan)) e)
    where
      later : ((blocked d routes plan ≡ []) × (Ok plan ≡ refused P2 p)) ⊎ ((P4 ≡ P2) × In p (blocked d routes plan)) → ⊥
      later (inl (none, k)) = cc
      later (inr (k, m)) = cc

      go : ((misplaced d routes 256 plan ≡ []) × (unless P4 (blocked d routes plan) (Ok plan) ≡ refused P2 p)) ⊎ ((P3 ≡ P2) × In p (misplaced d routes 256 plan)) → ⊥
      go (inl (none, k)) = later (refused_in P4 (blocked d routes plan) P2 p (Ok plan) k)
      go (inr (k, m)) = cc

  -- a plan that is refused for a step has more than 256
  too_many : (plan : List (List Command)) (n : ℕ) → admitted_plan d routes plan ≡ Err (P3, place.Step n) → 256 < length plan
  too_many plan n e = go (refused_in P3 (misplaced d routes 256 plan) P3 (place.Step n) (unless P4 (blocked d routes plan) (Ok plan)) e)
    where
      later : ((blocked d routes plan ≡ []) × (Ok plan ≡ refused P3 (place.Step n))) ⊎ ((P4 ≡ P3) × In (place.Step n) (blocked d routes plan)) → 256 < length plan
      later (inl (none, k)) = cc
      later (inr (k, m)) = cc

      in_past : (b : Bool) → nat_le (length plan) 256 ≡ b → In (place.Step n) (cond b [] (place.Step (256 + 1) ∷ [])) → 256 < length plan
      in_past true l m = absurd m
      in_past false l m = leb-false (length plan) 256 l

      of_train : (k : ℕ) → (u : TrainNo) × In u (misplaced_in d routes plan k) × (place.Train k u ≡ place.Step n) → 256 < length plan
      of_train k (u, m, same) = cc

      of_step : (k : ℕ) × In k (one_to (length plan)) × In (place.Step n) (map (place.Train k) (misplaced_in d routes plan k)) → 256 < length plan
      of_step (k, j, m) = of_train k (in_map_back (place.Train k) (misplaced_in d routes plan k) (place.Step n) m)

      either : In (place.Step n) (past 256 plan) ⊎ In (place.Step n) (placed_badly d routes plan) → 256 < length plan
      either (inl m) = in_past (nat_le (length plan) 256) refl m
      either (inr m) = of_step (in_flat_map_back (λ k. map (place.Train k) (misplaced_in d routes plan k)) (one_to (length plan)) (place.Step n) m)

      go : ((misplaced d routes 256 plan ≡ []) × (unless P4 (blocked d routes plan) (Ok plan) ≡ refused P3 (place.Step n))) ⊎ ((P3 ≡ P3) × In (place.Step n) (misplaced d routes 256 plan)) → 256 < length plan
      go (inl (none, k)) = later (refused_in P4 (blocked d routes plan) P3 (place.Step n) (Ok plan) k)
      go (inr (k, m)) = either (in_append (place.Step n) (past 256 plan) (placed_badly d routes plan) m)

  module _ (text : List ℕ) where
    abbrev names : List (List ℕ)
    names = train_names d

    -- what is refused as a plan is read as one
    of_plan : (code : PlanCode) (p : PlanPlace) → (code ≡ P1 → ⊥) → (code ≡ P2 → ⊥) → plan_of d routes text ≡ Err (code, p)
        → OfPlan d routes text (λ plan. admitted_plan d routes plan ≡ Err (code, p))
    of_plan code p not_1 not_2 e = go (json_of text) refl e
      where
        apart : (v : Data) (steps : List (List Written)) → json_of text ≡ Some v → text_steps v ≡ Some steps
            → ((unknown names (length routes) steps ≡ []) × (admitted_plan d routes (planned names (length routes) steps) ≡ Err (code, p))) ⊎ ((P2 ≡ code) × In p (unknown names (length routes) steps))
            → OfPlan d routes text (λ plan. admitted_plan d routes plan ≡ Err (code, p))
        apart v steps is read (inl (none, k)) = (v, is, ap (admitted_plan d routes) (read_is names (length routes) (steps_in v) steps (steps_read v steps read)) ∙ k)
        apart v steps is read (inr (k, m)) = absurd (not_2 (sym k))

        of_steps : (v : Data) (o : Option (List (List Written))) → json_of text ≡ Some v → text_steps v ≡ o → plan_of_text d routes o ≡ Err (code, p)
            → OfPlan d routes text (λ plan. admitted_plan d routes plan ≡ Err (code, p))
        of_steps v None is read k = absurd (not_1 (sym (same_code P1 code place.File p k)))
        of_steps v (Some steps) is read k = apart v steps is read (refused_in P2 (unknown names (length routes) steps) code p (admitted_plan d routes (planned names (length routes) steps)) k)

        go : (o : Option Data) → json_of text ≡ o → plan_of_text d routes (option_and_then text_steps o) ≡ Err (code, p)
            → OfPlan d routes text (λ plan. admitted_plan d routes plan ≡ Err (code, p))
        go None is k = absurd (not_1 (sym (same_code P1 code place.File p k)))
        go (Some v) is k = of_steps v (text_steps v) is refl k

    pub misplaced_is_so : MisplacedIsSo d routes text
    misplaced_is_so i t e =
        let l = of_plan P3 (place.Train i t) (λ k. cc) (λ k. cc) e in
        (l.0, l.1, misplaced_has_reason d routes (plan_in d routes l.0) i t l.2)

    pub steps_are_many : StepsAreMany d routes text
    steps_are_many n e =
        let l = of_plan P3 (place.Step n) (λ k. cc) (λ k. cc) e in
        (l.0, l.1, too_many (plan_in d routes l.0) n l.2)

    pub blocked_is_so : BlockedIsSo d routes text
    blocked_is_so i t z e =
        let l = of_plan P4 (place.Section i t z) (λ k. cc) (λ k. cc) e in
        (l.0, l.1, blocked_has_keeper d routes (plan_in d routes l.0) i t z l.2)

    pub unknown_is_there : UnknownIsThere d routes text
    unknown_is_there i j e = go (json_of text) refl e
      where
        many : ℕ
        many = length routes

        of_command : (v : Data) (steps : List (List Written)) (k l : ℕ) → json_of text ≡ Some v → text_steps v ≡ Some steps → In k (one_to (length steps))
            → In l (missing (known names many) ([], 0) (entry [] steps k)) → place.Command k l ≡ place.Command i j → HasUnknown d routes text i j
        of_command v steps k l is read m n same =
            let step : k ≡ i = cc in
            let command : l ≡ j = cc in
            let one = in_filter_back (λ h. is_none (known names many (entry ([], 0) (entry [] steps k) h))) (one_to (length (entry [] steps k))) l n in
            let in_text = in_one_to_back (length steps) k m in
            let in_step = in_one_to_back (length (entry [] steps k)) l one.0 in
            let there = written_there v steps k l read in_text.0 in_text.1 in_step.0 in_step.1 in
            subst (λ h. HasUnknown d routes text h j) step (subst (λ h. HasUnknown d routes text k h) command
            (v, is, entry ([], 0) (entry [] steps k) l, there, none_there _ one.1))

        of_step : (v : Data) (steps : List (List Written)) → json_of text ≡ Some v → text_steps v ≡ Some steps
            → (k : ℕ) × In k (one_to (length steps)) × In (place.Command i j) (map (place.Command k) (missing (known names many) ([], 0) (entry [] steps k))) → HasUnknown d routes text i j
        of_step v steps is read (k, m, n) =
            let l = in_map_back (place.Command k) (missing (known names many) ([], 0) (entry [] steps k)) (place.Command i j) n in
            of_command v steps k l.0 is read m l.1 l.2

        apart : (v : Data) (steps : List (List Written)) → json_of text ≡ Some v → text_steps v ≡ Some steps
            → ((unknown names many steps ≡ []) × (admitted_plan d routes (planned names many steps) ≡ Err (P2, place.Command i j))) ⊎ ((P2 ≡ P2) × In (place.Command i j) (unknown names many steps))
            → HasUnknown d routes text i j
        apart v steps is read (inl (none, k)) = absurd (not_unknown (planned names many steps) (place.Command i j) k)
        apart v steps is read (inr (k, m)) = of_step v steps is read (in_flat_map_back (λ h. map (place.Command h) (missing (known names many) ([], 0) (entry [] steps h))) (one_to (length steps)) (place.Command i j) m)

        of_steps : (v : Data) (o : Option (List (List Written))) → json_of text ≡ Some v → text_steps v ≡ o → plan_of_text d routes o ≡ Err (P2, place.Command i j) → HasUnknown d routes text i j
        of_steps v None is read k = let clash : P1 ≡ P2 = same_code P1 P2 place.File (place.Command i j) k in cc
        of_steps v (Some steps) is read k = apart v steps is read (refused_in P2 (unknown names many steps) P2 (place.Command i j) (admitted_plan d routes (planned names many steps)) k)

        go : (o : Option Data) → json_of text ≡ o → plan_of_text d routes (option_and_then text_steps o) ≡ Err (P2, place.Command i j) → HasUnknown d routes text i j
        go None is k = let clash : P1 ≡ P2 = same_code P1 P2 place.File (place.Command i j) k in cc
        go (Some v) is k = of_steps v (text_steps v) is refl k
