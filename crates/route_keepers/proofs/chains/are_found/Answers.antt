use Rattle.std.proofs.Common.{◌≡◌, ℕ, ◌+◌, Bool, List, ◌∷◌, [], ◌++◌, Option, None, drop, get_or, map, sym, ap, ◌∙◌, append-nil}
use Rattle.std.specs.Prelude.{is_some}
use Rattle.std.proofs.lemmas.List.{at_drop_all, at_drop_more}
use Rattle.route_keepers.proofs.Listing.{item_next}
use Rattle.route_keepers.proofs.chains.are_found.Goals as goal

pub loop-steps-init : goal.loop-steps-init
loop-steps-init c = ap (λ (row : List Bool). row ++ map is_some c.args.found.now) c.new-row.ensures

pub loop-steps-preserved : goal.loop-steps-preserved
loop-steps-preserved c =
    let found = c.args.found.now in
    let i = c.loop-steps.steps-index in
    let test : Option ℕ → Bool = is_some in
    let step : map test (drop i found) ≡ test (get_or found i None) ∷ map test (drop (i + 1) found) = at_drop_more (map test) found i None c.loop-steps-test.true in
    let put : c.push.new.self ≡ c.loop-steps.row ++ test (get_or found i None) ∷ [] = c.in_ok-push.ensures.ok ∙ ap (λ b. c.loop-steps.row ++ b ∷ []) c.is_some.ensures in
    item_next test c.loop-steps.row c.push.new.self (get_or found i None) (drop i found) (drop (i + 1) found) (map test found) step put c.loop-steps.invariant

pub returns : goal.returns
returns c = sym (append-nil c.loop-steps.row) ∙ sym (ap (λ bs. c.loop-steps.row ++ bs) (at_drop_all (map (λ (o : Option ℕ). is_some o)) c.args.found.now c.loop-steps.steps-index c.loop-steps-test.false)) ∙ c.loop-steps.invariant
