use Rattle.std.proofs.Common.{◌≡◌, false, true≢false, ◌==◌, ◌++◌, List, [], ◌∷◌, length, codes, refl, sym, ◌∙◌}
use Rattle.rail_base.specs.declared.station.SectionNo.{SectionNo}
use Rattle.rail_base.specs.declared.station.Station.{Station}
use Rattle.cone_words.specs.Cones.{cleared_text, left_text, released_text}
use Rattle.cone_words.proofs.Joining.{first_as, more_as}
use Rattle.cone_words.proofs.phrases.put_left_or_released.Goals as goal

-- where there are some of each
both_said : (d : Station) (own held : List SectionNo) → (length own == 0) ≡ false → (length held == 0) ≡ false
    → left_text d own ++ codes " and " ++ released_text d held ≡ cleared_text d own held
both_said d [] held a b = absurd (true≢false a)
both_said d (y ∷ own) [] a b = absurd (true≢false b)
both_said d (y ∷ own) (z ∷ held) a b = refl

pub returns : goal.returns
returns c =
    let d = c.args.design.now.station in
    let old = c.args.text.now.items in
    let t1 = first_as old _ _ _ c.in_ok-put_left.ensures refl in
    let t2 = more_as old _ _ _ _ _ t1 c.in_ok-extend_from_slice.ensures.items refl in
    let t3 = more_as old _ _ _ _ _ t2 c.in_ok-put_released.ensures refl in
    first_as old _ _ _ t3 (both_said d c.args.own.now c.args.held.now (sym c.is_empty-2.ensures ∙ c.if-is_empty-2.false) (sym c.is_empty.ensures ∙ c.if-is_empty.false))
