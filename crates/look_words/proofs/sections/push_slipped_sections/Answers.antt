use Rattle.std.proofs.Common.{◌+◌, ◌-◌, ◌++◌, ◌≡◌, List, ℕ, ap, append-nil, flat_map, length, sym, ◌∙◌, arith}
use Rattle.rail_outside.specs.Lines.{lines_of}
use Rattle.rail_base.specs.Numbering.{count_from}
use Rattle.look_words.specs.Sections.{section_looks}
use Rattle.look_words.proofs.Counted.{lists_more}
use Rattle.look_words.proofs.sections.push_slipped_sections.Goals as goal

pub loop-index-preserved : goal.loop-index-preserved
loop-index-preserved c =
    let said = section_looks c.args.design.now.station in
    let l = c.loop-index in
    let many = length c.args.design.now.station.sections in
    let left = flat_map said (count_from (l.index + 1 + 1) (many + 1 - (l.index + 1 + 1))) in
    ap (λ (ls : List (List ℕ)). ls ++ left) c.in_ok-push_section.ensures
    ∙ lists_more said _ _ (l.index + 1) many (omega (arith, c.len-sections.ensures, c.loop-index-test.true)) l.invariant

pub returns : goal.returns
returns c =
    let said = section_looks c.args.design.now.station in
    let l = c.loop-index in
    let many = length c.args.design.now.station.sections in
    let none : many + 1 - (l.index + 1) ≡ 0 = omega (arith, c.len-sections.ensures, c.loop-index-test.false) in
    sym (append-nil _) ∙ (ap (λ (n : ℕ). lines_of l.lines.items ++ flat_map said (count_from (l.index + 1) n)) (sym none) ∙ l.invariant)
