use Rattle.std.proofs.Common.{List, ap, ◌∙◌}
use Rattle.cone_spec.specs.declared.ConeTrain.{ConeTrain}
use Rattle.cone_spec.specs.Validity.{only_path, no_pairs}
use Rattle.cone_form.proofs.Walks.{and_then, and_else}
use Rattle.cone_form.proofs.Empty.{empty_is}
use Rattle.cone_form.proofs.violations.path_in_design.Goals as goal

pub returns-then-only_path : goal.returns-then-only_path
returns-then-only_path c =
    let d = c.args.interlocking.now.design.station in
    let routes = c.args.interlocking.now.routes in
    let k = c.args.cone.now in
    let only = c.only_path.ensures d routes k ∙ ap (λ (es : List ConeTrain). only_path d routes k c.args.train es) c.as_slice.ensures in
    and_then (and_then c.is_visit.ensures c.if-not-is_visit.false only) c.if-only_path.true (empty_is d routes k c.is_empty.result k.pairs c.is_empty.ensures)

pub returns-else-only_path : goal.returns-else-only_path
returns-else-only_path c =
    let d = c.args.interlocking.now.design.station in
    let routes = c.args.interlocking.now.routes in
    let k = c.args.cone.now in
    let only = c.only_path.ensures d routes k ∙ ap (λ (es : List ConeTrain). only_path d routes k c.args.train es) c.as_slice.ensures in
    and_else (no_pairs d routes k k.pairs) (and_then c.is_visit.ensures c.if-not-is_visit.false only) c.if-only_path.false
