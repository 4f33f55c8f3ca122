use Rattle.std.proofs.Common.{◌≡◌, true, IfOk, Option, sym, subst}
use Rattle.rail_outside.specs.Lines.{lines_of}
use Rattle.serde_json.specs.Data.{Data}
use Rattle.serde_json.specs.View.{view}
use Rattle.rail_plan.proofs.Json.{json_found, json_refused}
use Rattle.plan_fault_words.specs.Unread.{SaysUnread}
use Rattle.plan_fault_words.proofs.unread.unread_lines.Goals as goal

pub returns-in-Ok : goal.returns-in-Ok
returns-in-Ok c =
    let is = json_found c.args.bytes.now (view c.in-Ok.value) c.in-Ok.ensures.ok.0 c.in-Ok.ensures.ok.1 in
    subst (λ (o : Option Data). IfOk c.shape_lines.result (λ lines. SaysUnread c.args.bytes.now o (lines_of lines.items))) (sym is) c.shape_lines.ensures

pub returns-else-is_memory : goal.returns-else-is_memory
returns-else-is_memory c =
    let is = json_refused c.args.bytes.now (c.in-Err.ensures.err (λ m. let t : c.is_memory.result ≡ true = c.is_memory.ensures.1 m in cc)) in
    subst (λ (o : Option Data). IfOk c.stopped_lines.result (λ lines. SaysUnread c.args.bytes.now o (lines_of lines.items))) (sym is) c.stopped_lines.ensures
