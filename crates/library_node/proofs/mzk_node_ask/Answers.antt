use mathlib.Core.Path.{◌∙◌}
use Rattle.library_node.proofs.Ends.{silent, told}
use Rattle.library_node.proofs.mzk_node_ask.Goals as goal

pub returns-in-Err : goal.returns-in-Err
returns-in-Err c =
    let s =
    silent c.args.state.now c.args.summaries.now c.args.map.now c.args.staging.now c.args.out.now c.args.kind c.args.a c.args.b _ _ _ (rw c.read-known.ensures at c.callable.ensures) c.ask_known.ensures c.in-Err.is in
    record { value = c.from.ensures ∙ s.0; out_after = s.1 }

pub returns : goal.returns
returns c =
    let t =
    told c.args.state.now c.args.summaries.now c.args.map.now c.args.staging.now c.args.out.now c.args.kind c.args.a c.args.b _ _ _ _ _ _ (rw c.read-known.ensures at c.callable.ensures) c.ask_known.ensures c.in-Ok.is c.question_of.ensures c.call-f.ensures c.finding_words.ensures in
    record { value = t.0; out_after = t.1 }
