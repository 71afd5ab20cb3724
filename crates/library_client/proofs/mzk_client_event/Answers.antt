use mathlib.Core.Path.{◌∙◌}
use Rattle.library_client.proofs.Ends.{stopped, went}
use Rattle.library_client.proofs.mzk_client_event.Goals as goal

pub returns-in-Err : goal.returns-in-Err
returns-in-Err c =
    let s =
    stopped c.args.state.now c.args.map.now c.args.other.now c.args.out.now c.args.kind c.args.a c.args.b c.args.c _ _ _ (rw c.read-known.ensures at c.callable.ensures) c.event_known.ensures c.in-Err.is in
    record { value = c.from.ensures ∙ s.0; state_after = s.1.0; map_after = s.1.1.0; out_after = s.1.1.1.0; known_after = s.1.1.1.1 }

pub returns : goal.returns
returns c =
    let w =
    went c.args.state.now c.args.map.now c.args.other.now c.args.out.now c.args.kind c.args.a c.args.b c.args.c _ _ _ _ _ _ _ _ _ (rw c.read-known.ensures at c.callable.ensures) c.event_known.ensures c.in-Ok.is c.event_of-e.ensures c.call-o.ensures.meets c.call-o.ensures.own_after c.answer_words.ensures (c.pack.ensures.value, c.pack.ensures.result_value) in
    record { value = w.0; state_after = w.1.0; map_after = w.1.1.0; out_after = w.1.1.1.0; known_after = w.1.1.1.1 }
