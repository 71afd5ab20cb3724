use Rattle.lab_lend.proofs.Fetched.{fetched}
use Rattle.lab_lend.specs.Node.{most_taken}
use Rattle.lab_lend.proofs.node_event.pick_out.Goals as goal

pub returns : goal.returns
returns c =
    let a = c.args in
    fetched a.map.now a.scratch.now _ a.offset a.n most_taken c.requires.n_le_most_taken c.min-from.ensures c.min-size.ensures c.requires.scratch_value c.copy_from_slice.ensures.after
