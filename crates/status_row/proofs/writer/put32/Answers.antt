use Rattle.std.proofs.Common.{arith, refl, sym, ◌≡◌, ◌∙◌, ◌+◌, ◌-◌}
use Rattle.std.proofs.lemmas.List.Edits.{sets-eq}
use Rattle.std.proofs.lemmas.Slice.{put_mid-paste}
use Rattle.status_row.specs.Descriptors.{word}
use Rattle.status_row.proofs.writer.put32.Goals as goal

pub returns : goal.returns
unfolding word
returns c =
    let i = c.args.at in
    let v : c.copy_from_slice.new.self ≡ word c.args.v = rw c.to_be_bytes.ensures at c.copy_from_slice.ensures.after in
    let n : 4 ≡ i + 4 - i = omega arith in
    put_mid-paste _ _ _ _ (word c.args.v) 4 v n refl ∙ sym (sets-eq (word c.args.v) _ i (omega (arith, c.requires)))
