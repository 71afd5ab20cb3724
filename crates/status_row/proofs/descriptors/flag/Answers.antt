use Rattle.std.proofs.Common.{◌≡◌, ℕ, sym, ◌∙◌}
use lib.Dec.{eqb}
use borrow.Author.Tests.{eqb-true}
use Rattle.laws_words.specs.Tests.{by_cases}
use Rattle.rules_base.specs.Chunk.{dirty}
use Rattle.status_row.proofs.DescriptorsLaws.{dirty-zero}
use Rattle.status_row.proofs.descriptors.flag.Goals as goal

pub returns : goal.returns
returns c =
    let d : ℕ = dirty c.args.row.now 0 c.args.c in
    let q = rw c.test.ensures at c.from.ensures in
    by_cases (eqb d 1)
    (λ e. let z : c.from.result ≡ 1 = rw e at q in z ∙ sym (eqb-true d 1 e))
    (λ e. let z : c.from.result ≡ 0 = rw e at q in z ∙ dirty-zero _ _ _ e)
