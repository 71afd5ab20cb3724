use borrow.Author.Rules.{rules}
use Rattle.text_bytes.proofs.Laws.{dec-of}
use Rattle.text_bytes.proofs.page.Page.put_number.Goals as goal

pub returns-clause-value : goal.returns-clause-value
returns-clause-value c = let k = c.decimal-k in
    let n = c.args.n in
    let e = dec-of n k.result _ (search rules) k.ensures.len k.ensures.digits in
    rw (← e) c.put_bytes.ensures.value
