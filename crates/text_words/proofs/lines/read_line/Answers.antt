use borrow.Author.Rules.{rules}
use Rattle.text_words.proofs.Laws.{cuts-start, cuts-more, cuts-cut, cuts-done}
use Rattle.text_words.proofs.lines.read_line.Goals as goal
use Rattle.text_words.proofs.lines.read_line.Goals.{then-s-i-eq32, else-s-i-eq32}

pub loop-i-init : goal.loop-i-init
loop-i-init c = cuts-start _ _ c.empty-l.ensures

pub loop-i-preserved : goal.loop-i-preserved
loop-i-preserved c = let v = c.loop-i.invariant in
    elim c.if-s-i-eq32.branch [
      | then-s-i-eq32 w ↦ rw (w.l-is, w.a-is) (cuts-cut _ v (search rules) w.if-s-i-eq32.true w.token_of.ensures w.push-l.ensures)
      | else-s-i-eq32 w ↦ rw (w.l-is, w.a-is) (cuts-more v (search rules) w.if-s-i-eq32.false)
    ]

pub returns : goal.returns
returns c = cuts-done _ c.loop-i.invariant (search rules) c.token_of-2.ensures c.push.ensures
