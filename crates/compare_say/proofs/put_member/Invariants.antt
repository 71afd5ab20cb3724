use Rattle.std.proofs.Common.{◌-◌, ◌≡◌}
use Rattle.text_bytes.specs.Ink.{emits}
use Rattle.text_bytes.specs.Pages.{page_ink, lender}
use Rattle.compare_say.specs.Said.{member_text}
use Rattle.compare_say.proofs.Lines.{Lined}
use Rattle.compare_say.proofs.put_member.Given as goal

abbrev pub invariant-loop-c : goal.invariant-loop-c
invariant-loop-c l = (lender l.page ≡ lender l.fn.page) × Lined l.first l.second l.member (emits (page_ink l.fn.page) (member_text l.first l.second l.member)) (page_ink l.page) l.c

abbrev pub decreases-loop-c : goal.decreases-loop-c
decreases-loop-c l = 4096 - l.c
