use Rattle.rules_base.proofs.Sets.{with-lt, without-lt}
use Rattle.std.proofs.Common.{rules}
use Rattle.client_check.proofs.answered.Goals as goal

pub overflow_cast-due : goal.overflow_cast-due
overflow_cast-due c = search (rules, without-lt)

pub overflow_cast-result : goal.overflow_cast-result
overflow_cast-result c = search (rules, with-lt)

pub overflow_cast-result-2 : goal.overflow_cast-result-2
overflow_cast-result-2 c = search (rules, without-lt)
