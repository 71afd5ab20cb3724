use mathlib.Core.Path.{◌≡◌}
use lib.ListN.{drop}
use Rattle.audit_replay.specs.Audit.{walked}
use Rattle.audit_list.proofs.auditor.audit.Given as goal

abbrev pub invariant-loop-r : goal.invariant-loop-r
invariant-loop-r l = walked l.w (drop l.r-index l.log) ≡ walked l.initial.w l.log
