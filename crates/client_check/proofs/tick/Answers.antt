use Rattle.laws_words.specs.Gather.{gather-lt}
use Rattle.laws_words.specs.Loops.{unmapped}
use Rattle.rules_pool.specs.declared.Roster.{Roster}
use Rattle.rules_pool.specs.declared.Kind.{Kind}
use Rattle.rules_pool.specs.Sessions.{is_kind, ids_of}
use Rattle.std.proofs.Common.{◌≡◌, ◌<◌, length, rules}
use Rattle.client_check.proofs.tick.Goals as goal

ids-lt : (k : Kind) (ro : Roster) → length ro.sessions ≡ 16 → ids_of k ro < 65536
unfolding ids_of
ids-lt k ro l =
    let b = gather-lt (is_kind k ro.sync ro.members) ro.sessions in
    rw l at b

pub overflow_cast-asked : goal.overflow_cast-asked
overflow_cast-asked c = search (rules, ids-lt, unmapped)
