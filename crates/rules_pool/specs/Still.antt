-- The answers still possible in a run: the awaited answers to its end if every further one is good, the awaited one with them.
use Rattle.std.specs.Prelude.{ℕ, ◌+◌, ◌*◌, ◌-◌}
use Rattle.rules_base.specs.Sets.{size}
use Rattle.rules_pool.specs.declared.Step.{Step}
use Rattle.rules_pool.specs.declared.Phase.{Phase}
use Rattle.rules_pool.specs.declared.Run.{Run}

-- the answers of the spread in hand that are taken already
abbrev pub steps_done : Step → ℕ
steps_done Step.Ready = 0
steps_done Step.Send = 1
steps_done Step.Done = 2

-- l are left in the phase, k are members, o are the members but one: MAP_GET_VER, the spread without enable, LAST_IO_TO_MAP, the gather, ENABLE_POOL, the enabling spread
abbrev pub possible_at : Phase → ℕ → ℕ → ℕ → ℕ
possible_at (Phase.Versions best) l k o = l + 3 * o + k + 3 * o + 1 + 3 * o
possible_at (Phase.Base s) l k o = 3 * l - steps_done s + k + 3 * o + 1 + 3 * o
possible_at Phase.LastIo l k o = l + 3 * o + 1 + 3 * o
possible_at (Phase.Gather s) l k o = 3 * l - steps_done s + 1 + 3 * o
possible_at (Phase.Enable every) l k o = 1 + 3 * l
possible_at (Phase.Spread s) l k o = 3 * l - steps_done s

unfoldable pub possible : ℕ → Run → ℕ
possible members r = possible_at r.phase (size r.left) (size members) (size members - 1)
