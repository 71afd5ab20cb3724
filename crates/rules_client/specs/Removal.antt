-- A removal's way: LEAVE_POOL, the member's entry and row taken out, POOL_INFO to each peer in turn, the session freed.
use Rattle.std.specs.Prelude.{false, ◌&&◌, not, ℕ, eqb, ltb}
use Rattle.laws_words.specs.Words.{pick}
use Rattle.rules_base.specs.Sets.{lowest}
use Rattle.rules_pool.specs.declared.Mode.{Mode}
use Rattle.rules_pool.specs.declared.State.{State}
use Rattle.rules_pool.specs.declared.Roster.{Roster}
use Rattle.rules_pool.specs.declared.Stage.{Stage}
use Rattle.rules_pool.specs.declared.Removal.{Removal}
use Rattle.rules_pool.specs.declared.Job.{Job}
use Rattle.rules_pool.specs.declared.Pool.{Pool}
use Rattle.rules_base.specs.declared.Op.{Op}
use Rattle.rules_pool.specs.declared.Message.{Message}
use Rattle.rules_pool.specs.declared.Reply.{Reply}
use Rattle.rules_pool.specs.declared.Effect.{Effect}
use Rattle.rules_pool.specs.Session.{is_deleting, is_owed}
use Rattle.rules_pool.specs.declared.Kind.{Kind}
use Rattle.rules_pool.specs.Sessions.{session_at, ids_of}
use Rattle.rules_pool.specs.Changes.{went, freed, member_dropped}
use Rattle.rules_pool.specs.declared.Posted.{Posted}
use Rattle.rules_pool.specs.Recovery.{with_roster, posted, quiet, removal_ended}
use Rattle.rules_client.specs.declared.Gone.{Gone}

-- a removal in the pool's hand: the session's state says its mode
abbrev pub state_of : Pool → ℕ → State
state_of p id = (session_at p.roster id).state

abbrev pub mode_of : State → Mode
mode_of st = pick (is_deleting st) Mode.Delete Mode.Disassemble

-- what POOL_INFO says of the member
abbrev pub op_of : State → Op
op_of st = pick (is_deleting st) Op.RemoveDelete Op.RemoveDisassemble

-- POOL_INFO goes to the lowest peer above the last one told that is then not FAILED or REMOVING; 16 where none is due. A sync pool sends none.
abbrev pub tellable : Stage → Roster → ℕ
tellable Stage.Leave ro = ids_of Kind.Told ro
tellable (Stage.Info peer) ro = ids_of (Kind.Later peer) ro

unfoldable pub due : Stage → Roster → ℕ
due st ro = pick ro.sync 16 (lowest (tellable st ro))

-- the awaited message of the removal of id
abbrev pub asked : Pool → ℕ → Stage → Message → Posted
asked p id st m = posted p (Job.Removing (record { id = id; stage = st })) m

-- The session is freed; if none is left the client map is zeroed. A sync pool has no map.
unfoldable pub freed_from : Pool → ℕ → Effect → Gone
freed_from p id effect =
    record {
      posted = quiet (removal_ended (with_roster p (freed p.roster id)));
      effect = pick (eqb (ids_of Kind.Present (freed p.roster id)) 0 && not p.roster.sync) Effect.ZeroAll effect;
    }

-- After LEAVE_POOL or a POOL_INFO: the next peer is told, after the last the session is freed.
unfoldable pub onward : Pool → ℕ → Stage → Effect → Gone
onward p id st effect =
    pick (ltb (due st p.roster) 16)
    (record { posted = asked p id (Stage.Info (due st p.roster)) (Message.Info (due st p.roster) (op_of (state_of p id)) id); effect = effect })
    (freed_from p id effect)

-- LEAVE is done or not owed: delete takes out member entry and client row. A sync pool has neither.
unfoldable pub departed : Pool → ℕ → Gone
departed p id =
    pick (is_deleting (state_of p id) && not p.roster.sync)
    (onward (with_roster p (member_dropped p.roster id)) id Stage.Leave (Effect.ZeroRow id))
    (onward p id Stage.Leave Effect.Keep)

-- The removal of a REMOVING session starts, or starts over: LEAVE_POOL only if it is owed.
unfoldable pub started : Pool → ℕ → Gone
started p id =
    pick (is_owed (state_of p id))
    (record { posted = asked p id Stage.Leave (Message.Leave id (mode_of (state_of p id))); effect = Effect.Keep })
    (departed p id)

-- LEAVE_POOL is done: no longer owed
abbrev pub paid : Pool → ℕ → Pool
paid p id = with_roster p (went p.roster id (State.Removing (mode_of (state_of p id)) false))

-- a failed answer halts the removal
abbrev pub halted : Pool → Gone
halted p = record { posted = quiet (removal_ended p); effect = Effect.Keep }

abbrev pub well_answered : Stage → Pool → ℕ → Gone
well_answered Stage.Leave p id = departed (paid p id) id
well_answered (Stage.Info peer) p id = onward p id (Stage.Info peer) Effect.Keep

-- What an answer to the awaited message of a removal does.
abbrev pub removal_answered : Removal → Pool → Reply → Gone
removal_answered m p Reply.Failed = halted p
removal_answered m p (Reply.Good b) = well_answered m.stage p m.id
