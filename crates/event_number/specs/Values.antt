-- What numbers of a line, of a log record and of a call from C stand for.
use Rattle.std.specs.Prelude.{ℕ, Bool, ◌&&◌, ◌||◌, not, ltb, eqb, Some, None}
use Rattle.laws_words.specs.Words.{pick}
use Rattle.rules_pool.specs.declared.Mode.{Mode}
use Rattle.rules_pool.specs.declared.Reply.{Reply}
use Rattle.rules_base.specs.declared.Op.{Op}
use Rattle.rules_pool.specs.declared.Cause.{Cause}
use Rattle.rules_pool.specs.declared.State.{State}
use Rattle.rules_pool.specs.declared.Session.{Session}

-- 0 delete, 1 disassemble
abbrev pub mode_of : ℕ → Mode
mode_of x = pick (eqb x 0) Mode.Delete Mode.Disassemble

-- 0 failed, 1 success without a version, 2 success with one
abbrev pub reply_of : ℕ → ℕ → Reply
reply_of kind version = pick (eqb kind 0) Reply.Failed (pick (eqb kind 1) (Reply.Good None) (Reply.Good (Some version)))

-- 0 add-create, 1 add-assemble, 2 remove-delete, 3 remove-disassemble
abbrev pub op_of : ℕ → Op
op_of x = pick (eqb x 0) Op.AddCreate (pick (eqb x 1) Op.AddAssemble (pick (eqb x 2) Op.RemoveDelete Op.RemoveDisassemble))

-- 0 none, 1 CREATED, 2 NORMAL, 3 FAILED with cause link, 4 RECONNECTING, 5 REMOVING, 6 FAILED with cause IO
abbrev pub state_of : ℕ → Mode → Bool → State
state_of x mode owed =
    pick (eqb x 0) State.Free
    (pick (eqb x 1) State.Created
    (pick (eqb x 2) State.Normal
    (pick (eqb x 3) (State.Failed Cause.Link)
    (pick (eqb x 4) State.Reconnecting
    (pick (eqb x 6) (State.Failed Cause.Io)
    (State.Removing mode owed))))))

abbrev pub session_of : ℕ → ℕ → ℕ → ℕ → ℕ → Session
session_of x maint mark mode owed = record { state = state_of x (mode_of mode) (eqb owed 1); maintenance = eqb maint 1; mark = eqb mark 1 }

-- All in range; of a session that is not REMOVING, mode and owed are 0; of none, all four.
abbrev pub maybe_session : ℕ → ℕ → ℕ → ℕ → ℕ → Bool
maybe_session x maint mark mode owed =
    (ltb x 7 && (ltb maint 2 && (ltb mark 2 && (ltb mode 2 && ltb owed 2))))
    && ((eqb x 5 || (eqb mode 0 && eqb owed 0)) && (not (eqb x 0) || (eqb maint 0 && eqb mark 0)))

-- The number of what a POOL_INFO says.
abbrev pub op_number : Op → ℕ
op_number Op.AddCreate = 0
op_number Op.AddAssemble = 1
op_number Op.RemoveDelete = 2
op_number Op.RemoveDisassemble = 3

abbrev pub mode_number : Mode → ℕ
mode_number Mode.Delete = 0
mode_number Mode.Disassemble = 1
