-- The lab's own commands. What a definition does not name stays.
use Rattle.std.specs.Prelude.{ℕ, ◌%◌, Bool, false, replicate}
use Rattle.laws_words.specs.Words.{pick}
use Rattle.rules_base.specs.Limits.{map_bytes}
use Rattle.rules_base.specs.Parts.{part_bytes}
use Rattle.rules_pool.specs.declared.Past.{Past}
use Rattle.rules_pool.specs.declared.Roster.{Roster}
use Rattle.rules_pool.specs.declared.Session.{Session}
use Rattle.rules_pool.specs.declared.Job.{Job}
use Rattle.rules_pool.specs.declared.Message.{Message}
use Rattle.rules_pool.specs.Session.{is_nothing}
use Rattle.rules_client.specs.declared.Check.{Check}
use Rattle.client.specs.declared.Client.{Client}
use Rattle.client.specs.Client.{fresh}
use Rattle.rules_pool.specs.Sessions.{stored}
use Rattle.lab_form.specs.declared.Command.{Command}
use Rattle.event_ask.specs.declared.lending.Lent.{Lent}
use Rattle.lab_state.specs.Lent.{lent_by}
use Rattle.lab_state.specs.declared.Lab.{Lab}

-- ---- a fresh lab

-- all maps lent whole
abbrev pub wholly : Lent
wholly = record { own = map_bytes; maps = replicate 16 map_bytes; stagings = replicate 16 map_bytes }

unfoldable pub fresh_lab : Bool → ℕ → Lab
fresh_lab sync chunks =
    record { client = fresh sync chunks; lent = wholly; auto = false; cut = part_bytes; awaited = Message.Nothing; number = 0 }

-- ---- one thing changed

-- auto on or off
abbrev pub with_auto : Lab → Bool → Lab
with_auto l on = record { client = l.client; lent = l.lent; auto = on; cut = l.cut; awaited = l.awaited; number = l.number }

-- parts of n bytes
abbrev pub with_cut : Lab → ℕ → Lab
with_cut l n = record { client = l.client; lent = l.lent; auto = l.auto; cut = n; awaited = l.awaited; number = l.number }

abbrev pub with_client : Lab → Client → Lab
with_client l c = record { client = c; lent = l.lent; auto = l.auto; cut = l.cut; awaited = l.awaited; number = l.number }

abbrev pub with_lent : Lab → Lent → Lab
with_lent l lent = record { client = l.client; lent = lent; auto = l.auto; cut = l.cut; awaited = l.awaited; number = l.number }

abbrev pub awaiting : Lab → Message → ℕ → Lab
awaiting l m number = record { client = l.client; lent = l.lent; auto = l.auto; cut = l.cut; awaited = m; number = number }

-- ---- after an accepted client event

-- where none was sent: the one before while a job is in hand
abbrev pub still_awaiting : Lab → Job → Lab
still_awaiting l Job.Idle = awaiting l Message.Nothing 0
still_awaiting l (Job.Running r) = l
still_awaiting l (Job.Removing m) = l

-- the awaited message is the one sent
unfoldable pub after_event : Lab → Client → Message → ℕ → Lab
after_event l c m number = pick (is_nothing m) (still_awaiting (with_client l c) c.pool.job) (awaiting (with_client l c) m number)

-- ---- poke: a value put into the client's state, unchecked

abbrev pub roster_of : Lab → Roster
roster_of l = l.client.pool.roster

abbrev pub with_roster : Lab → Roster → Lab
with_roster l ro =
    with_client
    l
    (record {
      pool = record { roster = ro; job = l.client.pool.job; number = l.client.pool.number; chunks = l.client.pool.chunks };
      check = l.client.check;
    })

-- a roster with these numbers, its sessions as they were
abbrev pub numbers : Roster → ℕ → ℕ → ℕ → Roster
numbers ro count version members =
    record { sessions = ro.sessions; count = count; version = version; members = members; sync = ro.sync; past = ro.past }

abbrev pub poke_version : Lab → ℕ → Lab
poke_version l v = with_roster l (numbers (roster_of l) (roster_of l).count v (roster_of l).members)

abbrev pub poke_count : Lab → ℕ → Lab
poke_count l v = with_roster l (numbers (roster_of l) v (roster_of l).version (roster_of l).members)

abbrev pub poke_members : Lab → ℕ → Lab
poke_members l v = with_roster l (numbers (roster_of l) (roster_of l).count (roster_of l).version v)

-- another past
abbrev pub poke_past : Lab → Past → Lab
poke_past l past =
    with_roster
    l
    (record {
      sessions = (roster_of l).sessions;
      count = (roster_of l).count;
      version = (roster_of l).version;
      members = (roster_of l).members;
      sync = (roster_of l).sync;
      past = past;
    })

abbrev pub poke_written : Lab → Bool → Lab
poke_written l v = poke_past l (record { written = v; assembled = (roster_of l).past.assembled })

abbrev pub poke_assembled : Lab → Bool → Lab
poke_assembled l v = poke_past l (record { written = (roster_of l).past.written; assembled = v })

abbrev pub poke_chunks : Lab → ℕ → Lab
poke_chunks l v =
    with_client
    l
    (record {
      pool = record { roster = roster_of l; job = l.client.pool.job; number = l.client.pool.number; chunks = v };
      check = l.client.check;
    })

-- what map check knows: a tick modulo 2^32, two sets of ids
abbrev pub check_of : Lab → Check
check_of l = l.client.check

abbrev pub with_check : Lab → Check → Lab
with_check l k = with_client l (record { pool = l.client.pool; check = k })

abbrev pub poke_tick : Lab → ℕ → Lab
poke_tick l v = with_check l (record { tick = v % 4294967296; due = (check_of l).due; once = (check_of l).once })

abbrev pub poke_due : Lab → ℕ → Lab
poke_due l v = with_check l (record { tick = (check_of l).tick; due = v % 65536; once = (check_of l).once })

abbrev pub poke_once : Lab → ℕ → Lab
poke_once l v = with_check l (record { tick = (check_of l).tick; due = (check_of l).due; once = v % 65536 })

-- a session's record in its place; an id above 15 changes nothing
abbrev pub poke_session : Lab → ℕ → Session → Lab
poke_session l id s = with_roster l (stored (roster_of l) id s)

-- ---- a line that sets the lab up; the others leave it

abbrev pub arranged : Lab → Command → Lab
arranged l (Command.Pool sync chunks) = fresh_lab sync chunks
arranged l (Command.Auto on) = with_auto l on
arranged l (Command.Cut n) = with_cut l n
arranged l (Command.Lend w n) = with_lent l (lent_by l.lent w n)
arranged l (Command.PokeVersion v) = poke_version l v
arranged l (Command.PokeCount v) = poke_count l v
arranged l (Command.PokeChunks v) = poke_chunks l v
arranged l (Command.PokeMembers v) = poke_members l v
arranged l (Command.PokeSession id s) = poke_session l id s
arranged l (Command.PokeNode n state store create members version transfer) = l
arranged l (Command.PokeGot n got) = l
arranged l (Command.Summary n i v) = l
arranged l (Command.PokeWritten v) = poke_written l v
arranged l (Command.PokeAssembled v) = poke_assembled l v
arranged l (Command.PokeTick v) = poke_tick l v
arranged l (Command.PokeDue v) = poke_due l v
arranged l (Command.PokeOnce v) = poke_once l v
arranged l Command.Passed = l
arranged l Command.Unreadable = l
arranged l (Command.Client e) = l
arranged l (Command.Node n e) = l
arranged l (Command.Take n m) = l
arranged l Command.Deliver = l
arranged l (Command.Ask n q) = l
arranged l Command.DeliverCheck = l
arranged l (Command.Row w m) = l
arranged l Command.Look = l
arranged l (Command.LookNode n) = l
arranged l (Command.Byte w i v) = l
arranged l Command.Record = l
