-- Worked removals, by computation: the messages, the effects on the client map, and what halts and starts over.
use Rattle.std.specs.Prelude.{None}
use mathlib.Core.Path.{◌≡◌, refl}
use mathlib.Core.Bool.{true, false}
use mathlib.Core.List.{◌∷◌}
use Prim.Native.Nat.{ℕ}
use lib.ListN.{replicate}
use Rattle.rules_pool.specs.declared.Mode.{Mode}
use Rattle.rules_pool.specs.declared.Cause.{Cause}
use Rattle.rules_pool.specs.declared.State.{State}
use Rattle.rules_pool.specs.declared.Stage.{Stage}
use Rattle.rules_pool.specs.declared.Job.{Job}
use Rattle.rules_pool.specs.declared.Pool.{Pool}
use Rattle.rules_base.specs.declared.Op.{Op}
use Rattle.rules_pool.specs.declared.Message.{Message}
use Rattle.rules_pool.specs.declared.Told.{Told}
use Rattle.rules_pool.specs.declared.Outcome.{Outcome}
use Rattle.rules_pool.specs.declared.Reply.{Reply}
use Rattle.rules_pool.specs.declared.Answer.{Answer}
use Rattle.rules_pool.specs.declared.Effect.{Effect}
use Rattle.rules_pool.specs.declared.Turn.{Turn}
use Rattle.rules_pool.specs.Past.{no_past}
use Rattle.rules_pool.specs.Session.{new_session}
use Rattle.laws_words.specs.Words.{bit}
use Rattle.rules_base.specs.Sets.{has, with, without, size, lowest}
use Rattle.rules_pool.specs.declared.Kind.{Kind}
use Rattle.rules_pool.specs.Sessions.{ids_of}
use Rattle.rules_pool.specs.Changes.{left, went, removing}
use Rattle.rules_pool.specs.Recovery.{posted}
use Rattle.rules_pool.specs.StateRules.{roster_ok, valid_pool}
use Rattle.rules_client.specs.declared.Gone.{Gone}
use Rattle.rules_client.specs.Removal.{due, freed_from, onward, departed, started, removal_answered}
use Rattle.rules_client.specs.Remove.{remove_refusal, remove}

-- sessions 0 to 2: NORMAL, NORMAL, FAILED; or sync and NORMAL alone
abbrev three : Pool
three =
    record {
      roster =
          record {
            sessions = new_session State.Normal ∷ new_session State.Normal ∷ new_session (State.Failed Cause.Link) ∷ replicate 13 (new_session State.Free);
            count = 2;
            version = 1;
            members = 7;
            sync = false;
            past = no_past;
          };
      job = Job.Idle;
      number = 4294967295;
      chunks = 4096;
    }

abbrev lone : Pool
lone =
    record {
      roster =
          record {
            sessions = new_session (State.Failed Cause.Link) ∷ replicate 15 (new_session State.Free);
            count = 0;
            version = 1;
            members = 1;
            sync = false;
            past = no_past;
          };
      job = Job.Idle;
      number = 0;
      chunks = 4096;
    }

abbrev synced : Pool
synced =
    record {
      roster =
          record {
            sessions = new_session (State.Failed Cause.Link) ∷ replicate 15 (new_session State.Free);
            count = 0;
            version = 1;
            members = 0;
            sync = true;
            past = no_past;
          };
      job = Job.Idle;
      number = 0;
      chunks = 4096;
    }

abbrev fine : Reply
fine = Reply.Good None

-- delete of 1: LEAVE to it, then POOL_INFO to 0; 2 is FAILED
abbrev leaving : Turn
leaving = remove three true 1 Mode.Delete

abbrev telling : Gone
telling = removal_answered (record { id = 1; stage = Stage.Leave }) leaving.pool fine

abbrev over : Gone
over = removal_answered (record { id = 1; stage = Stage.Info 0 }) telling.posted.pool fine

-- its POOL_INFO failed: halted, and a repeat tells 0 again, without LEAVE
abbrev again : Turn
again = remove (removal_answered (record { id = 1; stage = Stage.Info 0 }) telling.posted.pool Reply.Failed).posted.pool true 1 Mode.Delete

abbrev done : Message → ℕ → Answer
done m n = Answer.Done (record { outcome = Outcome.Plain; told = Told.Nothing; awaited = m; number = n })

-- The message numbers go 2^32 - 1, 0, 1.
deletes :
    (leaving.answer ≡ done (Message.Leave 1 Mode.Delete) 0)
    × (leaving.effect ≡ Effect.Keep)
    × (leaving.pool.roster.count ≡ 1)
    × (telling.posted.awaited ≡ Message.Info 0 Op.RemoveDelete 1)
    × (telling.effect ≡ Effect.ZeroRow 1)
    × (telling.posted.pool.roster.members ≡ 5)
    × (over.posted.awaited ≡ Message.Nothing)
    × (over.effect ≡ Effect.Keep)
    × (ids_of Kind.Present over.posted.pool.roster ≡ 5)
    × (again.answer ≡ done (Message.Info 0 Op.RemoveDelete 1) 2)
    × (again.effect ≡ Effect.ZeroRow 1)
unfolding bit has with without size lowest ids_of left went removing posted roster_ok valid_pool due freed_from onward departed started remove_refusal remove
deletes = (refl, refl, refl, refl, refl, refl, refl, refl, refl, refl, refl)

-- the last session, FAILED: freed at once, and the client map is zeroed; a sync pool has none
at_once :
    ((remove lone true 0 Mode.Disassemble).answer ≡ done Message.Nothing 0)
    × ((remove lone true 0 Mode.Disassemble).effect ≡ Effect.ZeroAll)
    × ((remove lone true 0 Mode.Disassemble).pool.roster.members ≡ 1)
    × (ids_of Kind.Present (remove lone true 0 Mode.Disassemble).pool.roster ≡ 0)
    × ((remove synced true 0 Mode.Delete).effect ≡ Effect.Keep)
    × ((remove leaving.pool true 1 Mode.Delete).answer ≡ Answer.Refused 6)
    × ((remove three true 3 Mode.Delete).answer ≡ Answer.Refused 7)
    × ((remove three false 16 Mode.Delete).answer ≡ Answer.Refused 2)
unfolding bit has with without size lowest ids_of left went removing posted roster_ok valid_pool due freed_from onward departed started remove_refusal remove
at_once = (refl, refl, refl, refl, refl, refl, refl, refl)
