-- Laws of states.
use mathlib.Core.Path.{◌≡◌, refl}
use mathlib.Core.Bool.{Bool, true, false, not, ◌&&◌, ◌||◌}
use Rattle.laws_words.specs.Words.{pick}
use Rattle.laws_words.specs.Tests.{clash}
use Rattle.rules_pool.specs.declared.Mode.{Mode}
use Rattle.rules_pool.specs.declared.State.{State}
use Rattle.rules_pool.specs.Session.{is_free, is_created, is_normal, is_failed, is_reconnecting, is_removing, is_delete, is_deleting, is_told}
use Rattle.rules_pool.specs.Changes.{owes}
use Rattle.rules_client.specs.Removal.{mode_of}
use Rattle.theorem_client.specs.Said.{not_owed}

pub and-true : (b : Bool) → (b && true) ≡ b
and-true true = refl
and-true false = refl

pub free-is : (st : State) → is_free st ≡ true → st ≡ State.Free
free-is State.Free e = refl
free-is State.Created e = clash e refl
free-is State.Normal e = clash e refl
free-is (State.Failed cause) e = clash e refl
free-is State.Reconnecting e = clash e refl
free-is (State.Removing m owed) e = clash e refl

pub created-is : (st : State) → is_created st ≡ true → st ≡ State.Created
created-is State.Free e = clash e refl
created-is State.Created e = refl
created-is State.Normal e = clash e refl
created-is (State.Failed cause) e = clash e refl
created-is State.Reconnecting e = clash e refl
created-is (State.Removing m owed) e = clash e refl

pub normal-is : (st : State) → is_normal st ≡ true → st ≡ State.Normal
normal-is State.Free e = clash e refl
normal-is State.Created e = clash e refl
normal-is State.Normal e = refl
normal-is (State.Failed cause) e = clash e refl
normal-is State.Reconnecting e = clash e refl
normal-is (State.Removing m owed) e = clash e refl

pub reconnecting-is : (st : State) → is_reconnecting st ≡ true → st ≡ State.Reconnecting
reconnecting-is State.Free e = clash e refl
reconnecting-is State.Created e = clash e refl
reconnecting-is State.Normal e = clash e refl
reconnecting-is (State.Failed cause) e = clash e refl
reconnecting-is State.Reconnecting e = refl
reconnecting-is (State.Removing m owed) e = clash e refl

pub created-not : (st : State) → is_created st ≡ true → is_normal st ≡ false
created-not State.Free e = refl
created-not State.Created e = refl
created-not State.Normal e = clash e refl
created-not (State.Failed cause) e = refl
created-not State.Reconnecting e = refl
created-not (State.Removing m owed) e = refl

pub reconnecting-not : (st : State) → is_reconnecting st ≡ true → is_normal st ≡ false
reconnecting-not State.Free e = refl
reconnecting-not State.Created e = refl
reconnecting-not State.Normal e = clash e refl
reconnecting-not (State.Failed cause) e = refl
reconnecting-not State.Reconnecting e = refl
reconnecting-not (State.Removing m owed) e = refl

pub normal-not-failed : (st : State) → (is_normal st && is_failed st) ≡ false
normal-not-failed State.Free = refl
normal-not-failed State.Created = refl
normal-not-failed State.Normal = refl
normal-not-failed (State.Failed cause) = refl
normal-not-failed State.Reconnecting = refl
normal-not-failed (State.Removing m owed) = refl

pub normal-lives : (st : State) → is_normal st ≡ true → is_removing st ≡ false
normal-lives State.Free e = refl
normal-lives State.Created e = refl
normal-lives State.Normal e = refl
normal-lives (State.Failed cause) e = refl
normal-lives State.Reconnecting e = refl
normal-lives (State.Removing m owed) e = clash e refl

pub removing-not-failed : (st : State) → is_removing st ≡ true → is_failed st ≡ false
removing-not-failed State.Free e = refl
removing-not-failed State.Created e = refl
removing-not-failed State.Normal e = refl
removing-not-failed (State.Failed cause) e = clash e refl
removing-not-failed State.Reconnecting e = refl
removing-not-failed (State.Removing m owed) e = refl

pub removing-lives : (st : State) → is_removing st ≡ true → is_free st ≡ false
removing-lives State.Free z = clash z refl
removing-lives State.Created z = refl
removing-lives State.Normal z = refl
removing-lives (State.Failed cause) z = refl
removing-lives State.Reconnecting z = refl
removing-lives (State.Removing mode owed) z = refl

pub not-told : (st : State) → is_removing st ≡ true → is_told st ≡ false
not-told State.Free e = refl
not-told State.Created e = clash e refl
not-told State.Normal e = clash e refl
not-told (State.Failed cause) e = refl
not-told State.Reconnecting e = clash e refl
not-told (State.Removing m owed) e = refl

pub unborne : (st : State) → is_removing st ≡ true → (is_failed st || is_reconnecting st) ≡ false
unborne State.Free e = refl
unborne State.Created e = refl
unborne State.Normal e = refl
unborne (State.Failed cause) e = clash e refl
unborne State.Reconnecting e = clash e refl
unborne (State.Removing m owed) e = refl

pub owes_is : (st : State) → owes st ≡ not (not_owed st)
owes_is State.Free = refl
owes_is State.Created = refl
owes_is State.Normal = refl
owes_is (State.Failed cause) = refl
owes_is State.Reconnecting = refl
owes_is (State.Removing mode true) = refl
owes_is (State.Removing mode false) = refl

-- the mode of a removal stays with its session
pub mode-same : (st : State) → is_delete (mode_of st) ≡ is_deleting st
mode-same st = at (is_deleting st)
  where
    at : (b : Bool) → is_delete (pick b Mode.Delete Mode.Disassemble) ≡ b
    at true = refl
    at false = refl
