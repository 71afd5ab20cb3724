-- Tests on a session, seen from both sides.
use mathlib.Core.Path.{◌≡◌, refl, sym, ap, ◌∙◌}
use mathlib.Core.Bool.{true, false, not}
use Prim.Native.Nat.{ℕ, ◌≤◌}
use native.Mathlib.Decide.{dec_lt}
use native.Mathlib.Omega.{arith}
use lib.ListN.{length, get_or-eq_default}
use Rattle.laws_words.specs.Tests.{clash, and_left}
use Rattle.rules_base.specs.Sets.{has}
use Rattle.rules_base.proofs.Sets.{has-below}
use Rattle.rules_pool.specs.declared.Mode.{Mode}
use Rattle.rules_pool.specs.declared.State.{State}
use Rattle.rules_pool.specs.declared.Session.{Session}
use Rattle.rules_pool.specs.declared.Roster.{Roster}
use Rattle.rules_pool.specs.Session.{is_free, is_normal, is_reconnecting, is_deleting, candidate, free}
use Rattle.rules_pool.specs.declared.Kind.{Kind}
use Rattle.rules_pool.specs.Sessions.{session_at, ids_of}
use Rattle.laws_client.proofs.Ids.{Long, kind_at, ids-has, ids-none}
use Rattle.laws_client.proofs.Links.{is_live}
use Rattle.model_pool.specs.Model as m
use Rattle.model_pool.specs.Mirror.{ses_of, Sees}

pub up-normal : (st : State) → m.up (ses_of st) ≡ is_normal st
up-normal State.Free = refl
up-normal State.Created = refl
up-normal State.Normal = refl
up-normal (State.Failed cause) = refl
up-normal State.Reconnecting = refl
up-normal (State.Removing Mode.Delete owed) = refl
up-normal (State.Removing Mode.Disassemble owed) = refl

pub active-live : (st : State) → m.active (ses_of st) ≡ is_live st
active-live State.Free = refl
active-live State.Created = refl
active-live State.Normal = refl
active-live (State.Failed cause) = refl
active-live State.Reconnecting = refl
active-live (State.Removing Mode.Delete owed) = refl
active-live (State.Removing Mode.Disassemble owed) = refl

pub there-not : (st : State) → m.there (ses_of st) ≡ not (is_free st)
there-not State.Free = refl
there-not State.Created = refl
there-not State.Normal = refl
there-not (State.Failed cause) = refl
there-not State.Reconnecting = refl
there-not (State.Removing Mode.Delete owed) = refl
there-not (State.Removing Mode.Disassemble owed) = refl

pub dying-deleting : (st : State) → m.dying (ses_of st) ≡ is_deleting st
dying-deleting State.Free = refl
dying-deleting State.Created = refl
dying-deleting State.Normal = refl
dying-deleting (State.Failed cause) = refl
dying-deleting State.Reconnecting = refl
dying-deleting (State.Removing Mode.Delete owed) = refl
dying-deleting (State.Removing Mode.Disassemble owed) = refl

pub dying-is : (st : State) → is_deleting st ≡ true → ses_of st ≡ m.Session.Dying
dying-is State.Free e = clash e refl
dying-is State.Created e = clash e refl
dying-is State.Normal e = clash e refl
dying-is (State.Failed cause) e = clash e refl
dying-is State.Reconnecting e = clash e refl
dying-is (State.Removing Mode.Delete owed) e = refl
dying-is (State.Removing Mode.Disassemble owed) e = clash e refl

pub again : (st : State) → is_reconnecting st ≡ true → ses_of st ≡ m.Session.Again
again State.Free e = clash e refl
again State.Created e = clash e refl
again State.Normal e = clash e refl
again (State.Failed cause) e = clash e refl
again State.Reconnecting e = refl
again (State.Removing x owed) e = clash e refl

pub gone : (st : State) → is_free st ≡ true → ses_of st ≡ m.Session.Gone
gone State.Free e = refl
gone State.Created e = clash e refl
gone State.Normal e = clash e refl
gone (State.Failed cause) e = clash e refl
gone State.Reconnecting e = clash e refl
gone (State.Removing x owed) e = clash e refl

-- past the end there is no session
pub past : (ro : Roster) → Long ro → (j : ℕ) → 16 ≤ j → session_at ro j ≡ free
past ro l j h = get_or-eq_default ro.sessions free (let z : length ro.sessions ≤ j = omega (arith, l) in z)

module _ (ro : Roster) (v : m.View) (e : Sees ro v) where
  pub ups : (j : ℕ) → m.up (v.ses j) ≡ is_normal (session_at ro j).state
  ups j = ap m.up (sym (e.ses j)) ∙ up-normal (session_at ro j).state

  pub actives : (j : ℕ) → m.active (v.ses j) ≡ is_live (session_at ro j).state
  actives j = ap m.active (sym (e.ses j)) ∙ active-live (session_at ro j).state

  pub theres : (j : ℕ) → m.there (v.ses j) ≡ not (is_free (session_at ro j).state)
  theres j = ap m.there (sym (e.ses j)) ∙ there-not (session_at ro j).state

  pub dyings : (j : ℕ) → m.dying (v.ses j) ≡ is_deleting (session_at ro j).state
  dyings j = ap m.dying (sym (e.ses j)) ∙ dying-deleting (session_at ro j).state

  pub is-gone : (j : ℕ) → is_free (session_at ro j).state ≡ true → v.ses j ≡ m.Session.Gone
  is-gone j h = sym (e.ses j) ∙ gone (session_at ro j).state h

  pub is-again : (j : ℕ) → candidate (session_at ro j) ≡ true → v.ses j ≡ m.Session.Again
  is-again j h = sym (e.ses j) ∙ again (session_at ro j).state (and_left (is_reconnecting (session_at ro j).state) _ h)

  -- who is of a kind, by the set that is read off the records
  pub of-kind : (k : Kind) → Long ro → (j : ℕ) → has (ids_of k ro) j ≡ true → kind_at k ro j (session_at ro j) ≡ true
  of-kind k l j h = sym (ids-has k ro l j (has-below (ids_of k ro) j h)) ∙ h

  pub none-up : Long ro → ids_of Kind.Normals ro ≡ 0 → (j : ℕ) → m.up (v.ses j) ≡ false
  none-up l h j = ups j ∙ elim (dec_lt j 16) [
    | yes b ↦ ids-none Kind.Normals ro l h j b
    | no b ↦ ap (λ (x : Session). is_normal x.state) (past ro l j (omega arith))
  ]
