-- What halts a removal besides a failed answer: proofs.
use mathlib.Core.Path.{◌≡◌, refl, sym, ap, ◌∙◌, subst}
use mathlib.Core.Bool.{Bool, true, false, not, ◌&&◌}
use Prim.Native.Nat.{ℕ}
use native.Mathlib.Decide.{ℕ_discrete}
use lib.Dec.{eqb}
use borrow.Author.Tests.{eq-eqb, ne_eqb}
use Rattle.laws_words.specs.Words.{pick}
use Rattle.laws_words.specs.Tests.{by_cases, either}
use Rattle.rules_base.specs.Sets.{has}
use Rattle.rules_pool.specs.declared.State.{State}
use Rattle.rules_pool.specs.declared.Stage.{Stage}
use Rattle.rules_pool.specs.declared.Removal.{Removal}
use Rattle.rules_pool.specs.declared.Job.{Job}
use Rattle.rules_pool.specs.declared.Roster.{Roster}
use Rattle.rules_pool.specs.declared.Pool.{Pool}
use Rattle.rules_pool.specs.declared.Message.{Message}
use Rattle.rules_pool.specs.declared.Sent.{Sent}
use Rattle.rules_pool.specs.declared.Turn.{Turn}
use Rattle.rules_pool.specs.Session.{is_normal, is_removing}
use Rattle.rules_pool.specs.Sessions.{session_at}
use Rattle.rules_pool.specs.Jobs.{peer_at, is_peer}
use Rattle.rules_pool.specs.Recovery.{with_roster}
use Rattle.rules_pool.specs.Exit.{halted_if}
use Rattle.rules_pool.specs.StateRules.{job_ok}
use Rattle.rules_pool.specs.Breaking.{is_accepted}
use Rattle.rules_client.specs.Links.{dropped, down_refusal, down_at, down_done, link_down}
use Rattle.rules_client.specs.Writes.{loses, marks, write_refusal, write_done, write_ended}
use Rattle.rules_client.specs.Client.{write_turn}
use Rattle.rules_client.specs.Events.{Event, turn_of, next, record_of, state_of}
use Rattle.laws_client.proofs.Pools.{removal-facts, RemovalOk}
use Rattle.laws_client.proofs.LinksKept.{dropped-at, dropped-other}
use Rattle.laws_client.proofs.WritesKept.{wrote_in, write-roster, missed-does, marks-pool}
use Rattle.theorem_client.specs.Said.{misses_peer}
use Rattle.theorem_client.proofs.States.{normal-is}
use Rattle.theorem_client.proofs.Written.{write-said}
use Rattle.theorem_runs.specs.Words.{InOrder, Normal}
use Rattle.theorem_runs.specs.Removals.{PeerAt, PeerDown, PeerMissed}
use Rattle.theorem_runs.proofs.Words.{order-valid, done-is, hands_of}

pub peer-is : (st : Stage) (id x : ℕ) → PeerAt st id x → peer_at st id ≡ x
peer-is Stage.Leave id x e = sym e
peer-is (Stage.Info peer) id x e = sym e

removal-of : (c : Pool) (m : Removal) → InOrder c → c.job ≡ Job.Removing m → RemovalOk c.roster m
removal-of c m o e = let v = order-valid c o in removal-facts c.roster m v.ok.long (subst (λ (j : Job). job_ok j c.roster ≡ true) e v.job)

halted-job : (b : Bool) (p : Pool) → (halted_if b p).job ≡ pick b Job.Idle p.job
halted-job true p = refl
halted-job false p = refl

halted-same : (b : Bool) (p : Pool) → ((halted_if b p).roster ≡ p.roster) × ((halted_if b p).number ≡ p.number)
halted-same true p = (refl, refl)
halted-same false p = (refl, refl)

-- the session that is removed stays as it was
stays-removing : (c : Pool) (m : Removal) (id : ℕ) → InOrder c → c.job ≡ Job.Removing m → session_at (dropped c.roster id) m.id ≡ record_of c m.id
stays-removing c m id o e = elim (ℕ_discrete m.id id) [
  | yes z ↦ subst (λ (k : ℕ). session_at (dropped c.roster k) m.id ≡ record_of c m.id) z (dropped-at c.roster m.id o.sixteen r.below ∙ rw r.removing refl)
  | no d ↦ dropped-other c.roster id m.id d
]
  where
    r : RemovalOk c.roster m
    r = removal-of c m o e

-- a peer that a write did not miss
spared : (c : Pool) (reached x : ℕ) → (Normal c x × (has reached x ≡ false) → ⊥) → pick (is_normal (state_of c x) && not (has reached x)) Job.Idle c.job ≡ c.job
spared c reached x n =
    by_cases (is_normal (state_of c x))
    (λ a. by_cases (has reached x) (λ b. rw (a, b) refl) (λ b. absurd (n (normal-is (state_of c x) a, b))))
    (λ a. rw a refl)

pub peer-down : PeerDown
unfolding link_down down_refusal down_done
peer-down c id s m o e h =
    let d = done-is (Event.link_down id) c (down_done c id) s refl h in
    let t : turn_of (Event.link_down id) c ≡ down_at (Job.Removing m) c id = d.1 ∙ ap (λ (j : Job). down_at j c id) e in
    let b = is_peer (Job.Removing m) id in
    let p = with_roster c (dropped c.roster id) in
    let job : (next (Event.link_down id) c).job ≡ pick b Job.Idle c.job = ap (λ (u : Turn). u.pool.job) t ∙ halted-job b p in
    record {
      halts = λ x k l. job ∙ rw (eq-eqb (peer_at m.stage m.id) id (peer-is m.stage m.id x k ∙ l)) refl;
      stays = λ x k l. job ∙ rw (ne_eqb (peer_at m.stage m.id) id (λ z. l (sym (peer-is m.stage m.id x k) ∙ z))) refl;
      own = ap (λ (u : Turn). session_at u.pool.roster m.id) t ∙ (ap (λ (ro : Roster). session_at ro m.id) (halted-same b p).0 ∙ stays-removing c m id o e);
      message = sym (ap (λ (k : Sent). k.awaited) (ap hands_of (sym (ap (λ (u : Turn). u.answer) t) ∙ h)));
      number = ap (λ (u : Turn). u.pool.number) t ∙ (halted-same b p).1;
    }

-- a write awaits nothing and gives no number
marks-plain : (c q : Pool) (chunk reached : ℕ) → ((hands_of (marks c q chunk reached).answer).awaited ≡ Message.Nothing)
unfolding marks
marks-plain c q chunk reached = either (λ (t : Turn). (hands_of t.answer).awaited ≡ Message.Nothing) (eqb reached 0) _ _ refl refl

not-normal : (st : State) → is_removing st ≡ true → is_normal st ≡ false
not-normal State.Free e = refl
not-normal State.Created e = refl
not-normal State.Normal e = sym e
not-normal (State.Failed cause) e = refl
not-normal State.Reconnecting e = refl
not-normal (State.Removing mode owed) e = refl

pub peer-missed : PeerMissed
unfolding write_turn write_ended write_refusal write_done
peer-missed c xs chunk reached s m o e h =
    let d = done-is (Event.write xs chunk reached) c (write_done c chunk reached) s refl h in
    let v = order-valid c o in
    let r = removal-of c m o e in
    let w = (write-said c xs chunk reached v (ap is_accepted h)).halts in
    let job : (next (Event.write xs chunk reached) c).job ≡ pick (misses_peer (Job.Removing m) c reached) Job.Idle c.job = w ∙ ap (λ (j : Job). pick (misses_peer j c reached) Job.Idle c.job) e in
    let g = missed-does c.roster reached v.ok (d.0 5 refl) in
    record {
      halts = λ x k (n, u). job ∙ ap (λ (z : ℕ). pick (is_normal (state_of c z) && not (has reached z)) Job.Idle c.job) (peer-is m.stage m.id x k) ∙ rw (ap is_normal n, u) refl;
      stays = λ x k l. job ∙ ap (λ (z : ℕ). pick (is_normal (state_of c z) && not (has reached z)) Job.Idle c.job) (peer-is m.stage m.id x k) ∙ spared c reached x l;
      own = ap (λ (u : Turn). session_at u.pool.roster m.id) d.1 ∙ (ap (λ (ro : Roster). session_at ro m.id) (write-roster c chunk reached) ∙ g.spares m.id (rw (not-normal (state_of c m.id) r.removing) refl));
      message = sym (ap (λ (k : Sent). k.awaited) (ap hands_of (sym (ap (λ (u : Turn). u.answer) d.1) ∙ h))) ∙ marks-plain c _ chunk reached;
      number = ap (λ (u : Turn). u.pool.number) d.1 ∙ marks-pool (λ (q : Pool). q.number ≡ c.number) c _ chunk reached (halted-same (loses c.job c.roster reached) (with_roster c (wrote_in c reached))).1;
    }
