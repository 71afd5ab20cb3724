-- Write ended and synced, accepted or refused, keep the state rules; and what a write leaves of the sessions: one that was reached, or was not NORMAL, keeps its
-- record; a NORMAL one that was not reached is FAILED and raises the version, and the last one is marked.
use mathlib.Core.Path.{◌≡◌, refl, sym, ap, ◌∙◌, subst}
use mathlib.Core.Bool.{Bool, true, false, not, ◌&&◌, ◌||◌}
use mathlib.Core.Logic.{◌≢◌}
use Prim.Native.Nat.{ℕ, zero, suc, ◌+◌, ◌-◌, ◌≤◌, ◌<◌}
use native.Mathlib.Nat.{zero-add, add-zero}
use native.Mathlib.Decide.{ℕ_discrete}
use native.Mathlib.Omega.{arith}
use lib.Dec.{eqb, ltb}
use borrow.Author.Tests.{eqb-true, ne_eqb, lt-ltb, le-ltb}
use Rattle.laws_words.specs.Words.{pick, one}
use Rattle.laws_words.specs.Loops.{run_at}
use Rattle.laws_words.specs.Tests.{by_cases, clash, passed, and_left, and-false}
use Rattle.rules_base.specs.Sets.{has, count_to}
use Rattle.rules_base.proofs.Sets.{has-below, count_to-none}
use Rattle.rules_pool.specs.declared.Cause.{Cause}
use Rattle.rules_pool.specs.declared.State.{State}
use Rattle.rules_pool.specs.declared.Session.{Session}
use Rattle.rules_pool.specs.declared.Roster.{Roster}
use Rattle.rules_pool.specs.declared.Job.{Job}
use Rattle.rules_pool.specs.declared.Pool.{Pool}
use Rattle.rules_pool.specs.Session.{is_normal, is_removing, moved, marked}
use Rattle.rules_pool.specs.declared.Kind.{Kind}
use Rattle.rules_pool.specs.Sessions.{session_at, ids_of}
use Rattle.rules_pool.specs.Changes.{more, failed, written}
use Rattle.rules_pool.specs.Recovery.{with_roster}
use Rattle.rules_pool.specs.Exit.{halted_if}
use Rattle.laws_client.proofs.Exit.{pools, turned, halts}
use Rattle.rules_pool.specs.StateRules.{valid_pool, job_ok}
use Rattle.rules_pool.specs.Jobs.{is_running}
use Rattle.laws_client.proofs.Ids.{Long, ids-none}
use Rattle.laws_client.proofs.Rosters.{Ok}
use Rattle.laws_client.proofs.Pools.{Valid, removal-stays}
use Rattle.laws_client.proofs.Links.{normal-live, counted, failed-keeps}
use Rattle.laws_client.proofs.Joins.{past-keeps}
use Rattle.laws_client.proofs.Records.{Numbers, is_last, failed-at, failed-other, normal-failed, rises}
use Rattle.rules_client.specs.Writes.{reach_bars, write_refusal, miss_step, missed, loses, marks, write_done, write_ended, sync_refusal, sync_done, synced}

and-true : (b : Bool) → (b && true) ≡ b
and-true true = refl
and-true false = refl

-- ---- the sessions not reached, one after the other

-- what every step below m keeps, all of them keep
stepped : (P : ℕ → Roster → Type 0) (f : ℕ → Roster → Roster) (m : ℕ) → ((i : ℕ) (ro : Roster) → i < m → P i ro → P (suc i) (f i ro)) → (n k : ℕ) (ro : Roster) → n + k ≤ m → P k ro → P (n + k) (run_at f n k ro)
stepped P f m step zero k ro h p = rw zero-add p
stepped P f m step (suc n) k ro h p =
    subst (λ (i : ℕ). P i (run_at f n (suc k) (f k ro))) (let q : n + suc k ≡ suc n + k = omega arith in q)
    (stepped P f m step n (suc k) (f k ro) (omega arith) (step k ro (omega arith) p))

-- the step fails the session
abbrev pub misses : ℕ → ℕ → Roster → Bool
misses reached i ro = is_normal (session_at ro i).state && not (has reached i)

step-does : (P : Roster → Type 0) (reached i : ℕ) (ro : Roster) → (misses reached i ro ≡ true → P (failed ro i Cause.Io)) → (misses reached i ro ≡ false → P ro) → P (miss_step reached i ro)
unfolding miss_step
step-does P reached i ro f g = by_cases (misses reached i ro) (λ e. rw e (f e)) (λ e. rw e (g e))

-- a NORMAL session above j
abbrev pub above : Roster → ℕ → ℕ → Bool
above ro j k = is_normal (session_at ro k).state && ltb j k

-- The sessions when those below i have been looked at: a NORMAL one not reached is FAILED and has raised the version, the last one that was NORMAL is marked, and
-- every other record is as it was.
pub record Missed (reached : ℕ) (ro : Roster) (i : ℕ) (q : Roster) : Type 0 where
  pub ok : Ok q
  pub plain : q.sync ≡ false
  pub version : q.version ≡ ro.version + count_to (λ j. misses reached j ro) i
  pub members : q.members ≡ ro.members
  pub spares : (j : ℕ) → misses reached j ro ≡ false → session_at q j ≡ session_at ro j
  pub ahead : (j : ℕ) → i ≤ j → session_at q j ≡ session_at ro j
  pub fails : (j : ℕ) → j < i → misses reached j ro ≡ true → session_at q j ≡ marked (moved (session_at ro j) (State.Failed Cause.Io)) (eqb q.count 0 && eqb (count_to (above ro j) i) 0)

none_above : (ro : Roster) (j i : ℕ) → i ≤ j + 1 → count_to (above ro j) i ≡ 0
none_above ro j i h = count_to-none (above ro j) i (λ k hk. rw (le-ltb j k (omega arith)) (and-false (is_normal (session_at ro k).state)))

-- a count that one more raises is not 0
not_none : (n : ℕ) (b : Bool) → b ≡ true → eqb (n + one b) 0 ≡ false
not_none n b e = rw e (ne_eqb (n + 1) 0 (λ z. absurd (let y : ⊥ = omega arith in y)))

some-counted : (q : Roster) → Ok q → q.sync ≡ false → (i : ℕ) → i < 16 → is_normal (session_at q i).state ≡ true → 1 ≤ q.count
some-counted q v plain i h e = omega (arith, counted q i v h plain e)

module _ (reached : ℕ) (ro : Roster) (i : ℕ) (q : Roster) (h : i < 16) (m : Missed reached ro i q) where
  -- session i is NORMAL and was not reached
  fails-one : misses reached i ro ≡ true → Missed reached ro (suc i) (failed q i Cause.Io)
  fails-one miss =
      record {
        ok = failed-keeps q i Cause.Io m.ok h (normal-live (session_at q i).state was);
        plain = n.kind ∙ m.plain;
        version = n.versioned ∙ (rises q m.ok some ∙ rw (m.version, miss) (omega arith));
        members = n.held ∙ m.members;
        spares = λ j e. failed-other q i Cause.Io j (λ p. clash miss (rw p at e)) ∙ m.spares j e;
        ahead = λ j l. failed-other q i Cause.Io j (λ p. absurd (let z : ⊥ = omega arith in z)) ∙ m.ahead j (omega arith);
        fails = λ j l e. elim (ℕ_discrete j i) [
          | yes p ↦ subst (λ (k : ℕ). session_at (failed q i Cause.Io) k ≡ marked (moved (session_at ro k) (State.Failed Cause.Io)) (eqb (failed q i Cause.Io).count 0 && eqb (count_to (above ro k) (suc i)) 0)) (sym p) here
          | no p ↦ there j (omega (arith, p)) p e
        ];
      }
    where
      was : is_normal (session_at q i).state ≡ true
      was = ap (λ (s : Session). is_normal s.state) (m.ahead i (omega arith)) ∙ and_left (is_normal (session_at ro i).state) (not (has reached i)) miss

      some : 1 ≤ q.count
      some = some-counted q m.ok m.plain i h was

      n : Numbers q (failed q i Cause.Io) (q.count - 1) (more q.version) q.members
      n = normal-failed q i Cause.Io m.plain was

      here : session_at (failed q i Cause.Io) i ≡ marked (moved (session_at ro i) (State.Failed Cause.Io)) (eqb (failed q i Cause.Io).count 0 && eqb (count_to (above ro i) (suc i)) 0)
      here =
          failed-at q i Cause.Io m.ok.long h
          ∙ (ap (λ (b : Bool). marked (moved (session_at q i) (State.Failed Cause.Io)) (pick b (is_last q) (session_at q i).mark)) was
          ∙ (ap (λ (b : Bool). marked (moved (session_at q i) (State.Failed Cause.Io)) (not b && eqb (q.count - 1) 0)) m.plain
          ∙ (ap (λ (s : Session). marked (moved s (State.Failed Cause.Io)) (eqb (q.count - 1) 0)) (m.ahead i (omega arith))
          ∙ ap (λ (b : Bool). marked (moved (session_at ro i) (State.Failed Cause.Io)) b) (sym (rw (n.counted, none_above ro i (suc i) (omega arith)) (and-true (eqb (q.count - 1) 0)))))))

      -- of those below none is the last one
      there : (j : ℕ) → j < i → j ≢ i → misses reached j ro ≡ true → session_at (failed q i Cause.Io) j ≡ marked (moved (session_at ro j) (State.Failed Cause.Io)) (eqb (failed q i Cause.Io).count 0 && eqb (count_to (above ro j) (suc i)) 0)
      there j l p e =
          failed-other q i Cause.Io j p
          ∙ (m.fails j l e
          ∙ ap (λ (b : Bool). marked (moved (session_at ro j) (State.Failed Cause.Io)) b)
          (rw (
            ne_eqb q.count 0 (λ z. absurd (let y : ⊥ = omega (arith, some) in y)),
            not_none (count_to (above ro j) i) (above ro j i) (rw (and_left (is_normal (session_at ro i).state) (not (has reached i)) miss) (lt-ltb j i l)),
          )
          (sym (and-false (eqb (failed q i Cause.Io).count 0)))))

  -- it is not, or was
  spares-one : misses reached i ro ≡ false → Missed reached ro (suc i) q
  spares-one miss =
      record {
        ok = m.ok;
        plain = m.plain;
        version = rw miss (omega (arith, m.version));
        members = m.members;
        spares = m.spares;
        ahead = λ j l. m.ahead j (omega arith);
        fails = λ j l e. elim (ℕ_discrete j i) [
          | yes p ↦ clash e (rw p miss)
          | no p ↦ m.fails j (omega (arith, p)) e ∙ ap (λ (b : Bool). marked (moved (session_at ro j) (State.Failed Cause.Io)) b) (same j)
        ];
      }
    where
      -- a NORMAL one that was reached is still counted
      same : (j : ℕ) → (eqb q.count 0 && eqb (count_to (above ro j) i) 0) ≡ (eqb q.count 0 && eqb (count_to (above ro j) (suc i)) 0)
      same j =
          by_cases (is_normal (session_at ro i).state)
          (λ n. rw (ne_eqb q.count 0 (λ z. absurd (let y : ⊥ = omega (arith, some-counted q m.ok m.plain i h (ap (λ (s : Session). is_normal s.state) (m.ahead i (omega arith)) ∙ n)) in y))) refl)
          (λ n. rw (n, add-zero (count_to (above ro j) i)) refl)

-- After all sixteen.
pub missed-does : (ro : Roster) (reached : ℕ) → Ok ro → ro.sync ≡ false → Missed reached ro 16 (missed ro reached)
unfolding missed
missed-does ro reached v plain = stepped (Missed reached ro) (miss_step reached) 16 step 16 0 ro (omega arith) start
  where
    start : Missed reached ro 0 ro
    start = record { ok = v; plain = plain; version = omega arith; members = refl; spares = λ j e. refl; ahead = λ j l. refl; fails = λ j l. absurd (let z : ⊥ = omega arith in z) }

    step : (i : ℕ) (q : Roster) → i < 16 → Missed reached ro i q → Missed reached ro (suc i) (miss_step reached i q)
    step i q h m =
        step-does (Missed reached ro (suc i)) reached i q
        (λ e. fails-one reached ro i q h m (sym (same i q m) ∙ e))
        (λ e. spares-one reached ro i q h m (sym (same i q m) ∙ e))
      where
        same : (i : ℕ) (q : Roster) → Missed reached ro i q → misses reached i q ≡ misses reached i ro
        same i q m = ap (λ (s : Session). is_normal s.state && not (has reached i)) (m.ahead i (omega arith))

removing-not : (st : State) → is_removing st ≡ true → is_normal st ≡ false
removing-not State.Free e = refl
removing-not State.Created e = refl
removing-not State.Normal e = sym e
removing-not (State.Failed cause) e = refl
removing-not State.Reconnecting e = refl
removing-not (State.Removing m owed) e = refl

-- a REMOVING session stays so
removing-stays : (ro : Roster) (reached j : ℕ) → Missed reached ro 16 (missed ro reached) → is_removing (session_at ro j).state ≡ true → is_removing (session_at (missed ro reached) j).state ≡ true
removing-stays ro reached j m e = rw (m.spares j (rw (removing-not (session_at ro j).state e) refl)) e

-- ---- write ended

job-stays : (j : Job) (ro : Roster) (reached : ℕ) → Long ro → Missed reached ro 16 (missed ro reached) → is_running j ≡ false → job_ok j ro ≡ true → job_ok j (written (missed ro reached) (not (eqb reached 0))) ≡ true
job-stays Job.Idle ro reached l d r e = refl
job-stays (Job.Running x) ro reached l d r e = clash refl r
job-stays (Job.Removing m) ro reached l d r e = removal-stays ro (missed ro reached) m l (removing-stays ro reached m.id d) e

halted-valid : (b : Bool) (p : Pool) → Valid p → Valid (halted_if b p)
halted-valid b p v = halts Valid b p (record { some = v.some; most = v.most; ok = v.ok; job = refl }) v

pub marks-pool : (P : Pool → Type 0) (before after : Pool) (chunk reached : ℕ) → P after → P (marks before after chunk reached).pool
unfolding marks
marks-pool P before after chunk reached h = pools P (eqb reached 0) _ _ (λ e. h) (λ e. h)

pub record Writes (p : Pool) (reached : ℕ) : Type 0 where
  pub plain : p.roster.sync ≡ false
  pub free : is_running p.job ≡ false
  pub reaches : reach_bars p.roster reached ≡ false

pub write-passed : (p : Pool) (sound : Bool) (chunk reached : ℕ) → write_refusal p sound chunk reached ≡ 0 → Writes p reached
unfolding write_refusal
write-passed p sound chunk reached e =
    let a = passed (not (valid_pool p)) 1 _ (λ h. omega arith) e in
    let b = passed (not sound) 2 _ (λ h. omega arith) a.1 in
    let c = passed (ltb 65535 reached) 3 _ (λ h. omega arith) b.1 in
    let d = passed (not (ltb chunk p.chunks)) 4 _ (λ h. omega arith) c.1 in
    let f = passed p.roster.sync 5 _ (λ h. omega arith) d.1 in
    let g = passed (is_running p.job) 6 _ (λ h. omega arith) f.1 in
    let k = passed (reach_bars p.roster reached) 11 _ (λ h. omega arith) g.1 in
    record { plain = f.0; free = g.0; reaches = k.0 }

-- every id of the reached set is NORMAL
pub reached-normal : (ro : Roster) (reached : ℕ) → Long ro → reach_bars ro reached ≡ false → (j : ℕ) → has reached j ≡ true → is_normal (session_at ro j).state ≡ true
unfolding reach_bars
reached-normal ro reached l e j h =
    both (has reached j) (is_normal (session_at ro j).state) h
    (ids-none (Kind.Abnormal reached) ro l (eqb-true (ids_of (Kind.Abnormal reached) ro) 0 (parts (eqb (ids_of Kind.Normals ro) 0) (eqb (ids_of (Kind.Abnormal reached) ro) 0) e)) j (has-below reached j h))
  where
    parts : (a b : Bool) → (a || not b) ≡ false → b ≡ true
    parts true b z = clash refl z
    parts false true z = refl
    parts false false z = clash refl z

    both : (a b : Bool) → a ≡ true → (a && not b) ≡ false → b ≡ true
    both true true f z = refl
    both true false f z = clash refl z
    both false b f z = clash f refl

-- the sessions that a write leaves
abbrev pub wrote_in : Pool → ℕ → Roster
wrote_in p reached = written (missed p.roster reached) (not (eqb reached 0))

pub write_keeps : (p : Pool) (sound : Bool) (chunk reached : ℕ) → Valid p → Valid (write_ended p sound chunk reached).pool
unfolding write_ended write_done
write_keeps p sound chunk reached v =
    turned Valid (write_refusal p sound chunk reached) (write_done p chunk reached) p v
    (λ e. let w = write-passed p sound chunk reached e in
    let d = missed-does p.roster reached v.ok w.plain in
    marks-pool Valid p (halted_if (loses p.job p.roster reached) (with_roster p (wrote_in p reached))) chunk reached
    (halted-valid (loses p.job p.roster reached) (with_roster p (wrote_in p reached))
    (record { some = v.some; most = v.most; ok = past-keeps (missed p.roster reached) (wrote_in p reached).past d.ok; job = job-stays p.job p.roster reached v.ok.long d w.free v.job })))

pub write-roster : (p : Pool) (chunk reached : ℕ) → (write_done p chunk reached).pool.roster ≡ wrote_in p reached
unfolding write_done
write-roster p chunk reached =
    marks-pool (λ q. q.roster ≡ wrote_in p reached) p (halted_if (loses p.job p.roster reached) (with_roster p (wrote_in p reached))) chunk reached
    (halts (λ q. q.roster ≡ wrote_in p reached) (loses p.job p.roster reached) (with_roster p (wrote_in p reached)) refl refl)

-- ---- synced changes nothing at the client

pub synced-same : (p : Pool) (sound : Bool) (member chunk clean : ℕ) → (synced p sound member chunk clean).pool ≡ p
unfolding synced sync_done
synced-same p sound member chunk clean =
    turned (λ q. q ≡ p) (sync_refusal p sound member chunk clean) (sync_done p member chunk) p refl (λ e. refl)

pub synced-keeps : (p : Pool) (sound : Bool) (member chunk clean : ℕ) → Valid p → Valid (synced p sound member chunk clean).pool
synced-keeps p sound member chunk clean v = rw (synced-same p sound member chunk clean) v
