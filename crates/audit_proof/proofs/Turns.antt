-- What the events do, at two pools that are equal but for the chunk count.
use Rattle.std.specs.Prelude.{Option, Some, None}
use Rattle.rules_pool.specs.declared.Run.{Run}
use mathlib.Core.Path.{◌≡◌, refl, sym, subst}
use mathlib.Core.Bool.{Bool, true, false, ◌&&◌, not}
use Prim.Native.Nat.{ℕ}
use lib.Dec.{eqb, ltb}
use Rattle.laws_words.specs.Words.{pick}
use Rattle.rules_pool.specs.declared.Stage.{Stage}
use Rattle.rules_pool.specs.declared.Mode.{Mode}
use Rattle.rules_pool.specs.declared.State.{State}
use Rattle.rules_pool.specs.declared.Removal.{Removal}
use Rattle.rules_pool.specs.declared.Job.{Job}
use Rattle.rules_pool.specs.declared.Pool.{Pool}
use Rattle.rules_pool.specs.declared.Message.{Message}
use Rattle.rules_base.specs.declared.Op.{Op}
use Rattle.rules_pool.specs.declared.Told.{Told}
use Rattle.rules_pool.specs.declared.Outcome.{Outcome}
use Rattle.rules_pool.specs.declared.Reply.{Reply}
use Rattle.rules_pool.specs.declared.Effect.{Effect}
use Rattle.rules_pool.specs.declared.Turn.{Turn}
use Rattle.rules_pool.specs.Session.{is_created, is_owed, is_deleting}
use Rattle.rules_pool.specs.Sessions.{session_at}
use Rattle.rules_pool.specs.Changes.{flagged_at, went, written, member_dropped, removing}
use Rattle.rules_pool.specs.declared.Move.{Move}
use Rattle.rules_pool.specs.Run.{takes, receiver}
use Rattle.rules_pool.specs.Jobs.{is_peer}
use Rattle.rules_pool.specs.Cases.{begun}
use Rattle.rules_pool.specs.Recovery.{with_roster, posted, run_ended, gone_on, beginning, tried, disabling, disabling_but}
use Rattle.rules_pool.specs.Exit.{refused, accepted, tried_with, tried_after, halted_if}
use Rattle.rules_client.specs.Joins as Joins
use Rattle.rules_client.specs.Enables as Enables
use Rattle.rules_client.specs.Links as Links
use Rattle.rules_client.specs.Writes as Writes
use Rattle.rules_client.specs.declared.Gone.{Gone}
use Rattle.rules_client.specs.Removal as Removal
use Rattle.rules_client.specs.Remove as Remove
use Rattle.rules_client.specs.Answers as Answers
use Rattle.rules_client.specs.Extend as Extending
use Rattle.audit_proof.specs.Alike.{with_chunks}

-- the answers are equal, and so are the next pools but for the chunk count
pub record Same (n : ℕ) (t t' : Turn) : Type 0 where
  pub answer : t'.answer ≡ t.answer
  pub pool : t'.pool ≡ with_chunks n t.pool

-- the same of what a removal came to
pub record SameGone (n : ℕ) (g g' : Gone) : Type 0 where
  pub pool : g'.posted.pool ≡ with_chunks n g.posted.pool
  pub awaited : g'.posted.awaited ≡ g.posted.awaited

module _ (n : ℕ) where
  -- ---- how events end

  refused-same : (p : Pool) (k : ℕ) → Same n (refused p k) (refused (with_chunks n p) k)
  refused-same p k = record { answer = refl; pool = refl }

  accepted-same : (b b' q : Pool) (o : Outcome) (told : Told) (m : Message) (ef ef' : Effect) → Same n (accepted b q o told m ef) (accepted b' (with_chunks n q) o told m ef')
  accepted-same b b' q o told m ef ef' = record { answer = refl; pool = refl }

  accepted-to : (b b' q q' : Pool) (o : Outcome) (told : Told) (m : Message) (ef ef' : Effect) → q' ≡ with_chunks n q → Same n (accepted b q o told m ef) (accepted b' q' o told m ef')
  accepted-to b b' q q' o told m ef ef' e = subst (λ (r : Pool). Same n (accepted b q o told m ef) (accepted b' r o told m ef')) (sym e) (accepted-same b b' q o told m ef ef')

  tried_same : (b b' q : Pool) (o : Outcome) (told : Told) (ef ef' : Effect) → Same n (tried_with b q o told ef) (tried_with b' (with_chunks n q) o told ef')
  unfolding tried posted
  tried_same b b' q o told ef ef' = at (begun q.roster)
    where
      at : (x : Option Run) → Same n (accepted b (beginning x q).pool o told (beginning x q).awaited ef) (accepted b' (beginning x (with_chunks n q)).pool o told (beginning x (with_chunks n q)).awaited ef')
      at None = record { answer = refl; pool = refl }
      at (Some r) = record { answer = refl; pool = refl }

  either_same : (b : Bool) (t u t' u' : Turn) → Same n t t' → Same n u u' → Same n (pick b t u) (pick b t' u')
  either_same true t u t' u' x y = x
  either_same false t u t' u' x y = y

  halted-same : (b : Bool) (q : Pool) → halted_if b (with_chunks n q) ≡ with_chunks n (halted_if b q)
  halted-same true q = refl
  halted-same false q = refl

  -- ---- joins, enable, maintenance

  pub create-done : (p : Pool) (id : ℕ) → Same n (Joins.create_done p id) (Joins.create_done (with_chunks n p) id)
  unfolding Joins.create_done
  create-done p id = record { answer = refl; pool = refl }

  pub assemble-done : (p : Pool) (id set version : ℕ) → Same n (Joins.assemble_done p id set version) (Joins.assemble_done (with_chunks n p) id set version)
  unfolding Joins.assemble_done
  assemble-done p id set version = tried_same p p (with_roster p (Joins.assembled p.roster id set version)) Outcome.Plain (Joins.join_told p.roster Op.AddAssemble id) Effect.Keep Effect.Keep

  pub enable-done : (p : Pool) (id : ℕ) → Same n (Enables.enable_done p id) (Enables.enable_done (with_chunks n p) id)
  unfolding Enables.enable_done
  enable-done p id =
      either_same (is_created (session_at p.roster id).state) _ _ _ _
      (record { answer = refl; pool = refl })
      (tried_same p p (with_roster p (flagged_at p.roster id false)) Outcome.Plain Told.Nothing Effect.Keep Effect.Keep)

  pub maintenance-done : (p : Pool) (id : ℕ) → Same n (Enables.maintenance_done p id) (Enables.maintenance_done (with_chunks n p) id)
  unfolding Enables.maintenance_done
  maintenance-done p id = record { answer = refl; pool = refl }

  -- ---- link down, store check, rejoin, try

  pub down-done : (p : Pool) (id : ℕ) → Same n (Links.down_done p id) (Links.down_done (with_chunks n p) id)
  unfolding Links.down_done
  down-done p id = at p.job
    where
      at : (j : Job) → Same n (Links.down_at j p id) (Links.down_at j (with_chunks n p) id)
      at Job.Idle = record { answer = refl; pool = refl }
      at (Job.Running r) = tried_same p p (run_ended (with_roster p (Links.dropped p.roster id))) (Outcome.Taken r.taken) (disabling_but id (receiver r)) Effect.Keep Effect.Keep
      at (Job.Removing m) =
          accepted-to p p (halted_if (is_peer (Job.Removing m) id) (with_roster p (Links.dropped p.roster id))) (halted_if (is_peer (Job.Removing m) id) (with_chunks n (with_roster p (Links.dropped p.roster id)))) Outcome.Plain Told.Nothing Message.Nothing Effect.Keep Effect.Keep
          (halted-same (is_peer (Job.Removing m) id) (with_roster p (Links.dropped p.roster id)))

  pub check-done : (p : Pool) (id : ℕ) → Same n (Links.check_done p id) (Links.check_done (with_chunks n p) id)
  unfolding Links.check_done
  check-done p id =
      either_same p.roster.sync _ _ _ _
      (record { answer = refl; pool = refl })
      (tried_same p p (with_roster p (went p.roster id State.Reconnecting)) Outcome.Plain Told.Nothing Effect.Keep Effect.Keep)

  pub try-done : (p : Pool) → Same n (tried_after p p Outcome.Plain Told.Nothing) (tried_after (with_chunks n p) (with_chunks n p) Outcome.Plain Told.Nothing)
  try-done p = tried_same p p p Outcome.Plain Told.Nothing Effect.Keep Effect.Keep

  -- ---- removal

  gone_same : (p : Pool) (g g' : Gone) → SameGone n g g' → Same n (Remove.gone p g) (Remove.gone (with_chunks n p) g')
  gone_same p g g' x =
      subst (λ (m : Message). Same n (Remove.gone p g) (accepted (with_chunks n p) g'.posted.pool Outcome.Plain Told.Nothing m g'.effect)) (sym x.awaited)
      (accepted-to p (with_chunks n p) g.posted.pool g'.posted.pool Outcome.Plain Told.Nothing g.posted.awaited g.effect g'.effect x.pool)

  either-gone : (b : Bool) (g h g' h' : Gone) → SameGone n g g' → SameGone n h h' → SameGone n (pick b g h) (pick b g' h')
  either-gone true g h g' h' x y = x
  either-gone false g h g' h' x y = y

  onward-same : (p : Pool) (id : ℕ) (st : Stage) (ef : Effect) → SameGone n (Removal.onward p id st ef) (Removal.onward (with_chunks n p) id st ef)
  unfolding Removal.onward Removal.freed_from posted
  onward-same p id st ef = either-gone (ltb (Removal.due st p.roster) 16) _ _ _ _ (record { pool = refl; awaited = refl }) (record { pool = refl; awaited = refl })

  departed-same : (p : Pool) (id : ℕ) → SameGone n (Removal.departed p id) (Removal.departed (with_chunks n p) id)
  unfolding Removal.departed
  departed-same p id =
      either-gone (is_deleting (Removal.state_of p id) && not p.roster.sync) _ _ _ _
      (onward-same (with_roster p (member_dropped p.roster id)) id Stage.Leave (Effect.ZeroRow id))
      (onward-same p id Stage.Leave Effect.Keep)

  started-same : (p : Pool) (id : ℕ) → SameGone n (Removal.started p id) (Removal.started (with_chunks n p) id)
  unfolding Removal.started posted
  started-same p id = either-gone (is_owed (Removal.state_of p id)) _ _ _ _ (record { pool = refl; awaited = refl }) (departed-same p id)

  pub remove-done : (p : Pool) (id : ℕ) (mode : Mode) → Same n (Remove.gone p (Remove.remove_begun p id mode)) (Remove.gone (with_chunks n p) (Remove.remove_begun (with_chunks n p) id mode))
  remove-done p id mode = gone_same p _ _ (started-same (with_roster p (removing p.roster id mode)) id)

  -- ---- write, synced

  marks-same : (b b' q : Pool) (chunk reached : ℕ) → Same n (Writes.marks b q chunk reached) (Writes.marks b' (with_chunks n q) chunk reached)
  unfolding Writes.marks
  marks-same b b' q chunk reached = either_same (eqb reached 0) _ _ _ _ (record { answer = refl; pool = refl }) (record { answer = refl; pool = refl })

  pub write-done : (p : Pool) (chunk reached : ℕ) → Same n (Writes.write_done p chunk reached) (Writes.write_done (with_chunks n p) chunk reached)
  unfolding Writes.write_done
  write-done p chunk reached =
      let q = with_roster p (written (Writes.missed p.roster reached) (not (eqb reached 0))) in
      let b = Writes.loses p.job p.roster reached in
      subst (λ (r : Pool). Same n (Writes.marks p (halted_if b q) chunk reached) (Writes.marks (with_chunks n p) r chunk reached)) (sym (halted-same b q)) (marks-same p (with_chunks n p) (halted_if b q) chunk reached)

  pub sync-done : (p : Pool) (member chunk : ℕ) → Same n (Writes.sync_done p member chunk) (Writes.sync_done (with_chunks n p) member chunk)
  unfolding Writes.sync_done
  sync-done p member chunk = record { answer = refl; pool = refl }

  -- ---- answers

  reported-same : (p : Pool) (m : Move) → Same n (Answers.reported p m) (Answers.reported (with_chunks n p) m)
  unfolding Answers.moved_on posted
  reported-same p m = at m.next
    where
      q : Pool
      q = with_roster p (Answers.entered_by m.normal p.roster)

      at : (x : Option Run) → Same n (accepted p (gone_on x q).pool (Outcome.Taken m.taken) (disabling m.disable) (gone_on x q).awaited Effect.Keep)
          (accepted (with_chunks n p) (gone_on x (with_chunks n q)).pool (Outcome.Taken m.taken) (disabling m.disable) (gone_on x (with_chunks n q)).awaited Effect.Keep)
      at None = record { answer = refl; pool = refl }
      at (Some r) = record { answer = refl; pool = refl }

  well-same : (st : Stage) (p : Pool) (id : ℕ) → SameGone n (Removal.well_answered st p id) (Removal.well_answered st (with_chunks n p) id)
  well-same Stage.Leave p id = departed-same (Removal.paid p id) id
  well-same (Stage.Info peer) p id = onward-same p id (Stage.Info peer) Effect.Keep

  removal-same : (m : Removal) (p : Pool) (a : Reply) → SameGone n (Removal.removal_answered m p a) (Removal.removal_answered m (with_chunks n p) a)
  removal-same m p Reply.Failed = record { pool = refl; awaited = refl }
  removal-same m p (Reply.Good b) = well-same m.stage p m.id

  pub answered-same : (j : Job) (p : Pool) (a : Reply) → Same n (Answers.answered j p a) (Answers.answered j (with_chunks n p) a)
  answered-same Job.Idle p a = refused-same p 13
  answered-same (Job.Running r) p a = reported-same p (takes p.roster.members p.roster.version r a)
  answered-same (Job.Removing m) p a = gone_same p _ _ (removal-same m p a)

  -- ---- extend

  pub extend-done : (p : Pool) (id : ℕ) → Same n (Extending.extend_done p id) (Extending.extend_done (with_chunks n p) id)
  unfolding Extending.extend_done
  extend-done p id = tried_same p p (with_roster p (Extending.extended p.roster id)) (Outcome.Picked id) (Extending.extend_told p.roster id) (Effect.FillRow id p.chunks) (Effect.FillRow id n)

  -- ---- refused or done

  pub turn-same : (why : ℕ) (p : Pool) (t t' : Turn) → Same n t t' → Same n (pick (eqb why 0) t (refused p why)) (pick (eqb why 0) t' (refused (with_chunks n p) why))
  turn-same why p t t' x = either_same (eqb why 0) t (refused p why) t' (refused (with_chunks n p) why) x (refused-same p why)
