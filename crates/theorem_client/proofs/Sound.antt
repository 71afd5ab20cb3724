-- The chunk count stays, and a sound map that is lent is left sound.
use Rattle.std.specs.Prelude.{Option, Some, None}
use Rattle.rules_pool.specs.declared.Run.{Run}
use mathlib.Core.Path.{◌≡◌, refl, ap}
use mathlib.Core.Bool.{Bool, true, not, ◌&&◌}
use mathlib.Core.List.{List}
use Prim.Native.Nat.{ℕ}
use lib.Dec.{eqb, leb, ltb}
use borrow.Author.Tests.{leb-true, ltb-true, not-false}
use Rattle.laws_words.specs.Tests.{clash, either}
use Rattle.rules_base.proofs.Order.{none-applies}
use Rattle.rules_base.specs.Map.{sound}
use Rattle.rules_pool.specs.Session.{is_created, is_owed, is_deleting}
use Rattle.rules_pool.specs.declared.Effect.{Effect}
use Rattle.rules_pool.specs.declared.Turn.{Turn}
use Rattle.rules_pool.specs.declared.Job.{Job}
use Rattle.rules_pool.specs.declared.Mode.{Mode}
use Rattle.rules_pool.specs.declared.Pool.{Pool}
use Rattle.rules_pool.specs.declared.Removal.{Removal}
use Rattle.rules_pool.specs.declared.Reply.{Reply}
use Rattle.rules_pool.specs.declared.Roster.{Roster}
use Rattle.rules_pool.specs.declared.Stage.{Stage}
use Rattle.rules_pool.specs.Sessions.{session_at}
use Rattle.rules_pool.specs.Changes.{member_dropped}
use Rattle.rules_pool.specs.Run.{takes}
use Rattle.rules_pool.specs.Cases.{begun}
use Rattle.rules_pool.specs.Recovery.{with_roster, posted, tried, run_ended, beginning, gone_on}
use Rattle.laws_client.proofs.Exit.{turned, pools, halts, turn-of}
use Rattle.rules_pool.specs.Exit.{halted_if}
use Rattle.rules_pool.specs.Jobs.{is_peer}
use Rattle.rules_client.specs.Joins.{create_refusal, create_done, join_create, assemble_refusal, assemble_done, join_assemble}
use Rattle.rules_client.specs.Enables.{enable_refusal, enable, maintenance_refusal, maintenance_done, enable_done, maintenance}
use Rattle.rules_client.specs.Links.{down_refusal, dropped, down_done, link_down, check_refusal, store_check, check_done, try_refusal, try_run, down_at}
use Rattle.rules_client.specs.Removal as removal
use Rattle.rules_client.specs.Remove.{remove_refusal, remove}
use Rattle.rules_client.specs.declared.Gone.{Gone}
use Rattle.laws_client.proofs.WritesKept.{wrote_in, synced-same}
use Rattle.rules_client.specs.Writes.{write_refusal, write_ended, marks, write_done, loses}
use Rattle.rules_client.specs.Answers.{answer_refusal, entered_by, answered, answer, moved_on}
use Rattle.rules_client.specs.Client.{carried, sound_for, remove_turn, write_turn, answer_turn, synced_turn, clean_to}
use Rattle.rules_base.proofs.Fills.{sound-filled}
use Rattle.rules_base.proofs.Sound.{Sound, sound-fact, sound-test, sound-zero_row, sound-zeroed, sound-marked_for}
use Rattle.rules_client.specs.Events.{Event, tests_of, next}
use Rattle.theorem_client.specs.Reading.{keeps, removal_touches, answer_touches}

-- ---- the chunk count

abbrev pub Same : Pool → Pool → Type 0
Same p q = q.chunks ≡ p.chunks

pub tried_same : (p : Pool) → Same p (tried p).pool
unfolding tried posted
tried_same p = at (begun p.roster)
  where
    at : (n : Option Run) → (beginning n p).pool.chunks ≡ p.chunks
    at None = refl
    at (Some r) = refl

gone_same : (n : Option Run) (p : Pool) → (gone_on n p).pool.chunks ≡ p.chunks
unfolding posted
gone_same None p = refl
gone_same (Some r) p = refl

abbrev GoneSame : Pool → Gone → Type 0
GoneSame p g = g.posted.pool.chunks ≡ p.chunks

onward-same : (p : Pool) (id : ℕ) (st : Stage) (ef : Effect) → GoneSame p (removal.onward p id st ef)
unfolding removal.onward removal.freed_from posted
onward-same p id st ef = either (GoneSame p) (ltb (removal.due st p.roster) 16) _ _ refl refl

departed-same : (p : Pool) (id : ℕ) → GoneSame p (removal.departed p id)
unfolding removal.departed
departed-same p id =
    either (GoneSame p) (is_deleting (removal.state_of p id) && not p.roster.sync) _ _
    (onward-same (with_roster p (member_dropped p.roster id)) id Stage.Leave (Effect.ZeroRow id))
    (onward-same p id Stage.Leave Effect.Keep)

started-same : (p : Pool) (id : ℕ) → GoneSame p (removal.started p id)
unfolding removal.started posted
started-same p id = either (GoneSame p) (is_owed (removal.state_of p id)) _ _ refl (departed-same p id)

well-same : (st : Stage) (p : Pool) (id : ℕ) → GoneSame p (removal.well_answered st p id)
well-same Stage.Leave p id = departed-same (removal.paid p id) id
well-same (Stage.Info peer) p id = onward-same p id (Stage.Info peer) Effect.Keep

answered-same : (m : Removal) (p : Pool) (a : Reply) → GoneSame p (removal.removal_answered m p a)
answered-same m p Reply.Failed = refl
answered-same m p (Reply.Good b) = well-same m.stage p m.id

job-same : (j : Job) (p : Pool) (a : Reply) → Same p (answered j p a).pool
unfolding moved_on
job-same Job.Idle p a = refl
job-same (Job.Running r) p a =
    let m = takes p.roster.members p.roster.version r a in
    gone_same m.next (with_roster p (entered_by m.normal p.roster))
job-same (Job.Removing m) p a = answered-same m p a

down-same : (j : Job) (p : Pool) (id : ℕ) → Same p (down_at j p id).pool
down-same Job.Idle p id = refl
down-same (Job.Running r) p id = tried_same (run_ended (with_roster p (dropped p.roster id)))
down-same (Job.Removing m) p id = halts (Same p) (is_peer (Job.Removing m) id) (with_roster p (dropped p.roster id)) refl refl

pub create-count : (id : ℕ) (c : Pool) → (next (Event.join_create id) c).chunks ≡ c.chunks
unfolding join_create create_done join_assemble assemble_done enable enable_done maintenance maintenance_done link_down down_done store_check check_done try_run remove remove_turn write_ended write_done marks write_turn synced_turn answer answer_turn
create-count id c = turned (Same c) (create_refusal c id) _ c refl (λ e. refl)

pub assemble-count : (id set version : ℕ) (c : Pool) → (next (Event.join_assemble id set version) c).chunks ≡ c.chunks
unfolding join_create create_done join_assemble assemble_done enable enable_done maintenance maintenance_done link_down down_done store_check check_done try_run remove remove_turn write_ended write_done marks write_turn synced_turn answer answer_turn
assemble-count id set version c = turned (Same c) (assemble_refusal c id set version) _ c refl (λ e. tried_same _)

pub enable-count : (id : ℕ) (c : Pool) → (next (Event.enable id) c).chunks ≡ c.chunks
unfolding join_create create_done join_assemble assemble_done enable enable_done maintenance maintenance_done link_down down_done store_check check_done try_run remove remove_turn write_ended write_done marks write_turn synced_turn answer answer_turn
enable-count id c =
    turned (Same c) (enable_refusal c id) _ c refl
    (λ e. pools (Same c) (is_created (session_at c.roster id).state) _ _ (λ z. refl) (λ z. tried_same _))

pub maintenance-count : (id : ℕ) (c : Pool) → (next (Event.maintenance id) c).chunks ≡ c.chunks
unfolding join_create create_done join_assemble assemble_done enable enable_done maintenance maintenance_done link_down down_done store_check check_done try_run remove remove_turn write_ended write_done marks write_turn synced_turn answer answer_turn
maintenance-count id c = turned (Same c) (maintenance_refusal c id) _ c refl (λ e. refl)

pub down-count : (id : ℕ) (c : Pool) → (next (Event.link_down id) c).chunks ≡ c.chunks
unfolding join_create create_done join_assemble assemble_done enable enable_done maintenance maintenance_done link_down down_done store_check check_done try_run remove remove_turn write_ended write_done marks write_turn synced_turn answer answer_turn
down-count id c = turned (Same c) (down_refusal c id) _ c refl (λ e. down-same c.job c id)

pub check-count : (id : ℕ) (c : Pool) → (next (Event.store_check id) c).chunks ≡ c.chunks
unfolding join_create create_done join_assemble assemble_done enable enable_done maintenance maintenance_done link_down down_done store_check check_done try_run remove remove_turn write_ended write_done marks write_turn synced_turn answer answer_turn
check-count id c =
    turned (Same c) (check_refusal c id) _ c refl
    (λ e. pools (Same c) c.roster.sync _ _ (λ z. refl) (λ z. tried_same _))

pub try-count : (c : Pool) → (next Event.try_run c).chunks ≡ c.chunks
unfolding join_create create_done join_assemble assemble_done enable enable_done maintenance maintenance_done link_down down_done store_check check_done try_run remove remove_turn write_ended write_done marks write_turn synced_turn answer answer_turn
try-count c = turned (Same c) (try_refusal c) _ c refl (λ e. tried_same c)

pub remove-count : (xs : List ℕ) (id : ℕ) (mode : Mode) (c : Pool) → (next (Event.remove xs id mode) c).chunks ≡ c.chunks
unfolding join_create create_done join_assemble assemble_done enable enable_done maintenance maintenance_done link_down down_done store_check check_done try_run remove remove_turn write_ended write_done marks write_turn synced_turn answer answer_turn
remove-count xs id mode c = turned (Same c) (remove_refusal c (sound_for c xs) id mode) _ c refl (λ e. started-same _ id)

pub write-count : (xs : List ℕ) (chunk reached : ℕ) (c : Pool) → (next (Event.write xs chunk reached) c).chunks ≡ c.chunks
unfolding join_create create_done join_assemble assemble_done enable enable_done maintenance maintenance_done link_down down_done store_check check_done try_run remove remove_turn write_ended write_done marks write_turn synced_turn answer answer_turn
write-count xs chunk reached c =
    turned (Same c) (write_refusal c (sound_for c xs) chunk reached) _ c refl
    (λ e. pools (Same c) (eqb reached 0) _ _ (λ z. here) (λ z. here))
  where
    here : Same c (halted_if (loses c.job c.roster reached) (with_roster c (wrote_in c reached)))
    here = halts (Same c) (loses c.job c.roster reached) (with_roster c (wrote_in c reached)) refl refl

pub synced-count : (xs : List ℕ) (member chunk : ℕ) (c : Pool) → (next (Event.synced xs member chunk) c).chunks ≡ c.chunks
unfolding join_create create_done join_assemble assemble_done enable enable_done maintenance maintenance_done link_down down_done store_check check_done try_run remove remove_turn write_ended write_done marks write_turn synced_turn answer answer_turn
synced-count xs member chunk c = ap (λ (p : Pool). p.chunks) (synced-same c (sound_for c xs) member chunk (clean_to xs chunk 16))

pub answer-count : (xs : List ℕ) (number : ℕ) (a : Reply) (c : Pool) → (next (Event.answer xs number a) c).chunks ≡ c.chunks
unfolding join_create create_done join_assemble assemble_done enable enable_done maintenance maintenance_done link_down down_done store_check check_done try_run remove remove_turn write_ended write_done marks write_turn synced_turn answer answer_turn
answer-count xs number a c =
    turned (Same c) (answer_refusal c (sound_for c xs) number) _ c refl (λ e. job-same c.job c a)

-- ---- the lent map

-- what is marked is below the chunk count, and no row is set past it
abbrev pub inside : ℕ → Effect → Bool
inside n Effect.Keep = true
inside n (Effect.Mark s k) = ltb k n
inside n (Effect.ZeroRow m) = true
inside n Effect.ZeroAll = true
inside n (Effect.FillRow m k) = leb k n

carried-sound : (n : ℕ) (ef : Effect) (xs : List ℕ) → inside n ef ≡ true → Sound n xs → Sound n (carried ef xs)
carried-sound n Effect.Keep xs i s = s
carried-sound n (Effect.Mark t k) xs i s = sound-marked_for n t k xs s (ltb-true k n i)
carried-sound n (Effect.ZeroRow m) xs i s = sound-zero_row n m xs s
carried-sound n Effect.ZeroAll xs i s = sound-zeroed n xs s
carried-sound n (Effect.FillRow m k) xs i s = sound-filled n m k xs s (leb-true k n i)

kept-inside : (n : ℕ) (ef : Effect) → keeps ef ≡ true → inside n ef ≡ true
kept-inside n Effect.Keep e = refl
kept-inside n (Effect.Mark s k) e = clash e refl
kept-inside n (Effect.ZeroRow m) e = refl
kept-inside n Effect.ZeroAll e = refl
kept-inside n (Effect.FillRow m k) e = clash e refl

pub removal-inside : (n id : ℕ) (deletes : Bool) (ro : Roster) (ef : Effect) → removal_touches id deletes ro ef ≡ true → inside n ef ≡ true
removal-inside n id deletes ro Effect.Keep e = refl
removal-inside n id deletes ro (Effect.Mark s k) e = clash e refl
removal-inside n id deletes ro (Effect.ZeroRow m) e = refl
removal-inside n id deletes ro Effect.ZeroAll e = refl
removal-inside n id deletes ro (Effect.FillRow m k) e = clash e refl

pub answer-inside : (j : Job) (n : ℕ) (c : Pool) (ro : Roster) (ef : Effect) → answer_touches j c ro ef ≡ true → inside n ef ≡ true
answer-inside Job.Idle n c ro ef e = kept-inside n ef e
answer-inside (Job.Running r) n c ro ef e = kept-inside n ef e
answer-inside (Job.Removing d) n c ro ef e = removal-inside n d.id (is_deleting (session_at c.roster d.id).state) ro ef e

marks-inside : (n : ℕ) (before after : Pool) (chunk reached : ℕ) → ltb chunk n ≡ true → inside n (marks before after chunk reached).effect ≡ true
unfolding marks
marks-inside n before after chunk reached l = either (λ (t : Turn). inside n t.effect ≡ true) (eqb reached 0) _ _ refl l

pub write-inside : (c : Pool) (xs : List ℕ) (chunk reached : ℕ) → inside c.chunks (write_turn c xs chunk reached).effect ≡ true
unfolding write_turn write_ended write_refusal write_done
write-inside c xs chunk reached =
    turn-of (λ t. inside c.chunks t.effect ≡ true) (write_refusal c (sound_for c xs) chunk reached) _ c refl
    (λ e. marks-inside c.chunks c _ chunk reached (not-false (ltb chunk c.chunks) (none-applies (tests_of (Event.write xs chunk reached) c) e 4 refl)))

pub left-sound : (n : ℕ) (ef : Effect) (xs : List ℕ) → inside n ef ≡ true → sound n xs ≡ true → sound n (carried ef xs) ≡ true
left-sound n ef xs i s = sound-test n (carried ef xs) (carried-sound n ef xs i (sound-fact n xs s))
