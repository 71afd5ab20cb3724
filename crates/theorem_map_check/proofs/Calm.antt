-- What an event of the client tells nodes that acknowledges no write and changes no session: no marks, no fill.
use mathlib.Core.Path.{◌≡◌, refl}
use mathlib.Core.Bool.{Bool, true, false, not}
use Prim.Native.Nat.{ℕ}
use lib.Dec.{eqb}
use Rattle.laws_words.specs.Words.{pick}
use Rattle.laws_words.specs.Tests.{clash, either}
use Rattle.rules_base.specs.Sets.{has}
use Rattle.rules_base.specs.declared.Op.{Op}
use Rattle.rules_pool.specs.declared.Mode.{Mode}
use Rattle.rules_pool.specs.declared.Told.{Told}
use Rattle.rules_pool.specs.declared.Roster.{Roster}
use Rattle.rules_pool.specs.declared.Pool.{Pool}
use Rattle.rules_pool.specs.declared.Turn.{Turn}
use Rattle.rules_pool.specs.Exit.{refused}
use Rattle.rules_client.specs.Joins.{join_told, create_refusal, create_done, join_create, assemble_refusal, assemble_done, join_assemble}
use Rattle.rules_client.specs.Links.{link_down, store_check, rejoin, try_run}
use Rattle.rules_client.specs.Enables.{enable, maintenance}
use Rattle.rules_client.specs.Writes.{marks, write_refusal, write_done, write_ended, sync_refusal, sync_done, synced}
use Rattle.rules_client.specs.Remove.{remove_refusal, remove}
use Rattle.rules_client.specs.Answers.{answer}
use Rattle.rules_client.specs.Client.{sound_for, clean_to, remove_turn, write_turn, answer_turn, synced_turn}
use Rattle.rules_pool.specs.Breaking.{acknowledges}
use Rattle.rules_client.specs.Events.{Event, turn_of}
use Rattle.rules_node.specs.Events as storage
use Rattle.rules_world.specs.Station.{Station}
use Rattle.model_pool.proofs.Tellings.{if-told, check-told, rejoin-told, try-told, enable-told, maintenance-told, down-told, answer-told}
use Rattle.rules_world.specs.Whole.{when_to, due_to, after_all, told_in}
use Rattle.theorem_map_check.proofs.StillRows.{Empty, brings, row_kept}

abbrev pub still : Told → Bool
still Told.Nothing = true
still (Told.Marks to chunk list version) = false
still (Told.Clears to member chunk) = true
still (Told.Infos to op member) = true
still (Told.Disable to) = true
still (Told.Off to) = true
still (Told.Extended others normals member version) = false
still (Told.Checks to tick) = true

abbrev pub Still : Turn → Type 0
Still t = still (told_in t.answer) ≡ true

abbrev Kept : Told → Type 0
Kept t = still t ≡ true

still-if : (p : Pool) (why : ℕ) (done : Turn) → Still done → Still (pick (eqb why 0) done (refused p why))
still-if p why done q = if-told Kept refl p why done q

join-still : (ro : Roster) (op : Op) (id : ℕ) → still (join_told ro op id) ≡ true
unfolding join_told
join-still ro op id = either (λ (t : Told). still t ≡ true) ro.sync Told.Nothing _ refl refl

create-still : (p : Pool) (id : ℕ) → Still (join_create p id)
unfolding join_create create_done
create-still p id = still-if p (create_refusal p id) (create_done p id) (join-still p.roster Op.AddCreate id)

assemble-still : (p : Pool) (id set version : ℕ) → Still (join_assemble p id set version)
unfolding join_assemble assemble_done
assemble-still p id set version = still-if p (assemble_refusal p id set version) (assemble_done p id set version) (join-still p.roster Op.AddAssemble id)

remove-still : (p : Pool) (sound : Bool) (id : ℕ) (mode : Mode) → Still (remove p sound id mode)
unfolding remove
remove-still p sound id mode = still-if p (remove_refusal p sound id mode) _ refl

sync-still : (p : Pool) (sound : Bool) (member chunk clean : ℕ) → Still (synced p sound member chunk clean)
unfolding synced sync_done
sync-still p sound member chunk clean = still-if p (sync_refusal p sound member chunk clean) (sync_done p member chunk) refl

-- a write that is not acknowledged
abbrev Unwritten : Turn → Type 0
Unwritten t = acknowledges t.answer ≡ false → Still t

write-still : (p : Pool) (sound : Bool) (chunk reached : ℕ) → Unwritten (write_ended p sound chunk reached)
unfolding write_ended write_done marks
write-still p sound chunk reached =
    either Unwritten (eqb (write_refusal p sound chunk reached) 0) (write_done p chunk reached) (refused p (write_refusal p sound chunk reached))
    (either Unwritten (eqb reached 0) _ _ (λ u. refl) (λ u. clash refl u))
    (λ u. refl)

-- every event but extend
abbrev pub is_extend : Event → Bool
is_extend (Event.join_create id) = false
is_extend (Event.join_assemble id set version) = false
is_extend (Event.enable id) = false
is_extend (Event.maintenance id) = false
is_extend (Event.link_down id) = false
is_extend (Event.store_check id) = false
is_extend (Event.rejoin id) = false
is_extend Event.try_run = false
is_extend (Event.remove xs id mode) = false
is_extend (Event.write xs chunk reached) = false
is_extend (Event.synced xs member chunk) = false
is_extend (Event.answer xs number reply) = false
is_extend (Event.extend xs) = true

pub calm : (e : Event) (p : Pool) → is_extend e ≡ false → acknowledges (turn_of e p).answer ≡ false → Still (turn_of e p)
unfolding remove_turn write_turn answer_turn synced_turn
calm (Event.join_create id) p x u = create-still p id
calm (Event.join_assemble id set version) p x u = assemble-still p id set version
calm (Event.enable id) p x u = enable-told Kept refl p id
calm (Event.maintenance id) p x u = maintenance-told Kept refl (λ i. refl) p id
calm (Event.link_down id) p x u = down-told Kept refl (λ i. refl) p id
calm (Event.store_check id) p x u = check-told Kept refl p id
calm (Event.rejoin id) p x u = rejoin-told Kept refl p id
calm Event.try_run p x u = try-told Kept refl p
calm (Event.remove xs id mode) p x u = remove-still p (sound_for p xs) id mode
calm (Event.write xs chunk reached) p x u = write-still p (sound_for p xs) chunk reached u
calm (Event.synced xs member chunk) p x u = sync-still p (sound_for p xs) member chunk (clean_to xs chunk 16)
calm (Event.answer xs number reply) p x u = answer-told Kept refl (λ i. refl) p (sound_for p xs) number reply
calm (Event.extend xs) p x u = clash refl x

-- ---- at a node
module _ (m : ℕ) where
  when : (b : Bool) (e : storage.Event) (s : Station) → brings e ≡ false → s.node.id ≡ m → Empty m s.map → Empty m (after_all (when_to b e) s).map
  when true e s n i k = row_kept m e s n i k
  when false e s n i k = k

  pub told-kept : (t : Told) (s : Station) → still t ≡ true → s.node.id ≡ m → Empty m s.map → Empty m (after_all (due_to t m) s).map
  told-kept Told.Nothing s q i k = k
  told-kept (Told.Marks to chunk list version) s q i k = clash q refl
  told-kept (Told.Clears to member chunk) s q i k = when (has to m) (storage.Event.synced member chunk) s refl i k
  told-kept (Told.Infos to op member) s q i k = when (has to m) (storage.Event.pool_info op member) s refl i k
  told-kept (Told.Disable to) s q i k = when (eqb to m) storage.Event.map_disable s refl i k
  told-kept (Told.Off to) s q i k = when (eqb to m) storage.Event.enable0 s refl i k
  told-kept (Told.Extended others normals member version) s q i k = clash q refl
  told-kept (Told.Checks to tick) s q i k = k
