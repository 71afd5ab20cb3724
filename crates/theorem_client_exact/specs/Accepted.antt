-- When the client takes an event, and which number it gives where it does not, sentence by sentence as documents 01 and 02 have it.
use Rattle.std.specs.Prelude.{◌≡◌, ◌≢◌, ◌⊎◌, ◌↔◌, List, [], ◌∷◌, ℕ, ◌<◌}
use Rattle.rules_base.specs.Chunk.{dirty}
use Rattle.rules_pool.specs.declared.Pool.{Pool}
use Rattle.rules_pool.specs.declared.Answer.{Answer}
use Rattle.rules_client.specs.Client.{Client}
use Rattle.rules_client.specs.Events as pool
use Rattle.rules_client.specs.ClientEvents.{Event, out_of}
use Rattle.theorem_client_exact.specs.Words.{AnId, ASet, In, Low, SoundMap, NoSession, HasSession, Created, Normal, Reconnecting, Cut, Failed, RemovingIn, Removing, InMaintenance, SomeNormal, NotSync, members_of, version_of, Member, SomeUnused, NotWritten, NotAssembled, NoJob, NoRun, AwaitedPeer, Accepted, InOrder}

-- what must hold, and the number that is given where it does not
pub record Demand : Type 1 where
  pub holds : Type 0
  pub number : ℕ

infix 3 ◌else◌
abbrev pub ◌else◌ : Type 0 → ℕ → Demand
h else n = record { holds = h; number = n }

-- another NORMAL member, clean at the chunk
pub record CleanElsewhere (p : Pool) (xs : List ℕ) (member chunk : ℕ) : Type 0 where
  pub who : ℕ
  pub other : who ≢ member
  pub normal : Normal p who
  pub clean : dirty xs who chunk ≡ 0

-- In the one order: 2, 3, 4, 5, 6, 7 or 8, 9, 17, 10, 11, 19, 12, 13, 14. In the words of the table of refusals:
-- 2 "a lent map .. is not 8,192 bytes, or has a bit set past the chunk count"; 3 "an id above 15, or a bit above 15 in any set"; 4 "a chunk not below the pool's chunk count";
-- 5 "the event is not for this kind of pool": "A sync pool: .. assemble, enable, maintenance, write, synced and try get 5", and extend and map check;
-- 6 "a job is in hand that bars the event": "a run bars all but link down and answers. A removal also lets writes and syncs by";
-- 7 "the event's id has no session (or 8: has one)"; 9 "the transition .. is not allowed"; 10 "a membership test named below does not hold".
abbrev pub demands : pool.Event → Pool → List Demand
-- "Join, create: new session CREATED, member entered (10 if it is one already)"; "Joining by create becomes refusal 17 once a write has been acknowledged" (a sync pool has none)
demands (pool.Event.join_create id) p =
    (AnId id else 3)
    ∷ (NoJob p else 6)
    ∷ (NoSession p id else 8)
    ∷ ((NotSync p → NotWritten p) else 17)
    ∷ ((¬ (Member p id)) else 10)
    ∷ []
-- "The set must hold the id and equal ours (else 10); an empty membership takes it over instead"; 14: "the one brought at join assemble"
demands (pool.Event.join_assemble id set version) p =
    ((AnId id × ASet set) else 3)
    ∷ (NotSync p else 5)
    ∷ (NoJob p else 6)
    ∷ (NoSession p id else 8)
    ∷ ((In set id × (members_of p ≢ 0 → set ≡ members_of p)) else 10)
    ∷ (Low version else 14)
    ∷ []
-- "Enable: from CREATED .. On RECONNECTING in maintenance .. Else 9"; "Enabling a CREATED session is refused (number 17) once the pool has acknowledged a write or has been assembled from a node's
-- member set"; 14: "the pool's at enable from CREATED"
demands (pool.Event.enable id) p =
    (AnId id else 3)
    ∷ (NotSync p else 5)
    ∷ (NoJob p else 6)
    ∷ (HasSession p id else 7)
    ∷ ((Created p id ⊎ (Reconnecting p id × InMaintenance p id)) else 9)
    ∷ ((Created p id → NotWritten p × NotAssembled p) else 17)
    ∷ ((Created p id → Low (version_of p)) else 14)
    ∷ []
-- "Maintenance: NORMAL .. Else 9"
demands (pool.Event.maintenance id) p =
    (AnId id else 3)
    ∷ (NotSync p else 5)
    ∷ (NoJob p else 6)
    ∷ (HasSession p id else 7)
    ∷ (Normal p id else 9)
    ∷ []
-- "Link down: CREATED, NORMAL, RECONNECTING to FAILED; else 9"; "link down of the awaited peer (a REMOVING one stays so)"
demands (pool.Event.link_down id) p =
    (AnId id else 3)
    ∷ (HasSession p id else 7)
    ∷ ((Created p id ⊎ Normal p id ⊎ Reconnecting p id ⊎ (Removing p id × AwaitedPeer id p.job)) else 9)
    ∷ []
-- "Store check good: FAILED or CREATED .. Else 9"; sync pool: "store check FAILED to NORMAL (from CREATED: 9)"
demands (pool.Event.store_check id) p =
    (AnId id else 3)
    ∷ (NoJob p else 6)
    ∷ (HasSession p id else 7)
    ∷ ((Failed p id ⊎ (Created p id × NotSync p)) else 9)
    ∷ []
-- "A rejoin on cause IO, or of a session that is not FAILED, is refusal 9", in either kind of pool
demands (pool.Event.rejoin id) p =
    (AnId id else 3)
    ∷ (NoJob p else 6)
    ∷ (HasSession p id else 7)
    ∷ (Cut p id else 9)
    ∷ []
demands pool.Event.try_run p =
    (NotSync p else 5)
    ∷ (NoJob p else 6)
    ∷ []
-- "Remove (delete or disassemble): any state .. a repeat in the same mode (another mode: 9)"
demands (pool.Event.remove xs id mode) p =
    (SoundMap p.chunks xs else 2)
    ∷ (AnId id else 3)
    ∷ (NoJob p else 6)
    ∷ (HasSession p id else 7)
    ∷ ((Removing p id → RemovingIn mode p id) else 9)
    ∷ []
-- 11: "at a write or sync, no session is NORMAL; or a reached set names an id that is not"
demands (pool.Event.write xs chunk reached) p =
    (SoundMap p.chunks xs else 2)
    ∷ (ASet reached else 3)
    ∷ (chunk < p.chunks else 4)
    ∷ (NotSync p else 5)
    ∷ (NoRun p else 6)
    ∷ ((SomeNormal p × ((id : ℕ) → In reached id → Normal p id)) else 11)
    ∷ []
-- "Synced (member, chunk; a NORMAL node's map is lent): member NORMAL, chunk dirty for it in that map, another NORMAL member clean there, else 12"
demands (pool.Event.synced xs member chunk) p =
    (SoundMap p.chunks xs else 2)
    ∷ (AnId member else 3)
    ∷ (chunk < p.chunks else 4)
    ∷ (NotSync p else 5)
    ∷ (NoRun p else 6)
    ∷ (HasSession p member else 7)
    ∷ (SomeNormal p else 11)
    ∷ ((Normal p member × (dirty xs member chunk ≡ 1) × CleanElsewhere p xs member chunk) else 12)
    ∷ []
-- 13: "the answer's number is not that of the awaited message, or nothing is awaited"
demands (pool.Event.answer xs number a) p =
    (SoundMap p.chunks xs else 2)
    ∷ (((¬ (NoJob p)) × (number ≡ p.number)) else 13)
    ∷ []
-- "In a sync pool it is refusal 5; with no NORMAL session it is refusal 11, checked before 19"; "refused (number 19) exactly when no such id exists"
demands (pool.Event.extend xs) p =
    (SoundMap p.chunks xs else 2)
    ∷ (NotSync p else 5)
    ∷ (NoJob p else 6)
    ∷ (SomeNormal p else 11)
    ∷ (SomeUnused p else 19)
    ∷ []

abbrev pub client_demands : Event → Client → List Demand
client_demands (Event.of_pool e) c = demands e c.pool
-- "Checks and their answers are barred during any job (refusal 6)"
client_demands (Event.tick xs) c =
    (SoundMap c.pool.chunks xs else 2)
    ∷ (NotSync c.pool else 5)
    ∷ (NoJob c.pool else 6)
    ∷ []
-- "Answers carry their tick's number; another number, or a member whose answer is not due, is refusal 13"
client_demands (Event.check_answer xs number member empty) c =
    (SoundMap c.pool.chunks xs else 2)
    ∷ (AnId member else 3)
    ∷ (NotSync c.pool else 5)
    ∷ (NoJob c.pool else 6)
    ∷ (HasSession c.pool member else 7)
    ∷ (((number ≡ c.check.tick) × In c.check.due member) else 13)
    ∷ []

-- all of them hold
abbrev pub All : List Demand → Type 0
All [] = Unit
All (d ∷ ds) = d.holds × All ds

-- the first that does not hold has this number
abbrev pub FirstBroken : List Demand → ℕ → Type 0
FirstBroken [] n = ⊥
FirstBroken (d ∷ ds) n = ((¬ d.holds) × (n ≡ d.number)) ⊎ (d.holds × FirstBroken ds n)

-- An event is accepted exactly when all that it demands holds.
abbrev pub AcceptedWhen : Type 0
AcceptedWhen = (e : Event) (c : Client) → InOrder c.pool → Accepted (out_of e c).answer ↔ All (client_demands e c)

-- It is refused with a number exactly when the first of its demands that does not hold is the one of that number.
abbrev pub NumberGiven : Type 0
NumberGiven = (e : Event) (c : Client) → InOrder c.pool → (n : ℕ) → ((out_of e c).answer ≡ Answer.Refused n) ↔ FirstBroken (client_demands e c) n
