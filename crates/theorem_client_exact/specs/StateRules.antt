-- The client's state rules, sentence by sentence as document 01 has them ("State rules"; the limits by document 02), and that 1 is given exactly where one is broken.
use Rattle.std.specs.Prelude.{◌≡◌, ◌≢◌, ◌⊎◌, ◌↔◌, true, false, ℕ, ◌+◌, ◌-◌, ◌^◌, ◌≤◌, length}
use Rattle.laws_words.specs.Words.{pick}
use Rattle.rules_base.specs.Sets.{count_to}
use Rattle.rules_pool.specs.declared.Stage.{Stage}
use Rattle.rules_pool.specs.declared.Phase.{Phase}
use Rattle.rules_pool.specs.declared.Run.{Run}
use Rattle.rules_pool.specs.declared.Job.{Job}
use Rattle.rules_pool.specs.declared.Pool.{Pool}
use Rattle.rules_pool.specs.declared.Answer.{Answer}
use Rattle.rules_pool.specs.Session.{is_normal}
use Rattle.rules_pool.specs.Still.{possible}
use Rattle.rules_pool.specs.StateRules.{valid_pool}
use Rattle.rules_client.specs.Client.{Client}
use Rattle.rules_client.specs.ClientEvents.{Event, out_of}
use Rattle.theorem_client_exact.specs.Words.{AnId, ASet, In, Low, session_of, state_of, NoSession, Normal, Reconnecting, Failed, Removing, InMaintenance, Sync, NotSync, members_of, version_of, Member}

-- ---- words

abbrev pub Marked : Pool → ℕ → Type 0
Marked p id = (session_of p id).mark ≡ true

-- "candidate": RECONNECTING, not in maintenance
abbrev pub Candidate : Pool → ℕ → Type 0
Candidate p id = Reconnecting p id × (¬ (InMaintenance p id))

abbrev pub NoneNormal : Pool → Type 0
NoneNormal p = (id : ℕ) → ¬ (Normal p id)

-- ---- sessions

pub record SessionRules (p : Pool) : Type 0 where
  -- "Count right": it counts non-sync NORMAL sessions
  pub count : p.roster.count ≡ pick p.roster.sync 0 (count_to (λ id. is_normal (state_of p id)) 16)
  -- "at most one mark, .. none while one is NORMAL"
  pub one : (i j : ℕ) → AnId i → AnId j → Marked p i → Marked p j → i ≡ j
  pub none : (i j : ℕ) → AnId i → Marked p i → ¬ (Normal p j)
  -- a mark "on FAILED or RECONNECTING"; "maintenance only on RECONNECTING or FAILED"
  pub placed : (id : ℕ) → AnId id → Marked p id ⊎ InMaintenance p id → Failed p id ⊎ Reconnecting p id
  -- "version at least 1, version + count at most 2^63 - 17"
  pub low : 1 ≤ version_of p
  pub high : version_of p + p.roster.count ≤ 2 ^ 63 - 17
  -- a membership is a set of ids
  pub ids : ASet (members_of p)
  -- "in a non-sync pool every session but a REMOVING one is a member"
  pub member : (id : ℕ) → AnId id → NotSync p → ¬ (NoSession p id ⊎ Removing p id) → Member p id
  -- "sync pool: no members, marks, flags, .. or RECONNECTING"
  pub nobody : Sync p → members_of p ≡ 0
  pub bare : (id : ℕ) → AnId id → Sync p → ¬ (Marked p id ⊎ InMaintenance p id ⊎ Reconnecting p id)

-- ---- a run

-- in case 3 until the enabling spread begins: "every member a candidate and none NORMAL", the chosen a member
pub record AllAsked (p : Pool) (source : ℕ) : Type 0 where
  pub none : NoneNormal p
  pub every : (id : ℕ) → Member p id → Candidate p id
  pub chosen : Member p source

-- in case 2 until then: "the source a candidate and none NORMAL"
pub record OneAsked (p : Pool) (source : ℕ) : Type 0 where
  pub none : NoneNormal p
  pub own : Candidate p source

-- "an enabling spread's source NORMAL, before that the source (in case 3 every member) a candidate and none NORMAL"; no source is among its own receivers
abbrev pub SourceRule : Phase → Pool → ℕ → ℕ → Type 0
SourceRule (Phase.Versions best) p source left = AllAsked p source
SourceRule (Phase.Base step) p source left = AllAsked p source × (¬ (In left source))
SourceRule Phase.LastIo p source left = AllAsked p source
SourceRule (Phase.Gather step) p source left = AllAsked p source × (¬ (In left source))
SourceRule (Phase.Enable true) p source left = AllAsked p source × (¬ (In left source))
SourceRule (Phase.Enable false) p source left = OneAsked p source × (¬ (In left source))
SourceRule (Phase.Spread step) p source left = Normal p source

-- somebody is left in hand; while ENABLE_POOL is awaited nobody else need be
abbrev pub HandRule : Phase → ℕ → Type 0
HandRule (Phase.Versions best) left = left ≢ 0
HandRule (Phase.Base step) left = left ≢ 0
HandRule Phase.LastIo left = left ≢ 0
HandRule (Phase.Gather step) left = left ≢ 0
HandRule (Phase.Enable every) left = Unit
HandRule (Phase.Spread step) left = left ≢ 0

-- "in a run: version at most 2^63 - 33 [34], receivers left are candidates, .. count plus answers still possible at most 168"; in no sync pool
pub record RunRules (p : Pool) (r : Run) : Type 0 where
  pub kind : NotSync p
  pub low : Low (version_of p)
  pub ids : ASet r.left
  pub hand : HandRule r.phase r.left
  pub left : (id : ℕ) → In r.left id → Candidate p id
  pub source : SourceRule r.phase p r.source r.left
  pub answers : r.taken + possible (members_of p) r ≤ 168

-- ---- a removal

-- the awaited peer of POOL_INFO is another id
abbrev pub PeerRule : Stage → ℕ → Type 0
PeerRule Stage.Leave id = Unit
PeerRule (Stage.Info peer) id = AnId peer × (peer ≢ id)

abbrev pub JobRules : Job → Pool → Type 0
JobRules Job.Idle p = Unit
JobRules (Job.Running r) p = RunRules p r
-- "in a removal its session is REMOVING"
JobRules (Job.Removing m) p = Removing p m.id × PeerRule m.stage m.id

-- ---- all of them, with "1 to 4,096 chunks"

pub record KeepsRules (p : Pool) : Type 0 where
  pub some : 1 ≤ p.chunks
  pub most : p.chunks ≤ 4096
  pub sessions : SessionRules p
  pub job : JobRules p.job p

-- A pool whose array is whole keeps the rules exactly when it keeps these.
abbrev pub RulesAsSaid : Type 0
RulesAsSaid = (p : Pool) → length p.roster.sessions ≡ 16 → (valid_pool p ≡ true) ↔ KeepsRules p

-- 1: "the state value breaks a rule under State rules": of every event, with any data, before every other number.
abbrev pub OneGiven : Type 0
OneGiven = (e : Event) (c : Client) → length c.pool.roster.sessions ≡ 16 → ((out_of e c).answer ≡ Answer.Refused 1) ↔ (¬ (KeepsRules c.pool))
