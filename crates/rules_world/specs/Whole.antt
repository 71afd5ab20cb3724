-- One client and its nodes, and what can happen to them, one thing after the other. What an event does is what the contracts of client and node say, down to the bytes of the nodes' maps.
use Rattle.std.specs.Prelude.{Bool, true, false, ◌&&◌, List, [], ◌∷◌, ◌++◌, ℕ, eqb}
use Rattle.laws_words.specs.Words.{pick}
use Rattle.rules_base.specs.Sets.{has}
use Rattle.rules_base.specs.declared.Op.{Op}
use Rattle.rules_pool.specs.declared.State.{State}
use Rattle.rules_pool.specs.declared.Pool.{Pool}
use Rattle.rules_pool.specs.declared.Message.{Message}
use Rattle.rules_pool.specs.declared.Told.{Told}
use Rattle.rules_pool.specs.declared.Reply.{Reply}
use Rattle.rules_pool.specs.declared.Answer.{Answer}
use Rattle.rules_pool.specs.Session.{is_nothing}
use Rattle.rules_pool.specs.Sessions.{session_at}
use Rattle.rules_node.specs.Change.{fresh}
use Rattle.rules_pool.specs.Breaking.{is_accepted}
use Rattle.rules_pool.specs.Breaking as breaking
use Rattle.rules_client.specs.Events.{Event, turn_of}
use Rattle.rules_node.specs.Events as storage
use Rattle.rules_node.specs.Turns as verdict
use Rattle.rules_world.specs.Station.{Station, does}
use Rattle.rules_world.specs.Together.{upd, Delivered, deliver}

-- ---- the world

-- What became of the awaited message: it is under way, or it came to its node, which gave this reply.
pub data Fate : Type 0 where
  under_way : Fate
  came : Reply → Fate

-- The client's pool; the node of each id, with its two maps; the last message that the client awaits or awaited, and what became of it. The client map has no part in this: what is lent with an event
-- may be any bytes. Nor has map check: a tick and an answer to it leave the pool as it was (clientevents: pool-stays), and MAP_CHECK changes nothing at a node.
pub record World : Type 0 where
  pub pool : Pool
  pub nodes : ℕ → Station
  pub awaited : Message
  pub fate : Fate

-- the state of an id's session
abbrev pub state_in : World → ℕ → State
state_in w j = (session_at w.pool.roster j).state

-- ---- what can happen

-- node: an event at the node of an id that no message of the client brings.
-- client: an event of the client. It may tell nodes something without awaiting an answer: that arrives at once at the nodes of the set, and never at the others.
-- hand_enable: the node is enabled by hand, with the pool's version and set, and the client's enable is the next event.
-- arrives: the awaited message comes to its node, which answers. A MAP_SEND comes in parts of these lengths.
-- breaks_off: it comes, a MAP_SEND perhaps in part, but no good answer comes of it.
-- another: another node stands at the id: a fresh one, with any two maps.
pub data Happening : Type 0 where
  node : ℕ → storage.Event → Happening
  client : Event → ℕ → Happening
  hand_enable : ℕ → Happening
  arrives : List ℕ → Happening
  breaks_off : List ℕ → Happening
  another : ℕ → List ℕ → List ℕ → Happening

-- the client accepts an event
abbrev pub accepts : World → Event → Bool
accepts w e = is_accepted (turn_of e w.pool).answer

-- it is a write that was acknowledged: the client's answer says so
abbrev pub acknowledges : World → Event → Bool
acknowledges w e = breaking.acknowledges (turn_of e w.pool).answer

-- a node accepts an event
abbrev pub takes : Station → storage.Event → Bool
takes s e = verdict.is_accepted (does s e).answer

-- ---- what the client tells without awaiting it

abbrev pub when_to : Bool → storage.Event → List storage.Event
when_to to e = pick to (e ∷ []) []

-- the events that it is at node j, in their order
abbrev pub due_to : Told → ℕ → List storage.Event
due_to Told.Nothing j = []
due_to (Told.Marks to chunk list version) j = when_to (has to j) (storage.Event.write chunk list version)
due_to (Told.Clears to member chunk) j = when_to (has to j) (storage.Event.synced member chunk)
due_to (Told.Infos to op member) j = when_to (has to j) (storage.Event.pool_info op member)
due_to (Told.Disable to) j = when_to (eqb to j) storage.Event.map_disable
due_to (Told.Off to) j = when_to (eqb to j) storage.Event.enable0
due_to (Told.Checks to tick) j = []
due_to (Told.Extended others normals member version) j =
    when_to (has others j) (storage.Event.pool_info Op.AddCreate member) ++ when_to (has normals j) (storage.Event.fill member version)

-- a node after events, and whether it accepts them all
abbrev pub after_all : List storage.Event → Station → Station
after_all [] s = s
after_all (e ∷ es) s = after_all es (does s e).station

abbrev pub takes_all : List storage.Event → Station → Bool
takes_all [] s = true
takes_all (e ∷ es) s = takes s e && takes_all es (does s e).station

abbrev pub told_in : Answer → Told
told_in (Answer.Refused n) = Told.Nothing
told_in (Answer.Done s) = s.told

-- ---- what happens, happens

-- an event of the client, by its answer and the pool that it leaves
abbrev pub acted : Answer → Pool → ℕ → World → World
acted (Answer.Refused n) p got w = w
acted (Answer.Done s) p got w =
    record {
      pool = p;
      nodes = λ j. pick (has got j) (after_all (due_to s.told j) (w.nodes j)) (w.nodes j);
      awaited = pick (is_nothing s.awaited) w.awaited s.awaited;
      fate = pick (is_nothing s.awaited) w.fate Fate.under_way;
    }

abbrev pub by_client : Event → ℕ → World → World
by_client e got w = acted (turn_of e w.pool).answer (turn_of e w.pool).pool got w

-- the nodes and the fate of the awaited message
abbrev pub with_nodes : World → (ℕ → Station) → Fate → World
with_nodes w f fate' = record { pool = w.pool; nodes = f; awaited = w.awaited; fate = fate' }

-- an event at the node of an id
abbrev pub by_node : ℕ → storage.Event → World → World
by_node j e w = with_nodes w (upd w.nodes j (does (w.nodes j) e).station) w.fate

-- enable 1 with the pool's version and set
abbrev pub enabling : World → storage.Event
enabling w = storage.Event.enable1 w.pool.roster.version w.pool.roster.members

-- the awaited message delivered
abbrev pub delivered : List ℕ → World → Delivered
delivered lengths w = deliver lengths w.awaited w.nodes

unfoldable pub after : World → Happening → World
after w (Happening.node j e) = by_node j e w
after w (Happening.client e got) = by_client e got w
after w (Happening.hand_enable j) = by_client (Event.enable j) 0 (by_node j (enabling w) w)
after w (Happening.arrives lengths) = with_nodes w (delivered lengths w).nodes (Fate.came (delivered lengths w).reply)
after w (Happening.breaks_off lengths) = with_nodes w (delivered lengths w).nodes (Fate.came Reply.Failed)
after w (Happening.another j xs ys) = with_nodes w (upd w.nodes j (record { node = fresh j w.pool.chunks; map = xs; staging = ys })) w.fate
