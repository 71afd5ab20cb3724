-- The client and its nodes together, and one exchange of a recovery run: the message that the client sent and awaits goes to its node, and that node's
-- answer goes back to the client, under the message's number.
use Rattle.std.specs.Prelude.{List, [], ◌∷◌, ℕ, zero, suc, ◌+◌, eqb, Some, None}
use Rattle.laws_words.specs.Words.{pick}
use Rattle.rules_base.specs.Parts.{part_of}
use Rattle.rules_pool.specs.declared.Job.{Job}
use Rattle.rules_pool.specs.declared.Pool.{Pool}
use Rattle.rules_pool.specs.declared.Message.{Message}
use Rattle.rules_pool.specs.declared.Told.{Told}
use Rattle.rules_pool.specs.declared.Sent.{Sent}
use Rattle.rules_pool.specs.declared.Answer.{Answer}
use Rattle.rules_pool.specs.declared.Reply.{Reply}
use Rattle.rules_pool.specs.declared.Turn.{Turn}
use Rattle.rules_pool.specs.Session.{is_delete}
use Rattle.rules_node.specs.declared.Answer as says
use Rattle.rules_client.specs.Client.{carried, answer_turn}
use Rattle.rules_node.specs.Events.{Event}
use Rattle.rules_world.specs.Station.{Station, Did, does}

-- f with s at id k
unfoldable pub upd : (ℕ → Station) → ℕ → Station → ℕ → Station
upd f k s j = pick (eqb j k) s (f j)

-- ---- a message goes to its node

-- the nodes after a message, and the answer that goes back to the client
pub record Delivered : Type 0 where
  pub nodes : ℕ → Station
  pub reply : Reply

-- a node's answer as the client takes it: a refusal is a failed answer
abbrev pub reply_of : says.Answer → Reply
reply_of (says.Answer.Refused n) = Reply.Failed
reply_of says.Answer.Done = Reply.Good None
reply_of (says.Answer.Version v) = Reply.Good (Some v)

-- a message to the node k, which did d
abbrev pub by_one : (ℕ → Station) → ℕ → Did → Delivered
by_one f k d = record { nodes = upd f k d.station; reply = reply_of d.answer }

-- where a reply is good, what comes next, else this
abbrev pub if_good : Reply → Delivered → Delivered → Delivered
if_good Reply.Failed next this = this
if_good (Reply.Good b) next this = next

-- the receiver takes a part of the source's map: offset, length, from whom, to whom
abbrev pub takes_from : ℕ → ℕ → ℕ → ℕ → (ℕ → Station) → Did
takes_from offset l from to f = does (f to) (Event.take_part offset (part_of offset l (f from).map))

-- MAP_SEND, part by part by their lengths, from an offset on: the source gives a part of its map, and the receiver takes it. A good answer means that every part was given and
-- taken; the first refusal ends it, and what was taken before stays taken.
unfoldable pub send : List ℕ → ℕ → ℕ → ℕ → (ℕ → Station) → Delivered
send [] offset from to f = record { nodes = f; reply = Reply.Good None }
send (l ∷ ls) offset from to f =
    if_good (reply_of (does (f from) (Event.give_part offset l)).answer)
    (if_good (reply_of (takes_from offset l from to f).answer) (send ls (offset + l) from to (upd f to (takes_from offset l from to f).station)) (by_one f to (takes_from offset l from to f)))
    (record { nodes = f; reply = Reply.Failed })

-- An awaited message delivered; the lengths are those of the parts in which a MAP_SEND goes.
abbrev pub deliver : List ℕ → Message → (ℕ → Station) → Delivered
deliver lengths Message.Nothing f = record { nodes = f; reply = Reply.Failed }
deliver lengths (Message.GetVersion to) f = by_one f to (does (f to) Event.map_get_ver)
deliver lengths (Message.Ready to keep) f = by_one f to (does (f to) (Event.map_ready keep))
deliver lengths (Message.Send from to) f = send lengths 0 from to f
deliver lengths (Message.Done to enable version members) f = by_one f to (does (f to) (Event.map_done enable version members))
deliver lengths (Message.LastIo to chosen) f = by_one f to (does (f to) (Event.last_io_to_map chosen))
deliver lengths (Message.Enable to version members) f = by_one f to (does (f to) (Event.enable1 version members))
deliver lengths (Message.Leave to mode) f = by_one f to (does (f to) (Event.leave (is_delete mode)))
deliver lengths (Message.Info to op member) f = by_one f to (does (f to) (Event.pool_info op member))

-- The one message of a run that is not awaited, MAP_DISABLE, delivered. The others are sent by other events: they reach no node here.
abbrev pub tell : Told → (ℕ → Station) → ℕ → Station
tell Told.Nothing f = f
tell (Told.Marks to chunk list version) f = f
tell (Told.Clears to member chunk) f = f
tell (Told.Infos to op member) f = f
tell (Told.Disable to) f = upd f to (does (f to) Event.map_disable).station
tell (Told.Off to) f = f
tell (Told.Extended others normals member version) f = f
tell (Told.Checks to tick) f = f

-- ---- the client hears the answer

-- The client's state and map, what its last accepted event handed back, and the node of each id; and how the transport cuts what it carries: the lengths of the parts of
-- the MAP_SEND that is delivered when a run has taken so many answers, for each such number its own.
pub record World : Type 0 where
  pub pool : Pool
  pub map : List ℕ
  pub sent : Sent
  pub nodes : ℕ → Station
  pub cuts : ℕ → List ℕ

-- what the last accepted event handed back: a refusal hands nothing back
abbrev pub last_sent : Answer → Sent → Sent
last_sent (Answer.Refused n) before = before
last_sent (Answer.Done s) before = s

-- the nodes after what the client sends without awaiting it
abbrev pub afterward : Answer → (ℕ → Station) → ℕ → Station
afterward (Answer.Refused n) f = f
afterward (Answer.Done s) f = tell s.told f

abbrev pub heard : World → (ℕ → Station) → Turn → World
heard w f t =
    record { pool = t.pool; map = carried t.effect w.map; sent = last_sent t.answer w.sent; nodes = afterward t.answer f; cuts = w.cuts }

-- the client's answer event, by the definitions that the contract of its method cites
abbrev pub hears : World → Delivered → World
hears w d = heard w d.nodes (answer_turn w.pool w.map w.sent.number d.reply)

-- the answers that the run in hand has taken
abbrev pub answers_taken : Job → ℕ
answers_taken Job.Idle = 0
answers_taken (Job.Running r) = r.taken
answers_taken (Job.Removing r) = 0

-- one exchange
unfoldable pub exchange : World → World
exchange w = hears w (deliver (w.cuts (answers_taken w.pool.job)) w.sent.awaited w.nodes)

-- n exchanges, one after the other
unfoldable pub exchanges : ℕ → World → World
exchanges zero w = w
exchanges (suc n) w = exchanges n (exchange w)
