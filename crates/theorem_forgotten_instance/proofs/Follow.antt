-- A history followed by computing. Of the world: the pool, the states of the nodes 0, 1 and 2, what is awaited. Of the history: who joined, and what is owed of chunk 3. The nodes' bytes are not computed;
-- that they stay sound is a law. The pool has twelve chunks.
use Rattle.std.specs.Prelude.{Option, Some, None}
use mathlib.Core.Bool.{Bool, true, false, ◌&&◌, ◌||◌, not}
use mathlib.Core.List.{List, [], ◌∷◌}
use Prim.Native.Nat.{ℕ, zero, suc, ◌+◌}
use lib.Dec.{eqb, ltb}
use Rattle.laws_words.specs.Words.{pick}
use Rattle.rules_base.specs.Sets.{has}
use Rattle.rules_pool.specs.declared.Mode.{Mode}
use Rattle.rules_pool.specs.declared.Message.{Message}
use Rattle.rules_pool.specs.declared.Reply.{Reply}
use Rattle.rules_pool.specs.declared.Answer.{Answer}
use Rattle.rules_pool.specs.declared.Pool.{Pool}
use Rattle.rules_pool.specs.declared.Turn.{Turn}
use Rattle.rules_pool.specs.declared.State.{State}
use Rattle.rules_pool.specs.Session.{is_nothing, is_free, is_normal, is_created, is_deleting, is_delete}
use Rattle.rules_pool.specs.declared.Kind.{Kind}
use Rattle.rules_pool.specs.Sessions.{session_at, ids_of}
use Rattle.rules_pool.specs.Jobs.{is_idle}
use Rattle.rules_client.specs.Joins.{join_create, join_assemble}
use Rattle.rules_client.specs.Extend.{picked, extend}
use Rattle.rules_client.specs.Enables.{enable}
use Rattle.rules_client.specs.Links.{link_down, store_check}
use Rattle.rules_client.specs.Writes.{write_ended}
use Rattle.rules_client.specs.Remove.{remove}
use Rattle.rules_client.specs.Answers.{answer}
use Rattle.rules_pool.specs.Breaking.{is_accepted, acknowledges}
use Rattle.rules_client.specs.Events.{Event}
use Rattle.rules_node.specs.declared.Node.{Node}
use Rattle.rules_node.specs.States.{is_serving}
use Rattle.rules_node.specs.Change.{fresh}
use Rattle.rules_node.specs.Events as storage
use Rattle.rules_node.specs.Turns as verdict
use Rattle.rules_world.specs.Together.{reply_of}
use Rattle.theorem_instances.proofs.Honest.{bytes, cuts}
use Rattle.theorem_honest.proofs.Stations.{map_taken}
use Rattle.rules_world.specs.Whole.{Fate, Happening, due_to, told_in}
use Rattle.rules_world.specs.History.{origin_of, is_join, is_creation, is_message, keeps_store}

-- ---- one for each of the ids 0, 1 and 2

pub record Three (A : Type 0) : Type 0 where
  pub a : A
  pub b : A
  pub c : A

abbrev pub at : {A : Type 0} → Three A → ℕ → A
at t zero = t.a
at t (suc zero) = t.b
at t (suc (suc k)) = t.c

abbrev pub each : {A : Type 0} → (ℕ → A) → Three A
each f = record { a = f 0; b = f 1; c = f 2 }

abbrev pub all : (ℕ → Bool) → Bool
all f = f 0 && (f 1 && f 2)

-- no id from 3 on is in the set
abbrev pub none_to : ℕ → ℕ → Bool
none_to s zero = true
none_to s (suc n) = none_to s n && not (has s (n + 3))

abbrev pub few : ℕ → Bool
few s = none_to s 13

-- ---- what is followed

pub record View : Type 0 where
  pub pool : Pool
  pub nodes : Three Node
  pub awaited : Message
  pub fate : Fate
  pub joined : Three Bool
  pub waits : Three Bool
  pub acked : Bool
  pub owed : Three Bool

abbrev pub state_of : Pool → ℕ → State
state_of p j = (session_at p.roster j).state

-- what the client is asked
pub data Ask : Type 0 where
  joins : ℕ → Ask
  assembles : ℕ → ℕ → Ask
  downs : ℕ → Ask
  checks : ℕ → Ask
  removes : ℕ → Mode → Ask
  writes : ℕ → Ask
  extends : Ask
  answers : Ask

-- own: a node's own event. asks: the client is asked, and what it tells arrives at the nodes of the set. hand: the node is enabled by hand. comes: the awaited message arrives. anew: another node stands at the id.
pub data Item : Type 0 where
  own : ℕ → storage.Event → Item
  asks : Ask → ℕ → Item
  hand : ℕ → Item
  comes : Item
  anew : ℕ → Item

abbrev pub reply_in : Fate → Reply
reply_in Fate.under_way = Reply.Failed
reply_in (Fate.came r) = r

abbrev pub event_of : View → Ask → Event
event_of v (Ask.joins id) = Event.join_create id
event_of v (Ask.assembles id set) = Event.join_assemble id set (at v.nodes id).version
event_of v (Ask.downs id) = Event.link_down id
event_of v (Ask.checks id) = Event.store_check id
event_of v (Ask.removes id mode) = Event.remove bytes id mode
event_of v (Ask.writes reached) = Event.write bytes 3 reached
event_of v Ask.extends = Event.extend bytes
event_of v Ask.answers = Event.answer bytes v.pool.number (reply_in v.fate)

abbrev pub happening : View → Item → Happening
happening v (Item.own j e) = Happening.node j e
happening v (Item.asks a got) = Happening.client (event_of v a) got
happening v (Item.hand j) = Happening.hand_enable j
happening v Item.comes = Happening.arrives (cuts 0)
happening v (Item.anew j) = Happening.another j bytes bytes

-- ---- what it does

-- the lent map is sound
abbrev pub turn_by : View → Ask → Pool → Turn
turn_by v (Ask.joins id) p = join_create p id
turn_by v (Ask.assembles id set) p = join_assemble p id set (at v.nodes id).version
turn_by v (Ask.downs id) p = link_down p id
turn_by v (Ask.checks id) p = store_check p id
turn_by v (Ask.removes id mode) p = remove p true id mode
turn_by v (Ask.writes reached) p = write_ended p true 3 reached
turn_by v Ask.extends p = extend p true
turn_by v Ask.answers p = answer p true v.pool.number (reply_in v.fate)

-- both maps of a node are sound
abbrev pub node_after : storage.Event → Node → Node
node_after e n = (storage.turn_of e n 0).node

abbrev pub taken : storage.Event → Node → Bool
taken e n = verdict.is_accepted (storage.turn_of e n 0).answer

abbrev pub all_after : List storage.Event → Node → Node
all_after [] n = n
all_after (e ∷ es) n = all_after es (node_after e n)

abbrev pub all_taken : List storage.Event → Node → Bool
all_taken [] n = true
all_taken (e ∷ es) n = taken e n && all_taken es (node_after e n)

-- f with x for k
abbrev pub with : {A : Type 0} → Three A → ℕ → A → Three A
with t k x = each (λ j. pick (eqb j k) x (at t j))

abbrev pub taken_in : Ask → Pool → ℕ → Bool
taken_in (Ask.joins id) p j = eqb j id
taken_in (Ask.assembles id set) p j = eqb j id
taken_in (Ask.downs id) p j = false
taken_in (Ask.checks id) p j = false
taken_in (Ask.removes id mode) p j = false
taken_in (Ask.writes reached) p j = false
taken_in Ask.extends p j = eqb j (picked p.roster)
taken_in Ask.answers p j = false

abbrev pub is_write : Ask → Bool
is_write (Ask.joins id) = false
is_write (Ask.assembles id set) = false
is_write (Ask.downs id) = false
is_write (Ask.checks id) = false
is_write (Ask.removes id mode) = false
is_write (Ask.writes reached) = true
is_write Ask.extends = false
is_write Ask.answers = false

abbrev pub in_pool : Pool → ℕ → Bool
in_pool p m = has p.roster.members m && not (is_deleting (state_of p m))

-- m comes to miss the chunk: an acknowledged write does not reach it; it is added, and the chunk was acknowledged
abbrev pub misses : Ask → View → Answer → ℕ → Bool
misses (Ask.joins id) v x m = false
misses (Ask.assembles id set) v x m = false
misses (Ask.downs id) v x m = false
misses (Ask.checks id) v x m = false
misses (Ask.removes id mode) v x m = false
misses (Ask.writes reached) v x m = acknowledges x && (not (has reached m) && in_pool v.pool m)
misses Ask.extends v x m = v.acked && eqb (picked v.pool.roster) m
misses Ask.answers v x m = false

-- the client's answer, and the pool that it leaves
abbrev pub asked : Answer → Pool → View → Ask → ℕ → View
asked (Answer.Refused n) p v a got = v
asked (Answer.Done s) p v a got =
    record {
      pool = p;
      nodes = each (λ j. pick (has got j) (all_after (due_to s.told j) (at v.nodes j)) (at v.nodes j));
      awaited = pick (is_nothing s.awaited) v.awaited s.awaited;
      fate = pick (is_nothing s.awaited) v.fate Fate.under_way;
      joined = each (λ j. at v.joined j || taken_in a v.pool j);
      waits = each (λ j. at v.waits j && not (taken_in a v.pool j));
      acked = v.acked || (is_write a && acknowledges (Answer.Done s));
      owed = each (λ m. (misses a v (Answer.Done s) m || at v.owed m) && in_pool p m);
    }

abbrev pub by_node : View → ℕ → storage.Event → View
by_node v k e =
    record {
      pool = v.pool;
      nodes = with v.nodes k (node_after e (at v.nodes k));
      awaited = v.awaited;
      fate = v.fate;
      joined = each (λ j. at v.joined j || (eqb j k && is_join (origin_of e)));
      waits = each (λ j. at v.waits j || (eqb j k && is_creation (origin_of e)));
      acked = v.acked;
      owed = each (λ m. at v.owed m && in_pool v.pool m);
    }

abbrev pub enabling : View → storage.Event
enabling v = storage.Event.enable1 v.pool.roster.version v.pool.roster.members

abbrev pub by_hand : Answer → Pool → View → ℕ → View
by_hand (Answer.Refused n) p v k = v
by_hand (Answer.Done s) p v k =
    record {
      pool = p;
      nodes = with v.nodes k (node_after (enabling v) (at v.nodes k));
      awaited = pick (is_nothing s.awaited) v.awaited s.awaited;
      fate = pick (is_nothing s.awaited) v.fate Fate.under_way;
      joined = v.joined;
      waits = v.waits;
      acked = v.acked;
      owed = each (λ m. at v.owed m && in_pool p m);
    }

-- the awaited message came, and the node gave this reply
abbrev pub heard : View → Three Node → Reply → View
heard v nodes r =
    record {
      pool = v.pool;
      nodes = nodes;
      awaited = v.awaited;
      fate = Fate.came r;
      joined = v.joined;
      waits = v.waits;
      acked = v.acked;
      owed = each (λ m. at v.owed m && in_pool v.pool m);
    }

-- a message that one node takes
abbrev pub one_heard : View → ℕ → storage.Event → View
one_heard v to e = heard v (with v.nodes to (node_after e (at v.nodes to))) (reply_of (storage.turn_of e (at v.nodes to) 0).answer)

abbrev pub arrived : Message → View → View
arrived Message.Nothing v = v
arrived (Message.GetVersion to) v = one_heard v to storage.Event.map_get_ver
arrived (Message.Ready to keep) v = one_heard v to (storage.Event.map_ready keep)
arrived (Message.Send from to) v = heard v (with v.nodes to (map_taken (at v.nodes to))) (Reply.Good None)
arrived (Message.Done to enable version members) v = one_heard v to (storage.Event.map_done enable version members)
arrived (Message.LastIo to chosen) v = one_heard v to (storage.Event.last_io_to_map chosen)
arrived (Message.Enable to version members) v = one_heard v to (storage.Event.enable1 version members)
arrived (Message.Leave to mode) v = one_heard v to (storage.Event.leave (is_delete mode))
arrived (Message.Info to op member) v = one_heard v to (storage.Event.pool_info op member)

abbrev pub replaced : View → ℕ → View
replaced v k =
    record {
      pool = v.pool;
      nodes = with v.nodes k (fresh k v.pool.chunks);
      awaited = v.awaited;
      fate = v.fate;
      joined = each (λ j. at v.joined j && not (eqb j k));
      waits = each (λ j. at v.waits j && not (eqb j k));
      acked = v.acked;
      owed = each (λ m. at v.owed m && in_pool v.pool m);
    }

abbrev pub step : View → Item → View
step v (Item.own j e) = by_node v j e
step v (Item.asks a got) = asked (turn_by v a v.pool).answer (turn_by v a v.pool).pool v a got
step v (Item.hand j) = by_hand (enable v.pool j).answer (enable v.pool j).pool v j
step v Item.comes = arrived v.awaited v
step v (Item.anew j) = replaced v j

-- ---- whether it keeps the premises

-- what the client tells node j comes there and is accepted
abbrev pub hears : View → Answer → ℕ → ℕ → Bool
hears v x got j = has got j && all_taken (due_to (told_in x) j) (at v.nodes j)

abbrev pub deletes_one : Mode → View → ℕ → Bool
deletes_one Mode.Disassemble v id = true
deletes_one Mode.Delete v id = not (eqb id 0) && is_normal (state_of v.pool 0)

abbrev pub is_came : Fate → Bool
is_came Fate.under_way = false
is_came (Fate.came r) = true

abbrev pub ask_keeps : Ask → View → Answer → ℕ → Bool
ask_keeps (Ask.joins id) v x got = ltb id 3 && at v.waits id
ask_keeps (Ask.assembles id set) v x got = ltb id 3 && at v.joined id
ask_keeps (Ask.downs id) v x got = true
ask_keeps (Ask.checks id) v x got = true
ask_keeps (Ask.removes id mode) v x got = deletes_one mode v id
ask_keeps (Ask.writes reached) v x got = few reached && all (λ j. not (has reached j) || hears v x got j)
ask_keeps Ask.extends v x got =
    (ltb (picked v.pool.roster) 3 && (eqb (at v.nodes (picked v.pool.roster)).version 0 && not (at v.nodes (picked v.pool.roster)).create))
    && (few (ids_of Kind.Normals v.pool.roster) && all (λ j. not (is_normal (state_of v.pool j)) || hears v x got j))
ask_keeps Ask.answers v x got = is_came v.fate

abbrev pub is_under_way : Fate → Bool
is_under_way Fate.under_way = true
is_under_way (Fate.came r) = false

abbrev pub is_begun : Option ℕ → Bool
is_begun None = false
is_begun (Some n) = eqb n 0

-- a whole map can be given and taken
abbrev pub carries_to : Message → View → Bool
carries_to Message.Nothing v = false
carries_to (Message.GetVersion to) v = ltb to 3
carries_to (Message.Ready to keep) v = ltb to 3
carries_to (Message.Send from to) v =
    (ltb from 3 && ltb to 3) && (not (eqb from to) && (is_serving (at v.nodes from) && (is_serving (at v.nodes to) && is_begun (at v.nodes to).transfer)))
carries_to (Message.Done to enable version members) v = ltb to 3
carries_to (Message.LastIo to chosen) v = ltb to 3
carries_to (Message.Enable to version members) v = ltb to 3
carries_to (Message.Leave to mode) v = ltb to 3
carries_to (Message.Info to op member) v = ltb to 3

abbrev pub keeps : View → Item → Bool
keeps v (Item.own j e) = (ltb j 3 && taken e (at v.nodes j)) && (not (is_message (origin_of e)) && (not (at v.joined j) || keeps_store (origin_of e) (at v.nodes j)))
keeps v (Item.asks a got) = eqb v.pool.chunks 12 && (is_accepted (turn_by v a v.pool).answer && ask_keeps a v (turn_by v a v.pool).answer got)
keeps v (Item.hand j) =
    (ltb j 3 && is_created (state_of v.pool j)) && (is_accepted (enable v.pool j).answer && taken (enabling v) (at v.nodes j))
keeps v (Item.anew j) = (ltb j 3 && eqb v.pool.chunks 12) && (not (has v.pool.roster.members j) && is_free (state_of v.pool j))
keeps v Item.comes = not (is_idle v.pool.job) && (is_under_way v.fate && carries_to v.awaited v)

-- ---- one after the other

abbrev pub through : List Item → View → View
through [] v = v
through (i ∷ is) v = through is (step v i)

abbrev pub keeps_all : List Item → View → Bool
keeps_all [] v = true
keeps_all (i ∷ is) v = keeps v i && keeps_all is (step v i)
