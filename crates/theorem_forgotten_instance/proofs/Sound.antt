-- What is followed is so: of each item that keeps the premises by the tests, the premises hold of what happens, and the world goes on as computed.
use Rattle.std.specs.Prelude.{Option, Some, None}
use mathlib.Core.Path.{◌≡◌, refl, sym, ap, ◌∙◌, subst}
use mathlib.Core.Bool.{Bool, true, false, ◌&&◌, ◌||◌, not}
use mathlib.Core.List.{List, [], ◌∷◌}
use mathlib.Core.Logic.{inl, inr, ◌≢◌}
use Prim.Native.Nat.{ℕ, zero, suc, ◌+◌, ◌-◌, ◌<◌}
use native.Mathlib.Decide.{dec_lt}
use native.Mathlib.Omega.{arith}
use lib.Dec.{eqb, ltb}
use borrow.Author.Tests.{ltb-true, eqb-true, eqb-false}
use Rattle.laws_words.specs.Words.{pick}
use Rattle.laws_words.specs.Tests.{clash, by_cases, and_left, and_right, and_both}
use Rattle.rules_base.specs.Sets.{has}
use Rattle.rules_base.proofs.Sets.{has-none, has-below}
use Rattle.rules_base.specs.Map.{sound}
use Rattle.rules_pool.specs.declared.Mode.{Mode}
use Rattle.rules_pool.specs.declared.Message.{Message}
use Rattle.rules_pool.specs.declared.Reply.{Reply}
use Rattle.rules_pool.specs.declared.Answer.{Answer}
use Rattle.rules_pool.specs.declared.Run.{Run}
use Rattle.rules_pool.specs.declared.Job.{Job}
use Rattle.rules_pool.specs.declared.Pool.{Pool}
use Rattle.rules_pool.specs.declared.Turn.{Turn}
use Rattle.rules_pool.specs.Session.{is_nothing, is_free, is_normal, is_created, is_removing, is_deleting, is_delete}
use Rattle.rules_pool.specs.declared.Kind.{Kind}
use Rattle.rules_pool.specs.Sessions.{ids_of}
use Rattle.rules_pool.specs.Jobs.{is_idle, is_running}
use Rattle.rules_client.specs.Extend.{picked, extend}
use Rattle.rules_client.specs.Enables.{enable}
use Rattle.rules_client.specs.Writes.{write_ended}
use Rattle.rules_client.specs.Remove.{remove}
use Rattle.rules_client.specs.Answers.{answer}
use Rattle.laws_client.proofs.Ids.{ids-has}
use Rattle.laws_client.proofs.Records as records
use Rattle.rules_pool.specs.Breaking.{is_accepted}
use Rattle.rules_pool.specs.Breaking as breaking
use Rattle.rules_client.specs.Client.{extend_turn, remove_turn, write_turn, answer_turn}
use Rattle.rules_client.specs.Events.{Event, turn_of}
use Rattle.rules_node.specs.declared.Node.{Node}
use Rattle.rules_node.specs.States.{is_serving}
use Rattle.rules_node.specs.Change.{fresh}
use Rattle.rules_node.specs.Events as storage
use Rattle.rules_node.specs.Turns as verdict
use Rattle.rules_node.specs.Cuts.{Cuts}
use Rattle.rules_world.specs.Station.{Station, does}
use Rattle.rules_world.specs.Together.{upd, Delivered, reply_of, by_one, deliver}
use Rattle.theorem_instances.proofs.Honest.{bytes, cuts, sound-bytes, whole-cuts}
use Rattle.theorem_honest.proofs.Stations.{Fine, fine, map_taken, took_in}
use Rattle.theorem_honest.proofs.Sent.{sent-law}
use Rattle.model_pool.specs.Holds.{Sane}
use Rattle.model_pool.proofs.Sane.{sane-keeps}
use Rattle.model_pool.proofs.Did.{lent}
use Rattle.rules_world.specs.Whole.{Fate, World, state_in, Happening, accepts, acknowledges, takes, due_to, after_all, takes_all, told_in, acted, enabling, delivered, after}
use Rattle.rules_world.specs.Whole as histories
use Rattle.rules_world.specs.History.{History, then, origin_of, is_join, is_creation, is_message, keeps_store, takes_in, writes, joined, waits, acked}
use Rattle.theorem_forgotten.specs.Premises.{Heard, Keeps, Kept}
use Rattle.theorem_forgotten.specs.Forgotten.{In, Missed}
use Rattle.theorem_forgotten.proofs.Ground.{or-all, and-true}
use Rattle.theorem_forgotten.proofs.Theorem.{tells, never-forgotten}
use Rattle.theorem_forgotten_instance.specs.Instance.{Moment, Later, Then, Owing, Began}
use Rattle.theorem_forgotten_instance.proofs.Follow.{Three, at, each, all, none_to, few, View, state_of, Ask, Item, reply_in, event_of, happening, turn_by, node_after, taken, all_after, all_taken, with, taken_in, is_write, in_pool, misses, asked, by_node, by_hand, heard, one_heard, arrived, replaced, step, hears, is_came, ask_keeps, is_under_way, is_begun, carries_to, keeps, through, keeps_all}
use Rattle.theorem_forgotten_instance.proofs.Follow as follow

-- ---- ids 0, 1 and 2

three : (P : ℕ → Type 0) → P 0 → P 1 → P 2 → (j : ℕ) → j < 3 → P j
three P a b c zero h = a
three P a b c (suc zero) h = b
three P a b c (suc (suc zero)) h = c
three P a b c (suc (suc (suc k))) h = absurd (let z : ⊥ = omega arith in z)

pub at_each : {A : Type 0} (f : ℕ → A) (j : ℕ) → j < 3 → at (each f) j ≡ f j
at_each f = three (λ j. at (each f) j ≡ f j) refl refl refl

all_three : (f : ℕ → Bool) → all f ≡ true → (j : ℕ) → j < 3 → f j ≡ true
all_three f e = three (λ j. f j ≡ true) (and_left (f 0) _ e) (and_left (f 1) (f 2) (and_right (f 0) _ e)) (and_right (f 1) (f 2) (and_right (f 0) _ e))

none-to : (s n : ℕ) → none_to s n ≡ true → (k : ℕ) → k < n → has s (k + 3) ≡ false
none-to s zero e k h = absurd (let z : ⊥ = omega arith in z)
none-to s (suc n) e k h = elim (dec_lt k n) [
  | yes l ↦ none-to s n (and_left (none_to s n) _ e) k l
  | no l ↦ (let q : k ≡ n = omega arith in ap (λ (i : ℕ). has s (i + 3)) q ∙ no_of (has s (n + 3)) (and_right (none_to s n) _ e))
]
  where
    no_of : (b : Bool) → not b ≡ true → b ≡ false
    no_of true e = sym e
    no_of false e = refl

few-below : (s j : ℕ) → few s ≡ true → has s j ≡ true → j < 3
few-below s j f h = elim (dec_lt j 3) [
  | yes l ↦ l
  | no l ↦ (let b = has-below s j h in let q : (j - 3) + 3 ≡ j = omega arith in clash h (ap (has s) (sym q) ∙ none-to s 13 f (j - 3) (omega arith)))
]

false_of : (b : Bool) → not b ≡ true → b ≡ false
false_of true e = sym e
false_of false e = refl

implied : (a b : Bool) → (not a || b) ≡ true → a ≡ true → b ≡ true
implied true b e h = e
implied false b e h = clash h refl

node_of : (b : Bool) (x y : Station) → (pick b x y).node ≡ pick b x.node y.node
node_of true x y = refl
node_of false x y = refl

-- ---- a node, both maps of which are sound

module _ (c j : ℕ) where
  lent-zero : (s : Station) → Sane c j s → lent s ≡ 0
  lent-zero s h = rw (h.good.map, h.good.staging, h.good.agrees) refl

  node-after : (s : Station) → Sane c j s → (e : storage.Event) → (does s e).station.node ≡ node_after e s.node
  unfolding does
  node-after s h e = ap (λ (l : ℕ). (storage.turn_of e s.node l).node) (lent-zero s h)

  answer-of : (s : Station) → Sane c j s → (e : storage.Event) → (does s e).answer ≡ (storage.turn_of e s.node 0).answer
  unfolding does
  answer-of s h e = ap (λ (l : ℕ). (storage.turn_of e s.node l).answer) (lent-zero s h)

  all-after : (es : List storage.Event) (s : Station) → Sane c j s → (after_all es s).node ≡ all_after es s.node
  all-after [] s h = refl
  all-after (e ∷ es) s h = all-after es (does s e).station (sane-keeps c j e s h) ∙ ap (all_after es) (node-after s h e)

  all-taken : (es : List storage.Event) (s : Station) → Sane c j s → takes_all es s ≡ all_taken es s.node
  all-taken [] s h = refl
  all-taken (e ∷ es) s h =
      let p : takes s e ≡ taken e s.node = ap verdict.is_accepted (answer-of s h e) in
      let q : takes_all es (does s e).station ≡ all_taken es (node_after e s.node) = all-taken es (does s e).station (sane-keeps c j e s h) ∙ ap (all_taken es) (node-after s h e) in
      λ i. p i && q i

-- ---- what is known of a world and its history

pub record At (v : View) (w : World) (h : History w) : Type 0 where
  pub pool : w.pool ≡ v.pool
  pub nodes : (j : ℕ) → j < 3 → (w.nodes j).node ≡ at v.nodes j
  pub awaited : w.awaited ≡ v.awaited
  pub fate : w.fate ≡ v.fate
  pub joins : (j : ℕ) → j < 3 → joined h j ≡ at v.joined j
  pub waiting : (j : ℕ) → j < 3 → waits h j ≡ at v.waits j
  pub acks : v.acked ≡ true → acked h 3 ≡ true
  pub owes : (m : ℕ) → m < 3 → at v.owed m ≡ true → Missed m 3 h
  pub kept : Kept h

-- ---- the premises, by what happens

abbrev AskedRemove : World → Mode → List ℕ → ℕ → Type 0
AskedRemove w Mode.Disassemble xs j = Unit {0}
AskedRemove w Mode.Delete xs j = accepts w (Event.remove xs j Mode.Delete) ≡ true → is_removing (state_in w j) ≡ false → (k : ℕ) × (k ≢ j) × (is_normal (state_in w k) ≡ true)

abbrev AskedReply : World → Reply → List ℕ → ℕ → Type 0
AskedReply w Reply.Failed xs number = Unit {0}
AskedReply w (Reply.Good b) xs number = accepts w (Event.answer xs number (Reply.Good b)) ≡ true → is_running w.pool.job ≡ true → w.fate ≡ Fate.came (Reply.Good b)

record Extends (w : World) (xs : List ℕ) (got : ℕ) : Type 0 where
  new : ((w.nodes (picked w.pool.roster)).node.version ≡ 0) × ((w.nodes (picked w.pool.roster)).node.create ≡ false)
  fills : (j : ℕ) → is_normal (state_in w j) ≡ true → Heard w (Event.extend xs) got j

abbrev AskedBy : (w : World) → History w → Event → ℕ → Type 0
AskedBy w h (Event.join_create j) got = accepts w (Event.join_create j) ≡ true → waits h j ≡ true
AskedBy w h (Event.join_assemble j set version) got = accepts w (Event.join_assemble j set version) ≡ true → (joined h j ≡ true) × (version ≡ (w.nodes j).node.version)
AskedBy w h (Event.enable j) got = accepts w (Event.enable j) ≡ true → is_created (state_in w j) ≡ false
AskedBy w h (Event.maintenance j) got = Unit {0}
AskedBy w h (Event.link_down j) got = Unit {0}
AskedBy w h (Event.store_check j) got = Unit {0}
AskedBy w h (Event.rejoin j) got = Unit {0}
AskedBy w h Event.try_run got = Unit {0}
AskedBy w h (Event.remove xs j mode) got = AskedRemove w mode xs j
AskedBy w h (Event.write xs chunk reached) got = accepts w (Event.write xs chunk reached) ≡ true → (j : ℕ) → has reached j ≡ true → Heard w (Event.write xs chunk reached) got j
AskedBy w h (Event.synced xs member chunk) got = Unit {0}
AskedBy w h (Event.answer xs number reply) got = AskedReply w reply xs number
AskedBy w h (Event.extend xs) got = accepts w (Event.extend xs) ≡ true → Extends w xs got

abbrev Asked : (w : World) → History w → Happening → Type 0
Asked w h (Happening.node j e) = (joined h j ≡ true → takes (w.nodes j) e ≡ true → keeps_store (origin_of e) (w.nodes j).node ≡ true) × (is_message (origin_of e) ≡ false)
Asked w h (Happening.client e got) = AskedBy w h e got
Asked w h (Happening.hand_enable j) = (is_created (state_in w j) ≡ true) × (accepts w (Event.enable j) ≡ true) × (takes (w.nodes j) (enabling w) ≡ true)
Asked w h (Happening.arrives lengths) = (is_idle w.pool.job ≡ false) × (w.fate ≡ Fate.under_way) × Cuts lengths
Asked w h (Happening.breaks_off lengths) = (is_idle w.pool.job ≡ false) × (w.fate ≡ Fate.under_way)
Asked w h (Happening.another j xs ys) = (has w.pool.roster.members j ≡ false) × (is_free (state_in w j) ≡ true) × (sound w.pool.chunks xs ≡ true) × (sound w.pool.chunks ys ≡ true)

asked-keeps : (w : World) (h : History w) (x : Happening) → Asked w h x → Keeps h x
asked-keeps w h x k = record {
  follows = λ j got q z. subst (Asked w h) q k z;
  assembles = λ j set version got q z. (subst (Asked w h) q k z).0;
  brings = λ j set version got q z. (subst (Asked w h) q k z).1;
  marks = λ xs chunk reached got q z. subst (Asked w h) q k z;
  stores = λ j e q. (subst (Asked w h) q k).0;
  by_hand = λ j q. subst (Asked w h) q k;
  not-else = λ j got q z. subst (Asked w h) q k z;
  own = λ j e q. (subst (Asked w h) q k).1;
  once = λ lengths q. subst (Asked w h) q k;
  broken = λ lengths q. subst (Asked w h) q k;
  deletes = λ xs j got q z r. subst (Asked w h) q k z r;
  answers = λ xs number got b q z r. subst (Asked w h) q k z r;
  new = λ xs got q z. (subst (Asked w h) q k z).new;
  fills = λ xs got q z. (subst (Asked w h) q k z).fills;
  free = λ j xs ys q. subst (Asked w h) q k;
}

-- ---- what is owed stays owed

abbrev syncs : Event → Bool
syncs (Event.join_create id) = false
syncs (Event.join_assemble id set version) = false
syncs (Event.enable id) = false
syncs (Event.maintenance id) = false
syncs (Event.link_down id) = false
syncs (Event.store_check id) = false
syncs (Event.rejoin id) = false
syncs Event.try_run = false
syncs (Event.remove xs id mode) = false
syncs (Event.write xs chunk reached) = false
syncs (Event.synced xs member chunk) = true
syncs (Event.answer xs number reply) = false
syncs (Event.extend xs) = false

abbrev is_sync : Happening → Bool
is_sync (Happening.node j e) = false
is_sync (Happening.client e got) = syncs e
is_sync (Happening.hand_enable j) = false
is_sync (Happening.arrives lengths) = false
is_sync (Happening.breaks_off lengths) = false
is_sync (Happening.another j xs ys) = false

in-pool : (w : World) (p : Pool) (m : ℕ) → w.pool ≡ p → in_pool p m ≡ true → In w m
in-pool w p m q e = record {
  member = ap (λ (x : Pool). has x.roster.members m) q ∙ and_left (has p.roster.members m) _ e;
  stays = ap (λ (x : Pool). is_deleting (state_of x m)) q ∙ false_of (is_deleting (state_of p m)) (and_right (has p.roster.members m) _ e);
}

stays_owed : (w : World) (h : History w) (x : Happening) (m : ℕ) → is_sync x ≡ false → Missed m 3 h → In (after w x) m → Missed m 3 (then w x h)
stays_owed w h x m n k i = (inr (inr (k, λ z. clash (ap is_sync z.is) n)), i)

-- ---- each item

module _ (v : View) (w : World) (h : History w) (a : At v w h) where
  sane : (j : ℕ) → Sane w.pool.chunks j (w.nodes j)
  sane j = (tells w h a.kept).reflects.sane j

  took : (j : ℕ) → j < 3 → (e : storage.Event) → takes (w.nodes j) e ≡ taken e (at v.nodes j)
  took j b e = ap verdict.is_accepted (answer-of w.pool.chunks j (w.nodes j) (sane j) e) ∙ ap (taken e) (a.nodes j b)

  went : (j : ℕ) → j < 3 → (e : storage.Event) → (does (w.nodes j) e).station.node ≡ node_after e (at v.nodes j)
  went j b e = node-after w.pool.chunks j (w.nodes j) (sane j) e ∙ ap (node_after e) (a.nodes j b)

  -- one node is another
  put : (k : ℕ) (s : Station) (n : Node) → s.node ≡ n → (j : ℕ) → j < 3 → (upd w.nodes k s j).node ≡ at (with v.nodes k n) j
  unfolding upd
  put k s n q j b = node_of (eqb j k) s (w.nodes j) ∙ ((λ i. pick (eqb j k) (q i) (a.nodes j b i)) ∙ sym (at_each (λ i. pick (eqb i k) n (at v.nodes i)) j b))

  -- what was owed, and is in the pool
  owed-still : (x : Happening) (p : Pool) → is_sync x ≡ false → (after w x).pool ≡ p → (m : ℕ) → m < 3 → at (each (λ i. at v.owed i && in_pool p i)) m ≡ true → Missed m 3 (then w x h)
  owed-still x p n q m b z =
      let y = sym (at_each (λ i. at v.owed i && in_pool p i) m b) ∙ z in
      stays_owed w h x m n (a.owes m b (and_left (at v.owed m) _ y)) (in-pool (after w x) p m q (and_right (at v.owed m) _ y))

  -- ---- a node's own event
  own : (k : ℕ) (e : storage.Event) → keeps v (Item.own k e) ≡ true → At (by_node v k e) (after w (Happening.node k e)) (then w (Happening.node k e) h)
  unfolding after
  own k e z =
      let f = and_left (ltb k 3 && taken e (at v.nodes k)) _ z in
      let g = and_right (ltb k 3 && taken e (at v.nodes k)) _ z in
      let b = ltb-true k 3 (and_left (ltb k 3) _ f) in
      let t : takes (w.nodes k) e ≡ true = took k b e ∙ and_right (ltb k 3) _ f in
      record {
        pool = a.pool;
        nodes = put k (does (w.nodes k) e).station (node_after e (at v.nodes k)) (went k b e);
        awaited = a.awaited;
        fate = a.fate;
        joins = λ j c. (λ i. a.joins j c i || (eqb j k && (is_join (origin_of e) && t i))) ∙ (ap (λ (y : Bool). at v.joined j || (eqb j k && y)) (and-true (is_join (origin_of e))) ∙ sym (at_each (λ i. at v.joined i || (eqb i k && is_join (origin_of e))) j c));
        waiting = λ j c. (λ i. a.waiting j c i || (eqb j k && (is_creation (origin_of e) && t i))) ∙ (ap (λ (y : Bool). at v.waits j || (eqb j k && y)) (and-true (is_creation (origin_of e))) ∙ sym (at_each (λ i. at v.waits i || (eqb i k && is_creation (origin_of e))) j c));
        acks = a.acks;
        owes = owed-still (Happening.node k e) v.pool refl a.pool;
        kept = (
          a.kept,
          asked-keeps w h (Happening.node k e) (
            (λ q r. ap (keeps_store (origin_of e)) (a.nodes k b) ∙ implied (at v.joined k) _ (and_right (not (is_message (origin_of e))) _ g) (sym (a.joins k b) ∙ q)),
            false_of (is_message (origin_of e)) (and_left (not (is_message (origin_of e))) _ g),
          ),
        );
      }

  -- ---- another node
  anew : (k : ℕ) → keeps v (Item.anew k) ≡ true → At (replaced v k) (after w (Happening.another k bytes bytes)) (then w (Happening.another k bytes bytes) h)
  unfolding after
  anew k z =
      let f = and_left (ltb k 3 && eqb v.pool.chunks 12) _ z in
      let g = and_right (ltb k 3 && eqb v.pool.chunks 12) _ z in
      let c : w.pool.chunks ≡ 12 = ap (λ (p : Pool). p.chunks) a.pool ∙ eqb-true v.pool.chunks 12 (and_right (ltb k 3) _ f) in
      let s : sound w.pool.chunks bytes ≡ true = ap (λ (n : ℕ). sound n bytes) c ∙ sound-bytes in
      record {
        pool = a.pool;
        nodes = put k (record { node = fresh k w.pool.chunks; map = bytes; staging = bytes }) (fresh k v.pool.chunks) (ap (λ (p : Pool). fresh k p.chunks) a.pool);
        awaited = a.awaited;
        fate = a.fate;
        joins = λ j b. ap (λ (y : Bool). y && not (eqb j k)) (a.joins j b) ∙ sym (at_each (λ i. at v.joined i && not (eqb i k)) j b);
        waiting = λ j b. ap (λ (y : Bool). y && not (eqb j k)) (a.waiting j b) ∙ sym (at_each (λ i. at v.waits i && not (eqb i k)) j b);
        acks = a.acks;
        owes = owed-still (Happening.another k bytes bytes) v.pool refl a.pool;
        kept = (
          a.kept,
          asked-keeps w h (Happening.another k bytes bytes) (
            (ap (λ (p : Pool). has p.roster.members k) a.pool ∙ false_of (has v.pool.roster.members k) (and_left (not (has v.pool.roster.members k)) _ g)),
            (ap (λ (p : Pool). is_free (state_of p k)) a.pool ∙ and_right (not (has v.pool.roster.members k)) _ g),
            s,
            s,
          ),
        );
      }

  -- ---- enabled by hand
  record Fits (u : World) (v' : View) : Type 0 where
    pool : u.pool ≡ v'.pool
    nodes : (j : ℕ) → j < 3 → (u.nodes j).node ≡ at v'.nodes j
    awaited : u.awaited ≡ v'.awaited
    fate : u.fate ≡ v'.fate

  module _ (k : ℕ) (b : k < 3) where
    abbrev x : Happening
    x = Happening.hand_enable k

    enabled-node : (does (w.nodes k) (enabling w)).station.node ≡ node_after (follow.enabling v) (at v.nodes k)
    enabled-node = went k b (enabling w) ∙ ap (λ (p : Pool). node_after (storage.Event.enable1 p.roster.version p.roster.members) (at v.nodes k)) a.pool

    hand-fits : (y : Answer) (p : Pool) → is_accepted y ≡ true → Fits (acted y p 0 (histories.by_node k (enabling w) w)) (by_hand y p v k)
    hand-fits (Answer.Refused n) p q = clash q refl
    hand-fits (Answer.Done s) p q = record {
      pool = refl;
      nodes = λ j c. ap (λ (d : Bool). (pick d (after_all (due_to s.told j) ((histories.by_node k (enabling w) w).nodes j)) ((histories.by_node k (enabling w) w).nodes j)).node) (has-none j) ∙ put k (does (w.nodes k) (enabling w)).station (node_after (follow.enabling v) (at v.nodes k)) enabled-node j c;
      awaited = ap (λ (m : Message). pick (is_nothing s.awaited) m s.awaited) a.awaited;
      fate = ap (λ (m : Fate). pick (is_nothing s.awaited) m Fate.under_way) a.fate;
    }

    hand_at : (y : Answer) (p : Pool) → is_accepted y ≡ true → Fits (after w x) (by_hand y p v k) → Keeps h x → At (by_hand y p v k) (after w x) (then w x h)
    hand_at (Answer.Refused n) p q f g = clash q refl
    hand_at (Answer.Done s) p q f g = record {
      pool = f.pool;
      nodes = f.nodes;
      awaited = f.awaited;
      fate = f.fate;
      joins = a.joins;
      waiting = a.waiting;
      acks = a.acks;
      owes = owed-still x p refl f.pool;
      kept = (a.kept, g);
    }

  handed : (k : ℕ) → keeps v (Item.hand k) ≡ true → At (step v (Item.hand k)) (after w (Happening.hand_enable k)) (then w (Happening.hand_enable k) h)
  unfolding after
  handed k z =
      let f = and_left (ltb k 3 && is_created (state_of v.pool k)) _ z in
      let g = and_right (ltb k 3 && is_created (state_of v.pool k)) _ z in
      let b = ltb-true k 3 (and_left (ltb k 3) _ f) in
      let t : turn_of (Event.enable k) w.pool ≡ enable v.pool k = ap (λ (p : Pool). enable p k) a.pool in
      let y = and_left (is_accepted (enable v.pool k).answer) _ g in
      hand_at k b (enable v.pool k).answer (enable v.pool k).pool y
      (subst (λ (u : Turn). Fits (acted u.answer u.pool 0 (histories.by_node k (enabling w) w)) (by_hand (enable v.pool k).answer (enable v.pool k).pool v k)) (sym t) (hand-fits k b (enable v.pool k).answer (enable v.pool k).pool y))
      (asked-keeps w h (Happening.hand_enable k) (
        (ap (λ (p : Pool). is_created (state_of p k)) a.pool ∙ and_right (ltb k 3) _ f),
        (ap (λ (u : Turn). is_accepted u.answer) t ∙ y),
        (ap verdict.is_accepted (answer-of w.pool.chunks k (w.nodes k) (sane k) (enabling w))
            ∙ (ap (taken (enabling w)) (a.nodes k b) ∙ (ap (λ (p : Pool). taken (storage.Event.enable1 p.roster.version p.roster.members) (at v.nodes k)) a.pool ∙ and_right (is_accepted (enable v.pool k).answer) _ g))),
      ))

  -- ---- the awaited message comes
  module _ (z : keeps v Item.comes ≡ true) where
    abbrev arriving : Happening
    arriving = Happening.arrives (cuts 0)

    heard-at : (d : Delivered) (ns : Three Node) (r : Reply) → delivered (cuts 0) w ≡ d → ((j : ℕ) → j < 3 → (d.nodes j).node ≡ at ns j) → d.reply ≡ r → At (heard v ns r) (after w arriving) (then w arriving h)
    unfolding after
    heard-at d ns r q n e = record {
      pool = a.pool;
      nodes = λ j b. ap (λ (y : Delivered). (y.nodes j).node) q ∙ n j b;
      awaited = a.awaited;
      fate = ap (λ (y : Delivered). Fate.came y.reply) q ∙ ap Fate.came e;
      joins = a.joins;
      waiting = a.waiting;
      acks = a.acks;
      owes = owed-still arriving v.pool refl a.pool;
      kept = (
        a.kept,
        asked-keeps w h arriving (
          (ap (λ (p : Pool). is_idle p.job) a.pool ∙ false_of (is_idle v.pool.job) (and_left (not (is_idle v.pool.job)) _ z)),
          (a.fate ∙ under v.fate (and_left (is_under_way v.fate) _ (and_right (not (is_idle v.pool.job)) _ z))),
          whole-cuts 0,
        ),
      );
    }
      where
        under : (f : Fate) → is_under_way f ≡ true → f ≡ Fate.under_way
        under Fate.under_way e = refl
        under (Fate.came r) e = clash e refl

    one : (to : ℕ) (e : storage.Event) (m : Message) → v.awaited ≡ m → deliver (cuts 0) m w.nodes ≡ by_one w.nodes to (does (w.nodes to) e) → ltb to 3 ≡ true → At (one_heard v to e) (after w arriving) (then w arriving h)
    one to e m q d t =
        let b = ltb-true to 3 t in
        heard-at (by_one w.nodes to (does (w.nodes to) e)) _ _ (ap (λ (x : Message). deliver (cuts 0) x w.nodes) (a.awaited ∙ q) ∙ d)
        (put to (does (w.nodes to) e).station (node_after e (at v.nodes to)) (went to b e))
        (ap reply_of (answer-of w.pool.chunks to (w.nodes to) (sane to) e ∙ ap (λ (n : Node). (storage.turn_of e n 0).answer) (a.nodes to b)))

    begun-is : (t : Option ℕ) → is_begun t ≡ true → t ≡ Some 0
    begun-is None e = clash e refl
    begun-is (Some n) e = ap Some (eqb-true n 0 e)

    fine-at : (j : ℕ) → j < 3 → is_serving (at v.nodes j) ≡ true → Fine w.pool.chunks j (w.nodes j)
    fine-at j b e =
        let s = sane j in
        fine w.pool.chunks j (w.nodes j) (omega arith) (record { itself = s.itself; rules = s.good.rules; same = s.count; sound = and_both s.good.map s.good.staging; serves = ap is_serving (a.nodes j b) ∙ e })

    sends : (from to : ℕ) → v.awaited ≡ Message.Send from to → carries_to (Message.Send from to) v ≡ true → At (arrived (Message.Send from to) v) (after w arriving) (then w arriving h)
    sends from to q c =
        let f = and_left (ltb from 3 && ltb to 3) _ c in
        let g = and_right (ltb from 3 && ltb to 3) _ c in
        let bf = ltb-true from 3 (and_left (ltb from 3) (ltb to 3) f) in
        let bt = ltb-true to 3 (and_right (ltb from 3) (ltb to 3) f) in
        let g' = and_right (not (eqb from to)) _ g in
        let g'' = and_right (is_serving (at v.nodes from)) _ g' in
        let ne : from ≢ to = eqb-false from to (false_of (eqb from to) (and_left (not (eqb from to)) _ g)) in
        let tr : (w.nodes to).node.transfer ≡ Some 0 = ap (λ (n : Node). n.transfer) (a.nodes to bt) ∙ begun-is (at v.nodes to).transfer (and_right (is_serving (at v.nodes to)) _ g'') in
        let d = sent-law w.pool.chunks from to (cuts 0) w.nodes (whole-cuts 0) ne (fine-at from bf (and_left (is_serving (at v.nodes from)) _ g')) (fine-at to bt (and_left (is_serving (at v.nodes to)) _ g'')) tr in
        heard-at (record { nodes = upd w.nodes to (took_in (w.nodes from).map (w.nodes to)); reply = Reply.Good None }) _ _ (ap (λ (x : Message). deliver (cuts 0) x w.nodes) (a.awaited ∙ q) ∙ d)
        (put to (took_in (w.nodes from).map (w.nodes to)) (map_taken (at v.nodes to)) (ap map_taken (a.nodes to bt)))
        refl

    came : (m : Message) → v.awaited ≡ m → carries_to m v ≡ true → At (arrived m v) (after w arriving) (then w arriving h)
    came Message.Nothing q c = clash c refl
    came (Message.GetVersion to) q c = one to storage.Event.map_get_ver (Message.GetVersion to) q refl c
    came (Message.Ready to keep) q c = one to (storage.Event.map_ready keep) (Message.Ready to keep) q refl c
    came (Message.Send from to) q c = sends from to q c
    came (Message.Done to enable version members) q c = one to (storage.Event.map_done enable version members) (Message.Done to enable version members) q refl c
    came (Message.LastIo to chosen) q c = one to (storage.Event.last_io_to_map chosen) (Message.LastIo to chosen) q refl c
    came (Message.Enable to version members) q c = one to (storage.Event.enable1 version members) (Message.Enable to version members) q refl c
    came (Message.Leave to mode) q c = one to (storage.Event.leave (is_delete mode)) (Message.Leave to mode) q refl c
    came (Message.Info to op member) q c = one to (storage.Event.pool_info op member) (Message.Info to op member) q refl c

    comes : At (step v Item.comes) (after w arriving) (then w arriving h)
    comes = came v.awaited refl (and_right (is_under_way v.fate) _ (and_right (not (is_idle v.pool.job)) _ z))

  -- ---- the client is asked
  turn-law : (k : Ask) → v.pool.chunks ≡ 12 → turn_of (event_of v k) v.pool ≡ turn_by v k v.pool
  unfolding remove_turn write_turn extend_turn answer_turn
  turn-law (Ask.joins id) q = refl
  turn-law (Ask.assembles id set) q = refl
  turn-law (Ask.downs id) q = refl
  turn-law (Ask.checks id) q = refl
  turn-law (Ask.removes id mode) q = ap (λ (b : Bool). remove v.pool b id mode) (ap (λ (n : ℕ). sound n bytes) q ∙ sound-bytes)
  turn-law (Ask.writes reached) q = ap (λ (b : Bool). write_ended v.pool b 3 reached) (ap (λ (n : ℕ). sound n bytes) q ∙ sound-bytes)
  turn-law Ask.extends q = ap (λ (b : Bool). extend v.pool b) (ap (λ (n : ℕ). sound n bytes) q ∙ sound-bytes)
  turn-law Ask.answers q = ap (λ (b : Bool). answer v.pool b v.pool.number (reply_in v.fate)) (ap (λ (n : ℕ). sound n bytes) q ∙ sound-bytes)

  -- what it is for the history
  takes-in : (k : Ask) (j : ℕ) → takes_in (event_of v k) w j ≡ taken_in k v.pool j
  takes-in (Ask.joins id) j = refl
  takes-in (Ask.assembles id set) j = refl
  takes-in (Ask.downs id) j = refl
  takes-in (Ask.checks id) j = refl
  takes-in (Ask.removes id mode) j = refl
  takes-in (Ask.writes reached) j = refl
  takes-in Ask.extends j = ap (λ (p : Pool). eqb j (picked p.roster)) a.pool
  takes-in Ask.answers j = refl

  is-write : (k : Ask) → writes (event_of v k) 3 ≡ is_write k
  is-write (Ask.joins id) = refl
  is-write (Ask.assembles id set) = refl
  is-write (Ask.downs id) = refl
  is-write (Ask.checks id) = refl
  is-write (Ask.removes id mode) = refl
  is-write (Ask.writes reached) = refl
  is-write Ask.extends = refl
  is-write Ask.answers = refl

  no-sync : (k : Ask) → syncs (event_of v k) ≡ false
  no-sync (Ask.joins id) = refl
  no-sync (Ask.assembles id set) = refl
  no-sync (Ask.downs id) = refl
  no-sync (Ask.checks id) = refl
  no-sync (Ask.removes id mode) = refl
  no-sync (Ask.writes reached) = refl
  no-sync Ask.extends = refl
  no-sync Ask.answers = refl

  module _ (got : ℕ) where
    hears-it : (e : Event) (t : Turn) → turn_of e w.pool ≡ t → (j : ℕ) → j < 3 → hears v t.answer got j ≡ true → Heard w e got j
    hears-it e t q j b z = (
      and_left (has got j) _ z,
      ap (λ (u : Turn). takes_all (due_to (told_in u.answer) j) (w.nodes j)) q ∙ (all-taken w.pool.chunks j (due_to (told_in t.answer) j) (w.nodes j) (sane j)
          ∙ (ap (all_taken (due_to (told_in t.answer) j)) (a.nodes j b) ∙ and_right (has got j) _ z)),
    )

    normal-below : few (ids_of Kind.Normals v.pool.roster) ≡ true → (j : ℕ) → is_normal (state_in w j) ≡ true → j < 3
    normal-below f j n =
        let o = (tells w h a.kept).reflects.valid.ok.long in
        let b = records.normal-below w.pool.roster j o n in
        few-below (ids_of Kind.Normals v.pool.roster) j f (ap (λ (p : Pool). has (ids_of Kind.Normals p.roster) j) (sym a.pool) ∙ (ids-has Kind.Normals w.pool.roster o j b ∙ n))

    premise : (k : Ask) (t : Turn) → turn_of (event_of v k) w.pool ≡ t → ask_keeps k v t.answer got ≡ true → AskedBy w h (event_of v k) got
    premise (Ask.joins id) t q z = λ y. a.waiting id (ltb-true id 3 (and_left (ltb id 3) _ z)) ∙ and_right (ltb id 3) _ z
    premise (Ask.assembles id set) t q z = λ y. let b = ltb-true id 3 (and_left (ltb id 3) _ z) in ((a.joins id b ∙ and_right (ltb id 3) _ z), ap (λ (n : Node). n.version) (sym (a.nodes id b)))
    premise (Ask.downs id) t q z = tt
    premise (Ask.checks id) t q z = tt
    premise (Ask.removes id Mode.Disassemble) t q z = tt
    premise (Ask.removes id Mode.Delete) t q z = λ y r. (0, (λ u. eqb-false id 0 (false_of (eqb id 0) (and_left (not (eqb id 0)) _ z)) (sym u)), (ap (λ (p : Pool). is_normal (state_of p 0)) a.pool ∙ and_right (not (eqb id 0)) _ z))
    premise (Ask.writes reached) t q z = λ y j r.
        let b = few-below reached j (and_left (few reached) _ z) r in
        hears-it (Event.write bytes 3 reached) t q j b (implied (has reached j) _ (all_three (λ i. not (has reached i) || hears v t.answer got i) (and_right (few reached) _ z) j b) r)
    premise Ask.extends t q z = λ y.
        let x = picked v.pool.roster in
        let f = and_left (ltb x 3 && (eqb (at v.nodes x).version 0 && not (at v.nodes x).create)) _ z in
        let g = and_right (ltb x 3 && (eqb (at v.nodes x).version 0 && not (at v.nodes x).create)) _ z in
        let b = ltb-true x 3 (and_left (ltb x 3) _ f) in
        let f' = and_right (ltb x 3) _ f in
        record {
          new = subst (λ (p : Pool). ((w.nodes (picked p.roster)).node.version ≡ 0) × ((w.nodes (picked p.roster)).node.create ≡ false)) (sym a.pool) (
            (ap (λ (n : Node). n.version) (a.nodes x b) ∙ eqb-true (at v.nodes x).version 0 (and_left (eqb (at v.nodes x).version 0) _ f')),
            (ap (λ (n : Node). n.create) (a.nodes x b) ∙ false_of (at v.nodes x).create (and_right (eqb (at v.nodes x).version 0) _ f')),
          );
          fills = λ j n.
              let c = normal-below (and_left (few (ids_of Kind.Normals v.pool.roster)) _ g) j n in
              hears-it (Event.extend bytes) t q j c (implied (is_normal (state_of v.pool j)) _ (all_three (λ i. not (is_normal (state_of v.pool i)) || hears v t.answer got i) (and_right (few (ids_of Kind.Normals v.pool.roster)) _ g) j c) (ap (λ (p : Pool). is_normal (state_of p j)) (sym a.pool) ∙ n));
        }
    premise Ask.answers t q z = go v.fate a.fate z
      where
        go : (f : Fate) → w.fate ≡ f → is_came f ≡ true → AskedReply w (reply_in f) bytes v.pool.number
        go Fate.under_way e c = clash c refl
        go (Fate.came Reply.Failed) e c = tt
        go (Fate.came (Reply.Good b)) e c = λ y r. e

    -- who comes to miss the chunk
    missed-now : (k : Ask) (t : Turn) (m : ℕ) → turn_of (event_of v k) w.pool ≡ t → is_accepted t.answer ≡ true → misses k v t.answer m ≡ true → In (after w (Happening.client (event_of v k) got)) m
        → Missed m 3 (then w (Happening.client (event_of v k) got) h)
    missed-now (Ask.joins id) t m q c z i = clash z refl
    missed-now (Ask.assembles id set) t m q c z i = clash z refl
    missed-now (Ask.downs id) t m q c z i = clash z refl
    missed-now (Ask.checks id) t m q c z i = clash z refl
    missed-now (Ask.removes id mode) t m q c z i = clash z refl
    missed-now (Ask.writes reached) t m q c z i =
        let g = and_right (breaking.acknowledges t.answer) _ z in (
          inl (record {
            xs = bytes;
            reached = reached;
            got = got;
            wrote = refl;
            done = ap (λ (u : Turn). breaking.acknowledges u.answer) q ∙ and_left (breaking.acknowledges t.answer) _ z;
            not-it = false_of (has reached m) (and_left (not (has reached m)) _ g);
            member = in-pool w v.pool m a.pool (and_right (not (has reached m)) _ g);
          }),
          i,
        )
    missed-now Ask.extends t m q c z i = (
      inr (inl (record {
        xs = bytes;
        got = got;
        extends = refl;
        done = ap (λ (u : Turn). is_accepted u.answer) q ∙ c;
        it = ap (λ (p : Pool). picked p.roster) a.pool ∙ eqb-true (picked v.pool.roster) m (and_right v.acked _ z);
        before = a.acks (and_left v.acked _ z);
      })),
      i,
    )
    missed-now Ask.answers t m q c z i = clash z refl

    module _ (k : Ask) (t : Turn) (q : turn_of (event_of v k) w.pool ≡ t) (c : is_accepted t.answer ≡ true) (g : Keeps h (Happening.client (event_of v k) got)) where
      abbrev asking : Happening
      asking = Happening.client (event_of v k) got

      abbrev e : Event
      e = event_of v k

      accepted : accepts w e ≡ true
      accepted = ap (λ (u : Turn). is_accepted u.answer) q ∙ c

      taken-in : (j : ℕ) → (takes_in e w j && accepts w e) ≡ taken_in k v.pool j
      taken-in j = (λ i. takes-in k j i && accepted i) ∙ and-true (taken_in k v.pool j)

      ask-fits : (y : Answer) (p : Pool) → is_accepted y ≡ true → Fits (acted y p got w) (asked y p v k got)
      ask-fits (Answer.Refused n) p r = clash r refl
      ask-fits (Answer.Done s) p r = record {
        pool = refl;
        nodes = λ j b.
            node_of (has got j) (after_all (due_to s.told j) (w.nodes j)) (w.nodes j)
            ∙ ((λ i. pick (has got j) ((all-after w.pool.chunks j (due_to s.told j) (w.nodes j) (sane j) ∙ ap (all_after (due_to s.told j)) (a.nodes j b)) i) (a.nodes j b i))
            ∙ sym (at_each (λ i. pick (has got i) (all_after (due_to s.told i) (at v.nodes i)) (at v.nodes i)) j b));
        awaited = ap (λ (m : Message). pick (is_nothing s.awaited) m s.awaited) a.awaited;
        fate = ap (λ (m : Fate). pick (is_nothing s.awaited) m Fate.under_way) a.fate;
      }

      acks-now : (b d : Bool) → (b ≡ true → acked h 3 ≡ true) → (writes e 3 && acknowledges w e) ≡ d → (b || d) ≡ true → (acked h 3 || (writes e 3 && acknowledges w e)) ≡ true
      acks-now true d x y z = ap (λ (u : Bool). u || (writes e 3 && acknowledges w e)) (x refl)
      acks-now false d x y z = ap (λ (u : Bool). acked h 3 || u) (y ∙ z) ∙ or-all (acked h 3)

      ask-at : (y : Answer) (p : Pool) → t.answer ≡ y → is_accepted y ≡ true → Fits (after w asking) (asked y p v k got) → At (asked y p v k got) (after w asking) (then w asking h)
      ask-at (Answer.Refused n) p x r f = clash r refl
      ask-at (Answer.Done s) p x r f = record {
        pool = f.pool;
        nodes = f.nodes;
        awaited = f.awaited;
        fate = f.fate;
        joins = λ j b. (λ i. a.joins j b i || taken-in j i) ∙ sym (at_each (λ i. at v.joined i || taken_in k v.pool i) j b);
        waiting = λ j b. (λ i. a.waiting j b i && not (taken-in j i)) ∙ sym (at_each (λ i. at v.waits i && not (taken_in k v.pool i)) j b);
        acks = acks-now v.acked (is_write k && breaking.acknowledges (Answer.Done s)) a.acks (λ i. is-write k i && (ap (λ (u : Turn). breaking.acknowledges u.answer) q ∙ ap breaking.acknowledges x) i);
        owes = λ m b z.
            let o = sym (at_each (λ i. (misses k v (Answer.Done s) i || at v.owed i) && in_pool p i) m b) ∙ z in
            let n = in-pool (after w asking) p m f.pool (and_right (misses k v (Answer.Done s) m || at v.owed m) _ o) in
            by_cases (misses k v (Answer.Done s) m)
            (λ u. missed-now k t m q c (ap (λ (l : Answer). misses k v l m) x ∙ u) n)
            (λ u. stays_owed w h asking m (no-sync k) (a.owes m b (ap (λ (l : Bool). l || at v.owed m) (sym u) ∙ and_left (misses k v (Answer.Done s) m || at v.owed m) _ o)) n);
        kept = (a.kept, g);
      }

  asks : (k : Ask) (got : ℕ) → keeps v (Item.asks k got) ≡ true → At (step v (Item.asks k got)) (after w (Happening.client (event_of v k) got)) (then w (Happening.client (event_of v k) got) h)
  unfolding after
  asks k got z =
      let n = eqb-true v.pool.chunks 12 (and_left (eqb v.pool.chunks 12) _ z) in
      let y = and_right (eqb v.pool.chunks 12) _ z in
      let t = turn_by v k v.pool in
      let c = and_left (is_accepted t.answer) _ y in
      let q : turn_of (event_of v k) w.pool ≡ t = ap (turn_of (event_of v k)) a.pool ∙ turn-law k n in
      let g = asked-keeps w h (Happening.client (event_of v k) got) (premise got k t q (and_right (is_accepted t.answer) _ y)) in
      ask-at got k t q c g t.answer t.pool refl c
      (subst (λ (u : Turn). Fits (acted u.answer u.pool got w) (asked t.answer t.pool v k got)) (sym q) (ask-fits got k t q c g t.answer t.pool c))

  pub follows : (i : Item) → keeps v i ≡ true → At (step v i) (after w (happening v i)) (then w (happening v i) h)
  follows (Item.own k e) z = own k e z
  follows (Item.asks k got) z = asks k got z
  follows (Item.hand k) z = handed k z
  follows Item.comes z = comes z
  follows (Item.anew k) z = anew k z

-- ---- one after the other

pub record Shown (v : View) : Type 0 where
  pub world : World
  pub history : History world
  pub seen : At v world history

abbrev pub moment : (v : View) → Shown v → Moment
moment v s = record { world = s.world; history = s.history; kept = s.seen.kept }

-- what is shown later
pub record Next (v v' : View) (s : Shown v) : Type 0 where
  pub to : Shown v'
  pub later : Then (moment v s) (moment v' to)

onward : {w u : World} (f : History w) (g : History u) (t : World) (h : History t) → Later f u g → Later g t h → Later f t h
onward f g _ _ l Later.here = l
onward f g _ _ l (Later.more t h x m) = Later.more t h x (onward f g t h l m)

pub all-follow : (is : List Item) (v : View) (s : Shown v) → keeps_all is v ≡ true → Next v (through is v) s
all-follow [] v s z = record { to = s; later = Later.here }
all-follow (i ∷ is) v s z =
    let t : Shown (step v i) = record { world = after s.world (happening v i); history = then s.world (happening v i) s.history; seen = follows v s.world s.history s.seen i (and_left (keeps v i) _ z) } in
    let n = all-follow is (step v i) t (and_right (keeps v i) _ z) in
    record { to = n.to; later = onward s.history t.history n.to.world n.to.history (Later.more s.world s.history (happening v i) Later.here) n.later }

-- what is owed
abbrev pub owing : View → ℕ → ℕ → Bool
owing v m normals = (ltb m 3 && at v.owed m) && (few normals && all (λ j. not (has normals j) || is_normal (state_of v.pool j)))

pub owed : (v : View) (s : Shown v) (m normals : ℕ) → owing v m normals ≡ true → Owing m normals (moment v s)
owed v s m normals z =
    let f = and_left (ltb m 3 && at v.owed m) _ z in
    let g = and_right (ltb m 3 && at v.owed m) _ z in
    let k : Missed m 3 s.history = s.seen.owes m (ltb-true m 3 (and_left (ltb m 3) _ f)) (and_right (ltb m 3) _ f) in
    let n : (j : ℕ) → has normals j ≡ true → is_normal (state_in s.world j) ≡ true = λ j y.
    let b = few-below normals j (and_left (few normals) _ g) y in
    ap (λ (p : Pool). is_normal (state_of p j)) s.seen.pool ∙ implied (has normals j) _ (all_three (λ i. not (has normals i) || is_normal (state_of v.pool i)) (and_right (few normals) _ g) j b) y in
    record { missed = k; normal = n; marked = λ j y. never-forgotten s.world s.history s.seen.kept m 3 k j (n j y) }

pub began : (v : View) (s : Shown v) (r : Run) → v.pool.job ≡ Job.Running r → Began r.phase r.source (moment v s)
began v s r q = record { run = r; job = ap (λ (p : Pool). p.job) s.seen.pool ∙ q; is = refl; from = refl }
