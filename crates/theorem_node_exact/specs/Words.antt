-- The words that the statements about a node's events are made of, over the node's fields, bytes and single chunks: byte k of a map is in row k / 512. None of the events' own tests,
-- guards and changes is cited, here or in the statements, so that a rule misread in definition and code alike makes them false.
use Rattle.std.specs.Prelude.{◌≡◌, ◌≢◌, ◌⊎◌, true, false, List, ℕ, ◌+◌, ◌-◌, ◌*◌, ◌/◌, ◌%◌, ◌^◌, ◌≤◌, ◌<◌, length, get_or, drop, replicate, Option, Some, None}
use Rattle.std.specs.Int.Bits.{bit_or}
use Rattle.laws_words.specs.Words.{bit}
use Rattle.rules_base.specs.Sets.{has}
use Rattle.rules_base.specs.Chunk.{dirty}
use Rattle.rules_base.specs.Summary.{agree}
use Rattle.rules_node.specs.declared.State.{State}
use Rattle.rules_node.specs.declared.Answer.{Answer}
use Rattle.rules_node.specs.declared.Node.{Node}
use Rattle.rules_node.specs.Events.{Event}
use Rattle.rules_node.specs.Face.{answers}
use Rattle.rules_node.specs.Held.{Held}
use Rattle.rules_node.specs.Turns.{is_accepted}

abbrev pub Iff : Type 0 → Type 0 → Type 0
Iff a b = (a → b) × (b → a)

-- the event is accepted; it is refused with a number
abbrev pub Accepts : Event → Held → Type 0
Accepts e w = is_accepted (answers e w.at w.map w.staging).answer ≡ true

abbrev pub Refuses : ℕ → Event → Held → Type 0
Refuses number e w = (answers e w.at w.map w.staging).answer ≡ Answer.Refused number

-- ---- ids, sets, states

-- "member ids 0..15"; the bits of a set are those of ids 0 to 15
abbrev pub AnId : ℕ → Type 0
AnId id = id ≤ 15

abbrev pub ASet : ℕ → Type 0
ASet set = set ≤ 65535

-- the member is in the set
abbrev pub In : ℕ → ℕ → Type 0
In set m = has set m ≡ true

-- CREATED, NORMAL or NO_IO
abbrev pub Joined : State → Type 0
Joined s = (s ≡ State.Created) ⊎ (s ≡ State.Normal) ⊎ (s ≡ State.NoIo)

-- ""serving" means CREATED, NORMAL or NO_IO with a store"
abbrev pub Serving : Node → Type 0
Serving n = Joined n.state × (n.store ≡ true)

-- the bytes of the map that were taken so far
abbrev pub so_far : Option ℕ → ℕ
so_far None = 0
so_far (Some bytes) = bytes

-- ---- kept chunks

-- the kept chunk numbers, oldest first: they stand at the end of their sixteen places
abbrev pub kept_chunks : Node → List ℕ
kept_chunks n = drop (16 - n.held) n.kept

-- c is one of them
abbrev pub AmongKept : Node → ℕ → Type 0
AmongKept n c = (i : ℕ) × (i < n.held) × (get_or (kept_chunks n) i 0 ≡ c)

-- the last sixteen of a list
abbrev pub last_sixteen : List ℕ → List ℕ
last_sixteen xs = drop (length xs - 16) xs

-- ---- what can become of a map: `from` as it was, `left` what is left

-- 8,192 zero bytes
abbrev pub Zeroed : List ℕ → Type 0
Zeroed left = left ≡ replicate 8192 0

-- the rows that are named are those of `from`, byte for byte, and every other row is zero
pub record Rows (named : ℕ → Type 0) (from left : List ℕ) : Type 0 where
  pub size : length left ≡ 8192
  pub those : (k : ℕ) → named (k / 512) → get_or left k 0 ≡ get_or from k 0
  pub others : (k : ℕ) → ¬ (named (k / 512)) → get_or left k 0 ≡ 0

-- a chunk is dirty for each member that is named, and every other bit is as it was
pub record Marked (named : ℕ → Type 0) (chunk : ℕ) (from left : List ℕ) : Type 0 where
  pub size : length left ≡ 8192
  pub those : (m : ℕ) → named m → dirty left m chunk ≡ 1
  pub others : (m c : ℕ) → ¬ (named m × (c ≡ chunk)) → dirty left m c ≡ dirty from m c

-- a chunk is clean for one member, and every other bit is as it was
pub record Cleared (member chunk : ℕ) (from left : List ℕ) : Type 0 where
  pub size : length left ≡ 8192
  pub that : dirty left member chunk ≡ 0
  pub others : (m c : ℕ) → ¬ ((m ≡ member) × (c ≡ chunk)) → dirty left m c ≡ dirty from m c

-- every chunk below a count is dirty for one member, every other bit is as it was, and every byte of another row
pub record Filled (member count : ℕ) (from left : List ℕ) : Type 0 where
  pub size : length left ≡ 8192
  pub those : (c : ℕ) → c < count → dirty left member c ≡ 1
  pub others : (m c : ℕ) → ¬ ((m ≡ member) × (c < count)) → dirty left m c ≡ dirty from m c
  pub rows : (k : ℕ) → k / 512 ≢ member → get_or left k 0 ≡ get_or from k 0

-- a part is ORed in from an offset on, byte for byte, and every other byte is as it was
pub record PartOred (offset : ℕ) (part from left : List ℕ) : Type 0 where
  pub size : length left ≡ 8192
  pub those : (k : ℕ) → offset ≤ k → k < offset + length part → get_or left k 0 ≡ bit_or (get_or from k 0) (get_or part (k - offset) 0)
  pub others : (k : ℕ) → ¬ ((offset ≤ k) × (k < offset + length part)) → get_or left k 0 ≡ get_or from k 0

-- "marks each kept chunk for every member but the chosen, passing over a chunk dirty for the chosen": the chosen's bits stay, no bit is cleared, and nothing
-- but kept chunks of members changes
pub record LastIos (n : Node) (chosen : ℕ) (from left : List ℕ) : Type 0 where
  pub size : length left ≡ 8192
  pub never : (c : ℕ) → dirty left chosen c ≡ dirty from chosen c
  pub those : (m c : ℕ) → AmongKept n c → dirty from chosen c ≡ 0 → In n.members m → m ≢ chosen → dirty left m c ≡ 1
  pub passed : (m c : ℕ) → dirty from chosen c ≡ 1 → dirty left m c ≡ dirty from m c
  pub stay : (m c : ℕ) → dirty from m c ≡ 1 → dirty left m c ≡ 1
  pub others : (m c : ℕ) → ¬ (AmongKept n c × In n.members m) → dirty left m c ≡ dirty from m c

-- ---- a node in order

-- "Node: 1 to 4,096 chunks; own id in its set unless EMPTY; create mark only in REGISTERED; a store in all states but EMPTY, and perhaps NO_IO; a transfer in hand only in NO_IO with
-- store; version at most 2^63 - 17; kept chunks below the chunk count." A set has no bit above 15, at most sixteen chunks are kept, and at most a map's bytes were taken.
pub record KeepsRules (n : Node) : Type 0 where
  pub some : 1 ≤ n.chunks
  pub few : n.chunks ≤ 4096
  pub own : n.state ≢ State.Empty → In n.members n.id
  pub mark : n.create ≡ true → n.state ≡ State.Registered
  pub none : n.state ≡ State.Empty → n.store ≡ false
  pub store : n.state ≢ State.Empty → n.state ≢ State.NoIo → n.store ≡ true
  pub hand : n.transfer ≢ None → (n.state ≡ State.NoIo) × (n.store ≡ true)
  pub set : ASet n.members
  pub version : n.version ≤ 2 ^ 63 - 17
  pub sixteen : n.held ≤ 16
  pub kept : (c : ℕ) → AmongKept n c → c < n.chunks
  pub taken : so_far n.transfer ≤ 8192

-- "8,192 bytes", "Bits past the chunk count stay 0."
pub record AMap (chunks : ℕ) (xs : List ℕ) : Type 0 where
  pub size : length xs ≡ 8192
  pub bytes : (k : ℕ) → get_or xs k 0 < 256
  pub past : (m c : ℕ) → chunks ≤ c → dirty xs m c ≡ 0

-- a part of a map from an offset on: byte i of it is byte offset + i of the map, bit j of that byte stands for chunk 8 * ((offset + i) % 512) + j; none of its bits is past the chunk count
pub record APart (chunks offset : ℕ) (part : List ℕ) : Type 0 where
  pub bytes : (i : ℕ) → i < length part → get_or part i 0 < 256
  pub past : (i j : ℕ) → i < length part → j < 8 → chunks ≤ 8 * ((offset + i) % 512) + j → bit (get_or part i 0) j ≡ 0

-- The node keeps its state rules, map and staging are maps, and its summaries agree with its map: 1, 2 and 18 are not given there (Numbers), and every reached node is one (Reached).
pub record InOrder (w : Held) : Type 0 where
  pub rules : KeepsRules w.at.node
  pub map : AMap w.at.node.chunks w.map
  pub staging : AMap w.at.node.chunks w.staging
  pub summaries : agree w.at.summaries w.map ≡ true
