-- What an accepted event leaves of a node's map, staging and kept chunks, sentence by sentence as document 01 has it ("Node"), over bytes and single chunks:
-- byte k of a map is in row k / 512. None of the events' own definitions is cited, so that a rule misread in definition and code alike does not meet this.
use Rattle.std.specs.Prelude.{◌≡◌, ◌≢◌, Bool, true, false, List, [], ◌∷◌, ◌++◌, ℕ, ◌+◌, ◌-◌, ◌*◌, ◌/◌, ◌%◌, ◌≤◌, ◌<◌, max, length, get_or, drop, replicate, Option, Some, None}
use Rattle.std.specs.Int.Bits.{bit_or}
use Rattle.laws_words.specs.Words.{pick, bit}
use Rattle.rules_base.specs.Limits.{map_bytes, version_limit}
use Rattle.rules_base.specs.Sets.{has}
use Rattle.rules_base.specs.Chunk.{dirty}
use Rattle.rules_base.specs.Map.{sound}
use Rattle.rules_base.specs.Summary.{agree}
use Rattle.rules_base.specs.declared.Op.{Op}
use Rattle.rules_node.specs.declared.State.{State}
use Rattle.rules_node.specs.declared.Node.{Node}
use Rattle.rules_node.specs.States.{is_serving}
use Rattle.rules_node.specs.StateRules.{valid}
use Rattle.rules_node.specs.Events.{Event}
use Rattle.rules_node.specs.Face.{answers}
use Rattle.rules_node.specs.Held.{Held, next, after}
use Rattle.rules_node.specs.Cuts.{sized, total, Cuts, takes}
use Rattle.rules_node.specs.Turns.{is_accepted}

-- the event is accepted
abbrev pub Accepts : Event → Held → Type 0
Accepts e w = is_accepted (answers e w.at w.map w.staging).answer ≡ true

-- ---- what can become of a map: `from` as it was, `left` what is left

-- 8,192 zero bytes
abbrev pub Zeroed : List ℕ → Type 0
Zeroed left = left ≡ replicate 8192 0

-- the rows that are named are those of `from`, byte for byte, and every other row is zero
pub record Rows (named : ℕ → Type 0) (from left : List ℕ) : Type 0 where
  pub size : length left ≡ 8192
  pub those : (k : ℕ) → named (k / 512) → get_or left k 0 ≡ get_or from k 0
  pub others : (k : ℕ) → ¬ (named (k / 512)) → get_or left k 0 ≡ 0

-- a chunk is dirty for each member that is named, and every other bit is as it was
pub record Marked (named : ℕ → Type 0) (chunk : ℕ) (from left : List ℕ) : Type 0 where
  pub size : length left ≡ 8192
  pub those : (m : ℕ) → named m → dirty left m chunk ≡ 1
  pub others : (m c : ℕ) → ¬ (named m × (c ≡ chunk)) → dirty left m c ≡ dirty from m c

-- a chunk is clean for one member, and every other bit is as it was
pub record Cleared (member chunk : ℕ) (from left : List ℕ) : Type 0 where
  pub size : length left ≡ 8192
  pub that : dirty left member chunk ≡ 0
  pub others : (m c : ℕ) → ¬ ((m ≡ member) × (c ≡ chunk)) → dirty left m c ≡ dirty from m c

-- every chunk below a count is dirty for one member, every other bit is as it was, and every byte of another row
pub record Filled (member count : ℕ) (from left : List ℕ) : Type 0 where
  pub size : length left ≡ 8192
  pub those : (c : ℕ) → c < count → dirty left member c ≡ 1
  pub others : (m c : ℕ) → ¬ ((m ≡ member) × (c < count)) → dirty left m c ≡ dirty from m c
  pub rows : (k : ℕ) → k / 512 ≢ member → get_or left k 0 ≡ get_or from k 0

-- a part is ORed in from an offset on, byte for byte, and every other byte is as it was
pub record PartOred (offset : ℕ) (part from left : List ℕ) : Type 0 where
  pub size : length left ≡ 8192
  pub those : (k : ℕ) → offset ≤ k → k < offset + length part → get_or left k 0 ≡ bit_or (get_or from k 0) (get_or part (k - offset) 0)
  pub others : (k : ℕ) → ¬ ((offset ≤ k) × (k < offset + length part)) → get_or left k 0 ≡ get_or from k 0

-- a second map is ORed in: a bit is set where it is in either
pub record Ored (from second left : List ℕ) : Type 0 where
  pub size : length left ≡ 8192
  pub bits : (m c : ℕ) → dirty left m c ≡ max (dirty from m c) (dirty second m c)

-- the kept chunk numbers, oldest first: they stand at the end of their sixteen places
abbrev pub kept_chunks : Node → List ℕ
kept_chunks n = drop (16 - n.held) n.kept

-- c is one of them
abbrev pub AmongKept : Node → ℕ → Type 0
AmongKept n c = (i : ℕ) × (i < n.held) × (get_or (kept_chunks n) i 0 ≡ c)

-- "marks each kept chunk for every member but the chosen, passing over a chunk dirty for the chosen": the chosen's bits stay, no bit is cleared, and nothing
-- but kept chunks of members changes
pub record LastIos (n : Node) (chosen : ℕ) (from left : List ℕ) : Type 0 where
  pub size : length left ≡ 8192
  pub never : (c : ℕ) → dirty left chosen c ≡ dirty from chosen c
  pub those : (m c : ℕ) → AmongKept n c → dirty from chosen c ≡ 0 → has n.members m ≡ true → m ≢ chosen → dirty left m c ≡ 1
  pub passed : (m c : ℕ) → dirty from chosen c ≡ 1 → dirty left m c ≡ dirty from m c
  pub stay : (m c : ℕ) → dirty from m c ≡ 1 → dirty left m c ≡ 1
  pub others : (m c : ℕ) → ¬ (AmongKept n c × (has n.members m ≡ true)) → dirty left m c ≡ dirty from m c

-- ---- what is said of each event

-- of what it leaves: of staging, of the transfer in hand, of the map, of the kept chunks
pub record Sentence : Type 1 where
  pub staging : List ℕ → Type 0
  pub transfer : Option ℕ → Type 0
  pub map : List ℕ → Type 0
  pub kept : List ℕ → Type 0

-- "What a rule does not name stays."
abbrev pub StagingStays : Held → List ℕ → Type 0
StagingStays w left = left ≡ w.staging

abbrev pub TransferStays : Held → Option ℕ → Type 0
TransferStays w left = left ≡ w.at.node.transfer

abbrev pub MapStays : Held → List ℕ → Type 0
MapStays w left = left ≡ w.map

abbrev pub KeptStays : Held → List ℕ → Type 0
KeptStays w left = left ≡ kept_chunks w.at.node

-- the transfer is gone with staging, dropped or committed
abbrev pub Gone : Option ℕ → Type 0
Gone left = left ≡ None

-- its own row; the rows of a set
abbrev pub Own : Held → ℕ → Type 0
Own w m = m ≡ w.at.node.id

abbrev pub In : ℕ → ℕ → Type 0
In set m = has set m ≡ true

-- POOL_INFO that zeroes the member's row
abbrev pub zeroes_row : Op → Bool
zeroes_row Op.AddCreate = true
zeroes_row Op.AddAssemble = false
zeroes_row Op.RemoveDelete = true
zeroes_row Op.RemoveDisassemble = false

-- the last sixteen of a list
abbrev pub last_sixteen : List ℕ → List ℕ
last_sixteen xs = drop (length xs - 16) xs

-- Register create: "map zeroed", "kept chunks gone"; add: "map kept". Unregister: "delete zeroes map"; "NO_IO with store stays, without it, staging dropped". Join create: "other
-- rows zeroed". Leave: "staging dropped; delete zeroes the other rows, never its own". "A write marks", and "keeps the last 16 chunk numbers". POOL_INFO: "add-create enters a
-- member with a zero row", "remove-delete zeroes row"; add-assemble and remove-disassemble name no byte. "MAP_READY .. fills staging (zero, or the map)", and a transfer begins,
-- also where one is in hand, at byte 0. "Taking a map ORs it in", part by part. "MAP_DONE commits." "Enable 1 and MAP_DONE .. zero rows outside it." "MAP_DISABLE, Leave and Enable drop staging; dropped or
-- committed, it is zeroed." Fill (document 02): "the new member's row is set for every chunk", and it "keeps no chunk number".
abbrev pub said_of : Event → Held → Sentence
said_of Event.register_create w = record { staging = StagingStays w; transfer = TransferStays w; map = Zeroed; kept = λ left. left ≡ [] }
said_of (Event.register_add set version) w = record { staging = StagingStays w; transfer = TransferStays w; map = MapStays w; kept = KeptStays w }
said_of (Event.unregister delete) w =
    record {
      staging = λ left. (w.at.node.state ≡ State.NoIo → Zeroed left) × (w.at.node.state ≢ State.NoIo → left ≡ w.staging);
      transfer = λ left. (w.at.node.state ≡ State.NoIo → left ≡ None) × (w.at.node.state ≢ State.NoIo → left ≡ w.at.node.transfer);
      map = λ left. pick delete (Zeroed left) (left ≡ w.map);
      kept = KeptStays w;
    }
said_of (Event.join_create set) w = record { staging = StagingStays w; transfer = TransferStays w; map = Rows (Own w) w.map; kept = KeptStays w }
said_of Event.assemble w = record { staging = StagingStays w; transfer = TransferStays w; map = MapStays w; kept = KeptStays w }
said_of (Event.leave delete) w =
    record {
      staging = Zeroed;
      transfer = Gone;
      map = λ left. pick delete (Rows (Own w) w.map left) (left ≡ w.map);
      kept = KeptStays w;
    }
said_of (Event.enable1 version set) w = record { staging = Zeroed; transfer = Gone; map = Rows (In set) w.map; kept = KeptStays w }
said_of Event.enable0 w = record { staging = Zeroed; transfer = Gone; map = MapStays w; kept = KeptStays w }
said_of Event.fault w = record { staging = StagingStays w; transfer = TransferStays w; map = MapStays w; kept = KeptStays w }
said_of (Event.write chunk set version) w =
    record {
      staging = StagingStays w;
      transfer = TransferStays w;
      map = Marked (In set) chunk w.map;
      kept = λ left. left ≡ last_sixteen (kept_chunks w.at.node ++ (chunk ∷ []));
    }
said_of (Event.synced member chunk) w = record { staging = StagingStays w; transfer = TransferStays w; map = Cleared member chunk w.map; kept = KeptStays w }
said_of (Event.pool_info op member) w =
    record {
      staging = StagingStays w;
      transfer = TransferStays w;
      map = λ left. pick (zeroes_row op) (Rows (λ m. m ≢ member) w.map left) (left ≡ w.map);
      kept = KeptStays w;
    }
said_of (Event.map_ready keep) w = record { staging = λ left. pick keep (left ≡ w.map) (Zeroed left); transfer = λ left. left ≡ Some 0; map = MapStays w; kept = KeptStays w }
said_of (Event.give_part offset size) w = record { staging = StagingStays w; transfer = TransferStays w; map = MapStays w; kept = KeptStays w }
said_of (Event.take_part offset part) w = record { staging = PartOred offset part w.staging; transfer = λ left. left ≡ Some (offset + length part); map = MapStays w; kept = KeptStays w }
said_of (Event.map_done enabling version set) w = record { staging = Zeroed; transfer = Gone; map = Rows (In set) w.staging; kept = KeptStays w }
said_of Event.map_disable w = record { staging = Zeroed; transfer = Gone; map = MapStays w; kept = KeptStays w }
said_of Event.map_get_ver w = record { staging = StagingStays w; transfer = TransferStays w; map = MapStays w; kept = KeptStays w }
said_of (Event.last_io_to_map chosen) w = record { staging = StagingStays w; transfer = TransferStays w; map = LastIos w.at.node chosen w.map; kept = KeptStays w }
said_of (Event.fill member version) w = record { staging = StagingStays w; transfer = TransferStays w; map = Filled member w.at.node.chunks w.map; kept = KeptStays w }

-- Each assumes that the event is accepted; the last also that the node's array has its sixteen places (true of every value of the type).
abbrev pub StagingAsSaid : Type 0
StagingAsSaid = (e : Event) (w : Held) → Accepts e w → (said_of e w).staging (next e w).staging

abbrev pub TransferAsSaid : Type 0
TransferAsSaid = (e : Event) (w : Held) → Accepts e w → (said_of e w).transfer (next e w).at.node.transfer

abbrev pub MapAsSaid : Type 0
MapAsSaid = (e : Event) (w : Held) → Accepts e w → (said_of e w).map (next e w).map

abbrev pub KeptAsSaid : Type 0
KeptAsSaid = (e : Event) (w : Held) → length w.at.node.kept ≡ 16 → Accepts e w → (said_of e w).kept (kept_chunks (next e w).at.node)

-- ---- which parts are taken and given

-- A part that is taken has 1 to 1,024 bytes, starts where the last ended, ends within the map, and none of its bits is past the chunk count: byte i of it is byte offset + i of the
-- map, bit j of that byte stands for chunk 8 * ((offset + i) % 512) + j.
pub record TakenPart (offset : ℕ) (part : List ℕ) (n : Node) : Type 0 where
  pub some : 1 ≤ length part
  pub few : length part ≤ 1024
  pub here : n.transfer ≡ Some offset
  pub within : offset + length part ≤ 8192
  pub none : (i j : ℕ) → i < length part → n.chunks ≤ 8 * ((offset + i) % 512) + j → bit (get_or part i 0) j ≡ 0

abbrev pub OnlyParts : Type 0
OnlyParts = (offset : ℕ) (part : List ℕ) (w : Held) → Accepts (Event.take_part offset part) w → TakenPart offset part w.at.node

-- A part that is given has 1 to 1,024 bytes, all of them the map's.
abbrev pub OnlyGiven : Type 0
OnlyGiven = (offset size : ℕ) (w : Held) → Accepts (Event.give_part offset size) w → (1 ≤ size) × (size ≤ 1024) × (offset + size ≤ 8192)

-- A part that is not taken changes nothing: the transfer stays in hand where it was.
abbrev pub RefusedPart : Type 0
RefusedPart = (offset : ℕ) (part : List ℕ) (w : Held) → is_accepted (answers (Event.take_part offset part) w.at w.map w.staging).answer ≡ false
    → next (Event.take_part offset part) w ≡ w

-- ---- a map received: MAP_READY, consecutive parts of a map zs, MAP_DONE, one right after the other

abbrev pub ready : Bool → Held → Held
ready keep w = next (Event.map_ready keep) w

-- the parts have these lengths
abbrev pub took : Bool → List ℕ → List ℕ → Held → Held
took keep zs lengths w = after (takes zs 0 lengths) (ready keep w)

-- each event is accepted where those before it left the node
abbrev pub AllAccepted : List Event → Held → Type 0
AllAccepted [] w = Unit {0}
AllAccepted (e ∷ es) w = Accepts e w × AllAccepted es (next e w)

-- a node that can receive: it keeps its state rules, has two sound maps and true summaries, and serves (and its array has its sixteen places)
pub record Able (w : Held) : Type 0 where
  pub size : length w.at.node.kept ≡ 16
  pub rules : valid w.at.node ≡ true
  pub map : sound w.at.node.chunks w.map ≡ true
  pub staging : sound w.at.node.chunks w.staging ≡ true
  pub agrees : agree w.at.summaries w.map ≡ true
  pub serves : is_serving w.at.node ≡ true

-- It gives any part of its map.
abbrev pub GivesParts : Type 0
GivesParts = (offset size : ℕ) (w : Held) → Able w → 1 ≤ size → size ≤ 1024 → offset + size ≤ 8192 → Accepts (Event.give_part offset size) w

-- the bytes of zs below n have come: they are ORed in, and every other byte is as it was
pub record Came (n : ℕ) (zs from left : List ℕ) : Type 0 where
  pub size : length left ≡ 8192
  pub those : (k : ℕ) → k < n → get_or left k 0 ≡ bit_or (get_or from k 0) (get_or zs k 0)
  pub others : (k : ℕ) → n ≤ k → get_or left k 0 ≡ get_or from k 0

pub record Took (keep : Bool) (zs lengths : List ℕ) (w : Held) : Type 0 where
  pub readies : Accepts (Event.map_ready keep) w
  pub takes : AllAccepted (takes zs 0 lengths) (ready keep w)
  pub transfer : (took keep zs lengths w).at.node.transfer ≡ Some (total lengths)
  pub staging : Came (total lengths) zs (ready keep w).staging (took keep zs lengths w).staging

-- After MAP_READY any list of consecutive parts of a sound map, 1 to 1,024 bytes each, is accepted, also one that is cut short. Staging is then the OR with the bytes
-- that came, and every other byte of it is as MAP_READY left it.
abbrev pub PartsTaken : Type 0
PartsTaken = (keep : Bool) (zs lengths : List ℕ) (w : Held) → Able w → sound w.at.node.chunks zs ≡ true → sized lengths ≡ true → total lengths ≤ map_bytes
    → Took keep zs lengths w

-- Wherever the cuts fall, staging ends as if the map had come whole: ORed in.
abbrev pub PartsAsWhole : Type 0
PartsAsWhole = (keep : Bool) (zs lengths : List ℕ) (w : Held) → Able w → sound w.at.node.chunks zs ≡ true → Cuts lengths
    → Ored (ready keep w).staging zs (took keep zs lengths w).staging

-- So it does not matter where they fall: state, map and staging are the same.
abbrev pub AnyCuts : Type 0
AnyCuts = (keep : Bool) (zs lengths lengths' : List ℕ) (w : Held) → Able w → sound w.at.node.chunks zs ≡ true → Cuts lengths → Cuts lengths'
    → took keep zs lengths w ≡ took keep zs lengths' w

-- Then MAP_DONE, for an enabling version and set.

abbrev pub received : Bool → List ℕ → List ℕ → Bool → ℕ → ℕ → Held → List ℕ
received keep zs lengths enabling version set w = (next (Event.map_done enabling version set) (took keep zs lengths w)).map

-- It is accepted too, if set and version are such as it takes.
abbrev pub Receives : Type 0
Receives = (keep : Bool) (zs lengths : List ℕ) (enabling : Bool) (version set : ℕ) (w : Held) → Able w → sound w.at.node.chunks zs ≡ true → Cuts lengths
    → set ≤ 65535
    → has set w.at.node.id ≡ true
    → version ≤ version_limit
    → Accepts (Event.map_done enabling version set) (took keep zs lengths w)

-- Start empty: what the receiver held is gone. The map left is the map taken, in the rows of the set, byte for byte, and zero elsewhere.
abbrev pub OldMarksGone : Type 0
OldMarksGone = (zs lengths : List ℕ) (enabling : Bool) (version set : ℕ) (w : Held) → Able w → sound w.at.node.chunks zs ≡ true → Cuts lengths
    → Accepts (Event.map_done enabling version set) (took false zs lengths w)
    → Rows (In set) zs (received false zs lengths enabling version set w)

-- Start from what it holds: in the rows of the set the map left is the OR of what it held and the map taken, and zero elsewhere.
pub record Gathered (set : ℕ) (from second left : List ℕ) : Type 0 where
  pub size : length left ≡ 8192
  pub those : (m c : ℕ) → In set m → dirty left m c ≡ max (dirty from m c) (dirty second m c)
  pub others : (k : ℕ) → ¬ (In set (k / 512)) → get_or left k 0 ≡ 0

abbrev pub OldMarksKept : Type 0
OldMarksKept = (zs lengths : List ℕ) (enabling : Bool) (version set : ℕ) (w : Held) → Able w → sound w.at.node.chunks zs ≡ true → Cuts lengths
    → Accepts (Event.map_done enabling version set) (took true zs lengths w)
    → Gathered set w.map zs (received true zs lengths enabling version set w)

-- Before byte 8,192 MAP_DONE is refused, with 15 at the latest.
abbrev pub NotBefore : Type 0
NotBefore = (enabling : Bool) (version set : ℕ) (w : Held) → Accepts (Event.map_done enabling version set) w → w.at.node.transfer ≡ Some map_bytes
