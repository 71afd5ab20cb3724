-- Marks commute. A write is a mark, a synced is a clear, a fill marks every chunk of one member; the transport may bring them in another order than they were sent in. What is the same then, and where the order is
-- seen. Where a theorem says so, the node's array has its sixteen places (true of every value of the type).
use Rattle.std.specs.Prelude.{◌≡◌, ◌≢◌, Bool, true, false, List, [], ◌∷◌, ◌++◌, ℕ, ◌≤◌, ◌<◌, max, length, replicate, None}
use Rattle.rules_base.specs.Limits.{version_limit}
use Rattle.rules_base.specs.Sets.{has}
use Rattle.rules_base.specs.Chunk.{dirty}
use Rattle.rules_base.specs.Map.{sound, or_in}
use Rattle.rules_node.specs.declared.State.{State}
use Rattle.rules_node.specs.declared.Node.{Node}
use Rattle.rules_node.specs.Change.{forgotten}
use Rattle.rules_node.specs.Events.{Event}
use Rattle.rules_node.specs.Face.{answers}
use Rattle.rules_node.specs.Held.{Held, next}
use Rattle.rules_node.specs.Cuts.{Cuts}
use Rattle.theorem_node.specs.Demand2.{Reached}
use Rattle.theorem_node.specs.Said.{Accepts, In, kept_chunks, last_sixteen, ready, took, Able}

-- one event, and then another
abbrev pub both : Event → Event → Held → Held
both first second w = next second (next first w)

-- the array has its sixteen places
abbrev pub Sized : Held → Type 0
Sized w = length w.at.node.kept ≡ 16

-- ---- two writes

-- "A node's write now stores the larger of its version and the one brought."
abbrev pub StoresTheLarger : Type 0
StoresTheLarger = (chunk set version : ℕ) (w : Held) → Accepts (Event.write chunk set version) w
    → (next (Event.write chunk set version) w).at.node.version ≡ max w.at.node.version version

-- the same map and its summaries, the same staging, and the same state, version with it, all but the kept chunks
pub record SameButKept (w v : Held) : Type 0 where
  pub map : w.map ≡ v.map
  pub summaries : w.at.summaries ≡ v.at.summaries
  pub staging : w.staging ≡ v.staging
  pub node : forgotten w.at.node ≡ forgotten v.at.node

-- two writes that the node accepts, in either order
abbrev pub WritesCommute : Type 0
WritesCommute = (chunk set version chunk' set' version' : ℕ) (w : Held) → Sized w
    → Accepts (Event.write chunk set version) w
    → Accepts (Event.write chunk' set' version') w
    → SameButKept (both (Event.write chunk set version) (Event.write chunk' set' version') w) (both (Event.write chunk' set' version') (Event.write chunk set version) w)

-- a repeat changes nothing but the kept chunks
abbrev pub WriteTwice : Type 0
WriteTwice = (chunk set version : ℕ) (w : Held) → Sized w → Accepts (Event.write chunk set version) w
    → SameButKept (both (Event.write chunk set version) (Event.write chunk set version) w) (next (Event.write chunk set version) w)

-- ---- any number of writes

pub record Write : Type 0 where
  pub chunk : ℕ
  pub set : ℕ
  pub version : ℕ

-- they arrive one after the other
abbrev pub arrive : List Write → Held → Held
arrive [] w = w
arrive (x ∷ xs) w = arrive xs (next (Event.write x.chunk x.set x.version) w)

-- the same writes arrive in another way: two that follow each other change places, a repeat comes or falls away, any number of times
pub data Rearranged : List Write → List Write → Type 0 where
  same : (xs : List Write) → Rearranged xs xs
  swapped : (x y : Write) (xs : List Write) → Rearranged (x ∷ y ∷ xs) (y ∷ x ∷ xs)
  repeated : (x : Write) (xs : List Write) → Rearranged (x ∷ x ∷ xs) (x ∷ xs)
  later : (x : Write) (xs ys : List Write) → Rearranged xs ys → Rearranged (x ∷ xs) (x ∷ ys)
  back : (xs ys : List Write) → Rearranged xs ys → Rearranged ys xs
  then : (xs ys zs : List Write) → Rearranged xs ys → Rearranged ys zs → Rearranged xs zs

-- At every reached node, whatever writes arrive, accepted or refused: however they arrive, all is the same but the kept chunks.
abbrev pub AnyArrival : Type 0
AnyArrival = (xs ys : List Write) (w : Held) → Rearranged xs ys → Reached w.at w.map w.staging → SameButKept (arrive xs w) (arrive ys w)

-- ---- marks and clears

pub data Marking : Event → Type 0 where
  mark : (chunk set version : ℕ) → Marking (Event.write chunk set version)
  clear : (member chunk : ℕ) → Marking (Event.synced member chunk)
  fill : (member version : ℕ) → Marking (Event.fill member version)

-- What a mark, a clear or a fill is answered, refusal or not, does not hang on one that came before it.
abbrev pub OrderFree : Type 0
OrderFree = (e f : Event) (w : Held) → Marking e → Marking f → Sized w
    → (answers f (next e w).at (next e w).map (next e w).staging).answer ≡ (answers f w.at w.map w.staging).answer

-- A mark and a clear, where the member is not marked or the chunk is another, leave the same in either order: map, staging and state, kept chunks with it.
abbrev pub MarkAndClear : Type 0
MarkAndClear = (chunk set version member cleared : ℕ) (w : Held) → Sized w
    → Accepts (Event.write chunk set version) w
    → Accepts (Event.synced member cleared) w
    → ¬ (In set member × (cleared ≡ chunk))
    → both (Event.write chunk set version) (Event.synced member cleared) w ≡ both (Event.synced member cleared) (Event.write chunk set version) w

-- ---- fills

-- It "stores the pool's version as a write does".
abbrev pub FillStoresTheLarger : Type 0
FillStoresTheLarger = (member version : ℕ) (w : Held) → Accepts (Event.fill member version) w
    → (next (Event.fill member version) w).at.node.version ≡ max w.at.node.version version

-- A fill and a mark leave the same in either order: map, staging and state, kept chunks with it, since a fill keeps none.
abbrev pub FillAndMark : Type 0
FillAndMark = (member filling chunk set version : ℕ) (w : Held) → Sized w
    → Accepts (Event.fill member filling) w
    → Accepts (Event.write chunk set version) w
    → both (Event.fill member filling) (Event.write chunk set version) w ≡ both (Event.write chunk set version) (Event.fill member filling) w

-- So do two fills.
abbrev pub FillsCommute : Type 0
FillsCommute = (member version member' version' : ℕ) (w : Held) → Sized w
    → Accepts (Event.fill member version) w
    → Accepts (Event.fill member' version') w
    → both (Event.fill member version) (Event.fill member' version') w ≡ both (Event.fill member' version') (Event.fill member version) w

-- So do a fill and a clear of another member.
abbrev pub FillAndClear : Type 0
FillAndClear = (member version other chunk : ℕ) (w : Held) → Sized w
    → Accepts (Event.fill member version) w
    → Accepts (Event.synced other chunk) w
    → other ≢ member
    → both (Event.fill member version) (Event.synced other chunk) w ≡ both (Event.synced other chunk) (Event.fill member version) w

-- ---- taking maps into staging

-- A map that was taken, wherever its cuts fell, is ORed in.
abbrev pub TakingIsOr : Type 0
TakingIsOr = (keep : Bool) (zs lengths : List ℕ) (w : Held) → Able w → sound w.at.node.chunks zs ≡ true → Cuts lengths
    → (took keep zs lengths w).staging ≡ or_in (ready keep w).staging zs

abbrev pub zeros : List ℕ
zeros = replicate 8192 0

-- the OR of maps that are sound for a chunk count
pub record OrLaws (chunks : ℕ) : Type 0 where
  pub commutative : (xs ys : List ℕ) → sound chunks xs ≡ true → sound chunks ys ≡ true → or_in xs ys ≡ or_in ys xs
  pub associative : (xs ys zs : List ℕ) → sound chunks xs ≡ true → sound chunks ys ≡ true → sound chunks zs ≡ true
      → or_in (or_in xs ys) zs ≡ or_in xs (or_in ys zs)
  pub idempotent : (xs : List ℕ) → sound chunks xs ≡ true → or_in xs xs ≡ xs
  pub zero : (xs : List ℕ) → sound chunks xs ≡ true → or_in xs zeros ≡ xs

abbrev pub StagingLaws : Type 0
StagingLaws = (chunks : ℕ) → OrLaws chunks

-- a map received: MAP_READY, its parts, MAP_DONE
abbrev pub receive : Bool → List ℕ → List ℕ → Bool → ℕ → ℕ → Held → Held
receive keep zs lengths enabling version set w = next (Event.map_done enabling version set) (took keep zs lengths w)

-- Two maps received one after the other, the first into empty staging, the second into what the node then holds: the map is the same in either order.
abbrev pub TransfersCommute : Type 0
TransfersCommute = (zs lengths zs' lengths' : List ℕ) (enabling : Bool) (version set : ℕ) (w : Held) → Able w
    → sound w.at.node.chunks zs ≡ true
    → sound w.at.node.chunks zs' ≡ true
    → Cuts lengths
    → Cuts lengths'
    → set ≤ 65535
    → has set w.at.node.id ≡ true
    → version ≤ version_limit
    → (receive true zs' lengths' enabling version set (receive false zs lengths enabling version set w)).map
    ≡ (receive true zs lengths enabling version set (receive false zs' lengths' enabling version set w)).map

-- The same map received again changes nothing, nor does the zero map.
abbrev pub TransferAgain : Type 0
TransferAgain = (zs lengths lengths' : List ℕ) (enabling : Bool) (version set : ℕ) (w : Held) → Able w
    → sound w.at.node.chunks zs ≡ true
    → Cuts lengths
    → Cuts lengths'
    → set ≤ 65535
    → has set w.at.node.id ≡ true
    → version ≤ version_limit
    → ((receive true zs lengths' enabling version set (receive false zs lengths enabling version set w)).map ≡ (receive false zs lengths enabling version set w).map)
    × ((receive true zeros lengths' enabling version set (receive false zs lengths enabling version set w)).map ≡ (receive false zs lengths enabling version set w).map)

-- ---- where it fails

-- A mark and a clear of the same member and chunk: the last one wins, so the maps differ.
abbrev pub LastOneWins : Type 0
LastOneWins = (chunk set version member : ℕ) (w : Held) → Sized w
    → Accepts (Event.write chunk set version) w
    → Accepts (Event.synced member chunk) w
    → In set member
    → (dirty (both (Event.synced member chunk) (Event.write chunk set version) w).map member chunk ≡ 1)
    × (dirty (both (Event.write chunk set version) (Event.synced member chunk) w).map member chunk ≡ 0)

-- So it does of a fill and a clear of the same member.
abbrev pub FillOrClear : Type 0
FillOrClear = (member version chunk : ℕ) (w : Held) → Sized w → chunk < w.at.node.chunks
    → Accepts (Event.fill member version) w
    → Accepts (Event.synced member chunk) w
    → (dirty (both (Event.synced member chunk) (Event.fill member version) w).map member chunk ≡ 1)
    × (dirty (both (Event.fill member version) (Event.synced member chunk) w).map member chunk ≡ 0)

-- The kept chunks follow arrival. Writes that the node accepts, and their chunks:
abbrev pub AllTaken : List Write → Held → Type 0
AllTaken [] w = Unit {0}
AllTaken (x ∷ xs) w = Accepts (Event.write x.chunk x.set x.version) w × AllTaken xs w

abbrev pub chunks_of : List Write → List ℕ
chunks_of [] = []
chunks_of (x ∷ xs) = x.chunk ∷ chunks_of xs

-- the last sixteen of those kept and the new ones, in the order in which they came
abbrev pub KeptFollowArrival : Type 0
KeptFollowArrival = (xs : List Write) (w : Held) → Sized w → AllTaken xs w
    → kept_chunks (arrive xs w).at.node ≡ last_sixteen (kept_chunks w.at.node ++ chunks_of xs)

-- So the order decides which is kept: of two writes and fifteen more the first to arrive is gone.
abbrev pub FirstIsGone : Type 0
FirstIsGone = (x y : Write) (zs : List Write) (w : Held) → Sized w → AllTaken (x ∷ y ∷ zs) w → length zs ≡ 15
    → kept_chunks (arrive (x ∷ y ∷ zs) w).at.node ≡ y.chunk ∷ chunks_of zs

-- And two writes of different chunks never leave the same list of kept chunks in either order.
abbrev pub KeptDiffer : Type 0
KeptDiffer = (chunk set version chunk' set' version' : ℕ) (w : Held) → Sized w
    → Accepts (Event.write chunk set version) w
    → Accepts (Event.write chunk' set' version') w
    → chunk ≢ chunk'
    → kept_chunks (both (Event.write chunk set version) (Event.write chunk' set' version') w).at.node
    ≢ kept_chunks (both (Event.write chunk' set' version') (Event.write chunk set version) w).at.node

-- ---- an instance of all of them

-- node 1 of 4,096 chunks, NORMAL in a pool with node 0, at version 1, nothing kept, zero maps
abbrev pub node1 : Node
node1 =
    record {
      id = 1;
      chunks = 4096;
      state = State.Normal;
      store = true;
      create = false;
      members = 3;
      version = 1;
      kept = replicate 16 0;
      held = 0;
      transfer = None;
    }

abbrev pub here : Held
here = record { at = record { node = node1; summaries = replicate 96 0 }; map = zeros; staging = zeros }

-- two writes that did not reach node 0, the later version of the one that may come first, and a clear
abbrev pub write7 : Event
write7 = Event.write 7 1 2

abbrev pub write9 : Event
write9 = Event.write 9 1 5

abbrev pub synced7 : Event
synced7 = Event.synced 0 7

-- a fill of node 0's row, at a version that is lower by then
abbrev pub fill0 : Event
fill0 = Event.fill 0 3

pub record Instance : Type 0 where
  pub sized : Sized here
  pub able : Able here
  pub marks : Accepts write7 here
  pub marks-too : Accepts write9 here
  pub clears : Accepts synced7 here
  pub fills : Accepts fill0 here
  pub version : (both write9 write7 here).at.node.version ≡ 5
  pub fill-version : (both write9 fill0 here).at.node.version ≡ 5
  pub full : dirty (next fill0 here).map 0 4095 ≡ 1
  pub mark-last : dirty (both synced7 write7 here).map 0 7 ≡ 1
  pub clear-last : dirty (both write7 synced7 here).map 0 7 ≡ 0
  pub one-order : kept_chunks (both write7 write9 here).at.node ≡ 7 ∷ 9 ∷ []
  pub other-order : kept_chunks (both write9 write7 here).at.node ≡ 9 ∷ 7 ∷ []
  pub eighths : Cuts (replicate 8 1024)
