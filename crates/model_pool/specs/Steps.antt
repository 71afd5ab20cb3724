-- What can happen: the events of a client and its nodes under C-15's premises, with C-12 and C-13.
use Rattle.std.specs.Prelude.{◌≡◌, Bool, true, false, not, ◌&&◌, ◌||◌, cond, ◌≢◌, ◌⊎◌, ℕ, zero, suc, ◌+◌, ◌≤◌, max, T, eqb}
use Rattle.model_pool.specs.Model.{upd, Session, Gone, Made, Up, Again, Dying, Parting, up, dying, active, there, Kind, Base, Gather, Spread, keeps, giver, receiver, Ready, Send, Done, Job, Idle, Get, LastIo, Enable, Leave, Info, Move, Fate, Under, Taken, Refused, running, still, sourced, removes, Map, none, within, merge, Transfer, Shut, Begun, Got, opened, View, Hand, Nodes, Past, World}
use Rattle.laws_words.specs.Words.{one}
use Rattle.model_pool.specs.Invariant.{lander}

-- ---- a world with some of its parts changed

abbrev pub with_pool : World → View → World
with_pool w v = record { pool = v; hand = w.hand; nodes = w.nodes; past = w.past }

abbrev pub with_hand : World → Hand → World
with_hand w h = record { pool = w.pool; hand = h; nodes = w.nodes; past = w.past }

abbrev pub with_nodes : World → Nodes → World
with_nodes w n = record { pool = w.pool; hand = w.hand; nodes = n; past = w.past }

abbrev pub with_past : World → Past → World
with_past w p = record { pool = w.pool; hand = w.hand; nodes = w.nodes; past = p }

-- sessions, marks and the pool's version change
abbrev pub moved : World → (ℕ → Session) → (ℕ → Bool) → ℕ → World
moved w ses' mark' version' = with_pool w (record { ses = ses'; mark = mark'; mem = w.pool.mem; version = version'; closed = w.pool.closed })

-- members and C-12's flag change
abbrev pub pooled : World → (ℕ → Bool) → Bool → World
pooled w mem' closed' = with_pool w (record { ses = w.pool.ses; mark = w.pool.mark; mem = mem'; version = w.pool.version; closed = closed' })

-- another message is awaited, or none
abbrev pub awaits : World → Job → ℕ → ℕ → World
awaits w job' src' to' =
    with_hand w (record { job = job'; fate = Under; src = src'; to = to'; left = w.hand.left; best = w.hand.best; chosen = w.hand.chosen; says = w.hand.says })

-- what became of the awaited message
abbrev pub arrived : World → Fate → World
arrived w fate' =
    with_hand w (record { job = w.hand.job; fate = fate'; src = w.hand.src; to = w.hand.to; left = w.hand.left; best = w.hand.best; chosen = w.hand.chosen; says = w.hand.says })

-- a version was answered
abbrev pub noted : World → (ℕ → Bool) → ℕ → Bool → World
noted w left' best' chosen' =
    with_hand w (record { job = w.hand.job; fate = w.hand.fate; src = w.hand.src; to = w.hand.to; left = left'; best = best'; chosen = chosen'; says = w.hand.says })

-- a version under way
abbrev pub heard : World → ℕ → World
heard w says' =
    with_hand w (record { job = w.hand.job; fate = w.hand.fate; src = w.hand.src; to = w.hand.to; left = w.hand.left; best = w.hand.best; chosen = w.hand.chosen; says = says' })

-- stored versions and maps change
abbrev pub at_nodes : World → (ℕ → ℕ) → (ℕ → Map) → World
at_nodes w ver' map' = with_nodes w (record { ver = ver'; map = map'; stg = w.nodes.stg; tr = w.nodes.tr })

-- staging changes
abbrev pub transfers : World → (ℕ → Map) → (ℕ → Transfer) → World
transfers w stg' tr' = with_nodes w (record { ver = w.nodes.ver; map = w.nodes.map; stg = stg'; tr = tr' })

-- what is owed changes, and which chunks were acknowledged
abbrev pub owing : World → (ℕ → ℕ → ℕ) → (ℕ → Bool) → World
owing w owe' acked' = with_past w (record { owe = owe'; acked = acked'; been = w.past.been; ever = w.past.ever; wait = w.past.wait })

-- joins
abbrev pub lived : World → (ℕ → Bool) → (ℕ → Bool) → (ℕ → Bool) → World
lived w been' ever' wait' = with_past w (record { owe = w.past.owe; acked = w.past.acked; been = been'; ever = ever'; wait = wait' })

-- ---- parts of the steps

-- on the mark list
abbrev pub listed : (ℕ → Session) → (ℕ → Bool) → ℕ → Bool
listed ses mem m = mem m && (not (up (ses m)) && not (dying (ses m)))

-- a pair that is owed already keeps its version
abbrev pub owed : Bool → ℕ → ℕ → ℕ
owed false n v = n
owed true zero v = v
owed true (suc n) v = suc n

-- every NORMAL node stores the pool's version, unless it has a higher one
abbrev pub storing : World → ℕ → ℕ
storing w j = cond (up (w.pool.ses j)) (max (w.nodes.ver j) w.pool.version) (w.nodes.ver j)

-- an acknowledged write of chunk c: every NORMAL node was reached, marks it and stores the version
abbrev pub written : ℕ → World → World
written c w =
    owing
    (pooled (at_nodes w (storing w) (λ j m d. w.nodes.map j m d || (up (w.pool.ses j) && (eqb d c && listed w.pool.ses w.pool.mem m)))) w.pool.mem true)
    (λ m d. owed (eqb d c && listed w.pool.ses w.pool.mem m) (w.past.owe m d) w.pool.version)
    (upd w.past.acked c true)

-- the new member x is owed every acknowledged chunk; every NORMAL node has them dirty in its row and stores the version
abbrev pub extended : ℕ → World → World
extended x w =
    lived
    (pooled
    (moved
    (owing
    (at_nodes w (storing w) (λ j m d. cond (eqb m x) (up (w.pool.ses j) && w.past.acked d) (w.nodes.map j m d)))
    (λ m d. cond (eqb m x) (cond (w.past.acked d) w.pool.version 0) (w.past.owe m d))
    w.past.acked)
    (upd w.pool.ses x Again) w.pool.mark w.pool.version)
    (upd w.pool.mem x true) w.pool.closed)
    (upd w.past.been x true) (upd w.past.ever x true) (upd w.past.wait x false)

-- every node's map without the row of m
abbrev pub rowless : ℕ → (ℕ → Map) → ℕ → Map
rowless m f j n d = not (eqb n m) && f j n d

-- every node's map without chunk c of m
abbrev pub bitless : ℕ → ℕ → (ℕ → Map) → ℕ → Map
bitless m c f j n d = not (eqb n m && eqb d c) && f j n d

-- the run is over: C-13's raise
abbrev pub ended : World → World
ended w = awaits (moved w w.pool.ses w.pool.mark (suc w.pool.version)) Idle w.hand.src w.hand.to

-- the first message of a phase
abbrev pub enters : Job → Bool
enters Idle = false
enters Get = false
enters LastIo = true
enters Enable = true
enters Leave = false
enters Info = false
enters (Move k Ready) = true
enters (Move k Send) = false
enters (Move k Done) = false

-- the awaited message enables
abbrev pub enables : Job → Bool
enables Idle = false
enables Get = false
enables LastIo = false
enables Enable = true
enables Leave = false
enables Info = false
enables (Move Base s) = false
enables (Move Gather s) = false
enables (Move Spread Ready) = false
enables (Move Spread Send) = false
enables (Move Spread Done) = true

-- the session whose enabling message was answered well
abbrev pub raised : World → World
raised w = moved w (upd w.pool.ses (lander w.hand.job w.hand.src w.hand.to) Up) (λ j. false) w.pool.version

-- a version answered: s is chosen so far, with the version b
abbrev pub judged : World → ℕ → ℕ → World
judged w s b = noted (awaits w Get s w.hand.to) (upd w.hand.left w.hand.to false) b true

-- The one that answered is chosen if nobody was, or its version is not below the best; the one chosen before stays if the version is not above. A version above the pool's is a failed answer.
abbrev pub Better : World → ℕ → ℕ → Type 0
Better w s b =
    ((s ≡ w.hand.to) × (b ≡ w.hand.says) × (w.hand.chosen ≡ true → w.hand.best ≤ w.hand.says))
    ⊎ ((s ≡ w.hand.src) × (b ≡ w.hand.best) × (w.hand.chosen ≡ true) × (w.hand.says ≤ w.hand.best))

-- a message that changes nothing at its node that matters: LAST_IO_TO_MAP only adds bits, and a removal's messages may change nothing
abbrev pub plain : Job → Bool
plain Idle = false
plain Get = false
plain LastIo = true
plain Enable = false
plain Leave = true
plain Info = true
plain (Move k s) = false

-- a mark is an old one, or of the session j that leaves NORMAL as the last
abbrev pub Marks : World → ℕ → (ℕ → Bool) → Type 0
Marks w j mark = (k : ℕ) → mark k ≡ true → (w.pool.mark k ≡ true) ⊎ ((k ≡ j) × (up (w.pool.ses j) ≡ true) × ((l : ℕ) → l ≢ j → up (w.pool.ses l) ≡ false))

pub data Next (w : World) : World → Type 0 where
  -- ---- a node's own events
  -- the store of a node that never joined is created, added or deleted: any version
  Stored : (j v : ℕ) → w.past.ever j ≡ false → Next w (at_nodes w (upd w.nodes.ver j v) (upd w.nodes.map j none))
  -- it joins for the first time, by create with version 0, or by assemble
  Born : (j : ℕ) (create : Bool) → w.past.ever j ≡ false → (create ≡ true → w.nodes.ver j ≡ 0)
      → Next w (lived w w.past.been (upd w.past.ever j true) (upd w.past.wait j create))
  -- a transfer is dropped: unregister, MAP_DISABLE, enable 0, leave
  Drop : (j : ℕ) → Next w (transfers w (upd w.nodes.stg j none) (upd w.nodes.tr j Shut))
  -- another node stands at an id that is neither a member nor in session
  Replaced : (j : ℕ) → w.pool.mem j ≡ false → w.pool.ses j ≡ Gone
      → Next w (lived w (upd w.past.been j false) (upd w.past.ever j false) (upd w.past.wait j false))
  -- ---- events of the client
  -- POOL_INFO add-create reaches its nodes or does not
  Join-create : (j : ℕ) → w.hand.job ≡ Idle → w.pool.ses j ≡ Gone → w.pool.mem j ≡ false → w.past.wait j ≡ true
      → Next w (lived (pooled (moved (at_nodes w w.nodes.ver (rowless j w.nodes.map)) (upd w.pool.ses j Made) w.pool.mark w.pool.version) (upd w.pool.mem j true) w.pool.closed) (upd w.past.been j true) w.past.ever (upd w.past.wait j false))
  Join-assemble : (j : ℕ) → w.hand.job ≡ Idle → w.pool.ses j ≡ Gone → w.pool.mem j ≡ true → w.past.ever j ≡ true
      → Next w (lived (moved w (upd w.pool.ses j Again) w.pool.mark (max w.pool.version (w.nodes.ver j))) (upd w.past.been j true) w.past.ever (upd w.past.wait j false))
  -- an empty membership takes the node's set over
  Take-over : (j : ℕ) (set : ℕ → Bool) → w.hand.job ≡ Idle → w.pool.ses j ≡ Gone → ((k : ℕ) → w.pool.mem k ≡ false) → set j ≡ true → w.past.ever j ≡ true
      → Next w (lived (pooled (moved w (upd w.pool.ses j Again) w.pool.mark (max w.pool.version (w.nodes.ver j))) set true) (upd w.past.been j true) w.past.ever (upd w.past.wait j false))
  -- the node's enable 1 and the client's, at once
  Hand-enable : (j : ℕ) → w.hand.job ≡ Idle → w.pool.ses j ≡ Made → w.pool.closed ≡ false
      → Next w (moved (transfers (at_nodes w (upd w.nodes.ver j w.pool.version) (upd w.nodes.map j (within w.pool.mem (w.nodes.map j)))) (upd w.nodes.stg j none) (upd w.nodes.tr j Shut)) (upd w.pool.ses j Up) (λ k. false) w.pool.version)
  -- A session goes to FAILED or RECONNECTING: link down, a write that missed it, maintenance, store check, rejoin. The version rises where it leaves NORMAL.
  Shift : (j : ℕ) (s : Session) (mark : ℕ → Bool) → active (w.pool.ses j) ≡ true → active s ≡ true → up s ≡ false → Marks w j mark
      → Next w (moved w (upd w.pool.ses j s) mark (w.pool.version + one (up (w.pool.ses j))))
  -- a write that reached every NORMAL session (those that it missed have failed before), r one of them
  Write : (c r : ℕ) → T (still w.hand.job) → up (w.pool.ses r) ≡ true → Next w (written c w)
  -- CLEAR reaches its nodes or does not
  Synced : (m c : ℕ) → T (still w.hand.job) → Next w (owing (at_nodes w w.nodes.ver (bitless m c w.nodes.map)) (upd w.past.owe m (upd (w.past.owe m) c 0)) w.past.acked)
  -- C-20: the new member's node has version 0; POOL_INFO reaches the others or does not, POOL_INFO and fill reach every NORMAL node
  Extend : (x r : ℕ) → w.hand.job ≡ Idle → up (w.pool.ses r) ≡ true → w.pool.mem x ≡ false → w.pool.ses x ≡ Gone → w.nodes.ver x ≡ 0 → Next w (extended x w)
  -- ---- removal
  Delete : (i k : ℕ) → w.hand.job ≡ Idle → active (w.pool.ses i) ≡ true → k ≢ i → up (w.pool.ses k) ≡ true
      → Next w (awaits (owing (moved w (upd w.pool.ses i Dying) (upd w.pool.mark i false) (w.pool.version + one (up (w.pool.ses i)))) (upd w.past.owe i (λ c. 0)) w.past.acked) Leave i i)
  Delete-again : (i : ℕ) → w.hand.job ≡ Idle → w.pool.ses i ≡ Dying → Next w (awaits w Leave i i)
  Disassemble : (i : ℕ) → w.hand.job ≡ Idle → there (w.pool.ses i) ≡ true → dying (w.pool.ses i) ≡ false
      → Next w (awaits (moved w (upd w.pool.ses i Parting) (upd w.pool.mark i false) (w.pool.version + one (up (w.pool.ses i)))) Leave i i)
  -- LEAVE is done, or not owed; deleting the last member clears C-12's flag
  Left-delete : (to : ℕ) (closed : Bool) → w.hand.job ≡ Leave → w.pool.ses w.hand.src ≡ Dying → (closed ≡ w.pool.closed) ⊎ ((k : ℕ) → upd w.pool.mem w.hand.src false k ≡ false)
      → Next w (awaits (pooled w (upd w.pool.mem w.hand.src false) closed) Info w.hand.src to)
  Left-disassemble : (to : ℕ) → w.hand.job ≡ Leave → w.pool.ses w.hand.src ≡ Parting → Next w (awaits w Info w.hand.src to)
  Informed : (to : ℕ) → w.hand.job ≡ Info → Next w (awaits w Info w.hand.src to)
  Freed : w.hand.job ≡ Info → Next w (awaits (moved w (upd w.pool.ses w.hand.src Gone) w.pool.mark w.pool.version) Idle w.hand.src w.hand.to)
  -- a failed answer, or what counts as one
  Halted : T (removes w.hand.job) → Next w (awaits w Idle w.hand.src w.hand.to)
  -- ---- a run begins
  Try-1 : (s r : ℕ) → w.hand.job ≡ Idle → up (w.pool.ses s) ≡ true → w.pool.ses r ≡ Again → Next w (awaits w (Move Spread Ready) s r)
  Try-2 : (s : ℕ) → w.hand.job ≡ Idle → w.pool.mark s ≡ true → w.pool.ses s ≡ Again → Next w (awaits w Enable s s)
  Try-3 : (x s best : ℕ) (left : ℕ → Bool) → w.hand.job ≡ Idle → w.pool.mem x ≡ true → ((k : ℕ) → w.pool.mem k ≡ true → w.pool.ses k ≡ Again) → ((k : ℕ) → w.pool.mem k ≡ true → left k ≡ true)
      → Next w (noted (awaits w Get s x) left best false)
  -- ---- the awaited message arrives
  In-get : w.hand.job ≡ Get → w.hand.fate ≡ Under → Next w (heard (arrived w Taken) (w.nodes.ver w.hand.to))
  In-ready : (k : Kind) → w.hand.job ≡ Move k Ready → w.hand.fate ≡ Under
      → Next w (transfers (arrived w Taken) (upd w.nodes.stg (receiver k w.hand.src w.hand.to) (λ m c. keeps k && w.nodes.map (receiver k w.hand.src w.hand.to) m c)) (upd w.nodes.tr (receiver k w.hand.src w.hand.to) Begun))
  -- all parts of the map were taken (C-11), and the answer may fail all the same; of fewer parts nothing is known but that staging grows
  In-send : (k : Kind) (f : Fate) → w.hand.job ≡ Move k Send → w.hand.fate ≡ Under → opened (w.nodes.tr (receiver k w.hand.src w.hand.to)) ≡ true
      → Next w (transfers (arrived w f) (upd w.nodes.stg (receiver k w.hand.src w.hand.to) (merge (w.nodes.stg (receiver k w.hand.src w.hand.to)) (w.nodes.map (giver k w.hand.src w.hand.to)))) (upd w.nodes.tr (receiver k w.hand.src w.hand.to) Got))
  In-done : (k : Kind) → w.hand.job ≡ Move k Done → w.hand.fate ≡ Under → w.nodes.tr (receiver k w.hand.src w.hand.to) ≡ Got
      → Next w (transfers (at_nodes (arrived w Taken) (upd w.nodes.ver (receiver k w.hand.src w.hand.to) w.pool.version) (upd w.nodes.map (receiver k w.hand.src w.hand.to) (within w.pool.mem (w.nodes.stg (receiver k w.hand.src w.hand.to))))) (upd w.nodes.stg (receiver k w.hand.src w.hand.to) none) (upd w.nodes.tr (receiver k w.hand.src w.hand.to) Shut))
  In-enable : w.hand.job ≡ Enable → w.hand.fate ≡ Under
      → Next w (transfers (at_nodes (arrived w Taken) (upd w.nodes.ver w.hand.src w.pool.version) (upd w.nodes.map w.hand.src (within w.pool.mem (w.nodes.map w.hand.src)))) (upd w.nodes.stg w.hand.src none) (upd w.nodes.tr w.hand.src Shut))
  -- a delete: LEAVE zeroes rows of its node, POOL_INFO the removed one's row
  In-leave : w.hand.job ≡ Leave → w.hand.fate ≡ Under → w.pool.ses w.hand.src ≡ Dying → Next w (at_nodes (arrived w Taken) w.nodes.ver (upd w.nodes.map w.hand.src none))
  In-info : w.hand.job ≡ Info → w.hand.fate ≡ Under → w.pool.ses w.hand.src ≡ Dying → Next w (at_nodes (arrived w Taken) w.nodes.ver (rowless w.hand.src w.nodes.map))
  In-plain : T (plain w.hand.job) → w.hand.fate ≡ Under → Next w (arrived w Taken)
  In-refused : w.hand.fate ≡ Under → Next w (arrived w Refused)
  -- ---- good answers
  Good-ready : (k : Kind) → w.hand.job ≡ Move k Ready → w.hand.fate ≡ Taken → Next w (awaits w (Move k Send) w.hand.src w.hand.to)
  Good-send : (k : Kind) → w.hand.job ≡ Move k Send → w.hand.fate ≡ Taken → Next w (awaits w (Move k Done) w.hand.src w.hand.to)
  -- MAP_GET_VER: the better one is kept; then the next is asked, or all have answered
  Good-get : (s b to : ℕ) → w.hand.job ≡ Get → w.hand.fate ≡ Taken → Better w s b → w.pool.ses to ≡ Again → Next w (awaits (judged w s b) Get s to)
  Good-got : (s b : ℕ) (j : Job) (to : ℕ) → w.hand.job ≡ Get → w.hand.fate ≡ Taken → Better w s b → ((k : ℕ) → w.pool.mem k ≡ true → (judged w s b).hand.left k ≡ false)
      → T (enters j) → w.pool.ses to ≡ Again → Next w (awaits (judged w s b) j s to)
  -- an enabling message: its session becomes NORMAL
  Good-up : (to : ℕ) → w.hand.fate ≡ Taken → T (enables w.hand.job) → (raised w).pool.ses to ≡ Again → Next w (awaits (raised w) (Move Spread Ready) w.hand.src to)
  Good-over : w.hand.fate ≡ Taken → T (enables w.hand.job) → Next w (ended (raised w))
  -- the source is chosen: the next turn of a loop, or the next phase
  Onward : (j : Job) (to : ℕ) → T (sourced w.hand.job) → T (enters j) → w.pool.ses to ≡ Again → Next w (awaits w j w.hand.src to)
  -- a run ends
  Over : T (running w.hand.job) → Next w (ended w)

-- what happened from one world to another
pub data Course : World → World → Type 0 where
  here : (w : World) → Course w w
  more : {u v w : World} → Course u v → Next v w → Course u w
