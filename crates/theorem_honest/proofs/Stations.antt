-- Laws of one honest node: it takes each message of a run, and is honest after it.
use Rattle.std.specs.Prelude.{Some}
use mathlib.Core.Path.{◌≡◌, refl, sym, ◌∙◌, subst}
use mathlib.Core.Bool.{Bool, true, false, not, ◌&&◌, ◌||◌}
use mathlib.Core.List.{List}
use Prim.Native.Nat.{ℕ, zero, suc, ◌+◌, ◌≤◌, ◌<◌}
use native.Mathlib.Omega.{arith}
use lib.Dec.{eqb, ltb}
use lib.ListN.{length, get_or}
use borrow.Author.Tests.{le-ltb, eq-eqb}
use Rattle.laws_words.specs.Words.{pick}
use Rattle.laws_words.specs.Loops.{run_at}
use Rattle.laws_words.specs.Tests.{clash, and_left, and_right, and_both, picked}
use Rattle.rules_base.specs.Limits.{version_limit, version_top}
use Rattle.rules_base.specs.Sets.{has, without}
use Rattle.rules_base.specs.Chunk.{marked_for, dirty}
use Rattle.rules_base.specs.Map.{sound, clean_from, copied, rows_kept, zeroed, or_from, or_in}
use Rattle.rules_base.specs.Summary.{summaries_of, agree}
use Rattle.rules_base.proofs.Summaries.{one-summary}
use Rattle.rules_base.proofs.Sound.{Sound, sound-fact, sound-test, sound-or, sound-copied, sound-zeroed, sound-kept, sound-marked_for}
use Rattle.rules_base.proofs.Rows.{copied_all, or-into-zero}
use Rattle.rules_base.specs.Parts.{is_part, part_of}
use Rattle.rules_base.proofs.Joined.{length-part_of, clean-part, sound-part, parts_more}
use Rattle.rules_node.specs.declared.State.{State}
use Rattle.rules_node.specs.declared.Answer.{Answer}
use Rattle.rules_node.specs.declared.Node.{Node}
use Rattle.rules_node.specs.States.{is_joined, is_serving, in_hand, taken, is_whole}
use Rattle.rules_node.specs.Change.{went_to, transferred, ended_transfer, instructed, stored_version, taken_over}
use Rattle.rules_node.specs.StateRules.{standing, valid, kept_ok, is_kept}
use Rattle.rules_node.specs.Turns.{settled}
use Rattle.laws_node.proofs.Tables.{gives, given}
use Rattle.laws_node.proofs.Valid.{valid-facts, valid-of, kept-below, at-node}
use Rattle.rules_node.specs.Carry.{map_after, staging_after, taken_in, last_ios, last_io_at, last_io}
use Rattle.rules_node.specs.Serve.{serve_refusal, readied, map_ready, give_part_refusal, give_part, map_get_ver, last_io_refusal, last_io_to_map}
use Rattle.rules_node.specs.Hand.{take_part_refusal, part_taken, take_part, map_done_refusal, committed, map_done}
use Rattle.rules_node.specs.Enable.{enable1_refusal, enabled, enable1}
use Rattle.rules_node.specs.Events.{Event}
use Rattle.rules_node.specs.Face.{lent_to, map_by, staging_by}
use Rattle.rules_world.specs.Station.{Station, Did, both_sound, face, does}
use Rattle.theorem_honest.specs.Demand.{Able}

-- ---- an honest node, as facts

-- what stays true of a node through a whole run
pub record Core (c j : ℕ) (n : Node) : Type 0 where
  pub id : n.id ≡ j
  pub below : j < 16
  pub chunks : n.chunks ≡ c
  pub some : 1 ≤ n.chunks
  pub few : n.chunks ≤ 4096
  pub own : has n.members n.id ≡ true
  pub plain : n.create ≡ false
  pub store : n.store ≡ true
  pub joined : is_joined n.state ≡ true
  pub ids : n.members < 65536
  pub top : n.version ≤ version_top
  pub keeps : kept_ok n ≡ true

pub record Fine (c j : ℕ) (s : Station) : Type 0 where
  pub core : Core c j s.node
  pub rules : valid s.node ≡ true
  pub map : Sound c s.map
  pub staging : Sound c s.staging

-- what the state rules say of a serving node
record Stands (own create store : Bool) : Type 0 where
  own-id : own ≡ true
  no-mark : create ≡ false
  a-store : store ≡ true

no-mark-of : (create : Bool) → (not create || false) ≡ true → create ≡ false
no-mark-of true h = clash h refl
no-mark-of false h = refl

stands-joined : (st : State) (store create own hand : Bool) → (is_joined st && store) ≡ true → standing st store create hand own ≡ true → Stands own create store
stands-joined State.Empty store create own hand g h = clash g refl
stands-joined State.Registered store create own hand g h = clash g refl
stands-joined State.Created store create own hand g h =
    record { own-id = and_left own _ h; no-mark = no-mark-of create (and_left _ _ (and_right own _ h)); a-store = g }
stands-joined State.Normal store create own hand g h =
    record { own-id = and_left own _ h; no-mark = no-mark-of create (and_left _ _ (and_right own _ h)); a-store = g }
stands-joined State.NoIo store create own hand g h =
    record { own-id = and_left own _ h; no-mark = no-mark-of create (and_left _ _ (and_right own _ h)); a-store = g }

pub fine : (c j : ℕ) (s : Station) → j < 16 → Able c j s → Fine c j s
fine c j s b a =
    let v = valid-facts s.node a.rules in
    let n = s.node in
    let st = stands-joined n.state n.store n.create (has n.members n.id) (in_hand n.transfer) a.serves v.stand in
    record {
      core = record {
        id = a.itself;
        below = b;
        chunks = a.same;
        some = v.some;
        few = v.few;
        own = st.own-id;
        plain = st.no-mark;
        store = st.a-store;
        joined = and_left (is_joined n.state) n.store a.serves;
        ids = v.ids;
        top = v.top;
        keeps = v.keeps;
      };
      rules = a.rules;
      map = rw a.same at (sound-fact n.chunks s.map (and_left (sound n.chunks s.map) (sound n.chunks s.staging) a.sound));
      staging = rw a.same at (sound-fact n.chunks s.staging (and_right (sound n.chunks s.map) (sound n.chunks s.staging) a.sound));
    }

-- ---- what each message makes of a node

abbrev pub did : Station → Did
did s = record { station = s; answer = Answer.Done }

-- MAP_READY: staging zeroed, or filled with the map
abbrev pub filled : Bool → Station → List ℕ
filled true s = copied s.staging s.map
filled false s = zeroed s.staging

abbrev pub ready_to : Bool → Station → Station
ready_to keep s = record { node = readied s.node; map = s.map; staging = filled keep s }

-- the bytes of the map zs below k taken
abbrev pub partly : List ℕ → ℕ → Station → Station
partly zs k s = record { node = transferred s.node (Some k); map = s.map; staging = or_from 0 k s.staging zs }

-- the map zs taken
unfoldable pub map_taken : Node → Node
map_taken n = transferred n (Some 8192)

abbrev pub took_in : List ℕ → Station → Station
took_in zs s = record { node = map_taken s.node; map = s.map; staging = or_in s.staging zs }

-- MAP_DONE
abbrev pub done_to : Bool → ℕ → ℕ → Station → Station
done_to on v m s = record { node = committed s.node on v m; map = rows_kept m (copied s.map s.staging); staging = zeroed s.staging }

-- ENABLE_POOL
abbrev pub enabled_to : ℕ → ℕ → Station → Station
enabled_to v m s = record { node = enabled s.node v m; map = rows_kept m s.map; staging = zeroed s.staging }

-- LAST_IO_TO_MAP
abbrev pub last_to : ℕ → Station → Station
last_to chosen s = record { node = s.node; map = last_ios s.node chosen s.map; staging = s.staging }

-- ---- the state rules after each

-- a node of these facts that stands right keeps its state rules
valid-core : (c j : ℕ) (n : Node) → Core c j n → standing n.state n.store n.create (in_hand n.transfer) (has n.members n.id) ≡ true → taken n.transfer ≤ 8192 → valid n ≡ true
valid-core c j n k s t = valid-of n (record { some = k.some; few = k.few; stand = s; ids = k.ids; top = k.top; keeps = k.keeps; part = t })

core-ready : (c j : ℕ) (n : Node) → Core c j n → Core c j (readied n)
unfolding readied transferred went_to kept_ok
core-ready c j n k = record { id = k.id; below = k.below; chunks = k.chunks; some = k.some; few = k.few; own = k.own; plain = k.plain; store = k.store; joined = refl; ids = k.ids; top = k.top; keeps = k.keeps }

core-taken : (c j : ℕ) (n : Node) → Core c j n → Core c j (map_taken n)
unfolding map_taken transferred kept_ok
core-taken c j n k = record { id = k.id; below = k.below; chunks = k.chunks; some = k.some; few = k.few; own = k.own; plain = k.plain; store = k.store; joined = k.joined; ids = k.ids; top = k.top; keeps = k.keeps }

stand-in-hand : (store create own : Bool) → own ≡ true → create ≡ false → store ≡ true → standing State.NoIo store create true own ≡ true
stand-in-hand store create own o p s = rw (o, p, s) refl

valid-ready : (c j : ℕ) (n : Node) → Core c j n → valid (readied n) ≡ true
unfolding readied transferred went_to
valid-ready c j n k =
    let r = core-ready c j n k in
    valid-core c j (readied n) r (stand-in-hand n.store n.create (has n.members n.id) k.own k.plain k.store) (omega arith)

valid-taken : (c j : ℕ) (n : Node) → Core c j n → valid (map_taken (readied n)) ≡ true
unfolding readied map_taken transferred went_to
valid-taken c j n k =
    let r = core-taken c j (readied n) (core-ready c j n k) in
    valid-core c j (map_taken (readied n)) r (stand-in-hand n.store n.create (has n.members n.id) k.own k.plain k.store) (omega arith)

stand-done : (on store create own : Bool) → own ≡ true → create ≡ false → store ≡ true → standing (Rattle.rules_node.specs.Hand.done_to on State.NoIo) store create false own ≡ true
stand-done true store create own o p s = rw (o, p, s) refl
stand-done false store create own o p s = rw (o, p) refl

joined-done : (on : Bool) → is_joined (Rattle.rules_node.specs.Hand.done_to on State.NoIo) ≡ true
joined-done true = refl
joined-done false = refl

core-done : (c j : ℕ) (n : Node) (on : Bool) (v m : ℕ) → Core c j n → v ≤ version_limit → m < 65536 → has m j ≡ true → Core c j (committed (map_taken (readied n)) on v m)
unfolding committed instructed stored_version taken_over ended_transfer map_taken readied transferred went_to kept_ok
core-done c j n on v m k hv hm own = record { id = k.id; below = k.below; chunks = k.chunks; some = k.some; few = k.few; own = rw k.id own; plain = k.plain; store = k.store; joined = joined-done on; ids = hm; top = omega arith; keeps = k.keeps }

valid-done : (c j : ℕ) (n : Node) (on : Bool) (v m : ℕ) → Core c j n → v ≤ version_limit → m < 65536 → has m j ≡ true → valid (committed (map_taken (readied n)) on v m) ≡ true
unfolding committed instructed stored_version taken_over ended_transfer map_taken readied transferred went_to
valid-done c j n on v m k hv hm own =
    valid-core c j (committed (map_taken (readied n)) on v m) (core-done c j n on v m k hv hm own)
    (stand-done on n.store n.create (has m n.id) (rw k.id own) k.plain k.store) (omega arith)

core-enabled : (c j : ℕ) (n : Node) (v m : ℕ) → Core c j n → v ≤ version_limit → m < 65536 → has m j ≡ true → Core c j (enabled n v m)
unfolding enabled instructed stored_version taken_over ended_transfer transferred went_to kept_ok
core-enabled c j n v m k hv hm own = record { id = k.id; below = k.below; chunks = k.chunks; some = k.some; few = k.few; own = rw k.id own; plain = k.plain; store = k.store; joined = refl; ids = hm; top = omega arith; keeps = k.keeps }

valid-enabled : (c j : ℕ) (n : Node) (v m : ℕ) → Core c j n → v ≤ version_limit → m < 65536 → has m j ≡ true → valid (enabled n v m) ≡ true
unfolding enabled instructed stored_version taken_over ended_transfer transferred went_to
valid-enabled c j n v m k hv hm own =
    valid-core c j (enabled n v m) (core-enabled c j n v m k hv hm own)
    (stand-done true n.store n.create (has m n.id) (rw k.id own) k.plain k.store) (omega arith)

-- ---- maps stay sound

sound-filled : (c : ℕ) (keep : Bool) (s : Station) → Sound c s.map → Sound c s.staging → Sound c (filled keep s)
sound-filled c true s a b = sound-copied c s.staging s.map b a
sound-filled c false s a b = sound-zeroed c s.staging b

-- what a run of steps over the places below 16 keeps
run-keeps : (P : List ℕ → Type 0) (f : ℕ → List ℕ → List ℕ) (n i : ℕ) (xs : List ℕ) → ((k : ℕ) (ys : List ℕ) → k < i + n → P ys → P (f k ys)) → P xs → P (run_at f n i xs)
run-keeps P f zero i xs h p = p
run-keeps P f (suc n) i xs h p = run-keeps P f n (suc i) (f i xs) (λ k ys l q. h k ys (omega arith) q) (h i xs (omega arith) p)

sound-one : (c members chosen chunk : ℕ) (xs : List ℕ) → chunk < c → Sound c xs → Sound c (last_io members chosen chunk xs)
unfolding last_io
sound-one c members chosen chunk xs h p =
    picked (Sound c) (eqb (dirty xs chosen chunk) 1) xs (marked_for xs (without members chosen) chunk)
    (λ e. p) (λ e. sound-marked_for c (without members chosen) chunk xs p h)

pub sound-place : (c j chosen : ℕ) (n : Node) (i : ℕ) (xs : List ℕ) → Core c j n → i < 16 → Sound c xs → Sound c (last_io_at n chosen i xs)
unfolding last_io_at
sound-place c j chosen n i xs k h p =
    picked (Sound c) (is_kept n i) (last_io n.members chosen (get_or n.kept i 0) xs) xs
    (λ e. sound-one c n.members chosen (get_or n.kept i 0) xs (rw k.chunks at (kept-below n k.keeps i h e)) p) (λ e. p)

sound-last : (c j chosen : ℕ) (n : Node) (xs : List ℕ) → Core c j n → Sound c xs → Sound c (last_ios n chosen xs)
unfolding last_ios
sound-last c j chosen n xs k s = run-keeps (Sound c) (last_io_at n chosen) 16 0 xs (λ i ys l p. sound-place c j chosen n i ys k (omega arith) p) s

-- ---- an honest node takes each message

both : (c j : ℕ) (s : Station) → Fine c j s → both_sound s ≡ true
both c j s f =
    let a : sound s.node.chunks s.map ≡ true = rw f.core.chunks (sound-test c s.map f.map) in
    let b : sound s.node.chunks s.staging ≡ true = rw f.core.chunks (sound-test c s.staging f.staging) in
    and_both a b

-- its summaries are those of its map
agreed : (s : Station) → agree (summaries_of s.map) s.map ≡ true
agreed s = one-summary.agrees s.map

own-id : (c j : ℕ) (n : Node) → Core c j n → ltb 15 n.id ≡ false
own-id c j n k = rw k.id (le-ltb 15 j (let b = k.below in omega arith))

serves : (c j : ℕ) (n : Node) → Core c j n → is_serving n ≡ true
serves c j n k = and_both k.joined k.store

can-serve : (c j : ℕ) (s : Station) → Fine c j s → serve_refusal s.node (lent_to (face s) s.map s.staging) ≡ 0
unfolding serve_refusal
can-serve c j s f = rw (f.rules, both c j s f, agreed s, own-id c j s.node f.core, serves c j s.node f.core)

pub readies-law : (c j : ℕ) (keep : Bool) (s : Station) → Fine c j s → does s (Event.map_ready keep) ≡ did (ready_to keep s)
unfolding does map_by staging_by map_ready settled map_after staging_after
readies-law c j true s f = rw (can-serve c j s f)
readies-law c j false s f = rw (can-serve c j s f)

pub gives-law : (c j offset l : ℕ) (s : Station) → Fine c j s → is_part offset l ≡ true → (does s (Event.give_part offset l)).answer ≡ Answer.Done
unfolding does map_by staging_by give_part give_part_refusal settled
gives-law c j offset l s f p = rw (f.rules, both c j s f, agreed s, own-id c j s.node f.core, serves c j s.node f.core, p)

pub asked-law : (c j : ℕ) (s : Station) → Fine c j s → does s Event.map_get_ver ≡ record { station = s; answer = Answer.Version s.node.version }
unfolding does map_by staging_by map_get_ver settled map_after staging_after
asked-law c j s f = rw (can-serve c j s f)

pub marks-law : (c j chosen : ℕ) (s : Station) → Fine c j s → chosen < 16 → does s (Event.last_io_to_map chosen) ≡ did (last_to chosen s)
unfolding does map_by staging_by last_io_to_map last_io_refusal settled map_after staging_after
marks-law c j chosen s f h =
    rw (f.rules, both c j s f, agreed s, own-id c j s.node f.core, le-ltb 15 chosen (omega arith), serves c j s.node f.core)

-- the next part of a map
pub takes-law : (c j a l : ℕ) (zs : List ℕ) (s : Station) → Fine c j (partly zs a s) → Sound c zs → is_part a l ≡ true → a + l ≤ 8192 → does (partly zs a s) (Event.take_part a (part_of a l zs)) ≡ did (partly zs (a + l) s)
unfolding does map_by staging_by take_part take_part_refusal part_taken settled map_after staging_after taken_in transferred
takes-law c j a l zs s f z p h =
    let n : ℕ = s.node.chunks in
    let e : length (part_of a l zs) ≡ l = length-part_of a l zs (omega (arith, z.len)) in
    let k : clean_from n a (part_of a l zs) ≡ true = rw f.core.chunks (clean-part c a l zs z h) in
    rw (f.rules, both c j (partly zs a s) f, agreed (partly zs a s), own-id c j (partly zs a s).node f.core, k, e, p, eq-eqb a a refl, parts_more a l s.staging zs (omega (arith, z.len)))

pub commits-law : (c j : ℕ) (on : Bool) (v m : ℕ) (s : Station) → Fine c j s → is_whole s.node.transfer ≡ true → v ≤ version_limit → m < 65536 → has m j ≡ true
    → does s (Event.map_done on v m) ≡ did (done_to on v m s)
unfolding does map_by staging_by map_done map_done_refusal settled map_after staging_after
commits-law c j on v m s f h hv hm own =
    rw (f.rules, both c j s f, agreed s, own-id c j s.node f.core, le-ltb 65535 m (omega arith), (let e : has m s.node.id ≡ true = rw f.core.id own in e), le-ltb version_limit v hv, h)

pub enables-law : (c j v m : ℕ) (s : Station) → Fine c j s → v ≤ version_limit → m < 65536 → has m j ≡ true → does s (Event.enable1 v m) ≡ did (enabled_to v m s)
unfolding does map_by staging_by enable1 enable1_refusal settled map_after staging_after
enables-law c j v m s f hv hm own =
    rw (f.rules, both c j s f, agreed s, own-id c j s.node f.core, le-ltb 65535 m (omega arith), serves c j s.node f.core, (let e : has m s.node.id ≡ true = rw f.core.id own in e), le-ltb version_limit v hv)

-- ---- and is honest after it

pub fine-ready : (c j : ℕ) (keep : Bool) (s : Station) → Fine c j s → Fine c j (ready_to keep s)
fine-ready c j keep s f = record { core = core-ready c j s.node f.core; rules = valid-ready c j s.node f.core; map = f.map; staging = sound-filled c keep s f.map f.staging }

pub at_zero : (keep : Bool) (s : Station) → (ready_to keep s).node.transfer ≡ Some 0
unfolding readied transferred
at_zero keep s = refl

-- with a transfer in hand it is honest after each part
core-partly : (c j k : ℕ) (n : Node) → Core c j n → Core c j (transferred n (Some k))
unfolding transferred kept_ok
core-partly c j k n f = record { id = f.id; below = f.below; chunks = f.chunks; some = f.some; few = f.few; own = f.own; plain = f.plain; store = f.store; joined = f.joined; ids = f.ids; top = f.top; keeps = f.keeps }

valid-partly : (k : ℕ) (n : Node) → valid n ≡ true → in_hand n.transfer ≡ true → k ≤ 8192 → valid (transferred n (Some k)) ≡ true
unfolding transferred kept_ok
valid-partly k n e i h =
    let v = valid-facts n e in
    valid-of (transferred n (Some k)) (record { some = v.some; few = v.few; stand = given _ _ (at-node (λ s store create hand own. gives (standing s store create hand own && hand) (standing s store create true own)) refl n) (and_both v.stand i); ids = v.ids; top = v.top; keeps = v.keeps; part = h })

pub fine-partly : (c j a l : ℕ) (zs : List ℕ) (s : Station) → Fine c j (partly zs a s) → Sound c zs → a + l ≤ 8192 → Fine c j (partly zs (a + l) s)
unfolding transferred
fine-partly c j a l zs s f z h =
    record {
      core = core-partly c j (a + l) (partly zs a s).node f.core;
      rules = valid-partly (a + l) (partly zs a s).node f.rules refl h;
      map = f.map;
      staging = subst (Sound c) (parts_more a l s.staging zs (omega (arith, z.len))) (sound-part c a (part_of a l zs) (or_from 0 a s.staging zs) (clean-part c a l zs z h) f.staging);
    }

pub fine-took : (c j : ℕ) (keep : Bool) (zs : List ℕ) (s : Station) → Fine c j s → Sound c zs → Fine c j (took_in zs (ready_to keep s))
fine-took c j keep zs s f z =
    record {
      core = core-taken c j (readied s.node) (core-ready c j s.node f.core);
      rules = valid-taken c j s.node f.core;
      map = f.map;
      staging = sound-or c (filled keep s) zs (sound-filled c keep s f.map f.staging) z;
    }

pub was-taken : (zs : List ℕ) (s : Station) → is_whole (took_in zs s).node.transfer ≡ true
unfolding map_taken transferred
was-taken zs s = refl

pub fine-done : (c j : ℕ) (keep on : Bool) (v m : ℕ) (zs : List ℕ) (s : Station) → Fine c j s → Sound c zs → v ≤ version_limit → m < 65536 → has m j ≡ true
    → Fine c j (done_to on v m (took_in zs (ready_to keep s)))
fine-done c j keep on v m zs s f z hv hm own =
    let t = fine-took c j keep zs s f z in
    record {
      core = core-done c j s.node on v m f.core hv hm own;
      rules = valid-done c j s.node on v m f.core hv hm own;
      map = sound-kept c m (copied s.map (or_in (filled keep s) zs)) (sound-copied c s.map (or_in (filled keep s) zs) f.map t.staging);
      staging = sound-zeroed c (or_in (filled keep s) zs) t.staging;
    }

pub fine-enabled : (c j v m : ℕ) (s : Station) → Fine c j s → v ≤ version_limit → m < 65536 → has m j ≡ true → Fine c j (enabled_to v m s)
fine-enabled c j v m s f hv hm own =
    record {
      core = core-enabled c j s.node v m f.core hv hm own;
      rules = valid-enabled c j s.node v m f.core hv hm own;
      map = sound-kept c m s.map f.map;
      staging = sound-zeroed c s.staging f.staging;
    }

pub fine-last : (c j chosen : ℕ) (s : Station) → Fine c j s → Fine c j (last_to chosen s)
fine-last c j chosen s f = record { core = f.core; rules = f.rules; map = sound-last c j chosen s.node s.map f.core f.map; staging = f.staging }

-- A spread that starts empty leaves the receiver with the source's map, the rows outside the set zeroed.
pub copy-law : (c j : ℕ) (on : Bool) (v m : ℕ) (zs : List ℕ) (s : Station) → Fine c j s → Sound c zs → (done_to on v m (took_in zs (ready_to false s))).map ≡ rows_kept m zs
copy-law c j on v m zs s f z =
    rw (or-into-zero s.staging zs (f.staging.len ∙ sym z.len), copied_all s.map zs (f.map.len ∙ sym z.len))

-- A spread that starts from what the receiver holds leaves it with that and the source's map, ORed, the rows outside the set zeroed.
pub join-law : (c j : ℕ) (on : Bool) (v m : ℕ) (zs : List ℕ) (s : Station) → Fine c j s → Sound c zs → (done_to on v m (took_in zs (ready_to true s))).map ≡ rows_kept m (or_in s.map zs)
join-law c j on v m zs s f z =
    let o : Sound c (or_in s.map zs) = sound-or c s.map zs f.map z in
    rw (copied_all s.staging s.map (f.staging.len ∙ sym f.map.len), copied_all s.map (or_in s.map zs) (f.map.len ∙ sym o.len))
