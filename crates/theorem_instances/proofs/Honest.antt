-- The hypotheses can be met, and what the theorems then say of single chunks: a pool of three members and twelve chunks, in each of the three cases. The nodes
-- are CREATED, NORMAL and NO_IO and have different maps, versions, member sets and kept chunks.
use Rattle.std.specs.Prelude.{Some, None}
use mathlib.Core.Path.{◌≡◌, refl, ap, ◌∙◌}
use mathlib.Core.Bool.{Bool, true, false}
use mathlib.Core.Logic.{◌≢◌}
use mathlib.Core.List.{List, [], ◌∷◌, ◌++◌}
use Prim.Native.Nat.{ℕ, zero, suc, ◌/◌, ◌≤◌, ◌<◌}
use native.Mathlib.Omega.{arith}
use lib.Dec.{lit≤, lit<}
use lib.ListN.{get_or, replicate}
use Rattle.laws_words.specs.Words.{bit}
use Rattle.laws_words.specs.Tests.{and_both}
use Rattle.rules_base.specs.Sets.{has, with, without, size, lowest}
use Rattle.rules_base.proofs.Sets.{still}
use Rattle.rules_base.specs.Chunk.{byte_of, dirty, chunk_marked, marked_for, each}
use Rattle.rules_base.specs.Map.{sound, clean_from, spare, room, within, replaced, replaced_from, zero_from, zero_row, zeroed, rows_kept, or_from, or_in, copied}
use Rattle.rules_base.proofs.Sound.{Sound, sound-fact, sound-test, sound-marked}
use Rattle.rules_pool.specs.declared.State.{State}
use Rattle.rules_pool.specs.declared.Session.{Session}
use Rattle.rules_pool.specs.declared.Run.{Run}
use Rattle.rules_pool.specs.declared.Job.{Job}
use Rattle.rules_pool.specs.declared.Pool.{Pool}
use Rattle.rules_pool.specs.declared.Told.{Told}
use Rattle.rules_pool.specs.declared.Outcome.{Outcome}
use Rattle.rules_pool.specs.Past.{no_past}
use Rattle.rules_pool.specs.Session.{free, new_session}
use Rattle.rules_pool.specs.Session as session
use Rattle.rules_pool.specs.declared.Kind.{Kind}
use Rattle.rules_pool.specs.Sessions.{ids_of}
use Rattle.rules_pool.specs.Still.{possible}
use Rattle.rules_pool.specs.StateRules.{roster_ok, run_ok, valid_pool}
use Rattle.rules_pool.specs.Cases.{case_of, begun}
use Rattle.rules_pool.specs.Recovery.{tried}
use Rattle.rules_node.specs.declared.State as node
use Rattle.rules_node.specs.States.{is_serving}
use Rattle.rules_node.specs.StateRules.{kept_ok, valid}
use Rattle.rules_node.specs.Change as change
use Rattle.rules_node.specs.Carry.{last_ios, last_io_at, last_io}
use Rattle.rules_node.specs.Serve.{readied}
use Rattle.rules_node.specs.Hand.{committed}
use Rattle.rules_world.specs.Station.{Station}
use Rattle.rules_node.specs.Cuts.{Cuts}
use Rattle.rules_world.specs.Together.{World, exchanges}
use Rattle.theorem_honest.specs.Demand.{Able, Begins, Copied, Case1, Case2, Recorded, Case3, is_dirty, keeps, chosen_dirty}
use Rattle.theorem_honest.proofs.Stations.{last_to, enabled_to, map_taken}
use Rattle.theorem_honest.proofs.Course.{base, gather, spread_to}
use Rattle.theorem_honest.proofs.Cases.{case-1, case-2, case-3}

-- ---- the pool: sessions 0, 1 and 2, all of them members, twelve chunks, version 4

unfoldable pub pool : Session → Session → Session → ℕ → Pool
pool a b c count =
    record {
      roster = record { sessions = a ∷ (b ∷ (c ∷ replicate 13 free)); count = count; version = 4; members = 7; sync = false; past = no_past };
      job = Job.Idle;
      number = 0;
      chunks = 12;
    }

abbrev normal : Session
normal = new_session State.Normal

abbrev again : Session
again = new_session State.Reconnecting

-- ---- the nodes

unfoldable pub bytes : List ℕ
bytes = replicate 8192 0

abbrev made : ℕ → node.State → ℕ → ℕ → ℕ → List ℕ → List ℕ → Station
made id state members version held chunks bits =
    record {
      node = record {
        id = id;
        chunks = 12;
        state = state;
        store = true;
        create = false;
        members = members;
        version = version;
        kept = chunks;
        held = held;
        transfer = None;
      };
      map = bits;
      staging = bytes;
    }

-- 0: CREATED, version 2, kept chunks 3 and 5; dirty: chunk 2 for 0, chunk 4 for 2.
-- 1: NORMAL, version 3, has not heard of member 0, kept chunk 7; dirty: chunk 1 for 0, chunk 9 for itself, chunk 2 for 5, which is no member.
-- 2 and on: NO_IO, version 3, kept chunks 5 and 9; dirty: chunk 6 for 0.
unfoldable pub station : ℕ → Station
station zero = made 0 node.State.Created 7 2 2 (replicate 14 0 ++ (3 ∷ (5 ∷ []))) (chunk_marked (chunk_marked bytes 0 2) 2 4)
station (suc zero) = made 1 node.State.Normal 6 3 1 (replicate 15 0 ++ (7 ∷ [])) (chunk_marked (chunk_marked (chunk_marked bytes 0 1) 1 9) 5 2)
station (suc (suc k)) = made (suc (suc k)) node.State.NoIo 7 3 2 (replicate 14 0 ++ (5 ∷ (9 ∷ []))) (chunk_marked bytes 0 6)

pub sound-bytes : sound 12 bytes ≡ true
unfolding bytes sound clean_from spare room
sound-bytes = refl

-- one mark more
mark : (xs : List ℕ) (m c : ℕ) → c < 12 → Sound 12 xs → Sound 12 (chunk_marked xs m c)
mark xs m c h s = sound-marked 12 xs m c s h

zero-map : Sound 12 bytes
zero-map = sound-fact 12 bytes sound-bytes

able-of : (s : Station) (bits : List ℕ) → s.node.chunks ≡ 12 → s.map ≡ bits → s.staging ≡ bytes → valid s.node ≡ true → is_serving s.node ≡ true → Sound 12 bits → Able 12 s.node.id s
able-of s bits c m t v q snd = record { itself = refl; rules = v; same = c; sound = rw (c, m, t) (and_both (sound-test 12 bits snd) sound-bytes); serves = q }

pub able : (j : ℕ) → has 7 j ≡ true → Able 12 j (station j)
unfolding station valid kept_ok has bit
able zero h = able-of (station 0) (chunk_marked (chunk_marked bytes 0 2) 2 4) refl refl refl refl refl (mark (chunk_marked bytes 0 2) 2 4 (lit< tt) (mark bytes 0 2 (lit< tt) zero-map))
able (suc zero) h =
    able-of (station 1) (chunk_marked (chunk_marked (chunk_marked bytes 0 1) 1 9) 5 2) refl refl refl refl refl
    (mark (chunk_marked (chunk_marked bytes 0 1) 1 9) 5 2 (lit< tt) (mark (chunk_marked bytes 0 1) 1 9 (lit< tt) (mark bytes 0 1 (lit< tt) zero-map)))
able (suc (suc k)) h = able-of (station (suc (suc k))) (chunk_marked bytes 0 6) refl refl refl (rw h refl) refl (mark bytes 0 6 (lit< tt) zero-map)

versions : (j : ℕ) → (station j).node.version ≤ 4
unfolding station
versions zero = lit≤ tt
versions (suc zero) = lit≤ tt
versions (suc (suc k)) = lit≤ tt

-- ---- a world in which recovery was tried in p

-- the first map goes in eight parts, each other in nine, cut at byte 1
unfoldable pub cuts : ℕ → List ℕ
cuts zero = replicate 8 1024
cuts (suc t) = 1 ∷ (1023 ∷ replicate 7 1024)

pub whole-cuts : (t : ℕ) → Cuts (cuts t)
unfolding cuts
whole-cuts zero = record { sizes = refl; whole = refl }
whole-cuts (suc t) = record { sizes = refl; whole = refl }

unfoldable pub world : Pool → World
world p =
    record {
      pool = (tried p).pool;
      map = bytes;
      sent = record { outcome = Outcome.Plain; told = Told.Nothing; awaited = (tried p).awaited; number = (tried p).pool.number };
      nodes = station;
      cuts = cuts;
    }

begins : (a b c : Session) (count : ℕ) (r : Run) → valid_pool (pool a b c count) ≡ true → begun (pool a b c count).roster ≡ Some r
    → Begins (pool a b c count) (world (pool a b c count))
unfolding pool world
begins a b c count r rules began =
    record { array = refl; rules = rules; run = r; began = began; pool = refl; awaited = refl; number = refl; map = sound-bytes }

a-member : (x j : ℕ) → has (without 7 x) j ≡ true → has 7 j ≡ true
a-member x j h = (still 7 x j h).0

-- ---- case 1: 1 is NORMAL, 0 and 2 are candidates

unfoldable pub pool-1 : Pool
pool-1 = pool again normal again 1

-- After six answers 0 and 2 are NORMAL on both sides, with the map of 1.
pub instance-1 : Case1 pool-1 1 5 6 (world pool-1)
unfolding bit has with without size lowest ids_of possible case_of begun roster_ok run_ok valid_pool pool pool-1 world
instance-1 = case-1 pool-1 (world pool-1) some
    (record {
      begins = begins again normal again 1 _ refl refl;
      cuts = whole-cuts;
      giver = able 1 refl;
      takers = λ j h. able j (a-member 1 j h);
    })
  where
    some : ids_of Kind.Normals pool-1.roster ≢ 0
    some e = omega arith

-- Byte 0 of receiver 0's map is that of the source: chunk 1 for 0. What it held itself, chunk 2 for 0 and chunk 4 for 2 (byte 1,024), is gone, and so is
-- what the source held for 5 (byte 2,560).
pub bytes-1 : (get_or ((exchanges 6 (world pool-1)).nodes 0).map 0 0 ≡ 2)
    × ((get_or ((exchanges 6 (world pool-1)).nodes 0).map 1024 0 ≡ 0) × (get_or ((exchanges 6 (world pool-1)).nodes 0).map 2560 0 ≡ 0))
unfolding pool pool-1 world station bytes has bit byte_of chunk_marked
bytes-1 = (of-source 0 (lit< tt) refl, (of-source 1024 (lit< tt) refl, r.zero 2560 (lit< tt) refl))
  where
    r : Copied pool-1 1 0 (exchanges 6 (world pool-1))
    r = instance-1.recovered.map 0 refl

    of-source : (k : ℕ) → k < 8192 → has 7 (k / 512) ≡ true → get_or ((exchanges 6 (world pool-1)).nodes 0).map k 0 ≡ get_or (station 1).map k 0
    of-source k l h = r.equal k l h ∙ ap (λ (t : Station). get_or t.map k 0) (instance-1.others 1 refl)

-- ---- case 2: all are candidates, 1 is marked last authoritative

unfoldable pub pool-2 : Pool
pool-2 = pool again (session.marked again true) again 0

-- After seven answers all are NORMAL on both sides, 0 and 2 with the map of 1.
pub instance-2 : Case2 pool-2 1 5 7 (world pool-2)
unfolding bit has with without size lowest ids_of possible case_of begun roster_ok run_ok valid_pool pool pool-2 world
instance-2 = case-2 pool-2 (world pool-2) refl some
    (record {
      begins = begins again (session.marked again true) again 0 _ refl refl;
      cuts = whole-cuts;
      giver = able 1 refl;
      takers = λ j h. able j (a-member 1 j h);
    })
  where
    some : ids_of Kind.Marked pool-2.roster ≢ 0
    some e = omega arith

-- The source's own map: chunk 1 for 0 and chunk 9 for itself (byte 513) stay, what it held for 5 is gone.
pub bytes_2 : (get_or ((exchanges 7 (world pool-2)).nodes 1).map 0 0 ≡ 2)
    × ((get_or ((exchanges 7 (world pool-2)).nodes 1).map 513 0 ≡ 2) × (get_or ((exchanges 7 (world pool-2)).nodes 1).map 2560 0 ≡ 0))
unfolding pool pool-2 world station bytes has bit byte_of chunk_marked each within replaced replaced_from zero_from zero_row rows_kept
bytes_2 = (of 0, (of 513, of 2560))
  where
    of : (k : ℕ) → get_or ((exchanges 7 (world pool-2)).nodes 1).map k 0 ≡ get_or (rows_kept 7 (station 1).map) k 0
    of k = ap (λ (xs : List ℕ). get_or xs k 0) instance-2.source-map

-- ---- case 3: all are candidates, none is marked

unfoldable pub pool-3 : Pool
pool-3 = pool again again again 0

-- After twenty-five answers all are NORMAL on both sides, with the map of the chosen.
pub instance-3 : Case3 pool-3 25 (world pool-3)
unfolding bit has with without size lowest ids_of possible case_of begun roster_ok run_ok valid_pool pool pool-3 world
instance-3 = case-3 pool-3 (world pool-3) refl refl
    (record {
      begins = begins again again again 0 _ refl refl;
      cuts = whole-cuts;
      able = able;
      versions = λ j h. versions j;
    })

-- 1 is chosen: of the two with the highest version it has the lower id.
pub chosen-3 : instance-3.source ≡ 1
unfolding pool pool-3 world has bit station
chosen-3 = only instance-3.source (instance-3.chosen.most 1 refl) (instance-3.chosen.tie 1 refl)
  where
    only : (x : ℕ) → (station 1).node.version ≤ (station x).node.version → ((station 1).node.version ≡ (station x).node.version → x ≤ 1) → x ≡ 1
    only zero m t = absurd (let z : ⊥ = omega arith in z)
    only (suc zero) m t = refl
    only (suc (suc k)) m t = let h : suc (suc k) ≤ 1 = t refl in absurd (let z : ⊥ = omega arith in z)

-- a chunk for 0, 1, 2, and 5, which is no member
abbrev for : (ℕ → ℕ → Bool) → ℕ → List Bool
for f c = f 0 c ∷ (f 1 c ∷ (f 2 c ∷ (f 5 c ∷ [])))

-- What the chosen's map is to be in case 3: f m c says that chunk c is dirty for m.
pub record Table (f : ℕ → ℕ → Bool) : Type 0 where
  -- the chosen held chunk 1 for 0
  pub held : for f 1 ≡ true ∷ (false ∷ (false ∷ (false ∷ [])))
  -- it held chunk 2 for 5; that 0 held chunk 2 for itself is not asked
  pub gone : for f 2 ≡ false ∷ (false ∷ (false ∷ (false ∷ [])))
  -- chunk 3 is kept by 0 alone: dirty for both others, clean for the chosen
  pub kept-by-one : for f 3 ≡ true ∷ (false ∷ (true ∷ (false ∷ [])))
  -- chunk 5 is kept by 0 and by 2
  pub kept-by-two : for f 5 ≡ true ∷ (false ∷ (true ∷ (false ∷ [])))
  -- chunk 7 is kept by the chosen, in whose own set 0 is not
  pub kept-by-chosen : for f 7 ≡ false ∷ (false ∷ (true ∷ (false ∷ [])))
  -- chunk 9 is kept by 2, and dirty for the chosen: passed over
  pub passed_over : for f 9 ≡ false ∷ (true ∷ (false ∷ (false ∷ [])))

-- so the definition says
defined-3 : Table (chosen_dirty 7 1 station)
unfolding station bytes bit has without byte_of dirty chunk_marked keeps
defined-3 = record { held = refl; gone = refl; kept-by-one = refl; kept-by-two = refl; kept-by-chosen = refl; passed_over = refl }

-- and so it is after the twenty-five exchanges
pub table-3 : Table (is_dirty ((exchanges 25 (world pool-3)).nodes 1).map)
unfolding pool pool-3 world
table-3 =
    record {
      held = same 1 (lit< tt) ∙ defined-3.held;
      gone = same 2 (lit< tt) ∙ defined-3.gone;
      kept-by-one = same 3 (lit< tt) ∙ defined-3.kept-by-one;
      kept-by-two = same 5 (lit< tt) ∙ defined-3.kept-by-two;
      kept-by-chosen = same 7 (lit< tt) ∙ defined-3.kept-by-chosen;
      passed_over = same 9 (lit< tt) ∙ defined-3.passed_over;
    }
  where
    r : Recorded pool-3 1 station ((exchanges 25 (world pool-3)).nodes 1).map
    r = rw chosen-3 at instance-3.source-map

    same : (c : ℕ) → c < 12 → for (is_dirty ((exchanges 25 (world pool-3)).nodes 1).map) c ≡ for (chosen_dirty 7 1 station) c
    same c l = rw (r.chunk 0 c (lit< tt) l, r.chunk 1 c (lit< tt) l, r.chunk 2 c (lit< tt) l, r.chunk 5 c (lit< tt) l)

-- The same at some places by computing the run itself, by what each message makes of a node: the spread without enable from 1 to 0 and to 2, last IOs, the
-- gather of 0's and then of 2's map, ENABLE.
abbrev last : ℕ → Station
last zero = last_to 1 (spread_to base 7 4 (station 1) (station 0))
last (suc zero) = last_to 1 (station 1)
last (suc (suc k)) = last_to 1 (spread_to base 7 4 (station 1) (station (suc (suc k))))

abbrev after : Station
after = enabled_to 4 7 (spread_to gather 7 4 (last 2) (spread_to gather 7 4 (last 0) (last 1)))

abbrev places : (ℕ → ℕ → Bool) → List Bool
places f = f 0 3 ∷ (f 1 3 ∷ (f 2 3 ∷ (f 0 7 ∷ (f 2 9 ∷ []))))

pub course-3 : places (is_dirty after.map) ≡ places (chosen_dirty 7 1 station)
unfolding station bytes bit has without byte_of dirty chunk_marked marked_for each within replaced replaced_from zero_from zero_row zeroed rows_kept or_from or_in copied last_ios last_io_at last_io committed map_taken readied change.instructed change.stored_version change.taken_over change.ended_transfer change.transferred change.went_to keeps
course-3 = refl
