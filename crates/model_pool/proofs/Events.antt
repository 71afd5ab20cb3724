-- What each event leaves of a node as it is seen.
use Rattle.std.specs.Prelude.{Option, Some, None}
use mathlib.Core.Path.{◌≡◌, refl, sym, ap, ◌∙◌, subst}
use mathlib.Core.Bool.{Bool, true, false, not, ◌&&◌, ◌||◌}
use mathlib.Core.List.{List}
use Prim.Native.Nat.{ℕ, ◌≤◌, ◌<◌, max}
use native.Mathlib.Omega.{arith}
use lib.Dec.{eqb, ltb}
use lib.ListN.{length}
use borrow.Author.Tests.{eq-eqb, eqb-true, ltb-true, ltb-false, not-false}
use Rattle.laws_words.specs.Tests.{clash, by_cases, and_left, and_right}
use Rattle.rules_base.proofs.Order.{none-applies}
use Rattle.rules_base.specs.Sets.{has}
use Rattle.rules_base.specs.Chunk.{dirty, marked_for}
use Rattle.rules_base.proofs.Chunk.{dirty-lt}
use Rattle.rules_base.specs.Map.{copied}
use Rattle.rules_base.proofs.Rows.{copied_all}
use Rattle.rules_base.proofs.Sound.{sound-fact}
use Rattle.rules_base.specs.Fill.{row_filled}
use Rattle.rules_base.proofs.Fills.{filled-own}
use Rattle.rules_base.specs.declared.Op.{Op}
use Rattle.rules_node.specs.declared.OnMap.{OnMap}
use Rattle.rules_node.specs.States.{is_whole}
use Rattle.rules_node.specs.Change.{went_to, equipped, taken_over, member_entered, member_dropped, stored_version, kept_chunk, forgotten, transferred, ended_transfer, instructed}
use Rattle.laws_node.proofs.Passed.{or-false}
use Rattle.laws_node.proofs.Valid.{Valid, valid-facts}
use Rattle.rules_node.specs.Register.{registered_create, registered_add, wiped, unregistered}
use Rattle.rules_node.specs.Join.{joined_create, left}
use Rattle.rules_node.specs.Enable.{enabled, disabled}
use Rattle.rules_node.specs.Write.{written}
use Rattle.rules_node.specs.Info.{informed}
use Rattle.rules_node.specs.Fill.{filled}
use Rattle.rules_node.specs.Serve.{readied}
use Rattle.rules_node.specs.Hand.{committed, map_done_refusal}
use Rattle.laws_node.proofs.HandKeeps.{map_done-passed}
use Rattle.rules_node.specs.Carry.{map_after, staging_after}
use Rattle.laws_node.proofs.Rows.{last_ios-chunk}
use Rattle.rules_node.specs.Events.{Event, tests_at}
use Rattle.rules_node.specs.Face.{map_by, staging_by}
use Rattle.laws_node.proofs.Theorems.{law, law-rules}
use Rattle.rules_node.specs.Turns.{is_accepted}
use Rattle.rules_world.specs.Station.{Station, does}
use Rattle.model_pool.specs.Model as m
use Rattle.model_pool.specs.Holds.{transfer_of, Holds, Sane}
use Rattle.model_pool.proofs.Bits.{dirty-in, stays-kept, stays-rows, stays-cleared, stays-marked, stays-filled, gets-marked}
use Rattle.model_pool.proofs.Did.{lent, took, stays}

-- what is seen of a node
pub less : {s : Station} {v : ℕ} {f g : m.Map} {t : m.Transfer} (f' g' : m.Map) → Holds s v f g t → ((n c : ℕ) → f' n c ≡ true → f n c ≡ true) → ((n c : ℕ) → g' n c ≡ true → g n c ≡ true) → Holds s v f' g' t
less f' g' h a b = record { ver = h.ver; map = λ n c e. h.map n c (a n c e); stg = λ n c e. h.stg n c (b n c e); tr = h.tr }

-- POOL_INFO that changes no row
abbrev pub names : Op → Bool
names Op.AddCreate = false
names Op.AddAssemble = true
names Op.RemoveDelete = false
names Op.RemoveDisassemble = true

module _ (chunks j : ℕ) (s : Station) (k : Sane chunks j s) (v : ℕ) (f g : m.Map) (t : m.Transfer) (h : Holds s v f g t) where
  len : length s.map ≡ 8192
  len = (sound-fact s.node.chunks s.map k.good.map).len

  len-staging : length s.staging ≡ 8192
  len-staging = (sound-fact s.node.chunks s.staging k.good.staging).len

  few : s.node.chunks ≤ 4096
  few = (valid-facts s.node k.good.rules).few

  -- ---- what changes nothing that is seen
  refused : (e : Event) → is_accepted (does s e).answer ≡ false → Holds (does s e).station v f g t
  refused e z = subst (λ (x : Station). Holds x v f g t) (sym (stays e s z)) h

  -- a refusal changes nothing, so what is to hold after an accepted event is to be shown, and that it is no more than what was held
  pub either : (e : Event) (f' g' : m.Map) → ((n c : ℕ) → f' n c ≡ true → f n c ≡ true) → ((n c : ℕ) → g' n c ≡ true → g n c ≡ true) → (is_accepted (does s e).answer ≡ true → Holds (does s e).station v f' g' t) → Holds (does s e).station v f' g' t
  either e f' g' a b did = by_cases (is_accepted (does s e).answer) did (λ z. less f' g' (refused e z) a b)

  plainly : (e : Event) → (is_accepted (does s e).answer ≡ true → Holds (does s e).station v f g t) → Holds (does s e).station v f g t
  plainly e did = either e f g (λ n c x. x) (λ n c x. x) did

  pub assembled : Holds (does s Event.assemble).station v f g t
  unfolding law went_to map_by staging_by map_after staging_after
  assembled = plainly Event.assemble (λ z. subst (λ (x : Station). Holds x v f g t) (sym (took Event.assemble s z).is) (record { ver = h.ver; map = h.map; stg = h.stg; tr = h.tr }))

  pub faulted : Holds (does s Event.fault).station v f g t
  unfolding law went_to map_by staging_by map_after staging_after
  faulted = plainly Event.fault (λ z. subst (λ (x : Station). Holds x v f g t) (sym (took Event.fault s z).is) (record { ver = h.ver; map = h.map; stg = h.stg; tr = h.tr }))

  pub gave : (offset size : ℕ) → Holds (does s (Event.give_part offset size)).station v f g t
  unfolding law map_by staging_by map_after staging_after
  gave offset size = plainly (Event.give_part offset size) (λ z. subst (λ (x : Station). Holds x v f g t) (sym (took (Event.give_part offset size) s z).is) (record { ver = h.ver; map = h.map; stg = h.stg; tr = h.tr }))

  pub asked : Holds (does s Event.map_get_ver).station v f g t
  unfolding law map_by staging_by map_after staging_after
  asked = plainly Event.map_get_ver (λ z. subst (λ (x : Station). Holds x v f g t) (sym (took Event.map_get_ver s z).is) (record { ver = h.ver; map = h.map; stg = h.stg; tr = h.tr }))

  -- LAST_IO_TO_MAP only adds bits
  pub last-ios : (chosen : ℕ) → Holds (does s (Event.last_io_to_map chosen)).station v f g t
  unfolding law map_by staging_by staging_after
  last-ios chosen = plainly (Event.last_io_to_map chosen) (λ z.
      let o = took (Event.last_io_to_map chosen) s z in
      subst (λ (x : Station). Holds x v f g t) (sym o.is) (record { ver = h.ver; map = λ n c e. more chosen (law-rules (Event.last_io_to_map chosen) s.node (lent s) o.none) n c (h.map n c e); stg = h.stg; tr = h.tr }))
    where
      more : (chosen : ℕ) → Valid s.node → (n c : ℕ) → dirty s.map n c ≡ 1 → dirty (map_after (OnMap.LastIos chosen) s.node s.staging s.map) n c ≡ 1
      more chosen r n c e =
          let i = dirty-in s.map n c e in
          let q = last_ios-chunk s.node chosen s.staging s.map n c r (sound-fact s.node.chunks s.map k.good.map) i.0 i.1 in
          let l = dirty-lt (map_after (OnMap.LastIos chosen) s.node s.staging s.map) n c in
          omega arith

  -- ---- stores
  pub registered : is_accepted (does s Event.register_create).answer ≡ true → Holds (does s Event.register_create).station 0 m.none g t
  unfolding law registered_create went_to equipped taken_over stored_version forgotten instructed map_by staging_by map_after staging_after
  registered z = subst (λ (x : Station). Holds x 0 m.none g t) (sym (took Event.register_create s z).is) (record { ver = refl; map = λ n c e. clash e refl; stg = h.stg; tr = h.tr })

  pub added : (set version : ℕ) → is_accepted (does s (Event.register_add set version)).answer ≡ true → Holds (does s (Event.register_add set version)).station version f g t
  unfolding law registered_add went_to equipped taken_over stored_version instructed map_by staging_by map_after staging_after
  added set version z = subst (λ (x : Station). Holds x version f g t) (sym (took (Event.register_add set version) s z).is) (record { ver = refl; map = h.map; stg = h.stg; tr = h.tr })

  pub given-up : is_accepted (does s (Event.unregister false)).answer ≡ true → Holds (does s (Event.unregister false)).station v f m.none m.Transfer.Shut
  unfolding law wiped unregistered went_to equipped transferred ended_transfer map_by staging_by map_after
  given-up z = subst (λ (x : Station). Holds x v f m.none m.Transfer.Shut) (sym (took (Event.unregister false) s z).is) (record { ver = h.ver; map = h.map; stg = λ n c e. clash e refl; tr = refl })

  pub deleted : is_accepted (does s (Event.unregister true)).answer ≡ true → Holds (does s (Event.unregister true)).station 0 m.none m.none m.Transfer.Shut
  unfolding law wiped unregistered went_to equipped taken_over stored_version instructed transferred ended_transfer map_by staging_by map_after
  deleted z = subst (λ (x : Station). Holds x 0 m.none m.none m.Transfer.Shut) (sym (took (Event.unregister true) s z).is) (record { ver = refl; map = λ n c e. clash e refl; stg = λ n c e. clash e refl; tr = refl })

  pub created : (set : ℕ) → is_accepted (does s (Event.join_create set)).answer ≡ true → Holds (does s (Event.join_create set)).station v m.none g t
  unfolding law joined_create went_to equipped taken_over map_by staging_by staging_after
  created set z = subst (λ (x : Station). Holds x v m.none g t) (sym (took (Event.join_create set) s z).is) (record { ver = h.ver; map = λ n c e. clash e refl; stg = h.stg; tr = h.tr })

  -- ---- staging is dropped
  pub stopped : is_accepted (does s Event.enable0).answer ≡ true → Holds (does s Event.enable0).station v f m.none m.Transfer.Shut
  unfolding law disabled went_to transferred ended_transfer map_by staging_by map_after
  stopped z = subst (λ (x : Station). Holds x v f m.none m.Transfer.Shut) (sym (took Event.enable0 s z).is) (record { ver = h.ver; map = h.map; stg = λ n c e. clash e refl; tr = refl })

  pub disabled-at : is_accepted (does s Event.map_disable).answer ≡ true → Holds (does s Event.map_disable).station v f m.none m.Transfer.Shut
  unfolding law transferred ended_transfer map_by staging_by map_after
  disabled-at z = subst (λ (x : Station). Holds x v f m.none m.Transfer.Shut) (sym (took Event.map_disable s z).is) (record { ver = h.ver; map = h.map; stg = λ n c e. clash e refl; tr = refl })

  pub left_at : is_accepted (does s (Event.leave false)).answer ≡ true → Holds (does s (Event.leave false)).station v f m.none m.Transfer.Shut
  unfolding law left went_to transferred ended_transfer map_by staging_by map_after
  left_at z = subst (λ (x : Station). Holds x v f m.none m.Transfer.Shut) (sym (took (Event.leave false) s z).is) (record { ver = h.ver; map = h.map; stg = λ n c e. clash e refl; tr = refl })

  pub left-deleted : is_accepted (does s (Event.leave true)).answer ≡ true → Holds (does s (Event.leave true)).station v m.none m.none m.Transfer.Shut
  unfolding law left went_to transferred ended_transfer map_by staging_by
  left-deleted z = subst (λ (x : Station). Holds x v m.none m.none m.Transfer.Shut) (sym (took (Event.leave true) s z).is) (record { ver = h.ver; map = λ n c e. clash e refl; stg = λ n c e. clash e refl; tr = refl })

  -- ---- enabled
  pub enabled-at : (version set : ℕ) → is_accepted (does s (Event.enable1 version set)).answer ≡ true → Holds (does s (Event.enable1 version set)).station version (m.within (has set) f) m.none m.Transfer.Shut
  unfolding law enabled went_to taken_over stored_version instructed transferred ended_transfer map_by staging_by map_after
  enabled-at version set z = subst (λ (x : Station). Holds x version (m.within (has set) f) m.none m.Transfer.Shut) (sym (took (Event.enable1 version set) s z).is) (record {
    ver = refl;
    map = λ n c e. stays-kept s.map len n c (h.map n c (and_right (has set n) (f n c) e)) set (and_left (has set n) (f n c) e);
    stg = λ n c e. clash e refl;
    tr = refl;
  })

  -- ---- a transfer
  pub readied-at : (keep : Bool) → is_accepted (does s (Event.map_ready keep)).answer ≡ true → Holds (does s (Event.map_ready keep)).station v f (λ n c. keep && f n c) m.Transfer.Begun
  unfolding law readied went_to transferred map_by staging_by map_after staging_after
  readied-at true z = subst (λ (x : Station). Holds x v f (λ n c. true && f n c) m.Transfer.Begun) (sym (took (Event.map_ready true) s z).is) (record {
    ver = h.ver;
    map = h.map;
    stg = λ n c e. subst (λ (xs : List ℕ). dirty xs n c ≡ 1) (sym (copied_all s.staging s.map (len-staging ∙ sym len))) (h.map n c e);
    tr = refl;
  })
  readied-at false z = subst (λ (x : Station). Holds x v f (λ n c. false && f n c) m.Transfer.Begun) (sym (took (Event.map_ready false) s z).is) (record { ver = h.ver; map = h.map; stg = λ n c e. clash e refl; tr = refl })

  whole-got : (x : Option ℕ) → is_whole x ≡ true → transfer_of x ≡ m.Transfer.Got
  whole-got None e = clash e refl
  whole-got (Some bytes) e = rw e refl

  -- it was whole
  pub was-whole : (enabling : Bool) (version set : ℕ) → is_accepted (does s (Event.map_done enabling version set)).answer ≡ true → t ≡ m.Transfer.Got
  unfolding map_done_refusal
  was-whole enabling version set z = sym h.tr ∙ whole-got s.node.transfer (map_done-passed s.node (lent s) version set (took (Event.map_done enabling version set) s z).none).0.from

  pub committed-at : (enabling : Bool) (version set : ℕ) → is_accepted (does s (Event.map_done enabling version set)).answer ≡ true → Holds (does s (Event.map_done enabling version set)).station version (m.within (has set) g) m.none m.Transfer.Shut
  unfolding law committed went_to taken_over stored_version instructed transferred ended_transfer map_by staging_by map_after
  committed-at enabling version set z = subst (λ (x : Station). Holds x version (m.within (has set) g) m.none m.Transfer.Shut) (sym (took (Event.map_done enabling version set) s z).is) (record {
    ver = refl;
    map = λ n c e.
        let q = copied_all s.map s.staging (len ∙ sym len-staging) in
        stays-kept (copied s.map s.staging) (ap length q ∙ len-staging) n c (subst (λ (xs : List ℕ). dirty xs n c ≡ 1) (sym q) (h.stg n c (and_right (has set n) (g n c) e))) set (and_left (has set n) (g n c) e);
    stg = λ n c e. clash e refl;
    tr = refl;
  })

  -- ---- writes, syncs, POOL_INFO, fill
  below : (n : ℕ) → ltb 15 n ≡ false → n < 16
  below n e = let l = ltb-false 15 n e in omega arith

  pub wrote : (chunk set version : ℕ) → is_accepted (does s (Event.write chunk set version)).answer ≡ true
      → Holds (does s (Event.write chunk set version)).station (max v version) (λ n c. f n c || (eqb c chunk && has set n)) g t
  unfolding law written stored_version kept_chunk map_by staging_by map_after staging_after
  wrote chunk set version z =
      let o = took (Event.write chunk set version) s z in
      let b : chunk < s.node.chunks = ltb-true chunk s.node.chunks (not-false _ (none-applies (tests_at (Event.write chunk set version) s.node (lent s)) o.none 4 refl)) in
      let b' : chunk < 4096 = omega (arith, b, few) in
      subst (λ (x : Station). Holds x (max v version) (λ n c. f n c || (eqb c chunk && has set n)) g t) (sym o.is) (record {
        ver = ap (λ (x : ℕ). max x version) h.ver;
        map = λ n c e. by_cases (f n c)
            (λ y. stays-marked s.map len n c (h.map n c y) set chunk b')
            (λ y. let w : (eqb c chunk && has set n) ≡ true = rw y at e in
            subst (λ (x : ℕ). dirty (marked_for s.map set chunk) n x ≡ 1) (sym (eqb-true c chunk (and_left (eqb c chunk) (has set n) w))) (gets-marked s.map set chunk n len b' (and_right (eqb c chunk) (has set n) w)));
        stg = h.stg;
        tr = h.tr;
      })

  pub cleared_at : (member chunk : ℕ) → is_accepted (does s (Event.synced member chunk)).answer ≡ true → Holds (does s (Event.synced member chunk)).station v (λ n c. not (eqb n member && eqb c chunk) && f n c) g t
  unfolding law map_by staging_by map_after staging_after
  cleared_at member chunk z =
      let o = took (Event.synced member chunk) s z in
      let ts = tests_at (Event.synced member chunk) s.node (lent s) in
      let b : chunk < s.node.chunks = ltb-true chunk s.node.chunks (not-false _ (none-applies ts o.none 4 refl)) in
      let i = below member (or-false (ltb 15 s.node.id) (ltb 15 member) (none-applies ts o.none 3 refl)).1 in
      subst (λ (x : Station). Holds x v (λ n c. not (eqb n member && eqb c chunk) && f n c) g t) (sym o.is) (record {
        ver = h.ver;
        map = λ n c e. stays-cleared s.map len n c (h.map n c (and_right (not (eqb n member && eqb c chunk)) (f n c) e)) member chunk i (omega (arith, b, few))
            (λ x y. clash (and_left (not (eqb n member && eqb c chunk)) (f n c) e) (rw (eq-eqb n member x, eq-eqb c chunk y) refl));
        stg = h.stg;
        tr = h.tr;
      })

  row-zeroed : (op : Op) (member : ℕ) → is_accepted (does s (Event.pool_info op member)).answer ≡ true → member < 16
  row-zeroed op member z = below member (or-false (ltb 15 s.node.id) (ltb 15 member) (none-applies (tests_at (Event.pool_info op member) s.node (lent s)) (took (Event.pool_info op member) s z).none 3 refl)).1

  -- what says that a member was assembled, or disassembled, changes nothing that is seen
  pub heard-of : (op : Op) (member : ℕ) → names op ≡ true → Holds (does s (Event.pool_info op member)).station v f g t
  unfolding law informed map_by staging_by map_after staging_after
  heard-of Op.AddCreate member e = clash e refl
  heard-of Op.AddAssemble member e = plainly (Event.pool_info Op.AddAssemble member) (λ z. subst (λ (x : Station). Holds x v f g t) (sym (took (Event.pool_info Op.AddAssemble member) s z).is) (record { ver = h.ver; map = h.map; stg = h.stg; tr = h.tr }))
  heard-of Op.RemoveDelete member e = clash e refl
  heard-of Op.RemoveDisassemble member e = plainly (Event.pool_info Op.RemoveDisassemble member) (λ z. subst (λ (x : Station). Holds x v f g t) (sym (took (Event.pool_info Op.RemoveDisassemble member) s z).is) (record { ver = h.ver; map = h.map; stg = h.stg; tr = h.tr }))

  -- POOL_INFO of any kind leaves the other rows
  pub informed-at : (op : Op) (member : ℕ) → Holds (does s (Event.pool_info op member)).station v (λ n c. not (eqb n member) && f n c) g t
  unfolding law informed taken_over member_entered member_dropped map_by staging_by map_after staging_after
  informed-at Op.AddCreate member = either (Event.pool_info Op.AddCreate member) (λ n c. not (eqb n member) && f n c) g (λ n c e. and_right (not (eqb n member)) (f n c) e) (λ n c e. e) (λ z.
      subst (λ (x : Station). Holds x v (λ n c. not (eqb n member) && f n c) g t) (sym (took (Event.pool_info Op.AddCreate member) s z).is) (record {
        ver = h.ver;
        map = λ n c e. stays-rows s.map len n c (h.map n c (and_right (not (eqb n member)) (f n c) e)) member (row-zeroed Op.AddCreate member z) (λ x. clash (and_left (not (eqb n member)) (f n c) e) (rw (eq-eqb n member x) refl));
        stg = h.stg;
        tr = h.tr;
      }))
  informed-at Op.AddAssemble member = less (λ n c. not (eqb n member) && f n c) g (heard-of Op.AddAssemble member refl) (λ n c e. and_right (not (eqb n member)) (f n c) e) (λ n c e. e)
  informed-at Op.RemoveDelete member = either (Event.pool_info Op.RemoveDelete member) (λ n c. not (eqb n member) && f n c) g (λ n c e. and_right (not (eqb n member)) (f n c) e) (λ n c e. e) (λ z.
      subst (λ (x : Station). Holds x v (λ n c. not (eqb n member) && f n c) g t) (sym (took (Event.pool_info Op.RemoveDelete member) s z).is) (record {
        ver = h.ver;
        map = λ n c e. stays-rows s.map len n c (h.map n c (and_right (not (eqb n member)) (f n c) e)) member (row-zeroed Op.RemoveDelete member z) (λ x. clash (and_left (not (eqb n member)) (f n c) e) (rw (eq-eqb n member x) refl));
        stg = h.stg;
        tr = h.tr;
      }))
  informed-at Op.RemoveDisassemble member = less (λ n c. not (eqb n member) && f n c) g (heard-of Op.RemoveDisassemble member refl) (λ n c e. and_right (not (eqb n member)) (f n c) e) (λ n c e. e)

  pub filled_at : (member version : ℕ) → is_accepted (does s (Event.fill member version)).answer ≡ true
      → Holds (does s (Event.fill member version)).station (max v version) (λ n c. f n c || (eqb n member && ltb c chunks)) g t
  unfolding law filled stored_version map_by staging_by map_after staging_after
  filled_at member version z =
      let o = took (Event.fill member version) s z in
      let i = below member (or-false (ltb 15 s.node.id) (ltb 15 member) (none-applies (tests_at (Event.fill member version) s.node (lent s)) o.none 3 refl)).1 in
      subst (λ (x : Station). Holds x (max v version) (λ n c. f n c || (eqb n member && ltb c chunks)) g t) (sym o.is) (record {
        ver = ap (λ (x : ℕ). max x version) h.ver;
        map = λ n c e. by_cases (f n c)
            (λ y. stays-filled s.map len n c (h.map n c y) member s.node.chunks i)
            (λ y. let w : (eqb n member && ltb c chunks) ≡ true = rw y at e in
            let l = ltb-true c chunks (and_right (eqb n member) (ltb c chunks) w) in
            subst (λ (x : ℕ). dirty (row_filled member s.node.chunks s.map) x c ≡ 1) (sym (eqb-true n member (and_left (eqb n member) (ltb c chunks) w)))
            (filled-own s.map member s.node.chunks c len i (omega (arith, l, k.count)) (omega (arith, l, k.count, few))));
        stg = h.stg;
        tr = h.tr;
      })
