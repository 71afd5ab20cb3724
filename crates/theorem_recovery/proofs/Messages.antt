-- The two messages of extend at an honest node: it takes each, is honest after it, and the fill leaves the row full.
use mathlib.Core.Path.{◌≡◌, refl, ap, ◌∙◌}
use mathlib.Core.Logic.{◌≢◌}
use mathlib.Core.Bool.{true, false}
use Prim.Native.Nat.{ℕ, ◌≤◌, ◌<◌}
use native.Mathlib.Omega.{arith}
use lib.Dec.{eqb, ltb}
use borrow.Author.Tests.{le-ltb, ne_eqb}
use Rattle.laws_words.specs.Tests.{and_left, and_right, and_both}
use Rattle.rules_base.specs.Limits.{version_top}
use Rattle.rules_base.specs.Sets.{has}
use Rattle.rules_base.proofs.Sets.{has-with-same}
use Rattle.rules_base.specs.Chunk.{dirty}
use Rattle.rules_base.proofs.Summaries.{one-summary}
use Rattle.rules_base.specs.Map.{sound, zero_row}
use Rattle.rules_base.proofs.Sound.{Sound, sound-fact, sound-test, sound-zero_row}
use Rattle.rules_base.specs.Fill.{row_filled}
use Rattle.rules_base.proofs.Fills.{sound-filled, filled-own}
use Rattle.rules_base.specs.declared.Op.{Op}
use Rattle.rules_node.specs.States.{is_joined}
use Rattle.rules_node.specs.Change.{member_entered, taken_over, stored_version}
use Rattle.rules_node.specs.Turns.{settled}
use Rattle.rules_node.specs.Carry.{map_after, staging_after}
use Rattle.rules_node.specs.Info.{pool_info_refusal, informed, pool_info}
use Rattle.laws_node.proofs.WritesKeeps.{pool_info-keeps}
use Rattle.rules_node.specs.Fill.{fill_refusal, filled, fill}
use Rattle.laws_node.proofs.FillsKeeps.{fill-keeps}
use Rattle.rules_node.specs.Events.{Event}
use Rattle.rules_node.specs.Face.{lent_to, map_by, staging_by}
use Rattle.rules_world.specs.Station.{Station, face, does}
use Rattle.theorem_honest.specs.Demand.{Able}
use Rattle.theorem_recovery.specs.Added.{Full}

own-id : (c j : ℕ) (s : Station) → Able c j s → j < 16 → ltb 15 s.node.id ≡ false
own-id c j s a h = rw a.itself (le-ltb 15 j (omega (arith, h)))

joined : (c j : ℕ) (s : Station) → Able c j s → is_joined s.node.state ≡ true
joined c j s a = and_left (is_joined s.node.state) s.node.store a.serves

map-sound : (c j : ℕ) (s : Station) → Able c j s → Sound s.node.chunks s.map
map-sound c j s a = sound-fact s.node.chunks s.map (and_left (sound s.node.chunks s.map) _ a.sound)

staging-sound : (c j : ℕ) (s : Station) → Able c j s → sound s.node.chunks s.staging ≡ true
staging-sound c j s a = and_right (sound s.node.chunks s.map) (sound s.node.chunks s.staging) a.sound

-- ---- POOL_INFO

abbrev informed_to : ℕ → Station → Station
informed_to member s = record { node = member_entered s.node member; map = zero_row member s.map; staging = s.staging }

can-inform : (c j member : ℕ) (s : Station) → Able c j s → j < 16 → member < 16 → member ≢ j → pool_info_refusal s.node (lent_to (face s) s.map s.staging) Op.AddCreate member ≡ 0
unfolding pool_info_refusal
can-inform c j member s a h m d =
    rw (a.rules, a.sound, one-summary.agrees s.map, own-id c j s a h, le-ltb 15 member (omega (arith, m)), joined c j s a, (let e : eqb member s.node.id ≡ false = rw a.itself (ne_eqb member j d) in e))

informs : (c j member : ℕ) (s : Station) → Able c j s → j < 16 → member < 16 → member ≢ j → (does s (Event.pool_info Op.AddCreate member)).station ≡ informed_to member s
unfolding does map_by staging_by pool_info settled map_after staging_after informed
informs c j member s a h m d = rw (can-inform c j member s a h m d) refl

able-informed_to : (c j member : ℕ) (s : Station) → Able c j s → j < 16 → member < 16 → member ≢ j → Able c j (informed_to member s)
unfolding informed member_entered taken_over
able-informed_to c j member s a h m d =
    record {
      itself = a.itself;
      rules = (pool_info-keeps s.node _ Op.AddCreate member (can-inform c j member s a h m d)).rules;
      same = a.same;
      sound = and_both (sound-test s.node.chunks (zero_row member s.map) (sound-zero_row s.node.chunks member s.map (map-sound c j s a))) (staging-sound c j s a);
      serves = a.serves;
    }

pub able-informed : (c j member : ℕ) (s : Station) → Able c j s → j < 16 → member < 16 → member ≢ j → Able c j (does s (Event.pool_info Op.AddCreate member)).station
able-informed c j member s a h m d = rw (informs c j member s a h m d) (able-informed_to c j member s a h m d)

pub knows : (c j member : ℕ) (s : Station) → Able c j s → j < 16 → member < 16 → member ≢ j → has (does s (Event.pool_info Op.AddCreate member)).station.node.members member ≡ true
unfolding member_entered taken_over
knows c j member s a h m d = rw (informs c j member s a h m d) (has-with-same s.node.members member m)

-- ---- the fill

abbrev filled_to : ℕ → ℕ → Station → Station
filled_to member version s = record { node = filled s.node version; map = row_filled member s.node.chunks s.map; staging = s.staging }

can-fill : (c j member version : ℕ) (s : Station) → Able c j s → j < 16 → member < 16 → has s.node.members member ≡ true → version ≤ version_top → fill_refusal s.node (lent_to (face s) s.map s.staging) member version ≡ 0
unfolding fill_refusal
can-fill c j member version s a h m k v =
    rw (a.rules, a.sound, one-summary.agrees s.map, own-id c j s a h, le-ltb 15 member (omega (arith, m)), joined c j s a, k, le-ltb version_top version v)

fills : (c j member version : ℕ) (s : Station) → Able c j s → j < 16 → member < 16 → has s.node.members member ≡ true → version ≤ version_top → (does s (Event.fill member version)).station ≡ filled_to member version s
unfolding does map_by staging_by fill filled stored_version settled map_after staging_after
fills c j member version s a h m k v = rw (can-fill c j member version s a h m k v) refl

same-le : (n : ℕ) → n ≤ n
same-le n = omega arith

able-filled_to : (c j member version : ℕ) (s : Station) → Able c j s → j < 16 → member < 16 → has s.node.members member ≡ true → version ≤ version_top → Able c j (filled_to member version s)
unfolding filled stored_version
able-filled_to c j member version s a h m k v =
    record {
      itself = a.itself;
      rules = (fill-keeps s.node _ member version (can-fill c j member version s a h m k v)).rules;
      same = a.same;
      sound = and_both (sound-test s.node.chunks (row_filled member s.node.chunks s.map) (sound-filled s.node.chunks member s.node.chunks s.map (map-sound c j s a) (same-le s.node.chunks))) (staging-sound c j s a);
      serves = a.serves;
    }

pub able-filled : (c j member version : ℕ) (s : Station) → Able c j s → j < 16 → member < 16 → has s.node.members member ≡ true → version ≤ version_top → Able c j (does s (Event.fill member version)).station
able-filled c j member version s a h m k v = rw (fills c j member version s a h m k v) (able-filled_to c j member version s a h m k v)

pub full-filled : (c j member version : ℕ) (s : Station) → Able c j s → j < 16 → member < 16 → has s.node.members member ≡ true → version ≤ version_top → c ≤ 4096 → Full c member (does s (Event.fill member version)).station.map
full-filled c j member version s a h m k v few n l =
    ap (λ (t : Station). dirty t.map member n) (fills c j member version s a h m k v)
    ∙ filled-own s.map member s.node.chunks n (map-sound c j s a).len m (let e = a.same in omega (arith, e, l)) (omega (arith, l, few))
