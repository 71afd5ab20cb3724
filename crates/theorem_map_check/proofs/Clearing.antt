-- What clears a bit of the client map.
use mathlib.Core.Path.{◌≡◌, refl, ap, sym, ◌∙◌, subst}
use mathlib.Core.Bool.{Bool, true, false, ◌&&◌}
use mathlib.Core.List.{List, []}
use Prim.Native.Nat.{ℕ, zero, suc, ◌<◌, ◌≤◌}
use native.Mathlib.Decide.{ℕ_discrete, dec_lt}
use native.Mathlib.Omega.{arith}
use lib.Dec.{eqb, ltb}
use lib.ListN.{length}
use borrow.Author.Tests.{ltb-true, ltb-false, le-ltb}
use Rattle.laws_words.specs.Tests.{clash, by_cases}
use Rattle.laws_words.specs.Words.{pick}
use Rattle.rules_base.specs.Sets.{has}
use Rattle.rules_base.specs.Chunk.{dirty, chunk_marked}
use Rattle.rules_base.proofs.Chunk.{dirty-lt}
use Rattle.rules_base.specs.Map.{zero_row}
use Rattle.rules_base.proofs.Chunks.{same, same-no, dirty-zero_row, dirty-marked_for}
use Rattle.rules_base.specs.Fill.{row_filled}
use Rattle.rules_base.proofs.Fills.{dirty-filled}
use Rattle.rules_pool.specs.declared.Effect.{Effect}
use Rattle.rules_pool.specs.declared.Job.{Job}
use Rattle.rules_pool.specs.declared.Pool.{Pool}
use Rattle.rules_pool.specs.declared.Reply.{Reply}
use Rattle.rules_pool.specs.declared.Roster.{Roster}
use Rattle.laws_client.proofs.Pools.{Valid}
use Rattle.rules_client.specs.declared.Checked.{Checked}
use Rattle.rules_client.specs.Client.{Client}
use Rattle.rules_client.specs.Client.{carried, check_turn, extend_turn, write_turn, answer_turn}
use Rattle.rules_client.specs.Events as pool
use Rattle.theorem_client.specs.Reading as pool_read
use Rattle.theorem_client.proofs.Sound.{inside, write-inside, answer-inside}
use Rattle.theorem_client.proofs.Extends.{extend-inside, extend-touches}
use Rattle.theorem_client.proofs.Touches.{write-touches, answer-touches}
use Rattle.rules_client.specs.ClientEvents.{Event, tests_of, lent_to, map_left}
use Rattle.theorem_client.specs.Reached.{Reached}
use Rattle.theorem_client.proofs.ClientShape.{Judged, answer-judged, answer_done}
use Rattle.theorem_map_check.specs.Checks.{in_removal, Zeroes, Clears, NothingElse}
use Rattle.theorem_map_check.proofs.Steps.{valid}

-- ---- what only sets bits

abbrev grows : Effect → Bool
grows Effect.Keep = true
grows (Effect.Mark s k) = true
grows (Effect.ZeroRow m) = false
grows Effect.ZeroAll = false
grows (Effect.FillRow m n) = true

-- a row past the table is not there
filled-out : (j n : ℕ) (xs : List ℕ) → 16 ≤ j → row_filled j n xs ≡ xs
unfolding row_filled chunk_marked
filled-out j zero xs h = refl
filled-out j (suc n) xs h = rw (le-ltb j 16 h, filled-out j n xs h) refl

row_out : (j : ℕ) (xs : List ℕ) → 16 ≤ j → zero_row j xs ≡ xs
unfolding zero_row
row_out j xs h = rw (le-ltb j 16 h) refl

-- a bit that is set stays set
grown : (n : ℕ) (ef : Effect) (xs : List ℕ) (m k : ℕ) → length xs ≡ 8192 → n ≤ 4096 → m < 16 → k < 4096 → inside n ef ≡ true → grows ef ≡ true → dirty xs m k ≡ 1 → dirty (carried ef xs) m k ≡ 1
grown n Effect.Keep xs m k len most lm lk i g d = d
grown n (Effect.Mark s c) xs m k len most lm lk i g d =
    omega (arith, dirty-marked_for xs s c m k len lm (let b = ltb-true c n i in omega (arith, b)) lk, d, dirty-lt (carried (Effect.Mark s c) xs) m k)
grown n (Effect.ZeroRow j) xs m k len most lm lk i g d = clash g refl
grown n Effect.ZeroAll xs m k len most lm lk i g d = clash g refl
grown n (Effect.FillRow j l) xs m k len most lm lk i g d = elim (dec_lt j 16) [
  | yes b ↦ omega (arith, dirty-filled xs j l m k len b lm lk, d, dirty-lt (row_filled j l xs) m k)
  | no b ↦ rw (filled-out j l xs (omega (arith, b))) d
]

write-grows : (chunk : ℕ) (ro : Roster) (ef : Effect) → pool_read.write_touches chunk ro ef ≡ true → grows ef ≡ true
write-grows chunk ro Effect.Keep t = refl
write-grows chunk ro (Effect.Mark s k) t = refl
write-grows chunk ro (Effect.ZeroRow m) t = t
write-grows chunk ro Effect.ZeroAll t = t
write-grows chunk ro (Effect.FillRow m n) t = refl

extend-grows : (c : Pool) (ef : Effect) → pool_read.extend_touches c ef ≡ true → grows ef ≡ true
extend-grows c Effect.Keep t = refl
extend-grows c (Effect.Mark s k) t = refl
extend-grows c (Effect.ZeroRow m) t = t
extend-grows c Effect.ZeroAll t = t
extend-grows c (Effect.FillRow m n) t = refl

keep-grows : (ef : Effect) → pool_read.keeps ef ≡ true → grows ef ≡ true
keep-grows Effect.Keep t = refl
keep-grows (Effect.Mark s k) t = refl
keep-grows (Effect.ZeroRow m) t = t
keep-grows Effect.ZeroAll t = t
keep-grows (Effect.FillRow m n) t = refl

-- an answer that has no part in a removal
answer-grows : (j : Job) (c : Pool) (a : Reply) (ro : Roster) (ef : Effect) → in_removal (pool_read.answer_part j a) ≡ false → pool_read.answer_touches j c ro ef ≡ true → grows ef ≡ true
answer-grows Job.Idle c a ro ef n t = keep-grows ef t
answer-grows (Job.Running r) c a ro ef n t = keep-grows ef t
answer-grows (Job.Removing d) c a ro ef n t = clash refl n

-- ---- any event

abbrev bytes_of : pool.Lent → List ℕ
bytes_of pool.Lent.none = []
bytes_of (pool.Lent.some xs) = xs

abbrev is_lent : pool.Lent → Bool
is_lent pool.Lent.none = false
is_lent (pool.Lent.some xs) = true

-- a set bit that is clear in the same bytes
stays : {A : Type 0} (xs ys : List ℕ) (m k : ℕ) → ys ≡ xs → dirty xs m k ≡ 1 → dirty ys m k ≡ 0 → A
stays xs ys m k e d z = absurd (let q : dirty ys m k ≡ 1 = ap (λ (l : List ℕ). dirty l m k) e ∙ d in let w : ⊥ = omega (arith, q, z) in w)

module _ (c : Client) (v : Valid c.pool) (xs ys : List ℕ) (len : length xs ≡ 8192) (m k : ℕ) (lm : m < 16) (lk : k < 4096) (d : dirty xs m k ≡ 1) (z : dirty ys m k ≡ 0) where
  -- an event that only sets bits clears none
  never : {A : Type 0} (ef : Effect) → inside c.pool.chunks ef ≡ true → grows ef ≡ true → carried ef xs ≡ ys → A
  never ef i g e = absurd (let q = grown c.pool.chunks ef xs m k len v.most lm lk i g d in let w : ⊥ = omega (arith, ap (λ (l : List ℕ). dirty l m k) e, q, z) in w)

  unlent : {A : Type 0} → pool.Lent.none ≡ pool.Lent.some xs → A
  unlent l = clash (ap is_lent l) refl

  pool-clears : (e : pool.Event) → pool.lent_to e ≡ pool.Lent.some xs → pool.map_left e c.pool ≡ pool.Lent.some ys → Clears m c (Event.of_pool e)
  pool-clears (pool.Event.join_create id) l r = unlent l
  pool-clears (pool.Event.join_assemble id set version) l r = unlent l
  pool-clears (pool.Event.enable id) l r = unlent l
  pool-clears (pool.Event.maintenance id) l r = unlent l
  pool-clears (pool.Event.link_down id) l r = unlent l
  pool-clears (pool.Event.store_check id) l r = unlent l
  pool-clears (pool.Event.rejoin id) l r = unlent l
  pool-clears pool.Event.try_run l r = unlent l
  pool-clears (pool.Event.remove zs id mode) l r = Clears.removal (pool.Event.remove zs id mode) refl
  pool-clears (pool.Event.write zs chunk reached) l r =
      let ef = (write_turn c.pool zs chunk reached).effect in
      never ef (write-inside c.pool zs chunk reached) (write-grows chunk _ ef (write-touches zs chunk reached c.pool v)) (ap (λ (q : List ℕ). carried ef q) (sym (ap bytes_of l)) ∙ ap bytes_of r)
  pool-clears (pool.Event.synced zs member chunk) l r = stays xs ys m k (sym (ap bytes_of r) ∙ ap bytes_of l) d z
  pool-clears (pool.Event.answer zs number a) l r =
      let ef = (answer_turn c.pool zs number a).effect in
      let t = answer-touches zs number a c.pool v in
      by_cases (in_removal (pool_read.answer_part c.pool.job a))
      (λ y. Clears.removal (pool.Event.answer zs number a) y)
      (λ n. never ef (answer-inside c.pool.job c.pool.chunks c.pool _ ef t) (answer-grows c.pool.job c.pool a _ ef n t) (ap (λ (q : List ℕ). carried ef q) (sym (ap bytes_of l)) ∙ ap bytes_of r))
  pool-clears (pool.Event.extend zs) l r =
      let ef = (extend_turn c.pool zs).effect in
      never ef (extend-inside zs c.pool) (extend-grows c.pool ef (extend-touches zs c.pool v)) (ap (λ (q : List ℕ). carried ef q) (sym (ap bytes_of l)) ∙ ap bytes_of r)

  -- an answer zeroes its member's row, or nothing
  zeroed-own : (zs : List ℕ) (number j : ℕ) (empty once : Bool) → has c.check.once j ≡ once → check_turn c zs number j empty ≡ answer_done c j empty → carried (pick (empty && once) (Effect.ZeroRow j) Effect.Keep) xs ≡ ys
      → Clears m c (Event.check_answer zs number j empty)
  zeroed-own zs number j false once s q e = stays xs ys m k (sym e) d z
  zeroed-own zs number j true false s q e = stays xs ys m k (sym e) d z
  zeroed-own zs number j true true s q e = elim (ℕ_discrete m j) [
    | yes p ↦ subst (λ (x : ℕ). has c.check.once x ≡ true → check_turn c zs number x true ≡ answer_done c x true → Clears m c (Event.check_answer zs number x true)) p
        (λ s' q'. Clears.check zs number (ap (λ (w : Checked). w.effect) q' ∙ ap (λ (b : Bool). pick b (Effect.ZeroRow m) Effect.Keep) s')) s q
    | no n ↦ absurd (other n (dec_lt j 16))
  ]
    where
      other : (m ≡ j → ⊥) → Dec (j < 16) → ⊥
      other n (yes b) = let q = dirty-zero_row xs j m k len b lm lk in omega (arith, q, same-no j m (λ w. n (sym w)), ap (λ (l : List ℕ). dirty l m k) e, d, z)
      other n (no b) = omega (arith, ap (λ (l : List ℕ). dirty l m k) (row_out j xs (omega (arith, b))), ap (λ (l : List ℕ). dirty l m k) e, d, z)

pub nothing-else : NothingElse
nothing-else c h (Event.of_pool e) xs ys l r len m k lm lk d z = pool-clears c (valid c h) xs ys len m k lm lk d z e l r
nothing-else c h (Event.tick zs) xs ys l r len m k lm lk d z = stays xs ys m k (sym (ap bytes_of r) ∙ ap bytes_of l) d z
nothing-else c h (Event.check_answer zs number j empty) xs ys l r len m k lm lk d z = at (answer-judged c zs number j empty)
  where
    left : carried (check_turn c zs number j empty).effect xs ≡ ys
    left = ap (λ (q : List ℕ). carried (check_turn c zs number j empty).effect q) (sym (ap bytes_of l)) ∙ ap bytes_of r

    at : Judged (tests_of (Event.check_answer zs number j empty) c) c.check (answer_done c j empty) (check_turn c zs number j empty) → Clears m c (Event.check_answer zs number j empty)
    at (Judged.declines n f q) = stays xs ys m k (sym (ap (λ (w : Checked). carried w.effect xs) (sym q) ∙ left)) d z
    at (Judged.does f q) = zeroed-own c (valid c h) xs ys len m k lm lk d z zs number j empty (has c.check.once j) refl q (ap (λ (w : Checked). carried w.effect xs) (sym q) ∙ left)
