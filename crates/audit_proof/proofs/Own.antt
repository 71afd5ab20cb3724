-- The log of any history of our own client is a good log: at each step the auditor's pool is the client's with 4,096 chunks.
use Rattle.std.specs.Prelude.{Option, Some, None}
use mathlib.Core.Path.{◌≡◌, refl, sym, ap, subst, ◌∙◌}
use mathlib.Core.Bool.{Bool, true, false, not}
use mathlib.Core.List.{List, [], ◌∷◌}
use Prim.Native.Nat.{ℕ, suc, ◌≤◌, ◌<◌}
use native.Mathlib.Omega.{arith}
use lib.Dec.{eqb, ltb}
use borrow.Author.Tests.{eqb-true, eq-eqb, ltb-true, lt-ltb}
use Rattle.laws_words.specs.Words.{pick}
use Rattle.laws_words.specs.Tests.{by_cases, clash, and_left}
use Rattle.rules_base.specs.Limits.{chunk_limit}
use Rattle.rules_pool.specs.declared.Mode.{Mode}
use Rattle.rules_pool.specs.declared.Reply.{Reply}
use Rattle.rules_pool.specs.declared.Pool.{Pool}
use Rattle.rules_pool.specs.declared.Sent.{Sent}
use Rattle.rules_pool.specs.declared.Answer.{Answer}
use Rattle.rules_pool.specs.declared.Turn.{Turn}
use Rattle.rules_pool.specs.StateRules.{valid_pool}
use Rattle.rules_pool.specs.Jobs.{is_idle}
use Rattle.rules_pool.specs.Exit.{refused}
use Rattle.rules_client.specs.Writes as Writes
use Rattle.laws_client.proofs.WritesKept.{synced-same}
use Rattle.rules_client.specs.Remove as Remove
use Rattle.rules_client.specs.Answers as Answers
use Rattle.rules_client.specs.Extend as Extending
use Rattle.rules_client.specs.Client.{Client, fresh, sound_for, clean_to, extend_turn, remove_turn, write_turn, answer_turn, synced_turn}
use Rattle.rules_client.specs.Events.{Event, turn_of, next}
use Rattle.rules_client.specs.ClientEvents as of
use Rattle.theorem_client.proofs.Reached.{pool-stays}
use Rattle.theorem_client.specs.Demand1.{Verdict}
use Rattle.theorem_client.proofs.Demand1.{demand-1}
use Rattle.theorem_client.proofs.Every.{event-same}
use Rattle.audit_record.specs.declared.records.Record.{Record}
use Rattle.audit_record.specs.Records.{record_of}
use Rattle.audit_record.specs.declared.records.Logged.{Logged}
use Rattle.audit_replay.specs.Replay.{taken}
use Rattle.audit_proof.specs.Logs.{Log}
use Rattle.audit_proof.proofs.Exact.{exact}
use Rattle.audit_proof.specs.Alike.{with_chunks}
use Rattle.audit_proof.specs.Own.{pool_note, entered, log_from, OwnLog, OwnAccepted}
use Rattle.audit_proof.proofs.Turns.{Same, remove-done, write-done, answered-same, extend-done}
use Rattle.audit_proof.proofs.Alike.{valid_same, by_number, create-alike, assemble-alike, enable-alike, maintenance-alike, down-alike, check-alike, rejoin-alike, try-alike}

-- the auditor's pool
abbrev wide : Pool → Pool
wide c = with_chunks chunk_limit c

-- ---- an accepted event is accepted there

accepted-zero : (why : ℕ) (p : Pool) (t : Turn) (s : Sent) → (pick (eqb why 0) t (refused p why)).answer ≡ Answer.Done s → why ≡ 0
accepted-zero why p t s h = by_cases (eqb why 0) (λ e. eqb-true why 0 e) (λ e. let z : Answer.Refused why ≡ Answer.Done s = rw e at h in cc z)

-- a chain of refusals that came to 0 comes to 0 where the map is sound
two-zero : (v s : Bool) (rest : ℕ) → pick v 1 (pick s 2 rest) ≡ 0 → (v ≡ false) × (rest ≡ 0)
two-zero true s rest h = absurd (omega (arith, h))
two-zero false true rest h = absurd (omega (arith, h))
two-zero false false rest h = (refl, h)

more-zero : (b : Bool) (k rest : ℕ) → pick b (suc k) rest ≡ 0 → (b ≡ false) × (rest ≡ 0)
more-zero true k rest h = absurd (omega (arith, h))
more-zero false k rest h = (refl, h)

not-false : (b : Bool) → not b ≡ false → b ≡ true
not-false true h = refl
not-false false h = clash refl h

module _ (c : Pool) (v : valid_pool (wide c) ≡ valid_pool c) where
  remove-carried : (s : Bool) (id : ℕ) (mode : Mode) (sent : Sent) → (Remove.remove c s id mode).answer ≡ Answer.Done sent → Same chunk_limit (Remove.remove c s id mode) (Remove.remove (wide c) true id mode)
  unfolding Remove.remove Remove.remove_refusal
  remove-carried s id mode sent h =
      let z : Remove.remove_refusal c s id mode ≡ 0 = accepted-zero (Remove.remove_refusal c s id mode) c (Remove.gone c (Remove.remove_begun c id mode)) sent h in
      let q = two-zero (not (valid_pool c)) (not s) _ z in
      let z' : Remove.remove_refusal (wide c) true id mode ≡ 0 = rw (v, q.0) q.1 in
      by_number chunk_limit (Remove.remove_refusal c s id mode) (Remove.remove_refusal (wide c) true id mode) c _ _ (z' ∙ sym z) (remove-done chunk_limit c id mode)

  extend-carried : (s : Bool) (sent : Sent) → (Extending.extend c s).answer ≡ Answer.Done sent → Same chunk_limit (Extending.extend c s) (Extending.extend (wide c) true)
  unfolding Extending.extend Extending.extend_refusal
  extend-carried s sent h =
      let z : Extending.extend_refusal c s ≡ 0 = accepted-zero (Extending.extend_refusal c s) c (Extending.extend_done c (Extending.picked c.roster)) sent h in
      let q = two-zero (not (valid_pool c)) (not s) _ z in
      let z' : Extending.extend_refusal (wide c) true ≡ 0 = rw (v, q.0) q.1 in
      by_number chunk_limit (Extending.extend_refusal c s) (Extending.extend_refusal (wide c) true) c _ _ (z' ∙ sym z) (extend-done chunk_limit c (Extending.picked c.roster))

  -- a chunk below the client's count is below 4,096
  write-carried : (s : Bool) (chunk reached : ℕ) (sent : Sent) → c.chunks ≤ chunk_limit → (Writes.write_ended c s chunk reached).answer ≡ Answer.Done sent
      → Same chunk_limit (Writes.write_ended c s chunk reached) (Writes.write_ended (wide c) true chunk reached)
  unfolding Writes.write_ended Writes.write_refusal
  write-carried s chunk reached sent top h =
      let z : Writes.write_refusal c s chunk reached ≡ 0 = accepted-zero (Writes.write_refusal c s chunk reached) c (Writes.write_done c chunk reached) sent h in
      let q = two-zero (not (valid_pool c)) (not s) _ z in
      let q' = more-zero (ltb 65535 reached) 2 _ q.1 in
      let q'' = more-zero (not (ltb chunk c.chunks)) 3 _ q'.1 in
      let below : chunk < c.chunks = ltb-true chunk c.chunks (not-false (ltb chunk c.chunks) q''.0) in
      let k : ltb chunk chunk_limit ≡ true = lt-ltb chunk chunk_limit (omega (arith, below, top)) in
      let z' : Writes.write_refusal (wide c) true chunk reached ≡ 0 = rw (v, q.0, q'.0, k) q''.1 in
      by_number chunk_limit (Writes.write_refusal c s chunk reached) (Writes.write_refusal (wide c) true chunk reached) c _ _ (z' ∙ sym z) (write-done chunk_limit c chunk reached)

  -- an answer that is taken is to the awaited message, so its number is the last one's
  answer-carried : (s : Bool) (number : ℕ) (a : Reply) (sent : Sent) → (Answers.answer c s number a).answer ≡ Answer.Done sent → Same chunk_limit (Answers.answer c s number a) (Answers.answer (wide c) true c.number a)
  unfolding Answers.answer Answers.answer_refusal
  answer-carried s number a sent h =
      let z : Answers.answer_refusal c s number ≡ 0 = accepted-zero (Answers.answer_refusal c s number) c (Answers.answered c.job c a) sent h in
      let q = two-zero (not (valid_pool c)) (not s) _ z in
      let q' = more-zero (not (Answers.awaits c number)) 12 0 q.1 in
      let some : not (is_idle c.job) ≡ true = and_left _ _ (not-false (Answers.awaits c number) q'.0) in
      let z' : Answers.answer_refusal (wide c) true c.number ≡ 0 = rw (v, q.0, some, eq-eqb c.number c.number refl) refl in
      by_number chunk_limit (Answers.answer_refusal c s number) (Answers.answer_refusal (wide c) true c.number) c _ _ (z' ∙ sym z) (answered-same chunk_limit c.job c a)

-- what an accepted event comes to: logged, the same at the auditor's pool; not logged, it leaves the pool alone
abbrev Carried : Option Logged → Turn → Pool → Type 0
Carried None t c = t.pool ≡ c
Carried (Some l) t c = Same chunk_limit t (taken l (wide c))

carried : (e : Event) (c : Pool) → 1 ≤ c.chunks → c.chunks ≤ chunk_limit → (s : Sent) → (turn_of e c).answer ≡ Answer.Done s → Carried (pool_note e) (turn_of e c) c
unfolding remove_turn write_turn synced_turn answer_turn extend_turn
carried e c low top s h = at e h
  where
    v : valid_pool (wide c) ≡ valid_pool c
    v = valid_same c chunk_limit low top (omega arith) (omega arith)

    at : (e : Event) → (turn_of e c).answer ≡ Answer.Done s → Carried (pool_note e) (turn_of e c) c
    at (Event.join_create id) h = create-alike chunk_limit c v id
    at (Event.join_assemble id set version) h = assemble-alike chunk_limit c v id set version
    at (Event.enable id) h = enable-alike chunk_limit c v id
    at (Event.maintenance id) h = maintenance-alike chunk_limit c v id
    at (Event.link_down id) h = down-alike chunk_limit c v id
    at (Event.store_check id) h = check-alike chunk_limit c v id
    at (Event.rejoin id) h = rejoin-alike chunk_limit c v id
    at Event.try_run h = try-alike chunk_limit c v
    at (Event.remove xs id mode) h = remove-carried c v (sound_for c xs) id mode s h
    at (Event.write xs chunk reached) h = write-carried c v (sound_for c xs) chunk reached s top h
    at (Event.synced xs member chunk) h = synced-same c (sound_for c xs) member chunk (clean_to xs chunk 16)
    at (Event.answer xs number a) h = answer-carried c v (sound_for c xs) number a s h
    at (Event.extend xs) h = extend-carried c v (sound_for c xs) s h

-- ---- the log

-- a refused event leaves the pool alone
refused-stays : (e : Event) (c : Pool) (k : ℕ) → (turn_of e c).answer ≡ Answer.Refused k → next e c ≡ c
refused-stays e c k h = at (demand-1 e c)
  where
    at : Verdict e c → next e c ≡ c
    at (Verdict.refused m p r) = r.pool
    at (Verdict.done s p r) = let z : Answer.Done s ≡ Answer.Refused k = sym p ∙ h in cc z

-- an event that leaves the pool alone
passed : (n : ℕ) (c c' : Client) (rs : List Record) → c'.pool ≡ c.pool → Log n (wide c'.pool) rs → Log n (wide c.pool) rs
passed n c c' rs q l = subst (λ (p : Pool). Log n (wide p) rs) q l

own : (n : ℕ) (c : Client) → 1 ≤ c.pool.chunks → c.pool.chunks ≤ chunk_limit → (es : List of.Event) → Log n (wide c.pool) (log_from n c es)
unfolding log_from
own n c low top [] = tt
own n c low top (of.Event.tick xs ∷ es) =
    let c' = of.next (of.Event.tick xs) c in
    let q : c'.pool ≡ c.pool = pool-stays.0 c xs in
    let same : c'.pool.chunks ≡ c.pool.chunks = ap (λ (p : Pool). p.chunks) q in
    passed n c c' (log_from n c' es) q (own n c' (omega (arith, low, same)) (omega (arith, top, same)) es)
own n c low top (of.Event.check_answer xs number m empty ∷ es) =
    let c' = of.next (of.Event.check_answer xs number m empty) c in
    let q : c'.pool ≡ c.pool = pool-stays.1 c xs number m empty in
    let same : c'.pool.chunks ≡ c.pool.chunks = ap (λ (p : Pool). p.chunks) q in
    passed n c c' (log_from n c' es) q (own n c' (omega (arith, low, same)) (omega (arith, top, same)) es)
own n c low top (of.Event.of_pool e ∷ es) =
    let same : c'.pool.chunks ≡ c.pool.chunks = event-same e c.pool in
    at (pool_note e) (turn_of e c.pool).answer refl (carried e c.pool low top) (λ m. own m c' (omega (arith, low, same)) (omega (arith, top, same)) es)
  where
    c' : Client
    c' = of.next (of.Event.of_pool e) c

    -- the rest of the log, from the next client on
    rest : ℕ → List Record
    rest m = log_from m c' es

    at : (note : Option Logged) (a : Answer) → (turn_of e c.pool).answer ≡ a → ((s : Sent) → (turn_of e c.pool).answer ≡ Answer.Done s → Carried note (turn_of e c.pool) c.pool) → ((m : ℕ) → Log m (wide c'.pool) (rest m))
        → Log n (wide c.pool) (entered note a c'.pool.roster n rest)
    at None (Answer.Refused k) h f l = passed n c c' (rest n) (refused-stays e c.pool k h) (l n)
    at None (Answer.Done s) h f l = passed n c c' (rest n) (f s h) (l n)
    at (Some x) (Answer.Refused k) h f l = passed n c c' (rest n) (refused-stays e c.pool k h) (l n)
    at (Some x) (Answer.Done s) h f l =
        let t : Same chunk_limit (turn_of e c.pool) (taken x (wide c.pool)) = f s h in (
          record { event = x; sent = s; accepted = t.answer ∙ h; written = ap (λ (p : Pool). record_of (suc n) x s.outcome p.roster) (sym t.pool) },
          subst (λ (p : Pool). Log (suc n) p (rest (suc n))) (sym t.pool) (l (suc n)),
        )

pub own-log : OwnLog
own-log chunks low top es = own 0 (fresh false chunks) low top es

pub own-accepted : OwnAccepted
own-accepted chunks low top es h = (exact (log_from 0 (fresh false chunks) es) h).accepted (own-log chunks low top es)
