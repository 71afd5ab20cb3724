-- What one event does to what the client remembers of the check, to its sessions and to its job.
use mathlib.Core.Path.{◌≡◌, refl, ap, sym, ◌∙◌}
use mathlib.Core.Bool.{Bool, true, false, not, ◌&&◌, ◌||◌}
use mathlib.Core.List.{List}
use mathlib.Core.Logic.{◌≢◌}
use Prim.Native.Nat.{ℕ, ◌<◌}
use native.Mathlib.Decide.{dec_lt}
use native.Mathlib.Omega.{arith}
use lib.Dec.{eqb}
use lib.ListN.{get_or-eq_default}
use Rattle.laws_words.specs.Tests.{clash, by_cases, either}
use Rattle.laws_words.specs.Words.{pick}
use Rattle.rules_base.specs.Sets.{has, with, without}
use Rattle.rules_base.proofs.Sets.{has-with-other, has-without-other}
use Rattle.rules_pool.specs.declared.Answer.{Answer}
use Rattle.rules_pool.specs.declared.Job.{Job}
use Rattle.rules_pool.specs.declared.Pool.{Pool}
use Rattle.rules_pool.specs.declared.Sent.{Sent}
use Rattle.rules_pool.specs.declared.Turn.{Turn}
use Rattle.rules_pool.specs.Session.{free}
use Rattle.rules_pool.specs.Jobs.{is_idle, is_running}
use Rattle.laws_client.proofs.Pools.{Valid}
use Rattle.rules_pool.specs.Breaking.{is_accepted, acknowledges, changed_to, has_run, breaks}
use Rattle.laws_client.proofs.BreakingRecords.{neither, unchanged, no_change}
use Rattle.rules_client.specs.declared.Check.{Check}
use Rattle.rules_client.specs.declared.Checked.{Checked}
use Rattle.rules_client.specs.MapCheck.{answered, after}
use Rattle.rules_client.specs.Client.{Client}
use Rattle.rules_client.specs.Events as pool
use Rattle.theorem_client.specs.Demand1.{Verdict}
use Rattle.theorem_client.proofs.Demand1.{demand-1}
use Rattle.theorem_client.proofs.Demand2.{reached-valid}
use Rattle.rules_client.specs.ClientEvents.{Event, out_of, next}
use Rattle.theorem_client.specs.Reached.{Reached}
use Rattle.theorem_client.proofs.ClientDemand1.{refused-breaks}
use Rattle.theorem_client.proofs.Reached.{pool-reached}
use Rattle.theorem_map_check.specs.Checks.{session_of, Quiet}

-- the turn of an event of the pool
abbrev pub turn : pool.Event → Client → Turn
turn e c = pool.turn_of e c.pool

pub valid : (c : Client) → Reached c → Valid c.pool
valid c h = reached-valid c.pool (pool-reached c h)

-- ---- an event of the pool: it breaks the row, or leaves the check

pub broken : (e : pool.Event) (c : Client) → breaks c.pool (turn e c) ≡ true → (next (Event.of_pool e) c).check.once ≡ 0
broken e c b = ap (λ (x : Bool). (pick x (record { tick = c.check.tick; due = c.check.due; once = 0 }) c.check).once) b

pub stands : (e : pool.Event) (c : Client) → breaks c.pool (turn e c) ≡ false → (next (Event.of_pool e) c).check ≡ c.check
stands e c b = ap (λ (x : Bool). pick x (record { tick = c.check.tick; due = c.check.due; once = 0 }) c.check) b

pub due-stays : (e : pool.Event) (c : Client) → (next (Event.of_pool e) c).check.due ≡ c.check.due
due-stays e c = either (λ (k : Check). k.due ≡ c.check.due) (breaks c.pool (turn e c)) _ _ refl refl

pub tick-stays : (e : pool.Event) (c : Client) → (next (Event.of_pool e) c).check.tick ≡ c.check.tick
tick-stays e c = either (λ (k : Check). k.tick ≡ c.check.tick) (breaks c.pool (turn e c)) _ _ refl refl

-- one that is accepted and does not break the row
record Calm (p : Pool) (t : Turn) : Type 0 where
  unwritten : acknowledges t.answer ≡ false
  same : changed_to p.roster t.pool.roster 16 ≡ false
  before : is_running p.job ≡ false
  after : is_running t.pool.job ≡ false

calm : (p : Pool) (t : Turn) → is_accepted t.answer ≡ true → breaks p t ≡ false → Calm p t
unfolding breaks
calm p t a b =
    let u : (acknowledges t.answer || (changed_to p.roster t.pool.roster 16 || has_run p t.pool)) ≡ false = rw a at b in
    let v = neither (acknowledges t.answer) (changed_to p.roster t.pool.roster 16 || has_run p t.pool) u in
    let w = neither (changed_to p.roster t.pool.roster 16) (has_run p t.pool) v.1 in
    let z = neither (is_running p.job) (is_running t.pool.job) w.1 in
    record { unwritten = v.0; same = w.0; before = z.0; after = z.1 }

calm-stands : (p : Pool) (t : Turn) → acknowledges t.answer ≡ false → changed_to p.roster t.pool.roster 16 ≡ false → is_running p.job ≡ false → is_running t.pool.job ≡ false → breaks p t ≡ false
unfolding breaks
calm-stands p t u s b a = rw (u, s, b, a) (at (is_accepted t.answer))
  where
    at : (x : Bool) → (x && false) ≡ false
    at true = refl
    at false = refl

-- past the end there is no session
past : (p : Pool) (j : ℕ) → Valid p → (j < 16 → ⊥) → pool.record_of p j ≡ free
past p j v n = get_or-eq_default p.roster.sessions free (let l = v.ok.long in omega (arith, n))

below-16 : (j : ℕ) → Dec (j < 16)
below-16 j = dec_lt j 16

-- An event of the pool that does not break the row is quiet, where no run is in hand.
pub pool-quiet : (m : ℕ) (e : pool.Event) (c : Client) → Reached c → breaks c.pool (turn e c) ≡ false → is_running c.pool.job ≡ false → Quiet m (Event.of_pool e) c
pool-quiet m e c h b r = at (demand-1 e c.pool)
  where
    at : Verdict e c.pool → Quiet m (Event.of_pool e) c
    at (Verdict.refused n a f) =
        record {
          unwritten = ap acknowledges a;
          sessions = λ j. ap (λ (p : Pool). pool.record_of p j) f.pool;
          before = r;
          after = ap (λ (p : Pool). is_running p.job) f.pool ∙ r;
          other = refl;
        }
    at (Verdict.done s a f) =
        let k = calm c.pool (turn e c) (ap is_accepted a) b in
        record {
          unwritten = k.unwritten;
          sessions = λ j. elim (below-16 j) [
            | yes l ↦ sym (unchanged c.pool.roster (turn e c).pool.roster 16 k.same j l)
            | no l ↦ past (turn e c).pool j (valid (next (Event.of_pool e) c) (Reached.then c (Event.of_pool e) h)) l ∙ sym (past c.pool j (valid c h) l)
          ];
          before = k.before;
          after = k.after;
          other = refl;
        }

-- And one that is quiet does not break it.
pub quiet-stands : (m : ℕ) (e : pool.Event) (c : Client) → Quiet m (Event.of_pool e) c → breaks c.pool (turn e c) ≡ false
quiet-stands m e c q =
    calm-stands c.pool (turn e c) q.unwritten (no_change c.pool.roster (turn e c).pool.roster 16 (λ j l. sym (q.sessions j))) q.before q.after

-- ---- an answer: what stands of another member stays

pub once-other : (k : Check) (j m : ℕ) (empty : Bool) → m ≢ j → has (answered k j empty).once m ≡ has k.once m
once-other k j m empty d =
    either (λ (s : ℕ). has s m ≡ has k.once m) (empty && not (has k.once j)) _ _ (has-with-other k.once j m d) (has-without-other k.once j m d)
