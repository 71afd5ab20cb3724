-- What holds of every event, drawn from its law.
use mathlib.Core.Path.{◌≡◌, refl, ap, ◌∙◌, sym, subst}
use mathlib.Core.Logic.{◌≢◌}
use mathlib.Core.Bool.{true, false, not}
use Prim.Native.Nat.{ℕ, ◌≤◌}
use native.Mathlib.Omega.{arith}
use lib.Dec.{eqb}
use borrow.Author.Tests.{eqb-true}
use Rattle.laws_words.specs.Tests.{clash, by_cases, and-false}
use Rattle.rules_base.proofs.Order.{none-applies}
use Rattle.rules_base.specs.Sets.{has}
use Rattle.rules_pool.specs.Session.{is_free}
use Rattle.rules_pool.specs.declared.Job.{Job}
use Rattle.rules_pool.specs.declared.Turn.{Turn}
use Rattle.rules_pool.specs.Jobs.{is_running}
use Rattle.laws_client.proofs.Pools.{Valid}
use Rattle.rules_pool.specs.declared.Pool.{Pool}
use Rattle.rules_pool.specs.Breaking.{is_accepted}
use Rattle.theorem_client.specs.Demand2.{Kept, sound_lent}
use Rattle.rules_client.specs.Events.{Event, turn_of, lent_to, map_left, next, state_of, is_sync, job_of, tests_of}
use Rattle.theorem_client.specs.Reading.{concerns, part_of, touches, raises, is_answer, is_down}
use Rattle.theorem_client.specs.Said.{members_of, version_of, ends_run, frees, takes_out}
use Rattle.theorem_client.proofs.Fates.{is_part, Fate}
use Rattle.theorem_client.proofs.Law.{law}
use Rattle.theorem_client.proofs.Shape.{why_not}
use Rattle.theorem_client.proofs.Removals.{part_none, unfreed}
use Rattle.theorem_client.proofs.Versions.{unleft, RisenBy, none-risen}

pub event-keeps : (e : Event) (c : Pool) → Valid c → Valid (next e c)
event-keeps e c = (law e c).rules

pub event-touches : (e : Event) (c : Pool) → Valid c → touches e c (next e c).roster (turn_of e c).effect ≡ true
event-touches e c = (law e c).touch

pub event-same : (e : Event) (c : Pool) → (next e c).chunks ≡ c.chunks
event-same e c = (law e c).count

pub event-sound : (e : Event) (c : Pool) → Valid c → sound_lent c.chunks (lent_to e) ≡ true → sound_lent (next e c).chunks (map_left e c) ≡ true
event-sound e c v s = subst (λ (n : ℕ). sound_lent n (map_left e c) ≡ true) (sym (law e c).count) ((law e c).left v s)

pub event-others : (e : Event) (c : Pool) (j : ℕ) → Valid c → concerns e c j ≡ false → Kept c (next e c) j
event-others e c = (law e c).others

pub event-fate : (e : Event) (c : Pool) (j : ℕ) → Valid c → Fate c e (next e c) j
event-fate e c j v = by_cases (concerns e c j) ((law e c).fate j v) (λ n. Fate.kept ((law e c).others j v n))

pub event-kind : (e : Event) (c : Pool) → Valid c → is_sync (next e c) ≡ is_sync c
event-kind e c v = by_cases (raises e) (λ f. ((law e c).loud v f).0) (λ f. ((law e c).level v f).kind)

-- an event that may not raise the version is barred in a run
quiet-barred : (e : Event) → raises e ≡ false → (is_answer e ≡ false) × (is_down e ≡ false)
quiet-barred (Event.join_create id) f = (refl, refl)
quiet-barred (Event.join_assemble id set version) f = (refl, refl)
quiet-barred (Event.enable id) f = (refl, refl)
quiet-barred (Event.maintenance id) f = (refl, refl)
quiet-barred (Event.link_down id) f = clash refl f
quiet-barred (Event.store_check id) f = (refl, refl)
quiet-barred (Event.rejoin id) f = (refl, refl)
quiet-barred Event.try_run f = (refl, refl)
quiet-barred (Event.remove xs id mode) f = (refl, refl)
quiet-barred (Event.write xs chunk reached) f = (refl, refl)
quiet-barred (Event.synced xs member chunk) f = (refl, refl)
quiet-barred (Event.answer xs number a) f = clash refl f
quiet-barred (Event.extend xs) f = (refl, refl)

-- only an answer and a link down end a run: it bars all other events
barred-lasts : (e : Event) (c : Pool) → is_answer e ≡ false → is_down e ≡ false → ends_run e c ≡ false
barred-lasts e c a d = at (job_of c) refl
  where
    at : (j : Job) → job_of c ≡ j → ends_run e c ≡ false
    at Job.Idle q = rw q refl
    at (Job.Removing m) q = rw q refl
    at (Job.Running r) q =
        let w : eqb (why_not e c) 0 ≡ false = by_cases (eqb (why_not e c) 0)
        (λ z. clash ((law e c).six r q a d) (none-applies (tests_of e c) (eqb-true (why_not e c) 0 z) 6 refl))
        (λ z. z) in
        let t : (next e c).job ≡ Job.Running r = ap (λ (u : Turn). u.pool.job) (law e c).same ∙ rw w q in
        rw (d, t) (and-false (is_running (job_of c)))

pub event-rises : (e : Event) (c : Pool) → Valid c → ((id set version : ℕ) → e ≢ Event.join_assemble id set version) → RisenBy c (next e c) (ends_run e c)
event-rises e c v n =
    by_cases (raises e)
    (λ f. ((law e c).loud v f).2 n)
    (λ f. let q = quiet-barred e f in
    rw (barred-lasts e c q.0 q.1) (none-risen c (next e c) ((law e c).level v f).version (λ j. unleft c e (next e c) j f (event-fate e c j v))))

pub event-never-falls : (e : Event) (c : Pool) → Valid c → version_of c ≤ version_of (next e c)
event-never-falls e c v = by_cases (raises e) (λ f. ((law e c).loud v f).1) (λ f. omega (arith, ((law e c).level v f).version))

pub freed-said : (e : Event) (c : Pool) → Valid c → is_accepted (turn_of e c).answer ≡ true → (id : ℕ) → is_free (state_of c id) ≡ false → is_free (state_of (next e c) id) ≡ frees (part_of e c) c id
freed-said e c v d id was =
    by_cases (is_part (part_of e c))
    (λ p. (law e c).freeing v d p id was)
    (λ p. unfreed c e (next e c) id p was (event-fate e c id v) ∙ sym (part_none (part_of e c) c id p).0)

pub members-said : (e : Event) (c : Pool) → Valid c → is_accepted (turn_of e c).answer ≡ true → (id : ℕ) → has (members_of c) id ≡ true → has (members_of (next e c)) id ≡ not (takes_out (part_of e c) c id)
members-said e c v d id was =
    by_cases (is_part (part_of e c))
    (λ p. (law e c).taking v d p id was)
    (λ p. (law e c).stays v p id was ∙ sym (ap not (part_none (part_of e c) c id p).1))
