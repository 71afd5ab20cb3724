-- The course of a run through events, whatever they are: every awaited answer lowers what is still possible and raises the count by one, and all else but a link down
-- passes it by.
use Rattle.std.specs.Prelude.{Option, Some, None}
use mathlib.Core.Path.{◌≡◌, refl, sym, ap, ◌∙◌, subst}
use mathlib.Core.Bool.{Bool, true, false, not, ◌&&◌, ◌||◌, and-true}
use mathlib.Core.List.{List, [], ◌∷◌}
use Prim.Native.Nat.{ℕ, ◌+◌, ◌-◌, ◌≤◌, ◌<◌}
use native.Mathlib.Omega.{arith}
use lib.Dec.{eqb}
use lib.ListN.{length}
use borrow.Author.Tests.{eqb-true, eq-eqb}
use Rattle.laws_words.specs.Words.{pick, one}
use Rattle.laws_words.specs.Tests.{clash, and-false}
use Rattle.rules_base.specs.Map.{sound}
use Rattle.rules_pool.specs.declared.Roster.{Roster}
use Rattle.rules_pool.specs.declared.Run.{Run}
use Rattle.rules_pool.specs.declared.Job.{Job}
use Rattle.rules_pool.specs.declared.Pool.{Pool}
use Rattle.rules_pool.specs.declared.Reply.{Reply}
use Rattle.rules_pool.specs.declared.Turn.{Turn}
use Rattle.rules_pool.specs.StateRules.{job_ok}
use Rattle.rules_pool.specs.Jobs.{is_idle, is_running}
use Rattle.rules_pool.specs.declared.Move.{Move}
use Rattle.rules_pool.specs.Run as run
use Rattle.rules_pool.specs.Still.{possible}
use Rattle.laws_client.proofs.RunBound.{counted-one, still_in, Carries, Lowers, taken-well, lowers}
use Rattle.rules_pool.specs.Recovery.{with_roster, run_ended, posted, gone_on}
use Rattle.rules_pool.specs.Exit.{refused}
use Rattle.laws_client.proofs.Pools.{Valid, valid-of}
use Rattle.laws_client.proofs.Runs.{RunOk, run-facts, entered-members}
use Rattle.rules_client.specs.Links.{down_refusal, down_at, down_done, link_down}
use Rattle.rules_client.specs.Answers as answers
use Rattle.laws_client.proofs.AnswersKept.{fit_of}
use Rattle.rules_pool.specs.Breaking.{is_accepted}
use Rattle.rules_client.specs.Client.{sound_for, answer_turn}
use Rattle.rules_client.specs.Events.{Event, turn_of, next, tests_of}
use Rattle.theorem_client.specs.Reading.{is_answer, is_down}
use Rattle.rules_base.proofs.Order.{none-applies}
use Rattle.theorem_client.proofs.Shape.{why_not}
use Rattle.theorem_client.proofs.Law.{law}
use Rattle.theorem_client.proofs.Demand1.{refused-turn}
use Rattle.theorem_client.proofs.Every.{event-keeps}
use Rattle.theorem_bounds.specs.Demand3.{through, awaited_answers, count_of, last_count, any_cut, lasts_past, during, Stands, replied}

-- ---- the course

-- What becomes of a client in whose run t answers were taken and `left` are still possible.
pub record Course (es : List Event) (c : Pool) (t left : ℕ) : Type 0 where
  pub few : awaited_answers es c ≤ left
  pub count : last_count es c t ≡ t + awaited_answers es c
  pub stands : any_cut es c ≡ false → Stands (through es c).job (t + awaited_answers es c) (t + left)

pub stands_on : (j : Job) (t t' m m' : ℕ) → t ≡ t' → m ≤ m' → Stands j t m → Stands j t' m'
stands_on Job.Idle t t' m m' e l s = tt
stands_on (Job.Running r) t t' m m' e l s = (s.0 ∙ e, omega (arith, s.1))
stands_on (Job.Removing d) t t' m m' e l s = s

-- The course after the turn of an event: `answer` and `down` say what it is, es is what follows.
record CourseBy (answer down : Bool) (es : List Event) (u : Turn) (t left : ℕ) : Type 0 where
  few : one (is_accepted u.answer && answer) + awaited_answers es u.pool ≤ left
  count : last_count es u.pool (count_of u.answer t) ≡ t + (one (is_accepted u.answer && answer) + awaited_answers es u.pool)
  stands : ((is_accepted u.answer && down) || any_cut es u.pool) ≡ false
      → Stands (through es u.pool).job (t + (one (is_accepted u.answer && answer) + awaited_answers es u.pool)) (t + left)

-- what follows it, where the run lasts or not
abbrev following : List Event → Bool → Pool → List Event
following es lasts p = pick lasts (during es p) []

-- the run in hand lasts past the turn of an event, a link down or not
abbrev lasting : Bool → Turn → Bool
lasting down t = is_running t.pool.job && not (is_accepted t.answer && down)

whole : (e : Event) (es : List Event) (c : Pool) (u : Turn) (lasts : Bool) (t left : ℕ) → turn_of e c ≡ u → lasts_past e c ≡ lasts → CourseBy (is_answer e) (is_down e) (following es lasts u.pool) u t left → Course (during (e ∷ es) c) c t left
whole e es c u lasts t left q l h =
    let k : CourseBy (is_answer e) (is_down e) (following es (lasts_past e c) (next e c)) (turn_of e c) t left =
    subst (λ (x : Turn). CourseBy (is_answer e) (is_down e) (following es (lasts_past e c) x.pool) x t left) (sym q)
    (subst (λ (b : Bool). CourseBy (is_answer e) (is_down e) (following es b u.pool) u t left) (sym l) h) in
    record { few = k.few; count = k.count; stands = k.stands }

-- a refused event changes nothing
passes : (answer down : Bool) (es : List Event) (c : Pool) (n t left : ℕ) → Course (during es c) c t left → CourseBy answer down (during es c) (refused c n) t left
passes answer down es c n t left h =
    let z : t + awaited_answers (during es c) c ≡ t + (0 + awaited_answers (during es c) c) = omega arith in
    record {
      few = omega (arith, h.few);
      count = h.count ∙ z;
      stands = λ u. stands_on (through (during es c) c).job _ _ (t + left) (t + left) z (omega arith) (h.stands u);
    }

-- ---- a run is in hand

-- what is known of it
pub record InHand (c : Pool) (r : Run) : Type 0 where
  pub valid : Valid c
  pub job : c.job ≡ Job.Running r

pub facts : (c : Pool) (r : Run) → InHand c r → RunOk c.roster r
facts c r h = run-facts c.roster r h.valid.ok.long (subst (λ (j : Job). job_ok j c.roster ≡ true) h.job h.valid.job)

abbrev pub takes_in : Pool → Run → Reply → Move
takes_in c r a = run.takes c.roster.members c.roster.version r a

fewer : (c : Pool) (r : Run) (a : Reply) → InHand c r → Lowers (taken-well c.roster.version r a) (possible c.roster.members r) c.roster.members r (takes_in c r a)
fewer c r a h =
    let q = facts c r h in
    lowers c.roster.members c.roster.version r a (fit_of r.phase c.roster r h.valid.ok q q.some q.source)

-- at least one answer is still possible
some-possible : (c : Pool) (r : Run) → InHand c r → 0 < possible c.roster.members r
some-possible c r h = omega (arith, (fewer c r Reply.Failed h).fewer)

-- the count is raised by one
raised : (c : Pool) (r : Run) → InHand c r → run.counted r.taken ≡ r.taken + 1
raised c r h =
    counted-one r.taken (omega (arith, (facts c r h).most, some-possible c r h))

-- a session that becomes NORMAL leaves the membership as it was
same-members : (w : Option ℕ) (ro : Roster) → ro.sync ≡ false → (answers.entered_by w ro).members ≡ ro.members
same-members None ro e = refl
same-members (Some id) ro e = entered-members ro id

abbrev Ahead : List Event → Type 0
Ahead es = (c : Pool) (r : Run) → InHand c r → Course (during es c) c r.taken (possible c.roster.members r)

-- a run that sends its message is in hand
in-hand : (r : Run) (p : Pool) → Valid (gone_on (Some r) p).pool → InHand ((gone_on (Some r) p).pool) r
unfolding posted
in-hand r p v = record { valid = v; job = refl }

posted-roster : (r : Run) (p : Pool) → (gone_on (Some r) p).pool.roster ≡ p.roster
unfolding posted
posted-roster r p = refl

-- what follows an awaited answer: nothing where the run is over
abbrev rest : List Event → Option Run → Pool → List Event
rest es n p = following es (is_running (gone_on n p).pool.job) (gone_on n p).pool

-- the rest of the course, after an answer with which the count is t
abbrev Onward : List Event → Option Run → Pool → ℕ → ℕ → Type 0
Onward es n p t left =
    (awaited_answers (rest es n p) (gone_on n p).pool < left)
    × (last_count (rest es n p) (gone_on n p).pool t ≡ t + awaited_answers (rest es n p) (gone_on n p).pool)
    × (any_cut (rest es n p) (gone_on n p).pool ≡ false
    → Stands (through (rest es n p) (gone_on n p).pool).job (t + awaited_answers (rest es n p) (gone_on n p).pool) (t + (left - 1)))

goes_on : (ds : List Event) (c : Pool) (t t' still left : ℕ) → t ≡ t' → still < left → Course ds c t still
    → (awaited_answers ds c < left) × (last_count ds c t' ≡ t' + awaited_answers ds c) × (any_cut ds c ≡ false → Stands (through ds c).job (t' + awaited_answers ds c) (t' + (left - 1)))
goes_on ds c t t' still left k l h = (
  omega (arith, h.few),
  subst (λ (x : ℕ). last_count ds c x ≡ x + awaited_answers ds c) k h.count,
  λ u. stands_on (through ds c).job (t + awaited_answers ds c) (t' + awaited_answers ds c) (t + still) (t' + (left - 1)) (ap (λ (x : ℕ). x + awaited_answers ds c) k) (omega (arith, k)) (h.stands u),
)

onward : (es : List Event) → Ahead es → (n : Option Run) (p : Pool) (t left : ℕ) → Valid (gone_on n p).pool → Carries t n → still_in p.roster.members n < left → Onward es n p t left
unfolding posted
onward es rec None p t left v k l = (l, (let z : t ≡ t + 0 = omega arith in z), λ u. tt)
onward es rec (Some r) p t left v k l =
    goes_on (during es ((gone_on (Some r) p).pool)) ((gone_on (Some r) p).pool) r.taken t (possible p.roster.members r) left k l
    (rec ((gone_on (Some r) p).pool) r (in-hand r p v))

-- ---- an awaited answer

-- the pool after it
abbrev moved_on : Pool → Run → Reply → Pool
moved_on c r a = with_roster c (answers.entered_by (takes_in c r a).normal c.roster)

answer-turn : (c : Pool) (xs : List ℕ) (number : ℕ) (a : Reply) → eqb (why_not (Event.answer xs number a) c) 0 ≡ true → turn_of (Event.answer xs number a) c ≡ answers.answered c.job c a
unfolding answer_turn answers.answer answers.answer_refusal
answer-turn c xs number a z = rw z refl

pub took-turn : (c : Pool) (r : Run) (xs : List ℕ) (number : ℕ) (a : Reply) → c.job ≡ Job.Running r → eqb (why_not (Event.answer xs number a) c) 0 ≡ true
    → turn_of (Event.answer xs number a) c ≡ answers.reported c (takes_in c r a)
took-turn c r xs number a e z = answer-turn c xs number a z ∙ ap (λ (j : Job). answers.answered j c a) e

pub took-lasts : (c : Pool) (r : Run) (xs : List ℕ) (number : ℕ) (a : Reply) → c.job ≡ Job.Running r → eqb (why_not (Event.answer xs number a) c) 0 ≡ true
    → lasts_past (Event.answer xs number a) c ≡ is_running (answers.reported c (takes_in c r a)).pool.job
took-lasts c r xs number a e z = ap (lasting false) (took-turn c r xs number a e z) ∙ and-true (is_running (answers.reported c (takes_in c r a)).pool.job)

took : (es : List Event) → Ahead es → (xs : List ℕ) (number : ℕ) (a : Reply) (c : Pool) (r : Run) → InHand c r → eqb (why_not (Event.answer xs number a) c) 0 ≡ true
    → CourseBy true false (following es (is_running (answers.reported c (takes_in c r a)).pool.job) (answers.reported c (takes_in c r a)).pool) (answers.reported c (takes_in c r a)) r.taken (possible c.roster.members r)
unfolding answers.moved_on
took es rec xs number a c r h z = put (onward es rec (takes_in c r a).next (moved_on c r a) (run.counted r.taken) (possible c.roster.members r) valid' w.carries fewer')
  where
    w : Lowers (taken-well c.roster.version r a) (possible c.roster.members r) c.roster.members r (takes_in c r a)
    w = fewer c r a h

    valid' : Valid (gone_on (takes_in c r a).next (moved_on c r a)).pool
    valid' = subst (λ (u : Turn). Valid u.pool) (took-turn c r xs number a h.job z) (event-keeps (Event.answer xs number a) c h.valid)

    fewer' : still_in (moved_on c r a).roster.members (takes_in c r a).next < possible c.roster.members r
    fewer' =
        subst (λ (m : ℕ). still_in m (takes_in c r a).next < possible c.roster.members r)
        (sym (same-members (takes_in c r a).normal c.roster (facts c r h).plain)) w.fewer

    c' : Pool
    c' = (gone_on (takes_in c r a).next (moved_on c r a)).pool

    ds : List Event
    ds = rest es (takes_in c r a).next (moved_on c r a)

    put : Onward es (takes_in c r a).next (moved_on c r a) (run.counted r.taken) (possible c.roster.members r)
        → CourseBy true false (following es (is_running (answers.reported c (takes_in c r a)).pool.job) (answers.reported c (takes_in c r a)).pool) (answers.reported c (takes_in c r a)) r.taken (possible c.roster.members r)
    put k =
        let one_more = raised c r h in
        let same : run.counted r.taken + awaited_answers ds c' ≡ r.taken + (1 + awaited_answers ds c') = omega (arith, one_more) in
        record {
          few = omega (arith, k.0);
          count = ap (λ (n : ℕ). last_count ds c' n) w.raised ∙ (k.1 ∙ same);
          stands = λ u. stands_on (through ds c').job (run.counted r.taken + awaited_answers ds c') (r.taken + (1 + awaited_answers ds c')) (run.counted r.taken + (possible c.roster.members r - 1)) (r.taken + possible c.roster.members r) same (omega (arith, one_more, some-possible c r h)) (k.2 u);
        }

-- ---- a link down

down_turn : (c : Pool) (id : ℕ) → eqb (why_not (Event.link_down id) c) 0 ≡ true → turn_of (Event.link_down id) c ≡ down_at c.job c id
unfolding link_down down_done down_refusal
down_turn c id z = rw z refl

-- one that is accepted ends the run
pub cut-turn : (c : Pool) (r : Run) (id : ℕ) → c.job ≡ Job.Running r → eqb (why_not (Event.link_down id) c) 0 ≡ true → turn_of (Event.link_down id) c ≡ down_at (Job.Running r) c id
cut-turn c r id e z = down_turn c id z ∙ ap (λ (j : Job). down_at j c id) e

-- and no event that follows comes to it
pub cut-lasts : (c : Pool) (r : Run) (id : ℕ) → c.job ≡ Job.Running r → eqb (why_not (Event.link_down id) c) 0 ≡ true → lasts_past (Event.link_down id) c ≡ false
cut-lasts c r id e z = ap (lasting true) (cut-turn c r id e z) ∙ and-false (is_running (down_at (Job.Running r) c id).pool.job)

-- its result counts the answers taken
cut : (p : Pool) (r : Run) (id left : ℕ) → CourseBy false true [] (down_at (Job.Running r) p id) r.taken left
cut p r id left = record { few = omega arith; count = omega arith; stands = λ u. clash refl u }

-- ---- any event

-- one that is refused
pub refused-lasts : (e : Event) (c : Pool) (r : Run) → c.job ≡ Job.Running r → eqb (why_not e c) 0 ≡ false → lasts_past e c ≡ true
refused-lasts e c r q z = ap (lasting (is_down e)) (refused-turn e c z) ∙ ap (λ (j : Job). is_running j && true) q

refused-passes : (es : List Event) → Ahead es → (e : Event) (c : Pool) (r : Run) → InHand c r → eqb (why_not e c) 0 ≡ false → Course (during (e ∷ es) c) c r.taken (possible c.roster.members r)
refused-passes es rec e c r h z =
    whole e es c _ true _ _ (refused-turn e c z) (refused-lasts e c r h.job z) (passes (is_answer e) (is_down e) es c (why_not e c) _ _ (rec c r h))

-- so none of them is accepted
barred-out {ℓ} : {A : Type ℓ} (c : Pool) (r : Run) → c.job ≡ Job.Running r → (e : Event) → is_answer e ≡ false → is_down e ≡ false → eqb (why_not e c) 0 ≡ true → A
barred-out c r q e a d z = clash ((law e c).six r q a d) (none-applies (tests_of e c) (eqb-true (why_not e c) 0 z) 6 refl)

-- one that is accepted
accepted-course : (es : List Event) → Ahead es → (e : Event) (c : Pool) (r : Run) → InHand c r → eqb (why_not e c) 0 ≡ true → Course (during (e ∷ es) c) c r.taken (possible c.roster.members r)
accepted-course es rec (Event.answer xs number a) c r h z =
    whole (Event.answer xs number a) es c _ _ _ _ (took-turn c r xs number a h.job z) (took-lasts c r xs number a h.job z) (took es rec xs number a c r h z)
accepted-course es rec (Event.link_down id) c r h z =
    whole (Event.link_down id) es c _ false _ _ (cut-turn c r id h.job z) (cut-lasts c r id h.job z) (cut c r id _)
accepted-course es rec (Event.join_create id) c r h z = barred-out c r h.job (Event.join_create id) refl refl z
accepted-course es rec (Event.join_assemble id set version) c r h z = barred-out c r h.job (Event.join_assemble id set version) refl refl z
accepted-course es rec (Event.enable id) c r h z = barred-out c r h.job (Event.enable id) refl refl z
accepted-course es rec (Event.maintenance id) c r h z = barred-out c r h.job (Event.maintenance id) refl refl z
accepted-course es rec (Event.store_check id) c r h z = barred-out c r h.job (Event.store_check id) refl refl z
accepted-course es rec (Event.rejoin id) c r h z = barred-out c r h.job (Event.rejoin id) refl refl z
accepted-course es rec Event.try_run c r h z = barred-out c r h.job Event.try_run refl refl z
accepted-course es rec (Event.remove xs id mode) c r h z = barred-out c r h.job (Event.remove xs id mode) refl refl z
accepted-course es rec (Event.write xs chunk reached) c r h z = barred-out c r h.job (Event.write xs chunk reached) refl refl z
accepted-course es rec (Event.synced xs member chunk) c r h z = barred-out c r h.job (Event.synced xs member chunk) refl refl z
accepted-course es rec (Event.extend xs) c r h z = barred-out c r h.job (Event.extend xs) refl refl z

step : (es : List Event) → Ahead es → (e : Event) (c : Pool) (r : Run) → InHand c r → (b : Bool) → eqb (why_not e c) 0 ≡ b → Course (during (e ∷ es) c) c r.taken (possible c.roster.members r)
step es rec e c r h true z = accepted-course es rec e c r h z
step es rec e c r h false z = refused-passes es rec e c r h z

-- The course of every run, whatever comes.
pub course : (es : List Event) → Ahead es
course [] c r h =
    record {
      few = omega arith;
      count = omega arith;
      stands = λ u. subst (λ (j : Job). Stands j (r.taken + 0) (r.taken + possible c.roster.members r)) (sym h.job) ((let q : r.taken ≡ r.taken + 0 = omega arith in q), omega (arith, some-possible c r h));
    }
course (e ∷ es) c r h = step es (course es) e c r h (eqb (why_not e c) 0) refl

-- ---- replies under the awaited numbers

-- with a sound map, an answer under the awaited number is not refused
pub not-refused : (c : Pool) (r : Run) (xs : List ℕ) (a : Reply) → InHand c r → sound_for c xs ≡ true → why_not (Event.answer xs c.number a) c ≡ 0
not-refused c r xs a h s = simp (valid-of c h.valid, s, h.job, eq-eqb c.number c.number refl)

-- where nothing is awaited, replies change nothing
idle-next : (c : Pool) (xs : List ℕ) (a : Reply) → c.job ≡ Job.Idle → (next (Event.answer xs c.number a) c).job ≡ Job.Idle
idle-next c xs a e = at (eqb (why_not (Event.answer xs c.number a) c) 0) refl
  where
    n : ℕ
    n = c.number

    at : (b : Bool) → eqb (why_not (Event.answer xs c.number a) c) 0 ≡ b → (next (Event.answer xs c.number a) c).job ≡ Job.Idle
    at true z =
        clash (ap (λ (j : Job). not (not (is_idle j) && eqb n n)) e)
        (none-applies (tests_of (Event.answer xs n a) c) (eqb-true (why_not (Event.answer xs n a) c) 0 z) 13 refl)
    at false z = ap (λ (u : Turn). u.pool.job) (refused-turn (Event.answer xs n a) c z) ∙ e

idle-stays : (xs : List ℕ) (rs : List Reply) (c : Pool) → c.job ≡ Job.Idle → (replied xs rs c).job ≡ Job.Idle
idle-stays xs [] c e = e
idle-stays xs (a ∷ rs) c e = idle-stays xs rs (next (Event.answer xs c.number a) c) (idle-next c xs a e)

abbrev Ending : List ℕ → List Reply → Type 0
Ending xs rs = (c : Pool) (r : Run) → InHand c r → sound_for c xs ≡ true → possible c.roster.members r ≤ length rs → (replied xs rs c).job ≡ Job.Idle

same-chunks : (n : Option Run) (p : Pool) → (gone_on n p).pool.chunks ≡ p.chunks
unfolding posted
same-chunks None p = refl
same-chunks (Some r) p = refl

on-ending : (xs : List ℕ) (rs : List Reply) → Ending xs rs → (n : Option Run) (p : Pool) → Valid (gone_on n p).pool → sound_for (gone_on n p).pool xs ≡ true → still_in p.roster.members n ≤ length rs
    → (replied xs rs (gone_on n p).pool).job ≡ Job.Idle
on-ending xs rs rec None p v s l = idle-stays xs rs (run_ended p) refl
on-ending xs rs rec (Some r) p v s l =
    rec ((gone_on (Some r) p).pool) r (in-hand r p v) s
    (subst (λ (ro : Roster). possible ro.members r ≤ length rs) (sym (posted-roster r p)) l)

reply-ends : (xs : List ℕ) (a : Reply) (rs : List Reply) → Ending xs rs → Ending xs (a ∷ rs)
unfolding answers.moved_on
reply-ends xs a rs rec c r h s l =
    subst (λ (u : Turn). (replied xs rs u.pool).job ≡ Job.Idle) (sym turn)
    (on-ending xs rs rec (takes_in c r a).next (moved_on c r a) valid'
    (ap (λ (k : ℕ). sound k xs) (same-chunks (takes_in c r a).next (moved_on c r a)) ∙ s)
    (omega (arith, fewer', l)))
  where
    turn : turn_of (Event.answer xs c.number a) c ≡ answers.reported c (takes_in c r a)
    turn = took-turn c r xs c.number a h.job (eq-eqb _ 0 (not-refused c r xs a h s))

    valid' : Valid (gone_on (takes_in c r a).next (moved_on c r a)).pool
    valid' = subst (λ (u : Turn). Valid u.pool) turn (event-keeps (Event.answer xs c.number a) c h.valid)

    fewer' : still_in (moved_on c r a).roster.members (takes_in c r a).next < possible c.roster.members r
    fewer' =
        subst (λ (m : ℕ). still_in m (takes_in c r a).next < possible c.roster.members r)
        (sym (same-members (takes_in c r a).normal c.roster (facts c r h).plain)) (fewer c r a h).fewer

-- As many replies as are possible end the run, whatever they say.
pub ends : (xs : List ℕ) (rs : List Reply) → Ending xs rs
ends xs [] c r h s l = absurd (let z : ⊥ = omega (arith, some-possible c r h, l) in z)
ends xs (a ∷ rs) c r h s l = reply-ends xs a rs (ends xs rs) c r h s l
