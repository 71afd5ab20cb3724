-- All messages of a run carry the version that it began with, and its last answer leaves one more.
use Rattle.std.specs.Prelude.{Option, Some, None}
use mathlib.Core.Path.{◌≡◌, refl, sym, ap, ◌∙◌, subst}
use mathlib.Core.Bool.{Bool, true, false, not, ◌&&◌}
use mathlib.Core.List.{List, [], ◌∷◌}
use Prim.Native.Nat.{ℕ}
use native.Mathlib.Omega.{arith}
use lib.Dec.{eqb}
use borrow.Author.Tests.{eqb-true}
use Rattle.laws_words.specs.Words.{pick}
use Rattle.laws_words.specs.Tests.{by_cases, clash, and_left}
use Rattle.rules_base.proofs.Order.{none-applies}
use Rattle.rules_pool.specs.declared.Roster.{Roster}
use Rattle.rules_pool.specs.declared.Step.{Step}
use Rattle.rules_pool.specs.declared.Phase.{Phase}
use Rattle.rules_pool.specs.declared.Run.{Run}
use Rattle.rules_pool.specs.declared.Job.{Job}
use Rattle.rules_pool.specs.declared.Pool.{Pool}
use Rattle.rules_pool.specs.declared.Message.{Message}
use Rattle.rules_pool.specs.declared.Answer.{Answer}
use Rattle.rules_pool.specs.declared.Reply.{Reply}
use Rattle.rules_pool.specs.declared.Turn.{Turn}
use Rattle.rules_pool.specs.Changes.{more}
use Rattle.rules_pool.specs.declared.Move.{Move}
use Rattle.rules_pool.specs.Run as run
use Rattle.rules_pool.specs.Cases.{begun}
use Rattle.rules_pool.specs.Recovery.{with_roster, posted, gone_on, beginning, tried}
use Rattle.rules_pool.specs.Jobs.{is_running}
use Rattle.laws_client.proofs.Rosters.{below_top}
use Rattle.rules_client.specs.Answers as answers
use Rattle.laws_client.proofs.AnswersKept.{run-roster}
use Rattle.rules_pool.specs.Breaking.{is_accepted}
use Rattle.rules_client.specs.Events.{Event, turn_of, next, tests_of}
use Rattle.theorem_client.specs.Reading.{is_answer, is_down}
use Rattle.theorem_client.proofs.Shape.{why_not}
use Rattle.theorem_client.proofs.Law.{law}
use Rattle.theorem_client.proofs.Every.{event-keeps}
use Rattle.theorem_client.proofs.Versions.{entered-same}
use Rattle.theorem_client.proofs.Demand1.{refused-turn}
use Rattle.theorem_bounds.specs.Demand3.{cuts_off, lasts_past, during, tried_in, awaited_by, Bears, Versioned, AllVersioned, OneVersion}
use Rattle.theorem_bounds.proofs.Course.{InHand, takes_in, facts, took-turn, took-lasts, cut-turn, cut-lasts, refused-lasts}
use Rattle.theorem_bounds.proofs.Demand3.{afresh, begin-hand}

-- ---- the messages

step-bears : (s : Step) (source receiver : ℕ) (keep enable : Bool) (v members : ℕ) → Bears v (run.step_message s source receiver keep enable v members)
step-bears Step.Ready source receiver keep enable v members = tt
step-bears Step.Send source receiver keep enable v members = tt
step-bears Step.Done source receiver keep enable v members = refl

bears-at : (p : Phase) (members v : ℕ) (r : Run) → Bears v (run.awaited_at p members v r)
bears-at (Phase.Versions best) members v r = tt
bears-at (Phase.Base s) members v r = step-bears s r.source (run.hand r) false false v members
bears-at Phase.LastIo members v r = tt
bears-at (Phase.Gather s) members v r = step-bears s (run.hand r) r.source true false v members
bears-at (Phase.Enable every) members v r = refl
bears-at (Phase.Spread s) members v r = step-bears s r.source (run.hand r) false true v members

bears-in : (members v : ℕ) (r : Run) → Bears v (run.awaited_in members v r)
unfolding run.awaited_in
bears-in members v r = bears-at r.phase members v r

-- the message of a run that goes on, and of one that begins
bears-next : (n : Option Run) (p : Pool) (v : ℕ) → p.roster.version ≡ v → Bears v (gone_on n p).awaited
unfolding posted
bears-next None p v e = tt
bears-next (Some r) p v e = subst (λ (x : ℕ). Bears x (run.awaited_in p.roster.members p.roster.version r)) e (bears-in p.roster.members p.roster.version r)

bears-first : (n : Option Run) (p : Pool) → Bears p.roster.version (beginning n p).awaited
unfolding posted
bears-first None p = tt
bears-first (Some r) p = bears-in p.roster.members p.roster.version r

bears-tried : (p : Pool) → Bears p.roster.version (tried p).awaited
unfolding tried
bears-tried p = bears-first (begun p.roster) p

-- ---- one event

-- one that is refused
refused-keeps : (e : Event) (c : Pool) (r : Run) → InHand c r → eqb (why_not e c) 0 ≡ false → Versioned c.roster.version e c
refused-keeps e c r h z =
    record {
      lasting = λ l. ap (λ (u : Turn). u.pool.roster.version) (refused-turn e c z);
      over = λ f k. clash (refused-lasts e c r h.job z) f;
      carried = λ k. subst (λ (u : Turn). Bears c.roster.version (awaited_by u.answer)) (sym (refused-turn e c z)) tt;
    }

took-keeps : (xs : List ℕ) (number : ℕ) (a : Reply) (c : Pool) (r : Run) → InHand c r → eqb (why_not (Event.answer xs number a) c) 0 ≡ true → Versioned c.roster.version (Event.answer xs number a) c
unfolding answers.moved_on
took-keeps xs number a c r h z =
    record {
      lasting = λ l. version ∙ (ap (λ (b : Bool). pick (not b) (more ro.version) ro.version) (sym lasts ∙ l) ∙ same);
      over = λ f k. version ∙ (ap (λ (b : Bool). pick (not b) (more ro.version) ro.version) (sym lasts ∙ f) ∙ (ap more same ∙ below_top c.roster.version (omega (arith, (facts c r h).limit))));
      carried = λ k. subst (λ (u : Turn). Bears c.roster.version (awaited_by u.answer)) (sym turn) (bears-next m.next (with_roster c ro) c.roster.version same);
    }
  where
    m : Move
    m = takes_in c r a

    ro : Roster
    ro = answers.entered_by (takes_in c r a).normal c.roster

    turn : turn_of (Event.answer xs number a) c ≡ answers.reported c (takes_in c r a)
    turn = took-turn c r xs number a h.job z

    lasts : lasts_past (Event.answer xs number a) c ≡ is_running (answers.reported c (takes_in c r a)).pool.job
    lasts = took-lasts c r xs number a h.job z

    version : (next (Event.answer xs number a) c).roster.version
        ≡ pick (not (is_running (answers.reported c (takes_in c r a)).pool.job)) (more (answers.entered_by (takes_in c r a).normal c.roster).version) (answers.entered_by (takes_in c r a).normal c.roster).version
    version = ap (λ (u : Turn). u.pool.roster.version) turn ∙ ap (λ (q : Roster). q.version) (run-roster c (takes_in c r a))

    same : (answers.entered_by (takes_in c r a).normal c.roster).version ≡ c.roster.version
    same = (entered-same (takes_in c r a).normal c).1

cut_keeps : (id : ℕ) (c : Pool) (r : Run) → InHand c r → eqb (why_not (Event.link_down id) c) 0 ≡ true → Versioned c.roster.version (Event.link_down id) c
cut_keeps id c r h z =
    let cuts : cuts_off (Event.link_down id) c ≡ true = ap (λ (u : Turn). is_accepted u.answer && true) (cut-turn c r id h.job z) in
    record { lasting = λ l. clash l (cut-lasts c r id h.job z); over = λ f k. clash cuts k; carried = λ k. clash cuts k }

-- any other is barred
other-keeps : (e : Event) (c : Pool) (r : Run) → InHand c r → is_answer e ≡ false → is_down e ≡ false → eqb (why_not e c) 0 ≡ true → Versioned c.roster.version e c
other-keeps e c r h a d z = clash ((law e c).six r h.job a d) (none-applies (tests_of e c) (eqb-true (why_not e c) 0 z) 6 refl)

accepted-keeps : (e : Event) (c : Pool) (r : Run) → InHand c r → eqb (why_not e c) 0 ≡ true → Versioned c.roster.version e c
accepted-keeps (Event.join_create id) c r h z = other-keeps (Event.join_create id) c r h refl refl z
accepted-keeps (Event.join_assemble id set version) c r h z = other-keeps (Event.join_assemble id set version) c r h refl refl z
accepted-keeps (Event.enable id) c r h z = other-keeps (Event.enable id) c r h refl refl z
accepted-keeps (Event.maintenance id) c r h z = other-keeps (Event.maintenance id) c r h refl refl z
accepted-keeps (Event.link_down id) c r h z = cut_keeps id c r h z
accepted-keeps (Event.store_check id) c r h z = other-keeps (Event.store_check id) c r h refl refl z
accepted-keeps (Event.rejoin id) c r h z = other-keeps (Event.rejoin id) c r h refl refl z
accepted-keeps Event.try_run c r h z = other-keeps Event.try_run c r h refl refl z
accepted-keeps (Event.remove xs id mode) c r h z = other-keeps (Event.remove xs id mode) c r h refl refl z
accepted-keeps (Event.write xs chunk reached) c r h z = other-keeps (Event.write xs chunk reached) c r h refl refl z
accepted-keeps (Event.synced xs member chunk) c r h z = other-keeps (Event.synced xs member chunk) c r h refl refl z
accepted-keeps (Event.answer xs number a) c r h z = took-keeps xs number a c r h z
accepted-keeps (Event.extend xs) c r h z = other-keeps (Event.extend xs) c r h refl refl z

event-versioned : (e : Event) (c : Pool) (r : Run) → InHand c r → Versioned c.roster.version e c
event-versioned e c r h = by_cases (eqb (why_not e c) 0) (accepted-keeps e c r h) (refused-keeps e c r h)

-- ---- those that come while it lasts

-- a run in hand
running : (j : Job) → is_running j ≡ true → (P : Type 0) → ((r : Run) → j ≡ Job.Running r → P) → P
running Job.Idle e P f = clash e refl
running (Job.Running r) e P f = f r refl
running (Job.Removing m) e P f = clash e refl

all-versioned : (es : List Event) (c : Pool) (r : Run) (v : ℕ) → InHand c r → c.roster.version ≡ v → AllVersioned v (during es c) c
all-versioned [] c r v h e = tt
all-versioned (x ∷ es) c r v h e = (here, at (lasts_past x c) refl (λ r' h' e'. all-versioned es (next x c) r' v h' e'))
  where
    here : Versioned v x c
    here = subst (λ (n : ℕ). Versioned n x c) e (event-versioned x c r h)

    at : (b : Bool) → lasts_past x c ≡ b → ((r' : Run) → InHand (next x c) r' → (next x c).roster.version ≡ v → AllVersioned v (during es (next x c)) (next x c))
        → AllVersioned v (pick b (during es (next x c)) []) (next x c)
    at true l rec =
        running (next x c).job (and_left (is_running (next x c).job) (not (cuts_off x c)) l) (AllVersioned v (during es (next x c)) (next x c))
        (λ r' j. rec r' (record { valid = event-keeps x c h.valid; job = j }) (here.lasting l))
    at false l rec = tt

pub one-version : OneVersion
one-version c e r b =
    let n = afresh c e r b in (
      subst (λ (a : Answer). Bears (next e c).roster.version (awaited_by a)) (sym n.accepted)
          (subst (λ (m : Message). Bears (next e c).roster.version m) (sym n.awaited) (bears-tried (tried_in e c))),
      λ es. all-versioned es (next e c) r (next e c).roster.version (begin-hand c e r b) refl,
    )
