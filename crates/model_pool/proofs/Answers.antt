-- Answers in a run: each is a course of the simplified pool.
use Rattle.std.specs.Prelude.{Option, Some, None}
use mathlib.Core.Path.{◌≡◌, refl, sym, ap, ◌∙◌, subst}
use mathlib.Core.Bool.{Bool, true, false, not}
use mathlib.Core.Logic.{inl, inr}
use Prim.Native.Nat.{ℕ, ◌<◌}
use native.Mathlib.Omega.{arith}
use lib.Dec.{T, eqb, ltb}
use borrow.Author.Tests.{eqb-true, ltb-true, ltb-false}
use Rattle.laws_words.specs.Words.{pick}
use Rattle.laws_words.specs.Tests.{picked, clash, by_cases, and_left, and_right}
use Rattle.rules_base.specs.Sets.{has, without, lowest}
use Rattle.rules_base.proofs.Sets.{has-below, has-none, has-without-same, has-without-other, without-lt, still}
use Rattle.rules_pool.specs.declared.Step.{Step}
use Rattle.rules_pool.specs.declared.Phase.{Phase}
use Rattle.rules_pool.specs.declared.Run.{Run}
use Rattle.rules_pool.specs.declared.Job.{Job}
use Rattle.rules_pool.specs.declared.Reply.{Reply}
use Rattle.rules_pool.specs.declared.Pool.{Pool}
use Rattle.rules_pool.specs.Session.{candidate}
use Rattle.rules_pool.specs.declared.Kind.{Kind}
use Rattle.rules_pool.specs.Sessions.{session_at, ids_of}
use Rattle.rules_pool.specs.Changes.{entered}
use Rattle.rules_pool.specs.declared.Move.{Move}
use Rattle.rules_pool.specs.Run.{hand, rest, go, ahead, to_spread, to_base, to_versions, failed_at, failed_answer, version_brought, good_at, good, takes}
use Rattle.rules_pool.specs.Recovery.{with_roster, posted}
use Rattle.rules_pool.specs.StateRules.{job_ok, source_ok, hand_ok, all_asked, asked, one_asked}
use Rattle.rules_client.specs.Answers.{answer_refusal, moved_on, answered, answer}
use Rattle.laws_client.proofs.Pools.{Valid}
use Rattle.laws_client.proofs.Runs.{AllCandidates, RunOk, run-facts, run_room, candidate-member, Asking, asking-facts}
use Rattle.laws_client.proofs.AnswersKept.{candidate-below}
use Rattle.model_pool.specs.Model as m
use Rattle.model_pool.specs.Invariant.{lander}
use Rattle.model_pool.specs.Steps as s
use Rattle.model_pool.proofs.Ground.{split, upd_same, upd_other}
use Rattle.model_pool.specs.Mirror.{Sees, phase_of, other_in, AsksIn, Choosing, Runs, Works, posts, Goes, goes, MovesBy, Shows}
use Rattle.model_pool.proofs.Sessions.{is-again}
use Rattle.model_pool.proofs.Turns.{moves, falls-none, ends}
use Rattle.model_pool.proofs.Enters.{GoesOn, on, first-in, enter-gather, enter-last, enter-base, enter-spread}
use Rattle.model_pool.proofs.Normal.{becomes-normal}

-- what is known of a reply: a good one is that of a message which was accepted, and to MAP_GET_VER it brings the version under way
abbrev pub Hears : Reply → m.Hand → Type 0
Hears Reply.Failed h = Unit {0}
Hears (Reply.Good b) h = (h.fate ≡ m.Fate.Taken) × (T (m.asks h.job) → b ≡ Some h.says)

not-true : (b : Bool) → not b ≡ true → b ≡ false
not-true true e = clash e refl
not-true false e = refl

brought : {x y : ℕ} → Some x ≡ Some y → x ≡ y
brought e = cc

-- what an answer comes to
abbrev Answered : Pool → Move → m.World → Type 0
Answered p x w = Goes (moved_on p x).pool (moved_on p x).awaited w

module _ (p : Pool) (w : m.World) (v : Valid p) (y : p.roster.sync ≡ false) (e : Sees p.roster w.pool) (r : Run) (k : Runs r w.hand) (f : RunOk p.roster r) where
  -- the run ends
  over : GoesOn None p w
  over = ends r p p.roster w k (run_room p.roster v.ok y f.limit) (falls-none p.roster w e)

  -- the next message, the source being chosen
  launch : T (m.sourced w.hand.job) → (j : m.Job) (to : ℕ) → T (s.enters j) → w.pool.ses to ≡ m.Session.Again → s.Course w (s.awaits w j r.source to)
  launch t j to n a = subst (λ (i : ℕ). s.Course w (s.awaits w j i to)) (sym k.src) (s.more (s.here w) (s.Next.Onward j to t n a))

  rest-able : AllCandidates p.roster (rest r)
  rest-able j h = f.able j (still r.left (lowest r.left) j h).0

  rest-small : rest r < 65536
  rest-small = without-lt r.left (lowest r.left) f.small

  -- ---- a failed answer
  fails : (x : Phase) → r.phase ≡ x → Answered p (failed_at x r) w
  unfolding moved_on
  fails (Phase.Versions best) q = over
  fails (Phase.Base t) q = over
  fails Phase.LastIo q = over
  fails (Phase.Gather t) q = over
  fails (Phase.Enable every) q = over
  fails (Phase.Spread t) q =
      enter-spread p w w r.source v.ok e refl refl (launch (subst (λ (j : m.Job). T (m.sourced j)) (ap phase_of (sym q) ∙ k.job) tt)) r (rest r) refl rest-able rest-small over

  pub failed : Answered p (failed_answer r) w
  unfolding failed_answer
  failed = fails r.phase refl

  -- ---- a good answer
  module _ (taken : w.hand.fate ≡ m.Fate.Taken) where
    job_is : (x : Phase) → r.phase ≡ x → w.hand.job ≡ phase_of x
    job_is x q = sym k.job ∙ ap phase_of q

    to_is : (x : Phase) → r.phase ≡ x → other_in x r ≡ w.hand.to
    to_is x q = subst (λ (z : Phase). other_in z r ≡ w.hand.to) q k.to

    asking : (x : Phase) → r.phase ≡ x → source_ok x p.roster r.source r.left ≡ true
    asking x q = subst (λ (z : Phase). source_ok z p.roster r.source r.left ≡ true) q f.source

    -- the run goes on by one step
    step : (r' : Run) (j : m.Job) (to : ℕ) → s.Next w (s.awaits w j w.hand.src to) → Runs r' (s.awaits w j w.hand.src to).hand → GoesOn (Some r') p w
    unfolding posted
    step r' j to n u = record { to = s.awaits w j w.hand.src to; course = s.more (s.here w) n; sees = e; works = u; sends = posts refl refl; nodes = refl; past = refl }

    -- the second message of a spread, and the third
    sends : (kind : m.Kind) (x : Phase) → w.hand.job ≡ m.Job.Move kind m.Step.Ready → Runs (on r x r.source r.left) (s.awaits w (m.Job.Move kind m.Step.Send) w.hand.src w.hand.to).hand → GoesOn (ahead r x) p w
    sends kind x a u = step (on r x r.source r.left) (m.Job.Move kind m.Step.Send) w.hand.to (s.Next.Good-ready kind a taken) u

    dones : (kind : m.Kind) (x : Phase) → w.hand.job ≡ m.Job.Move kind m.Step.Send → Runs (on r x r.source r.left) (s.awaits w (m.Job.Move kind m.Step.Done) w.hand.src w.hand.to).hand → GoesOn (ahead r x) p w
    dones kind x a u = step (on r x r.source r.left) (m.Job.Move kind m.Step.Done) w.hand.to (s.Next.Good-send kind a taken) u

    sourced : (x : Phase) → r.phase ≡ x → T (m.sourced (phase_of x)) → T (m.sourced w.hand.job)
    sourced x q t = subst (λ (j : m.Job). T (m.sourced j)) (sym (job_is x q)) t

    asks-all : all_asked p.roster r.source ≡ true → Asking p.roster r.source
    asks-all a = asking-facts p.roster r.source v.ok.long a

    -- ENABLE_POOL: the source is a candidate
    enabled : (every : Bool) → asked every p.roster r.source ≡ true → candidate (session_at p.roster r.source) ≡ true
    unfolding one_asked
    enabled true a = let h = asks-all a in h.all-able r.source h.member
    enabled false a = and_right (eqb (ids_of Kind.Normals p.roster) 0) _ a

    becomes : (x : Phase) → r.phase ≡ x → (id left : ℕ) → T (s.enables (phase_of x)) → lander (phase_of x) w.hand.src w.hand.to ≡ id → candidate (session_at p.roster id) ≡ true
        → left < 65536 → AllCandidates p.roster left → has left id ≡ false → GoesOn (to_spread r left) (with_roster p (entered p.roster id)) w
    becomes x q id left t l c small able out =
        becomes-normal p w v.ok y e id (candidate-below p.roster id v.ok.long c) (ap (λ (j : m.Job). lander j w.hand.src w.hand.to) (job_is x q) ∙ l) f.limit c taken
        (subst (λ (j : m.Job). T (s.enables j)) (sym (job_is x q)) t) r left k.src small able out

    -- ---- MAP_GET_VER
    module _ (best x : ℕ) (q : r.phase ≡ Phase.Versions best) (says : x ≡ w.hand.says) where
      c : Choosing best r w.hand
      c = subst (λ (z : Phase). AsksIn z r w.hand) q k.asks

      all : Asking p.roster r.source
      all = asks-all (asking (Phase.Versions best) q)

      in-hand : has r.left (lowest r.left) ≡ true
      in-hand = first-in r.left f.small (not-true (eqb r.left 0) (subst (λ (z : Phase). hand_ok z r.left ≡ true) q f.some))

      left_is : (n : ℕ) → has (rest r) n ≡ m.upd w.hand.left w.hand.to false n
      left_is n = split n w.hand.to
          (λ z. rw (z, upd_same w.hand.left w.hand.to false) (ap (λ (i : ℕ). has (rest r) i) (sym (to_is (Phase.Versions best) q)) ∙ has-without-same r.left (lowest r.left)))
          (λ z. rw (upd_other w.hand.left w.hand.to n false z) (has-without-other r.left (lowest r.left) n (λ i. z (i ∙ to_is (Phase.Versions best) q)) ∙ c.left n))

      -- the one that is chosen now, and its version
      record Judged (source most : ℕ) : Type 0 where
        better : s.Better w source most
        out : has (rest r) source ≡ false
        member : has p.roster.members source ≡ true

      goes-out : has r.left r.source ≡ false → has (rest r) r.source ≡ false
      goes-out z = by_cases (has (rest r) r.source) (λ i. clash (still r.left (lowest r.left) r.source i).0 z) (λ i. i)

      judged : (b : Bool) → ltb best x ≡ b → Judged (pick b (hand r) r.source) (pick b x best)
      judged true z = record {
        better = inl (to_is (Phase.Versions best) q, says, λ i. (let a = c.best in let d = ltb-true best x z in omega arith));
        out = has-without-same r.left (lowest r.left);
        member = candidate-member p.roster v.ok y (lowest r.left) (has-below r.left (lowest r.left) in-hand) (f.able (lowest r.left) in-hand);
      }
      judged false z = by_cases (has r.left r.source)
          (λ i. let g = c.first i in record {
            better = inl (g.0 ∙ to_is (Phase.Versions best) q, (let a = g.1 in let d = ltb-false best x z in omega (arith, says)), λ j. (let a = c.best in let d = g.1 in omega arith));
            out = ap (λ (n : ℕ). has (rest r) n) g.0 ∙ has-without-same r.left (lowest r.left);
            member = all.member;
          })
          (λ i. record {
            better = inr (k.src, c.best, c.chosen ∙ ap not i, (let a = c.best in let d = ltb-false best x z in omega (arith, says)));
            out = goes-out i;
            member = all.member;
          })

      module _ (source most : ℕ) (j : Judged source most) where
        asks-next : GoesOn (to_versions p.roster.members r most source (rest r)) p w
        unfolding posted
        asks-next = picked (λ (n : Option Run). GoesOn n p w) (eqb (rest r) 0) (to_base p.roster.members r source (without p.roster.members source)) (go r (Phase.Versions most) source (rest r))
            (λ z. enter-base p w (s.judged w source most) source v.ok e refl refl
            (λ i to n a. s.more (s.here w) (s.Next.Good-got source most i to (job_is (Phase.Versions best) q) taken j.better
            (λ l h. sym (left_is l) ∙ (ap (λ (i : ℕ). has i l) (eqb-true (rest r) 0 z) ∙ has-none l)) n a))
            r all.all-able j.member (without p.roster.members source) (λ l h. all.all-able l (still p.roster.members source l h).0) (without-lt p.roster.members source v.ok.small))
            (λ z. let i = first-in (rest r) rest-small z in record {
              to = s.awaits (s.judged w source most) m.Job.Get source (lowest (rest r));
              course = s.more (s.here w) (s.Next.Good-get source most (lowest (rest r)) (job_is (Phase.Versions best) q) taken j.better (is-again p.roster w.pool e (lowest (rest r)) (rest-able (lowest (rest r)) i)));
              sees = e;
              works = record {
                job = refl;
                src = refl;
                to = refl;
                asks = record { left = left_is; best = refl; chosen = sym (ap not j.out); first = λ h. clash h j.out };
              };
              sends = posts refl refl;
              nodes = refl;
              past = refl;
            })

      answers : Answered p (version_brought p.roster.members p.roster.version best r (Some x)) w
      unfolding moved_on
      answers = picked (λ (n : Move). Answered p n w) (ltb p.roster.version x) (failed_answer r) _
          (λ z. failed)
          (λ z. asks-next (pick (ltb best x) (hand r) r.source) (pick (ltb best x) x best) (judged (ltb best x) refl))

    -- ---- every phase
    goods : (x : Phase) → r.phase ≡ x → (b : Option ℕ) → (T (m.asks w.hand.job) → b ≡ Some w.hand.says) → Answered p (good_at x p.roster.members p.roster.version r b) w
    unfolding moved_on
    goods (Phase.Versions best) q None n = failed
    goods (Phase.Versions best) q (Some x) n =
        answers best x q (brought (n (subst (λ (j : m.Job). T (m.asks j)) (sym (job_is (Phase.Versions best) q)) tt)))
    goods (Phase.Base Step.Ready) q b n = sends m.Kind.Base (Phase.Base Step.Send) (job_is (Phase.Base Step.Ready) q) (record { job = refl; src = k.src; to = to_is (Phase.Base Step.Ready) q; asks = tt })
    goods (Phase.Base Step.Send) q b n = dones m.Kind.Base (Phase.Base Step.Done) (job_is (Phase.Base Step.Send) q) (record { job = refl; src = k.src; to = to_is (Phase.Base Step.Send) q; asks = tt })
    goods (Phase.Base Step.Done) q b n =
        let a = asks-all (and_left (all_asked p.roster r.source) _ (asking (Phase.Base Step.Done) q)) in
        enter-base p w w r.source v.ok e refl refl (launch (sourced (Phase.Base Step.Done) q tt)) r a.all-able a.member (rest r) rest-able rest-small
    goods Phase.LastIo q b n =
        let a = asks-all (asking Phase.LastIo q) in
        enter-last p w w r.source v.ok e refl refl (launch (sourced Phase.LastIo q tt)) r a.all-able a.member (rest r) rest-able rest-small
    goods (Phase.Gather Step.Ready) q b n = sends m.Kind.Gather (Phase.Gather Step.Send) (job_is (Phase.Gather Step.Ready) q) (record { job = refl; src = k.src; to = to_is (Phase.Gather Step.Ready) q; asks = tt })
    goods (Phase.Gather Step.Send) q b n = dones m.Kind.Gather (Phase.Gather Step.Done) (job_is (Phase.Gather Step.Send) q) (record { job = refl; src = k.src; to = to_is (Phase.Gather Step.Send) q; asks = tt })
    goods (Phase.Gather Step.Done) q b n =
        let a = asks-all (and_left (all_asked p.roster r.source) _ (asking (Phase.Gather Step.Done) q)) in
        enter-gather p w w r.source v.ok e refl refl (launch (sourced (Phase.Gather Step.Done) q tt)) r a.all-able a.member (rest r) rest-able rest-small
    goods (Phase.Enable every) q b n =
        let a = asking (Phase.Enable every) q in
        becomes (Phase.Enable every) q r.source r.left tt (sym k.src) (enabled every (and_left (asked every p.roster r.source) _ a)) f.small f.able
        (not-true (has r.left r.source) (and_right (asked every p.roster r.source) _ a))
    goods (Phase.Spread Step.Ready) q b n = sends m.Kind.Spread (Phase.Spread Step.Send) (job_is (Phase.Spread Step.Ready) q) (record { job = refl; src = k.src; to = to_is (Phase.Spread Step.Ready) q; asks = tt })
    goods (Phase.Spread Step.Send) q b n = dones m.Kind.Spread (Phase.Spread Step.Done) (job_is (Phase.Spread Step.Send) q) (record { job = refl; src = k.src; to = to_is (Phase.Spread Step.Send) q; asks = tt })
    goods (Phase.Spread Step.Done) q b n =
        let i = first-in r.left f.small (not-true (eqb r.left 0) (subst (λ (z : Phase). hand_ok z r.left ≡ true) q f.some)) in
        becomes (Phase.Spread Step.Done) q (lowest r.left) (rest r) tt (sym (to_is (Phase.Spread Step.Done) q)) (f.able (lowest r.left) i) rest-small rest-able (has-without-same r.left (lowest r.left))

    pub well : (b : Option ℕ) → (T (m.asks w.hand.job) → b ≡ Some w.hand.says) → Answered p (good p.roster.members p.roster.version r b) w
    unfolding good
    well b n = goods r.phase refl b n

  replied : (a : Reply) → Hears a w.hand → Answered p (takes p.roster.members p.roster.version r a) w
  replied Reply.Failed h = failed
  replied (Reply.Good b) h = well h.0 b h.1

-- an answer while a run is in hand
pub run-answer : (p : Pool) (sound : Bool) (number : ℕ) (a : Reply) (w : m.World) → Valid p → p.roster.sync ≡ false → Shows p w → (r : Run) → p.job ≡ Job.Running r → Hears a w.hand → MovesBy p (answer p sound number a) w
unfolding answer
run-answer p sound number a w v y k r j h =
    moves p (answer_refusal p sound number) (answered p.job p a) w
    (λ z. subst (λ (x : Job). MovesBy p (answered x p a) w) (sym j)
    (goes (replied p w v y k.sees r (subst (λ (x : Job). Works x w.hand) j k.works) (run-facts p.roster r v.ok.long (subst (λ (x : Job). job_ok x p.roster ≡ true) j v.job)) a h)))
