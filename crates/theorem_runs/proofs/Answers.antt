-- Which message comes after which answer: proofs.
use Rattle.std.specs.Prelude.{Option, Some, None}
use mathlib.Core.Path.{◌≡◌, refl, sym, ap, ◌∙◌, subst}
use mathlib.Core.Logic.{◌≢◌}
use mathlib.Core.Bool.{Bool, true, false}
use Prim.Native.Nat.{ℕ, ◌+◌, ◌≤◌, ◌<◌}
use native.Mathlib.Decide.{ℕ_discrete}
use native.Mathlib.Omega.{arith}
use borrow.Author.Tests.{lt-ltb, le-ltb}
use Rattle.laws_words.specs.Words.{pick}
use Rattle.laws_words.specs.Tests.{clash, and-false}
use Rattle.rules_base.specs.Limits.{version_top}
use Rattle.rules_base.specs.Sets.{lowest, without}
use Rattle.rules_base.proofs.Sets.{size-le, without-lt}
use Rattle.rules_pool.specs.declared.State.{State}
use Rattle.rules_pool.specs.declared.Session.{Session}
use Rattle.rules_pool.specs.declared.Step.{Step}
use Rattle.rules_pool.specs.declared.Phase.{Phase}
use Rattle.rules_pool.specs.declared.Run.{Run}
use Rattle.rules_pool.specs.declared.Job.{Job}
use Rattle.rules_pool.specs.declared.Roster.{Roster}
use Rattle.rules_pool.specs.declared.Pool.{Pool}
use Rattle.rules_pool.specs.declared.Message.{Message}
use Rattle.rules_pool.specs.declared.Told.{Told}
use Rattle.rules_pool.specs.declared.Outcome.{Outcome}
use Rattle.rules_pool.specs.declared.Reply.{Reply}
use Rattle.rules_pool.specs.declared.Sent.{Sent}
use Rattle.rules_pool.specs.declared.Turn.{Turn}
use Rattle.rules_pool.specs.declared.Kind.{Kind}
use Rattle.rules_pool.specs.declared.Move.{Move}
use Rattle.rules_pool.specs.declared.Posted.{Posted}
use Rattle.rules_pool.specs.Session.{candidate, moved}
use Rattle.rules_pool.specs.Sessions.{session_at, ids_of}
use Rattle.rules_pool.specs.Changes.{more, entered, unmarked}
use Rattle.rules_pool.specs.StateRules.{job_ok}
use Rattle.rules_pool.specs.Run.{hand, rest, counted, go, ahead, to_spread, to_gather, to_last, to_base, to_versions, receiver_at, receiver, went_on, failed_at, failed_answer, version_brought, good_at, good, takes, awaited_in}
use Rattle.rules_pool.specs.Recovery.{with_roster, posted, gone_on, disabling, next_number}
use Rattle.rules_pool.specs.Exit.{number_of}
use Rattle.rules_client.specs.Answers.{entered_by, moved_on, reported, answered, answer_refusal, answer}
use Rattle.rules_client.specs.Client.{carried, answer_turn}
use Rattle.rules_client.specs.Events.{Event, turn_of, next, Lent, record_of, state_of}
use Rattle.laws_client.proofs.Rosters.{below_top, count-is}
use Rattle.laws_client.proofs.Pools.{Valid}
use Rattle.laws_client.proofs.Records.{entered_at, entered-numbers}
use Rattle.laws_client.proofs.Runs.{RunOk, run-facts, run_room, entered-other, entered-members, entered-version}
use Rattle.laws_client.proofs.RunBound.{counted-one, FitAt, lowers}
use Rattle.laws_client.proofs.AnswersKept.{candidate-below, fit_of, run-able}
use Rattle.theorem_runs.specs.Words.{Iff, InOrder, Member, version_of, Lowest, But, Left, says}
use Rattle.theorem_runs.specs.Answers.{Whose, Stay, Enters, Goes, Ends, ToSpread, ToGather, ToLast, ToBase, ToVersions, Disables, Fails, Plain, Brings, Good, Does, Counts, RunAnswered, Someones, SomebodysTurn}
use Rattle.theorem_runs.proofs.Words.{In, lowest-is, lowest-of, in-turn, but_in, order-valid, done-is, sent_is}
use Rattle.theorem_runs.proofs.Begins.{awaited-some}

same-ids : (s : ℕ) (id : ℕ) → Iff (In s id) (In s id)
same-ids s id = ((λ h. h), λ h. h)

-- ---- the run in hand of a pool in order

pub run_in : (c : Pool) (r : Run) → InOrder c → c.job ≡ Job.Running r → RunOk c.roster r
run_in c r o e = run-facts c.roster r o.sixteen (subst (λ (j : Job). job_ok j c.roster ≡ true) e (order-valid c o).job)

pub fit-in : (c : Pool) (r : Run) → Valid c → RunOk c.roster r → FitAt r.phase c.roster.members r
fit-in c r v q = fit_of r.phase c.roster r v.ok q q.some q.source

-- somebody is left in every phase but ENABLE_POOL
turn_at : (p : Phase) (members : ℕ) (r : Run) → FitAt p members r → r.phase ≡ p → Someones r
turn_at (Phase.Versions best) members r f e = record { who = lowest r.left; turn = subst (λ (q : Phase). Whose q r (lowest r.left)) (sym e) (lowest-of r.left f.0.1) }
turn_at (Phase.Base step) members r f e = record { who = lowest r.left; turn = subst (λ (q : Phase). Whose q r (lowest r.left)) (sym e) (lowest-of r.left f.0.1) }
turn_at Phase.LastIo members r f e = record { who = lowest r.left; turn = subst (λ (q : Phase). Whose q r (lowest r.left)) (sym e) (lowest-of r.left f.0.1) }
turn_at (Phase.Gather step) members r f e = record { who = lowest r.left; turn = subst (λ (q : Phase). Whose q r (lowest r.left)) (sym e) (lowest-of r.left f.0.1) }
turn_at (Phase.Enable every) members r f e = record { who = r.source; turn = subst (λ (q : Phase). Whose q r r.source) (sym e) refl }
turn_at (Phase.Spread step) members r f e = record { who = lowest r.left; turn = subst (λ (q : Phase). Whose q r (lowest r.left)) (sym e) (lowest-of r.left f.1) }

pub somebodys-turn : SomebodysTurn
somebodys-turn c r o e = turn_at r.phase c.roster.members r (fit-in c r (order-valid c o) (run_in c r o e)) refl

-- ---- what comes, whatever the sessions are then

-- what a run says looks at the sessions' numbers alone
says-as : (ro : Roster) (i j : Job) (m n k : ℕ) (p : Phase) (source x : ℕ)
    → says (record { roster = ro; job = i; number = m; chunks = k }) p source x ≡ says (record { roster = ro; job = j; number = n; chunks = k }) p source x
says-as ro i j m n k (Phase.Versions best) source x = refl
says-as ro i j m n k (Phase.Base Step.Ready) source x = refl
says-as ro i j m n k (Phase.Base Step.Send) source x = refl
says-as ro i j m n k (Phase.Base Step.Done) source x = refl
says-as ro i j m n k Phase.LastIo source x = refl
says-as ro i j m n k (Phase.Gather Step.Ready) source x = refl
says-as ro i j m n k (Phase.Gather Step.Send) source x = refl
says-as ro i j m n k (Phase.Gather Step.Done) source x = refl
says-as ro i j m n k (Phase.Enable every) source x = refl
says-as ro i j m n k (Phase.Spread Step.Ready) source x = refl
says-as ro i j m n k (Phase.Spread Step.Send) source x = refl
says-as ro i j m n k (Phase.Spread Step.Done) source x = refl

-- what an answer hands back that came to this
abbrev hands_back : Posted → ℕ → Told → Sent
hands_back u taken told = record { outcome = Outcome.Taken taken; told = told; awaited = u.awaited; number = number_of u.awaited u.pool.number }

module _ (c : Pool) (r : Run) (ro : Roster) (taken : ℕ) (told : Told) (one : counted r.taken ≡ r.taken + 1) (vs : ro.version ≡ version_of c) (ms : ro.members ≡ c.roster.members) (room : version_of c < version_top) (small : c.roster.members < 65536) where
  abbrev then : Option Run → Posted
  then n = gone_on n (with_roster c ro)

  abbrev hands : Option Run → Sent
  hands n = hands_back (then n) taken told

  goes : (p : Phase) (source left : ℕ) (who : ℕ → Type 0) (x : ℕ) → ((id : ℕ) → Iff (In left id) (who id))
      → awaited_in ro.members ro.version (record { phase = p; source = source; left = left; taken = counted r.taken }) ≡ says (with_roster c ro) p source x
      → Goes c (then (go r p source left)).pool (hands (go r p source left)) r p source who x
  unfolding posted
  goes p source left who x f m =
      record {
        awaits = record {
          run = record { phase = p; source = source; left = left; taken = counted r.taken };
          job = refl;
          phase = refl;
          source = refl;
          left = f;
          count = one;
          message = m ∙ says-as ro c.job (Job.Running (record { phase = p; source = source; left = left; taken = counted r.taken })) c.number (next_number c.number) c.chunks p source x;
          number = refl;
          under = ap (λ (b : Bool). pick b 0 (next_number c.number)) (awaited-some ro.members ro.version (record { phase = p; source = source; left = left; taken = counted r.taken }));
        };
        version = vs;
      }

  ends : Ends c (then None).pool (hands None)
  ends = record { quiet = record { job = refl; message = refl; number = refl; under = refl }; version = ap more vs ∙ below_top (version_of c) room }

  to-spread : (left : ℕ) → left < 65536 → (who : ℕ → Type 0) → ((id : ℕ) → Iff (In left id) (who id)) → ToSpread c (then (to_spread r left)).pool (hands (to_spread r left)) r r.source who
  unfolding awaited_in
  to-spread left s who f =
      in-turn left s who f None (go r (Phase.Spread Step.Ready) r.source left)
      (λ y n. Goes c (then n).pool (hands n) r (Phase.Spread Step.Ready) r.source who y)
      (λ n. Ends c (then n).pool (hands n))
      (λ e. goes (Phase.Spread Step.Ready) r.source left who (lowest left) f refl)
      (λ e. ends)

  others : (source : ℕ) → (id : ℕ) → Iff (In (without c.roster.members source) id) (But (Member c) source id)
  others source id = but_in c.roster.members source (Member c) (λ j. ((λ h. h), λ h. h)) id

  to-gather : (source left : ℕ) → left < 65536 → (who : ℕ → Type 0) → ((id : ℕ) → Iff (In left id) (who id))
      → ToGather c (then (to_gather c.roster.members r source left)).pool (hands (to_gather c.roster.members r source left)) r source who
  unfolding awaited_in
  to-gather source left s who f =
      in-turn left s who f (go r (Phase.Enable true) source (without c.roster.members source)) (go r (Phase.Gather Step.Ready) source left)
      (λ y n. Goes c (then n).pool (hands n) r (Phase.Gather Step.Ready) source who y)
      (λ n. Goes c (then n).pool (hands n) r (Phase.Enable true) source (But (Member c) source) source)
      (λ e. goes (Phase.Gather Step.Ready) source left who (lowest left) f refl)
      (λ e. goes (Phase.Enable true) source (without c.roster.members source) (But (Member c) source) source (others source) refl)

  to-last : (source left : ℕ) → left < 65536 → (who : ℕ → Type 0) → ((id : ℕ) → Iff (In left id) (who id))
      → ToLast c (then (to_last c.roster.members r source left)).pool (hands (to_last c.roster.members r source left)) r source who
  unfolding awaited_in
  to-last source left s who f =
      in-turn left s who f (to_gather c.roster.members r source (without c.roster.members source)) (go r Phase.LastIo source left)
      (λ y n. Goes c (then n).pool (hands n) r Phase.LastIo source who y)
      (λ n. ToGather c (then n).pool (hands n) r source (But (Member c) source))
      (λ e. goes Phase.LastIo source left who (lowest left) f refl)
      (λ e. to-gather source (without c.roster.members source) (without-lt c.roster.members source small) (But (Member c) source) (others source))

  to-base : (source left : ℕ) → left < 65536 → (who : ℕ → Type 0) → ((id : ℕ) → Iff (In left id) (who id))
      → ToBase c (then (to_base c.roster.members r source left)).pool (hands (to_base c.roster.members r source left)) r source who
  unfolding awaited_in
  to-base source left s who f =
      in-turn left s who f (to_last c.roster.members r source c.roster.members) (go r (Phase.Base Step.Ready) source left)
      (λ y n. Goes c (then n).pool (hands n) r (Phase.Base Step.Ready) source who y)
      (λ n. ToLast c (then n).pool (hands n) r source (Member c))
      (λ e. goes (Phase.Base Step.Ready) source left who (lowest left) f refl)
      (λ e. to-last source c.roster.members small (Member c) (λ j. ((λ h. h), λ h. h)))

  to-versions : (best source left : ℕ) → left < 65536 → (who : ℕ → Type 0) → ((id : ℕ) → Iff (In left id) (who id))
      → ToVersions best c (then (to_versions c.roster.members r best source left)).pool (hands (to_versions c.roster.members r best source left)) r source who
  unfolding awaited_in
  to-versions best source left s who f =
      in-turn left s who f (to_base c.roster.members r source (without c.roster.members source)) (go r (Phase.Versions best) source left)
      (λ y n. Goes c (then n).pool (hands n) r (Phase.Versions best) source who y)
      (λ n. ToBase c (then n).pool (hands n) r source (But (Member c) source))
      (λ e. goes (Phase.Versions best) source left who (lowest left) f refl)
      (λ e. to-base source (without c.roster.members source) (without-lt c.roster.members source small) (But (Member c) source) (others source))

-- ---- the answer

-- what it makes of the pool, and what it hands back
abbrev after : Pool → Move → Pool
after c m = (moved_on c m).pool

abbrev handed : Pool → Move → Sent
handed c m = hands_back (moved_on c m) m.taken (disabling m.disable)

enters-as : (c : Pool) (id : ℕ) (n : Option Run) → (session_at (entered c.roster id) id).state ≡ State.Normal → ((j : ℕ) → j ≢ id → (session_at (entered c.roster id) j).state ≡ state_of c j)
    → ((j : ℕ) → j ≢ id → (session_at (entered c.roster id) j).maintenance ≡ (record_of c j).maintenance) → ((j : ℕ) → (session_at (entered c.roster id) j).mark ≡ true → ⊥)
    → (entered c.roster id).count ≡ c.roster.count + 1 → Enters c (gone_on n (with_roster c (entered c.roster id))).pool id
unfolding posted
enters-as c id None a b d e f = record { own = a; states = b; flags = d; unmarked = e; count = f }
enters-as c id (Some r) a b d e f = record { own = a; states = b; flags = d; unmarked = e; count = f }

module _ (c : Pool) (r : Run) (v : Valid c) (q : RunOk c.roster r) where
  abbrev members : ℕ
  members = c.roster.members

  abbrev version : ℕ
  version = c.roster.version

  room : version < version_top
  room = omega (arith, run_room c.roster v.ok q.plain q.limit)

  one_more : counted r.taken ≡ r.taken + 1
  one_more =
      let w = (lowers members version r Reply.Failed (fit-in c r v q)).fewer in
      counted-one r.taken (omega (arith, w, q.most))

  -- no session changes
  stay : (n : Option Run) → Stay c (gone_on n (with_roster c c.roster)).pool
  unfolding posted
  stay None = record { sessions = λ id. refl; count = refl }
  stay (Some r') = record { sessions = λ id. refl; count = refl }

  -- one enters NORMAL
  enters : (n : Option Run) (id : ℕ) → candidate (session_at c.roster id) ≡ true → Enters c (gone_on n (with_roster c (entered c.roster id))).pool id
  enters n id k =
      enters-as c id n (ap (λ (s : Session). s.state) own) (λ j d. ap (λ (s : Session). s.state) (other j d)) (λ j d. ap (λ (s : Session). s.maintenance) (other j d)) (λ j h. clash h (mark j (ℕ_discrete j id))) count
    where
      below : id < 16
      below = candidate-below c.roster id v.ok.long k

      own : session_at (entered c.roster id) id ≡ moved (session_at c.roster id) State.Normal
      own = entered_at c.roster id v.ok.long below

      other : (j : ℕ) → j ≢ id → session_at (entered c.roster id) j ≡ unmarked (session_at c.roster j)
      other j d = entered-other c.roster id j q.plain d

      mark : (j : ℕ) → Dec (j ≡ id) → (session_at (entered c.roster id) j).mark ≡ false
      mark j (yes e) = rw e (ap (λ (s : Session). s.mark) own ∙ and-false (session_at c.roster id).mark)
      mark j (no d) = ap (λ (s : Session). s.mark) (other j d)

      count : (entered c.roster id).count ≡ c.roster.count + 1
      count = (entered-numbers c.roster id false q.plain).counted ∙ below_top c.roster.count (omega (arith, count-is c.roster v.ok q.plain, size-le (ids_of Kind.Normals c.roster), v.ok.high, v.ok.low))

  -- a failed answer
  disables : (p : Phase) (s : Sent) → FitAt p members r → s.told ≡ disabling (receiver_at p r) → Disables p r s
  disables (Phase.Versions best) s f t = record { to = λ y h. absurd h; nobody = λ n. t }
  disables (Phase.Base step) s f t = record { to = λ y h. t ∙ ap Told.Disable (lowest-is r.left y h); nobody = λ n. absurd (n (hand r) (lowest-of r.left f.0.1)) }
  disables Phase.LastIo s f t = record { to = λ y h. absurd h; nobody = λ n. t }
  disables (Phase.Gather step) s f t = record { to = λ y h. t ∙ ap Told.Disable (sym h); nobody = λ n. absurd (n r.source refl) }
  disables (Phase.Enable every) s f t = record { to = λ y h. absurd h; nobody = λ n. t }
  disables (Phase.Spread step) s f t = record { to = λ y h. t ∙ ap Told.Disable (lowest-is r.left y h); nobody = λ n. absurd (n (hand r) (lowest-of r.left f.1)) }

  receiver-is : (p : Phase) → r.phase ≡ p → disabling (receiver r) ≡ disabling (receiver_at p r)
  unfolding receiver
  receiver-is p e = ap (λ (k : Phase). disabling (receiver_at k r)) e

  abbrev rest-small : FitAt (Phase.Spread Step.Ready) members r → rest r < 65536
  rest-small f = without-lt r.left (hand r) f.0

  but-hand : (id : ℕ) → Iff (In (rest r) id) (But (Left r) (hand r) id)
  but-hand id = but_in r.left (hand r) (Left r) (same-ids r.left) id

  but-x : (x : ℕ) → Lowest (Left r) x → (id : ℕ) → Iff (In (rest r) id) (But (Left r) x id)
  but-x x w id = subst (λ (y : ℕ). Iff (In (rest r) id) (But (Left r) y id)) (lowest-is r.left x w) (but-hand id)

  fails : (p : Phase) (x : ℕ) → r.phase ≡ p → FitAt p members r → Whose p r x → Fails p c (after c (failed_at p r)) (handed c (failed_at p r)) r x
  unfolding moved_on
  fails (Phase.Versions best) x e f w = record { then = ends c r c.roster _ _ one_more refl refl room v.ok.small; disables = disables (Phase.Versions best) _ f (receiver-is _ e); stay = stay None }
  fails (Phase.Base step) x e f w = record { then = ends c r c.roster _ _ one_more refl refl room v.ok.small; disables = disables (Phase.Base step) _ f (receiver-is _ e); stay = stay None }
  fails Phase.LastIo x e f w = record { then = ends c r c.roster _ _ one_more refl refl room v.ok.small; disables = disables Phase.LastIo _ f (receiver-is _ e); stay = stay None }
  fails (Phase.Gather step) x e f w = record { then = ends c r c.roster _ _ one_more refl refl room v.ok.small; disables = disables (Phase.Gather step) _ f (receiver-is _ e); stay = stay None }
  fails (Phase.Enable every) x e f w = record { then = ends c r c.roster _ _ one_more refl refl room v.ok.small; disables = disables (Phase.Enable every) _ f (receiver-is _ e); stay = stay None }
  fails (Phase.Spread step) x e f w =
      record {
        then = to-spread c r c.roster _ _ one_more refl refl room v.ok.small (rest r) (rest-small f) (But (Left r) x) (but-x x w);
        disables = disables (Phase.Spread step) _ f (receiver-is _ e);
        stay = stay (to_spread r (rest r));
      }

  -- a good answer
  plain : (n : Option Run) (comes : Type 0) → comes → Plain c (after c (went_on r n)) (handed c (went_on r n)) comes
  unfolding moved_on
  plain n comes k = record { then = k; told = refl; stay = stay n }

  abbrev Able : Phase → Option ℕ → Type 0
  Able p b = (id : ℕ) → (good_at p members version r b).normal ≡ Some id → candidate (session_at c.roster id) ≡ true

  failed-is : (best : ℕ) → r.phase ≡ Phase.Versions best → failed_answer r ≡ failed_at (Phase.Versions best) r
  unfolding failed_answer
  failed-is best e = ap (λ (p : Phase). failed_at p r) e

  brings : (best x : ℕ) (b : Option ℕ) → r.phase ≡ Phase.Versions best → FitAt (Phase.Versions best) members r → Lowest (Left r) x
      → Brings best c (after c (version_brought members version best r b)) (handed c (version_brought members version best r b)) r x b
  unfolding moved_on
  brings best x None e f w =
      subst (λ (m : Move). Fails (Phase.Versions best) c (after c m) (handed c m) r x) (sym (failed-is best e)) (fails (Phase.Versions best) x e f w)
  brings best x (Some u) e f w = (
    (λ h. subst (λ (m : Move). Fails (Phase.Versions best) c (after c m) (handed c m) r x) (sym (above h ∙ failed-is best e)) (fails (Phase.Versions best) x e f w)),
    (λ h k. subst (λ (m : Move). Plain c (after c m) (handed c m) (ToVersions u c (after c m) (handed c m) r x (But (Left r) x))) (sym (higher h k))
        (plain (to_versions members r u x (rest r)) _ (to-versions c r c.roster _ _ one_more refl refl room v.ok.small u x (rest r) (rest-small f.0) (But (Left r) x) (but-x x w)))),
    λ h k. subst (λ (m : Move). Plain c (after c m) (handed c m) (ToVersions best c (after c m) (handed c m) r r.source (But (Left r) x))) (sym (lower h k))
        (plain (to_versions members r best r.source (rest r)) _ (to-versions c r c.roster _ _ one_more refl refl room v.ok.small best r.source (rest r) (rest-small f.0) (But (Left r) x) (but-x x w))),
  )
    where
      above : version < u → version_brought members version best r (Some u) ≡ failed_answer r
      above h = rw (lt-ltb version u h) refl

      higher : u ≤ version → best < u → version_brought members version best r (Some u) ≡ went_on r (to_versions members r u x (rest r))
      higher h k = rw (le-ltb version u h, lt-ltb best u k) (ap (λ (y : ℕ). went_on r (to_versions members r u y (rest r))) (lowest-is r.left x w))

      lower : u ≤ version → u ≤ best → version_brought members version best r (Some u) ≡ went_on r (to_versions members r best r.source (rest r))
      lower h k = rw (le-ltb version u h, le-ltb best u k) refl

  good-at : (p : Phase) (x : ℕ) (b : Option ℕ) → r.phase ≡ p → FitAt p members r → Whose p r x → Able p b → Good p c (after c (good_at p members version r b)) (handed c (good_at p members version r b)) r x b
  unfolding moved_on awaited_in
  good-at (Phase.Versions best) x b e f w k = brings best x b e f w
  good-at (Phase.Base Step.Ready) x b e f w k =
      plain (ahead r (Phase.Base Step.Send)) _ (goes c r c.roster _ _ one_more refl refl room v.ok.small (Phase.Base Step.Send) r.source r.left (Left r) x (same-ids r.left) (ap (λ (y : ℕ). Message.Send r.source y) (lowest-is r.left x w)))
  good-at (Phase.Base Step.Send) x b e f w k =
      plain (ahead r (Phase.Base Step.Done)) _ (goes c r c.roster _ _ one_more refl refl room v.ok.small (Phase.Base Step.Done) r.source r.left (Left r) x (same-ids r.left) (ap (λ (y : ℕ). Message.Done y false version members) (lowest-is r.left x w)))
  good-at (Phase.Base Step.Done) x b e f w k =
      plain (to_base members r r.source (rest r)) _ (to-base c r c.roster _ _ one_more refl refl room v.ok.small r.source (rest r) (rest-small f.0) (But (Left r) x) (but-x x w))
  good-at Phase.LastIo x b e f w k =
      plain (to_last members r r.source (rest r)) _ (to-last c r c.roster _ _ one_more refl refl room v.ok.small r.source (rest r) (rest-small f.0) (But (Left r) x) (but-x x w))
  good-at (Phase.Gather Step.Ready) x b e f w k =
      plain (ahead r (Phase.Gather Step.Send)) _ (goes c r c.roster _ _ one_more refl refl room v.ok.small (Phase.Gather Step.Send) r.source r.left (Left r) x (same-ids r.left) (ap (λ (y : ℕ). Message.Send y r.source) (lowest-is r.left x w)))
  good-at (Phase.Gather Step.Send) x b e f w k =
      plain (ahead r (Phase.Gather Step.Done)) _ (goes c r c.roster _ _ one_more refl refl room v.ok.small (Phase.Gather Step.Done) r.source r.left (Left r) x (same-ids r.left) refl)
  good-at (Phase.Gather Step.Done) x b e f w k =
      plain (to_gather members r r.source (rest r)) _ (to-gather c r c.roster _ _ one_more refl refl room v.ok.small r.source (rest r) (rest-small f.0) (But (Left r) x) (but-x x w))
  good-at (Phase.Enable every) x b e f w k =
      record {
        then = to-spread c r (entered c.roster r.source) _ _ one_more (entered-version c.roster r.source) (entered-members c.roster r.source) room v.ok.small r.left f (Left r) (same-ids r.left);
        told = refl;
        enters = enters (to_spread r r.left) r.source (k r.source refl);
      }
  good-at (Phase.Spread Step.Ready) x b e f w k =
      plain (ahead r (Phase.Spread Step.Send)) _ (goes c r c.roster _ _ one_more refl refl room v.ok.small (Phase.Spread Step.Send) r.source r.left (Left r) x (same-ids r.left) (ap (λ (y : ℕ). Message.Send r.source y) (lowest-is r.left x w)))
  good-at (Phase.Spread Step.Send) x b e f w k =
      plain (ahead r (Phase.Spread Step.Done)) _ (goes c r c.roster _ _ one_more refl refl room v.ok.small (Phase.Spread Step.Done) r.source r.left (Left r) x (same-ids r.left) (ap (λ (y : ℕ). Message.Done y true version members) (lowest-is r.left x w)))
  good-at (Phase.Spread Step.Done) x b e f w k =
      record {
        then = to-spread c r (entered c.roster (hand r)) _ _ one_more (entered-version c.roster (hand r)) (entered-members c.roster (hand r)) room v.ok.small (rest r) (rest-small f) (But (Left r) x) (but-x x w);
        told = refl;
        enters = subst (λ (y : ℕ). Enters c (after c (good_at (Phase.Spread Step.Done) members version r b)) y) (lowest-is r.left x w) (enters (to_spread r (rest r)) (hand r) (k (hand r) refl));
      }

  does : (a : Reply) (x : ℕ) → Whose r.phase r x → Does a c (after c (takes members version r a)) (handed c (takes members version r a)) r x
  unfolding failed_answer good
  does Reply.Failed x w = fails r.phase x refl (fit-in c r v q) w
  does (Reply.Good b) x w = good-at r.phase x b refl (fit-in c r v q) w (λ id e. run-able c r (Reply.Good b) v q id e)

  counts-at : (n : Option Run) (w : Option ℕ) (s : Sent) → s.outcome ≡ Outcome.Taken (r.taken + 1) → Counts c (gone_on n (with_roster c (entered_by w c.roster))).pool s r
  unfolding posted entered
  counts-at None None s e = record { count = e; members = refl; past = refl; kind = refl; chunks = refl }
  counts-at (Some r') None s e = record { count = e; members = refl; past = refl; kind = refl; chunks = refl }
  counts-at None (Some id) s e = record { count = e; members = entered-members c.roster id; past = rw q.plain refl; kind = rw q.plain refl; chunks = refl }
  counts-at (Some r') (Some id) s e = record { count = e; members = entered-members c.roster id; past = rw q.plain refl; kind = rw q.plain refl; chunks = refl }

  counts : (a : Reply) → Counts c (after c (takes members version r a)) (handed c (takes members version r a)) r
  unfolding moved_on
  counts a =
      counts-at (takes members version r a).next (takes members version r a).normal _
      (ap Outcome.Taken ((lowers members version r a (fit-in c r v q)).raised ∙ one_more))

pub run-answered : RunAnswered
unfolding answer_turn answer answer_refusal
run-answered c xs number a s r x o e h w =
    let d = done-is (Event.answer xs number a) c (answered c.job c a) s refl h in
    let t : turn_of (Event.answer xs number a) c ≡ reported c (takes c.roster.members c.roster.version r a) = d.1 ∙ ap (λ (j : Job). answered j c a) e in
    let z : handed c (takes c.roster.members c.roster.version r a) ≡ s = sent_is _ _ (sym (ap (λ (u : Turn). u.answer) t) ∙ h) in
    let y : next (Event.answer xs number a) c ≡ after c (takes c.roster.members c.roster.version r a) = ap (λ (u : Turn). u.pool) t in
    let v = order-valid c o in
    let q = run_in c r o e in (
      subst (λ (p : Pool). Does a c p s r x) (sym y) (subst (λ (k : Sent). Does a c (after c (takes c.roster.members c.roster.version r a)) k r x) z (does c r v q a x w)),
      subst (λ (p : Pool). Counts c p s r) (sym y) (subst (λ (k : Sent). Counts c (after c (takes c.roster.members c.roster.version r a)) k r) z (counts c r v q a)),
      ap (λ (u : Turn). Lent.some (carried u.effect xs)) t,
    )
