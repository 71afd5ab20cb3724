-- A run begins exactly when, as which case: proofs.
use Rattle.std.specs.Prelude.{Option, Some, None}
use mathlib.Core.Path.{◌≡◌, refl, sym, ap, ◌∙◌, subst}
use mathlib.Core.Logic.{◌⊎◌, inl, inr}
use mathlib.Core.Bool.{Bool, true, false, not, ◌&&◌, ◌||◌}
use mathlib.Core.List.{List}
use Prim.Native.Nat.{ℕ, ◌+◌, ◌-◌, ◌%◌, ◌^◌, ◌≤◌}
use native.Mathlib.Decide.{ℕ_discrete}
use native.Mathlib.Omega.{arith}
use lib.Dec.{eqb, ltb}
use borrow.Author.Tests.{eqb-true, eq-eqb, ltb-false, le-ltb, not-false}
use Rattle.laws_words.specs.Words.{pick}
use Rattle.laws_words.specs.Tests.{by_cases, clash, either, and_left}
use Rattle.rules_base.specs.Limits.{version_limit}
use Rattle.rules_base.specs.Sets.{has, lowest, without}
use Rattle.rules_base.proofs.Sets.{has-without-other, lowest-in, size-some, size-without}
use Rattle.rules_pool.specs.declared.State.{State}
use Rattle.rules_pool.specs.declared.Step.{Step}
use Rattle.rules_pool.specs.declared.Phase.{Phase}
use Rattle.rules_pool.specs.declared.Run.{Run}
use Rattle.rules_pool.specs.declared.Job.{Job}
use Rattle.rules_pool.specs.declared.Roster.{Roster}
use Rattle.rules_pool.specs.declared.Pool.{Pool}
use Rattle.rules_pool.specs.declared.Message.{Message}
use Rattle.rules_pool.specs.declared.Told.{Told}
use Rattle.rules_pool.specs.declared.Outcome.{Outcome}
use Rattle.rules_pool.specs.declared.Effect.{Effect}
use Rattle.rules_pool.specs.declared.Sent.{Sent}
use Rattle.rules_pool.specs.declared.Answer.{Answer}
use Rattle.rules_pool.specs.declared.Turn.{Turn}
use Rattle.rules_pool.specs.declared.Kind.{Kind}
use Rattle.rules_pool.specs.Sessions.{session_at, ids_of}
use Rattle.rules_pool.specs.Jobs.{is_idle, is_running, is_peer}
use Rattle.rules_pool.specs.Run.{hand, step_message, awaited_at, awaited_in}
use Rattle.rules_pool.specs.Session.{is_nothing, is_created, is_reconnecting}
use Rattle.rules_pool.specs.Cases.{case_of, begun}
use Rattle.rules_pool.specs.Changes.{flagged_at, went, entered, removing}
use Rattle.rules_pool.specs.declared.Reply.{Reply}
use Rattle.rules_pool.specs.Recovery.{posted, beginning, tried, with_roster, next_number, run_ended}
use Rattle.rules_pool.specs.Exit.{changed, tried_with, number_of}
use Rattle.rules_client.specs.Events.{Event, next, state_of, is_sync}
use Rattle.rules_client.specs.Joins.{create_refusal, create_done, join_create, assemble_refusal, assembled, assemble_done, join_assemble}
use Rattle.rules_client.specs.Enables.{enables, enable_refusal, enable_done, enable, maintenance_refusal, maintenance_done, maintenance}
use Rattle.rules_client.specs.Links.{down_refusal, dropped, down_at, down_done, link_down, check_refusal, check_done, store_check, rejoin_refusal, rejoin, try_refusal, try_run}
use Rattle.rules_client.specs.Extend.{picked, extend_refusal, extended, extend_done, extend}
use Rattle.rules_client.specs.Remove.{remove_refusal, remove_begun, gone, remove}
use Rattle.rules_client.specs.Writes.{loses, marks, write_refusal, write_done, write_ended, sync_refusal, sync_done, synced}
use Rattle.rules_client.specs.Answers.{awaits, answer_refusal, answered, answer}
use Rattle.rules_client.specs.Client.{extend_turn, remove_turn, write_turn, synced_turn, answer_turn}
use Rattle.laws_client.proofs.Exit.{halts}
use Rattle.laws_client.proofs.WritesKept.{wrote_in}
use Rattle.theorem_client.proofs.States.{reconnecting-is}
use Rattle.laws_client.proofs.Pools.{Valid}
use Rattle.laws_client.proofs.Tried.{tried-roster}
use Rattle.theorem_client.proofs.Law.{law}
use Rattle.theorem_client.proofs.Sessions.{idle-is}
use Rattle.theorem_client.proofs.Tries.{started-calm, answered-calm}
use Rattle.laws_client.proofs.Ids.{Long, ids-lt}
use Rattle.laws_client.proofs.Rosters.{Ok}
use Rattle.laws_client.proofs.Runs.{strays-none, none-stray}
use Rattle.theorem_runs.specs.Words.{Iff, Normal, Candidate, Marked, Member, version_of, Nobody, Lowest, But, Left, says, Awaits}
use Rattle.theorem_runs.specs.Begins.{Case1, Case2, Case3, MayRun, Runs, Tried, Tries, BeginsWhen, GoesOn, BeginsOnly, TryDoes}
use Rattle.theorem_runs.proofs.Words.{In, lowest-is, lowest-as, some_in, none_in, zero-none, some-lowest, but_in, normals, candidates, candidate-is, marked, order-valid, done-is, sent_is}

-- ---- the run of each case

abbrev pub is_over : Option Run → Bool
is_over None = true
is_over (Some r) = false

abbrev first : Roster → Run
first ro = record { phase = Phase.Spread Step.Ready; source = lowest (ids_of Kind.Normals ro); left = ids_of Kind.Candidates ro; taken = 0 }

abbrev second : Roster → Run
second ro =
    record {
      phase = Phase.Enable false;
      source = lowest (ids_of Kind.Marked ro);
      left = without (ids_of Kind.Candidates ro) (lowest (ids_of Kind.Marked ro));
      taken = 0;
    }

abbrev third : Roster → Run
third ro = record { phase = Phase.Versions 0; source = lowest ro.members; left = ro.members; taken = 0 }

module _ (c : Pool) (ok : Ok c.roster) where
  l : Long c.roster
  l = ok.long

  low-is : version_of c ≤ 2 ^ 63 - 34 → ltb version_limit (version_of c) ≡ false
  low-is h = le-ltb version_limit (version_of c) h

  no-normal : Nobody (Normal c) → eqb (ids_of Kind.Normals c.roster) 0 ≡ true
  no-normal n = none_in _ (ids-lt Kind.Normals c.roster l) (λ id h. n id ((normals c l id).0 h))

  no-mark : Nobody (Marked c) → eqb (ids_of Kind.Marked c.roster) 0 ≡ true
  no-mark n = none_in _ (ids-lt Kind.Marked c.roster l) (λ id h. n id ((marked c l id).0 h))

  -- there is one mark at most
  the-mark : (source : ℕ) → Marked c source → lowest (ids_of Kind.Marked c.roster) ≡ source
  the-mark source m = elim (ℕ_discrete (lowest (ids_of Kind.Marked c.roster)) source) [
    | yes e ↦ e
    | no d ↦
        let h = (marked c l source).1 m in
        let k = lowest-in (ids_of Kind.Marked c.roster) (some_in _ source h).1 in
        let a = size-without (ids_of Kind.Marked c.roster) source h in
        let b = size-some (without (ids_of Kind.Marked c.roster) source) (lowest (ids_of Kind.Marked c.roster)) (has-without-other _ source _ d ∙ k) in
        absurd (let z : ⊥ = omega (arith, a, b, ok.one-mark) in z)
  ]

  is_one : version_of c ≤ 2 ^ 63 - 34 → (n : ℕ) → Normal c n → (x : ℕ) → Candidate c x → begun c.roster ≡ Some (first c.roster)
  unfolding begun case_of
  is_one low n some x exists =
      rw (low-is low, (some_in _ n ((normals c l n).1 some)).0, (some_in _ x ((candidates c l x).1 exists)).0) refl

  is-two : version_of c ≤ 2 ^ 63 - 34 → Nobody (Normal c) → (source : ℕ) → Marked c source → Candidate c source → begun c.roster ≡ Some (second c.roster)
  unfolding begun case_of
  is-two low n source m k =
      let q : has (ids_of Kind.Candidates c.roster) (lowest (ids_of Kind.Marked c.roster)) ≡ true = rw (the-mark source m) ((candidates c l source).1 k) in
      rw (low-is low, no-normal n, (some_in _ source ((marked c l source).1 m)).0, q) refl

  is-three : version_of c ≤ 2 ^ 63 - 34 → Nobody (Normal c) → Nobody (Marked c) → (m : ℕ) → Member c m → ((id : ℕ) → Member c id → Candidate c id)
      → begun c.roster ≡ Some (third c.roster)
  unfolding begun case_of
  is-three low n u m some every =
      let s : ids_of (Kind.Strays c.roster.members) c.roster ≡ 0 = none-stray c.roster c.roster.members l (λ j h. (candidate-is (session_at c.roster j)).1 (every j h)) in
      rw (low-is low, no-normal n, no-mark u, (some_in _ m some).0, eq-eqb _ 0 s) refl

  -- what begins is one of them
  may : (r : Run) → begun c.roster ≡ Some r → MayRun c
  unfolding begun case_of
  may r =
      at (ltb version_limit (version_of c)) (eqb (ids_of Kind.Normals c.roster) 0) (eqb (ids_of Kind.Candidates c.roster) 0) (eqb (ids_of Kind.Marked c.roster) 0)
      (has (ids_of Kind.Candidates c.roster) (lowest (ids_of Kind.Marked c.roster))) (eqb c.roster.members 0) (eqb (ids_of (Kind.Strays c.roster.members) c.roster) 0)
      refl refl refl refl refl refl refl
    where
      one : eqb (ids_of Kind.Normals c.roster) 0 ≡ false → eqb (ids_of Kind.Candidates c.roster) 0 ≡ false → Case1 c
      one n k =
          let a = some-lowest _ (ids-lt Kind.Normals c.roster l) n in
          let b = some-lowest _ (ids-lt Kind.Candidates c.roster l) k in
          record {
            normal = lowest (ids_of Kind.Normals c.roster);
            some = (normals c l _).0 (lowest-in _ a);
            candidate = lowest (ids_of Kind.Candidates c.roster);
            exists = (candidates c l _).0 (lowest-in _ b);
          }

      two : eqb (ids_of Kind.Normals c.roster) 0 ≡ true → eqb (ids_of Kind.Marked c.roster) 0 ≡ false → has (ids_of Kind.Candidates c.roster) (lowest (ids_of Kind.Marked c.roster)) ≡ true → Case2 c
      two n m k =
          let a = some-lowest _ (ids-lt Kind.Marked c.roster l) m in
          record {
            none = λ id h. zero-none _ n id ((normals c l id).1 h);
            last = lowest (ids_of Kind.Marked c.roster);
            marked = (marked c l _).0 (lowest-in _ a);
            candidate = (candidates c l _).0 k;
          }

      three : eqb (ids_of Kind.Normals c.roster) 0 ≡ true → eqb (ids_of Kind.Marked c.roster) 0 ≡ true → eqb c.roster.members 0 ≡ false → eqb (ids_of (Kind.Strays c.roster.members) c.roster) 0 ≡ true → Case3 c
      three n m k s =
          let a = some-lowest c.roster.members ok.small k in
          record {
            none = λ id h. zero-none _ n id ((normals c l id).1 h);
            unmarked = λ id h. zero-none _ m id ((marked c l id).1 h);
            member = lowest c.roster.members;
            nonempty = lowest-in _ a;
            every = λ id h. (candidate-is (session_at c.roster id)).0 (strays-none c.roster c.roster.members l (eqb-true _ _ s) id h);
          }

      at : (v n k m h e s : Bool) → ltb version_limit (version_of c) ≡ v → eqb (ids_of Kind.Normals c.roster) 0 ≡ n → eqb (ids_of Kind.Candidates c.roster) 0 ≡ k → eqb (ids_of Kind.Marked c.roster) 0 ≡ m
          → has (ids_of Kind.Candidates c.roster) (lowest (ids_of Kind.Marked c.roster)) ≡ h → eqb c.roster.members 0 ≡ e → eqb (ids_of (Kind.Strays c.roster.members) c.roster) 0 ≡ s
          → pick v None
          (pick (not n) (pick k None (Some (first c.roster)))
          (pick (not m) (pick h (Some (second c.roster)) None)
          (pick (e || not s) None (Some (third c.roster))))) ≡ Some r → MayRun c
      at true n k m h e s qv qn qk qm qh qe qs z = clash refl (ap is_over z)
      at false false true m h e s qv qn qk qm qh qe qs z = clash refl (ap is_over z)
      at false false false m h e s qv qn qk qm qh qe qs z = (ltb-false version_limit (version_of c) qv, inl (one qn qk))
      at false true k false true e s qv qn qk qm qh qe qs z = (ltb-false version_limit (version_of c) qv, inr (inl (two qn qm qh)))
      at false true k false false e s qv qn qk qm qh qe qs z = clash refl (ap is_over z)
      at false true k true h true s qv qn qk qm qh qe qs z = clash refl (ap is_over z)
      at false true k true h false true qv qn qk qm qh qe qs z = (ltb-false version_limit (version_of c) qv, inr (inr (three qn qm qe qs)))
      at false true k true h false false qv qn qk qm qh qe qs z = clash refl (ap is_over z)

  -- where one case holds, a run begins
  some-run : MayRun c → begun c.roster ≡ None → ⊥
  some-run (low, inl k) z = clash refl (ap is_over (sym z ∙ is_one low k.normal k.some k.candidate k.exists))
  some-run (low, inr (inl k)) z = clash refl (ap is_over (sym z ∙ is-two low k.none k.last k.marked k.candidate))
  some-run (low, inr (inr k)) z = clash refl (ap is_over (sym z ∙ is-three low k.none k.unmarked k.member k.nonempty k.every))

-- ---- recovery tried

-- what an accepted event that came to this hands back
abbrev sent_with : Pool → Message → Outcome → Told → Sent
sent_with q m outcome told = record { outcome = outcome; told = told; awaited = m; number = number_of m q.number }

-- a run says something
pub awaited-some : (members version : ℕ) (r : Run) → is_nothing (awaited_in members version r) ≡ false
unfolding awaited_in
awaited-some members version r = at r.phase
  where
    step : (s : Step) (from to : ℕ) (keep enable : Bool) → is_nothing (step_message s from to keep enable version members) ≡ false
    step Step.Ready from to keep enable = refl
    step Step.Send from to keep enable = refl
    step Step.Done from to keep enable = refl

    at : (p : Phase) → is_nothing (awaited_at p members version r) ≡ false
    at (Phase.Versions best) = refl
    at (Phase.Base s) = step s r.source (hand r) false false
    at Phase.LastIo = refl
    at (Phase.Gather s) = step s (hand r) r.source true false
    at (Phase.Enable every) = refl
    at (Phase.Spread s) = step s r.source (hand r) false true

on-is : (a b : Run) → Some a ≡ Some b → a ≡ b
on-is a b e = cc e

module _ (p q : Pool) (outcome : Outcome) (told : Told) (ok : Ok q.roster) (idle : q.job ≡ Job.Idle) (same : q.number ≡ p.number) where
  -- a run r that began
  module _ (r : Run) (e : begun q.roster ≡ Some r) where
    abbrev c' : Pool
    c' = record { roster = q.roster; job = Job.Running r; number = next_number q.number; chunks = q.chunks }

    abbrev sent : Sent
    sent = sent_with c' (awaited_in q.roster.members q.roster.version r) outcome told

    under : sent.number ≡ c'.number
    under = ap (λ (b : Bool). pick b 0 (next_number q.number)) (awaited-some q.roster.members q.roster.version r)

    numbered : c'.number ≡ (p.number + 1) % 2 ^ 32
    numbered = ap next_number same

    awaits-run : (r' : Run) → r ≡ r' → (ph : Phase) (from : ℕ) (who : ℕ → Type 0) (x : ℕ) → r'.phase ≡ ph → r'.source ≡ from → ((id : ℕ) → Iff (Left r' id) (who id)) → r'.taken ≡ 0
        → awaited_in q.roster.members q.roster.version r' ≡ says c' ph from x → Awaits p c' sent ph from who 0 x
    awaits-run r' z ph from who x a b d f g =
        record {
          run = r;
          job = refl;
          phase = ap (λ (k : Run). k.phase) z ∙ a;
          source = ap (λ (k : Run). k.source) z ∙ b;
          left = λ id. (λ h. (d id).0 (ap (λ (k : Run). has k.left id) (sym z) ∙ h), λ h. ap (λ (k : Run). has k.left id) z ∙ (d id).1 h);
          count = ap (λ (k : Run). k.taken) z ∙ f;
          message = ap (awaited_in q.roster.members q.roster.version) z ∙ g;
          number = numbered;
          under = under;
        }

    long : Long q.roster
    long = ok.long

    normal-lowest : (source : ℕ) → Lowest (Normal c') source → lowest (ids_of Kind.Normals q.roster) ≡ source
    normal-lowest source h = lowest-is _ source (lowest-as (Normal c') (In (ids_of Kind.Normals q.roster)) source (λ id. let k = normals c' long id in (k.1, k.0)) h)

    candidate-lowest : (x : ℕ) → Lowest (Candidate c') x → lowest (ids_of Kind.Candidates q.roster) ≡ x
    candidate-lowest x h = lowest-is _ x (lowest-as (Candidate c') (In (ids_of Kind.Candidates q.roster)) x (λ id. let k = candidates c' long id in (k.1, k.0)) h)

    ran : Tried p c' sent
    unfolding awaited_in
    ran =
        record {
          begins = ((λ k. may c' ok r e), λ k. record { run = r; job = refl });
          one = λ source x k n m.
              awaits-run (first q.roster) (on-is _ _ (sym e ∙ is_one c' ok k.0 source n.0 x m.0)) (Phase.Spread Step.Ready) source (Candidate c') x refl (normal-lowest source n)
              (candidates c' long) refl (ap (λ (y : ℕ). Message.Ready y false) (candidate-lowest x m));
          two = λ source k n m.
              awaits-run (second q.roster) (on-is _ _ (sym e ∙ is-two c' ok k.0 n source m (second-candidate source n m k.1))) (Phase.Enable false) source (But (Candidate c') source) source refl (the-mark c' ok source m)
              (others source m) refl (ap (λ (y : ℕ). Message.Enable y q.roster.version q.roster.members) (the-mark c' ok source m));
          three = λ x k n m h.
              awaits-run (third q.roster) (on-is _ _ (sym e ∙ is-three c' ok k.0 n m x h.0 (all-candidates n m k.1))) (Phase.Versions 0) x (Member c') x refl (lowest-is _ x h)
              (λ id. ((λ z. z), λ z. z)) refl (ap (λ (y : ℕ). Message.GetVersion y) (lowest-is _ x h));
          none = λ n. absurd (n (may c' ok r e));
        }
      where
        second-candidate : (source : ℕ) → Nobody (Normal c') → Marked c' source → Case1 c' ⊎ Case2 c' ⊎ Case3 c' → Candidate c' source
        second-candidate source n m (inl k) = absurd (n k.normal k.some)
        second-candidate source n m (inr (inl k)) = subst (Candidate c') (sym (the-mark c' ok k.last k.marked) ∙ the-mark c' ok source m) k.candidate
        second-candidate source n m (inr (inr k)) = absurd (k.unmarked source m)

        all-candidates : Nobody (Normal c') → Nobody (Marked c') → Case1 c' ⊎ Case2 c' ⊎ Case3 c' → (id : ℕ) → Member c' id → Candidate c' id
        all-candidates n m (inl k) id h = absurd (n k.normal k.some)
        all-candidates n m (inr (inl k)) id h = absurd (m k.last k.marked)
        all-candidates n m (inr (inr k)) id h = k.every id h

        others : (source : ℕ) → Marked c' source → (id : ℕ) → Iff (In (without (ids_of Kind.Candidates q.roster) (lowest (ids_of Kind.Marked q.roster))) id) (But (Candidate c') source id)
        others source m id =
            subst (λ (y : ℕ). Iff (In (without (ids_of Kind.Candidates q.roster) (lowest (ids_of Kind.Marked q.roster))) id) (But (Candidate c') y id)) (the-mark c' ok source m)
            (but_in _ (lowest (ids_of Kind.Marked q.roster)) (Candidate c') (candidates c' long) id)

  pub tried-does : Tried p (tried q).pool (sent_with (tried q).pool (tried q).awaited outcome told)
  unfolding tried posted
  tried-does = at (begun q.roster) refl
    where
      at : (n : Option Run) → begun q.roster ≡ n → Tried p (beginning n q).pool (sent_with (beginning n q).pool (beginning n q).awaited outcome told)
      at None e =
          record {
            begins = ((λ k. clash refl (ap is_idle (sym idle ∙ k.job))), λ k. absurd (some-run q ok k e));
            one = λ source x k n m. absurd (some-run q ok k e);
            two = λ source k n m. absurd (some-run q ok k e);
            three = λ x k n m h. absurd (some-run q ok k e);
            none = λ n. record { job = idle; message = refl; number = same; under = refl };
          }
      at (Some r) e = ran r e

-- ---- the events that try

-- the sessions that recovery was tried with are in order
tried-ok : (q : Pool) → Valid (tried q).pool → Ok q.roster
tried-ok q v = subst Ok (tried-roster q) v.ok

-- an event that did so
pub trial : (c q : Pool) (outcome : Outcome) (told : Told) (effect : Effect) (t : Turn) (s : Sent) → t ≡ tried_with c q outcome told effect → t.answer ≡ Answer.Done s → Valid t.pool
    → q.job ≡ Job.Idle → q.number ≡ c.number → Tried c t.pool s
trial c q outcome told effect t s z h v idle same =
    let e : sent_with (tried q).pool (tried q).awaited outcome told ≡ s = sent_is _ _ (sym (ap (λ (u : Turn). u.answer) z) ∙ h) in
    subst (λ (x : Sent). Tried c t.pool x) e
    (subst (λ (u : Turn). Tried c u.pool (sent_with (tried q).pool (tried q).awaited outcome told)) (sym z)
    (tried-does c q outcome told (tried-ok q (subst (λ (u : Turn). Valid u.pool) z v)) idle same))

idle-six : (c : Pool) → not (is_idle c.job) ≡ false → c.job ≡ Job.Idle
idle-six c e = idle-is c.job (not-false (is_idle c.job) e)

-- enable, and a session brought back: which of the two
enable-ends : (c : Pool) (id : ℕ) → is_created (state_of c id) ≡ false → enable_done c id ≡ tried_with c (with_roster c (flagged_at c.roster id false)) Outcome.Plain Told.Nothing Effect.Keep
unfolding enable_done
enable-ends c id e = rw e refl

enable-enters : (c : Pool) (id : ℕ) → is_created (state_of c id) ≡ true → enable_done c id ≡ changed c (entered c.roster id) Told.Nothing
unfolding enable_done
enable-enters c id e = rw e refl

pub check-tries : (c : Pool) (id : ℕ) → is_sync c ≡ false → check_done c id ≡ tried_with c (with_roster c (went c.roster id State.Reconnecting)) Outcome.Plain Told.Nothing Effect.Keep
unfolding check_done
check-tries c id e = rw e refl

check-enters : (c : Pool) (id : ℕ) → is_sync c ≡ true → check_done c id ≡ changed c (entered c.roster id) Told.Nothing
unfolding check_done
check-enters c id e = rw e refl

pub begins-when : BeginsWhen
unfolding down_refusal join_assemble assemble_refusal assemble_done enable enable_refusal enable_done store_check check_refusal rejoin rejoin_refusal check_done try_run try_refusal extend extend_refusal extend_done extend_turn link_down down_done
begins-when c _ s o h (Tries.assemble id set version) =
    let d = done-is (Event.join_assemble id set version) c (assemble_done c id set version) s refl h in
    trial c (with_roster c (assembled c.roster id set version)) _ _ _ _ s d.1 h ((law (Event.join_assemble id set version) c).rules (order-valid c o)) (idle-six c (d.0 6 refl)) refl
begins-when c _ s o h (Tries.enable id st) =
    let d = done-is (Event.enable id) c (enable_done c id) s refl h in
    trial c (with_roster c (flagged_at c.roster id false)) _ _ _ _ s (d.1 ∙ enable-ends c id (ap is_created st)) h ((law (Event.enable id) c).rules (order-valid c o)) (idle-six c (d.0 6 refl)) refl
begins-when c _ s o h (Tries.store_check id plain) =
    let d = done-is (Event.store_check id) c (check_done c id) s refl h in
    trial c (with_roster c (went c.roster id State.Reconnecting)) _ _ _ _ s (d.1 ∙ check-tries c id plain) h ((law (Event.store_check id) c).rules (order-valid c o)) (idle-six c (d.0 6 refl)) refl
begins-when c _ s o h (Tries.rejoin id plain) =
    let d = done-is (Event.rejoin id) c (check_done c id) s refl h in
    trial c (with_roster c (went c.roster id State.Reconnecting)) _ _ _ _ s (d.1 ∙ check-tries c id plain) h ((law (Event.rejoin id) c).rules (order-valid c o)) (idle-six c (d.0 6 refl)) refl
begins-when c _ s o h Tries.try =
    let d = done-is Event.try_run c (tried_with c c Outcome.Plain Told.Nothing Effect.Keep) s refl h in
    trial c c _ _ _ _ s d.1 h ((law Event.try_run c).rules (order-valid c o)) (idle-six c (d.0 6 refl)) refl
begins-when c _ s o h (Tries.extend xs) =
    let d = done-is (Event.extend xs) c (extend_done c (picked c.roster)) s refl h in
    trial c (with_roster c (extended c.roster (picked c.roster))) _ _ _ _ s d.1 h ((law (Event.extend xs) c).rules (order-valid c o)) (idle-six c (d.0 6 refl)) refl
begins-when c _ s o h (Tries.link_down id r run) =
    let d = done-is (Event.link_down id) c (down_done c id) s refl h in
    trial c (run_ended (with_roster c (dropped c.roster id))) _ _ _ _ s (d.1 ∙ ap (λ (j : Job). down_at j c id) run) h ((law (Event.link_down id) c).rules (order-valid c o)) refl refl

-- ---- and no other

-- no run is in hand after it
still : (c : Pool) (e : Event) → is_running (next e c).job ≡ false → Runs (next e c) → Tries c e ⊎ GoesOn c e
still c e n k = clash (ap is_running k.job) n

calm : (c : Pool) (t d : Turn) → t ≡ d → is_running d.pool.job ≡ false → is_running t.pool.job ≡ false
calm c t d z n = ap (λ (u : Turn). is_running u.pool.job) z ∙ n

quiet-job : (c : Pool) → not (is_idle c.job) ≡ false → is_running c.job ≡ false
quiet-job c e = ap is_running (idle-six c e)

down-still : (c : Pool) (id : ℕ) (j : Job) → c.job ≡ j → Runs (down_at j c id).pool → Tries c (Event.link_down id)
down-still c id Job.Idle e k = clash (ap is_running k.job) (ap is_running e)
down-still c id (Job.Running r) e k = Tries.link_down id r e
down-still c id (Job.Removing m) e k =
    clash (ap is_running k.job) (halts (λ (q : Pool). is_running q.job ≡ false) (is_peer (Job.Removing m) id) (with_roster c (dropped c.roster id)) refl (ap is_running e))

answer-still : (c : Pool) (xs : List ℕ) (number : ℕ) (a : Reply) (j : Job) → c.job ≡ j → is_idle j ≡ false → Runs (answered j c a).pool → GoesOn c (Event.answer xs number a)
answer-still c xs number a Job.Idle e i k = clash refl i
answer-still c xs number a (Job.Running r) e i k = GoesOn.answer xs number a r e
answer-still c xs number a (Job.Removing m) e i k = clash (ap is_running k.job) (answered-calm m c a)

-- enable, where it is not from CREATED
enable-tries : (c : Pool) (id : ℕ) → enables (session_at c.roster id) ≡ true → (is_created (state_of c id) ≡ true → ⊥) → Tries c (Event.enable id)
unfolding enables
enable-tries c id e n =
    by_cases (is_created (state_of c id))
    (λ q. absurd (n q))
    (λ q. let h : (is_reconnecting (state_of c id) && (session_at c.roster id).maintenance) ≡ true = rw q at e in
    Tries.enable id (reconnecting-is (state_of c id) (and_left (is_reconnecting (state_of c id)) _ h)))

-- a session brought back, in a pool that is not sync
brought : (c : Pool) (id : ℕ) (e : Event) (t : Turn) → t ≡ check_done c id → is_running c.job ≡ false → Runs t.pool → (is_sync c ≡ false → Tries c e) → Tries c e
brought c id e t z i k f = by_cases (is_sync c) (λ q. clash (ap is_running k.job) (calm c _ _ (z ∙ check-enters c id q) i)) f

marks-calm : (c q : Pool) (chunk reached : ℕ) → is_running q.job ≡ false → is_running (marks c q chunk reached).pool.job ≡ false
unfolding marks
marks-calm c q chunk reached i = either (λ (t : Turn). is_running t.pool.job ≡ false) (eqb reached 0) _ _ i i

as-runs : (t d : Turn) → t ≡ d → Runs t.pool → Runs d.pool
as-runs t d z = subst (λ (u : Turn). Runs u.pool) z

job-in-hand : (c : Pool) (number : ℕ) → not (awaits c number) ≡ false → is_idle c.job ≡ false
job-in-hand c number e = at (is_idle c.job) (eqb number c.number) e
  where
    at : (a b : Bool) → not (not a && b) ≡ false → a ≡ false
    at true b z = clash refl z
    at false b z = refl

pub begins-only : BeginsOnly
unfolding down_refusal remove_refusal join_create create_refusal create_done join_assemble enable enable_refusal enable_done enables maintenance maintenance_refusal maintenance_done store_check check_refusal rejoin rejoin_refusal check_done link_down down_done remove remove_turn write_ended write_refusal write_turn write_done synced sync_refusal sync_done synced_turn answer answer_refusal answer_turn
begins-only c (Event.join_create id) s o h k =
    let d = done-is (Event.join_create id) c (create_done c id) s refl h in
    still c (Event.join_create id) (calm c _ _ d.1 (quiet-job c (d.0 6 refl))) k
begins-only c (Event.join_assemble id set version) s o h k = inl (Tries.assemble id set version)
begins-only c (Event.enable id) s o h k =
    let d = done-is (Event.enable id) c (enable_done c id) s refl h in
    let i = quiet-job c (d.0 6 refl) in
    inl (enable-tries c id (not-false (enables (session_at c.roster id)) (d.0 9 refl)) (λ q. clash (ap is_running k.job) (calm c _ _ (d.1 ∙ enable-enters c id q) i)))
begins-only c (Event.maintenance id) s o h k =
    let d = done-is (Event.maintenance id) c (maintenance_done c id) s refl h in
    still c (Event.maintenance id) (calm c _ _ d.1 (quiet-job c (d.0 6 refl))) k
begins-only c (Event.link_down id) s o h k = let d = done-is (Event.link_down id) c (down_done c id) s refl h in inl (down-still c id c.job refl (as-runs _ _ d.1 k))
begins-only c Event.try_run s o h k = inl Tries.try
begins-only c (Event.extend xs) s o h k = inl (Tries.extend xs)
begins-only c (Event.store_check id) s o h k =
    let d = done-is (Event.store_check id) c (check_done c id) s refl h in
    inl (brought c id (Event.store_check id) _ d.1 (quiet-job c (d.0 6 refl)) k (λ q. Tries.store_check id q))
begins-only c (Event.rejoin id) s o h k =
    let d = done-is (Event.rejoin id) c (check_done c id) s refl h in
    inl (brought c id (Event.rejoin id) _ d.1 (quiet-job c (d.0 6 refl)) k (λ q. Tries.rejoin id q))
begins-only c (Event.remove xs id mode) s o h k =
    let d = done-is (Event.remove xs id mode) c (gone c (remove_begun c id mode)) s refl h in
    still c (Event.remove xs id mode) (calm c _ _ d.1 (started-calm (with_roster c (removing c.roster id mode)) id)) k
begins-only c (Event.write xs chunk reached) s o h k =
    let d = done-is (Event.write xs chunk reached) c (write_done c chunk reached) s refl h in
    still c (Event.write xs chunk reached)
    (calm c _ _ d.1
    (marks-calm c _ chunk reached (halts (λ (q : Pool). is_running q.job ≡ false) (loses c.job c.roster reached) (with_roster c (wrote_in c reached)) refl (d.0 6 refl)))) k
begins-only c (Event.synced xs member chunk) s o h k =
    let d = done-is (Event.synced xs member chunk) c (sync_done c member chunk) s refl h in
    still c (Event.synced xs member chunk) (calm c _ _ d.1 (d.0 6 refl)) k
begins-only c (Event.answer xs number a) s o h k =
    let d = done-is (Event.answer xs number a) c (answered c.job c a) s refl h in
    inr (answer-still c xs number a c.job refl (job-in-hand c number (d.0 13 refl)) (as-runs _ _ d.1 k))

-- ---- try

pub try-does : TryDoes
unfolding try_run try_refusal
try-does c s o h =
    let d = done-is Event.try_run c (tried_with c c Outcome.Plain Told.Nothing Effect.Keep) s refl h in
    let e : sent_with (tried c).pool (tried c).awaited Outcome.Plain Told.Nothing ≡ s = sent_is _ _ (sym (ap (λ (t : Turn). t.answer) d.1) ∙ h) in
    record {
      sessions = ap (λ (t : Turn). t.pool.roster) d.1 ∙ tried-roster c;
      chunks = (law Event.try_run c).count;
      told = sym (ap (λ (x : Sent). x.told) e);
      outcome = sym (ap (λ (x : Sent). x.outcome) e);
    }
