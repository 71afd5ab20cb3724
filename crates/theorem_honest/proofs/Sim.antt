-- The client's events follow the course of a run: no answer of an honest run is refused.
use Rattle.std.specs.Prelude.{Option, Some, None}
use mathlib.Core.Path.{◌≡◌, refl, sym, ap, ◌∙◌}
use mathlib.Core.Bool.{Bool, true}
use mathlib.Core.List.{List}
use Prim.Native.Nat.{ℕ, zero, suc, ◌<◌}
use borrow.Author.Tests.{eq-eqb}
use Rattle.rules_base.specs.Map.{sound}
use Rattle.rules_pool.specs.declared.Step.{Step}
use Rattle.rules_pool.specs.declared.Phase.{Phase}
use Rattle.rules_pool.specs.declared.Run.{Run}
use Rattle.rules_pool.specs.declared.Roster.{Roster}
use Rattle.rules_pool.specs.declared.Job.{Job}
use Rattle.rules_pool.specs.declared.Pool.{Pool}
use Rattle.rules_pool.specs.declared.Message.{Message}
use Rattle.rules_pool.specs.declared.Told.{Told}
use Rattle.rules_pool.specs.declared.Outcome.{Outcome}
use Rattle.rules_pool.specs.declared.Reply.{Reply}
use Rattle.rules_pool.specs.Changes.{more, numbered}
use Rattle.rules_pool.specs.declared.Move.{Move}
use Rattle.rules_pool.specs.Run.{takes, awaited_in, awaited_at}
use Rattle.rules_pool.specs.StateRules.{valid_pool}
use Rattle.rules_pool.specs.Exit.{number_of}
use Rattle.rules_pool.specs.Recovery.{next_number, posted, disabling}
use Rattle.rules_client.specs.Answers as answers
use Rattle.rules_client.specs.Client.{answer_turn}
use Rattle.laws_client.proofs.Ids.{Long}
use Rattle.rules_world.specs.Station.{Station}
use Rattle.rules_world.specs.Together.{World, Delivered, deliver, tell, heard, exchange, exchanges}
use Rattle.laws_client.proofs.Runs.{entered-members, entered-version}
use Rattle.theorem_honest.proofs.Course.{Cutting, Course, course, step, steps}

-- ---- a world that follows a course

abbrev pub job_of : Option Run → Job
job_of None = Job.Idle
job_of (Some r) = Job.Running r

abbrev pub awaited_of : Roster → Option Run → Message
awaited_of ro None = Message.Nothing
awaited_of ro (Some r) = awaited_in ro.members ro.version r

-- the version of the pool: the run's, and one more once it is over
abbrev pub version_at : Option Run → ℕ → ℕ
version_at None v = more v
version_at (Some r) v = v

abbrev pub roster_of : Roster → Option Run → Roster
roster_of ro n = numbered ro ro.count (version_at n ro.version)

abbrev pub pool_of : ℕ → ℕ → Roster → Option Run → Pool
pool_of num chunks ro n = record { roster = roster_of ro n; job = job_of n; number = num; chunks = chunks }

abbrev pub world_of : (ℕ → List ℕ) → ℕ → ℕ → List ℕ → Outcome → Told → Roster → Option Run → (ℕ → Station) → World
world_of cuts num chunks map out told ro n f =
    record {
      pool = pool_of num chunks ro n;
      map = map;
      sent = record { outcome = out; told = told; awaited = awaited_of ro n; number = number_of (awaited_of ro n) num };
      nodes = f;
      cuts = cuts;
    }

-- the whole array, and the state rules
abbrev pub Whole : Pool → Type 0
Whole p = Long p.roster × (valid_pool p ≡ true)

-- every message of a run is numbered
at-numbered : (p : Phase) (m v : ℕ) (r : Run) (n : ℕ) → number_of (awaited_at p m v r) n ≡ n
at-numbered (Phase.Versions best) m v r n = refl
at-numbered (Phase.Base Step.Ready) m v r n = refl
at-numbered (Phase.Base Step.Send) m v r n = refl
at-numbered (Phase.Base Step.Done) m v r n = refl
at-numbered Phase.LastIo m v r n = refl
at-numbered (Phase.Gather Step.Ready) m v r n = refl
at-numbered (Phase.Gather Step.Send) m v r n = refl
at-numbered (Phase.Gather Step.Done) m v r n = refl
at-numbered (Phase.Enable every) m v r n = refl
at-numbered (Phase.Spread Step.Ready) m v r n = refl
at-numbered (Phase.Spread Step.Send) m v r n = refl
at-numbered (Phase.Spread Step.Done) m v r n = refl

pub run-numbered : (m v : ℕ) (r : Run) (n : ℕ) → number_of (awaited_in m v r) n ≡ n
unfolding awaited_in
run-numbered m v r n = at-numbered r.phase m v r n

abbrev num_after : Option Run → ℕ → ℕ
num_after None n = n
num_after (Some r) n = next_number n

-- what an answer did to the run, done to the pool
moves : (num chunks : ℕ) (map : List ℕ) (ro : Roster) (j : Job) (f : ℕ → Station) (w : World) (n : Option Run) (t : ℕ) (a b : Option ℕ) → w.map ≡ map
    → heard w f (answers.reported (record { roster = ro; job = j; number = num; chunks = chunks }) (record { next = n; taken = t; normal = a; disable = b }))
    ≡ world_of w.cuts (num_after n num) chunks map (Outcome.Taken t) (disabling b) (answers.entered_by a ro) n (tell (disabling b) f)
unfolding answers.moved_on posted
moves num chunks map ro j f w None t a b e = rw e
moves num chunks map ro j f w (Some r) t a b e = rw e

-- one exchange of a run in a pool that keeps its state rules
exchange-on : (cuts : ℕ → List ℕ) (num chunks : ℕ) (map : List ℕ) (out : Outcome) (told : Told) (ro : Roster) (r : Run) (f : ℕ → Station)
    → valid_pool (pool_of num chunks ro (Some r)) ≡ true → sound chunks map ≡ true
    → (d : Delivered) → deliver (cuts r.taken) (awaited_in ro.members ro.version r) f ≡ d
    → (m : Move) → takes ro.members ro.version r d.reply ≡ m
    → exchange (world_of cuts num chunks map out told ro (Some r) f)
    ≡ world_of cuts (num_after m.next num) chunks map (Outcome.Taken m.taken) (disabling m.disable) (answers.entered_by m.normal ro) m.next (tell (disabling m.disable) d.nodes)
unfolding exchange answer_turn answers.answer answers.answer_refusal
exchange-on cuts num chunks map out told ro r f valid snd d ed m em =
    rw (ed, valid, snd, run-numbered ro.members ro.version r num, eq-eqb num num refl, em)
    (moves num chunks map ro (Job.Running r) d.nodes (world_of cuts num chunks map out told ro (Some r) f) m.next m.taken m.normal m.disable refl)

-- with nothing awaited an answer is refused, and nothing changes
exchange-over : (cuts : ℕ → List ℕ) (num chunks : ℕ) (map : List ℕ) (out : Outcome) (told : Told) (ro : Roster) (f : ℕ → Station)
    → valid_pool (pool_of num chunks ro None) ≡ true → sound chunks map ≡ true
    → exchange (world_of cuts num chunks map out told ro None f) ≡ world_of cuts num chunks map out told ro None f
unfolding exchange answer_turn answers.answer answers.answer_refusal
exchange-over cuts num chunks map out told ro f valid snd = rw (valid, snd)

-- ---- entering NORMAL changes neither membership nor version

by_members : (w : Option ℕ) (ro : Roster) → (answers.entered_by w ro).members ≡ ro.members
by_members None ro = refl
by_members (Some x) ro = entered-members ro x

by-version : (w : Option ℕ) (ro : Roster) → (answers.entered_by w ro).version ≡ ro.version
by-version None ro = refl
by-version (Some x) ro = entered-version ro x

-- ---- worlds follow their course

pub record Sim (cut : Cutting) (m v : ℕ) (w : World) (c : Course) : Type 0 where
  pub num : ℕ
  pub chunks : ℕ
  pub map : List ℕ
  pub out : Outcome
  pub told : Told
  pub is : w ≡ world_of cut.lengths num chunks map out told c.roster c.next c.nodes
  pub whole : Whole w.pool
  pub snd : sound chunks map ≡ true
  pub outcome : 0 < c.taken → out ≡ Outcome.Taken c.taken
  pub members : c.roster.members ≡ m
  pub version : c.roster.version ≡ v

-- every answer keeps the state rules
abbrev pub Keeps : Type 0
Keeps = (p : Pool) (b : Bool) (n : ℕ) (a : Reply) → Whole p → Whole (answers.answer p b n a).pool

module _ (keeps : Keeps) (cut : Cutting) (m v : ℕ) where
  exchange-whole : (w : World) → Whole w.pool → Whole (exchange w).pool
  unfolding exchange answer_turn
  exchange-whole w h = keeps w.pool _ _ _ h

  sim-at : (ro : Roster) (n : Option Run) (t : ℕ) (f : ℕ → Station) (w : World) → Sim cut m v w (course ro n t f) → Sim cut m v (exchange w) (step cut m v (course ro n t f))
  unfolding step
  sim-at ro None t f w s =
      record {
        num = s.num;
        chunks = s.chunks;
        map = s.map;
        out = s.out;
        told = s.told;
        is = ap exchange s.is ∙ exchange-over cut.lengths s.num s.chunks s.map s.out s.told ro f (ap (λ (w : World). valid_pool w.pool) (sym s.is) ∙ s.whole.1) s.snd;
        whole = exchange-whole w s.whole;
        snd = s.snd;
        outcome = s.outcome;
        members = s.members;
        version = s.version;
      }
  sim-at ro (Some r) t f w s =
      record {
        num = num_after mo.next s.num;
        chunks = s.chunks;
        map = s.map;
        out = Outcome.Taken mo.taken;
        told = disabling mo.disable;
        is = ap exchange s.is ∙ exchange-on cut.lengths s.num s.chunks s.map s.out s.told ro r f (ap (λ (w : World). valid_pool w.pool) (sym s.is) ∙ s.whole.1) s.snd d (rw (s.members, s.version) refl) mo (rw (s.members, s.version) refl);
        whole = exchange-whole w s.whole;
        snd = s.snd;
        outcome = λ h. refl;
        members = by_members mo.normal ro ∙ s.members;
        version = by-version mo.normal ro ∙ s.version;
      }
    where
      d : Delivered
      d = deliver (cut.lengths r.taken) (awaited_in m v r) f

      mo : Move
      mo = takes m v r d.reply

  pub sim-step : (c : Course) (w : World) → Sim cut m v w c → Sim cut m v (exchange w) (step cut m v c)
  sim-step c w s = sim-at c.roster c.next c.taken c.nodes w s

  -- n exchanges follow n steps
  pub sim-steps : (n : ℕ) (c : Course) (w : World) → Sim cut m v w c → Sim cut m v (exchanges n w) (steps cut m v n c)
  unfolding exchanges steps
  sim-steps zero c w s = s
  sim-steps (suc n) c w s = sim-steps n (step cut m v c) (exchange w) (sim-step c w s)
