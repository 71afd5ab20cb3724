-- An event of the client, with what it tells.
use mathlib.Core.Path.{◌≡◌, refl, sym, ap, ◌∙◌, subst}
use mathlib.Core.Bool.{Bool, true, false}
use Prim.Native.Nat.{ℕ}
use native.Mathlib.Omega.{arith}
use Rattle.laws_words.specs.Words.{pick}
use Rattle.laws_words.specs.Tests.{clash}
use Rattle.rules_pool.specs.declared.Step.{Step}
use Rattle.rules_pool.specs.declared.Phase.{Phase}
use Rattle.rules_pool.specs.declared.Run.{Run}
use Rattle.rules_pool.specs.declared.Stage.{Stage}
use Rattle.rules_pool.specs.declared.Job.{Job}
use Rattle.rules_pool.specs.declared.Message.{Message}
use Rattle.rules_pool.specs.declared.Sent.{Sent}
use Rattle.rules_pool.specs.declared.Told.{Told}
use Rattle.rules_pool.specs.declared.Answer.{Answer}
use Rattle.rules_pool.specs.declared.Pool.{Pool}
use Rattle.rules_pool.specs.declared.Turn.{Turn}
use Rattle.rules_pool.specs.Session.{is_nothing}
use Rattle.rules_pool.specs.Jobs.{is_idle}
use Rattle.rules_pool.specs.Run.{awaited_at, awaited_in}
use Rattle.laws_client.proofs.Pools.{Valid}
use Rattle.rules_world.specs.Station.{Station}
use Rattle.model_pool.specs.Model as m
use Rattle.model_pool.specs.Steps as s
use Rattle.model_pool.specs.Mirror.{Sees, Works, stage_awaits, job_awaits, awaited_of, Posts, posts, rests, Moves, goes, stands, MovesBy, MovesAt}
use Rattle.model_pool.proofs.Tries.{joined}
use Rattle.model_pool.specs.Holds.{Held, Sane}
use Rattle.rules_world.specs.Whole.{Fate, World, told_in, acted}
use Rattle.model_pool.specs.Reflects.{Reads, Reflects, Comes}
use Rattle.model_pool.proofs.Every.{arrived}
use Rattle.model_pool.proofs.Told.{sane-told, quiet, drops}

-- ---- a job in hand awaits a message
phase-some : (x : Phase) (members version : ℕ) (r : Run) → is_nothing (awaited_at x members version r) ≡ false
phase-some (Phase.Versions best) members version r = refl
phase-some (Phase.Base Step.Ready) members version r = refl
phase-some (Phase.Base Step.Send) members version r = refl
phase-some (Phase.Base Step.Done) members version r = refl
phase-some Phase.LastIo members version r = refl
phase-some (Phase.Gather Step.Ready) members version r = refl
phase-some (Phase.Gather Step.Send) members version r = refl
phase-some (Phase.Gather Step.Done) members version r = refl
phase-some (Phase.Enable every) members version r = refl
phase-some (Phase.Spread Step.Ready) members version r = refl
phase-some (Phase.Spread Step.Send) members version r = refl
phase-some (Phase.Spread Step.Done) members version r = refl

stage-some : (x : Stage) (p : Pool) (id : ℕ) → is_nothing (stage_awaits x p id) ≡ false
stage-some Stage.Leave p id = refl
stage-some (Stage.Info peer) p id = refl

awaited-some : (j : Job) (p : Pool) → is_idle j ≡ false → is_nothing (job_awaits j p) ≡ false
unfolding awaited_in
awaited-some Job.Idle p e = clash refl e
awaited-some (Job.Running r) p e = phase-some r.phase p.roster.members p.roster.version r
awaited-some (Job.Removing d) p e = stage-some d.stage p d.id

fresh-reads : (h : m.Hand) → h.fate ≡ m.Fate.Under → Reads Fate.under_way h
fresh-reads h e = record { under = λ q. e; good = λ b q. absurd (let z : ◌≡◌ {A = ℕ} 0 1 = cc in let y : ⊥ = omega arith in y) }

-- the world after an accepted event
abbrev pub world_after : World → Pool → (ℕ → Station) → Message → World
world_after w q f sent = record { pool = q; nodes = f; awaited = pick (is_nothing sent) w.awaited sent; fate = pick (is_nothing sent) w.fate Fate.under_way }

-- what was sent is awaited
pub reflects-sent : (w : World) (q : Pool) (f : ℕ → Station) (sent : Message) (b : m.World) → Valid q → q.roster.sync ≡ false → Sees q.roster b.pool → Works q.job b.hand → Posts q sent b.hand → ((j : ℕ) → Sane q.chunks j (f j)) → Held f b.nodes
    → Reflects (world_after w q f sent) b
reflects-sent w q f sent b v y e k p sane h = record {
  valid = v;
  plain = y;
  shows = record { sees = e; works = k };
  sane = sane;
  held = h;
  awaits = λ z. awaits p z;
  reads = λ z. reads p z;
}
  where
    some : sent ≡ awaited_of q → is_idle q.job ≡ false → is_nothing sent ≡ false
    some x z = ap is_nothing x ∙ awaited-some q.job q z

    awaits : Posts q sent b.hand → is_idle q.job ≡ false → pick (is_nothing sent) w.awaited sent ≡ awaited_of q
    awaits (posts x u) z = ap (λ (t : Bool). pick t w.awaited sent) (some x z) ∙ x
    awaits (rests x u) z = clash (ap is_idle u) z

    reads : Posts q sent b.hand → is_idle q.job ≡ false → Reads (pick (is_nothing sent) w.fate Fate.under_way) b.hand
    reads (posts x u) z = subst (λ (t : Bool). Reads (pick t w.fate Fate.under_way) b.hand) (sym (some x z)) (fresh-reads b.hand u)
    reads (rests x u) z = clash (ap is_idle u) z

-- what was awaited still is
pub reflects-stood : (w : World) (q : Pool) (f : ℕ → Station) (a b : m.World) → Reflects w a → Valid q → q.roster.sync ≡ false → Sees q.roster b.pool → q.job ≡ w.pool.job → awaited_of q ≡ awaited_of w.pool → b.hand ≡ a.hand → ((j : ℕ) → Sane q.chunks j (f j)) → Held f b.nodes
    → Reflects (world_after w q f Message.Nothing) b
reflects-stood w q f a b r v y e j x i sane h = record {
  valid = v;
  plain = y;
  shows = record { sees = e; works = subst (λ (t : Job). Works t b.hand) (sym j) (subst (λ (t : m.Hand). Works w.pool.job t) (sym i) r.shows.works) };
  sane = sane;
  held = h;
  awaits = λ z. r.awaits (ap is_idle (sym j) ∙ z) ∙ sym x;
  reads = λ z. subst (Reads w.fate) (sym i) (r.reads (ap is_idle (sym j) ∙ z));
}

-- the world c is where the event has come to at the client; what it tells arrives, and at most drops a transfer
module _ (w : World) (c : m.World) (sane : (j : ℕ) → Sane w.pool.chunks j (w.nodes j)) (held : Held w.nodes c.nodes) (q : Pool) (got : ℕ) (v : Valid q) (y : q.roster.sync ≡ false) (n : q.chunks ≡ w.pool.chunks) (e : Sees q.roster c.pool) where
  pub told-sane : (t : Told) (j : ℕ) → Sane q.chunks j (arrived got t w.nodes j)
  told-sane t j = subst (λ (i : ℕ). Sane i j (arrived got t w.nodes j)) (sym n) (sane-told w.pool.chunks got t w.nodes sane j)

  pub goes_on : (s : Sent) → Works q.job c.hand → Posts q s.awaited c.hand → quiet s.told ≡ true → Comes (world_after w q (arrived got s.told w.nodes) s.awaited) c
  goes_on s k p z =
      let d = drops w.pool.chunks w.nodes c sane held got s.told z in
      record {
        to = d.to;
        course = d.course;
        reflects = reflects-sent w q (arrived got s.told w.nodes) s.awaited d.to v y (subst (Sees q.roster) (sym d.pool) e) (subst (Works q.job) (sym d.hand) k) (subst (Posts q s.awaited) (sym d.hand) p) (told-sane s.told) d.held;
        past = d.past;
      }

  pub stands_on : (t : Told) (a : m.World) → Reflects w a → q.job ≡ w.pool.job → awaited_of q ≡ awaited_of w.pool → c.hand ≡ a.hand → quiet t ≡ true → Comes (world_after w q (arrived got t w.nodes) Message.Nothing) c
  stands_on t a r j x i z =
      let d = drops w.pool.chunks w.nodes c sane held got t z in
      record {
        to = d.to;
        course = d.course;
        reflects = reflects-stood w q (arrived got t w.nodes) a d.to r v y (subst (Sees q.roster) (sym d.pool) e) j x (d.hand ∙ i) (told-sane t) d.held;
        past = d.past;
      }

-- an event that leaves nodes and past alone, but for transfers that it drops
pub acts : (w : World) (a : m.World) → Reflects w a → (t : Turn) (got : ℕ) → MovesBy w.pool t a → Valid t.pool → t.pool.roster.sync ≡ false → t.pool.chunks ≡ w.pool.chunks → quiet (told_in t.answer) ≡ true → Comes (acted t.answer t.pool got w) a
acts w a r t got x v y c z = go t.answer x z
  where
    from : {b : World} (g : m.World) → s.Course a g → g.past ≡ a.past → Comes b g → Comes b a
    from g k p d = record { to = d.to; course = joined k d.course; reflects = d.reflects; past = d.past ∙ p }

    on : (s : Sent) → quiet s.told ≡ true → Moves w.pool t.pool s.awaited a → Comes (world_after w t.pool (arrived got s.told w.nodes) s.awaited) a
    on s z (goes g) = from g.to g.course g.past (goes_on w g.to r.sane (subst (Held w.nodes) (sym g.nodes) r.held) t.pool got v y c g.sees s g.works g.sends z)
    on s z (stands e g) =
        subst (λ (x : Message). Comes (world_after w t.pool (arrived got s.told w.nodes) x) a) (sym e)
        (from g.to g.course g.past (stands_on w g.to r.sane (subst (Held w.nodes) (sym g.nodes) r.held) t.pool got v y c g.sees s.told a r g.job g.awaits g.hand z))

    go : (x : Answer) → MovesAt x w.pool t.pool a → quiet (told_in x) ≡ true → Comes (acted x t.pool got w) a
    go (Answer.Refused n) x z = record { to = a; course = s.here a; reflects = r; past = refl }
    go (Answer.Done s) x z = on s z x
