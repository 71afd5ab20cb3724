-- Every step keeps the invariant, and the invariant gives the claim.
use mathlib.Core.Path.{refl}
use native.Mathlib.Omega.{arith}
use Rattle.laws_words.specs.Tests.{clash}
use Rattle.model_pool.specs.Model.{World, Fresh}
use Rattle.model_pool.specs.Invariant.{Inv, Claim}
use Rattle.model_pool.specs.Steps.{Next, Course, here, more}
use Rattle.model_pool.proofs.Ground.{up-active}
use Rattle.model_pool.proofs.ModelNodes.{active-party, full}
use Rattle.model_pool.proofs.Own.{stored, born, shut}
use Rattle.model_pool.proofs.ModelClient.{shift, write, synced}
use Rattle.model_pool.proofs.Runs.{over, try-1, try-2, try-3, in-get, good-get, good-got}
use Rattle.model_pool.proofs.Messages.{in-ready, in-send, in-done, in-enable, in-plain, in-refused, good-ready, good-send, good-up, good-over, onward}
use Rattle.model_pool.proofs.ModelRemoval.{doomed, doomed-again, disassembled, took-out, left-plain, informed, freed, halted, in-leave, in-info}
use Rattle.model_pool.proofs.ModelExtends.{grown, replaced}
use Rattle.model_pool.proofs.ModelJoins.{created, assembled, taken-over, hand-enabled}

pub fresh : (w : World) → Fresh w → Inv w
fresh w f = record {
  core = record {
    positive = let x = f.version in omega arith;
    closes = λ m c h. let x = f.owe m c in absurd (let y : ⊥ = omega arith in y);
    below = λ m c. let x = f.owe m c in omega arith;
    owed-member = λ m c h. let x = f.owe m c in absurd (let y : ⊥ = omega arith in y);
    owed-lives = λ m c h. let x = f.owe m c in absurd (let y : ⊥ = omega arith in y);
    member = λ j. rw (f.ses j) (λ h. clash h refl);
    joined = λ j. rw (f.ses j) (λ h. clash h refl);
    some = λ j h. clash h (f.been j);
    outside = λ j a b. clash a (f.mem j);
    behind = λ j a b. clash a (f.mem j);
    knows = λ j p m c h l. clash p.member (f.mem j);
    normal = λ j. rw (f.ses j) (λ h. clash h refl);
    marked = λ j h. clash h (f.mark j);
    marked-active = λ j h. clash h (f.mark j);
    marked-alone = λ j h. clash h (f.mark j);
    holder = λ m c h. let x = f.owe m c in absurd (let y : ⊥ = omega arith in y);
  };
  quiet = λ t. record { beside = λ k j u a b n. clash a (f.mem j); before = λ e j a b n. clash a (f.mem j) };
  life = record {
    known = λ j h. clash h (f.been j);
    fresh = λ j h. clash h (f.wait j);
    first = λ j h. f.been j;
    came = λ j h. f.wait j;
  };
  acked = λ c h. clash h (f.acked c);
  run = rw f.job (λ t. absurd t);
  out = rw f.job (λ t. absurd t);
}

pub kept : {w w' : World} → Next w w' → Inv w → Inv w'
kept {w} (Next.Stored j v e) i = stored w i j e v
kept {w} (Next.Born j create e z) i = born w i j e create z
kept {w} (Next.Drop j) i = shut w j i
kept {w} (Next.Replaced j n e) i = replaced w i j n e
kept {w} (Next.Join-create j z e n c) i = created w i j z e n c
kept {w} (Next.Join-assemble j z e n c) i = assembled w i j z e n c
kept {w} (Next.Take-over j set z e n s c) i = taken-over w i j set z e n s c
kept {w} (Next.Hand-enable j z e n) i = hand-enabled w i j z e n
kept {w} (Next.Shift j s mark a b u m) i = shift w i j s mark a b u m
kept {w} (Next.Write c r t u) i = write w i c r t u
kept {w} (Next.Synced m c t) i = synced w i m c t
kept {w} (Next.Extend x r z u n e o) i = grown w i x r z u n e o
kept {w} (Next.Delete a k z e n u) i = doomed w i a k z e n u
kept {w} (Next.Delete-again a z e) i = doomed-again w i a z e
kept {w} (Next.Disassemble a z e d) i = disassembled w i a z e d
kept {w} (Next.Left-delete to closed z e c) i = took-out w i to closed z e c
kept {w} (Next.Left-disassemble to z e) i = left-plain w i to z e
kept {w} (Next.Informed to z) i = informed w i to z
kept {w} (Next.Freed z) i = freed w i z
kept {w} (Next.Halted t) i = halted w i t
kept {w} (Next.Try-1 s r z u e) i = try-1 w i s r u e
kept {w} (Next.Try-2 s z u e) i = try-2 w i s u e
kept {w} (Next.Try-3 x s best left z e h l) i = try-3 w i x s best left e h l
kept {w} (Next.In-get e f) i = in-get w i e
kept {w} (Next.In-ready k e f) i = in-ready k w i e f
kept {w} (Next.In-send k g e f o) i = in-send k g w i e f o
kept {w} (Next.In-done k e f g) i = in-done k w i e f g
kept {w} (Next.In-enable e f) i = in-enable w i e f
kept {w} (Next.In-leave z f e) i = in-leave w i z e
kept {w} (Next.In-info z f e) i = in-info w i z e
kept {w} (Next.In-plain t f) i = in-plain w i t
kept {w} (Next.In-refused f) i = in-refused w i f
kept {w} (Next.Good-ready k e f) i = good-ready k w i e f
kept {w} (Next.Good-send k e f) i = good-send k w i e f
kept {w} (Next.Good-get s b to e f q a) i = good-get w i s b to e f q a
kept {w} (Next.Good-got s b j to e f q all n a) i = good-got w i s b j to e f q all n a
kept {w} (Next.Good-up to f n a) i = good-up w i f n to a
kept {w} (Next.Good-over f n) i = good-over w i f n
kept {w} (Next.Onward j to s n a) i = onward w i j to s n a
kept {w} (Next.Over t) i = over w i.core i.life i.acked

pub kept-all : {u w : World} → Course u w → Inv u → Inv w
kept-all (here w) i = i
kept-all (more k n) i = kept n (kept-all k i)

-- no missed chunk is forgotten
pub claimed : (w : World) → Inv w → Claim w
claimed w i = record {
  holds = λ j u m c h. full i.core j (active-party i.core j (up-active (w.pool.ses j) u)) (i.core.normal j u) m c h;
}
