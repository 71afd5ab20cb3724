-- The highest version is chosen, ties to the lowest id: proof, from what the statements say of each answer.
use Rattle.std.specs.Prelude.{Some}
use mathlib.Core.Path.{◌≡◌, refl, sym, ap, ◌∙◌, subst}
use mathlib.Core.Logic.{◌≢◌, ◌⊎◌, inl, inr}
use mathlib.Core.Bool.{Bool, true, false}
use Prim.Native.Nat.{ℕ, ◌≤◌, ◌<◌}
use native.Mathlib.Decide.{ℕ_discrete, dec_lt}
use native.Mathlib.Omega.{arith}
use Rattle.laws_words.specs.Tests.{by_cases, clash}
use Rattle.rules_base.specs.Sets.{has, lowest, without}
use Rattle.rules_base.proofs.Sets.{lowest-nobody, lowest-le}
use Rattle.rules_pool.specs.declared.Phase.{Phase}
use Rattle.rules_pool.specs.declared.Run.{Run}
use Rattle.rules_pool.specs.declared.Job.{Job}
use Rattle.rules_pool.specs.declared.Pool.{Pool}
use Rattle.rules_pool.specs.declared.Reply.{Reply}
use Rattle.rules_pool.specs.declared.Sent.{Sent}
use Rattle.rules_pool.specs.declared.Kind.{Kind}
use Rattle.rules_pool.specs.Sessions.{ids_of}
use Rattle.rules_pool.specs.Jobs.{is_running}
use Rattle.rules_client.specs.Events.{Event, next}
use Rattle.theorem_runs.specs.Words.{Iff, InOrder, Normal, Candidate, Member, version_of, Nobody, Lowest, But, Left, Awaits}
use Rattle.theorem_runs.specs.Begins.{MayRun, Tried}
use Rattle.theorem_runs.specs.Answers.{Whose, ToBase, ToVersions, Brings, Good}
use Rattle.theorem_runs.specs.Chosen.{Asked, Highest, HighestChosen}
use Rattle.theorem_runs.proofs.Words.{In, lowest-of, lowest-as, some_in, but_in, normals, candidates, order-kept}
use Rattle.theorem_runs.proofs.Begins.{begins-when}
use Rattle.theorem_runs.proofs.Answers.{run-answered}

-- ---- what is known while the members are asked: `left` are those not asked yet

record Poll (version : ℕ → ℕ) (c : Pool) (left : ℕ → Type 0) (source best : ℕ) : Type 0 where
  member : Member c source
  within : (j : ℕ) → left j → Member c j
  ahead : (j k : ℕ) → Member c j → (left j → ⊥) → left k → j < k
  most : (j : ℕ) → Member c j → (left j → ⊥) → version j ≤ best
  first : (j : ℕ) → Member c j → (left j → ⊥) → version j ≡ best → source ≤ j
  own : (left source → ⊥) → version source ≡ best
  fresh : left source → (best ≡ 0) × ((j : ℕ) → Member c j → source ≤ j)

is-left : (r : Run) (j : ℕ) → (Left r j) ⊎ (Left r j → ⊥)
is-left r j = by_cases (has r.left j) (λ e. inl e) (λ e. inr (λ h. clash h e))

-- x is asked
settled : (r : Run) (x j : ℕ) → (But (Left r) x j → ⊥) → (Left r j → ⊥) ⊎ (j ≡ x)
settled r x j n = elim (ℕ_discrete j x) [ yes e ↦ inr e | no d ↦ inl (λ h. n (h, d)) ]

above : (r : Run) (x k : ℕ) → Lowest (Left r) x → But (Left r) x k → x < k
above r x k (is, low) (h, d) = elim (dec_lt x k) [
  | yes l ↦ l
  | no g ↦ elim (dec_lt k x) [ yes l ↦ absurd (low k l h) | no n ↦ absurd (d (omega (arith, g, n))) ]
]

module _ (version : ℕ → ℕ) (c : Pool) (r : Run) (best x : ℕ) (p : Poll version c (Left r) r.source best) (w : Lowest (Left r) x) where
  ahead-then : (j k : ℕ) → Member c j → (But (Left r) x j → ⊥) → But (Left r) x k → j < k
  ahead-then j k m n h = at (settled r x j n)
    where
      at : (Left r j → ⊥) ⊎ (j ≡ x) → j < k
      at (inl q) = p.ahead j k m q h.0
      at (inr e) = let l = above r x k w h in omega (arith, e, l)

  -- it brought a higher version than any before
  higher : best < version x → Poll version c (But (Left r) x) x (version x)
  higher l =
      record {
        member = p.within x w.0;
        within = λ j h. p.within j h.0;
        ahead = ahead-then;
        most = λ j m n. most-at j m (settled r x j n);
        first = λ j m n e. first-at j m e (settled r x j n);
        own = λ n. refl;
        fresh = λ h. absurd (h.1 refl);
      }
    where
      most-at : (j : ℕ) → Member c j → (Left r j → ⊥) ⊎ (j ≡ x) → version j ≤ version x
      most-at j m (inl q) = let k = p.most j m q in omega (arith, k, l)
      most-at j m (inr e) = let k : version j ≡ version x = ap version e in omega (arith, k)

      first-at : (j : ℕ) → Member c j → version j ≡ version x → (Left r j → ⊥) ⊎ (j ≡ x) → x ≤ j
      first-at j m z (inl q) = let k = p.most j m q in absurd (let y : ⊥ = omega (arith, k, l, z) in y)
      first-at j m z (inr e) = omega (arith, e)

  -- it did not
  lower : version x ≤ best → Poll version c (But (Left r) x) r.source best
  lower l =
      record {
        member = p.member;
        within = λ j h. p.within j h.0;
        ahead = ahead-then;
        most = λ j m n. most-at j m (settled r x j n);
        first = λ j m n e. first-at j m e (settled r x j n);
        own = λ n. own_at (settled r x r.source n);
        fresh = λ h. p.fresh h.0;
      }
    where
      most-at : (j : ℕ) → Member c j → (Left r j → ⊥) ⊎ (j ≡ x) → version j ≤ best
      most-at j m (inl q) = p.most j m q
      most-at j m (inr e) = let k : version j ≡ version x = ap version e in omega (arith, k, l)

      before : (Left r r.source) ⊎ (Left r r.source → ⊥) → r.source ≤ x
      before (inl h) = (p.fresh h).1 x (p.within x w.0)
      before (inr n) = let k = p.ahead r.source x p.member n w.0 in omega (arith, k)

      first-at : (j : ℕ) → Member c j → version j ≡ best → (Left r j → ⊥) ⊎ (j ≡ x) → r.source ≤ j
      first-at j m z (inl q) = p.first j m q z
      first-at j m z (inr e) = let k = before (is-left r r.source) in omega (arith, e, k)

      own_at : (Left r r.source → ⊥) ⊎ (r.source ≡ x) → version r.source ≡ best
      own_at (inl q) = p.own q
      own_at (inr e) =
          let z = (p.fresh (subst (Left r) (sym e) w.0)).0 in
          let k : version r.source ≡ version x = ap version e in
          omega (arith, z, k, l)

-- ---- the run that goes on

abbrev is_versions : Phase → Bool
is_versions (Phase.Versions best) = true
is_versions (Phase.Base s) = false
is_versions Phase.LastIo = false
is_versions (Phase.Gather s) = false
is_versions (Phase.Enable every) = false
is_versions (Phase.Spread s) = false

run_is : (c : Pool) (a b : Run) → c.job ≡ Job.Running a → c.job ≡ Job.Running b → a ≡ b
run_is c a b p q = let z : Job.Running a ≡ Job.Running b = sym p ∙ q in cc z

-- somebody of a set, or nobody
some_or_none : (s : ℕ) (who : ℕ → Type 0) → ((id : ℕ) → Iff (In s id) (who id)) → (Lowest who (lowest s)) ⊎ (Nobody who)
some_or_none s who f = elim (dec_lt (lowest s) 16) [
  | yes l ↦ inl (lowest-as (In s) who (lowest s) f (lowest-of s l))
  | no g ↦ inr (λ id h. clash ((f id).1 h) (lowest-nobody s (omega (arith, g, lowest-le s)) id))
]

-- after the last version: the next phase, whose source is the chosen
record NextPhase (c' : Pool) (source : ℕ) : Type 0 where
  run : Run
  job : c'.job ≡ Job.Running run
  chosen : run.source ≡ source
  phase : is_versions run.phase ≡ false

next-phase : (c c' : Pool) (s : Sent) (r : Run) (source : ℕ) → Member c source → ToBase c c' s r source (But (Member c) source) → NextPhase c' source
next-phase c c' s r source m t = at (some_or_none (without c.roster.members source) (But (Member c) source) (but_in c.roster.members source (Member c) (λ j. ((λ h. h), λ h. h))))
  where
    at : (Lowest (But (Member c) source) (lowest (without c.roster.members source))) ⊎ (Nobody (But (Member c) source)) → NextPhase c' source
    at (inl l) = let a = (t.0 _ l).awaits in record { run = a.run; job = a.job; chosen = a.source; phase = ap is_versions a.phase }
    at (inr n) =
        let a = ((t.1 n).0 (lowest c.roster.members) (lowest-of c.roster.members (some_in c.roster.members source m).1)).awaits in
        record { run = a.run; job = a.job; chosen = a.source; phase = ap is_versions a.phase }

-- ---- what is known of every such pool

record Known (version : ℕ → ℕ) (c : Pool) : Type 0 where
  order : InOrder c
  asking : (r : Run) (best : ℕ) → c.job ≡ Job.Running r → r.phase ≡ Phase.Versions best → Poll version c (Left r) r.source best
  done : (r : Run) → c.job ≡ Job.Running r → is_versions r.phase ≡ false → Highest version c r.source

poll-as : (version : ℕ → ℕ) (c c' : Pool) (left left' : ℕ → Type 0) (source source' best best' : ℕ) → c'.roster.members ≡ c.roster.members → ((j : ℕ) → Iff (left' j) (left j)) → source' ≡ source → best' ≡ best
    → Poll version c left source best → Poll version c' left' source' best'
poll-as version c c' left left' source source' best best' m f e z p =
    subst (λ (k : ℕ). Poll version c' left' k best') (sym e)
    (subst (λ (k : ℕ). Poll version c' left' source k) (sym z)
    (record {
      member = to source p.member;
      within = λ j h. to j (p.within j ((f j).0 h));
      ahead = λ j k a n h. p.ahead j k (from j a) (λ l. n ((f j).1 l)) ((f k).0 h);
      most = λ j a n. p.most j (from j a) (λ l. n ((f j).1 l));
      first = λ j a n q. p.first j (from j a) (λ l. n ((f j).1 l)) q;
      own = λ n. p.own (λ l. n ((f source).1 l));
      fresh = λ h. let k = p.fresh ((f source).0 h) in (k.0, λ j a. k.1 j (from j a));
    }))
  where
    to : (j : ℕ) → Member c j → Member c' j
    to j h = ap (λ (k : ℕ). has k j) m ∙ h

    from : (j : ℕ) → Member c' j → Member c j
    from j h = ap (λ (k : ℕ). has k j) (sym m) ∙ h

-- everybody has answered
all_asked : (version : ℕ → ℕ) (c c' : Pool) (left : ℕ → Type 0) (source best : ℕ) → c'.roster.members ≡ c.roster.members → Nobody left → Poll version c left source best → Highest version c' source
all_asked version c c' left source best m n p =
    record {
      member = ap (λ (k : ℕ). has k source) m ∙ p.member;
      most = λ j h. let k = p.most j (from j h) (n j) in let z = p.own (n source) in omega (arith, k, z);
      first = λ j h e. p.first j (from j h) (n j) (e ∙ p.own (n source));
    }
  where
    from : (j : ℕ) → Member c' j → Member c j
    from j h = ap (λ (k : ℕ). has k j) (sym m) ∙ h

best-is : (a b : ℕ) → Phase.Versions a ≡ Phase.Versions b → a ≡ b
best-is a b e = cc e

-- the next one is asked, or the next phase follows
went_on : (version : ℕ → ℕ) (c c' : Pool) (s : Sent) (r : Run) (x source best : ℕ) → InOrder c' → c'.roster.members ≡ c.roster.members → Poll version c (But (Left r) x) source best
    → ToVersions best c c' s r source (But (Left r) x) → Known version c'
went_on version c c' s r x source best o m p t = at (some_or_none (without r.left x) (But (Left r) x) (but_in r.left x (Left r) (λ j. ((λ h. h), λ h. h))))
  where
    at : (Lowest (But (Left r) x) (lowest (without r.left x))) ⊎ (Nobody (But (Left r) x)) → Known version c'
    at (inl l) =
        let a = (t.0 _ l).awaits in
        record {
          order = o;
          asking = λ r' b e z.
              let q = run_is c' r' a.run e a.job in
              poll-as version c c' (But (Left r) x) (Left r') source r'.source best b m
              (λ j. subst (λ (k : Run). Iff (Left k j) (But (Left r) x j)) (sym q) (a.left j))
              (ap (λ (k : Run). k.source) q ∙ a.source)
              (best-is b best (sym z ∙ (ap (λ (k : Run). k.phase) q ∙ a.phase)))
              p;
          done = λ r' e z. clash (ap is_versions (ap (λ (k : Run). k.phase) (run_is c' r' a.run e a.job) ∙ a.phase)) z;
        }
    at (inr n) =
        let k = next-phase c c' s r source p.member (t.1 n) in
        record {
          order = o;
          asking = λ r' b e z. clash (ap is_versions (sym (ap (λ (i : Run). i.phase) (run_is c' r' k.run e k.job)) ∙ z)) k.phase;
          done = λ r' e z. subst (Highest version c') (sym (ap (λ (i : Run). i.source) (run_is c' r' k.run e k.job) ∙ k.chosen)) (all_asked version c c' (But (Left r) x) source best m n p);
        }

-- no run is in hand any more
over : (version : ℕ → ℕ) (c : Pool) → InOrder c → c.job ≡ Job.Idle → Known version c
over version c o i = record { order = o; asking = λ r b e z. clash (ap is_running e) (ap is_running i); done = λ r e z. clash (ap is_running e) (ap is_running i) }

not-below : (x j : ℕ) → (j < x → ⊥) → x ≤ j
not-below x j n = elim (dec_lt j x) [ yes l ↦ absurd (n l) | no g ↦ omega (arith, g) ]

-- the beginning: nobody was asked yet
began : (version : ℕ → ℕ) (c c' : Pool) (s : Sent) (r : Run) → InOrder c' → Tried c c' s → c'.job ≡ Job.Running r → r.phase ≡ Phase.Versions 0 → Known version c'
began version c c' s r o t e z = at (t.begins.0 (record { run = r; job = e }))
  where
    other : (p : Phase) (from : ℕ) (who : ℕ → Type 0) (x : ℕ) → Awaits c c' s p from who 0 x → is_versions p ≡ false → Known version c'
    other p from who x a n = clash (ap is_versions z) (ap is_versions (ap (λ (k : Run). k.phase) (run_is c' r a.run e a.job) ∙ a.phase) ∙ n)

    at : MayRun c' → Known version c'
    at (low, inl k) =
        let n = normals c' o.sixteen in
        let m = candidates c' o.sixteen in
        other _ _ _ _
        (t.one _ _ (low, inl k) (lowest-as (In (ids_of Kind.Normals c'.roster)) (Normal c') _ n (lowest-of _ (some_in _ k.normal ((n k.normal).1 k.some)).1))
        (lowest-as (In (ids_of Kind.Candidates c'.roster)) (Candidate c') _ m (lowest-of _ (some_in _ k.candidate ((m k.candidate).1 k.exists)).1))) refl
    at (low, inr (inl k)) = other _ _ _ _ (t.two k.last (low, inr (inl k)) k.none k.marked) refl
    at (low, inr (inr k)) =
        let l = lowest-of c'.roster.members (some_in c'.roster.members k.member k.nonempty).1 in
        let a = t.three (lowest c'.roster.members) (low, inr (inr k)) k.none k.unmarked l in
        record {
          order = o;
          asking = λ r' b f y.
              let q = run_is c' r' a.run f a.job in
              poll-as version c' c' (Member c') (Left r') (lowest c'.roster.members) r'.source 0 b refl
              (λ j. subst (λ (i : Run). Iff (Left i j) (Member c' j)) (sym q) (a.left j))
              (ap (λ (i : Run). i.source) q ∙ a.source)
              (best-is b 0 (sym y ∙ (ap (λ (i : Run). i.phase) q ∙ a.phase)))
              (record {
                member = l.0;
                within = λ j h. h;
                ahead = λ j i h n g. absurd (n h);
                most = λ j h n. absurd (n h);
                first = λ j h n g. absurd (n h);
                own = λ n. absurd (n l.0);
                fresh = λ h. (refl, λ j g. not-below (lowest c'.roster.members) j (λ b. l.1 j b g));
              });
          done = λ r' f y. clash (ap is_versions (ap (λ (i : Run). i.phase) (run_is c' r' a.run f a.job) ∙ a.phase)) y;
        }

whose : (r : Run) (x best : ℕ) → r.phase ≡ Phase.Versions best → Lowest (Left r) x → Whose r.phase r x
whose r x best z w = subst (λ (p : Phase). Whose p r x) (sym z) w

-- what the statement says of the version that x brought
brought : (version : ℕ → ℕ) (c c' : Pool) (s : Sent) (r : Run) (best x : ℕ) → InOrder c' → c'.roster.members ≡ c.roster.members → Poll version c (Left r) r.source best → Lowest (Left r) x
    → Brings best c c' s r x (Some (version x)) → Known version c'
brought version c c' s r best x o m p w (fails, more, less) = elim (dec_lt (version_of c) (version x)) [
  | yes l ↦ over version c' o (fails l).then.quiet.job
  | no g ↦ elim (dec_lt best (version x)) [
    | yes l ↦ went_on version c c' s r x x (version x) o m (higher version c r best x p w l) (more (omega (arith, g)) l).then
    | no n ↦ went_on version c c' s r x r.source best o m (lower version c r best x p w (omega (arith, n))) (less (omega (arith, g)) (omega (arith, n))).then
  ]
]

not-versions : (p : Phase) → ((best : ℕ) → p ≢ Phase.Versions best) → is_versions p ≡ false
not-versions (Phase.Versions best) n = absurd (n best refl)
not-versions (Phase.Base s) n = refl
not-versions Phase.LastIo n = refl
not-versions (Phase.Gather s) n = refl
not-versions (Phase.Enable every) n = refl
not-versions (Phase.Spread s) n = refl

known : (version : ℕ → ℕ) (c : Pool) → Asked version c → Known version c
known version _ (Asked.begins c e s r o h t q z) = began version c (next e c) s r (order-kept.1 c e o) (begins-when c e s o h t) q z
known version _ (Asked.brings c xs number s r best x a q z w h) =
    let k = known version c a in
    let e = Event.answer xs number (Reply.Good (Some (version x))) in
    let d = run-answered c xs number (Reply.Good (Some (version x))) s r x k.order q h (whose r x best z w) in
    brought version c (next e c) s r best x (order-kept.1 c e k.order) d.1.members (k.asking r best q z) w
    (subst (λ (p : Phase). Good p c (next e c) s r x (Some (version x))) z d.0)

pub highest-chosen : HighestChosen
highest-chosen version c r a e n = (known version c a).done r e (not-versions r.phase n)
