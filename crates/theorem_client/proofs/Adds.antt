-- What an accepted extend does, in document 02's words; and when it is refused.
use mathlib.Core.Path.{◌≡◌, refl, ap, ◌∙◌, sym}
use mathlib.Core.Bool.{Bool, true, false, not, ◌&&◌, ◌||◌}
use mathlib.Core.List.{List}
use Prim.Native.Nat.{ℕ, ◌≤◌, ◌<◌}
use native.Mathlib.Decide.{ℕ_discrete, dec_lt}
use native.Mathlib.Omega.{arith}
use lib.Dec.{eqb, ltb}
use lib.ListN.{length}
use borrow.Author.Tests.{eqb-true, eq-eqb, ne_eqb, lt-ltb, le-ltb, not-false}
use Rattle.laws_words.specs.Tests.{clash, by_cases, and_both}
use Rattle.laws_words.specs.Words.{pick}
use Rattle.rules_base.proofs.Order.{none-applies}
use Rattle.rules_base.specs.Sets.{has, with}
use Rattle.rules_base.proofs.Sets.{has-none, has-out, has-with-same, has-with-other}
use Rattle.rules_base.specs.Chunk.{dirty}
use Rattle.rules_base.proofs.Chunk.{dirty-lt}
use Rattle.rules_base.specs.Map.{sound}
use Rattle.rules_base.proofs.Chunks.{same-yes, same-no}
use Rattle.rules_base.proofs.Maps.{sound-length}
use Rattle.rules_base.specs.Fill.{row_filled}
use Rattle.rules_base.proofs.Fills.{below-yes, below-no, dirty-filled}
use Rattle.rules_pool.specs.Session.{is_free, is_normal, is_told, free}
use Rattle.rules_pool.specs.declared.Answer.{Answer}
use Rattle.rules_pool.specs.declared.Effect.{Effect}
use Rattle.rules_pool.specs.declared.Job.{Job}
use Rattle.rules_pool.specs.declared.Outcome.{Outcome}
use Rattle.rules_pool.specs.declared.Roster.{Roster}
use Rattle.rules_pool.specs.declared.Sent.{Sent}
use Rattle.rules_pool.specs.declared.Session.{Session}
use Rattle.rules_pool.specs.declared.Turn.{Turn}
use Rattle.rules_pool.specs.Sessions.{session_at, ids_of}
use Rattle.rules_pool.specs.declared.Kind.{Kind}
use Rattle.rules_pool.specs.Recovery.{with_roster, tried}
use Rattle.rules_pool.specs.Exit.{number_of}
use Rattle.laws_client.proofs.Ids.{Long, below, ids-has, ids-none, none-ids}
use Rattle.laws_client.proofs.Pools.{Valid, valid-of}
use Rattle.rules_client.specs.Joins.{create_refusal, join_create}
use Rattle.rules_client.specs.Extend.{picked, extend_refusal, extended, extend_told, extend_done, extend}
use Rattle.laws_client.proofs.ExtendingKept.{Extends, Picks, extend-passed, picks, extended-at, extended-numbers}
use Rattle.rules_pool.specs.declared.Pool.{Pool}
use Rattle.rules_pool.specs.Breaking.{is_accepted}
use Rattle.rules_client.specs.Client.{carried, sound_for, extend_turn}
use Rattle.rules_client.specs.Events.{Event, turn_of, next, tests_of, Lent, job_of, state_of, is_sync}
use Rattle.theorem_client.specs.Said.{members_of, recovery_in, is_unused, Extended}
use Rattle.theorem_client.proofs.Extends.{added-roster}
use Rattle.theorem_client.proofs.Sessions.{tried-job, idle-is}
use Rattle.theorem_client.proofs.Shape.{taken}

-- ---- the id

-- past 15 nobody has a session
past : (ro : Roster) (passes : Session → Bool) → Long ro → passes free ≡ false → (j : ℕ) → 16 ≤ j → passes (session_at ro j) ≡ false
past ro passes l none j h = by_cases (passes (session_at ro j)) (λ e. absurd (let z = below passes ro j l none e in let y : ⊥ = omega (arith, z, h) in y)) (λ e. e)

-- a set read off the sessions by a test that a free one does not pass holds those that pass it
set-of : (k : Kind) (ro : Roster) (passes : Session → Bool) → Long ro → passes free ≡ false → ((j : ℕ) → j < 16 → has (ids_of k ro) j ≡ passes (session_at ro j)) → (j : ℕ) → has (ids_of k ro) j ≡ passes (session_at ro j)
set-of k ro passes l none at j = elim (dec_lt j 16) [
  | yes h ↦ at j h
  | no g ↦ has-out (ids_of k ro) j (omega (arith, g)) ∙ sym (past ro passes l none j (omega (arith, g)))
]

told-set : (ro : Roster) → Long ro → (j : ℕ) → has (ids_of Kind.Told ro) j ≡ is_told (session_at ro j).state
told-set ro l = set-of Kind.Told ro (λ s. is_told s.state) l refl (λ j h. ids-has Kind.Told ro l j h)

normal-set : (ro : Roster) → Long ro → (j : ℕ) → has (ids_of Kind.Normals ro) j ≡ is_normal (session_at ro j).state
normal-set ro l = set-of Kind.Normals ro (λ s. is_normal s.state) l refl (λ j h. ids-has Kind.Normals ro l j h)

with-has : (s id j : ℕ) → id < 16 → has (with s id) j ≡ (has s j || eqb j id)
with-has s id j h = elim (ℕ_discrete j id) [
  | yes e ↦ rw (e, eq-eqb id id refl) (has-with-same s id h ∙ sym (or-true (has s id)))
  | no d ↦ rw (ne_eqb j id d) (has-with-other s id j d ∙ sym (or-false (has s j)))
]
  where
    or-true : (b : Bool) → (b || true) ≡ true
    or-true true = refl
    or-true false = refl

    or-false : (b : Bool) → (b || false) ≡ b
    or-false true = refl
    or-false false = refl

-- ---- the row

row-filled : (xs : List ℕ) (id n m k : ℕ) → length xs ≡ 8192 → id < 16 → m < 16 → k < 4096 → dirty (row_filled id n xs) m k ≡ pick (eqb m id && ltb k n) 1 (dirty xs m k)
row-filled xs id n m k len h hm hk = dirty-filled xs id n m k len h hm hk ∙ elim (ℕ_discrete id m) [
  | yes e ↦ elim (dec_lt k n) [
    | yes l ↦ rw (same-yes id m e, below-yes k n l, eq-eqb m id (sym e), lt-ltb k n l) (omega (arith, dirty-lt xs m k))
    | no g ↦ rw (same-yes id m e, below-no k n (omega (arith, g)), eq-eqb m id (sym e), le-ltb k n (omega (arith, g))) (omega arith)
  ]
  | no d ↦ rw (same-no id m d, ne_eqb m id (λ q. d (sym q))) (omega arith)
]

-- ---- accepted

-- one that nothing refuses
accepted-at : (c : Pool) (xs : List ℕ) → extend_refusal c (sound_for c xs) ≡ 0 → is_accepted (turn_of (Event.extend xs) c).answer ≡ true
unfolding extend extend_done extend_turn
accepted-at c xs e = rw e refl

-- what the turn of an accepted extend is
record Does (c : Pool) (xs : List ℕ) (t : Turn) : Type 0 where
  may : Extends c
  lent : sound c.chunks xs ≡ true
  is : t ≡ extend_done c (picked c.roster)

sound-at : (c : Pool) (xs : List ℕ) → extend_refusal c (sound_for c xs) ≡ 0 → sound c.chunks xs ≡ true
unfolding extend_refusal
sound-at c xs e = not-false (sound c.chunks xs) (none-applies (tests_of (Event.extend xs) c) e 2 refl)

does : (c : Pool) (xs : List ℕ) → is_accepted (turn_of (Event.extend xs) c).answer ≡ true → Does c xs (extend_turn c xs)
unfolding extend extend_turn
does c xs =
    taken (Does c xs) (extend_refusal c (sound_for c xs)) (extend_done c (picked c.roster)) c
    (λ e. record { may = extend-passed c (sound_for c xs) e; lent = sound-at c xs e; is = refl })

extended-job : (c : Pool) → job_of c ≡ Job.Idle → (extend_done c (picked c.roster)).pool.job ≡ recovery_in (extend_done c (picked c.roster)).pool
unfolding extend_done
extended-job c idle = tried-job (with_roster c (extended c.roster (picked c.roster))) idle

-- what it hands back
handed-back : Pool → Sent
handed-back c =
    record {
      outcome = Outcome.Picked (picked c.roster);
      told = extend_told c.roster (picked c.roster);
      awaited = (tried (with_roster c (extended c.roster (picked c.roster)))).awaited;
      number = number_of (tried (with_roster c (extended c.roster (picked c.roster)))).awaited (tried (with_roster c (extended c.roster (picked c.roster)))).pool.number;
    }

answers : (c : Pool) → (extend_done c (picked c.roster)).answer ≡ Answer.Done (handed-back c)
unfolding extend_done handed-back
answers c = refl

reports : (c : Pool) → ((handed-back c).outcome ≡ Outcome.Picked (picked c.roster)) × ((handed-back c).told ≡ extend_told c.roster (picked c.roster))
unfolding handed-back
reports c = (refl, refl)

fills-row : (c : Pool) → (extend_done c (picked c.roster)).effect ≡ Effect.FillRow (picked c.roster) c.chunks
unfolding extend_done
fills-row c = refl

pub extend-said : (c : Pool) (xs : List ℕ) → Valid c → is_accepted (turn_of (Event.extend xs) c).answer ≡ true → Extended c xs (Event.extend xs)
extend-said c xs v d =
    record {
      id = id;
      below = k.below;
      unused = and_both k.free (ap not k.outside);
      lowest = k.lowest;
      begins = ap (λ (ro : Roster). (session_at ro id).state) roster ∙ ap (λ (s : Session). s.state) (extended-at c.roster id v.ok.long k.below);
      members = λ j. ap (λ (ro : Roster). has ro.members j) roster ∙ (ap (λ (n : ℕ). has n j) (extended-numbers c.roster id).held ∙ with-has (members_of c) id j k.below);
      told = ids_of Kind.Told c.roster;
      others = told-set c.roster v.ok.long;
      fills = ids_of Kind.Normals c.roster;
      normals = normal-set c.roster v.ok.long;
      sent = handed-back c;
      answer = ap (λ (t : Turn). t.answer) h.is ∙ answers c;
      reports = (reports c).0;
      messages = (reports c).1;
      tries = ap (λ (t : Turn). t.pool.job) h.is ∙ (extended-job c (idle-is (job_of c) h.may.idle) ∙ sym (ap (λ (t : Turn). recovery_in t.pool) h.is));
      map = ap (λ (t : Turn). Lent.some (carried t.effect xs)) h.is ∙ ap (λ (ef : Effect). Lent.some (carried ef xs)) (fills-row c);
      row = λ m n hm hn. row-filled xs id c.chunks m n (sound-length c.chunks xs h.lent) k.below hm hn;
    }
  where
    id : ℕ
    id = picked c.roster

    h : Does c xs (extend_turn c xs)
    h = does c xs d

    k : Picks c.roster (picked c.roster)
    k = picks c.roster v.ok.long h.may.some

    roster : (next (Event.extend xs) c).roster ≡ extended c.roster (picked c.roster)
    roster = ap (λ (t : Turn). t.pool.roster) h.is ∙ added-roster c

-- ---- refused

refused_as : (c : Pool) (xs : List ℕ) (n : ℕ) → extend_refusal c (sound_for c xs) ≡ n → eqb n 0 ≡ false → (turn_of (Event.extend xs) c).answer ≡ Answer.Refused n
unfolding extend extend_turn
refused_as c xs n e z = rw (e, z) refl

why-extend : (c : Pool) (xs : List ℕ) → Valid c → is_sync c ≡ false → job_of c ≡ Job.Idle → sound c.chunks xs ≡ true
    → extend_refusal c (sound_for c xs) ≡ pick (eqb (ids_of Kind.Normals c.roster) 0) 11 (pick (eqb (ids_of Kind.Unused c.roster) 0) 19 0)
unfolding extend_refusal
why-extend c xs v plain idle snd = simp (valid-of c v, plain, idle, snd)

unused-none : (c : Pool) → Long c.roster → ((j : ℕ) → j < 16 → is_unused c j ≡ false) → ids_of Kind.Unused c.roster ≡ 0
unused-none c l f = none-ids Kind.Unused c.roster l f

pub extend-none : (c : Pool) (xs : List ℕ) → Valid c → is_sync c ≡ false → job_of c ≡ Job.Idle → sound c.chunks xs ≡ true
    → ((n : ℕ) → is_normal (state_of c n) ≡ true → ((j : ℕ) → j < 16 → is_unused c j ≡ false) → (turn_of (Event.extend xs) c).answer ≡ Answer.Refused 19)
    × ((turn_of (Event.extend xs) c).answer ≡ Answer.Refused 19 → (j : ℕ) → j < 16 → is_unused c j ≡ false)
    × (((n : ℕ) → is_normal (state_of c n) ≡ false) → (turn_of (Event.extend xs) c).answer ≡ Answer.Refused 11)
extend-none c xs v plain idle snd = (
  (λ n is none. refused_as c xs 19 (why ∙ rw (some n is, eq-eqb (ids_of Kind.Unused c.roster) 0 (unused-none c l none)) refl) refl),
  given,
  λ none. refused_as c xs 11 (why ∙ rw (eq-eqb (ids_of Kind.Normals c.roster) 0 (none-ids Kind.Normals c.roster l (λ j h. none j))) refl) refl,
)
  where
    l : Long c.roster
    l = v.ok.long

    why : extend_refusal c (sound_for c xs) ≡ pick (eqb (ids_of Kind.Normals c.roster) 0) 11 (pick (eqb (ids_of Kind.Unused c.roster) 0) 19 0)
    why = why-extend c xs v plain idle snd

    some : (n : ℕ) → is_normal (state_of c n) ≡ true → eqb (ids_of Kind.Normals c.roster) 0 ≡ false
    some n is = by_cases (eqb (ids_of Kind.Normals c.roster) 0)
        (λ z. clash (normal-set c.roster l n ∙ is) (ap (λ (s : ℕ). has s n) (eqb-true (ids_of Kind.Normals c.roster) 0 z) ∙ has-none n))
        (λ z. z)

    not-nineteen : eqb (ids_of Kind.Unused c.roster) 0 ≡ false → (turn_of (Event.extend xs) c).answer ≡ Answer.Refused 19 → ⊥
    not-nineteen z q = by_cases (eqb (ids_of Kind.Normals c.roster) 0)
        (λ w. let a : Answer.Refused 11 ≡ Answer.Refused 19 = sym (refused_as c xs 11 (why ∙ rw w refl) refl) ∙ q in let y : ◌≡◌ {A = ℕ} 11 19 = cc a in omega (arith, y))
        (λ w. let a : is_accepted (turn_of (Event.extend xs) c).answer ≡ true = accepted-at c xs (why ∙ rw (w, z) refl) in clash a (ap is_accepted q))

    given : (turn_of (Event.extend xs) c).answer ≡ Answer.Refused 19 → (j : ℕ) → j < 16 → is_unused c j ≡ false
    given q = by_cases (eqb (ids_of Kind.Unused c.roster) 0)
        (λ z. ids-none Kind.Unused c.roster l (eqb-true (ids_of Kind.Unused c.roster) 0 z))
        (λ z. absurd (not-nineteen z q))

-- ---- join create

pub create-ends : (c : Pool) (id : ℕ) → Valid c → id < 16 → job_of c ≡ Job.Idle → is_free (state_of c id) ≡ true → is_sync c ≡ false → c.roster.past.written ≡ true
    → (turn_of (Event.join_create id) c).answer ≡ Answer.Refused 17
unfolding join_create create_refusal
create-ends c id v h idle none plain written = simp (valid-of c v, le-ltb 15 id (omega (arith, h)), idle, none, plain, written)
