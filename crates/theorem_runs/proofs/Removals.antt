-- A removal, message by message: proofs.
use mathlib.Core.Path.{◌≡◌, refl, sym, ap, ◌∙◌, subst}
use mathlib.Core.Logic.{◌≢◌, inl, inr}
use mathlib.Core.Bool.{Bool, true, false, not, ◌&&◌}
use mathlib.Core.List.{List}
use Prim.Native.Nat.{ℕ, ◌+◌, ◌-◌, ◌%◌, ◌^◌, ◌≤◌, ◌<◌}
use native.Mathlib.Decide.{dec_lt}
use native.Mathlib.Omega.{arith}
use lib.Dec.{eqb, ltb}
use borrow.Author.Tests.{eq-eqb, lt-ltb, le-ltb, ltb-true, ltb-false, not-false}
use Rattle.laws_words.specs.Words.{pick}
use Rattle.laws_words.specs.Tests.{by_cases, clash, either, and_left, and_right, and_both, and-false}
use Rattle.rules_base.specs.Sets.{has, lowest, without}
use Rattle.rules_base.specs.Map.{sound, zero_row}
use Rattle.rules_base.proofs.Sets.{has-below, lowest-in, without-lt}
use Rattle.rules_base.specs.declared.Op.{Op}
use Rattle.rules_pool.specs.declared.Mode.{Mode}
use Rattle.rules_pool.specs.declared.State.{State}
use Rattle.rules_pool.specs.declared.Session.{Session}
use Rattle.rules_pool.specs.declared.Stage.{Stage}
use Rattle.rules_pool.specs.declared.Job.{Job}
use Rattle.rules_pool.specs.declared.Roster.{Roster}
use Rattle.rules_pool.specs.declared.Pool.{Pool}
use Rattle.rules_pool.specs.declared.Message.{Message}
use Rattle.rules_pool.specs.declared.Told.{Told}
use Rattle.rules_pool.specs.declared.Outcome.{Outcome}
use Rattle.rules_pool.specs.declared.Reply.{Reply}
use Rattle.rules_pool.specs.declared.Sent.{Sent}
use Rattle.rules_pool.specs.declared.Effect.{Effect}
use Rattle.rules_pool.specs.declared.Turn.{Turn}
use Rattle.rules_pool.specs.declared.Kind.{Kind}
use Rattle.rules_pool.specs.Session.{is_free, is_normal, is_delete, is_deleting, is_owed, is_told, free}
use Rattle.rules_pool.specs.Sessions.{session_at, ids_of}
use Rattle.rules_pool.specs.declared.Past.{Past}
use Rattle.rules_pool.specs.Past.{past_kept}
use Rattle.rules_pool.specs.Changes.{freed, member_dropped}
use Rattle.rules_pool.specs.Changes as changes
use Rattle.rules_pool.specs.Recovery.{with_roster, posted}
use Rattle.rules_pool.specs.StateRules.{job_ok}
use Rattle.rules_pool.specs.Exit.{refused, number_of}
use Rattle.rules_pool.specs.Breaking.{is_accepted}
use Rattle.rules_client.specs.declared.Gone.{Gone}
use Rattle.rules_client.specs.Removal.{op_of, mode_of, tellable, due, asked, freed_from, onward, departed, started, paid, removal_answered}
use Rattle.rules_client.specs.Remove.{other_mode, remove_refusal, remove_begun, gone, remove}
use Rattle.rules_client.specs.Answers.{answered, answer_refusal, answer}
use Rattle.rules_client.specs.Client.{carried, sound_for, remove_turn, answer_turn}
use Rattle.rules_client.specs.Events.{Event, turn_of, Lent, record_of, state_of, is_sync}
use Rattle.laws_client.proofs.Ids.{Long, below, ids-has, none-ids, stored_same, stored_other, stored-long}
use Rattle.laws_client.proofs.Pools.{Valid, removal-facts}
use Rattle.laws_client.proofs.Records.{Numbers, rises}
use Rattle.laws_client.proofs.Changes.{moved_plain, removing-at}
use Rattle.laws_client.proofs.Links.{counted}
use Rattle.laws_client.proofs.RemovalSteps.{Removable, removing-other, removing-numbers, removing-long, paid-at, paid_other, paid-long}
use Rattle.theorem_client.proofs.States.{and-true, free-is, normal-is}
use Rattle.theorem_runs.specs.Words.{Iff, InOrder, Normal, Member, version_of, Nobody, Lowest, But, InTurn}
use Rattle.theorem_runs.specs.Removals.{removing, NotOwed, op, Hears, Due, Asks, Tells, Frees, Onward, KeptIn, Departs, Alone, Removes, RemoveDoes, OtherMode, RemoveWhen, RemovalStep, RemovalAnswered}
use Rattle.theorem_runs.proofs.Words.{In, lowest-is, lowest-as, some_in, none_in, kind-iff, but_in, order-valid, done-is, sent_is}

-- ---- who hears

hears : (st : State) → Iff (is_told st ≡ true) (Hears st)
hears State.Free = ((λ e. clash e refl), λ h. at h)
  where
    at : Hears State.Free → is_told State.Free ≡ true
    at (inl e) = ap is_told e
    at (inr (inl e)) = ap is_told e
    at (inr (inr e)) = ap is_told e
hears State.Created = ((λ e. inl refl), λ h. refl)
hears State.Normal = ((λ e. inr (inl refl)), λ h. refl)
hears (State.Failed cause) = ((λ e. clash e refl), λ h. at h)
  where
    at : Hears (State.Failed cause) → is_told (State.Failed cause) ≡ true
    at (inl e) = ap is_told e
    at (inr (inl e)) = ap is_told e
    at (inr (inr e)) = ap is_told e
hears State.Reconnecting = ((λ e. inr (inr refl)), λ h. refl)
hears (State.Removing mode owed) = ((λ e. clash e refl), λ h. at h)
  where
    at : Hears (State.Removing mode owed) → is_told (State.Removing mode owed) ≡ true
    at (inl e) = ap is_told e
    at (inr (inl e)) = ap is_told e
    at (inr (inr e)) = ap is_told e

-- A pool p in which the removal of id goes on: the other sessions are those of c.
record Near (c p : Pool) (id : ℕ) : Type 0 where
  long : Long p.roster
  below : id < 16
  others : (j : ℕ) → j ≢ id → session_at p.roster j ≡ record_of c j
  own : is_told (state_of p id) ≡ false
  kind : is_sync p ≡ is_sync c
  number : p.number ≡ c.number
  chunks : p.chunks ≡ c.chunks

-- those that are due, said of c
abbrev due-after : Stage → ℕ → Type 0
due-after Stage.Leave j = Unit {0}
due-after (Stage.Info peer) j = peer < j

told-iff : (c p : Pool) (id : ℕ) (st : Stage) → Near c p id → (j : ℕ) → Iff (In (tellable st p.roster) j) ((is_told (state_of c j) ≡ true) × (j ≢ id) × due-after st j)
told-iff c p id st n j = (at st, back st)
  where
    not_own : is_told (state_of p j) ≡ true → j ≢ id
    not_own h e = clash (subst (λ (k : ℕ). is_told (state_of p k) ≡ true) e h) n.own

    same : j ≢ id → is_told (state_of p j) ≡ is_told (state_of c j)
    same d = ap (λ (s : Session). is_told s.state) (n.others j d)

    at : (st : Stage) → In (tellable st p.roster) j → (is_told (state_of c j) ≡ true) × (j ≢ id) × due-after st j
    at Stage.Leave h =
        let k = sym (ids-has Kind.Told p.roster n.long j (has-below _ j h)) ∙ h in
        (sym (same (not_own k)) ∙ k, not_own k, tt)
    at (Stage.Info peer) h =
        let k = sym (ids-has (Kind.Later peer) p.roster n.long j (has-below _ j h)) ∙ h in
        let t = and_left (is_told (state_of p j)) (ltb peer j) k in
        (sym (same (not_own t)) ∙ t, not_own t, ltb-true peer j (and_right (is_told (state_of p j)) (ltb peer j) k))

    small : (d : j ≢ id) → is_told (state_of c j) ≡ true → j < 16
    small d t = below (λ s. is_told s.state) p.roster j n.long refl (same d ∙ t)

    back : (st : Stage) → (is_told (state_of c j) ≡ true) × (j ≢ id) × due-after st j → In (tellable st p.roster) j
    back Stage.Leave (t, d, u) = ids-has Kind.Told p.roster n.long j (small d t) ∙ (same d ∙ t)
    back (Stage.Info peer) (t, d, u) = ids-has (Kind.Later peer) p.roster n.long j (small d t) ∙ and_both (same d ∙ t) (lt-ltb peer j u)

-- ---- the next peer, or the session is freed

-- what is handed back
abbrev back : Gone → Sent
back g = record { outcome = Outcome.Plain; told = Told.Nothing; awaited = g.posted.awaited; number = number_of g.posted.awaited g.posted.pool.number }

abbrev tells : Pool → ℕ → Effect → ℕ → Gone
tells p id ef y = record { posted = asked p id (Stage.Info y) (Message.Info y (op_of (state_of p id)) id); effect = ef }

abbrev step : Pool → ℕ → Effect → ℕ → Gone
step p id ef k = pick (ltb k 16) (tells p id ef k) (freed_from p id ef)

onward-turn : (c p : Pool) (id : ℕ) (st : Stage) (ef : Effect) (n : Near c p id) (who : ℕ → Type 0) → ((j : ℕ) → Iff (who j) ((is_sync c ≡ false) × In (tellable st p.roster) j))
    → (A : ℕ → Gone → Type 0) (B : Gone → Type 0) → ((y : ℕ) → A y (tells p id ef y)) → B (freed_from p id ef)
    → InTurn who (λ y. A y (onward p id st ef)) (B (onward p id st ef))
unfolding onward due
onward-turn c p id st ef n who f A B a b = at (is_sync p) refl
  where
    at : (x : Bool) → is_sync p ≡ x → InTurn who (λ y. A y (step p id ef (pick x 16 (lowest (tellable st p.roster))))) (B (step p id ef (pick x 16 (lowest (tellable st p.roster)))))
    at true e = ((λ y l. clash (sym n.kind ∙ e) ((f y).0 l.0).0), λ z. b)
    at false e = (this, that)
      where
        plain : is_sync c ≡ false
        plain = sym n.kind ∙ e

        iff : (j : ℕ) → Iff (who j) (In (tellable st p.roster) j)
        iff j = ((λ h. ((f j).0 h).1), λ h. (f j).1 (plain, h))

        this : (y : ℕ) → Lowest who y → A y (step p id ef (lowest (tellable st p.roster)))
        this y l =
            let k = lowest-as who (In (tellable st p.roster)) y iff l in
            let z : lowest (tellable st p.roster) ≡ y = lowest-is _ y k in
            let s = (some_in _ y k.0).1 in
            rw (lt-ltb _ 16 s) (subst (λ (i : ℕ). A y (tells p id ef i)) (sym z) (a y))

        that : Nobody who → B (step p id ef (lowest (tellable st p.roster)))
        that z = elim (dec_lt (lowest (tellable st p.roster)) 16) [
          | yes l ↦ absurd (z _ ((iff _).1 (lowest-in _ l)))
          | no g ↦ rw (le-ltb (lowest (tellable st p.roster)) 16 (omega (arith, g))) b
        ]

-- ---- what a step leaves besides

-- the session of id aside, q is p, but for members and past
record Lone (p q : Pool) (id : ℕ) : Type 0 where
  others : (j : ℕ) → j ≢ id → session_at q.roster j ≡ session_at p.roster j
  version : q.roster.version ≡ p.roster.version
  count : q.roster.count ≡ p.roster.count
  kind : is_sync q ≡ is_sync p
  chunks : q.chunks ≡ p.chunks

abbrev Same : Pool → Pool → Type 0
Same p q = (q.roster.members ≡ p.roster.members) × (q.roster.past ≡ p.roster.past)

onward-lone : (p : Pool) (id : ℕ) (st : Stage) (ef : Effect) → Lone p (onward p id st ef).posted.pool id × Same p (onward p id st ef).posted.pool
unfolding onward posted freed_from
onward-lone p id st ef =
    either (λ (g : Gone). Lone p g.posted.pool id × Same p g.posted.pool) (ltb (due st p.roster) 16) _ _
    (record { others = λ j d. refl; version = refl; count = refl; kind = refl; chunks = refl }, (refl, refl))
    (record { others = λ j d. stored_other p.roster id free j d; version = refl; count = refl; kind = refl; chunks = refl }, (refl, refl))

-- ---- the session is freed

free-none : (st : State) → is_free st ≡ true → not (is_free st) ≡ false
free-none st e = ap not e

module _ (c p : Pool) (id : ℕ) (ef : Effect) (xs ys : List ℕ) (n : Near c p id) (m : carried ef xs ≡ ys) where
  abbrev q : Pool
  q = with_roster p (freed p.roster id)

  present : (j : ℕ) → Iff (In (ids_of Kind.Present (freed p.roster id)) j) (not (is_free (session_at (freed p.roster id) j).state) ≡ true)
  present j = kind-iff Kind.Present (λ s. not (is_free s.state)) (freed p.roster id) (stored-long p.roster id free n.long) (λ k s. refl) refl j

  frees : Frees c (freed_from p id ef).posted.pool (back (freed_from p id ef)) (Lent.some (carried (freed_from p id ef).effect xs)) id xs ys
  unfolding freed_from
  frees =
      record {
        quiet = record { job = refl; message = refl; number = n.number; under = refl };
        own = stored_same p.roster id free n.long n.below;
        none = λ plain all.
            let z : ids_of Kind.Present (freed p.roster id) ≡ 0
            = none-ids Kind.Present (freed p.roster id) (stored-long p.roster id free n.long) (λ j h. ap (λ (st : State). not (is_free st)) (all j)) in
            rw (eq-eqb _ 0 z, n.kind ∙ plain) refl;
        some = λ j d.
            let k = (present j).1 (lives (session_at (freed p.roster id) j).state d) in
            rw (some_in _ j k).0 (ap Lent.some m);
        sync = λ s.
            let z : (eqb (ids_of Kind.Present (freed p.roster id)) 0 && not (is_sync p)) ≡ false
            = ap (λ (b : Bool). eqb (ids_of Kind.Present (freed p.roster id)) 0 && not b) (n.kind ∙ s) ∙ and-false (eqb (ids_of Kind.Present (freed p.roster id)) 0) in
            ap (λ (b : Bool). Lent.some (carried (pick b Effect.ZeroAll ef) xs)) z ∙ ap Lent.some m;
      }
    where
      lives : (st : State) → st ≢ State.Free → not (is_free st) ≡ true
      lives st d = by_cases (is_free st) (λ e. absurd (d (free-is st e))) (λ e. ap not e)

-- ---- POOL_INFO goes out

op-is : (st : State) (mode : Mode) (owed : Bool) → st ≡ State.Removing mode owed → op_of st ≡ op mode
op-is st Mode.Delete owed e = ap op_of e
op-is st Mode.Disassemble owed e = ap op_of e

asks-is : (c p : Pool) (id y : ℕ) (mode : Mode) (owed : Bool) (ef : Effect) → p.number ≡ c.number → state_of p id ≡ State.Removing mode owed
    → Asks c (tells p id ef y).posted.pool (back (tells p id ef y)) id (Stage.Info y) (Message.Info y (op mode) id)
unfolding posted
asks-is c p id y mode owed ef same st =
    record { job = refl; message = ap (λ (o : Op). Message.Info y o id) (op-is (state_of p id) mode owed st); number = ap (λ (k : ℕ). (k + 1) % 2 ^ 32) same; under = refl }

-- ---- after LEAVE_POOL, done or not owed

due-leave : (c p : Pool) (id : ℕ) → Near c p id → (j : ℕ) → Iff (Due c id j) ((is_sync c ≡ false) × In (tellable Stage.Leave p.roster) j)
due-leave c p id n j = (
  (λ (s, h, d). (s, (told-iff c p id Stage.Leave n j).1 ((hears (state_of c j)).1 h, d, tt))),
  λ (s, h). let k = (told-iff c p id Stage.Leave n j).0 h in (s, (hears (state_of c j)).0 k.0, k.1),
)

told-record : (p : Pool) (id : ℕ) (ef : Effect) (y : ℕ) → record_of (tells p id ef y).posted.pool id ≡ record_of p id
unfolding posted
told-record p id ef y = refl

onward-does : (c p : Pool) (id : ℕ) (mode : Mode) (ef : Effect) (xs ys : List ℕ) → Near c p id → record_of p id ≡ removing mode false → carried ef xs ≡ ys
    → Onward c (onward p id Stage.Leave ef).posted.pool (back (onward p id Stage.Leave ef)) (Lent.some (carried (onward p id Stage.Leave ef).effect xs)) id mode (Due c id) xs ys
onward-does c p id mode ef xs ys n own m =
    onward-turn c p id Stage.Leave ef n (Due c id) (due-leave c p id n)
    (λ y g. Tells c g.posted.pool (back g) (Lent.some (carried g.effect xs)) id mode ys y)
    (λ g. Frees c g.posted.pool (back g) (Lent.some (carried g.effect xs)) id xs ys)
    (λ y. record { asks = asks-is c p id y mode false ef n.number (ap (λ (s : Session). s.state) own); own = tells-own y; map = ap Lent.some m })
    (frees c p id ef xs ys n m)
  where
    tells-own : (y : ℕ) → record_of (tells p id ef y).posted.pool id ≡ removing mode false
    tells-own y = told-record p id ef y ∙ own

pick-in : (b : Bool) (x y : Gone) (P : Gone → Type 0) → (b ≡ true → P x) → (b ≡ false → P y) → P (pick b x y)
pick-in true x y P f g = f refl
pick-in false x y P f g = g refl

-- what a departure leaves
record Departed (c p : Pool) (id : ℕ) (mode : Mode) (xs : List ℕ) (g : Gone) : Type 0 where
  does : Departs c g.posted.pool (back g) (Lent.some (carried g.effect xs)) id mode xs
  lone : Lone p g.posted.pool id

-- disassemble, or a sync pool
stays-does : (c p : Pool) (id : ℕ) (mode : Mode) (xs : List ℕ) → Near c p id → record_of p id ≡ removing mode false → Same c p → (is_delete mode && not (is_sync c)) ≡ false
    → Departed c p id mode xs (onward p id Stage.Leave Effect.Keep)
stays-does c p id mode xs n own same b =
    let l = onward-lone p id Stage.Leave Effect.Keep in
    record {
      does = record {
        ys = xs;
        out = λ m s. clash (let z : (is_delete mode && not (is_sync c)) ≡ true = and_both (ap is_delete m) (ap not s) in z) b;
        stays = λ m. record { members = l.1.0 ∙ same.0; past = l.1.1 ∙ same.1; map = refl };
        sync = λ s. record { members = l.1.0 ∙ same.0; past = l.1.1 ∙ same.1; map = refl };
        then = onward-does c p id mode Effect.Keep xs xs n own refl;
      };
      lone = l.0;
    }

not-delete : (mode : Mode) → mode ≡ Mode.Disassemble → is_delete mode ≡ false
not-delete mode e = ap is_delete e

past-true : (k : Past) → past_kept k true ≡ k
past-true k = λ i. record { written = and-true k.written i; assembled = and-true k.assembled i }

-- delete, in a pool that has members
out-does : (c p : Pool) (id : ℕ) (mode : Mode) (xs : List ℕ) → Near c p id → record_of p id ≡ removing mode false → Same c p → c.roster.members < 65536 → (is_delete mode && not (is_sync c)) ≡ true
    → Departed c p id mode xs (onward (with_roster p (member_dropped p.roster id)) id Stage.Leave (Effect.ZeroRow id))
out-does c p id mode xs n own same small b =
    record {
      does = record {
        ys = zero_row id xs;
        out = λ m s.
            record {
              members = λ j. subst (λ (k : ℕ). Iff (In k j) (But (Member c) id j)) (sym held) (but_in c.roster.members id (Member c) (λ i. ((λ h. h), λ h. h)) j);
              row = refl;
              last = λ z. cleared (none_in (without c.roster.members id) (without-lt c.roster.members id small) (λ j h. z j (ap (λ (k : ℕ). has k j) held ∙ h)));
              others = λ j h. stands (some_in (without c.roster.members id) j (ap (λ (k : ℕ). has k j) (sym held) ∙ h)).0;
            };
        stays = λ m. clash (and_left (is_delete mode) (not (is_sync c)) b) (not-delete mode m);
        sync = λ s. clash (and_right (is_delete mode) (not (is_sync c)) b) (ap not s);
        then = onward-does c (with_roster p (member_dropped p.roster id)) id mode (Effect.ZeroRow id) xs (zero_row id xs)
            (record { long = n.long; below = n.below; others = n.others; own = n.own; kind = n.kind; number = n.number; chunks = n.chunks }) own refl;
      };
      lone = record { others = l.0.others; version = l.0.version; count = l.0.count; kind = l.0.kind; chunks = l.0.chunks };
    }
  where
    l : Lone (with_roster p (member_dropped p.roster id)) (onward (with_roster p (member_dropped p.roster id)) id Stage.Leave (Effect.ZeroRow id)).posted.pool id
        × Same (with_roster p (member_dropped p.roster id)) (onward (with_roster p (member_dropped p.roster id)) id Stage.Leave (Effect.ZeroRow id)).posted.pool
    l = onward-lone (with_roster p (member_dropped p.roster id)) id Stage.Leave (Effect.ZeroRow id)

    held : (onward (with_roster p (member_dropped p.roster id)) id Stage.Leave (Effect.ZeroRow id)).posted.pool.roster.members ≡ without c.roster.members id
    held = l.1.0 ∙ ap (λ (k : ℕ). without k id) same.0

    past : (onward (with_roster p (member_dropped p.roster id)) id Stage.Leave (Effect.ZeroRow id)).posted.pool.roster.past ≡ past_kept c.roster.past (not (eqb (without c.roster.members id) 0))
    past = l.1.1 ∙ (ap (λ (k : ℕ). past_kept p.roster.past (not (eqb (without k id) 0))) same.0 ∙ ap (λ (k : Past). past_kept k (not (eqb (without c.roster.members id) 0))) same.1)

    cleared : eqb (without c.roster.members id) 0 ≡ true
        → ((onward (with_roster p (member_dropped p.roster id)) id Stage.Leave (Effect.ZeroRow id)).posted.pool.roster.past.written ≡ false)
        × ((onward (with_roster p (member_dropped p.roster id)) id Stage.Leave (Effect.ZeroRow id)).posted.pool.roster.past.assembled ≡ false)
    cleared e =
        (ap (λ (k : Past). k.written) past ∙ rw e (and-false c.roster.past.written), ap (λ (k : Past). k.assembled) past ∙ rw e (and-false c.roster.past.assembled))

    stands : eqb (without c.roster.members id) 0 ≡ false → (onward (with_roster p (member_dropped p.roster id)) id Stage.Leave (Effect.ZeroRow id)).posted.pool.roster.past ≡ c.roster.past
    stands e = past ∙ rw e (past-true c.roster.past)

mode-deletes : (st : State) (mode : Mode) (owed : Bool) → st ≡ State.Removing mode owed → is_deleting st ≡ is_delete mode
mode-deletes st mode owed e = ap is_deleting e

departed-does : (c p : Pool) (id : ℕ) (mode : Mode) (xs : List ℕ) → Near c p id → record_of p id ≡ removing mode false → Same c p → c.roster.members < 65536 → Departed c p id mode xs (departed p id)
unfolding departed
departed-does c p id mode xs n own same small =
    pick-in (is_deleting (state_of p id) && not (is_sync p)) _ _ (Departed c p id mode xs)
    (λ e. out-does c p id mode xs n own same small (sym what ∙ e))
    (λ e. stays-does c p id mode xs n own same (sym what ∙ e))
  where
    what : (is_deleting (state_of p id) && not (is_sync p)) ≡ (is_delete mode && not (is_sync c))
    what = ap (λ (b : Bool). b && not (is_sync p)) (mode-deletes (state_of p id) mode false (ap (λ (s : Session). s.state) own)) ∙ ap (λ (b : Bool). is_delete mode && not b) n.kind

-- ---- remove

abbrev after : Pool → ℕ → Mode → Pool
after c id mode = with_roster c (changes.removing c.roster id mode)

owes-not : (st : State) → NotOwed st → changes.owes st ≡ false
owes-not _ (NotOwed.failed cause) = refl
owes-not _ (NotOwed.done mode) = refl

owes-yes : (st : State) → (NotOwed st → ⊥) → changes.owes st ≡ true
owes-yes State.Free n = refl
owes-yes State.Created n = refl
owes-yes State.Normal n = refl
owes-yes (State.Failed cause) n = absurd (n (NotOwed.failed cause))
owes-yes State.Reconnecting n = refl
owes-yes (State.Removing mode true) n = refl
owes-yes (State.Removing mode false) n = absurd (n (NotOwed.done mode))

removing-record : (c : Pool) (id : ℕ) (mode : Mode) → Valid c → id < 16 → record_of (after c id mode) id ≡ removing mode (changes.owes (state_of c id))
removing-record c id mode v h = removing-at c.roster id mode v.ok.long h ∙ moved_plain (record_of c id) (State.Removing mode (changes.owes (state_of c id))) refl

removing-past : (ro : Roster) (id : ℕ) (mode : Mode) → (changes.removing ro id mode).past ≡ ro.past
unfolding changes.removing changes.left changes.went
removing-past ro id mode =
    either (λ (q : Roster). q.past ≡ ro.past) (is_normal (session_at ro id).state) _ _
    (either (λ (q : Roster). q.past ≡ ro.past) ro.sync _ _ refl refl) refl

module _ (c : Pool) (xs : List ℕ) (id : ℕ) (mode : Mode) (v : Valid c) (h : Removable c id mode) where
  abbrev p : Pool
  p = after c id mode

  num : Numbers c.roster (changes.removing c.roster id mode) (pick (is_normal (state_of c id)) (pick (is_sync c) c.roster.count (c.roster.count - 1)) c.roster.count) (pick (is_normal (state_of c id)) (pick (is_sync c) (version_of c) (changes.more (version_of c))) (version_of c)) c.roster.members
  num = removing-numbers c.roster id mode (is_sync c) refl

  own : record_of (after c id mode) id ≡ removing mode (changes.owes (state_of c id))
  own = removing-record c id mode v h.below

  near : Near c (after c id mode) id
  near =
      record {
        long = removing-long c.roster id mode v.ok.long;
        below = h.below;
        others = λ j d. removing-other c.roster id j mode d;
        own = ap (λ (s : Session). is_told s.state) own;
        kind = num.kind;
        number = refl;
        chunks = refl;
      }

  same : Same c (after c id mode)
  same = (num.held, removing-past c.roster id mode)

  -- LEAVE_POOL is owed
  abbrev leaving : Gone
  leaving = record { posted = asked (after c id mode) id Stage.Leave (Message.Leave id (mode_of (state_of (after c id mode) id))); effect = Effect.Keep }

  mode-is : (m : Mode) (owed : Bool) → mode_of (State.Removing m owed) ≡ m
  mode-is Mode.Delete owed = refl
  mode-is Mode.Disassemble owed = refl

  leave-asks : Asks c leaving.posted.pool (back leaving) id Stage.Leave (Message.Leave id mode)
  unfolding posted
  leave-asks =
      record {
        job = refl;
        message = ap (λ (k : Mode). Message.Leave id k) (ap (λ (s : Session). mode_of s.state) own ∙ mode-is mode (changes.owes (state_of c id)));
        number = refl;
        under = refl;
      }

  leave_own : record_of leaving.posted.pool id ≡ record_of (after c id mode) id
  unfolding posted
  leave_own = refl

  leave-kept : KeptIn c leaving.posted.pool xs xs
  unfolding posted
  leave-kept = record { members = same.0; past = same.1; map = refl }

  leave-lone : Lone (after c id mode) leaving.posted.pool id
  unfolding posted
  leave-lone = record { others = λ j d. refl; version = refl; count = refl; kind = refl; chunks = refl }

  -- what a removal that starts leaves
  version-normal : Normal c id → is_sync c ≡ false → (changes.removing c.roster id mode).version ≡ version_of c + 1
  version-normal n s = num.versioned ∙ (rw (ap is_normal n, s) (rises c.roster v.ok (omega (arith, counted c.roster id v.ok h.below s (ap is_normal n)))))

  count-normal : Normal c id → is_sync c ≡ false → (changes.removing c.roster id mode).count + 1 ≡ c.roster.count
  count-normal n s = ap (λ (k : ℕ). k + 1) (num.counted ∙ rw (ap is_normal n, s) refl) ∙ counted c.roster id v.ok h.below s (ap is_normal n)

  not-normal : (Normal c id → ⊥) → is_normal (state_of c id) ≡ false
  not-normal n = by_cases (is_normal (state_of c id)) (λ e. absurd (n (normal-is (state_of c id) e))) (λ e. e)

  picks-same : (b : Bool) (k : ℕ) → pick b k k ≡ k
  picks-same true k = refl
  picks-same false k = refl

  with-lone : (g : Gone) → Lone (after c id mode) g.posted.pool id → ((NotOwed (state_of c id) → ⊥) → Asks c g.posted.pool (back g) id Stage.Leave (Message.Leave id mode) × (record_of g.posted.pool id ≡ removing mode true) × (Lent.some (carried g.effect xs) ≡ Lent.some xs) × KeptIn c g.posted.pool xs xs)
      → (NotOwed (state_of c id) → Departs c g.posted.pool (back g) (Lent.some (carried g.effect xs)) id mode xs)
      → Removes c g.posted.pool (back g) (Lent.some (carried g.effect xs)) xs id mode
  with-lone g l a b =
      record {
        leave = a;
        departs = b;
        alone = record {
          others = λ j d. l.others j d ∙ near.others j d;
          kind = l.kind ∙ num.kind;
          chunks = l.chunks;
          told = refl;
          outcome = refl;
        };
        normal = λ n s. (l.version ∙ version-normal n s, ap (λ (k : ℕ). k + 1) l.count ∙ count-normal n s);
        another = λ n. (l.version ∙ (num.versioned ∙ rw (not-normal n) refl), l.count ∙ (num.counted ∙ rw (not-normal n) refl));
        uncounted = λ s.
            (l.version ∙ (num.versioned ∙ rw s (picks-same (is_normal (state_of c id)) (version_of c))), l.count ∙ (num.counted ∙ rw s (picks-same (is_normal (state_of c id)) c.roster.count)));
      }

  owed-is : is_owed (state_of (after c id mode) id) ≡ changes.owes (state_of c id)
  owed-is = ap (λ (s : Session). is_owed s.state) own

  removes : Removes c (remove_begun c id mode).posted.pool (back (remove_begun c id mode)) (Lent.some (carried (remove_begun c id mode).effect xs)) xs id mode
  unfolding started
  removes =
      pick-in (is_owed (state_of (after c id mode) id)) leaving (departed (after c id mode) id)
      (λ g. Removes c g.posted.pool (back g) (Lent.some (carried g.effect xs)) xs id mode)
      (λ e. with-lone leaving leave-lone
      (λ n. (leave-asks, leave_own ∙ (own ∙ ap (removing mode) (sym owed-is ∙ e)), refl, leave-kept))
      (λ n. clash (sym owed-is ∙ e) (owes-not (state_of c id) n)))
      (λ e. let d = departed-does c (after c id mode) id mode xs near (own ∙ ap (removing mode) (sym owed-is ∙ e)) same v.ok.small in
      with-lone (departed (after c id mode) id) d.lone
      (λ n. clash (owes-yes (state_of c id) n) (sym owed-is ∙ e))
      (λ n. d.does))

pub remove-does : RemoveDoes
unfolding remove_turn remove remove_refusal
remove-does c xs id mode s o h =
    let d = done-is (Event.remove xs id mode) c (gone c (remove_begun c id mode)) s refl h in
    let v = order-valid c o in
    let z : back (remove_begun c id mode) ≡ s = sent_is _ _ (sym (ap (λ (t : Turn). t.answer) d.1) ∙ h) in
    let r : Removable c id mode = record { below = omega (arith, ltb-false 15 id (d.0 3 refl)); idle = not-false _ (d.0 6 refl); some = d.0 7 refl; mode-same = d.0 9 refl } in
    subst (λ (t : Turn). Removes c t.pool s (Lent.some (carried t.effect xs)) xs id mode) (sym d.1)
    (subst (λ (k : Sent). Removes c (remove_begun c id mode).posted.pool k (Lent.some (carried (remove_begun c id mode).effect xs)) xs id mode) z (removes c xs id mode v r))

-- ---- when it is taken

other-mode : (st : State) (mode : Mode) → OtherMode st mode → (is_free st ≡ false) × (other_mode st mode ≡ true)
other-mode _ _ (OtherMode.deleting owed) = (refl, refl)
other-mode _ _ (OtherMode.disassembling owed) = (refl, refl)

same-mode : (st : State) (mode : Mode) → (OtherMode st mode → ⊥) → other_mode st mode ≡ false
same-mode State.Free Mode.Delete n = refl
same-mode State.Free Mode.Disassemble n = refl
same-mode State.Created Mode.Delete n = refl
same-mode State.Created Mode.Disassemble n = refl
same-mode State.Normal Mode.Delete n = refl
same-mode State.Normal Mode.Disassemble n = refl
same-mode (State.Failed cause) Mode.Delete n = refl
same-mode (State.Failed cause) Mode.Disassemble n = refl
same-mode State.Reconnecting Mode.Delete n = refl
same-mode State.Reconnecting Mode.Disassemble n = refl
same-mode (State.Removing Mode.Delete owed) Mode.Delete n = refl
same-mode (State.Removing Mode.Delete owed) Mode.Disassemble n = absurd (n (OtherMode.deleting owed))
same-mode (State.Removing Mode.Disassemble owed) Mode.Delete n = absurd (n (OtherMode.disassembling owed))
same-mode (State.Removing Mode.Disassemble owed) Mode.Disassemble n = refl

not_free : (st : State) → st ≢ State.Free → is_free st ≡ false
not_free st d = by_cases (is_free st) (λ e. absurd (d (free-is st e))) (λ e. e)

refusal_is : (c : Pool) (xs : List ℕ) (id : ℕ) (mode : Mode) → InOrder c → sound c.chunks xs ≡ true → id ≤ 15 → c.job ≡ Job.Idle
    → remove_refusal c (sound_for c xs) id mode ≡ pick (is_free (state_of c id)) 7 (pick (other_mode (state_of c id) mode) 9 0)
unfolding remove_refusal
refusal_is c xs id mode o k b e = rw (o.rules, k, le-ltb 15 id b, e) refl

pub remove-when : RemoveWhen
unfolding remove_turn remove
remove-when c xs id mode o k b e =
    record {
      taken = λ n d.
          let z : remove_refusal c (sound_for c xs) id mode ≡ 0 = r ∙ rw (not_free (state_of c id) n, same-mode (state_of c id) mode d) refl in
          ap (λ (m : ℕ). is_accepted (pick (eqb m 0) (gone c (remove_begun c id mode)) (refused c m)).answer) z;
      nine = λ d.
          let t = other-mode (state_of c id) mode d in
          let z : remove_refusal c (sound_for c xs) id mode ≡ 9 = r ∙ rw (t.0, t.1) refl in
          ap (λ (m : ℕ). (pick (eqb m 0) (gone c (remove_begun c id mode)) (refused c m)).answer) z;
      seven = λ f.
          let z : remove_refusal c (sound_for c xs) id mode ≡ 7 = r ∙ rw (ap is_free f) refl in
          ap (λ (m : ℕ). (pick (eqb m 0) (gone c (remove_begun c id mode)) (refused c m)).answer) z;
    }
  where
    r : remove_refusal c (sound_for c xs) id mode ≡ pick (is_free (state_of c id)) 7 (pick (other_mode (state_of c id) mode) 9 0)
    r = refusal_is c xs id mode o k b e

-- ---- answers

paid-record : (c : Pool) (id : ℕ) (mode : Mode) (owed : Bool) → Valid c → id < 16 → state_of c id ≡ State.Removing mode owed → record_of (paid c id) id ≡ removing mode false
paid-record c id mode owed v h st =
    paid-at c id v.ok.long h ∙ (moved_plain (record_of c id) (State.Removing (mode_of (state_of c id)) false) refl ∙ ap (λ (m : Mode). removing m false) (ap mode_of st ∙ mode-of mode owed))
  where
    mode-of : (m : Mode) (owed : Bool) → mode_of (State.Removing m owed) ≡ m
    mode-of Mode.Delete owed = refl
    mode-of Mode.Disassemble owed = refl

module _ (c : Pool) (xs : List ℕ) (id : ℕ) (mode : Mode) (owed : Bool) (v : Valid c) (h : id < 16) (st : state_of c id ≡ State.Removing mode owed) where
  own-near : Near c c id
  own-near = record { long = v.ok.long; below = h; others = λ j d. refl; own = ap is_told st; kind = refl; number = refl; chunks = refl }

  paid-near : Near c (paid c id) id
  unfolding changes.went
  paid-near =
      record {
        long = paid-long c id v.ok.long;
        below = h;
        others = λ j d. paid_other c id j d;
        own = ap (λ (s : Session). is_told s.state) (paid-record c id mode owed v h st);
        kind = refl;
        number = refl;
        chunks = refl;
      }

  paid-same : Same c (paid c id) × ((paid c id).roster.version ≡ version_of c) × ((paid c id).roster.count ≡ c.roster.count)
  unfolding changes.went
  paid-same = ((refl, refl), refl, refl)

  later : (peer j : ℕ) → Iff (Due c id j × (peer < j)) ((is_sync c ≡ false) × In (tellable (Stage.Info peer) c.roster) j)
  later peer j = (
    (λ ((s, t, d), l). (s, (told-iff c c id (Stage.Info peer) own-near j).1 ((hears (state_of c j)).1 t, d, l))),
    λ (s, k). let t = (told-iff c c id (Stage.Info peer) own-near j).0 k in ((s, (hears (state_of c j)).0 t.0, t.1), t.2),
  )

  alone_of : (q : Pool) (g : Gone) → Lone q g.posted.pool id → ((j : ℕ) → j ≢ id → session_at q.roster j ≡ record_of c j) → is_sync q ≡ is_sync c → q.chunks ≡ c.chunks → Alone c g.posted.pool (back g) id
  alone_of q g l o k n = record { others = λ j d. l.others j d ∙ o j d; kind = l.kind ∙ k; chunks = l.chunks ∙ n; told = refl; outcome = refl }

  told-asks : (y : ℕ) → Asks c (tells c id Effect.Keep y).posted.pool (back (tells c id Effect.Keep y)) id (Stage.Info y) (Message.Info y (op mode) id) × (record_of (tells c id Effect.Keep y).posted.pool id ≡ record_of c id) × (Lent.some (carried Effect.Keep xs) ≡ Lent.some xs)
  told-asks y = (asks-is c c id y mode owed Effect.Keep refl st, told-record c id Effect.Keep y, refl)

  step-does : (stage : Stage) (a : Reply)
      → RemovalStep a stage c (removal_answered (record { id = id; stage = stage }) c a).posted.pool (back (removal_answered (record { id = id; stage = stage }) c a)) (Lent.some (carried (removal_answered (record { id = id; stage = stage }) c a).effect xs)) xs id mode
  step-does stage Reply.Failed =
      record {
        does = (record { quiet = record { job = refl; message = refl; number = refl; under = refl }; sessions = refl }, refl);
        alone = record { others = λ j d. refl; kind = refl; chunks = refl; told = refl; outcome = refl };
        version = refl;
        count = refl;
      }
  step-does Stage.Leave (Reply.Good b) =
      let d = departed-does c (paid c id) id mode xs paid-near (paid-record c id mode owed v h st) paid-same.0 v.ok.small in
      record {
        does = d.does;
        alone = alone_of (paid c id) (departed (paid c id) id) d.lone (λ j n. paid_other c id j n) paid-near.kind refl;
        version = d.lone.version ∙ paid-same.1;
        count = d.lone.count ∙ paid-same.2;
      }
  step-does (Stage.Info peer) (Reply.Good b) =
      let l = onward-lone c id (Stage.Info peer) Effect.Keep in
      record {
        does = record {
          then = onward-turn c c id (Stage.Info peer) Effect.Keep own-near (λ j. Due c id j × (peer < j)) (later peer)
              (λ y g. Asks c g.posted.pool (back g) id (Stage.Info y) (Message.Info y (op mode) id) × (record_of g.posted.pool id ≡ record_of c id) × (Lent.some (carried g.effect xs) ≡ Lent.some xs))
              (λ g. Frees c g.posted.pool (back g) (Lent.some (carried g.effect xs)) id xs xs)
              told-asks
              (frees c c id Effect.Keep xs xs own-near refl);
          kept = record { members = l.1.0; past = l.1.1; map = refl };
        };
        alone = alone_of c (onward c id (Stage.Info peer) Effect.Keep) l.0 (λ j n. refl) refl refl;
        version = l.0.version;
        count = l.0.count;
      }

pub removal-answered : RemovalAnswered
unfolding answer_turn answer answer_refusal
removal-answered c xs number a s m mode owed o e st h =
    let d = done-is (Event.answer xs number a) c (answered c.job c a) s refl h in
    let t : turn_of (Event.answer xs number a) c ≡ gone c (removal_answered m c a) = d.1 ∙ ap (λ (j : Job). answered j c a) e in
    let z : back (removal_answered m c a) ≡ s = sent_is _ _ (sym (ap (λ (u : Turn). u.answer) t) ∙ h) in
    let v = order-valid c o in
    let f = removal-facts c.roster m v.ok.long (subst (λ (j : Job). job_ok j c.roster ≡ true) e v.job) in
    subst (λ (u : Turn). RemovalStep a m.stage c u.pool s (Lent.some (carried u.effect xs)) xs m.id mode) (sym t)
    (subst (λ (k : Sent). RemovalStep a m.stage c (removal_answered m c a).posted.pool k (Lent.some (carried (removal_answered m c a).effect xs)) xs m.id mode) z
    (step-does c xs m.id mode owed v f.below st m.stage a))
