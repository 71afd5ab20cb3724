-- What the events of a removal leave of its session, of the member and of the client map; and that no other event frees a session or takes a member out.
use Rattle.std.specs.Prelude.{Option, Some, None}
use mathlib.Core.Path.{◌≡◌, refl, ap, ◌∙◌, sym, subst}
use mathlib.Core.Logic.{◌≢◌}
use mathlib.Core.Bool.{Bool, true, false, not, ◌&&◌}
use mathlib.Core.List.{List}
use Prim.Native.Nat.{ℕ, ◌<◌}
use native.Mathlib.Omega.{arith}
use lib.Dec.{eqb, ltb}
use borrow.Author.Tests.{eqb-true, eq-eqb, ltb-true, ne_eqb, ltb-false}
use Rattle.laws_words.specs.Tests.{clash, by_cases, and_left, and_right, and-false}
use Rattle.laws_words.specs.Words.{pick}
use Rattle.rules_base.proofs.Sets.{count_to-none, has-below, has-none, has-with-same, has-with-other, has-without-same, has-without-other, count_to-same, size-some, lowest-in, lowest-le, lowest-nobody}
use Rattle.rules_base.specs.Sets.{has, count_to, with, without, size, lowest}
use Rattle.rules_base.specs.Map.{zero_row, zeroed}
use Rattle.rules_pool.specs.Session.{is_free, is_normal, is_removing, is_owed, free, is_delete, is_deleting, is_told}
use Rattle.rules_pool.specs.Table.{legal}
use Rattle.rules_pool.specs.declared.Effect.{Effect}
use Rattle.rules_pool.specs.declared.Job.{Job}
use Rattle.rules_pool.specs.declared.Mode.{Mode}
use Rattle.rules_pool.specs.declared.Pool.{Pool}
use Rattle.rules_pool.specs.declared.Removal.{Removal}
use Rattle.rules_pool.specs.declared.Reply.{Reply}
use Rattle.rules_pool.specs.declared.Roster.{Roster}
use Rattle.rules_pool.specs.declared.Session.{Session}
use Rattle.rules_pool.specs.declared.Stage.{Stage}
use Rattle.rules_pool.specs.declared.State.{State}
use Rattle.rules_pool.specs.declared.Turn.{Turn}
use Rattle.rules_pool.specs.Sessions.{session_at}
use Rattle.rules_pool.specs.declared.Kind.{Kind}
use Rattle.rules_pool.specs.Changes.{owes, removing}
use Rattle.rules_pool.specs.declared.Way.{Way}
use Rattle.rules_pool.specs.Run.{takes}
use Rattle.rules_pool.specs.Recovery.{with_roster}
use Rattle.laws_client.proofs.Exit.{turned}
use Rattle.rules_pool.specs.Jobs.{is_running}
use Rattle.laws_client.proofs.Changes.{removing-at}
use Rattle.laws_client.proofs.Ids.{Long, ids-has}
use Rattle.laws_client.proofs.Pools.{Valid, removal-facts, RemovalOk}
use Rattle.laws_client.proofs.Records.{left-numbers, entered-numbers, raised_if}
use Rattle.laws_client.proofs.Tried.{tried-roster}
use Rattle.laws_client.proofs.JoinsKept.{created-numbers, assembled-numbers}
use Rattle.rules_client.specs.Joins.{create_refusal, create_done, join_create, assemble_refusal, assembled, assemble_done, join_assemble}
use Rattle.laws_client.proofs.EnablesKept.{enable-passed, maintenance-passed, enabled-numbers}
use Rattle.rules_client.specs.Enables.{enable_refusal, enable, maintenance_refusal, maintenance_done, maintenance}
use Rattle.laws_client.proofs.LinksKept.{down-roster, normal-dropped, other-dropped, checked-numbers}
use Rattle.rules_client.specs.Links.{down_refusal, dropped, down_done, link_down, check_refusal, store_check, try_refusal, try_run}
use Rattle.laws_client.proofs.RemovalSteps.{is_due, departed-goes, started-goes, told-goes, paid-at, paid-long, removing-long, Removable, remove-passed, paid_other, removing-other, Goes, is_out, paid-numbers, removing-numbers}
use Rattle.rules_client.specs.Removal as removal
use Rattle.rules_client.specs.Remove.{remove_refusal, remove, remove_begun, gone}
use Rattle.rules_client.specs.declared.Gone.{Gone}
use Rattle.laws_client.proofs.WritesKept.{write-passed, write-roster, missed-does, synced-same}
use Rattle.rules_client.specs.Writes.{write_refusal, write_ended}
use Rattle.laws_client.proofs.AnswersKept.{run-roster}
use Rattle.rules_client.specs.Answers.{answer_refusal, entered_by, answered, answer, reported}
use Rattle.rules_pool.specs.Breaking.{is_accepted}
use Rattle.rules_client.specs.Client.{carried, sound_for, remove_turn, write_turn, answer_turn, synced_turn, clean_to}
use Rattle.rules_client.specs.Events.{Event, Lent, map_left, turn_of, next, state_of, is_sync, record_of, job_of}
use Rattle.theorem_client.specs.Reading.{Part, answer_part, part_of, nobody_left}
use Rattle.theorem_client.specs.Said.{members_of, version_of, is_good, is_leave, not_owed, is_later, nothing_due, frees, takes_out, rows_after}
use Rattle.theorem_client.proofs.Fates.{is_part, Fate, kept-stands}
use Rattle.theorem_client.proofs.Shape.{taken}
use Rattle.theorem_client.proofs.States.{and-true, removing-lives, not-told, owes_is, mode-same}
use native.Mathlib.Decide.{ℕ_discrete}

-- ---- what is due

-- nobody of a set is left, said of its ids
none-lowest : (set : ℕ) (p : ℕ → Bool) → ((j : ℕ) → j < 16 → has set j ≡ p j) → not (ltb (lowest set) 16) ≡ eqb (count_to p 16) 0
unfolding size
none-lowest set p same =
    by_cases (ltb (lowest set) 16)
    (λ l. let b = ltb-true (lowest set) 16 l in
    let n = size-some set (lowest set) (lowest-in set b) in
    rw (l, ← count_to-same (has set) p 16 same) (sym (ne_eqb (count_to (has set) 16) 0 (λ z. absurd (let y : ⊥ = omega (arith, n, z) in y)))))
    (λ l. let e : lowest set ≡ 16 = omega (arith, lowest-le set, ltb-false (lowest set) 16 l) in
    rw (l, ← count_to-same (has set) p 16 same) (sym (eq-eqb (count_to (has set) 16) 0 (count_to-none (has set) 16 (λ j h. lowest-nobody set e j)))))

told-has : (st : Stage) (ro : Roster) → Long ro → (j : ℕ) → j < 16 → has (removal.tellable st ro) j ≡ (is_told (session_at ro j).state && is_later st j)
told-has Stage.Leave ro l j h = ids-has Kind.Told ro l j h ∙ sym (and-true (is_told (session_at ro j).state))
told-has (Stage.Info peer) ro l j h = ids-has (Kind.Later peer) ro l j h

-- in a pool whose other sessions are those of c, and whose own session is told nothing
due-is : (c : Pool) (id : ℕ) (st : Stage) (ro : Roster) → Long ro → ro.sync ≡ is_sync c → is_told (session_at ro id).state ≡ false → ((j : ℕ) → j ≢ id → session_at ro j ≡ record_of c j)
    → not (is_due st ro) ≡ nothing_due c id st
unfolding removal.due
due-is c id st ro l kind own others = at ro.sync refl
  where
    same : (j : ℕ) → j < 16 → has (removal.tellable st ro) j ≡ (is_told (state_of c j) && (is_later st j && not (eqb j id)))
    same j h =
        told-has st ro l j h
        ∙ elim (ℕ_discrete j id) [
          | yes e ↦ rw (e, own, eq-eqb id id refl, and-false (is_later st id)) (sym (and-false (is_told (state_of c id))))
          | no d ↦ rw (others j d, ne_eqb j id d, and-true (is_later st j)) refl
        ]

    at : (b : Bool) → ro.sync ≡ b → not (ltb (pick b 16 (lowest (removal.tellable st ro))) 16) ≡ nothing_due c id st
    at true e = rw (sym kind ∙ e) refl
    at false e = rw (sym kind ∙ e) (none-lowest (removal.tellable st ro) (λ j. is_told (state_of c j) && (is_later st j && not (eqb j id))) same)

-- ---- the events of a removal

-- what one leaves: whether the session is freed, and whether the member is taken out
pub record Leaves (c : Pool) (id : ℕ) (t : Turn) (freed out : Bool) : Type 0 where
  pub own : is_free (session_at t.pool.roster id).state ≡ freed
  pub others : (j : ℕ) → j ≢ id → session_at t.pool.roster j ≡ record_of c j
  pub held : t.pool.roster.members ≡ pick (out && not (is_sync c)) (without (members_of c) id) (members_of c)
  pub effect : t.effect ≡ pick (freed && (nobody_left t.pool.roster && not (is_sync c))) Effect.ZeroAll (pick (out && not (is_sync c)) (Effect.ZeroRow id) Effect.Keep)

-- from a removal's own step, g, at a pool p whose other sessions and membership are those of c, and whose own session is REMOVING
leaves_of : (c : Pool) (id : ℕ) (p : Pool) (g : Gone) (freed freed' out : Bool) (members : ℕ) (e : Effect) → Goes p id g freed members e
    → is_removing (session_at p.roster id).state ≡ true → ((j : ℕ) → j ≢ id → session_at p.roster j ≡ record_of c j) → p.roster.sync ≡ is_sync c
    → freed ≡ freed' → members ≡ pick (out && not (is_sync c)) (without (members_of c) id) (members_of c) → e ≡ pick (out && not (is_sync c)) (Effect.ZeroRow id) Effect.Keep
    → Leaves c id (gone c g) freed' out
leaves_of c id p g freed freed' out members e s own others kind f m d =
    record {
      own = ap (λ (x : Session). is_free x.state) s.own ∙ (is-free freed ∙ f);
      others = λ j ne. s.others j ne ∙ others j ne;
      held = s.numbers.held ∙ m;
      effect = s.effect ∙ rw (f, d, kind) refl;
    }
  where
    is-free : (b : Bool) → is_free (pick b free (session_at p.roster id)).state ≡ b
    is-free true = refl
    is-free false = removing-lives (session_at p.roster id).state own

pick-not : (n d : Bool) → pick (not n) false d ≡ (n && d)
pick-not true d = refl
pick-not false d = refl

pick_out {ℓ} : {A : Type ℓ} (n d s : Bool) (w m : A) → pick (not n) m (pick (d && s) w m) ≡ pick ((d && n) && s) w m
pick_out true true s w m = refl
pick_out true false s w m = refl
pick_out false true s w m = refl
pick_out false false s w m = refl

module _ (c : Pool) (id : ℕ) (mode : Mode) (v : Valid c) (h : Removable c id mode) where
  -- the sessions with this one REMOVING
  here : (session_at (removing c.roster id mode) id).state ≡ State.Removing mode (owes (state_of c id))
  here = ap (λ (s : Session). s.state) (removing-at c.roster id mode v.ok.long h.below)

  kind : (removing c.roster id mode).sync ≡ is_sync c
  kind = (removing-numbers c.roster id mode (is_sync c) refl).kind

  held : (removing c.roster id mode).members ≡ members_of c
  held = (removing-numbers c.roster id mode (is_sync c) refl).held

  owed : is_owed (session_at (removing c.roster id mode) id).state ≡ not (not_owed (state_of c id))
  owed = ap is_owed here ∙ owes_is (state_of c id)

  out : is_out (with_roster c (removing c.roster id mode)) id ≡ (is_delete mode && not (is_sync c))
  out = ap (λ (st : State). is_deleting st && not (removing c.roster id mode).sync) here ∙ ap (λ (b : Bool). is_delete mode && not b) (kind)

  due : not (is_due Stage.Leave (removing c.roster id mode)) ≡ nothing_due c id Stage.Leave
  due =
      due-is c id Stage.Leave (removing c.roster id mode) (removing-long c.roster id mode v.ok.long) (kind) (ap is_told here)
      (λ j ne. removing-other c.roster id j mode ne)

  freed-is : pick (is_owed (session_at (removing c.roster id mode) id).state) false (not (is_due Stage.Leave (removing c.roster id mode))) ≡ frees (Part.remove id mode) c id
  freed-is =
      ap (λ (b : Bool). pick b false (not (is_due Stage.Leave (removing c.roster id mode)))) owed
      ∙ (pick-not (not_owed (state_of c id)) (not (is_due Stage.Leave (removing c.roster id mode)))
      ∙ (ap (λ (b : Bool). not_owed (state_of c id) && b) due ∙ sym (ap (λ (b : Bool). b && (not_owed (state_of c id) && nothing_due c id Stage.Leave)) (eq-eqb id id refl))))

  remove-leaves : Leaves c id (gone c (remove_begun c id mode)) (not_owed (state_of c id) && nothing_due c id Stage.Leave) (is_delete mode && not_owed (state_of c id))
  remove-leaves =
      leaves_of c id (with_roster c (removing c.roster id mode)) (remove_begun c id mode) _ _ (is_delete mode && not_owed (state_of c id)) _ _
      (started-goes (with_roster c (removing c.roster id mode)) id (removing-long c.roster id mode v.ok.long) h.below)
      (ap is_removing here) (λ j ne. removing-other c.roster id j mode ne) (kind)
      (freed-is ∙ ap (λ (b : Bool). b && (not_owed (state_of c id) && nothing_due c id Stage.Leave)) (eq-eqb id id refl))
      (rw (owed, out, held) (pick_out (not_owed (state_of c id)) (is_delete mode) (not (is_sync c)) (without (members_of c) id) (members_of c)))
      (rw (owed, out) (pick_out (not_owed (state_of c id)) (is_delete mode) (not (is_sync c)) (Effect.ZeroRow id) Effect.Keep))

-- ---- answers

-- LEAVE_POOL is answered well
left-leaves : (c : Pool) (id : ℕ) → Valid c → id < 16 → is_removing (state_of c id) ≡ true
    → Leaves c id (gone c (removal.departed (removal.paid c id) id)) (nothing_due c id Stage.Leave) (is_deleting (state_of c id))
left-leaves c id v h m =
    let q = removal.paid c id in
    let n = paid-numbers c id in
    let l = paid-long c id v.ok.long in
    let here = ap (λ (s : Session). s.state) (paid-at c id v.ok.long h) in
    let out : is_out q id ≡ (is_deleting (state_of c id) && not (is_sync c)) = ap (λ (st : State). is_deleting st && not q.roster.sync) here ∙ (ap (λ (b : Bool). is_delete (removal.mode_of (state_of c id)) && not b) n.kind ∙ ap (λ (b : Bool). b && not (is_sync c)) (mode-same (state_of c id))) in
    leaves_of c id q (removal.departed q id) _ (nothing_due c id Stage.Leave) (is_deleting (state_of c id)) _ _ (departed-goes q id l h)
    (ap is_removing here) (λ j ne. paid_other c id j ne) n.kind
    (due-is c id Stage.Leave q.roster l n.kind (ap is_told here) (λ j ne. paid_other c id j ne))
    (rw (out, n.held) refl) (rw out refl)

-- a POOL_INFO is
told-leaves : (c : Pool) (id peer : ℕ) → Valid c → id < 16 → is_removing (state_of c id) ≡ true
    → Leaves c id (gone c (removal.well_answered (Stage.Info peer) c id)) (nothing_due c id (Stage.Info peer)) false
told-leaves c id peer v h m =
    leaves_of c id c (removal.well_answered (Stage.Info peer) c id) _ (nothing_due c id (Stage.Info peer)) false _ _ (told-goes c id peer v.ok.long h)
    m (λ j ne. refl) refl
    (due-is c id (Stage.Info peer) c.roster v.ok.long refl (not-told (state_of c id) m) (λ j ne. refl)) refl refl

leaves-as : (c : Pool) (id : ℕ) (t : Turn) (f f' o o' : Bool) → f ≡ f' → o ≡ o' → Leaves c id t f o → Leaves c id t f' o'
leaves-as c id t f f' o o' p q s = rw (← p, ← q) s

well-leaves : (st : Stage) (c : Pool) (id : ℕ) → Valid c → id < 16 → is_removing (state_of c id) ≡ true
    → Leaves c id (gone c (removal.well_answered st c id)) (nothing_due c id st) (is_deleting (state_of c id) && is_leave st)
well-leaves Stage.Leave c id v h m =
    leaves-as c id _ (nothing_due c id Stage.Leave) _ (is_deleting (state_of c id)) _ refl (sym (and-true (is_deleting (state_of c id)))) (left-leaves c id v h m)
well-leaves (Stage.Info peer) c id v h m =
    leaves-as c id _ (nothing_due c id (Stage.Info peer)) _ false _ refl (sym (and-false (is_deleting (state_of c id)))) (told-leaves c id peer v h m)

answered-leaves : (m : Removal) (c : Pool) (a : Reply) → Valid c → RemovalOk c.roster m
    → Leaves c m.id (answered (Job.Removing m) c a) (is_good a && nothing_due c m.id m.stage) (is_deleting (state_of c m.id) && (is_good a && is_leave m.stage))
answered-leaves m c Reply.Failed v h =
    record {
      own = removing-lives (state_of c m.id) h.removing;
      others = λ j ne. refl;
      held = rw (and-false (is_deleting (state_of c m.id))) refl;
      effect = rw (and-false (is_deleting (state_of c m.id))) refl;
    }
answered-leaves m c (Reply.Good b) v h = well-leaves m.stage c m.id v h.below h.removing

-- ---- what that says of each session, of each member and of the map

module _ (c : Pool) (i : ℕ) (t : Turn) (freed out : Bool) (s : Leaves c i t freed out) where
  free-at : (id : ℕ) → is_free (state_of c id) ≡ false → (f : ℕ → Bool) → f i ≡ freed → is_free (session_at t.pool.roster id).state ≡ (eqb id i && f id)
  free-at id was f same = elim (ℕ_discrete id i) [
    | yes e ↦ rw (e, eq-eqb i i refl) (s.own ∙ sym same)
    | no d ↦ rw (ne_eqb id i d) (ap (λ (x : Session). is_free x.state) (s.others id d) ∙ was)
  ]

  member-at : Valid c → (id : ℕ) → has (members_of c) id ≡ true → (f : ℕ → Bool) → f i ≡ out → has t.pool.roster.members id ≡ not (eqb id i && f id)
  member-at v id was f same =
      ap (λ (n : ℕ). has n id) (s.held ∙ ap (λ (b : Bool). pick (out && not b) (without (members_of c) i) (members_of c)) plain)
      ∙ elim (ℕ_discrete id i) [
        | yes e ↦ rw (e, eq-eqb i i refl, same) (at (rw e at was) out)
        | no d ↦ rw (ne_eqb id i d) (other d (out && true))
      ]
    where
      plain : is_sync c ≡ false
      plain = by_cases (is_sync c) (λ y. clash was (ap (λ (n : ℕ). has n id) (eqb-true (members_of c) 0 (rw y at v.ok.none)) ∙ has-none id)) (λ y. y)

      at : has (members_of c) i ≡ true → (b : Bool) → has (pick (b && true) (without (members_of c) i) (members_of c)) i ≡ not b
      at w true = has-without-same (members_of c) i
      at w false = w

      other : id ≢ i → (b : Bool) → has (pick b (without (members_of c) i) (members_of c)) id ≡ true
      other d true = has-without-other (members_of c) i id d ∙ was
      other d false = was

  map_at : is_sync c ≡ false → (xs : List ℕ) → carried t.effect xs ≡ pick (freed && nobody_left t.pool.roster) (zeroed xs) (pick out (zero_row i xs) xs)
  map_at plain xs =
      ap (λ (e : Effect). carried e xs) (s.effect ∙ ap (λ (b : Bool). pick (freed && (nobody_left t.pool.roster && not b)) Effect.ZeroAll (pick (out && not b) (Effect.ZeroRow i) Effect.Keep)) plain)
      ∙ at freed (nobody_left t.pool.roster) out
    where
      at : (f n o : Bool) → carried (pick (f && (n && true)) Effect.ZeroAll (pick (o && true) (Effect.ZeroRow i) Effect.Keep)) xs ≡ pick (f && n) (zeroed xs) (pick o (zero_row i xs) xs)
      at true true o = refl
      at true false true = refl
      at true false false = refl
      at false n true = refl
      at false n false = refl

-- ---- the two events

remove-does : (c : Pool) (xs : List ℕ) (id : ℕ) (mode : Mode) → Valid c → is_accepted (turn_of (Event.remove xs id mode) c).answer ≡ true
    → Leaves c id (remove_turn c xs id mode) (not_owed (state_of c id) && nothing_due c id Stage.Leave) (is_delete mode && not_owed (state_of c id))
unfolding remove remove_turn
remove-does c xs id mode v =
    taken (λ t. Leaves c id t (not_owed (state_of c id) && nothing_due c id Stage.Leave) (is_delete mode && not_owed (state_of c id))) (remove_refusal c (sound_for c xs) id mode) (gone c (remove_begun c id mode)) c
    (λ e. remove-leaves c id mode v (remove-passed c (sound_for c xs) id mode e))

answer-does : (c : Pool) (xs : List ℕ) (number : ℕ) (a : Reply) (m : Removal) → job_of c ≡ Job.Removing m → Valid c → is_accepted (turn_of (Event.answer xs number a) c).answer ≡ true
    → Leaves c m.id (answer_turn c xs number a) (is_good a && nothing_due c m.id m.stage) (is_deleting (state_of c m.id) && (is_good a && is_leave m.stage))
unfolding answer answer_turn
answer-does c xs number a m job v =
    taken (λ t. Leaves c m.id t (is_good a && nothing_due c m.id m.stage) (is_deleting (state_of c m.id) && (is_good a && is_leave m.stage))) (answer_refusal c (sound_for c xs) number) (answered c.job c a) c
    (λ e. subst (λ (k : Job). Leaves c m.id (answered k c a) (is_good a && nothing_due c m.id m.stage) (is_deleting (state_of c m.id) && (is_good a && is_leave m.stage))) (sym job)
    (answered-leaves m c a v (removal-facts c.roster m v.ok.long (rw job at v.job))))

-- ---- every other event

pub part_none : (s : Part) (c : Pool) (id : ℕ) → is_part s ≡ false → (frees s c id ≡ false) × (takes_out s c id ≡ false)
part_none Part.none c id e = (refl, refl)
part_none (Part.remove i mode) c id e = clash refl e
part_none (Part.answer m a) c id e = clash refl e

legal-some : (sync : Bool) (from to : State) → legal sync from to ≡ true → is_free to ≡ false
legal-some sync from State.Free e = clash e (none from)
  where
    none : (st : State) → legal sync st State.Free ≡ false
    none State.Free = refl
    none State.Created = refl
    none State.Normal = refl
    none (State.Failed cause) = refl
    none State.Reconnecting = refl
    none (State.Removing m _) = refl
legal-some sync from State.Created e = refl
legal-some sync from State.Normal e = refl
legal-some sync from (State.Failed cause) e = refl
legal-some sync from State.Reconnecting e = refl
legal-some sync from (State.Removing m _) e = refl

-- a session that is left in a state that is one
lives : (c' : Pool) (id : ℕ) (s : Session) → record_of c' id ≡ s → is_free s.state ≡ false → is_free (state_of c' id) ≡ false
lives c' id s r e = ap (λ (s : Session). is_free s.state) r ∙ e

pub unfreed : (c : Pool) (e : Event) (c' : Pool) (id : ℕ) → is_part (part_of e c) ≡ false → is_free (state_of c id) ≡ false → Fate c e c' id → is_free (state_of c' id) ≡ false
unfreed c e c' id p was (Fate.kept k) = ap is_free (kept-stands c c' id k) ∙ was
unfreed c e c' id p was (Fate.begins x st r) = clash (ap is_free st) was
unfreed c e c' id p was (Fate.joins set version x plain st r) = clash (ap is_free st) was
unfreed c e c' id p was (Fate.goes to l n b w r) = lives c' id _ r (legal-some (is_sync c) (state_of c id) to l)
unfreed c e c' id p was (Fate.fails cause last w x n b r) = lives c' id _ r refl
unfreed c e c' id p was (Fate.maintained last x plain n b r) = lives c' id _ r refl
unfreed c e c' id p was (Fate.unflagged x is r) = lives c' id _ r was
unfreed c e c' id p was (Fate.paid mode st r) = lives c' id _ r refl
unfreed c e c' id p was (Fate.freed i m r) = clash i p
unfreed c e c' id p was (Fate.removed xs mode x l r) = clash (ap (λ (e : Event). is_part (part_of e c)) x) p
unfreed c e c' id p was (Fate.extends xs x plain st r) = clash (ap is_free st) was

-- ---- the session

pub remove-frees : (xs : List ℕ) (i : ℕ) (mode : Mode) (c : Pool) → Valid c → is_accepted (turn_of (Event.remove xs i mode) c).answer ≡ true → is_part (part_of (Event.remove xs i mode) c) ≡ true → (id : ℕ) → is_free (state_of c id) ≡ false → is_free (state_of (next (Event.remove xs i mode) c) id) ≡ frees (part_of (Event.remove xs i mode) c) c id
remove-frees xs i mode c v d p id was =
    free-at c i (remove_turn c xs i mode) _ _ (remove-does c xs i mode v d) id was (λ j. not_owed (state_of c j) && nothing_due c j Stage.Leave) refl

pub answer-frees : (xs : List ℕ) (number : ℕ) (a : Reply) (c : Pool) → Valid c → is_accepted (turn_of (Event.answer xs number a) c).answer ≡ true → is_part (part_of (Event.answer xs number a) c) ≡ true → (id : ℕ) → is_free (state_of c id) ≡ false → is_free (state_of (next (Event.answer xs number a) c) id) ≡ frees (part_of (Event.answer xs number a) c) c id
answer-frees xs number a c v d p id was = at c.job refl p
  where
    at : (k : Job) → job_of c ≡ k → is_part (answer_part k a) ≡ true → is_free (state_of (next (Event.answer xs number a) c) id) ≡ frees (answer_part (job_of c) a) c id
    at Job.Idle job q = clash q refl
    at (Job.Running r) job q = clash q refl
    at (Job.Removing m) job q =
        free-at c m.id (answer_turn c xs number a) _ _ (answer-does c xs number a m job v d) id was (λ j. is_good a && nothing_due c j m.stage) refl
        ∙ sym (ap (λ (k : Job). frees (answer_part k a) c id) job)

-- ---- the member

-- the pool's membership holds id
abbrev Holds : ℕ → Pool → Type 0
Holds id q = has q.roster.members id ≡ true

-- link down changes no membership
dropped-members : (ro : Roster) (id : ℕ) → (dropped ro id).members ≡ ro.members
dropped-members ro id =
    by_cases (not ro.sync && is_normal (session_at ro id).state)
    (λ e. (normal-dropped ro id (not-true ro.sync (and_left (not ro.sync) (is_normal (session_at ro id).state) e)) (and_right (not ro.sync) (is_normal (session_at ro id).state) e)).held)
    (λ e. (other-dropped ro id e).held)
  where
    not-true : (b : Bool) → not b ≡ true → b ≡ false
    not-true true e = sym e
    not-true false e = refl

-- no other event takes one out
pub create-stays : (i : ℕ) (c : Pool) → Valid c → is_part (part_of (Event.join_create i) c) ≡ false → (id : ℕ) → has (members_of c) id ≡ true → has (members_of (next (Event.join_create i) c)) id ≡ true
unfolding join_create create_done join_assemble assemble_done enable maintenance maintenance_done link_down down_done store_check try_run write_ended write_turn synced_turn answer answer_turn
create-stays i c v p id was =
    turned (Holds id) (create_refusal c i) _ c was (λ e. ap (λ (n : ℕ). has n id) (created-numbers c.roster i).held ∙ entered (is_sync c))
  where
    entered : (b : Bool) → has (pick b (members_of c) (with (members_of c) i)) id ≡ true
    entered true = was
    entered false = elim (ℕ_discrete id i) [ yes e ↦ rw e (has-with-same (members_of c) i (has-below (members_of c) i (rw e at was))) | no d ↦ has-with-other (members_of c) i id d ∙ was ]

pub assemble-stays : (i set version : ℕ) (c : Pool) → Valid c → is_part (part_of (Event.join_assemble i set version) c) ≡ false → (id : ℕ) → has (members_of c) id ≡ true → has (members_of (next (Event.join_assemble i set version) c)) id ≡ true
unfolding join_create create_done join_assemble assemble_done enable maintenance maintenance_done link_down down_done store_check try_run write_ended write_turn synced_turn answer answer_turn
assemble-stays i set version c v p id was =
    turned (Holds id) (assemble_refusal c i set version) _ c was
    (λ e. ap (λ (ro : Roster). has ro.members id) (tried-roster (with_roster c (assembled c.roster i set version)))
    ∙ (ap (λ (n : ℕ). has n id) (assembled-numbers c.roster i set version).held
    ∙ by_cases (eqb (members_of c) 0) (λ z. clash was (ap (λ (n : ℕ). has n id) (eqb-true (members_of c) 0 z) ∙ has-none id)) (λ z. rw z was)))

pub enable-stays : (i : ℕ) (c : Pool) → Valid c → is_part (part_of (Event.enable i) c) ≡ false → (id : ℕ) → has (members_of c) id ≡ true → has (members_of (next (Event.enable i) c)) id ≡ true
unfolding join_create create_done join_assemble assemble_done enable maintenance maintenance_done link_down down_done store_check try_run write_ended write_turn synced_turn answer answer_turn
enable-stays i c v p id was =
    turned (Holds id) (enable_refusal c i) _ c was (λ e. ap (λ (n : ℕ). has n id) (enabled-numbers c i (enable-passed c i e).plain).held ∙ was)

pub maintenance-stays : (i : ℕ) (c : Pool) → Valid c → is_part (part_of (Event.maintenance i) c) ≡ false → (id : ℕ) → has (members_of c) id ≡ true → has (members_of (next (Event.maintenance i) c)) id ≡ true
unfolding join_create create_done join_assemble assemble_done enable maintenance maintenance_done link_down down_done store_check try_run write_ended write_turn synced_turn answer answer_turn
maintenance-stays i c v p id was =
    turned (Holds id) (maintenance_refusal c i) _ c was
    (λ e. ap (λ (n : ℕ). has n id) (left-numbers c.roster i Way.Maintenance false (maintenance-passed c i e).plain).held ∙ was)

pub down-stays : (i : ℕ) (c : Pool) → Valid c → is_part (part_of (Event.link_down i) c) ≡ false → (id : ℕ) → has (members_of c) id ≡ true → has (members_of (next (Event.link_down i) c)) id ≡ true
unfolding join_create create_done join_assemble assemble_done enable maintenance maintenance_done link_down down_done store_check try_run write_ended write_turn synced_turn answer answer_turn
down-stays i c v p id was =
    turned (Holds id) (down_refusal c i) _ c was
    (λ e. ap (λ (ro : Roster). has ro.members id) (down-roster c.job c i) ∙ (ap (λ (n : ℕ). has n id) (dropped-members c.roster i) ∙ was))

pub check-stays : (i : ℕ) (c : Pool) → Valid c → is_part (part_of (Event.store_check i) c) ≡ false → (id : ℕ) → has (members_of c) id ≡ true → has (members_of (next (Event.store_check i) c)) id ≡ true
unfolding join_create create_done join_assemble assemble_done enable maintenance maintenance_done link_down down_done store_check try_run write_ended write_turn synced_turn answer answer_turn
check-stays i c v p id was =
    turned (Holds id) (check_refusal c i) _ c was (λ e. ap (λ (n : ℕ). has n id) (checked-numbers c i).held ∙ was)

pub try-stays : (c : Pool) → Valid c → is_part (part_of Event.try_run c) ≡ false → (id : ℕ) → has (members_of c) id ≡ true → has (members_of (next Event.try_run c)) id ≡ true
unfolding join_create create_done join_assemble assemble_done enable maintenance maintenance_done link_down down_done store_check try_run write_ended write_turn synced_turn answer answer_turn
try-stays c v p id was = turned (Holds id) (try_refusal c) _ c was (λ e. ap (λ (ro : Roster). has ro.members id) (tried-roster c) ∙ was)

pub write-stays : (xs : List ℕ) (chunk reached : ℕ) (c : Pool) → Valid c → is_part (part_of (Event.write xs chunk reached) c) ≡ false → (id : ℕ) → has (members_of c) id ≡ true → has (members_of (next (Event.write xs chunk reached) c)) id ≡ true
unfolding join_create create_done join_assemble assemble_done enable maintenance maintenance_done link_down down_done store_check try_run write_ended write_turn synced_turn answer answer_turn
write-stays xs chunk reached c v p id was =
    turned (Holds id) (write_refusal c (sound_for c xs) chunk reached) _ c was
    (λ e. ap (λ (ro : Roster). has ro.members id) (write-roster c chunk reached)
    ∙ (ap (λ (n : ℕ). has n id) (missed-does c.roster reached v.ok (write-passed c (sound_for c xs) chunk reached e).plain).members ∙ was))

pub synced-stays : (xs : List ℕ) (member chunk : ℕ) (c : Pool) → Valid c → is_part (part_of (Event.synced xs member chunk) c) ≡ false → (id : ℕ) → has (members_of c) id ≡ true → has (members_of (next (Event.synced xs member chunk) c)) id ≡ true
unfolding join_create create_done join_assemble assemble_done enable maintenance maintenance_done link_down down_done store_check try_run write_ended write_turn synced_turn answer answer_turn
synced-stays xs member chunk c v p id was = ap (λ (q : Pool). has q.roster.members id) (synced-same c (sound_for c xs) member chunk (clean_to xs chunk 16)) ∙ was

pub answer-stays : (xs : List ℕ) (number : ℕ) (a : Reply) (c : Pool) → Valid c → is_part (part_of (Event.answer xs number a) c) ≡ false → (id : ℕ) → has (members_of c) id ≡ true → has (members_of (next (Event.answer xs number a) c)) id ≡ true
unfolding join_create create_done join_assemble assemble_done enable maintenance maintenance_done link_down down_done store_check try_run write_ended write_turn synced_turn answer answer_turn
answer-stays xs number a c v p id was =
    turned (Holds id) (answer_refusal c (sound_for c xs) number) _ c was (λ e. at c.job p)
  where
    one : (w : Option ℕ) (over : Bool) (ro : Roster) → ro ≡ raised_if over (entered_by w c.roster) → has ro.members id ≡ true
    one None over ro e = ap (λ (x : Roster). has x.members id) e ∙ was
    one (Some i) over ro e = ap (λ (x : Roster). has x.members id) e ∙ (ap (λ (n : ℕ). has n id) (entered-numbers c.roster i (is_sync c) refl).held ∙ was)

    at : (k : Job) → is_part (answer_part k a) ≡ false → Holds id (answered k c a).pool
    at Job.Idle q = was
    at (Job.Running r) q = let m = takes (members_of c) (version_of c) r a in one m.normal (not (is_running (reported c m).pool.job)) (reported c m).pool.roster (run-roster c m)
    at (Job.Removing m) q = clash refl q

pub remove-takes-out : (xs : List ℕ) (i : ℕ) (mode : Mode) (c : Pool) → Valid c → is_accepted (turn_of (Event.remove xs i mode) c).answer ≡ true → is_part (part_of (Event.remove xs i mode) c) ≡ true → (id : ℕ) → has (members_of c) id ≡ true → has (members_of (next (Event.remove xs i mode) c)) id ≡ not (takes_out (part_of (Event.remove xs i mode) c) c id)
remove-takes-out xs i mode c v d p id was =
    member-at c i (remove_turn c xs i mode) _ _ (remove-does c xs i mode v d) v id was (λ j. is_delete mode && not_owed (state_of c j)) refl

pub answer-takes-out : (xs : List ℕ) (number : ℕ) (a : Reply) (c : Pool) → Valid c → is_accepted (turn_of (Event.answer xs number a) c).answer ≡ true → is_part (part_of (Event.answer xs number a) c) ≡ true → (id : ℕ) → has (members_of c) id ≡ true → has (members_of (next (Event.answer xs number a) c)) id ≡ not (takes_out (part_of (Event.answer xs number a) c) c id)
answer-takes-out xs number a c v d p id was = at c.job refl p
  where
    at : (k : Job) → job_of c ≡ k → is_part (answer_part k a) ≡ true → has (members_of (next (Event.answer xs number a) c)) id ≡ not (takes_out (answer_part (job_of c) a) c id)
    at Job.Idle job q = clash q refl
    at (Job.Running r) job q = clash q refl
    at (Job.Removing m) job q =
        member-at c m.id (answer_turn c xs number a) _ _ (answer-does c xs number a m job v d) v id was (λ j. is_deleting (state_of c j) && (is_good a && is_leave m.stage)) refl
        ∙ sym (ap (λ (k : Job). not (takes_out (answer_part k a) c id)) job)

-- ---- the client map

own-rows : (c : Pool) (c' : Pool) (i : ℕ) (freed out : Bool) (xs : List ℕ) → Lent.some (pick (freed && nobody_left c'.roster) (zeroed xs) (pick out (zero_row i xs) xs))
    ≡ Lent.some (pick ((eqb i i && freed) && nobody_left c'.roster) (zeroed xs) (pick (eqb i i && out) (zero_row i xs) xs))
own-rows c c' i freed out xs = rw (eq-eqb i i refl) refl

pub remove-rows : (c : Pool) → Valid c → is_sync c ≡ false → (xs : List ℕ) (id : ℕ) (mode : Mode) → is_accepted (turn_of (Event.remove xs id mode) c).answer ≡ true
    → map_left (Event.remove xs id mode) c ≡ Lent.some (rows_after (Part.remove id mode) c (next (Event.remove xs id mode) c) id xs)
remove-rows c v plain xs id mode d =
    ap Lent.some (map_at c id (remove_turn c xs id mode) _ _ (remove-does c xs id mode v d) plain xs)
    ∙ own-rows c (next (Event.remove xs id mode) c) id (not_owed (state_of c id) && nothing_due c id Stage.Leave) (is_delete mode && not_owed (state_of c id)) xs

pub answer-rows : (c : Pool) → Valid c → is_sync c ≡ false → (xs : List ℕ) (number : ℕ) (a : Reply) (m : Removal) → job_of c ≡ Job.Removing m → is_accepted (turn_of (Event.answer xs number a) c).answer ≡ true
    → map_left (Event.answer xs number a) c ≡ Lent.some (rows_after (Part.answer m a) c (next (Event.answer xs number a) c) m.id xs)
answer-rows c v plain xs number a m job d =
    ap Lent.some (map_at c m.id (answer_turn c xs number a) _ _ (answer-does c xs number a m job v d) plain xs)
    ∙ own-rows c (next (Event.answer xs number a) c) m.id (is_good a && nothing_due c m.id m.stage) (is_deleting (state_of c m.id) && (is_good a && is_leave m.stage)) xs

-- ---- remove begins

pub begun-said : (c : Pool) (xs : List ℕ) (id : ℕ) (mode : Mode) → Valid c → is_accepted (turn_of (Event.remove xs id mode) c).answer ≡ true
    → state_of (next (Event.remove xs id mode) c) id ≡ pick (frees (Part.remove id mode) c id) State.Free (State.Removing mode (not (not_owed (state_of c id))))
unfolding remove remove_turn
begun-said c xs id mode v =
    taken (λ t. (session_at t.pool.roster id).state ≡ pick (frees (Part.remove id mode) c id) State.Free (State.Removing mode (not (not_owed (state_of c id)))))
    (remove_refusal c (sound_for c xs) id mode) (gone c (remove_begun c id mode)) c
    (λ e. let h = remove-passed c (sound_for c xs) id mode e in
    let g = started-goes (with_roster c (removing c.roster id mode)) id (removing-long c.roster id mode v.ok.long) h.below in
    ap (λ (s : Session). s.state) g.own
    ∙ (ap (λ (k : Bool). (pick k free (session_at (removing c.roster id mode) id)).state) (freed-is c id mode v h)
    ∙ (split (frees (Part.remove id mode) c id) (session_at (removing c.roster id mode) id)
    ∙ ap (λ (st : State). pick (frees (Part.remove id mode) c id) State.Free st) (here c id mode v h ∙ ap (State.Removing mode) (owes_is (state_of c id))))))
  where
    split : (b : Bool) (s : Session) → (pick b free s).state ≡ pick b State.Free s.state
    split true s = refl
    split false s = refl
