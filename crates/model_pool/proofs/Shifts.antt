-- A session goes to FAILED or RECONNECTING: one step of the simplified pool, whatever the way.
use mathlib.Core.Path.{◌≡◌, refl, sym, ap, ◌∙◌, subst}
use mathlib.Core.Bool.{Bool, true, false}
use mathlib.Core.Logic.{◌≢◌, ◌⊎◌, inl, inr}
use Prim.Native.Nat.{ℕ, ◌+◌, ◌-◌, ◌<◌}
use native.Mathlib.Decide.{dec_lt}
use native.Mathlib.Omega.{arith}
use borrow.Author.Tests.{eqb-true}
use Rattle.laws_words.specs.Words.{pick, one}
use Rattle.laws_words.specs.Tests.{by_cases, and_left}
use Rattle.rules_base.specs.Sets.{has, without, size}
use Rattle.rules_base.proofs.Sets.{has-without-other, size-without, size-some}
use Rattle.rules_pool.specs.declared.Cause.{Cause}
use Rattle.rules_pool.specs.declared.State.{State}
use Rattle.rules_pool.specs.declared.Session.{Session}
use Rattle.rules_pool.specs.declared.Roster.{Roster}
use Rattle.rules_pool.specs.Session.{is_normal, moved}
use Rattle.rules_pool.specs.declared.Kind.{Kind}
use Rattle.rules_pool.specs.Sessions.{session_at, ids_of}
use Rattle.rules_pool.specs.declared.Way.{Way}
use Rattle.rules_pool.specs.Changes.{more, arrived, left, failed, went}
use Rattle.laws_client.proofs.Ids.{stored_same, stored_other, ids-has}
use Rattle.laws_client.proofs.Rosters.{Ok, count-is}
use Rattle.laws_client.proofs.Links.{is_live}
use Rattle.laws_client.proofs.Records.{is_last, left_at, left_other, left-numbers, rises}
use Rattle.model_pool.specs.Model as m
use Rattle.model_pool.specs.Steps as s
use Rattle.model_pool.proofs.Ground.{split, upd_same, upd_other}
use Rattle.model_pool.specs.Mirror.{ses_of, Sees}
use Rattle.model_pool.proofs.Sessions.{ups, actives, past}

-- what may become of one session: its record, the others' and the numbers
pub record Shifted (ro ro' : Roster) (id : ℕ) : Type 0 where
  pub others : (j : ℕ) → j ≢ id → session_at ro' j ≡ session_at ro j
  pub active : m.active (ses_of (session_at ro' id).state) ≡ true
  pub not-up : m.up (ses_of (session_at ro' id).state) ≡ false
  pub mark : (session_at ro' id).mark ≡ true → ((session_at ro id).mark ≡ true) ⊎ ((is_normal (session_at ro id).state ≡ true) × ((l : ℕ) → l ≢ id → is_normal (session_at ro l).state ≡ false))
  pub members : ro'.members ≡ ro.members
  pub version : ro'.version ≡ ro.version + one (is_normal (session_at ro id).state)
  pub past : ro'.past ≡ ro.past

-- where the session shifts to
abbrev pub target : Roster → ℕ → m.World → m.World
target ro' id w = s.moved w (m.upd w.pool.ses id (ses_of (session_at ro' id).state)) (λ j. (session_at ro' j).mark) (w.pool.version + one (m.up (w.pool.ses id)))

module _ (ro ro' : Roster) (id : ℕ) (w : m.World) (e : Sees ro w.pool) (h : Shifted ro ro' id) where
  pub shift-sees : Sees ro' (target ro' id w).pool
  shift-sees = record {
    ses = λ j. split j id
        (λ q. rw (q, upd_same w.pool.ses id (ses_of (session_at ro' id).state)))
        (λ q. rw (upd_other w.pool.ses id j (ses_of (session_at ro' id).state) q, h.others j q) (e.ses j));
    mark = λ j. refl;
    mem = λ j. rw h.members (e.mem j);
    version = h.version ∙ rw (e.version, ups ro w.pool e id) refl;
    closed = rw h.past e.closed;
  }

  marks : s.Marks w id (λ j. (session_at ro' j).mark)
  marks k t = split k id (λ q. at q (h.mark (rw q at t))) (λ q. inl (sym (e.mark k) ∙ (ap (λ (x : Session). x.mark) (sym (h.others k q)) ∙ t)))
    where
      at : k ≡ id → ((session_at ro id).mark ≡ true) ⊎ ((is_normal (session_at ro id).state ≡ true) × ((l : ℕ) → l ≢ id → is_normal (session_at ro l).state ≡ false))
          → (w.pool.mark k ≡ true) ⊎ ((k ≡ id) × (m.up (w.pool.ses id) ≡ true) × ((l : ℕ) → l ≢ id → m.up (w.pool.ses l) ≡ false))
      at q (inl x) = inl (rw q (sym (e.mark id) ∙ x))
      at q (inr x) = inr (q, ups ro w.pool e id ∙ x.0, λ l d. ups ro w.pool e l ∙ x.1 l d)

  pub shift-step : is_live (session_at ro id).state ≡ true → s.Next w (target ro' id w)
  shift-step a = s.Next.Shift id (ses_of (session_at ro' id).state) (λ j. (session_at ro' j).mark) (actives ro w.pool e id ∙ a) h.active h.not-up marks

-- ---- out of NORMAL
module _ (ro : Roster) (v : Ok ro) (y : ro.sync ≡ false) (id : ℕ) (h : id < 16) (e : is_normal (session_at ro id).state ≡ true) where
  in-it : has (ids_of Kind.Normals ro) id ≡ true
  in-it = ids-has Kind.Normals ro v.long id h ∙ e

  fewer : ro.count ≡ size (without (ids_of Kind.Normals ro) id) + 1
  fewer = count-is ro v y ∙ size-without (ids_of Kind.Normals ro) id in-it

  -- the last one: nobody else is NORMAL
  alone : is_last ro ≡ true → (l : ℕ) → l ≢ id → is_normal (session_at ro l).state ≡ false
  alone q l d = elim (dec_lt l 16) [
    | yes k ↦
        let z : size (without (ids_of Kind.Normals ro) id) ≡ 0 = (let x = eqb-true (ro.count - 1) 0 (rw y at q) in omega (arith, fewer)) in
        let o : has (without (ids_of Kind.Normals ro) id) l ≡ false = by_cases (has (without (ids_of Kind.Normals ro) id) l)
        (λ t. let w = size-some (without (ids_of Kind.Normals ro) id) l t in absurd (let f : ⊥ = omega (arith, z) in f)) (λ t. t) in
        sym (ids-has Kind.Normals ro v.long l k) ∙ (sym (has-without-other (ids_of Kind.Normals ro) id l d) ∙ o)
    | no k ↦ ap (λ (x : Session). is_normal x.state) (past ro v.long l (omega arith))
  ]

  pub raised : more ro.version ≡ ro.version + one (is_normal (session_at ro id).state)
  raised = rises ro v (omega (arith, fewer)) ∙ rw e refl

  left-past : (w : Way) → (left ro id w).past ≡ ro.past
  unfolding left
  left-past w = rw y refl

  -- to FAILED or to maintenance
  pub left-shifted : (w : Way) (st : State) → ((last : Bool) → (arrived (session_at ro id) w last).state ≡ st) → ((last : Bool) → (arrived (session_at ro id) w last).mark ≡ last)
      → m.active (ses_of st) ≡ true → m.up (ses_of st) ≡ false → Shifted ro (left ro id w) id
  left-shifted w st to mk a u =
      let at = left_at ro id w v.long h in
      let n = left-numbers ro id w false y in
      record {
        others = λ j q. left_other ro id w j q;
        active = rw (at, to (is_last ro)) a;
        not-up = rw (at, to (is_last ro)) u;
        mark = λ t. inr (e, alone (sym (mk (is_last ro)) ∙ (ap (λ (x : Session). x.mark) (sym at) ∙ t)));
        members = n.held;
        version = n.versioned ∙ raised;
        past = left-past w;
      }

-- ---- a session that is not NORMAL
module _ (ro : Roster) (v : Ok ro) (id : ℕ) (h : id < 16) (e : is_normal (session_at ro id).state ≡ false) where
  pub went-shifted : (st : State) → m.active (ses_of st) ≡ true → m.up (ses_of st) ≡ false → Shifted ro (went ro id st) id
  unfolding went
  went-shifted st a u =
      let at = stored_same ro id (moved (session_at ro id) st) v.long h in
      record {
        others = λ j q. stored_other ro id (moved (session_at ro id) st) j q;
        active = rw at a;
        not-up = rw at u;
        mark = λ t. inl (and_left (session_at ro id).mark _ (ap (λ (x : Session). x.mark) (sym at) ∙ t));
        members = refl;
        version = rw e (omega arith);
        past = refl;
      }

-- link down, or a write that did not reach it
pub failed-shifted : (ro : Roster) → Ok ro → ro.sync ≡ false → (id : ℕ) → id < 16 → (cause : Cause) → Shifted ro (failed ro id cause) id
unfolding failed went
failed-shifted ro v y id h cause =
    by_cases (is_normal (session_at ro id).state)
    (λ e. subst (λ (b : Bool). Shifted ro (pick b (left ro id (Way.Failed cause)) (went ro id (State.Failed cause))) id) (sym e) (left-shifted ro v y id h e (Way.Failed cause) (State.Failed cause) (λ last. refl) (λ last. refl) refl refl))
    (λ e. subst (λ (b : Bool). Shifted ro (pick b (left ro id (Way.Failed cause)) (went ro id (State.Failed cause))) id) (sym e) (went-shifted ro v id h e (State.Failed cause) refl refl))

-- maintenance
pub maintained-shifted : (ro : Roster) → Ok ro → ro.sync ≡ false → (id : ℕ) → id < 16 → is_normal (session_at ro id).state ≡ true → Shifted ro (left ro id Way.Maintenance) id
maintained-shifted ro v y id h e = left-shifted ro v y id h e Way.Maintenance State.Reconnecting (λ last. refl) (λ last. refl) refl refl
