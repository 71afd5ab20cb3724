-- Who bears the last authoritative mark after an event, and who the maintenance flag.
use mathlib.Core.Path.{◌≡◌, refl, ap, ◌∙◌, sym}
use mathlib.Core.Logic.{◌≢◌}
use mathlib.Core.Bool.{Bool, true, false, ◌&&◌, ◌||◌}
use Prim.Native.Nat.{ℕ, ◌<◌}
use native.Mathlib.Omega.{arith}
use lib.Dec.{eqb}
use lib.ListN.{get_or-eq_default}
use borrow.Author.Tests.{eqb-true, eqb-false}
use Rattle.laws_words.specs.Tests.{clash, by_cases, and-false}
use Rattle.laws_words.specs.Words.{pick}
use Rattle.rules_base.proofs.Sets.{size-zero}
use Rattle.rules_base.specs.Sets.{size}
use Rattle.rules_pool.specs.Session.{is_normal, free}
use Rattle.rules_pool.specs.declared.Session.{Session}
use Rattle.rules_pool.specs.declared.State.{State}
use Rattle.rules_pool.specs.Sessions.{ids_of}
use Rattle.rules_pool.specs.declared.Kind.{Kind}
use Rattle.laws_client.proofs.Ids.{ids-none}
use Rattle.laws_client.proofs.Links.{counted}
use Rattle.laws_client.proofs.Pools.{Valid}
use Rattle.laws_client.proofs.Records.{normal-below, placed}
use Rattle.laws_client.proofs.Rosters.{count-is}
use Rattle.rules_pool.specs.declared.Pool.{Pool}
use Rattle.theorem_client.specs.Demand2.{Kept}
use Rattle.rules_client.specs.Events.{Event, state_of, is_sync, record_of}
use Rattle.theorem_client.specs.Said.{count_of, mark_of, flag_of, bears, last_normal}
use Rattle.theorem_client.proofs.Fates.{Fate}
use Rattle.theorem_client.proofs.States.{reconnecting-not, unborne}
use native.Mathlib.Decide.{dec_lt}

and-swap : (a b : Bool) → (a && b) ≡ (b && a)
and-swap true true = refl
and-swap true false = refl
and-swap false true = refl
and-swap false false = refl

-- ---- by the state rules

-- past the end there is no session
past : (c : Pool) (id : ℕ) → Valid c → (id < 16 → ⊥) → record_of c id ≡ free
past c id v n = get_or-eq_default c.roster.sessions free (let l = v.ok.long in omega (arith, n))

-- mark and flag stand on FAILED and RECONNECTING only
pub borne : (c : Pool) (id : ℕ) → Valid c → (mark_of c id ≡ (mark_of c id && bears (state_of c id))) × (flag_of c id ≡ (flag_of c id && bears (state_of c id)))
borne c id v = elim (dec_lt id 16) [
  | yes h ↦ placed c.roster v.ok id h
  | no n ↦ let e = past c id v n in (ap (λ (s : Session). s.mark) e ∙ sym (ap (λ (s : Session). s.mark && bears s.state) e), ap (λ (s : Session). s.maintenance) e ∙ sym (ap (λ (s : Session). s.maintenance && bears s.state) e))
]

-- no session, no mark and no flag
nobodys : (c : Pool) (id : ℕ) → Valid c → state_of c id ≡ State.Free → (mark_of c id ≡ false) × (flag_of c id ≡ false)
nobodys c id v st = ((borne c id v).0 ∙ rw st (and-false (mark_of c id)), (borne c id v).1 ∙ rw st (and-false (flag_of c id)))

-- where the count is 0 nobody is NORMAL
none-normal : (c : Pool) → Valid c → is_sync c ≡ false → count_of c ≡ 0 → (id : ℕ) → is_normal (state_of c id) ≡ false
none-normal c v plain z id =
    by_cases (is_normal (state_of c id))
    (λ n. let k = counted c.roster id v.ok (normal-below c.roster id v.ok.long n) plain n in absurd (let y : ⊥ = omega (arith, k, z) in y))
    (λ n. n)

-- where it is not, nobody is marked
none-marked : (c : Pool) → Valid c → is_sync c ≡ false → eqb (count_of c) 0 ≡ false → (id : ℕ) → mark_of c id ≡ false
none-marked c v plain some id = elim (dec_lt id 16) [
  | yes h ↦ ids-none Kind.Marked c.roster v.ok.long none id h
  | no n ↦ ap (λ (s : Session). s.mark) (past c id v n)
]
  where
    either : (a b : Bool) → (a || b) ≡ true → b ≡ false → a ≡ true
    either true b e f = refl
    either false b e f = clash e f

    normals : eqb (ids_of Kind.Normals c.roster) 0 ≡ false
    normals =
        by_cases (eqb (ids_of Kind.Normals c.roster) 0)
        (λ e. absurd (eqb-false (count_of c) 0 some (count-is c.roster v.ok plain ∙ (ap size (eqb-true (ids_of Kind.Normals c.roster) 0 e) ∙ size-zero))))
        (λ e. e)

    none : ids_of Kind.Marked c.roster ≡ 0
    none = eqb-true (ids_of Kind.Marked c.roster) 0 (either (eqb (ids_of Kind.Marked c.roster) 0) (eqb (ids_of Kind.Normals c.roster) 0) v.ok.no-mark normals)

-- ---- the mark

-- a record that is now s
mark-is : (c : Pool) (id : ℕ) (s : Session) (b : Bool) → record_of c id ≡ s → s.mark ≡ (bears s.state && b) → mark_of c id ≡ (bears (state_of c id) && b)
mark-is c id s b r e = ap (λ (s : Session). s.mark) r ∙ (e ∙ sym (ap (λ (s : Session). bears s.state && b) r))

module _ (c : Pool) (e : Event) (c' : Pool) (id : ℕ) (v : Valid c) (v' : Valid c') (plain : is_sync c ≡ false) (plain' : is_sync c' ≡ false) (over : count_of c' ≡ 0) where
  -- nobody was NORMAL before
  mark-stays : count_of c ≡ 0 → Fate c e c' id → mark_of c' id ≡ (bears (state_of c' id) && mark_of c id)
  mark-stays z (Fate.kept (Kept.equal r)) = mark-is c' id _ (mark_of c id) r ((borne c id v).0 ∙ and-swap (mark_of c id) (bears (state_of c id)))
  mark-stays z (Fate.kept (Kept.cleared r w)) = clash w.after (none-normal c' v' plain' over w.who)
  mark-stays z (Fate.begins x st r) = mark-is c' id _ (mark_of c id) r (sym (rw (nobodys c id v st).0 (and-false (bears (pick (is_sync c) State.Normal State.Created)))))
  mark-stays z (Fate.joins set version x p st r) = mark-is c' id _ (mark_of c id) r (sym (nobodys c id v st).0)
  mark-stays z (Fate.goes to l n b w r) = mark-is c' id _ (mark_of c id) r (and-swap (mark_of c id) (bears to))
  mark-stays z (Fate.fails cause last w x n b r) = clash n (none-normal c v plain z id)
  mark-stays z (Fate.maintained last x p n b r) = clash n (none-normal c v plain z id)
  mark-stays z (Fate.unflagged x is r) = mark-is c' id _ (mark_of c id) r ((borne c id v).0 ∙ and-swap (mark_of c id) (bears (state_of c id)))
  mark-stays z (Fate.paid mode st r) = mark-is c' id _ (mark_of c id) r refl
  mark-stays z (Fate.freed i m r) = mark-is c' id _ (mark_of c id) r refl
  mark-stays z (Fate.removed xs mode x l r) = mark-is c' id _ (mark_of c id) r refl
  mark-stays z (Fate.extends xs x p st r) = mark-is c' id _ (mark_of c id) r (sym (nobodys c id v st).0)

  -- somebody was: nobody was marked
  mark-appears : eqb (count_of c) 0 ≡ false → Fate c e c' id → mark_of c' id ≡ (bears (state_of c' id) && last_normal c id)
  mark-appears z (Fate.kept (Kept.equal r)) =
      mark-is c' id _ (last_normal c id) r
      (none-marked c v plain z id ∙ sym (rw (sym (ap (λ (s : Session). is_normal s.state) r) ∙ none-normal c' v' plain' over id) (and-false (bears (state_of c id)))))
  mark-appears z (Fate.kept (Kept.cleared r w)) = clash w.after (none-normal c' v' plain' over w.who)
  mark-appears z (Fate.begins x st r) = mark-is c' id _ (last_normal c id) r (sym (rw st (and-false (bears (pick (is_sync c) State.Normal State.Created)))))
  mark-appears z (Fate.joins set version x p st r) = mark-is c' id _ (last_normal c id) r (rw st refl)
  mark-appears z (Fate.goes to l n b w r) =
      mark-is c' id _ (last_normal c id) r
      (rw (none-marked c v plain z id) (by_cases (is_normal (state_of c id)) (λ k. rw (unborne to (n k).0) refl) (λ k. rw k (sym (and-false (bears to))))))
  mark-appears z (Fate.fails cause last w x n b r) = mark-is c' id _ (last_normal c id) r (b plain over ∙ rw n refl)
  mark-appears z (Fate.maintained last x p n b r) = mark-is c' id _ (last_normal c id) r (b over ∙ rw n refl)
  mark-appears z (Fate.unflagged x is r) =
      mark-is c' id _ (last_normal c id) r (none-marked c v plain z id ∙ sym (rw (reconnecting-not (state_of c id) is) (and-false (bears (state_of c id)))))
  mark-appears z (Fate.paid mode st r) = mark-is c' id _ (last_normal c id) r refl
  mark-appears z (Fate.freed i m r) = mark-is c' id _ (last_normal c id) r refl
  mark-appears z (Fate.removed xs mode x l r) = mark-is c' id _ (last_normal c id) r refl
  mark-appears z (Fate.extends xs x p st r) = mark-is c' id _ (last_normal c id) r (rw st refl)

-- The mark after an event, by the fate of the session.
pub mark-after : (c : Pool) (e : Event) (c' : Pool) (id : ℕ) → Valid c → Valid c' → is_sync c ≡ false → is_sync c' ≡ false → Fate c e c' id
    → mark_of c' id ≡ (eqb (count_of c') 0 && (bears (state_of c' id) && pick (eqb (count_of c) 0) (mark_of c id) (last_normal c id)))
mark-after c e c' id v v' plain plain' f =
    by_cases (eqb (count_of c') 0)
    (λ o. let over = eqb-true (count_of c') 0 o in
    by_cases (eqb (count_of c) 0)
    (λ z. rw (o, z) (mark-stays c e c' id v v' plain plain' over (eqb-true (count_of c) 0 z) f))
    (λ z. rw (o, z) (mark-appears c e c' id v v' plain plain' over z f)))
    (λ o. rw o (none-marked c' v' plain' o id))

-- ---- the flag

flag_is : (c : Pool) (id : ℕ) (s : Session) (b : Bool) → record_of c id ≡ s → s.maintenance ≡ (b && bears s.state) → flag_of c id ≡ (b && bears (state_of c id))
flag_is c id s b r e = ap (λ (s : Session). s.maintenance) r ∙ (e ∙ sym (ap (λ (s : Session). b && bears s.state) r))

pub flag-after : (c : Pool) (e : Event) (c' : Pool) (id : ℕ) → Valid c → e ≢ Event.maintenance id → e ≢ Event.enable id → Fate c e c' id → flag_of c' id ≡ (flag_of c id && bears (state_of c' id))
flag-after c e c' id v m n (Fate.kept (Kept.equal r)) = flag_is c' id _ (flag_of c id) r (borne c id v).1
flag-after c e c' id v m n (Fate.kept (Kept.cleared r w)) = flag_is c' id _ (flag_of c id) r (borne c id v).1
flag-after c e c' id v m n (Fate.begins x st r) = flag_is c' id _ (flag_of c id) r (rw (nobodys c id v st).1 refl)
flag-after c e c' id v m n (Fate.joins set version x p st r) = flag_is c' id _ (flag_of c id) r (rw (nobodys c id v st).1 refl)
flag-after c e c' id v m n (Fate.goes to l k b w r) = flag_is c' id _ (flag_of c id) r refl
flag-after c e c' id v m n (Fate.fails cause last w x k b r) = flag_is c' id _ (flag_of c id) r refl
flag-after c e c' id v m n (Fate.maintained last x p k b r) = absurd (m x)
flag-after c e c' id v m n (Fate.unflagged x is r) = absurd (n x)
flag-after c e c' id v m n (Fate.paid mode st r) = flag_is c' id _ (flag_of c id) r (sym (and-false (flag_of c id)))
flag-after c e c' id v m n (Fate.freed i k r) = flag_is c' id _ (flag_of c id) r (sym (and-false (flag_of c id)))
flag-after c e c' id v m n (Fate.removed xs mode x l r) = flag_is c' id _ (flag_of c id) r (sym (and-false (flag_of c id)))
flag-after c e c' id v m n (Fate.extends xs x p st r) = flag_is c' id _ (flag_of c id) r (rw (nobodys c id v st).1 refl)
