-- Laws of the sets that are read off the sixteen records: what they hold, and what storing one record or taking all marks away does to them.
use mathlib.Core.Path.{◌≡◌, refl, sym, ap, ◌∙◌}
use mathlib.Core.Bool.{Bool, true, false}
use mathlib.Core.List.{List, [], ◌∷◌, map}
use mathlib.Core.Logic.{◌≢◌}
use Prim.Native.Nat.{ℕ, zero, suc, ◌≤◌, ◌<◌}
use native.Mathlib.Decide.{ℕ_discrete, dec_lt}
use native.Mathlib.Omega.{arith}
use lib.ListN.{length, get_or, length-set, length-map, get_or-eq_default}
use lib.Seq.{get_or-set_same, get_or-set_other}
use Rattle.laws_words.specs.Tests.{clash}
use Rattle.laws_words.specs.Gather.{gather, gather-bit, gather-lt}
use Rattle.rules_base.specs.Sets.{has, with, without}
use Rattle.rules_base.proofs.Sets.{has_one, has-none, has-with-same, has-with-other, has-without-same, has-without-other, with-lt, without-lt, same_set}
use Rattle.rules_pool.specs.declared.Session.{Session}
use Rattle.rules_pool.specs.declared.Roster.{Roster}
use Rattle.rules_pool.specs.Session.{free}
use Rattle.rules_pool.specs.declared.Kind.{Kind}
use Rattle.rules_pool.specs.Sessions.{session_at, stored, is_kind, ids_of}
use Rattle.rules_pool.specs.Changes.{unmarked, all_unmarked}

-- the array is whole
abbrev pub Long : Roster → Type 0
Long ro = length ro.sessions ≡ 16

-- ---- one record

pub stored-long : (ro : Roster) (id : ℕ) (s : Session) → Long ro → Long (stored ro id s)
stored-long ro id s l = length-set ro.sessions id s ∙ l

pub stored_same : (ro : Roster) (id : ℕ) (s : Session) → Long ro → id < 16 → session_at (stored ro id s) id ≡ s
stored_same ro id s l h = get_or-set_same ro.sessions id s free (let z : id < length ro.sessions = omega (arith, l) in z)

pub stored_other : (ro : Roster) (id : ℕ) (s : Session) (j : ℕ) → j ≢ id → session_at (stored ro id s) j ≡ session_at ro j
stored_other ro id s j ne = get_or-set_other ro.sessions id j s free ne

-- an id whose record passes a test that no free record does is one of the sixteen
pub below : (passes : Session → Bool) (ro : Roster) (id : ℕ) → Long ro → passes free ≡ false → passes (session_at ro id) ≡ true → id < 16
below passes ro id l none e = elim (dec_lt id 16) [
  | yes h ↦ h
  | no n ↦ let past : length ro.sessions ≤ id = omega (arith, l, n) in
      clash e (ap passes (get_or-eq_default ro.sessions free past) ∙ none)
]

pub unmarked-long : (ro : Roster) → Long ro → Long (all_unmarked ro)
unmarked-long ro l = length-map ro.sessions unmarked ∙ l

map_read : (xs : List Session) (j : ℕ) → get_or (map unmarked xs) j free ≡ unmarked (get_or xs j free)
map_read [] j = refl
map_read (x ∷ xs) zero = refl
map_read (x ∷ xs) (suc j) = map_read xs j

pub unmarked-at : (ro : Roster) (j : ℕ) → session_at (all_unmarked ro) j ≡ unmarked (session_at ro j)
unmarked-at ro j = map_read ro.sessions j

-- ---- sets of ids

-- the test of a kind on the record of id j
abbrev pub kind_at : Kind → Roster → ℕ → Session → Bool
kind_at k ro j s = is_kind k ro.sync ro.members j s

-- a set holds the ids whose record is of its kind
pub ids-has : (k : Kind) (ro : Roster) → Long ro → (j : ℕ) → j < 16 → has (ids_of k ro) j ≡ kind_at k ro j (session_at ro j)
unfolding ids_of
ids-has k ro l j h =
    has_one (gather (is_kind k ro.sync ro.members) 0 ro.sessions) j (kind_at k ro j (session_at ro j)) h
    (gather-bit (is_kind k ro.sync ro.members) ro.sessions j free (let z : j < length ro.sessions = omega (arith, l) in z))

pub ids-lt : (k : Kind) (ro : Roster) → Long ro → ids_of k ro < 65536
unfolding ids_of
ids-lt k ro l =
    let b = gather-lt (is_kind k ro.sync ro.members) ro.sessions in
    rw l at b

-- nobody of the kind, said of the set and of each record
pub ids-none : (k : Kind) (ro : Roster) → Long ro → ids_of k ro ≡ 0 → (j : ℕ) → j < 16 → kind_at k ro j (session_at ro j) ≡ false
ids-none k ro l e j h = sym (ids-has k ro l j h) ∙ (ap (λ (n : ℕ). has n j) e ∙ has-none j)

pub none-ids : (k : Kind) (ro : Roster) → Long ro → ((j : ℕ) → j < 16 → kind_at k ro j (session_at ro j) ≡ false) → ids_of k ro ≡ 0
none-ids k ro l f = same_set (ids_of k ro) 0 (ids-lt k ro l) (omega arith) (λ j h. ids-has k ro l j h ∙ (f j h ∙ sym (has-none j)))

-- two rosters whose records are of the kind at the same ids
pub ids-same : (k q : Kind) (ro ro' : Roster) → Long ro → Long ro'
    → ((j : ℕ) → j < 16 → kind_at q ro' j (session_at ro' j) ≡ kind_at k ro j (session_at ro j)) → ids_of q ro' ≡ ids_of k ro
ids-same k q ro ro' l l' f =
    same_set (ids_of q ro') (ids_of k ro) (ids-lt q ro' l') (ids-lt k ro l)
    (λ j h. ids-has q ro' l' j h ∙ (f j h ∙ sym (ids-has k ro l j h)))

-- Two rosters that differ at one id only: the set gains the id, or loses it.
pub ids-gain : (k : Kind) (ro ro' : Roster) (id : ℕ) → Long ro → Long ro' → id < 16
    → ((j : ℕ) → j < 16 → j ≢ id → kind_at k ro' j (session_at ro' j) ≡ kind_at k ro j (session_at ro j))
    → kind_at k ro' id (session_at ro' id) ≡ true → ids_of k ro' ≡ with (ids_of k ro) id
ids-gain k ro ro' id l l' h f e =
    same_set (ids_of k ro') (with (ids_of k ro) id) (ids-lt k ro' l') (with-lt (ids_of k ro) id (ids-lt k ro l)) (λ j hj. at j hj (ℕ_discrete j id))
  where
    at : (j : ℕ) → j < 16 → Dec (j ≡ id) → has (ids_of k ro') j ≡ has (with (ids_of k ro) id) j
    at j hj (yes p) = rw p (ids-has k ro' l' id h ∙ (e ∙ sym (has-with-same (ids_of k ro) id h)))
    at j hj (no p) = ids-has k ro' l' j hj ∙ (f j hj p ∙ (sym (ids-has k ro l j hj) ∙ sym (has-with-other (ids_of k ro) id j p)))

pub ids-lose : (k : Kind) (ro ro' : Roster) (id : ℕ) → Long ro → Long ro' → id < 16
    → ((j : ℕ) → j < 16 → j ≢ id → kind_at k ro' j (session_at ro' j) ≡ kind_at k ro j (session_at ro j))
    → kind_at k ro' id (session_at ro' id) ≡ false → ids_of k ro' ≡ without (ids_of k ro) id
ids-lose k ro ro' id l l' h f e =
    same_set (ids_of k ro') (without (ids_of k ro) id) (ids-lt k ro' l') (without-lt (ids_of k ro) id (ids-lt k ro l)) (λ j hj. at j hj (ℕ_discrete j id))
  where
    at : (j : ℕ) → j < 16 → Dec (j ≡ id) → has (ids_of k ro') j ≡ has (without (ids_of k ro) id) j
    at j hj (yes p) = rw p (ids-has k ro' l' id h ∙ (e ∙ sym (has-without-same (ids_of k ro) id)))
    at j hj (no p) = ids-has k ro' l' j hj ∙ (f j hj p ∙ (sym (ids-has k ro l j hj) ∙ sym (has-without-other (ids_of k ro) id j p)))

-- a set without an id that it does not hold
pub without-same : (s id : ℕ) → s < 65536 → has s id ≡ false → without s id ≡ s
without-same s id h e = same_set (without s id) s (without-lt s id h) h (λ j hj. at j (ℕ_discrete j id))
  where
    at : (j : ℕ) → Dec (j ≡ id) → has (without s id) j ≡ has s j
    at j (yes p) = rw p (has-without-same s id ∙ sym e)
    at j (no p) = has-without-other s id j p
