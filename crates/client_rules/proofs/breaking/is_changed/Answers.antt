use Rattle.std.proofs.Common.{◌≡◌, refl, ◌∙◌, Bool, true, false, not, ◌&&◌, ◌||◌, List, [], ◌∷◌, ◌++◌, ℕ, zero, suc, ◌≤◌, length, take, rules}
use Rattle.std.proofs.lemmas.List.{take_all, length-take-le}
use Rattle.std.proofs.Math.Seq.{take-suc}
use Rattle.std.specs.Cmp.Lexicographic.{pointwise}
use Rattle.rules_pool.specs.declared.Session.{Session}
use Rattle.rules_pool.specs.declared.Roster.{Roster}
use Rattle.rules_pool.specs.Session.{free}
use Rattle.rules_pool.specs.Sessions.{session_at}
use Rattle.rules_pool.specs.Breaking.{same_record, changed_to}
use Rattle.client_rules.proofs.breaking.is_changed.Goals as goal

under : (t p q r : Bool) → not p ≡ (not q || r) → not (t && p) ≡ (not (t && q) || r)
under true p q r e = e
under false p q r e = refl

-- one more pair, at the end
last-pair : {A : Type 0} (E : A → A → Bool) (xs ys : List A) (x y : A) → length xs ≡ length ys → not (pointwise E (xs ++ (x ∷ [])) (ys ++ (y ∷ []))) ≡ (not (pointwise E xs ys) || not (E x y))
last-pair E [] [] x y e = search rules
last-pair E [] (b ∷ ys) x y e = search rules
last-pair E (a ∷ xs) [] x y e = search rules
last-pair E (a ∷ xs) (b ∷ ys) x y e = under (E a b) _ _ _ (last-pair E xs ys x y (search rules))

-- the first n pairs
first-pairs : (E : Session → Session → Bool) → ((s t : Session) → E s t ≡ same_record s t) → (before after : Roster) (n : ℕ) → n ≤ length before.sessions → n ≤ length after.sessions → not (pointwise E (take n before.sessions) (take n after.sessions)) ≡ changed_to before after n
unfolding changed_to
first-pairs E h before after zero a b = refl
first-pairs E h before after (suc n) a b =
    let l : length (take n before.sessions) ≡ length (take n after.sessions) = search (rules, length-take-le) in
    rw (take-suc before.sessions n free a, take-suc after.sessions n free b, last-pair E _ _ (session_at before n) (session_at after n) l, first-pairs E h before after n (search rules) (search rules), h (session_at before n) (session_at after n)) refl

all-pairs : {r : Bool} (E : Session → Session → Bool) (before after : Roster) → r ≡ not (pointwise E before.sessions after.sessions) → ((s t : Session) → E s t ≡ same_record s t) → length before.sessions ≡ 16 → length after.sessions ≡ 16 → r ≡ changed_to before after 16
all-pairs E before after e h a b = e ∙ rw (take_all 16 before.sessions (search rules), take_all 16 after.sessions (search rules)) at (first-pairs E h before after 16 (search rules) (search rules))

pub returns : goal.returns
returns c = all-pairs _ c.args.before c.args.after c.ne.ensures (λ s t. search rules) (search rules) (search rules)
