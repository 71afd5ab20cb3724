-- Laws of tests: cases, facts out of them, tests that mean the same, a list of rules taken apart.
use Rattle.std.specs.Prelude.{◌≡◌, refl, Bool, true, false, ◌&&◌, List, [], ◌∷◌, ℕ, zero, suc, ◌≤◌, ◌<◌, leb, get_or}
use Rattle.std.proofs.Common.{sym, ◌∙◌, true≢false, arith, leb-true, leb-false, le-leb}
use Rattle.laws_words.specs.Words.{pick, one, all}

pub by_cases {ℓ} : {P : Type ℓ} (b : Bool) → (b ≡ true → P) → (b ≡ false → P) → P
by_cases true t f = t refl
by_cases false t f = f refl

-- a test that both holds and does not
pub clash {ℓ} : {A : Type ℓ} {b : Bool} → b ≡ true → b ≡ false → A
clash p q = absurd (true≢false (sym p ∙ q))

pub one-le : (b : Bool) → one b ≤ 1
one-le true = omega arith
one-le false = omega arith

-- two bounds that give each other are the same test
pub leb-same : {a b c d : ℕ} → (a ≤ b → c ≤ d) → (c ≤ d → a ≤ b) → leb a b ≡ leb c d
leb-same {a} {b} {c} {d} f g =
    by_cases (leb a b)
    (λ e. e ∙ sym (le-leb c d (f (leb-true a b e))))
    (λ e. by_cases (leb c d) (λ e'. let h : a ≤ b = g (leb-true c d e') in let k : b < a = leb-false a b e in absurd (omega arith)) (λ e'. e ∙ sym e'))

-- two tests that give each other are the same
pub same_test : (a b : Bool) → (a ≡ true → b ≡ true) → (b ≡ true → a ≡ true) → a ≡ b
same_test true b f g = sym (f refl)
same_test false true f g = g refl
same_test false false f g = refl

pub and_left : (a b : Bool) → (a && b) ≡ true → a ≡ true
and_left true b e = refl
and_left false b e = e

pub and_right : (a b : Bool) → (a && b) ≡ true → b ≡ true
and_right true b e = e
and_right false b e = clash e refl

pub and_both : {a b : Bool} → a ≡ true → b ≡ true → (a && b) ≡ true
and_both e f = cc (e, f)

pub and-false : (b : Bool) → (b && false) ≡ false
and-false true = refl
and-false false = refl

-- the rule at place k of a list of rules that all hold
pub all-at : (bs : List Bool) (k : ℕ) → all bs ≡ true → get_or bs k true ≡ true
all-at [] k e = refl
all-at (b ∷ []) zero e = e
all-at (b ∷ []) (suc k) e = refl
all-at (b ∷ (c ∷ bs)) zero e = and_left b (all (c ∷ bs)) e
all-at (b ∷ (c ∷ bs)) (suc k) e = all-at (c ∷ bs) k (and_right b (all (c ∷ bs)) e)

-- what holds of each side where it is picked, and what holds of both
pub picked {ℓ} : {A : Type ℓ} (P : A → Type 0) (b : Bool) (x y : A) → (b ≡ true → P x) → (b ≡ false → P y) → P (pick b x y)
picked P true x y f g = f refl
picked P false x y f g = g refl

pub either {ℓ} : {A : Type ℓ} (P : A → Type 0) (b : Bool) (x y : A) → P x → P y → P (pick b x y)
either P b x y p q = picked P b x y (λ e. p) (λ e. q)

-- a chain of refusals that came to 0: its first test does not hold, and the rest came to 0
pub passed : (b : Bool) (n rest : ℕ) → (n ≡ 0 → ⊥) → pick b n rest ≡ 0 → (b ≡ false) × (rest ≡ 0)
passed true n rest h e = absurd (h e)
passed false n rest h e = (refl, e)
