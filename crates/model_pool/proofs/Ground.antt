-- Tests, and functions with one value changed.
use mathlib.Core.Path.{◌≡◌, refl}
use mathlib.Core.Bool.{Bool, true, false, not, ◌&&◌, ◌||◌}
use mathlib.Core.Logic.{◌≢◌}
use Prim.Native.Nat.{ℕ}
use native.Mathlib.Decide.{ℕ_discrete}
use lib.Dec.{T, eqb}
use borrow.Author.Tests.{eq-eqb, ne_eqb}
use Rattle.laws_words.specs.Tests.{clash}
use Rattle.model_pool.specs.Model.{upd, Session, Gone, Made, Up, Down, Again, Dying, Parting, up, dying, active, there, Job, Idle, Get, LastIo, Enable, Leave, Info, Move, running, still}

pub split {ℓ} : {P : Type ℓ} (j k : ℕ) → (j ≡ k → P) → (j ≢ k → P) → P
split {P = P} j k a b = go (ℕ_discrete j k)
  where
    go : Dec (j ≡ k) → P
    go (yes e) = a e
    go (no n) = b n

pub upd_same {ℓ} : {A : Type ℓ} (f : ℕ → A) (k : ℕ) (a : A) → upd f k a k ≡ a
unfolding upd
upd_same f k a = rw (eq-eqb k k refl)

pub upd_other {ℓ} : {A : Type ℓ} (f : ℕ → A) (k j : ℕ) (a : A) → j ≢ k → upd f k a j ≡ f j
unfolding upd
upd_other f k j a h = rw (ne_eqb j k h)

-- what holds of the new value at k, and of the old ones elsewhere
pub at-upd {ℓ κ} : {A : Type ℓ} (P : A → Type κ) (f : ℕ → A) (k : ℕ) (a : A) (j : ℕ) → (j ≡ k → P a) → (j ≢ k → P (f j)) → P (upd f k a j)
at-upd P f k a j x y = split j k (λ e. rw (e, upd_same f k a) (x e)) (λ n. rw (upd_other f k j a n) (y n))

pub or_left : (a b : Bool) → a ≡ true → (a || b) ≡ true
or_left true b e = refl
or_left false b e = clash e refl

pub or_right : (a b : Bool) → b ≡ true → (a || b) ≡ true
or_right true b e = refl
or_right false b e = e

pub not-true : (b : Bool) → not b ≡ true → b ≡ false
not-true true e = clash e refl
not-true false e = refl

pub other_row : (n m : ℕ) → n ≢ m → not (eqb n m) ≡ true
other_row n m h = rw (ne_eqb n m h) refl

pub not-false : (b : Bool) → not (b && false) ≡ true
not-false true = refl
not-false false = refl

-- ---- sessions
pub up-active : (s : Session) → up s ≡ true → active s ≡ true
up-active Gone e = e
up-active Made e = refl
up-active Up e = refl
up-active Down e = refl
up-active Again e = refl
up-active Dying e = e
up-active Parting e = e

pub active-there : (s : Session) → active s ≡ true → there s ≡ true
active-there Gone e = e
active-there Made e = refl
active-there Up e = refl
active-there Down e = refl
active-there Again e = refl
active-there Dying e = refl
active-there Parting e = refl

pub active-lives : (s : Session) → active s ≡ true → dying s ≡ false
active-lives Gone e = refl
active-lives Made e = refl
active-lives Up e = refl
active-lives Down e = refl
active-lives Again e = refl
active-lives Dying e = clash e refl
active-lives Parting e = refl

pub not-both : {A : Type 0} (j : Job) → T (still j) → T (running j) → A
not-both Idle s r = absurd r
not-both Get s r = absurd s
not-both LastIo s r = absurd s
not-both Enable s r = absurd s
not-both Leave s r = absurd r
not-both Info s r = absurd r
not-both (Move k t) s r = absurd s
