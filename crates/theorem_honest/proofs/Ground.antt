-- Laws of one place changed, of tests, and the induction over a set. Assumes nothing.
use mathlib.Core.Path.{◌≡◌, refl, ap, ◌∙◌, fun_ext}
use mathlib.Core.Bool.{Bool, true, false}
use mathlib.Core.Logic.{◌≢◌}
use Prim.Native.Nat.{ℕ, ◌+◌, ◌<◌}
use lib.Dec.{eqb}
use borrow.Author.Tests.{eq-eqb, ne_eqb, eqb-true}
use Rattle.laws_words.specs.Words.{pick}
use Rattle.laws_words.specs.Tests.{by_cases, clash}
use Rattle.rules_base.specs.Sets.{has, without, size, lowest}
use Rattle.rules_base.proofs.Sets.{has-none, still, without-lt, empty-set, lowest-in, by-lowest, size-without}
use Rattle.rules_world.specs.Station.{Station}
use Rattle.rules_world.specs.Together.{upd}

pub upd_same : (f : ℕ → Station) (k : ℕ) (s : Station) → upd f k s k ≡ s
unfolding upd
upd_same f k s = rw (eq-eqb k k refl)

pub upd_other : (f : ℕ → Station) (k j : ℕ) (s : Station) → j ≢ k → upd f k s j ≡ f j
unfolding upd
upd_other f k j s h = rw (ne_eqb j k h)

pub upd-upd : (f : ℕ → Station) (k : ℕ) (a b : Station) → upd (upd f k a) k b ≡ upd f k b
unfolding upd
upd-upd f k a b = fun_ext (λ j. twice (eqb j k) (f j))
  where
    twice : (t : Bool) (c : Station) → pick t b (pick t a c) ≡ pick t b c
    twice true c = refl
    twice false c = refl

-- putting back what is there
pub upd-back : (f : ℕ → Station) (k : ℕ) → upd f k (f k) ≡ f
unfolding upd
upd-back f k = fun_ext (λ j. by_cases (eqb j k) (λ e. rw (e, eqb-true j k e)) (λ e. rw e))

-- ---- a set

pub not_in : (l x j : ℕ) → has l x ≡ true → has l j ≡ false → j ≢ x
not_in l x j p q e = clash (rw e p) q

pub out-still : (l x j : ℕ) → has l j ≡ false → has (without l x) j ≡ false
out-still l x j h = by_cases (has (without l x) j) (λ e. clash (still l x j e).0 h) (λ e. e)

pub some : (l : ℕ) → lowest l < 16 → eqb l 0 ≡ false
some l h = ne_eqb l 0 (λ e. clash (lowest-in l h) (ap (λ (k : ℕ). has k (lowest l)) e ∙ has-none (lowest l)))

-- What holds of the empty set, and of a set where it holds of the set without its lowest id, holds of every set.
pub by_left : (P : ℕ → Type 0) → P 0 → ((l : ℕ) → l < 65536 → lowest l < 16 → P (without l (lowest l)) → P l) → (l : ℕ) → l < 65536 → P l
by_left P none more = by-lowest (λ l. l < 65536 → P l)
    (λ l e h. rw (empty-set l h e) none)
    (λ l e rec h. more l h e (rec (without-lt l (lowest l) h)))

pub one_fewer : (l : ℕ) → lowest l < 16 → size l ≡ size (without l (lowest l)) + 1
one_fewer l h = size-without l (lowest l) (lowest-in l h)
