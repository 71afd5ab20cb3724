-- Laws of runs and of bytes stored, that the functions' proofs cite. Assumes nothing.
use mathlib.Core.Path.{◌≡◌, refl, sym, ap, ◌∙◌}
use mathlib.Core.Bool.{true, false}
use mathlib.Core.List.{List, [], ◌∷◌, ◌++◌}
use Prim.Native.Nat.{ℕ, suc, ◌+◌, ◌-◌, ◌*◌, ◌≤◌, ◌<◌}
use native.Mathlib.Nat.{sub-zero, add-zero, add-suc, suc-add, zero-add}
use native.Mathlib.Omega.{arith}
use borrow.Author.Tests.{ltb-true}
use lib.Dec.{eqb}
use lib.ListN.{length, set}
use lib.Seq.{sets, length-sets}
use Rattle.laws_words.specs.Tests.{and_right}
use Rattle.rules_base.specs.Chunk.{dirty}
use Rattle.status_row.specs.Volume.{flags_from}
use Rattle.status_row.specs.Descriptors.{Desc, desc, word, bytes_of}
use Rattle.status_row.proofs.DescriptorsLaws.{flags-more, flags-end}
use Rattle.status_row.specs.Writing.{joins, runs_from, runs, status_of}

-- ---- stores one after the other
sets-append : (bs cs xs : List ℕ) (i : ℕ) → sets xs i (bs ++ cs) ≡ sets (sets xs i bs) (i + length bs) cs
sets-append [] cs xs i = rw (add-zero i)
sets-append (b ∷ bs) cs xs i = rw (add-suc i (length bs), ← suc-add i (length bs)) (sets-append bs cs (set xs i b) (suc i))

-- the writer at chunk c: the open run has b bytes and flag f, what is lent is now `out` and was `out₀`, the next descriptor goes to `at`
pub record Writing (n s : ℕ) (xs out₀ : List ℕ) (f b at c : ℕ) (out : List ℕ) : Type 0 where
  pub from : 0 < c
  pub upto : c ≤ n
  pub room : at + 8 ≤ 8 * c
  pub below : b < 4294967296
  pub len : length out ≡ length out₀
  pub size : at + length (bytes_of (runs_from s f b (flags_from xs c (n - c)))) ≡ length (status_of n s xs)
  pub rest : sets out at (bytes_of (runs_from s f b (flags_from xs c (n - c)))) ≡ sets out₀ 0 (status_of n s xs)

status-start : (n s : ℕ) (xs : List ℕ) → 0 < n → status_of n s xs ≡ bytes_of (runs_from s (dirty xs 0 0) s (flags_from xs 1 (n - 1)))
unfolding status_of runs
status-start n s xs h = let e = rw (sub-zero n) at (flags-more xs 0 n h) in rw e

pub writing_start : (n s : ℕ) (xs out : List ℕ) (f : ℕ) → 0 < n → s ≤ 1048576 → f ≡ dirty xs 0 0 → Writing n s xs out f s 0 1 out
writing_start n s xs out f h k e = record {
  from = omega arith;
  upto = omega arith;
  room = omega arith;
  below = omega arith;
  len = refl;
  size = rw (e, status-start n s xs h) (zero-add _);
  rest = rw (e, status-start n s xs h);
}

run_on : (n s : ℕ) (xs : List ℕ) (f b c g : ℕ) → c < n → g ≡ dirty xs 0 c → joins f g (b + s) ≡ true → runs_from s f b (flags_from xs c (n - c)) ≡ runs_from s f (b + s) (flags_from xs (c + 1) (n - (c + 1)))
unfolding runs_from
run_on n s xs f b c g h e j = rw (flags-more xs c n h, ← e, j)

run-cut : (n s : ℕ) (xs : List ℕ) (f b c g : ℕ) → c < n → g ≡ dirty xs 0 c → joins f g (b + s) ≡ false → runs_from s f b (flags_from xs c (n - c)) ≡ desc b f ∷ runs_from s g s (flags_from xs (c + 1) (n - (c + 1)))
unfolding runs_from
run-cut n s xs f b c g h e j = rw (flags-more xs c n h, ← e, j)

run_end : (n s : ℕ) (xs : List ℕ) (f b c : ℕ) → n ≤ c → runs_from s f b (flags_from xs c (n - c)) ≡ desc b f ∷ []
unfolding runs_from
run_end n s xs f b c h = rw (flags-end xs c n h)

put-eq : (out : List ℕ) (at b f : ℕ) (ds : List Desc) → sets out at (bytes_of (desc b f ∷ ds)) ≡ sets (sets (sets out at (word b)) (at + 4) (word f)) (at + 8) (bytes_of ds)
unfolding bytes_of word
put-eq out at b f ds = let p : at + 4 + 4 ≡ at + 8 = omega arith in sets-append (word b) (word f ++ bytes_of ds) out at ∙ (sets-append (word f) (bytes_of ds) (sets out at (word b)) (at + 4) ∙ ap (λ (i : ℕ). sets (sets (sets out at (word b)) (at + 4) (word f)) i (bytes_of ds)) p)

len-eq : (b f : ℕ) (ds : List Desc) → length (bytes_of (desc b f ∷ ds)) ≡ 8 + length (bytes_of ds)
unfolding bytes_of word
len-eq b f ds = omega arith

put_last : (out : List ℕ) (at b f : ℕ) → sets out at (bytes_of (desc b f ∷ [])) ≡ sets (sets out at (word b)) (at + 4) (word f)
unfolding bytes_of
put_last out at b f = put-eq out at b f []

len-last : (b f : ℕ) → length (bytes_of (desc b f ∷ [])) ≡ 8
unfolding bytes_of word
len-last b f = refl

pub put-length : (out out' : List ℕ) (at b f : ℕ) → out' ≡ sets (sets out at (word b)) (at + 4) (word f) → length out' ≡ length out
put-length out out' at b f e = rw e (length-sets (sets out at (word b)) (at + 4) (word f) ∙ length-sets out at (word b))

pub writing-join : (n s : ℕ) (xs out₀ : List ℕ) (f b at c : ℕ) (out : List ℕ) (g : ℕ) → Writing n s xs out₀ f b at c out → c < n → g ≡ dirty xs 0 c → joins f g (b + s) ≡ true → Writing n s xs out₀ f (b + s) at (c + 1) out
writing-join n s xs out₀ f b at c out g w h e j =
    let on = run_on n s xs f b c g h e j in
    record {
      from = omega arith;
      upto = omega arith;
      room = omega (arith, w.room);
      below = ltb-true (b + s) 4294967296 (and_right (eqb f g) _ j);
      len = w.len;
      size = rw on at w.size;
      rest = rw on at w.rest;
    }

pub writing-part : (n s : ℕ) (xs out₀ : List ℕ) (f b at c : ℕ) (out : List ℕ) (g : ℕ) (out' : List ℕ) → Writing n s xs out₀ f b at c out → c < n → s ≤ 1048576 → g ≡ dirty xs 0 c → joins f g (b + s) ≡ false → out' ≡ sets (sets out at (word b)) (at + 4) (word f) → Writing n s xs out₀ g s (at + 8) (c + 1) out'
writing-part n s xs out₀ f b at c out g out' w h k e j put =
    let on = run-cut n s xs f b c g h e j in
    let ds = runs_from s g s (flags_from xs (c + 1) (n - (c + 1))) in
    record {
      from = omega arith;
      upto = omega arith;
      room = omega (arith, w.room);
      below = omega arith;
      len = put-length out out' at b f put ∙ w.len;
      size = omega (arith, rw on at w.size, len-eq b f ds);
      rest = rw put (sym (put-eq out at b f ds) ∙ rw on at w.rest);
    }

pub writing-done : (n s : ℕ) (xs out₀ : List ℕ) (f b at c : ℕ) (out out' : List ℕ) → Writing n s xs out₀ f b at c out → n ≤ c → out' ≡ sets (sets out at (word b)) (at + 4) (word f) → (at + 8 ≡ length (status_of n s xs)) × (out' ≡ sets out₀ 0 (status_of n s xs))
writing-done n s xs out₀ f b at c out out' w h put =
    let on = run_end n s xs f b c h in
    (omega (arith, rw on at w.size, len-last b f), put ∙ (sym (put_last out at b f) ∙ rw on at w.rest))
