-- Proofs of the statements of specs/Laws.antt. Assumes nothing.
use mathlib.Core.Path.{◌≡◌, refl, sym, ap, ◌∙◌}
use mathlib.Core.Logic.{◌⊎◌, inl, inr}
use mathlib.Core.Bool.{Bool, true, false, not, ◌&&◌}
use mathlib.Core.List.{List, [], ◌∷◌}
use Prim.Native.Nat.{ℕ, zero, suc, ◌+◌, ◌*◌, ◌/◌, ◌%◌, ◌≤◌, ◌<◌}
use native.Mathlib.Nat.{mul-pos, zero-mul, div-add-mod'}
use native.Mathlib.Decide.{ℕ_discrete}
use native.Mathlib.Omega.{arith}
use borrow.Author.Tests.{eqb-true, eq-eqb, ne_eqb, leb-true, not-true}
use lib.Dec.{eqb, leb}
use lib.ListN.{length}
use lib.Seq.{sets}
use Rattle.laws_words.specs.Words.{pick}
use Rattle.laws_words.specs.Tests.{by_cases, clash, and_left, and_right, and-false}
use Rattle.std.specs.Prelude.{Result, Ok, Err}
use Rattle.rules_base.specs.Refusals.{number, number_of}
use Rattle.status_row.specs.Volume.{refused_by, row_sound, volume_good}
use Rattle.status_row.specs.Descriptors.{Desc, total, word_at, descs_from, descs_of}
use Rattle.status_row.proofs.DescriptorsLaws.{size-cases, volume}
use Rattle.rules_base.specs.declared.Refusal.{Refusal}
use Rattle.status_row.specs.Writing.{status_of, write_refusal, write_answer, write_leaves}
use Rattle.status_row.specs.Reading.{desc_good, every_good, status_good, flags_of, painted, read_refusal, read_answer, read_leaves}
use Rattle.status_row.proofs.ReaderLaws.{good_from, good-descs}
use Rattle.status_proof.specs.Laws.{Writes, Largest, SameRow, TakenMost, Untouched, Numbered, BadInput, Worked}
use Rattle.status_proof.proofs.Back.{back}
use Rattle.status_proof.proofs.Written.{written}
use Rattle.status_proof.proofs.Cases.{two_runs, longest-clean, longest-dirty, alternating, same-neighbours}

pub writes : Writes
writes = written

pub largest : Largest
largest n s g =
    let v = volume n s g in
    let u : n ≤ 4096 = v.upto in
    size-cases (λ s. 4294967296 ≤ n * s → (n ≡ 4096) × (s ≡ 1048576))
    (λ h. absurd (omega arith)) (λ h. absurd (omega arith)) (λ h. absurd (omega arith)) (λ h. absurd (omega arith)) (λ h. absurd (omega arith)) (λ h. absurd (omega arith)) (λ h. absurd (omega arith)) (λ h. absurd (omega arith))
    (λ h. (omega arith, refl)) s v.size

-- ---- the same row
-- a row that was written was sound, of a good volume, with room for it
taken : (n s : ℕ) (xs out : List ℕ) (k : ℕ) → write_answer n s xs out ≡ Ok k → (row_sound n xs ≡ true) × ((volume_good n s ≡ true) × (leb 32768 (length out) ≡ true))
unfolding write_answer write_refusal
taken n s xs out k w = go (row_sound n xs) refl (volume_good n s) refl (leb 32768 (length out)) refl w
  where
    go : (a : Bool) → row_sound n xs ≡ a → (b : Bool) → volume_good n s ≡ b → (c : Bool) → leb 32768 (length out) ≡ c → ◌≡◌ {A = Result ℕ Refusal} (pick (eqb (pick a (pick (b && c) 0 20) 2) 0) (Ok (length (status_of n s xs))) (Err (refused_by (pick a (pick (b && c) 0 20) 2)))) (Ok k) → (row_sound n xs ≡ true) × ((volume_good n s ≡ true) × (leb 32768 (length out) ≡ true))
    go true p true q true r z = (p, (q, r))
    go true p true q false r z = absurd (let y : ◌≡◌ {A = ℕ} 0 1 = cc in let w : ⊥ = omega arith in w)
    go true p false q c r z = absurd (let y : ◌≡◌ {A = ℕ} 0 1 = cc in let w : ⊥ = omega arith in w)
    go false p b q c r z = absurd (let y : ◌≡◌ {A = ℕ} 0 1 = cc in let w : ⊥ = omega arith in w)

pub same_row : SameRow
same_row n s xs ys out k a b q w =
    let t = taken n s xs out k w in
    let v = written n s xs out t.0 t.1.0 (leb-true 32768 (length out) t.1.1) in
    let e : k ≡ length (status_of n s xs) = bytes (sym w ∙ v.answer) in
    rw (e, v.front) (back n s xs ys a b t.0 q t.1.0)
  where
    bytes : {i j : ℕ} → ◌≡◌ {A = Result ℕ Refusal} (Ok i) (Ok j) → i ≡ j
    bytes z = cc

-- ---- what is taken
one_chunk : (s b f : ℕ) → 0 < s → desc_good s b f ≡ true → 0 < b / s
unfolding desc_good
one_chunk s b f h g = go (b / s) refl
  where
    go : (k : ℕ) → b / s ≡ k → 0 < k
    go zero e =
        let r = and_right (not (eqb b 0)) _ g in
        let z : b % s ≡ 0 = eqb-true (b % s) 0 (and_left (eqb (b % s) 0) _ r) in
        clash (eq-eqb b 0 (omega (arith, rw (e, z) at (div-add-mod' b s), zero-mul s))) (not-true (eqb b 0) (and_left (not (eqb b 0)) _ g))
    go (suc k) e = omega arith

good-most : (s n c : ℕ) (ds : List Desc) → 0 < s → good_from s n c ds ≡ true → c + length ds ≤ n
unfolding good_from
good-most s n c [] h e = omega (arith, eqb-true c n e)
good-most s n c (d ∷ ds) h e =
    let l = one_chunk s d.bytes d.flags h (and_left (desc_good s d.bytes d.flags) _ e) in
    let r = good-most s n (c + d.bytes / s) ds h (and_right (desc_good s d.bytes d.flags) _ e) in
    omega arith

length-descs : (bs : List ℕ) (i m : ℕ) → length (descs_from bs i m) ≡ m
unfolding descs_from
length-descs bs i zero = refl
length-descs bs i (suc m) = ap suc (length-descs bs (suc i) m)

pub taken-most : TakenMost
unfolding descs_of
taken-most n s bs g e =
    let h : 0 < s = omega (arith, (volume n s g).least) in
    omega (arith, good-most s n 0 (descs_of bs) h (good-descs s n bs h e), length-descs bs 0 (length bs / 8), whole-bytes n s bs e)
  where
    whole-bytes : (n s : ℕ) (bs : List ℕ) → status_good n s bs ≡ true → length bs % 8 ≡ 0
    whole-bytes n s bs e = unfold status_good in eqb-true (length bs % 8) 0 (and_left (eqb (length bs % 8) 0) _ e)

-- ---- what is refused
numbers : (q : Refusal) {r : Refusal} → ◌≡◌ {A = Result ℕ Refusal} (Err q) (Err r) → number r ≡ number q
numbers q z = let e : q ≡ _ = cc in sym (ap number e)

write-refused : (n s : ℕ) (xs out : List ℕ) (r : Refusal) → write_answer n s xs out ≡ Err r → ((number r ≡ 2) ⊎ (number r ≡ 20)) × (write_leaves n s xs out ≡ out)
unfolding write_answer write_leaves write_refusal
write-refused n s xs out r w = go (row_sound n xs) (volume_good n s && leb 32768 (length out)) (length (status_of n s xs)) (sets out 0 (status_of n s xs)) w
  where
    go : (a b : Bool) (k : ℕ) (ys : List ℕ) → ◌≡◌ {A = Result ℕ Refusal} (pick (eqb (pick a (pick b 0 20) 2) 0) (Ok k) (Err (refused_by (pick a (pick b 0 20) 2)))) (Err r) → ((number r ≡ 2) ⊎ (number r ≡ 20)) × (pick (eqb (pick a (pick b 0 20) 2) 0) ys out ≡ out)
    go true true k ys z = absurd (let y : ◌≡◌ {A = ℕ} 0 1 = cc in let w : ⊥ = omega arith in w)
    go true false k ys z = (inr (numbers Refusal.BadStatus z), refl)
    go false b k ys z = (inl (numbers Refusal.BadMap z), refl)

read-refused : (n s : ℕ) (bs xs : List ℕ) → (read_refusal n s bs xs ≡ 0) ⊎ (((read_refusal n s bs xs ≡ 2) ⊎ (read_refusal n s bs xs ≡ 20)) × (read_leaves n s bs xs ≡ xs))
unfolding read_leaves read_refusal
read-refused n s bs xs = go (row_sound n xs) (volume_good n s && status_good n s bs) (painted 0 (flags_of s (descs_of bs)) xs)
  where
    go : (a b : Bool) (ys : List ℕ) → (◌≡◌ {A = ℕ} (pick a (pick b 0 20) 2) 0) ⊎ (((◌≡◌ {A = ℕ} (pick a (pick b 0 20) 2) 2) ⊎ (◌≡◌ {A = ℕ} (pick a (pick b 0 20) 2) 20)) × (pick (eqb (pick a (pick b 0 20) 2) 0) ys xs ≡ xs))
    go true true ys = inl refl
    go true false ys = inr (inr refl, refl)
    go false b ys = inr (inl refl, refl)

pub numbered : Numbered
unfolding read_answer read_refusal
numbered n s bs xs = go (row_sound n xs) (volume_good n s && status_good n s bs)
  where
    go : (a b : Bool) → ◌≡◌ {A = ℕ} (number_of {A = Unit {0}} (pick (eqb (pick a (pick b 0 20) 2) 0) (Ok tt) (Err (refused_by (pick a (pick b 0 20) 2))))) (pick a (pick b 0 20) 2)
    go true true = refl
    go true false = refl
    go false b = refl

pub untouched : Untouched
untouched = record { writing = write-refused; reading = read-refused }

-- ---- each bad input
refused-20 : (n s : ℕ) (bs xs : List ℕ) → row_sound n xs ≡ true → (volume_good n s && status_good n s bs) ≡ false → read_refusal n s bs xs ≡ 20
unfolding read_refusal
refused-20 n s bs xs e q = rw (e, q)

not_good : (n s : ℕ) (bs xs : List ℕ) → row_sound n xs ≡ true → status_good n s bs ≡ false → read_refusal n s bs xs ≡ 20
not_good n s bs xs e q = refused-20 n s bs xs e (rw q (and-false (volume_good n s)))

bad-bytes : (n s : ℕ) (bs : List ℕ) → (length bs % 8 ≡ 0 → ⊥) → status_good n s bs ≡ false
unfolding status_good
bad-bytes n s bs d = rw (ne_eqb (length bs % 8) 0 d)

bad_sum : (n s : ℕ) (bs : List ℕ) → (total (descs_of bs) ≡ n * s → ⊥) → status_good n s bs ≡ false
unfolding status_good
bad_sum n s bs d = rw (ne_eqb (total (descs_of bs)) (n * s) d, and-false (every_good s (descs_of bs))) (and-false (eqb (length bs % 8) 0))

-- one of m descriptors from place j on is not good
bad-at : (s : ℕ) (bs : List ℕ) (m j i : ℕ) → j ≤ i → i < j + m → desc_good s (word_at bs (8 * i)) (word_at bs (8 * i + 4)) ≡ false → every_good s (descs_from bs j m) ≡ false
unfolding every_good descs_from
bad-at s bs zero j i l h e = absurd (let z : ⊥ = omega arith in z)
bad-at s bs (suc m) j i l h e = elim (ℕ_discrete i j) [
  | yes q ↦ rw (← q, e)
  | no d ↦ rw (bad-at s bs m (suc j) i (omega arith) (omega arith) e) (and-false (desc_good s (word_at bs (8 * j)) (word_at bs (8 * j + 4))))
]

bad-descriptor : (n s : ℕ) (bs : List ℕ) (i : ℕ) → i < length bs / 8 → desc_good s (word_at bs (8 * i)) (word_at bs (8 * i + 4)) ≡ false → status_good n s bs ≡ false
unfolding status_good descs_of
bad-descriptor n s bs i h e = rw (bad-at s bs (length bs / 8) 0 i (omega arith) (omega arith) e) (and-false (eqb (length bs % 8) 0))

-- nothing covers no volume
bad-nothing : (n s : ℕ) → volume_good n s ≡ true → status_good n s [] ≡ false
bad-nothing n s g = bad_sum n s [] (λ e. let v = volume n s g in let p : 0 < n * s = mul-pos v.from (omega (arith, v.least)) in let q : total (descs_of []) ≡ 0 = unfold total descs_of descs_from in refl in let z : ⊥ = omega (arith, e, p, q) in z)

pub bad-input : BadInput
bad-input n s bs xs e = record {
  volume = λ q. refused-20 n s bs xs e (rw q);
  bytes = λ d. not_good n s bs xs e (bad-bytes n s bs d);
  descriptor = λ i h q. not_good n s bs xs e (bad-descriptor n s bs i h q);
  sum = λ d. not_good n s bs xs e (bad_sum n s bs d);
  nothing = λ q. rw q (by_cases (volume_good n s) (λ g. not_good n s [] xs e (bad-nothing n s g)) (λ g. refused-20 n s [] xs e (rw g)));
}

pub worked : Worked
worked = record {
  two_runs = two_runs;
  longest-clean = longest-clean;
  longest-dirty = longest-dirty;
  alternating = alternating;
  same-neighbours = same-neighbours;
}
