-- The kept chunks follow arrival.
use mathlib.Core.Path.{◌≡◌, refl, sym, ap, ◌∙◌}
use mathlib.Core.List.{List, [], ◌∷◌, ◌++◌}
use Prim.Native.Nat.{ℕ, zero, suc, ◌+◌, ◌-◌, ◌≤◌}
use native.Mathlib.Omega.{arith}
use lib.ListN.{length, drop, length-drop, length-append}
use lib.Seq.{drop-drop}
use Rattle.rules_node.specs.Events.{Event}
use Rattle.rules_node.specs.Held.{Held, next}
use Rattle.theorem_node.specs.Said.{kept_chunks, last_sixteen}
use Rattle.theorem_node.proofs.Said.{kept-as-said}
use Rattle.theorem_node.specs.Commuting.{Sized, Marking, Write, AllTaken, chunks_of, KeptFollowArrival, FirstIsGone, KeptDiffer}
use Rattle.theorem_node.proofs.Either.{good, good-next, still}

-- ---- the last sixteen of a list

drop-front : (i : ℕ) (xs ys : List ℕ) → i ≤ length xs → drop i (xs ++ ys) ≡ drop i xs ++ ys
drop-front zero xs ys h = refl
drop-front (suc i) [] ys h = absurd (let z : ⊥ = omega arith in z)
drop-front (suc i) (x ∷ xs) ys h = drop-front i xs ys (omega arith)

joined : (xs ys : List ℕ) (c : ℕ) → (xs ++ (c ∷ [])) ++ ys ≡ xs ++ (c ∷ ys)
joined [] ys c = refl
joined (x ∷ xs) ys c = ap (λ (l : List ℕ). x ∷ l) (joined xs ys c)

none_more : (xs : List ℕ) → xs ++ [] ≡ xs
none_more [] = refl
none_more (x ∷ xs) = ap (λ (l : List ℕ). x ∷ l) (none_more xs)

past : (xs ys : List ℕ) (c : ℕ) → drop (suc (length xs)) (xs ++ (c ∷ ys)) ≡ ys
past [] ys c = refl
past (x ∷ xs) ys c = past xs ys c

-- of at most sixteen and two more, those that are pushed out
two-more : (xs : List ℕ) (c d : ℕ) → length xs ≤ 16 → last_sixteen (xs ++ (c ∷ d ∷ [])) ≡ drop (length xs - 14) xs ++ (c ∷ d ∷ [])
two-more xs c d h =
    let q : length (xs ++ (c ∷ d ∷ [])) - 16 ≡ length xs - 14 = omega (arith, length-append xs (c ∷ d ∷ [])) in
    ap (λ (k : ℕ). drop k (xs ++ (c ∷ d ∷ []))) q ∙ drop-front (length xs - 14) xs (c ∷ d ∷ []) (omega arith)

-- what was pushed out before does not matter
last-of-last : (xs ys : List ℕ) → last_sixteen (last_sixteen xs ++ ys) ≡ last_sixteen (xs ++ ys)
last-of-last xs ys =
    let k : ℕ = length xs - 16 in
    let front : drop k xs ++ ys ≡ drop k (xs ++ ys) = sym (drop-front k xs ys (omega arith)) in
    let j : length (drop k xs ++ ys) ≡ length xs - k + length ys = length-append (drop k xs) ys ∙ ap (λ (n : ℕ). n + length ys) (length-drop k xs) in
    let q : k + (length (drop k xs ++ ys) - 16) ≡ length (xs ++ ys) - 16 = omega (arith, j, length-append xs ys) in
    ap (drop (length (drop k xs ++ ys) - 16)) front ∙ (drop-drop (length (drop k xs ++ ys) - 16) k (xs ++ ys) ∙ ap (λ (n : ℕ). drop n (xs ++ ys)) q)

-- lists that end with two in either order are the same only where the two are
ends_same : (xs : List ℕ) (c d : ℕ) → xs ++ (c ∷ d ∷ []) ≡ xs ++ (d ∷ c ∷ []) → c ≡ d
ends_same [] c d e = cc e
ends_same (x ∷ xs) c d e = ends_same xs c d (cc e)

-- ---- at a node

-- at most sixteen are kept
few-kept : (w : Held) → Sized w → length (kept_chunks w.at.node) ≤ 16
few-kept w h = omega (arith, h, length-drop (16 - w.at.node.held) w.at.node.kept)

-- what was accepted before one of them is accepted after it
still-taken : (x : Write) (xs : List Write) (w : Held) → Sized w → AllTaken xs w → AllTaken xs (next (Event.write x.chunk x.set x.version) w)
still-taken x [] w h t = tt
still-taken x (y ∷ ys) w h (a, t) =
    (still (Event.write x.chunk x.set x.version) (Event.write y.chunk y.set y.version) w (Marking.mark x.chunk x.set x.version) (Marking.mark y.chunk y.set y.version) h a, still-taken x ys w h t)

pub kept-follow-arrival : KeptFollowArrival
kept-follow-arrival [] w h t =
    let xs : List ℕ = kept_chunks w.at.node in
    let q : length xs - 16 ≡ 0 = omega (arith, few-kept w h) in
    sym (ap last_sixteen (none_more xs) ∙ ap (λ (n : ℕ). drop n xs) q)
kept-follow-arrival (x ∷ xs) w h (a, t) =
    let e : Event = Event.write x.chunk x.set x.version in
    let g = good-next e w (good e w h a) in
    kept-follow-arrival xs (next e w) g.size (still-taken x xs w h t)
    ∙ (ap (λ (l : List ℕ). last_sixteen (l ++ chunks_of xs)) (kept-as-said e w h a)
    ∙ (last-of-last (kept_chunks w.at.node ++ (x.chunk ∷ [])) (chunks_of xs) ∙ ap last_sixteen (joined (kept_chunks w.at.node) (chunks_of xs) x.chunk)))

count_same : (xs : List Write) → length (chunks_of xs) ≡ length xs
count_same [] = refl
count_same (x ∷ xs) = ap suc (count_same xs)

pub first-is-gone : FirstIsGone
first-is-gone x y zs w h t e =
    let xs : List ℕ = kept_chunks w.at.node in
    let ys : List ℕ = y.chunk ∷ chunks_of zs in
    let q : length (xs ++ (x.chunk ∷ ys)) - 16 ≡ suc (length xs) = omega (arith, length-append xs (x.chunk ∷ ys), count_same zs, e) in
    kept-follow-arrival (x ∷ y ∷ zs) w h t ∙ (ap (λ (n : ℕ). drop n (xs ++ (x.chunk ∷ ys))) q ∙ past xs ys x.chunk)

pub kept-differ : KeptDiffer
kept-differ chunk set version chunk' set' version' w h a b d q =
    let xs : List ℕ = kept_chunks w.at.node in
    let x : Write = record { chunk = chunk; set = set; version = version } in
    let y : Write = record { chunk = chunk'; set = set'; version = version' } in
    let f = few-kept w h in
    let left = kept-follow-arrival (x ∷ y ∷ []) w h (a, (b, tt)) ∙ two-more xs chunk chunk' f in
    let right = kept-follow-arrival (y ∷ x ∷ []) w h (b, (a, tt)) ∙ two-more xs chunk' chunk f in
    d (ends_same (drop (length xs - 14) xs) chunk chunk' (sym left ∙ (q ∙ right)))
