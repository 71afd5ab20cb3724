-- Words put one by one into a row stand there together, and the words around them stay.
use Rattle.std.proofs.Common.{◌≡◌, refl, sym, ◌∙◌, ℕ, zero, suc, ◌+◌, ◌≤◌, ◌<◌, List, ◌++◌, length, take, drop, set, get_or, append_assoc, length-set, drop-cons, arith}
use Rattle.std.proofs.Math.Seq.{take-suc-set}
use Rattle.std.proofs.lemmas.List.{drop-set-lt, take-append-drop}
use Rattle.laws_words.specs.Loops.{run_at}

pub row-put : (n b k : ℕ) (ys ws : List ℕ) → b + k + n ≤ length ws → b + k + n ≤ length ys
    → run_at (λ j zs. set zs (b + j) (get_or ys (b + j) 0)) n k ws ≡ take (b + k) ws ++ (take n (drop (b + k) ys) ++ drop (b + k + n) ws)
row-put zero b k ys ws h g =
    let none : b + k + 0 ≡ b + k = omega arith in
    rw none (sym (take-append-drop (b + k) ws))
row-put (suc n) b k ys ws h g =
    let at : b + suc k ≡ suc (b + k) = omega arith in
    let end : b + suc k + n ≡ b + k + suc n = omega arith in
    let in_ws : b + k < length ws = omega arith in
    let in_ys : b + k < length ys = omega arith in
    let below : b + k < b + k + suc n = omega arith in
    let next : b + suc k + n ≤ length (set ws (b + k) (get_or ys (b + k) 0)) = rw length-set (omega arith) in
    row-put n b (suc k) ys (set ws (b + k) (get_or ys (b + k) 0)) next (omega arith)
    ∙ rw (end, drop-set-lt (b + k + suc n) ws (b + k) (get_or ys (b + k) 0) below, at, take-suc-set ws (b + k) (get_or ys (b + k) 0) in_ws, drop-cons ys (b + k) 0 in_ys, append_assoc) refl
