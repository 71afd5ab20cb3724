-- The loop that makes one number of the causes of sixteen sessions, from the last to the first.
use mathlib.Core.Path.{◌≡◌, refl, sym, ap, ◌∙◌}
use mathlib.Core.List.{List, [], ◌∷◌}
use Prim.Native.Nat.{ℕ, suc, ◌+◌, ◌-◌, ◌*◌, ◌^◌, ◌≤◌, ◌<◌}
use native.Mathlib.Nat.{pow-suc, pow-le-pow_right}
use native.Mathlib.Omega.{arith}
use lib.ListN.{length, get_or, drop, drop_of_length-le, length-drop}
use lib.Seq.{drop-cons}
use Rattle.rules_pool.specs.declared.Cause.{Cause}
use Rattle.rules_pool.specs.declared.State.{State}
use Rattle.rules_pool.specs.declared.Session.{Session}
use Rattle.audit_record.specs.Records.{cause_number, causes_in}

two-bits : (st : State) → cause_number st < 4
two-bits State.Free = omega arith
two-bits State.Created = omega arith
two-bits State.Normal = omega arith
two-bits (State.Failed Cause.Link) = omega arith
two-bits (State.Failed Cause.Io) = omega arith
two-bits State.Reconnecting = omega arith
two-bits (State.Removing m owed) = omega arith

low : (ss : List Session) → causes_in ss < 4 ^ length ss
unfolding causes_in
low [] = omega arith
low (s ∷ ss) = rw pow-suc (omega (arith, low ss, two-bits s.state))

-- with the sessions from i on in the number n
pub record Sums (ss : List Session) (n i : ℕ) : Type 0 where
  pub size : length ss ≡ 16
  pub at : i ≤ 16
  pub now : n ≡ causes_in (drop i ss)

pub sums-start : (ss : List Session) → length ss ≡ 16 → Sums ss 0 16
unfolding causes_in
sums-start ss h =
    let h' : length ss ≤ 16 = omega (arith, h) in
    record { size = h; at = omega arith; now = rw (drop_of_length-le ss h') refl }

one_more : (ss : List Session) (i : ℕ) (d : Session) → i < length ss → causes_in (drop i ss) ≡ causes_in (drop (suc i) ss) * 4 + cause_number (get_or ss i d).state
unfolding causes_in
one_more ss i d h = rw (drop-cons ss i d h) refl

pub sums-more : {ss : List Session} {n i : ℕ} (d : Session) → Sums ss n i → 0 < i → Sums ss (n * 4 + cause_number (get_or ss (i - 1) d).state) (i - 1)
sums-more {ss} {n} {i} d v h =
    let h' : i - 1 < length ss = omega (arith, v.size, v.at, h) in
    let e : suc (i - 1) ≡ i = omega (arith, h) in
    let m : n ≡ causes_in (drop (suc (i - 1)) ss) = v.now ∙ ap (λ (k : ℕ). causes_in (drop k ss)) (sym e) in
    record { size = v.size; at = omega (arith, v.at); now = ap (λ (k : ℕ). k * 4 + cause_number (get_or ss (i - 1) d).state) m ∙ sym (one_more ss (i - 1) d h') }

pub sums-low : {ss : List Session} {n i : ℕ} → Sums ss n i → n < 4294967296
sums-low {ss} {n} {i} v =
    let four : 0 < 4 = omega arith in
    let h : length (drop i ss) ≤ 16 = omega (arith, length-drop i ss, v.size) in
    omega (arith, v.now, low (drop i ss), pow-le-pow_right {n = 4} four h)

pub sums-done : {ss : List Session} {n i : ℕ} → Sums ss n i → i ≤ 0 → n ≡ causes_in ss
sums-done {ss} {n} {i} v h =
    let e : i ≡ 0 = omega (arith, h) in
    v.now ∙ rw e refl
