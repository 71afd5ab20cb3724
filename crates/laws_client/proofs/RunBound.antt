-- Laws of how long a run can take: every answer lowers what is still possible, a good one by exactly one.
use Rattle.std.specs.Prelude.{Option, Some, None}
use mathlib.Core.Path.{◌≡◌, refl, ap}
use mathlib.Core.Bool.{Bool, true, false, not}
use Prim.Native.Nat.{ℕ, ◌+◌, ◌*◌, ◌-◌, ◌≤◌, ◌<◌}
use native.Mathlib.Omega.{arith}
use lib.Dec.{eqb, ltb}
use borrow.Author.Tests.{eqb-true, eqb-false, lt-ltb}
use Rattle.laws_words.specs.Words.{pick}
use Rattle.laws_words.specs.Tests.{by_cases, clash, either}
use Rattle.rules_base.specs.Limits.{answer_limit}
use Rattle.rules_base.specs.Sets.{has, without, size, lowest}
use Rattle.rules_base.proofs.Sets.{lowest-le, lowest-in, empty-set, size-zero, size-without, without-lt, still}
use Rattle.rules_pool.specs.declared.Step.{Step}
use Rattle.rules_pool.specs.declared.Phase.{Phase}
use Rattle.rules_pool.specs.declared.Run.{Run}
use Rattle.rules_pool.specs.declared.Reply.{Reply}
use Rattle.rules_pool.specs.declared.Move.{Move}
use Rattle.rules_pool.specs.Run.{hand, rest, counted, go, ahead, to_spread, to_gather, to_last, to_base, to_versions, went_on, ended, failed_at, failed_answer, version_brought, good_at, good, takes}
use Rattle.rules_pool.specs.Still.{steps_done, possible_at, possible}

-- ---- the count

-- an answer raises it by at most one
pub counted-most : (n : ℕ) → counted n ≤ n + 1
counted-most n = at (ltb n answer_limit)
  where
    at : (b : Bool) → pick b (n + 1) n ≤ n + 1
    at true = omega arith
    at false = omega arith

-- below the limit by one
pub counted-one : (n : ℕ) → n < answer_limit → counted n ≡ n + 1
counted-one n h = rw (lt-ltb n answer_limit h)

-- ---- what a run in hand has

-- somebody is left
abbrev pub HasLeft : Run → Type 0
HasLeft r = (r.left < 65536) × (lowest r.left < 16)

-- the source is a member
abbrev pub Chosen : ℕ → Run → Type 0
Chosen members r = (members < 65536) × (has members r.source ≡ true)

-- those left are members
abbrev pub Asked : ℕ → Run → Type 0
Asked members r = (j : ℕ) → has r.left j ≡ true → has members j ≡ true

abbrev pub FitAt : Phase → ℕ → Run → Type 0
FitAt (Phase.Versions best) members r = HasLeft r × Chosen members r × Asked members r
FitAt (Phase.Base s) members r = HasLeft r × Chosen members r
FitAt Phase.LastIo members r = HasLeft r × Chosen members r
FitAt (Phase.Gather s) members r = HasLeft r × Chosen members r
FitAt (Phase.Enable every) members r = r.left < 65536
FitAt (Phase.Spread s) members r = HasLeft r

abbrev pub Fit : ℕ → Run → Type 0
Fit members r = FitAt r.phase members r

-- ---- what a run comes to

abbrev pub still_in : ℕ → Option Run → ℕ
still_in members None = 0
still_in members (Some r) = possible members r

abbrev pub FitNext : ℕ → Option Run → Type 0
FitNext members None = Unit {0}
FitNext members (Some r) = Fit members r

-- a run that goes on carries this count
abbrev pub Carries : ℕ → Option Run → Type 0
Carries taken None = Unit {0}
Carries taken (Some r) = r.taken ≡ taken

-- n is what a run comes to with this count, and `left` answers are still possible in it
record Enters (members taken left : ℕ) (n : Option Run) : Type 0 where
  count : still_in members n ≡ left
  fit : FitNext members n
  carries : Carries taken n

pub some_left : (s : ℕ) → s < 65536 → eqb s 0 ≡ false → lowest s < 16
some_left s h e =
    by_cases (eqb (lowest s) 16)
    (λ z. absurd (eqb-false s 0 e (empty-set s h (eqb-true (lowest s) 16 z))))
    (λ z. let n : lowest s ≡ 16 → ⊥ = eqb-false (lowest s) 16 z in omega (arith, lowest-le s, n))

spread-enters : (members : ℕ) (r : Run) (left : ℕ) → left < 65536 → Enters members (counted r.taken) (3 * size left) (to_spread r left)
unfolding possible
spread-enters members r left h = at (eqb left 0) refl
  where
    at : (b : Bool) → eqb left 0 ≡ b → Enters members (counted r.taken) (3 * size left) (pick b None (go r (Phase.Spread Step.Ready) r.source left))
    at true e = record { count = rw (eqb-true left 0 e, size-zero) refl; fit = tt; carries = tt }
    at false e = record { count = omega arith; fit = (h, some_left left h e); carries = refl }

module _ (members : ℕ) (small : members < 65536) (r : Run) (source : ℕ) (member : has members source ≡ true) where
  gather-enters : (left : ℕ) → left < 65536 → Enters members (counted r.taken) (3 * size left + 1 + 3 * (size members - 1)) (to_gather members r source left)
  unfolding possible
  gather-enters left h = at (eqb left 0) refl
    where
      at : (b : Bool) → eqb left 0 ≡ b → Enters members (counted r.taken) (3 * size left + 1 + 3 * (size members - 1)) (pick b (go r (Phase.Enable true) source (without members source)) (go r (Phase.Gather Step.Ready) source left))
      at true e = record { count = rw (eqb-true left 0 e) (omega (arith, size-zero, size-without members source member)); fit = without-lt members source small; carries = refl }
      at false e = record { count = omega arith; fit = ((h, some_left left h e), (small, member)); carries = refl }

  last-enters : (left : ℕ) → left < 65536 → Enters members (counted r.taken) (size left + 3 * (size members - 1) + 1 + 3 * (size members - 1)) (to_last members r source left)
  unfolding possible
  last-enters left h = at (eqb left 0) refl
    where
      g : Enters members (counted r.taken) (3 * size (without members source) + 1 + 3 * (size members - 1)) (to_gather members r source (without members source))
      g = gather-enters (without members source) (without-lt members source small)

      at : (b : Bool) → eqb left 0 ≡ b → Enters members (counted r.taken) (size left + 3 * (size members - 1) + 1 + 3 * (size members - 1)) (pick b (to_gather members r source (without members source)) (go r Phase.LastIo source left))
      at true e = record { count = rw (eqb-true left 0 e) (omega (arith, size-zero, size-without members source member, g.count)); fit = g.fit; carries = g.carries }
      at false e = record { count = omega arith; fit = ((h, some_left left h e), (small, member)); carries = refl }

  base-enters : (left : ℕ) → left < 65536 → Enters members (counted r.taken) (3 * size left + size members + 3 * (size members - 1) + 1 + 3 * (size members - 1)) (to_base members r source left)
  unfolding possible
  base-enters left h = at (eqb left 0) refl
    where
      g : Enters members (counted r.taken) (size members + 3 * (size members - 1) + 1 + 3 * (size members - 1)) (to_last members r source members)
      g = last-enters members small

      at : (b : Bool) → eqb left 0 ≡ b → Enters members (counted r.taken) (3 * size left + size members + 3 * (size members - 1) + 1 + 3 * (size members - 1)) (pick b (to_last members r source members) (go r (Phase.Base Step.Ready) source left))
      at true e = record { count = rw (eqb-true left 0 e) (omega (arith, size-zero, g.count)); fit = g.fit; carries = g.carries }
      at false e = record { count = omega arith; fit = ((h, some_left left h e), (small, member)); carries = refl }

  versions-enters : (best left : ℕ) → left < 65536 → ((j : ℕ) → has left j ≡ true → has members j ≡ true)
      → Enters members (counted r.taken) (size left + 3 * (size members - 1) + size members + 3 * (size members - 1) + 1 + 3 * (size members - 1)) (to_versions members r best source left)
  unfolding possible
  versions-enters best left h asked = at (eqb left 0) refl
    where
      g : Enters members (counted r.taken) (3 * size (without members source) + size members + 3 * (size members - 1) + 1 + 3 * (size members - 1)) (to_base members r source (without members source))
      g = base-enters (without members source) (without-lt members source small)

      at : (b : Bool) → eqb left 0 ≡ b → Enters members (counted r.taken) (size left + 3 * (size members - 1) + size members + 3 * (size members - 1) + 1 + 3 * (size members - 1)) (pick b (to_base members r source (without members source)) (go r (Phase.Versions best) source left))
      at true e = record { count = rw (eqb-true left 0 e) (omega (arith, size-zero, size-without members source member, g.count)); fit = g.fit; carries = g.carries }
      at false e = record { count = omega arith; fit = ((h, some_left left h e), (small, member), asked); carries = refl }

-- ---- the one in hand

one_fewer : (r : Run) → HasLeft r → size r.left ≡ size (rest r) + 1
one_fewer r s = size-without r.left (hand r) (lowest-in r.left s.1)

rest_lt : (r : Run) → HasLeft r → rest r < 65536
rest_lt r s = without-lt r.left (hand r) s.0

-- ---- one answer

-- A good answer to MAP_GET_VER brings a version that is not above the pool's; any other good answer is one.
abbrev pub brings : ℕ → Option ℕ → Bool
brings version None = false
brings version (Some v) = not (ltb version v)

abbrev pub well_at : Phase → ℕ → Option ℕ → Bool
well_at (Phase.Versions best) version b = brings version b
well_at (Phase.Base s) version b = true
well_at Phase.LastIo version b = true
well_at (Phase.Gather s) version b = true
well_at (Phase.Enable every) version b = true
well_at (Phase.Spread s) version b = true

-- the answer is taken as a good one
abbrev pub taken-well : ℕ → Run → Reply → Bool
taken-well version r Reply.Failed = false
taken-well version r (Reply.Good b) = well_at r.phase version b

-- What an answer, taken as a good one or not, does to a run in which `before` answers were still possible.
pub record Lowers (well : Bool) (before members : ℕ) (r : Run) (m : Move) : Type 0 where
  pub fewer : still_in members m.next < before
  pub exact : well ≡ true → still_in members m.next + 1 ≡ before
  pub fit : FitNext members m.next
  pub raised : m.taken ≡ counted r.taken
  pub carries : Carries (counted r.taken) m.next

-- the answers still possible in r, were it in phase p
abbrev now : Phase → ℕ → Run → ℕ
now p members r = possible_at p (size r.left) (size members) (size members - 1)

steps : (s : Step) → steps_done s ≤ 2
steps Step.Ready = omega arith
steps Step.Send = omega arith
steps Step.Done = omega arith

ends : (before members : ℕ) (r : Run) → 0 < before → Lowers false before members r (ended r)
ends before members r h = record { fewer = h; exact = λ e. clash e refl; fit = tt; raised = refl; carries = tt }

-- the run came to n with one answer less
by_one : (before members : ℕ) (r : Run) (m : Move) (k : ℕ) → Enters members (counted r.taken) k m.next → k + 1 ≡ before → m.taken ≡ counted r.taken → Lowers true before members r m
by_one before members r m k g e t = record { fewer = omega (arith, g.count); exact = λ w. omega (arith, g.count); fit = g.fit; raised = t; carries = g.carries }

fails : (p : Phase) (members : ℕ) (r : Run) → FitAt p members r → Lowers false (now p members r) members r (failed_at p r)
fails (Phase.Versions best) members r f = ends _ members r (omega (arith, one_fewer r f.0))
fails (Phase.Base s) members r f = ends _ members r (omega (arith, one_fewer r f.0, steps s))
fails Phase.LastIo members r f = ends _ members r (omega (arith, one_fewer r f.0))
fails (Phase.Gather s) members r f = ends _ members r (omega (arith, one_fewer r f.0, steps s))
fails (Phase.Enable every) members r f = ends _ members r (omega arith)
fails (Phase.Spread s) members r f =
    let g = spread-enters members r (rest r) (rest_lt r f) in
    record { fewer = omega (arith, one_fewer r f, g.count, steps s); exact = λ e. clash e refl; fit = g.fit; raised = refl; carries = g.carries }

-- the next message of a spread
ahead-enters : (p : Phase) (members : ℕ) (r : Run) → FitAt p members (record { phase = p; source = r.source; left = r.left; taken = counted r.taken }) → Enters members (counted r.taken) (now p members r) (ahead r p)
unfolding possible
ahead-enters p members r f = record { count = refl; fit = f; carries = refl }

failed_ends : (r : Run) (best : ℕ) → r.phase ≡ Phase.Versions best → failed_answer r ≡ ended r
unfolding failed_answer
failed_ends r best p = ap (λ (q : Phase). failed_at q r) p

brought-well : (best members version : ℕ) (r : Run) (b : Option ℕ) → FitAt (Phase.Versions best) members r → r.phase ≡ Phase.Versions best
    → Lowers (brings version b) (now (Phase.Versions best) members r) members r (version_brought members version best r b)
brought-well best members version r None f p = rw (failed_ends r best p) (fails (Phase.Versions best) members r f)
brought-well best members version r (Some v) f p = at (ltb version v)
  where
    in_left : has r.left (hand r) ≡ true
    in_left = lowest-in r.left f.0.1

    g : Enters members (counted r.taken) (size (rest r) + 3 * (size members - 1) + size members + 3 * (size members - 1) + 1 + 3 * (size members - 1)) (to_versions members r (pick (ltb best v) v best) (pick (ltb best v) (hand r) r.source) (rest r))
    g = versions-enters members f.1.0 r (pick (ltb best v) (hand r) r.source) (either (λ k. has members k ≡ true) (ltb best v) (hand r) r.source (f.2 (hand r) in_left) f.1.1) (pick (ltb best v) v best) (rest r) (rest_lt r f.0) (λ j h. f.2 j (still r.left (hand r) j h).0)

    at : (b : Bool) → Lowers (not b) (now (Phase.Versions best) members r) members r (pick b (failed_answer r) (went_on r (to_versions members r (pick (ltb best v) v best) (pick (ltb best v) (hand r) r.source) (rest r))))
    at true = rw (failed_ends r best p) (fails (Phase.Versions best) members r f)
    at false = by_one _ members r _ _ g (omega (arith, one_fewer r f.0)) refl

goes : (p : Phase) (members version : ℕ) (r : Run) (b : Option ℕ) → FitAt p members r → r.phase ≡ p → Lowers (well_at p version b) (now p members r) members r (good_at p members version r b)
goes (Phase.Versions best) members version r b f p = brought-well best members version r b f p
goes (Phase.Base Step.Ready) members version r b f p = by_one _ members r _ _ (ahead-enters (Phase.Base Step.Send) members r f) (omega (arith, one_fewer r f.0)) refl
goes (Phase.Base Step.Send) members version r b f p = by_one _ members r _ _ (ahead-enters (Phase.Base Step.Done) members r f) (omega (arith, one_fewer r f.0)) refl
goes (Phase.Base Step.Done) members version r b f p = by_one _ members r _ _ (base-enters members f.1.0 r r.source f.1.1 (rest r) (rest_lt r f.0)) (omega (arith, one_fewer r f.0)) refl
goes Phase.LastIo members version r b f p = by_one _ members r _ _ (last-enters members f.1.0 r r.source f.1.1 (rest r) (rest_lt r f.0)) (omega (arith, one_fewer r f.0)) refl
goes (Phase.Gather Step.Ready) members version r b f p = by_one _ members r _ _ (ahead-enters (Phase.Gather Step.Send) members r f) (omega (arith, one_fewer r f.0)) refl
goes (Phase.Gather Step.Send) members version r b f p = by_one _ members r _ _ (ahead-enters (Phase.Gather Step.Done) members r f) (omega (arith, one_fewer r f.0)) refl
goes (Phase.Gather Step.Done) members version r b f p = by_one _ members r _ _ (gather-enters members f.1.0 r r.source f.1.1 (rest r) (rest_lt r f.0)) (omega (arith, one_fewer r f.0)) refl
goes (Phase.Enable every) members version r b f p = by_one _ members r _ _ (spread-enters members r r.left f) (omega arith) refl
goes (Phase.Spread Step.Ready) members version r b f p = by_one _ members r _ _ (ahead-enters (Phase.Spread Step.Send) members r f) (omega (arith, one_fewer r f)) refl
goes (Phase.Spread Step.Send) members version r b f p = by_one _ members r _ _ (ahead-enters (Phase.Spread Step.Done) members r f) (omega (arith, one_fewer r f)) refl
goes (Phase.Spread Step.Done) members version r b f p = by_one _ members r _ _ (spread-enters members r (rest r) (rest_lt r f)) (omega (arith, one_fewer r f)) refl

-- Every answer lowers what is still possible, a good one by exactly one; the count is raised each time.
pub lowers : (members version : ℕ) (r : Run) (a : Reply) → Fit members r → Lowers (taken-well version r a) (possible members r) members r (takes members version r a)
unfolding failed_answer good possible
lowers members version r Reply.Failed f = fails r.phase members r f
lowers members version r (Reply.Good b) f = goes r.phase members version r b f refl
