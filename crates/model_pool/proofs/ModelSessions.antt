-- Sessions change, none becomes NORMAL: the invariant of the pool stays, if each that leaves NORMAL raises the version.
use mathlib.Core.Path.{◌≡◌, sym, ◌∙◌}
use mathlib.Core.Bool.{Bool, true, false}
use mathlib.Core.Logic.{◌⊎◌, ⊎_elim}
use Prim.Native.Nat.{ℕ, ◌≤◌, ◌<◌}
use native.Mathlib.Omega.{arith}
use Rattle.laws_words.specs.Tests.{clash, by_cases}
use Rattle.model_pool.specs.Model.{Session, up, dying, active, there, Map}
use Rattle.model_pool.specs.Invariant.{Party, Core, Quiet}

pub record Shifts (ses ses' : ℕ → Session) (mark mark' mem : ℕ → Bool) (version version' : ℕ) : Type 0 where
  pub ups : (j : ℕ) → up (ses' j) ≡ true → up (ses j) ≡ true
  pub lives : (j : ℕ) → mem j ≡ true → dying (ses' j) ≡ dying (ses j)
  pub actives : (j : ℕ) → active (ses' j) ≡ true → active (ses j) ≡ true
  pub theres : (j : ℕ) → there (ses' j) ≡ true → there (ses j) ≡ true
  pub rises : version ≤ version'
  pub still-active : (j : ℕ) → mark' j ≡ true → active (ses' j) ≡ true
  pub marks : (j : ℕ) → mark' j ≡ true → (mark j ≡ true) ⊎ ((up (ses j) ≡ true) × ((k : ℕ) → up (ses' k) ≡ false))

-- C' stays if each that leaves NORMAL raises the version
pub later : (ses ses' : ℕ → Session) (mem been : ℕ → Bool) (version version' : ℕ) (closed : Bool) (ver : ℕ → ℕ)
    → ((j : ℕ) → up (ses' j) ≡ true → up (ses j) ≡ true) → version ≤ version' → ((j : ℕ) → mem j ≡ true → been j ≡ true → ver j ≤ version)
    → ((j : ℕ) → up (ses j) ≡ true → up (ses' j) ≡ false → version < version') → Quiet ses mem been version closed ver → Quiet ses' mem been version' closed ver
later ses ses' mem been version version' closed ver ups rises behind raise q = record {
  beside = λ k j e a b n. late j a b n (q.beside k j (ups k e) a b);
  before = λ e j a b n. late j a b n (q.before e j a b);
}
  where
    late : (j : ℕ) → mem j ≡ true → been j ≡ true → up (ses' j) ≡ false → (up (ses j) ≡ false → ver j < version) → ver j < version'
    late j a b n f =
        by_cases (up (ses j))
        (λ e. let x = raise j e n in let y = behind j a b in omega arith)
        (λ e. let x = f e in omega arith)

module _ (ses ses' : ℕ → Session) (mark mark' mem been : ℕ → Bool) (version version' : ℕ) (closed : Bool) (owe : ℕ → ℕ → ℕ) (ver : ℕ → ℕ) (map : ℕ → Map)
    (i : Core ses mark mem been version closed owe ver map) (s : Shifts ses ses' mark mark' mem version version') where
  never-up : ((k : ℕ) → up (ses k) ≡ false) → (k : ℕ) → up (ses' k) ≡ false
  never-up h k = by_cases (up (ses' k)) (λ e. clash (s.ups k e) (h k)) (λ e. e)

  party : (j : ℕ) → Party ses' mem been j → Party ses mem been j
  party j p = record { member = p.member; joined = p.joined; lives = sym (s.lives j p.member) ∙ p.lives }

  party' : (j : ℕ) → Party ses mem been j → Party ses' mem been j
  party' j p = record { member = p.member; joined = p.joined; lives = s.lives j p.member ∙ p.lives }

  pub shifted : Core ses' mark' mem been version' closed owe ver map
  shifted = record {
    positive = let a = i.positive in let b = s.rises in omega arith;
    closes = i.closes;
    below = λ m c. let a = i.below m c in let b = s.rises in omega arith;
    owed-member = i.owed-member;
    owed-lives = λ m c h. s.lives m (i.owed-member m c h) ∙ i.owed-lives m c h;
    member = λ j e. i.member j (s.actives j e);
    joined = λ j e. i.joined j (s.theres j e);
    some = λ j e. let t = i.some j e in (t.0, t.1, s.lives t.0 t.1 ∙ t.2);
    outside = λ j a b. let o = i.outside j a b in record {
      none-up = never-up o.none-up;
      none-marked = λ k. by_cases (mark' k) (λ e. ⊎_elim (λ x. clash x (o.none-marked k)) (λ x. clash x.0 (o.none-up k)) (s.marks k e)) (λ e. e);
      none-owed = o.none-owed;
      shut = o.shut;
    };
    behind = λ j a b. let x = i.behind j a b in let y = s.rises in omega arith;
    knows = λ j p. i.knows j (party j p);
    normal = λ j e. i.normal j (s.ups j e);
    marked = λ j e. ⊎_elim (i.marked j) (λ x. i.normal j x.0) (s.marks j e);
    marked-active = s.still-active;
    marked-alone = λ j e. ⊎_elim (λ x. never-up (i.marked-alone j x)) (λ x. x.1) (s.marks j e);
    holder = λ m c h. let t = i.holder m c h in (t.0, party' t.0 t.1, t.2);
  }

  pub shifted-quiet : ((j : ℕ) → up (ses j) ≡ true → up (ses' j) ≡ false → version < version') → Quiet ses mem been version closed ver → Quiet ses' mem been version' closed ver
  shifted-quiet = later ses ses' mem been version version' closed ver s.ups s.rises i.behind

  -- a run ended
  pub ended-quiet : version < version' → Quiet ses' mem been version' closed ver
  ended-quiet l = record {
    beside = λ k j e a b n. let y = i.behind j a b in omega arith;
    before = λ e j a b n. let y = i.behind j a b in omega arith;
  }
