-- A fresh node, whatever its two sound maps hold.
use mathlib.Core.Path.{◌≡◌, refl}
use mathlib.Core.Bool.{true}
use mathlib.Core.List.{List}
use Prim.Native.Nat.{ℕ, ◌≤◌}
use native.Mathlib.Omega.{arith}
use Rattle.laws_words.specs.Tests.{clash}
use Rattle.rules_base.specs.Limits.{chunk_limit}
use Rattle.rules_base.specs.Map.{sound}
use Rattle.rules_base.proofs.Summaries.{one-summary}
use Rattle.rules_node.specs.Change.{fresh}
use Rattle.rules_node.specs.StateRules.{kept_ok}
use Rattle.laws_node.proofs.Valid.{valid-of}
use Rattle.rules_world.specs.Station.{Station}
use Rattle.model_pool.specs.Model as m
use Rattle.model_pool.specs.Holds.{Holds, Sane}

abbrev pub fresh_station : ℕ → ℕ → List ℕ → List ℕ → Station
fresh_station j chunks xs ys = record { node = fresh j chunks; map = xs; staging = ys }

pub fresh-sane : (j chunks : ℕ) (xs ys : List ℕ) → 1 ≤ chunks → chunks ≤ chunk_limit → sound chunks xs ≡ true → sound chunks ys ≡ true → Sane chunks j (fresh_station j chunks xs ys)
unfolding fresh kept_ok
fresh-sane j chunks xs ys a b x y =
    record {
      good = record {
        rules = valid-of (fresh j chunks) (record { some = a; few = b; stand = refl; ids = omega arith; top = omega arith; keeps = refl; part = omega arith });
        size = refl;
        map = x;
        staging = y;
        agrees = one-summary.agrees xs;
      };
      itself = refl;
      count = refl;
      new = λ z. clash z refl;
    }

pub fresh_holds : (j chunks : ℕ) (xs ys : List ℕ) → Holds (fresh_station j chunks xs ys) 0 m.none m.none m.Transfer.Shut
unfolding fresh
fresh_holds j chunks xs ys = record { ver = refl; map = λ n c z. clash z refl; stg = λ n c z. clash z refl; tr = refl }
