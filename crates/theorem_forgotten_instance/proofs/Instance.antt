-- A history with three members.
use mathlib.Core.Path.{◌≡◌, refl, sym}
use mathlib.Core.Bool.{true, false}
use mathlib.Core.List.{List, [], ◌∷◌, ◌++◌}
use Prim.Native.Nat.{ℕ, zero, suc, ◌<◌}
use native.Mathlib.Omega.{arith}
use Rattle.laws_words.specs.Tests.{clash, and_both}
use Rattle.rules_pool.specs.declared.Mode.{Mode}
use Rattle.rules_pool.specs.declared.Message.{Message}
use Rattle.rules_pool.specs.declared.Step.{Step}
use Rattle.rules_pool.specs.declared.Phase.{Phase}
use Rattle.rules_pool.specs.declared.Run.{Run}
use Rattle.rules_client.specs.Client.{fresh_pool}
use Rattle.rules_node.specs.Change as change
use Rattle.rules_node.specs.Events as storage
use Rattle.theorem_instances.proofs.Honest.{bytes, sound-bytes}
use Rattle.rules_world.specs.Whole.{Fate, World}
use Rattle.rules_world.specs.History.{Starts, start}
use Rattle.theorem_forgotten_instance.proofs.Follow.{at, each, View, Ask, Item, through}
use Rattle.theorem_forgotten_instance.proofs.Sound.{at_each, At}

-- ---- from fresh

abbrev pub first : View
first = record {
  pool = fresh_pool false 12;
  nodes = each (λ j. change.fresh j 12);
  awaited = Message.Nothing;
  fate = Fate.under_way;
  joined = each (λ j. false);
  waits = each (λ j. false);
  acked = false;
  owed = each (λ j. false);
}

abbrev pub fresh : World
fresh = record { pool = fresh_pool false 12; nodes = λ j. record { node = change.fresh j 12; map = bytes; staging = bytes }; awaited = Message.Nothing; fate = Fate.under_way }

pub starts : Starts fresh
unfolding change.fresh
starts = record { chunks = 12; some = omega arith; most = omega arith; pool = refl; node = λ j. refl; maps = λ j. and_both sound-bytes sound-bytes }

-- nothing is owed
nothing : (m : ℕ) → m < 3 → at first.owed m ≡ true → ⊥
nothing zero b z = clash z refl
nothing (suc zero) b z = clash z refl
nothing (suc (suc k)) b z = clash z refl

pub begun : At first fresh (start fresh starts)
begun = record {
  pool = refl;
  nodes = λ j b. sym (at_each (λ i. change.fresh i 12) j b);
  awaited = refl;
  fate = refl;
  joins = λ j b. sym (at_each (λ i. false) j b);
  waiting = λ j b. sym (at_each (λ i. false) j b);
  acks = λ z. clash z refl;
  owes = λ m b z. absurd (nothing m b z);
  kept = tt;
}

-- ---- the history

-- the awaited message comes, and its answer is taken, so many times
abbrev pub rounds : ℕ → List Item
rounds zero = []
rounds (suc n) = Item.comes ∷ (Item.asks Ask.answers 7 ∷ rounds n)

-- a node is registered and joins by create, and the client takes the join
abbrev created : ℕ → ℕ → List Item
created id set = Item.own id storage.Event.register_create ∷ (Item.own id (storage.Event.join_create set) ∷ (Item.asks (Ask.joins id) 7 ∷ []))

-- Three members, enabled by hand. A write reaches 0 and 1, and 2 fails.
abbrev pub write : List Item
write = created 0 1 ++ (created 1 3 ++ (created 2 7 ++ (Item.hand 0 ∷ (Item.hand 1 ∷ (Item.hand 2 ∷ (Item.asks (Ask.writes 3) 7 ∷ []))))))

-- 2 comes back while others are NORMAL: case 1.
abbrev pub check : List Item
check = Item.asks (Ask.checks 2) 7 ∷ []

-- All fail, 1 the last, and come back: case 2.
abbrev pub outage : List Item
outage =
    Item.asks (Ask.downs 0) 7 ∷ (Item.asks (Ask.downs 2) 7 ∷ (Item.asks (Ask.downs 1) 7 ∷ (Item.asks (Ask.checks 0) 7 ∷ (Item.asks (Ask.checks 2) 7 ∷ (Item.asks (Ask.checks 1) 7 ∷ [])))))

-- All fail, 2 the last; it is disassembled, and the mark goes with it; it joins by assemble, and the others come back: case 3.
abbrev pub assembly : List Item
assembly =
    Item.asks (Ask.downs 0) 7
    ∷ (Item.asks (Ask.downs 1) 7
    ∷ (Item.asks (Ask.downs 2) 7
    ∷ (Item.asks (Ask.removes 2 Mode.Disassemble) 7
    ∷ (Item.own 2 storage.Event.assemble ∷ (Item.asks (Ask.assembles 2 7) 7 ∷ (Item.asks (Ask.checks 0) 7 ∷ (Item.asks (Ask.checks 1) 7 ∷ [])))))))

-- 2 is deleted: LEAVE_POOL, and POOL_INFO to both peers.
abbrev pub deletion : List Item
deletion = Item.asks (Ask.removes 2 Mode.Delete) 7 ∷ rounds 3

-- Another node comes to the id, and extend adds it.
abbrev pub extension : List Item
extension = Item.anew 2 ∷ (Item.own 2 (storage.Event.register_add 7 0) ∷ (Item.own 2 storage.Event.assemble ∷ (Item.asks Ask.extends 7 ∷ rounds 3)))

-- ---- what it comes to
abbrev pub v1 : View
v1 = through write first

abbrev pub v2 : View
v2 = through check v1

abbrev pub v3 : View
v3 = through (rounds 3) v2

abbrev pub v4 : View
v4 = through outage v3

abbrev pub v5 : View
v5 = through (rounds 7) v4

abbrev pub v6 : View
v6 = through assembly v5

abbrev pub v7 : View
v7 = through (rounds 25) v6

abbrev pub v8 : View
v8 = through deletion v7

abbrev pub v9 : View
v9 = through extension v8

abbrev pub run-1 : Run
run-1 = record { phase = Phase.Spread Step.Ready; source = 0; left = 4; taken = 0 }

abbrev pub run-2 : Run
run-2 = record { phase = Phase.Enable false; source = 1; left = 5; taken = 0 }

abbrev pub run-3 : Run
run-3 = record { phase = Phase.Versions 0; source = 0; left = 7; taken = 0 }
