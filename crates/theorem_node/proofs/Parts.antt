-- Which parts are taken and given, and that a part which is not taken changes nothing.
use Rattle.std.specs.Prelude.{Option, Some, None}
use mathlib.Core.Path.{◌≡◌, refl, sym, ap}
use mathlib.Core.Bool.{true}
use Prim.Native.Nat.{ℕ, ◌+◌, ◌*◌, ◌%◌, ◌≤◌}
use native.Mathlib.Omega.{arith}
use lib.ListN.{length, get_or}
use Rattle.laws_words.specs.Tests.{clash}
use Rattle.rules_base.specs.Map.{room, clean_from}
use Rattle.rules_base.proofs.Maps.{clean_from-at}
use Rattle.rules_base.proofs.Sound.{spare-lt, bit_past}
use Rattle.rules_node.specs.States.{in_hand, taken}
use Rattle.rules_node.specs.Serve.{give_part_refusal}
use Rattle.laws_node.proofs.ServeKeeps.{give_part-passed}
use Rattle.rules_node.specs.Hand.{take_part_refusal}
use Rattle.laws_node.proofs.HandKeeps.{take_part-passed}
use Rattle.rules_node.specs.Events.{Event}
use Rattle.rules_node.specs.Face.{lent_to}
use Rattle.rules_node.specs.Held.{next}
use Rattle.theorem_node.specs.Demand1.{Verdict}
use Rattle.theorem_node.specs.Said.{OnlyParts, OnlyGiven, RefusedPart}
use Rattle.theorem_node.proofs.Demand1.{demand-1}
use Rattle.theorem_node.proofs.Said.{known}

-- a transfer in hand at this byte
at_byte : (t : Option ℕ) (a : ℕ) → in_hand t ≡ true → a ≡ taken t → t ≡ Some a
at_byte None a h e = clash h refl
at_byte (Some bytes) a h e = ap (λ (k : ℕ). Some k) (sym e)

-- a bit past the chunk count has no room
no_room : (n k j : ℕ) → n ≤ 8 * (k % 512) + j → room n (k % 512) ≤ j
unfolding room
no_room n k j h = omega arith

pub only_parts : OnlyParts
unfolding take_part_refusal
only_parts offset part w a =
    let n = w.at.node in
    let p = take_part-passed n (lent_to w.at w.map w.staging) offset (length part) (clean_from n.chunks offset part) (known (Event.take_part offset part) w a).none in
    record {
      some = p.1.part.some;
      few = p.1.part.few;
      here = at_byte n.transfer offset p.0.from p.1.here;
      within = p.1.part.within;
      none = λ i j l h. bit_past (get_or part i 0) (room n.chunks ((offset + i) % 512)) j (spare-lt n.chunks (offset + i) (get_or part i 0) (clean_from-at n.chunks offset part p.1.pure i l)) (no_room n.chunks (offset + i) j h);
    }

pub only-given : OnlyGiven
unfolding give_part_refusal
only-given offset size w a =
    let n = w.at.node in
    let p = (give_part-passed n (lent_to w.at w.map w.staging) offset size (known (Event.give_part offset size) w a).none).1 in
    (p.some, p.few, p.within)

pub refused-part : RefusedPart
refused-part offset part w a = at (demand-1 (Event.take_part offset part) w.at w.map w.staging)
  where
    at : Verdict (Event.take_part offset part) w.at w.map w.staging → next (Event.take_part offset part) w ≡ w
    at (Verdict.refused n q r) = λ i. record { at = r.node i; map = r.map i; staging = r.staging i }
    at (Verdict.done q r) = clash q a
