-- How long the lines of a node that was asked can be.
use Rattle.std.specs.Prelude.{Option, Some, None, ℕ}
use Prim.Native.Nat.{◌≤◌}
use mathlib.Core.Path.{◌≡◌}
use mathlib.Core.Bool.{Bool}
use mathlib.Core.List.{[], ◌∷◌}
use native.Mathlib.Omega.{arith}
use lib.ListN.{length}
use Rattle.laws_words.specs.Words.{one}
use Rattle.text_bytes.specs.Bytes.{bytes}
use Rattle.text_bytes.specs.Ink.{decimal}
use Rattle.text_bytes.proofs.Meaning.{joined_length, decimal-length}
use Rattle.lab_say.specs.Say.{paired}
use Rattle.rules_node.specs.declared.Node.{Node}
use Rattle.lab_say.specs.NodeLine.{node_text}
use Rattle.lab_say.proofs.NodeLineFits.{node-length}
use Rattle.lab_say_line.specs.Lines.{asked_text, found_text, next_text}

-- It is at most 727 bytes.
pub asked-length : (n : Node) (empty : Bool) → length n.kept ≡ 16 → length (asked_text n empty) ≤ 727
unfolding asked_text
asked-length n empty e =
    rw (joined_length (node_text n ∷ paired (bytes " empty=") (one empty) ∷ []), joined_length (bytes " empty=" ∷ decimal (one empty) ∷ []))
    (omega (arith, node-length n e, decimal-length (one empty)))

-- With the next dirty chunk 726.
found-length : (f : Option ℕ) → length (found_text f) ≤ 26
unfolding found_text
found-length (Some c) = rw (joined_length (bytes " next=" ∷ decimal c ∷ [])) (omega (arith, decimal-length c))
found-length None = omega arith

pub next-length : (n : Node) (f : Option ℕ) → length n.kept ≡ 16 → length (next_text n f) ≤ 726
unfolding next_text
next-length n f e = rw (joined_length (node_text n ∷ found_text f ∷ [])) (omega (arith, node-length n e, found-length f))
