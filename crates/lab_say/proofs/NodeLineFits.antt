-- How long a node's line can be.
use Prim.Native.Nat.{ℕ, ◌+◌, ◌-◌, ◌*◌, ◌≤◌}
use mathlib.Core.Path.{◌≡◌}
use mathlib.Core.List.{List, [], ◌∷◌}
use native.Mathlib.Omega.{arith}
use lib.ListN.{length, drop, length-drop}
use Rattle.laws_words.specs.Words.{one}
use Rattle.text_bytes.specs.Bytes.{bytes}
use Rattle.text_bytes.specs.Ink.{decimal}
use Rattle.text_bytes.proofs.Meaning.{joined_length, decimal-length}
use Rattle.lab_say.specs.Say.{paired}
use Rattle.rules_node.specs.declared.State.{State}
use Rattle.rules_node.specs.declared.Node.{Node}
use Rattle.rules_node.specs.States.{taken}
use Rattle.lab_say.specs.NodeLine.{state_text, transfer_number, commas, chunks_text, kept_text, front_text, node_text, look_text}

pair-length : (s : List ℕ) (n : ℕ) → length (paired s n) ≤ length s + 20
pair-length s n = rw (joined_length (s ∷ decimal n ∷ [])) (omega (arith, decimal-length n))

state-length : (s : State) → length (state_text s) ≤ 17
state-length State.Empty = omega arith
state-length State.Registered = omega arith
state-length State.Created = omega arith
state-length State.Normal = omega arith
state-length State.NoIo = omega arith

commas-length : (xs : List ℕ) → length (commas xs) ≤ 21 * length xs
unfolding commas
commas-length [] = omega arith
commas-length (x ∷ xs) = rw (joined_length ((44 ∷ decimal x) ∷ commas xs ∷ [])) (omega (arith, decimal-length x, commas-length xs))

chunks-length : (xs : List ℕ) → length (chunks_text xs) ≤ 21 * length xs + 1
unfolding chunks_text
chunks-length [] = omega arith
chunks-length (x ∷ xs) = rw (joined_length (decimal x ∷ commas xs ∷ [])) (omega (arith, decimal-length x, commas-length xs))

kept-length : (xs : List ℕ) (held : ℕ) → length xs ≡ 16 → length (kept_text xs held) ≤ 337
unfolding kept_text
kept-length xs held e =
    let d : length (drop (16 - held) xs) ≤ 16 = rw length-drop (omega (arith, e)) in
    omega (arith, chunks-length (drop (16 - held) xs), d)

front_length : (n : Node) → length (front_text n) ≤ 200
unfolding front_text
front_length n =
    rw (joined_length (paired (bytes "ok node=") n.id ∷ state_text n.state ∷ paired (bytes " store=") (one n.store) ∷ paired (bytes " create=") (one n.create) ∷ []))
    (omega (arith, pair-length (bytes "ok node=") n.id, state-length n.state, pair-length (bytes " store=") (one n.store), pair-length (bytes " create=") (one n.create)))

-- A node's line is at most 700 bytes.
pub node-length : (n : Node) → length n.kept ≡ 16 → length (node_text n) ≤ 700
unfolding node_text
node-length n e =
    rw (joined_length (front_text n ∷ paired (bytes " members=") n.members ∷ paired (bytes " version=") n.version ∷ bytes " kept=" ∷ kept_text n.kept n.held ∷ paired (bytes " transfer=") (transfer_number n.transfer) ∷ []))
    (omega (arith, front_length n, pair-length (bytes " members=") n.members, pair-length (bytes " version=") n.version, kept-length n.kept n.held e, pair-length (bytes " transfer=") (transfer_number n.transfer)))

-- The line of its further fields is at most 29 bytes.
pub look-length : (n : Node) → length (look_text n) ≤ 29
look-length n = pair-length (bytes "look got=") (taken n.transfer)
