-- How long the line of a record can be: at most 174 bytes.
use Prim.Native.Nat.{ℕ, ◌+◌, ◌≤◌}
use mathlib.Core.List.{List, [], ◌∷◌, map}
use native.Mathlib.Omega.{arith}
use lib.ListN.{length}
use Rattle.text_bytes.specs.Bytes.{bytes}
use Rattle.text_bytes.proofs.Meaning.{joined_length, decimal-length}
use Rattle.lab_say.specs.Say.{spaced, said}
use Rattle.audit_record.specs.declared.records.Record.{Record}
use Rattle.lab_say.specs.Text.{record_text}

four : (s : List ℕ) (a b c d : ℕ) → length (said s (a ∷ b ∷ c ∷ d ∷ [])) ≤ length s + 84
unfolding spaced
four s a b c d = rw (joined_length (s ∷ map spaced (a ∷ b ∷ c ∷ d ∷ []))) (omega (arith, decimal-length a, decimal-length b, decimal-length c, decimal-length d))

pub record-length : (r : Record) → length (record_text r) ≤ 174
unfolding record_text
record-length r =
    rw (joined_length (said (bytes "record") (r.sequence ∷ r.kind ∷ r.member ∷ r.set ∷ []) ∷ said [] (r.number ∷ r.version ∷ r.count ∷ r.causes ∷ []) ∷ []))
    (omega (arith, four (bytes "record") r.sequence r.kind r.member r.set, four [] r.number r.version r.count r.causes))
