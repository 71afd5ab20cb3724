-- The records that the lab gives are those of this log.
use Rattle.std.specs.Prelude.{Some, None}
use mathlib.Core.Path.{refl, sym, ap}
use mathlib.Core.List.{◌∷◌}
use Prim.Native.Nat.{ℕ}
use native.Mathlib.Omega.{arith}
use Rattle.rules_pool.specs.declared.Answer.{Answer}
use Rattle.event.specs.declared.Event.{Event}
use Rattle.audit_record.specs.Records.{record_of}
use Rattle.audit_proof.proofs.Exact.{place-after}
use Rattle.audit_proof.specs.Lab.{LabNotes, LabGives}

pub lab-notes : LabNotes
lab-notes (Event.JoinCreate id) own other = refl
lab-notes (Event.JoinAssemble id set version) own other = refl
lab-notes (Event.Enable id) own other = refl
lab-notes (Event.Maintenance id) own other = refl
lab-notes (Event.LinkDown id) own other = refl
lab-notes (Event.StoreCheck id) own other = refl
lab-notes (Event.Rejoin id) own other = refl
lab-notes Event.Try own other = refl
lab-notes (Event.Remove id mode) own other = refl
lab-notes (Event.Write chunk reached) own other = refl
lab-notes (Event.Synced member chunk n) own other = refl
lab-notes (Event.Answer number a) own other = refl
lab-notes Event.Extend own other = refl
lab-notes Event.Tick own other = refl
lab-notes (Event.CheckAnswer number m empty) own other = refl

pub lab-gives : LabGives
lab-gives j None a after rest h = refl
lab-gives j (Some l) (Answer.Refused k) after rest h = refl
lab-gives j (Some l) (Answer.Done s) after rest h =
    ap (λ (n : ℕ). record_of n l s.outcome after ∷ rest n) (sym (place-after j.count (omega (arith, h))))
