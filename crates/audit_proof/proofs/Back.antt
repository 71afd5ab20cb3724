-- A record names the event whose record it is, and two records that are the same number by number are equal.
use Rattle.std.specs.Prelude.{Some, None}
use mathlib.Core.Path.{◌≡◌, refl}
use mathlib.Core.Bool.{true}
use Prim.Native.Nat.{ℕ}
use lib.Dec.{eqb}
use borrow.Author.Tests.{eq-eqb, eqb-true}
use Rattle.laws_words.specs.Tests.{all-at}
use Rattle.rules_pool.specs.declared.Mode.{Mode}
use Rattle.rules_pool.specs.declared.Reply.{Reply}
use Rattle.rules_pool.specs.declared.Outcome.{Outcome}
use Rattle.rules_pool.specs.declared.Roster.{Roster}
use Rattle.audit_record.specs.declared.records.Record.{Record}
use Rattle.audit_record.specs.declared.records.Logged.{Logged}
use Rattle.audit_record.specs.Records.{record_of, event_in, same_numbers, same_record}

pub event-back : (n : ℕ) (e : Logged) (o : Outcome) (ro : Roster) → event_in (record_of n e o ro) ≡ Some e
unfolding record_of event_in
event-back n (Logged.JoinCreate id) o ro = refl
event-back n (Logged.JoinAssemble id set version) o ro = refl
event-back n (Logged.Enable id) o ro = refl
event-back n (Logged.Maintenance id) o ro = refl
event-back n (Logged.LinkDown id) o ro = refl
event-back n (Logged.StoreCheck id) o ro = refl
event-back n (Logged.Remove id Mode.Delete) o ro = refl
event-back n (Logged.Remove id Mode.Disassemble) o ro = refl
event-back n (Logged.Write chunk reached) o ro = refl
event-back n Logged.Try o ro = refl
event-back n (Logged.Answer Reply.Failed) o ro = refl
event-back n (Logged.Answer (Reply.Good None)) o ro = refl
event-back n (Logged.Answer (Reply.Good (Some v))) o ro = refl
event-back n (Logged.Rejoin id) o ro = refl
event-back n Logged.Extend o ro = refl

self : (a : ℕ) → eqb a a ≡ true
self a = eq-eqb a a refl

pub same_self : (r : Record) → same_record r r ≡ true
unfolding same_record
same_self r = simp (self r.sequence, self r.kind, self r.member, self r.set, self r.number, self r.version, self r.count, self r.causes)

equal : (r s : Record) → r.sequence ≡ s.sequence → r.kind ≡ s.kind → r.member ≡ s.member → r.set ≡ s.set → r.number ≡ s.number → r.version ≡ s.version → r.count ≡ s.count → r.causes ≡ s.causes → r ≡ s
equal r s a b c d e f g h = λ i. record { sequence = a i; kind = b i; member = c i; set = d i; number = e i; version = f i; count = g i; causes = h i }

pub same-is : (r s : Record) → same_record r s ≡ true → r ≡ s
unfolding same_record
same-is r s t =
    equal r s (eqb-true _ _ (all-at (same_numbers r s) 0 t)) (eqb-true _ _ (all-at (same_numbers r s) 1 t)) (eqb-true _ _ (all-at (same_numbers r s) 2 t)) (eqb-true _ _ (all-at (same_numbers r s) 3 t))
    (eqb-true _ _ (all-at (same_numbers r s) 4 t)) (eqb-true _ _ (all-at (same_numbers r s) 5 t)) (eqb-true _ _ (all-at (same_numbers r s) 6 t)) (eqb-true _ _ (all-at (same_numbers r s) 7 t))
