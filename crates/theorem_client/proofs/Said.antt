-- What document 01 says of the client's events.
use mathlib.Core.Path.{◌∙◌}
use Rattle.rules_client.specs.Events.{next}
use Rattle.theorem_client.specs.Said.{JoinBegins, StoreCheck, NormalOnly, VersionRises, WriteMarks, LastAuthoritative, Maintenance, EnableDoes, LinkDown, RemoveBegins, Freed, DeleteTakesOut, CreateEnds, ExtendAdds, ExtendNone}
use Rattle.theorem_client.proofs.Adds.{create-ends, extend-said, extend-none}
use Rattle.theorem_client.proofs.Demand2.{reached-valid}
use Rattle.theorem_client.proofs.Every.{event-keeps, event-fate, event-kind, event-rises, freed-said, members-said}
use Rattle.theorem_client.proofs.Marks.{mark-after, flag-after}
use Rattle.theorem_client.proofs.Removals.{remove-rows, answer-rows, begun-said}
use Rattle.theorem_client.proofs.Sessions.{create-said, assemble-said, check-reconnects, becomes, enable-said, maintenance-said, down-said}
use Rattle.theorem_client.proofs.Written.{write-said, marks-said, none_said}

pub join-begins : JoinBegins
join-begins c id = (
  (λ a. create-said c id (reached-valid c a.reached) a.done),
  λ set version a. assemble-said c id set version (reached-valid c a.reached) a.done,
)

pub store-check : StoreCheck
store-check c id a plain = check-reconnects c id (reached-valid c a.reached) plain a.done

pub normal-only : NormalOnly
normal-only c r plain e id was is = becomes c e (next e c) id plain was is (event-fate e c id (reached-valid c r))

pub version-rises : VersionRises
version-rises c r e n = event-rises e c (reached-valid c r) n

pub write-marks : WriteMarks
write-marks c xs chunk reached a =
    let v = reached-valid c a.reached in
    (write-said c xs chunk reached v a.done, (λ n. marks-said c xs chunk reached v a.done n), λ z. none_said c xs chunk reached v a.done z)

pub last-authoritative : LastAuthoritative
last-authoritative c r plain e id =
    let v = reached-valid c r in
    mark-after c e (next e c) id v (event-keeps e c v) plain (event-kind e c v ∙ plain) (event-fate e c id v)

pub maintenance : Maintenance
maintenance = (
  (λ c id a. maintenance-said c id (reached-valid c a.reached) a.done),
  λ c r e id m n. let v = reached-valid c r in flag-after c e (next e c) id v m n (event-fate e c id v),
)

pub enable-does : EnableDoes
enable-does c id a = enable-said c id (reached-valid c a.reached) a.done

pub link-down : LinkDown
link-down c id a = down-said c id (reached-valid c a.reached) a.done

pub remove-begins : RemoveBegins
remove-begins c xs id mode a = begun-said c xs id mode (reached-valid c a.reached) a.done

pub freed : Freed
freed c e a id was = freed-said e c (reached-valid c a.reached) a.done id was

pub delete-takes-out : DeleteTakesOut
delete-takes-out = (
  (λ c e a id was. members-said e c (reached-valid c a.reached) a.done id was),
  (λ c xs id mode a plain. remove-rows c (reached-valid c a.reached) plain xs id mode a.done),
  λ c xs number r m a plain job. answer-rows c (reached-valid c a.reached) plain xs number r m job a.done,
)

pub create-ends-said : CreateEnds
create-ends-said c r id h idle free plain written = create-ends c id (reached-valid c r) h idle free plain written

pub extend-adds : ExtendAdds
extend-adds c xs a = extend-said c xs (reached-valid c a.reached) a.done

pub extend-refused : ExtendNone
extend-refused c xs r plain idle snd = extend-none c xs (reached-valid c r) plain idle snd
