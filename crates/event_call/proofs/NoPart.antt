-- An event that takes no part is the same whatever part is lent.
use mathlib.Core.Path.{◌≡◌, refl}
use mathlib.Core.List.{List, [], ◌∷◌}
use Prim.Native.Nat.{ℕ}
use types.Run.{OneOf, miss}
use denote.Enum.Declared.{tag_of}
use Rattle.event.specs.declared.NodeEvent.{NodeEvent}
use Rattle.event.specs.OfNode.{event_of}
use Rattle.event.specs.contracts.NodeEvent as the

-- the places of all variants but TakePart
abbrev pub others : List ℕ
others = 0 ∷ 1 ∷ 2 ∷ 3 ∷ 4 ∷ 5 ∷ 6 ∷ 7 ∷ 8 ∷ 9 ∷ 10 ∷ 11 ∷ 12 ∷ 13 ∷ 14 ∷ 16 ∷ 17 ∷ 18 ∷ 19 ∷ []

pub no_part : (e : NodeEvent) (zs : List ℕ) → OneOf others (tag_of the.the_type e) → event_of e zs ≡ event_of e []
no_part NodeEvent.RegisterCreate zs h = refl
no_part (NodeEvent.RegisterAdd set version) zs h = refl
no_part (NodeEvent.Unregister delete) zs h = refl
no_part (NodeEvent.JoinCreate set) zs h = refl
no_part NodeEvent.JoinAssemble zs h = refl
no_part (NodeEvent.Leave delete) zs h = refl
no_part (NodeEvent.Enable1 version set) zs h = refl
no_part NodeEvent.Enable0 zs h = refl
no_part NodeEvent.Fault zs h = refl
no_part (NodeEvent.Write chunk set version) zs h = refl
no_part (NodeEvent.Synced member chunk) zs h = refl
no_part (NodeEvent.PoolInfo op member) zs h = refl
no_part (NodeEvent.LastIo chosen) zs h = refl
no_part (NodeEvent.MapReady keep) zs h = refl
no_part (NodeEvent.GivePart offset length) zs h = refl
no_part (NodeEvent.TakePart offset length m) zs h = absurd (miss others 15 tt h)
no_part (NodeEvent.MapDone enabling version set) zs h = refl
no_part NodeEvent.MapDisable zs h = refl
no_part NodeEvent.MapGetVer zs h = refl
no_part (NodeEvent.Fill member version) zs h = refl
