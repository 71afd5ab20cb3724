-- What an event leaves of staging that no part is lent to: a part of no bytes changes nothing.
use mathlib.Core.Path.{◌≡◌, refl}
use mathlib.Core.List.{List, []}
use Prim.Native.Nat.{ℕ, ◌+◌}
use native.Mathlib.Omega.{arith}
use Rattle.event.specs.declared.NodeEvent.{NodeEvent}
use Rattle.event.specs.OfNode.{event_of}
use Rattle.rules_base.specs.Parts.{or_part}
use Rattle.rules_base.proofs.Over.{over_none}
use Rattle.rules_node.specs.declared.OnStaging.{OnStaging}
use Rattle.rules_node.specs.Carry.{taken_in}
use Rattle.rules_node.specs.Events.{part_in}
use Rattle.rules_node.specs.Face.{staging_with}

nothing-taken : (e : OnStaging) (ys : List ℕ) → taken_in e [] ys ≡ ys
unfolding taken_in or_part
nothing-taken OnStaging.Keep ys = refl
nothing-taken OnStaging.Zero ys = refl
nothing-taken OnStaging.Fill ys = refl
nothing-taken (OnStaging.Or offset) ys = let h : offset + 0 ≡ offset = omega arith in rw h (over_none offset _ ys)

pub no_part : (e : NodeEvent) (s : OnStaging) (ys : List ℕ) → staging_with (part_in (event_of e [])) s ys ≡ ys
no_part NodeEvent.RegisterCreate s ys = refl
no_part (NodeEvent.RegisterAdd set version) s ys = refl
no_part (NodeEvent.Unregister delete) s ys = refl
no_part (NodeEvent.JoinCreate set) s ys = refl
no_part NodeEvent.JoinAssemble s ys = refl
no_part (NodeEvent.Leave delete) s ys = refl
no_part (NodeEvent.Enable1 version set) s ys = refl
no_part NodeEvent.Enable0 s ys = refl
no_part NodeEvent.Fault s ys = refl
no_part (NodeEvent.Write chunk set version) s ys = refl
no_part (NodeEvent.Synced member chunk) s ys = refl
no_part (NodeEvent.PoolInfo op member) s ys = refl
no_part (NodeEvent.LastIo chosen) s ys = refl
no_part (NodeEvent.MapReady keep) s ys = refl
no_part (NodeEvent.GivePart offset length) s ys = refl
no_part (NodeEvent.TakePart offset length m) s ys = nothing-taken s ys
no_part (NodeEvent.MapDone enabling version set) s ys = refl
no_part NodeEvent.MapDisable s ys = refl
no_part NodeEvent.MapGetVer s ys = refl
no_part (NodeEvent.Fill member version) s ys = refl
