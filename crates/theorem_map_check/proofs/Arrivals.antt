-- The nodes after what comes to them while no run is in hand: a node's own row stays empty.
use mathlib.Core.Path.{◌≡◌, refl, sym, subst}
use mathlib.Core.Bool.{Bool, true, false}
use mathlib.Core.List.{List}
use Prim.Native.Nat.{ℕ}
use Rattle.laws_words.specs.Tests.{clash, either}
use Rattle.rules_base.specs.Sets.{has}
use Rattle.rules_pool.specs.declared.Job.{Job}
use Rattle.rules_pool.specs.declared.Stage.{Stage}
use Rattle.rules_pool.specs.declared.Message.{Message}
use Rattle.rules_pool.specs.declared.Answer.{Answer}
use Rattle.rules_pool.specs.declared.Pool.{Pool}
use Rattle.rules_pool.specs.Session.{is_delete}
use Rattle.rules_pool.specs.Jobs.{is_idle, is_running}
use Rattle.rules_node.specs.Events as storage
use Rattle.rules_world.specs.Station.{Station, does}
use Rattle.rules_world.specs.Together.{upd, deliver}
use Rattle.theorem_honest.proofs.Ground as real
use Rattle.model_pool.proofs.Ground.{split}
use Rattle.model_pool.specs.Mirror.{stage_awaits, job_awaits}
use Rattle.rules_world.specs.Whole.{World, due_to, after_all, told_in, acted}
use Rattle.rules_world.specs.History.{origin_of, is_message}
use Rattle.theorem_map_check.proofs.StillRows.{Empty, brings, row_kept}
use Rattle.theorem_map_check.proofs.Calm.{still, told-kept}

-- what no message of the client brings leaves a node's own row alone
pub own-quiet : (e : storage.Event) → is_message (origin_of e) ≡ false → brings e ≡ false
own-quiet storage.Event.register_create z = refl
own-quiet (storage.Event.register_add set version) z = refl
own-quiet (storage.Event.unregister delete) z = refl
own-quiet (storage.Event.join_create set) z = refl
own-quiet storage.Event.assemble z = refl
own-quiet (storage.Event.leave delete) z = refl
own-quiet (storage.Event.enable1 version set) z = refl
own-quiet storage.Event.enable0 z = refl
own-quiet storage.Event.fault z = refl
own-quiet (storage.Event.write chunk set version) z = z
own-quiet (storage.Event.synced member chunk) z = refl
own-quiet (storage.Event.pool_info op member) z = refl
own-quiet (storage.Event.map_ready keep) z = refl
own-quiet (storage.Event.give_part offset size) z = refl
own-quiet (storage.Event.take_part offset part) z = refl
own-quiet (storage.Event.map_done enable version set) z = z
own-quiet storage.Event.map_disable z = refl
own-quiet storage.Event.map_get_ver z = refl
own-quiet (storage.Event.last_io_to_map chosen) z = z
own-quiet (storage.Event.fill member version) z = z

-- the awaited message of a removal
abbrev pub parting : Message → Bool
parting Message.Nothing = false
parting (Message.GetVersion to) = false
parting (Message.Ready to keep) = false
parting (Message.Send from to) = false
parting (Message.Done to enable version members) = false
parting (Message.LastIo to chosen) = false
parting (Message.Enable to version members) = false
parting (Message.Leave to mode) = true
parting (Message.Info to op member) = true

stage-parts : (x : Stage) (p : Pool) (id : ℕ) → parting (stage_awaits x p id) ≡ true
stage-parts Stage.Leave p id = refl
stage-parts (Stage.Info peer) p id = refl

pub job-parts : (j : Job) (p : Pool) → is_idle j ≡ false → is_running j ≡ false → parting (job_awaits j p) ≡ true
job-parts Job.Idle p i r = clash refl i
job-parts (Job.Running x) p i r = clash refl r
job-parts (Job.Removing d) p i r = stage-parts d.stage p d.id

module _ (m : ℕ) where
  -- an event at the node of an id
  pub one_kept : (f : ℕ → Station) (to : ℕ) (e : storage.Event) → brings e ≡ false → (f m).node.id ≡ m → Empty m (f m).map → Empty m (upd f to (does (f to) e).station m).map
  one_kept f to e b i k = split m to
      (λ q. subst (λ (n : ℕ). Empty m (upd f n (does (f n) e).station m).map) q
      (subst (λ (x : Station). Empty m x.map) (sym (real.upd_same f m (does (f m) e).station)) (row_kept m e (f m) b i k)))
      (λ q. subst (λ (x : Station). Empty m x.map) (sym (real.upd_other f to m (does (f to) e).station q)) k)

  -- the awaited message
  pub parts-kept : (ls : List ℕ) (x : Message) (f : ℕ → Station) → parting x ≡ true → (f m).node.id ≡ m → Empty m (f m).map → Empty m ((deliver ls x f).nodes m).map
  parts-kept ls Message.Nothing f p i k = clash p refl
  parts-kept ls (Message.GetVersion to) f p i k = clash p refl
  parts-kept ls (Message.Ready to keep) f p i k = clash p refl
  parts-kept ls (Message.Send from to) f p i k = clash p refl
  parts-kept ls (Message.Done to enable version members) f p i k = clash p refl
  parts-kept ls (Message.LastIo to chosen) f p i k = clash p refl
  parts-kept ls (Message.Enable to version members) f p i k = clash p refl
  parts-kept ls (Message.Leave to mode) f p i k = one_kept f to (storage.Event.leave (is_delete mode)) refl i k
  parts-kept ls (Message.Info to op member) f p i k = one_kept f to (storage.Event.pool_info op member) refl i k

  -- what an event of the client tells
  pub acted-kept : (x : Answer) (p : Pool) (got : ℕ) (w : World) → still (told_in x) ≡ true → (w.nodes m).node.id ≡ m → Empty m (w.nodes m).map → Empty m ((acted x p got w).nodes m).map
  acted-kept (Answer.Refused n) p got w q i k = k
  acted-kept (Answer.Done s) p got w q i k = either (λ (x : Station). Empty m x.map) (has got m) (after_all (due_to s.told m) (w.nodes m)) (w.nodes m) (told-kept m s.told (w.nodes m) q i k) k
