-- Every event that the theorems speak of is that of a call.
use mathlib.Core.Path.{refl}
use mathlib.Core.List.{[]}
use Rattle.event.specs.declared.Event as value
use Rattle.rules_client.specs.Events as pool
use Rattle.rules_client.specs.ClientEvents.{Event}
use Rattle.event.specs.OfClient.{Called}

pub called : (e : Event) → Called e
called (Event.of_pool (pool.Event.join_create id)) = record { call = value.Event.JoinCreate id; xs = []; zs = []; is = refl }
called (Event.of_pool (pool.Event.join_assemble id set version)) = record { call = value.Event.JoinAssemble id set version; xs = []; zs = []; is = refl }
called (Event.of_pool (pool.Event.enable id)) = record { call = value.Event.Enable id; xs = []; zs = []; is = refl }
called (Event.of_pool (pool.Event.maintenance id)) = record { call = value.Event.Maintenance id; xs = []; zs = []; is = refl }
called (Event.of_pool (pool.Event.link_down id)) = record { call = value.Event.LinkDown id; xs = []; zs = []; is = refl }
called (Event.of_pool (pool.Event.store_check id)) = record { call = value.Event.StoreCheck id; xs = []; zs = []; is = refl }
called (Event.of_pool (pool.Event.rejoin id)) = record { call = value.Event.Rejoin id; xs = []; zs = []; is = refl }
called (Event.of_pool pool.Event.try_run) = record { call = value.Event.Try; xs = []; zs = []; is = refl }
called (Event.of_pool (pool.Event.remove xs id mode)) = record { call = value.Event.Remove id mode; xs = xs; zs = []; is = refl }
called (Event.of_pool (pool.Event.write xs chunk reached)) = record { call = value.Event.Write chunk reached; xs = xs; zs = []; is = refl }
called (Event.of_pool (pool.Event.synced zs member chunk)) = record { call = value.Event.Synced member chunk 0; xs = []; zs = zs; is = refl }
called (Event.of_pool (pool.Event.answer xs number a)) = record { call = value.Event.Answer number a; xs = xs; zs = []; is = refl }
called (Event.of_pool (pool.Event.extend xs)) = record { call = value.Event.Extend; xs = xs; zs = []; is = refl }
called (Event.tick xs) = record { call = value.Event.Tick; xs = xs; zs = []; is = refl }
called (Event.check_answer xs number m empty) = record { call = value.Event.CheckAnswer number m empty; xs = xs; zs = []; is = refl }
