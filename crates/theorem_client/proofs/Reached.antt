-- The pool of a reached client is a reached pool.
use mathlib.Core.Path.{◌≡◌, refl, ap}
use mathlib.Core.List.{List}
use Rattle.rules_client.specs.Client.{Client}
use Rattle.theorem_client.specs.Demand2 as pool
use Rattle.rules_client.specs.ClientEvents.{Event}
use Rattle.theorem_client.specs.Reached.{Reached, PoolReached, PoolStays}

pub pool-stays : PoolStays
pool-stays = ((λ c xs. refl), (λ c xs number m empty. refl))

pub pool-reached : PoolReached
pool-reached _ (Reached.start sync chunks a b) = pool.Reached.start sync chunks a b
pool-reached _ (Reached.then c (Event.of_pool e) h) = pool.Reached.then c.pool e (pool-reached c h)
pool-reached _ (Reached.then c (Event.tick xs) h) = pool-reached c h
pool-reached _ (Reached.then c (Event.check_answer xs number m empty) h) = pool-reached c h
