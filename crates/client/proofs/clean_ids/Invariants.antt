use Rattle.rules_client.specs.Client.{clean_to}
use mathlib.Core.Path.{◌≡◌}
use Rattle.client.proofs.clean_ids.Given as goal

abbrev pub invariant-loop-m : goal.invariant-loop-m
invariant-loop-m l = l.ids ≡ clean_to l.map l.chunk l.m
