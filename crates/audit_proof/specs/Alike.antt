-- No rule but refusals 2 and 4 looks at the chunk count.
use Rattle.std.specs.Prelude.{◌≡◌, Bool, false, ◌||◌, ℕ, ◌≤◌, eqb}
use Rattle.rules_base.specs.Limits.{chunk_limit}
use Rattle.rules_pool.specs.declared.Pool.{Pool}
use Rattle.rules_pool.specs.declared.Answer.{Answer}
use Rattle.rules_client.specs.Events.{Event, turn_of, next}

-- the pool with another chunk count
abbrev pub with_chunks : ℕ → Pool → Pool
with_chunks n p = record { roster = p.roster; job = p.job; number = p.number; chunks = n }

-- refused for the chunk count: 2 or 4
abbrev pub by_the_count : Answer → Bool
by_the_count (Answer.Refused k) = eqb k 2 || eqb k 4
by_the_count (Answer.Done s) = false

-- Two pools that are equal but for the chunk count take every event alike, unless one of them refuses it with 2 or 4: the answers are equal, and so are the next pools but for the chunk count.
abbrev pub Alike : Type 0
Alike = (e : Event) (c : Pool) (n : ℕ) → 1 ≤ c.chunks → c.chunks ≤ chunk_limit → 1 ≤ n → n ≤ chunk_limit
    → by_the_count (turn_of e c).answer ≡ false → by_the_count (turn_of e (with_chunks n c)).answer ≡ false
    → ((turn_of e (with_chunks n c)).answer ≡ (turn_of e c).answer) × (next e (with_chunks n c) ≡ with_chunks n (next e c))
