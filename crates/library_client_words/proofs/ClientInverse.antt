-- Packing and reading are inverse.
use Rattle.std.specs.Prelude.{Result, Ok, Err, OkIff}
use Rattle.std.specs.Result.{result_unwrap_or}
use mathlib.Core.Path.{◌≡◌, refl, ◌∙◌}
use mathlib.Core.Bool.{true}
use mathlib.Core.List.{List}
use Prim.Native.Nat.{ℕ, ◌+◌, ◌<◌}
use lib.Dec.{eqb, ltb}
use Rattle.std.specs.Cmp.Lexicographic.{pointwise}
use Rattle.event_words.specs.Same.{same_to, within}
use Rattle.laws_words.specs.Tests.{by_cases}
use Rattle.event_words.proofs.Alike as alike
use Rattle.event_words.proofs.Laws as laws
use native.Mathlib.Omega.{arith}
use lib.ListN.{length, take, drop, length-map, length-drop}
use borrow.Author.Tests.{lt-ltb, ltb-true}
use Rattle.event_words.proofs.Alike.{same_refl, same-all, read_one}
use Rattle.library_client_words.specs.PoolWords.{session_word, session_in}
use Rattle.library_client_words.proofs.PoolInverse.{read-sessions, read-job}
use Rattle.client.specs.declared.Client.{Client}
use Rattle.client.specs.Client.{fresh}
use Rattle.library_client_words.specs.ClientWords.{packed, unpacked, known}
use Rattle.library_client_words.specs.Inverse.{ReadPacked, PackedKnown, FreshKnown, KnownPacked}

pub read-packed : ReadPacked
unfolding packed unpacked
read-packed c t =
    rw (read-sessions c.pool.roster.sessions, read_one c.pool.roster.sync, read_one c.pool.roster.past.written, read_one c.pool.roster.past.assembled, read-job c.pool.job, lt-ltb _ _ t.number, lt-ltb _ _ t.tick, lt-ltb _ _ t.due, lt-ltb _ _ t.once)

pub packed-known : PackedKnown
unfolding known
packed-known c t = rw (read-packed c t) (same_refl (packed c) 32)

pub fresh-known : FreshKnown
fresh-known sync chunks = packed-known (fresh sync chunks) (record { number = omega arith; tick = omega arith; due = omega arith; once = omega arith })

packed-length : (c : Client) → length (packed c) ≡ 16 + length c.pool.roster.sessions
unfolding packed
packed-length c = rw (length-map c.pool.roster.sessions session_word) (omega arith)

pub known-packed : KnownPacked
unfolding known unpacked
known-packed ws g e =
    same-all ws (packed (unpacked ws)) 32 g (packed-length (unpacked ws) ∙ rw (length-map (drop 16 ws) session_in, length-drop 16 ws, g) refl) e

-- the words of a client are known, as the code packs them
pub known_of : (c : Client) → c.pool.number < 4294967296 → c.check.tick < 4294967296 → c.check.due < 65536 → c.check.once < 65536 → known (packed c) ≡ true
known_of c n t d o = packed-known c (record { number = n; tick = t; due = d; once = o })

-- the rest of 32 words, as the code cuts it
pub last_16 : (ws : List ℕ) → length ws ≡ 32 → take 16 (drop 16 ws) ≡ drop 16 ws
last_16 = laws.last_16

-- what `==` of 32 words says
pub same_32 : (xs ys : List ℕ) → length xs ≡ 32 → length ys ≡ 32 → pointwise eqb xs ys ≡ same_to xs ys 32
same_32 = alike.same_arrays

-- a number that fits, else 0, as the code reads it
pub low : {E : Type 0} (w bound : ℕ) (r : Result ℕ E) → OkIff r (w < bound) w → result_unwrap_or r 0 ≡ within bound w
low w bound (Ok x) h = rw (h.1, lt-ltb w bound h.0) refl
low w bound (Err e) h = by_cases (ltb w bound) (λ t. absurd (h (ltb-true w bound t))) (λ t. rw t refl)
