-- What the library's calls do to the lent words and bytes of a client.
use Rattle.std.specs.Prelude.{Bool, ◌&&◌, ◌||◌, not, List, ℕ, eqb, ltb, Some, None}
use Rattle.laws_words.specs.Words.{pick}
use Rattle.event_words.specs.Calls.{error_of}
use Rattle.rules_pool.specs.declared.Mode.{Mode}
use Rattle.rules_pool.specs.declared.Reply.{Reply}
use Rattle.event.specs.declared.Event.{Event}
use Rattle.client.specs.declared.Out.{Out}
use Rattle.client.specs.Client as Face
use Rattle.rules_client.specs.ClientEvents.{out_of}
use Rattle.event.specs.OfClient.{event_of, own_left}
use Rattle.library_client_words.specs.ClientWords.{packed, unpacked, known}
use Rattle.library_answer.specs.Words.{answer_words}

-- the event that four numbers stand for: k its kind, 1 to 15 those of a log record
unfoldable pub numbered : ℕ → ℕ → ℕ → ℕ → Event
numbered k a b c =
    pick (eqb k 1) (Event.JoinCreate a)
    (pick (eqb k 2) (Event.JoinAssemble a b c)
    (pick (eqb k 3) (Event.Enable a)
    (pick (eqb k 4) (Event.Maintenance a)
    (pick (eqb k 5) (Event.LinkDown a)
    (pick (eqb k 6) (Event.StoreCheck a)
    (pick (eqb k 7) (Event.Remove a Mode.Delete)
    (pick (eqb k 8) (Event.Remove a Mode.Disassemble)
    (pick (eqb k 9) (Event.Write a b)
    (pick (eqb k 10) Event.Try
    (pick (eqb k 11) (Event.Answer a (Reply.Good None))
    (pick (eqb k 12) (Event.Answer a (Reply.Good (Some b)))
    (pick (eqb k 13) (Event.Answer a Reply.Failed)
    (pick (eqb k 14) (Event.Rejoin a)
    (pick (eqb k 15) Event.Extend
    (pick (eqb k 16) (Event.Synced a b 0)
    (pick (eqb k 17) Event.Tick
    (Event.CheckAnswer a b (eqb c 1))))))))))))))))))

-- 18 kinds; whether a checked row is empty is 0 or 1
abbrev pub event_known : ℕ → ℕ → Bool
event_known k c = (ltb 0 k && ltb k 19) && (not (eqb k 18) || ltb c 2)

-- ---- What is returned, and what the lent words and bytes are then. ws: the state. xs: the client's map. zs: the map that synced reads. os: the out buffer.
abbrev pub returned : List ℕ → ℕ → ℕ → ℕ
returned ws k c = error_of (known ws) (event_known k c)

-- what the event hands back
abbrev pub given : List ℕ → List ℕ → List ℕ → ℕ → ℕ → ℕ → ℕ → Out
given ws xs zs k a b c = Face.given (out_of (event_of (numbered k a b c) xs zs) (Face.held (unpacked ws)))

unfoldable pub state_left : List ℕ → List ℕ → List ℕ → ℕ → ℕ → ℕ → ℕ → List ℕ
state_left ws xs zs k a b c = pick (eqb (returned ws k c) 0) (packed (given ws xs zs k a b c).client) ws

unfoldable pub map_left : List ℕ → List ℕ → ℕ → ℕ → ℕ → ℕ → List ℕ
map_left ws xs k a b c = pick (eqb (returned ws k c) 0) (own_left (numbered k a b c) (Face.held (unpacked ws)) xs) xs

unfoldable pub out_left : List ℕ → List ℕ → List ℕ → ℕ → ℕ → ℕ → ℕ → List ℕ → List ℕ
out_left ws xs zs k a b c os = pick (eqb (returned ws k c) 0) (answer_words (given ws xs zs k a b c).answer) os

unfoldable pub fresh_left : List ℕ → ℕ → ℕ → List ℕ
fresh_left ws sync chunks = pick (ltb 1 sync) ws (packed (Face.fresh (eqb sync 1) chunks))
