-- What the library's calls do to the lent words and bytes of a node.
use Rattle.std.specs.Prelude.{Bool, ◌&&◌, ◌||◌, not, List, [], ◌∷◌, ℕ, eqb, ltb, Some, None}
use Rattle.laws_words.specs.Words.{pick, one}
use Rattle.event_words.specs.Calls.{error_of}
use Rattle.event.specs.declared.NodeEvent.{NodeEvent}
use Rattle.event.specs.declared.Question.{Question}
use Rattle.event_number.specs.Values.{op_of}
use Rattle.rules_node.specs.declared.Answer.{Answer}
use Rattle.node.specs.declared.StorageNode.{StorageNode}
use Rattle.node.specs.declared.Out.{Out}
use Rattle.node.specs.Face as Face
use Rattle.event_ask.specs.declared.ask.Finding.{Finding}
use Rattle.event_ask.specs.Ask.{finding_of}
use Rattle.event.specs.OfNode.{event_of}
use Rattle.event_words.specs.NodeWords.{packed, unpacked, known}

-- the event that four numbers stand for: k its kind
unfoldable pub numbered : ℕ → ℕ → ℕ → ℕ → NodeEvent
numbered k a b c =
    pick (eqb k 1) NodeEvent.RegisterCreate
    (pick (eqb k 2) (NodeEvent.RegisterAdd a b)
    (pick (eqb k 3) (NodeEvent.Unregister (eqb a 1))
    (pick (eqb k 4) (NodeEvent.JoinCreate a)
    (pick (eqb k 5) NodeEvent.JoinAssemble
    (pick (eqb k 6) (NodeEvent.Leave (eqb a 1))
    (pick (eqb k 7) (NodeEvent.Enable1 a b)
    (pick (eqb k 8) NodeEvent.Enable0
    (pick (eqb k 9) NodeEvent.Fault
    (pick (eqb k 10) (NodeEvent.Write a b c)
    (pick (eqb k 11) (NodeEvent.Synced a b)
    (pick (eqb k 12) (NodeEvent.PoolInfo (op_of a) b)
    (pick (eqb k 13) (NodeEvent.LastIo a)
    (pick (eqb k 14) (NodeEvent.MapReady (eqb a 1))
    (pick (eqb k 15) (NodeEvent.GivePart a b)
    (pick (eqb k 16) (NodeEvent.TakePart a 0 0)
    (pick (eqb k 17) (NodeEvent.MapDone (eqb a 1) b c)
    (pick (eqb k 18) NodeEvent.MapDisable
    (pick (eqb k 19) NodeEvent.MapGetVer
    (NodeEvent.Fill a b)))))))))))))))))))

-- 20 kinds; a flag is 0 or 1, what a POOL_INFO says 0 to 3
abbrev pub event_known : ℕ → ℕ → Bool
event_known k a =
    (ltb 0 k && ltb k 21) && ((not (eqb k 3 || (eqb k 6 || (eqb k 14 || eqb k 17))) || ltb a 2) && (not (eqb k 12) || ltb a 4))

-- accepted or not, the refusal, whether a number is answered, the number: of MAP_GET_VER the version
abbrev pub answer_words : Answer → List ℕ
answer_words (Answer.Refused n) = 0 ∷ n ∷ 0 ∷ 0 ∷ []
answer_words Answer.Done = 1 ∷ 0 ∷ 0 ∷ 0 ∷ []
answer_words (Answer.Version v) = 1 ∷ 0 ∷ 1 ∷ v ∷ []

-- the question that three numbers stand for: 1 map check, 2 the next dirty chunk of a member's row from a start on
abbrev pub asked : ℕ → ℕ → ℕ → Question
asked k a b = pick (eqb k 1) Question.MapCheck (Question.Next a b)

abbrev pub ask_known : ℕ → Bool
ask_known k = eqb k 1 || eqb k 2

-- as answer_words: of map check 1 where the row is empty, of the next dirty chunk that chunk, if there is one
abbrev pub finding_words : Finding → List ℕ
finding_words (Finding.Refused n) = 0 ∷ n ∷ 0 ∷ 0 ∷ []
finding_words (Finding.Empty empty) = 1 ∷ 0 ∷ 1 ∷ one empty ∷ []
finding_words (Finding.Next (Some chunk)) = 1 ∷ 0 ∷ 1 ∷ chunk ∷ []
finding_words (Finding.Next None) = 1 ∷ 0 ∷ 0 ∷ 0 ∷ []

-- the node that the lent words are read as
abbrev pub node_of : List ℕ → List ℕ → StorageNode
node_of ws ss = record { node = unpacked ws; summaries = ss }

-- ---- What is returned, and what the lent words and bytes are then. ws: the state. ss: the summaries. xs: the map. ys: staging. zs: the part that is taken. os: the out buffer.
abbrev pub returned : List ℕ → ℕ → ℕ → ℕ
returned ws k a = error_of (known ws) (event_known k a)

-- what the event answers
abbrev pub given : List ℕ → List ℕ → List ℕ → List ℕ → List ℕ → ℕ → ℕ → ℕ → ℕ → Out Answer
given ws ss xs ys zs k a b c = Face.answers (event_of (numbered k a b c) zs) (node_of ws ss) xs ys

unfoldable pub state_left : List ℕ → List ℕ → List ℕ → List ℕ → List ℕ → ℕ → ℕ → ℕ → ℕ → List ℕ
state_left ws ss xs ys zs k a b c = pick (eqb (returned ws k a) 0) (packed (given ws ss xs ys zs k a b c).node.node) ws

unfoldable pub summaries_left : List ℕ → List ℕ → List ℕ → List ℕ → List ℕ → ℕ → ℕ → ℕ → ℕ → List ℕ
summaries_left ws ss xs ys zs k a b c = pick (eqb (returned ws k a) 0) (given ws ss xs ys zs k a b c).node.summaries ss

unfoldable pub map_left : List ℕ → List ℕ → List ℕ → List ℕ → List ℕ → ℕ → ℕ → ℕ → ℕ → List ℕ
map_left ws ss xs ys zs k a b c = pick (eqb (returned ws k a) 0) (Face.map_left (event_of (numbered k a b c) zs) (node_of ws ss) xs ys) xs

unfoldable pub staging_left : List ℕ → List ℕ → List ℕ → List ℕ → List ℕ → ℕ → ℕ → ℕ → ℕ → List ℕ
staging_left ws ss xs ys zs k a b c = pick (eqb (returned ws k a) 0) (Face.staging_left (event_of (numbered k a b c) zs) (node_of ws ss) xs ys) ys

unfoldable pub out_left : List ℕ → List ℕ → List ℕ → List ℕ → List ℕ → ℕ → ℕ → ℕ → ℕ → List ℕ → List ℕ
out_left ws ss xs ys zs k a b c os = pick (eqb (returned ws k a) 0) (answer_words (given ws ss xs ys zs k a b c).answer) os

-- ---- A question.
abbrev pub ask_result : List ℕ → ℕ → ℕ
ask_result ws k = error_of (known ws) (ask_known k)

unfoldable pub ask_left : List ℕ → List ℕ → List ℕ → List ℕ → ℕ → ℕ → ℕ → List ℕ → List ℕ
ask_left ws ss xs ys k a b os = pick (eqb (ask_result ws k) 0) (finding_words (finding_of (asked k a b) (node_of ws ss) xs ys)) os

-- ---- A fresh node.
abbrev pub fresh_words : ℕ → ℕ → List ℕ
fresh_words id chunks = packed (Face.fresh_node id chunks).node

abbrev pub fresh_summaries : ℕ → ℕ → List ℕ
fresh_summaries id chunks = (Face.fresh_node id chunks).summaries
