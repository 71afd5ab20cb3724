-- The lines that answer a command, each with its newline.
use Rattle.std.specs.Prelude.{Bool, List, [], ◌∷◌, ℕ, ◌+◌, ◌*◌, ltb, length, take, drop, Option, Some, None}
use Rattle.laws_words.specs.Words.{pick, one}
use Rattle.text_bytes.specs.Bytes.{bytes}
use Rattle.text_bytes.specs.Ink.{Ink, emit, emits, joined}
use Rattle.rules_pool.specs.declared.Pool.{Pool}
use Rattle.rules_client.specs.declared.Check.{Check}
use Rattle.rules_node.specs.declared.Node.{Node}
use Rattle.lab_form.specs.declared.Which.{Which}
use Rattle.lab_say.specs.Say.{paired}
use Rattle.lab_say_client.specs.Client.{client_text, look_text as Client·look_text}
use Rattle.lab_say.specs.NodeLine.{node_text, look_text}
use Rattle.lab_say.specs.Row.{row_text}
use Rattle.lab_say.specs.Text.{last_text}
use Rattle.lab_say_line.specs.declared.Said.{Said}

-- a text and its newline
abbrev pub ended : Ink → List ℕ → Ink
ended k s = emit (emits k s) 10

-- what a node answers to map check: its line, and whether its own row is empty
unfoldable pub asked_text : Node → Bool → List ℕ
asked_text n empty = joined (node_text n ∷ paired (bytes " empty=") (one empty) ∷ [])

-- what a node answers that is asked for the next dirty chunk: its line, and the chunk, or that there is none
unfoldable pub found_text : Option ℕ → List ℕ
found_text (Some c) = paired (bytes " next=") c
found_text None = bytes " next=none"

unfoldable pub next_text : Node → Option ℕ → List ℕ
next_text n f = joined (node_text n ∷ found_text f ∷ [])

-- what is said, p and check being the client's state and n the node's; a row is written apart
abbrev pub line_in : Ink → Said → Pool → Check → Node → Ink
line_in k Said.Nothing p check n = k
line_in k Said.Unreadable p check n = ended k (bytes "unreadable")
line_in k Said.Done p check n = ended k (bytes "done")
line_in k Said.Idle p check n = ended k (bytes "idle")
line_in k (Said.Refused why) p check n = ended k (paired (bytes "refused ") why)
line_in k (Said.Client sent) p check n = ended k (client_text p sent)
line_in k (Said.Node id) p check n = ended k (node_text n)
line_in k (Said.Asked id empty) p check n = ended k (asked_text n empty)
line_in k (Said.Next id found) p check n = ended k (next_text n found)
line_in k (Said.Row w m) p check n = k
line_in k Said.Look p check n = ended k (Client·look_text p check)
line_in k (Said.LookNode id) p check n = ended k (look_text n)
line_in k (Said.Record last) p check n = ended k (last_text last)

-- the row of member m in the nth map of xs; nothing where that map is not there
abbrev pub row_of : Ink → List ℕ → ℕ → ℕ → Ink
row_of k xs n m = pick (ltb 15 n) k (pick (ltb (length xs) (n * 8192 + 8192)) k (ended k (row_text (take 8192 (drop (n * 8192) xs)) m)))

abbrev pub row_in : Ink → Which → ℕ → List ℕ → List ℕ → List ℕ → Ink
row_in k Which.Client m own maps stagings = row_of k own 0 m
row_in k (Which.Node n) m own maps stagings = row_of k maps n m
row_in k (Which.Staging n) m own maps stagings = row_of k stagings n m
