-- A line of a history, its newline cut off, to its command.
use Rattle.std.specs.Prelude.{ℕ, Bool, true, ◌&&◌, ◌||◌, List, [], ◌∷◌, length, ltb, eqb, Option, Some, None}
use Rattle.std.specs.Bool.{then_some}
use Rattle.std.specs.Option.{option_or, unwrap_or}
use Rattle.laws_words.specs.Words.{pick}
use Rattle.text_words.specs.Lines.{line_of}
use Rattle.text_words.specs.declared.lines.Line.{Line}
use Rattle.text_words.specs.declared.names.Name.{Name}
use Rattle.lab_form.specs.declared.Form.{Form}
use Rattle.lab_form.specs.declared.Head.{Head}
use Rattle.lab_form.specs.declared.Which.{Which}
use Rattle.lab_form.specs.declared.Command.{Command}
use Rattle.lab_form.specs.Forms.{form_of, num}
use Rattle.rules_base.specs.Limits.{map_bytes}
use Rattle.event_number.specs.Values.{session_of, maybe_session}
use Rattle.event_words.specs.NodeWords.{state_of}
use Rattle.lab_command.specs.Events.{client_events, check_events, search_events, whole_events, store_events, service_events, transfer_events}

-- The dirty chunks of a member, and how much of a map is lent.
unfoldable pub looks : Head → Form → Option Command
looks (Head.Pair Name.Row Name.Client) f = then_some (eqb f.count 3 && ltb (num f 2) 16) (Command.Row Which.Client (num f 2))
looks (Head.Plain Name.Row) f = then_some (eqb f.count 3 && (ltb (num f 1) 16 && ltb (num f 2) 16)) (Command.Row (Which.Node (num f 1)) (num f 2))
looks (Head.Plain Name.Staging) f = then_some (eqb f.count 3 && (ltb (num f 1) 16 && ltb (num f 2) 16)) (Command.Row (Which.Staging (num f 1)) (num f 2))
looks (Head.Pair Name.Lend Name.Client) f = then_some (eqb f.count 3 && ltb (num f 2) 8193) (Command.Lend Which.Client (num f 2))
looks (Head.Plain Name.Lend) f = then_some (eqb f.count 3 && (ltb (num f 1) 16 && ltb (num f 2) 8193)) (Command.Lend (Which.Node (num f 1)) (num f 2))
looks (Head.Plain Name.LendStaging) f = then_some (eqb f.count 3 && (ltb (num f 1) 16 && ltb (num f 2) 8193)) (Command.Lend (Which.Staging (num f 1)) (num f 2))
looks _ f = None

-- A byte stored in a map, and a number put into the client's state.
unfoldable pub stores : Head → Form → Option Command
stores (Head.Pair Name.Byte Name.Client) f = then_some (eqb f.count 4 && (ltb (num f 2) 8192 && ltb (num f 3) 256)) (Command.Byte Which.Client (num f 2) (num f 3))
stores (Head.Plain Name.Byte) f = then_some (eqb f.count 4 && (ltb (num f 1) 16 && (ltb (num f 2) 8192 && ltb (num f 3) 256))) (Command.Byte (Which.Node (num f 1)) (num f 2) (num f 3))
stores (Head.Plain Name.StagingByte) f = then_some (eqb f.count 4 && (ltb (num f 1) 16 && (ltb (num f 2) 8192 && ltb (num f 3) 256))) (Command.Byte (Which.Staging (num f 1)) (num f 2) (num f 3))
stores (Head.Pair Name.Poke Name.Version) f = then_some (eqb f.count 3) (Command.PokeVersion (num f 2))
stores (Head.Pair Name.Poke Name.Count) f = then_some (eqb f.count 3 && ltb (num f 2) 65536) (Command.PokeCount (num f 2))
stores (Head.Pair Name.Poke Name.Chunks) f = then_some (eqb f.count 3 && ltb (num f 2) 65536) (Command.PokeChunks (num f 2))
stores (Head.Pair Name.Poke Name.Members) f = then_some (eqb f.count 3 && ltb (num f 2) 65536) (Command.PokeMembers (num f 2))
stores _ f = None

-- 0 nothing in hand, 1 in hand and nothing taken, 2 in hand and the whole map taken
abbrev pub transfer_of : ℕ → Option ℕ
transfer_of x = pick (eqb x 0) None (pick (eqb x 1) (Some 0) (Some map_bytes))

-- A session put into the client's state, and a node's state.
unfoldable pub pokes : Head → Form → Option Command
pokes (Head.Pair Name.Poke Name.Session) f = then_some (eqb f.count 8 && (ltb (num f 2) 16 && maybe_session (num f 3) (num f 4) (num f 5) (num f 6) (num f 7))) (Command.PokeSession (num f 2) (session_of (num f 3) (num f 4) (num f 5) (num f 6) (num f 7)))
pokes (Head.Plain Name.PokeNode) f = then_some (eqb f.count 8 && (ltb (num f 1) 16 && (ltb (num f 2) 5 && (ltb (num f 3) 2 && (ltb (num f 4) 2 && (ltb (num f 5) 65536 && ltb (num f 7) 3)))))) (Command.PokeNode (num f 1) (state_of (num f 2)) (eqb (num f 3) 1) (eqb (num f 4) 1) (num f 5) (num f 6) (transfer_of (num f 7)))
pokes _ f = None

-- The further fields of the pool and of a node: what they are, put into them; and how long the parts of a map are.
unfoldable pub fields : Head → Form → Option Command
fields (Head.Plain Name.Look) f = option_or (then_some (eqb f.count 1) Command.Look) (then_some (eqb f.count 2 && ltb (num f 1) 16) (Command.LookNode (num f 1)))
fields (Head.Plain Name.PokeGot) f = then_some (eqb f.count 3 && (ltb (num f 1) 16 && ltb (num f 2) 65536)) (Command.PokeGot (num f 1) (num f 2))
fields (Head.Pair Name.Poke Name.Written) f = then_some (eqb f.count 3 && ltb (num f 2) 2) (Command.PokeWritten (eqb (num f 2) 1))
fields (Head.Pair Name.Poke Name.Assembled) f = then_some (eqb f.count 3 && ltb (num f 2) 2) (Command.PokeAssembled (eqb (num f 2) 1))
fields (Head.Plain Name.Cut) f = then_some (eqb f.count 2 && (ltb 0 (num f 1) && ltb (num f 1) 1025)) (Command.Cut (num f 1))
fields _ f = None

-- What map check knows, put into the client; and the record of its last event, looked at.
unfoldable pub checks : Head → Form → Option Command
checks (Head.Plain Name.Record) f = then_some (eqb f.count 1) Command.Record
checks (Head.Pair Name.Poke Name.Tick) f = then_some (eqb f.count 3 && ltb (num f 2) 4294967296) (Command.PokeTick (num f 2))
checks (Head.Pair Name.Poke Name.Due) f = then_some (eqb f.count 3 && ltb (num f 2) 65536) (Command.PokeDue (num f 2))
checks (Head.Pair Name.Poke Name.Once) f = then_some (eqb f.count 3 && ltb (num f 2) 65536) (Command.PokeOnce (num f 2))
checks _ f = None

-- A word put into a node's summaries.
unfoldable pub words : Head → Form → Option Command
words (Head.Plain Name.Summary) f = then_some (eqb f.count 4 && (ltb (num f 1) 16 && ltb (num f 2) 96)) (Command.Summary (num f 1) (num f 2) (num f 3))
words _ f = None

-- What a line of words says. Each form stands once, and no two have the same words, so the order is free.
unfoldable pub said : Form → Command
said f = unwrap_or (option_or (option_or (option_or (option_or (option_or (option_or (option_or (option_or (option_or (option_or (option_or (option_or (client_events f.head f) (check_events f.head f)) (search_events f.head f)) (whole_events f.head f)) (transfer_events f.head f)) (service_events f.head f)) (store_events f.head f)) (stores f.head f)) (looks f.head f)) (pokes f.head f)) (fields f.head f)) (checks f.head f)) (words f.head f)) Command.Unreadable

abbrev pub meaning : Line → Command
meaning l = said (form_of l)

-- An empty line is passed over, and one that begins with # (35), a comment, or with > (62), an answer that is expected.
abbrev pub marks : ℕ → Bool
marks b = eqb b 35 || eqb b 62

abbrev pub passed_over : List ℕ → Bool
passed_over [] = true
passed_over (b ∷ s) = marks b

-- The command of a line. One longer than 255 bytes is unreadable.
unfoldable pub command_of : List ℕ → Command
command_of s = pick (passed_over s) Command.Passed (pick (ltb 255 (length s)) Command.Unreadable (meaning (line_of s)))
