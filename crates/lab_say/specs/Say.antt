-- What is written: messages, each after a bar, its numbers after spaces.
use Rattle.std.specs.Prelude.{ℕ, suc, zero, List, [], ◌∷◌, ◌++◌, map}
use Rattle.laws_words.specs.Words.{pick, one}
use Rattle.rules_base.specs.Sets.{has}
use Rattle.text_bytes.specs.Bytes.{bytes}
use Rattle.text_bytes.specs.Ink.{decimal, joined}
use Rattle.rules_base.specs.declared.Op.{Op}
use Rattle.rules_pool.specs.declared.Message.{Message}
use Rattle.rules_pool.specs.declared.Told.{Told}
use Rattle.rules_pool.specs.Session.{is_nothing}
use Rattle.event_number.specs.Values.{op_number, mode_number}

-- a space and a number
unfoldable pub spaced : ℕ → List ℕ
spaced n = 32 ∷ decimal n

-- bytes and then numbers, each after a space
abbrev pub said : List ℕ → List ℕ → List ℕ
said s ns = joined (s ∷ map spaced ns)

-- a text and a number, with nothing between
abbrev pub paired : List ℕ → ℕ → List ℕ
paired s n = joined (s ∷ decimal n ∷ [])

-- The awaited message.
abbrev pub message_text : Message → List ℕ
message_text Message.Nothing = []
message_text (Message.GetVersion to) = said (bytes " | MAP_GET_VER") (to ∷ [])
message_text (Message.Ready to keep) = said (bytes " | MAP_READY") (to ∷ one keep ∷ [])
message_text (Message.Send to receiver) = said (bytes " | MAP_SEND") (to ∷ receiver ∷ [])
message_text (Message.Done to enable version set) = said (bytes " | MAP_DONE") (to ∷ one enable ∷ version ∷ set ∷ [])
message_text (Message.LastIo to chosen) = said (bytes " | LAST_IO") (to ∷ chosen ∷ [])
message_text (Message.Enable to version set) = said (bytes " | ENABLE") (to ∷ 1 ∷ version ∷ set ∷ [])
message_text (Message.Leave to mode) = said (bytes " | LEAVE") (to ∷ mode_number mode ∷ [])
message_text (Message.Info to op member) = said (bytes " | POOL_INFO") (to ∷ op_number op ∷ member ∷ [])

-- The awaited message with its number.
unfoldable pub awaited_text : Message → ℕ → List ℕ
awaited_text m number = pick (is_nothing m) [] (joined (message_text m ∷ bytes " #" ∷ decimal number ∷ []))

-- The message that is not awaited to the id i, where the set it goes to has i; of Extended the fill.
abbrev pub told_to : Told → ℕ → List ℕ
told_to Told.Nothing i = []
told_to (Told.Marks set chunk list version) i = pick (has set i) (said (bytes " | MARK") (i ∷ chunk ∷ list ∷ version ∷ [])) []
told_to (Told.Clears set member chunk) i = pick (has set i) (said (bytes " | CLEAR") (i ∷ member ∷ chunk ∷ [])) []
told_to (Told.Infos set op member) i = pick (has set i) (said (bytes " | POOL_INFO") (i ∷ op_number op ∷ member ∷ [])) []
told_to (Told.Disable to) i = []
told_to (Told.Off to) i = []
told_to (Told.Extended others normals member version) i = pick (has normals i) (said (bytes " | FILL") (i ∷ member ∷ version ∷ [])) []
told_to (Told.Checks set tick) i = pick (has set i) (said (bytes " | MAP_CHECK") (i ∷ tick ∷ [])) []

-- n texts, from the one of i on, joined
abbrev pub each : (ℕ → List ℕ) → ℕ → ℕ → List ℕ
each f zero i = []
each f (suc n) i = f i ++ each f n (suc i)

-- The messages that are not awaited, ascending by where they go. Extended: all POOL_INFO before the fills.
unfoldable pub told_text : Told → List ℕ
told_text Told.Nothing = []
told_text (Told.Marks set chunk list version) = each (told_to (Told.Marks set chunk list version)) 16 0
told_text (Told.Clears set member chunk) = each (told_to (Told.Clears set member chunk)) 16 0
told_text (Told.Infos set op member) = each (told_to (Told.Infos set op member)) 16 0
told_text (Told.Disable to) = said (bytes " | MAP_DISABLE") (to ∷ [])
told_text (Told.Off to) = said (bytes " | ENABLE") (to ∷ 0 ∷ [])
told_text (Told.Extended others normals member version) =
    each (told_to (Told.Infos others Op.AddCreate member)) 16 0 ++ each (told_to (Told.Extended others normals member version)) 16 0
told_text (Told.Checks set tick) = each (told_to (Told.Checks set tick)) 16 0
