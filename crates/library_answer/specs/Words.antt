-- The words of a client's answer.
use Rattle.std.specs.Prelude.{List, [], ◌∷◌, ℕ, replicate, get_or}
use Rattle.laws_words.specs.Words.{one}
use Rattle.rules_pool.specs.declared.Outcome.{Outcome}
use Rattle.rules_pool.specs.declared.Told.{Told}
use Rattle.rules_pool.specs.declared.Message.{Message}
use Rattle.rules_pool.specs.declared.Sent.{Sent}
use Rattle.rules_pool.specs.declared.Answer.{Answer}
use Rattle.event_number.specs.Values.{op_number, mode_number}

abbrev pub outcome_words : Outcome → List ℕ
outcome_words Outcome.Plain = 0 ∷ 0 ∷ 0 ∷ []
outcome_words (Outcome.Taken n) = 1 ∷ n ∷ 0 ∷ []
outcome_words (Outcome.Written acked list) = 2 ∷ one acked ∷ list ∷ []
outcome_words (Outcome.Picked id) = 3 ∷ id ∷ 0 ∷ []

abbrev pub told_words : Told → List ℕ
told_words Told.Nothing = 0 ∷ 0 ∷ 0 ∷ 0 ∷ 0 ∷ []
told_words (Told.Marks set chunk list version) = 1 ∷ set ∷ chunk ∷ list ∷ version ∷ []
told_words (Told.Clears set member chunk) = 2 ∷ set ∷ member ∷ chunk ∷ 0 ∷ []
told_words (Told.Infos set op member) = 3 ∷ set ∷ op_number op ∷ member ∷ 0 ∷ []
told_words (Told.Disable to) = 4 ∷ to ∷ 0 ∷ 0 ∷ 0 ∷ []
told_words (Told.Off to) = 5 ∷ to ∷ 0 ∷ 0 ∷ 0 ∷ []
told_words (Told.Extended others normals member version) = 6 ∷ others ∷ normals ∷ member ∷ version ∷ []
told_words (Told.Checks set tick) = 7 ∷ set ∷ tick ∷ 0 ∷ 0 ∷ []

abbrev pub message_words : Message → List ℕ
message_words Message.Nothing = 0 ∷ 0 ∷ 0 ∷ 0 ∷ 0 ∷ []
message_words (Message.GetVersion to) = 1 ∷ to ∷ 0 ∷ 0 ∷ 0 ∷ []
message_words (Message.Ready to keep) = 2 ∷ to ∷ one keep ∷ 0 ∷ 0 ∷ []
message_words (Message.Send to receiver) = 3 ∷ to ∷ receiver ∷ 0 ∷ 0 ∷ []
message_words (Message.Done to enable version members) = 4 ∷ to ∷ one enable ∷ version ∷ members ∷ []
message_words (Message.LastIo to chosen) = 5 ∷ to ∷ chosen ∷ 0 ∷ 0 ∷ []
message_words (Message.Enable to version members) = 6 ∷ to ∷ version ∷ members ∷ 0 ∷ []
message_words (Message.Leave to mode) = 7 ∷ to ∷ mode_number mode ∷ 0 ∷ 0 ∷ []
message_words (Message.Info to op member) = 8 ∷ to ∷ op_number op ∷ member ∷ 0 ∷ []

-- outcome, told and awaited one after the other
abbrev pub joined : List ℕ → List ℕ → List ℕ → ℕ → List ℕ
joined o t m n = 1 ∷ 0 ∷ get_or o 0 0 ∷ get_or o 1 0 ∷ get_or o 2 0 ∷ get_or t 0 0 ∷ get_or t 1 0 ∷ get_or t 2 0 ∷ get_or t 3 0 ∷ get_or t 4 0 ∷ get_or m 0 0 ∷ get_or m 1 0 ∷ get_or m 2 0 ∷ get_or m 3 0 ∷ get_or m 4 0 ∷ n ∷ []

unfoldable pub sent_words : Sent → List ℕ
sent_words s = joined (outcome_words s.outcome) (told_words s.told) (message_words s.awaited) s.number

abbrev pub answer_words : Answer → List ℕ
answer_words (Answer.Refused n) = 0 ∷ n ∷ replicate 14 0
answer_words (Answer.Done s) = sent_words s
