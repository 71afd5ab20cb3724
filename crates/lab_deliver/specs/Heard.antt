-- What the client hears of a message that was delivered, and which of its own messages go out.
use Rattle.std.specs.Prelude.{Bool, ℕ, eqb, Option, Some, None}
use Rattle.laws_words.specs.Words.{pick}
use Rattle.rules_pool.specs.declared.Message.{Message}
use Rattle.rules_pool.specs.declared.Told.{Told}
use Rattle.rules_pool.specs.Session.{is_nothing}
use Rattle.rules_client.specs.declared.Check.{Check}
use Rattle.rules_node.specs.declared.Answer.{Answer}
use Rattle.event.specs.declared.Event.{Event}
use Rattle.event_ask.specs.declared.ask.Finding.{Finding}
use Rattle.lab_deliver.specs.Post.{reply_of}
use Rattle.lab_deliver.specs.Delivery.{check_asked, check_answer}

-- the answer to the awaited message, under its number; nothing where none is awaited
abbrev pub to_awaited : Message → ℕ → Answer → Option Event
to_awaited m number a = pick (is_nothing m) None (Some (Event.Answer number (reply_of a)))

-- what the lowest due member found at a map check; nothing where nobody is due
abbrev pub to_check : Check → Finding → Option Event
to_check k f = pick (eqb k.due 0) None (Some (check_answer k (check_asked k) f))

-- the messages that are not awaited go to their nodes where auto is on
abbrev pub told_if : Bool → Told → Told
told_if auto t = pick auto t Told.Nothing
