-- Worked runs of the tester's table: the messages in the order of sending, and the answers taken.
use Rattle.std.specs.Prelude.{Option, Some, None}
use Rattle.rules_pool.specs.declared.Run.{Run}
use mathlib.Core.Path.{◌≡◌, refl}
use mathlib.Core.Bool.{true, false}
use mathlib.Core.List.{List, [], ◌∷◌}
use Prim.Native.Nat.{ℕ, zero, suc}
use Rattle.laws_words.specs.Words.{bit}
use Rattle.rules_base.specs.Limits.{answer_limit}
use Rattle.rules_base.specs.Sets.{has, without, size, lowest}
use Rattle.rules_pool.specs.declared.Phase.{Phase}
use Rattle.rules_pool.specs.declared.Reply.{Reply}
use Rattle.rules_pool.specs.declared.Message.{Message}
use Rattle.rules_pool.specs.Run.{receiver, failed_answer, good, takes, awaited_in}
use Rattle.rules_pool.specs.Still.{possible}

-- the message that is awaited, what an answer does, and the count with it
abbrev pub awaited_by : ℕ → ℕ → Option Run → Message
awaited_by members version None = Message.Nothing
awaited_by members version (Some r) = awaited_in members version r

abbrev pub answered_by : ℕ → ℕ → Option Run → Reply → Option Run
answered_by members version None a = None
answered_by members version (Some r) a = (takes members version r a).next

abbrev pub counted_by : ℕ → ℕ → ℕ → Option Run → Reply → ℕ
counted_by members version taken None a = taken
counted_by members version taken (Some r) a = (takes members version r a).taken

-- the messages that a run awaits, one after the other (Nothing once it is over), and the count at the end
abbrev pub messages : ℕ → ℕ → Option Run → List Reply → List Message
messages members version n [] = awaited_by members version n ∷ []
messages members version n (a ∷ rs) = awaited_by members version n ∷ messages members version (answered_by members version n a) rs

abbrev pub counts : ℕ → ℕ → ℕ → Option Run → List Reply → ℕ
counts members version taken n [] = taken
counts members version taken n (a ∷ rs) = counts members version (counted_by members version taken n a) (answered_by members version n a) rs

abbrev fine : Reply
fine = Reply.Good None

abbrev told : ℕ → Reply
told v = Reply.Good (Some v)

abbrev fines : ℕ → List Reply
fines zero = []
fines (suc n) = fine ∷ fines n

-- case 2: 1 is marked, 0 receives
abbrev two : Option Run
two = Some (record { phase = Phase.Enable false; source = 1; left = 1; taken = 0 })

-- case 3: 0 and 1
abbrev three : Option Run
three = Some (record { phase = Phase.Versions 0; source = 0; left = 3; taken = 0 })

-- ENABLE 1, READY 0, SEND 1, DONE 0; 4 answers
case-2 :
    (messages 3 3 two (fines 4) ≡ Message.Enable 1 3 3 ∷ Message.Ready 0 false ∷ Message.Send 1 0 ∷ Message.Done 0 true 3 3 ∷ Message.Nothing ∷ [])
    × (counts 3 3 0 two (fines 4) ≡ 4)
unfolding good failed_answer receiver awaited_in lowest without has bit
case-2 = (refl, refl)

-- GET 0, GET 1, READY 0, SEND 1, DONE 0, LAST_IO 0, LAST_IO 1, READY 1 (keep), SEND 0, DONE 1, ENABLE 1, READY 0, SEND 1, DONE 0 (enable); 14 answers
case-3 :
    (messages 3 3 three (told 2 ∷ told 3 ∷ fines 12) ≡ Message.GetVersion 0 ∷ Message.GetVersion 1
    ∷ Message.Ready 0 false ∷ Message.Send 1 0 ∷ Message.Done 0 false 3 3
    ∷ Message.LastIo 0 1 ∷ Message.LastIo 1 1
    ∷ Message.Ready 1 true ∷ Message.Send 0 1 ∷ Message.Done 1 false 3 3
    ∷ Message.Enable 1 3 3
    ∷ Message.Ready 0 false ∷ Message.Send 1 0 ∷ Message.Done 0 true 3 3 ∷ Message.Nothing ∷ [])
    × (counts 3 3 0 three (told 2 ∷ told 3 ∷ fines 12) ≡ 14)
unfolding good failed_answer receiver awaited_in lowest without has bit
case-3 = (refl, refl)

-- a tie goes to the lowest id; one member alone takes 3 answers
case-3-tie : messages 3 3 three (told 3 ∷ told 3 ∷ []) ≡ Message.GetVersion 0 ∷ Message.GetVersion 1 ∷ Message.Ready 1 false ∷ []
unfolding good failed_answer receiver awaited_in lowest without has bit
case-3-tie = refl

alone : counts 4 9 0 (Some (record { phase = Phase.Versions 0; source = 2; left = 4; taken = 0 })) (told 9 ∷ fines 2) ≡ 3
unfolding good failed_answer receiver awaited_in lowest without has bit
alone = refl

-- a failed answer to MAP_DONE without enable ends the run, and so does a version above the pool's: the count is raised
fails-base : counts 3 3 0 three (told 2 ∷ told 3 ∷ fine ∷ fine ∷ Reply.Failed ∷ fines 9) ≡ 5
unfolding good failed_answer receiver awaited_in lowest without has bit
fails-base = refl

fails-version : counts 3 3 0 three (told 2 ∷ told 4 ∷ fines 12) ≡ 2
unfolding good failed_answer receiver awaited_in lowest without has bit
fails-version = refl

-- sixteen members: as many answers as the limit
sixteen : possible 65535 (record { phase = Phase.Versions 0; source = 0; left = 65535; taken = 0 }) ≡ answer_limit
unfolding possible size has bit
sixteen = refl
