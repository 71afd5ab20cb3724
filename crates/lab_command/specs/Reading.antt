-- The command of a line that was taken.
use Rattle.std.specs.Prelude.{List, ℕ, ltb, length, take}
use Rattle.laws_words.specs.Words.{pick}
use Rattle.lab_form.specs.declared.Command.{Command}
use Rattle.lab_command.specs.Commands.{command_of}

-- the command of the first n bytes; no line has more than the buffer
unfoldable pub command_in : ℕ → List ℕ → Command
command_in n line = pick (ltb (length line) n) Command.Unreadable (command_of (take n line))
