-- What tells one form of a line from another.
use Rattle.std.specs.Prelude.{ℕ, get_or, drop, map, ltb}
use Rattle.std.specs.List.{list_all}
use Rattle.laws_words.specs.Words.{pick}
use Rattle.text_words.specs.Lines.{is_number, number_in, no_tok}
use Rattle.text_words.specs.declared.lines.Line.{Line}
use Rattle.text_words.specs.declared.lines.Token.{Token}
use Rattle.text_words.specs.declared.names.Name.{Name}
use Rattle.lab_form.specs.declared.Form.{Form}
use Rattle.lab_form.specs.declared.Head.{Head}

abbrev pub token_at : Line → ℕ → Token
token_at l i = get_or l.toks i no_tok

-- How a line begins: a name and then a number; two names; a node that there is, and a name.
abbrev pub head_of : Token → Token → Token → Head
head_of (Token.Word name) (Token.Number v) (Token.Number w) = Head.Plain name
head_of (Token.Word name) (Token.Word other) (Token.Number w) = Head.Pair name other
head_of (Token.Word Name.Node) (Token.Number n) (Token.Word name) = pick (ltb n 16) (Head.Node name) Head.Other
head_of _ _ _ = Head.Other

-- How the line begins, if the words from the fourth on are numbers; how many words there are; and each word's number.
unfoldable pub form_of : Line → Form
form_of l =
    record {
      head = pick (list_all is_number (drop 3 l.toks)) (head_of (token_at l 0) (token_at l 1) (token_at l 2)) Head.Other;
      count = l.count;
      x = map number_in l.toks;
    }

-- the number of word i
abbrev pub num : Form → ℕ → ℕ
num f i = get_or f.x i 0
