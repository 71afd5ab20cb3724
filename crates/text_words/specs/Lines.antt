-- A line: its words, each a number, a name or neither.
use Rattle.std.specs.Prelude.{ℕ, Bool, true, false, ◌+◌, List, [], ◌∷◌, ◌++◌, Option, Some, None, set, replicate, ltb, eqb}
use Rattle.laws_words.specs.Words.{pick}
use Rattle.text_bytes.specs.Numbers.{num_of}
use Rattle.text_words.specs.Names.{name_of}
use Rattle.text_words.specs.declared.names.Name.{Name}
use Rattle.text_words.specs.declared.lines.Token.{Token}
use Rattle.text_words.specs.declared.lines.Line.{Line}

-- A word: a number where its bytes are one, else the name that it is, if any.
abbrev pub tok_from : Option ℕ → Option Name → Token
tok_from (Some v) name = Token.Number v
tok_from None (Some k) = Token.Word k
tok_from None None = Token.Unknown

unfoldable pub tok_of : List ℕ → Token
tok_of w = tok_from (num_of w) (name_of w)

abbrev pub is_number : Token → Bool
is_number (Token.Number v) = true
is_number _ = false

-- the number, 0 for a word
abbrev pub number_in : Token → ℕ
number_in (Token.Number v) = v
number_in _ = 0

abbrev pub no_tok : Token
no_tok = Token.Number 0

abbrev pub empty : Line
empty = record { count = 0; toks = replicate 8 no_tok }

-- The line with one more word. The ninth and later ones are only counted, as nine.
unfoldable pub pushed : Line → Token → Line
pushed l t = pick (ltb l.count 8) (record { count = l.count + 1; toks = set l.toks l.count t }) (record { count = 9; toks = l.toks })

-- The line l, with the word w begun, and then the bytes. A space (32) ends a word.
unfoldable pub line_from : Line → List ℕ → List ℕ → Line
line_from l w [] = pushed l (tok_of w)
line_from l w (b ∷ bs) = pick (eqb b 32) (line_from (pushed l (tok_of w)) [] bs) (line_from l (w ++ b ∷ []) bs)

-- The words of a line.
unfoldable pub line_of : List ℕ → Line
line_of s = line_from empty [] s
