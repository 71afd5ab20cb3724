-- The auditor's text: a line to its record, and the line that is answered.
use Rattle.std.specs.Prelude.{Bool, ◌&&◌, List, [], ◌∷◌, ℕ, eqb, ltb, length, take, get_or}
use Rattle.std.specs.List.{list_all}
use Rattle.laws_words.specs.Words.{pick}
use Rattle.text_bytes.specs.Bytes.{bytes}
use Rattle.text_bytes.specs.Ink.{decimal}
use Rattle.text_words.specs.Lines.{is_number, number_in, no_tok, line_of}
use Rattle.text_words.specs.declared.lines.Line.{Line}
use Rattle.audit_record.specs.declared.records.Record.{Record}
use Rattle.audit_record.specs.Records.{no_record}
use Rattle.audit_replay.specs.declared.auditing.Verdict.{Verdict}

abbrev pub num_at : Line → ℕ → ℕ
num_at l k = number_in (get_or l.toks k no_tok)

-- eight words, each a number
unfoldable pub is_record : Line → Bool
is_record l = eqb l.count 8 && list_all is_number l.toks

unfoldable pub numbers_in : Line → Record
numbers_in l =
    record {
      sequence = num_at l 0;
      kind = num_at l 1;
      member = num_at l 2;
      set = num_at l 3;
      number = num_at l 4;
      version = num_at l 5;
      count = num_at l 6;
      causes = num_at l 7;
    }

-- A line is cut at single spaces into words. One that is no record, as one longer than 255 bytes, stands for a record of no event.
unfoldable pub record_line : List ℕ → Record
record_line s = pick (ltb 255 (length s)) no_record (pick (is_record (line_of s)) (numbers_in (line_of s)) no_record)

-- the record of the first n bytes; no line has more than the buffer
unfoldable pub record_in : ℕ → List ℕ → Record
record_in n line = pick (ltb (length line) n) no_record (record_line (take n line))

-- a word, a number and a newline (10)
abbrev pub counted : List ℕ → ℕ → List (List ℕ)
counted word n = word ∷ decimal n ∷ (10 ∷ []) ∷ []

-- how many records are accepted, or the place of the first that is not so
abbrev pub verdict_text : Verdict → List (List ℕ)
verdict_text (Verdict.Accepted n) = counted (bytes "accepted ") n
verdict_text (Verdict.Wrong n) = counted (bytes "record ") n
