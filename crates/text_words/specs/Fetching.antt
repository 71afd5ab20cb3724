-- Where the reading of lines stands.
use Rattle.text_words.specs.declared.fetching.Cur.{Cur}
use Rattle.text_words.specs.declared.fetching.Got.{Got}

-- nothing is read yet, and no byte of a line taken
abbrev pub started : Cur
started = record { pos = 0; end = 0; len = 0; kind = Got.Part }

-- the next line begins where the last one ended
abbrev pub next_line : Cur → Cur
next_line c = record { pos = c.pos; end = c.end; len = 0; kind = Got.Part }
