-- A page as its buffer and its place, and the name of the reference that it holds its buffer by.
use Rattle.std.specs.Prelude.{ℕ}
use Rattle.text_bytes.specs.Ink.{Ink, ink}
use Rattle.text_bytes.specs.declared.page.Page.{Page}

abbrev pub page_ink : Page → Ink
page_ink p = ink p.out.now p.at

abbrev pub lender : Page → ℕ
lender p = p.out.ghost_name
