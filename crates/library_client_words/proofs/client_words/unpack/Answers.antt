use Rattle.std.proofs.Common.{rules, ◌≡◌, refl, length}
use mathlib.Core.Path.{◌∙◌}
use Rattle.library_client_words.specs.ClientWords.{unpacked}
use Rattle.library_client_words.proofs.ClientInverse.{last_16, low}
use Rattle.library_client_words.proofs.client_words.unpack.Goals as goal

pub returns : goal.returns
unfolding unpacked
returns c =
    let h : length c.args.ws ≡ 32 = search rules in
    rw (c.sessions_in.ensures, c.copy_from_slice.ensures.after, last_16 c.args.ws h, c.job_of.ensures, c.unwrap_or.ensures ∙ low _ 4294967296 _ c.try_from.ensures, c.unwrap_or-2.ensures ∙ low _ 4294967296 _ c.try_from-2.ensures, c.unwrap_or-3.ensures ∙ low _ 65536 _ c.try_from-3.ensures, c.unwrap_or-4.ensures ∙ low _ 65536 _ c.try_from-4.ensures) refl
