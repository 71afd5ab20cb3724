use mathlib.Core.Path.{◌≡◌}
use Rattle.std.specs.Prelude.{map, drop}
use Rattle.text_words.specs.Names.{named}
use Rattle.text_words.proofs.names.find.Given as goal

abbrev pub invariant-loop-word : goal.invariant-loop-word
invariant-loop-word l = named (map (λ k. (k.0.now, k.1)) (drop l.word-index l.table)) l.s ≡ named (map (λ k. (k.0.now, k.1)) l.table) l.s
