use Rattle.std.proofs.Common.{rules}
use Rattle.library_client_words.specs.ClientWords.{packed}
use Rattle.library_client_words.proofs.ClientInverse.{known_of}
use Rattle.library_client_words.proofs.client_words.pack.Goals as goal

pub returns-clause-value : goal.returns-clause-value
unfolding packed
returns-clause-value c = search rules

pub returns-clause-result_value : goal.returns-clause-result_value
returns-clause-result_value c =
    rw (returns-clause-value c) (known_of c.args.c (search rules) (search rules) (search rules) (search rules))
