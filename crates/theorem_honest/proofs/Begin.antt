-- The hypothesis that a run begins is what every event leaves that tries recovery.
use mathlib.Core.Path.{refl}
use Rattle.theorem_honest.specs.Demand.{BeginsAfter}
use Rattle.theorem_honest.proofs.Ends.{tried-number}

pub begins-after : BeginsAfter
begins-after before after outcome told w r array rules began snd =
    record {
      array = array;
      rules = rules;
      run = r;
      began = began;
      pool = refl;
      awaited = refl;
      number = tried-number after r began;
      map = snd;
    }
