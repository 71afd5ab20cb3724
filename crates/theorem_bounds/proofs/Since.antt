-- Every run in hand at a reached client began at one, and lasts since.
use mathlib.Core.Path.{◌≡◌, refl, ap, ◌∙◌}
use mathlib.Core.Bool.{true, false}
use mathlib.Core.List.{List, [], ◌∷◌, ◌++◌}
use Rattle.laws_words.specs.Tests.{by_cases, clash}
use Rattle.rules_pool.specs.declared.Run.{Run}
use Rattle.rules_pool.specs.declared.Job.{Job}
use Rattle.rules_pool.specs.Jobs.{is_running}
use Rattle.rules_pool.specs.declared.Pool.{Pool}
use Rattle.rules_client.specs.Events.{Event, next}
use Rattle.theorem_client.specs.Demand2.{Reached}
use Rattle.theorem_bounds.specs.Demand3.{cuts_off, through, any_cut, during, Begins, EveryRun}

-- a run is in hand after each of the events, and none of them is a link down that is accepted
abbrev Lasting : List Event → Pool → Type 0
Lasting [] c = Unit {0}
Lasting (e ∷ es) c = (is_running (next e c).job ≡ true) × (cuts_off e c ≡ false) × Lasting es (next e c)

lasting-during : (es : List Event) (c : Pool) → Lasting es c → during es c ≡ es
lasting-during [] c l = refl
lasting-during (e ∷ es) c l = rw (l.0, l.1) (ap (λ (ds : List Event). e ∷ ds) (lasting-during es (next e c) l.2))

lasting-uncut : (es : List Event) (c : Pool) → Lasting es c → any_cut es c ≡ false
lasting-uncut [] c l = refl
lasting-uncut (e ∷ es) c l = rw l.1 (lasting-uncut es (next e c) l.2)

-- one event more
through-more : (es : List Event) (c : Pool) (e : Event) → through (es ++ e ∷ []) c ≡ next e (through es c)
through-more [] c e = refl
through-more (x ∷ es) c e = through-more es (next x c) e

lasting-more : (es : List Event) (c : Pool) (e : Event) → Lasting es c → is_running (next e (through es c)).job ≡ true → cuts_off e (through es c) ≡ false → Lasting (es ++ e ∷ []) c
lasting-more [] c e l q k = (q, k, tt)
lasting-more (x ∷ es) c e l q k = (l.0, l.1, lasting-more es (next x c) e l.2 q k)

record Lasts (c : Pool) : Type 0 where
  from : Pool
  by : Event
  first : Run
  begins : Begins from by first
  since : List Event
  lasting : Lasting since (next by from)
  here : through since (next by from) ≡ c

new-run : (c : Pool) (e : Event) (r : Run) → Begins c e r → Lasts (next e c)
new-run c e r b = record { from = c; by = e; first = r; begins = b; since = []; lasting = tt; here = refl }

one_more : (c : Pool) (e : Event) → Lasts c → is_running (next e c).job ≡ true → cuts_off e c ≡ false → Lasts (next e c)
one_more c e l q k =
    record {
      from = l.from;
      by = l.by;
      first = l.first;
      begins = l.begins;
      since = l.since ++ e ∷ [];
      lasting = lasting-more l.since (next l.by l.from) e l.lasting (rw l.here q) (rw l.here k);
      here = through-more l.since (next l.by l.from) e ∙ ap (λ (x : Pool). next e x) l.here;
    }

lasts : (c : Pool) → Reached c → (r : Run) → c.job ≡ Job.Running r → Lasts c
lasts _ (Reached.start sync chunks a b) r z = clash (ap is_running z) refl
lasts _ (Reached.then c e q) r z = at c.job refl (λ s k. lasts c q s k)
  where
    at : (j : Job) → c.job ≡ j → ((s : Run) → c.job ≡ Job.Running s → Lasts c) → Lasts (next e c)
    at Job.Idle k rec = new-run c e r (record { reached = q; run = z; new = rw k refl })
    at (Job.Running s) k rec =
        by_cases (cuts_off e c)
        (λ d. new-run c e r (record { reached = q; run = z; new = rw (d, k) refl }))
        (λ d. one_more c e (rec s k) (ap is_running z) d)
    at (Job.Removing m) k rec = new-run c e r (record { reached = q; run = z; new = rw k refl })

pub every-run : EveryRun
every-run c q r z =
    let l = lasts c q r z in
    record {
      from = l.from;
      by = l.by;
      first = l.first;
      begins = l.begins;
      since = l.since;
      lasted = lasting-during l.since (next l.by l.from) l.lasting;
      uncut = lasting-uncut l.since (next l.by l.from) l.lasting;
      here = l.here;
    }
