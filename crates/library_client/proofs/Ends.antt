-- The two ways that a call of the library ends, with what is then in the lent words and bytes.
use Rattle.std.specs.Prelude.{Some, None, Result, Ok, Err}
use mathlib.Core.Path.{◌≡◌, refl, sym, ap, ◌∙◌}
use mathlib.Core.Bool.{Bool, true, false}
use mathlib.Core.List.{List}
use Prim.Native.Nat.{ℕ}
use lib.Dec.{eqb}
use borrow.Author.Tests.{eq-eqb}
use Rattle.laws_words.specs.Words.{pick}
use Rattle.event_words.specs.Calls.{number_of, callable}
use Rattle.event_words.specs.declared.words.Unmade.{Unmade}
use Rattle.event_words.proofs.Calls.{unmade, some-number, made}
use Rattle.event.specs.declared.Event.{Event}
use Rattle.client.specs.declared.Out.{Out}
use Rattle.client.specs.Client.{held, came, given}
use Rattle.rules_client.specs.Events.{Lent}
use Rattle.rules_client.specs.ClientEvents.{Meets}
use Rattle.event.specs.OfClient.{event_of, own_left}
use Rattle.client.specs.declared.Client.{Client}
use Rattle.library_client_words.specs.ClientWords.{packed, unpacked, known}
use Rattle.library_answer.specs.Words.{answer_words}
use Rattle.library_client.specs.Library.{numbered, event_known, returned, state_left, map_left, out_left}

-- what a call is made on: the client of known words, where the numbers are an event
abbrev pub Calls : List ℕ → Bool → Result Client Unmade → Type 0
Calls ws event r = r ≡ callable (pick (known ws) (Some (unpacked ws)) None) event

module _ (ws xs zs os : List ℕ) (k a b c : ℕ) where
  abbrev pub Ended : ℕ → List ℕ → List ℕ → List ℕ → Type 0
  Ended r ws' xs' os' =
      (r ≡ returned ws k c)
      × ((ws' ≡ state_left ws xs zs k a b c) × ((xs' ≡ map_left ws xs k a b c) × ((os' ≡ out_left ws xs zs k a b c os) × (known ws' ≡ known ws))))

  pub stopped : (r : Result Client Unmade) (v : Bool) (why : Unmade) → Calls ws v r → v ≡ event_known k c → r ≡ Err why → Ended (number_of why) ws xs os
  unfolding state_left map_left out_left
  stopped r v why er ev e =
      let q : number_of why ≡ returned ws k c = unmade (known ws) (event_known k c) (unpacked ws) why (rw ev at (sym er ∙ e)) in
      let z : eqb (returned ws k c) 0 ≡ false = rw q at (some-number why) in
      (q, (rw z, (rw z, (rw z, refl))))

  pub went : (r : Result Client Unmade) (v : Bool) (n : Client) (ev : Event) (o : Out) (left : Lent) (ws' xs' os' : List ℕ)
      → Calls ws v r → v ≡ event_known k c → r ≡ Ok n → ev ≡ numbered k a b c
      → Meets (event_of ev xs zs) (held n) (came o) left → xs' ≡ own_left ev (held n) xs
      → os' ≡ answer_words o.answer → (ws' ≡ packed o.client) × (known ws' ≡ true)
      → Ended 0 ws' xs' os'
  unfolding state_left map_left out_left
  went r v n ev o left ws' xs' os' er evn e ek m ex es ew =
      let t = made (known ws) (event_known k c) (unpacked ws) n (rw evn at (sym er ∙ e)) in
      let z : eqb (returned ws k c) 0 ≡ true = eq-eqb (returned ws k c) 0 t.1.0 in
      let g : Meets (event_of (numbered k a b c) xs zs) (held (unpacked ws)) (came o) left = rw (t.1.1, ek) at m in
      let h = ap given g.answer in
      (sym t.1.0, (rw (z, ew.0, h), (rw (z, ex, ek, t.1.1), (rw (z, es, h), ew.1 ∙ sym t.0))))
