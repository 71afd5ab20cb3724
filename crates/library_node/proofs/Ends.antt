-- The two ways that a call of the library ends, with what is then in the lent words and bytes.
use Rattle.std.specs.Prelude.{Some, None, Result, Ok, Err}
use mathlib.Core.Path.{◌≡◌, refl, sym, ap, ◌∙◌}
use mathlib.Core.Bool.{Bool, true, false}
use mathlib.Core.List.{List}
use Prim.Native.Nat.{ℕ}
use lib.Dec.{eqb}
use borrow.Author.Tests.{eq-eqb}
use Rattle.laws_words.specs.Words.{pick}
use Rattle.event_words.specs.Calls.{number_of, callable}
use Rattle.event_words.specs.declared.words.Unmade.{Unmade}
use Rattle.event_words.proofs.Calls.{unmade, some-number, made}
use Rattle.event.specs.declared.NodeEvent.{NodeEvent}
use Rattle.event.specs.declared.Question.{Question}
use Rattle.rules_node.specs.declared.Answer.{Answer}
use Rattle.node.specs.declared.Out.{Out}
use Rattle.node.specs.Face.{held, came, given}
use Rattle.rules_node.specs.Unique.{Meets}
use Rattle.event_ask.specs.declared.ask.Finding.{Finding}
use Rattle.event_ask.specs.Ask.{finding_of}
use Rattle.event.specs.OfNode.{event_of}
use Rattle.rules_node.specs.declared.Node.{Node}
use Rattle.event_words.specs.NodeWords.{packed, unpacked, known}
use Rattle.event_words.proofs.Laws.{packed-known}
use Rattle.library_node.specs.Library.{numbered, event_known, answer_words, asked, ask_known, finding_words, node_of, returned, state_left, summaries_left, map_left, staging_left, out_left, ask_result, ask_left}

-- what a call is made on: the node of known words, where the numbers are an event
abbrev pub Calls : List ℕ → Bool → Result Node Unmade → Type 0
Calls ws event r = r ≡ callable (pick (known ws) (Some (unpacked ws)) None) event

module _ (ws ss xs ys zs os : List ℕ) (k a b c : ℕ) where
  abbrev pub Ended : ℕ → List ℕ → List ℕ → List ℕ → List ℕ → List ℕ → Type 0
  Ended r ws' ss' xs' ys' os' =
      (r ≡ returned ws k a)
      × ((ws' ≡ state_left ws ss xs ys zs k a b c)
      × ((ss' ≡ summaries_left ws ss xs ys zs k a b c)
      × ((xs' ≡ map_left ws ss xs ys zs k a b c)
      × ((ys' ≡ staging_left ws ss xs ys zs k a b c)
      × ((os' ≡ out_left ws ss xs ys zs k a b c os) × (known ws' ≡ known ws))))))

  pub stopped : (r : Result Node Unmade) (v : Bool) (why : Unmade) → Calls ws v r → v ≡ event_known k a → r ≡ Err why → Ended (number_of why) ws ss xs ys os
  unfolding state_left summaries_left map_left staging_left out_left
  stopped r v why er ev e =
      let q : number_of why ≡ returned ws k a = unmade (known ws) (event_known k a) (unpacked ws) why (rw ev at (sym er ∙ e)) in
      let z : eqb (returned ws k a) 0 ≡ false = rw q at (some-number why) in
      (q, (rw z, (rw z, (rw z, (rw z, (rw z, refl))))))

  pub went : (r : Result Node Unmade) (v : Bool) (n : Node) (ev : NodeEvent) (o : Out Answer) (ws' xs' ys' os' : List ℕ)
      → Calls ws v r → v ≡ event_known k a → r ≡ Ok n → ev ≡ numbered k a b c
      → Meets (event_of ev zs) (record { node = n; summaries = ss }) xs ys (came o) xs' ys'
      → os' ≡ answer_words o.answer → ws' ≡ packed o.node.node
      → Ended 0 ws' o.node.summaries xs' ys' os'
  unfolding state_left summaries_left map_left staging_left out_left
  went r v n ev o ws' xs' ys' os' er evn e ek m es ew =
      let t = made (known ws) (event_known k a) (unpacked ws) n (rw evn at (sym er ∙ e)) in
      let z : eqb (returned ws k a) 0 ≡ true = eq-eqb (returned ws k a) 0 t.1.0 in
      let g : Meets (event_of (numbered k a b c) zs) (held (node_of ws ss)) xs ys (came o) xs' ys' = rw (t.1.1, ek) at m in
      let h = ap given g.answer in (
        sym t.1.0,
        (
          rw (z, ew, h),
          (
            rw (z, h),
            (
              rw (z, g.map_is),
              (
                rw (z, g.staging_is),
                (rw (z, es, h), ap known ew ∙ packed-known o.node.node ∙ sym t.0),
              ),
            ),
          ),
        ),
      )

module _ (ws ss xs ys os : List ℕ) (k a b : ℕ) where
  abbrev pub Told : ℕ → List ℕ → Type 0
  Told r os' = (r ≡ ask_result ws k) × (os' ≡ ask_left ws ss xs ys k a b os)

  pub silent : (r : Result Node Unmade) (v : Bool) (why : Unmade) → Calls ws v r → v ≡ ask_known k → r ≡ Err why → Told (number_of why) os
  unfolding ask_left
  silent r v why er ev e =
      let q : number_of why ≡ ask_result ws k = unmade (known ws) (ask_known k) (unpacked ws) why (rw ev at (sym er ∙ e)) in
      let z : eqb (ask_result ws k) 0 ≡ false = rw q at (some-number why) in
      (q, rw z)

  pub told : (r : Result Node Unmade) (v : Bool) (n : Node) (qu : Question) (f : Finding) (os' : List ℕ)
      → Calls ws v r → v ≡ ask_known k → r ≡ Ok n → qu ≡ asked k a b
      → f ≡ finding_of qu (record { node = n; summaries = ss }) xs ys
      → os' ≡ finding_words f
      → Told 0 os'
  unfolding ask_left
  told r v n qu f os' er ev e eq ef es =
      let t = made (known ws) (ask_known k) (unpacked ws) n (rw ev at (sym er ∙ e)) in
      let z : eqb (ask_result ws k) 0 ≡ true = eq-eqb (ask_result ws k) 0 t.1.0 in
      (sym t.1.0, rw (z, es, ef, eq, t.1.1))
