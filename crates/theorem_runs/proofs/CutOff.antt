-- What a link down leaves of a run: proof.
use mathlib.Core.Path.{◌≡◌, refl, sym, ap, ◌∙◌, subst}
use mathlib.Core.Logic.{◌≢◌}
use mathlib.Core.Bool.{true, false, not, ◌&&◌}
use Prim.Native.Nat.{ℕ, ◌+◌, ◌<◌}
use native.Mathlib.Omega.{arith}
use lib.Dec.{eqb}
use borrow.Author.Tests.{eq-eqb, ne_eqb, ltb-false, not-false}
use Rattle.laws_words.specs.Words.{pick}
use Rattle.laws_words.specs.Tests.{by_cases, clash}
use Rattle.rules_base.specs.Sets.{lowest}
use Rattle.rules_pool.specs.declared.State.{State}
use Rattle.rules_pool.specs.declared.Session.{Session}
use Rattle.rules_pool.specs.declared.Phase.{Phase}
use Rattle.rules_pool.specs.declared.Run.{Run}
use Rattle.rules_pool.specs.declared.Job.{Job}
use Rattle.rules_pool.specs.declared.Roster.{Roster}
use Rattle.rules_pool.specs.declared.Pool.{Pool}
use Rattle.rules_pool.specs.declared.Told.{Told}
use Rattle.rules_pool.specs.declared.Sent.{Sent}
use Rattle.rules_pool.specs.declared.Turn.{Turn}
use Rattle.rules_pool.specs.Session.{is_normal, is_removing}
use Rattle.rules_pool.specs.Sessions.{session_at}
use Rattle.rules_pool.specs.Changes.{more, raised}
use Rattle.rules_pool.specs.Run.{receiver_at, receiver}
use Rattle.rules_pool.specs.Recovery.{disabling_but}
use Rattle.rules_client.specs.Links.{drops, down_refusal, dropped, down_at, down_done, link_down}
use Rattle.rules_client.specs.Events.{Event, tests_of, turn_of, next, state_of}
use Rattle.laws_client.proofs.Rosters.{below_top}
use Rattle.laws_client.proofs.Runs.{RunOk}
use Rattle.laws_client.proofs.RunBound.{FitAt}
use Rattle.laws_client.proofs.LinksKept.{dropped-at, dropped-other, normal-dropped, other-dropped, down-roster}
use Rattle.theorem_client.proofs.States.{normal-is}
use Rattle.theorem_runs.specs.Words.{InOrder, Hands, Normal, version_of, Nobody}
use Rattle.theorem_runs.specs.Answers.{Receiver, Cut, CutOff}
use Rattle.theorem_runs.proofs.Words.{lowest-is, lowest-of, order-valid, NoneOf, done-is, hands_of}
use Rattle.theorem_runs.proofs.Answers.{run_in, fit-in}

-- ---- MAP_DISABLE to the receiver in hand, if it is another

record Told' (p : Phase) (r : Run) (id : ℕ) (t : Told) : Type 0 where
  disables : (y : ℕ) → Receiver p r y → y ≢ id → t ≡ Told.Disable y
  spared : Receiver p r id → t ≡ Told.Nothing
  nobody : Nobody (Receiver p r) → t ≡ Told.Nothing

to-other : (x y id : ℕ) → x ≡ y → y ≢ id → pick (eqb x id) Told.Nothing (Told.Disable x) ≡ Told.Disable y
to-other x y id e d = rw (e, ne_eqb y id d) refl

to-own : (x id : ℕ) → x ≡ id → pick (eqb x id) Told.Nothing (Told.Disable x) ≡ Told.Nothing
to-own x id e = rw (eq-eqb x id e) refl

told_at : (p : Phase) (members : ℕ) (r : Run) (id : ℕ) → FitAt p members r → Told' p r id (disabling_but id (receiver_at p r))
told_at (Phase.Versions best) members r id f = record { disables = λ y h d. absurd h; spared = λ h. absurd h; nobody = λ n. refl }
told_at (Phase.Base step) members r id f =
    record {
      disables = λ y h d. to-other _ y id (lowest-is r.left y h) d;
      spared = λ h. to-own _ id (lowest-is r.left id h);
      nobody = λ n. absurd (n (lowest r.left) (lowest-of r.left f.0.1));
    }
told_at Phase.LastIo members r id f = record { disables = λ y h d. absurd h; spared = λ h. absurd h; nobody = λ n. refl }
told_at (Phase.Gather step) members r id f =
    record { disables = λ y h d. to-other _ y id (sym h) d; spared = λ h. to-own _ id (sym h); nobody = λ n. absurd (n r.source refl) }
told_at (Phase.Enable every) members r id f = record { disables = λ y h d. absurd h; spared = λ h. absurd h; nobody = λ n. refl }
told_at (Phase.Spread step) members r id f =
    record {
      disables = λ y h d. to-other _ y id (lowest-is r.left y h) d;
      spared = λ h. to-own _ id (lowest-is r.left id h);
      nobody = λ n. absurd (n (lowest r.left) (lowest-of r.left f.1));
    }

told_of : (members : ℕ) (r : Run) (id : ℕ) → FitAt r.phase members r → Told' r.phase r id (disabling_but id (receiver r))
unfolding receiver
told_of members r id f = told_at r.phase members r id f

-- ---- the session and the version

-- in a run no REMOVING session drops
not-removing : (r : Run) (st : State) (id : ℕ) → drops (Job.Running r) st id ≡ true → is_removing st ≡ false
unfolding drops
not-removing r State.Free id e = refl
not-removing r State.Created id e = refl
not-removing r State.Normal id e = refl
not-removing r (State.Failed cause) id e = refl
not-removing r State.Reconnecting id e = refl
not-removing r (State.Removing m owed) id e = clash refl (sym e)

module _ (c : Pool) (id : ℕ) (s : Sent) (r : Run) (o : InOrder c) (e : c.job ≡ Job.Running r) (h : Hands (Event.link_down id) c s) where
  facts : NoneOf (tests_of (Event.link_down id) c) × (turn_of (Event.link_down id) c ≡ down_done c id)
  unfolding link_down down_refusal
  facts = done-is (Event.link_down id) c (down_done c id) s refl h

  turn : turn_of (Event.link_down id) c ≡ down_at (Job.Running r) c id
  unfolding down_done
  turn = facts.1 ∙ ap (λ (j : Job). down_at j c id) e

  below : id < 16
  below = omega (arith, ltb-false 15 id (facts.0 3 refl))

  lives : is_removing (state_of c id) ≡ false
  lives = not-removing r (state_of c id) id (subst (λ (j : Job). drops j (state_of c id) id ≡ true) e (not-false _ (facts.0 9 refl)))

  q : RunOk c.roster r
  q = run_in c r o e

  roster : (next (Event.link_down id) c).roster ≡ raised (dropped c.roster id)
  roster = ap (λ (t : Turn). t.pool.roster) turn ∙ down-roster (Job.Running r) c id

  back : hands_of (down_at (Job.Running r) c id).answer ≡ s
  back = ap (λ (t : Turn). hands_of t.answer) (sym turn) ∙ ap hands_of h

  w : Told' r.phase r id (disabling_but id (receiver r))
  w = told_of c.roster.members r id (fit-in c r (order-valid c o) q)

  not-normal : (Normal c id → ⊥) → (not c.roster.sync && is_normal (state_of c id)) ≡ false
  not-normal n = by_cases (is_normal (state_of c id)) (λ z. absurd (n (normal-is (state_of c id) z))) (λ z. rw (q.plain, z) refl)

  held : (dropped c.roster id).members ≡ c.roster.members
  held =
      by_cases (is_normal (state_of c id))
      (λ z. (normal-dropped c.roster id q.plain z).held)
      (λ z. (other-dropped c.roster id (rw (q.plain, z) refl)).held)

  cut : Cut c (next (Event.link_down id) c) s r id
  cut =
      record {
        count = sym (ap (λ (k : Sent). k.outcome) back);
        disables = λ y g n. sym (ap (λ (k : Sent). k.told) back) ∙ w.disables y g n;
        spared = λ g. sym (ap (λ (k : Sent). k.told) back) ∙ w.spared g;
        nobody = λ n. sym (ap (λ (k : Sent). k.told) back) ∙ w.nobody n;
        own = ap (λ (ro : Roster). (session_at ro id).state) roster ∙ (ap (λ (k : Session). k.state) (dropped-at c.roster id o.sixteen below) ∙ rw lives refl);
        others = λ j n. ap (λ (ro : Roster). session_at ro j) roster ∙ dropped-other c.roster id j n;
        once = λ n. ap (λ (ro : Roster). ro.version) roster ∙ (ap more (other-dropped c.roster id (not-normal n)).versioned ∙ below_top (version_of c) (omega (arith, q.limit)));
        twice = λ n.
            ap (λ (ro : Roster). ro.version) roster
            ∙ (ap more ((normal-dropped c.roster id q.plain (ap is_normal n)).versioned ∙ below_top (version_of c) (omega (arith, q.limit)))
            ∙ (below_top (version_of c + 1) (omega (arith, q.limit)) ∙ (let k : version_of c + 1 + 1 ≡ version_of c + 2 = omega arith in k)));
        members = ap (λ (ro : Roster). ro.members) roster ∙ held;
      }

pub cut_off : CutOff
cut_off c id s r o e h = cut c id s r o e h
