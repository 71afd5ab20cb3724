-- Writes and syncs.
use mathlib.Core.Path.{◌≡◌, refl, sym, ap, ◌∙◌, subst}
use mathlib.Core.Bool.{Bool, true, false, not, ◌&&◌, ◌||◌, cond}
use mathlib.Core.List.{List, [], ◌∷◌}
use mathlib.Core.Logic.{◌≢◌, ◌⊎◌, inl, inr}
use Prim.Native.Nat.{ℕ, ◌≤◌, ◌<◌, max}
use native.Mathlib.Omega.{arith}
use lib.Dec.{eqb}
use borrow.Author.Tests.{eq-eqb, ne_eqb, eqb-true, ltb-true, not-false}
use Rattle.laws_words.specs.Words.{pick}
use Rattle.laws_words.specs.Tests.{clash, by_cases, picked, either, and_left, and_right, and_both, and-false}
use Rattle.rules_base.proofs.Order.{none-applies}
use Rattle.rules_base.specs.Sets.{has}
use Rattle.rules_pool.specs.declared.Message.{Message}
use Rattle.rules_pool.specs.declared.Outcome.{Outcome}
use Rattle.rules_pool.specs.declared.Effect.{Effect}
use Rattle.rules_pool.specs.declared.Told.{Told}
use Rattle.rules_pool.specs.declared.Roster.{Roster}
use Rattle.rules_pool.specs.declared.Pool.{Pool}
use Rattle.rules_pool.specs.declared.Turn.{Turn}
use Rattle.rules_pool.specs.Session.{is_deleting}
use Rattle.rules_pool.specs.declared.Kind.{Kind}
use Rattle.rules_pool.specs.Sessions.{session_at, ids_of}
use Rattle.rules_pool.specs.Changes.{written}
use Rattle.rules_pool.specs.Recovery.{with_roster}
use Rattle.rules_pool.specs.Exit.{accepted, halted_if}
use Rattle.rules_client.specs.Writes.{write_tests, write_refusal, missed, loses, marks, write_done, write_ended, sync_refusal, sync_done, synced}
use Rattle.laws_client.proofs.WritesKept.{missed-does}
use Rattle.rules_client.specs.Client.{sound_for, write_turn, clean_to, synced_turn}
use Rattle.laws_client.proofs.Pools.{Valid}
use Rattle.rules_node.specs.Events as storage
use Rattle.rules_node.specs.Turns.{is_accepted}
use Rattle.rules_pool.specs.Breaking as breaking
use Rattle.rules_client.specs.Events.{Event, turn_of}
use Rattle.rules_world.specs.Station.{Station, does}
use Rattle.model_pool.specs.Model as m
use Rattle.model_pool.specs.Steps as s
use Rattle.model_pool.proofs.Ground.{split, upd_same, upd_other}
use Rattle.model_pool.proofs.ModelWrites.{owed-some, owed_more}
use Rattle.model_pool.specs.Mirror.{Moves, goes, stands, MovesBy}
use Rattle.model_pool.proofs.Sessions.{dyings}
use Rattle.model_pool.proofs.Tries.{joined as then-course}
use Rattle.model_pool.specs.Holds.{Holds, Held, Sane}
use Rattle.model_pool.proofs.Events.{less, wrote, cleared_at, either as if-taken}
use Rattle.model_pool.proofs.Writes.{reaches-none, Wrote, reaches_some, listed-is, syncs}
use Rattle.model_pool.specs.Reflects.{Reflects}
use Rattle.model_pool.proofs.Every.{arrived}
use Rattle.model_pool.proofs.Told.{quiet}
use Rattle.model_pool.proofs.Acts.{world_after, reflects-sent, reflects-stood, told-sane, acts}
use Rattle.rules_world.specs.Whole.{World, Happening, accepts, acknowledges, due_to, takes_all, when_to, after_all, told_in, acted, after}
use Rattle.rules_world.specs.History.{History, then, acked_by, acked}
use Rattle.theorem_forgotten.specs.Premises.{Keeps}
use Rattle.theorem_forgotten.specs.Forgotten.{Missed, Passed, Added, Synced, In}
use Rattle.theorem_forgotten.proofs.Tells.{Tells}
use Rattle.theorem_forgotten.proofs.Ground.{or-none, still-missed}
use Rattle.theorem_forgotten.proofs.Client.{kept-valid, kept-plain, kept-chunks, client-tells, same-joined, same-waits, same-tells}
use Rattle.theorem_forgotten.proofs.Refused.{zero_of, passed-acknowledged, refused-tells}

-- ---- a write
module _ (w : World) (h : History w) (t : Tells h) (xs : List ℕ) (chunk reached got : ℕ) (k : Keeps h (Happening.client (Event.write xs chunk reached) got)) where
  abbrev e : Event
  e = Event.write xs chunk reached

  abbrev sound : Bool
  sound = sound_for w.pool xs

  -- the pool that it leaves, acknowledged or not
  abbrev left : Bool → Pool
  left ack = halted_if (loses w.pool.job w.pool.roster reached) (with_roster w.pool (written (missed w.pool.roster reached) ack))

  module _ (z : accepts w e ≡ true) where
    zero : write_refusal w.pool sound chunk reached ≡ 0
    unfolding write_turn write_ended
    zero = zero_of w.pool (write_refusal w.pool sound chunk reached) (write_done w.pool chunk reached) z

    -- ---- reached by none
    turn-none : eqb reached 0 ≡ true → turn_of e w.pool ≡ accepted w.pool (left false) (Outcome.Written false 0) Told.Nothing Message.Nothing Effect.Keep
    unfolding write_turn write_ended write_done marks
    turn-none q = rw (zero, q) refl

    reached-none : eqb reached 0 ≡ true → Tells (then w (Happening.client e got) h)
    reached-none q =
        let r = t.reflects in
        let x = acts w t.a r (turn_of e w.pool) got (subst (λ (y : Turn). MovesBy w.pool y t.a) (sym (turn-none q)) (reaches-none w.pool sound chunk reached r.valid r.plain zero t.a r.shows (eqb-true reached 0 q)))
        (kept-valid e w.pool r.valid) (kept-plain e w.pool r.valid r.plain) (kept-chunks e w.pool) (subst (λ (y : Turn). quiet (told_in y.answer) ≡ true) (sym (turn-none q)) refl) in
        same-tells w h t e got (λ j. refl) x.to x.course x.reflects (ap (λ (y : m.Past). y.ever) x.past) (ap (λ (y : m.Past). y.wait) x.past) (ap (λ (y : m.Past). y.acked) x.past)
        (λ c. rw unheard (and-false (eqb chunk c)))
        (λ n c u. subst (λ (y : m.Past). 0 < y.owe n c) (sym x.past) (t.remembers.owes n c (old n c u.0)))
      where
        unheard : acknowledges w e ≡ false
        unheard = ap (λ (y : Turn). breaking.acknowledges y.answer) (turn-none q)

        old : (n c : ℕ) → Passed w (Happening.client e got) n c ⊎ (Added h (Happening.client e got) n c ⊎ (Missed n c h × ((Synced w (Happening.client e got) n c) → ⊥))) → Missed n c h
        old n c (inl p) = clash (passed-acknowledged w e got n c p) unheard
        old n c (inr (inl p)) = never p.extends
          where
            never : {A : Type 0} → Happening.client (Event.write xs chunk reached) got ≡ Happening.client (Event.extend p.xs) p.got → A
            never v = absurd (let y : ◌≡◌ {A = ℕ} 0 1 = cc in let u : ⊥ = omega arith in u)
        old n c (inr (inr p)) = p.0

    -- ---- reached by some
    left-roster : (ack : Bool) → (left ack).roster ≡ written (missed w.pool.roster reached) ack
    left-roster ack = either (λ (y : Pool). y.roster ≡ written (missed w.pool.roster reached) ack) (loses w.pool.job w.pool.roster reached) _ _ refl refl

    abbrev list : ℕ
    list = ids_of Kind.Listed (left true).roster

    abbrev version : ℕ
    version = (left true).roster.version

    abbrev told : Told
    told = Told.Marks reached chunk list version

    turn-some : eqb reached 0 ≡ false → turn_of e w.pool ≡ accepted w.pool (left true) (Outcome.Written true list) told Message.Nothing (Effect.Mark list chunk)
    unfolding write_turn write_ended write_done marks
    turn-some q = rw (zero, q) refl

    same-listed : (ro : Roster) (ack : Bool) → ids_of Kind.Listed (written ro ack) ≡ ids_of Kind.Listed ro
    unfolding ids_of
    same-listed ro ack = refl

    module _ (q : eqb reached 0 ≡ false) where
      wr : Wrote w.pool sound chunk reached t.reflects.valid t.reflects.plain zero t.a
      wr = reaches_some w.pool sound chunk reached t.reflects.valid t.reflects.plain zero t.a t.reflects.shows q

      abbrev u : m.World
      u = wr.u

      list-is : (n : ℕ) → has list n ≡ s.listed u.pool.ses u.pool.mem n
      list-is n =
          ap (λ (ro : Roster). has (ids_of Kind.Listed ro) n) (left-roster true)
          ∙ (ap (λ (i : ℕ). has i n) (same-listed (missed w.pool.roster reached) true)
          ∙ listed-is (missed w.pool.roster reached) u.pool (missed-does w.pool.roster reached t.reflects.valid.ok t.reflects.plain).ok.long wr.sees n)

      version-is : version ≡ u.pool.version
      version-is = ap (λ (ro : Roster). ro.version) (left-roster true) ∙ wr.sees.version

      held-u : Held w.nodes u.nodes
      held-u = subst (Held w.nodes) (sym wr.nodes) t.reflects.held

      -- the marks arrived at each node that was reached, which accepts them
      heard : (j : ℕ) → has reached j ≡ true → (has got j ≡ true) × (is_accepted (does (w.nodes j) (storage.Event.write chunk list version)).answer ≡ true)
      heard j y =
          let x = k.marks xs chunk reached got refl z j y in
          let g : takes_all (when_to (has reached j) (storage.Event.write chunk list version)) (w.nodes j) ≡ true = subst (λ (v : Turn). takes_all (due_to (told_in v.answer) j) (w.nodes j) ≡ true) (turn-some q) x.1 in
          (x.0, and_left (is_accepted (does (w.nodes j) (storage.Event.write chunk list version)).answer) true (subst (λ (b : Bool). takes_all (when_to b (storage.Event.write chunk list version)) (w.nodes j) ≡ true) y g))

      abbrev Target : ℕ → Station → Type 0
      Target j x = Holds x ((s.written chunk u).nodes.ver j) ((s.written chunk u).nodes.map j) ((s.written chunk u).nodes.stg j) ((s.written chunk u).nodes.tr j)

      marked : (j : ℕ) → has reached j ≡ true → Target j (arrived got told w.nodes j)
      marked j y =
          let x = heard j y in
          let up = wr.normal j ∙ y in
          let g = wrote w.pool.chunks j (w.nodes j) (t.reflects.sane j) _ _ _ _ (held-u.at j) chunk list version x.1 in
          subst (Target j) (sym (ap (λ (b : Bool). pick b (after_all (when_to (has reached j) (storage.Event.write chunk list version)) (w.nodes j)) (w.nodes j)) x.0 ∙ ap (λ (b : Bool). after_all (when_to b (storage.Event.write chunk list version)) (w.nodes j)) y))
          (record {
            ver = g.ver ∙ (ap (max (u.nodes.ver j)) version-is ∙ ap (λ (b : Bool). cond b (max (u.nodes.ver j) u.pool.version) (u.nodes.ver j)) (sym up));
            map = λ n d v. g.map n d (at (u.nodes.map j n d) (m.up (u.pool.ses j)) (eqb d chunk) (s.listed u.pool.ses u.pool.mem n) (has list n) (list-is n) v);
            stg = g.stg;
            tr = g.tr;
          })
        where
          at : (a b c l l' : Bool) → l' ≡ l → (a || (b && (c && l))) ≡ true → (a || (c && l')) ≡ true
          at true b c l l' i v = refl
          at false true c l l' i v = rw i v
          at false false c l l' i v = clash v refl

      spared : (j : ℕ) → has reached j ≡ false → Target j (arrived got told w.nodes j)
      spared j y =
          let up = wr.normal j ∙ y in
          subst (Target j) (sym (ap (λ (b : Bool). pick (has got j) (after_all (when_to b (storage.Event.write chunk list version)) (w.nodes j)) (w.nodes j)) y ∙ either (λ (x : Station). x ≡ w.nodes j) (has got j) (w.nodes j) (w.nodes j) refl refl))
          (record {
            ver = (held-u.at j).ver ∙ ap (λ (b : Bool). cond b (max (u.nodes.ver j) u.pool.version) (u.nodes.ver j)) (sym up);
            map = λ n d v. (held-u.at j).map n d (at (u.nodes.map j n d) (m.up (u.pool.ses j)) (eqb d chunk && s.listed u.pool.ses u.pool.mem n) up v);
            stg = (held-u.at j).stg;
            tr = (held-u.at j).tr;
          })
        where
          at : (a b c : Bool) → b ≡ false → (a || (b && c)) ≡ true → a ≡ true
          at true b c i v = refl
          at false b c i v = clash (rw i at v) refl

      held : Held (arrived got told w.nodes) (s.written chunk u).nodes
      held = record { at = λ j. by_cases (has reached j) (marked j) (spared j) }

      -- what the client comes to then
      record Came : Type 0 where
        to : m.World
        course : s.Course (s.written chunk u) to
        reflects : Reflects (world_after w (left true) (arrived got told w.nodes) Message.Nothing) to
        past : to.past ≡ (s.written chunk u).past

      valid : Valid (left true)
      valid = subst Valid (ap (λ (y : Turn). y.pool) (turn-some q)) (kept-valid e w.pool t.reflects.valid)

      plain : (left true).roster.sync ≡ false
      plain = subst (λ (y : Pool). y.roster.sync ≡ false) (ap (λ (y : Turn). y.pool) (turn-some q)) (kept-plain e w.pool t.reflects.valid t.reflects.plain)

      count : (left true).chunks ≡ w.pool.chunks
      count = ap (λ (y : Turn). y.pool.chunks) (sym (turn-some q)) ∙ kept-chunks e w.pool

      sane : (j : ℕ) → Sane (left true).chunks j (arrived got told w.nodes j)
      sane j = subst (λ (i : ℕ). Sane i j (arrived got told w.nodes j)) (sym count) (told-sane w t.a t.reflects.sane t.reflects.held w.pool got t.reflects.valid t.reflects.plain refl t.reflects.shows.sees told j)

      came : Moves w.pool (left true) Message.Nothing (s.written chunk u) → Came
      came (goes g) = record {
        to = g.to;
        course = g.course;
        reflects = reflects-sent w (left true) (arrived got told w.nodes) Message.Nothing g.to valid plain g.sees g.works g.sends sane (subst (Held (arrived got told w.nodes)) (sym g.nodes) held);
        past = g.past;
      }
      came (stands x g) = record {
        to = g.to;
        course = g.course;
        reflects = reflects-stood w (left true) (arrived got told w.nodes) t.a g.to t.reflects valid plain g.sees g.job g.awaits (g.hand ∙ wr.hand) sane (subst (Held (arrived got told w.nodes)) (sym g.nodes) held);
        past = g.past;
      }

      c : Came
      c = came wr.moves

      left-pool : (after w (Happening.client e got)).pool ≡ left true
      unfolding after
      left-pool = subst (λ (y : Turn). (acted y.answer y.pool got w).pool ≡ left true) (sym (turn-some q)) refl

      left-sessions : (after w (Happening.client e got)).pool.roster ≡ written (missed w.pool.roster reached) true
      left-sessions = ap (λ (y : Pool). y.roster) left-pool ∙ left-roster true

      -- who is in the pool and was not reached is on the list
      on_list : (n : ℕ) → In (after w (Happening.client e got)) n → has reached n ≡ false → s.listed u.pool.ses u.pool.mem n ≡ true
      on_list n i y =
          let a : u.pool.mem n ≡ true = sym (wr.sees.mem n) ∙ subst (λ (ro : Roster). has ro.members n ≡ true) left-sessions i.member in
          let b : m.up (u.pool.ses n) ≡ false = wr.normal n ∙ y in
          let d : m.dying (u.pool.ses n) ≡ false = dyings (missed w.pool.roster reached) u.pool wr.sees n ∙ subst (λ (ro : Roster). is_deleting (session_at ro n).state ≡ false) left-sessions i.stays in
          rw (a, b, d) refl

      low : 1 ≤ u.pool.version
      low = subst (λ (i : ℕ). 1 ≤ i) wr.sees.version (missed-does w.pool.roster reached t.reflects.valid.ok t.reflects.plain).ok.low

      owed : (n d : ℕ) → Missed n d (then w (Happening.client e got) h) → 0 < (s.written chunk u).past.owe n d
      owed n d v = at v.0
        where
          old : 0 < t.a.past.owe n d → 0 < (s.written chunk u).past.owe n d
          old y = owed_more (eqb d chunk && s.listed u.pool.ses u.pool.mem n) (u.past.owe n d) u.pool.version (subst (λ (p : m.Past). 0 < p.owe n d) (sym wr.past) y)

          new : d ≡ chunk → has reached n ≡ false → 0 < (s.written chunk u).past.owe n d
          new x y = subst (λ (b : Bool). 0 < s.owed b (u.past.owe n d) u.pool.version) (sym (and_both (eq-eqb d chunk x) (on_list n v.1 y))) (owed-some (u.past.owe n d) u.pool.version low)

          chunk-is : (ys : List ℕ) (r g : ℕ) → Happening.client (Event.write xs chunk reached) got ≡ Happening.client (Event.write ys d r) g → (d ≡ chunk) × (r ≡ reached)
          chunk-is ys r g x = (cc, cc)

          never : {A : Type 0} (ys : List ℕ) (g : ℕ) → Happening.client (Event.write xs chunk reached) got ≡ Happening.client (Event.extend ys) g → A
          never ys g x = absurd (let y : ◌≡◌ {A = ℕ} 0 1 = cc in let o : ⊥ = omega arith in o)

          at : Passed w (Happening.client e got) n d ⊎ (Added h (Happening.client e got) n d ⊎ (Missed n d h × ((Synced w (Happening.client e got) n d) → ⊥))) → 0 < (s.written chunk u).past.owe n d
          at (inl p) = let x = chunk-is p.xs p.reached p.got p.wrote in new x.0 (subst (λ (r : ℕ). has r n ≡ false) x.1 p.not-it)
          at (inr (inl p)) = never p.xs p.got p.extends
          at (inr (inr p)) = old (t.remembers.owes n d p.0)

      small : chunk < w.pool.chunks
      unfolding write_refusal
      small = ltb-true chunk w.pool.chunks (not-false _ (none-applies (write_tests w.pool sound chunk reached) zero 4 refl))

      reached-some : Tells (then w (Happening.client e got) h)
      reached-some =
          client-tells w h t e got c.to (then-course wr.course c.course) (subst (λ (y : Turn). Reflects (acted y.answer y.pool got w) c.to) (sym (turn-some q)) c.reflects)
          (λ j. same-joined w h t e got (λ i. refl) j ∙ (t.remembers.ever j ∙ (ap (λ (y : m.Past). y.ever j) (sym wr.past) ∙ ap (λ (y : m.Past). y.ever j) (sym c.past))))
          (λ j. same-waits w h t e got (λ i. refl) j ∙ (t.remembers.wait j ∙ (ap (λ (y : m.Past). y.wait j) (sym wr.past) ∙ ap (λ (y : m.Past). y.wait j) (sym c.past))))
          (λ j y. same-joined w h t e got (λ i. refl) j ∙ t.remembers.new j y)
          (λ d y. subst (λ (p : m.Past). p.acked d ≡ true) (sym c.past) (split d chunk
          (λ x. rw (x, upd_same u.past.acked chunk true))
          (λ x. rw (upd_other u.past.acked chunk d true x) (ap (λ (p : m.Past). p.acked d) wr.past ∙ t.remembers.acked d (before d x y)))))
          (λ d y. split d chunk
          (λ x. rw x small)
          (λ x. t.remembers.below d (ap (λ (p : m.Past). p.acked d) (sym wr.past) ∙ (sym (upd_other u.past.acked chunk d true x) ∙ (ap (λ (p : m.Past). p.acked d) (sym c.past) ∙ y)))))
          (λ n d y. subst (λ (p : m.Past). 0 < p.owe n d) (sym c.past) (owed n d y))
        where
          before : (d : ℕ) → d ≢ chunk → acked_by w (Happening.client e got) d (acked h d) ≡ true → acked h d ≡ true
          before d x y = sym (ap (λ (b : Bool). acked h d || (b && acknowledges w e)) (ne_eqb chunk d (λ v. x (sym v))) ∙ or-none (acked h d)) ∙ y

  pub writes-tell : Tells (then w (Happening.client e got) h)
  writes-tell = by_cases (accepts w e) (λ z. by_cases (eqb reached 0) (reached-none z) (reached-some z)) (refused-tells w h t e got)

-- ---- a sync
module _ (w : World) (h : History w) (t : Tells h) (xs : List ℕ) (member chunk got : ℕ) where
  abbrev e₂ : Event
  e₂ = Event.synced xs member chunk

  abbrev clean : ℕ
  clean = clean_to xs chunk 16

  abbrev told₂ : Told
  told₂ = Told.Clears (ids_of Kind.Normals w.pool.roster) member chunk

  module _ (z : accepts w e₂ ≡ true) where
    zero₂ : sync_refusal w.pool (sound_for w.pool xs) member chunk clean ≡ 0
    unfolding synced_turn synced
    zero₂ = zero_of w.pool (sync_refusal w.pool (sound_for w.pool xs) member chunk clean) (sync_done w.pool member chunk) z

    turn_is : turn_of e₂ w.pool ≡ accepted w.pool w.pool Outcome.Plain told₂ Message.Nothing Effect.Keep
    unfolding synced_turn synced sync_done
    turn_is = rw zero₂ refl

    abbrev b : m.World
    b = s.owing (s.at_nodes t.a t.a.nodes.ver (s.bitless member chunk t.a.nodes.map)) (m.upd t.a.past.owe member (m.upd (t.a.past.owe member) chunk 0)) t.a.past.acked

    held₂ : Held (arrived got told₂ w.nodes) b.nodes
    held₂ = record {
      at = λ j. picked (Clean j) (has got j) (after_all (when_to (has (ids_of Kind.Normals w.pool.roster) j) (storage.Event.synced member chunk)) (w.nodes j)) (w.nodes j)
          (λ y. picked (λ (es : List storage.Event). Clean j (after_all es (w.nodes j))) (has (ids_of Kind.Normals w.pool.roster) j) (storage.Event.synced member chunk ∷ []) []
          (λ v. if-taken w.pool.chunks j (w.nodes j) (t.reflects.sane j) _ _ _ _ (t.reflects.held.at j) (storage.Event.synced member chunk) (s.bitless member chunk t.a.nodes.map j) (t.a.nodes.stg j) (fewer j) (λ n d x. x)
          (cleared_at w.pool.chunks j (w.nodes j) (t.reflects.sane j) _ _ _ _ (t.reflects.held.at j) member chunk))
          (λ v. same j))
          (λ y. same j);
    }
      where
        Clean : ℕ → Station → Type 0
        Clean j x = Holds x (t.a.nodes.ver j) (s.bitless member chunk t.a.nodes.map j) (t.a.nodes.stg j) (t.a.nodes.tr j)

        fewer : (j n d : ℕ) → s.bitless member chunk t.a.nodes.map j n d ≡ true → t.a.nodes.map j n d ≡ true
        fewer j n d x = and_right (not (eqb n member && eqb d chunk)) (t.a.nodes.map j n d) x

        same : (j : ℕ) → Clean j (w.nodes j)
        same j = less (s.bitless member chunk t.a.nodes.map j) (t.a.nodes.stg j) (t.reflects.held.at j) (fewer j) (λ n d x. x)

    owed₂ : (n d : ℕ) → Missed n d (then w (Happening.client e₂ got) h) → 0 < b.past.owe n d
    owed₂ n d v =
        let x = still-missed w h (Happening.client e₂ got) refl n d v in
        let o = t.remembers.owes n d x.0 in
        split n member
        (λ p. split d chunk
        (λ r. absurd (x.1 (record { xs = xs; got = got; is = ap (λ (i : ℕ). Happening.client (Event.synced xs i chunk) got) (sym p) ∙ ap (λ (i : ℕ). Happening.client (Event.synced xs n i) got) (sym r); done = rw (p, r) z })))
        (λ r. subst (λ (f : ℕ → ℕ). 0 < f d) (sym (ap (λ (i : ℕ). b.past.owe i) p ∙ upd_same t.a.past.owe member (m.upd (t.a.past.owe member) chunk 0)))
        (subst (λ (i : ℕ). 0 < i) (sym (upd_other (t.a.past.owe member) chunk d 0 r)) (subst (λ (i : ℕ). 0 < t.a.past.owe i d) p o))))
        (λ p. subst (λ (f : ℕ → ℕ). 0 < f d) (sym (upd_other t.a.past.owe member n (m.upd (t.a.past.owe member) chunk 0) p)) o)

    syncing : Tells (then w (Happening.client e₂ got) h)
    syncing =
        let r = t.reflects in
        same-tells w h t e₂ got (λ j. refl) b (s.more (s.here t.a) (syncs w.pool (sound_for w.pool xs) member chunk clean t.a r.shows zero₂))
        (subst (λ (y : Turn). Reflects (acted y.answer y.pool got w) b) (sym turn_is)
        (reflects-stood w w.pool (arrived got told₂ w.nodes) t.a b r r.valid r.plain r.shows.sees refl refl refl
        (told-sane w t.a r.sane r.held w.pool got r.valid r.plain refl r.shows.sees told₂) held₂))
        refl refl refl (λ c. refl) owed₂

  pub syncs-tell : Tells (then w (Happening.client e₂ got) h)
  syncs-tell = by_cases (accepts w e₂) syncing (refused-tells w h t e₂ got)
