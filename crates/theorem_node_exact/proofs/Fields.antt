-- What becomes of every field by an accepted event.
use mathlib.Core.Path.{◌≡◌, refl, sym, ap, ◌∙◌, subst}
use mathlib.Core.Logic.{◌≢◌, ◌⊎◌, inl, inr}
use mathlib.Core.Bool.{Bool, true, false}
use mathlib.Core.List.{List}
use Prim.Native.Nat.{ℕ, ◌≤◌}
use native.Mathlib.Decide.{ℕ_discrete}
use native.Mathlib.Omega.{arith}
use lib.ListN.{length}
use Rattle.laws_words.specs.Words.{pick}
use Rattle.laws_words.specs.Tests.{clash}
use Rattle.rules_base.proofs.Order.{none-applies}
use Rattle.rules_base.specs.Sets.{with, without}
use Rattle.rules_base.proofs.Sets.{has-with-same, has-with-other, has-none, has-without-other, still}
use Rattle.rules_base.proofs.Sound.{Sound}
use Rattle.rules_base.proofs.Rows.{copied_all}
use Rattle.rules_base.specs.Summary.{agree}
use Rattle.rules_base.proofs.Summaries.{one-summary}
use Rattle.rules_base.specs.declared.Op.{Op}
use Rattle.rules_node.specs.declared.State.{State}
use Rattle.rules_node.specs.declared.Turn.{Turn}
use Rattle.rules_node.specs.States.{is_no_io}
use Rattle.rules_node.specs.Change.{went_to, equipped, taken_over, member_entered, member_dropped, stored_version, kept_chunk, forgotten, transferred, ended_transfer, instructed}
use Rattle.rules_node.specs.Register.{registered_create, added_to, registered_add, wiped, unregistered}
use Rattle.rules_node.specs.Join.{joined_create, left_to, left}
use Rattle.rules_node.specs.Enable.{enabled, disabled}
use Rattle.rules_node.specs.Write.{written}
use Rattle.rules_node.specs.Info.{informed}
use Rattle.rules_node.specs.Serve.{readied}
use Rattle.rules_node.specs.Hand.{part_taken, committed}
use Rattle.rules_node.specs.Fill.{filled}
use Rattle.rules_node.specs.Carry.{map_after, staging_after, taken_in}
use Rattle.rules_node.specs.Events.{Event, part_in, tests_at}
use Rattle.rules_node.specs.Face.{map_left, map_by, staging_by, staging_with}
use Rattle.rules_node.specs.Held.{Held, next}
use Rattle.laws_node.proofs.Theorems.{law, stays-true}
use Rattle.theorem_node_exact.specs.Words.{Iff, Accepts, In, kept_chunks}
use Rattle.theorem_node_exact.specs.When.{needs}
use Rattle.theorem_node_exact.specs.Fields.{Left, stays, store, mark, members, version, map, added, given_up, leaves, FieldsAsSaid}
use Rattle.theorem_node_exact.specs.Words.{Zeroed}
use Rattle.theorem_node_exact.proofs.Rules.{few-held, part-clean}
use Rattle.theorem_node_exact.proofs.Ties.{ties}
use Rattle.theorem_node_exact.proofs.Known.{Known, known, lent_at}
use Rattle.theorem_node_exact.proofs.Maps.{map_is, staging-is, all-zero, set-rows, own_row, other-rows, fills, marks, clears, part-ors, marked, last-ios, one_more, none-else}

-- ---- what an accepted event has

module _ (e : Event) (w : Held) (d : Known e w) where
  three : (needs e w.at.node).three
  three = (ties e w.at.node (lent_at w) d.rules.part).three.0 (none-applies (tests_at e w.at.node (lent_at w)) d.none 3 refl)

  four : (needs e w.at.node).four
  four = (ties e w.at.node (lent_at w) d.rules.part).four.0 (none-applies (tests_at e w.at.node (lent_at w)) d.none 4 refl)

  nine : (needs e w.at.node).nine
  nine = (ties e w.at.node (lent_at w) d.rules.part).nine.0 (none-applies (tests_at e w.at.node (lent_at w)) d.none 9 refl)

  sixteen : (needs e w.at.node).sixteen
  sixteen = (ties e w.at.node (lent_at w) d.rules.part).sixteen.0 (none-applies (tests_at e w.at.node (lent_at w)) d.none 16 refl)

-- ---- members

same : {a : Type 0} → Iff a a
same = (λ x. x, λ x. x)

alone : (id m : ℕ) → id ≤ 15 → Iff (In (with 0 id) m) (m ≡ id)
alone id m i = (λ h. elim (ℕ_discrete m id) [ yes q ↦ q | no d ↦ clash h (has-with-other 0 id m d ∙ has-none m) ], λ q. rw q (has-with-same 0 id (omega arith)))

nobody : (m : ℕ) → Iff (In 0 m) ⊥
nobody m = (λ h. clash h (has-none m), λ z. absurd z)

entered : (s k m : ℕ) → k ≤ 15 → Iff (In (with s k) m) ((m ≡ k) ⊎ In s m)
entered s k m i = (λ h. elim (ℕ_discrete m k) [ yes q ↦ inl q | no d ↦ inr (sym (has-with-other s k m d) ∙ h) ], back)
  where
    back : (m ≡ k) ⊎ In s m → In (with s k) m
    back (inl q) = rw q (has-with-same s k (omega arith))
    back (inr h) = elim (ℕ_discrete m k) [ yes q ↦ rw q (has-with-same s k (omega arith)) | no d ↦ has-with-other s k m d ∙ h ]

taken_out : (s k m : ℕ) → Iff (In (without s k) m) ((m ≢ k) × In s m)
taken_out s k m = (λ h. ((still s k m h).1, (still s k m h).0), λ (d, h). has-without-other s k m d ∙ h)

-- ---- states

left-to : (store : Bool) → left_to store ≡ pick store State.Registered State.Empty
left-to true = refl
left-to false = refl

added_is : (s : State) → added_to s ≡ added s
added_is State.Empty = refl
added_is State.Registered = refl
added_is State.Created = refl
added_is State.Normal = refl
added_is State.NoIo = refl

-- ---- every event

-- the same of a turn
record Does (l : Left) (e : Event) (w : Held) (t : Turn) : Type 0 where
  answer : t.answer ≡ l.answer
  id : t.node.id ≡ w.at.node.id
  chunks : t.node.chunks ≡ w.at.node.chunks
  state : t.node.state ≡ l.state
  store : t.node.store ≡ l.store
  create : t.node.create ≡ l.create
  members : (m : ℕ) → Iff (In t.node.members m) (l.members m)
  version : t.node.version ≡ l.version
  transfer : t.node.transfer ≡ l.transfer
  kept : length w.at.node.kept ≡ 16 → kept_chunks t.node ≡ l.kept
  map : l.map (map_by t w.map w.staging)
  staging : l.staging (staging_with (part_in e) t.effect.staging (staging_by t w.map w.staging))

-- the turn that it does
abbrev done_at : Event → Held → Turn
done_at e w = (law e w.at.node (lent_at w)).done

not-no-io : (s : State) → s ≡ State.Registered → s ≢ State.NoIo
not-no-io s q r = clash (ap is_no_io r) (ap is_no_io q)

-- unregister, in REGISTERED and in NO_IO
gave-up : (delete : Bool) (w : Held) → Known (Event.unregister delete) w → Does (leaves (Event.unregister delete) w) (Event.unregister delete) w (done_at (Event.unregister delete) w)
unfolding law staging_by map_by staging_after map_after taken_in went_to equipped taken_over member_entered member_dropped stored_version kept_chunk forgotten transferred ended_transfer instructed registered_create registered_add unregistered wiped joined_create left enabled disabled informed readied part_taken committed written filled
gave-up true w d = at (nine (Event.unregister true) w d)
  where
    at : (needs (Event.unregister true) w.at.node).nine → Does (leaves (Event.unregister true) w) (Event.unregister true) w (done_at (Event.unregister true) w)
    at (inl q) = subst (λ (s : State). Does (given_up s (store false (mark false (map Zeroed (members (λ m. ⊥) (version 0 (stays w))))))) (Event.unregister true) w (done_at (Event.unregister true) w)) (sym q) (record { answer = refl; id = refl; chunks = refl; state = rw q refl; store = refl; create = refl; members = nobody; version = refl; transfer = none-else w.at.node d.rules (not-no-io w.at.node.state q); kept = λ h. refl; map = all-zero w.map (map_is (Event.unregister true) w d).len; staging = rw q refl })
    at (inr (q, b, c)) = subst (λ (s : State). Does (given_up s (store false (mark false (map Zeroed (members (λ m. ⊥) (version 0 (stays w))))))) (Event.unregister true) w (done_at (Event.unregister true) w)) (sym q) (record { answer = refl; id = refl; chunks = refl; state = rw q refl; store = refl; create = refl; members = nobody; version = refl; transfer = refl; kept = λ h. refl; map = all-zero w.map (map_is (Event.unregister true) w d).len; staging = rw q (all-zero w.staging (staging-is (Event.unregister true) w d).len) })
gave-up false w d = at (nine (Event.unregister false) w d)
  where
    at : (needs (Event.unregister false) w.at.node).nine → Does (leaves (Event.unregister false) w) (Event.unregister false) w (done_at (Event.unregister false) w)
    at (inl q) = subst (λ (s : State). Does (given_up s (store false (mark false (stays w)))) (Event.unregister false) w (done_at (Event.unregister false) w)) (sym q) (record { answer = refl; id = refl; chunks = refl; state = rw q refl; store = refl; create = refl; members = λ m. same; version = refl; transfer = none-else w.at.node d.rules (not-no-io w.at.node.state q); kept = λ h. refl; map = refl; staging = rw q refl })
    at (inr (q, b, c)) = subst (λ (s : State). Does (given_up s (store false (mark false (stays w)))) (Event.unregister false) w (done_at (Event.unregister false) w)) (sym q) (record { answer = refl; id = refl; chunks = refl; state = rw q refl; store = refl; create = refl; members = λ m. same; version = refl; transfer = refl; kept = λ h. refl; map = refl; staging = rw q (all-zero w.staging (staging-is (Event.unregister false) w d).len) })

done : (e : Event) (w : Held) → Known e w → Does (leaves e w) e w (done_at e w)
unfolding law staging_by map_by staging_after map_after taken_in went_to equipped taken_over member_entered member_dropped stored_version kept_chunk forgotten transferred ended_transfer instructed registered_create registered_add unregistered wiped joined_create left enabled disabled informed readied part_taken committed written filled
done Event.register_create w d =
    record { answer = refl; id = refl; chunks = refl; state = refl; store = refl; create = refl; members = λ m. alone w.at.node.id m (three Event.register_create w d); version = refl; transfer = refl; kept = λ h. refl; map = all-zero w.map (map_is Event.register_create w d).len; staging = refl }
done (Event.register_add set version) w d =
    record { answer = refl; id = refl; chunks = refl; state = added_is w.at.node.state; store = refl; create = refl; members = λ m. same; version = refl; transfer = refl; kept = λ h. refl; map = refl; staging = refl }
done (Event.unregister delete) w d = gave-up delete w d
done (Event.join_create set) w d =
    record { answer = refl; id = refl; chunks = refl; state = refl; store = refl; create = refl; members = λ m. entered set w.at.node.id m (three (Event.join_create set) w d).0; version = refl; transfer = refl; kept = λ h. refl; map = own_row w.at.node.chunks w.map (map_is (Event.join_create set) w d) w.at.node.id; staging = refl }
done Event.assemble w d =
    record { answer = refl; id = refl; chunks = refl; state = refl; store = refl; create = refl; members = λ m. same; version = refl; transfer = refl; kept = λ h. refl; map = refl; staging = refl }
done (Event.leave true) w d =
    record { answer = refl; id = refl; chunks = refl; state = left-to w.at.node.store; store = refl; create = refl; members = λ m. same; version = refl; transfer = refl; kept = λ h. refl; map = own_row w.at.node.chunks w.map (map_is (Event.leave true) w d) w.at.node.id; staging = all-zero w.staging (staging-is (Event.leave true) w d).len }
done (Event.leave false) w d =
    record { answer = refl; id = refl; chunks = refl; state = left-to w.at.node.store; store = refl; create = refl; members = λ m. same; version = refl; transfer = refl; kept = λ h. refl; map = refl; staging = all-zero w.staging (staging-is (Event.leave false) w d).len }
done (Event.enable1 version set) w d =
    record { answer = refl; id = refl; chunks = refl; state = refl; store = refl; create = refl; members = λ m. same; version = refl; transfer = refl; kept = λ h. refl; map = set-rows w.at.node.chunks w.map (map_is (Event.enable1 version set) w d) set; staging = all-zero w.staging (staging-is (Event.enable1 version set) w d).len }
done Event.enable0 w d =
    record { answer = refl; id = refl; chunks = refl; state = refl; store = refl; create = refl; members = λ m. same; version = refl; transfer = refl; kept = λ h. refl; map = refl; staging = all-zero w.staging (staging-is Event.enable0 w d).len }
done Event.fault w d =
    record { answer = refl; id = refl; chunks = refl; state = refl; store = refl; create = refl; members = λ m. same; version = refl; transfer = refl; kept = λ h. refl; map = refl; staging = refl }
done (Event.write chunk set version) w d =
    record { answer = refl; id = refl; chunks = refl; state = refl; store = refl; create = refl; members = λ m. same; version = refl; transfer = refl; kept = λ h. one_more w.at.node.kept w.at.node.held chunk h (few-held w.at.node d.rules); map = marks w.at.node.chunks w.map (map_is (Event.write chunk set version) w d) set chunk (four (Event.write chunk set version) w d) d.rules.few; staging = refl }
done (Event.synced member chunk) w d =
    record { answer = refl; id = refl; chunks = refl; state = refl; store = refl; create = refl; members = λ m. same; version = refl; transfer = refl; kept = λ h. refl; map = clears w.at.node.chunks w.map (map_is (Event.synced member chunk) w d) member chunk; staging = refl }
done (Event.pool_info Op.AddCreate member) w d =
    record { answer = refl; id = refl; chunks = refl; state = refl; store = refl; create = refl; members = λ m. entered w.at.node.members member m (three (Event.pool_info Op.AddCreate member) w d).1; version = refl; transfer = refl; kept = λ h. refl; map = other-rows w.at.node.chunks w.map (map_is (Event.pool_info Op.AddCreate member) w d) member; staging = refl }
done (Event.pool_info Op.AddAssemble member) w d =
    record { answer = refl; id = refl; chunks = refl; state = refl; store = refl; create = refl; members = λ m. same; version = refl; transfer = refl; kept = λ h. refl; map = refl; staging = refl }
done (Event.pool_info Op.RemoveDelete member) w d =
    record { answer = refl; id = refl; chunks = refl; state = refl; store = refl; create = refl; members = λ m. taken_out w.at.node.members member m; version = refl; transfer = refl; kept = λ h. refl; map = other-rows w.at.node.chunks w.map (map_is (Event.pool_info Op.RemoveDelete member) w d) member; staging = refl }
done (Event.pool_info Op.RemoveDisassemble member) w d =
    record { answer = refl; id = refl; chunks = refl; state = refl; store = refl; create = refl; members = λ m. same; version = refl; transfer = refl; kept = λ h. refl; map = refl; staging = refl }
done (Event.map_ready true) w d =
    record { answer = refl; id = refl; chunks = refl; state = refl; store = refl; create = refl; members = λ m. same; version = refl; transfer = refl; kept = λ h. refl; map = refl; staging = copied_all w.staging w.map ((staging-is (Event.map_ready true) w d).len ∙ sym (map_is (Event.map_ready true) w d).len) }
done (Event.map_ready false) w d =
    record { answer = refl; id = refl; chunks = refl; state = refl; store = refl; create = refl; members = λ m. same; version = refl; transfer = refl; kept = λ h. refl; map = refl; staging = all-zero w.staging (staging-is (Event.map_ready false) w d).len }
done (Event.give_part offset size) w d =
    record { answer = refl; id = refl; chunks = refl; state = refl; store = refl; create = refl; members = λ m. same; version = refl; transfer = refl; kept = λ h. refl; map = refl; staging = refl }
done (Event.take_part offset part) w d =
    record { answer = refl; id = refl; chunks = refl; state = refl; store = refl; create = refl; members = λ m. same; version = refl; transfer = refl; kept = λ h. refl; map = refl; staging = let p = sixteen (Event.take_part offset part) w d in part-ors w.at.node.chunks w.staging (staging-is (Event.take_part offset part) w d) offset part (part-clean w.at.node.chunks offset part p.4) p.2 }
done (Event.map_done true version set) w d =
    record { answer = refl; id = refl; chunks = refl; state = refl; store = refl; create = refl; members = λ m. same; version = refl; transfer = refl; kept = λ h. refl; map = let s : Sound w.at.node.chunks w.staging = staging-is (Event.map_done true version set) w d in rw (copied_all w.map w.staging ((map_is (Event.map_done true version set) w d).len ∙ sym s.len)) (set-rows w.at.node.chunks w.staging s set); staging = all-zero w.staging (staging-is (Event.map_done true version set) w d).len }
done (Event.map_done false version set) w d =
    record { answer = refl; id = refl; chunks = refl; state = refl; store = refl; create = refl; members = λ m. same; version = refl; transfer = refl; kept = λ h. refl; map = let s : Sound w.at.node.chunks w.staging = staging-is (Event.map_done false version set) w d in rw (copied_all w.map w.staging ((map_is (Event.map_done false version set) w d).len ∙ sym s.len)) (set-rows w.at.node.chunks w.staging s set); staging = all-zero w.staging (staging-is (Event.map_done false version set) w d).len }
done Event.map_disable w d =
    record { answer = refl; id = refl; chunks = refl; state = refl; store = refl; create = refl; members = λ m. same; version = refl; transfer = refl; kept = λ h. refl; map = refl; staging = all-zero w.staging (staging-is Event.map_disable w d).len }
done Event.map_get_ver w d =
    record { answer = refl; id = refl; chunks = refl; state = refl; store = refl; create = refl; members = λ m. same; version = refl; transfer = refl; kept = λ h. refl; map = refl; staging = refl }
done (Event.last_io_to_map chosen) w d =
    record { answer = refl; id = refl; chunks = refl; state = refl; store = refl; create = refl; members = λ m. same; version = refl; transfer = refl; kept = λ h. refl; map = unfold marked in last-ios w.at.node chosen w.staging w.map d.rules (map_is (Event.last_io_to_map chosen) w d) (staging-is (Event.last_io_to_map chosen) w d); staging = refl }
done (Event.fill member version) w d =
    record { answer = refl; id = refl; chunks = refl; state = refl; store = refl; create = refl; members = λ m. same; version = refl; transfer = refl; kept = λ h. refl; map = fills w.at.node.chunks w.map (map_is (Event.fill member version) w d) member (let l : member ≤ 15 = (three (Event.fill member version) w d).1 in omega arith) d.rules.few; staging = refl }

pub fields-as-said : FieldsAsSaid
fields-as-said e w a =
    let d = known e w a in
    let r : Does (leaves e w) e w _ = subst (λ (t : Turn). Does (leaves e w) e w t) (sym d.turn) (done e w d) in
    record {
      answer = r.answer;
      id = r.id;
      chunks = r.chunks;
      state = r.state;
      store = r.store;
      create = r.create;
      members = r.members;
      version = r.version;
      transfer = r.transfer;
      kept = r.kept;
      map = r.map;
      staging = r.staging;
      summaries = ap (λ (ws : List ℕ). agree ws (map_left e w.at w.map w.staging)) (stays-true e w.at w.map w.staging d.agrees) ∙ one-summary.agrees (map_left e w.at w.map w.staging);
    }

-- unregister's map, whatever the state
pub given-up-map : (s : State) (l : Left) (left : List ℕ) → (given_up s l).map left → l.map left
given-up-map State.Empty l left z = z
given-up-map State.Registered l left z = z
given-up-map State.Created l left z = z
given-up-map State.Normal l left z = z
given-up-map State.NoIo l left z = z

pub map-as-said : (e : Event) (w : Held) → Accepts e w → (leaves e w).map (next e w).map
map-as-said e w a = (fields-as-said e w a).map

pub staging-as-said : (e : Event) (w : Held) → Accepts e w → (leaves e w).staging (next e w).staging
staging-as-said e w a = (fields-as-said e w a).staging
