-- A node stays what it is through every event.
use mathlib.Core.Path.{◌≡◌, refl, sym, ap, ◌∙◌, subst}
use mathlib.Core.Bool.{Bool, true, false}
use Prim.Native.Nat.{ℕ}
use Rattle.laws_words.specs.Tests.{clash, by_cases, and_left, and_right}
use Rattle.rules_base.specs.declared.Op.{Op}
use Rattle.rules_node.specs.declared.State.{State}
use Rattle.rules_node.specs.declared.Node.{Node}
use Rattle.rules_node.specs.States.{is_normal, is_no_io, is_joined, in_hand}
use Rattle.rules_node.specs.Change.{went_to, equipped, taken_over, member_entered, member_dropped, stored_version, kept_chunk, forgotten, transferred, ended_transfer, instructed}
use Rattle.rules_node.specs.StateRules.{standing}
use Rattle.rules_node.specs.Table.{legal, Kind}
use Rattle.laws_node.proofs.Valid.{Valid}
use Rattle.rules_node.specs.Register.{registered_create, registered_add, wiped, unregistered}
use Rattle.rules_node.specs.Join.{joined_create, left}
use Rattle.rules_node.specs.Enable.{enabled, disabled}
use Rattle.rules_node.specs.Write.{written}
use Rattle.rules_node.specs.Info.{informed}
use Rattle.rules_node.specs.Fill.{filled}
use Rattle.rules_node.specs.Serve.{readied}
use Rattle.rules_node.specs.Hand.{part_taken, committed}
use Rattle.rules_node.specs.Events.{Event, kind_of}
use Rattle.rules_node.specs.Face.{StorageNode}
use Rattle.rules_node.specs.Face.{map_left, staging_left}
use Rattle.laws_node.proofs.Theorems.{Good, law, law-rules, stays-good}
use Rattle.rules_node.specs.Turns.{is_accepted}
use Rattle.rules_world.specs.Station.{Station, face, does}
use Rattle.theorem_honest.proofs.Faces.{face-stays}
use Rattle.model_pool.specs.Holds.{Sane}
use Rattle.model_pool.proofs.Did.{lent, took, stays}

-- who has joined is not marked create
pub joined-unmarked : (st : State) (store create hand own : Bool) → standing st store create hand own ≡ true → is_joined st ≡ true → create ≡ false
joined-unmarked State.Empty store create hand own e j = clash j refl
joined-unmarked State.Registered store create hand own e j = clash j refl
joined-unmarked State.Created store true hand own e j = clash (and_right own false e) refl
joined-unmarked State.Created store false hand own e j = refl
joined-unmarked State.Normal store true hand own e j = clash (and_right own false e) refl
joined-unmarked State.Normal store false hand own e j = refl
joined-unmarked State.NoIo store true hand own e j = clash (and_right own false e) refl
joined-unmarked State.NoIo store false hand own e j = refl

normal-joined : (st : State) → is_normal st ≡ true → is_joined st ≡ true
normal-joined State.Empty e = e
normal-joined State.Registered e = e
normal-joined State.Created e = refl
normal-joined State.Normal e = refl
normal-joined State.NoIo e = refl

noio-joined : (st : State) → is_no_io st ≡ true → is_joined st ≡ true
noio-joined State.Empty e = e
noio-joined State.Registered e = e
noio-joined State.Created e = refl
noio-joined State.Normal e = refl
noio-joined State.NoIo e = refl

-- an event by which a node stays in its state comes only to one that has joined
stays-joined : (from to : State) → legal Kind.fill from to ≡ true → is_joined from ≡ true
stays-joined State.Empty to e = clash e refl
stays-joined State.Registered to e = clash e refl
stays-joined State.Created to e = refl
stays-joined State.Normal to e = refl
stays-joined State.NoIo to e = refl

module _ (n : Node) (l : ℕ) (v : Valid n) (new : n.create ≡ true → n.version ≡ 0) where
  -- no version is stored on a node that is marked create
  unmarked : is_joined n.state ≡ true → n.create ≡ true → ⊥
  unmarked j c = clash c (joined-unmarked n.state n.store n.create (in_hand n.transfer) _ v.stand j)

  mark-kept : (e : Event) → legal (kind_of e) n.state (law e n l).done.node.state ≡ true → (law e n l).done.node.create ≡ true → (law e n l).done.node.version ≡ 0
  unfolding law registered_create registered_add wiped unregistered joined_create left enabled disabled written informed filled readied part_taken committed went_to equipped taken_over member_entered member_dropped stored_version kept_chunk forgotten transferred ended_transfer instructed
  mark-kept Event.register_create k c = refl
  mark-kept (Event.register_add set version) k c = clash c refl
  mark-kept (Event.unregister true) k c = refl
  mark-kept (Event.unregister false) k c = clash c refl
  mark-kept (Event.join_create set) k c = clash c refl
  mark-kept Event.assemble k c = new c
  mark-kept (Event.leave delete) k c = new c
  mark-kept (Event.enable1 version set) k c = absurd (unmarked (and_left (is_joined n.state) _ k) c)
  mark-kept Event.enable0 k c = new c
  mark-kept Event.fault k c = new c
  mark-kept (Event.write chunk set version) k c = absurd (unmarked (normal-joined n.state (and_left (is_normal n.state) _ k)) c)
  mark-kept (Event.synced member chunk) k c = new c
  mark-kept (Event.pool_info Op.AddCreate member) k c = new c
  mark-kept (Event.pool_info Op.AddAssemble member) k c = new c
  mark-kept (Event.pool_info Op.RemoveDelete member) k c = new c
  mark-kept (Event.pool_info Op.RemoveDisassemble member) k c = new c
  mark-kept (Event.map_ready keep) k c = new c
  mark-kept (Event.give_part offset size) k c = new c
  mark-kept (Event.take_part offset part) k c = new c
  mark-kept (Event.map_done enabling version set) k c = absurd (unmarked (noio-joined n.state (and_left (is_no_io n.state) _ k)) c)
  mark-kept Event.map_disable k c = new c
  mark-kept Event.map_get_ver k c = new c
  mark-kept (Event.last_io_to_map chosen) k c = new c
  mark-kept (Event.fill member version) k c = absurd (unmarked (stays-joined n.state n.state k) c)

pub sane-keeps : (c j : ℕ) (e : Event) (s : Station) → Sane c j s → Sane c j (does s e).station
sane-keeps c j e s h = by_cases (is_accepted (does s e).answer) yes (λ z. subst (Sane c j) (sym (stays e s z)) h)
  where
    yes : is_accepted (does s e).answer ≡ true → Sane c j (does s e).station
    yes z =
        let t = took e s z in
        let k = (law e s.node (lent s)).keeps h.good.size t.none in
        let q = ap (λ (x : Station). x.node) t.is in
        record {
          good = unfold does in subst (λ (n : StorageNode). Good n (map_left e (face s) s.map s.staging) (staging_left e (face s) s.map s.staging)) (face-stays s e) (stays-good e (face s) s.map s.staging h.good);
          itself = ap (λ (x : Node). x.id) q ∙ (k.same_id ∙ h.itself);
          count = ap (λ (x : Node). x.chunks) q ∙ (k.same-chunks ∙ h.count);
          new = λ m. ap (λ (x : Node). x.version) q ∙ mark-kept s.node (lent s) (law-rules e s.node (lent s) t.none) h.new e k.lawful (ap (λ (x : Node). x.create) (sym q) ∙ m);
        }
