-- What is remembered where little changes; and that no event but register create marks a node.
use mathlib.Core.Path.{◌≡◌, refl, sym, ap, ◌∙◌}
use mathlib.Core.Bool.{Bool, true, false, ◌&&◌, ◌||◌}
use mathlib.Core.List.{List}
use mathlib.Core.Logic.{◌⊎◌, inl, inr}
use Prim.Native.Nat.{ℕ}
use Rattle.laws_words.specs.Tests.{clash, by_cases}
use Rattle.rules_base.specs.declared.Op.{Op}
use Rattle.rules_pool.specs.declared.Told.{Told}
use Rattle.rules_pool.specs.declared.Message.{Message}
use Rattle.rules_node.specs.declared.Node.{Node}
use Rattle.rules_node.specs.Change.{went_to, equipped, taken_over, member_entered, member_dropped, stored_version, kept_chunk, forgotten, transferred, ended_transfer, instructed}
use Rattle.rules_node.specs.Register.{registered_create, registered_add, wiped, unregistered}
use Rattle.rules_node.specs.Join.{joined_create, left}
use Rattle.rules_node.specs.Enable.{enabled, disabled}
use Rattle.rules_node.specs.Write.{written}
use Rattle.rules_node.specs.Info.{informed}
use Rattle.rules_node.specs.Fill.{filled}
use Rattle.rules_node.specs.Serve.{readied}
use Rattle.rules_node.specs.Hand.{part_taken, committed}
use Rattle.rules_node.specs.Events as storage
use Rattle.laws_node.proofs.Theorems.{law}
use Rattle.rules_node.specs.Turns.{is_accepted}
use Rattle.rules_world.specs.Station.{Station, does}
use Rattle.rules_world.specs.Together.{deliver}
use Rattle.model_pool.proofs.Did.{lent, took, stays}
use Rattle.model_pool.proofs.Every.{arrived, every-told, every-delivered}
use Rattle.rules_world.specs.Whole.{World, Happening}
use Rattle.rules_world.specs.History.{History, then, Origin, origin_of, is_message}
use Rattle.theorem_forgotten.specs.Forgotten.{Missed, Passed, Added, Synced}
use Rattle.theorem_forgotten.proofs.Tells.{grows}

-- ---- tests

pub or-none : (b : Bool) → (b || false) ≡ b
or-none true = refl
or-none false = refl

pub or-all : (b : Bool) → (b || true) ≡ true
or-all true = refl
or-all false = refl

pub and-true : (b : Bool) → (b && true) ≡ b
and-true true = refl
and-true false = refl

-- ---- what is owed stays owed where nothing new is missed

-- nothing new is missed by what happened
passed-grows : (w : World) (x : Happening) (n c : ℕ) → Passed w x n c → grows x ≡ true
passed-grows w x n c p = ap grows p.wrote

added-grows : (w : World) (h : History w) (x : Happening) (n c : ℕ) → Added h x n c → grows x ≡ true
added-grows w h x n c p = ap grows p.extends

pub still-missed : (w : World) (h : History w) (x : Happening) → grows x ≡ false → (n c : ℕ) → Missed n c (then w x h) → Missed n c h × ((Synced w x n c) → ⊥)
still-missed w h x g n c k = at k.0
  where
    at : Passed w x n c ⊎ (Added h x n c ⊎ (Missed n c h × ((Synced w x n c) → ⊥))) → Missed n c h × ((Synced w x n c) → ⊥)
    at (inl p) = clash (passed-grows w x n c p) g
    at (inr (inl p)) = clash (added-grows w h x n c p) g
    at (inr (inr p)) = p

-- ---- marked create

abbrev pub is_afresh : Origin → Bool
is_afresh Origin.afresh = true
is_afresh (Origin.added version) = false
is_afresh (Origin.given_up delete) = false
is_afresh Origin.joins_create = false
is_afresh Origin.joins_assemble = false
is_afresh Origin.fault = false
is_afresh Origin.message = false

mark-old : (e : storage.Event) (n : Node) (l : ℕ) → is_afresh (origin_of e) ≡ false → (law e n l).done.node.create ≡ true → n.create ≡ true
unfolding law registered_create registered_add wiped unregistered joined_create left enabled disabled written informed filled readied part_taken committed went_to equipped taken_over member_entered member_dropped stored_version kept_chunk forgotten transferred ended_transfer instructed
mark-old storage.Event.register_create n l f c = clash refl f
mark-old (storage.Event.register_add set version) n l f c = clash c refl
mark-old (storage.Event.unregister true) n l f c = clash c refl
mark-old (storage.Event.unregister false) n l f c = clash c refl
mark-old (storage.Event.join_create set) n l f c = clash c refl
mark-old storage.Event.assemble n l f c = c
mark-old (storage.Event.leave delete) n l f c = c
mark-old (storage.Event.enable1 version set) n l f c = c
mark-old storage.Event.enable0 n l f c = c
mark-old storage.Event.fault n l f c = c
mark-old (storage.Event.write chunk set version) n l f c = c
mark-old (storage.Event.synced member chunk) n l f c = c
mark-old (storage.Event.pool_info Op.AddCreate member) n l f c = c
mark-old (storage.Event.pool_info Op.AddAssemble member) n l f c = c
mark-old (storage.Event.pool_info Op.RemoveDelete member) n l f c = c
mark-old (storage.Event.pool_info Op.RemoveDisassemble member) n l f c = c
mark-old (storage.Event.map_ready keep) n l f c = c
mark-old (storage.Event.give_part offset size) n l f c = c
mark-old (storage.Event.take_part offset part) n l f c = c
mark-old (storage.Event.map_done enabling version set) n l f c = c
mark-old storage.Event.map_disable n l f c = c
mark-old storage.Event.map_get_ver n l f c = c
mark-old (storage.Event.last_io_to_map chosen) n l f c = c
mark-old (storage.Event.fill member version) n l f c = c

-- a node that is marked was marked before
abbrev pub Unmarked : Station → Station → Type 0
Unmarked s s' = s'.node.create ≡ true → s.node.create ≡ true

pub unmarked-by : (e : storage.Event) (s : Station) → is_afresh (origin_of e) ≡ false → Unmarked s (does s e).station
unmarked-by e s f c = by_cases (is_accepted (does s e).answer)
    (λ z. mark-old e s.node (lent s) f (ap (λ (x : Station). x.node.create) (sym (took e s z).is) ∙ c))
    (λ z. ap (λ (x : Station). x.node.create) (sym (stays e s z)) ∙ c)

-- so it is through every message
message-old : (o : Origin) → is_message o ≡ true → is_afresh o ≡ false
message-old Origin.afresh e = clash e refl
message-old (Origin.added version) e = refl
message-old (Origin.given_up delete) e = refl
message-old Origin.joins_create e = refl
message-old Origin.joins_assemble e = refl
message-old Origin.fault e = refl
message-old Origin.message e = refl

module _ (f₀ : ℕ → Station) where
  pub message-unmarked : (j : ℕ) (e : storage.Event) (s : Station) → is_message (origin_of e) ≡ true → Unmarked (f₀ j) s → Unmarked (f₀ j) (does s e).station
  message-unmarked j e s m k c = k (unmarked-by e s (message-old (origin_of e) m) c)

  pub told-unmarked : (got : ℕ) (t : Told) (j : ℕ) → Unmarked (f₀ j) (arrived got t f₀ j)
  told-unmarked got t j = every-told (λ i. Unmarked (f₀ i)) message-unmarked got t f₀ (λ i c. c) j

  pub deliver-unmarked : (ls : List ℕ) (x : Message) (j : ℕ) → Unmarked (f₀ j) ((deliver ls x f₀).nodes j)
  deliver-unmarked ls x j = every-delivered (λ i. Unmarked (f₀ i)) message-unmarked ls x f₀ (λ i c. c) j
