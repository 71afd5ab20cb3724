-- Which events of a node leave its own row empty where it is: all but a write, a fill, MAP_DONE and LAST_IO.
use mathlib.Core.Path.{◌≡◌, refl, sym, ◌∙◌, subst}
use mathlib.Core.Bool.{Bool, true, false}
use mathlib.Core.List.{List}
use mathlib.Core.Logic.{◌⊎◌, inl, inr, ◌≢◌}
use Prim.Native.Nat.{ℕ, zero, suc, ◌/◌, ◌%◌, ◌<◌}
use native.Mathlib.Decide.{ℕ_discrete}
use native.Mathlib.Omega.{arith}
use lib.ListN.{get_or, replicate}
use Rattle.laws_words.specs.Words.{pick, bit}
use Rattle.laws_words.specs.Bits.{bit-none}
use Rattle.laws_words.specs.Tests.{clash, by_cases}
use Rattle.rules_base.specs.Sets.{has}
use Rattle.rules_base.specs.Chunk.{there, byte_of, dirty}
use Rattle.rules_node.specs.Events.{Event}
use Rattle.rules_node.specs.Held.{Held, next}
use Rattle.rules_node.specs.Turns.{is_accepted}
use Rattle.theorem_node.specs.Said.{Zeroed, Rows, Cleared, Own, In, zeroes_row, said_of}
use Rattle.theorem_node.proofs.Said.{map-as-said}
use Rattle.rules_world.specs.Station.{Station, face, does}
use Rattle.model_pool.proofs.Did.{stays}

-- no chunk is dirty for m
abbrev pub Empty : ℕ → List ℕ → Type 0
Empty m xs = (k : ℕ) → k < 4096 → dirty xs m k ≡ 0

abbrev pub brings : Event → Bool
brings Event.register_create = false
brings (Event.register_add set version) = false
brings (Event.unregister delete) = false
brings (Event.join_create set) = false
brings Event.assemble = false
brings (Event.leave delete) = false
brings (Event.enable1 version set) = false
brings Event.enable0 = false
brings Event.fault = false
brings (Event.write chunk set version) = true
brings (Event.synced member chunk) = false
brings (Event.pool_info op member) = false
brings (Event.map_ready keep) = false
brings (Event.give_part offset size) = false
brings (Event.take_part offset part) = false
brings (Event.map_done enable version set) = true
brings Event.map_disable = false
brings Event.map_get_ver = false
brings (Event.last_io_to_map chosen) = true
brings (Event.fill member version) = true

-- ---- what is left of a row

none-dirty : (k : ℕ) (b : Bool) → pick b (bit 0 k) 0 ≡ 0
none-dirty k true = bit-none k
none-dirty k false = refl

byte-zero : (xs : List ℕ) (m k : ℕ) → get_or xs (byte_of m k) 0 ≡ 0 → dirty xs m k ≡ 0
unfolding dirty
byte-zero xs m k e = rw e (none-dirty (k % 8) (there m k))

byte-same : (xs ys : List ℕ) (m k : ℕ) → get_or ys (byte_of m k) 0 ≡ get_or xs (byte_of m k) 0 → dirty ys m k ≡ dirty xs m k
unfolding dirty
byte-same xs ys m k e = rw e refl

in_row : (m k : ℕ) → k < 4096 → byte_of m k / 512 ≡ m
unfolding byte_of
in_row m k h = omega arith

zeros : (n i : ℕ) → ◌≡◌ {A = ℕ} (get_or (replicate n 0) i 0) 0
zeros zero i = refl
zeros (suc n) zero = refl
zeros (suc n) (suc i) = zeros n i

zeroed-empty : (m : ℕ) (left : List ℕ) → Zeroed left → Empty m left
zeroed-empty m left z k h = byte-zero left m k (rw z (zeros 8192 (byte_of m k)))

rows_empty : (named : ℕ → Type 0) (from left : List ℕ) (m : ℕ) → Rows named from left → named m ⊎ (named m → ⊥) → Empty m from → Empty m left
rows_empty named from left m r (inl n) e k h = byte-same from left m k (r.those (byte_of m k) (subst named (sym (in_row m k h)) n)) ∙ e k h
rows_empty named from left m r (inr d) e k h = byte-zero left m k (r.others (byte_of m k) (λ n. d (subst named (in_row m k h) n)))

cleared-empty : (member chunk m : ℕ) (from left : List ℕ) → Cleared member chunk from left → Empty m from → Empty m left
cleared-empty member chunk m from left c e k h = elim (ℕ_discrete m member) [
  | yes p ↦ elim (ℕ_discrete k chunk) [
    | yes q ↦ rw (p, q) c.that
    | no d ↦ c.others m k (λ z. d z.1) ∙ e k h
  ]
  | no d ↦ c.others m k (λ z. d z.0) ∙ e k h
]

same-empty : (m : ℕ) (from left : List ℕ) → left ≡ from → Empty m from → Empty m left
same-empty m from left q e = subst (Empty m) (sym q) e

picked-map : (b : Bool) (A B C : Type 0) → (A → C) → (B → C) → pick b A B → C
picked-map true A B C f g x = f x
picked-map false A B C f g x = g x

in-or-not : (set m : ℕ) → In set m ⊎ (In set m → ⊥)
in-or-not set m = by_cases (has set m) (λ e. inl e) (λ e. inr (λ z. clash z e))

not-or-is : (a b : ℕ) → (a ≢ b) ⊎ ((a ≢ b) → ⊥)
not-or-is a b = elim (ℕ_discrete a b) [ yes p ↦ inr (λ d. d p) | no d ↦ inl d ]

abbrev held : Station → Held
held s = record { at = face s; map = s.map; staging = s.staging }

said : (m : ℕ) (e : Event) (s : Station) → brings e ≡ false → s.node.id ≡ m → Empty m s.map → (left : List ℕ) → (said_of e (held s)).map left → Empty m left
said m Event.register_create s b i e left z = zeroed-empty m left z
said m (Event.register_add set version) s b i e left z = same-empty m s.map left z e
said m (Event.unregister delete) s b i e left z = picked-map delete (Zeroed left) (left ≡ s.map) (Empty m left) (λ q. zeroed-empty m left q) (λ q. same-empty m s.map left q e) z
said m (Event.join_create set) s b i e left z = rows_empty (Own (held s)) s.map left m z (inl (sym i)) e
said m Event.assemble s b i e left z = same-empty m s.map left z e
said m (Event.leave delete) s b i e left z = picked-map delete (Rows (Own (held s)) s.map left) (left ≡ s.map) (Empty m left) (λ q. rows_empty (Own (held s)) s.map left m q (inl (sym i)) e) (λ q. same-empty m s.map left q e) z
said m (Event.enable1 version set) s b i e left z = rows_empty (In set) s.map left m z (in-or-not set m) e
said m Event.enable0 s b i e left z = same-empty m s.map left z e
said m Event.fault s b i e left z = same-empty m s.map left z e
said m (Event.write chunk set version) s b i e left z = clash refl b
said m (Event.synced member chunk) s b i e left z = cleared-empty member chunk m s.map left z e
said m (Event.pool_info op member) s b i e left z = picked-map (zeroes_row op) (Rows (λ n. n ≢ member) s.map left) (left ≡ s.map) (Empty m left) (λ q. rows_empty (λ n. n ≢ member) s.map left m q (not-or-is m member) e) (λ q. same-empty m s.map left q e) z
said m (Event.map_ready keep) s b i e left z = same-empty m s.map left z e
said m (Event.give_part offset size) s b i e left z = same-empty m s.map left z e
said m (Event.take_part offset part) s b i e left z = same-empty m s.map left z e
said m (Event.map_done enable version set) s b i e left z = clash refl b
said m Event.map_disable s b i e left z = same-empty m s.map left z e
said m Event.map_get_ver s b i e left z = same-empty m s.map left z e
said m (Event.last_io_to_map chosen) s b i e left z = clash refl b
said m (Event.fill member version) s b i e left z = clash refl b

-- accepted or refused
pub row_kept : (m : ℕ) (e : Event) (s : Station) → brings e ≡ false → s.node.id ≡ m → Empty m s.map → Empty m (does s e).station.map
row_kept m e s b i k =
    by_cases (is_accepted (does s e).answer)
    (λ a. unfold does in said m e s b i k (next e (held s)).map (map-as-said e (held s) a))
    (λ z. subst (λ (x : Station). Empty m x.map) (sym (stays e s z)) k)
