-- What each test of an event says, in the documents' words: the test does not hold exactly where the event has what it needs.
use Rattle.std.specs.Prelude.{Option, Some, None}
use mathlib.Core.Path.{◌≡◌, refl, sym, ap, ◌∙◌}
use mathlib.Core.Logic.{◌≢◌, ◌⊎◌, inl, inr}
use mathlib.Core.Bool.{Bool, true, false, not, ◌&&◌, ◌||◌}
use mathlib.Core.List.{List, [], ◌∷◌}
use Prim.Native.Nat.{ℕ, ◌+◌, ◌≤◌, ◌<◌}
use native.Mathlib.Omega.{arith}
use lib.Dec.{eqb, leb, ltb}
use lib.ListN.{length}
use borrow.Author.Tests.{ltb-true, ltb-false, lt-ltb, le-ltb, leb-true, le-leb, eqb-true, eqb-false, eq-eqb, ne_eqb, not-false}
use Rattle.laws_words.specs.Tests.{clash, and_left, and_right, and_both}
use Rattle.rules_base.specs.Refusals.{applies}
use Rattle.rules_base.specs.Map.{clean_from}
use Rattle.rules_base.specs.Parts.{is_part}
use Rattle.rules_base.specs.Sets.{has}
use Rattle.rules_base.specs.declared.Op.{Op}
use Rattle.rules_node.specs.declared.State.{State}
use Rattle.rules_node.specs.declared.Node.{Node}
use Rattle.rules_node.specs.States.{is_empty, is_registered, is_normal, is_joined, is_serving, in_hand, is_whole, taken}
use Rattle.rules_node.specs.Register.{takes_store, gives_store}
use Rattle.rules_node.specs.Join.{assembles}
use Rattle.rules_node.specs.Enable.{stoppable}
use Rattle.rules_node.specs.Info.{lacks}
use Rattle.rules_node.specs.Hand.{is_next}
use Rattle.rules_node.specs.Events.{Event, tests_at}
use Rattle.laws_node.proofs.Passed.{or-false}
use Rattle.theorem_node_exact.specs.Words.{Joined, Serving, so_far, APart}
use Rattle.theorem_node_exact.specs.When.{needs}
use Rattle.theorem_node_exact.proofs.Order.{NoneOf}
use Rattle.theorem_node_exact.proofs.Rules.{a-part, part-clean}

-- a test does not hold exactly where this does
abbrev pub Tied : Bool → Type 0 → Type 0
Tied b p = (b ≡ false → p) × (p → b ≡ false)

-- a number that the event does not give
free : Tied false (Unit {0})
free = (λ e. tt, λ u. refl)

-- both of two tests
or-tied : {a b : Bool} {p q : Type 0} → Tied a p → Tied b q → Tied (a || b) (p × q)
or-tied {a} {b} s t = (λ e. let r = or-false a b e in (s.0 r.0, t.0 r.1), λ (x, y). rw (s.1 x, t.1 y) refl)

-- a guard that must hold
guard : {b : Bool} {p : Type 0} → (b ≡ true → p) → (p → b ≡ true) → Tied (not b) p
guard {b} f g = (λ e. f (not-false b e), λ x. ap not (g x))

above : (limit x : ℕ) → Tied (ltb limit x) (x ≤ limit)
above limit x = (λ e. ltb-false limit x e, λ h. le-ltb limit x h)

below : (x limit : ℕ) → Tied (not (ltb x limit)) (x < limit)
below x limit = guard (λ e. ltb-true x limit e) (λ h. lt-ltb x limit h)

holds : (b : Bool) → Tied (not b) (b ≡ true)
holds b = guard (λ e. e) (λ e. e)

-- ---- guards, by the five states

is-empty : (s : State) → is_empty s ≡ true → s ≡ State.Empty
is-empty State.Empty e = refl
is-empty State.Registered e = clash e refl
is-empty State.Created e = clash e refl
is-empty State.Normal e = clash e refl
is-empty State.NoIo e = clash e refl

empty-only : (s : State) → Tied (not (is_empty s)) (s ≡ State.Empty)
empty-only s = guard (is-empty s) (λ q. rw q refl)

pub is-normal : (s : State) → is_normal s ≡ true → s ≡ State.Normal
is-normal State.Empty e = clash e refl
is-normal State.Registered e = clash e refl
is-normal State.Created e = clash e refl
is-normal State.Normal e = refl
is-normal State.NoIo e = clash e refl

normal-only : (s : State) → Tied (not (is_normal s)) (s ≡ State.Normal)
normal-only s = guard (is-normal s) (λ q. rw q refl)

is-joined : (s : State) → is_joined s ≡ true → Joined s
is-joined State.Empty e = clash e refl
is-joined State.Registered e = clash e refl
is-joined State.Created e = inl refl
is-joined State.Normal e = inr (inl refl)
is-joined State.NoIo e = inr (inr refl)

joined_is : (s : State) → Joined s → is_joined s ≡ true
joined_is s (inl q) = rw q refl
joined_is s (inr (inl q)) = rw q refl
joined_is s (inr (inr q)) = rw q refl

joined-only : (s : State) → Tied (not (is_joined s)) (Joined s)
joined-only s = guard (is-joined s) (joined_is s)

serving : (n : Node) → Tied (not (is_serving n)) (Serving n)
serving n = guard (λ e. (is-joined n.state (and_left (is_joined n.state) n.store e), and_right (is_joined n.state) n.store e)) (λ (s, h). and_both (joined_is n.state s) h)

marked : (n : Node) → Tied (not (is_registered n.state && n.create)) ((n.state ≡ State.Registered) × (n.create ≡ true))
marked n = guard (at n.state n.create) (λ (s, c). rw (s, c) refl)
  where
    at : (s : State) (create : Bool) → (is_registered s && create) ≡ true → (s ≡ State.Registered) × (create ≡ true)
    at State.Empty create e = clash e refl
    at State.Registered create e = (refl, e)
    at State.Created create e = clash e refl
    at State.Normal create e = clash e refl
    at State.NoIo create e = clash e refl

stops : (s : State) → Tied (not (stoppable s)) ((s ≡ State.Normal) ⊎ (s ≡ State.NoIo))
stops s = guard (at s) back
  where
    at : (s : State) → stoppable s ≡ true → (s ≡ State.Normal) ⊎ (s ≡ State.NoIo)
    at State.Empty e = clash e refl
    at State.Registered e = clash e refl
    at State.Created e = clash e refl
    at State.Normal e = inl refl
    at State.NoIo e = inr refl

    back : (s ≡ State.Normal) ⊎ (s ≡ State.NoIo) → stoppable s ≡ true
    back (inl q) = rw q refl
    back (inr q) = rw q refl

abbrev GivesUp : State → Bool → Bool → Type 0
GivesUp s store delete = (s ≡ State.Registered) ⊎ ((s ≡ State.NoIo) × (store ≡ true) × (delete ≡ false))

gives_up : (s : State) (store delete : Bool) → Tied (not (gives_store s store delete)) (GivesUp s store delete)
gives_up s store delete = guard (at s store delete) back
  where
    at : (s : State) (store delete : Bool) → gives_store s store delete ≡ true → GivesUp s store delete
    at State.Empty store delete e = clash e refl
    at State.Registered store delete e = inl refl
    at State.Created store delete e = clash e refl
    at State.Normal store delete e = clash e refl
    at State.NoIo true true e = clash e refl
    at State.NoIo true false e = inr (refl, refl, refl)
    at State.NoIo false delete e = clash e refl

    back : GivesUp s store delete → gives_store s store delete ≡ true
    back (inl q) = rw q refl
    back (inr (a, b, c)) = rw (a, b, c) refl

abbrev TakesOne : State → Bool → Type 0
TakesOne s store = (s ≡ State.Empty) ⊎ ((s ≡ State.NoIo) × (store ≡ false))

takes_one : (s : State) (store : Bool) → Tied (not (takes_store s store)) (TakesOne s store)
takes_one s store = guard (at s store) back
  where
    at : (s : State) (store : Bool) → takes_store s store ≡ true → TakesOne s store
    at State.Empty store e = inl refl
    at State.Registered store e = clash e refl
    at State.Created store e = clash e refl
    at State.Normal store e = clash e refl
    at State.NoIo true e = clash e refl
    at State.NoIo false e = inr (refl, refl)

    back : TakesOne s store → takes_store s store ≡ true
    back (inl q) = rw q refl
    back (inr (a, b)) = rw (a, b) refl

abbrev Assembles : State → Bool → Bool → Type 0
Assembles s store create = ((s ≡ State.Registered) × (create ≡ false)) ⊎ (s ≡ State.Normal) ⊎ ((s ≡ State.NoIo) × (store ≡ true))

does-assemble : (s : State) (store create : Bool) → Tied (not (assembles s store create)) (Assembles s store create)
does-assemble s store create = guard (at s store create) back
  where
    at : (s : State) (store create : Bool) → assembles s store create ≡ true → Assembles s store create
    at State.Empty store create e = clash e refl
    at State.Registered store true e = clash e refl
    at State.Registered store false e = inl (refl, refl)
    at State.Created store create e = clash e refl
    at State.Normal store create e = inr (inl refl)
    at State.NoIo true create e = inr (inr (refl, refl))
    at State.NoIo false create e = clash e refl

    back : Assembles s store create → assembles s store create ≡ true
    back (inl (a, b)) = rw (a, b) refl
    back (inr (inl q)) = rw q refl
    back (inr (inr (a, b))) = rw (a, b) refl

-- ---- POOL_INFO

not_itself : (member id : ℕ) → Tied (eqb member id) (member ≢ id)
not_itself member id = (λ e. eqb-false member id e, λ d. ne_eqb member id d)

abbrev is-add : Op → Bool
is-add Op.AddCreate = false
is-add Op.AddAssemble = true
is-add Op.RemoveDelete = false
is-add Op.RemoveDisassemble = false

demands-it : (op : Op) (member : Bool) → Tied (lacks op member) (op ≡ Op.AddAssemble → member ≡ true)
demands-it Op.AddCreate member = (λ e q. clash (ap is-add q) refl, λ f. refl)
demands-it Op.AddAssemble member = (λ e q. not-false member e, λ f. ap not (f refl))
demands-it Op.RemoveDelete member = (λ e q. clash (ap is-add q) refl, λ f. refl)
demands-it Op.RemoveDisassemble member = (λ e q. clash (ap is-add q) refl, λ f. refl)

-- ---- the transfer in hand

in-hand : (t : Option ℕ) → Tied (not (in_hand t)) (t ≢ None)
in-hand None = guard (λ e. clash e refl) (λ d. absurd (d refl))
in-hand (Some bytes) = guard (λ e q. clash refl (ap in_hand q)) (λ d. refl)

whole : (t : Option ℕ) → taken t ≤ 8192 → Tied (not (is_whole t)) (t ≡ Some 8192)
whole None l = guard (λ e. clash e refl) (λ q. clash (ap in_hand q) refl)
whole (Some bytes) l =
    guard (λ e. let h : 8192 ≤ bytes = leb-true 8192 bytes e in let q : bytes ≡ 8192 = omega arith in ap (λ (b : ℕ). Some b) q) (λ q. ap is_whole q)

so-far : (t : Option ℕ) → so_far t ≡ taken t
so-far None = refl
so-far (Some bytes) = refl

a-size : (offset size : ℕ) → Tied (not (is_part offset size)) ((1 ≤ size) × (size ≤ 1024) × (offset + size ≤ 8192))
a-size offset size =
    guard
    (λ e.
    let s = and_left (leb 1 size && leb size 1024) (leb (offset + size) 8192) e in
    (leb-true 1 size (and_left (leb 1 size) _ s), leb-true size 1024 (and_right (leb 1 size) _ s), leb-true (offset + size) 8192 (and_right (leb 1 size && leb size 1024) _ e)))
    (λ (a, b, c). and_both (and_both (le-leb 1 size a) (le-leb size 1024 b)) (le-leb (offset + size) 8192 c))

comes-next : (n : Node) (offset : ℕ) (part : List ℕ)
    → Tied (not (is_next n offset (length part) (clean_from n.chunks offset part)))
    ((1 ≤ length part) × (length part ≤ 1024) × (offset + length part ≤ 8192) × (offset ≡ so_far n.transfer) × APart n.chunks offset part)
comes-next n offset part =
    guard
    (λ e.
    let s = (a-size offset (length part)).0 (ap not (and_left (is_part offset (length part)) _ e)) in
    let r = and_right (is_part offset (length part)) _ e in
    (s.0, s.1, s.2, eqb-true offset (taken n.transfer) (and_left (eqb offset (taken n.transfer)) _ r) ∙ sym (so-far n.transfer), a-part n.chunks offset part (and_right (eqb offset (taken n.transfer)) _ r)))
    (λ (a, b, c, q, p). and_both (not-false (is_part offset (length part)) ((a-size offset (length part)).1 (a, b, c))) (and_both (eq-eqb offset (taken n.transfer) (q ∙ so-far n.transfer)) (part-clean n.chunks offset part p)))

-- ---- every event

-- the numbers that only a client gives
abbrev pub clients : List ℕ
clients = 5 ∷ 6 ∷ 7 ∷ 8 ∷ 17 ∷ 11 ∷ 19 ∷ 12 ∷ 13 ∷ []

pub record Ties (e : Event) (n : Node) (lent : ℕ) : Type 0 where
  pub three : Tied (applies 3 (tests_at e n lent)) (needs e n).three
  pub four : Tied (applies 4 (tests_at e n lent)) (needs e n).four
  pub nine : Tied (applies 9 (tests_at e n lent)) (needs e n).nine
  pub ten : Tied (applies 10 (tests_at e n lent)) (needs e n).ten
  pub fourteen : Tied (applies 14 (tests_at e n lent)) (needs e n).fourteen
  pub fifteen : Tied (applies 15 (tests_at e n lent)) (needs e n).fifteen
  pub sixteen : Tied (applies 16 (tests_at e n lent)) (needs e n).sixteen

-- the client's numbers are in no test
pub others : (e : Event) (n : Node) (lent : ℕ) → NoneOf clients (tests_at e n lent)
others Event.register_create n lent = (refl, (refl, (refl, (refl, (refl, (refl, (refl, (refl, (refl, tt)))))))))
others (Event.register_add set version) n lent = (refl, (refl, (refl, (refl, (refl, (refl, (refl, (refl, (refl, tt)))))))))
others (Event.unregister delete) n lent = (refl, (refl, (refl, (refl, (refl, (refl, (refl, (refl, (refl, tt)))))))))
others (Event.join_create set) n lent = (refl, (refl, (refl, (refl, (refl, (refl, (refl, (refl, (refl, tt)))))))))
others Event.assemble n lent = (refl, (refl, (refl, (refl, (refl, (refl, (refl, (refl, (refl, tt)))))))))
others (Event.leave delete) n lent = (refl, (refl, (refl, (refl, (refl, (refl, (refl, (refl, (refl, tt)))))))))
others (Event.enable1 version set) n lent = (refl, (refl, (refl, (refl, (refl, (refl, (refl, (refl, (refl, tt)))))))))
others Event.enable0 n lent = (refl, (refl, (refl, (refl, (refl, (refl, (refl, (refl, (refl, tt)))))))))
others Event.fault n lent = (refl, (refl, (refl, (refl, (refl, (refl, (refl, (refl, (refl, tt)))))))))
others (Event.write chunk set version) n lent = (refl, (refl, (refl, (refl, (refl, (refl, (refl, (refl, (refl, tt)))))))))
others (Event.synced member chunk) n lent = (refl, (refl, (refl, (refl, (refl, (refl, (refl, (refl, (refl, tt)))))))))
others (Event.pool_info op member) n lent = (refl, (refl, (refl, (refl, (refl, (refl, (refl, (refl, (refl, tt)))))))))
others (Event.map_ready keep) n lent = (refl, (refl, (refl, (refl, (refl, (refl, (refl, (refl, (refl, tt)))))))))
others (Event.give_part offset size) n lent = (refl, (refl, (refl, (refl, (refl, (refl, (refl, (refl, (refl, tt)))))))))
others (Event.take_part offset part) n lent = (refl, (refl, (refl, (refl, (refl, (refl, (refl, (refl, (refl, tt)))))))))
others (Event.map_done enabling version set) n lent = (refl, (refl, (refl, (refl, (refl, (refl, (refl, (refl, (refl, tt)))))))))
others Event.map_disable n lent = (refl, (refl, (refl, (refl, (refl, (refl, (refl, (refl, (refl, tt)))))))))
others Event.map_get_ver n lent = (refl, (refl, (refl, (refl, (refl, (refl, (refl, (refl, (refl, tt)))))))))
others (Event.last_io_to_map chosen) n lent = (refl, (refl, (refl, (refl, (refl, (refl, (refl, (refl, (refl, tt)))))))))
others (Event.fill member version) n lent = (refl, (refl, (refl, (refl, (refl, (refl, (refl, (refl, (refl, tt)))))))))

pub ties : (e : Event) (n : Node) (lent : ℕ) → taken n.transfer ≤ 8192 → Ties e n lent
ties Event.register_create n lent l = record { three = above 15 n.id; four = free; nine = empty-only n.state; ten = free; fourteen = free; fifteen = free; sixteen = free }
ties (Event.register_add set version) n lent l = record { three = or-tied (above 15 n.id) (above 65535 set); four = free; nine = takes_one n.state n.store; ten = holds (has set n.id); fourteen = above _ version; fifteen = free; sixteen = free }
ties (Event.unregister delete) n lent l = record { three = above 15 n.id; four = free; nine = gives_up n.state n.store delete; ten = free; fourteen = free; fifteen = free; sixteen = free }
ties (Event.join_create set) n lent l = record { three = or-tied (above 15 n.id) (above 65535 set); four = free; nine = marked n; ten = free; fourteen = free; fifteen = free; sixteen = free }
ties Event.assemble n lent l = record { three = above 15 n.id; four = free; nine = does-assemble n.state n.store n.create; ten = free; fourteen = free; fifteen = free; sixteen = free }
ties (Event.leave delete) n lent l = record { three = above 15 n.id; four = free; nine = joined-only n.state; ten = free; fourteen = free; fifteen = free; sixteen = free }
ties (Event.enable1 version set) n lent l = record { three = or-tied (above 15 n.id) (above 65535 set); four = free; nine = serving n; ten = holds (has set n.id); fourteen = above _ version; fifteen = free; sixteen = free }
ties Event.enable0 n lent l = record { three = above 15 n.id; four = free; nine = stops n.state; ten = free; fourteen = free; fifteen = free; sixteen = free }
ties Event.fault n lent l = record { three = above 15 n.id; four = free; nine = stops n.state; ten = free; fourteen = free; fifteen = free; sixteen = free }
ties (Event.write chunk set version) n lent l = record { three = or-tied (above 15 n.id) (above 65535 set); four = below chunk n.chunks; nine = normal-only n.state; ten = free; fourteen = above _ version; fifteen = free; sixteen = free }
ties (Event.synced member chunk) n lent l = record { three = or-tied (above 15 n.id) (above 15 member); four = below chunk n.chunks; nine = normal-only n.state; ten = free; fourteen = free; fifteen = free; sixteen = free }
ties (Event.pool_info op member) n lent l = record { three = or-tied (above 15 n.id) (above 15 member); four = free; nine = joined-only n.state; ten = or-tied (not_itself member n.id) (demands-it op (has n.members member)); fourteen = free; fifteen = free; sixteen = free }
ties (Event.map_ready keep) n lent l = record { three = above 15 n.id; four = free; nine = serving n; ten = free; fourteen = free; fifteen = free; sixteen = free }
ties (Event.give_part offset size) n lent l = record { three = above 15 n.id; four = free; nine = serving n; ten = free; fourteen = free; fifteen = free; sixteen = a-size offset size }
ties (Event.take_part offset part) n lent l = record { three = above 15 n.id; four = free; nine = free; ten = free; fourteen = free; fifteen = in-hand n.transfer; sixteen = comes-next n offset part }
ties (Event.map_done enabling version set) n lent l = record { three = or-tied (above 15 n.id) (above 65535 set); four = free; nine = free; ten = holds (has set n.id); fourteen = above _ version; fifteen = whole n.transfer l; sixteen = free }
ties Event.map_disable n lent l = record { three = above 15 n.id; four = free; nine = free; ten = free; fourteen = free; fifteen = in-hand n.transfer; sixteen = free }
ties Event.map_get_ver n lent l = record { three = above 15 n.id; four = free; nine = serving n; ten = free; fourteen = free; fifteen = free; sixteen = free }
ties (Event.last_io_to_map chosen) n lent l = record { three = or-tied (above 15 n.id) (above 15 chosen); four = free; nine = serving n; ten = free; fourteen = free; fifteen = free; sixteen = free }
ties (Event.fill member version) n lent l = record { three = or-tied (above 15 n.id) (above 15 member); four = free; nine = joined-only n.state; ten = holds (has n.members member); fourteen = above _ version; fifteen = free; sixteen = free }
