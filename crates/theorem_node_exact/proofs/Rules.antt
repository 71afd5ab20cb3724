-- A node in order, by the rules' own tests and in the documents' words.
use Rattle.std.specs.Prelude.{Option, Some, None}
use mathlib.Core.Path.{◌≡◌, refl, sym, ap, ◌∙◌}
use mathlib.Core.Logic.{◌≢◌}
use mathlib.Core.Bool.{Bool, true, false, not, ◌&&◌, ◌||◌}
use mathlib.Core.List.{List}
use Prim.Native.Nat.{ℕ, ◌+◌, ◌-◌, ◌*◌, ◌/◌, ◌%◌, ◌^◌, ◌≤◌, ◌<◌, suc-le-suc}
use native.Mathlib.Decide.{dec_lt}
use native.Mathlib.Nat.{le_trans, lt_of_lt_of_le}
use native.Mathlib.Omega.{arith}
use lib.Dec.{leb, ltb}
use lib.ListN.{get_or}
use lib.Pow.{pow_mono, shr-shr, shr_le}
use lib.Seq.{get_or-drop}
use borrow.Author.Tests.{leb-true, le-leb, ltb-true, lt-ltb}
use Rattle.laws_words.specs.Words.{bit}
use Rattle.laws_words.specs.Bits.{bit-none, bits-same}
use Rattle.laws_words.specs.Tests.{by_cases, clash, and_left, and_right, and_both}
use Rattle.rules_base.specs.Sets.{has}
use Rattle.rules_base.specs.Chunk.{there}
use Rattle.rules_base.specs.Map.{room, spare, clean_from, sound}
use Rattle.rules_base.proofs.Maps.{clean_from-yes, clean_from-at}
use Rattle.rules_base.proofs.Sound.{sound-fact, sound-test, spare-lt, sound-byte, bit_past, sound-past, sound-of-chunks}
use Rattle.rules_node.specs.declared.State.{State}
use Rattle.rules_node.specs.declared.Node.{Node}
use Rattle.rules_node.specs.States.{is_empty, is_registered, is_no_io, in_hand, taken}
use Rattle.rules_node.specs.StateRules.{is_kept, place_ok, kept_ok, store_ok, standing, valid}
use Rattle.laws_node.proofs.Tables.{gives, given}
use Rattle.laws_node.proofs.Valid.{Valid, valid-facts, valid-of, upto_all, kept-below, at-node}
use Rattle.laws_node.proofs.Rows.{dirty-nowhere}
use Rattle.theorem_node_exact.specs.Words.{so_far, AmongKept, KeepsRules, AMap, APart}

-- ---- the state rules

is-registered : (s : State) → is_registered s ≡ true → s ≡ State.Registered
is-registered State.Empty e = clash e refl
is-registered State.Registered e = refl
is-registered State.Created e = clash e refl
is-registered State.Normal e = clash e refl
is-registered State.NoIo e = clash e refl

pub is-no-io : (s : State) → is_no_io s ≡ true → s ≡ State.NoIo
is-no-io State.Empty e = clash e refl
is-no-io State.Registered e = clash e refl
is-no-io State.Created e = clash e refl
is-no-io State.Normal e = clash e refl
is-no-io State.NoIo e = refl

not-empty : (s : State) → s ≢ State.Empty → is_empty s ≡ false
not-empty State.Empty d = absurd (d refl)
not-empty State.Registered d = refl
not-empty State.Created d = refl
not-empty State.Normal d = refl
not-empty State.NoIo d = refl

not-no-io : (s : State) → s ≢ State.NoIo → is_no_io s ≡ false
not-no-io State.Empty d = refl
not-no-io State.Registered d = refl
not-no-io State.Created d = refl
not-no-io State.Normal d = refl
not-no-io State.NoIo d = absurd (d refl)

so-far : (t : Option ℕ) → so_far t ≡ taken t
so-far None = refl
so-far (Some bytes) = refl

hand-some : (t : Option ℕ) → t ≢ None → in_hand t ≡ true
hand-some None d = absurd (d refl)
hand-some (Some bytes) d = refl

some-hand : (t : Option ℕ) → in_hand t ≡ true → t ≢ None
some-hand t h q = clash h (ap in_hand q)

pub few-held : (n : Node) → Valid n → n.held ≤ 16
unfolding kept_ok
few-held n v = leb-true n.held 16 (and_left (leb n.held 16) _ v.keeps)

-- a kept chunk and its place
pub at_place : (n : Node) → n.held ≤ 16 → (i : ℕ) → i < n.held → is_kept n (16 - n.held + i) ≡ true
at_place n f i l = le-leb (16 - (16 - n.held + i)) n.held (omega arith)

pub kept-lt : (n : Node) → Valid n → (c : ℕ) → AmongKept n c → c < n.chunks
kept-lt n v c (i, l, e) =
    let q = kept-below n v.keeps (16 - n.held + i) (omega (arith, few-held n v)) (at_place n (few-held n v) i l) in
    omega (arith, sym (get_or-drop (16 - n.held) n.kept i 0) ∙ e)

kept-ok : (n : Node) → n.held ≤ 16 → ((c : ℕ) → AmongKept n c → c < n.chunks) → kept_ok n ≡ true
unfolding kept_ok
kept-ok n f h = and_both (le-leb n.held 16 f) (upto_all 16 (place_ok n) place)
  where
    place : (i : ℕ) → i < 16 → place_ok n i ≡ true
    place i l =
        by_cases (is_kept n i)
        (λ k.
        let b : 16 - i ≤ n.held = leb-true (16 - i) n.held k in
        let q : 16 - n.held + (i - (16 - n.held)) ≡ i = omega arith in
        rw k (lt-ltb _ _ (h (get_or n.kept i 0) (i - (16 - n.held), omega arith, get_or-drop (16 - n.held) n.kept (i - (16 - n.held)) 0 ∙ ap (λ (j : ℕ). get_or n.kept j 0) q))))
        (λ k. rw k refl)

-- how it stands, from the words
owns : (s : State) (own : Bool) → (s ≢ State.Empty → own ≡ true) → (is_empty s || own) ≡ true
owns State.Empty own f = refl
owns State.Registered own f = f (λ q. clash (ap is_empty q) refl)
owns State.Created own f = f (λ q. clash (ap is_empty q) refl)
owns State.Normal own f = f (λ q. clash (ap is_empty q) refl)
owns State.NoIo own f = f (λ q. clash (ap is_empty q) refl)

marked-there : (s : State) (create : Bool) → (create ≡ true → s ≡ State.Registered) → (not create || is_registered s) ≡ true
marked-there s true f = rw (f refl) refl
marked-there s false f = refl

store-there : (s : State) (store : Bool) → (s ≡ State.Empty → store ≡ false) → (s ≢ State.Empty → s ≢ State.NoIo → store ≡ true) → store_ok s store ≡ true
store-there State.Empty store f g = rw (f refl) refl
store-there State.Registered store f g = g (λ q. clash (ap is_empty q) refl) (λ q. clash (ap is_no_io q) refl)
store-there State.Created store f g = g (λ q. clash (ap is_empty q) refl) (λ q. clash (ap is_no_io q) refl)
store-there State.Normal store f g = g (λ q. clash (ap is_empty q) refl) (λ q. clash (ap is_no_io q) refl)
store-there State.NoIo store f g = refl

hand-there : (s : State) (store hand : Bool) → (hand ≡ true → (s ≡ State.NoIo) × (store ≡ true)) → (not hand || (is_no_io s && store)) ≡ true
hand-there s store true f = rw ((f refl).0, (f refl).1) refl
hand-there s store false f = refl

-- the tests of the rules, and the rules
pub rules-kept : (n : Node) → valid n ≡ true → KeepsRules n
rules-kept n e =
    let v = valid-facts n e in
    record {
      some = v.some;
      few = v.few;
      own = λ d. given _ _ (at-node (λ s store create hand own. gives (standing s store create hand own && not (is_empty s)) own) refl n) (and_both v.stand (ap not (not-empty n.state d)));
      mark = λ c. is-registered n.state (given _ _ (at-node (λ s store create hand own. gives (standing s store create hand own && create) (is_registered s)) refl n) (and_both v.stand c));
      none = λ q. not-true n.store (given _ _ (at-node (λ s store create hand own. gives (standing s store create hand own && is_empty s) (not store)) refl n) (and_both v.stand (ap is_empty q)));
      store = λ d d'. given _ _ (at-node (λ s store create hand own. gives (standing s store create hand own && (not (is_empty s) && not (is_no_io s))) store) refl n) (and_both v.stand (and_both (ap not (not-empty n.state d)) (ap not (not-no-io n.state d'))));
      hand = λ d. (is-no-io n.state (given _ _ (at-node (λ s store create hand own. gives (standing s store create hand own && hand) (is_no_io s)) refl n) (and_both v.stand (hand-some n.transfer d))), given _ _ (at-node (λ s store create hand own. gives (standing s store create hand own && hand) store) refl n) (and_both v.stand (hand-some n.transfer d)));
      set = omega (arith, v.ids);
      version = v.top;
      sixteen = few-held n v;
      kept = kept-lt n v;
      taken = rw (so-far n.transfer) v.part;
    }
  where
    not-true : (b : Bool) → not b ≡ true → b ≡ false
    not-true true q = clash q refl
    not-true false q = refl

pub rules-hold : (n : Node) → KeepsRules n → valid n ≡ true
rules-hold n k =
    valid-of n
    (record {
      some = k.some;
      few = k.few;
      stand = and_both (owns n.state (has n.members n.id) k.own) (and_both (marked-there n.state n.create k.mark) (and_both (store-there n.state n.store k.none k.store) (hand-there n.state n.store (in_hand n.transfer) (λ h. k.hand (some-hand n.transfer h)))));
      ids = omega (arith, k.set);
      top = k.version;
      keeps = kept-ok n k.sixteen k.kept;
      part = rw (← so-far n.transfer) k.taken;
    })

-- ---- maps and parts

pub a-map : (n : ℕ) (xs : List ℕ) → sound n xs ≡ true → AMap n xs
a-map n xs e =
    let s = sound-fact n xs e in
    record {
      size = s.len;
      bytes = λ k. sound-byte n xs s k;
      past = λ m c h. by_cases (there m c) (λ t. sound-past n xs s m c (ltb-true m 16 (and_left (ltb m 16) (ltb c 4096) t)) h (ltb-true c 4096 (and_right (ltb m 16) (ltb c 4096) t))) (λ t. dirty-nowhere xs m c t);
    }

pub map-sound : (n : ℕ) (xs : List ℕ) → AMap n xs → sound n xs ≡ true
map-sound n xs a = sound-test n xs (sound-of-chunks n xs a.size a.bytes (λ m c p h l. a.past m c h))

room-le : (n k : ℕ) → room n k ≤ 8
unfolding room
room-le n k = omega arith

room-past : (n k j : ℕ) → j < 8 → n ≤ 8 * (k % 512) + j → room n (k % 512) ≤ j
unfolding room
room-past n k j l h = omega arith

past_room : (n k j : ℕ) → room n (k % 512) + j < 8 → n ≤ 8 * (k % 512) + (room n (k % 512) + j)
unfolding room
past_room n k j h = omega arith

bit-shift : (x r j : ℕ) → bit (x / 2 ^ r) j ≡ bit x (r + j)
unfolding bit
bit-shift x r j = rw (shr-shr x r j)

-- a byte with no bit past the count
clean-byte : (n k x : ℕ) → x < 256 → ((j : ℕ) → j < 8 → n ≤ 8 * (k % 512) + j → bit x j ≡ 0) → spare n k x ≡ 0
unfolding spare
clean-byte n k x b h =
    let r : ℕ = room n (k % 512) in
    bits-same 8 (x / 2 ^ r) 0 (le_trans (suc-le-suc (shr_le x r)) b) (omega arith) (λ j l. bit-shift x r j ∙ (past (r + j) (past_room n k j) ∙ sym (bit-none j)))
  where
    past : (i : ℕ) → (i < 8 → n ≤ 8 * (k % 512) + i) → bit x i ≡ 0
    past i f = elim (dec_lt i 8) [ yes l ↦ h i l (f l) | no g ↦ bit_past x 8 i b (omega arith) ]

byte-lt : (r x : ℕ) → r ≤ 8 → x < 2 ^ r → x < 256
byte-lt r x h l = lt_of_lt_of_le l (pow_mono h)

pub a-part : (n offset : ℕ) (part : List ℕ) → clean_from n offset part ≡ true → APart n offset part
a-part n offset part e =
    record {
      bytes = λ i l. byte-lt (room n ((offset + i) % 512)) (get_or part i 0) (room-le n ((offset + i) % 512)) (spare-lt n (offset + i) (get_or part i 0) (clean_from-at n offset part e i l));
      past = λ i j l b h. bit_past (get_or part i 0) (room n ((offset + i) % 512)) j (spare-lt n (offset + i) (get_or part i 0) (clean_from-at n offset part e i l)) (room-past n (offset + i) j b h);
    }

pub part-clean : (n offset : ℕ) (part : List ℕ) → APart n offset part → clean_from n offset part ≡ true
part-clean n offset part a = clean_from-yes n offset part (λ i l. clean-byte n (offset + i) (get_or part i 0) (a.bytes i l) (λ j b h. a.past i j l b h))
