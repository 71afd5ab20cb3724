-- A map received: MAP_READY, consecutive parts of a map, MAP_DONE, one right after the other. What is left follows from what each is said to leave.
use Rattle.std.specs.Prelude.{Option, Some, None}
use mathlib.Core.Path.{◌≡◌, refl, sym, ap, ◌∙◌, subst}
use mathlib.Core.Bool.{Bool, true, false, not, ◌&&◌}
use mathlib.Core.List.{List, [], ◌∷◌}
use Prim.Native.Nat.{ℕ, ◌+◌, ◌/◌, ◌%◌, ◌≤◌, ◌<◌, max}
use native.Mathlib.Nat.{add-zero, add_assoc}
use native.Mathlib.Decide.{dec_lt}
use native.Mathlib.Omega.{arith}
use lib.Bits.{bit_or}
use lib.Dec.{eqb}
use lib.ListN.{length, get_or, replicate}
use borrow.Author.Tests.{eq-eqb, leb-true, le-leb, le-ltb}
use Rattle.laws_words.specs.Words.{pick, bit}
use Rattle.laws_words.specs.Tests.{and_both}
use Rattle.rules_base.specs.Limits.{version_limit}
use Rattle.rules_base.specs.Refusals.{refusal}
use Rattle.rules_base.specs.Sets.{has}
use Rattle.rules_base.proofs.Sets.{has-below}
use Rattle.rules_base.specs.Chunk.{byte_of, dirty}
use Rattle.rules_base.proofs.Chunk.{dirty-there}
use Rattle.rules_base.specs.Map.{sound, or_from, or_in}
use Rattle.rules_base.proofs.Over.{length_over, over-in, over-past}
use Rattle.rules_base.proofs.Rows.{zeroed-all, or-into-zero}
use Rattle.rules_base.proofs.Sound.{Sound, sound-fact}
use Rattle.rules_base.specs.Parts.{is_part, part_of}
use Rattle.rules_base.proofs.Joined.{length-part_of, clean-part, parts_none, parts_more, parts_whole}
use Rattle.rules_node.specs.declared.Node.{Node}
use Rattle.rules_node.specs.declared.Turn.{Turn}
use Rattle.rules_node.specs.Change.{went_to, transferred}
use Rattle.rules_node.specs.States.{is_joined, is_serving, in_hand, taken, is_whole}
use Rattle.rules_node.specs.StateRules.{standing, valid}
use Rattle.laws_node.proofs.Tables.{gives, given}
use Rattle.laws_node.proofs.Valid.{valid-facts, at-node}
use Rattle.rules_node.specs.Carry.{map_after, staging_after, taken_in}
use Rattle.laws_node.proofs.Bytes.{past_end}
use Rattle.laws_node.proofs.Rows.{dirty-nowhere}
use Rattle.rules_node.specs.Serve.{serve_refusal, give_part_refusal, readied}
use Rattle.rules_node.specs.Hand.{take_part_refusal, part_taken, map_done_refusal}
use Rattle.laws_node.proofs.HandKeeps.{map_done-passed}
use Rattle.rules_node.specs.Events.{Event, part_in, tests_at}
use Rattle.rules_node.specs.Face.{lent_to, map_by, staging_by, staging_with, words_by, answers}
use Rattle.rules_node.specs.Held.{Held, next, after}
use Rattle.rules_node.specs.Cuts.{sized, total, Cuts, takes}
use Rattle.laws_node.proofs.Cuts.{next-part, later-parts}
use Rattle.laws_node.proofs.Theorems.{law, words-stay, accepted-by, lent-zero, Good, stays-good}
use Rattle.theorem_node.proofs.Demand1.{not-refused}
use Rattle.theorem_node.specs.Said.{Accepts, Rows, Ored, In, ready, took, AllAccepted, Able, Came, GivesParts, PartsTaken, PartsAsWhole, AnyCuts, Receives, OldMarksGone, OldMarksKept, NotBefore}
use Rattle.theorem_node.proofs.Said.{known, ors, each-bit, staging-as-said, transfer-as-said, map-as-said}

-- ---- the bytes below a have come

abbrev partly : List ℕ → ℕ → Held → Held
partly zs a w = record { at = record { node = transferred w.at.node (Some a); summaries = w.at.summaries }; map = w.map; staging = or_from 0 a w.staging zs }

-- the next part comes
took-part : (zs : List ℕ) (a l : ℕ) (w : Held) → a + l ≤ length zs → Accepts (Event.take_part a (part_of a l zs)) (partly zs a w) → next (Event.take_part a (part_of a l zs)) (partly zs a w) ≡ partly zs (a + l) w
unfolding law part_taken transferred map_by staging_by words_by map_after staging_after taken_in
took-part zs a l w h acc =
    ap (λ (t : Turn). leaves t) (known (Event.take_part a (part_of a l zs)) (partly zs a w) acc).turn ∙ rw (length-part_of a l zs h, parts_more a l w.staging zs h, words-stay (partly zs a w).at w.map (or_from 0 a w.staging zs)) refl
  where
    leaves : Turn → Held
    leaves t = record { at = record { node = t.node; summaries = words_by (lent_to (partly zs a w).at w.map (or_from 0 a w.staging zs)) t w.at.summaries w.map (or_from 0 a w.staging zs) }; map = map_by t w.map (or_from 0 a w.staging zs); staging = staging_with (part_in (Event.take_part a (part_of a l zs))) t.effect.staging (staging_by t w.map (or_from 0 a w.staging zs)) }

-- all parts of a list come
all-took : (zs ls : List ℕ) (a : ℕ) (w : Held) → a + total ls ≤ length zs → AllAccepted (takes zs a ls) (partly zs a w) → after (takes zs a ls) (partly zs a w) ≡ partly zs (a + total ls) w
all-took zs [] a w h acc = rw (add-zero a) refl
all-took zs (l ∷ ls) a w h acc =
    let q = took-part zs a l w (omega arith) acc.0 in
    ap (after (takes zs (a + l) ls)) q ∙ (all-took zs ls (a + l) w (omega arith) (subst (AllAccepted (takes zs (a + l) ls)) q acc.1) ∙ rw (add_assoc a l (total ls)) refl)

-- ---- each is accepted

abbrev GoodAt : Held → Type 0
GoodAt w = Good w.at w.map w.staging

both : (w : Held) → GoodAt w → (sound w.at.node.chunks w.map && sound w.at.node.chunks w.staging) ≡ true
both w g = and_both g.map g.staging

-- what its maps refuse with
abbrev lent_at : Held → ℕ
lent_at w = lent_to w.at w.map w.staging

-- sound maps and true summaries do not refuse
not-lent : (w : Held) → GoodAt w → lent_at w ≡ 0
not-lent w g = lent-zero w.at w.map w.staging (both w g) g.agrees

taken-by : (e : Event) (w : Held) → refusal (tests_at e w.at.node (lent_at w)) ≡ 0 → Accepts e w
taken-by e w z = not-refused (answers e w.at w.map w.staging).answer (accepted-by e w.at w.map w.staging z)

serve-none : (n : Node) (lent : ℕ) → valid n ≡ true → lent ≡ 0 → n.id < 16 → is_serving n ≡ true → serve_refusal n lent ≡ 0
unfolding serve_refusal
serve-none n lent v l i s = rw (v, l, le-ltb 15 n.id (omega arith), s)

give-none : (n : Node) (lent offset size : ℕ) → valid n ≡ true → lent ≡ 0 → n.id < 16 → is_serving n ≡ true → is_part offset size ≡ true → give_part_refusal n lent offset size ≡ 0
unfolding give_part_refusal
give-none n lent offset size v l i s p = rw (v, l, le-ltb 15 n.id (omega arith), s, p)

part_none : (n : Node) (lent offset length : ℕ) (clean : Bool) → valid n ≡ true → lent ≡ 0 → n.id < 16 → in_hand n.transfer ≡ true → is_part offset length ≡ true → offset ≡ taken n.transfer → clean ≡ true → take_part_refusal n lent offset length clean ≡ 0
unfolding take_part_refusal
part_none n lent offset length clean v l i s p o c = rw (v, l, le-ltb 15 n.id (omega arith), s, p, eq-eqb offset (taken n.transfer) o, c)

done_none : (n : Node) (lent : ℕ) (version set : ℕ) → valid n ≡ true → lent ≡ 0 → n.id < 16 → set ≤ 65535 → has set n.id ≡ true → version ≤ version_limit → is_whole n.transfer ≡ true → map_done_refusal n lent version set ≡ 0
unfolding map_done_refusal
done_none n lent version set v l i b h o s = rw (v, l, le-ltb 15 n.id (omega arith), le-ltb 65535 set b, h, le-ltb version_limit version o, s)

readies : (keep : Bool) (w : Held) → GoodAt w → w.at.node.id < 16 → is_serving w.at.node ≡ true → Accepts (Event.map_ready keep) w
unfolding serve_refusal
readies keep w g i s = taken-by (Event.map_ready keep) w (serve-none w.at.node (lent_at w) g.rules (not-lent w g) i s)

takes_part : (zs : List ℕ) (a l : ℕ) (w : Held) → GoodAt (partly zs a w) → w.at.node.id < 16 → Sound w.at.node.chunks zs → is_part a l ≡ true → a + l ≤ 8192 → Accepts (Event.take_part a (part_of a l zs)) (partly zs a w)
unfolding take_part_refusal transferred
takes_part zs a l w g i z p h =
    let e : length (part_of a l zs) ≡ l = length-part_of a l zs (omega (arith, z.len)) in
    taken-by (Event.take_part a (part_of a l zs)) (partly zs a w)
    (part_none (partly zs a w).at.node (lent_at (partly zs a w)) a (length (part_of a l zs)) _ g.rules (not-lent (partly zs a w) g) i refl (rw e p) refl (clean-part w.at.node.chunks a l zs z h))

commits : (enabling : Bool) (version set : ℕ) (w : Held) → GoodAt w → set ≤ 65535 → has set w.at.node.id ≡ true → version ≤ version_limit → is_whole w.at.node.transfer ≡ true → Accepts (Event.map_done enabling version set) w
unfolding map_done_refusal
commits enabling version set w g b h o t =
    taken-by (Event.map_done enabling version set) w (done_none w.at.node (lent_at w) version set g.rules (not-lent w g) (has-below set w.at.node.id h) b h o t)

-- all parts of a list are accepted, and leave a good node
all-accepted : (zs ls : List ℕ) (a : ℕ) (w : Held) → sized ls ≡ true → a + total ls ≤ 8192 → GoodAt (partly zs a w) → w.at.node.id < 16 → Sound w.at.node.chunks zs → AllAccepted (takes zs a ls) (partly zs a w)
all-accepted zs [] a w s h g i z = tt
all-accepted zs (l ∷ ls) a w s h g i z =
    let acc = takes_part zs a l w g i z (next-part l ls a s h) (omega arith) in
    let q = took-part zs a l w (omega (arith, z.len)) acc in
    let g' : GoodAt (partly zs (a + l) w) = subst GoodAt q (stays-good (Event.take_part a (part_of a l zs)) (partly zs a w).at (partly zs a w).map (partly zs a w).staging g) in
    (acc, subst (AllAccepted (takes zs (a + l) ls)) (sym q) (all-accepted zs ls (a + l) w (later-parts l ls s) (omega arith) g' i z))

all-good : (es : List Event) (w : Held) → GoodAt w → GoodAt (after es w)
all-good [] w g = g
all-good (e ∷ es) w g = all-good es (next e w) (stays-good e w.at w.map w.staging g)

-- ---- after MAP_READY

-- id and chunk count stay
record Leaves (w v : Held) : Type 0 where
  id : v.at.node.id ≡ w.at.node.id
  count : v.at.node.chunks ≡ w.at.node.chunks

ready-leaves : (keep : Bool) (w : Held) → Accepts (Event.map_ready keep) w → Leaves w (ready keep w)
unfolding law readied went_to transferred
ready-leaves keep w a = let q = (known (Event.map_ready keep) w a).turn in record { id = ap (λ (t : Turn). t.node.id) q; count = ap (λ (t : Turn). t.node.chunks) q }

at-start : (zs : List ℕ) (v : Held) → v.at.node.transfer ≡ Some 0 → v ≡ partly zs 0 v
unfolding transferred
at-start zs v e = rw (parts_none v.staging zs, ← e) refl

module _ (w : Held) (b : Able w) where
  good : GoodAt w
  good = record { rules = b.rules; size = b.size; map = b.map; staging = b.staging; agrees = b.agrees }

  own : w.at.node.id < 16
  own =
      let v = valid-facts w.at.node b.rules in
      has-below w.at.node.members w.at.node.id (given _ _ (at-node (λ s store create hand own. gives (standing s store create hand own && (is_joined s && store)) own) refl w.at.node) (and_both v.stand b.serves))

pub gives-parts : GivesParts
unfolding give_part_refusal
gives-parts offset size w b s f h =
    taken-by (Event.give_part offset size) w
    (give-none w.at.node (lent_at w) offset size b.rules (not-lent w (good w b)) (own w b) b.serves (and_both (and_both (le-leb 1 size s) (le-leb size 1024 f)) (le-leb (offset + size) 8192 h)))

module _ (keep : Bool) (zs : List ℕ) (w : Held) (b : Able w) (z : sound w.at.node.chunks zs ≡ true) where
  starts : Accepts (Event.map_ready keep) w
  starts = readies keep w (good w b) (own w b) b.serves

  v : Held
  v = ready keep w

  own-v : v.at.node.id < 16
  unfolding v
  own-v = rw (ready-leaves keep w starts).id (own w b)

  whole : Sound v.at.node.chunks zs
  unfolding v
  whole = rw (ready-leaves keep w starts).count (sound-fact w.at.node.chunks zs z)

  here : v ≡ partly zs 0 v
  unfolding v
  here = at-start zs (ready keep w) (transfer-as-said (Event.map_ready keep) w starts)

  good-v : GoodAt (partly zs 0 v)
  unfolding v
  good-v = subst GoodAt here (stays-good (Event.map_ready keep) w.at w.map w.staging (good w b))

  staging-v : Sound v.at.node.chunks v.staging
  unfolding v
  staging-v = sound-fact _ _ (stays-good (Event.map_ready keep) w.at w.map w.staging (good w b)).staging

  module _ (ls : List ℕ) (s : sized ls ≡ true) (h : total ls ≤ 8192) where
    accepted : AllAccepted (takes zs 0 ls) v
    accepted = subst (AllAccepted (takes zs 0 ls)) (sym here) (all-accepted zs ls 0 v s (omega arith) good-v own-v whole)

    -- what the parts leave
    came : took keep zs ls w ≡ partly zs (total ls) v
    unfolding v
    came =
        ap (after (takes zs 0 ls)) here
        ∙ (all-took zs ls 0 v (omega (arith, whole.len)) (all-accepted zs ls 0 v s (omega arith) good-v own-v whole) ∙ (let q : 0 + total ls ≡ total ls = omega arith in rw q refl))

came-bytes : (n k : ℕ) (xs zs : List ℕ) → length xs ≡ 8192 → n ≤ 8192 → k < n → get_or (or_from 0 n xs zs) k 0 ≡ bit_or (get_or xs k 0) (get_or zs k 0)
unfolding or_from
came-bytes n k xs zs e h l = over-in 0 n (λ i x. bit_or x (get_or zs i 0)) xs k (omega arith) (omega arith) l

rest-bytes : (n k : ℕ) (xs zs : List ℕ) → length xs ≡ 8192 → n ≤ k → get_or (or_from 0 n xs zs) k 0 ≡ get_or xs k 0
unfolding or_from
rest-bytes n k xs zs e h = elim (dec_lt k 8192) [
  | yes l ↦ over-past 0 n (λ i x. bit_or x (get_or zs i 0)) xs k (omega arith) h
  | no g ↦ past_end (or_from 0 n xs zs) k (length_over 0 n (λ i x. bit_or x (get_or zs i 0)) xs ∙ e) (omega arith) ∙ sym (past_end xs k e (omega arith))
]

came-size : (n : ℕ) (xs zs : List ℕ) → length xs ≡ 8192 → length (or_from 0 n xs zs) ≡ 8192
unfolding or_from
came-size n xs zs e = length_over 0 n (λ i x. bit_or x (get_or zs i 0)) xs ∙ e

pub parts-taken : PartsTaken
unfolding v transferred
parts-taken keep zs ls w b z s h =
    let q = came keep zs w b z ls s h in
    let e = (staging-v keep zs w b z).len in
    record {
      readies = starts keep zs w b z;
      takes = accepted keep zs w b z ls s h;
      transfer = ap (λ (u : Held). u.at.node.transfer) q;
      staging = subst (λ (u : Held). Came (total ls) zs (ready keep w).staging u.staging) (sym q) (record { size = came-size (total ls) (ready keep w).staging zs e; those = λ k l. came-bytes (total ls) k (ready keep w).staging zs e h l; others = λ k l. rest-bytes (total ls) k (ready keep w).staging zs e l });
    }

-- the whole map has come
came-whole : (keep : Bool) (zs ls : List ℕ) (w : Held) (b : Able w) (z : sound w.at.node.chunks zs ≡ true) → Cuts ls → took keep zs ls w ≡ partly zs 8192 (ready keep w)
unfolding v
came-whole keep zs ls w b z c = came keep zs w b z ls c.sizes (omega (arith, c.whole)) ∙ rw c.whole refl

pub whole-staging : (keep : Bool) (zs ls : List ℕ) (w : Held) (b : Able w) (z : sound w.at.node.chunks zs ≡ true) → Cuts ls → (took keep zs ls w).staging ≡ or_in (ready keep w).staging zs
unfolding v
whole-staging keep zs ls w b z c = ap (λ (u : Held). u.staging) (came-whole keep zs ls w b z c) ∙ parts_whole (ready keep w).staging zs (staging-v keep zs w b z).len (whole keep zs w b z).len

pub parts-as-whole : PartsAsWhole
unfolding v
parts-as-whole keep zs ls w b z c =
    subst (Ored (ready keep w).staging zs) (sym (whole-staging keep zs ls w b z c))
    (ors (ready keep w).at.node.chunks (ready keep w).staging (staging-v keep zs w b z) zs (whole keep zs w b z))

pub any-cuts : AnyCuts
any-cuts keep zs ls ls' w b z c c' = came-whole keep zs ls w b z c ∙ sym (came-whole keep zs ls' w b z c')

-- ---- MAP_DONE

took-good : (keep : Bool) (zs ls : List ℕ) (w : Held) → Able w → sound w.at.node.chunks zs ≡ true → GoodAt (took keep zs ls w)
took-good keep zs ls w b z = all-good (takes zs 0 ls) (ready keep w) (stays-good (Event.map_ready keep) w.at w.map w.staging (good w b))

pub receives : Receives
unfolding transferred
receives keep zs ls enabling version set w b z c m h o =
    let q = came-whole keep zs ls w b z c in
    let i : (took keep zs ls w).at.node.id ≡ w.at.node.id = ap (λ (u : Held). u.at.node.id) q ∙ (ready-leaves keep w (starts keep zs w b z)).id in
    commits enabling version set (took keep zs ls w) (took-good keep zs ls w b z) m (rw i h) o (ap (λ (u : Held). is_whole u.at.node.transfer) q)

-- MAP_DONE commits what staging then holds
committed : (keep : Bool) (zs ls : List ℕ) (enabling : Bool) (version set : ℕ) (w : Held) (b : Able w) (z : sound w.at.node.chunks zs ≡ true) → Cuts ls
    → Accepts (Event.map_done enabling version set) (took keep zs ls w)
    → Rows (In set) (or_in (ready keep w).staging zs) (next (Event.map_done enabling version set) (took keep zs ls w)).map
committed keep zs ls enabling version set w b z c a =
    subst (λ (l : List ℕ). Rows (In set) l (next (Event.map_done enabling version set) (took keep zs ls w)).map) (whole-staging keep zs ls w b z c) (map-as-said (Event.map_done enabling version set) (took keep zs ls w) a)

-- a map ORed into the zero map
or-zero : (zs : List ℕ) → length zs ≡ 8192 → or_in (replicate 8192 0) zs ≡ zs
or-zero zs e = ap (λ (l : List ℕ). or_in l zs) (sym (zeroed-all zs ∙ ap (λ (n : ℕ). replicate n 0) e)) ∙ or-into-zero zs zs refl

pub old-marks-gone : OldMarksGone
unfolding v
old-marks-gone zs ls enabling version set w b z c a =
    let r = committed false zs ls enabling version set w b z c a in
    let e = staging-as-said (Event.map_ready false) w (starts false zs w b z) in
    let same : or_in (ready false w).staging zs ≡ zs = ap (λ (l : List ℕ). or_in l zs) e ∙ or-zero zs (whole false zs w b z).len in
    record { size = r.size; those = λ k h. r.those k h ∙ ap (λ (l : List ℕ). get_or l k 0) same; others = r.others }

-- a row that is named has the bits of the map that it is from
pub same_row : (named : ℕ → Type 0) (from left : List ℕ) → Rows named from left → (m c : ℕ) → named m → dirty left m c ≡ dirty from m c
unfolding byte_of
same_row named from left s m c h = each-bit left m c (dirty from m c) at (dirty-nowhere from m c)
  where
    at : m < 16 → c < 4096 → dirty left m c ≡ dirty from m c
    at hm hc =
        let q : byte_of m c / 512 ≡ m = omega arith in
        dirty-there left m c hm hc ∙ (ap (λ (b : ℕ). bit b (c % 8)) (s.those (byte_of m c) (rw q h)) ∙ sym (dirty-there from m c hm hc))

pub old-marks-kept : OldMarksKept
unfolding v
old-marks-kept zs ls enabling version set w b z c a =
    let r = committed true zs ls enabling version set w b z c a in
    let o = ors (ready true w).at.node.chunks (ready true w).staging (staging-v true zs w b z) zs (whole true zs w b z) in
    record {
      size = r.size;
      those = λ m k h. same_row (In set) _ _ r m k h ∙ (o.bits m k ∙ ap (λ (l : List ℕ). max (dirty l m k) (dirty zs m k)) (staging-as-said (Event.map_ready true) w (starts true zs w b z)));
      others = r.others;
    }

-- ---- not before byte 8,192

pub not-before : NotBefore
unfolding map_done_refusal
not-before enabling version set w a =
    let d = known (Event.map_done enabling version set) w a in
    at w.at.node.transfer (map_done-passed w.at.node (lent_at w) version set d.none).0.from d.rules.part
  where
    at : (t : Option ℕ) → is_whole t ≡ true → taken t ≤ 8192 → t ≡ Some 8192
    at None e h = absurd (let q : 8192 ≤ 0 = leb-true 8192 0 e in omega arith)
    at (Some bytes) e h = let l : 8192 ≤ bytes = leb-true 8192 bytes e in let q : bytes ≡ 8192 = omega arith in ap (λ (k : ℕ). Some k) q
