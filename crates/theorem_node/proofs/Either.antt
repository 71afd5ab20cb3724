-- Marks and clears in either order: what is answered, what is left.
use mathlib.Core.Path.{◌≡◌, refl, sym, ap, ◌∙◌, subst}
use mathlib.Core.Bool.{Bool, true, false}
use mathlib.Core.List.{List}
use Prim.Native.Nat.{ℕ, max}
use native.Mathlib.Decide.{ℕ_discrete}
use native.Mathlib.Omega.{arith}
use lib.Dec.{eqb}
use Rattle.laws_words.specs.Words.{pick}
use Rattle.laws_words.specs.Tests.{by_cases, clash, and_left, and_right, and_both}
use Rattle.rules_base.specs.Refusals.{refusal}
use Rattle.rules_base.specs.Sets.{has}
use Rattle.rules_base.specs.Chunk.{dirty}
use Rattle.rules_base.specs.Map.{sound}
use Rattle.rules_base.proofs.Sound.{sound-fact, same-chunks}
use Rattle.rules_base.specs.Summary.{summaries_of}
use Rattle.rules_base.proofs.Summaries.{one-summary}
use Rattle.rules_node.specs.declared.Answer.{Answer}
use Rattle.rules_node.specs.declared.Node.{Node}
use Rattle.rules_node.specs.declared.Turn.{Turn}
use Rattle.rules_node.specs.Change.{stored_version, kept_chunk, forgotten}
use Rattle.rules_node.specs.StateRules.{valid}
use Rattle.rules_node.specs.Turns.{refused, settled}
use Rattle.laws_node.proofs.Valid.{valid-of}
use Rattle.rules_node.specs.Write.{written}
use Rattle.rules_node.specs.Fill.{filled}
use Rattle.rules_node.specs.Face.{StorageNode}
use Rattle.rules_node.specs.Events.{Event, tests_at}
use Rattle.rules_node.specs.Face.{lent_to, answers}
use Rattle.rules_node.specs.Held.{Held, next}
use Rattle.laws_node.proofs.Theorems.{law, lent-zero, Good, stays-good}
use Rattle.theorem_node.specs.Demand1.{Verdict}
use Rattle.rules_node.specs.Turns.{is_accepted}
use Rattle.theorem_node.specs.Said.{Accepts, Marked, Cleared, In}
use Rattle.theorem_node.proofs.Demand1.{demand-1}
use Rattle.theorem_node.proofs.Said.{known, staging-as-said, map-as-said}
use Rattle.theorem_node.specs.Commuting.{both, Sized, StoresTheLarger, WritesCommute, WriteTwice, Marking, OrderFree, MarkAndClear, LastOneWins}

-- ---- what an accepted mark or clear leaves of the node

pub node-wrote : (chunk set version : ℕ) (w : Held) → Accepts (Event.write chunk set version) w → (next (Event.write chunk set version) w).at.node ≡ written w.at.node chunk version
unfolding law
node-wrote chunk set version w a = ap (λ (t : Turn). t.node) (known (Event.write chunk set version) w a).turn

pub node-synced : (member chunk : ℕ) (w : Held) → Accepts (Event.synced member chunk) w → (next (Event.synced member chunk) w).at.node ≡ w.at.node
unfolding law
node-synced member chunk w a = ap (λ (t : Turn). t.node) (known (Event.synced member chunk) w a).turn

pub node-filled : (member version : ℕ) (w : Held) → Accepts (Event.fill member version) w → (next (Event.fill member version) w).at.node ≡ filled w.at.node version
unfolding law
node-filled member version w a = ap (λ (t : Turn). t.node) (known (Event.fill member version) w a).turn

abbrev pub GoodAt : Held → Type 0
GoodAt w = Good w.at w.map w.staging

pub good : (e : Event) (w : Held) → Sized w → Accepts e w → GoodAt w
good e w h a =
    let d = known e w a in
    let n = w.at.node.chunks in
    record { rules = valid-of w.at.node d.rules; size = h; map = and_left (sound n w.map) (sound n w.staging) d.sure; staging = and_right (sound n w.map) (sound n w.staging) d.sure; agrees = d.agrees }

pub good-next : (e : Event) (w : Held) → GoodAt w → GoodAt (next e w)
good-next e w g = stays-good e w.at w.map w.staging g

-- ---- what the tests of a mark or a clear see of a node

abbrev lent_at : Held → ℕ
lent_at w = lent_to w.at w.map w.staging

pub record Alike (w v : Held) : Type 0 where
  id : v.at.node.id ≡ w.at.node.id
  pub count : v.at.node.chunks ≡ w.at.node.chunks
  state : v.at.node.state ≡ w.at.node.state
  members : v.at.node.members ≡ w.at.node.members
  rules : valid v.at.node ≡ valid w.at.node
  lent : lent_at v ≡ lent_at w

-- sound maps and true summaries do not refuse
not-lent : (w : Held) → GoodAt w → lent_at w ≡ 0
not-lent w g = lent-zero w.at w.map w.staging (and_both g.map g.staging) g.agrees

pub alike-good : (w v : Held) → GoodAt w → GoodAt v → v.at.node.id ≡ w.at.node.id → v.at.node.chunks ≡ w.at.node.chunks → v.at.node.state ≡ w.at.node.state → v.at.node.members ≡ w.at.node.members → Alike w v
alike-good w v g k i c s m = record { id = i; count = c; state = s; members = m; rules = k.rules ∙ sym g.rules; lent = not-lent v k ∙ sym (not-lent w g) }

alike-accepted : (e : Event) (w : Held) → Marking e → Sized w → Accepts e w → Alike w (next e w)
unfolding written filled kept_chunk stored_version
alike-accepted _ w (Marking.mark chunk set version) h a =
    let e : Event = Event.write chunk set version in
    let g = good e w h a in
    let q = node-wrote chunk set version w a in
    alike-good w (next e w) g (good-next e w g) (ap (λ (n : Node). n.id) q) (ap (λ (n : Node). n.chunks) q) (ap (λ (n : Node). n.state) q) (ap (λ (n : Node). n.members) q)
alike-accepted _ w (Marking.clear member chunk) h a =
    let e : Event = Event.synced member chunk in
    let g = good e w h a in
    let q = node-synced member chunk w a in
    alike-good w (next e w) g (good-next e w g) (ap (λ (n : Node). n.id) q) (ap (λ (n : Node). n.chunks) q) (ap (λ (n : Node). n.state) q) (ap (λ (n : Node). n.members) q)
alike-accepted _ w (Marking.fill member version) h a =
    let e : Event = Event.fill member version in
    let g = good e w h a in
    let q = node-filled member version w a in
    alike-good w (next e w) g (good-next e w g) (ap (λ (n : Node). n.id) q) (ap (λ (n : Node). n.chunks) q) (ap (λ (n : Node). n.state) q) (ap (λ (n : Node). n.members) q)

-- a refused one leaves all as it was
abbrev held_as : StorageNode → List ℕ → List ℕ → Held
held_as s xs ys = record { at = s; map = xs; staging = ys }

pub same-held : {s s' : StorageNode} {xs xs' ys ys' : List ℕ} → s ≡ s' → xs ≡ xs' → ys ≡ ys' → held_as s xs ys ≡ held_as s' xs' ys'
same-held p q r = rw (p, q, r) refl

pub alike_next : (e : Event) (w : Held) → Marking e → Sized w → Alike w (next e w)
alike_next e w m h = at (demand-1 e w.at w.map w.staging)
  where
    at : Verdict e w.at w.map w.staging → Alike w (next e w)
    at (Verdict.refused k p r) = subst (Alike w) (sym (same-held r.node r.map r.staging)) (record { id = refl; count = refl; state = refl; members = refl; rules = refl; lent = refl })
    at (Verdict.done p r) = alike-accepted e w m h p

-- the same tests hold
same-why : (f : Event) (w v : Held) → Marking f → Alike w v → refusal (tests_at f v.at.node (lent_at v)) ≡ refusal (tests_at f w.at.node (lent_at w))
same-why _ w v (Marking.mark chunk set version) a = rw (a.rules, a.lent, a.id, a.count, a.state) refl
same-why _ w v (Marking.clear member chunk) a = rw (a.rules, a.lent, a.id, a.count, a.state) refl
same-why _ w v (Marking.fill member version) a = rw (a.rules, a.lent, a.id, a.state, a.members) refl

settled-answer : (why : ℕ) (n : Node) (t : Turn) → (settled why n t).answer ≡ pick (eqb why 0) t.answer (Answer.Refused why)
unfolding settled
settled-answer why n t = at (eqb why 0)
  where
    at : (b : Bool) → (pick b t (refused why n)).answer ≡ pick b t.answer (Answer.Refused why)
    at true = refl
    at false = refl

-- what it is answered, by the first test that applies
answer-by : (f : Event) (w : Held) → Marking f → (answers f w.at w.map w.staging).answer ≡ pick (eqb (refusal (tests_at f w.at.node (lent_at w))) 0) Answer.Done (Answer.Refused (refusal (tests_at f w.at.node (lent_at w))))
unfolding law
answer-by _ w (Marking.mark chunk set version) =
    let h = law (Event.write chunk set version) w.at.node (lent_at w) in
    ap (λ (t : Turn). t.answer) h.same ∙ settled-answer _ w.at.node h.done
answer-by _ w (Marking.clear member chunk) =
    let h = law (Event.synced member chunk) w.at.node (lent_at w) in
    ap (λ (t : Turn). t.answer) h.same ∙ settled-answer _ w.at.node h.done
answer-by _ w (Marking.fill member version) =
    let h = law (Event.fill member version) w.at.node (lent_at w) in
    ap (λ (t : Turn). t.answer) h.same ∙ settled-answer _ w.at.node h.done

pub same_answer : (f : Event) (w v : Held) → Marking f → Alike w v → (answers f v.at v.map v.staging).answer ≡ (answers f w.at w.map w.staging).answer
same_answer f w v k s = answer-by f v k ∙ (ap (λ (why : ℕ). pick (eqb why 0) Answer.Done (Answer.Refused why)) (same-why f w v k s) ∙ sym (answer-by f w k))

pub order-free : OrderFree
order-free e f w m k h = same_answer f w (next e w) k (alike_next e w m h)

-- one that was accepted before is accepted after
pub still : (e f : Event) (w : Held) → Marking e → Marking f → Sized w → Accepts f w → Accepts f (next e w)
still e f w m k h a = ap is_accepted (order-free e f w m k h) ∙ a

-- ---- two good nodes with the same map have the same summaries; with the same state too they are the same
pub same-words : (w v : Held) → GoodAt w → GoodAt v → w.map ≡ v.map → w.at.summaries ≡ v.at.summaries
same-words w v g k q = one-summary.own w.at.summaries w.map g.agrees ∙ (ap summaries_of q ∙ sym (one-summary.own v.at.summaries v.map k.agrees))

pub same-node : (w v : Held) → GoodAt w → GoodAt v → w.at.node ≡ v.at.node → w.map ≡ v.map → w.at ≡ v.at
same-node w v g k p q = λ i. record { node = p i; summaries = same-words w v g k q i }

pub good-both : (e f : Event) (w : Held) → Sized w → Accepts e w → GoodAt (both e f w)
good-both e f w h a = good-next f (next e w) (good-next e w (good e w h a))

-- ---- maps after two of them

-- sound maps with the same bits are the same
pub same_map : (n : ℕ) (xs ys : List ℕ) → sound n xs ≡ true → sound n ys ≡ true → ((m c : ℕ) → dirty xs m c ≡ dirty ys m c) → xs ≡ ys
same_map n xs ys s r f = same-chunks n xs ys (sound-fact n xs s) (sound-fact n ys r) (λ m c a l b. f m c)

-- the map after two, sound by the count before
pub sound-two : (e f : Event) (w : Held) → Marking e → Marking f → Sized w → Accepts e w → Accepts f w → sound w.at.node.chunks (both e f w).map ≡ true
sound-two e f w m k h a b =
    let g = good-next e w (good e w h a) in
    let q = (alike_next f (next e w) k g.size).count ∙ (alike_next e w m h).count in
    subst (λ (n : ℕ). sound n (both e f w).map ≡ true) q (good-next f (next e w) g).map

-- a member's chunk that is marked, or not
pub marked-or : (set chunk m c : ℕ) → Dec (In set m × (c ≡ chunk))
marked-or set chunk m c = by_cases (has set m) yes-set (λ e. no (λ p. clash p.0 e))
  where
    yes-set : has set m ≡ true → Dec (In set m × (c ≡ chunk))
    yes-set e = elim (ℕ_discrete c chunk) [ yes q ↦ yes (e, q) | no d ↦ no (λ p. d p.1) ]

pub cleared-or : (member chunk m c : ℕ) → Dec ((m ≡ member) × (c ≡ chunk))
cleared-or member chunk m c = elim (ℕ_discrete m member) [
  | yes p ↦ elim (ℕ_discrete c chunk) [ yes q ↦ yes (p, q) | no d ↦ no (λ r. d r.1) ]
  | no d ↦ no (λ r. d r.0)
]

-- a bit after a mark
pub bit-marked : (set chunk : ℕ) (from left : List ℕ) → Marked (In set) chunk from left → (m c : ℕ) → In set m × (c ≡ chunk) → dirty left m c ≡ 1
bit-marked set chunk from left k m c (i, q) = rw q (k.those m i)

pub bit-cleared : (member chunk : ℕ) (from left : List ℕ) → Cleared member chunk from left → (m c : ℕ) → (m ≡ member) × (c ≡ chunk) → dirty left m c ≡ 0
bit-cleared member chunk from left k m c (p, q) = rw (p, q) k.that

-- ---- two writes

module _ (chunk set version chunk' set' version' : ℕ) (w : Held) (h : Sized w) (a : Accepts (Event.write chunk set version) w) (b : Accepts (Event.write chunk' set' version') w) where
  abbrev one : Event
  one = Event.write chunk set version

  abbrev two : Event
  two = Event.write chunk' set' version'

  pub second : Accepts two (next one w)
  second = still one two w (Marking.mark chunk set version) (Marking.mark chunk' set' version') h b

  -- a bit after both
  bit-both : (m c : ℕ) → (In set m × (c ≡ chunk) → dirty (both one two w).map m c ≡ 1) × (In set' m × (c ≡ chunk') → dirty (both one two w).map m c ≡ 1) × (¬ (In set m × (c ≡ chunk)) → ¬ (In set' m × (c ≡ chunk')) → dirty (both one two w).map m c ≡ dirty w.map m c)
  bit-both m c =
      let k = map-as-said one w a in
      let l = map-as-said two (next one w) second in (
        λ p. elim (marked-or set' chunk' m c) [ yes q ↦ bit-marked set' chunk' _ _ l m c q | no d ↦ l.others m c d ∙ bit-marked set chunk _ _ k m c p ],
        λ q. bit-marked set' chunk' _ _ l m c q,
        λ d d'. l.others m c d' ∙ k.others m c d,
      )

  pub node-both : (both one two w).at.node ≡ written (written w.at.node chunk version) chunk' version'
  node-both = node-wrote chunk' set' version' (next one w) second ∙ ap (λ (n : Node). written n chunk' version') (node-wrote chunk set version w a)

pub writes-commute : WritesCommute
unfolding written kept_chunk stored_version forgotten
writes-commute chunk set version chunk' set' version' w h a b =
    let one : Event = Event.write chunk set version in
    let two : Event = Event.write chunk' set' version' in
    let m₁ : Marking one = Marking.mark chunk set version in
    let m₂ : Marking two = Marking.mark chunk' set' version' in
    let t = second chunk set version chunk' set' version' w h a b in
    let t' = second chunk' set' version' chunk set version w h b a in
    let top : max (max w.at.node.version version) version' ≡ max (max w.at.node.version version') version = omega arith in
    let q = same_map w.at.node.chunks _ _ (sound-two one two w m₁ m₂ h a b) (sound-two two one w m₂ m₁ h b a) bits in
    record {
      map = q;
      summaries = same-words (both one two w) (both two one w) (good-both one two w h a) (good-both two one w h b) q;
      staging = (staging-as-said two (next one w) t ∙ staging-as-said one w a) ∙ sym (staging-as-said one (next two w) t' ∙ staging-as-said two w b);
      node = ap forgotten (node-both chunk set version chunk' set' version' w h a b) ∙ (rw top refl ∙ sym (ap forgotten (node-both chunk' set' version' chunk set version w h b a)));
    }
  where
    bits : (m c : ℕ) → dirty (both (Event.write chunk set version) (Event.write chunk' set' version') w).map m c ≡ dirty (both (Event.write chunk' set' version') (Event.write chunk set version) w).map m c
    bits m c =
        let x = bit-both chunk set version chunk' set' version' w h a b m c in
        let y = bit-both chunk' set' version' chunk set version w h b a m c in
        elim (marked-or set chunk m c) [
          | yes p ↦ x.0 p ∙ sym (y.1 p)
          | no d ↦ elim (marked-or set' chunk' m c) [ yes q ↦ x.1 q ∙ sym (y.0 q) | no d' ↦ x.2 d d' ∙ sym (y.2 d' d) ]
        ]

pub stores-the-larger : StoresTheLarger
unfolding written kept_chunk stored_version
stores-the-larger chunk set version w a = ap (λ (n : Node). n.version) (node-wrote chunk set version w a)

pub write-twice : WriteTwice
unfolding written kept_chunk stored_version forgotten
write-twice chunk set version w h a =
    let e : Event = Event.write chunk set version in
    let m : Marking e = Marking.mark chunk set version in
    let t = second chunk set version chunk set version w h a a in
    let top : max (max w.at.node.version version) version ≡ max w.at.node.version version = omega arith in
    let g = good-next e w (good e w h a) in
    let q = same_map w.at.node.chunks _ _ (sound-two e e w m m h a a) (subst (λ (n : ℕ). sound n (next e w).map ≡ true) (alike_next e w m h).count g.map) bits in
    record {
      map = q;
      summaries = same-words (both e e w) (next e w) (good-both e e w h a) g q;
      staging = staging-as-said e (next e w) t;
      node = ap forgotten (node-both chunk set version chunk set version w h a a) ∙ (rw top refl ∙ sym (ap forgotten (node-wrote chunk set version w a)));
    }
  where
    bits : (m c : ℕ) → dirty (both (Event.write chunk set version) (Event.write chunk set version) w).map m c ≡ dirty (next (Event.write chunk set version) w).map m c
    bits m c =
        let x = bit-both chunk set version chunk set version w h a a m c in
        let k = map-as-said (Event.write chunk set version) w a in
        elim (marked-or set chunk m c) [ yes p ↦ x.0 p ∙ sym (bit-marked set chunk _ _ k m c p) | no d ↦ x.2 d d ∙ sym (k.others m c d) ]

-- ---- a mark and a clear

module _ (chunk set version member cleared : ℕ) (w : Held) (h : Sized w) (a : Accepts (Event.write chunk set version) w) (b : Accepts (Event.synced member cleared) w) where
  abbrev mark : Event
  mark = Event.write chunk set version

  abbrev clear : Event
  clear = Event.synced member cleared

  then-clear : Accepts clear (next mark w)
  then-clear = still mark clear w (Marking.mark chunk set version) (Marking.clear member cleared) h b

  then-mark : Accepts mark (next clear w)
  then-mark = still clear mark w (Marking.clear member cleared) (Marking.mark chunk set version) h a

  cleared-last : Cleared member cleared (next mark w).map (both mark clear w).map
  cleared-last = map-as-said clear (next mark w) then-clear

  marked-last : Marked (In set) chunk (next clear w).map (both clear mark w).map
  marked-last = map-as-said mark (next clear w) then-mark

  bits-apart : ¬ (In set member × (cleared ≡ chunk)) → (m c : ℕ) → dirty (both mark clear w).map m c ≡ dirty (both clear mark w).map m c
  bits-apart d m c =
      let k = map-as-said mark w a in
      let l = map-as-said clear w b in
      elim (marked-or set chunk m c) [
        | yes p ↦ elim (cleared-or member cleared m c) [
          | yes q ↦ absurd (d (subst (In set) q.0 p.0, sym q.1 ∙ p.1))
          | no f ↦ cleared-last.others m c f ∙ (bit-marked set chunk _ _ k m c p ∙ sym (bit-marked set chunk _ _ marked-last m c p))
        ]
        | no e ↦ elim (cleared-or member cleared m c) [
          | yes q ↦ bit-cleared member cleared _ _ cleared-last m c q ∙ sym (marked-last.others m c e ∙ bit-cleared member cleared _ _ l m c q)
          | no f ↦ (cleared-last.others m c f ∙ k.others m c e) ∙ sym (marked-last.others m c e ∙ l.others m c f)
        ]
      ]

pub mark-and-clear : MarkAndClear
mark-and-clear chunk set version member cleared w h a b d =
    let mark : Event = Event.write chunk set version in
    let clear : Event = Event.synced member cleared in
    let m₁ : Marking mark = Marking.mark chunk set version in
    let m₂ : Marking clear = Marking.clear member cleared in
    let t = then-clear chunk set version member cleared w h a b in
    let t' = then-mark chunk set version member cleared w h a b in
    let q : (both mark clear w).at.node ≡ (both clear mark w).at.node =
    (node-synced member cleared (next mark w) t ∙ node-wrote chunk set version w a)
    ∙ sym (node-wrote chunk set version (next clear w) t' ∙ ap (λ (n : Node). written n chunk version) (node-synced member cleared w b)) in
    let r : (both mark clear w).map ≡ (both clear mark w).map =
    same_map w.at.node.chunks _ _ (sound-two mark clear w m₁ m₂ h a b) (sound-two clear mark w m₂ m₁ h b a) (bits-apart chunk set version member cleared w h a b d) in
    same-held (same-node (both mark clear w) (both clear mark w) (good-both mark clear w h a) (good-both clear mark w h b) q r) r
    ((staging-as-said clear (next mark w) t ∙ staging-as-said mark w a) ∙ sym (staging-as-said mark (next clear w) t' ∙ staging-as-said clear w b))

pub last-one-wins : LastOneWins
last-one-wins chunk set version member w h a b i =
    ((marked-last chunk set version member chunk w h a b).those member i, (cleared-last chunk set version member chunk w h a b).that)
