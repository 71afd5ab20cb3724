-- Fills, marks and clears in either order.
use mathlib.Core.Path.{◌≡◌, refl, sym, ap, ◌∙◌, subst}
use Prim.Native.Nat.{ℕ, ◌<◌, max}
use native.Mathlib.Decide.{ℕ_discrete, dec_lt}
use native.Mathlib.Omega.{arith}
use mathlib.Core.List.{List}
use Rattle.rules_base.specs.Chunk.{dirty}
use Rattle.rules_node.specs.declared.Node.{Node}
use Rattle.rules_node.specs.Change.{stored_version, kept_chunk}
use Rattle.rules_node.specs.Write.{written}
use Rattle.rules_node.specs.Fill.{filled}
use Rattle.rules_node.specs.Events.{Event}
use Rattle.rules_node.specs.Held.{Held, next}
use Rattle.theorem_node.specs.Said.{Accepts, Marked, Filled, In}
use Rattle.theorem_node.proofs.Said.{staging-as-said, map-as-said}
use Rattle.theorem_node.specs.Commuting.{both, Sized, Marking, FillStoresTheLarger, FillAndMark, FillsCommute, FillAndClear, FillOrClear}
use Rattle.theorem_node.proofs.Either.{Alike, alike_next, still, same-node, good-both, same_map, sound-two, same-held, marked-or, cleared-or, bit-marked, bit-cleared, node-wrote, node-synced, node-filled}

-- all three leave staging as it was
staging-stays : (e : Event) (w : Held) → Marking e → Accepts e w → (next e w).staging ≡ w.staging
staging-stays _ w (Marking.mark chunk set version) a = staging-as-said (Event.write chunk set version) w a
staging-stays _ w (Marking.clear member chunk) a = staging-as-said (Event.synced member chunk) w a
staging-stays _ w (Marking.fill member version) a = staging-as-said (Event.fill member version) w a

-- two that leave the same node and the same bits leave the same
both-same : (e f : Event) (w : Held) → Marking e → Marking f → Sized w → Accepts e w → Accepts f w → (both e f w).at.node ≡ (both f e w).at.node → ((m c : ℕ) → dirty (both e f w).map m c ≡ dirty (both f e w).map m c) → both e f w ≡ both f e w
both-same e f w m k h a b q bits =
    let r = same_map w.at.node.chunks _ _ (sound-two e f w m k h a b) (sound-two f e w k m h b a) bits in
    same-held (same-node (both e f w) (both f e w) (good-both e f w h a) (good-both f e w h b) q r) r
    ((staging-stays f (next e w) k (still e f w m k h b) ∙ staging-stays e w m a) ∙ sym (staging-stays e (next f w) m (still f e w k m h a) ∙ staging-stays f w k b))

-- a chunk that is filled, or not
filled-or : (member count m c : ℕ) → Dec ((m ≡ member) × (c < count))
filled-or member count m c = elim (ℕ_discrete m member) [
  | yes p ↦ elim (dec_lt c count) [ yes q ↦ yes (p, q) | no d ↦ no (λ r. d r.1) ]
  | no d ↦ no (λ r. d r.0)
]

bit-filled : (member count : ℕ) (from left : List ℕ) → Filled member count from left → (m c : ℕ) → (m ≡ member) × (c < count) → dirty left m c ≡ 1
bit-filled member count from left k m c (p, q) = rw p (k.those c q)

-- a fill after another of the three, by the count before
filled-then : (member version : ℕ) (e : Event) (w : Held) → Marking e → Sized w → Accepts (Event.fill member version) w → Filled member w.at.node.chunks (next e w).map (both e (Event.fill member version) w).map
filled-then member version e w m h a =
    let f : Event = Event.fill member version in
    subst (λ (n : ℕ). Filled member n (next e w).map (both e f w).map) (alike_next e w m h).count (map-as-said f (next e w) (still e f w m (Marking.fill member version) h a))

pub fill-stores-the-larger : FillStoresTheLarger
unfolding filled stored_version
fill-stores-the-larger member version w a = ap (λ (n : Node). n.version) (node-filled member version w a)

pub fill-and-mark : FillAndMark
unfolding filled written kept_chunk stored_version
fill-and-mark member filling chunk set version w h a b =
    let fill : Event = Event.fill member filling in
    let mark : Event = Event.write chunk set version in
    let m₁ : Marking fill = Marking.fill member filling in
    let m₂ : Marking mark = Marking.mark chunk set version in
    let t = still fill mark w m₁ m₂ h b in
    let t' = still mark fill w m₂ m₁ h a in
    let top : max (max w.at.node.version filling) version ≡ max (max w.at.node.version version) filling = omega arith in
    let x = node-wrote chunk set version (next fill w) t ∙ ap (λ (n : Node). written n chunk version) (node-filled member filling w a) in
    let y = node-filled member filling (next mark w) t' ∙ ap (λ (n : Node). filled n filling) (node-wrote chunk set version w b) in
    both-same fill mark w m₁ m₂ h a b (x ∙ (rw top refl ∙ sym y)) bits
  where
    bits : (m c : ℕ) → dirty (both (Event.fill member filling) (Event.write chunk set version) w).map m c ≡ dirty (both (Event.write chunk set version) (Event.fill member filling) w).map m c
    bits m c =
        let fill : Event = Event.fill member filling in
        let mark : Event = Event.write chunk set version in
        let m₁ : Marking fill = Marking.fill member filling in
        let m₂ : Marking mark = Marking.mark chunk set version in
        let k = map-as-said fill w a in
        let l = map-as-said mark w b in
        let l' = map-as-said mark (next fill w) (still fill mark w m₁ m₂ h b) in
        let k' = filled-then member filling mark w m₂ h a in
        elim (filled-or member w.at.node.chunks m c) [
          | yes q ↦ elim (marked-or set chunk m c) [
            | yes p ↦ bit-marked set chunk _ _ l' m c p ∙ sym (bit-filled member _ _ _ k' m c q)
            | no d ↦ (l'.others m c d ∙ bit-filled member _ _ _ k m c q) ∙ sym (bit-filled member _ _ _ k' m c q)
          ]
          | no f ↦ elim (marked-or set chunk m c) [
            | yes p ↦ bit-marked set chunk _ _ l' m c p ∙ sym (k'.others m c f ∙ bit-marked set chunk _ _ l m c p)
            | no d ↦ (l'.others m c d ∙ k.others m c f) ∙ sym (k'.others m c f ∙ l.others m c d)
          ]
        ]

pub fills-commute : FillsCommute
unfolding filled stored_version
fills-commute member version member' version' w h a b =
    let one : Event = Event.fill member version in
    let two : Event = Event.fill member' version' in
    let m₁ : Marking one = Marking.fill member version in
    let m₂ : Marking two = Marking.fill member' version' in
    let top : max (max w.at.node.version version) version' ≡ max (max w.at.node.version version') version = omega arith in
    let x = node-filled member' version' (next one w) (still one two w m₁ m₂ h b) ∙ ap (λ (n : Node). filled n version') (node-filled member version w a) in
    let y = node-filled member version (next two w) (still two one w m₂ m₁ h a) ∙ ap (λ (n : Node). filled n version) (node-filled member' version' w b) in
    both-same one two w m₁ m₂ h a b (x ∙ (rw top refl ∙ sym y)) bits
  where
    bits : (m c : ℕ) → dirty (both (Event.fill member version) (Event.fill member' version') w).map m c ≡ dirty (both (Event.fill member' version') (Event.fill member version) w).map m c
    bits m c =
        let one : Event = Event.fill member version in
        let two : Event = Event.fill member' version' in
        let k = map-as-said one w a in
        let l = map-as-said two w b in
        let l' = filled-then member' version' one w (Marking.fill member version) h b in
        let k' = filled-then member version two w (Marking.fill member' version') h a in
        let n = w.at.node.chunks in
        elim (filled-or member n m c) [
          | yes p ↦ elim (filled-or member' n m c) [
            | yes q ↦ bit-filled member' n _ _ l' m c q ∙ sym (bit-filled member n _ _ k' m c p)
            | no d ↦ (l'.others m c d ∙ bit-filled member n _ _ k m c p) ∙ sym (bit-filled member n _ _ k' m c p)
          ]
          | no f ↦ elim (filled-or member' n m c) [
            | yes q ↦ bit-filled member' n _ _ l' m c q ∙ sym (k'.others m c f ∙ bit-filled member' n _ _ l m c q)
            | no d ↦ (l'.others m c d ∙ k.others m c f) ∙ sym (k'.others m c f ∙ l.others m c d)
          ]
        ]

pub fill-and-clear : FillAndClear
fill-and-clear member version other chunk w h a b apart =
    let fill : Event = Event.fill member version in
    let clear : Event = Event.synced other chunk in
    let m₁ : Marking fill = Marking.fill member version in
    let m₂ : Marking clear = Marking.clear other chunk in
    let x = node-synced other chunk (next fill w) (still fill clear w m₁ m₂ h b) ∙ node-filled member version w a in
    let y = node-filled member version (next clear w) (still clear fill w m₂ m₁ h a) ∙ ap (λ (n : Node). filled n version) (node-synced other chunk w b) in
    both-same fill clear w m₁ m₂ h a b (x ∙ sym y) bits
  where
    bits : (m c : ℕ) → dirty (both (Event.fill member version) (Event.synced other chunk) w).map m c ≡ dirty (both (Event.synced other chunk) (Event.fill member version) w).map m c
    bits m c =
        let fill : Event = Event.fill member version in
        let clear : Event = Event.synced other chunk in
        let k = map-as-said fill w a in
        let l = map-as-said clear w b in
        let l' = map-as-said clear (next fill w) (still fill clear w (Marking.fill member version) (Marking.clear other chunk) h b) in
        let k' = filled-then member version clear w (Marking.clear other chunk) h a in
        let n = w.at.node.chunks in
        elim (filled-or member n m c) [
          | yes q ↦ elim (cleared-or other chunk m c) [
            | yes p ↦ absurd (apart (sym p.0 ∙ q.0))
            | no d ↦ (l'.others m c d ∙ bit-filled member n _ _ k m c q) ∙ sym (bit-filled member n _ _ k' m c q)
          ]
          | no f ↦ elim (cleared-or other chunk m c) [
            | yes p ↦ bit-cleared other chunk _ _ l' m c p ∙ sym (k'.others m c f ∙ bit-cleared other chunk _ _ l m c p)
            | no d ↦ (l'.others m c d ∙ k.others m c f) ∙ sym (k'.others m c f ∙ l.others m c d)
          ]
        ]

pub fill-or-clear : FillOrClear
fill-or-clear member version chunk w h l a b =
    let fill : Event = Event.fill member version in
    let clear : Event = Event.synced member chunk in (
      (filled-then member version clear w (Marking.clear member chunk) h a).those chunk l,
      (map-as-said clear (next fill w) (still fill clear w (Marking.fill member version) (Marking.clear member chunk) h b)).that,
    )
