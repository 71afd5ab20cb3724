-- Taking maps into staging: the OR, and two maps received one after the other.
use mathlib.Core.Path.{◌≡◌, refl, sym, ap, ◌∙◌, subst}
use mathlib.Core.Bool.{Bool, true, false, ◌&&◌}
use mathlib.Core.List.{List, [], ◌∷◌}
use Prim.Native.Nat.{ℕ, ◌/◌, ◌%◌, ◌≤◌, ◌<◌, max}
use native.Mathlib.Omega.{arith}
use lib.ListN.{get_or, length-replicate, get_or-replicate}
use Rattle.laws_words.specs.Words.{bit}
use Rattle.laws_words.specs.Tests.{by_cases, clash, and_both, and_right}
use Rattle.laws_words.specs.Bits.{bit-none}
use Rattle.rules_base.specs.Limits.{version_limit}
use Rattle.rules_base.specs.Sets.{has}
use Rattle.rules_base.specs.Chunk.{byte_of, dirty}
use Rattle.rules_base.proofs.Chunk.{dirty-there}
use Rattle.rules_base.specs.Map.{sound, or_in}
use Rattle.rules_base.proofs.Maps.{sound-yes, spare-none}
use Rattle.rules_base.proofs.Sound.{sound-fact, sound-or, same-chunks}
use Rattle.rules_base.proofs.Chunks.{dirty-or}
use Rattle.rules_node.specs.declared.State.{State}
use Rattle.rules_node.specs.declared.Turn.{Turn}
use Rattle.rules_node.specs.Change.{went_to, taken_over, stored_version, transferred, ended_transfer, instructed}
use Rattle.rules_node.specs.States.{is_joined, is_serving}
use Rattle.rules_node.specs.StateRules.{standing}
use Rattle.laws_node.proofs.Tables.{gives, given}
use Rattle.laws_node.proofs.Valid.{at-node}
use Rattle.laws_node.proofs.Passed.{whole-in-hand}
use Rattle.rules_node.specs.Hand.{map_done_refusal, done_to, committed}
use Rattle.laws_node.proofs.HandKeeps.{map_done-passed}
use Rattle.rules_node.specs.Face.{StorageNode}
use Rattle.rules_node.specs.Events.{Event}
use Rattle.rules_node.specs.Face.{answers, lent_to}
use Rattle.rules_node.specs.Held.{Held, next, after}
use Rattle.rules_node.specs.Cuts.{Cuts, takes}
use Rattle.laws_node.proofs.Theorems.{law, accepted-keeps}
use Rattle.theorem_node.specs.Demand1.{Verdict}
use Rattle.theorem_node.specs.Said.{Accepts, In, took, Able}
use Rattle.theorem_node.proofs.Demand1.{demand-1}
use Rattle.theorem_node.proofs.Demand2.{taken-plain}
use Rattle.theorem_node.proofs.Said.{known, each-bit}
use Rattle.theorem_node.proofs.Received.{whole-staging, same_row, receives, old-marks-gone, old-marks-kept}
use Rattle.theorem_node.specs.Commuting.{TakingIsOr, zeros, StagingLaws, receive, TransfersCommute, TransferAgain}
use Rattle.theorem_node.proofs.Either.{GoodAt, good-next, same_map}

pub taking-is-or : TakingIsOr
taking-is-or = whole-staging

-- ---- the OR

zero-byte : (k : ℕ) → k < 8192 → get_or zeros k 0 ≡ 0
zero-byte k l = get_or-replicate 8192 k 0 0 l

pub zeros-sound : (n : ℕ) → sound n zeros ≡ true
zeros-sound n = sound-yes n zeros (length-replicate {A = ℕ} 8192 0) (λ k l. rw (zero-byte k l) (spare-none n k))

dirty-zeros : (m c : ℕ) → m < 16 → c < 4096 → dirty zeros m c ≡ 0
unfolding byte_of
dirty-zeros m c a b = dirty-there zeros m c a b ∙ rw (zero-byte (byte_of m c) (omega arith)) (bit-none (c % 8))

pub staging-laws : StagingLaws
staging-laws n =
    record {
      commutative = λ xs ys s r.
          let a = sound-fact n xs s in
          let b = sound-fact n ys r in
          same-chunks n (or_in xs ys) (or_in ys xs) (sound-or n xs ys a b) (sound-or n ys xs b a) (λ m c p l q.
          omega (arith, dirty-or xs ys m c a.len b.len p q, dirty-or ys xs m c b.len a.len p q));
      associative = λ xs ys zs s r t.
          let a = sound-fact n xs s in
          let b = sound-fact n ys r in
          let d = sound-fact n zs t in
          let ab = sound-or n xs ys a b in
          let bd = sound-or n ys zs b d in
          same-chunks n (or_in (or_in xs ys) zs) (or_in xs (or_in ys zs)) (sound-or n (or_in xs ys) zs ab d) (sound-or n xs (or_in ys zs) a bd) (λ m c p l q.
          omega (arith, dirty-or (or_in xs ys) zs m c ab.len d.len p q, dirty-or xs ys m c a.len b.len p q, dirty-or xs (or_in ys zs) m c a.len bd.len p q, dirty-or ys zs m c b.len d.len p q));
      idempotent = λ xs s.
          let a = sound-fact n xs s in
          same-chunks n (or_in xs xs) xs (sound-or n xs xs a a) a (λ m c p l q. omega (arith, dirty-or xs xs m c a.len a.len p q));
      zero = λ xs s.
          let a = sound-fact n xs s in
          let z = sound-fact n zeros (zeros-sound n) in
          same-chunks n (or_in xs zeros) xs (sound-or n xs zeros a z) a (λ m c p l q. omega (arith, dirty-or xs zeros m c a.len z.len p q, dirty-zeros m c p q));
    }

-- ---- id and chunk count stay, whatever comes

record Stays (w v : Held) : Type 0 where
  id : v.at.node.id ≡ w.at.node.id
  count : v.at.node.chunks ≡ w.at.node.chunks
  good : GoodAt v

stays-next : (e : Event) (w : Held) → GoodAt w → Stays w (next e w)
stays-next e w g = at (demand-1 e w.at w.map w.staging)
  where
    at : Verdict e w.at w.map w.staging → Stays w (next e w)
    at (Verdict.refused k p r) =
        record { id = ap (λ (s : StorageNode). s.node.id) r.node; count = ap (λ (s : StorageNode). s.node.chunks) r.node; good = good-next e w g }
    at (Verdict.done p r) =
        let k = accepted-keeps e w.at w.map w.staging g.size (taken-plain (answers e w.at w.map w.staging).answer p) in
        record { id = k.same_id; count = k.same-chunks; good = good-next e w g }

stays_after : (es : List Event) (w : Held) → GoodAt w → Stays w (after es w)
stays_after [] w g = record { id = refl; count = refl; good = g }
stays_after (e ∷ es) w g =
    let a = stays-next e w g in
    let b = stays_after es (next e w) a.good in
    record { id = b.id ∙ a.id; count = b.count ∙ a.count; good = b.good }

-- ---- a map received leaves a node that can receive

serves-after : (enabling : Bool) (version set : ℕ) (w : Held) → Accepts (Event.map_done enabling version set) w → is_serving (next (Event.map_done enabling version set) w).at.node ≡ true
unfolding law map_done_refusal committed instructed ended_transfer transferred taken_over stored_version went_to
serves-after enabling version set w a =
    let d = known (Event.map_done enabling version set) w a in
    let t = whole-in-hand w.at.node.transfer (map_done-passed w.at.node (lent_to w.at w.map w.staging) version set d.none).0.from in
    let s : is_serving w.at.node ≡ true = given _ _ (at-node (λ s store create hand own. gives (standing s store create hand own && hand) (is_joined s && store)) refl w.at.node) (and_both d.rules.stand t) in
    ap (λ (t : Turn). is_serving t.node) d.turn ∙ at enabling w.at.node.state w.at.node.store s
  where
    at : (b : Bool) (s : State) (store : Bool) → (is_joined s && store) ≡ true → (is_joined (done_to b s) && store) ≡ true
    at true s store e = and_right (is_joined s) store e
    at false s store e = e

module _ (keep : Bool) (zs lengths : List ℕ) (enabling : Bool) (version set : ℕ) (w : Held) (b : Able w) (z : sound w.at.node.chunks zs ≡ true) (c : Cuts lengths) (m : set ≤ 65535) (i : has set w.at.node.id ≡ true) (v : version ≤ version_limit) where
  accepts : Accepts (Event.map_done enabling version set) (took keep zs lengths w)
  accepts = receives keep zs lengths enabling version set w b z c m i v

  stays : Stays w (receive keep zs lengths enabling version set w)
  stays =
      let a = stays_after (Event.map_ready keep ∷ takes zs 0 lengths) w (record { rules = b.rules; size = b.size; map = b.map; staging = b.staging; agrees = b.agrees }) in
      let d = stays-next (Event.map_done enabling version set) (took keep zs lengths w) a.good in
      record { id = d.id ∙ a.id; count = d.count ∙ a.count; good = d.good }

  able : Able (receive keep zs lengths enabling version set w)
  able =
      record {
        size = stays.good.size;
        rules = stays.good.rules;
        map = stays.good.map;
        staging = stays.good.staging;
        agrees = stays.good.agrees;
        serves = serves-after enabling version set (took keep zs lengths w) accepts;
      }

-- a row outside the set is clean
clean-row : (xs : List ℕ) (m c : ℕ) → ((k : ℕ) → k / 512 ≡ m → get_or xs k 0 ≡ 0) → dirty xs m c ≡ 0
unfolding byte_of
clean-row xs m c f = each-bit xs m c 0 at (λ t. refl)
  where
    at : m < 16 → c < 4096 → dirty xs m c ≡ 0
    at hm hc = dirty-there xs m c hm hc ∙ rw (f (byte_of m c) (omega arith)) (bit-none (c % 8))

-- two maps received, bit by bit
record Received (set : ℕ) (zs zs' left : List ℕ) : Type 0 where
  those : (m c : ℕ) → In set m → dirty left m c ≡ max (dirty zs m c) (dirty zs' m c)
  others : (m c : ℕ) → has set m ≡ false → dirty left m c ≡ 0

module _ (zs lengths zs' lengths' : List ℕ) (enabling : Bool) (version set : ℕ) (w : Held) (b : Able w) (z : sound w.at.node.chunks zs ≡ true) (z' : sound w.at.node.chunks zs' ≡ true) (c : Cuts lengths) (c' : Cuts lengths') (m : set ≤ 65535) (i : has set w.at.node.id ≡ true) (v : version ≤ version_limit) where
  first : Held
  first = receive false zs lengths enabling version set w

  able-first : Able first
  unfolding first
  able-first = able false zs lengths enabling version set w b z c m i v

  sound-second : sound first.at.node.chunks zs' ≡ true
  unfolding first
  sound-second = rw (stays false zs lengths enabling version set w b z c m i v).count z'

  in-set : has set first.at.node.id ≡ true
  unfolding first
  in-set = rw (stays false zs lengths enabling version set w b z c m i v).id i

  both-received : Received set zs zs' (receive true zs' lengths' enabling version set first).map
  unfolding first
  both-received =
      let g = old-marks-gone zs lengths enabling version set w b z c (accepts false zs lengths enabling version set w b z c m i v) in
      let k = old-marks-kept zs' lengths' enabling version set first able-first sound-second c' (accepts true zs' lengths' enabling version set first able-first sound-second c' m in-set v) in
      record {
        those = λ m c h. k.those m c h ∙ ap (λ (x : ℕ). max x (dirty zs' m c)) (same_row (In set) zs _ g m c h);
        others = λ m c h. clean-row _ m c (λ j q. k.others j (λ e. clash (subst (In set) q e) h));
      }

  sound-left : sound w.at.node.chunks (receive true zs' lengths' enabling version set first).map ≡ true
  unfolding first
  sound-left =
      let s = stays true zs' lengths' enabling version set first able-first sound-second c' m in-set v in
      subst (λ (n : ℕ). sound n (receive true zs' lengths' enabling version set first).map ≡ true) (s.count ∙ (stays false zs lengths enabling version set w b z c m i v).count) s.good.map

pub transfers-commute : TransfersCommute
unfolding first
transfers-commute zs lengths zs' lengths' enabling version set w b z z' c c' m i v =
    let x = both-received zs lengths zs' lengths' enabling version set w b z z' c c' m i v in
    let y = both-received zs' lengths' zs lengths enabling version set w b z' z c' c m i v in
    same_map w.at.node.chunks _ _ (sound-left zs lengths zs' lengths' enabling version set w b z z' c c' m i v) (sound-left zs' lengths' zs lengths enabling version set w b z' z c' c m i v)
    (λ m c. by_cases (has set m) (λ h. omega (arith, x.those m c h, y.those m c h)) (λ h. x.others m c h ∙ sym (y.others m c h)))

-- ---- the same map again, and the zero map

module _ (zs lengths zs' lengths' : List ℕ) (enabling : Bool) (version set : ℕ) (w : Held) (b : Able w) (z : sound w.at.node.chunks zs ≡ true) (z' : sound w.at.node.chunks zs' ≡ true) (c : Cuts lengths) (c' : Cuts lengths') (m : set ≤ 65535) (i : has set w.at.node.id ≡ true) (v : version ≤ version_limit) where
  -- what adds no bit changes nothing
  adds_none : ((m c : ℕ) → max (dirty zs m c) (dirty zs' m c) ≡ dirty zs m c) → (receive true zs' lengths' enabling version set (receive false zs lengths enabling version set w)).map ≡ (receive false zs lengths enabling version set w).map
  unfolding first
  adds_none f =
      let x = both-received zs lengths zs' lengths' enabling version set w b z z' c c' m i v in
      let g = old-marks-gone zs lengths enabling version set w b z c (accepts false zs lengths enabling version set w b z c m i v) in
      let s = stays false zs lengths enabling version set w b z c m i v in
      same_map w.at.node.chunks _ _ (sound-left zs lengths zs' lengths' enabling version set w b z z' c c' m i v)
      (subst (λ (n : ℕ). sound n (receive false zs lengths enabling version set w).map ≡ true) s.count s.good.map)
      (λ m c. by_cases (has set m) (λ h. x.those m c h ∙ (f m c ∙ sym (same_row (In set) zs _ g m c h))) (λ h. x.others m c h ∙ sym (clean-row _ m c (λ j q. g.others j (λ e. clash (subst (In set) q e) h)))))

pub transfer-again : TransferAgain
transfer-again zs lengths lengths' enabling version set w b z c c' m i v = (
  adds_none zs lengths zs lengths' enabling version set w b z z c c' m i v (λ m c. omega arith),
  adds_none zs lengths zeros lengths' enabling version set w b z (zeros-sound w.at.node.chunks) c c' m i v (λ m c. let q = no-dirty m c in omega arith),
)
  where
    no-dirty : (m c : ℕ) → dirty zeros m c ≡ 0
    no-dirty m c = each-bit zeros m c 0 (dirty-zeros m c) (λ t. refl)
