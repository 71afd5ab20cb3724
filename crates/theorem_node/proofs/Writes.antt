-- Any number of writes, however they arrive.
use mathlib.Core.Path.{◌≡◌, refl, sym, ap, ◌∙◌, subst}
use mathlib.Core.Bool.{false}
use mathlib.Core.List.{List, [], ◌∷◌}
use Prim.Native.Nat.{ℕ, max}
use Rattle.laws_words.specs.Tests.{clash}
use Rattle.rules_base.specs.Chunk.{marked_for}
use Rattle.rules_node.specs.declared.Answer.{Answer}
use Rattle.rules_node.specs.declared.Node.{Node}
use Rattle.rules_node.specs.declared.Turn.{Turn}
use Rattle.rules_node.specs.Change.{stored_version, kept_chunk, forgotten}
use Rattle.rules_node.specs.Carry.{map_after}
use Rattle.rules_node.specs.Write.{written}
use Rattle.rules_node.specs.Events.{Event}
use Rattle.rules_node.specs.Face.{map_by, answers}
use Rattle.rules_node.specs.Held.{Held, next}
use Rattle.laws_node.proofs.Theorems.{law}
use Rattle.theorem_node.specs.Demand1.{Verdict}
use Rattle.rules_node.specs.Turns.{is_accepted}
use Rattle.theorem_node.specs.Said.{Accepts}
use Rattle.theorem_node.proofs.Demand1.{demand-1}
use Rattle.theorem_node.proofs.Demand2.{reached-good}
use Rattle.theorem_node.proofs.Said.{known, staging-as-said}
use Rattle.theorem_node.specs.Commuting.{SameButKept, Marking, Write, arrive, Rearranged, AnyArrival}
use Rattle.theorem_node.proofs.Either.{GoodAt, good-next, alike-good, same_answer, same-words, same-held, node-wrote, order-free, writes-commute, write-twice}

abbrev event_of : Write → Event
event_of x = Event.write x.chunk x.set x.version

abbrev marks : (x : Write) → Marking (event_of x)
marks x = Marking.mark x.chunk x.set x.version

abbrev answer_of : Write → Held → Answer
answer_of x w = (answers (event_of x) w.at w.map w.staging).answer

-- ---- the same but the kept chunks

same_refl : (w : Held) → SameButKept w w
same_refl w = record { map = refl; summaries = refl; staging = refl; node = refl }

same-sym : {w v : Held} → SameButKept w v → SameButKept v w
same-sym s = record { map = sym s.map; summaries = sym s.summaries; staging = sym s.staging; node = sym s.node }

same-trans : {w v u : Held} → SameButKept w v → SameButKept v u → SameButKept w u
same-trans s r = record { map = s.map ∙ r.map; summaries = s.summaries ∙ r.summaries; staging = s.staging ∙ r.staging; node = s.node ∙ r.node }

same_by : {w v : Held} → w ≡ v → SameButKept w v
same_by {w} {v} q = subst (SameButKept w) q (same_refl w)

-- ---- a write is refused and changes nothing, or accepted

data Fate (x : Write) (w : Held) : Type 0 where
  stays : is_accepted (answer_of x w) ≡ false → next (event_of x) w ≡ w → Fate x w
  done : Accepts (event_of x) w → Fate x w

fate : (x : Write) (w : Held) → Fate x w
fate x w = at (demand-1 (event_of x) w.at w.map w.staging)
  where
    at : Verdict (event_of x) w.at w.map w.staging → Fate x w
    at (Verdict.refused k p r) = Fate.stays (ap is_accepted p) (same-held r.node r.map r.staging)
    at (Verdict.done p r) = Fate.done p

-- ---- where two nodes are the same but the kept chunks, a write leaves the same but the kept chunks

map-wrote : (x : Write) (w : Held) → Accepts (event_of x) w → (next (event_of x) w).map ≡ marked_for w.map x.set x.chunk
unfolding law map_by map_after
map-wrote x w a = ap (λ (t : Turn). map_by t w.map w.staging) (known (event_of x) w a).turn

-- a write as seen without the kept chunks
without : (x : Write) (n : Node) → forgotten (written n x.chunk x.version) ≡ stored_version (forgotten n) (max (forgotten n).version x.version)
unfolding forgotten written kept_chunk stored_version
without x n = refl

node-same : (x : Write) (n m : Node) → forgotten n ≡ forgotten m → forgotten (written n x.chunk x.version) ≡ forgotten (written m x.chunk x.version)
node-same x n m e = without x n ∙ (ap (λ (k : Node). stored_version k (max k.version x.version)) e ∙ sym (without x m))

module _ (x : Write) (w v : Held) (g : GoodAt w) (k : GoodAt v) (s : SameButKept w v) where
  same-told : answer_of x v ≡ answer_of x w
  unfolding forgotten
  same-told =
      let q = sym s.node in
      same_answer (event_of x) w v (marks x) (alike-good w v g k (ap (λ (n : Node). n.id) q) (ap (λ (n : Node). n.chunks) q) (ap (λ (n : Node). n.state) q) (ap (λ (n : Node). n.members) q))

  same_next : SameButKept (next (event_of x) w) (next (event_of x) v)
  same_next = at (fate x w) (fate x v)
    where
      at : Fate x w → Fate x v → SameButKept (next (event_of x) w) (next (event_of x) v)
      at (Fate.stays p q) (Fate.stays p' q') = same-trans (same_by q) (same-trans s (same_by (sym q')))
      at (Fate.stays p q) (Fate.done a) = clash a (ap is_accepted same-told ∙ p)
      at (Fate.done a) (Fate.stays p q) = clash (ap is_accepted same-told ∙ a) p
      at (Fate.done a) (Fate.done b) =
          let q = map-wrote x w a ∙ (ap (λ (l : List ℕ). marked_for l x.set x.chunk) s.map ∙ sym (map-wrote x v b)) in
          record {
            map = q;
            summaries = same-words (next (event_of x) w) (next (event_of x) v) (good-next (event_of x) w g) (good-next (event_of x) v k) q;
            staging = staging-as-said (event_of x) w a ∙ (s.staging ∙ sym (staging-as-said (event_of x) v b));
            node = ap forgotten (node-wrote x.chunk x.set x.version w a) ∙ (node-same x w.at.node v.at.node s.node ∙ sym (ap forgotten (node-wrote x.chunk x.set x.version v b)));
          }

same-arrive : (xs : List Write) (w v : Held) → GoodAt w → GoodAt v → SameButKept w v → SameButKept (arrive xs w) (arrive xs v)
same-arrive [] w v g k s = s
same-arrive (x ∷ xs) w v g k s = same-arrive xs (next (event_of x) w) (next (event_of x) v) (good-next (event_of x) w g) (good-next (event_of x) v k) (same_next x w v g k s)

-- ---- two change places, and a repeat falls away

-- one that is refused is refused after another too
stays-later : (x y : Write) (w : Held) → GoodAt w → is_accepted (answer_of x w) ≡ false → next (event_of x) (next (event_of y) w) ≡ next (event_of y) w
stays-later x y w g p = at (fate x (next (event_of y) w))
  where
    at : Fate x (next (event_of y) w) → next (event_of x) (next (event_of y) w) ≡ next (event_of y) w
    at (Fate.stays _ q) = q
    at (Fate.done a) = clash a (ap is_accepted (order-free (event_of y) (event_of x) w (marks y) (marks x) g.size) ∙ p)

swap : (x y : Write) (w : Held) → GoodAt w → SameButKept (next (event_of y) (next (event_of x) w)) (next (event_of x) (next (event_of y) w))
swap x y w g = at (fate x w) (fate y w)
  where
    at : Fate x w → Fate y w → SameButKept (next (event_of y) (next (event_of x) w)) (next (event_of x) (next (event_of y) w))
    at (Fate.stays p q) _ = same_by (ap (next (event_of y)) q ∙ sym (stays-later x y w g p))
    at (Fate.done a) (Fate.stays p q) = same_by (stays-later y x w g p ∙ sym (ap (next (event_of x)) q))
    at (Fate.done a) (Fate.done b) = writes-commute x.chunk x.set x.version y.chunk y.set y.version w g.size a b

twice : (x : Write) (w : Held) → GoodAt w → SameButKept (next (event_of x) (next (event_of x) w)) (next (event_of x) w)
twice x w g = at (fate x w)
  where
    at : Fate x w → SameButKept (next (event_of x) (next (event_of x) w)) (next (event_of x) w)
    at (Fate.stays p q) = same_by (ap (next (event_of x)) q)
    at (Fate.done a) = write-twice x.chunk x.set x.version w g.size a

arrives : (xs ys : List Write) → Rearranged xs ys → (w : Held) → GoodAt w → SameButKept (arrive xs w) (arrive ys w)
arrives _ _ (Rearranged.same xs) w g = same_refl (arrive xs w)
arrives _ _ (Rearranged.swapped x y xs) w g =
    same-arrive xs _ _ (good-next (event_of y) _ (good-next (event_of x) w g)) (good-next (event_of x) _ (good-next (event_of y) w g)) (swap x y w g)
arrives _ _ (Rearranged.repeated x xs) w g =
    same-arrive xs _ _ (good-next (event_of x) _ (good-next (event_of x) w g)) (good-next (event_of x) w g) (twice x w g)
arrives _ _ (Rearranged.later x xs ys r) w g = arrives xs ys r (next (event_of x) w) (good-next (event_of x) w g)
arrives _ _ (Rearranged.back xs ys r) w g = same-sym (arrives xs ys r w g)
arrives _ _ (Rearranged.then xs ys zs r t) w g = same-trans (arrives xs ys r w g) (arrives ys zs t w g)

pub any-arrival : AnyArrival
any-arrival xs ys w r c = arrives xs ys r w (reached-good w.at w.map w.staging c)
