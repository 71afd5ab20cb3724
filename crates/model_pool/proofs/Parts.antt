-- MAP_SEND in parts, whatever comes of them: nothing of it was taken, or the first bytes of the source's map, perhaps all.
use Rattle.std.specs.Prelude.{Option, Some, None}
use mathlib.Core.Path.{◌≡◌, refl, sym, ap, ◌∙◌, subst}
use mathlib.Core.Bool.{Bool, true, false}
use mathlib.Core.List.{List, [], ◌∷◌}
use mathlib.Core.Logic.{◌≢◌}
use Prim.Native.Nat.{ℕ, zero, suc, ◌+◌, ◌-◌, ◌%◌, ◌≤◌}
use native.Mathlib.Decide.{dec_lt}
use native.Mathlib.Nat.{add-zero, add_assoc}
use native.Mathlib.Omega.{arith}
use lib.Dec.{leb}
use lib.ListN.{length, get_or}
use borrow.Author.Tests.{leb-true, leb-false}
use Rattle.laws_words.specs.Words.{pick, bit}
use Rattle.laws_words.specs.Tests.{clash, by_cases}
use Rattle.laws_words.specs.Bits.{bit-or, bit-lt}
use Rattle.rules_base.specs.Limits.{map_bytes}
use Rattle.rules_base.specs.Chunk.{byte_of, dirty}
use Rattle.rules_base.proofs.Chunk.{dirty-there}
use Rattle.rules_base.specs.Map.{or_from, or_in, clean_from}
use Rattle.rules_base.proofs.Chunks.{placed}
use Rattle.rules_base.proofs.Sound.{sound-fact}
use Rattle.rules_base.specs.Parts.{part_of, or_part}
use Rattle.rules_base.proofs.Joined.{part-in, part-before, part-past, length_part, length-part_of, parts_none, parts_more, parts_whole}
use Rattle.rules_pool.specs.declared.Reply.{Reply}
use Rattle.rules_node.specs.declared.Answer.{Answer}
use Rattle.rules_node.specs.declared.Node.{Node}
use Rattle.rules_node.specs.States.{in_hand, taken}
use Rattle.rules_node.specs.Change.{transferred}
use Rattle.rules_node.specs.Serve.{give_part_refusal}
use Rattle.laws_node.proofs.ServeKeeps.{give_part-passed}
use Rattle.rules_node.specs.Hand.{part_taken, take_part_refusal}
use Rattle.laws_node.proofs.HandKeeps.{take_part-passed}
use Rattle.rules_node.specs.Carry.{map_after, staging_after, taken_in}
use Rattle.rules_node.specs.Events.{Event}
use Rattle.rules_node.specs.Face.{map_by, staging_by}
use Rattle.rules_node.specs.Cuts.{total}
use Rattle.laws_node.proofs.Theorems.{law}
use Rattle.rules_node.specs.Turns.{is_accepted}
use Rattle.rules_world.specs.Station.{Station, does}
use Rattle.rules_world.specs.Together.{upd, Delivered, reply_of, by_one, if_good, takes_from, send}
use Rattle.theorem_honest.proofs.Ground.{upd_same, upd_other}
use Rattle.model_pool.specs.Model as m
use Rattle.model_pool.proofs.Ground.{split}
use Rattle.model_pool.specs.Holds.{transfer_of, Holds, Sane}
use Rattle.model_pool.proofs.Bits.{dirty-in, from_either}
use Rattle.model_pool.proofs.Did.{lent, took, stays}

-- a part ORed in clears no bit
stays-part : (a : ℕ) (part xs : List ℕ) (n c : ℕ) → length xs ≡ 8192 → dirty xs n c ≡ 1 → dirty (or_part a part xs) n c ≡ 1
stays-part a part xs n c l h =
    let i = dirty-in xs n c h in
    let k = byte_of n c in
    let b = placed xs n c l i.0 i.1 in
    let was = sym (dirty-there xs n c i.0 i.1) ∙ h in
    dirty-there (or_part a part xs) n c i.0 i.1 ∙ elim (dec_lt (byte_of n c) a) [
      | yes x ↦ ap (λ (y : ℕ). bit y (c % 8)) (part-before a part xs (byte_of n c) b x) ∙ was
      | no x ↦ elim (dec_lt (byte_of n c) (a + length part)) [
        | yes y ↦ ap (λ (z : ℕ). bit z (c % 8)) (part-in a part xs (byte_of n c) b (omega arith) y) ∙ (bit-or (get_or xs (byte_of n c) 0) (get_or part (byte_of n c - a) 0) (c % 8) ∙ (let q = bit-lt (get_or part (byte_of n c - a) 0) (c % 8) in omega (arith, was)))
        | no y ↦ ap (λ (z : ℕ). bit z (c % 8)) (part-past a part xs (byte_of n c) b (omega arith)) ∙ was
      ]
    ]

module _ (chunks from to : ℕ) (f : ℕ → Station) (sane : (k : ℕ) → Sane chunks k (f k)) where
  abbrev zs : List ℕ
  zs = (f from).map

  -- the receiver has taken the bytes below o
  record Partly (o : ℕ) (g : ℕ → Station) : Type 0 where
    others : (k : ℕ) → k ≢ to → g k ≡ f k
    node : (g to).node ≡ transferred (f to).node (Some o)
    map : (g to).map ≡ (f to).map
    staging : (g to).staging ≡ or_from 0 o (f to).staging zs
    kept : (n c : ℕ) → dirty (f to).staging n c ≡ 1 → dirty (g to).staging n c ≡ 1
    size : length (g to).staging ≡ 8192
    most : o ≤ 8192

  len-zs : length zs ≡ 8192
  len-zs = (sound-fact (f from).node.chunks (f from).map (sane from).good.map).len

  source : (o : ℕ) (g : ℕ → Station) → Partly o g → (g from).map ≡ zs
  source o g p = split from to (λ q. rw q p.map) (λ q. ap (λ (x : Station). x.map) (p.others from q))

  -- what a delivery came to, o bytes having been taken before it
  record Came (o : ℕ) (ls : List ℕ) (d : Delivered) : Type 0 where
    bytes : ℕ
    partly : Partly bytes d.nodes
    all : (b : Option ℕ) → d.reply ≡ Reply.Good b → bytes ≡ o + total ls

  never : {A : Type 0} (b : Option ℕ) → Reply.Failed ≡ Reply.Good b → A
  never b e = absurd (let z : ◌≡◌ {A = ℕ} 0 1 = cc in let y : ⊥ = omega arith in y)

  was-good : (a : Answer) (b : Option ℕ) → reply_of a ≡ Reply.Good b → is_accepted a ≡ true
  was-good (Answer.Refused n) b e = never b e
  was-good Answer.Done b e = refl
  was-good (Answer.Version v) b e = refl

  was-bad : (a : Answer) → reply_of a ≡ Reply.Failed → is_accepted a ≡ false
  was-bad (Answer.Refused n) e = refl
  was-bad Answer.Done e = never None (sym e)
  was-bad (Answer.Version v) e = never (Some v) (sym e)

  -- both were good, or the first or the second was not
  choose : (P : Delivered → Type 0) (p q : Reply) (next this stop : Delivered) → (p ≡ Reply.Failed → P stop) → (q ≡ Reply.Failed → P this) → ((b c : Option ℕ) → p ≡ Reply.Good b → q ≡ Reply.Good c → P next) → P (if_good p (if_good q next this) stop)
  choose P Reply.Failed q next this stop x y z = x refl
  choose P (Reply.Good b) Reply.Failed next this stop x y z = y refl
  choose P (Reply.Good b) (Reply.Good c) next this stop x y z = z b c refl refl

  -- one more part
  one : (o l : ℕ) (g : ℕ → Station) → Partly o g → is_accepted (does (g from) (Event.give_part o l)).answer ≡ true → is_accepted (takes_from o l from to g).answer ≡ true → Partly (o + l) (upd g to (takes_from o l from to g).station)
  unfolding law part_taken transferred map_by staging_by map_after staging_after taken_in give_part_refusal
  one o l g p x y =
      let a = (give_part-passed (g from).node (lent (g from)) o l (took (Event.give_part o l) (g from) x).none).1 in
      let w : o + l ≤ 8192 = a.within in
      let z = source o g p in
      let t = took (Event.take_part o (part_of o l (g from).map)) (g to) y in
      let n : length (part_of o l zs) ≡ l = length-part_of o l zs (omega (arith, len-zs, w)) in
      let n' : length (part_of o l (g from).map) ≡ l = ap (λ (u : List ℕ). length (part_of o l u)) z ∙ n in
      let s = upd_same g to (takes_from o l from to g).station ∙ t.is in
      record {
        others = λ k q. upd_other g to k (takes_from o l from to g).station q ∙ p.others k q;
        node = ap (λ (u : Station). u.node) s ∙ (ap (λ (u : Node). transferred u (Some (o + length (part_of o l (g from).map)))) p.node ∙ ap (λ (u : ℕ). transferred (f to).node (Some (o + u))) n');
        map = ap (λ (u : Station). u.map) s ∙ p.map;
        staging = ap (λ (u : Station). u.staging) s ∙ (ap (λ (u : List ℕ). or_part o (part_of o l u) (g to).staging) z ∙ (ap (or_part o (part_of o l zs)) p.staging ∙ parts_more o l (f to).staging zs (omega (arith, len-zs, w))));
        kept = λ i c h. subst (λ (u : Station). dirty u.staging i c ≡ 1) (sym s) (stays-part o (part_of o l (g from).map) (g to).staging i c p.size (p.kept i c h));
        size = ap (λ (u : Station). length u.staging) s ∙ (length_part o (part_of o l (g from).map) (g to).staging ∙ p.size);
        most = w;
      }

  -- a part that was refused, by either node
  not-given : (o l : ℕ) (ls : List ℕ) (g : ℕ → Station) → Partly o g → Came o (l ∷ ls) (record { nodes = g; reply = Reply.Failed })
  not-given o l ls g p = record { bytes = o; partly = p; all = λ b e. never b e }

  not_taken : (o l : ℕ) (ls : List ℕ) (g : ℕ → Station) → Partly o g → is_accepted (takes_from o l from to g).answer ≡ false → Came o (l ∷ ls) (by_one g to (takes_from o l from to g))
  not_taken o l ls g p y =
      let s = upd_same g to (takes_from o l from to g).station ∙ stays (Event.take_part o (part_of o l (g from).map)) (g to) y in
      record {
        bytes = o;
        partly = record {
          others = λ k q. upd_other g to k (takes_from o l from to g).station q ∙ p.others k q;
          node = ap (λ (u : Station). u.node) s ∙ p.node;
          map = ap (λ (u : Station). u.map) s ∙ p.map;
          staging = ap (λ (u : Station). u.staging) s ∙ p.staging;
          kept = λ i c h. subst (λ (u : Station). dirty u.staging i c ≡ 1) (sym s) (p.kept i c h);
          size = ap (λ (u : Station). length u.staging) s ∙ p.size;
          most = p.most;
        };
        all = λ b e. clash (was-good (takes_from o l from to g).answer b e) y;
      }

  -- one part, given and taken, and the rest
  then : (o l : ℕ) (ls : List ℕ) (d : Delivered) → Came (o + l) ls d → Came o (l ∷ ls) d
  then o l ls d r = record { bytes = r.bytes; partly = r.partly; all = λ b e. r.all b e ∙ add_assoc o l (total ls) }

  parts : (ls : List ℕ) (o : ℕ) (g : ℕ → Station) → Partly o g → Came o ls (send ls o from to g)
  unfolding send
  parts [] o g p = record { bytes = o; partly = p; all = λ b e. sym (add-zero o) }
  parts (l ∷ ls) o g p =
      choose (Came o (l ∷ ls)) (reply_of (does (g from) (Event.give_part o l)).answer) (reply_of (takes_from o l from to g).answer) _ _ _
      (λ x. not-given o l ls g p)
      (λ y. not_taken o l ls g p (was-bad (takes_from o l from to g).answer y))
      (λ b c x y. then o l ls _ (parts ls (o + l) (upd g to (takes_from o l from to g).station) (one o l g p (was-good (does (g from) (Event.give_part o l)).answer b x) (was-good (takes_from o l from to g).answer c y))))

  -- ---- where a transfer begins, and where none can
  begins : (f to).node.transfer ≡ Some 0 → Partly 0 f
  unfolding transferred
  begins e = record {
    others = λ k q. refl;
    node = ap (λ (t : Option ℕ). transferred (f to).node t) e;
    map = refl;
    staging = sym (parts_none (f to).staging zs);
    kept = λ i c h. h;
    size = (sound-fact (f to).node.chunks (f to).staging (sane to).good.staging).len;
    most = omega arith;
  }

  -- nothing of it was taken
  record Untouched (ls : List ℕ) (d : Delivered) : Type 0 where
    same : (k : ℕ) → d.nodes k ≡ f k
    none : (b : Option ℕ) → d.reply ≡ Reply.Good b → total ls ≡ 0

  untouched : ((f to).node.transfer ≡ Some 0 → ⊥) → (ls : List ℕ) → Untouched ls (send ls 0 from to f)
  unfolding send take_part_refusal
  untouched never-there [] = record { same = λ k. refl; none = λ b e. refl }
  untouched never-there (l ∷ ls) =
      choose (Untouched (l ∷ ls)) (reply_of (does (f from) (Event.give_part 0 l)).answer) (reply_of (takes_from 0 l from to f).answer) _ _ _
      (λ x. record { same = λ k. refl; none = λ b e. never b e })
      (λ y. let z = was-bad (takes_from 0 l from to f).answer y in record {
        same = λ k. split k to (λ q. rw (q, upd_same f to (takes_from 0 l from to f).station) (stays (Event.take_part 0 (part_of 0 l (f from).map)) (f to) z)) (λ q. upd_other f to k (takes_from 0 l from to f).station q);
        none = λ b e. never b (sym y ∙ e);
      })
      (λ b c x y.
      let t = take_part-passed (f to).node (lent (f to)) 0 (length (part_of 0 l (f from).map)) (clean_from (f to).node.chunks 0 (part_of 0 l (f from).map)) (took (Event.take_part 0 (part_of 0 l (f from).map)) (f to) (was-good (takes_from 0 l from to f).answer c y)).none in
      absurd (never-there (at_zero (f to).node.transfer t.0.from t.1.here)))
    where
      at_zero : (t : Option ℕ) → in_hand t ≡ true → 0 ≡ taken t → t ≡ Some 0
      at_zero None e q = clash e refl
      at_zero (Some bytes) e q = ap Some (sym q)

  -- ---- as it is seen
  module _ (v v' : ℕ) (a g a' g' : m.Map) (t t' : m.Transfer) (h : Holds (f to) v a g t) (h' : Holds (f from) v' a' g' t') where
    -- the receiver is what it was, if not for what was added to staging; or it has taken all of the source's map
    pub data Sent (ls : List ℕ) (d : Delivered) : Type 0 where
      part : Holds (d.nodes to) v a g t → ((b : Option ℕ) → d.reply ≡ Reply.Good b → total ls ≡ 8192 → ⊥) → Sent ls d
      whole : m.opened t ≡ true → Holds (d.nodes to) v a (m.merge g a') m.Transfer.Got → Sent ls d

    begun : (f to).node.transfer ≡ Some 0 → m.Transfer.Begun ≡ t
    begun e = ap transfer_of (sym e) ∙ h.tr

    some : (f to).node.transfer ≡ Some 0 → (ls : List ℕ) (d : Delivered) → Came 0 ls d → Sent ls d
    unfolding transferred
    some e ls d c = by_cases (leb map_bytes c.bytes) full less
      where
        full : leb map_bytes c.bytes ≡ true → Sent ls d
        full q =
            let l = leb-true map_bytes c.bytes q in
            let i : c.bytes ≡ 8192 = (let u = c.partly.most in omega arith) in
            let z : (d.nodes to).staging ≡ or_in (f to).staging zs = c.partly.staging ∙ (ap (λ (x : ℕ). or_from 0 x (f to).staging zs) i ∙ parts_whole (f to).staging zs (sound-fact (f to).node.chunks (f to).staging (sane to).good.staging).len len-zs) in
            whole (ap m.opened (sym (begun e))) (record {
              ver = ap (λ (x : Node). x.version) c.partly.node ∙ h.ver;
              map = λ n k u. subst (λ (xs : List ℕ). dirty xs n k ≡ 1) (sym c.partly.map) (h.map n k u);
              stg = λ n k u. subst (λ (xs : List ℕ). dirty xs n k ≡ 1) (sym z)
                  (let b = from_either (f to).staging zs n k (sound-fact (f to).node.chunks (f to).staging (sane to).good.staging).len len-zs in
                  by_cases (g n k) (λ y. b.0 (h.stg n k y)) (λ y. b.1 (h'.map n k (rw y at u))));
              tr = ap (λ (x : Node). transfer_of x.transfer) c.partly.node ∙ rw q refl;
            })

        less : leb map_bytes c.bytes ≡ false → Sent ls d
        less q = part (record {
          ver = ap (λ (x : Node). x.version) c.partly.node ∙ h.ver;
          map = λ n k u. subst (λ (xs : List ℕ). dirty xs n k ≡ 1) (sym c.partly.map) (h.map n k u);
          stg = λ n k u. c.partly.kept n k (h.stg n k u);
          tr = ap (λ (x : Node). transfer_of x.transfer) c.partly.node ∙ (ap (λ (x : Bool). pick x m.Transfer.Got m.Transfer.Begun) q ∙ begun e);
        }) (λ b r w. let y = leb-false map_bytes c.bytes q in let z = c.all b r in omega arith)

    -- any parts
    pub sent : (ls : List ℕ) → ((k : ℕ) → k ≢ to → (send ls 0 from to f).nodes k ≡ f k) × Sent ls (send ls 0 from to f)
    sent ls = go (f to).node.transfer refl
      where
        nothing : ((f to).node.transfer ≡ Some 0 → ⊥) → ((k : ℕ) → k ≢ to → (send ls 0 from to f).nodes k ≡ f k) × Sent ls (send ls 0 from to f)
        nothing n = let u = untouched n ls in ((λ k q. u.same k), part (subst (λ (x : Station). Holds x v a g t) (sym (u.same to)) h) (λ b r w. let z = u.none b r in omega arith))

        go : (x : Option ℕ) → (f to).node.transfer ≡ x → ((k : ℕ) → k ≢ to → (send ls 0 from to f).nodes k ≡ f k) × Sent ls (send ls 0 from to f)
        go None e = nothing (λ q. let z : None ≡ Some 0 = sym e ∙ q in absurd (let y : ◌≡◌ {A = ℕ} 0 1 = cc in let w : ⊥ = omega arith in w))
        go (Some zero) e = let c = parts ls 0 f (begins e) in (c.partly.others, some e ls (send ls 0 from to f) c)
        go (Some (suc b)) e = nothing (λ q. let z : Some (suc b) ≡ Some 0 = sym e ∙ q in absurd (let y : suc b ≡ 0 = cc in let w : ⊥ = omega arith in w))
