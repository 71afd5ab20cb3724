-- What is done to a node's maps and kept chunks, in the words of the statements.
use Rattle.std.specs.Prelude.{Option, Some, None}
use mathlib.Core.Path.{◌≡◌, refl, sym, ap, ◌∙◌}
use mathlib.Core.Logic.{◌≢◌}
use mathlib.Core.Bool.{Bool, true, false, ◌&&◌}
use mathlib.Core.List.{List, [], ◌∷◌, ◌++◌}
use Prim.Native.Nat.{ℕ, zero, suc, ◌+◌, ◌-◌, ◌/◌, ◌≤◌, ◌<◌, min, max}
use native.Mathlib.Decide.{ℕ_discrete, dec_lt}
use native.Mathlib.Omega.{arith}
use lib.Dec.{ltb}
use lib.ListN.{length, get_or, drop, replicate, length-drop, length-append}
use lib.Seq.{get_or-drop, drop-drop}
use borrow.Author.Tests.{ltb-true, ltb-false, leb-true}
use Rattle.laws_words.specs.Words.{pick, one}
use Rattle.laws_words.specs.Tests.{by_cases, clash, and_left, and_right, and_both}
use Rattle.rules_base.specs.Sets.{has, with}
use Rattle.rules_base.proofs.Sets.{has-below, has-with-same, has-with-other, has-none, has-without-same, has-without-other, still}
use Rattle.rules_base.specs.Chunk.{there, dirty, cleared, marked_for}
use Rattle.rules_base.proofs.Chunk.{dirty-lt}
use Rattle.rules_base.specs.Map.{sound, clean_from, zeroed, rows_kept, zero_row}
use Rattle.rules_base.proofs.Chunks.{same, same-yes, same-no, hit-yes, hit-no, dirty-marked_for, dirty-cleared}
use Rattle.rules_base.proofs.Sound.{Sound, sound-fact, sound-cleared, sound-marked_for, sound-kept, sound-zero_row}
use Rattle.rules_base.proofs.Rows.{zeroed-all}
use Rattle.rules_base.specs.Fill.{row_filled}
use Rattle.rules_base.proofs.Fills.{length-filled, filled-byte, filled-own, filled-other, filled-past}
use Rattle.rules_base.specs.Parts.{or_part}
use Rattle.rules_base.proofs.Joined.{part-in, part-before, part-past, sound-part}
use Rattle.rules_node.specs.declared.State.{State}
use Rattle.rules_node.specs.declared.OnMap.{OnMap}
use Rattle.rules_node.specs.declared.Node.{Node}
use Rattle.rules_node.specs.States.{is_no_io, in_hand}
use Rattle.rules_node.specs.StateRules.{standing}
use Rattle.rules_node.specs.Carry.{map_after}
use Rattle.rules_node.specs.Events.{Event}
use Rattle.rules_node.specs.Held.{Held}
use Rattle.laws_node.proofs.Tables.{gives, given}
use Rattle.laws_node.proofs.Valid.{Valid, at-node}
use Rattle.laws_node.proofs.Bytes.{past_end, kept-in, kept_out, zeroed-in, zeroed-out}
use Rattle.laws_node.proofs.Sound.{sound-map}
use Rattle.laws_node.proofs.Rows.{dirty-nowhere, kept_in, kept-yes, kept-no, due, last_ios-chunk}
use Rattle.theorem_node_exact.specs.Words.{In, Zeroed, Rows, Marked, Cleared, Filled, PartOred, AmongKept, LastIos, last_sixteen}
use Rattle.theorem_node_exact.proofs.Rules.{is-no-io, few-held, at_place, kept-lt}
use Rattle.theorem_node_exact.proofs.Known.{Known}

module _ (e : Event) (w : Held) (d : Known e w) where
  pub map_is : Sound w.at.node.chunks w.map
  map_is = sound-fact _ _ (and_left (sound w.at.node.chunks w.map) _ d.sure)

  pub staging-is : Sound w.at.node.chunks w.staging
  staging-is = sound-fact _ _ (and_right (sound w.at.node.chunks w.map) _ d.sure)

-- ---- what becomes of a map

-- zeroed whole
pub all-zero : (xs : List ℕ) → length xs ≡ 8192 → Zeroed (zeroed xs)
all-zero xs e = zeroed-all xs ∙ ap (λ (n : ℕ). replicate n 0) e

-- a fact of every bit: where there is one, and where both sides are 0
pub each-bit : (xs : List ℕ) (m c x : ℕ) → (m < 16 → c < 4096 → dirty xs m c ≡ x) → (there m c ≡ false → x ≡ 0) → dirty xs m c ≡ x
each-bit xs m c x f g =
    by_cases (there m c)
    (λ t. f (ltb-true m 16 (and_left (ltb m 16) (ltb c 4096) t)) (ltb-true c 4096 (and_right (ltb m 16) (ltb c 4096) t)))
    (λ t. dirty-nowhere xs m c t ∙ sym (g t))

not-true : (b : Bool) → ¬ (b ≡ true) → b ≡ false
not-true true d = absurd (d refl)
not-true false d = refl

module _ (n : ℕ) (xs : List ℕ) (s : Sound n xs) where
  -- the rows of a set
  pub set-rows : (set : ℕ) → Rows (In set) xs (rows_kept set xs)
  set-rows set =
      record {
        size = (sound-kept n set xs s).len;
        those = λ k h. kept-in n set xs s k h;
        others = λ k h. kept_out n set xs s k (not-true (has set (k / 512)) h);
      }

  -- one row alone
  pub own_row : (id : ℕ) → Rows (λ m. m ≡ id) xs (rows_kept (with 0 id) xs)
  own_row id =
      record {
        size = (sound-kept n (with 0 id) xs s).len;
        those = own;
        others = λ k d. kept_out n (with 0 id) xs s k (has-with-other 0 id (k / 512) d ∙ has-none (k / 512));
      }
    where
      own : (k : ℕ) → k / 512 ≡ id → get_or (rows_kept (with 0 id) xs) k 0 ≡ get_or xs k 0
      own k q = elim (dec_lt id 16) [
        | yes h ↦ kept-in n (with 0 id) xs s k (ap (has (with 0 id)) q ∙ has-with-same 0 id h)
        | no h ↦ past_end (rows_kept (with 0 id) xs) k (sound-kept n (with 0 id) xs s).len (omega arith) ∙ sym (past_end xs k s.len (omega arith))
      ]

  -- all rows but one
  pub other-rows : (member : ℕ) → Rows (λ m. m ≢ member) xs (zero_row member xs)
  other-rows member =
      record {
        size = (sound-zero_row n member xs s).len;
        those = λ k d. zeroed-out member xs s.len k d;
        others = λ k d. elim (ℕ_discrete (k / 512) member) [ yes q ↦ zeroed-in member xs s.len k q | no d' ↦ absurd (d d') ];
      }

  pub fills : (member : ℕ) → member < 16 → n ≤ 4096 → Filled member n xs (row_filled member n xs)
  fills member hm f =
      record {
        size = length-filled member n xs ∙ s.len;
        those = λ c l. filled-own xs member n c s.len hm l (omega arith);
        others = λ m c d. each-bit (row_filled member n xs) m c (dirty xs m c) (λ h l. rest m c d h l) (dirty-nowhere xs m c);
        rows = λ k d. filled-byte member n xs k d;
      }
    where
      rest : (m c : ℕ) → ¬ ((m ≡ member) × (c < n)) → m < 16 → c < 4096 → dirty (row_filled member n xs) m c ≡ dirty xs m c
      rest m c d h l = elim (dec_lt c n) [
        | yes b ↦ filled-other xs member n m c s.len hm h l (λ q. d (sym q, b))
        | no g ↦ filled-past xs member n m c s.len hm h l (omega arith)
      ]

  pub marks : (set chunk : ℕ) → chunk < n → n ≤ 4096 → Marked (In set) chunk xs (marked_for xs set chunk)
  marks set chunk l f =
      record {
        size = (sound-marked_for n set chunk xs s l).len;
        those = λ m h. dirty-marked_for xs set chunk m chunk s.len (has-below set m h) (omega arith) (omega arith) ∙ rw (h, same-yes chunk chunk refl) (omega (arith, dirty-lt xs m chunk));
        others = λ m c d. each-bit (marked_for xs set chunk) m c (dirty xs m c) (λ hm hc. dirty-marked_for xs set chunk m c s.len hm (omega arith) hc ∙ rest m c d) (dirty-nowhere xs m c);
      }
    where
      rest : (m c : ℕ) → ¬ (In set m × (c ≡ chunk)) → max (dirty xs m c) (min (one (has set m)) (same chunk c)) ≡ dirty xs m c
      rest m c d =
          by_cases (has set m)
          (λ h. rw (same-no chunk c (λ q. d (h, sym q))) (omega arith))
          (λ h. rw h (omega arith))

  pub clears : (member chunk : ℕ) → Cleared member chunk xs (cleared xs member chunk)
  clears member chunk =
      record {
        size = (sound-cleared n xs member chunk s).len;
        that = each-bit (cleared xs member chunk) member chunk 0 (λ hm hc. dirty-cleared xs member chunk member chunk s.len hm hc hm hc ∙ rw (hit-yes member chunk member chunk refl refl) (omega arith)) (λ t. refl);
        others = λ m c d. by_cases (there member chunk) (λ t. apart m c d t) (λ t. nothing m c t);
      }
    where
      apart : (m c : ℕ) → ¬ ((m ≡ member) × (c ≡ chunk)) → there member chunk ≡ true → dirty (cleared xs member chunk) m c ≡ dirty xs m c
      apart m c d t =
          each-bit (cleared xs member chunk) m c (dirty xs m c)
          (λ hm hc. dirty-cleared xs member chunk m c s.len (ltb-true member 16 (and_left (ltb member 16) (ltb chunk 4096) t)) (ltb-true chunk 4096 (and_right (ltb member 16) (ltb chunk 4096) t)) hm hc ∙ rw (hit-no member chunk m c (λ p q. d (sym p, sym q))) (omega (arith, dirty-lt xs m c)))
          (dirty-nowhere xs m c)

      nothing : (m c : ℕ) → there member chunk ≡ false → dirty (cleared xs member chunk) m c ≡ dirty xs m c
      nothing m c t = unfold cleared in rw t refl

  pub part-ors : (offset : ℕ) (part : List ℕ) → clean_from n offset part ≡ true → offset + length part ≤ 8192 → PartOred offset part xs (or_part offset part xs)
  part-ors offset part c h =
      record {
        size = (sound-part n offset part xs c s).len;
        those = λ k a b. part-in offset part xs k (omega (arith, s.len)) a b;
        others = λ k d. elim (dec_lt k 8192) [
          | yes l ↦ elim (dec_lt k offset) [
            | yes p ↦ part-before offset part xs k (omega (arith, s.len)) p
            | no g ↦ elim (dec_lt k (offset + length part)) [
              | yes q ↦ absurd (d (omega arith, q))
              | no r ↦ part-past offset part xs k (omega (arith, s.len)) (omega arith)
            ]
          ]
          | no l ↦ past_end (or_part offset part xs) k (sound-part n offset part xs c s).len (omega arith) ∙ sym (past_end xs k s.len (omega arith))
        ];
      }

-- ---- the map

-- LAST_IO_TO_MAP
module _ (n : Node) (chosen : ℕ) (ys xs : List ℕ) (v : Valid n) (s : Sound n.chunks xs) (r : Sound n.chunks ys) where
  unfoldable pub marked : List ℕ
  marked = map_after (OnMap.LastIos chosen) n ys xs

  has-place : (c : ℕ) → AmongKept n c → kept_in n 16 0 c ≡ 1
  has-place c (i, l, e) = kept-yes n 16 0 c (16 - n.held + i) (omega arith) (omega (arith, few-held n v)) (at_place n (few-held n v) i l) (sym (get_or-drop (16 - n.held) n.kept i 0) ∙ e)

  no_place : (c : ℕ) → ¬ (AmongKept n c) → kept_in n 16 0 c ≡ 0
  no_place c d =
      kept-no n 16 0 c (λ j a b k e.
      let h : 16 - j ≤ n.held = leb-true (16 - j) n.held k in
      let q : 16 - n.held + (j - (16 - n.held)) ≡ j = omega arith in
      d (j - (16 - n.held), omega (arith, few-held n v), get_or-drop (16 - n.held) n.kept (j - (16 - n.held)) 0 ∙ rw q e))

  bit_is : (m c : ℕ) → m < 16 → c < 4096 → dirty marked m c ≡ max (dirty xs m c) (min (kept_in n 16 0 c) (due n chosen xs m c))
  unfolding marked
  bit_is m c hm hc = last_ios-chunk n chosen ys xs m c v s hm hc

  -- a bit that is not due is as it was
  bit-stays : (m c : ℕ) → (m < 16 → c < 4096 → min (kept_in n 16 0 c) (due n chosen xs m c) ≡ 0) → dirty marked m c ≡ dirty xs m c
  bit-stays m c f = each-bit marked m c (dirty xs m c) (λ hm hc. let z = f hm hc in bit_is m c hm hc ∙ rw z (omega arith)) (dirty-nowhere xs m c)

  pub last-ios : LastIos n chosen xs marked
  unfolding marked
  last-ios =
      record {
        size = (sound-map (OnMap.LastIos chosen) n ys xs v.keeps r s).len;
        never = λ c. bit-stays chosen c (λ hm hc. rw (has-without-same n.members chosen) (omega arith));
        those = λ m c k z i d. bit_is m c (has-below n.members m i) (let l : c < 4096 = omega (arith, kept-lt n v c k, v.few) in l) ∙ rw (has-place c k, z, has-without-other n.members chosen m d, i) (omega (arith, dirty-lt xs m c));
        passed = λ m c z. bit-stays m c (λ hm hc. rw z (omega arith));
        stay = λ m c e. each-bit marked m c 1 (λ hm hc. omega (arith, bit_is m c hm hc, dirty-lt marked m c)) (λ t. sym e ∙ dirty-nowhere xs m c t);
        others = λ m c d. bit-stays m c (λ hm hc. by_cases (has n.members m) (λ h. rw (no_place c (λ k. d (k, h))) (omega arith)) (λ h. rw (not-true _ (λ q. clash (still n.members chosen m q).0 h)) (omega arith)));
      }

-- ---- the kept chunks after a write

drop-front : (i : ℕ) (xs ys : List ℕ) → i ≤ length xs → drop i (xs ++ ys) ≡ drop i xs ++ ys
drop-front zero xs ys h = refl
drop-front (suc i) [] ys h = absurd (let z : ⊥ = omega arith in z)
drop-front (suc i) (x ∷ xs) ys h = drop-front i xs ys (omega arith)

-- the seventeenth pushes the first out
pub one_more : (k : List ℕ) (held c : ℕ) → length k ≡ 16 → held ≤ 16 → drop (16 - pick (ltb held 16) (held + 1) 16) (drop 1 k ++ (c ∷ [])) ≡ last_sixteen (drop (16 - held) k ++ (c ∷ []))
one_more k held c e h = at (ltb held 16) refl
  where
    long : length (drop (16 - held) k ++ (c ∷ [])) ≡ held + 1
    long = length-append (drop (16 - held) k) (c ∷ []) ∙ (rw (length-drop (16 - held) k, e) (omega arith))

    at : (b : Bool) → ltb held 16 ≡ b → drop (16 - pick b (held + 1) 16) (drop 1 k ++ (c ∷ [])) ≡ last_sixteen (drop (16 - held) k ++ (c ∷ []))
    at true q =
        let l : held < 16 = ltb-true held 16 q in
        let a : 1 + (16 - (held + 1)) ≡ 16 - held = omega arith in
        let b : length (drop (16 - held) k ++ (c ∷ [])) - 16 ≡ 0 = omega (arith, long) in
        drop-front (16 - (held + 1)) (drop 1 k) (c ∷ []) (omega (arith, length-drop 1 k)) ∙ rw (drop-drop (16 - (held + 1)) 1 k, a, b)
    at false q =
        let l : 16 ≤ held = ltb-false held 16 q in
        let a : 16 - held ≡ 0 = omega arith in
        let b : length (drop (16 - held) k ++ (c ∷ [])) - 16 ≡ 1 = omega (arith, long) in
        rw (b, a) (sym (drop-front 1 k (c ∷ []) (omega arith)))

-- ---- transfer and kept chunks

-- a transfer is in hand only in NO_IO
in-no-io : (n : Node) → Valid n → in_hand n.transfer ≡ true → n.state ≡ State.NoIo
in-no-io n v h =
    is-no-io n.state (given _ _ (at-node (λ s store create hand own. gives (standing s store create hand own && hand) (is_no_io s)) refl n) (and_both v.stand h))

pub none-else : (n : Node) → Valid n → n.state ≢ State.NoIo → None ≡ n.transfer
none-else n v d = at n.transfer refl
  where
    at : (t : Option ℕ) → n.transfer ≡ t → None ≡ n.transfer
    at None e = sym e
    at (Some bytes) e = absurd (d (in-no-io n v (ap in_hand e)))
