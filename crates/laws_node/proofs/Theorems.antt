-- What holds of every event of a node: a refusal changes nothing; an accepted event keeps the state rules, the table of legal changes, and both maps
-- sound; from a fresh node with sound maps its own state and maps are never refused. Assumes nothing.
use mathlib.Core.Path.{◌≡◌, refl, sym, ap, ◌∙◌, subst}
use mathlib.Core.Bool.{Bool, true, false, not, ◌&&◌}
use mathlib.Core.List.{List, [], ◌∷◌}
use Prim.Native.Nat.{ℕ, ◌≤◌}
use native.Mathlib.Omega.{arith}
use lib.Dec.{eqb}
use lib.ListN.{length}
use borrow.Author.Tests.{eqb-true, eq-eqb, not-false}
use Rattle.laws_words.specs.Words.{pick}
use Rattle.laws_words.specs.Tests.{by_cases, clash}
use Rattle.rules_base.specs.Refusals.{applies, refusal}
use Rattle.rules_base.proofs.Order.{none-applies}
use Rattle.rules_base.specs.Map.{sound}
use Rattle.rules_base.proofs.Sound.{Sound, sound-fact, sound-test}
use Rattle.rules_base.specs.Summary.{summaries_of, agree}
use Rattle.rules_base.proofs.Summaries.{one-summary}
use Rattle.rules_base.specs.declared.Op.{Op}
use Rattle.rules_node.specs.declared.OnStaging.{OnStaging}
use Rattle.rules_node.specs.declared.Answer.{Answer}
use Rattle.rules_node.specs.declared.Node.{Node}
use Rattle.rules_node.specs.declared.Turn.{Turn}
use Rattle.rules_node.specs.Change.{fresh, stored_version, kept_chunk}
use Rattle.rules_node.specs.StateRules.{valid, kept_ok}
use Rattle.rules_node.specs.Turns.{refused, settled}
use Rattle.laws_node.proofs.Valid.{Valid, valid-facts, valid-of}
use Rattle.laws_node.proofs.Passed.{Keeps}
use Rattle.rules_node.specs.Carry.{map_after, staging_after, taken_in}
use Rattle.laws_node.proofs.Sound.{fits, fits_staging, sound-map, sound-staging, sound-taken}
use Rattle.rules_node.specs.Register as Register
use Rattle.rules_node.specs.Join as Join
use Rattle.rules_node.specs.Enable as Enable
use Rattle.rules_node.specs.Write as Write
use Rattle.rules_node.specs.Info as Info
use Rattle.rules_node.specs.Fill as Fill
use Rattle.rules_node.specs.Serve as Serve
use Rattle.rules_node.specs.Hand as Hand
use Rattle.laws_node.proofs.RegisterKeeps as register
use Rattle.laws_node.proofs.JoinsKeeps as joins
use Rattle.laws_node.proofs.EnablesKeeps as enable
use Rattle.laws_node.proofs.WritesKeeps as writes
use Rattle.laws_node.proofs.FillsKeeps as fills
use Rattle.laws_node.proofs.ServeKeeps as serve
use Rattle.laws_node.proofs.HandKeeps as hand
use Rattle.rules_node.specs.Face.{StorageNode}
use Rattle.rules_node.specs.Events.{Event, Part, kind_of, part_in, tests_at, turn_of}
use Rattle.rules_node.specs.Face.{fresh_node, lent_to, turn_at, map_by, staging_with, staging_by, words_by, answers, map_left, staging_left}
use Rattle.rules_node.specs.Held.{Held, next, after}
use Rattle.laws_node.proofs.Lent.{lent-clear}

-- the answer is a refusal
abbrev pub is_refused : Answer → Bool
is_refused (Answer.Refused why) = true
is_refused Answer.Done = false
is_refused (Answer.Version v) = false

-- ---- the law of every event

-- a part that is ORed in is clean by the chunk count
abbrev pub part_fits : ℕ → Part → OnStaging → Bool
part_fits c Part.none e = true
part_fits c (Part.some part) e = fits_staging c e part

-- what is known of an event e at the node n: its turn is what it does where no test applies, else refused by the first that does; the tests that all have in common; and what
-- an accepted one keeps
pub record Law (e : Event) (n : Node) (lent : ℕ) : Type 0 where
  pub done : Turn
  pub same : turn_of e n lent ≡ settled (refusal (tests_at e n lent)) n done
  pub plain : is_refused done.answer ≡ false
  pub one : applies 1 (tests_at e n lent) ≡ not (valid n)
  pub two : applies 2 (tests_at e n lent) ≡ eqb lent 2
  pub eighteen : applies 18 (tests_at e n lent) ≡ eqb lent 18
  pub keeps : length n.kept ≡ 16 → refusal (tests_at e n lent) ≡ 0 → Keeps (kind_of e) n done.node
  pub fit : refusal (tests_at e n lent) ≡ 0 → fits done.effect.map done.node ≡ true
  pub clean : refusal (tests_at e n lent) ≡ 0 → part_fits n.chunks (part_in e) done.effect.staging ≡ true

pub fits-wipes : (delete : Bool) (n : Node) → fits (Register.wipes delete) n ≡ true
fits-wipes true n = refl
fits-wipes false n = refl

pub fits-leaves : (delete : Bool) (m n : Node) → fits (Join.leaves delete m) n ≡ true
fits-leaves true m n = refl
fits-leaves false m n = refl

pub fits-informs : (op : Op) (member : ℕ) (n : Node) → fits (Info.informs op member) n ≡ true
fits-informs Op.AddCreate member n = refl
fits-informs Op.AddAssemble member n = refl
fits-informs Op.RemoveDelete member n = refl
fits-informs Op.RemoveDisassemble member n = refl

unfoldable pub law : (e : Event) (n : Node) (lent : ℕ) → Law e n lent
unfolding Register.register_create Register.register_add Register.unregister Join.join_create Join.assemble Join.leave Enable.enable1 Enable.enable0 Enable.fault Write.write Write.synced Info.pool_info Serve.map_ready Serve.give_part Hand.take_part Hand.map_done Hand.map_disable Serve.map_get_ver Serve.last_io_to_map Fill.fill Register.register_create_refusal Register.register_add_refusal Register.unregister_refusal Join.join_create_refusal Join.assemble_refusal Join.leave_refusal Enable.enable1_refusal Enable.stop_refusal Write.write_refusal Write.synced_refusal Info.pool_info_refusal Serve.serve_refusal Serve.give_part_refusal Serve.last_io_refusal Hand.hand_refusal Hand.take_part_refusal Hand.map_done_refusal Write.written stored_version kept_chunk Fill.fill_refusal
law Event.register_create n lent = record { done = _; same = refl; plain = refl; one = refl; two = refl; eighteen = refl; keeps = λ h e. register.register_create-keeps n lent h e; fit = λ e. refl; clean = λ e. refl }
law (Event.register_add set version) n lent = record { done = _; same = refl; plain = refl; one = refl; two = refl; eighteen = refl; keeps = λ h e. register.register_add-keeps n lent set version e; fit = λ e. refl; clean = λ e. refl }
law (Event.unregister delete) n lent = record { done = _; same = refl; plain = refl; one = refl; two = refl; eighteen = refl; keeps = λ h e. register.unregister-keeps n lent delete e; fit = λ e. fits-wipes delete _; clean = λ e. refl }
law (Event.join_create set) n lent = record { done = _; same = refl; plain = refl; one = refl; two = refl; eighteen = refl; keeps = λ h e. joins.join_create-keeps n lent set e; fit = λ e. refl; clean = λ e. refl }
law Event.assemble n lent = record { done = _; same = refl; plain = refl; one = refl; two = refl; eighteen = refl; keeps = λ h e. joins.assemble-keeps n lent e; fit = λ e. refl; clean = λ e. refl }
law (Event.leave delete) n lent = record { done = _; same = refl; plain = refl; one = refl; two = refl; eighteen = refl; keeps = λ h e. joins.leave-keeps n lent e; fit = λ e. fits-leaves delete n _; clean = λ e. refl }
law (Event.enable1 version set) n lent = record { done = _; same = refl; plain = refl; one = refl; two = refl; eighteen = refl; keeps = λ h e. enable.enable1-keeps n lent version set e; fit = λ e. refl; clean = λ e. refl }
law Event.enable0 n lent = record { done = _; same = refl; plain = refl; one = refl; two = refl; eighteen = refl; keeps = λ h e. enable.enable0-keeps n lent e; fit = λ e. refl; clean = λ e. refl }
law Event.fault n lent = record { done = _; same = refl; plain = refl; one = refl; two = refl; eighteen = refl; keeps = λ h e. enable.fault-keeps n lent e; fit = λ e. refl; clean = λ e. refl }
law (Event.write chunk set version) n lent = record { done = _; same = refl; plain = refl; one = refl; two = refl; eighteen = refl; keeps = λ h e. writes.write_keeps n lent chunk set version h e; fit = λ e. writes.write-chunk n lent chunk set version e; clean = λ e. refl }
law (Event.synced member chunk) n lent = record { done = _; same = refl; plain = refl; one = refl; two = refl; eighteen = refl; keeps = λ h e. writes.synced-keeps n lent member chunk e; fit = λ e. refl; clean = λ e. refl }
law (Event.pool_info op member) n lent = record { done = _; same = refl; plain = refl; one = refl; two = refl; eighteen = refl; keeps = λ h e. writes.pool_info-keeps n lent op member e; fit = λ e. fits-informs op member _; clean = λ e. refl }
law (Event.map_ready keep) n lent = record { done = _; same = refl; plain = refl; one = refl; two = refl; eighteen = refl; keeps = λ h e. serve.map_ready-keeps n lent e; fit = λ e. refl; clean = λ e. refl }
law (Event.give_part offset size) n lent = record { done = _; same = refl; plain = refl; one = refl; two = refl; eighteen = refl; keeps = λ h e. serve.give_part-keeps n lent offset size e; fit = λ e. refl; clean = λ e. refl }
law (Event.take_part offset part) n lent = record { done = _; same = refl; plain = refl; one = refl; two = refl; eighteen = refl; keeps = λ h e. hand.take_part-keeps n lent offset (length part) _ e; fit = λ e. refl; clean = λ e. (hand.take_part-passed n lent offset (length part) _ e).1.pure }
law (Event.map_done enabling version set) n lent = record { done = _; same = refl; plain = refl; one = refl; two = refl; eighteen = refl; keeps = λ h e. hand.map_done-keeps n lent enabling version set e; fit = λ e. refl; clean = λ e. refl }
law Event.map_disable n lent = record { done = _; same = refl; plain = refl; one = refl; two = refl; eighteen = refl; keeps = λ h e. hand.map_disable-keeps n lent e; fit = λ e. refl; clean = λ e. refl }
law Event.map_get_ver n lent = record { done = _; same = refl; plain = refl; one = refl; two = refl; eighteen = refl; keeps = λ h e. serve.map_get_ver-keeps n lent e; fit = λ e. refl; clean = λ e. refl }
law (Event.last_io_to_map chosen) n lent = record { done = _; same = refl; plain = refl; one = refl; two = refl; eighteen = refl; keeps = λ h e. serve.last_io-keeps n lent chosen e; fit = λ e. (serve.last_io-passed n lent chosen e).rules.keeps; clean = λ e. refl }
law (Event.fill member version) n lent = record { done = _; same = refl; plain = refl; one = refl; two = refl; eighteen = refl; keeps = λ h e. fills.fill-keeps n lent member version e; fit = λ e. refl; clean = λ e. refl }

-- where none applies, the node keeps its rules and the lent maps do not refuse
pub law-rules : (e : Event) (n : Node) (lent : ℕ) → refusal (tests_at e n lent) ≡ 0 → Valid n
law-rules e n lent z = valid-facts n (not-false (valid n) (sym (law e n lent).one ∙ none-applies (tests_at e n lent) z 1 refl))

-- lent maps that do not refuse are sound, and the summaries agree
pub lent-good : (b a : Bool) → eqb (pick {A = ℕ} (not b) 2 (pick (not a) 18 0)) 2 ≡ false → eqb (pick {A = ℕ} (not b) 2 (pick (not a) 18 0)) 18 ≡ false → (b ≡ true) × (a ≡ true)
lent-good true true e f = (refl, refl)
lent-good true false e f = clash refl f
lent-good false a e f = clash refl e

pub law-sure : (e : Event) (s : StorageNode) (xs ys : List ℕ) → refusal (tests_at e s.node (lent_to s xs ys)) ≡ 0 → ((sound s.node.chunks xs && sound s.node.chunks ys) ≡ true) × (agree s.summaries xs ≡ true)
law-sure e s xs ys z =
    let h = law e s.node (lent_to s xs ys) in
    let ts = tests_at e s.node (lent_to s xs ys) in
    lent-good (sound s.node.chunks xs && sound s.node.chunks ys) (agree s.summaries xs) (sym h.two ∙ none-applies ts z 2 refl) (sym h.eighteen ∙ none-applies ts z 18 refl)

-- the refusal of an event at a node with its maps, 0 for none
abbrev why_not : Event → StorageNode → List ℕ → List ℕ → ℕ
why_not e s xs ys = refusal (tests_at e s.node (lent_to s xs ys))

-- ---- a turn is refused, or done

settled-done : (why : ℕ) (n : Node) (t : Turn) → eqb why 0 ≡ true → settled why n t ≡ t
unfolding settled
settled-done why n t e = rw e

settled-refused : (why : ℕ) (n : Node) (t : Turn) → eqb why 0 ≡ false → settled why n t ≡ refused why n
unfolding settled
settled-refused why n t e = rw e

accepted-at : (b : Bool) (why : ℕ) (n : Node) (t : Turn) → is_refused (pick b t (refused why n)).answer ≡ false → b ≡ true
accepted-at true why n t e = refl
accepted-at false why n t e = clash refl e

-- an answer that is no refusal was given where none applied
accepted : (why : ℕ) (n : Node) (t : Turn) → is_refused (settled why n t).answer ≡ false → eqb why 0 ≡ true
unfolding settled
accepted why n t e = accepted-at (eqb why 0) why n t e

refused-at : (b : Bool) (why k : ℕ) (n : Node) (t : Turn) → is_refused t.answer ≡ false → (pick b t (refused why n)).answer ≡ Answer.Refused k → (pick b t (refused why n) ≡ refused k n) × (why ≡ k)
refused-at true why k n t p e = clash (ap is_refused e) p
refused-at false why k n t p e = let q : why ≡ k = cc e in (ap (λ (w : ℕ). refused w n) q, q)

-- a refusal's number is that of the refusal which applied
refused-by : (why k : ℕ) (n : Node) (t : Turn) → is_refused t.answer ≡ false → (settled why n t).answer ≡ Answer.Refused k → (settled why n t ≡ refused k n) × (why ≡ k)
unfolding settled
refused-by why k n t p e = refused-at (eqb why 0) why k n t p e

-- ---- a refusal changes nothing

-- state, map and staging are as they were
pub record Unchanged (e : Event) (s : StorageNode) (xs ys : List ℕ) : Type 0 where
  pub state : (answers e s xs ys).node ≡ s
  pub map : map_left e s xs ys ≡ xs
  pub staging : staging_left e s xs ys ≡ ys

keeps-part : (z : Part) (ys : List ℕ) → staging_with z OnStaging.Keep ys ≡ ys
unfolding taken_in
keeps-part Part.none ys = refl
keeps-part (Part.some part) ys = refl

-- so do summaries that agree, or that the maps were refused with
pub words-stay : (s : StorageNode) (xs ys : List ℕ) → pick (eqb (lent_to s xs ys) 0) (summaries_of xs) s.summaries ≡ s.summaries
words-stay s xs ys =
    by_cases (eqb (lent_to s xs ys) 0)
    (λ e. rw e (sym (one-summary.own s.summaries xs (lent-clear s.node.chunks s.summaries xs ys (lent_to s xs ys) refl (eqb-true (lent_to s xs ys) 0 e)).agrees)))
    (λ e. rw e)

unchanged : (e : Event) (s : StorageNode) (xs ys : List ℕ) (why : ℕ) → turn_at e s xs ys ≡ refused why s.node → Unchanged e s xs ys
unfolding map_by staging_by words_by map_after staging_after
unchanged e s xs ys why q =
    record {
      state = ap (λ (t : Turn). the-node t) q ∙ ap (λ (ws : List ℕ). with-words ws) (words-stay s xs ys);
      map = ap (λ (t : Turn). map_by t xs ys) q;
      staging = ap (λ (t : Turn). staging_with (part_in e) t.effect.staging (staging_by t xs ys)) q ∙ keeps-part (part_in e) ys;
    }
  where
    the-node : Turn → StorageNode
    the-node t = record { node = t.node; summaries = words_by (lent_to s xs ys) t s.summaries xs ys }

    with-words : List ℕ → StorageNode
    with-words ws = record { node = s.node; summaries = ws }

pub refusal-changes-nothing : (e : Event) (s : StorageNode) (xs ys : List ℕ) (why : ℕ) → (answers e s xs ys).answer ≡ Answer.Refused why → Unchanged e s xs ys
refusal-changes-nothing e s xs ys why r =
    let h = law e s.node (lent_to s xs ys) in
    unchanged e s xs ys why
    (h.same ∙ (refused-by (why_not e s xs ys) why s.node h.done h.plain (ap (λ (t : Turn). t.answer) (sym h.same) ∙ r)).0)

-- ---- an accepted event

-- where no refusal applies it is accepted
pub accepted-by : (e : Event) (s : StorageNode) (xs ys : List ℕ) → refusal (tests_at e s.node (lent_to s xs ys)) ≡ 0 → is_refused (answers e s xs ys).answer ≡ false
accepted-by e s xs ys z =
    let h = law e s.node (lent_to s xs ys) in
    ap (λ (t : Turn). is_refused t.answer) (h.same ∙ settled-done (why_not e s xs ys) s.node h.done (eq-eqb (why_not e s xs ys) 0 z)) ∙ h.plain

-- it is done; the node keeps its rules, the lent maps are sound, and the summaries agree
pub record Accepted (e : Event) (s : StorageNode) (xs ys : List ℕ) : Type 0 where
  pub none : refusal (tests_at e s.node (lent_to s xs ys)) ≡ 0
  pub turn : turn_at e s xs ys ≡ (law e s.node (lent_to s xs ys)).done
  pub rules : Valid s.node
  pub sure : (sound s.node.chunks xs && sound s.node.chunks ys) ≡ true
  pub agrees : agree s.summaries xs ≡ true

pub accepted-done : (e : Event) (s : StorageNode) (xs ys : List ℕ) → is_refused (answers e s xs ys).answer ≡ false → Accepted e s xs ys
accepted-done e s xs ys a =
    let h = law e s.node (lent_to s xs ys) in
    let b = accepted (why_not e s xs ys) s.node h.done (ap (λ (t : Turn). is_refused t.answer) (sym h.same) ∙ a) in
    let z = eqb-true (why_not e s xs ys) 0 b in
    record { none = z; turn = h.same ∙ settled-done (why_not e s xs ys) s.node h.done b; rules = law-rules e s.node _ z; sure = (law-sure e s xs ys z).0; agrees = (law-sure e s xs ys z).1 }

-- the state changes only along the table, and the rules are kept (the sixteen kept places are an array's)
pub accepted-keeps : (e : Event) (s : StorageNode) (xs ys : List ℕ)
    → length s.node.kept ≡ 16
    → is_refused (answers e s xs ys).answer ≡ false
    → Keeps (kind_of e) s.node (answers e s xs ys).node.node
accepted-keeps e s xs ys l a =
    let d = accepted-done e s xs ys a in
    subst (λ (t : Turn). Keeps (kind_of e) s.node t.node) (sym d.turn) ((law e s.node (lent_to s xs ys)).keeps l d.none)

-- ---- rules and sound maps, from fresh on

-- a node that keeps its rules, with sound maps and summaries that agree
pub record Good (s : StorageNode) (xs ys : List ℕ) : Type 0 where
  pub rules : valid s.node ≡ true
  pub size : length s.node.kept ≡ 16
  pub map : sound s.node.chunks xs ≡ true
  pub staging : sound s.node.chunks ys ≡ true
  pub agrees : agree s.summaries xs ≡ true

pub fresh-good : (id chunks : ℕ) (xs ys : List ℕ) → 1 ≤ chunks → chunks ≤ 4096 → sound chunks xs ≡ true → sound chunks ys ≡ true → agree (fresh_node id chunks).summaries xs ≡ true → Good (fresh_node id chunks) xs ys
unfolding fresh kept_ok
fresh-good id chunks xs ys a b m r w =
    record {
      rules = valid-of (fresh id chunks) (record { some = a; few = b; stand = refl; ids = omega arith; top = omega arith; keeps = refl; part = omega arith });
      size = refl;
      map = m;
      staging = r;
      agrees = w;
    }

sound-with : (c : ℕ) (z : Part) (e : OnStaging) (ys : List ℕ) → part_fits c z e ≡ true → Sound c ys → Sound c (staging_with z e ys)
sound-with c Part.none e ys t r = r
sound-with c (Part.some part) e ys t r = sound-taken c e part ys t r

-- sound maps and summaries that agree do not refuse
pub lent-zero : (s : StorageNode) (xs ys : List ℕ) → (sound s.node.chunks xs && sound s.node.chunks ys) ≡ true → agree s.summaries xs ≡ true → lent_to s xs ys ≡ 0
lent-zero s xs ys b a = rw (b, a)

-- and then the summaries that an event leaves are those of the map that it leaves
pub words_left : (e : Event) (s : StorageNode) (xs ys : List ℕ) → lent_to s xs ys ≡ 0 → (answers e s xs ys).node.summaries ≡ summaries_of (map_left e s xs ys)
unfolding words_by
words_left e s xs ys z = rw (eq-eqb (lent_to s xs ys) 0 z)

-- accepted or refused: summaries that agree become those of the map that is left
pub stays-true : (e : Event) (s : StorageNode) (xs ys : List ℕ) → agree s.summaries xs ≡ true → (answers e s xs ys).node.summaries ≡ summaries_of (map_left e s xs ys)
stays-true e s xs ys h =
    let l = law e s.node (lent_to s xs ys) in
    by_cases (eqb (why_not e s xs ys) 0)
    (λ b. let g = law-sure e s xs ys (eqb-true (why_not e s xs ys) 0 b) in words_left e s xs ys (lent-zero s xs ys g.0 g.1))
    (λ b.
    let u = unchanged e s xs ys (why_not e s xs ys) (l.same ∙ settled-refused (why_not e s xs ys) s.node l.done b) in
    ap (λ (r : StorageNode). r.summaries) u.state ∙ (one-summary.own s.summaries xs h ∙ ap summaries_of (sym u.map)))

good-same : {s s' : StorageNode} {xs xs' ys ys' : List ℕ} → s' ≡ s → xs' ≡ xs → ys' ≡ ys → Good s xs ys → Good s' xs' ys'
good-same a b c g = rw (a, b, c) g

pub stays-good : (e : Event) (s : StorageNode) (xs ys : List ℕ) → Good s xs ys → Good (answers e s xs ys).node (map_left e s xs ys) (staging_left e s xs ys)
unfolding map_by staging_by words_by
stays-good e s xs ys g = by_cases (eqb (why_not e s xs ys) 0) yes no
  where
    n : Node
    n = s.node

    h : Law e n (lent_to s xs ys)
    h = law e n (lent_to s xs ys)

    no : eqb (why_not e s xs ys) 0 ≡ false → Good (answers e s xs ys).node (map_left e s xs ys) (staging_left e s xs ys)
    no b = let u = unchanged e s xs ys (why_not e s xs ys) (h.same ∙ settled-refused (why_not e s xs ys) n h.done b) in good-same u.state u.map u.staging g

    yes : eqb (why_not e s xs ys) 0 ≡ true → Good (answers e s xs ys).node (map_left e s xs ys) (staging_left e s xs ys)
    yes b =
        let z = eqb-true (why_not e s xs ys) 0 b in
        let q = sym (h.same ∙ settled-done (why_not e s xs ys) n h.done b) in
        let t = turn_at e s xs ys in
        let k : Keeps (kind_of e) n t.node = subst (λ (t : Turn). Keeps (kind_of e) n t.node) q (h.keeps g.size z) in
        let f : fits t.effect.map t.node ≡ true = subst (λ (t : Turn). fits t.effect.map t.node ≡ true) q (h.fit z) in
        let c = t.node.chunks in
        let sx : Sound c xs = rw k.same-chunks (sound-fact n.chunks xs g.map) in
        let sy : Sound c ys = rw k.same-chunks (sound-fact n.chunks ys g.staging) in
        let sz : part_fits c (part_in e) t.effect.staging ≡ true = rw k.same-chunks (subst (λ (t : Turn). part_fits n.chunks (part_in e) t.effect.staging ≡ true) q (h.clean z)) in
        let m : Sound c (map_left e s xs ys) = sound-map t.effect.map t.node ys xs f sy sx in
        record {
          rules = k.rules;
          size = k.size ∙ g.size;
          map = sound-test c (map_left e s xs ys) m;
          staging = sound-test c (staging_left e s xs ys) (sound-with c (part_in e) t.effect.staging _ sz (sound-staging c t.effect.staging (map_left e s xs ys) ys m sy));
          agrees = ap (λ (ws : List ℕ). agree ws (map_left e s xs ys)) (words_left e s xs ys (lent-zero s xs ys (law-sure e s xs ys z).0 (law-sure e s xs ys z).1)) ∙ one-summary.agrees (map_left e s xs ys);
        }

pub always-good : (es : List Event) (w : Held) → Good w.at w.map w.staging → Good (after es w).at (after es w).map (after es w).staging
always-good [] w g = g
always-good (e ∷ es) w g = always-good es (next e w) (stays-good e w.at w.map w.staging g)
