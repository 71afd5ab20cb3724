-- When the client takes an event, and which number it gives where it does not.
use mathlib.Core.Path.{◌≡◌, refl, sym, ap, ◌∙◌, subst}
use mathlib.Core.Logic.{◌≢◌, ◌⊎◌, inl, inr, ◌↔◌}
use mathlib.Core.Bool.{Bool, true, false, not, ◌&&◌}
use mathlib.Core.List.{List, [], ◌∷◌}
use Prim.Native.Nat.{ℕ, ◌<◌}
use native.Mathlib.Decide.{ℕ_discrete}
use native.Mathlib.Omega.{arith}
use lib.Dec.{eqb}
use borrow.Author.Tests.{eqb-true, eqb-false, eq-eqb, ne_eqb, not-true, not-false}
use Rattle.laws_words.specs.Tests.{clash, by_cases, and_left, and_right, and_both}
use Rattle.rules_base.specs.Limits.{version_limit}
use Rattle.rules_base.specs.Refusals.{Test, applies, refusal}
use Rattle.rules_base.proofs.Order.{first-applies}
use Rattle.rules_base.specs.Sets.{has}
use Rattle.rules_base.specs.Chunk.{dirty}
use Rattle.rules_base.proofs.Chunk.{dirty-lt}
use Rattle.rules_pool.specs.declared.Cause.{Cause}
use Rattle.rules_pool.specs.declared.State.{State}
use Rattle.rules_pool.specs.declared.Session.{Session}
use Rattle.rules_pool.specs.declared.Kind.{Kind}
use Rattle.rules_pool.specs.declared.Pool.{Pool}
use Rattle.rules_pool.specs.declared.Answer.{Answer}
use Rattle.rules_pool.specs.declared.Turn.{Turn}
use Rattle.rules_pool.specs.Breaking.{is_accepted}
use Rattle.rules_pool.specs.Session.{is_normal}
use Rattle.rules_pool.specs.Sessions.{session_at, ids_of}
use Rattle.rules_pool.specs.StateRules.{valid_pool}
use Rattle.laws_client.proofs.Ids.{Long, below}
use Rattle.rules_client.specs.Enables.{enables}
use Rattle.rules_client.specs.Joins.{set_bars}
use Rattle.rules_client.specs.Links.{drops, checks}
use Rattle.rules_client.specs.Writes.{reach_bars, syncs}
use Rattle.rules_client.specs.MapCheck.{tick, tick_refusal, answer_refusal}
use Rattle.rules_client.specs.MapCheck as checking
use Rattle.rules_client.specs.Client.{Client, clean_to, tick_turn, check_turn}
use Rattle.rules_client.specs.Events as pool
use Rattle.rules_client.specs.ClientEvents.{Event, out_of, tests_of}
use Rattle.theorem_client.proofs.Law.{law}
use Rattle.theorem_client.proofs.Shape.{why_not}
use Rattle.theorem_client_exact.specs.Words.{In, Created, Normal, Reconnecting, Removing, SomeNormal, AwaitedPeer, state_of, Accepted, InOrder}
use Rattle.theorem_client_exact.specs.Accepted.{CleanElsewhere, demands, client_demands, All, AcceptedWhen, NumberGiven}
use Rattle.theorem_client_exact.proofs.Clean.{clean-has}
use Rattle.theorem_client_exact.proofs.Demands.{Pairs, pair, first_in, Shaped, accepted-is, is-accepted, accepted-by, number_by}
use Rattle.theorem_client_exact.proofs.Tells.{Tells, Fits, itself, wants, shuns, shuns-off, tells-not, off, tells-or, tells-and, fits_or, fits-then, at_most, below-is, equal_is, free-is, created-is, normal-is, reconnecting-is, cut-is, failed-is, removing-is, one-mode, idle-is, no_run, peer-is, sound-is, some_of, none_of, some-normal, all-normal, some-unused}

-- ---- the tests of the rules, one by one

set-fits : (members set id : ℕ) → Fits (set_bars members set id) ((has set id ≡ true) × (members ≢ 0 → set ≡ members))
unfolding set_bars
set-fits members set id = fits_or (wants (itself (has set id))) (fits-then (record { true-then = λ e. eqb-false members 0 (not-true _ e); then-true = λ d. no_zero d }) (wants (equal_is set members)))
  where
    no_zero : members ≢ 0 → not (eqb members 0) ≡ true
    no_zero d = by_cases (eqb members 0) (λ e. absurd (d (eqb-true members 0 e))) (λ e. ap not e)

enable-tells : (s : Session) → Tells (enables s) ((s.state ≡ State.Created) ⊎ ((s.state ≡ State.Reconnecting) × (s.maintenance ≡ true)))
unfolding enables
enable-tells s = tells-or (created-is s.state) (tells-and (reconnecting-is s.state) (itself s.maintenance))

-- three ways to FAILED, or the awaited peer that is REMOVING
regroup : {a b c d : Type 0} {x : Bool} → Tells x ((a ⊎ (b ⊎ c)) ⊎ d) → Tells x (a ⊎ b ⊎ c ⊎ d)
regroup {a} {b} {c} {d} t = record { true-then = λ e. to (t.true-then e); then-true = λ y. t.then-true (from y) }
  where
    to : (a ⊎ (b ⊎ c)) ⊎ d → a ⊎ b ⊎ c ⊎ d
    to (inl (inl y)) = inl y
    to (inl (inr (inl y))) = inr (inl y)
    to (inl (inr (inr y))) = inr (inr (inl y))
    to (inr y) = inr (inr (inr y))

    from : a ⊎ b ⊎ c ⊎ d → (a ⊎ (b ⊎ c)) ⊎ d
    from (inl y) = inl (inl y)
    from (inr (inl y)) = inl (inr (inl y))
    from (inr (inr (inl y))) = inl (inr (inr y))
    from (inr (inr (inr y))) = inr y

drop-tells : (p : Pool) (id : ℕ) → Tells (drops p.job (state_of p id) id) (Created p id ⊎ Normal p id ⊎ Reconnecting p id ⊎ (Removing p id × AwaitedPeer id p.job))
unfolding drops
drop-tells p id = regroup (tells-or (tells-or (created-is (state_of p id)) (tells-or (normal-is (state_of p id)) (reconnecting-is (state_of p id)))) (tells-and (removing-is (state_of p id)) (peer-is id p.job)))

check-tells : (sync : Bool) (st : State) → Tells (checks sync st) (((st ≡ State.Failed Cause.Link) ⊎ (st ≡ State.Failed Cause.Io)) ⊎ ((st ≡ State.Created) × (sync ≡ false)))
unfolding checks
check-tells sync st = tells-or (failed-is st) (tells-and (created-is st) (off sync))

reach-fits : (p : Pool) (reached : ℕ) → Long p.roster → Fits (reach_bars p.roster reached) (SomeNormal p × ((id : ℕ) → In reached id → Normal p id))
unfolding reach_bars
reach-fits p reached l = fits_or (some-normal p l) (all-normal p reached l)

-- ---- synced

elsewhere : (p : Pool) (xs : List ℕ) (member chunk : ℕ) → Long p.roster → member < 16 → has (clean_to xs chunk 16) member ≡ false → eqb (ids_of (Kind.Reached (clean_to xs chunk 16)) p.roster) 0 ≡ false → CleanElsewhere p xs member chunk
elsewhere p xs member chunk l h own e =
    let s = some_of (Kind.Reached (clean_to xs chunk 16)) p.roster l e in
    let is = and_right (is_normal (session_at p.roster s.who).state) _ s.is in
    record {
      who = s.who;
      other = λ q. clash is (ap (has (clean_to xs chunk 16)) q ∙ own);
      normal = (normal-is (session_at p.roster s.who).state).true-then (and_left _ (has (clean_to xs chunk 16) s.who) s.is);
      clean = zero s.who (not-true _ (sym (clean-has xs chunk s.who s.below) ∙ is));
    }
  where
    zero : (m : ℕ) → eqb (dirty xs m chunk) 1 ≡ false → dirty xs m chunk ≡ 0
    zero m q = let d = eqb-false (dirty xs m chunk) 1 q in omega (arith, dirty-lt xs m chunk, d)

normal-below : (p : Pool) (id : ℕ) → Long p.roster → is_normal (state_of p id) ≡ true → id < 16
normal-below p id l e = below (λ s. is_normal s.state) p.roster id l refl e

someone : (p : Pool) (xs : List ℕ) (member chunk : ℕ) → Long p.roster → CleanElsewhere p xs member chunk → eqb (ids_of (Kind.Reached (clean_to xs chunk 16)) p.roster) 0 ≡ false
someone p xs member chunk l w = by_cases (eqb (ids_of (Kind.Reached (clean_to xs chunk 16)) p.roster) 0)
    (λ z. absurd (none_of (Kind.Reached (clean_to xs chunk 16)) p.roster l z (record { who = w.who; below = b; is = and_both (ap is_normal w.normal) cleans })))
    (λ z. z)
  where
    b : w.who < 16
    b = normal-below p w.who l (ap is_normal w.normal)

    cleans : has (clean_to xs chunk 16) w.who ≡ true
    cleans = clean-has xs chunk w.who b ∙ ap (λ (n : ℕ). not (eqb n 1)) w.clean

sync-fits : (p : Pool) (xs : List ℕ) (member chunk : ℕ) → Long p.roster
    → Fits (not (syncs p.roster member (clean_to xs chunk 16))) (Normal p member × (dirty xs member chunk ≡ 1) × CleanElsewhere p xs member chunk)
unfolding syncs
sync-fits p xs member chunk l = wants (record { true-then = to; then-true = from })
  where
    to : (is_normal (state_of p member) && (not (has (clean_to xs chunk 16) member) && not (eqb (ids_of (Kind.Reached (clean_to xs chunk 16)) p.roster) 0))) ≡ true
        → Normal p member × (dirty xs member chunk ≡ 1) × CleanElsewhere p xs member chunk
    to e =
        let n = and_left (is_normal (state_of p member)) _ e in
        let r = and_right (is_normal (state_of p member)) _ e in
        let h = normal-below p member l n in
        let o : has (clean_to xs chunk 16) member ≡ false = not-true _ (and_left (not (has (clean_to xs chunk 16) member)) _ r) in (
          (normal-is (state_of p member)).true-then n,
          eqb-true (dirty xs member chunk) 1 (not-false _ (sym (clean-has xs chunk member h) ∙ o)),
          elsewhere p xs member chunk l h o (not-true _ (and_right (not (has (clean_to xs chunk 16) member)) _ r)),
        )

    from : Normal p member × (dirty xs member chunk ≡ 1) × CleanElsewhere p xs member chunk
        → (is_normal (state_of p member) && (not (has (clean_to xs chunk 16) member) && not (eqb (ids_of (Kind.Reached (clean_to xs chunk 16)) p.roster) 0))) ≡ true
    from (n, d, w) =
        let o : has (clean_to xs chunk 16) member ≡ false = clean-has xs chunk member (normal-below p member l (ap is_normal n)) ∙ ap (λ (k : ℕ). not (eqb k 1)) d in
        and_both (ap is_normal n) (and_both (ap not o) (ap not (someone p xs member chunk l w)))

-- ---- an event's tests and its demands

-- without the first, the state rules
abbrev rest : List Test → List Test
rest [] = []
rest (t ∷ ts) = ts

infixr 2 ◌&◌
◌&◌ : {A B : Type 0} → A → B → A × B
a & b = (a, b)

pairs : (e : pool.Event) (p : Pool) → Long p.roster → Pairs (rest (pool.tests_of e p)) (demands e p)
pairs (pool.Event.join_create id) p l =
    pair 3 refl (at_most 15 id)
    & pair 6 refl (wants (idle-is p.job))
    & pair 8 refl (wants (free-is (state_of p id)))
    & pair 17 refl (fits-then (off p.roster.sync) (shuns-off p.roster.past.written))
    & pair 10 refl (shuns (itself (has p.roster.members id)))
    & tt
pairs (pool.Event.join_assemble id set version) p l =
    pair 3 refl (fits_or (at_most 15 id) (at_most 65535 set))
    & pair 5 refl (shuns-off p.roster.sync)
    & pair 6 refl (wants (idle-is p.job))
    & pair 8 refl (wants (free-is (state_of p id)))
    & pair 10 refl (set-fits p.roster.members set id)
    & pair 14 refl (at_most version_limit version)
    & tt
pairs (pool.Event.enable id) p l =
    pair 3 refl (at_most 15 id)
    & pair 5 refl (shuns-off p.roster.sync)
    & pair 6 refl (wants (idle-is p.job))
    & pair 7 refl (shuns (free-is (state_of p id)))
    & pair 9 refl (wants (enable-tells (session_at p.roster id)))
    & pair 17 refl (fits-then (created-is (state_of p id)) (fits_or (shuns-off p.roster.past.written) (shuns-off p.roster.past.assembled)))
    & pair 14 refl (fits-then (created-is (state_of p id)) (at_most version_limit p.roster.version))
    & tt
pairs (pool.Event.maintenance id) p l =
    pair 3 refl (at_most 15 id)
    & pair 5 refl (shuns-off p.roster.sync)
    & pair 6 refl (wants (idle-is p.job))
    & pair 7 refl (shuns (free-is (state_of p id)))
    & pair 9 refl (wants (normal-is (state_of p id)))
    & tt
pairs (pool.Event.link_down id) p l = pair 3 refl (at_most 15 id) & pair 7 refl (shuns (free-is (state_of p id))) & pair 9 refl (wants (drop-tells p id)) & tt
pairs (pool.Event.store_check id) p l =
    pair 3 refl (at_most 15 id)
    & pair 6 refl (wants (idle-is p.job))
    & pair 7 refl (shuns (free-is (state_of p id)))
    & pair 9 refl (wants (check-tells p.roster.sync (state_of p id)))
    & tt
pairs (pool.Event.rejoin id) p l =
    pair 3 refl (at_most 15 id)
    & pair 6 refl (wants (idle-is p.job))
    & pair 7 refl (shuns (free-is (state_of p id)))
    & pair 9 refl (wants (cut-is (state_of p id)))
    & tt
pairs pool.Event.try_run p l = pair 5 refl (shuns-off p.roster.sync) & pair 6 refl (wants (idle-is p.job)) & tt
pairs (pool.Event.remove xs id mode) p l =
    pair 2 refl (wants (sound-is p.chunks xs))
    & pair 3 refl (at_most 15 id)
    & pair 6 refl (wants (idle-is p.job))
    & pair 7 refl (shuns (free-is (state_of p id)))
    & pair 9 refl (one-mode (state_of p id) mode)
    & tt
pairs (pool.Event.write xs chunk reached) p l =
    pair 2 refl (wants (sound-is p.chunks xs))
    & pair 3 refl (at_most 65535 reached)
    & pair 4 refl (wants (below-is chunk p.chunks))
    & pair 5 refl (shuns-off p.roster.sync)
    & pair 6 refl (no_run p.job)
    & pair 11 refl (reach-fits p reached l)
    & tt
pairs (pool.Event.answer xs number a) p l =
    pair 2 refl (wants (sound-is p.chunks xs))
    & pair 13 refl (wants (tells-and (tells-not (idle-is p.job)) (equal_is number p.number)))
    & tt
pairs (pool.Event.extend xs) p l =
    pair 2 refl (wants (sound-is p.chunks xs))
    & pair 5 refl (shuns-off p.roster.sync)
    & pair 6 refl (wants (idle-is p.job))
    & pair 11 refl (some-normal p l)
    & pair 19 refl (some-unused p l)
    & tt
pairs (pool.Event.synced xs member chunk) p l =
    pair 2 refl (wants (sound-is p.chunks xs))
    & pair 3 refl (at_most 15 member)
    & pair 4 refl (wants (below-is chunk p.chunks))
    & pair 5 refl (shuns-off p.roster.sync)
    & pair 6 refl (no_run p.job)
    & pair 7 refl (shuns (free-is (state_of p member)))
    & pair 11 refl (some-normal p l)
    & pair 12 refl (sync-fits p xs member chunk l)
    & tt

-- the first that applies, where the state rules hold
why : (e : pool.Event) (p : Pool) → valid_pool p ≡ true → why_not e p ≡ first_in (rest (pool.tests_of e p))
why (pool.Event.join_create id) p v = rw v refl
why (pool.Event.join_assemble id set version) p v = rw v refl
why (pool.Event.enable id) p v = rw v refl
why (pool.Event.maintenance id) p v = rw v refl
why (pool.Event.link_down id) p v = rw v refl
why (pool.Event.store_check id) p v = rw v refl
why (pool.Event.rejoin id) p v = rw v refl
why pool.Event.try_run p v = rw v refl
why (pool.Event.remove xs id mode) p v = rw v refl
why (pool.Event.write xs chunk reached) p v = rw v refl
why (pool.Event.synced xs member chunk) p v = rw v refl
why (pool.Event.answer xs number a) p v = rw v refl
why (pool.Event.extend xs) p v = rw v refl

shaped : (e : pool.Event) (p : Pool) → Shaped (pool.turn_of e p).answer (why_not e p)
shaped e p =
    record {
      taken = λ z. accepted-is (pool.turn_of e p).answer (ap (λ (t : Turn). is_accepted t.answer) (law e p).same ∙ (rw (eq-eqb (why_not e p) 0 z) ((law e p).plain z)));
      refused = λ d. ap (λ (t : Turn). t.answer) (law e p).same ∙ rw (ne_eqb (why_not e p) 0 d) refl;
    }

-- ---- map check

tick-shaped : (c : Client) (xs : List ℕ) → Shaped (out_of (Event.tick xs) c).answer (refusal (tests_of (Event.tick xs) c))
unfolding tick_turn tick tick_refusal
tick-shaped c xs =
    record {
      taken = λ z. accepted-is _ (rw (eq-eqb (refusal (tests_of (Event.tick xs) c)) 0 z) refl);
      refused = λ d. rw (ne_eqb (refusal (tests_of (Event.tick xs) c)) 0 d) refl;
    }

check-shaped : (c : Client) (xs : List ℕ) (number m : ℕ) (empty : Bool) → Shaped (out_of (Event.check_answer xs number m empty) c).answer (refusal (tests_of (Event.check_answer xs number m empty) c))
unfolding check_turn checking.answer answer_refusal
check-shaped c xs number m empty =
    record {
      taken = λ z. accepted-is _ (rw (eq-eqb (refusal (tests_of (Event.check_answer xs number m empty) c)) 0 z) refl);
      refused = λ d. rw (ne_eqb (refusal (tests_of (Event.check_answer xs number m empty) c)) 0 d) refl;
    }

-- ---- every event

client-pairs : (e : Event) (c : Client) → Long c.pool.roster → Pairs (rest (tests_of e c)) (client_demands e c)
client-pairs (Event.of_pool e) c l = pairs e c.pool l
client-pairs (Event.tick xs) c l =
    pair 2 refl (wants (sound-is c.pool.chunks xs))
    & pair 5 refl (shuns-off c.pool.roster.sync)
    & pair 6 refl (wants (idle-is c.pool.job))
    & tt
client-pairs (Event.check_answer xs number m empty) c l =
    pair 2 refl (wants (sound-is c.pool.chunks xs))
    & pair 3 refl (at_most 15 m)
    & pair 5 refl (shuns-off c.pool.roster.sync)
    & pair 6 refl (wants (idle-is c.pool.job))
    & pair 7 refl (shuns (free-is (state_of c.pool m)))
    & pair 13 refl (wants (tells-and (equal_is number c.check.tick) (itself (has c.check.due m))))
    & tt

client-why : (e : Event) (c : Client) → valid_pool c.pool ≡ true → refusal (tests_of e c) ≡ first_in (rest (tests_of e c))
client-why (Event.of_pool e) c v = why e c.pool v
client-why (Event.tick xs) c v = rw v refl
client-why (Event.check_answer xs number m empty) c v = rw v refl

client-shaped : (e : Event) (c : Client) → Shaped (out_of e c).answer (refusal (tests_of e c))
client-shaped (Event.of_pool e) c = shaped e c.pool
client-shaped (Event.tick xs) c = tick-shaped c xs
client-shaped (Event.check_answer xs number m empty) c = check-shaped c xs number m empty

pub accepted-when : AcceptedWhen
accepted-when e c o = accepted-by (rest (tests_of e c)) (client_demands e c) (client-shaped e c) (client-why e c o.rules) (client-pairs e c o.whole)

pub number-given : NumberGiven
number-given e c o n = number_by (rest (tests_of e c)) (client_demands e c) (client-shaped e c) (client-why e c o.rules) (client-pairs e c o.whole) n

-- ---- of a pool

pub pool-accepted : (e : pool.Event) (p : Pool) → InOrder p → Accepted (pool.turn_of e p).answer ↔ All (demands e p)
pool-accepted e p o = accepted-by (rest (pool.tests_of e p)) (demands e p) (shaped e p) (why e p o.rules) (pairs e p o.whole)

-- where it is accepted, no test of it applies
pub no-refusal : (e : pool.Event) (p : Pool) → Accepted (pool.turn_of e p).answer → why_not e p ≡ 0
no-refusal e p a = at (ℕ_discrete (why_not e p) 0)
  where
    at : Dec (why_not e p ≡ 0) → why_not e p ≡ 0
    at (yes z) = z
    at (no d) = clash (is-accepted a) (ap is_accepted ((shaped e p).refused d))

pub client-refusal : (e : Event) (c : Client) → Accepted (out_of e c).answer → refusal (tests_of e c) ≡ 0
client-refusal e c a = at (ℕ_discrete (refusal (tests_of e c)) 0)
  where
    at : Dec (refusal (tests_of e c) ≡ 0) → refusal (tests_of e c) ≡ 0
    at (yes z) = z
    at (no d) = clash (is-accepted a) (ap is_accepted ((client-shaped e c).refused d))

-- ---- 1, at any client

pub one-test : (e : Event) (c : Client) → applies 1 (tests_of e c) ≡ not (valid_pool c.pool)
one-test (Event.of_pool e) c = (law e c.pool).one
one-test (Event.tick xs) c = refl
one-test (Event.check_answer xs number m empty) c = refl

pub one-first : (e : Event) (c : Client) → applies 1 (tests_of e c) ≡ true → (out_of e c).answer ≡ Answer.Refused 1
one-first e c a =
    let q : refusal (tests_of e c) ≡ 1 = rw a refl in
    (client-shaped e c).refused (λ z. absurd (let y : ⊥ = omega (arith, q, z) in y)) ∙ ap Answer.Refused q

pub one-applies : (e : Event) (c : Client) → (out_of e c).answer ≡ Answer.Refused 1 → applies 1 (tests_of e c) ≡ true
one-applies e c q = at (ℕ_discrete (refusal (tests_of e c)) 0)
  where
    at : Dec (refusal (tests_of e c) ≡ 0) → applies 1 (tests_of e c) ≡ true
    at (yes z) = clash (is-accepted ((client-shaped e c).taken z)) (ap is_accepted q)
    at (no d) =
        let r : refusal (tests_of e c) ≡ 1 = cc ((client-shaped e c).refused d, q) in
        subst (λ (n : ℕ). applies n (tests_of e c) ≡ true) r (first-applies (tests_of e c) d).given
