-- No missed chunk is forgotten.
use mathlib.Core.Path.{◌≡◌, refl, sym, ap, ◌∙◌, subst}
use mathlib.Core.Bool.{true, false}
use mathlib.Core.List.{List}
use Prim.Native.Nat.{ℕ, zero, suc, ◌≤◌}
use lib.ListN.{get_or, replicate}
use Rattle.laws_words.specs.Tests.{clash, and_left, and_right}
use Rattle.rules_base.specs.Limits.{chunk_limit}
use Rattle.rules_base.proofs.Sets.{has-none}
use Rattle.rules_base.specs.Map.{sound}
use Rattle.rules_pool.specs.declared.Session.{Session}
use Rattle.rules_pool.specs.declared.Pool.{Pool}
use Rattle.rules_pool.specs.Session.{free}
use Rattle.rules_node.specs.declared.Node.{Node}
use Rattle.rules_node.specs.Change as change
use Rattle.rules_client.specs.Events.{Event}
use Rattle.theorem_client.proofs.Keeps.{fresh-valid}
use Rattle.model_pool.specs.Model as m
use Rattle.model_pool.proofs.ModelKept as simple
use Rattle.model_pool.specs.Mirror.{ses_of}
use Rattle.model_pool.proofs.Sessions.{ups}
use Rattle.model_pool.specs.Holds.{Holds, Sane}
use Rattle.model_pool.proofs.Fresh.{fresh-sane, fresh_holds}
use Rattle.model_pool.specs.Reflects.{Reflects}
use Rattle.rules_world.specs.Whole.{World, Happening}
use Rattle.rules_world.specs.History.{Starts, History, start, then}
use Rattle.theorem_forgotten.specs.Premises.{Keeps, Kept}
use Rattle.theorem_forgotten.specs.Forgotten.{NeverForgotten}
use Rattle.theorem_forgotten.proofs.Tells.{Tells}
use Rattle.theorem_forgotten.proofs.Own.{owns}
use Rattle.theorem_forgotten.proofs.Arrives.{arrives, breaks-off, another}
use Rattle.theorem_forgotten.proofs.Client.{downs, checks, rejoined, tried, maintains, enables, answers}
use Rattle.theorem_forgotten.proofs.Joins.{creating, assembling}
use Rattle.theorem_forgotten.proofs.Hand.{hand-enabled}
use Rattle.theorem_forgotten.proofs.Removes.{removed}
use Rattle.theorem_forgotten.proofs.Writes.{writes-tell, syncs-tell}
use Rattle.theorem_forgotten.proofs.Extends.{extends-tell}

-- ---- the first world

abbrev first : m.World
first = record {
  pool = record { ses = λ j. m.Session.Gone; mark = λ j. false; mem = λ j. false; version = 1; closed = false };
  hand = record { job = m.Job.Idle; fate = m.Fate.Under; src = 0; to = 0; left = λ j. false; best = 0; chosen = false; says = 0 };
  nodes = record { ver = λ j. 0; map = λ j. m.none; stg = λ j. m.none; tr = λ j. m.Transfer.Shut };
  past = record { owe = λ n c. 0; acked = λ c. false; been = λ j. false; ever = λ j. false; wait = λ j. false };
}

nobody : (n j : ℕ) → get_or (replicate n free) j free ≡ free
nobody zero j = refl
nobody (suc n) zero = refl
nobody (suc n) (suc j) = nobody n j

fresh-chunks : (j c : ℕ) → (change.fresh j c).chunks ≡ c
unfolding change.fresh
fresh-chunks j c = refl

module _ (w : World) (s : Starts w) where
  count : (j : ℕ) → (w.nodes j).node.chunks ≡ s.chunks
  count j = ap (λ (n : Node). n.chunks) (s.node j) ∙ fresh-chunks j s.chunks

  sane : (j : ℕ) → Sane s.chunks j (w.nodes j)
  sane j =
      let b = s.maps j in
      subst (λ (n : Node). Sane s.chunks j (record { node = n; map = (w.nodes j).map; staging = (w.nodes j).staging })) (sym (s.node j))
      (fresh-sane j s.chunks (w.nodes j).map (w.nodes j).staging s.some s.most
      (subst (λ (n : ℕ). sound n (w.nodes j).map ≡ true) (count j) (and_left (sound (w.nodes j).node.chunks (w.nodes j).map) _ b))
      (subst (λ (n : ℕ). sound n (w.nodes j).staging ≡ true) (count j) (and_right (sound (w.nodes j).node.chunks (w.nodes j).map) _ b)))

  holds : (j : ℕ) → Holds (w.nodes j) 0 m.none m.none m.Transfer.Shut
  holds j = subst (λ (n : Node). Holds (record { node = n; map = (w.nodes j).map; staging = (w.nodes j).staging }) 0 m.none m.none m.Transfer.Shut) (sym (s.node j)) (fresh_holds j s.chunks (w.nodes j).map (w.nodes j).staging)

  starts : Tells (start w s)
  starts = record {
    a = first;
    inv = simple.fresh first (record { ses = λ j. refl; mark = λ j. refl; mem = λ j. refl; version = refl; job = refl; owe = λ n c. refl; acked = λ c. refl; been = λ j. refl; wait = λ j. refl });
    reflects = subst (λ (p : Pool). Reflects (record { pool = p; nodes = w.nodes; awaited = w.awaited; fate = w.fate }) first) (sym s.pool) (record {
      valid = fresh-valid false s.chunks s.some s.most;
      plain = refl;
      shows = record {
        sees = record {
          ses = λ j. ap (λ (x : Session). ses_of x.state) (nobody 16 j);
          mark = λ j. ap (λ (x : Session). x.mark) (nobody 16 j);
          mem = has-none;
          version = refl;
          closed = refl;
        };
        works = refl;
      };
      sane = sane;
      held = record { at = holds };
      awaits = λ z. clash refl z;
      reads = λ z. clash refl z;
    });
    remembers = record { ever = λ j. refl; wait = λ j. refl; acked = λ c z. clash z refl; below = λ c z. clash z refl; new = λ j z. refl; owes = λ n c z. absurd z };
  }

-- ---- whatever happens

happens : (w : World) (h : History w) → Tells h → (x : Happening) → Keeps h x → Tells (then w x h)
happens w h t (Happening.node j e) k = owns w h t j e k
happens w h t (Happening.client (Event.join_create id) got) k = creating w h t id got k
happens w h t (Happening.client (Event.join_assemble id set version) got) k = assembling w h t id set version got k
happens w h t (Happening.client (Event.enable id) got) k = enables w h t got id k
happens w h t (Happening.client (Event.maintenance id) got) k = maintains w h t got id
happens w h t (Happening.client (Event.link_down id) got) k = downs w h t got id
happens w h t (Happening.client (Event.store_check id) got) k = checks w h t got id
happens w h t (Happening.client (Event.rejoin id) got) k = rejoined w h t got id
happens w h t (Happening.client Event.try_run got) k = tried w h t got
happens w h t (Happening.client (Event.remove xs id mode) got) k = removed w h t xs id mode got k
happens w h t (Happening.client (Event.write xs chunk reached) got) k = writes-tell w h t xs chunk reached got k
happens w h t (Happening.client (Event.synced xs member chunk) got) k = syncs-tell w h t xs member chunk got
happens w h t (Happening.client (Event.answer xs number reply) got) k = answers w h t got xs number reply k
happens w h t (Happening.client (Event.extend xs) got) k = extends-tell w h t xs got k
happens w h t (Happening.hand_enable j) k = hand-enabled w h t j k
happens w h t (Happening.arrives lengths) k = let o = k.once lengths refl in arrives w h t lengths o.0 o.1 o.2.whole
happens w h t (Happening.breaks_off lengths) k = let o = k.broken lengths refl in breaks-off w h t lengths o.0 o.1
happens w h t (Happening.another j xs ys) k = let o = k.free j xs ys refl in another w h t j xs ys o.0 o.1 o.2 o.3

-- every history that keeps the premises
pub tells : (w : World) (h : History w) → Kept h → Tells h
tells _ (start w s) k = starts w s
tells _ (then w x h) k = happens w h (tells w h k.0) x k.1

-- C-15
pub never-forgotten : NeverForgotten
never-forgotten w h k n c z j u =
    let t = tells w h k in
    (t.reflects.held.at j).map n c ((simple.claimed t.a t.inv).holds j (ups w.pool.roster t.a.pool t.reflects.shows.sees j ∙ u) n c (t.remembers.owes n c z))
