-- What every message keeps of a node holds after what is told, and after what is awaited.
use mathlib.Core.Path.{◌≡◌, refl, sym, subst}
use mathlib.Core.Bool.{Bool, true, false}
use mathlib.Core.List.{List, [], ◌∷◌, ◌++◌}
use Prim.Native.Nat.{ℕ, ◌+◌}
use lib.Dec.{eqb}
use Rattle.laws_words.specs.Words.{pick}
use Rattle.laws_words.specs.Tests.{picked}
use Rattle.rules_base.specs.Sets.{has}
use Rattle.rules_base.specs.Parts.{part_of}
use Rattle.rules_base.specs.declared.Op.{Op}
use Rattle.rules_pool.specs.declared.Told.{Told}
use Rattle.rules_pool.specs.declared.Message.{Message}
use Rattle.rules_pool.specs.declared.Reply.{Reply}
use Rattle.rules_pool.specs.Session.{is_delete}
use Rattle.rules_node.specs.Events as storage
use Rattle.rules_world.specs.Station.{Station, does}
use Rattle.rules_world.specs.Together.{upd, Delivered, reply_of, if_good, takes_from, send, deliver}
use Rattle.theorem_honest.proofs.Ground as real
use Rattle.model_pool.proofs.Ground.{split}
use Rattle.rules_world.specs.Whole.{when_to, due_to, after_all}
use Rattle.rules_world.specs.History.{origin_of, is_message}

-- the nodes when what was told has arrived at those of the set
abbrev pub arrived : ℕ → Told → (ℕ → Station) → ℕ → Station
arrived got t f j = pick (has got j) (after_all (due_to t j) (f j)) (f j)

module _ (P : ℕ → Station → Type 0) (keeps : (j : ℕ) (e : storage.Event) (s : Station) → is_message (origin_of e) ≡ true → P j s → P j (does s e).station) where
  when : (j : ℕ) (b : Bool) (e : storage.Event) (s : Station) → is_message (origin_of e) ≡ true → P j s → P j (after_all (when_to b e) s)
  when j true e s m k = keeps j e s m k
  when j false e s m k = k

  due : (t : Told) (j : ℕ) (s : Station) → P j s → P j (after_all (due_to t j) s)
  due Told.Nothing j s k = k
  due (Told.Marks to chunk list version) j s k = when j (has to j) (storage.Event.write chunk list version) s refl k
  due (Told.Clears to member chunk) j s k = when j (has to j) (storage.Event.synced member chunk) s refl k
  due (Told.Infos to op member) j s k = when j (has to j) (storage.Event.pool_info op member) s refl k
  due (Told.Disable to) j s k = when j (eqb to j) storage.Event.map_disable s refl k
  due (Told.Off to) j s k = when j (eqb to j) storage.Event.enable0 s refl k
  due (Told.Extended others normals member version) j s k = both (has others j) (has normals j)
    where
      both : (a b : Bool) → P j (after_all (pick a (storage.Event.pool_info Op.AddCreate member ∷ []) [] ++ pick b (storage.Event.fill member version ∷ []) []) s)
      both true true = keeps j (storage.Event.fill member version) (does s (storage.Event.pool_info Op.AddCreate member)).station refl (keeps j (storage.Event.pool_info Op.AddCreate member) s refl k)
      both true false = keeps j (storage.Event.pool_info Op.AddCreate member) s refl k
      both false true = keeps j (storage.Event.fill member version) s refl k
      both false false = k
  due (Told.Checks to tick) j s k = k

  -- what is told
  pub every-told : (got : ℕ) (t : Told) (f : ℕ → Station) → ((j : ℕ) → P j (f j)) → (j : ℕ) → P j (arrived got t f j)
  every-told got t f k j = picked (P j) (has got j) (after_all (due_to t j) (f j)) (f j) (λ e. due t j (f j) (k j)) (λ e. k j)

  pub every-upd : (f : ℕ → Station) (i : ℕ) (s : Station) → ((j : ℕ) → P j (f j)) → P i s → (j : ℕ) → P j (upd f i s j)
  every-upd f i s k h j = split j i
      (λ q. subst (λ (n : ℕ). P n (upd f i s n)) (sym q) (subst (P i) (sym (real.upd_same f i s)) h))
      (λ q. subst (P j) (sym (real.upd_other f i j s q)) (k j))

  one : (f : ℕ → Station) (i : ℕ) (e : storage.Event) → is_message (origin_of e) ≡ true → ((j : ℕ) → P j (f j)) → (j : ℕ) → P j (upd f i (does (f i) e).station j)
  one f i e m k = every-upd f i (does (f i) e).station k (keeps i e (f i) m (k i))

  if-good : (p : Reply) (next this : Delivered) → ((j : ℕ) → P j (next.nodes j)) → ((j : ℕ) → P j (this.nodes j)) → (j : ℕ) → P j ((if_good p next this).nodes j)
  if-good Reply.Failed next this a b = b
  if-good (Reply.Good x) next this a b = a

  parts : (ls : List ℕ) (o from to : ℕ) (f : ℕ → Station) → ((j : ℕ) → P j (f j)) → (j : ℕ) → P j ((send ls o from to f).nodes j)
  unfolding send
  parts [] o from to f k = k
  parts (l ∷ ls) o from to f k =
      if-good (reply_of (does (f from) (storage.Event.give_part o l)).answer) _ _
      (if-good (reply_of (takes_from o l from to f).answer) _ _
      (parts ls (o + l) from to (upd f to (takes_from o l from to f).station) (one f to (storage.Event.take_part o (part_of o l (f from).map)) refl k))
      (one f to (storage.Event.take_part o (part_of o l (f from).map)) refl k))
      k

  -- what is awaited
  pub every-delivered : (ls : List ℕ) (x : Message) (f : ℕ → Station) → ((j : ℕ) → P j (f j)) → (j : ℕ) → P j ((deliver ls x f).nodes j)
  every-delivered ls Message.Nothing f k = k
  every-delivered ls (Message.GetVersion to) f k = one f to storage.Event.map_get_ver refl k
  every-delivered ls (Message.Ready to keep) f k = one f to (storage.Event.map_ready keep) refl k
  every-delivered ls (Message.Send from to) f k = parts ls 0 from to f k
  every-delivered ls (Message.Done to enable version members) f k = one f to (storage.Event.map_done enable version members) refl k
  every-delivered ls (Message.LastIo to chosen) f k = one f to (storage.Event.last_io_to_map chosen) refl k
  every-delivered ls (Message.Enable to version members) f k = one f to (storage.Event.enable1 version members) refl k
  every-delivered ls (Message.Leave to mode) f k = one f to (storage.Event.leave (is_delete mode)) refl k
  every-delivered ls (Message.Info to op member) f k = one f to (storage.Event.pool_info op member) refl k
