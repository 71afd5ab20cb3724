-- A test of every standing that a node can have, which is computed, and what it says of one. Assumes nothing.
use mathlib.Core.Path.{◌≡◌}
use mathlib.Core.Bool.{Bool, true, false, not, ◌&&◌, ◌||◌}
use Rattle.laws_words.specs.Tests.{and_left, and_right}
use Rattle.rules_node.specs.declared.State.{State}

-- where a holds, so does b
abbrev pub gives : Bool → Bool → Bool
gives a b = not a || b

pub given : (a b : Bool) → gives a b ≡ true → a ≡ true → b ≡ true
given true b e h = e
given false b e h = cc (e, h)

abbrev bools : (Bool → Bool) → Bool
bools f = f true && f false

bools-at : (f : Bool → Bool) → bools f ≡ true → (b : Bool) → f b ≡ true
bools-at f e true = and_left (f true) (f false) e
bools-at f e false = and_right (f true) (f false) e

abbrev states : (State → Bool) → Bool
states f = f State.Empty && (f State.Registered && (f State.Created && (f State.Normal && f State.NoIo)))

states-at : (f : State → Bool) → states f ≡ true → (s : State) → f s ≡ true
states-at f e State.Empty = and_left (f State.Empty) _ e
states-at f e State.Registered = and_left (f State.Registered) _ (and_right (f State.Empty) _ e)
states-at f e State.Created = and_left (f State.Created) _ (and_right (f State.Registered) _ (and_right (f State.Empty) _ e))
states-at f e State.Normal = and_left (f State.Normal) _ (and_right (f State.Created) _ (and_right (f State.Registered) _ (and_right (f State.Empty) _ e)))
states-at f e State.NoIo = and_right (f State.Normal) _ (and_right (f State.Created) _ (and_right (f State.Registered) _ (and_right (f State.Empty) _ e)))

-- a test of state, store, create mark, whether a transfer is in hand and whether the own id is in the set
abbrev pub every : (State → Bool → Bool → Bool → Bool → Bool) → Bool
every f = states (λ s. bools (λ store. bools (λ create. bools (λ hand. bools (λ own. f s store create hand own)))))

pub every-at : (f : State → Bool → Bool → Bool → Bool → Bool) → every f ≡ true → (s : State) (store create hand own : Bool) → f s store create hand own ≡ true
every-at f e s store create hand own =
    bools-at (λ o. f s store create hand o)
    (bools-at (λ u. bools (λ o. f s store create u o))
    (bools-at (λ c. bools (λ u. bools (λ o. f s store c u o)))
    (bools-at (λ b. bools (λ c. bools (λ u. bools (λ o. f s b c u o))))
    (states-at (λ r. bools (λ b. bools (λ c. bools (λ u. bools (λ o. f r b c u o))))) e s) store) create) hand) own
