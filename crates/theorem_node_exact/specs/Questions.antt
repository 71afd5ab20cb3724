-- The two questions to a node, map check (C-17) and the next dirty chunk (C-18): what is answered, which number is given. Neither changes anything: what is handed back holds the same node.
use Rattle.std.specs.Prelude.{◌≡◌, true, false, ℕ, ◌≤◌, ◌<◌, Some, None}
use Rattle.rules_base.specs.Chunk.{dirty}
use Rattle.rules_node.specs.declared.State.{State}
use Rattle.rules_node.specs.declared.Checked.{Checked}
use Rattle.rules_node.specs.declared.Next.{Next}
use Rattle.rules_node.specs.Face.{checked, next_at}
use Rattle.rules_node.specs.Held.{Held}
use Rattle.theorem_node_exact.specs.Words.{Iff, AnId, InOrder}

-- ---- map check

abbrev pub CheckIs : Checked → Held → Type 0
CheckIs answer w = (checked w.at w.map w.staging).answer ≡ answer

-- every chunk of its own row is clean
abbrev pub OwnRowClean : Held → Type 0
OwnRowClean w = (c : ℕ) → dirty w.map w.at.node.id c ≡ 0

-- "A node that is not NORMAL answers "not empty", a NORMAL one for its own row." It is taken in every state; refused, with 3, exactly where the node's own id is none.
pub record CheckSaid (w : Held) : Type 0 where
  pub empty : Iff (CheckIs (Checked.Empty true) w) (AnId w.at.node.id × (w.at.node.state ≡ State.Normal) × OwnRowClean w)
  pub full : Iff (CheckIs (Checked.Empty false) w) (AnId w.at.node.id × ¬ ((w.at.node.state ≡ State.Normal) × OwnRowClean w))
  pub three : Iff (CheckIs (Checked.Refused 3) w) (¬ (AnId w.at.node.id))
  pub stays : (checked w.at w.map w.staging).node ≡ w.at

abbrev pub MapCheck : Type 0
MapCheck = (w : Held) → InOrder w → CheckSaid w

-- ---- the next dirty chunk

abbrev pub NextIs : Next → ℕ → ℕ → Held → Type 0
NextIs answer member start w = (next_at w.at w.map w.staging member start).answer ≡ answer

-- no chunk from the start on up to another is dirty
abbrev pub CleanFrom : ℕ → ℕ → ℕ → Held → Type 0
CleanFrom member start end w = (c : ℕ) → start ≤ c → c < end → dirty w.map member c ≡ 0

-- "the first dirty chunk at or after a given one"; "The answer equals that of reading the whole row."; 3 and 4 as in the table
pub record NextSaid (member start : ℕ) (w : Held) : Type 0 where
  pub three : Iff (NextIs (Next.Refused 3) member start w) (¬ (AnId w.at.node.id × AnId member))
  pub four : Iff (NextIs (Next.Refused 4) member start w) (AnId w.at.node.id × AnId member × (w.at.node.chunks ≤ start))
  pub found : (c : ℕ)
      → Iff (NextIs (Next.Is (Some c)) member start w)
      (AnId w.at.node.id × AnId member × (start ≤ c) × (c < w.at.node.chunks) × (dirty w.map member c ≡ 1) × CleanFrom member start c w)
  pub nothing : Iff (NextIs (Next.Is None) member start w)
      (AnId w.at.node.id × AnId member × (start < w.at.node.chunks) × CleanFrom member start w.at.node.chunks w)
  pub stays : (next_at w.at w.map w.staging member start).node ≡ w.at

abbrev pub NextDirtyChunk : Type 0
NextDirtyChunk = (member start : ℕ) (w : Held) → InOrder w → NextSaid member start w
