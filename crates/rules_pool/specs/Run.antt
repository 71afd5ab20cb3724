-- Recovery runs: what is awaited, and what an answer does.
use Rattle.std.specs.Prelude.{Bool, true, false, ℕ, ◌+◌, eqb, ltb, Option, Some, None}
use Rattle.laws_words.specs.Words.{pick}
use Rattle.rules_base.specs.Limits.{answer_limit}
use Rattle.rules_base.specs.Sets.{without, lowest}
use Rattle.rules_pool.specs.declared.Step.{Step}
use Rattle.rules_pool.specs.declared.Phase.{Phase}
use Rattle.rules_pool.specs.declared.Run.{Run}
use Rattle.rules_pool.specs.declared.Reply.{Reply}
use Rattle.rules_pool.specs.declared.Message.{Message}
use Rattle.rules_pool.specs.declared.Move.{Move}

-- the one whose turn it is, and those that come after it
abbrev pub hand : Run → ℕ
hand r = lowest r.left

abbrev pub rest : Run → ℕ
rest r = without r.left (lowest r.left)

-- Each awaited answer, good or failed, raises the count by one. By the state rules it is below the limit before; a higher one stays.
abbrev pub counted : ℕ → ℕ
counted taken = pick (ltb taken answer_limit) (taken + 1) taken

-- the run goes on, one more answer taken
abbrev pub go : Run → Phase → ℕ → ℕ → Option Run
go r p source left = Some (record { phase = p; source = source; left = left; taken = counted r.taken })

-- to the next message of the spread in hand
abbrev pub ahead : Run → Phase → Option Run
ahead r p = go r p r.source r.left

-- Receivers ascending; a run is over when none is left in its enabling spread.
abbrev pub to_spread : Run → ℕ → Option Run
to_spread r left = pick (eqb left 0) None (go r (Phase.Spread Step.Ready) r.source left)

-- The gather, from each other member to the chosen; then ENABLE_POOL to the chosen.
abbrev pub to_gather : ℕ → Run → ℕ → ℕ → Option Run
to_gather members r source left =
    pick (eqb left 0) (go r (Phase.Enable true) source (without members source)) (go r (Phase.Gather Step.Ready) source left)

-- LAST_IO_TO_MAP to all; then the gather.
abbrev pub to_last : ℕ → Run → ℕ → ℕ → Option Run
to_last members r source left =
    pick (eqb left 0) (to_gather members r source (without members source)) (go r Phase.LastIo source left)

-- The spread without enable, from the chosen to each other member; then LAST_IO_TO_MAP.
abbrev pub to_base : ℕ → Run → ℕ → ℕ → Option Run
to_base members r source left = pick (eqb left 0) (to_last members r source members) (go r (Phase.Base Step.Ready) source left)

-- MAP_GET_VER to all; then the spread without enable.
abbrev pub to_versions : ℕ → Run → ℕ → ℕ → ℕ → Option Run
to_versions members r best source left =
    pick (eqb left 0) (to_base members r source (without members source)) (go r (Phase.Versions best) source left)

-- The receiver in hand: from the sending of its MAP_READY to the answer of its MAP_DONE. In a gather it is the chosen.
abbrev pub receiver_at : Phase → Run → Option ℕ
receiver_at (Phase.Versions best) r = None
receiver_at (Phase.Base s) r = Some (hand r)
receiver_at Phase.LastIo r = None
receiver_at (Phase.Gather s) r = Some r.source
receiver_at (Phase.Enable every) r = None
receiver_at (Phase.Spread s) r = Some (hand r)

unfoldable pub receiver : Run → Option ℕ
receiver r = receiver_at r.phase r

abbrev pub went_on : Run → Option Run → Move
went_on r n = record { next = n; taken = counted r.taken; normal = None; disable = None }

abbrev pub became_normal : Run → Option Run → ℕ → Move
became_normal r n id = record { next = n; taken = counted r.taken; normal = Some id; disable = None }

-- the run ends, with MAP_DISABLE if a receiver was in hand
abbrev pub ended : Run → Move
ended r = record { next = None; taken = counted r.taken; normal = None; disable = receiver r }

-- MAP_DISABLE to the receiver, and it is passed over
abbrev pub passed_over : Run → Move
passed_over r = record { next = to_spread r (rest r); taken = counted r.taken; normal = None; disable = receiver r }

-- A failed answer.
abbrev pub failed_at : Phase → Run → Move
failed_at (Phase.Versions best) r = ended r
failed_at (Phase.Base s) r = ended r
failed_at Phase.LastIo r = ended r
failed_at (Phase.Gather s) r = ended r
failed_at (Phase.Enable every) r = ended r
failed_at (Phase.Spread s) r = passed_over r

unfoldable pub failed_answer : Run → Move
failed_answer r = failed_at r.phase r

-- A good answer to MAP_GET_VER: without a version, or with one above the pool's, it is a failed one. The highest is chosen, ties to the lowest id.
abbrev pub version_brought : ℕ → ℕ → ℕ → Run → Option ℕ → Move
version_brought members version best r None = failed_answer r
version_brought members version best r (Some v) =
    pick (ltb version v) (failed_answer r)
    (went_on r (to_versions members r (pick (ltb best v) v best) (pick (ltb best v) (hand r) r.source) (rest r)))

-- A good answer in each of the three spreads: MAP_READY, MAP_SEND, MAP_DONE, then the next receiver.
abbrev pub base_next : ℕ → Step → Run → Option Run
base_next members Step.Ready r = ahead r (Phase.Base Step.Send)
base_next members Step.Send r = ahead r (Phase.Base Step.Done)
base_next members Step.Done r = to_base members r r.source (rest r)

abbrev pub gather_next : ℕ → Step → Run → Option Run
gather_next members Step.Ready r = ahead r (Phase.Gather Step.Send)
gather_next members Step.Send r = ahead r (Phase.Gather Step.Done)
gather_next members Step.Done r = to_gather members r r.source (rest r)

abbrev pub spread_good : Step → Run → Move
spread_good Step.Ready r = went_on r (ahead r (Phase.Spread Step.Send))
spread_good Step.Send r = went_on r (ahead r (Phase.Spread Step.Done))
spread_good Step.Done r = became_normal r (to_spread r (rest r)) (hand r)

-- A good answer. A session becomes NORMAL when its enabling message is answered well.
abbrev pub good_at : Phase → ℕ → ℕ → Run → Option ℕ → Move
good_at (Phase.Versions best) members version r b = version_brought members version best r b
good_at (Phase.Base s) members version r b = went_on r (base_next members s r)
good_at Phase.LastIo members version r b = went_on r (to_last members r r.source (rest r))
good_at (Phase.Gather s) members version r b = went_on r (gather_next members s r)
good_at (Phase.Enable every) members version r b = became_normal r (to_spread r r.left) r.source
good_at (Phase.Spread s) members version r b = spread_good s r

unfoldable pub good : ℕ → ℕ → Run → Option ℕ → Move
good members version r b = good_at r.phase members version r b

-- What an awaited answer does to a run, in a pool with these members and this version.
abbrev pub takes : ℕ → ℕ → Run → Reply → Move
takes members version r Reply.Failed = failed_answer r
takes members version r (Reply.Good b) = good members version r b

abbrev pub step_message : Step → ℕ → ℕ → Bool → Bool → ℕ → ℕ → Message
step_message Step.Ready from to keep enable version members = Message.Ready to keep
step_message Step.Send from to keep enable version members = Message.Send from to
step_message Step.Done from to keep enable version members = Message.Done to enable version members

-- The awaited message. A spread starts empty, a gather from what the chosen holds.
abbrev pub awaited_at : Phase → ℕ → ℕ → Run → Message
awaited_at (Phase.Versions best) members version r = Message.GetVersion (hand r)
awaited_at (Phase.Base s) members version r = step_message s r.source (hand r) false false version members
awaited_at Phase.LastIo members version r = Message.LastIo (hand r) r.source
awaited_at (Phase.Gather s) members version r = step_message s (hand r) r.source true false version members
awaited_at (Phase.Enable every) members version r = Message.Enable r.source version members
awaited_at (Phase.Spread s) members version r = step_message s r.source (hand r) false true version members

unfoldable pub awaited_in : ℕ → ℕ → Run → Message
awaited_in members version r = awaited_at r.phase members version r
