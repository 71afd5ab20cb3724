-- The client's messages as events of their nodes, and a node's answer as the client's.
use Rattle.std.specs.Prelude.{ℕ, eqb, Bool, true, Option, Some, None}
use Rattle.laws_words.specs.Words.{pick}
use Rattle.rules_base.specs.Sets.{has}
use Rattle.rules_pool.specs.declared.Message.{Message}
use Rattle.rules_base.specs.declared.Op.{Op}
use Rattle.rules_pool.specs.declared.Reply.{Reply}
use Rattle.rules_pool.specs.declared.Told.{Told}
use Rattle.rules_pool.specs.Session.{is_delete}
use Rattle.event.specs.declared.NodeEvent.{NodeEvent}
use Rattle.rules_node.specs.declared.Answer.{Answer}
use Rattle.lab_deliver.specs.declared.post.Errand.{Errand}

-- The event, where the message goes to this node.
abbrev pub due_if : Bool → NodeEvent → Option NodeEvent
due_if to e = pick to (Some e) None

-- What node i gets of the messages that are not awaited, one event and then another. MAP_CHECK is none of its events: the lab delivers it by a command of its own.
abbrev pub told_to : Told → ℕ → Option NodeEvent × Option NodeEvent
told_to Told.Nothing i = (None, None)
told_to (Told.Marks set chunk list version) i = (due_if (has set i) (NodeEvent.Write chunk list version), None)
told_to (Told.Clears set member chunk) i = (due_if (has set i) (NodeEvent.Synced member chunk), None)
told_to (Told.Infos set op member) i = (due_if (has set i) (NodeEvent.PoolInfo op member), None)
told_to (Told.Disable to) i = (due_if (eqb to i) NodeEvent.MapDisable, None)
told_to (Told.Off to) i = (due_if (eqb to i) NodeEvent.Enable0, None)
told_to (Told.Extended others normals member version) i = (due_if (has others i) (NodeEvent.PoolInfo Op.AddCreate member), due_if (has normals i) (NodeEvent.Fill member version))
told_to (Told.Checks set tick) i = (None, None)

-- What the awaited message asks of the nodes, if one is awaited. MAP_SEND: the node gives its map part by part, and the receiver takes each.
abbrev pub errand_of : Message → Option Errand
errand_of Message.Nothing = None
errand_of (Message.GetVersion to) = Some (Errand.Event to NodeEvent.MapGetVer)
errand_of (Message.Ready to keep) = Some (Errand.Event to (NodeEvent.MapReady keep))
errand_of (Message.Send to receiver) = Some (Errand.Map to receiver true)
errand_of (Message.Done to enable version set) = Some (Errand.Event to (NodeEvent.MapDone enable version set))
errand_of (Message.LastIo to chosen) = Some (Errand.Event to (NodeEvent.LastIo chosen))
errand_of (Message.Enable to version set) = Some (Errand.Event to (NodeEvent.Enable1 version set))
errand_of (Message.Leave to mode) = Some (Errand.Event to (NodeEvent.Leave (is_delete mode)))
errand_of (Message.Info to op member) = Some (Errand.Event to (NodeEvent.PoolInfo op member))

-- A refusal is a failed answer; a version comes with MAP_GET_VER alone.
abbrev pub reply_of : Answer → Reply
reply_of (Answer.Refused n) = Reply.Failed
reply_of Answer.Done = Reply.Good None
reply_of (Answer.Version v) = Reply.Good (Some v)
