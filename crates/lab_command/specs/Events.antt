-- The lines that are events: for each its words, how many there are, and the ranges of its numbers.
use Rattle.std.specs.Prelude.{◌&&◌, ltb, eqb, Option, None}
use Rattle.std.specs.Bool.{then_some}
use Rattle.text_words.specs.declared.names.Name.{Name}
use Rattle.lab_form.specs.declared.Form.{Form}
use Rattle.lab_form.specs.declared.Head.{Head}
use Rattle.event.specs.declared.Event.{Event}
use Rattle.event.specs.declared.NodeEvent.{NodeEvent}
use Rattle.event.specs.declared.Question.{Question}
use Rattle.lab_form.specs.declared.Command.{Command}
use Rattle.lab_form.specs.Forms.{num}
use Rattle.event_number.specs.Values.{mode_of, reply_of, op_of}

-- The client's events, all but four and those of map check.
unfoldable pub client_events : Head → Form → Option Command
client_events (Head.Plain Name.JoinCreate) f = then_some (eqb f.count 2) (Command.Client (Event.JoinCreate (num f 1)))
client_events (Head.Plain Name.JoinAssemble) f = then_some (eqb f.count 4) (Command.Client (Event.JoinAssemble (num f 1) (num f 2) (num f 3)))
client_events (Head.Plain Name.Enable) f = then_some (eqb f.count 2) (Command.Client (Event.Enable (num f 1)))
client_events (Head.Plain Name.Maintenance) f = then_some (eqb f.count 2) (Command.Client (Event.Maintenance (num f 1)))
client_events (Head.Plain Name.LinkDown) f = then_some (eqb f.count 2) (Command.Client (Event.LinkDown (num f 1)))
client_events (Head.Plain Name.StoreCheck) f = then_some (eqb f.count 2) (Command.Client (Event.StoreCheck (num f 1)))
client_events (Head.Plain Name.Rejoin) f = then_some (eqb f.count 2) (Command.Client (Event.Rejoin (num f 1)))
client_events (Head.Plain Name.Try) f = then_some (eqb f.count 1) (Command.Client Event.Try)
client_events (Head.Plain Name.Extend) f = then_some (eqb f.count 1) (Command.Client Event.Extend)
client_events _ f = None

-- Map check: the client's events, the node's, and what the lab delivers.
unfoldable pub check_events : Head → Form → Option Command
check_events (Head.Plain Name.Tick) f = then_some (eqb f.count 1) (Command.Client Event.Tick)
check_events (Head.Plain Name.CheckAnswer) f = then_some (eqb f.count 4 && ltb (num f 3) 2) (Command.Client (Event.CheckAnswer (num f 1) (num f 2) (eqb (num f 3) 1)))
check_events (Head.Node Name.MapCheck) f = then_some (eqb f.count 3) (Command.Ask (num f 1) Question.MapCheck)
check_events (Head.Plain Name.DeliverCheck) f = then_some (eqb f.count 1) Command.DeliverCheck
check_events _ f = None

-- The next dirty chunk: a member, from which chunk on.
unfoldable pub search_events : Head → Form → Option Command
search_events (Head.Node Name.Next) f = then_some (eqb f.count 5) (Command.Ask (num f 1) (Question.Next (num f 3) (num f 4)))
search_events _ f = None

-- The other four, and what concerns the lab as a whole.
unfoldable pub whole_events : Head → Form → Option Command
whole_events (Head.Plain Name.Remove) f = then_some (eqb f.count 3 && ltb (num f 2) 2) (Command.Client (Event.Remove (num f 1) (mode_of (num f 2))))
whole_events (Head.Plain Name.Write) f = then_some (eqb f.count 3) (Command.Client (Event.Write (num f 1) (num f 2)))
whole_events (Head.Plain Name.Synced) f = then_some (eqb f.count 4 && ltb (num f 3) 16) (Command.Client (Event.Synced (num f 1) (num f 2) (num f 3)))
whole_events (Head.Plain Name.Answer) f = then_some (eqb f.count 4 && ltb (num f 2) 3) (Command.Client (Event.Answer (num f 1) (reply_of (num f 2) (num f 3))))
whole_events (Head.Plain Name.Pool) f = then_some (eqb f.count 3 && (ltb (num f 1) 2 && ltb (num f 2) 65536)) (Command.Pool (eqb (num f 1) 1) (num f 2))
whole_events (Head.Plain Name.Auto) f = then_some (eqb f.count 2 && ltb (num f 1) 2) (Command.Auto (eqb (num f 1) 1))
whole_events (Head.Plain Name.Deliver) f = then_some (eqb f.count 1) Command.Deliver
whole_events _ f = None

-- A node's events: register, join, leave, enable.
unfoldable pub store_events : Head → Form → Option Command
store_events (Head.Node Name.RegisterCreate) f = then_some (eqb f.count 3) (Command.Node (num f 1) NodeEvent.RegisterCreate)
store_events (Head.Node Name.RegisterAdd) f = then_some (eqb f.count 5) (Command.Node (num f 1) (NodeEvent.RegisterAdd (num f 3) (num f 4)))
store_events (Head.Node Name.Unregister) f = then_some (eqb f.count 4 && ltb (num f 3) 2) (Command.Node (num f 1) (NodeEvent.Unregister (eqb (num f 3) 1)))
store_events (Head.Node Name.JoinCreate) f = then_some (eqb f.count 4) (Command.Node (num f 1) (NodeEvent.JoinCreate (num f 3)))
store_events (Head.Node Name.JoinAssemble) f = then_some (eqb f.count 3) (Command.Node (num f 1) NodeEvent.JoinAssemble)
store_events (Head.Node Name.Leave) f = then_some (eqb f.count 4 && ltb (num f 3) 2) (Command.Node (num f 1) (NodeEvent.Leave (eqb (num f 3) 1)))
store_events (Head.Node Name.Enable1) f = then_some (eqb f.count 5) (Command.Node (num f 1) (NodeEvent.Enable1 (num f 3) (num f 4)))
store_events (Head.Node Name.Enable0) f = then_some (eqb f.count 3) (Command.Node (num f 1) NodeEvent.Enable0)
store_events _ f = None

-- A node's events: fault, write, synced, POOL_INFO, LAST_IO, fill.
unfoldable pub service_events : Head → Form → Option Command
service_events (Head.Node Name.Fault) f = then_some (eqb f.count 3) (Command.Node (num f 1) NodeEvent.Fault)
service_events (Head.Node Name.Write) f = then_some (eqb f.count 6) (Command.Node (num f 1) (NodeEvent.Write (num f 3) (num f 4) (num f 5)))
service_events (Head.Node Name.Synced) f = then_some (eqb f.count 5) (Command.Node (num f 1) (NodeEvent.Synced (num f 3) (num f 4)))
service_events (Head.Node Name.PoolInfo) f = then_some (eqb f.count 5 && ltb (num f 3) 4) (Command.Node (num f 1) (NodeEvent.PoolInfo (op_of (num f 3)) (num f 4)))
service_events (Head.Node Name.LastIo) f = then_some (eqb f.count 4) (Command.Node (num f 1) (NodeEvent.LastIo (num f 3)))
service_events (Head.Node Name.Fill) f = then_some (eqb f.count 5) (Command.Node (num f 1) (NodeEvent.Fill (num f 3) (num f 4)))
service_events _ f = None

-- A node's events: the map's way. A whole map is taken part by part.
unfoldable pub transfer_events : Head → Form → Option Command
transfer_events (Head.Node Name.MapReady) f = then_some (eqb f.count 4 && ltb (num f 3) 2) (Command.Node (num f 1) (NodeEvent.MapReady (eqb (num f 3) 1)))
transfer_events (Head.Node Name.GivePart) f = then_some (eqb f.count 5) (Command.Node (num f 1) (NodeEvent.GivePart (num f 3) (num f 4)))
transfer_events (Head.Node Name.TakePart) f = then_some (eqb f.count 6 && (ltb (num f 4) 2049 && ltb (num f 5) 16)) (Command.Node (num f 1) (NodeEvent.TakePart (num f 3) (num f 4) (num f 5)))
transfer_events (Head.Node Name.Take) f = then_some (eqb f.count 4 && ltb (num f 3) 16) (Command.Take (num f 1) (num f 3))
transfer_events (Head.Node Name.MapDone) f = then_some (eqb f.count 6 && ltb (num f 3) 2) (Command.Node (num f 1) (NodeEvent.MapDone (eqb (num f 3) 1) (num f 4) (num f 5)))
transfer_events (Head.Node Name.MapDisable) f = then_some (eqb f.count 3) (Command.Node (num f 1) NodeEvent.MapDisable)
transfer_events (Head.Node Name.MapGetVer) f = then_some (eqb f.count 3) (Command.Node (num f 1) NodeEvent.MapGetVer)
transfer_events _ f = None
