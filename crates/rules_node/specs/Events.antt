-- The events of a node as one type, and what each is: one case an event. Taking a part carries its bytes.
use Rattle.std.specs.Prelude.{Bool, List, ℕ, length}
use Rattle.rules_base.specs.Refusals.{Test}
use Rattle.rules_base.specs.Map.{clean_from}
use Rattle.rules_base.specs.declared.Op.{Op}
use Rattle.rules_node.specs.declared.Node.{Node}
use Rattle.rules_node.specs.declared.Turn.{Turn}
use Rattle.rules_node.specs.Table.{Kind}
use Rattle.rules_node.specs.Register as Register
use Rattle.rules_node.specs.Join as Join
use Rattle.rules_node.specs.Enable as Enable
use Rattle.rules_node.specs.Write as Write
use Rattle.rules_node.specs.Info as Info
use Rattle.rules_node.specs.Fill as Fill
use Rattle.rules_node.specs.Serve as Serve
use Rattle.rules_node.specs.Hand as Hand

-- register_add: set, version. unregister, leave: delete. join_create: set. enable1: version, set. write: chunk, set, version. synced: member, chunk.
-- pool_info: what, member. map_ready: keep. give_part: offset, length. take_part: offset, the bytes. map_done: enabling, version, set. last_io_to_map: the chosen.
-- fill: member, version.
pub data Event : Type 0 where
  register_create : Event
  register_add : ℕ → ℕ → Event
  unregister : Bool → Event
  join_create : ℕ → Event
  assemble : Event
  leave : Bool → Event
  enable1 : ℕ → ℕ → Event
  enable0 : Event
  fault : Event
  write : ℕ → ℕ → ℕ → Event
  synced : ℕ → ℕ → Event
  pool_info : Op → ℕ → Event
  map_ready : Bool → Event
  give_part : ℕ → ℕ → Event
  take_part : ℕ → List ℕ → Event
  map_done : Bool → ℕ → ℕ → Event
  map_disable : Event
  map_get_ver : Event
  last_io_to_map : ℕ → Event
  fill : ℕ → ℕ → Event

-- the part that is lent to be taken, if any
pub data Part : Type 0 where
  none : Part
  some : List ℕ → Part

-- What an event is: its name in the table of legal changes, the part that is lent to it beside the node's two maps, its tests, and its turn: what it does where none of
-- them applies, else its refusal. `lent` is the number that the lent maps refuse with.
pub record Case : Type 0 where
  pub kind : Kind
  pub part : Part
  pub tests : Node → ℕ → List Test
  pub turn : Node → ℕ → Turn

abbrev pub case_of : Event → Case
case_of Event.register_create = record { kind = Kind.register_create; part = Part.none; tests = λ n lent. Register.register_create_tests n lent; turn = λ n lent. Register.register_create n lent }
case_of (Event.register_add set version) = record { kind = Kind.register_add; part = Part.none; tests = λ n lent. Register.register_add_tests n lent set version; turn = λ n lent. Register.register_add n lent set version }
case_of (Event.unregister delete) = record { kind = Kind.unregister; part = Part.none; tests = λ n lent. Register.unregister_tests n lent delete; turn = λ n lent. Register.unregister n lent delete }
case_of (Event.join_create set) = record { kind = Kind.join_create; part = Part.none; tests = λ n lent. Join.join_create_tests n lent set; turn = λ n lent. Join.join_create n lent set }
case_of Event.assemble = record { kind = Kind.assemble; part = Part.none; tests = λ n lent. Join.assemble_tests n lent; turn = λ n lent. Join.assemble n lent }
case_of (Event.leave delete) = record { kind = Kind.leave; part = Part.none; tests = λ n lent. Join.leave_tests n lent; turn = λ n lent. Join.leave n lent delete }
case_of (Event.enable1 version set) = record { kind = Kind.enable1; part = Part.none; tests = λ n lent. Enable.enable1_tests n lent version set; turn = λ n lent. Enable.enable1 n lent version set }
case_of Event.enable0 = record { kind = Kind.enable0; part = Part.none; tests = λ n lent. Enable.stop_tests n lent; turn = λ n lent. Enable.enable0 n lent }
case_of Event.fault = record { kind = Kind.fault; part = Part.none; tests = λ n lent. Enable.stop_tests n lent; turn = λ n lent. Enable.fault n lent }
case_of (Event.write chunk set version) = record { kind = Kind.write; part = Part.none; tests = λ n lent. Write.write_tests n lent chunk set version; turn = λ n lent. Write.write n lent chunk set version }
case_of (Event.synced member chunk) = record { kind = Kind.synced; part = Part.none; tests = λ n lent. Write.synced_tests n lent member chunk; turn = λ n lent. Write.synced n lent member chunk }
case_of (Event.pool_info op member) = record { kind = Kind.pool_info; part = Part.none; tests = λ n lent. Info.pool_info_tests n lent op member; turn = λ n lent. Info.pool_info n lent op member }
case_of (Event.map_ready keep) = record { kind = Kind.map_ready; part = Part.none; tests = λ n lent. Serve.serve_tests n lent; turn = λ n lent. Serve.map_ready n lent keep }
case_of (Event.give_part offset length) = record { kind = Kind.give_part; part = Part.none; tests = λ n lent. Serve.give_part_tests n lent offset length; turn = λ n lent. Serve.give_part n lent offset length }
case_of (Event.take_part offset part) = record { kind = Kind.take_part; part = Part.some part; tests = λ n lent. Hand.take_part_tests n lent offset (length part) (clean_from n.chunks offset part); turn = λ n lent. Hand.take_part n lent offset (length part) (clean_from n.chunks offset part) }
case_of (Event.map_done enabling version set) = record { kind = Kind.map_done; part = Part.none; tests = λ n lent. Hand.map_done_tests n lent version set; turn = λ n lent. Hand.map_done n lent enabling version set }
case_of Event.map_disable = record { kind = Kind.map_disable; part = Part.none; tests = λ n lent. Hand.hand_tests n lent; turn = λ n lent. Hand.map_disable n lent }
case_of Event.map_get_ver = record { kind = Kind.map_get_ver; part = Part.none; tests = λ n lent. Serve.serve_tests n lent; turn = λ n lent. Serve.map_get_ver n lent }
case_of (Event.last_io_to_map chosen) = record { kind = Kind.last_io_to_map; part = Part.none; tests = λ n lent. Serve.last_io_tests n lent chosen; turn = λ n lent. Serve.last_io_to_map n lent chosen }
case_of (Event.fill member version) = record { kind = Kind.fill; part = Part.none; tests = λ n lent. Fill.fill_tests n lent member version; turn = λ n lent. Fill.fill n lent member version }

abbrev pub kind_of : Event → Kind
kind_of e = (case_of e).kind

abbrev pub part_in : Event → Part
part_in e = (case_of e).part

abbrev pub tests_at : Event → Node → ℕ → List Test
tests_at e = (case_of e).tests

abbrev pub turn_of : Event → Node → ℕ → Turn
turn_of e = (case_of e).turn
