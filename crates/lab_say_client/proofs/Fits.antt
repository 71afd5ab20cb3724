-- How long the client's lines can be.
use Prim.Native.Nat.{ℕ, zero, suc, ◌+◌, ◌*◌, ◌≤◌}
use mathlib.Core.Path.{◌≡◌}
use mathlib.Core.Bool.{Bool, true, false}
use mathlib.Core.List.{List, [], ◌∷◌, map}
use native.Mathlib.Omega.{arith}
use lib.ListN.{length, length-append, length-map}
use Rattle.laws_words.specs.Words.{pick, one}
use Rattle.rules_base.specs.Sets.{has}
use Rattle.text_bytes.specs.Bytes.{bytes}
use Rattle.text_bytes.specs.Ink.{decimal, joined}
use Rattle.text_bytes.proofs.Meaning.{joined_length, decimal-length}
use Rattle.lab_say.specs.Say.{spaced, said, paired, each, told_to, told_text, message_text, awaited_text}
use Rattle.event_number.specs.Values.{op_number, mode_number}
use Rattle.rules_pool.specs.declared.Message.{Message}
use Rattle.rules_base.specs.declared.Op.{Op}
use Rattle.rules_pool.specs.declared.Told.{Told}
use Rattle.rules_pool.specs.declared.Phase.{Phase}
use Rattle.rules_pool.specs.declared.Job.{Job}
use Rattle.rules_pool.specs.declared.Outcome.{Outcome}
use Rattle.rules_pool.specs.declared.Past.{Past}
use Rattle.rules_pool.specs.declared.Roster.{Roster}
use Rattle.rules_pool.specs.declared.Pool.{Pool}
use Rattle.rules_pool.specs.declared.Sent.{Sent}
use Rattle.rules_pool.specs.Session.{is_nothing}
use Rattle.rules_pool.specs.declared.Kind.{Kind}
use Rattle.rules_pool.specs.Sessions.{ids_of}
use Rattle.rules_client.specs.declared.Check.{Check}
use Rattle.lab_say_client.specs.Client.{letter, phase_text, job_text, outcome_text, roster_text, flags_text, client_text, past_text, check_text, causes_text, look_text}

pair-length : (s : List ℕ) (n : ℕ) → length (paired s n) ≤ length s + 20
pair-length s n = rw (joined_length (s ∷ decimal n ∷ [])) (omega (arith, decimal-length n))

spaced-length : (n : ℕ) → length (spaced n) ≤ 21
unfolding spaced
spaced-length n = omega (arith, decimal-length n)

spaced-all : (ns : List ℕ) → length (joined (map spaced ns)) ≤ 21 * length ns
unfolding joined
spaced-all [] = omega arith
spaced-all (n ∷ ns) = rw (length-append (spaced n) (joined (map spaced ns))) (omega (arith, spaced-length n, spaced-all ns))

said-length : (s ns : List ℕ) → length (said s ns) ≤ length s + 21 * length ns
unfolding joined
said-length s ns = rw (length-append s (joined (map spaced ns))) (omega (arith, spaced-all ns))

message-length : (m : Message) → length (message_text m) ≤ 100
message-length Message.Nothing = omega arith
message-length (Message.GetVersion to) = omega (arith, said-length (bytes " | MAP_GET_VER") (to ∷ []))
message-length (Message.Ready to keep) = omega (arith, said-length (bytes " | MAP_READY") (to ∷ one keep ∷ []))
message-length (Message.Send to receiver) = omega (arith, said-length (bytes " | MAP_SEND") (to ∷ receiver ∷ []))
message-length (Message.Done to enable version set) = omega (arith, said-length (bytes " | MAP_DONE") (to ∷ one enable ∷ version ∷ set ∷ []))
message-length (Message.LastIo to chosen) = omega (arith, said-length (bytes " | LAST_IO") (to ∷ chosen ∷ []))
message-length (Message.Enable to version set) = omega (arith, said-length (bytes " | ENABLE") (to ∷ 1 ∷ version ∷ set ∷ []))
message-length (Message.Leave to mode) = omega (arith, said-length (bytes " | LEAVE") (to ∷ mode_number mode ∷ []))
message-length (Message.Info to op member) = omega (arith, said-length (bytes " | POOL_INFO") (to ∷ op_number op ∷ member ∷ []))

pick-length : (b : Bool) (s : List ℕ) (n : ℕ) → length s ≤ n → length (pick b s []) ≤ n
pick-length true s n h = h
pick-length false s n h = omega arith

pick-length' : (b : Bool) (s : List ℕ) (n : ℕ) → length s ≤ n → length (pick b [] s) ≤ n
pick-length' true s n h = omega arith
pick-length' false s n h = h

awaited-length : (m : Message) (number : ℕ) → length (awaited_text m number) ≤ 122
unfolding awaited_text
awaited-length m number =
    pick-length' (is_nothing m) _ 122
    (rw (joined_length (message_text m ∷ bytes " #" ∷ decimal number ∷ [])) (omega (arith, message-length m, decimal-length number)))

to-length : (t : Told) (i : ℕ) → length (told_to t i) ≤ 100
to-length Told.Nothing i = omega arith
to-length (Told.Marks set chunk list version) i = pick-length (has set i) _ 100 (omega (arith, said-length (bytes " | MARK") (i ∷ chunk ∷ list ∷ version ∷ [])))
to-length (Told.Clears set member chunk) i = pick-length (has set i) _ 100 (omega (arith, said-length (bytes " | CLEAR") (i ∷ member ∷ chunk ∷ [])))
to-length (Told.Infos set op member) i = pick-length (has set i) _ 100 (omega (arith, said-length (bytes " | POOL_INFO") (i ∷ op_number op ∷ member ∷ [])))
to-length (Told.Disable to) i = omega arith
to-length (Told.Off to) i = omega arith
to-length (Told.Extended others normals member version) i = pick-length (has normals i) _ 100 (omega (arith, said-length (bytes " | FILL") (i ∷ member ∷ version ∷ [])))
to-length (Told.Checks set tick) i = pick-length (has set i) _ 100 (omega (arith, said-length (bytes " | MAP_CHECK") (i ∷ tick ∷ [])))

each-length : (f : ℕ → List ℕ) → ((i : ℕ) → length (f i) ≤ 100) → (n i : ℕ) → length (each f n i) ≤ 100 * n
each-length f h zero i = omega arith
each-length f h (suc n) i = rw (length-append (f i) (each f n (suc i))) (omega (arith, h i, each-length f h n (suc i)))

each-told : (t : Told) → length (each (told_to t) 16 0) ≤ 1600
each-told t = each-length (told_to t) (to-length t) 16 0

told-length : (t : Told) → length (told_text t) ≤ 3200
unfolding told_text
told-length Told.Nothing = omega arith
told-length (Told.Marks set chunk list version) = omega (arith, each-told (Told.Marks set chunk list version))
told-length (Told.Clears set member chunk) = omega (arith, each-told (Told.Clears set member chunk))
told-length (Told.Infos set op member) = omega (arith, each-told (Told.Infos set op member))
told-length (Told.Disable to) = omega (arith, said-length (bytes " | MAP_DISABLE") (to ∷ []))
told-length (Told.Off to) = omega (arith, said-length (bytes " | ENABLE") (to ∷ 0 ∷ []))
told-length (Told.Checks set tick) = omega (arith, each-told (Told.Checks set tick))
told-length (Told.Extended others normals member version) =
    rw (length-append (each (told_to (Told.Infos others Op.AddCreate member)) 16 0) (each (told_to (Told.Extended others normals member version)) 16 0))
    (omega (arith, each-told (Told.Infos others Op.AddCreate member), each-told (Told.Extended others normals member version)))

phase-length : (p : Phase) → length (phase_text p) ≤ 20
phase-length (Phase.Versions top) = omega arith
phase-length (Phase.Base step) = omega arith
phase-length Phase.LastIo = omega arith
phase-length (Phase.Gather step) = omega arith
phase-length (Phase.Enable every) = omega arith
phase-length (Phase.Spread step) = omega arith

job-length : (j : Job) → length (job_text j) ≤ 40
job-length Job.Idle = omega arith
job-length (Job.Running run) = omega (arith, phase-length run.phase)
job-length (Job.Removing removal) = omega (arith, pair-length (bytes " job=remove:") removal.id)

outcome-length : (o : Outcome) → length (outcome_text o) ≤ 60
outcome-length Outcome.Plain = omega arith
outcome-length (Outcome.Taken taken) = omega (arith, pair-length (bytes " taken=") taken)
outcome-length (Outcome.Written acked list) =
    rw (joined_length (paired (bytes " acked=") (one acked) ∷ paired (bytes " list=") list ∷ []))
    (omega (arith, pair-length (bytes " acked=") (one acked), pair-length (bytes " list=") list))
outcome-length (Outcome.Picked id) = omega (arith, pair-length (bytes " id=") id)

roster-length : (ro : Roster) → length ro.sessions ≡ 16 → length (roster_text ro) ≤ 120
unfolding roster_text
roster-length ro e =
    rw (joined_length (paired (bytes "ok version=") ro.version ∷ paired (bytes " count=") ro.count ∷ paired (bytes " members=") ro.members ∷ bytes " sessions=" ∷ map letter ro.sessions ∷ []))
    (omega (arith, pair-length (bytes "ok version=") ro.version, pair-length (bytes " count=") ro.count, pair-length (bytes " members=") ro.members, length-map ro.sessions letter, e))

flags-length : (ro : Roster) → length (flags_text ro) ≤ 120
unfolding flags_text
flags-length ro =
    rw (joined_length (paired (bytes " maint=") (ids_of Kind.Maintained ro) ∷ paired (bytes " marked=") (ids_of Kind.Marked ro) ∷ paired (bytes " delete=") (ids_of Kind.Deleting ro) ∷ paired (bytes " owed=") (ids_of Kind.Owed ro) ∷ []))
    (omega (arith, pair-length (bytes " maint=") (ids_of Kind.Maintained ro), pair-length (bytes " marked=") (ids_of Kind.Marked ro), pair-length (bytes " delete=") (ids_of Kind.Deleting ro), pair-length (bytes " owed=") (ids_of Kind.Owed ro)))

-- The client's line is at most 3,700 bytes.
pub client-length : (p : Pool) (s : Sent) → length p.roster.sessions ≡ 16 → length (client_text p s) ≤ 3700
unfolding client_text
client-length p s e =
    rw (joined_length (roster_text p.roster ∷ flags_text p.roster ∷ job_text p.job ∷ outcome_text s.outcome ∷ told_text s.told ∷ awaited_text s.awaited s.number ∷ []))
    (omega (arith, roster-length p.roster e, flags-length p.roster, job-length p.job, outcome-length s.outcome, told-length s.told, awaited-length s.awaited s.number))

past-length : (past : Past) → length (past_text past) ≤ 64
unfolding past_text
past-length past =
    rw (joined_length (paired (bytes "look written=") (one past.written) ∷ paired (bytes " assembled=") (one past.assembled) ∷ []))
    (omega (arith, pair-length (bytes "look written=") (one past.written), pair-length (bytes " assembled=") (one past.assembled)))

check-length : (k : Check) → length (check_text k) ≤ 77
unfolding check_text
check-length k =
    rw (joined_length (paired (bytes " tick=") k.tick ∷ paired (bytes " due=") k.due ∷ paired (bytes " once=") k.once ∷ []))
    (omega (arith, pair-length (bytes " tick=") k.tick, pair-length (bytes " due=") k.due, pair-length (bytes " once=") k.once))

causes-length : (ro : Roster) → length (causes_text ro) ≤ 50
unfolding causes_text
causes-length ro =
    rw (joined_length (paired (bytes " link=") (ids_of Kind.Link ro) ∷ paired (bytes " io=") (ids_of Kind.Io ro) ∷ []))
    (omega (arith, pair-length (bytes " link=") (ids_of Kind.Link ro), pair-length (bytes " io=") (ids_of Kind.Io ro)))

-- The line of the further fields is at most 191 bytes.
pub look-length : (p : Pool) (k : Check) → length (look_text p k) ≤ 191
unfolding look_text
look-length p k =
    rw (joined_length (past_text p.roster.past ∷ check_text k ∷ causes_text p.roster ∷ []))
    (omega (arith, past-length p.roster.past, check-length k, causes-length p.roster))
