-- The words of a history, each with its name.
use Rattle.std.specs.Prelude.{ℕ, List, [], ◌∷◌, Option, Some, None}
use Rattle.laws_words.specs.Words.{pick}
use Rattle.text_bytes.specs.Bytes.{bytes, eq_bytes}
use Rattle.text_words.specs.declared.names.Name.{Name}

abbrev pub words : List (List ℕ × Name)
words =
    (bytes "pool", Name.Pool) ∷
    (bytes "auto", Name.Auto) ∷
    (bytes "join_create", Name.JoinCreate) ∷
    (bytes "join_assemble", Name.JoinAssemble) ∷
    (bytes "enable", Name.Enable) ∷
    (bytes "maintenance", Name.Maintenance) ∷
    (bytes "link_down", Name.LinkDown) ∷
    (bytes "store_check", Name.StoreCheck) ∷
    (bytes "try", Name.Try) ∷
    (bytes "remove", Name.Remove) ∷
    (bytes "write", Name.Write) ∷
    (bytes "synced", Name.Synced) ∷
    (bytes "answer", Name.Answer) ∷
    (bytes "node", Name.Node) ∷
    (bytes "deliver", Name.Deliver) ∷
    (bytes "poke", Name.Poke) ∷
    (bytes "register_create", Name.RegisterCreate) ∷
    (bytes "register_add", Name.RegisterAdd) ∷
    (bytes "unregister", Name.Unregister) ∷
    (bytes "leave", Name.Leave) ∷
    (bytes "enable1", Name.Enable1) ∷
    (bytes "enable0", Name.Enable0) ∷
    (bytes "fault", Name.Fault) ∷
    (bytes "map_ready", Name.MapReady) ∷
    (bytes "give_part", Name.GivePart) ∷
    (bytes "take", Name.Take) ∷
    (bytes "map_done", Name.MapDone) ∷
    (bytes "map_disable", Name.MapDisable) ∷
    (bytes "map_get_ver", Name.MapGetVer) ∷
    (bytes "last_io", Name.LastIo) ∷
    (bytes "pool_info", Name.PoolInfo) ∷
    (bytes "client", Name.Client) ∷
    (bytes "row", Name.Row) ∷
    (bytes "staging", Name.Staging) ∷
    (bytes "byte", Name.Byte) ∷
    (bytes "staging_byte", Name.StagingByte) ∷
    (bytes "lend", Name.Lend) ∷
    (bytes "lend_staging", Name.LendStaging) ∷
    (bytes "poke_node", Name.PokeNode) ∷
    (bytes "session", Name.Session) ∷
    (bytes "version", Name.Version) ∷
    (bytes "count", Name.Count) ∷
    (bytes "chunks", Name.Chunks) ∷
    (bytes "members", Name.Members) ∷
    (bytes "take_part", Name.TakePart) ∷
    (bytes "cut", Name.Cut) ∷
    (bytes "poke_got", Name.PokeGot) ∷
    (bytes "look", Name.Look) ∷
    (bytes "written", Name.Written) ∷
    (bytes "assembled", Name.Assembled) ∷
    (bytes "rejoin", Name.Rejoin) ∷
    (bytes "fill", Name.Fill) ∷
    (bytes "extend", Name.Extend) ∷
    (bytes "tick", Name.Tick) ∷
    (bytes "check_answer", Name.CheckAnswer) ∷
    (bytes "map_check", Name.MapCheck) ∷
    (bytes "deliver_check", Name.DeliverCheck) ∷
    (bytes "due", Name.Due) ∷
    (bytes "once", Name.Once) ∷
    (bytes "record", Name.Record) ∷
    (bytes "next", Name.Next) ∷
    (bytes "summary", Name.Summary) ∷
    []

-- the name of the first word of the table that is w
abbrev pub named : List (List ℕ × Name) → List ℕ → Option Name
named [] w = None
named (k ∷ table) w = pick (eq_bytes w k.0) (Some k.1) (named table w)

-- The name of a word, None for any other bytes.
unfoldable pub name_of : List ℕ → Option Name
name_of w = named words w
