-- Which of the three cases holds, and how its run begins.
use Rattle.rules_pool.specs.declared.Run.{Run}
use Rattle.std.specs.Prelude.{false, ◌||◌, not, ℕ, eqb, ltb, Option, Some, None}
use Rattle.laws_words.specs.Words.{pick}
use Rattle.rules_base.specs.Limits.{version_limit}
use Rattle.rules_base.specs.Sets.{has, without, lowest}
use Rattle.rules_pool.specs.declared.Step.{Step}
use Rattle.rules_pool.specs.declared.Phase.{Phase}
use Rattle.rules_pool.specs.declared.Roster.{Roster}
use Rattle.rules_pool.specs.declared.Kind.{Kind}
use Rattle.rules_pool.specs.Sessions.{ids_of}

-- a run begins, with no answer taken yet
abbrev pub start : Phase → ℕ → ℕ → Option Run
start p source left = Some (record { phase = p; source = source; left = left; taken = 0 })

-- 1: some session NORMAL and a candidate exists. Source: lowest NORMAL id; receivers: the candidates.
abbrev pub case1 : ℕ → ℕ → Option Run
case1 normals candidates = pick (eqb candidates 0) None (start (Phase.Spread Step.Ready) (lowest normals) candidates)

-- 2: none NORMAL, and the last authoritative session is a candidate. It is the source; the other candidates receive.
abbrev pub case2 : ℕ → ℕ → Option Run
case2 marked candidates =
    pick (has candidates (lowest marked)) (start (Phase.Enable false) (lowest marked) (without candidates (lowest marked))) None

-- 3: none NORMAL, none marked, membership not empty, every member's session a candidate. All are asked for their version.
abbrev pub case3 : ℕ → ℕ → Option Run
case3 members strays = pick (eqb members 0 || not (eqb strays 0)) None (start (Phase.Versions 0) (lowest members) members)

unfoldable pub case_of : ℕ → ℕ → ℕ → ℕ → ℕ → Option Run
case_of normals candidates marked strays members =
    pick (not (eqb normals 0)) (case1 normals candidates)
    (pick (not (eqb marked 0)) (case2 marked candidates)
    (case3 members strays))

-- A run begins exactly when the version is at most 2^63 - 34 and one case holds.
unfoldable pub begun : Roster → Option Run
begun ro =
    pick (ltb version_limit ro.version) None
    (case_of (ids_of Kind.Normals ro) (ids_of Kind.Candidates ro) (ids_of Kind.Marked ro) (ids_of (Kind.Strays ro.members) ro) ro.members)
