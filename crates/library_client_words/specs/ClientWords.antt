-- The words of a client's state, and the client of words. Any words give a client; known are those that a client is packed to.
use Rattle.std.specs.Prelude.{Bool, List, ◌∷◌, map, ℕ, eqb, get_or, drop}
use Rattle.laws_words.specs.Words.{one}
use Rattle.event_words.specs.Same.{same_to, within}
use Rattle.library_client_words.specs.PoolWords.{session_word, session_in, job_words, job_of}
use Rattle.client.specs.declared.Client.{Client}

-- the words of a client: sixteen numbers, then the sessions
unfoldable pub packed : Client → List ℕ
packed c =
    c.pool.roster.count
    ∷ c.pool.roster.version
    ∷ c.pool.roster.members
    ∷ one c.pool.roster.sync
    ∷ one c.pool.roster.past.written
    ∷ one c.pool.roster.past.assembled
    ∷ c.pool.number
    ∷ c.pool.chunks
    ∷ get_or (job_words c.pool.job) 0 0
    ∷ get_or (job_words c.pool.job) 1 0
    ∷ get_or (job_words c.pool.job) 2 0
    ∷ get_or (job_words c.pool.job) 3 0
    ∷ get_or (job_words c.pool.job) 4 0
    ∷ c.check.tick
    ∷ c.check.due
    ∷ c.check.once
    ∷ map session_word c.pool.roster.sessions

-- the client of any words
unfoldable pub unpacked : List ℕ → Client
unpacked ws =
    record {
      pool =
          record {
            roster =
                record {
                  sessions = map session_in (drop 16 ws);
                  count = get_or ws 0 0;
                  version = get_or ws 1 0;
                  members = get_or ws 2 0;
                  sync = eqb (get_or ws 3 0) 1;
                  past = record { written = eqb (get_or ws 4 0) 1; assembled = eqb (get_or ws 5 0) 1 };
                };
            job = job_of (get_or ws 8 0) (get_or ws 9 0) (get_or ws 10 0) (get_or ws 11 0) (get_or ws 12 0);
            number = within 4294967296 (get_or ws 6 0);
            chunks = get_or ws 7 0;
          };
      check =
          record {
            tick = within 4294967296 (get_or ws 13 0);
            due = within 65536 (get_or ws 14 0);
            once = within 65536 (get_or ws 15 0);
          };
    }

-- the words are those of a client
unfoldable pub known : List ℕ → Bool
known ws = same_to ws (packed (unpacked ws)) 32
