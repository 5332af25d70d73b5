-- The options of a bot, from their parts.
use Rattle.std.proofs.Common.{◌≡◌, ℕ, refl, sym, List, Some, codes}
use Rattle.clap.specs.Words.{Row, Text, first_of}
use Rattle.command_words.specs.Values.{client_in, number_at}
use Rattle.command_words.specs.Commands.{bot, bot_in, caches_in, limits_in, place_in}

pub bot_value : (rows : List Row) (server caller id pool dimensions : Text) (tasks polls steps caches cache_bytes : ℕ) → Some (server, caller) ≡ client_in rows → Some (id, pool) ≡ place_in rows
    → Some dimensions ≡ first_of (codes "dimensions") rows → Some (tasks, polls) ≡ limits_in rows → Some steps ≡ number_at (codes "steps") 1 4000000000 rows → Some (caches, cache_bytes) ≡ caches_in rows
    → Some (bot (record {
      server = server;
      caller = caller;
      id = id;
      pool = pool;
      dimensions = dimensions;
      tasks = tasks;
      polls = polls;
      steps = steps;
      caches = caches;
      cache_bytes = cache_bytes;
    })) ≡ bot_in rows
bot_value rows server caller id pool dimensions tasks polls steps caches cache_bytes a b c d e f = rw (sym a, sym b, sym c, sym d, sym e, sym f) refl
