-- What the words of a command line ask for.
use Rattle.std.specs.Prelude.{◌==◌, ◌≤◌, ◌^◌, ⊤, ℕ, Bool, List, codes, length, Option, Some, None, if◌then◌else◌, option_map, option_and_then, string_bytes}
use Rattle.std.specs.Str.{bytes_eq}
use Rattle.clap.specs.Words.{Row, Text, fault_of, first_of, subcommand_of}
use Rattle.command_words.specs.Values.{both_of, client_in, number_at}
use Rattle.command_words.specs.ClientWork.{WorkValue, HasWorkRanges, work_in, work_of}
use Rattle.command_words.specs.Grammar.{swarm_app}
use Rattle.command_words.specs.declared.command.Boards.{Boards}
use Rattle.command_words.specs.declared.command.Bot.{Bot}
use Rattle.command_words.specs.declared.command.Command.{Command}
use Rattle.command_words.specs.declared.command.Command.TheVariants as command

-- the options of a bot, with their texts as bytes
pub record BotOptions : Type 0 where
  pub server : Text
  pub caller : Text
  pub id : Text
  pub pool : Text
  pub dimensions : Text
  pub tasks : ℕ
  pub polls : ℕ
  pub steps : ℕ
  pub caches : ℕ
  pub cache_bytes : ℕ

-- the boards of a server, with their address as bytes
pub record BoardsValue : Type 0 where
  pub count : ℕ
  pub address : Text
  pub connections : ℕ
  pub every : ℕ
  pub rounds : ℕ

-- a command, with its texts as bytes
pub data CommandValue : Type 0 where
  -- settings
  session : Option Text → CommandValue
  -- settings, address, workers, connections, boards
  serve : Option Text → Text → ℕ → ℕ → BoardsValue → CommandValue
  -- settings
  checkpoint : Text → CommandValue
  bot : BotOptions → CommandValue
  -- server, caller, what is done there
  client : Text → Text → WorkValue → CommandValue
  -- cycles, start
  drill : ℕ → ℕ → CommandValue

abbrev pub options_of : Bot → BotOptions
options_of b = record {
  server = string_bytes b.server;
  caller = string_bytes b.caller;
  id = string_bytes b.id;
  pool = string_bytes b.pool;
  dimensions = string_bytes b.dimensions;
  tasks = b.tasks;
  polls = b.polls;
  steps = b.steps;
  caches = b.caches;
  cache_bytes = b.cache_bytes;
}

abbrev pub boards_of : Boards → BoardsValue
boards_of b = record {
  count = b.count;
  address = string_bytes b.address;
  connections = b.connections;
  every = b.every;
  rounds = b.rounds;
}

abbrev pub value_of : Command → CommandValue
value_of (command.Session s) = session (option_map string_bytes s.settings)
value_of (command.Serve s) = serve (option_map string_bytes s.settings) (string_bytes s.address) s.workers s.connections (boards_of s.boards)
value_of (command.Checkpoint c) = checkpoint (string_bytes c.settings)
value_of (command.Bot b) = bot (options_of b)
value_of (command.Client c) = client (string_bytes c.server) (string_bytes c.caller) (work_of c.work)
value_of (command.Drill d) = drill d.cycles d.start

-- each number of a bot's options lies in its range
pub record BotRanges (b : BotOptions) : Type 0 where
  pub tasks : (1 ≤ b.tasks) × (b.tasks ≤ 1000000)
  pub polls : (1 ≤ b.polls) × (b.polls ≤ 1000000)
  pub steps : (1 ≤ b.steps) × (b.steps ≤ 4000000000)
  pub caches : b.caches ≤ 64
  pub cache_bytes : b.cache_bytes ≤ 2 ^ 40

-- each number of the boards lies in its range
pub record BoardRanges (b : BoardsValue) : Type 0 where
  pub count : b.count ≤ 8
  pub connections : (1 ≤ b.connections) × (b.connections ≤ 1000000)
  pub every : (1 ≤ b.every) × (b.every ≤ 3600)
  pub rounds : (1 ≤ b.rounds) × (b.rounds ≤ 1000000)

-- each number lies in its range
abbrev pub HasRanges : CommandValue → Type 0
HasRanges (session settings) = ⊤
HasRanges (serve settings address workers connections boards) = (1 ≤ workers) × (workers ≤ 32) × (1 ≤ connections) × (connections ≤ 1000000) × BoardRanges boards
HasRanges (checkpoint settings) = ⊤
HasRanges (bot b) = BotRanges b
HasRanges (client server caller work) = HasWorkRanges work
HasRanges (drill cycles start) = (1 ≤ cycles) × (cycles ≤ 10000) × (start ≤ 2147483647)

abbrev pub session_in : List Row → Option CommandValue
session_in rows = Some (session (first_of (codes "settings") rows))

-- how many workers there are, and how many connections each serves
abbrev pub workers_in : List Row → Option (ℕ × ℕ)
workers_in rows = both_of (number_at (codes "workers") 1 32 rows) (number_at (codes "connections") 1 1000000 rows)

-- the seconds between two rounds, and how many rounds there are
abbrev pub posts_in : List Row → Option (ℕ × ℕ)
posts_in rows = both_of (number_at (codes "board-every") 1 3600 rows) (number_at (codes "board-rounds") 1 1000000 rows)

abbrev pub boards_with : (ℕ × Text) × (ℕ × (ℕ × ℕ)) → BoardsValue
boards_with p = record {
  count = p.0.0;
  address = p.0.1;
  connections = p.1.0;
  every = p.1.1.0;
  rounds = p.1.1.1;
}

abbrev pub boards_in : List Row → Option BoardsValue
boards_in rows = option_map (λ p. boards_with p)
    (both_of (both_of (number_at (codes "boards") 0 8 rows) (first_of (codes "board-address") rows))
    (both_of (number_at (codes "board-connections") 1 1000000 rows) (posts_in rows)))

abbrev pub serve_in : List Row → Option CommandValue
serve_in rows = option_map (λ p. serve (first_of (codes "settings") rows) p.0 p.1.0.0 p.1.0.1 p.1.1)
    (both_of (first_of (codes "address") rows) (both_of (workers_in rows) (boards_in rows)))

abbrev pub checkpoint_in : List Row → Option CommandValue
checkpoint_in rows = option_map (λ settings. checkpoint settings) (first_of (codes "settings") rows)

-- the id of a bot and its pool
abbrev pub place_in : List Row → Option (Text × Text)
place_in rows = both_of (first_of (codes "id") rows) (first_of (codes "pool") rows)

-- the limits of tasks and of polls
abbrev pub limits_in : List Row → Option (ℕ × ℕ)
limits_in rows = both_of (number_at (codes "tasks") 1 1000000 rows) (number_at (codes "polls") 1 1000000 rows)

-- how many caches there may be, and of how many bytes in all
abbrev pub caches_in : List Row → Option (ℕ × ℕ)
caches_in rows = both_of (number_at (codes "caches") 0 64 rows) (number_at (codes "cache-bytes") 0 (2 ^ 40) rows)

abbrev pub bot_of : (Text × Text) × (((Text × Text) × Text) × (((ℕ × ℕ) × ℕ) × (ℕ × ℕ))) → BotOptions
bot_of p = record {
  server = p.0.0;
  caller = p.0.1;
  id = p.1.0.0.0;
  pool = p.1.0.0.1;
  dimensions = p.1.0.1;
  tasks = p.1.1.0.0.0;
  polls = p.1.1.0.0.1;
  steps = p.1.1.0.1;
  caches = p.1.1.1.0;
  cache_bytes = p.1.1.1.1;
}

abbrev pub bot_in : List Row → Option CommandValue
bot_in rows = option_map (λ p. bot (bot_of p))
    (both_of (client_in rows)
    (both_of (both_of (place_in rows) (first_of (codes "dimensions") rows))
    (both_of (both_of (limits_in rows) (number_at (codes "steps") 1 4000000000 rows)) (caches_in rows))))

abbrev pub drill_in : List Row → Option CommandValue
drill_in rows = option_map (λ p. drill p.0 p.1) (both_of (number_at (codes "cycles") 1 10000 rows) (number_at (codes "start") 0 2147483647 rows))

-- the command of a client that does this, with its server and its caller
abbrev pub client_with : List Row → Option WorkValue → Option CommandValue
client_with rows work = option_map (λ p. client p.0.0 p.0.1 p.1) (both_of (client_in rows) work)

-- the command of a subcommand's name and what its words gave
abbrev pub command_in : Text → List Row → Option CommandValue
command_in name rows =
    if bytes_eq name (codes "session") then session_in rows
    else (if bytes_eq name (codes "serve") then serve_in rows
    else (if bytes_eq name (codes "checkpoint") then checkpoint_in rows
    else (if bytes_eq name (codes "bot") then bot_in rows
    else (if bytes_eq name (codes "drill") then drill_in rows
    else client_with rows (work_in name rows)))))

-- the grammar takes the words
abbrev pub are_taken : List Text → Bool
are_taken words = length (fault_of swarm_app words) == 0

-- the command that the words ask for, where the grammar takes them
abbrev pub command_of : List Text → Option CommandValue
command_of words = if are_taken words then option_and_then (λ p. command_in p.0 p.1) (subcommand_of swarm_app words) else None
