-- The grammar of the command line, as clap's definitions read it: the subcommands, the options of
-- each, their ranges and defaults, and what is required.
use Rattle.std.specs.Prelude.{◌^◌, true, codes}
use Rattle.clap.specs.Simple.{on_top}
use Rattle.clap.specs.Words.{App, new_app, with_rule, with_subcommand}
use Rattle.command_words.specs.Rules.{default_rule, number_rule, required_rule, text_rule, with_server}
use Rattle.command_words.specs.ClientWork.{with_clients}

abbrev pub session_app : App
session_app = with_rule (new_app (codes "session")) (text_rule (codes "settings"))

-- a server before its boards
abbrev pub serve_workers_app : App
serve_workers_app = with_rule (with_rule (with_rule (with_rule (new_app (codes "serve"))
    (text_rule (codes "settings")))
    (default_rule (codes "address") (codes "127.0.0.1:8080")))
    (number_rule (codes "workers") 1 32 (codes "1")))
    (number_rule (codes "connections") 1 1000000 (codes "1000000"))

-- and before what is published to them
abbrev pub serve_boards_app : App
serve_boards_app = with_rule (with_rule (with_rule serve_workers_app
    (number_rule (codes "boards") 0 8 (codes "0")))
    (default_rule (codes "board-address") (codes "127.0.0.1:8081")))
    (number_rule (codes "board-connections") 1 1000000 (codes "1000000"))

abbrev pub serve_app : App
serve_app = with_rule (with_rule serve_boards_app
    (number_rule (codes "board-every") 1 3600 (codes "5")))
    (number_rule (codes "board-rounds") 1 1000000 (codes "1000000"))

abbrev pub checkpoint_app : App
checkpoint_app = with_rule (new_app (codes "checkpoint")) (required_rule (codes "settings"))

-- a bot before its limits
abbrev pub bot_place_app : App
bot_place_app = with_rule (with_rule (with_rule (with_server (new_app (codes "bot")))
    (required_rule (codes "id")))
    (required_rule (codes "pool")))
    (default_rule (codes "dimensions") (codes ""))

-- and before those of its caches
abbrev pub bot_limits_app : App
bot_limits_app = with_rule (with_rule (with_rule bot_place_app
    (number_rule (codes "tasks") 1 1000000 (codes "1")))
    (number_rule (codes "polls") 1 1000000 (codes "1000")))
    (number_rule (codes "steps") 1 4000000000 (codes "10000000"))

abbrev pub bot_app : App
bot_app = with_rule (with_rule bot_limits_app
    (number_rule (codes "caches") 0 64 (codes "8")))
    (number_rule (codes "cache-bytes") 0 (2 ^ 40) (codes "8589934592"))

abbrev pub drill_app : App
drill_app = with_rule (with_rule (new_app (codes "drill"))
    (number_rule (codes "cycles") 1 10000 (codes "1000")))
    (number_rule (codes "start") 0 2147483647 (codes "1"))

-- the program before its subcommands: it reads the words after its own name, and needs one
abbrev pub program_app : App
program_app = on_top (λ s. record s { no_binary_name = true; subcommand_required = true }) (new_app (codes "swarm"))

abbrev pub server_app : App
server_app = with_subcommand (with_subcommand (with_subcommand program_app session_app.top) serve_app.top) checkpoint_app.top

-- the whole command line
abbrev pub swarm_app : App
swarm_app = with_subcommand (with_clients (with_subcommand server_app bot_app.top)) drill_app.top
