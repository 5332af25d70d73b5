-- Words of a command line, a bot, and the boards of a server.
use Rattle.std.specs.Prelude.{List, [], ◌∷◌, codes}
use Rattle.clap.specs.Words.{Text}
use Rattle.command_words.specs.Commands.{BoardsValue, BotOptions}

-- a command of a client, with its server and its caller
abbrev pub asked_of : Text → List Text
asked_of command = command ∷ codes "--server" ∷ codes "http://h" ∷ codes "--caller" ∷ codes "ana" ∷ []

-- a bot with two caches of 1000000 bytes in all
abbrev pub small_bot : BotOptions
small_bot =
    record {
      server = codes "http://h";
      caller = codes "ana";
      id = codes "b1";
      pool = codes "lab";
      dimensions = [];
      tasks = 1;
      polls = 1000;
      steps = 10000000;
      caches = 2;
      cache_bytes = 1000000;
    }

-- no boards, and what each option of boards is by default
abbrev pub no_boards : BoardsValue
no_boards = record { count = 0; address = codes "127.0.0.1:8081"; connections = 1000000; every = 5; rounds = 1000000 }

-- two boards at an address, of which each round comes a minute after the last
abbrev pub two_boards : BoardsValue
two_boards = record { count = 2; address = codes "h:1"; connections = 1000000; every = 60; rounds = 1000000 }
