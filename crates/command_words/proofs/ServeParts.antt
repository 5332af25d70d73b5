-- The options of a server, from their parts.
use Rattle.std.proofs.Common.{◌≡◌, ℕ, refl, sym, List, Some, codes}
use Rattle.clap.specs.Words.{Row, Text, first_of}
use Rattle.command_words.specs.Values.{number_at}
use Rattle.command_words.specs.Commands.{BoardsValue, boards_in, posts_in, serve, serve_in, workers_in}

pub boards_value : (rows : List Row) (count : ℕ) (address : Text) (connections every rounds : ℕ) → Some count ≡ number_at (codes "boards") 0 8 rows → Some address ≡ first_of (codes "board-address") rows
    → Some connections ≡ number_at (codes "board-connections") 1 1000000 rows → Some (every, rounds) ≡ posts_in rows
    → Some (record { count = count; address = address; connections = connections; every = every; rounds = rounds }) ≡ boards_in rows
boards_value rows count address connections every rounds a b c d = rw (sym a, sym b, sym c, sym d) refl

pub serve_value : (rows : List Row) (address : Text) (workers connections : ℕ) (boards : BoardsValue) → Some address ≡ first_of (codes "address") rows
    → Some (workers, connections) ≡ workers_in rows → Some boards ≡ boards_in rows
    → Some (serve (first_of (codes "settings") rows) address workers connections boards) ≡ serve_in rows
serve_value rows address workers connections boards a b c = rw (sym a, sym b, sym c) refl
