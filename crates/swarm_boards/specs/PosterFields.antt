-- What a poster stands for, and what holds of it.
use Rattle.std.specs.Prelude.{◌≡◌, ◌≤◌, ◌<◌, ◌^◌, [], ◌++◌, length, drop, IsSomeAnd}
use Rattle.std.specs.Option.{option_map_or}
use Rattle.left_right.specs.Sides.{view}
use Rattle.row_copies.specs.Kept.{kept_of}
use Rattle.swarm_boards.specs.declared.poster.Poster.TheInside.{Inside}
use Rattle.swarm_boards.specs.declared.rule.Seen.{Seen}
use Rattle.swarm_boards.specs.Posted.{Posted, IsPosted}

abbrev pub posted_of : Inside → Posted
posted_of p =
    record {
      start = record { rows = p.base.value; count = p.count };
      published = option_map_or (λ w. (view {V = Seen} w.desk.place).seen) p.writer [];
      pending = option_map_or (λ w. drop w.behind w.log.items) p.writer [];
    }

-- the writer is there, and the entries are few and counted
pub record IsDesk (p : Inside) : Type 0 where
  pub writer : IsSomeAnd p.writer (λ w. IsPosted p.base.value (kept_of w.desk.shown.value) (view {V = Seen} w.desk.place) (drop w.behind w.log.items))
  pub length : p.length ≡ length ((posted_of p).published ++ (posted_of p).pending)
  pub few : p.base.value.settings.most_entries < 2 ^ 32
  pub count : p.count ≤ 2 ^ 31
