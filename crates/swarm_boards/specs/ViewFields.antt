-- What a view stands for, and what holds of it.
use Rattle.std.specs.Prelude.{◌≡◌, ◌≤◌, ◌<◌, ◌^◌, [], Some, IsSomeAnd}
use Rattle.std.specs.Option.{option_map_or}
use Rattle.left_right.specs.Sides.{view}
use Rattle.pool_views.specs.Views.{Known}
use Rattle.swarm_boards.specs.declared.rule.Seen.{Seen}
use Rattle.swarm_boards.specs.declared.view.View.TheInside.{Inside}

abbrev pub known_of : Inside → Known
known_of v =
    record {
      start = record { rows = v.base.value.value; count = v.count };
      seen = option_map_or (λ r. (view {V = Seen} r.place).seen) v.reader [];
      told = option_map_or (λ r. (view {V = Seen} r.place).told) v.reader [];
    }

-- the reader is there and knows the base, and the entries are few
pub record IsSeated (v : Inside) : Type 0 where
  pub reader : IsSomeAnd v.reader (λ r. (view {V = Seen} r.place).base ≡ Some v.base.value.value)
  pub few : v.base.value.value.settings.most_entries < 2 ^ 32
  pub count : v.count ≤ 2 ^ 31
