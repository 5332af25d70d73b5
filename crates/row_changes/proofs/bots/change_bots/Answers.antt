-- Any other entry leaves the rows.
use Rattle.std.proofs.Common.{map-id, sym, inl, inr}
use Rattle.row_changes.proofs.bots.change_bots.Goals as goal

pub returns-in-Slice : goal.returns-in-Slice
returns-in-Slice c =
    let stays = sym (map-id c.args.bots.now.items) in
    elim c.in-Slice.is [
      | inl slice ↦ rw slice.2 stays
      | inr others ↦ elim others [
        | inl blob ↦ rw blob.2 stays
        | inr others ↦ elim others [
          | inl new ↦ rw new.6 stays
          | inr others ↦ elim others [
            | inl cancel ↦ rw cancel.1 stays
            | inr others ↦ elim others [
              | inl kill ↦ rw kill.1 stays
              | inr put ↦ rw put.2 stays
            ]
          ]
        ]
      ]
    ]
