-- The rows, the log and the bytes after a commit are those of the entry, and so are the records.
use Rattle.std.proofs.Common.{◌≡◌, ℕ, List, Some, length}
use Rattle.sha2.specs.Sha256.{sha256}
use Rattle.swarm_model.specs.Bytes.{brings}
use Rattle.pool_laws.proofs.MachineLaws.{is_sound}
use Rattle.swarm_history.proofs.Additions.{adds_from, adds_held, adds_filled, adds_records, adds_no_others, base_kept}
use Rattle.swarm_history.proofs.Bringing.{still_some, still_such}
use Rattle.swarm_history.proofs.adding.add_entry.Goals as goal

pub returns-clause-added : goal.returns-clause-added
returns-clause-added g c = adds_from _ _ _ _ _ c.in-Ok.ensures.ok c.commit.ensures.added c.length-length.ensures.history

pub returns-clause-held : goal.returns-clause-held
returns-clause-held g c =
    let k = g.M.Machine.kept c.args.machine.now in
    adds_held k _ _ c.args.entry _ c.in-Ok.ensures.ok c.commit.ensures.added (is_sound k c.requires.history) c.requires.held
    (λ new. still_some (λ b. b.now) c.args.bytes (c.requires.whole new))

pub returns-clause-records : goal.returns-clause-records
returns-clause-records g c =
    adds_records (g.M.Machine.kept c.args.machine.now) _ _ c.args.entry _ (g.K.Keeper.tables c.args.keeper.now) _ c.in-Ok.ensures.ok c.commit.ensures.added c.in_ok-keep.ensures.keeps
    (λ new. still_some (λ b. b.now) c.args.bytes (c.requires.whole new)) c.requires.records

pub returns-clause-no_other_blobs : goal.returns-clause-no_other_blobs
returns-clause-no_other_blobs g c =
    let k = g.M.Machine.kept c.args.machine.now in
    adds_no_others k _ _ c.args.entry _ (g.K.Keeper.tables c.args.keeper.now) _ c.in-Ok.ensures.ok c.commit.ensures.added c.in_ok-keep.ensures.keeps
    c.requires.history (is_sound k c.requires.history) c.requires.follows

pub returns-clause-filled : goal.returns-clause-filled
returns-clause-filled g c =
    let k = g.M.Machine.kept c.args.machine.now in
    adds_filled k _ _ c.args.entry _ c.in-Ok.ensures.ok c.commit.ensures.added (is_sound k c.requires.history) c.length-length.ensures.history
    (λ new. still_some (λ b. b.now) c.args.bytes (c.requires.whole new))
    (still_such (λ b. b.now) (λ (b : List ℕ). brings c.args.entry.kind ≡ Some (sha256 b, length b)) c.args.bytes c.requires.brings)

pub returns-clause-base : goal.returns-clause-base
returns-clause-base g c = base_kept _ c.args.entry _ (g.K.Keeper.tables c.args.keeper.now) _ c.in_ok-keep.ensures.keeps
