use Rattle.std.proofs.lemmas.List.{take_rest}
use Rattle.link_reader.proofs.HeadLemmas.{head_at, none_behind}
use Rattle.link_reader.proofs.pending.Pending.head_length.Goals as goal

pub returns-in-Some : goal.returns-in-Some
returns-in-Some c =
    let found = rw c.as_slice.ensures at c.in-Some.ensures in
    head_at c.args.self.now c.args.from c.in-Some.at c.requires.within c.requires.searched (rw (take_rest c.args.self.now c.args.from) at found)

pub returns-in-None : goal.returns-in-None
returns-in-None c =
    let none = rw c.as_slice.ensures at c.in-None.ensures in
    none_behind c.args.self.now c.args.from c.requires.within c.requires.searched (rw (take_rest c.args.self.now c.args.from) at none)
