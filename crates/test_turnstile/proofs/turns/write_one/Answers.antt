-- The item is written and raised, or the journal stays.
use Rattle.std.proofs.Common.{[], ◌∷◌, ◌++◌, length, sym, ap, ◌∙◌, arith}
use Rattle.turnstile.specs.Passes.{fixed_of}
use Rattle.turnstile.proofs.Lending.{IsTurn-turn_with, Holds-turn_with, Holds-one}
use Rattle.test_turnstile.specs.declared.journal.Journal.{Journal}
use Rattle.test_turnstile.specs.declared.journal.Entry.{Entry}
use Rattle.test_turnstile.proofs.turns.write_one.Goals as goal

pub returns-in_err-write-clause-ready : goal.returns-in_err-write-clause-ready
returns-in_err-write-clause-ready c =
    let r = c.requires.ready in
    let t = c.args.turn.now in
    let is = c.value.ensures.value in
    let same = Holds-one t r.1.0 c.value.result.now r.1.1 is in (
      IsTurn-turn_with _ t c.write.new.self r.0,
      (
        c.write.new.self,
        Holds-turn_with t c.value.result.now c.write.new.self is,
        c.in_err-write.ensures.unchanged ∙ (ap (λ (j : Journal). j.entries.items) (sym same) ∙ r.1.2),
        c.write.ensures.title ∙ (ap (λ (j : Journal). j.title) (sym same) ∙ r.1.3),
      ),
    )

pub raise-requires-clause-grown : goal.raise-requires-clause-grown
raise-requires-clause-grown c =
    let r = c.requires.ready in
    let t = c.args.turn.now in
    let is = c.value.ensures.value in
    let same = Holds-one t r.1.0 c.value.result.now r.1.1 is in
    let entry : Entry = record { pass = c.number-number.result; item = c.args.item } in (
      c.write.new.self,
      entry,
      Holds-turn_with t c.value.result.now c.write.new.self is,
      c.in_ok-write.ensures.written ∙ ap (λ es. es ++ entry ∷ []) (ap (λ (j : Journal). j.entries.items) (sym same) ∙ r.1.2),
      c.number-number.ensures,
    )

pub raise-requires-clause-short : goal.raise-requires-clause-short
raise-requires-clause-short c =
    let r = c.requires.ready in
    let t = c.args.turn.now in
    let same = Holds-one t r.1.0 c.value.result.now r.1.1 c.value.ensures.value in
    omega (arith, c.in_ok-write.ensures.room, ap length (ap (λ (j : Journal). j.entries.items) (sym same) ∙ r.1.2))

pub returns-clause-ready : goal.returns-clause-ready
returns-clause-ready c =
    let r = c.requires.ready in
    let t = c.args.turn.now in
    let is = c.value.ensures.value in
    let same = Holds-one t r.1.0 c.value.result.now r.1.1 is in
    let holds = c.raise.ensures.raised c.write.new.self (Holds-turn_with t c.value.result.now c.write.new.self is) in (
      c.raise.ensures.turn,
      (
        c.write.new.self,
        holds.0,
        sym holds.1,
        c.write.ensures.title ∙ (ap (λ (j : Journal). j.title) (sym same) ∙ (r.1.3 ∙ ap (fixed_of (λ (j : Journal). j.title)) (sym c.raise.ensures.lock))),
      ),
    )
