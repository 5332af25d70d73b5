-- Each row is copied, has the number behind those before it, and a name that none of them has.
use Rattle.std.proofs.Common.{◌≡◌, List, [], ◌∷◌, ◌++◌, length, take, sym, ap, ◌∙◌, arith}
use Rattle.std.proofs.lemmas.List.{length-take-le}
use Rattle.swarm_model.specs.declared.bot_row.BotRow.{BotRow}
use Rattle.swarm_model.specs.Effects.{no_of_bot}
use Rattle.bot_registry.specs.Acting.{row_named}
use Rattle.bot_registry.specs.Plain.{RegistryState}
use Rattle.common_rows.proofs.LoadedRows.{next_number, more_rows, name_is_new}
use Rattle.common_rows.proofs.loading.load_bots.Goals as goal

pub load-requires : goal.load-requires
load-requires c =
    let bots = c.args.bots.now in
    let place = c.loop-bot.bot-index in
    let i = c.loop-bot.invariant in
    let item = c.bot-item.result in
    let copied = c.in_ok-try_copy.ensures in
    let next = next_number no_of_bot place bots item c.requires.numbered c.loop-bot-test.true c.bot-item.is in
    let own : c.in_ok-try_copy.field-0.no ≡ item.no = ap no_of_bot copied in
    let so_far : length c.loop-bot.loaded.rows ≡ length (take place bots) = ap (λ (rows : List BotRow). length rows) i.rows in
    let few = c.requires.few in
    let low = c.loop-bot-test.true in
    let most = i.most in
    let fits : length (take place bots) ≡ place = length-take-le place bots (omega (arith, low)) in
    record {
      room = omega (arith, so_far, fits, few, low, most);
      next = omega (arith, next, own, so_far);
      fresh =
          (λ j. row_named (i.rows j) (copied j).name)
          ∙ name_is_new bots c.requires.numbered c.requires.named place low item c.bot-item.is;
    }

pub loop-bot-preserved : goal.loop-bot-preserved
loop-bot-preserved c =
    let i = c.loop-bot.invariant in
    let loaded = c.in_ok-load.ensures.ok in
    let copied = c.in_ok-try_copy.ensures in
    record {
      rows = ap (λ (x : RegistryState). x.rows) loaded
          ∙ (λ j. i.rows j ++ copied j ∷ [])
          ∙ sym (more_rows c.args.bots.now c.loop-bot.bot-index c.bot-item.result c.loop-bot-test.true c.bot-item.is);
      most = ap (λ (x : RegistryState). x.most) loaded ∙ i.most;
    }
