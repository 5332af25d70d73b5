-- The page goes on, or ends.
use Rattle.std.proofs.Common.{◌≡◌, ◌∙◌, refl, arith}
use Rattle.swarm_model.specs.declared.reply.Reply.TheVariants as reply
use Rattle.swarm_model.specs.Answers.{reply_only}
use Rattle.pool_queries.proofs.Listed.{name_of, bots_go_on}
use Rattle.pool_queries.proofs.Pages.{page_more, page_whole, no_cursor, page_cursor}
use Rattle.pool_queries.proofs.bot_pages.list_bots.Goals as goal

pub loop-place-preserved : goal.loop-place-preserved
loop-place-preserved g c =
    let goes_on = bots_go_on (g.P.ReadQueries.state c.args.pool.now) c.sound.ensures in
    rw (c.in_ok-push-in-Some.ensures.items, c.in_ok-bot_view_of-in-Some.ensures)
    (page_more name_of c.in-Some.bot.now _ _ goes_on refl c.loop-place.invariant c.in-Some.ensures)

pub returns-in-None : goal.returns-in-None
returns-in-None g c =
    let whole = page_whole _ c.args.limit _ (omega arith) c.loop-place.invariant c.in-None.ensures in
    let cursor = no_cursor _ c.args.limit _ (omega arith) c.loop-place.invariant c.in-None.ensures in
    c.page.ensures ∙ (λ i. reply_only (reply.Bots (whole i) (cursor i)))

pub returns : goal.returns
returns g c =
    let e : c.loop-place._place ≡ c.args.limit = omega arith in
    let full = rw e at c.loop-place.invariant in
    let cursor = c.in_ok-cursor.ensures ∙ page_cursor _ _ c.requires.some full in
    c.page-2.ensures ∙ (λ i. reply_only (reply.Bots (full.shown i) (cursor i)))
