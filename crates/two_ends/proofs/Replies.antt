-- A reply to the present request is what the bot takes.
use Rattle.std.proofs.Common.{◌≡◌, ℕ, Bool, true, if◌then◌else◌, [], Option, Some, ap, sym, ◌∙◌}
use Rattle.std.specs.Prelude.{slice_get}
use Rattle.std.specs.Option.{option_map_or}
use Rattle.bot_core.specs.declared.bot_event.BotEvent.{BotEvent}
use Rattle.bot_worlds.specs.declared.child_run.ChildRun.{ChildRun}
use Rattle.bot_worlds.specs.declared.sent.Got.{Got}
use Rattle.bot_worlds.specs.World.{WorldState, fed}
use Rattle.bot_worlds.specs.Turns.{answered, asked_again, hear, is_present, reply_event, take_reply, told_by}

pub takes : (w : WorldState) (place m : ℕ) (g : Got) (e : BotEvent) (told : Option ChildRun) (again : Option ℕ) → slice_get w.got place ≡ Some g → is_present w.asking g.sent ≡ true →
    reply_event g.reply ≡ Some e → told ≡ told_by w g → again ≡ asked_again e w.asking → fed w e m [] told again ≡ answered w place m
takes w place m g e told again at_place present replied tells kept =
    let z : answered w place m ≡ hear w m g e =
    ap (λ (o : Option Got). option_map_or (take_reply w m) o w) at_place ∙ ap (λ (b : Bool). if b then option_map_or (hear w m g) (reply_event g.reply) w else w) present ∙
    ap (λ (o : Option BotEvent). option_map_or (hear w m g) o w) replied in
    ap (λ (run : Option ChildRun). fed w e m [] run again) tells ∙ ap (λ (x : Option ℕ). fed w e m [] (told_by w g) x) kept ∙ sym z
