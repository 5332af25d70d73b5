use Rattle.std.proofs.Common.{◌∙◌, ◌≡◌, ap, subst, map, string_bytes, Global}
use Rattle.std.proofs.lemmas.Result.{IfOk-weaker}
use Rattle.clap.specs.Words.{app_of, is_simple, subcommand_of, fault_of, is_simple_and_free, FailsBy}
use Rattle.command_words.specs.Grammar.{swarm_app}
use Rattle.command_words.proofs.Found.{taken_of, refused_of}
use Rattle.command_words.proofs.program.matched.Goals as goal

pub returns-clause-found : goal.returns-clause-found
returns-clause-found c =
    let app : app_of c.in_ok-command.command ≡ swarm_app = c.in_ok-command.ensures.app in
    let words = map (string_bytes {Z = Global}) c.args.words.now in
    IfOk-weaker c.try_get_matches_from.result _ _ (λ m h. (h (ap is_simple app)).1 ∙ ap (λ a. subcommand_of a words) app) c.try_get_matches_from.ensures.matches

pub returns-clause-taken : goal.returns-clause-taken
returns-clause-taken c =
    let app : app_of c.in_ok-command.command ≡ swarm_app = c.in_ok-command.ensures.app in
    let words = map (string_bytes {Z = Global}) c.args.words.now in
    taken_of c.try_get_matches_from.result (fault_of swarm_app words) (subst (λ a. FailsBy (fault_of a words) c.try_get_matches_from.result) app (c.try_get_matches_from.ensures.kinds (ap is_simple_and_free app)))

pub returns-clause-refused : goal.returns-clause-refused
returns-clause-refused c =
    let app : app_of c.in_ok-command.command ≡ swarm_app = c.in_ok-command.ensures.app in
    let words = map (string_bytes {Z = Global}) c.args.words.now in
    refused_of c.try_get_matches_from.result (fault_of swarm_app words) (subst (λ a. FailsBy (fault_of a words) c.try_get_matches_from.result) app (c.try_get_matches_from.ensures.kinds (ap is_simple_and_free app)))
