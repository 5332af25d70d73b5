-- A request that is refused adds no entry.
use Rattle.std.proofs.Common.{◌≡◌, ℕ, true, false, List, Option, Some, None, refl, ap, sym, subst, ◌∙◌}
use Rattle.std.specs.Option.{option_map}
use Rattle.std.proofs.lemmas.Bool.{false≢true}
use Rattle.pool_laws.specs.Types.{PoolState, EntryKind, Request, Rule, Reply, Decision}
use Rattle.swarm_model.specs.declared.reply.Reply.TheVariants as reply
use Rattle.swarm_model.specs.Answers.{decide, entry_at}
use Rattle.swarm_model.specs.RefusalLaw.{RefusalsAddNothing}
use Rattle.pool_laws.proofs.Decisions.{BringsNone, IsPlain, is_refusal, of_each}

-- where it is a refusal, it adds nothing
abbrev pub Quiet : Decision → Type 0
Quiet decision = (why : Rule) → decision.reply ≡ reply.No why → decision.entry ≡ None

none_added : (o : Option EntryKind) → BringsNone true o → o ≡ None
none_added None none = refl
none_added (Some k) none = absurd none

plain_quiet : (decision : Decision) → IsPlain decision → Quiet decision
plain_quiet decision plain why is = none_added decision.entry (subst (λ (r : Reply). BringsNone (is_refusal r) decision.entry) is plain.1)

-- a reply that is no refusal
quiet_reply : (r : Reply) (entry : Option EntryKind) → is_refusal r ≡ false → Quiet (record { reply = r; entry = entry })
quiet_reply r entry is = λ why e. absurd (false≢true (sym is ∙ ap is_refusal e))

pub quiet : (s : PoolState) (who : List ℕ) (moment : ℕ) (request : Request) → Quiet (decide s who moment request)
quiet s who moment request =
    of_each s Quiet plain_quiet who moment request (record {
      result = λ number try_no task asked is. quiet_reply _ _ refl;
      tasks = λ wanted limit below. quiet_reply _ _ refl;
      stdout = λ from to state chunks has. quiet_reply _ _ refl;
      blob = λ digest blob is. quiet_reply _ _ refl;
      update = λ name number tried b t try_no chunk last attempt is. quiet_reply _ _ refl;
      put = λ named actual size is same. quiet_reply _ _ refl;
    })

-- so it is with the entry of an answer
pub refusals_add_nothing : RefusalsAddNothing
refusals_add_nothing s who moment pass request why e = ap (option_map (entry_at moment pass)) (quiet s who moment request why e)
