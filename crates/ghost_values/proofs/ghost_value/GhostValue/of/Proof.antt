-- `of` makes a struct without bytes, whose ghost field is the value: a walk of its code by hand.
use Rattle.std.proofs.Common.{[], ◌∷◌, refl}
use seplogic.Ra.Ura.{Ura}
use mir.Syntax.{Fn, a_type, named}
use mir.Val.{Val, vptr, vstruct, vcons, vnil}
use mir.MapTy.{inst_fn}
use base.Logic.{SProp}
use prog.Memory.{Memory}
use prog.Routine.{Routine}
use prog.Wp.{Calls, Loops, WpFn, Tables}
use types.Logic.{Logic}
use contract.Monad.{Fun}
use contract.Running.{tables, tables_of}
use sound.WpLaws.{WpFn-mono}
use types.Kit.{‵, ◌⊛◌, raw, ◌$◌, ◌∵◌, !, qed, keep, move, split, suffices, done}
use types.Part.{agg}
use types.Run.{no_more, and_then, returns, enter}
use types.ByLocal.{alloc_all, pass_all, free_all, look_at, get, sets}
use denote.Exit.{yes}
use denote.RattleType.{RattleType, owns}
use denote.Ref.{shr_vals, shr_Tells}
use denote.Shadow.{pure_i}
use denote.Param.{param, layouts}
use denote.Signature.{plain, types_at}
use denote.Triple.Clauses.{Ended, closing}
use denote.Triple.Entry.{alive}
use denote.Triple.Spec.{triple_of}
use denote.Triple.Table.{entered}
use denote.Triple.Walked.{says, Stays, stay_none_ref, Goes-none_ref, ends_at, walked, Walks, walk_Meets}
use Rattle.ghost_values.specs.contracts.ghost_value.GhostValue as ghost_value
use Rattle.ghost_values.specs.contracts.ghost_value.GhostValue.of as of
use Rattle.ghost_values.specs.contracts.ghost_value.GhostValue.of.Key.{name as #of}
use Rattle.ghost_values.proofs.ghost_value.GhostValue.of.Statement as stated
use Rattle.ghost_values.proofs.ghost_value.GhostValue.of.Code as code

-- the machine value: a struct of one field, which has no field
abbrev made : Val
made = vstruct (vcons (vstruct vnil) vnil)

module _ (T : RattleType) where
  abbrev function : Fn
  function = inst_fn (layouts (a_type ∷ []) (T, tt)) code.function

  abbrev ended : Ended
  ended = of.ended T

  abbrev stayed : Stays ended.signature.params ended.kept
  stayed = (stay_none_ref (0 ∷ []) tt (plain (λ _. param 0 T)) yes, tt)

  walks : {M : Type 1} {𝓤 : Ura M} (𝓛 : Logic 𝓤) (mem : Memory → SProp 𝓤) (run : Routine → Fun 𝓤) (C : Calls 𝓤 𝓛.H) (Λ : Loops 𝓤 𝓛.H)
      → Walks 𝓛 ended stayed (WpFn 𝓤 𝓛.H C Λ function) (of.clauses T 𝓛 mem run)
  walks {𝓤 = 𝓤} 𝓛 mem run C Λ =
      walked 𝓛 ended stayed (of.clauses T 𝓛 mem run) (WpFn 𝓤 𝓛.H C Λ function) (λ κs. (shr_vals, tt)) (λ κs. (shr_Tells (named 0) κs.0 (param 0 T), tt)) (λ κs qs bounds a g _.
      let lent : Val = vptr a.0.ref_ptr.0 a.0.ref_ptr.1 in
      let seen : (ghost_value.the_row (param 0 T)).Denot = record { marker = record {}; value = a.0.now } in
      qed 𝓛 ((raw (alive 𝓛 ended.signature κs qs) ⊛ ‵ (owns (types_at ended.signature.params κs) a (lent ∷ [], tt))) ∷ raw ((of.clauses T 𝓛 mem run κs a).requires g) ∷ []) ∵ keep ! (0 ∷ []) $ split ! $
      enter ! C Λ function (lent ∷ []) _ $ alloc_all ! (λ l. pass_all ! refl ((tt, tt), tt) $
      sets ! (agg ! (no_more !)) refl (tt, tt) $ sets ! (agg ! (and_then ! (get ! refl) (no_more !))) refl (tt, (tt, tt)) $
      returns ! (look_at ! 0 refl) $ free_all ! refl $
      pure_i ! ((ghost_value.the_row (param 0 T)).own_val seen (made ∷ [])) ((λ vss. (tt, ((λ uss. (tt, tt)), tt))), tt) (((vstruct vnil ∷ [], tt), (refl, ((tt, (refl, tt)), tt))), tt) $
      suffices ! _ (ends_at 𝓛 ended stayed (of.clauses T 𝓛 mem run) ((κs, qs, bounds, a, (lent ∷ [], tt)), g) made seen (tt, tt) (tt, tt)) $ says ! refl $
      move ! (1 ∷ 2 ∷ 0 ∷ []) $ done !))

pub of_spec : {M : Type 1} → stated.statement M
unfolding tables_of
of_spec 𝓤 𝓛 𝓜 𝓡 wired T LT =
    let 𝓣 : Tables 𝓤 𝓛.H = tables_of 𝓤 𝓛.H 𝓜 (tables 𝓤 𝓛.H 𝓜 𝓡 𝓡.env) in
    entered 𝓤 𝓛.H (triple_of 𝓛 (ended T).signature (closing 𝓛 (ended T) (of.clauses T 𝓛 𝓜.mem 𝓡.returns))) 𝓣.C 𝓣.Λ (#of (layouts (a_type ∷ []) (T, tt))) (function T)
    (code.unfolded 𝓤 𝓛.H 𝓜 𝓡 wired (T, tt))
    (walk_Meets 𝓛 (ended T) (stayed T) (Goes-none_ref 𝓛 2 (0 ∷ []) tt (plain (λ _. param 0 T)) yes, tt) (of.clauses T 𝓛 𝓜.mem 𝓡.returns) (WpFn 𝓤 𝓛.H 𝓣.C 𝓣.Λ (function T))
    (WpFn-mono 𝓤 𝓛.H 𝓛.laws 𝓣 (function T)) (walks T 𝓛 𝓜.mem 𝓡.returns 𝓣.C 𝓣.Λ))
