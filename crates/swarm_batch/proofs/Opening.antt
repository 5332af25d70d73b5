-- A file and its progress are read as a batch.
use Rattle.std.proofs.Common.{◌≡◌, inr, ℕ, ◌≤◌, List, [], ◌∷◌, ◌++◌, length, Option, Some, None, Ok, Err, refl, sym, ap, ◌∙◌, subst, append-nil, arith}
use Rattle.std.specs.List.{All, flat_map}
use Rattle.std.proofs.lemmas.Option.{none-some}
use Rattle.swarm_batch.specs.declared.faults.BatchRule.{BatchRule}
use Rattle.swarm_batch.specs.declared.faults.BatchFault.{BatchFault}
use Rattle.swarm_batch.specs.declared.faults.BatchFault.TheVariants as fault
use Rattle.swarm_batch.specs.declared.lines.Cut.{Cut}
use Rattle.swarm_batch.specs.declared.mark.Mark.{Mark}
use Rattle.swarm_batch.specs.Lines.{ended, IsOneLine}
use Rattle.swarm_batch.specs.Broken.{first_broken, or_in}
use Rattle.swarm_batch.specs.Reading.{count_rule, file_rule, IsRead}
use Rattle.swarm_batch.specs.Names.{batch_head}
use Rattle.swarm_batch.specs.Batches.{BatchValue}
use Rattle.swarm_batch.specs.Progress.{TellsDone}
use Rattle.swarm_batch.specs.Reopened.{IsBatchOf, IsBatchRead}

rule_parts : (size : ℕ) (cut : Cut) → file_rule size cut ≡ None → (count_rule size cut ≡ None) × (first_broken 1 cut.lines ≡ None)
rule_parts size cut e = by_count (count_rule size cut) refl e
  where
    by_count : (o : Option BatchRule) → count_rule size cut ≡ o → or_in o 0 (first_broken 1 cut.lines) ≡ None → (count_rule size cut ≡ None) × (first_broken 1 cut.lines ≡ None)
    by_count None is h = (is, h)
    by_count (Some rule) is h = elim (none-some _ (sym h)) [ ]

pub record Counts (size : ℕ) (cut : Cut) : Type 0 where
  pub size_is : size ≤ 1048576
  pub rest : length cut.rest ≡ 0
  pub some : 1 ≤ length cut.lines
  pub few : length cut.lines ≤ 4096

counts : (size : ℕ) (cut : Cut) → count_rule size cut ≡ None → Counts size cut
counts size cut e = record { size_is = grind (arith, e); rest = grind (arith, e); some = grind (arith, e); few = grind (arith, e) }

pub is_nil : (xs : List ℕ) → length xs ≡ 0 → xs ≡ []
is_nil [] e = refl
is_nil (x ∷ xs) e = absurd (omega (arith, e))

pub few_read : (text : List ℕ) (cut : Cut) → IsRead text (Ok cut) → length cut.lines ≤ 4096
few_read text cut h = (counts (length text) cut (rule_parts (length text) cut h.1).0).few

pub is_batch : (text name : List ℕ) (cut : Cut) (b : BatchValue) → IsRead text (Ok cut) → b.name ≡ name → b.head ≡ batch_head text name → b.lines ≡ cut.lines → IsBatchOf text name b
is_batch text name cut b h named head lines =
    let parts = rule_parts (length text) cut h.1 in
    let count = counts (length text) cut parts.0 in
    record {
      named = named;
      head = head;
      whole = h.0.whole ∙ ap (λ (t : List ℕ). flat_map ended cut.lines ++ t) (is_nil cut.rest count.rest) ∙ append-nil (flat_map ended cut.lines) ∙ ap (flat_map ended) (sym lines);
      apart = subst (All IsOneLine) (sym lines) h.0.lines;
      size = count.size_is;
      some = subst (λ (ls : List (List ℕ)). 1 ≤ length ls) (sym lines) count.some;
      few = subst (λ (ls : List (List ℕ)). length ls ≤ 4096) (sym lines) count.few;
      unbroken = ap (first_broken 1) lines ∙ parts.1;
    }

-- a progress that is refused
pub refused : (text name : List ℕ) (cut : Cut) (lines : List (List ℕ)) (head : List ℕ) (progress : Option (List ℕ)) (e : BatchFault) → IsRead text (Ok cut) → lines ≡ cut.lines
    → head ≡ batch_head text name → TellsDone (length lines) head progress (Err e) → IsBatchRead text name progress (Err e)
refused text name cut lines head progress fault.Memory h same is t = tt
refused text name cut lines head progress (fault.Broken line rule) h same is t =
    let b : BatchValue = record { head = head; name = name; lines = cut.lines; marks = [] } in
    inr (b, is_batch text name cut b h refl is refl, subst (λ (ls : List (List ℕ)). TellsDone (length ls) head progress (Err (fault.Broken line rule))) same t)

-- one that is told
pub opened : (text name : List ℕ) (cut : Cut) (lines : List (List ℕ)) (shown head called : List ℕ) (marks : List Mark) (done : Option (List ℕ)) → IsRead text (Ok cut) → lines ≡ cut.lines
    → shown ≡ head → head ≡ batch_head text name → called ≡ name → TellsDone (length lines) shown done (Ok marks)
    → IsBatchRead text name done (Ok (record { head = head; name = called; lines = cut.lines; marks = marks }))
opened text name cut lines shown head called marks done h same shown_is is named t = (
  is_batch text name cut (record { head = head; name = called; lines = cut.lines; marks = marks }) h named is refl,
  subst (λ (ls : List (List ℕ)). TellsDone (length ls) head done (Ok marks)) same (subst (λ (x : List ℕ). TellsDone (length lines) x done (Ok marks)) shown_is t),
)
