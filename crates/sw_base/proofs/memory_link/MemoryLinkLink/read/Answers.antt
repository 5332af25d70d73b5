use Rattle.std.proofs.Common.{◌≡◌, ◌≤◌, ℕ, List, ◌++◌, length, take, drop, ◌+◌, arith, sym, ◌∙◌, ap, rules}
use Rattle.std.proofs.lemmas.List.{take_at, take-append-drop, drop-drop, length-take-le, length-drop, drop_all}
use Rattle.std.proofs.lemmas.Grind.{common_steps}
use Rattle.sw_base.proofs.memory_link.MemoryLinkLink.read.Goals as goal

one_piece : (xs piece tail : List ℕ) (at n : ℕ) → n ≤ length (drop at xs) → piece ≡ take n (drop at xs)
    → drop at xs ≡ take n (piece ++ tail) ++ drop (at + n) xs
one_piece xs piece tail at n le e =
    let size : length piece ≡ n = ap length e ∙ length-take-le n (drop at xs) le in
    sym (take-append-drop n (drop at xs))
    ∙ ap (λ l. l ++ drop n (drop at xs)) (sym (take_at piece tail n size ∙ e))
    ∙ ap (λ l. take n (piece ++ tail) ++ l) (drop-drop n at xs)

pub returns : goal.returns
returns c = record {
  bound = search rules;
  moves = record {
    read = one_piece c.args.self.now.input.items c.copy_from_slice.new.self (drop c.min-n.result c.args.into.now) c.args.self.now.at c.min-n.result
        (omega (arith, length-drop {A = ℕ})) (grind (arith, common_steps, c.copy_from_slice.ensures.after));
    written = search rules;
    reads = omega arith;
    writes = omega arith;
    clean = λ e k. k;
  };
  end = λ none. drop_all (c.args.self.now.at + c.min-n.result) c.args.self.now.input.items (omega (arith, length-drop {A = ℕ}));
  faults = search rules;
  output = search rules;
}

pub returns-then-is_failing : goal.returns-then-is_failing
returns-then-is_failing c = search rules
