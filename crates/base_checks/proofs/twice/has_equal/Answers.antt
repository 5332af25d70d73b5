-- Two that stand side by side are two.
use Rattle.std.proofs.Common.{◌≡◌, ◌-◌, ◌<◌, false, get_or, length, sym, ap, ◌∙◌, arith}
use Rattle.std.specs.Ordering.{is_eq}
use Rattle.std.proofs.lemmas.List.{get_or_default}
use Rattle.base_checks.proofs.twice.has_equal.Goals as goal

pub loop-place-init : goal.loop-place-init
loop-place-init g c = λ k d low. absurd (omega (arith, low))

pub returns-then-is_eq : goal.returns-then-is_eq
returns-then-is_eq g c = λ distinct.
    let keys = c.args.keys.now in
    let x = c.index-keys-place.result in
    let y = c.index-keys-place-in-loop-place.result in
    let one = c.loop-place.auto.place in
    let low : c.loop-place.place < length keys = c.loop-place-test.true in
    let there : get_or keys c.loop-place.place x ≡ y = get_or_default keys c.loop-place.place x y low ∙ sym c.index-keys-place-in-loop-place.is in
    let miss : is_eq (g.K.Ord.cmp x y) ≡ false =
    ap (λ z. is_eq (g.K.Ord.cmp z y)) c.index-keys-place.is ∙ ap (λ z. is_eq (g.K.Ord.cmp (get_or keys (c.loop-place.place - 1) x) z)) (sym there)
    ∙ distinct (c.loop-place.place - 1) c.loop-place.place x (omega (arith, one)) low in
    let hit = c.if-is_eq.ensures in
    let told = c.cmp.ensures in
    cc (miss, hit, told)
