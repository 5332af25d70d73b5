-- The name in the middle tells in which half the search goes on.
use Rattle.std.proofs.Common.{◌+◌, ◌-◌, ◌/◌, ◌≤◌, ◌<◌, List, ℕ, length, map, sym, ap, ◌∙◌, arith}
use Rattle.std.proofs.lemmas.List.{length-map}
use Rattle.blob_rows.specs.Digests.{digest_cmp}
use Rattle.blob_rows.proofs.Texts.{equal_text}
use Rattle.content_store.specs.Slots.{digest_of}
use Rattle.content_store.proofs.Found.{key_at, between_all, between_higher, between_lower, belongs_between}
use Rattle.content_store.proofs.searching.place_of.Goals as goal

pub loop-low-init : goal.loop-low-init
loop-low-init c =
    let slots = c.args.slots.now.items in
    between_all (map digest_of slots) c.args.digest.now c.len-high.result (omega (arith, c.len-high.ensures, length-map slots digest_of))

pub index-requires : goal.index-requires
index-requires c =
    let slots = c.args.slots.now.items in
    omega (arith, c.loop-low.invariant.within, length-map slots digest_of, c.loop-low-test.true)

pub loop-low-preserved-in-Less : goal.loop-low-preserved-in-Less
loop-low-preserved-in-Less c =
    let slots = c.args.slots.now.items in
    let low = c.loop-low.low in
    let high = c.loop-low.high in
    let middle = low + (high - low) / 2 in
    let slot = c.index.result.now in
    let from : low ≤ middle = omega arith in
    let under : middle < high = omega (arith, c.loop-low-test.true) in
    let far : middle < length slots = omega (arith, under, c.loop-low.invariant.within, length-map slots digest_of) in
    between_higher (map digest_of slots) c.args.digest.now c.requires low high middle c.loop-low.invariant from under
    (ap (λ (t : List ℕ). digest_cmp t c.args.digest.now) (key_at slots middle slot far ∙ sym (ap digest_of c.index.ensures)) ∙ sym c.cmp.ensures ∙ c.in-Less.is)

pub returns-in-Equal : goal.returns-in-Equal
returns-in-Equal c =
    let slots = c.args.slots.now.items in
    let low = c.loop-low.low in
    let high = c.loop-low.high in
    let middle = low + (high - low) / 2 in
    let slot = c.index.result.now in
    let far : middle < length slots = omega (arith, c.loop-low-test.true, c.loop-low.invariant.within, length-map slots digest_of) in
    record {
      within = omega (arith, far, length-map slots digest_of);
      is = key_at slots middle slot far ∙ sym (ap digest_of c.index.ensures) ∙ equal_text slot.digest c.args.digest.now (sym c.cmp.ensures ∙ c.in-Equal.is);
    }

pub loop-low-preserved : goal.loop-low-preserved
loop-low-preserved c =
    let slots = c.args.slots.now.items in
    let low = c.loop-low.low in
    let high = c.loop-low.high in
    let middle = low + (high - low) / 2 in
    let slot = c.index.result.now in
    let from : low ≤ middle = omega arith in
    let under : middle < high = omega (arith, c.loop-low-test.true) in
    let far : middle < length slots = omega (arith, under, c.loop-low.invariant.within, length-map slots digest_of) in
    between_lower (map digest_of slots) c.args.digest.now c.requires low high middle c.loop-low.invariant from under
    (ap (λ (t : List ℕ). digest_cmp t c.args.digest.now) (key_at slots middle slot far ∙ sym (ap digest_of c.index.ensures)) ∙ sym c.cmp.ensures ∙ c.in-Greater.is)

pub returns : goal.returns
returns c =
    let met : c.loop-low.high ≤ c.loop-low.low = omega (arith, c.loop-low-test.false) in
    belongs_between (map digest_of c.args.slots.now.items) c.args.digest.now c.loop-low.low c.loop-low.high met c.loop-low.invariant
