-- Parts of bytes beside one that is written.
use Rattle.std.proofs.Common.{◌≡◌, ℕ, ◌+◌, ◌-◌, ◌≤◌, ◌++◌, List, length, take, drop, sym, ap, ◌∙◌, arith, inl, inr}
use Rattle.std.proofs.lemmas.List.{drop-take, take-append-le, length-append, length-take-le, append_assoc, drop_at, take-take, drop-drop}
use Rattle.content_store.specs.Slots.{part, with_part, AreBeside}

part_front : (bytes : List ℕ) (start size : ℕ) → part start size bytes ≡ drop start (take (start + size) bytes)
part_front bytes start size = sym (drop-take start size bytes)

module _ (start : ℕ) (content bytes : List ℕ) (within : start + length content ≤ length bytes) where
  front_long : length (take start bytes) ≡ start
  front_long = length-take-le start bytes (omega arith)

  front : (n : ℕ) → n ≤ start → take n (with_part start content bytes) ≡ take n bytes
  front n low =
      let le : n ≤ length (take start bytes) = omega (arith, front_long) in
      take-append-le n (take start bytes) (content ++ drop (start + length content) bytes) le ∙ take-take n start bytes low

  back : (n : ℕ) → start + length content ≤ n → drop n (with_part start content bytes) ≡ drop n bytes
  back n high =
      let rest = n - (start + length content) in
      let e : n ≡ start + length content + rest = omega arith in
      let joined : length (take start bytes ++ content) ≡ start + length content = omega (arith, length-append (take start bytes) content, front_long) in
      let cut : drop (start + length content) (with_part start content bytes) ≡ drop (start + length content) bytes =
      ap (λ (l : List ℕ). drop (start + length content) l) (sym (append_assoc (take start bytes) content (drop (start + length content) bytes)))
      ∙ drop_at (take start bytes ++ content) (drop (start + length content) bytes) (start + length content) joined in
      ap (λ (k : ℕ). drop k (with_part start content bytes)) e
      ∙ sym (drop-drop rest (start + length content) (with_part start content bytes))
      ∙ ap (λ (l : List ℕ). drop rest l) cut
      ∙ drop-drop rest (start + length content) bytes
      ∙ ap (λ (k : ℕ). drop k bytes) (sym e)

  pub part_beside : (other size : ℕ) → AreBeside start (length content) other size → part other size (with_part start content bytes) ≡ part other size bytes
  part_beside other size beside =
      elim beside [
        | inl low ↦ part_front (with_part start content bytes) other size ∙ ap (λ (l : List ℕ). drop other l) (front (other + size) low) ∙ sym (part_front bytes other size)
        | inr high ↦ ap (λ (l : List ℕ). take size l) (back other high)
      ]

-- a part within the front of bytes is that of the front
pub part_within : (longer bytes : List ℕ) → take (length bytes) longer ≡ bytes → (other size : ℕ) → other + size ≤ length bytes → part other size longer ≡ part other size bytes
part_within longer bytes is other size low =
    part_front longer other size
    ∙ ap (λ (l : List ℕ). drop other l) (sym (take-take (other + size) (length bytes) longer low) ∙ ap (λ (l : List ℕ). take (other + size) l) is)
    ∙ sym (part_front bytes other size)
