-- What a turnstile says of its passes, of what they know.
use Rattle.std.proofs.Common.{◌≡◌, ◌⊎◌, ℕ, ◌+◌, ◌<◌, ◌==◌, min, max, if◌then◌else◌, List, [], ◌∷◌, ◌++◌, refl, sym, ◌∙◌}
use mathlib.Core.List.{IsPrefix}
use Rattle.shared_doors.specs.Types.{Entry, Pass}
use Rattle.turnstile.specs.Numbers.{times, own}
use Rattle.turnstile.specs.Passes.{seen, number, numbers, made, told, turns}
use Rattle.shared_doors.specs.declared.view.Lasting.{Lasting}
use Rattle.shared_doors.specs.declared.view.PoolView.{PoolView}
use Rattle.shared_doors.specs.Joined.{by, Joins, Splits}
use Rattle.shared_doors.specs.Views.{look}

-- what a pass with these knows
abbrev pub known : ℕ → ℕ → List ℕ → ℕ → ℕ → List Entry → PoolView
known n t ns m f s = record { number = n; turns = t; numbers = ns; made = m; told = f; seen = s }

pub known_same : (n n' t t' : ℕ) (ns ns' : List ℕ) (m m' f f' : ℕ) (s s' : List Entry) → n' ≡ n → t' ≡ t → ns' ≡ ns → m' ≡ m → f' ≡ f → s' ≡ s → known n' t' ns' m' f' s' ≡ known n t ns m f s
known_same n n' t t' ns ns' m m' f f' s s' a b c d e g = rw (a, b, c, d, e, g) refl

module _ {V : Type 0} where
  pub joined_views : (p q r : Pass V Entry Lasting) → number r ≡ min (number p) (number q) → numbers r ≡ numbers p ++ numbers q
      → made r ≡ (if number p == 0 then made p else made q) → turns r ≡ turns p + turns q → told r ≡ max (told p) (told q)
      → (seen r ≡ seen p) ⊎ (seen r ≡ seen q) → IsPrefix (seen p) (seen r) → IsPrefix (seen q) (seen r)
      → ((k : ℕ) → 0 < times k (numbers p) → own by k (seen r) ≡ own by k (seen p)) → ((k : ℕ) → 0 < times k (numbers q) → own by k (seen r) ≡ own by k (seen q))
      → Joins (look p) (look q) (look r)
  joined_views p q r n ns m t f longer one two own_one own_two = record {
    number = n;
    numbers = ns;
    made = m;
    turns = t;
    told = f;
    longer = longer;
    begins_one = (one.0, sym one.1);
    begins_two = (two.0, sym two.1);
    own_one = own_one;
    own_two = own_two;
  }

  pub split_views : (p kept given : Pass V Entry Lasting) → number p ≡ 0 → number kept ≡ 0 → numbers kept ≡ numbers p → made kept ≡ made p + 1 → turns kept ≡ turns p
      → number given ≡ made p → numbers given ≡ made p ∷ [] → turns given ≡ 0
      → seen kept ≡ seen p → seen given ≡ seen p → told kept ≡ told p → told given ≡ told p → Splits (look p) (look kept) (look given)
  split_views p kept given first n ns m t gn gns gt s gs f gf = record {
    kept_is = known_same (number p) (number kept) (turns p) (turns kept) (numbers p) (numbers kept) (made p + 1) (made kept) (told p) (told kept) (seen p) (seen kept) (n ∙ sym first) t ns m f s;
    number = gn;
    numbers = gns;
    turns = gt;
    seen = gs;
    told = gf;
  }

  pub told_view : (p q : Pass V Entry Lasting) (front : ℕ) → told q ≡ front → number q ≡ number p → numbers q ≡ numbers p → made q ≡ made p → seen q ≡ seen p → turns q ≡ turns p
      → look q ≡ record (look p) { told = front }
  told_view p q front f n ns m s t =
      known_same (number p) (number q) (turns p) (turns q) (numbers p) (numbers q) (made p) (made q) front (told q) (seen p) (seen q) n t ns m f s
