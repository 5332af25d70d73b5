-- Passes of the turnstiles of one server are those of each server with these identities and these settings.
use Rattle.std.proofs.Common.{◌≡◌, ℕ, ◌<◌, Bool, List, [], length, get_or, arith, ap, sym, subst, ◌∙◌, Option}
use Rattle.std.specs.List.{All}
use Rattle.std.proofs.lemmas.List.{get_or-map, get_or_default, length-map}
use Rattle.shared_doors.specs.Types.{Entry, PoolSettings, Settings, Pass, Turnstile}
use Rattle.swarm_model.specs.Bases.{Base, empty_base}
use Rattle.turnstile.specs.Passes.{fixed_of, identity_of}
use Rattle.turnstile.proofs.Identity.{IsPassOf-identity}
use Rattle.shared_doors.specs.declared.view.Lasting.{Lasting}
use Rattle.shared_doors.specs.declared.view.PoolView.{PoolView}
use Rattle.shared_doors.specs.Lasting.{start_in, IsStanding}
use Rattle.shared_doors.specs.SharedDoors.{identities_of, pools_of, shared_door}
use Rattle.shared_doors.specs.Views.{AreOf}

-- of standing machines the settings tell all that never changes
same_lasting : (a b : Lasting) → a.settings ≡ b.settings → IsStanding a → IsStanding b → a ≡ b
same_lasting a b settings one two =
    let starts : start_in a ≡ start_in b = one.2 ∙ (ap empty_base settings ∙ sym two.2) in
    ap (λ (s : PoolSettings). record a { settings = s }) settings ∙ (ap (λ (w : Bool). record a { settings = b.settings; is_whole = w }) (one.1 ∙ sym two.1)
    ∙ ap (λ (start : Base). record b { rows = start.rows; count = start.count }) starts)

module _ {V : Type 0} (fixed : V → Lasting) (ts us : List (Turnstile V Entry Lasting)) (logs : identities_of ts ≡ identities_of us) (pools : pools_of fixed ts ≡ pools_of fixed us) where
  counted : length us ≡ length ts
  counted = sym (length-map us (λ (t : Turnstile V Entry Lasting). (fixed_of fixed t).settings)) ∙ ap length (sym pools) ∙ length-map ts (λ (t : Turnstile V Entry Lasting). (fixed_of fixed t).settings)

  identity_at : (i : ℕ) (t u : Turnstile V Entry Lasting) → i < length ts → t ≡ get_or ts i t → u ≡ get_or us i u → identity_of t ≡ identity_of u
  identity_at i t u low at there =
      ap identity_of at ∙ sym (get_or-map (λ (t : Turnstile V Entry Lasting). identity_of t) ts i t [] low) ∙ ap (λ (f : ℕ → List ℕ). f i) logs
      ∙ get_or-map (λ (t : Turnstile V Entry Lasting). identity_of t) us i u [] (omega (arith, low, counted)) ∙ ap identity_of (sym there)

  settings_at : (i : ℕ) (t u : Turnstile V Entry Lasting) → i < length ts → t ≡ get_or ts i t → u ≡ get_or us i u → (fixed_of fixed t).settings ≡ (fixed_of fixed u).settings
  settings_at i t u low at there =
      let f : Turnstile V Entry Lasting → PoolSettings = λ t. (fixed_of fixed t).settings in
      ap f at ∙ sym (get_or-map f ts i t (f t) low) ∙ ap (λ (l : List PoolSettings). get_or l i (f t)) pools
      ∙ get_or-map f us i u (f t) (omega (arith, low, counted)) ∙ ap f (sym there)

  pub are_of_same : (ps : List (Option (Pass V Entry Lasting))) → All (λ t. IsStanding (fixed_of fixed t)) ts → All (λ t. IsStanding (fixed_of fixed t)) us → AreOf fixed ts ps → AreOf fixed us ps
  are_of_same ps one two own = record {
    count = own.count ∙ sym counted;
    whole = own.whole;
    each = λ i u p low at here.
        let inside : i < length ts = omega (arith, low, counted) in
        let t : Turnstile V Entry Lasting = get_or ts i u in
        let is : t ≡ get_or ts i t = get_or_default ts i u t inside in
        IsPassOf-identity fixed t u p (identity_at i t u inside is at)
        (same_lasting (fixed_of fixed t) (fixed_of fixed u) (settings_at i t u inside is at) (one i u inside) (standing u i low at))
        (own.each i t p inside is here);
  }
    where
      standing : (u : Turnstile V Entry Lasting) (i : ℕ) → i < length us → u ≡ get_or us i u → IsStanding (fixed_of fixed u)
      standing u i low at = subst (λ (t : Turnstile V Entry Lasting). IsStanding (fixed_of fixed t)) (sym at) (two i u low)

-- a door whose settings and logs are a server's is a door of that server
pub door_same : (store other : Option (List ℕ)) (pools more : List PoolSettings) (logs ids : ℕ → List ℕ) (vs : List PoolView)
    → (shared_door store pools logs vs).settings ≡ record { store = other; pools = more } → logs ≡ ids → shared_door store pools logs vs ≡ shared_door other more ids vs
door_same store other pools more logs ids vs settings same =
    ap (λ (s : Settings). shared_door s.store s.pools logs vs) settings ∙ ap (λ (l : ℕ → List ℕ). shared_door other more l vs) same
