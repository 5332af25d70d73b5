-- Rows that are loaded one after another, numbered by their places.
use Rattle.std.proofs.Common.{◌≡◌, ℕ, zero, suc, ◌+◌, ◌<◌, List, [], ◌∷◌, ◌++◌, take, length, get_or, refl, sym, ap, ◌∙◌, subst, Option, Some, None, arith}
use Rattle.std.specs.List.{All}
use Rattle.std.proofs.lemmas.List.{take_more, length-take-le}
use Rattle.std.proofs.lemmas.List.Elements.{All-take}
use Rattle.swarm_model.specs.declared.bot_row.BotRow.{BotRow}
use Rattle.swarm_model.specs.Numbers.{AreNumbered}
use Rattle.swarm_model.specs.Effects.{no_of_bot}
use Rattle.swarm_model.specs.Finding.{is_called}
use Rattle.swarm_model.specs.Soundness.{AreNamedApart}
use Rattle.swarm_model.proofs.Numbers.{number_at}
use Rattle.pool_laws.proofs.Alike.{same_is}
use Rattle.pool_laws.proofs.Lists.{Found, each, find_is, number_within}
use Rattle.bot_registry.specs.Acting.{row_named}

-- the first ones are numbered likewise
pub numbered_take : {R : Type 0} (number_of : R → ℕ) (n place : ℕ) (rows : List R) → AreNumbered number_of n rows → AreNumbered number_of n (take place rows)
numbered_take number_of n zero rows are = tt
numbered_take number_of n (suc place) [] are = tt
numbered_take number_of n (suc place) (x ∷ rows) are = (are.0, numbered_take number_of (n + 1) place rows are.1)

-- the row at a place has the number behind those of the rows before it
pub next_number : {R : Type 0} (number_of : R → ℕ) (place : ℕ) (rows : List R) (row : R) → AreNumbered number_of 1 rows → place < length rows → row ≡ get_or rows place row →
    number_of row ≡ length (take place rows) + 1
next_number number_of place rows row are low is =
    let number : number_of row ≡ 1 + place = ap number_of is ∙ number_at number_of 1 place rows row are low in
    let few : length (take place rows) ≡ place = length-take-le place rows (omega (arith, low)) in
    omega (arith, number, few)

-- one row more of the first ones
pub more_rows : {R : Type 0} (rows : List R) (place : ℕ) (row : R) → place < length rows → row ≡ get_or rows place row → take (place + 1) rows ≡ take place rows ++ row ∷ []
more_rows {R = R} rows place row low is = take_more rows place row low ∙ ap (λ (x : R). take place rows ++ x ∷ []) (sym is)

-- no bot before it has its name
pub name_is_new : (bots : List BotRow) → AreNumbered no_of_bot 1 bots → All (λ bot. All (AreNamedApart bot) bots) bots → (place : ℕ) → place < length bots → (row : BotRow) → row ≡ get_or bots place row →
    row_named (take place bots) row.name ≡ None
name_is_new bots are named place low row is = by_found (row_named (take place bots) row.name) refl
  where
    apart : All (AreNamedApart row) (take place bots)
    apart = All-take (AreNamedApart row) place bots (subst (λ (bot : BotRow). All (AreNamedApart bot) bots) (sym is) (named place row low))

    by_found : (r : Option BotRow) → row_named (take place bots) row.name ≡ r → r ≡ None
    by_found None found = refl
    by_found (Some y) found =
        (let its : Found (is_called row.name) (take place bots) y = find_is (is_called row.name) (take place bots) y found in
        let same : row.no ≡ y.no = each (AreNamedApart row) (take place bots) apart y its.among (sym (same_is y.name row.name its.passes)) in
        let low_number = (number_within no_of_bot 1 (take place bots) (numbered_take no_of_bot 1 place bots are) y its.among).1 in
        let own = next_number no_of_bot place bots row are low is in
        absurd (omega (arith, same, low_number, own)))
