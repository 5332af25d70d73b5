-- What the tests of dimensions decide.
use Rattle.std.proofs.Common.{◌≡◌, ℕ, List, refl, ap, Bool, true, false, Option}
use Rattle.std.specs.Bool.{Decides}
use Rattle.std.specs.Prelude.{◌==◌, unwrap_or, if◌then◌else◌}
use Rattle.std.specs.Cmp.Lexicographic.{bytes_decides, pointwise}
use Rattle.std.proofs.lemmas.Slice.Eq.{slice_eq-Decides}
use Rattle.bot_registry.specs.Types.{DimSet, BotDims, Text, BotRow}
use Rattle.dimensions.specs.Alike.{same, same_pair, same_values, same_dims}
use Rattle.dimensions.proofs.Tests.{and-first, and-other, and-both}
use Rattle.swarm_model.specs.declared.entry.EntryKind.TheVariants as kind
use Rattle.swarm_model.specs.Effects.{bot_after}

pairs_decide : (a b : List ℕ × List ℕ) → Decides (same_pair a b) (a ≡ b)
pairs_decide (k, v) (l, w) = (
  λ e. (let key = (bytes_decides k l).0 (and-first (same k l) (same v w) e) in let value = (bytes_decides v w).0 (and-other (same k l) (same v w) e) in cc (key, value)),
  λ e. and-both (same k l) (same v w) ((bytes_decides k l).1 (ap (λ (p : List ℕ × List ℕ). p.0) e)) ((bytes_decides v w).1 (ap (λ (p : List ℕ × List ℕ). p.1) e)),
)

texts_decide : (a b : List (List ℕ)) → Decides (pointwise same a b) (a ≡ b)
texts_decide a b = slice_eq-Decides bytes_decides a b (pointwise same a b) refl

values_decide : (a b : List ℕ × List (List ℕ)) → Decides (same_values a b) (a ≡ b)
values_decide (k, v) (l, w) = (
  λ e. (let key = (bytes_decides k l).0 (and-first (same k l) (pointwise same v w) e) in let values = (texts_decide v w).0 (and-other (same k l) (pointwise same v w) e) in cc (key, values)),
  λ e. and-both (same k l) (pointwise same v w) ((bytes_decides k l).1 (ap (λ (p : List ℕ × List (List ℕ)). p.0) e)) ((texts_decide v w).1 (ap (λ (p : List ℕ × List (List ℕ)). p.1) e)),
)

-- what a task asks for
pub sets_alike : (a b : DimSet) → pointwise same_pair a b ≡ true → a ≡ b
sets_alike a b e = (slice_eq-Decides pairs_decide a b (pointwise same_pair a b) refl).0 e

-- what a bot has
pub bots_alike : (a b : BotDims) → same_dims a b ≡ true → a ≡ b
bots_alike a b e = (slice_eq-Decides values_decide a b (same_dims a b) refl).0 e

if_dims : (t : Bool) (x y : BotRow) → x.dims ≡ y.dims → (if t then x else y).dims ≡ y.dims
if_dims true x y e = e
if_dims false x y e = refl

-- a new session with the same dimensions
pub same_session : (moment b : ℕ) (id session : Text) (dims : BotDims) (q : Text) (bot : BotRow) → same_dims dims bot.dims ≡ true → (bot_after moment (kind.Handshake b id session dims q) bot).dims ≡ bot.dims
same_session moment b id session dims q bot same = if_dims (bot.no == b) _ bot (bots_alike dims bot.dims same)

-- a poll that leaves the dimensions
pub same_poll : (moment b : ℕ) (dims : Option BotDims) (q : Option Text) (hint : Bool) (bot : BotRow) → unwrap_or dims bot.dims ≡ bot.dims → (bot_after moment (kind.Poll b dims q hint) bot).dims ≡ bot.dims
same_poll moment b dims q hint bot same = if_dims (bot.no == b) _ bot same
