-- Lists that an object tells, or doesn't.
use Rattle.std.specs.Prelude.{◌≡◌, ℕ, ◌+◌, ◌<◌, List, [], ◌++◌, Option, IfSome, option_map}

-- a told list begins with xs, and loses them
abbrev pub Loses : {A : Type 0} → Option (List A) → Option (List A) → List A → Type 0
Loses before after xs = before ≡ option_map (λ left. xs ++ left) after

-- a told list grows by xs at its end
abbrev pub Gains : {A : Type 0} → Option (List A) → Option (List A) → List A → Type 0
Gains before after xs = after ≡ option_map (λ all. all ++ xs) before

-- a told number grows by n
abbrev pub Adds : Option ℕ → Option ℕ → ℕ → Type 0
Adds before after n = after ≡ option_map (λ m. m + n) before

-- a told list is empty
abbrev pub IsNoMore : {A : Type 0} → Option (List A) → Type 0
IsNoMore told = IfSome told (λ all. all ≡ [])

-- something is out, where it is told
abbrev pub IsOut : Option ℕ → Type 0
IsOut out = IfSome out (λ n. 0 < n)
