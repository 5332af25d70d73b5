-- Readings: a value, or the first rule that is broken.
use Rattle.std.specs.Prelude.{◌≡◌, ◌≢◌, ℕ, ◌+◌, List, [], ◌∷◌, ◌++◌, Option, None, if◌then◌else◌, Result, Ok, Err, codes}
use Rattle.std.specs.Str.{is_utf8}
use Rattle.serde_json.specs.Data.{Data}
use Rattle.serde_json.specs.Read.{read}
use Rattle.task_props.specs.declared.prop_rule.PropRule.{PropRule}
use Rattle.task_props.specs.declared.prop_fault.PropFault.{PropFault}
use Rattle.task_props.specs.declared.prop_fault.PropFault.TheVariants as fault

-- the value that a body is, where it is UTF-8 and JSON
abbrev pub reading : List ℕ → Option Data
reading body = if is_utf8 body then read body else None

-- what a function gave, seen by a view, is what the reading gives
abbrev pub Gives : {X Y E : Type 0} → (X → Y) → Result X E → Result Y E → Type 0
Gives view (Ok x) reading = reading ≡ Ok (view x)
Gives view (Err e) reading = reading ≡ Err e

-- the same, but for want of memory
abbrev pub GivesUnlessMemory : {X Y : Type 0} → (X → Y) → Result X PropFault → Result Y PropFault → Type 0
GivesUnlessMemory view (Ok x) reading = reading ≡ Ok (view x)
GivesUnlessMemory view (Err e) reading = e ≢ fault.Memory → reading ≡ Err e

abbrev pub Reads : {A : Type 0} → Result A PropFault → Result A PropFault → Type 0
Reads result reading = GivesUnlessMemory (λ x. x) result reading

-- the value goes on into the next reading
infixl 10 ◌>>=◌
abbrev pub ◌>>=◌ : {A B E : Type 0} → Result A E → (A → Result B E) → Result B E
Ok x >>= f = f x
Err e >>= f = Err e

-- a rule that is broken at a key
abbrev pub at : {A : Type 0} → List ℕ → Result A PropRule → Result A PropFault
at key (Ok x) = Ok x
at key (Err rule) = Err (fault.Broken key rule)

-- a rule that is broken below a key: the path goes on after a dot
abbrev pub below : List ℕ → PropFault → PropFault
below key fault.Memory = fault.Memory
below key (fault.Broken path rule) = fault.Broken (key ++ (codes "." ++ path)) rule

abbrev pub inside : {A : Type 0} → List ℕ → Result A PropFault → Result A PropFault
inside key (Ok x) = Ok x
inside key (Err e) = Err (below key e)

-- each item of a list by its place, where the first has this place
abbrev pub each_from : {A B : Type 0} → (ℕ → A → Result B PropFault) → ℕ → List A → Result (List B) PropFault
each_from read place [] = Ok []
each_from read place (a ∷ rest) = read place a >>= (λ b. each_from read (place + 1) rest >>= (λ bs. Ok (b ∷ bs)))
