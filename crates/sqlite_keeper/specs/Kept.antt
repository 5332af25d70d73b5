-- What records keep, from one call to the next.
use Rattle.std.specs.Prelude.{◌≡◌, IsTrue, IsSomeAnd, Option}
use Rattle.swarm_keeper.specs.Tables.{Tables}
use Rattle.sqlite_keeper.specs.Files.{Holds, Knows, has_numbers_of}
use Rattle.sqlite_keeper.specs.declared.known.Known.{Known}
use Rattle.sqlite_keeper.specs.declared.known.Begun.{Begun}
use Rattle.sqlite_keeper.specs.declared.standing.Found.{Found}
use Rattle.sqlite_keeper.specs.declared.standing.Found.TheVariants.{AsKept, WithLine, Others}
use Rattle.sqlite_keeper.specs.declared.records.Records.{Records}

-- the file tells what stands in it, and these tables are what calls were answered to have kept
abbrev pub Keeps : {F : Type 0} → (F → Option Tables) → Records F → Tables → Type 0
Keeps stands r kept = IsSomeAnd (stands r.file) (λ s. Holds r.standing r.known r.begun s kept)

-- what is kept becomes what a call makes of it
abbrev pub Leads : {F : Type 0} → (F → Option Tables) → Records F → Records F → (Tables → Tables) → Type 0
Leads stands old new call = (t : Tables) → Keeps stands old t → Keeps stands new (call t)

-- what is kept stays
abbrev pub Stays : {F : Type 0} → (F → Option Tables) → Records F → Records F → Type 0
Stays stands old new = (t : Tables) → Keeps stands old t → Keeps stands new t

-- a call has looked at the file alone
pub record Looks {F : Type 0} (stands : F → Option Tables) (old new : Records F) : Type 0 where
  pub same : stands new.file ≡ stands old.file
  pub standing : new.standing ≡ old.standing
  pub known : new.known ≡ old.known
  pub begun : new.begun ≡ old.begun

-- what a file has is as much as this
abbrev pub IsJudged : Found → Known → Option Begun → Known → Type 0
IsJudged AsKept known begun found = IsTrue (has_numbers_of found known)
IsJudged WithLine known begun found = IsSomeAnd begun (λ b. IsTrue (has_numbers_of found b.known))
IsJudged Others known begun found = Unit {0}

-- and so is what stands in it
abbrev pub IsFound : Found → Known → Option Begun → Tables → Type 0
IsFound AsKept known begun stands = Knows known stands
IsFound WithLine known begun stands = IsSomeAnd begun (λ b. Knows b.known stands)
IsFound Others known begun stands = Unit {0}
