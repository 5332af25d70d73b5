-- What loads and saves of files answer, and what they do to the files.
use Rattle.std.specs.Prelude.{◌≡◌, ℕ, ◌<◌, ◌≤◌, List, [], ◌∷◌, length, Option, Some, None, option_map, Result, Ok, Err, IfOk, OnOk, OnErr, IfSome, IsSomeAnd, ◌≢◌, if◌then◌else◌, ⊤, Vec, String, string_bytes, vec_items, bytes_eq}
use Rattle.std.specs.declared.alloc.Global.{Global}
use Rattle.sw_base.specs.Faults.{Rose}
use Rattle.sw_base.specs.declared.file_fault.FileFault.{FileFault}
use Rattle.sw_base.specs.declared.file_fault.FileFault.TheVariants as fault

-- the bytes at each path, where the files are told, and how often a call failed
pub record FilesState : Type 0 where
  pub held : Option (List ℕ → Option (List ℕ))
  pub faults : ℕ

-- files as they are made: no call of them has failed
abbrev pub new_files : Option (List ℕ → Option (List ℕ)) → FilesState
new_files held = record { held = held; faults = 0 }

-- the bytes of the first file of a list that has this path
abbrev pub file_at : List (String Global × Vec ℕ Global) → List ℕ → Option (List ℕ)
file_at [] path = None
file_at (file ∷ files) path = if bytes_eq (string_bytes file.0) path then Some (vec_items file.1) else file_at files path

-- an Ok is what stands at the path, and TooLong comes only where that has more than `most` bytes
abbrev pub Finds : Option (List ℕ) → ℕ → Result (Option (Vec ℕ Global)) FileFault → Type 0
Finds there most (Ok found) = option_map vec_items found ≡ there
Finds there most (Err fault.Memory) = ⊤
Finds there most (Err fault.Failed) = ⊤
Finds there most (Err fault.TooLong) = IsSomeAnd there (λ bytes. most < length bytes)

-- the count of faults rose where the answer is Failed, and else is the same
abbrev pub CountsFailed : {T : Type 0} → Result T FileFault → ℕ → ℕ → Type 0
CountsFailed (Ok found) before now = now ≡ before
CountsFailed (Err fault.Memory) before now = now ≡ before
CountsFailed (Err fault.Failed) before now = Rose before now
CountsFailed (Err fault.TooLong) before now = now ≡ before

-- the files stay as they are, and where they are told, the answer is what stands at the path; an Ok has at most `most` bytes in any case
pub record Loads (before after : FilesState) (path : List ℕ) (most : ℕ) (result : Result (Option (Vec ℕ Global)) FileFault) : Type 0 where
  pub held : after.held ≡ before.held
  pub found : IfSome before.held (λ held. Finds (held path) most result)
  pub bound : IfOk result (λ found. IfSome found (λ bytes. length (vec_items bytes) ≤ most))
  pub faults : CountsFailed result before.faults after.faults
  pub never_falls : before.faults ≤ after.faults

-- the files with these bytes at a path, and what they had at every other
abbrev pub with_file : List ℕ → List ℕ → (List ℕ → Option (List ℕ)) → List ℕ → Option (List ℕ)
with_file path bytes held other = if bytes_eq path other then Some bytes else held other

-- at an Ok the files that are told have these bytes at the path and are else as before, and at an error they stay as they are; no file is too long to be saved
pub record Saves {T : Type 0} (before after : FilesState) (path bytes : List ℕ) (result : Result T FileFault) : Type 0 where
  pub saved : OnOk result (after.held ≡ option_map (with_file path bytes) before.held)
  pub kept : OnErr result (after.held ≡ before.held)
  pub not_too_long : result ≢ Err fault.TooLong
  pub faults : CountsFailed result before.faults after.faults
  pub never_falls : before.faults ≤ after.faults
