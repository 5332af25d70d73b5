-- What is found where nothing may be.
use Rattle.std.specs.Prelude.{◌≡◌, ◌≢◌, Option, Some, None, Result, Ok, Err}
use Rattle.std.specs.IoError.{error_kind}
use Rattle.std.specs.declared.io.Error.{Error}
use Rattle.std.specs.declared.io.ErrorKind.TheVariants.{NotFound}

-- an error that nothing is there is None, and every other answer is the same
abbrev pub Finds : {T : Type 0} → Result T Error → Result (Option T) Error → Type 0
Finds (Ok there) found = found ≡ Ok (Some there)
Finds (Err error) (Ok None) = error_kind error ≡ NotFound
Finds (Err error) (Err same) = (error_kind error ≢ NotFound) × (same ≡ error)
Finds (Err error) found = ⊥
