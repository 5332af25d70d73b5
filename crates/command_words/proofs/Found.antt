-- What a parse found, and what a refusal tells.
use Rattle.std.proofs.Common.{◌≡◌, ◌≢◌, [], Result, Ok, Err, IfOk, IfErr, subst, ⊎_elim}
use Rattle.clap.specs.Words.{Kinds, FailsBy, IsAmong}
use Rattle.clap.specs.Values.{kind_of}
use Rattle.clap.specs.declared.error.Error.{Error}
use Rattle.clap.specs.declared.error.kind.ErrorKind.TheVariants.{OutOfMemory}

pub taken_of : {T : Type 0} (r : Result T Error) (ks : Kinds) → FailsBy ks r → IfOk r (λ _. ks ≡ [])
taken_of (Ok x) ks h = h
taken_of (Err e) ks h = tt

pub refused_of : {T : Type 0} (r : Result T Error) (ks : Kinds) → FailsBy ks r → IfErr r (λ e. kind_of e ≢ OutOfMemory → ks ≢ [])
refused_of (Ok x) ks h = tt
refused_of (Err e) ks h = λ ne none. ⊎_elim (λ m. ne m) (λ (a : IsAmong (kind_of e) ks). subst (IsAmong (kind_of e)) none a) h
