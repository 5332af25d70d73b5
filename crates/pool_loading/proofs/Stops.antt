-- A stop that is passed on is the same.
use Rattle.std.proofs.Common.{◌≡◌, Result, Ok, Err, IfErr, sym, ◌∙◌, subst}
use Rattle.std.specs.Result.{IsErrAnd}
use Rattle.pool_loading.specs.declared.loading.LoadStop.{LoadStop}

-- what holds of it holds behind
pub passed : {A : Type 0} (P : LoadStop → Type 0) (r : Result A LoadStop) (stop : LoadStop) → IsErrAnd r (λ e. e ≡ stop) → P stop → IfErr r P
passed P (Ok x) stop same h = tt
passed P (Err e) stop same h = subst P (sym same) h

pub stop_is : {A : Type 0} (r : Result A LoadStop) (stop other : LoadStop) → IsErrAnd r (λ e. e ≡ stop) → r ≡ Err other → stop ≡ other
stop_is (Ok x) stop other same is = absurd same
stop_is (Err e) stop other same is = let told : e ≡ other = cc in sym same ∙ told
