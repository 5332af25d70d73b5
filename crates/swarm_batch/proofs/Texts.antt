-- No bytes are no JSON.
use Rattle.std.proofs.Common.{refl, ◌≡◌, Bool, true, false, cond, Option, None, []}
use Rattle.std.specs.Str.{is_utf8}
use Rattle.json_fields.specs.Readings.{reading}
use Rattle.serde_json.proofs.OnLiterals.{serde_json_on_literals}

both_none : {A : Type 0} (b : Bool) → cond {A = Option A} b None None ≡ None
both_none true = refl
both_none false = refl

pub no_text : reading [] ≡ None
unfolding serde_json_on_literals
no_text = both_none (is_utf8 [])
