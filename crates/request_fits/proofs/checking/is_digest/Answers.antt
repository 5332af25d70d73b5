use Rattle.std.proofs.Common.{◌≡◌, true, sym, arith}
use Rattle.std.specs.List.{list_all}
use Rattle.std.proofs.Math.Bool.{and-true}
use Rattle.std.proofs.lemmas.Bool.{lt-ltb}
use Rattle.std.proofs.lemmas.List.Elements.{All-from_get_or}
use Rattle.std.proofs.lemmas.List.Sums.{list_all-from_AllPass}
use Rattle.task_props.specs.Digests.{is_byte}
use Rattle.request_fits.proofs.checking.is_digest.Goals as goal

pub returns : goal.returns
returns c =
    let bytes = c.args.bytes.now in
    let all : list_all is_byte bytes ≡ true =
    list_all-from_AllPass is_byte bytes (All-from_get_or (λ byte. is_byte byte ≡ true) bytes 0 (λ i within. lt-ltb _ 256 (omega (arith, c.type_inv.bytes i)))) in
    rw all (sym (and-true _))
