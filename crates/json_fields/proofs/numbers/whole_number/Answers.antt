use Rattle.std.proofs.Common.{◌≡◌, arith}
use Rattle.std.specs.Str.Parse.{digits_value}
use Rattle.json_fields.proofs.Numerals.{whole_parses, whole_small}
use Rattle.json_fields.proofs.numbers.whole_number.Goals as goal

pub returns-in-Err : goal.returns-in-Err
returns-in-Err c =
    let e = whole_parses c.args.text.now c.parse.result c.requires c.parse.ensures.value.0 in
    let is = c.in-Err.is in
    absurd cc

pub returns-in-Ok-clause-small : goal.returns-in-Ok-clause-small
returns-in-Ok-clause-small c =
    let small = whole_small c.args.text.now c.requires in
    let e = whole_parses c.args.text.now c.parse.result c.requires c.parse.ensures.value.0 in
    let is = c.in-Ok.is in
    let same : c.in-Ok.number ≡ digits_value 10 c.args.text.now = cc in
    omega (arith, small, same)
