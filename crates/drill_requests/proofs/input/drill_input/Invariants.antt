use Rattle.std.proofs.Common.{◌≡◌, take}
use Rattle.std.specs.List.{flat_map}
use Rattle.drill_requests.specs.Texts.{request_bytes}
use Rattle.drill_requests.proofs.input.drill_input.Given as goal

abbrev pub invariant-loop-request : goal.invariant-loop-request
invariant-loop-request l = l.bytes.items ≡ flat_map request_bytes (take l.request-index l.request-items)
