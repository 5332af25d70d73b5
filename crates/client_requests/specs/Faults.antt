-- How a fault is told.
use Rattle.std.specs.Prelude.{ℕ, List, codes}
use Rattle.client_requests.specs.declared.address.AddressFault.{AddressFault}
use Rattle.client_requests.specs.declared.address.AddressFault.TheVariants.{Memory, Grammar}

abbrev pub fault_text : AddressFault → List ℕ
fault_text Memory = codes "want of memory"
fault_text Grammar = codes "not an http URL with a host"
